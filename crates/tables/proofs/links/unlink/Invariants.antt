-- `unlink` goes over the things. The invariant: the heads of the keys before this place are 0, the others as they were. Assumes nothing.
use Rattle.std.proofs.Common.{take}
use Rattle.tables.specs.links.Things.{keys_of}
use Rattle.tables.specs.links.Index.{ClearedTo}
use Rattle.tables.proofs.links.unlink.Given as goal

abbrev pub invariant-loop-thing : goal.invariant-loop-thing
invariant-loop-thing l =
    ClearedTo (take l.n (keys_of l.things)) l.thing-index l.initial.first l.first
