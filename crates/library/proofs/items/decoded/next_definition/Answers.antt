-- `next_definition`: the next entry, and what it says. Assumes nothing.
use Rattle.std.proofs.Common.{sym}
use native.Mathlib.Omega.{arith}
use Rattle.omf51.specs.declared.entry.Entries.TheVariants.{Definitions}
use Rattle.library.specs.items.ItemLaws.{step-whole, definition-room}
use Rattle.library.proofs.items.decoded.next_definition.Goals as goal

pub definition_of-requires : goal.definition_of-requires
definition_of-requires c =
    let a = c.args in
    let h = c.in_ok-entry.entry.here in
    let w = step-whole Definitions a.library.now a.from (sym c.in_ok-entry.ensures) in
    omega (arith, w.inside, definition-room a.library.now h.frame h.at w.ends)
