use Rattle.std.proofs.Common.{◌≡◌, ◌<◌, take, sym, ap, ◌∙◌, arith, length-take, get_or-take}
use Rattle.tables.specs.links.Things.{thing_key, keys_of}
use Rattle.tables.specs.links.ThingLaws.{keys-long, key-is, key-small}
use Rattle.tables.specs.links.Index.{key_at}
use Rattle.tables.specs.links.IndexLaws.{clear-turn, all-cleared}
use Rattle.tables.proofs.links.unlink.Goals as goal
use Rattle.tables.proofs.links.unlink.Goals.{After-key_in}

within : (c : After-key_in) → c.loop-thing.thing-index < c.args.n
within c =
    omega (arith, length-take c.args.n c.args.things.now)

same : (c : After-key_in) → key_at (take c.args.n (keys_of c.args.things.now)) c.loop-thing.thing-index ≡ c.key_in.result
same c =
    let a = c.args in
    let i = c.loop-thing.thing-index in
    get_or-take a.n (keys_of a.things.now) i 0 (within c)
    ∙ key-is a.things.now i
    ∙ ap thing_key (sym (get_or-take a.n a.things.now i 0 (within c)))
    ∙ sym c.key_in.ensures

small : (c : After-key_in) → c.key_in.result < 65536
small c =
    let a = c.args in
    let i = c.loop-thing.thing-index in
    omega (arith, same c, get_or-take a.n (keys_of a.things.now) i 0 (within c), key-small a.things.now i)

pub offset_bounds-first-key_in : goal.offset_bounds-first-key_in
offset_bounds-first-key_in c =
    omega (arith, small (goal.at.offset_bounds-first-key_in c).After-key_in)

pub bounds-first-key_in : goal.bounds-first-key_in
bounds-first-key_in c =
    omega (arith, small (goal.at.bounds-first-key_in c).After-key_in, c.requires.1, c.loop-thing.invariant.long)

pub loop-thing-preserved : goal.loop-thing-preserved
loop-thing-preserved c =
    let l = c.loop-thing in
    rw (← same (goal.at.loop-thing-preserved c).After-key_in)
    (clear-turn (take c.args.n (keys_of c.args.things.now)) c.args.first.now l.first l.thing-index
    (omega (arith, same (goal.at.loop-thing-preserved c).After-key_in, small (goal.at.loop-thing-preserved c).After-key_in, c.requires.1, l.invariant.long)) l.invariant)

pub returns : goal.returns
returns c =
    let l = c.loop-thing in
    let keys = take c.args.n (keys_of c.args.things.now) in
    let many = length-take c.args.n (keys_of c.args.things.now) in
    all-cleared keys c.args.first.now l.first l.thing-index (omega (arith, many, keys-long c.args.things.now, length-take c.args.n c.args.things.now)) l.invariant
