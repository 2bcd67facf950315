use Rattle.std.proofs.Common.{◌≡◌, ◌+◌, ◌-◌, ◌*◌, ◌<◌, ◌≤◌, length, sym, ap, ◌∙◌, arith, length-drop}
use Rattle.lent.specs.RowLaws.{row_fits}
use Rattle.tables.specs.by_name.TagLaws.{pass-first, stop-first, stop-here, pass_on, stop-end}
use Rattle.tables.proofs.by_name.pass.Goals as goal
use Rattle.tables.proofs.by_name.pass.Goals.{At-loop-width}

wide : (c : At-loop-width) → 3 ≤ c.args.width
wide c =
    c.requires.0.wide (omega (arith, c.loop-width.invariant.near))

whole : (c : At-loop-width) → let a = c.args in c.loop-width.i * a.width + a.width ≤ length a.m.now
whole c =
    let a = c.args in row_fits (length a.m.now) a.width c.loop-width.i (omega (arith, wide c)) (omega (arith, c.loop-width.invariant.near, c.requires.0.whole))

linked : (c : At-loop-width) → let a = c.args in c.loop-width.i * a.width < length a.links.now
linked c =
    let a = c.args in omega (arith, whole c, wide c, ap length c.requires.1 ∙ length-drop (a.width - 1) a.m.now)

pub returns-then-link-eq0 : goal.returns-then-link-eq0
returns-then-link-eq0 c =
    let a = c.args in
    stop-first a.width a.m.now a.key a.wanted a.link c.if-link-eq0.true

pub loop-width-init : goal.loop-width-init
loop-width-init c =
    let a = c.args in
    let first : a.link - 1 + 1 ≡ a.link = omega (arith, c.if-link-eq0.false) in
    rw first (pass-first a.width a.m.now a.key a.wanted a.link)

pub overflow_mul-at : goal.overflow_mul-at
overflow_mul-at c =
    omega (arith, whole c, c.well_formed)

pub may_be-requires : goal.may_be-requires
may_be-requires c =
    omega (arith, whole c, wide c)

pub overflow_add-result : goal.overflow_add-result
overflow_add-result c =
    omega (arith, c.loop-width.invariant.near, c.ranges.link)

pub returns-then-may_be : goal.returns-then-may_be
returns-then-may_be c =
    let a = c.args in
    stop-here a.width a.m.now a.key a.wanted a.link c.requires.1 c.loop-width.i c.loop-width.invariant (sym c.may_be.ensures ∙ c.if-may_be.true)

pub offset_bounds-links-at : goal.offset_bounds-links-at
offset_bounds-links-at c =
    omega (arith, linked (goal.at.offset_bounds-links-at c).At-loop-width, c.well_formed)

pub bounds-links-at : goal.bounds-links-at
bounds-links-at c =
    omega (arith, linked (goal.at.bounds-links-at c).At-loop-width)

pub returns-then-i-before : goal.returns-then-i-before
returns-then-i-before c =
    let a = c.args in
    stop-end a.width a.m.now a.key a.wanted a.link c.requires.1 c.loop-width.i c.loop-width.invariant (wide (goal.at.returns-then-i-before c).At-loop-width) (whole (goal.at.returns-then-i-before c).At-loop-width)
    (sym c.may_be.ensures ∙ c.if-may_be.false)
    (λ less. omega (arith, less, c.wrapping_sub_usize-before.ensures.value, c.if-i-before.true, c.wrapping_sub_usize-before.type_inv))

pub loop-width-smaller : goal.loop-width-smaller
loop-width-smaller c =
    omega (arith, c.if-i-before.false)

pub loop-width-preserved : goal.loop-width-preserved
loop-width-preserved c =
    let a = c.args in
    pass_on a.width a.m.now a.key a.wanted a.link c.requires.1 c.loop-width.i c.loop-width.invariant (wide (goal.at.loop-width-preserved c).At-loop-width) (whole (goal.at.loop-width-preserved c).At-loop-width)
    (sym c.may_be.ensures ∙ c.if-may_be.false)
    (c.wrapping_sub_usize-before.result + 1)
    (omega (arith, c.wrapping_sub_usize-before.ensures.value, c.if-i-before.false, c.loop-width.invariant.near, c.ranges.link))
    (omega (arith, c.if-i-before.false))
