use Rattle.std.proofs.Common.{◌≡◌, ◌+◌, ◌-◌, ◌*◌, ◌<◌, ◌≤◌, ◌&&◌, eqb, length, get_or, take, drop, sym, refl, ap, ◌∙◌, arith, length-drop, take_all, eq-eqb}
use Rattle.lent.specs.declared.part.Part.{Part}
use Rattle.lent.specs.Parts.{bytes_of, same}
use Rattle.lent.specs.RowLaws.{row_fits}
use Rattle.tables.specs.by_name.Tables.{followed}
use Rattle.tables.specs.by_name.Tags.{named_at}
use Rattle.tables.specs.by_name.FollowLaws.{follow-none}
use Rattle.tables.specs.by_name.TagLaws.{tag-there, tag-hit, tag-on, tag-end}
use Rattle.tables.proofs.by_name.find_whole.Goals as goal
use Rattle.tables.proofs.by_name.find_whole.Goals.{After-name-bytes, At-loop-bytes, Else-there-eq0}

wide : (c : After-name-bytes) → 3 ≤ c.args.width
wide c =
    c.requires.1.wide c.requires.0

roomy : (c : After-name-bytes) → c.args.width ≤ length c.args.m.now
roomy c =
    omega (arith, row_fits (length c.args.m.now) c.args.width 0 (omega (arith, wide c)) (omega (arith, c.requires.0, c.requires.1.whole)))

links-are : (c : At-loop-bytes) → let a = c.args in take (length a.m.now - (a.width - 1)) (drop (a.width - 1) a.m.now) ≡ drop (a.width - 1) a.m.now
links-are c =
    let a = c.args in take_all (length a.m.now - (a.width - 1)) (drop (a.width - 1) a.m.now) (omega (arith, length-drop (a.width - 1) a.m.now))

whole : (c : Else-there-eq0) → let a = c.args in (c.pass-there.result - 1) * a.width + a.width ≤ length a.m.now
whole c =
    let wide : 3 ≤ c.args.width = c.requires.1.wide c.requires.0 in let a = c.args in row_fits (length a.m.now) a.width (c.pass-there.result - 1)
    (omega (arith, wide)) (omega (arith, c.if-there-eq0.false, c.pass-there.ensures.passed.near, c.loop-bytes.invariant.0, c.requires.1.whole))

pub overflow_sub-last : goal.overflow_sub-last
overflow_sub-last c =
    omega (arith, wide c)

pub offset_bounds-m-last : goal.offset_bounds-m-last
offset_bounds-m-last c =
    omega (arith, roomy c, c.well_formed)

pub slice_bounds-links-count : goal.slice_bounds-links-count
slice_bounds-links-count c =
    omega (arith, roomy c)

pub slice_bounds-links-start : goal.slice_bounds-links-start
slice_bounds-links-start c =
    omega (arith, roomy c)

pub loop-bytes-init : goal.loop-bytes-init
loop-bytes-init c =
    (omega arith, λ name e. refl)

pub pass-there-requires : goal.pass-there-requires
pass-there-requires c =
    (record { whole = omega (arith, c.loop-bytes.invariant.0, c.requires.1.whole); wide = λ some. (wide (goal.at.pass-there-requires c).After-name-bytes) }, links-are c)

pub returns-then-there-eq0 : goal.returns-then-there-eq0
returns-then-there-eq0 c =
    let passed : let a = c.args in (name : Part) → c.name-bytes.result.now ≡ bytes_of a.library.now name → followed a.library.now a.width a.m.now
    a.key name c.pass-there.result ≡ followed a.library.now a.width a.m.now a.key name a.link = λ name e. sym
    (c.pass-there.ensures.passed.right c.args.library.now name (ap length (sym e))) ∙ c.loop-bytes.invariant.1 name e in
    let a = c.args in
    let r = c.pass-there.result in
    sym (follow-none a.library.now a.width a.m.now a.key a.name r r c.if-there-eq0.true)
    ∙ passed a.name c.name-bytes.ensures

pub overflow_sub-at : goal.overflow_sub-at
overflow_sub-at c =
    omega (arith, c.if-there-eq0.false)

pub name_at-requires : goal.name_at-requires
name_at-requires c =
    omega (arith, whole c, wide (goal.at.name_at-requires c).After-name-bytes)

pub returns-then-same : goal.returns-then-same
returns-then-same c =
    let passed : let a = c.args in (name : Part) → c.name-bytes.result.now ≡ bytes_of a.library.now name → followed a.library.now a.width a.m.now
    a.key name c.pass-there.result ≡ followed a.library.now a.width a.m.now a.key name a.link = λ name e. sym
    (c.pass-there.ensures.passed.right c.args.library.now name (ap length (sym e))) ∙ c.loop-bytes.invariant.1 name e in
    let said : let a = c.args in let at = (c.pass-there.result - 1) * a.width in c.same.result ≡
    (eqb (get_or a.m.now at 0) a.key && same (bytes_of a.library.now (named_at a.m.now at)) c.name-bytes.result.now) = let a = c.args in
    rw (eq-eqb (get_or a.m.now ((c.pass-there.result - 1) * a.width) 0) a.key (c.pass-there.ensures.keyed c.if-there-eq0.false))
    (c.same.ensures
    ∙ ap (λ xs. same xs c.name-bytes.result.now)
    (c.name.ensures ∙ ap (bytes_of a.library.now) c.name_at.ensures)) in
    let a = c.args in
    let r = c.pass-there.result in
    let b = c.name-bytes.ensures in
    sym (tag-hit a.library.now a.width a.m.now a.key a.name r c.if-there-eq0.false
    (tag-there a.width a.m.now (r - 1) (links-are (goal.at.returns-then-same c).At-loop-bytes) (wide (goal.at.returns-then-same c).After-name-bytes)
    (whole (goal.at.returns-then-same c).Else-there-eq0)) b (said) c.if-same.true)
    ∙ passed a.name b

pub bounds-links-at : goal.bounds-links-at
bounds-links-at c =
    let linked : let a = c.args in (c.pass-there.result - 1) * a.width < length (take (length a.m.now - (a.width - 1)) (drop (a.width - 1) a.m.now)) = let a = c.args in
    omega (
      arith,
      whole (goal.at.bounds-links-at c).Else-there-eq0,
      wide (goal.at.bounds-links-at c).After-name-bytes,
      ap length
          (links-are (goal.at.bounds-links-at c).At-loop-bytes) ∙ length-drop (a.width - 1) a.m.now,
    ) in
    omega (arith, linked)

pub returns-then-there-next : goal.returns-then-there-next
returns-then-there-next c =
    let passed : let a = c.args in (name : Part) → c.name-bytes.result.now ≡ bytes_of a.library.now name → followed a.library.now a.width a.m.now
    a.key name c.pass-there.result ≡ followed a.library.now a.width a.m.now a.key name a.link = λ name e. sym
    (c.pass-there.ensures.passed.right c.args.library.now name (ap length (sym e))) ∙ c.loop-bytes.invariant.1 name e in
    let said : let a = c.args in let at = (c.pass-there.result - 1) * a.width in c.same.result ≡
    (eqb (get_or a.m.now at 0) a.key && same (bytes_of a.library.now (named_at a.m.now at)) c.name-bytes.result.now) = let a = c.args in
    rw (eq-eqb (get_or a.m.now ((c.pass-there.result - 1) * a.width) 0) a.key (c.pass-there.ensures.keyed c.if-there-eq0.false))
    (c.same.ensures
    ∙ ap (λ xs. same xs c.name-bytes.result.now)
    (c.name.ensures ∙ ap (bytes_of a.library.now) c.name_at.ensures)) in
    let a = c.args in
    let r = c.pass-there.result in
    let b = c.name-bytes.ensures in
    sym (tag-end a.library.now a.width a.m.now a.key a.name r c.if-there-eq0.false
    (tag-there a.width a.m.now (r - 1) (links-are (goal.at.returns-then-there-next c).At-loop-bytes)
    (wide (goal.at.returns-then-there-next c).After-name-bytes) (whole (goal.at.returns-then-there-next c).Else-there-eq0)) b (said) c.if-same.false
    (omega (arith, c.if-there-next.true)))
    ∙ passed a.name b

pub loop-bytes-smaller : goal.loop-bytes-smaller
loop-bytes-smaller c =
    omega (arith, c.if-there-next.false, c.pass-there.ensures.passed.near)

pub loop-bytes-preserved : goal.loop-bytes-preserved
loop-bytes-preserved c =
    let passed : let a = c.args in (name : Part) → c.name-bytes.result.now ≡ bytes_of a.library.now name → followed a.library.now a.width a.m.now
    a.key name c.pass-there.result ≡ followed a.library.now a.width a.m.now a.key name a.link = λ name e. sym
    (c.pass-there.ensures.passed.right c.args.library.now name (ap length (sym e))) ∙ c.loop-bytes.invariant.1 name e in
    let said : let a = c.args in let at = (c.pass-there.result - 1) * a.width in c.same.result ≡
    (eqb (get_or a.m.now at 0) a.key && same (bytes_of a.library.now (named_at a.m.now at)) c.name-bytes.result.now) = let a = c.args in
    rw (eq-eqb (get_or a.m.now ((c.pass-there.result - 1) * a.width) 0) a.key (c.pass-there.ensures.keyed c.if-there-eq0.false))
    (c.same.ensures
    ∙ ap (λ xs. same xs c.name-bytes.result.now)
    (c.name.ensures ∙ ap (bytes_of a.library.now) c.name_at.ensures)) in
    let a = c.args in
    let r = c.pass-there.result in (
      omega (arith, c.if-there-next.false, c.pass-there.ensures.passed.near, c.loop-bytes.invariant.0),
      λ name e.
          sym (tag-on a.library.now a.width a.m.now a.key name r c.if-there-eq0.false
          (tag-there a.width a.m.now (r - 1) (links-are (goal.at.loop-bytes-preserved c).At-loop-bytes)
          (wide (goal.at.loop-bytes-preserved c).After-name-bytes) (whole (goal.at.loop-bytes-preserved c).Else-there-eq0)) e (said) c.if-same.false c.if-there-next.false)
          ∙ passed name e,
    )
