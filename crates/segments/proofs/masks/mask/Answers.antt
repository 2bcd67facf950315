-- `mask` by block and kind. Assumes nothing.
use Prim.Native.Nat.{◌+◌}
use mathlib.Core.Path.{ap, ◌∙◌}
use lib.ListN.{set}
use Rattle.segments.proofs.MaskLaws.{mask-ignored, mask_word, mask-inblock, mask-other}
use Rattle.segments.proofs.masks.mask.Goals as goal

pub returns-then-f-eq3 : goal.returns-then-f-eq3
returns-then-f-eq3 c =
    let a = c.args in mask-ignored a.masks.now a.f c.if-f-eq3.true

pub returns-then-f-eq4 : goal.returns-then-f-eq4
returns-then-f-eq4 c =
    let a = c.args in
    c.clear_after.ensures ∙ ap (λ m. set m (a.f.location + 1) 0) c.put.ensures
    ∙ mask_word a.masks.now a.f c.if-f-eq3.false c.if-f-eq4.true

pub returns-then-f-eq5 : goal.returns-then-f-eq5
returns-then-f-eq5 c =
    let a = c.args in
    c.clear_after-then-f-eq5.ensures ∙ ap (λ m. set m (a.f.location + 1) 0) c.put-then-f-eq5.ensures
    ∙ mask-inblock a.masks.now a.f c.if-f-eq3.false c.if-f-eq5.true

pub returns : goal.returns
returns c =
    let a = c.args in
    c.put-2.ensures ∙ mask-other a.masks.now a.f
    c.if-f-eq3.false c.if-f-eq4.false c.if-f-eq5.false
