-- `next_place` by the case of the cursor. Assumes nothing.
use Rattle.image.specs.View.{stretches_in}
use Rattle.std.proofs.Common.{◌+◌, sym, ◌∙◌, subst, arith}
use Rattle.std.specs.Prelude.{Option, None}
use Rattle.search.specs.declared.matches.Next.{Next}
use Rattle.search.specs.declared.matches.MatchCursor.{MatchCursor}
use Rattle.search.specs.declared.matches.MatchCursor.TheVariants.{Plain}
use Rattle.search.specs.matches.Cursor.{Sound, Reached, Stepped}
use Rattle.search.specs.matches.StepLaws.{plain_at, plain_done, reached-fits}
use Rattle.search.proofs.matches.next_place.Goals as goal

pub step_along-requires : goal.step_along-requires
step_along-requires c =
    let a = c.args in
    record { nexts = c.requires.nexts; sound = subst (Sound a.view.image.now a.bytes.now a.masks.now) c.in-Along.is c.requires.sound }

pub returns-in-Along : goal.returns-in-Along
returns-in-Along c =
    let a = c.args in
    subst (λ (x : MatchCursor). Stepped a.view.image.now (stretches_in a.view.s.now) a.bytes.now a.masks.now x c.step_along.result)
    (sym c.in-Along.is) c.step_along.ensures

pub overflow_add-result : goal.overflow_add-result
overflow_add-result c =
    let a = c.args in
    let k = c.in_ok-at-in-Plain in
    omega (
      arith,
      reached-fits a.view.image.now (stretches_in a.view.s.now) a.bytes.now a.masks.now (Plain c.in-Plain.from)
          (plain_at a.view.image.now (stretches_in a.view.s.now) a.bytes.now a.masks.now c.in-Plain.from k.at (sym c.next_match.ensures ∙ k.was)),
      c.well_formed,
    )

pub returns-in_ok-at-in-Plain : goal.returns-in_ok-at-in-Plain
returns-in_ok-at-in-Plain c =
    let a = c.args in
    let k = c.in_ok-at-in-Plain in
    subst (λ (x : MatchCursor). Reached a.view.image.now (stretches_in a.view.s.now) a.bytes.now a.masks.now x k.at (Plain (k.at + 1)))
    (sym c.in-Plain.is) (plain_at a.view.image.now (stretches_in a.view.s.now) a.bytes.now a.masks.now c.in-Plain.from k.at (sym c.next_match.ensures ∙ k.was))

pub returns-in_err-at-in-Plain : goal.returns-in_err-at-in-Plain
returns-in_err-at-in-Plain c =
    let a = c.args in
    subst (λ (r : Option Next). Stepped a.view.image.now (stretches_in a.view.s.now) a.bytes.now a.masks.now a.c r) (sym c.from_residual.ensures)
    (subst (λ (x : MatchCursor). Stepped a.view.image.now (stretches_in a.view.s.now) a.bytes.now a.masks.now x None) (sym c.in-Plain.is)
    (plain_done a.view.image.now (stretches_in a.view.s.now) a.bytes.now a.masks.now c.in-Plain.from (sym c.next_match.ensures ∙ c.in_err-at-in-Plain.was)))

pub returns-in-Once : goal.returns-in-Once
returns-in-Once c =
    let a = c.args in
    subst (λ (x : MatchCursor). Stepped a.view.image.now (stretches_in a.view.s.now) a.bytes.now a.masks.now x c.step_once.result)
    (sym c.in-Once.is) c.step_once.ensures
