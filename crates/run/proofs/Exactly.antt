-- Demand 1 for a single image: each refusal of its run exactly in its case. Assumes nothing.
use Rattle.std.specs.Prelude.{ℕ, ◌≡◌, refl, ◌↔◌, Bool, true, false, ◌||◌, List, eqb, ltb, length}
use Rattle.std.proofs.Common.{sym, arith}
use Rattle.std.proofs.Math.Path.{subst}
use Rattle.std.proofs.Math.Option.{some}
use Rattle.lent.specs.declared.refusal.Refusal.{Refusal}
use Rattle.lent.specs.declared.refusal.Refusal.TheVariants.{ImageTooLong, NotBanked}
use Rattle.lent.specs.Choice.{when}
use Rattle.lent.specs.FirstOf.{none≢some}
use Rattle.lent.specs.Refusals.{refusal_number}
use Rattle.lent.specs.RefusalLaws.{same_number}
use Rattle.image.specs.View.{view}
use Rattle.image.proofs.ViewLaws.{view-length}
use Rattle.run.specs.declared.Settings.{Settings}
use Rattle.run.specs.Run.{Lent, Yield, stages, counted, too_long, run_by, run_seen, run, number_of, cover}
use Rattle.run.specs.Given.{single, Given, NothingRefused}
use Rattle.run.proofs.StageLaws.{less, not-less, Worded}
use Rattle.run.proofs.Refused.{given_by, done-by}

-- a single image has 2 for its own refusal
single-words : (size : ℕ) → Worded (single size) (too_long size)
single-words size = record {
  long = less 65536 size ImageTooLong;
  unbanked = ((λ e. never (ltb 65536 size) e), λ e. absurd e);
  fine = not-less 65536 size ImageTooLong;
  told = λ r e. two (ltb 65536 size) r e;
}
  where
    two : (t : Bool) (r : Refusal) → when t ImageTooLong ≡ some r → (eqb 2 (refusal_number r) || eqb 18 (refusal_number r)) ≡ true
    two true r e = rw (← same_number e) refl
    two false r e = absurd (none≢some e)

    never : (t : Bool) → when t ImageTooLong ≡ some NotBanked → ⊥
    never true e = let n = same_number e in omega (arith, n)
    never false e = none≢some e

module _ (image library : List ℕ) (s : Settings) (lent : Lent) where
  abbrev seen : Yield
  seen = stages (view image (cover s)) library s

  pub given-exactly : (r : Refusal) → (number_of (run image library s lent).answer ≡ refusal_number r) ↔ Given image library s lent r
  unfolding run run_seen
  given-exactly r =
      subst (λ n. (number_of (run_by (too_long n) n library s lent (counted seen) seen).answer ≡ refusal_number r) ↔ Given image library s lent r) (sym (view-length image (cover s)))
      (given_by (single (length image)) (too_long (length image)) (single-words (length image)) library s lent (counted seen) seen r)

  pub done-exactly : (number_of (run image library s lent).answer ≡ 0) ↔ NothingRefused image library s lent
  unfolding run run_seen
  done-exactly =
      subst (λ n. (number_of (run_by (too_long n) n library s lent (counted seen) seen).answer ≡ 0) ↔ NothingRefused image library s lent) (sym (view-length image (cover s)))
      (done-by (single (length image)) (too_long (length image)) (single-words (length image)) library s lent (counted seen) seen)
