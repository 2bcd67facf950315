-- THE TWO EDITIONS: a run in edition 2 that is not refused with 14 or 15 is the run in edition 1, in its answer and in all
-- that it leaves. Assumes nothing.
use Rattle.std.specs.Prelude.{ℕ, ◌≡◌, ◌⊎◌, Bool, List, [], ◌∷◌, length}
use Rattle.std.proofs.Math.Path.{refl, ap}
use Rattle.std.proofs.Common.{sym, ◌∙◌}
use Rattle.std.proofs.Math.Logic.{inl, inr}
use Rattle.std.proofs.Math.Bool.{true, false}
use Rattle.std.proofs.Math.Option.{Option, some}
use Rattle.std.proofs.Math.Dec.{ltb}
use Rattle.lent.specs.declared.refusal.Refusal.{Refusal}
use Rattle.lent.specs.declared.refusal.Refusal.TheVariants.{RuleSet, ImageTooLong, LibraryTooLong, StretchPastEnd, TooFewRows, WrongSum, LeftOver, TooManyStretches, TooDeep, OtherEdition}
use Rattle.lent.specs.Choice.{when, leading}
use Rattle.lent.specs.Refusals.{refusal_number}
use Rattle.image.specs.View.{view}
use Rattle.image.specs.Cover.{too_many_stretches, passes_end}
use Rattle.omf51.specs.declared.Edition.TheVariants.{Two}
use Rattle.omf51.specs.Reader.{ReadOutcome}
use Rattle.omf51.specs.Module.{Module}
use Rattle.omf51.specs.File.{file_by, file, file_refusal, modules_in}
use Rattle.omf51.proofs.EditionLaws.{Stricter, same, wrong, over, file-stricter}
use Rattle.segments.specs.Refuse.{collect_refusal}
use Rattle.run.specs.declared.Settings.{Settings}
use Rattle.run.specs.Run.{Lent, Yield, Outcome, stages, counted, collect_over, search_over, list_over, too_deep, refusals, outcome_of, run_seen, run, number_of, cover}
use Rattle.run.specs.Editions.{in_edition}

module _ (image library : List ℕ) (s : Settings) (lent : Lent) where
  abbrev cells : List ℕ
  cells = view image (cover s)

  -- the refusals before reading, and then some others
  abbrev after : List (Option Refusal) → List (Option Refusal)
  after rest =
      when (ltb 1 s.rules) RuleSet ∷ when false OtherEdition ∷ when (too_deep s.depth) TooDeep ∷ when (ltb 65536 (length cells)) ImageTooLong ∷ when (ltb 1048576 (length library)) LibraryTooLong
      ∷ when (too_many_stretches s.withheld) TooManyStretches ∷ when (passes_end (length cells) (cover s)) StretchPastEnd ∷ rest

  -- a refusal of reading is given, or an earlier one, whatever follows
  record Earlier (rest others : List (Option Refusal)) : Type 0 where
    first : Refusal
    here : leading (after rest) ≡ some first
    there : leading (after others) ≡ some first

  given-or-earlier : (w : Refusal) (rest others : List (Option Refusal)) → (leading (after (some w ∷ rest)) ≡ some w) ⊎ Earlier (some w ∷ rest) others
  unfolding leading
  given-or-earlier w rest others =
      go (ltb 1 s.rules) (too_deep s.depth) (ltb 65536 (length cells)) (ltb 1048576 (length library)) (too_many_stretches s.withheld) (passes_end (length cells) (cover s)) refl refl refl refl refl refl
    where
      go : (a e b c f d : Bool) → ltb 1 s.rules ≡ a → too_deep s.depth ≡ e → ltb 65536 (length cells) ≡ b → ltb 1048576 (length library) ≡ c
          → too_many_stretches s.withheld ≡ f → passes_end (length cells) (cover s) ≡ d
          → (leading (after (some w ∷ rest)) ≡ some w) ⊎ Earlier (some w ∷ rest) others
      go true e b c f d p k q r m t = inr (record { first = RuleSet; here = rw p refl; there = rw p refl })
      go false true b c f d p k q r m t = inr (record { first = TooDeep; here = rw (p, k) refl; there = rw (p, k) refl })
      go false false true c f d p k q r m t = inr (record { first = ImageTooLong; here = rw (p, k, q) refl; there = rw (p, k, q) refl })
      go false false false true f d p k q r m t = inr (record { first = LibraryTooLong; here = rw (p, k, q, r) refl; there = rw (p, k, q, r) refl })
      go false false false false true d p k q r m t = inr (record { first = TooManyStretches; here = rw (p, k, q, r, m) refl; there = rw (p, k, q, r, m) refl })
      go false false false false false true p k q r m t = inr (record { first = StretchPastEnd; here = rw (p, k, q, r, m, t) refl; there = rw (p, k, q, r, m, t) refl })
      go false false false false false false p k q r m t = inl (rw (p, k, q, r, m, t) refl)

  -- the run on a library that was read so, in the edition n
  abbrev yield_in : ℕ → Yield
  yield_in n = stages cells library (in_edition n s)

  abbrev later : ℕ → ReadOutcome (List Module) → List (Option Refusal)
  later n o =
      when (collect_over lent (counted (yield_in n))) TooFewRows ∷ collect_refusal (modules_in o) ∷ when (search_over lent (counted (yield_in n))) TooFewRows
      ∷ when (list_over lent (counted (yield_in n))) TooFewRows ∷ []

  -- A RUN IN EDITION 2 that is not refused with 14 or 15
  abbrev in_two : Outcome
  in_two = run image library (in_edition 2 s) lent

  refused-by : (w : Refusal) → file_refusal (file_by Two library) ≡ some w → (number_of in_two.answer ≡ refusal_number w → ⊥) → in_two ≡ run image library (in_edition 1 s) lent
  unfolding run run_seen refusals
  refused-by w q n = go (given-or-earlier w (later 2 (file_by Two library)) (file_refusal (file library) ∷ later 1 (file library)))
    where
      read-so : leading (after (file_refusal (file_by Two library) ∷ later 2 (file_by Two library))) ≡ leading (after (some w ∷ later 2 (file_by Two library)))
      read-so = ap (λ o. leading (after (o ∷ later 2 (file_by Two library)))) q

      go : (leading (after (some w ∷ later 2 (file_by Two library))) ≡ some w)
          ⊎ Earlier (some w ∷ later 2 (file_by Two library)) (file_refusal (file library) ∷ later 1 (file library))
          → in_two ≡ run image library (in_edition 1 s) lent
      go (inl e) = absurd (n (ap (λ o. number_of (outcome_of library o (yield_in 2) lent).answer) (read-so ∙ e)))
      go (inr e) =
          ap (λ o. outcome_of library o (yield_in 2) lent) (read-so ∙ e.here) ∙ sym (ap (λ o. outcome_of library o (yield_in 1) lent) e.there)

  pub edition-alone : (number_of (run image library (in_edition 2 s) lent).answer ≡ 14 → ⊥) → (number_of (run image library (in_edition 2 s) lent).answer ≡ 15 → ⊥)
      → run image library (in_edition 2 s) lent ≡ run image library (in_edition 1 s) lent
  unfolding run run_seen refusals stages
  edition-alone sum left = go (file-stricter library)
    where
      go : Stricter (file_by Two library) (file library) → run image library (in_edition 2 s) lent ≡ run image library (in_edition 1 s) lent
      go (same e) = rw e refl
      go (wrong e) = refused-by WrongSum (ap file_refusal e) sum
      go (over e) = refused-by LeftOver (ap file_refusal e) left
