-- 9 for what is found: when it is given, in words, and that it sets all to zero. Assumes nothing.
use Rattle.std.specs.Prelude.{◌≡◌, ◌⊎◌, Bool, [], ◌∷◌}
use Rattle.std.proofs.Math.Path.{refl}
use Rattle.std.proofs.Common.{sym, inl, inr}
use Rattle.std.proofs.Math.Bool.{true, false}
use Rattle.std.proofs.Math.Option.{none, some}
use Rattle.lent.specs.declared.refusal.Refusal.{Refusal}
use Rattle.lent.specs.declared.refusal.Refusal.TheVariants.{TooFewRows}
use Rattle.lent.specs.Choice.{when, leading}
use Rattle.lent.specs.FirstOf.{none≢some}
use Rattle.lent.specs.Refusals.{zeroes}
use Rattle.lent.specs.RefusalLaws.{number-tells, same_number}
use Rattle.listing_rules.specs.Listing.{line_width}
use Rattle.run.specs.declared.Counts.{Counts}
use Rattle.run.specs.Run.{Lent, search_over, list_over}
use Rattle.run.specs.Given.{SearchOver, ListOver}
use Rattle.run.proofs.StageLaws.{over, not-over, search-over}
use Rattle.libfind.specs.Ends.{finding_by}

module _ (lent : Lent) (c : Counts) where
  -- what it comes to, by the two tests
  pub record Nine (r : Refusal) : Type 0 where
    pub is : r ≡ TooFewRows
    pub case : SearchOver lent c ⊎ ListOver lent c

  pub finding-nine : {r : Refusal} → finding_by lent c ≡ some r → Nine r
  unfolding finding_by leading
  finding-nine {r} q = go (search_over lent c) (list_over lent c) refl refl q
    where
      nine : some TooFewRows ≡ some r → r ≡ TooFewRows
      nine p = number-tells r TooFewRows (sym (same_number p))

      go : (t u : Bool) → search_over lent c ≡ t → list_over lent c ≡ u → leading (when t TooFewRows ∷ when u TooFewRows ∷ []) ≡ some r → Nine r
      go true u e f p = record { is = nine p; case = inl ((search-over lent c).0 e) }
      go false true e f p = record { is = nine p; case = inr ((over line_width lent.lines c.lines).0 f) }
      go false false e f p = absurd (none≢some p)

  pub nine-finding : SearchOver lent c ⊎ ListOver lent c → finding_by lent c ≡ some TooFewRows
  unfolding finding_by leading
  nine-finding (inl h) = rw ((search-over lent c).1 h) refl
  nine-finding (inr h) = rw ((over line_width lent.lines c.lines).1 h) (either (search_over lent c))
    where
      either : (t : Bool) → leading (when t TooFewRows ∷ when true TooFewRows ∷ []) ≡ some TooFewRows
      either true = refl
      either false = refl

  pub finding-none : finding_by lent c ≡ none → (SearchOver lent c → ⊥) × (ListOver lent c → ⊥)
  unfolding finding_by leading
  finding-none q = go (search_over lent c) (list_over lent c) refl refl q
    where
      go : (t u : Bool) → search_over lent c ≡ t → list_over lent c ≡ u → leading (when t TooFewRows ∷ when u TooFewRows ∷ []) ≡ none
          → (SearchOver lent c → ⊥) × (ListOver lent c → ⊥)
      go true u e f p = absurd (none≢some (sym p))
      go false true e f p = absurd (none≢some (sym p))
      go false false e f p = ((not-over (search_over lent c) (search-over lent c)).0 e, (not-over (list_over lent c) (over line_width lent.lines c.lines)).0 f)

  pub none-finding : (SearchOver lent c → ⊥) → (ListOver lent c → ⊥) → finding_by lent c ≡ none
  unfolding finding_by leading
  none-finding h k = rw ((not-over (search_over lent c) (search-over lent c)).1 h, (not-over (list_over lent c) (over line_width lent.lines c.lines)).1 k) refl

  -- it sets all to zero
  pub finding-late : {r : Refusal} → finding_by lent c ≡ some r → zeroes r ≡ true
  finding-late {r} q = rw (finding-nine q).is refl
