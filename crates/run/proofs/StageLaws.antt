-- The refusals that each stage of a run can give, and when it gives them, in words. Assumes nothing.
use Rattle.std.specs.Prelude.{ℕ, ◌*◌, ◌≤◌, ◌<◌, ◌≡◌, refl, ◌⊎◌, ◌↔◌, Bool, true, false, ◌&&◌, ◌||◌, List, eqb, leb, ltb, length}
use Rattle.std.proofs.Common.{sym, inl, inr, arith, eq-eqb, le-leb, ltb-true, ltb-false, lt-ltb, le-ltb}
use Rattle.std.proofs.Math.Logic.Iff
use Rattle.std.proofs.Math.Bool.{or-true}
use Rattle.std.proofs.lemmas.Bool.{false≢true}
use Rattle.std.proofs.Math.Option.{Option, none, some}
use Rattle.lent.specs.declared.refusal.Refusal.{Refusal}
use Rattle.lent.specs.declared.refusal.Refusal.TheVariants.{RuleSet, ImageTooLong, LibraryTooLong, StretchPastEnd, NoModule, BodyPastEnd, LengthZero, NamesDiffer, TooFewRows, UnknownKind}
use Rattle.lent.specs.declared.refusal.Refusal.TheVariants.{UnknownBlock, ContentPastSegment, NoKeptSegment, WrongSum, LeftOver, TooManyStretches, TooDeep, NotBanked, OtherEdition}
use Rattle.lent.specs.Choice.{when}
use Rattle.lent.specs.ChoiceLaws.{either}
use Rattle.lent.specs.FirstOf.{none≢some}
use Rattle.lent.specs.Refusals.{refusal_number}
use Rattle.lent.specs.RefusalLaws.{same_number}
use Rattle.lent.specs.Rows.{too_many}
use Rattle.image.specs.Cover.{too_many_stretches}
use Rattle.omf51.specs.declared.Edition.{Edition}
use Rattle.omf51.specs.Module.{Module}
use Rattle.omf51.specs.File.{file_by, file_refusal}
use Rattle.omf51.specs.Reaches.{Ends}
use Rattle.omf51.proofs.OnePath.{reading-exactly}
use Rattle.segments.specs.Refuse.{collect_refusal}
use Rattle.segments.proofs.RefuseLaws.{collect-late}
use Rattle.segments.specs.SegmentRows.{segment_width, reference_width, symbol_width}
use Rattle.search_rules.specs.SearchRows.{placed_width, noted_width}
use Rattle.run.specs.declared.Settings.{Settings}
use Rattle.run.specs.declared.Counts.{Counts}
use Rattle.run.specs.Run.{Lent, collect_over, search_over, other_edition, too_deep}
use Rattle.run.proofs.Order.{Stage}
use Rattle.run.specs.Given.{Over, CollectionOver, SearchOver, NoEdition, Shape}

-- a test that refuses: with one refusal, exactly if it passes
pub when-some : (t : Bool) (r : Refusal) → (when t r ≡ some r) ↔ (t ≡ true)
when-some true r = ((λ e. refl), λ e. refl)
when-some false r = ((λ e. absurd (none≢some e)), λ e. let z : ◌≡◌ {A = ℕ} 0 1 = cc in absurd (omega arith))

pub when-none : (t : Bool) (r : Refusal) → (when t r ≡ none) ↔ (t ≡ false)
when-none true r = ((λ e. absurd (none≢some (sym e))), λ e. let z : ◌≡◌ {A = ℕ} 0 1 = cc in absurd (omega arith))
when-none false r = ((λ e. refl), λ e. refl)

abbrev pub when-stage : Bool → Refusal → Stage
when-stage t r = record { out = when t r; can = eqb (refusal_number r); told = λ q e. go t q e }
  where
    go : (u : Bool) (q : Refusal) → when u r ≡ some q → eqb (refusal_number r) (refusal_number q) ≡ true
    go true q e = eq-eqb (refusal_number r) (refusal_number q) (same_number e)
    go false q e = absurd (none≢some e)

-- reading refuses with 5 to 8, 14 and 15; the collection with 10 to 13
abbrev pub reading-stage : Edition → List ℕ → Stage
reading-stage e library = record { out = file_refusal (file_by e library); can = reads; told = λ r q. go r ((reading-exactly e library (some r)).0 q) }
  where
    reads : ℕ → Bool
    reads n = (leb 5 n && leb n 8) || (leb 14 n && leb n 15)

    go : (r : Refusal) → Ends e library (some r) → reads (refusal_number r) ≡ true
    go RuleSet h = absurd h
    go ImageTooLong h = absurd h
    go LibraryTooLong h = absurd h
    go StretchPastEnd h = absurd h
    go NoModule h = refl
    go BodyPastEnd h = refl
    go LengthZero h = refl
    go NamesDiffer h = refl
    go TooFewRows h = absurd h
    go UnknownKind h = absurd h
    go UnknownBlock h = absurd h
    go ContentPastSegment h = absurd h
    go NoKeptSegment h = absurd h
    go WrongSum h = refl
    go LeftOver h = refl
    go TooManyStretches h = absurd h
    go TooDeep h = absurd h
    go NotBanked h = absurd h
    go OtherEdition h = absurd h

abbrev pub collecting-stage : List Module → Stage
collecting-stage modules = record { out = collect_refusal modules; can = λ n. leb 10 n && leb n 13; told = λ r e. go (refusal_number r) (collect-late modules e) }
  where
    go : (n : ℕ) → (10 ≤ n) × (n ≤ 13) → (leb 10 n && leb n 13) ≡ true
    go n h = rw (le-leb 10 n h.0, le-leb n 13 h.1)

-- rows that do not fit
pub over : (width : ℕ) (lent : List ℕ) (n : ℕ) → (too_many width lent n ≡ true) ↔ Over width lent n
over width lent n = (ltb-true (length lent) (n * width), lt-ltb (length lent) (n * width))

pub or-true-iff : {A B : Type 0} (a b : Bool) → (a ≡ true) ↔ A → (b ≡ true) ↔ B → ((a || b) ≡ true) ↔ (A ⊎ B)
or-true-iff {A} {B} a b p q = ((λ e. there (either a b e)), back)
  where
    there : (a ≡ true) ⊎ (b ≡ true) → A ⊎ B
    there (inl e) = inl (p.0 e)
    there (inr e) = inr (q.0 e)

    back : A ⊎ B → (a || b) ≡ true
    back (inl h) = rw (p.1 h)
    back (inr h) = rw (q.1 h) (or-true a)

pub not-over : {A : Type 0} (t : Bool) → (t ≡ true) ↔ A → (t ≡ false) ↔ (A → ⊥)
not-over true iff = ((λ e. absurd (false≢true (sym e))), λ n. absurd (n (iff.0 refl)))
not-over false iff = ((λ e h. false≢true (iff.1 h)), λ n. refl)

pub collection-over : (lent : Lent) (c : Counts) → (collect_over lent c ≡ true) ↔ CollectionOver lent c
collection-over lent c =
    or-true-iff _ _ (over segment_width lent.segments c.segments)
    (or-true-iff _ _ (over reference_width lent.references c.references)
    (or-true-iff _ _ (over symbol_width lent.symbols c.symbols)
    (or-true-iff _ _ (over 1 lent.bytes c.pattern) (over 1 lent.masks c.pattern))))

pub search-over : (lent : Lent) (c : Counts) → (search_over lent c ≡ true) ↔ SearchOver lent c
search-over lent c = or-true-iff _ _ (over placed_width lent.placed c.placed) (over noted_width lent.noted c.noted)

-- a refusal by a comparison of numbers
pub less : (a b : ℕ) (r : Refusal) → (when (ltb a b) r ≡ some r) ↔ (a < b)
less a b r = Iff.trans (when-some (ltb a b) r) (ltb-true a b, lt-ltb a b)

pub not-less : (a b : ℕ) (r : Refusal) → (when (ltb a b) r ≡ none) ↔ (b ≤ a)
not-less a b r = Iff.trans (when-none (ltb a b) r) (ltb-false a b, le-ltb a b)

-- how an image's own refusal is told in words; it is 2 or 18
pub record Worded (shape : Shape) (own : Option Refusal) : Type 0 where
  pub long : (own ≡ some ImageTooLong) ↔ shape.Long
  pub unbanked : (own ≡ some NotBanked) ↔ shape.Unbanked
  pub fine : (own ≡ none) ↔ shape.Fine
  pub told : (r : Refusal) → own ≡ some r → (eqb 2 (refusal_number r) || eqb 18 (refusal_number r)) ≡ true

-- the stages that look at the settings alone: each, and when it does not refuse, in words
module _ (s : Settings) where
  abbrev pub rules-stage : Stage
  rules-stage = when-stage (ltb 1 s.rules) RuleSet

  abbrev pub edition-stage : Stage
  edition-stage = when-stage (other_edition s.edition) OtherEdition

  abbrev pub depth-stage : Stage
  depth-stage = when-stage (too_deep s.depth) TooDeep

  abbrev pub count-stage : Stage
  count-stage = when-stage (too_many_stretches s.withheld) TooManyStretches

  pub rules-fine : (rules-stage.out ≡ none) ↔ (s.rules ≤ 1)
  rules-fine = not-less 1 s.rules RuleSet

  pub edition-other : (other_edition s.edition ≡ true) ↔ NoEdition s.edition
  edition-other = or-true-iff (ltb s.edition 1) (ltb 2 s.edition) (ltb-true s.edition 1, lt-ltb s.edition 1) (ltb-true 2 s.edition, lt-ltb 2 s.edition)

  pub edition-fine : (edition-stage.out ≡ none) ↔ (NoEdition s.edition → ⊥)
  edition-fine = Iff.trans (when-none (other_edition s.edition) OtherEdition) (not-over (other_edition s.edition) edition-other)

  pub depth-fine : (depth-stage.out ≡ none) ↔ (s.depth ≤ 4)
  depth-fine = not-less 4 s.depth TooDeep

  pub count-fine : (count-stage.out ≡ none) ↔ (s.withheld.count ≤ 16)
  count-fine = not-less 16 s.withheld.count TooManyStretches
