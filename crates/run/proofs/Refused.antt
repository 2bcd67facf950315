-- Demand 1: each refusal is given in exactly the case that document 01 names, with no earlier one, whatever is searched. Assumes nothing.
use Rattle.std.specs.Prelude.{ℕ, ◌≤◌, ◌≡◌, ◌⊎◌, ◌↔◌, Bool, ◌||◌, eqb, ltb, length}
use Rattle.std.proofs.Math.Path.{refl, ap}
use Rattle.std.proofs.Common.{sym, inl, inr, arith}
use Rattle.std.proofs.Math.Logic.Iff
use Rattle.std.proofs.Math.Bool.{true, false}
use Rattle.std.proofs.lemmas.Bool.{false≢true}
use mathlib.Core.List.{List, [], ◌∷◌, ◌++◌}
use Rattle.std.proofs.Math.Option.{Option, none, some}
use Rattle.lent.specs.declared.refusal.Refusal.{Refusal}
use Rattle.lent.specs.declared.refusal.Refusal.TheVariants.{RuleSet, ImageTooLong, LibraryTooLong, StretchPastEnd, NoModule, BodyPastEnd, LengthZero, NamesDiffer, TooFewRows, UnknownKind}
use Rattle.lent.specs.declared.refusal.Refusal.TheVariants.{UnknownBlock, ContentPastSegment, NoKeptSegment, WrongSum, LeftOver, TooManyStretches, TooDeep, NotBanked, OtherEdition}
use Rattle.lent.specs.Choice.{when, leading}
use Rattle.lent.specs.FirstOf.{Quiet, none≢some, leading-none, none-leading}
use Rattle.lent.specs.Lists.{all}
use Rattle.lent.specs.Refusals.{refusal_number}
use Rattle.lent.specs.RefusalLaws.{number-tells, same_number, numbered}
use Rattle.image.specs.Cover.{passes_end}
use Rattle.image.proofs.CoverLaws.{AllFit, some-passes, all_fit}
use Rattle.omf51.specs.declared.Edition.{Edition}
use Rattle.omf51.specs.Record.{edition_of}
use Rattle.omf51.specs.File.{modules_in}
use Rattle.omf51.specs.Reaches.{FileRead, Ends}
use Rattle.omf51.proofs.OnePath.{reading-exactly}
use Rattle.segments.specs.Refuse.{Test, test_refusal, tests, collect_refusal}
use Rattle.segments.proofs.RefuseLaws.{KindAbove, BlockAbove, PastSegment, NowhereKept, gives-10, gives-11, gives-12, gives-13, collect-gives}
use Rattle.listing_rules.specs.Listing.{line_width}
use Rattle.run.specs.declared.Settings.{Settings}
use Rattle.run.specs.declared.Counts.{Counts}
use Rattle.run.specs.Run.{Lent, Yield, library_read, collect_over, search_over, list_over, other_edition, refusals, outcome_of, run_by, number_of, cover}
use Rattle.run.proofs.Order.{Stage, first_of, Silent, silent-both, Beyond, or-else, after_none, at_stage}
use Rattle.run.specs.Given.{CollectionOver, SearchOver, ListOver, NoEdition, Shape, SettingsFine, ReachedBy, FirstTest, TooLittleBy, GivenBy, NothingRefusedBy}
use Rattle.run.proofs.StageLaws.{Worded, rules-stage, edition-stage, depth-stage, count-stage, rules-fine, edition-other, edition-fine, depth-fine, count-fine, when-some}
use Rattle.run.proofs.StageLaws.{when-none, when-stage, reading-stage, collecting-stage, over, or-true-iff, not-over, collection-over, search-over, less, not-less}

-- a run by its refusals: what is searched with its own refusal, and what is needed and given
module _ (shape : Shape) (own : Option Refusal) (words : Worded shape own) (library : List ℕ) (s : Settings) (lent : Lent) (c : Counts) (y : Yield) where
  abbrev edition : Edition
  edition = edition_of s.edition

  abbrev number : ℕ
  number = number_of (run_by own shape.size library s lent c y).answer

  -- the stages of a run, in their order
  abbrev image-stage : Stage
  image-stage = record { out = own; can = λ n. eqb 2 n || eqb 18 n; told = words.told }

  abbrev library-stage : Stage
  library-stage = when-stage (ltb 1048576 (length library)) LibraryTooLong

  abbrev stretch-stage : Stage
  stretch-stage = when-stage (passes_end shape.size (cover s)) StretchPastEnd

  abbrev settings-stages : List Stage
  settings-stages = rules-stage s ∷ edition-stage s ∷ depth-stage s ∷ image-stage ∷ library-stage ∷ count-stage s ∷ stretch-stage ∷ []

  abbrev room-stage : Stage
  room-stage = when-stage (collect_over lent c) TooFewRows

  abbrev tests-stage : Stage
  tests-stage = collecting-stage (modules_in (library_read library s))

  abbrev row-stages : List Stage
  row-stages = when-stage (search_over lent c) TooFewRows ∷ when-stage (list_over lent c) TooFewRows ∷ []

  abbrev later-stages : List Stage
  later-stages = room-stage ∷ tests-stage ∷ row-stages

  abbrev reading-stages : List Stage
  reading-stages = settings-stages ++ reading-stage edition library ∷ []

  abbrev all-stages : List Stage
  all-stages = settings-stages ++ reading-stage edition library ∷ later-stages

  -- the number is that of the first stage that refuses, and 0 if none does
  number_is : (r : Refusal) → (number ≡ refusal_number r) ↔ (first_of all-stages ≡ some r)
  unfolding refusals
  number_is r = go (leading (refusals own shape.size library s lent c))
    where
      go : (o : Option Refusal) → (number_of (outcome_of library o y lent).answer ≡ refusal_number r) ↔ (o ≡ some r)
      go none = ((λ e. absurd (omega (arith, numbered r))), λ e. absurd (none≢some e))
      go (some q) = ((λ e. ap some (number-tells q r e)), λ e. same_number e)

  done-is : (number ≡ 0) ↔ Silent all-stages
  unfolding refusals
  done-is = Iff.trans (go (leading (refusals own shape.size library s lent c))) (leading-none (λ g. g.out) all-stages, none-leading (λ g. g.out) all-stages)
    where
      go : (o : Option Refusal) → (number_of (outcome_of library o y lent).answer ≡ 0) ↔ (o ≡ none)
      go none = ((λ e. refl), λ e. refl)
      go (some q) = ((λ e. absurd (omega (arith, numbered q))), λ e. absurd (none≢some (sym e)))

  -- each stage that does not refuse, in words
  library-fine : (library-stage.out ≡ none) ↔ (length library ≤ 1048576)
  library-fine = not-less 1048576 (length library) LibraryTooLong

  stretch-fine : (stretch-stage.out ≡ none) ↔ AllFit shape.size (cover s)
  stretch-fine = Iff.trans (when-none (passes_end shape.size (cover s)) StretchPastEnd) (all_fit shape.size (cover s))

  room-fine : (room-stage.out ≡ none) ↔ (CollectionOver lent c → ⊥)
  room-fine =
      Iff.trans (when-none (collect_over lent c) TooFewRows)
      (not-over (collect_over lent c) (collection-over lent c))

  tests-fine : (tests-stage.out ≡ none) ↔ Quiet test_refusal (tests (modules_in (library_read library s)))
  unfolding collect_refusal
  tests-fine = (leading-none test_refusal (tests (modules_in (library_read library s))), none-leading test_refusal (tests (modules_in (library_read library s))))

  rows-fine : Silent row-stages ↔ ((SearchOver lent c → ⊥) × (ListOver lent c → ⊥))
  rows-fine =
      let search = Iff.trans (when-none (search_over lent c) TooFewRows) (not-over (search_over lent c) (search-over lent c)) in
      let list = Iff.trans (when-none (list_over lent c) TooFewRows) (not-over (list_over lent c) (over line_width lent.lines c.lines)) in
      ((λ q. (search.0 q.0, list.0 q.1.0)), λ h. (search.1 h.0, (list.1 h.1, tt)))

  -- up to a stage none refuses
  accepted : Silent settings-stages ↔ SettingsFine shape library s lent c
  accepted = (
    (λ q. record {
      rule-set = (rules-fine s).0 q.0;
      edition = (edition-fine s).0 q.1.0;
      shallow = (depth-fine s).0 q.1.1.0;
      image-fits = words.fine.0 q.1.1.1.0;
      library-fits = library-fine.0 q.1.1.1.1.0;
      few = (count-fine s).0 q.1.1.1.1.1.0;
      stretches-fit = stretch-fine.0 q.1.1.1.1.1.1.0;
    }),
    λ a. (
      (rules-fine s).1 a.rule-set,
      (
        (edition-fine s).1 a.edition,
        ((depth-fine s).1 a.shallow, (words.fine.1 a.image-fits, (library-fine.1 a.library-fits, ((count-fine s).1 a.few, (stretch-fine.1 a.stretches-fit, tt))))),
      ),
    ),
  )

  all_read : Silent reading-stages ↔ (SettingsFine shape library s lent c × FileRead edition library)
  all_read =
      let read = reading-exactly edition library none in
      Iff.trans (silent-both settings-stages (reading-stage edition library ∷ [])) (Iff.and accepted ((λ q. read.0 q.0), λ h. (read.1 h, tt)))

  reached : Silent (reading-stages ++ room-stage ∷ []) ↔ ReachedBy shape library s lent c
  reached =
      let split = silent-both reading-stages (room-stage ∷ []) in (
        (λ q.
            let h = split.0 q in
            let read = all_read.0 h.0 in
            record { accepted = read.0; all_read = read.1; room = room-fine.0 h.1.0 }),
        λ r. split.1 (all_read.1 (r.accepted, r.all_read), (room-fine.1 r.room, tt)),
      )

  -- 9 for the search or the listing
  row-over : (first_of row-stages ≡ some TooFewRows) ↔ (SearchOver lent c ⊎ ListOver lent c)
  unfolding leading
  row-over =
      Iff.trans (two (search_over lent c) (list_over lent c))
      (or-true-iff (search_over lent c) (list_over lent c) (search-over lent c) (over line_width lent.lines c.lines))
    where
      two : (a b : Bool) → (leading (when a TooFewRows ∷ when b TooFewRows ∷ []) ≡ some TooFewRows) ↔ ((a || b) ≡ true)
      two true b = ((λ e. refl), λ e. refl)
      two false true = ((λ e. refl), λ e. refl)
      two false false = ((λ e. absurd (none≢some e)), λ e. absurd (false≢true e))

  -- 9 at all
  too_few : (first_of all-stages ≡ some TooFewRows) ↔ TooLittleBy shape library s lent c
  unfolding all
  too_few = ((λ q. let p = first.0 q in there (all_read.0 p.0) (choice.0 p.1)), back)
    where
      rest : List Stage
      rest = tests-stage ∷ row-stages

      first : (first_of (reading-stages ++ room-stage ∷ rest) ≡ some TooFewRows) ↔ (Silent reading-stages × (first_of (room-stage ∷ rest) ≡ some TooFewRows))
      first = after_none TooFewRows reading-stages (room-stage ∷ rest) refl

      choice : (first_of (room-stage ∷ rest) ≡ some TooFewRows)
          ↔ ((room-stage.out ≡ some TooFewRows) ⊎ ((room-stage.out ≡ none) × (first_of rest ≡ some TooFewRows)))
      choice = or-else room-stage rest TooFewRows

      later : (first_of rest ≡ some TooFewRows) ↔ (Silent (tests-stage ∷ []) × (first_of row-stages ≡ some TooFewRows))
      later = after_none TooFewRows (tests-stage ∷ []) row-stages refl

      here : (room-stage.out ≡ some TooFewRows) ↔ CollectionOver lent c
      here = Iff.trans (when-some (collect_over lent c) TooFewRows) (collection-over lent c)

      there : SettingsFine shape library s lent c × FileRead edition library → (room-stage.out ≡ some TooFewRows) ⊎ ((room-stage.out ≡ none) × (first_of rest ≡ some TooFewRows))
          → TooLittleBy shape library s lent c
      there h (inl k) = inl (h.0, h.1, here.0 k)
      there h (inr k) =
          let p = later.0 k.1 in
          inr (record { accepted = h.0; all_read = h.1; room = room-fine.0 k.0 }, tests-fine.0 p.0.0, row-over.0 p.1)

      back : TooLittleBy shape library s lent c → first_of all-stages ≡ some TooFewRows
      back (inl (a, r, o)) = first.1 (all_read.1 (a, r), choice.1 (inl (here.1 o)))
      back (inr (r, q, o)) =
          first.1 (all_read.1 (r.accepted, r.all_read), choice.1 (inr (room-fine.1 r.room, later.1 ((tests-fine.1 q, tt), row-over.1 o))))

  -- 1, 30, 17, 2, 3, 16 and 4; 5 to 8, 14 and 15; 10 to 13
  by-settings : (r : Refusal) (before : List Stage) (g : Stage) (later : List Stage) → before ++ g ∷ later ≡ all-stages → Beyond r before → Beyond r later
      → (number ≡ refusal_number r) ↔ (Silent before × (g.out ≡ some r))
  by-settings r before g later q e f = Iff.trans (number_is r) (rw q at (at_stage r before g later e f))

  by-own : (r : Refusal) {Case : Type 0} → (own ≡ some r) ↔ Case → Beyond r (rules-stage s ∷ edition-stage s ∷ depth-stage s ∷ [])
      → Beyond r (library-stage ∷ count-stage s ∷ stretch-stage ∷ reading-stage edition library ∷ later-stages)
      → (number ≡ refusal_number r) ↔ ((s.rules ≤ 1) × (NoEdition s.edition → ⊥) × (s.depth ≤ 4) × Case)
  by-own r this e f =
      Iff.trans (by-settings r (rules-stage s ∷ edition-stage s ∷ depth-stage s ∷ []) image-stage
      (library-stage ∷ count-stage s ∷ stretch-stage ∷ reading-stage edition library ∷ later-stages) refl e f) (
        (λ h. ((rules-fine s).0 h.0.0, (edition-fine s).0 h.0.1.0, (depth-fine s).0 h.0.1.1.0, this.0 h.1)),
        λ h. (((rules-fine s).1 h.0, ((edition-fine s).1 h.1, ((depth-fine s).1 h.2, tt))), this.1 h.3),
      )

  by-reading : (r : Refusal) → Beyond r settings-stages → Beyond r later-stages → (number ≡ refusal_number r) ↔ (SettingsFine shape library s lent c × Ends edition library (some r))
  by-reading r e f =
      Iff.trans (number_is r)
      (Iff.trans (at_stage r settings-stages (reading-stage edition library) later-stages e f) (Iff.and accepted (reading-exactly edition library (some r))))

  by_tests : (r : Refusal) (P : Test → Type 0) → ((t : Test) → (test_refusal t ≡ some r) ↔ P t) → Beyond r (reading-stages ++ room-stage ∷ [])
      → Beyond r row-stages
      → (number ≡ refusal_number r) ↔ (ReachedBy shape library s lent c × FirstTest shape library s lent c P)
  by_tests r P iff e f =
      Iff.trans (number_is r)
      (Iff.trans (at_stage r (reading-stages ++ room-stage ∷ []) tests-stage row-stages e f) (Iff.and reached (collect-gives (modules_in (library_read library s)) P iff)))

  -- EACH REFUSAL EXACTLY IN ITS CASE
  pub given_by : (r : Refusal) → (number_of (run_by own shape.size library s lent c y).answer ≡ refusal_number r) ↔ GivenBy shape library s lent c r
  unfolding all
  given_by RuleSet =
      let this = less 1 s.rules RuleSet in
      Iff.trans (by-settings RuleSet [] (rules-stage s)
      (edition-stage s ∷ depth-stage s ∷ image-stage ∷ library-stage ∷ count-stage s ∷ stretch-stage ∷ reading-stage edition library ∷ later-stages) refl refl refl)
      ((λ h. this.0 h.1), λ h. (tt, this.1 h))
  given_by OtherEdition =
      let this = Iff.trans (when-some (other_edition s.edition) OtherEdition) (edition-other s) in
      Iff.trans (by-settings OtherEdition (rules-stage s ∷ []) (edition-stage s)
      (depth-stage s ∷ image-stage ∷ library-stage ∷ count-stage s ∷ stretch-stage ∷ reading-stage edition library ∷ later-stages) refl refl refl)
      ((λ h. ((rules-fine s).0 h.0.0, this.0 h.1)), λ h. (((rules-fine s).1 h.0, tt), this.1 h.1))
  given_by TooDeep =
      let this = less 4 s.depth TooDeep in
      Iff.trans (by-settings TooDeep (rules-stage s ∷ edition-stage s ∷ []) (depth-stage s)
      (image-stage ∷ library-stage ∷ count-stage s ∷ stretch-stage ∷ reading-stage edition library ∷ later-stages) refl refl refl) (
        (λ h. ((rules-fine s).0 h.0.0, (edition-fine s).0 h.0.1.0, this.0 h.1)),
        λ h. (((rules-fine s).1 h.0, ((edition-fine s).1 h.1, tt)), this.1 h.2),
      )
  given_by ImageTooLong = by-own ImageTooLong words.long refl refl
  given_by NotBanked = by-own NotBanked words.unbanked refl refl
  given_by LibraryTooLong =
      let this = less 1048576 (length library) LibraryTooLong in
      Iff.trans (by-settings LibraryTooLong (rules-stage s ∷ edition-stage s ∷ depth-stage s ∷ image-stage ∷ []) library-stage
      (count-stage s ∷ stretch-stage ∷ reading-stage edition library ∷ later-stages) refl refl refl) (
        (λ h. ((rules-fine s).0 h.0.0, (edition-fine s).0 h.0.1.0, (depth-fine s).0 h.0.1.1.0, words.fine.0 h.0.1.1.1.0, this.0 h.1)),
        λ h. (((rules-fine s).1 h.0, ((edition-fine s).1 h.1, ((depth-fine s).1 h.2, (words.fine.1 h.3, tt)))), this.1 h.4),
      )
  given_by TooManyStretches =
      let this = less 16 s.withheld.count TooManyStretches in
      Iff.trans (by-settings TooManyStretches (rules-stage s ∷ edition-stage s ∷ depth-stage s ∷ image-stage ∷ library-stage ∷ []) (count-stage s)
      (stretch-stage ∷ reading-stage edition library ∷ later-stages) refl refl refl) (
        (λ h. ((rules-fine s).0 h.0.0, (edition-fine s).0 h.0.1.0, (depth-fine s).0 h.0.1.1.0, words.fine.0 h.0.1.1.1.0, library-fine.0 h.0.1.1.1.1.0, this.0 h.1)),
        λ h. (((rules-fine s).1 h.0, ((edition-fine s).1 h.1, ((depth-fine s).1 h.2, (words.fine.1 h.3, (library-fine.1 h.4, tt))))), this.1 h.5),
      )
  given_by StretchPastEnd =
      let this = Iff.trans (when-some (passes_end shape.size (cover s)) StretchPastEnd) (some-passes shape.size (cover s)) in
      Iff.trans (by-settings StretchPastEnd (rules-stage s ∷ edition-stage s ∷ depth-stage s ∷ image-stage ∷ library-stage ∷ count-stage s ∷ [])
      stretch-stage (reading-stage edition library ∷ later-stages) refl refl refl) (
        (λ h. (
          (rules-fine s).0 h.0.0,
          (edition-fine s).0 h.0.1.0,
          (depth-fine s).0 h.0.1.1.0,
          words.fine.0 h.0.1.1.1.0,
          library-fine.0 h.0.1.1.1.1.0,
          (count-fine s).0 h.0.1.1.1.1.1.0,
          this.0 h.1,
        )),
        λ h. (((rules-fine s).1 h.0, ((edition-fine s).1 h.1, ((depth-fine s).1 h.2, (words.fine.1 h.3, (library-fine.1 h.4, ((count-fine s).1 h.5, tt)))))), this.1 h.6),
      )
  given_by NoModule = by-reading NoModule refl refl
  given_by BodyPastEnd = by-reading BodyPastEnd refl refl
  given_by LengthZero = by-reading LengthZero refl refl
  given_by NamesDiffer = by-reading NamesDiffer refl refl
  given_by WrongSum = by-reading WrongSum refl refl
  given_by LeftOver = by-reading LeftOver refl refl
  given_by TooFewRows = Iff.trans (number_is TooFewRows) too_few
  given_by UnknownKind = by_tests UnknownKind KindAbove gives-10 refl refl
  given_by UnknownBlock = by_tests UnknownBlock BlockAbove gives-11 refl refl
  given_by ContentPastSegment = by_tests ContentPastSegment PastSegment gives-12 refl refl
  given_by NoKeptSegment = by_tests NoKeptSegment NowhereKept gives-13 refl refl

  -- and 0 exactly if none applies
  pub done-by : (number_of (run_by own shape.size library s lent c y).answer ≡ 0) ↔ NothingRefusedBy shape library s lent c
  done-by =
      let split = silent-both (reading-stages ++ room-stage ∷ []) (tests-stage ∷ row-stages) in (
        (λ e.
            let h = split.0 (done-is.0 e) in
            let rows = rows-fine.0 h.1.1 in
            record { reached = reached.0 h.0; tested = tests-fine.0 h.1.0; searched = rows.0; listed = rows.1 }),
        λ h. done-is.1 (split.1 (reached.1 h.reached, (tests-fine.1 h.tested, rows-fine.1 (h.searched, h.listed)))),
      )
