-- THE STEPS MAKE UP THE RUN, whatever is searched: the beginning, the collection, and then what is found. Assumes nothing.
use Rattle.std.specs.Prelude.{ℕ, ◌≡◌, Bool, ◌&&◌, ◌||◌, ◌⊎◌, leb, ltb, length, Ok, Err, Result}
use Rattle.std.proofs.Math.Path.{refl, sym, ap}
use Rattle.std.proofs.Common.{◌∙◌, inl, inr, arith}
use Rattle.std.proofs.Math.Bool.{true, false}
use Rattle.std.proofs.lemmas.Bool.{false≢true}
use mathlib.Core.List.{List, [], ◌∷◌, ◌++◌}
use Rattle.std.proofs.Math.Option.{Option, none, some}
use borrow.Author.Tests.{le-ltb, leb-true}
use Rattle.lent.specs.declared.refusal.Refusal.{Refusal}
use Rattle.lent.specs.declared.refusal.Refusal.TheVariants.{RuleSet, OtherEdition, TooDeep, LibraryTooLong, TooManyStretches, StretchPastEnd, TooFewRows}
use Rattle.lent.specs.Choice.{when, or_else, leading}
use Rattle.lent.specs.ChoiceLaws.{both, either}
use Rattle.lent.specs.FirstOf.{none≢some}
use Rattle.lent.specs.Refusals.{refusal_number, zeroes}
use Rattle.lent.specs.RefusalLaws.{same_number, zeroes-late, zeroes-not}
use Rattle.lent.specs.Rows.{zeros}
use Rattle.image.specs.Cover.{too_many_stretches, passes_end}
use Rattle.image.proofs.CoverLaws.{all_fit}
use Rattle.image.specs.fixup.Target.{rules_of}
use Rattle.omf51.specs.Module.{Module, module_at}
use Rattle.omf51.specs.Record.{edition_of}
use Rattle.omf51.specs.File.{file_refusal, modules_in}
use Rattle.library.specs.Gathered.{items_at as modules_from}
use Rattle.segments.specs.Collect.{Collected}
use Rattle.segments.specs.Refuse.{collect_refusal}
use Rattle.segments.proofs.RefuseLaws.{collect-late}
use Rattle.collect.specs.declared.stored.CollectCounts.{CollectCounts as Stored}
use Rattle.collect.specs.stored.Stores.{CollectLists as Collectable}
use Rattle.collect.specs.Outcome.{CollectOutcome as Collecting, counted_in, refusal_of as refusal_of_collection, collect_zeroed as zeroed_collection, collect_outcome_of as collection_of, collection}
use Rattle.run.specs.declared.Settings.{Settings}
use Rattle.run.specs.declared.Counts.{Counts}
use Rattle.run.specs.Run.{Lent, lent_lists, Yield, Outcome, library_read, segments_of, counts_with, other_edition, too_deep, collect_over, refusals, zeroed, outcome_of, run_by, cover}
use Rattle.run.proofs.StageLaws.{reading-stage}
use Rattle.libfind.specs.Begin.{settings_refusals, settings_refusal, Begun}
use Rattle.libfind.specs.BeginLaws.{known-edition}
use Rattle.libfind.specs.Ends.{collectable, findable, all_of, finding_by, Filled}

-- what an answer of the collection says
refusal_in : Result Stored Refusal → Refusal
refusal_in (Ok c) = TooFewRows
refusal_in (Err r) = r

is_done : Result Stored Refusal → Bool
is_done (Ok c) = true
is_done (Err r) = false

counts_in : Result Stored Refusal → Stored
counts_in (Ok c) = c
counts_in (Err r) = record { segments = 0; references = 0; symbols = 0; pattern = 0 }

-- any run by its refusals: an image's own, which writes nothing, its length, and what the later stages need and give
module _ (own : Option Refusal) (mild : (r : Refusal) → own ≡ some r → zeroes r ≡ false) (size : ℕ) (library : List ℕ) (s : Settings) (lent : Lent) (p n l : ℕ) (y : Yield) where
  abbrev modules : List Module
  modules = modules_in (library_read library s)

  abbrev gs : List Collected
  gs = segments_of library s

  abbrev counts : Counts
  counts = counts_with gs p n l

  abbrev whole : Outcome
  whole = run_by own size library s lent counts y

  -- the refusals: those before anything is written; then 9 for the collection and 10 to 13; then 9 for what is found
  abbrev early : Option Refusal
  early = or_else (settings_refusal own size (length library) s) (file_refusal (library_read library s))

  abbrev collecting : Option Refusal
  collecting = or_else (when (collect_over lent counts) TooFewRows) (collect_refusal modules)

  abbrev finding : Option Refusal
  finding = finding_by lent counts

  in-turn : (xs : List (Option Refusal)) (g h i : Option Refusal) (rest : List (Option Refusal))
      → leading (xs ++ g ∷ h ∷ i ∷ rest) ≡ or_else (or_else (leading xs) g) (or_else (or_else h i) (leading rest))
  unfolding leading
  in-turn [] none none i rest = refl
  in-turn [] none (some r) i rest = refl
  in-turn [] (some r) h i rest = refl
  in-turn (none ∷ xs) g h i rest = in-turn xs g h i rest
  in-turn (some r ∷ xs) g h i rest = refl

  run_is : whole ≡ outcome_of library (or_else early (or_else collecting finding)) y lent
  unfolding refusals settings_refusal finding_by
  run_is = ap (λ o. outcome_of library o y lent) (in-turn (settings_refusals own size (length library) s) _ _ _ _)

  -- REFUSED EARLY: nothing is written
  writes_nothing : {r : Refusal} → early ≡ some r → zeroes r ≡ false
  unfolding settings_refusal leading
  writes_nothing {r} q =
      go (ltb 1 s.rules) (other_edition s.edition) (too_deep s.depth) own (ltb 1048576 (length library)) (too_many_stretches s.withheld) (passes_end size (cover s))
      (file_refusal (library_read library s)) mild (λ x h. apart x ((reading-stage (edition_of s.edition) library).told x h)) q
    where
      same : {x : Refusal} → zeroes x ≡ false → some x ≡ some r → zeroes r ≡ false
      same {x} z e = let w : x ≡ r = cc in rw (← w) z

      apart : (x : Refusal) → ((leb 5 (refusal_number x) && leb (refusal_number x) 8) || (leb 14 (refusal_number x) && leb (refusal_number x) 15)) ≡ true → zeroes x ≡ false
      apart x h = between (either (leb 5 (refusal_number x) && leb (refusal_number x) 8) (leb 14 (refusal_number x) && leb (refusal_number x) 15) h)
        where
          between : ((leb 5 (refusal_number x) && leb (refusal_number x) 8) ≡ true) ⊎ ((leb 14 (refusal_number x) && leb (refusal_number x) 15) ≡ true) → zeroes x ≡ false
          between (inl l) = zeroes-not x (inl (omega (arith, leb-true (refusal_number x) 8 (both (leb 5 (refusal_number x)) (leb (refusal_number x) 8) l).1)))
          between (inr l) = zeroes-not x (inr (omega (arith, leb-true 14 (refusal_number x) (both (leb 14 (refusal_number x)) (leb (refusal_number x) 15) l).0)))

      go : (a e g : Bool) (b : Option Refusal) (c f d : Bool) (o : Option Refusal) → ((x : Refusal) → b ≡ some x → zeroes x ≡ false) → ((x : Refusal) → o ≡ some x → zeroes x ≡ false)
          → or_else (leading (when a RuleSet ∷ when e OtherEdition ∷ when g TooDeep ∷ b ∷ when c LibraryTooLong ∷ when f TooManyStretches ∷ when d StretchPastEnd ∷ [])) o ≡ some r
          → zeroes r ≡ false
      go true e g b c f d o k h q = same refl q
      go false true g b c f d o k h q = same refl q
      go false false true b c f d o k h q = same refl q
      go false false false (some x) c f d o k h q = k r q
      go false false false none true f d o k h q = same refl q
      go false false false none false true d o k h q = same refl q
      go false false false none false false true o k h q = same refl q
      go false false false none false false false o k h q = h r q

  pub refused-early : {r : Refusal} → early ≡ some r → record { answer = Err r; left = lent } ≡ run_by own size library s lent (counts_with (segments_of library s) p n l) y
  refused-early {r} e =
      sym (run_is ∙ ap (λ o. outcome_of library (or_else o (or_else collecting finding)) y lent) e ∙ rw (writes_nothing e) refl)

  -- none of those applies
  module _ {first : ℕ} (b : Begun own size library s first) where
    not-early : early ≡ none
    unfolding settings_refusal leading
    not-early =
        let a = b.accepted in
        rw (
          le-ltb 1 s.rules a.rule-set,
          known-edition s.edition a.edition,
          le-ltb 4 s.depth a.shallow,
          a.image-fits,
          le-ltb 1048576 (length library) a.library-fits,
          le-ltb 16 s.withheld.count a.few,
          (all_fit size (cover s)).1 a.stretches-fit,
          b.is_read,
        )
        refl

    run-by : run_by own size library s lent (counts_with (segments_of library s) p n l) y ≡ outcome_of library (or_else collecting finding) y lent
    run-by = run_is ∙ ap (λ o. outcome_of library (or_else o (or_else collecting finding)) y lent) not-early

    abbrev pub collected : Collecting
    collected = collection (rules_of s.rules) library (modules_from library (module_at library) first) (collectable lent)

    collected-is : collected ≡ collection_of collecting gs (collectable lent)
    unfolding collection refusal_of_collection leading counted_in
    collected-is = ap (λ ms. collection (rules_of s.rules) library ms (collectable lent)) (sym b.there) ∙ ap (λ o. collection_of o gs (collectable lent)) in_order
      where
        last : (t : Bool) (o : Option Refusal) → or_else (when t TooFewRows) (or_else o none) ≡ or_else (when t TooFewRows) o
        last true o = refl
        last false none = refl
        last false (some r) = refl

        in_order : refusal_of_collection library modules (collectable lent) (counted_in gs) ≡ collecting
        in_order = rw (le-ltb 1048576 (length library) b.accepted.library-fits) (last (collect_over lent counts) (collect_refusal modules))

    -- REFUSED BY THE COLLECTION: all that was lent is set to zero
    late-zeroes : {r : Refusal} → collecting ≡ some r → zeroes r ≡ true
    late-zeroes {r} e = go (collect_over lent counts) e
      where
        go : (t : Bool) → or_else (when t TooFewRows) (collect_refusal modules) ≡ some r → zeroes r ≡ true
        go true q = let n = same_number q in zeroes-late r (omega (arith, n)) (omega (arith, n))
        go false q = let n = collect-late modules q in zeroes-late r (omega (arith, n.0)) n.1

    pub refused-collecting : {r : Refusal} {left : Collectable} {placed noted lines : List ℕ} → record { answer = Err r; left = left } ≡ collected
        → placed ≡ zeros (length lent.placed) → noted ≡ zeros (length lent.noted) → lines ≡ zeros (length lent.lines)
        → record {
          answer = Err r;
          left = lent_lists left.segments left.references left.symbols left.bytes left.masks placed noted
              lines;
        } ≡ run_by own size library s lent (counts_with (segments_of library s) p n l) y
    unfolding zeroed zeroed_collection refusal_in is_done
    refused-collecting {r} {left} e u v w = rw (u, v, w) (go collecting refl (e ∙ collected-is))
      where
        go : (o : Option Refusal) → collecting ≡ o → record { answer = Err r; left = left } ≡ collection_of o gs (collectable lent)
            → record { answer = Err r; left = all_of (findable left (zeroed lent)) } ≡ run_by own size library s lent (counts_with (segments_of library s) p n l) y
        go none q p = absurd (false≢true (ap (λ o. is_done o.answer) p))
        go (some x) q p =
            let late = late-zeroes q in
            let same : r ≡ x = ap (λ o. refusal_in o.answer) p in
            let zero : left ≡ zeroed_collection (collectable lent) = ap (λ o. o.left) p ∙ rw late refl in
            ap (λ y. record { answer = Err y; left = all_of (findable left (zeroed lent)) }) same
            ∙ ap (λ y. record { answer = Err x; left = all_of (findable y (zeroed lent)) }) zero
            ∙ sym (run-by ∙ ap (λ o. outcome_of library (or_else o finding) y lent) q ∙ rw late refl)

    -- COLLECTED: the lists of the collection are filled, and the rest of the run goes by what is found
    pub collected-filled : {c : Stored} {left : Collectable} → record { answer = Ok c; left = left } ≡ collected → Filled library s lent c left
    unfolding counts_in is_done
    collected-filled {c} {left} e = go collecting refl (e ∙ collected-is)
      where
        quiet : (t : Bool) (o : Option Refusal) → or_else (when t TooFewRows) o ≡ none → (t ≡ false) × (o ≡ none)
        quiet true o q = absurd (none≢some (sym q))
        quiet false o q = (refl, q)

        go : (o : Option Refusal) → collecting ≡ o → record { answer = Ok c; left = left } ≡ collection_of o gs (collectable lent) → Filled library s lent c left
        go (some x) q p = absurd (false≢true (sym (ap (λ o. is_done o.answer) p)))
        go none q p =
            let h = quiet (collect_over lent counts) (collect_refusal modules) q in
            record { counts-are = ap (λ o. counts_in o.answer) p; lists-are = ap (λ o. o.left) p; room = h.0; tested = h.1 }

    pub run-found : {c : Stored} {left : Collectable} → Filled library s lent c left
        → run_by own size library s lent (counts_with (segments_of library s) p n l) y ≡ outcome_of library (finding_by lent (counts_with (segments_of library s) p n l)) y lent
    run-found f = run-by ∙ rw (f.room, f.tested) refl
