-- Once the segments are collected, search and list come to what the stages give on the cells of a view. Assumes nothing.
use Rattle.std.specs.Prelude.{ℕ, ◌≤◌, ◌≡◌, List, length, Err}
use Rattle.std.proofs.Math.Path.{refl, ap}
use Rattle.std.proofs.Common.{◌∙◌, le-ltb}
use Rattle.std.proofs.Math.Option.{Option, none, some}
use Rattle.lent.specs.declared.refusal.Refusal.{Refusal}
use Rattle.lent.specs.Choice.{leading}
use Rattle.image.specs.fixup.Target.{rules_of}
use Rattle.omf51.specs.File.{modules_in}
use Rattle.segments.specs.Collect.{Collected}
use Rattle.collect.specs.declared.stored.CollectCounts.{CollectCounts as Stored}
use Rattle.collect.specs.stored.Stores.{CollectLists as Collectable}
use Rattle.collect.specs.Outcome.{counted_in, collect_zeroed, collect_filled}
use Rattle.collect.specs.RecalledLaws.{collection-recalled, collection-zeroed}
use Rattle.search.specs.visit.Visits.{segments_in}
use Rattle.search.specs.Outcome.{search_zeroed, search_filled}
use Rattle.listing.specs.Outcome.{Yield as Findings, yields, refusal_of, find_outcome_of, find_outcome}
use Rattle.run.specs.declared.Settings.{Settings}
use Rattle.run.specs.Run.{Lent, Yield, asked_of, library_read, segments_of, stages, counted, zeroed, filled_with, outcome_of}
use Rattle.libfind.specs.Ends.{collectable, findable, all_of, concluded, finding_by, Filled}
use Rattle.libfind.specs.FindingLaws.{finding-late}

module _ (cells : List ℕ) (short : length cells ≤ 65536) (library : List ℕ) (s : Settings) (lent : Lent) {c : Stored} {left : Collectable} (f : Filled library s lent c left) where
  abbrev gs : List Collected
  gs = segments_of library s

  abbrev yield : Yield
  yield = stages cells library s

  abbrev finding : Option Refusal
  finding = finding_by lent (counted yield)

  abbrev filled : Collectable
  filled = collect_filled gs (collectable lent)

  abbrev findings : Findings
  findings = yields cells (asked_of s) s.skip library gs

  found-is : find_outcome cells (asked_of s) s.skip library (length gs) (findable filled lent) ≡ find_outcome_of library finding findings (findable filled lent)
  unfolding find_outcome refusal_of finding_by leading counted counted_in stages yields
  found-is =
      ap (λ xs. find_outcome_of library (refusal_of cells (findable filled lent) (yields cells (asked_of s) s.skip library xs)) (yields cells (asked_of s) s.skip library xs) (findable filled lent)) recalled
      ∙ ap (λ o. find_outcome_of library o findings (findable filled lent)) in_order
    where
      recalled : segments_in (findable filled lent).searched.stored (length gs) ≡ gs
      recalled = collection-recalled (rules_of s.rules) library (modules_in (library_read library s)) (collectable lent) f.room

      in_order : refusal_of cells (findable filled lent) findings ≡ finding
      in_order = rw (le-ltb 65536 (length cells) short) refl

  rest-is : (o : Option Refusal) → finding ≡ o → concluded (counted_in gs) (find_outcome_of library o findings (findable filled lent)) ≡ outcome_of library o yield lent
  unfolding leading counted counted_in stages yields filled_with collect_filled search_filled zeroed collect_zeroed search_zeroed
  rest-is none e = refl
  rest-is (some r) e = rw (finding-late lent (counted yield) e) (ap (λ z. record { answer = Err r; left = all_of (findable z (zeroed lent)) }) zero)
    where
      zero : collect_zeroed filled ≡ collect_zeroed (collectable lent)
      zero = collection-zeroed (rules_of s.rules) library (modules_in (library_read library s)) (collectable lent) f.room

  pub found-then : concluded c (find_outcome cells (asked_of s) s.skip library c.segments (findable left lent)) ≡ outcome_of library (finding_by lent (counted (stages cells library s))) (stages cells library s) lent
  unfolding counted_in
  found-then =
      ap (λ x. concluded x (find_outcome cells (asked_of s) s.skip library x.segments (findable left lent))) f.counts-are
      ∙ ap (λ x. concluded (counted_in gs) (find_outcome cells (asked_of s) s.skip library (length gs) (findable x lent))) f.lists-are
      ∙ ap (concluded (counted_in gs)) found-is
      ∙ rest-is finding refl
