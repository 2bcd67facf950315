-- Once the segments are collected, the search and then the list come to what both together come to. Assumes nothing.
use Rattle.std.specs.Prelude.{ℕ, ◌≤◌, ◌≡◌, List, length, Result, Ok, Err}
use Rattle.std.proofs.Common.{sym, ap, ◌∙◌, arith}
use Rattle.lent.specs.declared.refusal.Refusal.{Refusal}
use Rattle.lent.specs.Rows.{zeros}
use Rattle.image.specs.View.{view}
use Rattle.image.proofs.ViewLaws.{view-length}
use Rattle.collect.specs.declared.stored.CollectCounts.{CollectCounts}
use Rattle.search_rules.specs.declared.Asked.{Asked}
use Rattle.search.specs.declared.SearchCounts.{SearchCounts}
use Rattle.search.specs.Outcome.{SearchLists, SearchFound}
use Rattle.listing.specs.Outcome.{FindAnswer, find_outcome}
use Rattle.listing.specs.OutcomeLaws.{search-done, search-refused, refused-is}
use Rattle.listing.specs.Ends.{ListsFound}
use Rattle.run.specs.declared.Settings.{Settings}
use Rattle.run.specs.Run.{Lent, Outcome, asked_of, cover, Answer}
use Rattle.libfind.specs.Ends.{given_lists, all_of, answer_by, concluded}

-- the cells are those of the view, as the code lends what is withheld
module _ (image library : List ℕ) (s : Settings) (c : CollectCounts) (lent : Lent) (short : length image ≤ 65536) {cells : List ℕ} (is : cells ≡ view image (cover s)) where
  abbrev before : SearchLists
  before = (given_lists lent).searched

  abbrev whole : Outcome
  whole = concluded c (find_outcome (view image (cover s)) (asked_of s) s.skip library c.segments (given_lists lent))

  seen : length cells ≤ 65536
  seen = omega (arith, ap length is, view-length image (cover s))

  module _ {asked : Asked} (ask : asked ≡ asked_of s) {answer : Result SearchCounts Refusal} {left : SearchLists} {positions goals : List ℕ}
      (found : SearchFound cells asked library c.segments before (record { answer = answer; left = left }) positions goals) where
    -- THE SEARCH IS DONE: its rows are listed
    pub listed_then : {rows : SearchCounts} → answer ≡ Ok rows
        → length left.placed ≡ length lent.placed → length left.noted ≡ length lent.noted
        → {r : FindAnswer} {left' : SearchLists} {lines' : List ℕ} → ListsFound cells asked s.skip library c.segments rows left positions goals lent.lines r left' lines'
        → {end : Answer} → end ≡ answer_by c r → record { answer = end; left = all_of (record { searched = left'; lines = lines' }) } ≡ whole
    listed_then {rows} d p q {r} {left'} {lines'} lists e =
        ap (λ x. record { answer = x; left = all_of (record { searched = left'; lines = lines' }) }) e
        ∙ ap (concluded c)
        (lists before seen (sym p) (sym q) (search-done cells asked library c.segments before seen rows left (ap (λ x. record { answer = x; left = left }) (sym d) ∙ found.same)) (found.sought rows d)
        ∙ ap (λ x. find_outcome cells x s.skip library c.segments (given_lists lent)) ask
        ∙ ap (λ x. find_outcome x (asked_of s) s.skip library c.segments (given_lists lent)) is)

    -- THE SEARCH IS REFUSED: nothing is listed, and the lines are zero too
    pub unlisted : {r : Refusal} → answer ≡ Err r → {lines' : List ℕ} → lines' ≡ zeros (length lent.lines)
        → record { answer = Err r; left = all_of (record { searched = left; lines = lines' }) } ≡ whole
    unlisted {r} d {lines'} z =
        ap (concluded c)
        (refused-is cells asked s.skip library c.segments (given_lists lent) seen r left lines'
        (search-refused cells asked library c.segments before seen r left (ap (λ x. record { answer = x; left = left }) (sym d) ∙ found.same)) z
        ∙ ap (λ x. find_outcome cells x s.skip library c.segments (given_lists lent)) ask
        ∙ ap (λ x. find_outcome x (asked_of s) s.skip library c.segments (given_lists lent)) is)
