-- What a run comes to once the library is read: by the collection, and then by search and list.
use Rattle.std.specs.Prelude.{ℕ, ◌≤◌, ◌<◌, ◌≡◌, false, List, [], ◌∷◌, length, Ok, Err}
use Rattle.std.proofs.Math.Option.{Option, none}
use Rattle.lent.specs.declared.refusal.Refusal.{Refusal}
use Rattle.lent.specs.declared.refusal.Refusal.TheVariants.{TooFewRows}
use Rattle.lent.specs.Choice.{when, leading}
use Rattle.tables.specs.by_name.Heads.{head_count, head_limit}
use Rattle.image.specs.View.{view}
use Rattle.omf51.specs.File.{modules_in}
use Rattle.segments.specs.Refuse.{collect_refusal}
use Rattle.search.specs.visit.Visits.{stored}
use Rattle.collect.specs.declared.stored.CollectCounts.{CollectCounts as Stored}
use Rattle.collect.specs.stored.Stores.{CollectLists as Collectable}
use Rattle.collect.specs.Outcome.{counted_in, collect_filled}
use Rattle.listing.specs.Outcome.{FindAnswer, FindLists, FindOutcome as Finding, find_outcome}
use Rattle.run.specs.declared.Settings.{Settings}
use Rattle.run.specs.declared.Counts.{Counts}
use Rattle.run.specs.Run.{Lent, Outcome, asked_of, library_read, segments_of, counts_with, collect_over, search_over, list_over, too_long, run, cover, Answer}
use Rattle.libfind.specs.Begin.{Begun}

-- the five lists that are lent to the collection
abbrev pub collectable : Lent → Collectable
collectable l = record { segments = l.segments; references = l.references; symbols = l.symbols; bytes = l.bytes; masks = l.masks }

-- the lists that are lent to search and list, once those of the collection are filled
abbrev pub findable : Collectable → Lent → FindLists
findable filled l = record {
  searched = record {
    stored = stored filled.segments filled.references filled.symbols filled.bytes filled.masks;
    placed = l.placed;
    noted = l.noted;
  };
  lines = l.lines;
}

-- the lists that are lent to search and list, all as they are
abbrev pub given_lists : Lent → FindLists
given_lists l = findable (collectable l) l

-- all lent lists of the run, from those of search and list
abbrev pub all_of : FindLists → Lent
all_of l = record {
  segments = l.searched.stored.segments;
  references = l.searched.stored.references;
  symbols = l.searched.stored.symbols;
  bytes = l.searched.stored.bytes;
  masks = l.searched.stored.masks;
  placed = l.searched.placed;
  noted = l.searched.noted;
  lines = l.lines;
}

-- the answer of the run, from the counts of the collection and the answer of search and list
abbrev pub answer_by : Stored → FindAnswer → Answer
answer_by c (Ok f) =
    Ok (record {
      segments = c.segments;
      references = c.references;
      symbols = c.symbols;
      pattern = c.pattern;
      placed = f.placed;
      noted = f.noted;
      lines = f.lines;
    })
answer_by c (Err r) = Err r

-- the outcome of the run, from the counts of the collection and the outcome of search and list
abbrev pub concluded : Stored → Finding → Outcome
concluded c o = record { answer = answer_by c o.answer; left = all_of o.left }

-- 9 for what is found: for the search, and then for the list
unfoldable pub finding_by : Lent → Counts → Option Refusal
finding_by lent c = leading (when (search_over lent c) TooFewRows ∷ when (list_over lent c) TooFewRows ∷ [])

-- the segments are collected: these are the counts and the five lists as they are left, and neither 9 for the collection nor one of 10 to 13 applies
pub record Filled (library : List ℕ) (s : Settings) (lent : Lent) (c : Stored) (left : Collectable) : Type 0 where
  pub counts-are : c ≡ counted_in (segments_of library s)
  pub lists-are : left ≡ collect_filled (segments_of library s) (collectable lent)
  pub room : collect_over lent (counts_with (segments_of library s) 0 0 0) ≡ false
  pub tested : collect_refusal (modules_in (library_read library s)) ≡ none

-- the run once the segments are collected: the search, and then the list
abbrev pub FindsCollected : List ℕ → List ℕ → Settings → Stored → Lent → Answer → Lent → Type 0
FindsCollected image library s c before r after =
    length image ≤ 65536
    → record { answer = r; left = after } ≡ concluded c (find_outcome (view image (cover s)) (asked_of s) s.skip library c.segments (given_lists before))

-- the same with so many heads, if they are enough for the lists of the search
abbrev pub FindsByHeads : ℕ → List ℕ → List ℕ → Settings → Stored → Lent → Answer → Lent → Type 0
FindsByHeads n image library s c before r after =
    head_count ≤ n → length before.placed < head_limit n → length before.noted < head_limit n → FindsCollected image library s c before r after

-- the run from the place of the first module on
abbrev pub FindsFrom : List ℕ → List ℕ → Settings → ℕ → Lent → Answer → Lent → Type 0
FindsFrom image library s first before r after = Begun (too_long (length image)) (length image) library s first → record { answer = r; left = after } ≡ run image library s before
