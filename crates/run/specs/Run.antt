-- The whole run: what is lent, the stages, the order of the refusals, the answer, and what is left in lent memory.
use Rattle.std.specs.Prelude.{ℕ, Bool, ◌||◌, List, [], ◌∷◌, ltb, length, Result, Ok, Err, if◌then◌else◌}
use Rattle.std.proofs.Math.Option.{Option, none, some}
use Rattle.lent.specs.declared.refusal.Refusal.{Refusal}
use Rattle.lent.specs.declared.refusal.Refusal.TheVariants.{RuleSet, ImageTooLong, LibraryTooLong, TooManyStretches, StretchPastEnd, TooFewRows, TooDeep, OtherEdition}
use Rattle.lent.specs.Choice.{when, leading}
use Rattle.lent.specs.Lists.{total}
use Rattle.lent.specs.Refusals.{refusal_number, zeroes}
use Rattle.lent.specs.Rows.{zeros, padded, too_many}
use Rattle.image.specs.declared.Stretch.{Stretch}
use Rattle.image.specs.View.{view}
use Rattle.image.specs.Cover.{too_many_stretches, cover_of, passes_end}
use Rattle.image.specs.fixup.Target.{rules_of}
use Rattle.omf51.specs.Record.{edition_of}
use Rattle.omf51.specs.Module.{Module}
use Rattle.omf51.specs.Reader.{ReadOutcome}
use Rattle.omf51.specs.File.{file_by, file_refusal, modules_in}
use Rattle.segments.specs.Collect.{Collected, collect}
use Rattle.segments.specs.Refuse.{collect_refusal}
use Rattle.segments.specs.SegmentRows.{segment_width, reference_width, symbol_width, segment_numbers, reference_numbers, symbol_numbers, pattern_bytes, pattern_masks}
use Rattle.search_rules.specs.declared.Asked.{Asked}
use Rattle.search_rules.specs.Search.{Placing, Noting, placed, noted}
use Rattle.search_rules.specs.SearchRows.{placed_width, noted_width, placed_numbers, noted_numbers}
use Rattle.listing_rules.specs.declared.Line.{Line}
use Rattle.listing_rules.specs.Listing.{listing, line_width, line_numbers}
use Rattle.run.specs.declared.Settings.{Settings}
use Rattle.run.specs.declared.Counts.{Counts}

-- the eight lent lists of numbers: the rows of each stage, the pattern bytes and the masks
pub record Lent : Type 0 where
  pub segments : List ℕ
  pub references : List ℕ
  pub symbols : List ℕ
  pub bytes : List ℕ
  pub masks : List ℕ
  pub placed : List ℕ
  pub noted : List ℕ
  pub lines : List ℕ

-- the lent lists, put together
abbrev pub lent_lists : List ℕ → List ℕ → List ℕ → List ℕ → List ℕ → List ℕ → List ℕ → List ℕ → Lent
lent_lists segments references symbols bytes masks placed noted lines =
    record { segments = segments; references = references; symbols = symbols; bytes = bytes; masks = masks; placed = placed; noted = noted; lines = lines }

-- what the stages give
pub record Yield : Type 0 where
  pub segments : List Collected
  pub placed : List Placing
  pub noted : List Noting
  pub lines : List Line

-- the answer of a run: its counts, or a refusal
abbrev pub Answer : Type 0
Answer = Result Counts Refusal

-- what a run comes to: the answer, and the lent lists afterwards
pub record Outcome : Type 0 where
  pub answer : Answer
  pub left : Lent

-- the stretches that the settings withhold
abbrev pub cover : Settings → List Stretch
cover s = cover_of s.withheld

-- what the settings ask of the search
abbrev pub asked_of : Settings → Asked
asked_of s = record { rules = rules_of s.rules; depth = s.depth; minimum = s.minimum }

-- the library, read in the edition of the settings
abbrev pub library_read : List ℕ → Settings → ReadOutcome (List Module)
library_read library s = file_by (edition_of s.edition) library

-- its segments
abbrev pub segments_of : List ℕ → Settings → List Collected
segments_of library s = collect (rules_of s.rules) library (modules_in (library_read library s))

-- the stages, one after another, on the cells of a view: reading and collecting, searching, listing
unfoldable pub stages : List ℕ → List ℕ → Settings → Yield
stages cells library s =
    let a : Asked = asked_of s in
    let segments = segments_of library s in
    let p = placed library cells a segments in
    let n = noted library cells a segments in
    record { segments = segments; placed = p; noted = n; lines = listing library cells a s.skip segments p n }

-- the seven counts: rows and pattern bytes of the segments, and so many rows and lines of the later stages
abbrev pub counts_with : List Collected → ℕ → ℕ → ℕ → Counts
counts_with gs placed noted lines = record {
  segments = length gs;
  references = total (λ g. length g.references) gs;
  symbols = total (λ g. length g.symbols) gs;
  pattern = total (λ g. length g.bytes) gs;
  placed = placed;
  noted = noted;
  lines = lines;
}

-- the counts of what the stages give
unfoldable pub counted : Yield → Counts
counted y = counts_with y.segments (length y.placed) (length y.noted) (length y.lines)

-- refusal 9 for the collection: it gives more rows or pattern bytes than were lent; each pattern byte takes a byte and a mask
abbrev pub collect_over : Lent → Counts → Bool
collect_over lent c =
    too_many segment_width lent.segments c.segments
    || (too_many reference_width lent.references c.references
    || (too_many symbol_width lent.symbols c.symbols || (too_many 1 lent.bytes c.pattern || too_many 1 lent.masks c.pattern)))

-- refusal 9 for the search: it gives more rows than were lent
abbrev pub search_over : Lent → Counts → Bool
search_over lent c = too_many placed_width lent.placed c.placed || too_many noted_width lent.noted c.noted

-- refusal 9 for the list: it has more lines than were lent
abbrev pub list_over : Lent → Counts → Bool
list_over lent c = too_many line_width lent.lines c.lines

-- the edition is not 1 or 2
abbrev pub other_edition : ℕ → Bool
other_edition n = ltb n 1 || ltb 2 n

-- references can be checked to depth 4 at most
abbrev pub too_deep : ℕ → Bool
too_deep depth = ltb 4 depth

-- an image's own refusal, by its length
abbrev pub too_long : ℕ → Option Refusal
too_long size = when (ltb 65536 size) ImageTooLong

-- the refusals of a run in their order, of which the first that applies counts: by the refusal that is the image's own, its
-- length, and the counts of what has to fit into lent memory
unfoldable pub refusals : Option Refusal → ℕ → List ℕ → Settings → Lent → Counts → List (Option Refusal)
refusals own size library s lent c =
    when (ltb 1 s.rules) RuleSet
    ∷ when (other_edition s.edition) OtherEdition
    ∷ when (too_deep s.depth) TooDeep
    ∷ own
    ∷ when (ltb 1048576 (length library)) LibraryTooLong
    ∷ when (too_many_stretches s.withheld) TooManyStretches
    ∷ when (passes_end size (cover s)) StretchPastEnd
    ∷ file_refusal (library_read library s)
    ∷ when (collect_over lent c) TooFewRows
    ∷ collect_refusal (modules_in (library_read library s))
    ∷ when (search_over lent c) TooFewRows
    ∷ when (list_over lent c) TooFewRows
    ∷ []

-- the lent lists set to zero
unfoldable pub zeroed : Lent → Lent
zeroed lent = record {
  segments = zeros (length lent.segments);
  references = zeros (length lent.references);
  symbols = zeros (length lent.symbols);
  bytes = zeros (length lent.bytes);
  masks = zeros (length lent.masks);
  placed = zeros (length lent.placed);
  noted = zeros (length lent.noted);
  lines = zeros (length lent.lines);
}

-- the lent lists filled with what the stages give, and zeros behind
unfoldable pub filled_with : List ℕ → Yield → Lent → Lent
filled_with library y lent = record {
  segments = padded (length lent.segments) (segment_numbers y.segments);
  references = padded (length lent.references) (reference_numbers y.segments);
  symbols = padded (length lent.symbols) (symbol_numbers y.segments);
  bytes = padded (length lent.bytes) (pattern_bytes y.segments);
  masks = padded (length lent.masks) (pattern_masks y.segments);
  placed = padded (length lent.placed) (placed_numbers library y.placed);
  noted = padded (length lent.noted) (noted_numbers library y.noted);
  lines = padded (length lent.lines) (line_numbers y.lines);
}

-- what a refusal leaves: 9 to 13 set all lent lists to zero, every other writes nothing
abbrev pub left_by : Refusal → Lent → Lent
left_by r lent = if zeroes r then zeroed lent else lent

-- the outcome of a run with a refusal or without
abbrev pub outcome_of : List ℕ → Option Refusal → Yield → Lent → Outcome
outcome_of library none y lent = record { answer = Ok (counted y); left = filled_with library y lent }
outcome_of library (some r) y lent = record { answer = Err r; left = left_by r lent }

-- the outcome of a run by its refusals and by what the stages give
abbrev pub run_by : Option Refusal → ℕ → List ℕ → Settings → Lent → Counts → Yield → Outcome
run_by own size library s lent c y = outcome_of library (leading (refusals own size library s lent c)) y lent

-- the run on the cells of a view, which is as long as the image
unfoldable pub run_seen : List ℕ → List ℕ → Settings → Lent → Outcome
run_seen cells library s lent =
    let y = stages cells library s in
    run_by (too_long (length cells)) (length cells) library s lent (counted y) y

-- THE RUN on an image: it sees only the view, in which the stretches are withheld
unfoldable pub run : List ℕ → List ℕ → Settings → Lent → Outcome
run image library s lent = run_seen (view image (cover s)) library s lent

-- the number of an answer: 0, or that of the refusal
abbrev pub number_of : Answer → ℕ
number_of (Ok c) = 0
number_of (Err r) = refusal_number r

-- the counts of a refusal: all zero
abbrev pub no_counts : Counts
no_counts = record { segments = 0; references = 0; symbols = 0; pattern = 0; placed = 0; noted = 0; lines = 0 }

-- the counts of an answer
abbrev pub counts_of : Answer → Counts
counts_of (Ok c) = c
counts_of (Err r) = no_counts
