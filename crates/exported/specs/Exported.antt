-- What the exported functions give their callers: plain numbers instead of settings, answers and counts.
use Rattle.std.specs.Prelude.{ℕ, Bool, List, [], ◌∷◌, get_or, Ok, Err, Some, None, if◌then◌else◌}
use Rattle.lent.specs.Rows.{put_row}
use Rattle.image.specs.Cover.{no_stretches, gathered}
use Rattle.segments.specs.SegmentRows.{segment_width, reference_width, symbol_width}
use Rattle.search_rules.specs.SearchRows.{placed_width, noted_width}
use Rattle.describe.specs.Described.{Answer as Described}
use Rattle.listing_rules.specs.Listing.{SkipAmount, line_width}
use Rattle.printing.specs.PrintedText.{Printed}
use Rattle.run.specs.declared.Settings.{Settings}
use Rattle.run.specs.declared.Counts.{Counts}
use Rattle.run.specs.Run.{Lent, Outcome, run, number_of, counts_of, Answer}

-- the skip amount, if there is one
abbrev pub skip_of : Bool → ℕ → SkipAmount
skip_of skips amount = if skips then Some amount else None

-- the settings: rule set, edition, to what depth references are checked, minimum, whether there is a skip amount and which,
-- and the stretches as pairs of numbers
abbrev pub settings_of : ℕ → ℕ → ℕ → ℕ → Bool → ℕ → List ℕ → Settings
settings_of rules edition depth minimum skips amount numbers = record {
  rules = rules;
  edition = edition;
  depth = depth;
  minimum = minimum;
  skip = skip_of skips amount;
  withheld = gathered no_stretches numbers;
}

-- the seven counts, in their order
abbrev pub count_numbers : Counts → List ℕ
count_numbers c = c.segments ∷ c.references ∷ c.symbols ∷ c.pattern ∷ c.placed ∷ c.noted ∷ c.lines ∷ []

-- the lent counts afterwards: an answer's seven counts in the first seven places, if there are as many
unfoldable pub counts_in : List ℕ → Answer → List ℕ
counts_in counts a = put_row 7 counts 0 (count_numbers (counts_of a))

-- what the caller of the whole run gets: the number, the counts, and the lent lists
pub record Handed : Type 0 where
  pub number : ℕ
  pub counts : List ℕ
  pub left : Lent

-- what the caller gets of a run's outcome
unfoldable pub handed : List ℕ → Outcome → Handed
handed counts o = record { number = number_of o.answer; counts = counts_in counts o.answer; left = o.left }

-- what the caller gets of the run on an image and a library
unfoldable pub handed_run : List ℕ → List ℕ → Settings → List ℕ → Lent → Handed
handed_run image library s counts lent = handed counts (run image library s lent)

-- the length of a printed text; 0 if it did not fit
abbrev pub size_of : Printed → ℕ
size_of (Ok n) = n
size_of (Err e) = 0

-- that length, and the buffer
abbrev pub written_in : Printed × List ℕ → ℕ × List ℕ
written_in p = (size_of p.0, p.1)

-- the length of a description: 0 if the name has none, the largest number of 64 bits if it did not fit
abbrev pub length_of : Described → ℕ
length_of (Ok (Some n)) = n
length_of (Err e) = 0xFFFFFFFFFFFFFFFF
length_of (Ok None) = 0

-- that length, and the buffer
abbrev pub said_in : Described × List ℕ → ℕ × List ℕ
said_in p = (length_of p.0, p.1)

-- how many numbers or bytes a row of each lent list has, in the order in which the lists are lent
abbrev pub widths : List ℕ
widths = segment_width ∷ reference_width ∷ symbol_width ∷ 1 ∷ 1 ∷ placed_width ∷ noted_width ∷ line_width ∷ []

-- the width of a list's rows; 0 for a list that is not lent
abbrev pub width_of : ℕ → ℕ
width_of list = get_or widths list 0
