-- Document 01's table of refusals, and those that later requests add, as conditions on what goes into a run. This file states them; Refused.antt proves them.
use Rattle.std.specs.Prelude.{ℕ, ◌*◌, ◌≤◌, ◌<◌, ◌⊎◌, List, length}
use Rattle.lent.specs.declared.refusal.Refusal.{Refusal}
use Rattle.lent.specs.declared.refusal.Refusal.TheVariants.{RuleSet, ImageTooLong, LibraryTooLong, StretchPastEnd, NoModule, BodyPastEnd, LengthZero, NamesDiffer, TooFewRows, UnknownKind}
use Rattle.lent.specs.declared.refusal.Refusal.TheVariants.{UnknownBlock, ContentPastSegment, NoKeptSegment, WrongSum, LeftOver, TooManyStretches, TooDeep, NotBanked, OtherEdition}
use Rattle.lent.specs.FirstOf.{Quiet, First}
use Rattle.image.specs.View.{view}
use Rattle.image.proofs.CoverLaws.{SomePasses, AllFit}
use Rattle.omf51.specs.declared.Edition.{Edition}
use Rattle.omf51.specs.Record.{edition_of}
use Rattle.omf51.specs.File.{modules_in}
use Rattle.omf51.specs.Reaches.{NothingRead, BodyPasses, LengthIsZero, NamesApart, SumIsWrong, LeavesOver, FileRead}
use Rattle.segments.specs.Refuse.{Test, test_refusal, tests}
use Rattle.segments.proofs.RefuseLaws.{KindAbove, BlockAbove, PastSegment, NowhereKept}
use Rattle.segments.specs.SegmentRows.{segment_width, reference_width, symbol_width}
use Rattle.search_rules.specs.SearchRows.{placed_width, noted_width}
use Rattle.listing_rules.specs.Listing.{line_width}
use Rattle.run.specs.declared.Settings.{Settings}
use Rattle.run.specs.declared.Counts.{Counts}
use Rattle.run.specs.Run.{Lent, library_read, stages, counted, cover}

-- n rows of a width do not fit into what was lent
abbrev pub Over : ℕ → List ℕ → ℕ → Type 0
Over width lent n = length lent < n * width

-- the rows or pattern bytes of the collection do not fit
abbrev pub CollectionOver : Lent → Counts → Type 0
CollectionOver lent c =
    Over segment_width lent.segments c.segments ⊎ Over reference_width lent.references c.references
    ⊎ Over symbol_width lent.symbols c.symbols ⊎ Over 1 lent.bytes c.pattern ⊎ Over 1 lent.masks c.pattern

-- the rows of the search do not fit
abbrev pub SearchOver : Lent → Counts → Type 0
SearchOver lent c = Over placed_width lent.placed c.placed ⊎ Over noted_width lent.noted c.noted

-- the lines do not fit
abbrev pub ListOver : Lent → Counts → Type 0
ListOver lent c = Over line_width lent.lines c.lines

-- the edition is not 1 or 2
abbrev pub NoEdition : ℕ → Type 0
NoEdition n = (n < 1) ⊎ (2 < n)

-- what an image's own refusal is in words, by what is searched: a single image has 2 and never 18, a board of switched banks 18
-- and never 2; and when neither applies
pub record Shape : Type 1 where
  pub size : ℕ
  pub Long : Type 0
  pub Unbanked : Type 0
  pub Fine : Type 0

-- a single image of so many bytes
abbrev pub single : ℕ → Shape
single size = record { size = size; Long = 65536 < size; Unbanked = ⊥; Fine = size ≤ 65536 }

-- none of refusals 1, 30, 17, the image's own, 3, 16 and 4 applies
pub record AcceptedBy (Fine : Type 0) (size : ℕ) (library : List ℕ) (s : Settings) : Type 0 where
  pub rule-set : s.rules ≤ 1
  pub edition : NoEdition s.edition → ⊥
  pub shallow : s.depth ≤ 4
  pub image-fits : Fine
  pub library-fits : length library ≤ 1048576
  pub few : s.withheld.count ≤ 16
  pub stretches-fit : AllFit size (cover s)

-- for what is searched, a library, settings, lent lists, and the counts of what has to fit into these: when each refusal is given, with all
-- earlier ones ruled out
module _ (h : Shape) (library : List ℕ) (s : Settings) (lent : Lent) (counts : Counts) where
  -- the library, in the edition of the settings
  abbrev pub e : Edition
  e = edition_of s.edition

  abbrev pub SettingsFine : Type 0
  SettingsFine = AcceptedBy h.Fine h.size library s

  -- what comes before the tests of 10 to 13: the settings are accepted, the file is read, no 9 for the collection
  pub record ReachedBy : Type 0 where
    pub accepted : AcceptedBy h.Fine h.size library s
    pub all_read : FileRead e library
    pub room : CollectionOver lent counts → ⊥

  -- the first test in file order that refuses does so in this case
  abbrev pub FirstTest : (Test → Type 0) → Type 0
  FirstTest Case = First test_refusal Case (tests (modules_in (library_read library s)))

  -- 9 for the collection; or, once none of 10 to 13 applies, for the search or the listing
  abbrev pub TooLittleBy : Type 0
  TooLittleBy =
      (SettingsFine × FileRead e library × CollectionOver lent counts)
      ⊎ (ReachedBy × Quiet test_refusal (tests (modules_in (library_read library s))) × (SearchOver lent counts ⊎ ListOver lent counts))

  -- DOCUMENT 01'S TABLE, "Given exactly when", with what later requests add
  abbrev pub GivenBy : Refusal → Type 0
  GivenBy RuleSet = 1 < s.rules
  GivenBy OtherEdition = (s.rules ≤ 1) × NoEdition s.edition
  GivenBy TooDeep = (s.rules ≤ 1) × (NoEdition s.edition → ⊥) × (4 < s.depth)
  GivenBy ImageTooLong = (s.rules ≤ 1) × (NoEdition s.edition → ⊥) × (s.depth ≤ 4) × h.Long
  GivenBy NotBanked = (s.rules ≤ 1) × (NoEdition s.edition → ⊥) × (s.depth ≤ 4) × h.Unbanked
  GivenBy LibraryTooLong = (s.rules ≤ 1) × (NoEdition s.edition → ⊥) × (s.depth ≤ 4) × h.Fine × (1048576 < length library)
  GivenBy TooManyStretches =
      (s.rules ≤ 1) × (NoEdition s.edition → ⊥) × (s.depth ≤ 4) × h.Fine × (length library ≤ 1048576) × (16 < s.withheld.count)
  GivenBy StretchPastEnd =
      (s.rules ≤ 1) × (NoEdition s.edition → ⊥) × (s.depth ≤ 4) × h.Fine × (length library ≤ 1048576) × (s.withheld.count ≤ 16)
      × SomePasses h.size (cover s)
  GivenBy NoModule = SettingsFine × NothingRead e library
  GivenBy BodyPastEnd = SettingsFine × BodyPasses e library
  GivenBy LengthZero = SettingsFine × LengthIsZero e library
  GivenBy NamesDiffer = SettingsFine × NamesApart e library
  GivenBy WrongSum = SettingsFine × SumIsWrong e library
  GivenBy LeftOver = SettingsFine × LeavesOver e library
  GivenBy TooFewRows = TooLittleBy
  GivenBy UnknownKind = ReachedBy × FirstTest KindAbove
  GivenBy UnknownBlock = ReachedBy × FirstTest BlockAbove
  GivenBy ContentPastSegment = ReachedBy × FirstTest PastSegment
  GivenBy NoKeptSegment = ReachedBy × FirstTest NowhereKept

  -- 0: done, where none of them applies
  pub record NothingRefusedBy : Type 0 where
    pub reached : ReachedBy
    pub tested : Quiet test_refusal (tests (modules_in (library_read library s)))
    pub searched : SearchOver lent counts → ⊥
    pub listed : ListOver lent counts → ⊥

-- the same for a run on a single image
abbrev pub Accepted : List ℕ → List ℕ → Settings → Type 0
Accepted image library s = AcceptedBy (length image ≤ 65536) (length image) library s

abbrev pub counts : List ℕ → List ℕ → Settings → Counts
counts image library s = counted (stages (view image (cover s)) library s)

abbrev pub Given : List ℕ → List ℕ → Settings → Lent → Refusal → Type 0
Given image library s lent = GivenBy (single (length image)) library s lent (counts image library s)

abbrev pub NothingRefused : List ℕ → List ℕ → Settings → Lent → Type 0
NothingRefused image library s lent = NothingRefusedBy (single (length image)) library s lent (counts image library s)
