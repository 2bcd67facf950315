-- Whether a match holds to a depth, and which of its references fails first there, asked of segments and references that are
-- stored in rows; and that a table of answers tells the truth. The symbols that are stored with the segments do not matter.
use Rattle.std.specs.Prelude.{◌≡◌, ℕ, ◌/◌, ◌%◌, ◌<◌, Bool, not, List, ◌==◌, slice_index, Ok}
use Rattle.std.proofs.Math.Option.{Option}
use Rattle.lent.specs.declared.part.Part.{Part}
use Rattle.image.specs.declared.fixup.Rules.{Rules}
use Rattle.image.specs.declared.fixup.Target.{Target}
use Rattle.segments.specs.declared.SegmentNumber.{SegmentNumber}
use Rattle.segments.specs.declared.Goal.{Goal}
use Rattle.segments.specs.declared.Reference.{Reference}
use Rattle.segments.specs.Collect.{Collected}
use Rattle.segments.specs.SegmentLayouts.{reference_layout}
use Rattle.segments.specs.recalled.Recall.{rows_of, recalled}
use Rattle.search_rules.specs.declared.Why.{Why}
use Rattle.search_rules.specs.Search.{Checked, leads, segment_of, holds_to, failure, failed, failed_from, failed_to}
use Rattle.search.specs.Store.{Stored}

-- why a reference of a match at a position fails at depth d + 1
abbrev pub why_to : List ℕ → Rules → List Collected → ℕ → ℕ → Reference → Option Why
why_to cells rules gs d position r = failure cells gs (λ h at. holds_to cells rules gs d h at) r.goal (leads cells rules position r)

module _ (cells : List ℕ) (rules : Rules) (store : Stored) (n : ℕ) where
  -- the segments that are stored
  abbrev pub among : List ℕ → List Collected
  among symbols = recalled store.segments store.references symbols store.bytes store.masks n

  -- an answer at a place tells the truth: to its depth, if that is above 0, whether the match of its segment there holds
  abbrev pub Tells : ℕ → ℕ → Type 0
  Tells at answer =
      (symbols : List ℕ) → 0 < answer / 2 % 4
      → holds_to cells rules (among symbols) (answer / 2 % 4) (segment_of (among symbols) (record { 0 = answer / 8 })) at ≡ (answer % 2 == 1)

  -- and so does each answer of a table
  abbrev pub Told : List ℕ → Type 0
  Told m = (i : ℕ) → Tells i (slice_index m i)

  -- the answer for the match of a segment at a place
  abbrev pub HoldsSo : ℕ → SegmentNumber → ℕ → Bool → Type 0
  HoldsSo depth number at r = (symbols : List ℕ) → r ≡ holds_to cells rules (among symbols) depth (segment_of (among symbols) number) at

  -- for number k of the references of a match, by its goal and target, at depth below + 1
  abbrev pub FailsAt : ℕ → ℕ → Goal → Target → Checked → Type 0
  FailsAt below k goal t q = (symbols : List ℕ) → q ≡ failed k (failure cells (among symbols) (λ h at. holds_to cells rules (among symbols) below h at) goal t) (Ok tt)

  -- for the references in a part of the rows
  abbrev pub FailsAmong : ℕ → ℕ → Part → Checked → Type 0
  FailsAmong below position part q = (symbols : List ℕ) → q ≡ failed_from (why_to cells rules (among symbols) below position) 0 (rows_of reference_layout store.references part)

  -- a segment has the references in a part of the rows
  abbrev pub Refers : Part → Collected → Type 0
  Refers part g = g.references ≡ rows_of reference_layout store.references part

  -- the segment of a number, if there is one, has the references in a part of the rows
  abbrev pub Carries : SegmentNumber → Part → Type 0
  Carries number part = (symbols : List ℕ) → number.0 < n → Refers part (segment_of (among symbols) number)

  -- the first that fails at a depth, of a match of such a segment; and whether the match holds there
  abbrev pub FailsTo : ℕ → ℕ → Part → Checked → Type 0
  FailsTo depth position part q = (symbols : List ℕ) (g : Collected) → Refers part g → q ≡ failed_to cells rules (among symbols) depth g position

  abbrev pub KeepsOut : ℕ → ℕ → Part → Bool → Type 0
  KeepsOut depth position part r = (symbols : List ℕ) (g : Collected) → Refers part g → r ≡ not (holds_to cells rules (among symbols) depth g position)
