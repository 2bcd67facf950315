-- Which reference of a match fails first at depth 1, asked of segments and references that are stored in rows.
use Rattle.std.specs.Prelude.{◌≡◌, ℕ, Bool, true, List, Ok}
use Rattle.std.proofs.Math.Option.{Option}
use Rattle.lent.specs.declared.part.Part.{Part}
use Rattle.image.specs.declared.fixup.Rules.{Rules}
use Rattle.image.specs.declared.fixup.Target.{Target}
use Rattle.segments.specs.declared.Goal.{Goal}
use Rattle.segments.specs.declared.Reference.{Reference}
use Rattle.segments.specs.Collect.{Collected}
use Rattle.segments.specs.SegmentLayouts.{reference_layout}
use Rattle.segments.specs.recalled.Recall.{rows_of, recalled}
use Rattle.search_rules.specs.declared.Why.{Why}
use Rattle.search_rules.specs.Search.{Checked, leads, failure, failed, failed_from}
use Rattle.search.specs.Store.{Stored}

-- at depth 1 a match to which a reference leads is not asked for more
abbrev pub at_once : Collected → ℕ → Bool
at_once g at = true

-- why a reference of a match at a position fails among some segments
abbrev pub why_of : List ℕ → Rules → ℕ → List Collected → Reference → Option Why
why_of cells rules position gs r = failure cells gs at_once r.goal (leads cells rules position r)

-- number k of the references, by its goal and target; the first of some references; and the first of a part of the rows.
-- The references and symbols that are stored with the segments do not matter
module _ (cells : List ℕ) (store : Stored) (n : ℕ) where
  abbrev pub FailsBy : ℕ → Goal → Target → Checked → Type 0
  FailsBy k goal t q = (references symbols : List ℕ) → q ≡ failed k (failure cells (recalled store.segments references symbols store.bytes store.masks n) at_once goal t) (Ok tt)

module _ (cells : List ℕ) (rules : Rules) (position : ℕ) (store : Stored) (n : ℕ) where
  abbrev pub FirstAmong : List Reference → Checked → Type 0
  FirstAmong rs q = (references symbols : List ℕ) → q ≡ failed_from (why_of cells rules position (recalled store.segments references symbols store.bytes store.masks n)) 0 rs

  abbrev pub FirstToFail : Part → Checked → Type 0
  FirstToFail part q = FirstAmong (rows_of reference_layout store.references part) q
