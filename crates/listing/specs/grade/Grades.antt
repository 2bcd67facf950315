-- The grade of a placed symbol, asked of rows in memory: whether a name is placed or noted somewhere is found by links.
use Rattle.std.specs.Prelude.{ℕ, ◌+◌, Bool, true, not, ◌||◌, List, [], eqb, ltb, if◌then◌else◌}
use Rattle.lent.specs.declared.part.Part.{Part}
use Rattle.lent.specs.Lists.{all}
use Rattle.lent.specs.Parts.{bytes_of}
use Rattle.image.specs.declared.fixup.Rules.{Rules}
use Rattle.image.specs.declared.fixup.Target.{Target}
use Rattle.image.specs.declared.fixup.Target.TheVariants.{At, PastEnd, Withheld}
use Rattle.image.specs.fixup.Target.{target}
use Rattle.segments.specs.declared.Goal.{Goal}
use Rattle.segments.specs.declared.Reference.{Reference}
use Rattle.segments.specs.SegmentLayouts.{reference_layout, segment_row_at}
use Rattle.tables.specs.by_name.Sheet.{key_buckets, name_bucket}
use Rattle.tables.specs.by_name.Heads.{head_at}
use Rattle.tables.specs.by_name.Tables.{followed}
use Rattle.segments.specs.recalled.Recall.{rows_of}
use Rattle.search_rules.specs.declared.Placed.{Placed}

-- a row of this key and name is found from their bucket's head
abbrev pub is_found : List ℕ → ℕ → List ℕ → List ℕ → ℕ → Part → Bool
is_found library width m heads key name =
    not (eqb (followed library width m key name (head_at heads (key_buckets + name_bucket key (bytes_of library name)))) 0)

-- what a public reference asks: that its name is at the target; without a target it asks nothing, nor does one to a segment
abbrev pub asks_of : (ℕ → Part → Bool) → Goal → Target → Bool
asks_of there goal PastEnd = true
asks_of there goal Withheld = true
asks_of there (Goal.Segment number) (At t) = true
asks_of there (Goal.Name name) (At t) = there t name

abbrev pub bears_out : (ℕ → Part → Bool) → List ℕ → Rules → ℕ → Reference → Bool
bears_out there cells rules base r = asks_of there r.goal (target cells rules (base + r.place) r.kind r.offset)

-- the references of the segment of a number, none where there is no such segment
abbrev pub references_of : List ℕ → List ℕ → ℕ → ℕ → List Reference
references_of segments references n i = if ltb i n then rows_of reference_layout references (segment_row_at segments i).references else []

-- by whether the symbol is valid, whether it is noted where it stands, and whether its references are borne out; 0 if it is dropped
abbrev pub grade_by : Bool → Bool → Bool → ℕ
grade_by valid noted borne = if valid || noted then (if not borne then 1 else if noted then 3 else 2) else 0

-- the name of a row is noted where it stands
abbrev pub is_noted_row : List ℕ → List ℕ → List ℕ → Placed → Bool
is_noted_row library noted goals row = is_found library 6 noted goals row.position row.name

-- all public references of a match ask for what is there; and the grade of a row, 0 for a symbol that is dropped
module _ (cells library : List ℕ) (rules : Rules) (segments references : List ℕ) (n : ℕ) (placed positions : List ℕ) where
  abbrev pub is_borne : ℕ → ℕ → Bool
  is_borne i base = all (bears_out (is_found library 8 placed positions) cells rules base) (references_of segments references n i)

  abbrev pub row_grade : List ℕ → List ℕ → Placed → ℕ
  row_grade noted goals row = grade_by row.valid (is_noted_row library noted goals row) (is_borne row.segment.0 row.base)
