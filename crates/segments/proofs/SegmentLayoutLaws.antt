-- The collection's rows have their widths, and are read back as they were written. Assumes nothing.
use Rattle.std.specs.Prelude.{ℕ, ◌+◌, ◌*◌, ◌≤◌, ◌≡◌, refl, List, [], ◌∷◌, length}
use Rattle.lent.specs.Rows.{put_row}
use Rattle.lent.specs.RowLaws.{Wide, Back, get-put}
use Rattle.image.specs.declared.Seat.{Seat}
use Rattle.image.specs.declared.Seat.TheVariants.{Anywhere, Only}
use Rattle.image.specs.declared.fixup.Kind.{Kind}
use Rattle.image.specs.declared.fixup.Kind.TheVariants.{Relative, Word, Inblock}
use Rattle.image.specs.fixup.Target.{kind_number}
use Rattle.segments.specs.declared.Goal.{Goal}
use Rattle.segments.specs.declared.Reference.{Reference}
use Rattle.segments.specs.declared.Symbol.{Symbol}
use Rattle.segments.specs.declared.SegmentRow.{SegmentRow}
use Rattle.segments.specs.SegmentRows.{segment_width, reference_width, symbol_width, seat_cells, goal_cells, segment_cells, reference_cells, symbol_cells}
use Rattle.segments.proofs.SegmentRowLaws.{segment-wide, reference-wide}
use Rattle.segments.specs.SegmentLayouts.{seat_from, kind_from, goal_from, seat_pair, goal_triple, segment_layout, reference_layout, symbol_layout, segment_row_at, reference_at, symbol_at}

-- a case's numbers, one by one
pub seat-cells : (seat : Seat) (rest : List ℕ) → seat_cells seat rest ≡ (seat_pair seat).tag ∷ (seat_pair seat).held ∷ rest
seat-cells Anywhere rest = refl
seat-cells (Only address) rest = refl

pub goal-cells : (goal : Goal) → goal_cells goal ≡ (goal_triple goal).tag ∷ (goal_triple goal).first ∷ (goal_triple goal).second ∷ []
goal-cells (Goal.Segment number) = refl
goal-cells (Goal.Name name) = refl

pub segment-width : Wide segment_layout
segment-width = segment-wide

pub reference-width : Wide reference_layout
reference-width = reference-wide

pub symbol-width : Wide symbol_layout
symbol-width y = refl

-- each is read back
seat-back : (seat : Seat) → seat_from (seat_pair seat).tag (seat_pair seat).held ≡ seat
seat-back Anywhere = refl
seat-back (Only address) = refl

goal-back : (goal : Goal) → goal_from (goal_triple goal).tag (goal_triple goal).first (goal_triple goal).second ≡ goal
goal-back (Goal.Segment number) = refl
goal-back (Goal.Name name) = refl

kind-back : (kind : Kind) → kind_from (kind_number kind) ≡ kind
kind-back Relative = refl
kind-back Word = refl
kind-back Inblock = refl

pub segment-back : (r : SegmentRow) → Back segment_layout r
segment-back r = rw (seat-cells, seat-back)

pub reference-back : (r : Reference) → Back reference_layout r
reference-back r = rw (goal-cells, goal-back, kind-back)

pub symbol-back : (y : Symbol) → Back symbol_layout y
symbol-back y = refl

-- what is put is got
pub segment-kept : (m : List ℕ) (i : ℕ) (r : SegmentRow) → i * segment_width + segment_width ≤ length m → segment_row_at (put_row segment_width m i (segment_cells r)) i ≡ r
segment-kept m i r h = get-put segment_layout segment-width m i r h (segment-back r)

pub reference-kept : (m : List ℕ) (i : ℕ) (r : Reference) → i * reference_width + reference_width ≤ length m → reference_at (put_row reference_width m i (reference_cells r)) i ≡ r
reference-kept m i r h = get-put reference_layout reference-width m i r h (reference-back r)

pub symbol-kept : (m : List ℕ) (i : ℕ) (r : Symbol) → i * symbol_width + symbol_width ≤ length m → symbol_at (put_row symbol_width m i (symbol_cells r)) i ≡ r
symbol-kept m i r h = get-put symbol_layout symbol-width m i r h (symbol-back r)
