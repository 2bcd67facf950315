-- The rows of ids are read back as they were written, and what is read fits; so does a row with one more definition. Assumes nothing.
use Rattle.std.specs.Prelude.{ℕ, ◌+◌, ◌-◌, ◌*◌, ◌/◌, ◌%◌, ◌≤◌, ◌<◌, ◌≡◌, refl, Bool, true, false, ◌&&◌, List, eqb, ltb, length, get_or, Some, None, Option, if◌then◌else◌}
use Rattle.std.proofs.Common.{arith, ne_eqb}
use Rattle.std.proofs.lemmas.Bool.{eqb-false}
use Rattle.lent.specs.declared.part.Part.{Part}
use Rattle.lent.specs.ChoiceLaws.{chosen}
use Rattle.lent.specs.Rows.{has_row, cell_of}
use Rattle.lent.specs.RowLaws.{Wide, Back}
use Rattle.omf51.specs.declared.ModuleId.{ModuleId}
use Rattle.omf51.specs.declared.Definition.{Definition}
use Rattle.omf51.specs.declared.Definition.TheVariants.{Segment, Public, External}
use Rattle.library.specs.Longest.{Short}
use Rattle.library.specs.items.ContentSizeLaws.{Bytes}
use Rattle.library.specs.items.EntrySizeLaws.{Says}
use Rattle.segments.specs.Ids.{is_kept}
use Rattle.module_ids.specs.declared.Mark.{Mark}
use Rattle.module_ids.specs.declared.Mark.TheVariants.{Missing, Other, Code}
use Rattle.module_ids.specs.declared.KeptSegment.{KeptSegment}
use Rattle.module_ids.specs.declared.IdRow.{IdRow}
use Rattle.module_ids.specs.IdRows.{mark_number, mark_from, kept_cells, kept_from, packed, id_layout, id_row_at, Small}
use Rattle.module_ids.specs.Noted.{first_kept_as, first_name, changed}

pub id-wide : Wide id_layout
id-wide r = refl

-- a packed number is taken apart again
high-back : (high low : ℕ) → low < 256 → packed high low / 256 ≡ high
high-back high low h = omega arith

low-back : (high low : ℕ) → low < 256 → packed high low % 256 ≡ low
low-back high low h = omega arith

mark-small : (m : Mark) → mark_number m < 256
mark-small Missing = omega arith
mark-small Other = omega arith
mark-small Code = omega arith

mark-back : (m : Mark) → mark_from (mark_number m) ≡ m
mark-back Missing = refl
mark-back Other = refl
mark-back Code = refl

kept_back : (k : Option KeptSegment) → kept_from (kept_cells k).ordinal (kept_cells k).size ≡ k
kept_back None = refl
kept_back (Some k) = let p : k.place + 1 - 1 ≡ k.place = omega arith in rw (ne_eqb (k.place + 1) 0 (λ e. omega (arith, e)), p)

pub id-back : (r : IdRow) → r.name.len < 256 → Back id_layout r
id-back r h = rw (
  high-back (kept_cells r.kept).ordinal (mark_number r.segment) (mark-small r.segment),
  low-back (kept_cells r.kept).ordinal (mark_number r.segment) (mark-small r.segment),
  high-back (kept_cells r.kept).size (mark_number r.external) (mark-small r.external),
  low-back (kept_cells r.kept).size (mark_number r.external) (mark-small r.external),
  high-back r.name.at r.name.len h,
  low-back r.name.at r.name.len h,
  mark-back r.segment,
  mark-back r.external,
  kept_back r.kept,
)

-- a table of numbers of 32 bits has small rows only
cell-small : (table : List ℕ) → ((i : ℕ) → get_or table i 0 < 4294967296) → (i j : ℕ) → cell_of 3 table i j < 4294967296
unfolding cell_of
cell-small table h i j = chosen (λ n. n < 4294967296) (has_row 3 table i && ltb j 3) (λ e. h (i * 3 + j)) (λ e. omega arith)

from-small : (ordinal size : ℕ) → ordinal < 16777216 → size < 16777216 → let k = kept_cells (kept_from ordinal size) in (k.ordinal < 16777216) × (k.size < 16777216)
from-small ordinal size h s = go (eqb ordinal 0) (eqb-false ordinal 0)
  where
    go : (t : Bool) → (t ≡ false → ordinal ≡ 0 → ⊥) → let k = kept_cells (if t then None else Some (record { place = ordinal - 1; size = size })) in (k.ordinal < 16777216) × (k.size < 16777216)
    go true n = (omega arith, omega arith)
    go false n = (omega (arith, n refl), s)

pub read_small : (table : List ℕ) → ((i : ℕ) → get_or table i 0 < 4294967296) → (id : ModuleId) → Small (id_row_at table id)
read_small table h id =
    let c = cell-small table h id.0 in
    let k = from-small (cell_of 3 table id.0 0 / 256) (cell_of 3 table id.0 1 / 256) (omega (arith, c 0)) (omega (arith, c 1)) in
    record { ordinal-small = k.0; size_small = k.1; at_small = omega (arith, c 2); len-small = omega arith }

-- and so has a row with one more definition of a library that is not too long
kept_small : (k : Option KeptSegment) (t : Bool) (n size : ℕ) → n < 16777215 → size < 16777216 → (kept_cells k).ordinal < 16777216 → (kept_cells k).size < 16777216
    → let new = kept_cells (first_kept_as k t n size) in (new.ordinal < 16777216) × (new.size < 16777216)
kept_small None true n size h s o z = (omega arith, s)
kept_small None false n size h s o z = (o, z)
kept_small (Some k) t n size h s o z = (o, z)

name-small : (e : Mark) (old new : Part) → old.at < 16777216 → old.len < 256 → new.at < 16777216 → new.len < 256
    → let name = first_name e old new in (name.at < 16777216) × (name.len < 256)
name-small Missing old new a l b m = (b, m)
name-small Other old new a l b m = (a, l)
name-small Code old new a l b m = (a, l)

pub changed-small : (library : List ℕ) (n : ℕ) (d : Definition) → Bytes library → Short library → n ≤ length library → Says library d → (r : IdRow) → Small r → Small (changed r n d)
changed-small library n (Segment id info relocation size name) b l f s r m =
    let k = kept_small r.kept (is_kept (Segment id info relocation size name)) n size (omega arith) (omega (arith, s b)) m.ordinal-small m.size_small in
    record { ordinal-small = k.0; size_small = k.1; at_small = m.at_small; len-small = m.len-small }
changed-small library n (Public id offset name) b l f s r m = m
changed-small library n (External id info name) b l f s r m =
    let k = name-small r.external r.name name m.at_small m.len-small (omega (arith, s.0)) (s.1 b) in
    record { ordinal-small = m.ordinal-small; size_small = m.size_small; at_small = k.0; len-small = k.1 }
