-- The symbols that are put, by which public definitions a segment carries.
use Rattle.std.specs.Prelude.{ℕ, ◌+◌, ◌-◌, ◌≡◌, Bool, true, ◌&&◌, List, [], leb, ltb, length, if◌then◌else◌}
use Rattle.lent.specs.Lists.{one, joined}
use Rattle.tables.specs.declared.fill.Fill.{Fill}
use Rattle.tables.specs.fill.FilledRows.{Adds}
use Rattle.omf51.specs.declared.ModuleId.{ModuleId}
use Rattle.omf51.specs.declared.Definition.{Definition}
use Rattle.omf51.specs.declared.Definition.TheVariants.{Segment, Public, External}
use Rattle.segments.specs.declared.Symbol.{Symbol}
use Rattle.segments.specs.SegmentLayouts.{symbol_layout}
use Rattle.tables.specs.links.Follow.{Follows}
use Rattle.module_index.specs.gather.Places.{public_at, PublicIs}
use Rattle.segment_parts.specs.declared.carried.Carried.{Carried}
use Rattle.segment_parts.specs.declared.carried.Carried.TheVariants.{All, Inside}

abbrev pub carries_at : Carried → ℕ → Bool
carries_at All offset = true
carries_at (Inside w) offset = leb w.at offset && ltb offset (w.at + w.len)

-- what is taken from their offsets
abbrev pub base_of : Carried → ℕ
base_of All = 0
base_of (Inside w) = if w.own then w.at else 0

abbrev pub symbol_by : Carried → Definition → List Symbol
symbol_by c (Segment id info relocation size name) = []
symbol_by c (Public id offset name) = if carries_at c offset then one (record { name = name; offset = offset - base_of c }) else []
symbol_by c (External id info name) = []

-- they are added, and memory keeps its length
pub record NamesOne (library : List ℕ) (place : ℕ) (c : Carried) (m : List ℕ) (f : Fill) (n : List ℕ) (g : Fill) : Type 0 where
  pub long : length n ≡ length m
  pub adds : (id : ModuleId) → Adds symbol_layout (symbol_by c (public_at library id place)) m f n g

pub record NamesAlong (library : List ℕ) (link : ℕ) (next places : List ℕ) (c : Carried) (m : List ℕ) (f : Fill) (n : List ℕ) (g : Fill) : Type 0 where
  pub long : length n ≡ length m
  pub adds : (publics : List Definition) → Follows (PublicIs library places) next 0 link publics → Adds symbol_layout (joined (symbol_by c) publics) m f n g
