-- Lent memory that is filled with rows of named things, and the heads of their buckets, by which a row is found.
use Rattle.std.specs.Prelude.{◌≡◌, ℕ, zero, suc, ◌+◌, ◌-◌, ◌<◌, ◌≤◌, Bool, false, ◌&&◌, List, [], ◌∷◌, length, ◌==◌, nat_lt, if◌then◌else◌}
use Rattle.lent.specs.declared.part.Part.{Part}
use Rattle.lent.specs.Lists.{any, fold}
use Rattle.lent.specs.Parts.{same_name}
use Rattle.lent.specs.Rows.{cell_of}
use Rattle.tables.specs.declared.fill.Fill.{Fill}
use Rattle.tables.specs.fill.FilledRows.{Filling}
use Rattle.tables.specs.by_name.Newest.{newest}
use Rattle.tables.specs.by_name.Sheet.{Sheet, key_buckets, name_buckets, key_bucket, is_named, in_key, bucket_of, in_name, linked}
use Rattle.tables.specs.by_name.Heads.{head_count, head_at, head_limit}

-- row j of the memory m has this key and name, as its first three numbers say
abbrev pub row_is : List ℕ → ℕ → List ℕ → ℕ → Part → ℕ → Bool
row_is library width m key name j =
    let n = cell_of width m j in (n 0 == key) && same_name library (record { at = n 1; len = n 2 }) name

-- the link to the first row with this key and name that is met when the links are followed from `link` on, or 0. The last
-- number of a row is the link onwards; a link that does not lead to an earlier row ends the way, so that n steps are enough
unfoldable pub followed_for : List ℕ → ℕ → List ℕ → ℕ → Part → ℕ → ℕ → ℕ
followed_for library width m key name zero link = 0
followed_for library width m key name (suc n) link =
    if link == 0 then 0
    else if row_is library width m key name (link - 1) then link
    else (
    let next = cell_of width m (link - 1) (width - 1) in
    if nat_lt next link then followed_for library width m key name n next else 0
    )

abbrev pub followed : List ℕ → ℕ → List ℕ → ℕ → Part → ℕ → ℕ
followed library width m key name link = followed_for library width m key name link link

-- the memory lent for rows, the heads of the buckets (buckets of keys first), and how far the memory is filled
pub record Table : Type 0 where
  pub memory : List ℕ
  pub heads : List ℕ
  pub fill : Fill

abbrev pub table : List ℕ → List ℕ → Fill → Table
table memory heads fill = record { memory = memory; heads = heads; fill = fill }

module _ {A R : Type 0} (s : Sheet A R) (library : List ℕ) where
  -- each head leads to the newest row of its bucket
  pub record Headed (xs : List A) (heads : List ℕ) : Type 0 where
    pub by_key : (b : ℕ) → b < key_buckets → head_at heads b ≡ newest (in_key s library b) xs
    pub by_name : (b : ℕ) → b < name_buckets → head_at heads (key_buckets + b) ≡ newest (in_name s library b) xs

  -- the row of one thing more, linked to where the heads lead
  abbrev pub row_by : List ℕ → A → R
  row_by heads x = s.row x (head_at heads (key_bucket (s.key x))) (head_at heads (key_buckets + bucket_of s library x))

  -- no two have one key and one name
  unfoldable pub Single : List A → Type 0
  Single [] = Unit
  Single (x ∷ rest) = (any (is_named s library (s.key x) (s.name x)) rest ≡ false) × Single rest

  -- a table of these things, or one that is too small for them
  pub record Tabled (xs : List A) (t : Table) : Type 0 where
    pub filling : Filling s.layout (linked s library xs) t.memory t.fill
    pub headed : t.fill.over ≡ false → Headed xs t.heads
    pub room : head_count ≤ length t.heads
    pub fits : length t.memory < head_limit (length t.heads)
    pub single : Single xs

  -- whatever things a table has, these are taken in one after another by a step
  abbrev pub Takes : (List A → A → List A) → List A → Table → Table → Type 0
  Takes step new t after = (xs : List A) → Tabled xs t → Tabled (fold step xs new) after

  -- whoever takes in what is left has taken in all
  abbrev pub LeadsOn : (List A → A → List A) → List A → Table → List A → Table → Type 0
  LeadsOn step left t all t₀ = (after : Table) → Takes step left t after → Takes step all t₀ after
