-- Looking up a row, and setting heads, has one outcome, by the contract alone. Assumes nothing.
use Rattle.std.specs.Prelude.{◌≡◌, ℕ, List}
use Rattle.lent.specs.declared.part.Part.{Part}
use Rattle.lent.specs.OneOutcome.{Determines, by-equation}
use Rattle.lent.specs.Parts.{bytes_of}
use Rattle.tables.specs.by_name.Sheet.{name_bucket}
use Rattle.tables.specs.by_name.Heads.{head_at, heads_with}
use Rattle.tables.specs.by_name.Tables.{followed}

pub find-one : (library : List ℕ) (width : ℕ) (m : List ℕ) (key : ℕ) (name : Part) (link : ℕ) → Determines (λ r. r ≡ followed library width m key name link)
find-one library width m key name link = by-equation (followed library width m key name link)

pub bucket-one : (library : List ℕ) (key : ℕ) (name : Part) → Determines (λ r. r ≡ name_bucket key (bytes_of library name))
bucket-one library key name = by-equation (name_bucket key (bytes_of library name))

pub head-at-one : (heads : List ℕ) (i : ℕ) → Determines (λ r. r ≡ head_at heads i)
head-at-one heads i = by-equation (head_at heads i)

pub set-heads-one : (heads : List ℕ) (key bucket number : ℕ) → Determines (λ after. after ≡ heads_with heads key bucket number)
set-heads-one heads key bucket number = by-equation (heads_with heads key bucket number)
