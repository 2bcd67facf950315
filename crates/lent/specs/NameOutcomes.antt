-- The functions on names have one outcome each, by their contracts alone. Assumes nothing.
use Rattle.std.specs.Prelude.{◌≡◌, List, ℕ}
use Rattle.lent.specs.declared.part.Part.{Part}
use Rattle.lent.specs.declared.refusal.Refusal.{Refusal}
use Rattle.lent.specs.OneOutcome.{Determines, by-equation}
use Rattle.lent.specs.Refusals.{refusal_number}
use Rattle.lent.specs.Parts.{bytes_of, same, before, same_name, name_before}

pub name-one : (library : List ℕ) (p : Part) → Determines (λ r. r ≡ bytes_of library p)
name-one library p = by-equation (bytes_of library p)

pub same-one : (a b : List ℕ) → Determines (λ r. r ≡ same a b)
same-one a b = by-equation (same a b)

pub before-one : (a b : List ℕ) → Determines (λ r. r ≡ before a b)
before-one a b = by-equation (before a b)

pub same-name-one : (library : List ℕ) (a b : Part) → Determines (λ r. r ≡ same_name library a b)
same-name-one library a b = by-equation (same_name library a b)

pub name-before-one : (library : List ℕ) (a b : Part) → Determines (λ r. r ≡ name_before library a b)
name-before-one library a b = by-equation (name_before library a b)

-- and a refusal has one number
pub number-one : (r : Refusal) → Determines (λ n. n ≡ refusal_number r)
number-one r = by-equation (refusal_number r)
