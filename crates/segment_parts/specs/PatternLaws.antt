-- Masks that are made apart, and contents merged one after another. Assumes nothing.
use Rattle.std.specs.Prelude.{ℕ, ◌+◌, ◌-◌, ◌≤◌, ◌≡◌, List, ◌++◌, leb, length, take, drop}
use Rattle.std.proofs.Common.{◌∙◌, arith, length-append, length-take, length-drop, take_at}
use Rattle.lent.specs.declared.part.Part.{Part}
use Rattle.lent.specs.ChoiceLaws.{chosen}
use Rattle.lent.specs.Parts.{bytes_of}

-- the first bytes of a memory, after they were changed
pub apart-read : (memory new : List ℕ) (len : ℕ) → length new ≡ len → take (len - 0) (drop 0 (take 0 memory ++ (new ++ drop (len - 0) (drop 0 memory)))) ≡ new
apart-read memory new len e = take_at new (drop (len - 0) memory) (len - 0) (omega (arith, e))

pub apart-long : (memory new : List ℕ) (len : ℕ) → len ≤ length memory → length new ≡ len → length (take 0 memory ++ (new ++ drop (len - 0) (drop 0 memory))) ≡ length memory
apart-long memory new len h e = simp (length-append, length-drop) (omega (arith, e))

pub front_length : (memory : List ℕ) (len : ℕ) → len ≤ length memory → length (take (len - 0) (drop 0 memory)) ≡ len
front_length memory len h = length-take (len - 0) memory ∙ omega arith

-- a part has no more bytes than it says
pub part-short : (library : List ℕ) (p : Part) → length (bytes_of library p) ≤ p.len
part-short library p =
    chosen (λ xs. length xs ≤ p.len) (leb (p.at + p.len) (length library)) (λ t. rw (length-take p.len (drop p.at library)) (omega arith)) (λ t. omega arith)
