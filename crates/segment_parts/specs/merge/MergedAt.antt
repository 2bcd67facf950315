-- The pattern of one segment within the memory of all patterns.
use Rattle.std.specs.Prelude.{ℕ, ◌+◌, List, ◌++◌, leb, length, take, drop, if◌then◌else◌}
use Rattle.segments.specs.Masks.{merged}

-- new bytes merged, at an offset, into the `size` bytes of memory from `start` on; where these pass its end it stays as it is
abbrev pub merged_at : List ℕ → ℕ → ℕ → ℕ → List ℕ → List ℕ
merged_at memory start size offset new =
    if leb (start + size) (length memory) then take start memory ++ (merged (take size (drop start memory)) offset new ++ drop (start + size) memory)
    else memory
