-- Merging through a part that is lent on, and into one region of a memory. Assumes nothing.
use Rattle.std.specs.Prelude.{ℕ, ◌+◌, ◌-◌, ◌≤◌, ◌<◌, ◌≡◌, refl, List, ◌++◌, leb, length, take, drop}
use Rattle.std.proofs.Common.{sym, append-nil, arith, le-leb, leb-true, length-append, length-take, length-drop, drop_of_length-le, take_all, take_at, drop_at, drop-drop}
use Rattle.std.proofs.Math.Nat.{add-sub_cancel_left}
use Rattle.std.proofs.lemmas.Bool.{lt-leb}
use Rattle.lent.specs.ChoiceLaws.{chosen}
use Rattle.segments.specs.Masks.{ored, merged}
use Rattle.segments.proofs.MaskLaws.{merged-length}
use Rattle.segment_parts.specs.merge.MergedAt.{merged_at}

-- a pattern's part from an offset to its end: what was ORed into it is merged into the whole
pub merged-through : (pattern : List ℕ) (offset : ℕ) (new part : List ℕ) → part ≡ ored (take (length pattern - offset) (drop offset pattern)) new
    → take offset pattern ++ (part ++ drop (length pattern - offset) (drop offset pattern)) ≡ merged pattern offset new
unfolding merged
merged-through pattern offset new part e =
    let n : length (drop offset pattern) ≤ length pattern - offset = omega (arith, length-drop offset pattern) in
    rw (e, take_all (length pattern - offset) (drop offset pattern) n, drop_of_length-le (drop offset pattern) n, append-nil (ored (drop offset pattern) new))

-- past the end there is nothing to merge into
pub merged-past : (pattern : List ℕ) (offset : ℕ) (new : List ℕ) → length pattern ≤ offset → pattern ≡ merged pattern offset new
unfolding merged ored
merged-past pattern offset new h = rw (drop_of_length-le pattern h, take_all offset pattern h) (sym (append-nil pattern))

-- a part of memory that fits: what was merged into it is merged into the memory
pub merged-within : (memory : List ℕ) (start size offset : ℕ) (new part : List ℕ) → start + size ≤ length memory
    → part ≡ merged (take (start + size - start) (drop start memory)) offset new
    → take start memory ++ (part ++ drop (start + size - start) (drop start memory)) ≡ merged_at memory start size offset new
merged-within memory start size offset new part h e =
    rw (e, add-sub_cancel_left start size, drop-drop size start memory, le-leb (start + size) (length memory) h)

-- one that does not is left as it is
pub merged-without : (memory : List ℕ) (start size offset : ℕ) (new : List ℕ) → length memory < start + size → memory ≡ merged_at memory start size offset new
merged-without memory start size offset new h = rw (lt-leb (start + size) (length memory) h)

-- ONLY THE REGION CHANGES: what stands before and after it stays
pub merged-region : (before region after : List ℕ) (start size offset : ℕ) (new : List ℕ) → length before ≡ start → length region ≡ size
    → merged_at (before ++ (region ++ after)) start size offset new ≡ before ++ (merged region offset new ++ after)
merged-region before region after start size offset new b r =
    let memory : List ℕ = before ++ (region ++ after) in
    let fits : start + size ≤ length memory = rw (length-append, length-append) (omega arith) in
    rw (le-leb (start + size) (length memory) fits, ← drop-drop size start memory, take_at before (region ++ after) start b, drop_at before (region ++ after) start b, take_at region after size r, drop_at region after size r)

-- and memory keeps its length
pub merged-at-length : (memory : List ℕ) (start size offset : ℕ) (new : List ℕ) → length (merged_at memory start size offset new) ≡ length memory
merged-at-length memory start size offset new =
    chosen (λ m. length m ≡ length memory) (leb (start + size) (length memory))
    (λ t. simp (length-append, merged-length, length-take, length-drop) (omega (arith, leb-true (start + size) (length memory) t)))
    (λ t. refl)
