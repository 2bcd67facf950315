-- Texts, blanks and digits stored byte by byte: what is left to store completes what the whole stored from the start. Assumes nothing.
use Rattle.std.specs.Prelude.{ℕ, zero, suc, ◌+◌, ◌-◌, ◌/◌, ◌%◌, ◌≤◌, ◌<◌, ◌≡◌, refl, List, [], ◌∷◌, ◌++◌, length, set}
use Rattle.std.proofs.Common.{sym, ap, ◌∙◌, add-zero, add-one, arith, length-append}
use Rattle.std.proofs.lemmas.List.Edits.{sets}
use Rattle.std.proofs.lemmas.List.{set_comm}
use Rattle.lent.specs.Lists.{one}
use Rattle.describe.specs.Described.{Put}
use Rattle.describe.specs.DescribedLaws.{◌then-put◌}
use Rattle.listing_rules.specs.Print.{digit, digits}

-- nothing
pub put-nothing : (out : List ℕ) (at : ℕ) → Put out at [] out at
put-nothing out at = record { ends = sym (add-zero at); stored = refl }

-- digits, from the last to the first
pub digits-length : (k n : ℕ) → length (digits k n) ≡ k
unfolding digits
digits-length zero n = refl
digits-length (suc k) n = length-append (digits k (n / 16)) (one (digit (n % 16))) ∙ ap (λ m. m + 1) (digits-length k (n / 16)) ∙ add-one k

set_before : (s out : List ℕ) (at k d : ℕ) → at + length s ≤ k → sets (set out k d) at s ≡ set (sets out at s) k d
set_before [] out at k d h = refl
set_before (x ∷ s) out at k d h =
    ap (λ o. sets o (suc at) s) (set_comm out k at d x (λ e. omega arith)) ∙ set_before s (set out at x) (suc at) k d (omega arith)

sets_last : (s out : List ℕ) (at k d : ℕ) → length s ≡ k → sets (set out (at + k) d) at s ≡ sets out at (s ++ one d)
sets_last s out at k d e =
    let p : Put out at s (sets out at s) (at + length s) = record { ends = refl; stored = refl } in
    let there : ℕ = at + length s in
    let q : Put (sets out at s) there (one d) (set (sets out at s) there d) (there + 1) = record { ends = refl; stored = refl } in
    rw (sym e) (set_before s out at (at + length s) d (omega arith) ∙ (p then-put q).stored)

pub digits_more : (at j n : ℕ) (out : List ℕ) → 0 < j
    → sets (set out (at + (j - 1)) (digit (n % 16))) at (digits (j - 1) (n / 16)) ≡ sets out at (digits j n)
unfolding digits
digits_more at zero n out h = absurd (omega arith)
digits_more at (suc j) n out h =
    let e : suc j - 1 ≡ j = omega arith in
    rw e (sets_last (digits j (n / 16)) out at j (digit (n % 16)) (digits-length j (n / 16)))

pub digits-all : (at j n : ℕ) (out : List ℕ) → j ≤ 0 → out ≡ sets out at (digits j n)
unfolding digits
digits-all at zero n out h = refl
digits-all at (suc j) n out h = absurd (omega arith)
