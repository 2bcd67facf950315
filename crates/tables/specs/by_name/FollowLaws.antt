-- Following links, step by step. Assumes nothing.
use Rattle.std.specs.Prelude.{◌≡◌, ℕ, zero, suc, ◌-◌, ◌<◌, ◌≤◌, Bool, true, false, List, ◌==◌, nat_lt, if◌then◌else◌}
use Rattle.std.proofs.Math.Path.{refl, sym, ap}
use native.Mathlib.Omega.{arith}
use borrow.Author.Tests.{ne_eqb, lt-ltb, le-ltb, ltb-true}
use Rattle.lent.specs.declared.part.Part.{Part}
use Rattle.lent.specs.Rows.{cell_of}
use Rattle.tables.specs.by_name.Tables.{row_is, followed_for}

module _ (library : List ℕ) (width : ℕ) (m : List ℕ) (key : ℕ) (name : Part) where
  -- no link leads to nothing
  pub follow-none : (n link : ℕ) → link ≡ 0 → followed_for library width m key name n link ≡ 0
  unfolding followed_for
  follow-none zero link e = refl
  follow-none (suc n) link e = rw e

  -- steps that are enough come to the same, however many they are
  pub follow-enough : (n k link : ℕ) → link ≤ n → link ≤ k → followed_for library width m key name n link ≡ followed_for library width m key name k link
  unfolding followed_for
  follow-enough zero k link h l = sym (follow-none k link (omega arith))
  follow-enough (suc n) zero link h l = follow-none (suc n) link (omega arith)
  follow-enough (suc n) (suc k) link h l =
      ap (λ rest. if link == 0 then 0 else if row_is library width m key name (link - 1) then link else rest) (go (nat_lt next link) refl (follow-enough n k))
    where
      next : ℕ
      next = cell_of width m (link - 1) (width - 1)

      go : (t : Bool) → nat_lt next link ≡ t → ((j : ℕ) → j ≤ n → j ≤ k → followed_for library width m key name n j ≡ followed_for library width m key name k j)
          → ◌≡◌ {A = ℕ} (if t then followed_for library width m key name n next else 0) (if t then followed_for library width m key name k next else 0)
      go true e same = let less = ltb-true next link e in same next (omega arith) (omega arith)
      go false e same = refl

  -- a link leads to its row, if that is the one; or on to an earlier row; or to an end
  module _ (n link : ℕ) (some : link ≡ 0 → ⊥) (enough : link ≤ n) where
    pub follow-hit : row_is library width m key name (link - 1) ≡ true → followed_for library width m key name n link ≡ link
    unfolding followed_for
    follow-hit e = go n enough
      where
        go : (k : ℕ) → link ≤ k → followed_for library width m key name k link ≡ link
        go zero h = absurd (some (omega arith))
        go (suc k) h = rw (ne_eqb link 0 some, e)

    pub follow-on : row_is library width m key name (link - 1) ≡ false → cell_of width m (link - 1) (width - 1) < link
        → followed_for library width m key name n link ≡ followed_for library width m key name (n - 1) (cell_of width m (link - 1) (width - 1))
    unfolding followed_for
    follow-on e l = go n enough
      where
        go : (k : ℕ) → link ≤ k → followed_for library width m key name k link ≡ followed_for library width m key name (k - 1) (cell_of width m (link - 1) (width - 1))
        go zero h = absurd (some (omega arith))
        go (suc k) h =
            let same : suc k - 1 ≡ k = omega arith in
            rw (ne_eqb link 0 some, e, lt-ltb (cell_of width m (link - 1) (width - 1)) link l, same)

    pub follow-end : row_is library width m key name (link - 1) ≡ false → link ≤ cell_of width m (link - 1) (width - 1)
        → followed_for library width m key name n link ≡ 0
    unfolding followed_for
    follow-end e l = go n enough
      where
        go : (k : ℕ) → link ≤ k → followed_for library width m key name k link ≡ 0
        go zero h = absurd (some (omega arith))
        go (suc k) h = rw (ne_eqb link 0 some, e, le-ltb (cell_of width m (link - 1) (width - 1)) link l)
