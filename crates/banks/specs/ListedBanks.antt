-- Where each bank's lines stand among all. Assumes nothing.
use Prim.Native.Nat.{ℕ, zero, suc, ◌+◌, ◌≤◌, ◌<◌}
use Rattle.std.specs.Prelude.{◌≡◌, ◌⊎◌, List, ◌++◌}
use Rattle.std.proofs.Common.{sym, ◌∙◌, inl, inr}
use Rattle.std.proofs.Math.Path.{ap}
use mathlib.Core.List.Memᴰ
use Rattle.std.proofs.Math.Decide.{dec_lt}
use native.Mathlib.Omega.{arith}
use Rattle.std.proofs.Math.ListN.{length, get_or, length-append, get_or-append}
use Rattle.std.proofs.Math.Seq.{get_or-append-add}
use Rattle.lent.specs.Lists.{one}
use Rattle.lent.specs.Members.{◌among◌}
use Rattle.listing_rules.specs.declared.Line.{Line}
use Rattle.run.specs.declared.Settings.{Settings}
use Rattle.run.specs.Run.{asked_of, stages}
use Rattle.run.proofs.ListedRows.{grades}
use Rattle.bank_rules.specs.Banks.{bank_cells, shown, lines_to, each_to}
use Rattle.bank_rules.proofs.OverLaws.{lines-grow}
use Rattle.banks.specs.BoardLaws.{each-length}

module _ (cells library : List ℕ) (s : Settings) where
  -- line i of bank k stands behind the lines of the banks before
  pub line_of : (d : Line) (k n i : ℕ) → k < n → i < length (shown cells library s k).lines
      → get_or (lines_to cells library s n) (length (lines_to cells library s k) + i) d ≡ get_or (shown cells library s k).lines i d
  unfolding lines_to
  line_of d k zero i l h = absurd (omega arith)
  line_of d k (suc n) i l h = go (dec_lt k n) (line_of d k n i)
    where
      go : Dec (k < n) → (k < n → i < length (shown cells library s k).lines → get_or (lines_to cells library s n) (length (lines_to cells library s k) + i) d ≡ get_or (shown cells library s k).lines i d)
          → get_or (lines_to cells library s n ++ (shown cells library s n).lines) (length (lines_to cells library s k) + i) d ≡ get_or (shown cells library s k).lines i d
      go (yes m) f =
          get_or-append (lines_to cells library s n) (shown cells library s n).lines d (length (lines_to cells library s k) + i) (omega (arith, h, lines-grow cells library s (suc k) n m, next)) ∙ f m h
        where
          next : length (lines_to cells library s (suc k)) ≡ length (lines_to cells library s k) + length (shown cells library s k).lines
          next = length-append (lines_to cells library s k) (shown cells library s k).lines
      go (no m) f = let e : k ≡ n = omega arith in rw e (get_or-append-add (lines_to cells library s n) (shown cells library s n).lines i d)

  -- and its count at its place
  pub count_of : (k n : ℕ) → k < n → get_or (each_to cells library s n) k 0 ≡ length (shown cells library s k).lines
  unfolding each_to
  count_of k zero l = absurd (omega arith)
  count_of k (suc n) l = go (dec_lt k n) (count_of k n)
    where
      go : Dec (k < n) → (k < n → get_or (each_to cells library s n) k 0 ≡ length (shown cells library s k).lines)
          → get_or (each_to cells library s n ++ one (length (shown cells library s n).lines)) k 0 ≡ length (shown cells library s k).lines
      go (yes m) f = get_or-append (each_to cells library s n) (one (length (shown cells library s n).lines)) 0 k (omega (arith, m, each-length cells library s n)) ∙ f m
      go (no m) f =
          let e : k ≡ length (each_to cells library s n) + 0 = omega (arith, m, l, each-length cells library s n) in
          let f : k ≡ n = omega arith in
          ap (λ j. get_or (each_to cells library s n ++ one (length (shown cells library s n).lines)) j 0) e
          ∙ get_or-append-add (each_to cells library s n) (one (length (shown cells library s n).lines)) 0 0 ∙ ap (λ j. length (shown cells library s j).lines) (sym f)

  -- every line has one of the grades 0 to 3
  pub all-graded : (n : ℕ) (l : Line) → l among lines_to cells library s n → l.grade ≤ 3
  unfolding lines_to stages
  all-graded zero l m = absurd (Memᴰ.not-nil m)
  all-graded (suc n) l m = go (Memᴰ.append_cases (lines_to cells library s n) m) (all-graded n l)
    where
      go : l among lines_to cells library s n ⊎ l among (shown cells library s n).lines → (l among lines_to cells library s n → l.grade ≤ 3) → l.grade ≤ 3
      go (inl i) f = f i
      go (inr i) f = grades library (bank_cells n cells) (asked_of s) _ _ _ s.skip i
