-- A table of answers that tells the truth: one of zeros does, what it says is so, and one more true answer keeps it true.
-- Assumes nothing.
use Rattle.std.specs.Prelude.{◌≡◌, ℕ, ◌/◌, ◌%◌, ◌<◌, ◌≤◌, Bool, true, false, List, ◌==◌, slice_index, slice_index_or, refl, Some}
use Rattle.std.proofs.Common.{sym, ap, ◌∙◌, arith}
use Rattle.std.proofs.lemmas.Bool.{false≢true}
use Rattle.tables.specs.zeros.Zeros.{zero_list}
use Rattle.tables.specs.zeros.ZeroLaws.{zero-at}
use Rattle.image.specs.declared.fixup.Rules.{Rules}
use Rattle.segments.specs.declared.SegmentNumber.{SegmentNumber}
use Rattle.segments.specs.Collect.{Collected}
use Rattle.search_rules.specs.Search.{segment_of, holds_to}
use Rattle.search_rules.proofs.DepthLaws.{holds-every-less}
use Rattle.search.specs.told.Answers.{answer_of, recall_of, remembered}
use Rattle.search.specs.told.AnswerLaws.{its-number, its-depth, its-answer, Of, recalled-answer, after_one}
use Rattle.search.specs.depth.Depths.{among, Tells, Told, HoldsSo}
use Rattle.search.specs.Store.{Stored}

-- what holds at a depth holds at a smaller one, and what fails fails at a greater one
settled : (cells : List ℕ) (rules : Rules) (gs : List Collected) (g : Collected) (at known depth : ℕ) (holds : Bool) → (holds ≡ true → depth ≤ known) → (holds ≡ false → known ≤ depth)
    → holds_to cells rules gs known g at ≡ holds → holds ≡ holds_to cells rules gs depth g at
settled cells rules gs g at known depth true less more e = sym (holds-every-less cells rules gs known depth (less refl) g at e)
settled cells rules gs g at known depth false less more e = go (holds_to cells rules gs depth g at) refl
  where
    go : (b : Bool) → holds_to cells rules gs depth g at ≡ b → false ≡ holds_to cells rules gs depth g at
    go true q = absurd (false≢true (sym e ∙ holds-every-less cells rules gs depth known (more refl) g at q))
    go false q = sym q

module _ (cells : List ℕ) (rules : Rules) (store : Stored) (n : ℕ) where
  abbrev In : List ℕ → List Collected
  In symbols = among cells rules store n symbols

  pub blank-told : (k : ℕ) (m : List ℕ) → m ≡ zero_list k → Told cells rules store n m
  blank-told k m e i symbols h =
      let zero : slice_index_or m i 0 ≡ 0 = ap (λ xs. slice_index xs i) e ∙ zero-at k i in
      absurd (omega (arith, h, zero))

  -- what an answer says to a question is so
  pub recalled-holds : (m : List ℕ) → Told cells rules store n m → (number : SegmentNumber) (at depth : ℕ) (holds : Bool)
      → recall_of (slice_index m at) number.0 depth ≡ Some holds → HoldsSo cells rules store n depth number at holds
  recalled-holds m t number at depth holds e symbols = go (slice_index m at) (recalled-answer (slice_index m at) number.0 depth holds e) (t at symbols)
    where
      go : (answer : ℕ) → Of answer number.0 depth holds
          → (0 < answer / 2 % 4 → holds_to cells rules (In symbols) (answer / 2 % 4) (segment_of (In symbols) (record { 0 = answer / 8 })) at ≡ (answer % 2 == 1))
          → holds ≡ holds_to cells rules (In symbols) depth (segment_of (In symbols) number) at
      go answer o h =
          settled cells rules (In symbols) (segment_of (In symbols) number) at (answer / 2 % 4) depth holds o.less o.more
          (ap (λ k. holds_to cells rules (In symbols) (answer / 2 % 4) (segment_of (In symbols) (record { 0 = k })) at) (sym o.number_is) ∙ h o.some ∙ o.says)

  -- and one more answer that is so
  pub put-told : (m : List ℕ) → Told cells rules store n m → (number : SegmentNumber) (at depth : ℕ) (holds : Bool)
      → HoldsSo cells rules store n depth number at holds → Told cells rules store n (remembered m number.0 at depth holds)
  put-told m t number at depth holds so = after_one m number.0 at depth holds (Tells cells rules store n) own t
    where
      own : depth < 4 → Tells cells rules store n at (answer_of number.0 depth holds)
      own l symbols some =
          ap (λ d. holds_to cells rules (In symbols) d (segment_of (In symbols) (record { 0 = answer_of number.0 depth holds / 8 })) at) (its-depth number.0 depth holds l)
          ∙ ap (λ k. holds_to cells rules (In symbols) depth (segment_of (In symbols) (record { 0 = k })) at) (its-number number.0 depth holds l)
          ∙ sym (so symbols)
          ∙ sym (its-answer number.0 depth holds l)
