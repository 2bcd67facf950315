-- The first colon of a word, looked for from one place on, and as `position` finds it; and the numbers on both sides of it. Assumes nothing.
use Rattle.std.specs.Prelude.{ℕ, suc, ◌+◌, ◌-◌, ◌≤◌, ◌<◌, ◌≡◌, refl, Bool, List, Some, None, Result, length, get_or, take, drop, ◌==◌, position}
use Rattle.std.proofs.Common.{arith, drop_of_length-le, length-drop, take_all, sym, ◌∙◌}
use Rattle.std.proofs.lemmas.Grind.{common_steps}
use Rattle.std.specs.List.{position_or_len}
use Rattle.std.proofs.lemmas.List.Recursion.{is_position_or_len}
use Rattle.std.proofs.lemmas.List.Quantifiers.{position-Some}
use borrow.Author.Tests.{eq-eqb, ne_eqb, lt-leb}
use Rattle.lent.specs.PartLaws.{drop-turn}
use Rattle.command.specs.Values.{number_read}
use Rattle.command.specs.Stretches.{colon_in, stretch_from, stretch_read}
use Rattle.command.specs.declared.mistake.Mistake.{Mistake}

module _ (word : List ℕ) (at : ℕ) (l : at < length word) where
  pub colon-here : get_or word at 0 ≡ 0x3A → colon_in (drop at word) ≡ 0
  unfolding colon_in
  colon-here e = rw (drop-turn word at 0 l, eq-eqb (get_or word at 0) 0x3A e)

  pub colon-turn : (get_or word at 0 ≡ 0x3A → ⊥) → colon_in (drop at word) ≡ suc (colon_in (drop (at + 1) word))
  unfolding colon_in
  colon-turn n = rw (drop-turn word at 0 l, ne_eqb (get_or word at 0) 0x3A n)

pub colon-end : (word : List ℕ) (at : ℕ) → length word ≤ at → colon_in (drop at word) ≡ 0
unfolding colon_in
colon-end word at l = rw (drop_of_length-le word l)

abbrev colon : ℕ → Bool
colon b = b == 0x3A

colon-place : (word : List ℕ) → colon_in word ≡ position_or_len colon word
unfolding colon_in
colon-place word = is_position_or_len colon_in colon refl (λ b rest. grind (arith, common_steps)) word

-- there is none
pub colon-none : (word : List ℕ) → position colon word ≡ None → length word ≤ colon_in word
colon-none word e = let p = colon-place word in grind (arith, common_steps)

pub colon-some : (word : List ℕ) (at : ℕ) → position colon word ≡ Some at → (at ≡ colon_in word) × (at < length word)
colon-some word at e =
    let p = colon-place word in
    let here : position_or_len colon word ≡ at = grind (arith, common_steps) in
    (sym (p ∙ here), (position-Some colon word at 0 e).0)

-- a part up to the end of a word, as the code takes it
behind : (word : List ℕ) (at : ℕ) → take (length word - at) (drop at word) ≡ drop at word
behind word at = take_all (length word - at) (drop at word) (simp length-drop (omega arith))

pub stretch-of : (word : List ℕ) (i : ℕ) {at : ℕ} {start len : Result ℕ Mistake} → at ≡ colon_in word → at < length word
    → start ≡ number_read (take at word) i → len ≡ number_read (take (length word - (at + 1)) (drop (at + 1) word)) i
    → stretch_from start len ≡ stretch_read word i
unfolding stretch_read
stretch-of word i {at} place inside before after = rw (← place, lt-leb (length word) at inside, before, after, behind word (at + 1))
