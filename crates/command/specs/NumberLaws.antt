-- Digits read one after another. Assumes nothing.
use Rattle.std.specs.Prelude.{ℕ, ◌+◌, ◌*◌, ◌≤◌, ◌<◌, ◌≡◌, List, Ok, Err, length, get_or, drop}
use borrow.Author.Tests.{le-leb, lt-leb, lt-ltb, le-ltb}
use Rattle.std.proofs.Common.{drop_of_length-le}
use Rattle.lent.specs.PartLaws.{drop-turn}
use Rattle.command.specs.declared.number.NumberError.TheVariants.{TooLarge, NotANumber}
use Rattle.command.specs.Numbers.{digit_of, digits_from}

-- at place i, where a byte stands for d
module _ (base n : ℕ) (text : List ℕ) (i : ℕ) (l : i < length text) {d : ℕ} (here : d ≡ digit_of (get_or text i 0)) where
  pub digits-none : base ≤ d → digits_from base n (drop i text) ≡ Err NotANumber
  unfolding digits_from
  digits-none h = rw (drop-turn text i 0 l, ← here, le-leb base d h)

  pub digits-large : d < base → 0xFFFFFFFFFFFFFFFF < n * base + d → digits_from base n (drop i text) ≡ Err TooLarge
  unfolding digits_from
  digits-large h m = rw (drop-turn text i 0 l, ← here, lt-leb base d h, lt-ltb 0xFFFFFFFFFFFFFFFF (n * base + d) m)

  pub digits-turn : d < base → n * base + d ≤ 0xFFFFFFFFFFFFFFFF → digits_from base n (drop i text) ≡ digits_from base (n * base + d) (drop (i + 1) text)
  unfolding digits_from
  digits-turn h m = rw (drop-turn text i 0 l, ← here, lt-leb base d h, le-ltb 0xFFFFFFFFFFFFFFFF (n * base + d) m)

pub digits-end : (base n : ℕ) (text : List ℕ) (i : ℕ) → length text ≤ i → digits_from base n (drop i text) ≡ Ok n
unfolding digits_from
digits-end base n text i l = rw (drop_of_length-le text l)
