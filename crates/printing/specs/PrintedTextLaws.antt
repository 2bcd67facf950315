-- A text that fits or not, and the list line by line. Assumes nothing.
use Rattle.std.specs.Prelude.{ℕ, ◌+◌, ◌-◌, ◌≤◌, ◌<◌, ◌≡◌, true, false, List, [], ◌++◌, map, leb, length, drop, Ok, Err}
use Rattle.std.proofs.Common.{sym, ap, ◌∙◌, append_assoc, append-nil, zero-add, le-leb, leb-true, length-append}
use Rattle.std.proofs.Math.Nat.{sub-zero}
use native.Mathlib.Omega.{arith}
use Rattle.std.proofs.lemmas.Bool.{lt-leb}
use Rattle.std.proofs.lemmas.List.Edits.{sets, sets-eq}
use Rattle.lent.specs.Lists.{joined, from}
use Rattle.lent.specs.ListLaws.{from-turn, joined-turn}
use Rattle.lent.specs.ChoiceLaws.{same_test}
use Rattle.describe.specs.Described.{Put}
use Rattle.listing_rules.specs.LineLayout.{line_at}
use Rattle.listing_rules.specs.Print.{heading, printed_line, printed}
use Rattle.printing.specs.PrintedText.{Printed, fitted_text, stored_lines}
use Rattle.printing.specs.Pieces.{lines_from}

-- what is answered
pub too_long : (t out : List ℕ) → length out < length t → ◌≡◌ {A = Printed × List ℕ} (Err (record {}), out) (fitted_text t out)
too_long t out h = rw (lt-leb (length t) (length out) h)

pub fitting : (t out : List ℕ) {after : List ℕ} {end : ℕ} → length t ≤ length out → Put out 0 t after end
    → ◌≡◌ {A = Printed × List ℕ} (Ok end, after) (fitted_text t out)
fitting t out h p =
    let front : sets out 0 t ≡ t ++ drop (length t) out = sets-eq t out 0 (omega arith) ∙ rw zero-add in
    rw (p.ends, p.stored, le-leb (length t) (length out) h, front, zero-add)

leb-less : (a b k : ℕ) → a ≤ k → leb b (k - a) ≡ leb (a + b) k
leb-less a b k h =
    same_test (leb b (k - a)) (leb (a + b) k)
    (λ e. le-leb (a + b) k (omega (arith, leb-true b (k - a) e)))
    (λ e. le-leb b (k - a) (omega (arith, leb-true (a + b) k e)))

module _ (library m : List ℕ) (n : ℕ) where
  pub lines-all : heading ++ lines_from library m n 0 ≡ printed library (stored_lines m n)
  unfolding lines_from printed
  lines-all = rw sub-zero

  module _ (i : ℕ) where
    pub lines-turn : i < n → lines_from library m n i ≡ printed_line library (line_at m i) ++ lines_from library m n (i + 1)
    unfolding lines_from
    lines-turn h = joined-turn (printed_line library) (ap (map (line_at m)) (from-turn i n h))

    pub lines_end : n ≤ i → lines_from library m n i ≡ []
    unfolding lines_from joined from
    lines_end h = let none : n - i ≡ 0 = omega arith in rw none

    lines-length : i < n → length (lines_from library m n i) ≡ length (printed_line library (line_at m i)) + length (lines_from library m n (i + 1))
    lines-length h = ap length (lines-turn h) ∙ length-append (printed_line library (line_at m i)) (lines_from library m n (i + 1))

    -- the room that is left is for what is left
    pub room-turn : (left size : ℕ) → i < n → size ≡ length (printed_line library (line_at m i)) → size ≤ left
        → leb (length (lines_from library m n (i + 1))) (left - size) ≡ leb (length (lines_from library m n i)) left
    room-turn left size h e k =
        leb-less size (length (lines_from library m n (i + 1))) left k
        ∙ ap (λ x. leb x left) (omega (arith, e, lines-length h))

    pub room-short : (left size : ℕ) → i < n → size ≡ length (printed_line library (line_at m i)) → left < size
        → leb (length (lines_from library m n i)) left ≡ false
    room-short left size h e k = lt-leb (length (lines_from library m n i)) left (omega (arith, e, k, lines-length h))

    pub room-end : (left : ℕ) → n ≤ i → leb (length (lines_from library m n i)) left ≡ true
    room-end left h = le-leb (length (lines_from library m n i)) left (omega (arith, ap length (lines_end h)))

    -- what was put, and what is left, are the whole
    module _ (done : List ℕ) {whole : List ℕ} (e : done ++ lines_from library m n i ≡ whole) where
      pub line-fits : i < n → length done + length (printed_line library (line_at m i)) ≤ length whole
      line-fits h = omega (arith, lines-length h, length-append done (lines_from library m n i), ap length e)

      pub done_more : i < n → done ++ printed_line library (line_at m i) ++ lines_from library m n (i + 1) ≡ whole
      done_more h = append_assoc done (printed_line library (line_at m i)) (lines_from library m n (i + 1)) ∙ ap (λ x. done ++ x) (sym (lines-turn h)) ∙ e

      pub done_all : n ≤ i → done ≡ whole
      done_all h = sym (append-nil done) ∙ ap (λ x. done ++ x) (sym (lines_end h)) ∙ e

  pub printed-length : length (printed library (stored_lines m n)) ≡ 45 + length (lines_from library m n 0)
  printed-length = sym (ap length lines-all) ∙ length-append heading (lines_from library m n 0)

  pub room-heading : (room : ℕ) → 45 ≤ room → leb (length (lines_from library m n 0)) (room - 45) ≡ leb (length (printed library (stored_lines m n))) room
  room-heading room h = leb-less 45 (length (lines_from library m n 0)) room h ∙ ap (λ x. leb x room) (sym printed-length)

  pub room-none : (room : ℕ) → room < 45 → leb (length (printed library (stored_lines m n))) room ≡ false
  room-none room h = lt-leb (length (printed library (stored_lines m n))) room (omega (arith, printed-length))
