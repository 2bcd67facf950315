-- No description is longer than 88 bytes. Assumes nothing.
use Rattle.std.specs.Prelude.{ℕ, zero, suc, ◌+◌, ◌≤◌, ◌≡◌, refl, true, List, [], ◌∷◌, leb, length}
use Rattle.std.proofs.Math.Option.{none, some}
use Rattle.std.proofs.Common.{arith, leb-true, length-append}
use Rattle.std.proofs.Math.ListN.{get_elem?}
use Rattle.lent.specs.Lists.{all, place_of}
use Rattle.lent.specs.ChoiceLaws.{both}
use Rattle.describe.specs.Describe.{Said, Step, Words, one_of, word_off, starts_with, more, onward, otherwise, ◌and◌, ◌or◌, perhaps, front, signs, types, operations, moves, memories, into, moving, description, said_in, describe}
use Rattle.describe.specs.Described.{length_in}

-- what a step says is at most so long, whatever the name
record Short (n : ℕ) (p : Step) : Type 0 where
  short : (name : List ℕ) → length_in (said_in (p name)) ≤ n

one-short : (n : ℕ) (words : Words) → all (λ w. leb (length w.1) n) words ≡ true → Short n (one_of words)
unfolding one_of all
one-short n words e = record { short = λ name. go name words (place_of (λ w. starts_with name w.0) words) e }
  where
    go : (name : List ℕ) (ws : Words) (k : ℕ) → all (λ w. leb (length w.1) n) ws ≡ true → length_in (said_in (word_off name (get_elem? ws k))) ≤ n
    go name [] k e = omega arith
    go name (w ∷ ws) zero e = leb-true (length w.1) n (both (leb (length w.1) n) (all (λ v. leb (length v.1) n) ws) e).0
    go name (w ∷ ws) (suc k) e = go name ws k (both (leb (length w.1) n) (all (λ v. leb (length v.1) n) ws) e).1

infixr 20 ◌and-short◌
◌and-short◌ : {a b : ℕ} {p q : Step} → Short a p → Short b q → Short (a + b) (p and q)
◌and-short◌ {a} {b} {p} {q} f g = record { short = λ name. go (p name) (f.short name) }
  where
    joins : (says : List ℕ) (s : Said) → length_in (said_in (more says s)) ≤ length says + length_in (said_in s)
    joins says none = omega arith
    joins says (some (rest, left)) = omega (arith, length-append says rest)

    go : (s : Said) → length_in (said_in s) ≤ a → length_in (said_in (onward q s)) ≤ a + b
    go none h = omega arith
    go (some (says, left)) h = omega (arith, h, joins says (q left), g.short left)

infixr 15 ◌or-short◌
◌or-short◌ : {n : ℕ} {p q : Step} → Short n p → Short n q → Short n (p or q)
◌or-short◌ {n} {p} {q} f g = record { short = λ name. go name (p name) (f.short name) }
  where
    go : (name : List ℕ) (s : Said) → length_in (said_in s) ≤ n → length_in (said_in (otherwise q name s)) ≤ n
    go name none h = g.short name
    go name (some got) h = h

perhaps-short : {n : ℕ} {p : Step} → Short n p → Short n (perhaps p)
perhaps-short f = f or-short record { short = λ name. omega arith }

pub longest : (name : List ℕ) → length_in (describe name) ≤ 88
unfolding describe description all
longest name = all_short.short name
  where
    moving-short : Short 63 moving
    moving-short = one-short 25 moves refl and-short one-short 27 memories refl and-short perhaps-short (one-short 11 into refl)

    all_short : Short 88 description
    all_short = one-short 0 front refl and-short perhaps-short (one-short 9 signs refl) and-short one-short 16 types refl
        and-short (one-short 63 operations refl or-short moving-short)
