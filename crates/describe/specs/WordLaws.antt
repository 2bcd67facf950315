-- Laws of words: one word at the front of a name; words tried in order. Assumes nothing.
use Rattle.std.specs.Prelude.{ℕ, zero, suc, ◌+◌, ◌≤◌, ◌<◌, ◌≡◌, refl, true, false, ◌&&◌, List, [], ◌∷◌, eqb, nat_eq, length, take, drop, get_or}
use Rattle.std.proofs.Common.{sym, ap, ◌∙◌, add-one, arith, drop-cons, drop_of_length-le}
use Rattle.std.proofs.Math.Option.{none, some}
use Rattle.std.specs.Cmp.Lexicographic.{pointwise}
use Rattle.lent.specs.Lists.{place_of}
use Rattle.lent.specs.Parts.{same}
use Rattle.describe.specs.declared.words.Word.{Word}
use Rattle.describe.specs.Describe.{Words, text, front, starts_with, one_of}
use Rattle.describe.specs.Described.{words_of}

-- past the end of a list stands 0
pub get_d_past : (l : List ℕ) (i : ℕ) → length l ≤ i → get_or l i 0 ≡ 0
get_d_past [] i h = refl
get_d_past (x ∷ l) zero h = absurd (omega arith)
get_d_past (x ∷ l) (suc i) h = get_d_past l i (omega arith)

-- two strings are the same if they are so byte by byte
same-pointwise : (a b : List ℕ) → same a b ≡ pointwise nat_eq a b
unfolding same
same-pointwise [] [] = refl
same-pointwise [] (y ∷ ys) = refl
same-pointwise (x ∷ xs) [] = refl
same-pointwise (x ∷ xs) (y ∷ ys) = ap (λ t. eqb x y && t) (same-pointwise xs ys)

-- words in order: the first, or else one of the rest
first-taken : (w : List ℕ × List ℕ) (rest : Words) (name : List ℕ) → starts_with name w.0 ≡ true → some (w.1, drop (length w.0) name) ≡ one_of (w ∷ rest) name
unfolding one_of place_of
first-taken w rest name e = rw e

first-passed : (w : List ℕ × List ℕ) (rest : Words) (name : List ℕ) → starts_with name w.0 ≡ false → one_of rest name ≡ one_of (w ∷ rest) name
unfolding one_of place_of
first-passed w rest name e = rw e

no-words : (name : List ℕ) → none ≡ one_of [] name
unfolding one_of place_of
no-words name = refl

-- the one word that all such names begin with
pub front-taken : (name : List ℕ) {rest : List ℕ} → pointwise nat_eq (take 3 name) (text "?C?") ≡ true → rest ≡ drop 3 name → some ([], rest) ≡ one_of front name
front-taken name e r = ap (λ n. some ([], n)) r ∙ first-taken (text "?C?", []) [] name (same-pointwise (take 3 name) (text "?C?") ∙ e)

pub front-passed : (name : List ℕ) → pointwise nat_eq (take 3 name) (text "?C?") ≡ false → none ≡ one_of front name
front-passed name e = no-words name ∙ first-passed (text "?C?", []) [] name (same-pointwise (take 3 name) (text "?C?") ∙ e)

-- one turn: the word at place k decides, or the words behind it do
module _ (words : List Word) (k : ℕ) (d : Word) (h : k < length words) (name : List ℕ) where
  abbrev letters : List ℕ
  letters = (get_or words k d).letters.now

  ahead : words_of (drop k words) ≡ (letters, (get_or words k d).says.now) ∷ words_of (drop (k + 1) words)
  ahead = rw (add-one k, drop-cons words k d h)

  pub word-taken : {rest : List ℕ} → pointwise nat_eq (take (length letters) name) letters ≡ true → rest ≡ drop (length letters) name
      → some ((get_or words k d).says.now, rest) ≡ one_of (words_of (drop k words)) name
  word-taken e r =
      ap (λ n. some ((get_or words k d).says.now, n)) r
      ∙ first-taken (letters, (get_or words k d).says.now) (words_of (drop (k + 1) words)) name (same-pointwise (take (length letters) name) letters ∙ e)
      ∙ ap (λ ws. one_of ws name) (sym ahead)

  pub word-passed : pointwise nat_eq (take (length letters) name) letters ≡ false → one_of (words_of (drop (k + 1) words)) name ≡ one_of (words_of (drop k words)) name
  word-passed e =
      first-passed (letters, (get_or words k d).says.now) (words_of (drop (k + 1) words)) name (same-pointwise (take (length letters) name) letters ∙ e)
      ∙ ap (λ ws. one_of ws name) (sym ahead)

pub words-end : (words : List Word) (k : ℕ) → length words ≤ k → (name : List ℕ) → none ≡ one_of (words_of (drop k words)) name
unfolding one_of place_of
words-end words k h name = rw (drop_of_length-le words h)
