-- Pieces put one after another make the columns, the remark and the line. Assumes nothing.
use Rattle.std.specs.Prelude.{ℕ, ◌+◌, ◌-◌, ◌/◌, ◌≡◌, List, ◌++◌, length, take, replicate}
use Rattle.std.proofs.Common.{sym, subst, ◌∙◌, arith, length-append}
use Rattle.std.proofs.Math.Path.{ap}
use Rattle.lent.specs.Lists.{one}
use Rattle.lent.specs.Parts.{bytes_of}
use Rattle.describe.specs.Describe.{text, describe}
use Rattle.describe.specs.Described.{Put}
use Rattle.describe.specs.DescribedLaws.{◌then-put◌}
use Rattle.listing_rules.specs.declared.Line.{Line}
use Rattle.listing_rules.specs.Print.{column, hex, digits, more_digits, remark, printed_line}
use Rattle.printing.specs.Pieces.{address_column, name_column, opening, closing}
use Rattle.printing.specs.PieceLaws.{hex-length, bracketed-length, bracketed-pieces}

-- the text that is put, said otherwise
pub put_as : {b : List ℕ} {at : ℕ} {s t b₁ : List ℕ} {e : ℕ} → s ≡ t → Put b at s b₁ e → Put b at t b₁ e
put_as {b} {at} {b₁ = b₁} {e} q p = subst (λ x. Put b at x b₁ e) q p

-- a text and its blanks
column-put : (width : ℕ) {b : List ℕ} {at : ℕ} {t b₁ : List ℕ} {e₁ n : ℕ} {b₂ : List ℕ} {e₂ : ℕ} → n ≡ width - length t
    → Put b at t b₁ e₁ → Put b₁ e₁ (replicate n 0x20) b₂ e₂ → Put b at (column width t) b₂ e₂
column-put width q p r = p then-put put_as (ap (λ k. replicate k 0x20) q) r

-- an address; a name between its brackets; a remark; a line
pub address-put : (a : ℕ) {b : List ℕ} {at : ℕ} {b₁ : List ℕ} {e₁ n : ℕ} {b₂ : List ℕ} {e₂ k : ℕ} {b₃ : List ℕ} {e₃ : ℕ}
    → n ≡ 4 + more_digits 12 (a / 0x10000) → k ≡ 7 - (n + 2)
    → Put b at (text "0x") b₁ e₁ → Put b₁ e₁ (digits n a) b₂ e₂ → Put b₂ e₂ (replicate k 0x20) b₃ e₃
    → Put b at (address_column a) b₃ e₃
unfolding address_column
address-put a {n = n} q r p₁ p₂ p₃ =
    let long : length (text "0x" ++ hex a) ≡ n + 2 = omega (arith, q, hex-length a) in
    column-put 7 (r ∙ ap (λ m. 7 - m) (sym long)) (p₁ then-put put_as (ap (λ m. digits m a) q) p₂) p₃

pub name-put : (grade : ℕ) (name : List ℕ) {b : List ℕ} {at x : ℕ} {b₁ : List ℕ} {e₁ : ℕ} {b₂ : List ℕ} {e₂ y : ℕ}
    {b₃ : List ℕ} {e₃ k : ℕ} {b₄ : List ℕ} {e₄ : ℕ}
    → x ≡ opening grade → y ≡ closing grade → k ≡ 22 - (length name + 2)
    → Put b at (one x) b₁ e₁ → Put b₁ e₁ name b₂ e₂ → Put b₂ e₂ (one y) b₃ e₃ → Put b₃ e₃ (replicate k 0x20) b₄ e₄
    → Put b at (name_column grade name) b₄ e₄
unfolding name_column
name-put grade name q r s p₁ p₂ p₃ p₄ =
    column-put 22 (s ∙ ap (λ m. 22 - m) (sym (bracketed-length grade name)))
    (put_as (bracketed-pieces grade name) ((put_as (ap one q) p₁ then-put p₂) then-put put_as (ap one r) p₃)) p₄

pub remark-put : (name words : List ℕ) (n : ℕ) {b : List ℕ} {at : ℕ} {b₁ : List ℕ} {e₁ : ℕ} {b₂ : List ℕ} {e₂ : ℕ}
    → remark (describe name) ≡ text " " ++ take n words
    → Put b at (text " ") b₁ e₁ → Put b₁ e₁ (take n words) b₂ e₂ → Put b at (remark (describe name)) b₂ e₂
remark-put name words n q p₁ p₂ = put_as (sym q) (p₁ then-put p₂)

pieces-length : (a b c : List ℕ) → length (a ++ text "  " ++ b ++ text " " ++ c ++ text "\n") ≡ length a + length b + length c + 4
pieces-length a b c = simp length-append (omega arith)

module _ (library : List ℕ) (l : Line) {name : List ℕ} (q : name ≡ bytes_of library l.name) where
  line-pieces : address_column l.address ++ text "  " ++ name_column l.grade name ++ text " " ++ remark (describe name) ++ text "\n" ≡ printed_line library l
  unfolding printed_line address_column name_column
  line-pieces = ap (λ n. address_column l.address ++ text "  " ++ name_column l.grade n ++ text " " ++ remark (describe n) ++ text "\n") q

  pub line-length : length (printed_line library l) ≡ length (address_column l.address) + length (name_column l.grade name) + length (remark (describe name)) + 4
  line-length = sym (ap length line-pieces) ∙ pieces-length (address_column l.address) (name_column l.grade name) (remark (describe name))

  pub line-put : {b : List ℕ} {at : ℕ} {b₁ : List ℕ} {e₁ : ℕ} {b₂ : List ℕ} {e₂ : ℕ} {b₃ : List ℕ} {e₃ : ℕ}
      {b₄ : List ℕ} {e₄ : ℕ} {b₅ : List ℕ} {e₅ : ℕ} {b₆ : List ℕ} {e₆ : ℕ}
      → Put b at (address_column l.address) b₁ e₁ → Put b₁ e₁ (text "  ") b₂ e₂ → Put b₂ e₂ (name_column l.grade name) b₃ e₃
      → Put b₃ e₃ (text " ") b₄ e₄ → Put b₄ e₄ (remark (describe name)) b₅ e₅ → Put b₅ e₅ (text "\n") b₆ e₆
      → Put b at (printed_line library l) b₆ e₆
  line-put p₁ p₂ p₃ p₄ p₅ p₆ = put_as line-pieces (((((p₁ then-put p₂) then-put p₃) then-put p₄) then-put p₅) then-put p₆)
