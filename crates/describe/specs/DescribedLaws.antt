-- Laws of descriptions: what the words of a name come to, and what is written. Assumes nothing.
use Rattle.std.specs.Prelude.{ℕ, suc, ◌+◌, ◌-◌, ◌≤◌, ◌<◌, ◌≡◌, refl, Bool, true, false, length, take, drop, set, get_or, Ok, Err, Some, None, if◌then◌else◌}
use Rattle.std.proofs.Math.Path.{sym, ap}
use Rattle.std.proofs.Common.{◌∙◌, add-zero, zero-add, add-suc, suc-add, arith, drop-drop, drop_of_length-le, append_assoc, length-append, le-leb}
use mathlib.Core.List.{List, [], ◌∷◌, ◌++◌, append-nil}
use Rattle.std.proofs.Math.Option.{none, some}
use Rattle.std.proofs.Math.ListN.{get_elem?}
use Rattle.std.proofs.lemmas.Bool.{lt-leb}
use Rattle.std.proofs.lemmas.List.Edits.{sets, sets-eq}
use borrow.Rule.Slice.PartMut.{put_mid}
use Rattle.lent.specs.Lists.{place_of}
use Rattle.lent.specs.PartLaws.{drop-turn}
use Rattle.describe.specs.Describe.{Words, Said, front, signs, types, operations, moves, memories, into, starts_with, one_of, word_off, text, more, ◌or◌, perhaps, moving, said_in, description, describe}
use Rattle.describe.specs.Described.{Answer, said, unless_missing, Put, answered, described}

-- what all words say, spelled out
pub said-is : said
    ≡ text "signed unsigned char (8-bit) int (16-bit) general pointer long (r3-r0) long (32-bit) float "
    ++ text "additionsubtractionmultiplydivisioncomparebitwise andbitwise orbitwise xornegationlogical notshift leftshift right"
    ++ text "load from post-increment load from pre-increment load from constant store to store to "
    ++ text "xdatapdata (external ram)idata (indirect ram access)code spacegeneral pointer with offsetgeneral pointer into r3-r0"
said-is = refl

-- a word that may be missing
pub perhaps-said : (words : Words) (name : List ℕ) {w s : Said} → s ≡ unless_missing w name → w ≡ one_of words name → s ≡ perhaps (one_of words) name
perhaps-said words name q e = q ∙ ap (λ w. unless_missing w name) e

-- the front says nothing
abbrev spoken : Said → List ℕ
spoken none = []
spoken (some (says, left)) = says

front-silent : (name : List ℕ) → spoken (one_of front name) ≡ []
unfolding one_of place_of
front-silent name = go (starts_with name (text "?C?"))
  where
    go : (t : Bool) → spoken (word_off name (get_elem? front (if t then 0 else 1))) ≡ []
    go true = refl
    go false = refl

unsaid : (s : Said) → more [] s ≡ s
unsaid none = refl
unsaid (some (says, left)) = refl

-- what a name says, word by word
pub no_front : (name : List ℕ) → none ≡ one_of front name → none ≡ describe name
unfolding describe description
no_front name e = rw (sym e)

module _ (name : List ℕ) {x sign l₁ l₂ : List ℕ} (e₁ : some (x, l₁) ≡ one_of front name) (e₂ : some (sign, l₂) ≡ perhaps (one_of signs) l₁) where
  pub no_kind : none ≡ one_of types l₂ → none ≡ describe name
  unfolding describe description
  no_kind e₃ = rw (sym e₁, sym e₂, sym e₃)

  kinds : {kind l₃ : List ℕ} → some (kind, l₃) ≡ one_of types l₂ → said_in (more sign (more kind ((one_of operations or moving) l₃))) ≡ describe name
  unfolding describe description
  kinds {kind} {l₃} e₃ =
      let rest : Said = more sign (more kind ((one_of operations or moving) l₃)) in
      let silent : x ≡ [] = ap spoken e₁ ∙ front-silent name in
      rw (sym e₁, sym e₂, sym e₃) (ap said_in (sym (ap (λ w. more w rest) silent ∙ unsaid rest)))

  pub operates : {kind verb l₃ l₄ : List ℕ} → some (kind, l₃) ≡ one_of types l₂ → some (verb, l₄) ≡ one_of operations l₃
      → some (sign ++ (kind ++ (verb ++ []))) ≡ describe name
  operates {kind} {verb} e₃ e₄ = rw (append-nil verb) (rw (sym e₄) at (kinds e₃))

  pub moves-on : {kind l₃ : List ℕ} → some (kind, l₃) ≡ one_of types l₂ → none ≡ one_of operations l₃
      → said_in (more sign (more kind (moving l₃))) ≡ describe name
  moves-on e₃ e₄ = rw (sym e₄) at (kinds e₃)

module _ (sign kind name : List ℕ) where
  pub no_move : none ≡ one_of moves name → none ≡ said_in (more sign (more kind (moving name)))
  no_move e = rw (sym e)

  pub no-memory : {verb l₁ : List ℕ} → some (verb, l₁) ≡ one_of moves name → none ≡ one_of memories l₁
      → none ≡ said_in (more sign (more kind (moving name)))
  no-memory e₁ e₂ = rw (sym e₁, sym e₂)

  pub all_moved : {verb memory last l₁ l₂ l₃ : List ℕ} → some (verb, l₁) ≡ one_of moves name → some (memory, l₂) ≡ one_of memories l₁
      → some (last, l₃) ≡ perhaps (one_of into) l₂ → some (sign ++ (kind ++ (verb ++ (memory ++ last)))) ≡ said_in (more sign (more kind (moving name)))
  all_moved e₁ e₂ e₃ = rw (sym e₁, sym e₂, sym e₃)

-- a text written at once
pub put-whole : (out : List ℕ) (at n : ℕ) {t u : List ℕ} → length t ≡ n → at + n ≤ length out → u ≡ t → Put out at t (put_mid at (at + n - at) out u) (at + n)
put-whole out at n {t} l h e =
    let rest : at + n - at ≡ n = omega arith in
    record {
      ends = ap (λ k. at + k) (sym l);
      stored = rw (e, rest, drop-drop n at out, sym l) (sym (sets-eq t out at (omega arith) ∙ append_assoc (take at out) t (drop (at + length t) out)));
    }

-- a text, byte by byte
module _ (at : ℕ) (t out : List ℕ) where
  pub text-none : sets out (at + 0) (drop 0 t) ≡ sets out at t
  text-none = rw add-zero

  pub text-more : (j : ℕ) → j < length t → sets (set out (at + j) (get_or t j 0)) (at + (j + 1)) (drop (j + 1) t) ≡ sets out (at + j) (drop j t)
  text-more j h = let next : at + (j + 1) ≡ suc (at + j) = omega arith in rw (drop-turn t j 0 h, next)

  pub text-all : (j : ℕ) → length t ≤ j → out ≡ sets out (at + j) (drop j t)
  text-all j h = rw (drop_of_length-le t h)

-- and piece by piece
sets_more : (out : List ℕ) (at : ℕ) (s t : List ℕ) → sets (sets out at s) (at + length s) t ≡ sets out at (s ++ t)
sets_more out at [] t = rw add-zero
sets_more out at (x ∷ s) t = rw (add-suc, ← suc-add) (sets_more (set out at x) (suc at) s t)

infixr 20 ◌then-put◌
pub ◌then-put◌ : {b : List ℕ} {at : ℕ} {s b₁ : List ℕ} {e₁ : ℕ} {t b₂ : List ℕ} {e₂ : ℕ} → Put b at s b₁ e₁ → Put b₁ e₁ t b₂ e₂ → Put b at (s ++ t) b₂ e₂
◌then-put◌ {b} {at} {s} {t = t} p q = record {
  ends = rw length-append (omega arith);
  stored = q.stored ∙ rw (p.ends, p.stored) (sets_more b at s t);
}

sets-front : (out t : List ℕ) → length t ≤ length out → sets out 0 t ≡ t ++ drop (length t) out
sets-front out t h = sets-eq t out 0 (omega arith) ∙ rw zero-add

-- what is answered
module _ (name out : List ℕ) where
  pub undescribed : none ≡ describe name → ◌≡◌ {A = Answer × List ℕ} (Ok None, out) (described name out)
  undescribed e = ap (λ o. answered o out) e

  pub too_short : {t : List ℕ} → some t ≡ describe name → length out < length t → ◌≡◌ {A = Answer × List ℕ} (Err (record {}), out) (described name out)
  too_short {t} e h = rw (sym e, lt-leb (length t) (length out) h)

  pub fits : {t after : List ℕ} {end : ℕ} → some t ≡ describe name → length t ≤ length out → Put out 0 t after end
      → ◌≡◌ {A = Answer × List ℕ} (Ok (Some end), after) (described name out)
  fits {t} e h p = rw (p.ends, p.stored, sym e, le-leb (length t) (length out) h, sets-front out t h, zero-add)
