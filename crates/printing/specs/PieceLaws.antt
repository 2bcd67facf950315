-- How long the pieces of a line are, and what they are made of. Assumes nothing.
use Rattle.std.specs.Prelude.{ℕ, zero, suc, ◌+◌, ◌-◌, ◌/◌, ◌≤◌, ◌<◌, ◌≡◌, refl, Bool, true, false, List, ◌++◌, eqb, length, take, drop, Ok, Some, None, IsOk, if◌then◌else◌}
use Rattle.std.proofs.Common.{sym, ap, subst, ◌∙◌, arith, le-leb, eq-eqb, ne_eqb, length-append, length-take-le}
use Rattle.std.proofs.Math.Option.{Option, none, some}
use Rattle.std.specs.Prelude.{Option as Optional}
use Rattle.std.specs.Result.{is_ok}
use Rattle.std.proofs.lemmas.List.{length-replicate}
use Rattle.std.proofs.Math.Seq.{take-append_seam}
use Rattle.lent.specs.Lists.{one}
use Rattle.describe.specs.Describe.{text, describe}
use Rattle.describe.specs.Described.{Answer, length_in, answered, described}
use Rattle.describe.specs.SpokenLaws.{longest}
use Rattle.listing_rules.specs.Print.{column, hex, more_digits, bracketed, remark}
use Rattle.printing.specs.Pieces.{address_column, name_column, opening, closing, held_in, remark_in, size_in, Held}
use Rattle.printing.specs.StoreLaws.{digits-length}

column-length : (width : ℕ) (t : List ℕ) → length (column width t) ≡ length t + (width - length t)
column-length width t = simp (length-append, length-replicate)

-- digits are counted until nothing is left
pub digits-none : (most n : ℕ) → n ≡ 0 → more_digits most n ≡ 0
unfolding more_digits
digits-none zero n e = refl
digits-none (suc most) n e = rw (eq-eqb n 0 e)

pub digits-counted : (k n : ℕ) → k < 16 → (n ≡ 0 → ⊥) → k + 1 + more_digits (16 - (k + 1)) (n / 16) ≡ k + more_digits (16 - k) n
unfolding more_digits
digits-counted k n h z =
    let e : 16 - k ≡ suc (16 - (k + 1)) = omega arith in
    rw (e, ne_eqb n 0 z) (omega arith)

pub digits-most : (most n : ℕ) → more_digits most n ≤ most
unfolding more_digits
digits-most zero n = omega arith
digits-most (suc most) n = go (eqb n 0) (digits-most most (n / 16))
  where
    go : (t : Bool) → more_digits most (n / 16) ≤ most → (if t then 0 else 1 + more_digits most (n / 16)) ≤ suc most
    go true h = omega arith
    go false h = omega arith

-- an address, and a name
pub hex-length : (a : ℕ) → length (text "0x" ++ hex a) ≡ 4 + more_digits 12 (a / 0x10000) + 2
hex-length a = omega (arith, digits-length (4 + more_digits 12 (a / 0x10000)) a, length-append (text "0x") (hex a))

pub bracketed-pieces : (grade : ℕ) (name : List ℕ) → one (opening grade) ++ name ++ one (closing grade) ≡ bracketed grade name
bracketed-pieces grade name = go (eqb grade 0) (eqb grade 1)
  where
    go : (a b : Bool) → one (if a then 0x28 else if b then 0x5B else 0x20) ++ name ++ one (if a then 0x29 else if b then 0x5D else 0x20)
        ≡ (if a then text "(" ++ name ++ text ")" else if b then text "[" ++ name ++ text "]" else text " " ++ name ++ text " ")
    go true b = refl
    go false true = refl
    go false false = refl

pub bracketed-length : (grade : ℕ) (name : List ℕ) → length (bracketed grade name) ≡ length name + 2
bracketed-length grade name = rw (sym (bracketed-pieces grade name)) (simp length-append (omega arith))

pub address-length : (a : ℕ) → length (address_column a) ≡ 4 + more_digits 12 (a / 0x10000) + 2 + (7 - (4 + more_digits 12 (a / 0x10000) + 2))
unfolding address_column
address-length a = column-length 7 (text "0x" ++ hex a) ∙ ap (λ n. n + (7 - n)) (hex-length a)

pub name-length : (grade : ℕ) (name : List ℕ) → length (name_column grade name) ≡ length name + 2 + (22 - (length name + 2))
unfolding name_column
name-length grade name = column-length 22 (bracketed grade name) ∙ ap (λ n. n + (22 - n)) (bracketed-length grade name)

-- a remark, from the description in a buffer of 88 bytes, which has room for it
module _ (name words : List ℕ) {r : Answer} {after : List ℕ} (room : length words ≡ 88) (e : ◌≡◌ {A = Answer × List ℕ} (r, after) (described name words)) where
  written : (o : Optional ℕ) × (r ≡ Ok o) × Held name o after
  written = go (describe name) refl (longest name)
    where
      go : (o : Option (List ℕ)) → describe name ≡ o → length_in o ≤ 88 → (o : Optional ℕ) × (r ≡ Ok o) × Held name o after
      go none d h =
          let q : ◌≡◌ {A = Answer × List ℕ} (r, after) (Ok None, words) = e ∙ ap (λ o. answered o words) d in
          (None, ap (λ x. x.0) q, record { same = ap remark d; within = omega arith; short = omega arith })
      go (some t) d h =
          let rest : List ℕ = drop (length t) words in
          let fits : ◌≡◌ {A = Answer × List ℕ} (answered (some t) words) (Ok (Some (length t)), t ++ rest) = rw (le-leb (length t) (length words) (omega arith)) in
          let q : ◌≡◌ {A = Answer × List ℕ} (r, after) (Ok (Some (length t)), t ++ rest) = e ∙ ap (λ o. answered o words) d ∙ fits in (
            Some (length t),
            ap (λ x. x.0) q,
            subst (λ a. Held name (Some (length t)) a) (sym (ap (λ x. x.1) q))
                (record {
                  same = ap remark d ∙ ap (λ (x : List ℕ). text " " ++ x) (sym (take-append_seam t rest));
                  within = omega (arith, length-append t rest);
                  short = h;
                }),
          )

  pub has-room : IsOk r
  has-room = ap is_ok written.1

  pub held : {o : Optional ℕ} → r ≡ Ok o → Held name o after
  held {o} p = let same : written.0 ≡ o = cc (written.1, p) in subst (λ x. Held name x after) same written.2

pub held-length : (name : List ℕ) {r : Optional ℕ} {after : List ℕ} → Held name r after → size_in r ≡ length (remark (describe name))
held-length name {r} {after} h = go r h.within ∙ sym (ap length h.same)
  where
    go : (r : Optional ℕ) → held_in r ≤ length after → size_in r ≡ length (remark_in r after)
    go None w = refl
    go (Some n) w = omega (arith, length-append (text " ") (take n after), length-take-le n after w)

pub remark-short : (name : List ℕ) → length (remark (describe name)) ≤ 89
remark-short name = go (describe name) (longest name)
  where
    go : (o : Option (List ℕ)) → length_in o ≤ 88 → length (remark o) ≤ 89
    go none h = omega arith
    go (some t) h = omega (arith, h, length-append (text " ") t)
