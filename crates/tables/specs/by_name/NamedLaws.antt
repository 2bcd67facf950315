-- Keys and names: when two of them are the same, and which bucket they are in. Assumes nothing.
use Rattle.std.specs.Prelude.{◌≡◌, ℕ, ◌+◌, ◌-◌, ◌*◌, ◌%◌, ◌<◌, ◌≤◌, true, List, [], ◌∷◌, length, take, drop, ◌==◌, slice_index, refl}
use Rattle.std.proofs.Common.{sym, arith, eq-eqb, eqb-true, le-leb, drop_of_length-le}
use Rattle.std.proofs.lemmas.Bool.{false≢true, lt-leb}
use Rattle.lent.specs.declared.part.Part.{Part}
use Rattle.lent.specs.ChoiceLaws.{both, same_test}
use Rattle.lent.specs.Lists.{fold}
use Rattle.lent.specs.ListLaws.{fold-turn, fold_end}
use Rattle.lent.specs.PartLaws.{drop-turn}
use Rattle.lent.specs.Parts.{bytes_of, same}
use Rattle.tables.specs.by_name.Sheet.{Sheet, name_buckets, spread, ends, name_bucket, is_named, in_name}
use Rattle.tables.specs.by_name.TakeLaws.{fold-both}

-- strings of bytes that are the same are equal
pub same-equal : (a b : List ℕ) → same a b ≡ true → a ≡ b
unfolding same
same-equal [] [] e = refl
same-equal [] (y ∷ b) e = absurd (false≢true e)
same-equal (x ∷ a) [] e = absurd (false≢true e)
same-equal (x ∷ a) (y ∷ b) e =
    let t = both (x == y) (same a b) e in
    rw (eqb-true x y t.0, same-equal a b t.1)

pub same_self : (a : List ℕ) → same a a ≡ true
unfolding same
same_self [] = refl
same_self (x ∷ a) = rw (eq-eqb x x refl, same_self a)

-- a bucket is one of those that there are
pub bucket-small : (key : ℕ) (bytes : List ℕ) → name_bucket key bytes < name_buckets
unfolding name_bucket
bucket-small key bytes = omega arith

-- what was mixed has 32 bits
pub spread-small : (bytes : List ℕ) (h : ℕ) → h < 4294967296 → spread h bytes < 4294967296
unfolding fold
spread-small [] h l = l
spread-small (x ∷ bytes) h l = spread-small bytes ((h + x) * 2654435761 % 4294967296) (omega arith)

-- a loop over bytes by their places
module _ (bytes : List ℕ) where
  pub spread-turn : (h i : ℕ) → i < length bytes → spread h (drop i bytes) ≡ spread ((h + slice_index bytes i) * 2654435761 % 4294967296) (drop (i + 1) bytes)
  spread-turn h i l = fold-turn (λ k byte. (k + byte) * 2654435761 % 4294967296) h (drop-turn bytes i 0 l)

  pub spread-ends : (h i : ℕ) → length bytes ≤ i → spread h (drop i bytes) ≡ h
  spread-ends h i l = fold_end (λ k byte. (k + byte) * 2654435761 % 4294967296) h (drop_of_length-le bytes l)

  -- all of a short name is mixed in, and of a longer one its first bytes and then its last
  pub ends-short : length bytes ≤ 16 → ends bytes ≡ bytes
  ends-short l = rw (le-leb (length bytes) 16 l)

  pub ends-long : (h : ℕ) → 16 < length bytes → spread (spread h (take 8 bytes)) (drop (length bytes - 8) bytes) ≡ spread h (ends bytes)
  ends-long h l =
      sym (rw (lt-leb (length bytes) 16 l) (fold-both (λ k byte. (k + byte) * 2654435761 % 4294967296) h (take 8 bytes) (drop (length bytes - 8) bytes)))

module _ {A R : Type 0} (s : Sheet A R) (library : List ℕ) where
  -- a thing that has a key and a name has that key, and the bytes of that name
  pub named-of : (key : ℕ) (name : Part) (x : A) → is_named s library key name x ≡ true
      → (s.key x ≡ key) × (bytes_of library (s.name x) ≡ bytes_of library name)
  named-of key name x e =
      let t = both (s.key x == key) (same (bytes_of library (s.name x)) (bytes_of library name)) e in
      (eqb-true (s.key x) key t.0, same-equal (bytes_of library (s.name x)) (bytes_of library name) t.1)

  pub named-if : (key : ℕ) (name : Part) (x : A) → s.key x ≡ key → bytes_of library (s.name x) ≡ bytes_of library name
      → is_named s library key name x ≡ true
  named-if key name x k n = rw (k, n, eq-eqb key key refl, same_self (bytes_of library name))

  -- so it is in the bucket of both
  pub named-bucket : (key : ℕ) (name : Part) (x : A) → is_named s library key name x ≡ true
      → in_name s library (name_bucket key (bytes_of library name)) x ≡ true
  named-bucket key name x e =
      let t = named-of key name x e in
      rw (t.0, t.1, eq-eqb (name_bucket key (bytes_of library name)) (name_bucket key (bytes_of library name)) refl)

  -- and others have them exactly if they have its own
  pub named-same : (key : ℕ) (name : Part) (x : A) → is_named s library key name x ≡ true → (y : A)
      → is_named s library (s.key x) (s.name x) y ≡ is_named s library key name y
  named-same key name x e y = let t = named-of key name x e in rw (t.0, t.1)

  pub named-turned : (x y : A) → is_named s library (s.key x) (s.name x) y ≡ is_named s library (s.key y) (s.name y) x
  named-turned x y = same_test (is_named s library (s.key x) (s.name x) y) (is_named s library (s.key y) (s.name y) x) (turn x y) (turn y x)
    where
      turn : (a b : A) → is_named s library (s.key a) (s.name a) b ≡ true → is_named s library (s.key b) (s.name b) a ≡ true
      turn a b e = let t = named-of (s.key a) (s.name a) b e in named-if (s.key b) (s.name b) a (sym t.0) (sym t.1)

  -- a thing with the key and the name of another is named like it
  pub named-alike : (key : ℕ) (name : Part) (x y : A) → s.key y ≡ s.key x → s.name y ≡ s.name x → is_named s library key name y ≡ is_named s library key name x
  named-alike key name x y k n = rw (k, n)
