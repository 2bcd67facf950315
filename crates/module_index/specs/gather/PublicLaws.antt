-- Public definitions are kept and read again. Assumes nothing.
use Rattle.std.specs.Prelude.{ℕ, ◌+◌, ◌-◌, Bool, List, [], ◌∷◌, ◌++◌, Some, None, if◌then◌else◌}
use Rattle.std.proofs.Math.Path.{◌≡◌, refl}
use Rattle.std.proofs.Common.{ap, ◌∙◌, append-nil, arith}
use Rattle.std.proofs.Math.Bool.{true, false}
use Rattle.std.proofs.Math.Dec.{eqb}
use Rattle.lent.specs.declared.part.Part.{Part}
use Rattle.lent.specs.Lists.{one, keep}
use Rattle.omf51.specs.declared.ModuleId.{ModuleId}
use Rattle.omf51.specs.declared.Definition.{Definition}
use Rattle.omf51.specs.declared.Definition.TheVariants.{Public}
use Rattle.library.specs.items.EntrySizeLaws.{PublicAgain}
use Rattle.module_index.specs.declared.gather.publics.PublicsBy.{PublicsBy}
use Rattle.module_index.specs.declared.gather.publics.PublicsBy.TheVariants.{Id, Offset}
use Rattle.module_index.specs.gather.Places.{public_at, public_key, is_public_definition}
use Rattle.module_index.specs.gather.Publics.{zero_publics, key_by, publics_by, keyed_by}

-- a definition is kept behind the others, or not
keep_append : {A : Type 0} (p : A → Bool) (xs ys : List A) → keep p (xs ++ ys) ≡ keep p xs ++ keep p ys
unfolding keep
keep_append p [] ys = refl
keep_append {A} p (x ∷ xs) ys = rw (keep_append p xs ys) (go (p x))
  where
    go : (t : Bool) → (if t then x ∷ (keep p xs ++ keep p ys) else keep p xs ++ keep p ys) ≡ (if t then x ∷ keep p xs else keep p xs) ++ keep p ys
    go true = refl
    go false = refl

module _ (ds : List Definition) (d : Definition) where
  abbrev of_zero : Definition → Bool
  of_zero x = eqb (public_key x) 0

  public-kept : is_public_definition d ≡ true → keep is_public_definition (ds ++ one d) ≡ keep is_public_definition ds ++ one d
  unfolding keep
  public-kept e = keep_append is_public_definition ds (one d) ∙ rw e

  other-passed : is_public_definition d ≡ false → keep is_public_definition (ds ++ one d) ≡ keep is_public_definition ds
  unfolding keep
  other-passed e = keep_append is_public_definition ds (one d) ∙ rw e (append-nil (keep is_public_definition ds))

  -- one that is not public is passed over
  pub not-public-passed : (by : PublicsBy) → is_public_definition d ≡ false → publics_by by (ds ++ one d) ≡ publics_by by ds
  not-public-passed Id e = other-passed e
  not-public-passed Offset e = ap (keep of_zero) (other-passed e)

  zero-split : is_public_definition d ≡ true → zero_publics (ds ++ one d) ≡ zero_publics ds ++ keep of_zero (one d)
  zero-split p = ap (keep of_zero) (public-kept p) ∙ keep_append of_zero (keep is_public_definition ds) (one d)

module _ (by : PublicsBy) (ds : List Definition) (id : ModuleId) (offset : ℕ) (name : Part) where
  abbrev this : Definition
  this = Public id offset name

  -- one that has a key is gathered by it, and one that has none is passed over
  pub keyed-gathered : {key : ℕ} → keyed_by by id offset ≡ Some key → (publics_by by (ds ++ one this) ≡ publics_by by ds ++ one this) × (key_by by this ≡ key)
  unfolding keep
  keyed-gathered {key} = go by
    where
      zero : (t : Bool) → eqb id.0 0 ≡ t → (if t then Some offset else None) ≡ Some key → (zero_publics (ds ++ one this) ≡ zero_publics ds ++ one this) × (offset ≡ key)
      zero true e k = (zero-split ds this refl ∙ rw e, (cc))
      zero false e k = absurd (let z : ◌≡◌ {A = ℕ} 0 1 = cc in omega arith)

      go : (b : PublicsBy) → keyed_by b id offset ≡ Some key → (publics_by b (ds ++ one this) ≡ publics_by b ds ++ one this) × (key_by b this ≡ key)
      go Id k = (public-kept ds this refl, (cc))
      go Offset k = zero (eqb id.0 0) refl k

  pub apart-passed : keyed_by by id offset ≡ None → publics_by by (ds ++ one this) ≡ publics_by by ds
  unfolding keep
  apart-passed = go by
    where
      zero : (t : Bool) → eqb id.0 0 ≡ t → (if t then Some offset else None) ≡ None → zero_publics (ds ++ one this) ≡ zero_publics ds
      zero true e k = absurd (let z : ◌≡◌ {A = ℕ} 0 1 = cc in omega arith)
      zero false e k = zero-split ds this refl ∙ rw e (append-nil (zero_publics ds))

      go : (b : PublicsBy) → keyed_by b id offset ≡ None → publics_by b (ds ++ one this) ≡ publics_by b ds
      go Id k = absurd (let z : ◌≡◌ {A = ℕ} 0 1 = cc in omega arith)
      go Offset k = zero (eqb id.0 0) refl k

pub none_kept : (by : PublicsBy) → publics_by by [] ≡ []
unfolding keep
none_kept Id = refl
none_kept Offset = refl

-- from its offset on it is read again
pub read_again : (library : List ℕ) (id : ModuleId) (offset : ℕ) (name : Part) → PublicAgain library offset name → public_at library id (name.at - 4) ≡ Public id offset name
read_again library id offset name a =
    let n : name.at - 4 + 4 ≡ name.at = omega (arith, a.front) in
    let l : name.at - 4 + 3 ≡ name.at - 1 = omega (arith, a.front) in
    rw (n, l, ← a.offset-is, ← a.len_is)
