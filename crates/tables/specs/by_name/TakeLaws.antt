-- Named things taken into a table, one after another. Assumes nothing.
use Rattle.std.specs.Prelude.{◌≡◌, ℕ, List, [], ◌∷◌, ◌++◌, refl}
use Rattle.std.proofs.Common.{sym, subst}
use Rattle.lent.specs.Lists.{one, fold}
use Rattle.tables.specs.by_name.Sheet.{Sheet}
use Rattle.tables.specs.by_name.Tables.{Table, Tabled, Takes, LeadsOn}

-- steps over two lists, one after the other
pub fold-both : {A B : Type 0} (step : B → A → B) (b : B) (xs ys : List A) → fold step b (xs ++ ys) ≡ fold step (fold step b xs) ys
unfolding fold
fold-both step b [] ys = refl
fold-both step b (x ∷ xs) ys = fold-both step (step b x) xs ys

module _ {A R : Type 0} (s : Sheet A R) (library : List ℕ) (step : List A → A → List A) where
  pub takes_none : (t : Table) → Takes s library step [] t t
  unfolding fold
  takes_none t xs h = h

  pub takes_one : (x : A) {t after : Table} → ((xs : List A) → Tabled s library xs t → Tabled s library (step xs x) after) → Takes s library step (one x) t after
  unfolding fold
  takes_one x p xs h = p xs h

  pub takes-both : (a b : List A) {t u v : Table} → Takes s library step a t u → Takes s library step b u v → Takes s library step (a ++ b) t v
  takes-both a b {t} {u} {v} p q xs h = subst (λ ys. Tabled s library ys v) (sym (fold-both step xs a b)) (q (fold step xs a) (p xs h))

  -- all of them are left; some are taken in; and then nothing is left
  pub leads-all : (all : List A) (t : Table) → LeadsOn s library step all t all t
  leads-all all t after p = p

  pub lead-on : (a rest all : List A) {left : List A} {t₀ t u : Table} → left ≡ a ++ rest → Takes s library step a t u
      → LeadsOn s library step left t all t₀ → LeadsOn s library step rest u all t₀
  lead-on a rest all {left} {t₀} {t} {u} e p w after q =
      w after (subst (λ xs. Takes s library step xs t after) (sym e) (takes-both a rest {t = t} {u = u} {v = after} p q))

  pub all-taken : (all : List A) {left : List A} {t₀ t : Table} → left ≡ [] → LeadsOn s library step left t all t₀ → Takes s library step all t₀ t
  all-taken all {left} {t₀} {t} e w = w t (subst (λ xs. Takes s library step xs t t) (sym e) (takes_none t))
