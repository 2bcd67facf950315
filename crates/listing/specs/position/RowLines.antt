-- The line of a row, if it has one: by the code's tests, and by the definition's. Assumes nothing.
use Rattle.std.specs.Prelude.{ℕ, ◌<◌, Bool, ◌&&◌, ◌||◌, List, [], map, eqb, if◌then◌else◌}
use Rattle.std.proofs.Math.Path.{◌≡◌, refl, subst}
use Rattle.std.proofs.Common.{sym, ap, ◌∙◌, mod-eq_of_lt, arith, eqb-true, eq-eqb, ne_eqb}
use Rattle.std.proofs.Math.Bool.{true, false, not}
use Rattle.lent.specs.Lists.{one, keep}
use Rattle.segments.specs.Collect.{Collected}
use Rattle.tables.specs.by_name.Sheet.{key_buckets, key_bucket}
use Rattle.search_rules.specs.declared.Asked.{Asked}
use Rattle.search_rules.specs.declared.Placed.{Placed}
use Rattle.search_rules.specs.declared.Noted.{Noted}
use Rattle.search_rules.specs.Search.{Placing, Noting, is_noted}
use Rattle.search_rules.specs.SearchRows.{placed_sheet, noted_sheet}
use Rattle.listing_rules.specs.Listing.{noted_line, placed_line, stays, borne_out, grade}
use Rattle.listing.specs.position.Bests.{noted_lines, placed_lines}
use Rattle.listing.specs.position.RowsAt.{noted_at_it}

-- what is at a position is in its bucket
in-bucket : (key at : ℕ) (rest : Bool) → at < key_buckets → (eqb key at && rest) ≡ true → key_bucket key ≡ at
in-bucket key at rest h e =
    let same : key ≡ at = eqb-true key at (first (eqb key at) rest e) in
    ap key_bucket same ∙ mod-eq_of_lt h
  where
    first : (t u : Bool) → (t && u) ≡ true → t ≡ true
    first true u f = refl
    first false u f = f

pub noted-within : (at : ℕ) → at < key_buckets → (n : Noting) → noted_at_it at n ≡ true → key_bucket n.target ≡ at
noted-within at h n e = in-bucket n.target at n.valid h e

-- THE CODE'S TESTS
module _ (at : ℕ) (row : Noted) where
  pub noted-elsewhere : (row.target ≡ at → ⊥) → noted_lines at row ≡ []
  noted-elsewhere h = rw (ne_eqb row.target at h)

  pub noted-invalid : row.target ≡ at → row.valid ≡ false → noted_lines at row ≡ []
  noted-invalid h e = rw (eq-eqb row.target at h, e)

  pub noted-this : row.target ≡ at → row.valid ≡ true → noted_lines at row ≡ one (record { address = at; grade = 0; name = row.name })
  noted-this h e = rw (eq-eqb row.target at h, e)

module _ (at g : ℕ) (row : Placed) where
  pub placed-elsewhere : (row.position ≡ at → ⊥) → placed_lines at g row ≡ []
  placed-elsewhere h = rw (ne_eqb row.position at h)

  pub placed-dropped : row.position ≡ at → g ≡ 0 → placed_lines at g row ≡ []
  placed-dropped h e = rw (eq-eqb row.position at h, e)

  pub placed-this : row.position ≡ at → (g ≡ 0 → ⊥) → placed_lines at g row ≡ one (record { address = at; grade = g; name = row.name })
  placed-this h e = rw (eq-eqb row.position at h, ne_eqb g 0 e)

-- THE DEFINITION'S: a name noted there that is valid
pub noted-lines : (at : ℕ) (n : Noting) (link alike : ℕ) → noted_lines at (noted_sheet.row n link alike) ≡ map noted_line (keep (noted_at_it at) (one n))
unfolding keep
noted-lines at n link alike = go (eqb n.target at) refl n.valid refl
  where
    go : (t : Bool) → eqb n.target at ≡ t → (v : Bool) → n.valid ≡ v → noted_lines at (noted_sheet.row n link alike) ≡ map noted_line (keep (noted_at_it at) (one n))
    go false e v f = rw e
    go true e false f = rw (e, f)
    go true e true f = rw (e, f) (ap (λ t. one (record { address = t; grade = 0; name = n.name })) (sym (eqb-true n.target at e)))

-- a symbol that stays has a grade
module _ (library cells : List ℕ) (a : Asked) (gs : List Collected) (ps : List Placing) (ns : List Noting) (p : Placing) where
  pub placed-within : (at : ℕ) → at < key_buckets → stays library cells a gs ps ns at p ≡ true → key_bucket p.position ≡ at
  placed-within at h e = in-bucket p.position at (p.valid || is_noted library ns at p.name) h e

  pub some-grade : grade library cells a gs ps ns p ≡ 0 → ⊥
  unfolding grade
  some-grade e = go (borne_out library cells a gs ps ns p) (is_noted library ns p.position p.name) e
    where
      go : (t u : Bool) → ◌≡◌ {A = ℕ} (if not t then 1 else if u then 3 else 2) 0 → ⊥
      go false u e = absurd (omega (arith, e))
      go true true e = absurd (omega (arith, e))
      go true false e = absurd (omega (arith, e))

  pub placed-lines : (at g link alike : ℕ) → g ≡ (if p.valid || is_noted library ns p.position p.name then grade library cells a gs ps ns p else 0)
      → placed_lines at g (placed_sheet.row p link alike) ≡ map (placed_line library cells a gs ps ns) (keep (stays library cells a gs ps ns at) (one p))
  unfolding keep
  placed-lines at g link alike is = go (eqb p.position at) refl
    where
      there : (k : ℕ) → k ≡ at → (t : Bool) → (p.valid || is_noted library ns k p.name) ≡ t → (p.valid || is_noted library ns at p.name) ≡ t
      there k e t f = subst (λ j. (p.valid || is_noted library ns j p.name) ≡ t) e f

      stands : p.position ≡ at → (t : Bool) → (p.valid || is_noted library ns p.position p.name) ≡ t
          → placed_lines at g (placed_sheet.row p link alike) ≡ map (placed_line library cells a gs ps ns) (if eqb p.position at && (p.valid || is_noted library ns at p.name) then one p else [])
      stands h false f =
          let zero : g ≡ 0 = is ∙ ap (λ t. if t then grade library cells a gs ps ns p else 0) f in
          placed-dropped at g (placed_sheet.row p link alike) h zero ∙ sym (rw (eq-eqb p.position at h, there p.position h false f))
      stands h true f =
          let own : g ≡ grade library cells a gs ps ns p = is ∙ ap (λ t. if t then grade library cells a gs ps ns p else 0) f in
          placed-this at g (placed_sheet.row p link alike) h (λ z. some-grade (sym own ∙ z))
          ∙ ap (λ k. one (record { address = k; grade = g; name = p.name })) (sym h)
          ∙ ap (λ k. one (record { address = p.position; grade = k; name = p.name })) own
          ∙ sym (rw (eq-eqb p.position at h, there p.position h true f))

      go : (t : Bool) → eqb p.position at ≡ t
          → placed_lines at g (placed_sheet.row p link alike) ≡ map (placed_line library cells a gs ps ns) (if eqb p.position at && (p.valid || is_noted library ns at p.name) then one p else [])
      go false e = rw e
      go true e = stands (eqb-true p.position at e) (p.valid || is_noted library ns p.position p.name) refl
