-- A table is clear again once the rows of all ids that have definitions are cleared. Assumes nothing.
use Rattle.std.specs.Prelude.{ℕ, zero, suc, ◌+◌, ◌*◌, ◌<◌, ◌≤◌, ◌≡◌, refl, Bool, true, false, ◌&&◌, ◌||◌, List, [], ◌∷◌, eqb, ltb, length, get_or, if◌then◌else◌}
use Rattle.std.proofs.Common.{sym, ap, ◌∙◌, arith, eqb-true}
use Rattle.std.proofs.lemmas.Bool.{false≢true, eqb-false}
use Rattle.std.proofs.Math.Option.{none}
use Rattle.std.proofs.lemmas.List.{length-replicate}
use Rattle.lent.specs.Lists.{keep, any, place_of, first}
use Rattle.lent.specs.Rows.{zeros, has_row, cell_of, put_row}
use Rattle.lent.specs.RowLaws.{get-put, get_other, put-length}
use Rattle.omf51.specs.declared.ModuleId.{ModuleId}
use Rattle.omf51.specs.declared.Definition.{Definition}
use Rattle.omf51.specs.declared.Definition.TheVariants.{Segment, Public, External}
use Rattle.segments.specs.Ids.{same_id, is_kept, segment_of, external_of, id_of}
use Rattle.module_ids.specs.IdRows.{id_row, id_cells, id_layout, id_row_at, Small}
use Rattle.module_ids.proofs.IdRowLaws.{id-wide, id-back}
use Rattle.module_ids.specs.Noted.{no_row, Tells}

-- whether a definition of an id is among some
abbrev pub defined : ModuleId → List Definition → Bool
defined id ds = any (λ d. same_id (id_of d) id) ds

-- rows of ids that are not among those left to clear are clear
pub record Clearing (left : List Definition) (table : List ℕ) : Type 0 where
  pub long : 65536 * 3 ≤ length table
  pub rows : (id : ModuleId) → id.0 < 65536 → defined id left ≡ false → id_row_at table id ≡ no_row

-- of an id that is not defined there is no first definition of any sort
abbrev OfId : ModuleId → (Definition → Bool) → Type 0
OfId id p = (d : Definition) → same_id (id_of d) id ≡ false → p d ≡ false

segment-of-id : (id : ModuleId) → OfId id (segment_of id)
segment-of-id id (Segment own info relocation size name) e = e
segment-of-id id (Public own offset name) e = refl
segment-of-id id (External own info name) e = refl

external-of-id : (id : ModuleId) → OfId id (external_of id)
external-of-id id (Segment own info relocation size name) e = refl
external-of-id id (Public own offset name) e = refl
external-of-id id (External own info name) e = e

neither : (a b : Bool) → (a || b) ≡ false → (a ≡ false) × (b ≡ false)
neither true b e = absurd (false≢true (sym e))
neither false b e = (refl, e)

no-first : (id : ModuleId) (p : Definition → Bool) → OfId id p → (ds : List Definition) → defined id ds ≡ false → first p ds ≡ none
unfolding any place_of
no-first id p o [] e = refl
no-first id p o (d ∷ ds) e = let n = neither (same_id (id_of d) id) (defined id ds) e in rw (o d n.0) (no-first id p o ds n.1)

kept-undefined : (id : ModuleId) (ds : List Definition) → defined id ds ≡ false → defined id (keep is_kept ds) ≡ false
unfolding any keep
kept-undefined id [] e = refl
kept-undefined id (d ∷ ds) e = let n = neither (same_id (id_of d) id) (defined id ds) e in go (is_kept d) n.0 (kept-undefined id ds n.1)
  where
    go : (t : Bool) → same_id (id_of d) id ≡ false → defined id (keep is_kept ds) ≡ false → defined id (if t then d ∷ keep is_kept ds else keep is_kept ds) ≡ false
    go true e r = rw e r
    go false e r = r

undefined-row : (id : ModuleId) (ds : List Definition) → defined id ds ≡ false → id_row ds id ≡ no_row
unfolding id_row
undefined-row id ds e =
    rw
    (no-first id (segment_of id) (segment-of-id id) ds e, no-first id (external_of id) (external-of-id id) ds e, no-first id (segment_of id) (segment-of-id id) (keep is_kept ds) (kept-undefined id ds e))

-- from a table that tells of all, row by row, to one that tells of nothing
pub clearing-starts : (ds : List Definition) (table : List ℕ) → Tells ds table → Clearing ds table
clearing-starts ds table t = record { long = t.long; rows = λ id h e. t.rows id h ∙ undefined-row id ds e }

pub none-small : Small no_row
none-small = record { ordinal-small = omega arith; size_small = omega arith; at_small = omega arith; len-small = omega arith }

pub clearing-step : (d : Definition) (left : List Definition) (table : List ℕ) → (id_of d).0 < 65536 → Clearing (d ∷ left) table
    → Clearing left (put_row 3 table (id_of d).0 (id_cells no_row))
unfolding any
clearing-step d left table small c = record { long = omega (arith, c.long, put-length 3 table (id_of d).0 (id_cells no_row)); rows = λ id h e. go id h e (eqb (id_of d).0 id.0) refl }
  where
    go : (id : ModuleId) → id.0 < 65536 → defined id left ≡ false → (b : Bool) → eqb (id_of d).0 id.0 ≡ b
        → id_row_at (put_row 3 table (id_of d).0 (id_cells no_row)) id ≡ no_row
    go id h e true q =
        let same : (id_of d).0 ≡ id.0 = eqb-true (id_of d).0 id.0 q in
        ap (λ i. id_row_at (put_row 3 table (id_of d).0 (id_cells no_row)) (record { 0 = i })) (sym same)
        ∙ get-put id_layout id-wide table (id_of d).0 no_row (omega (arith, c.long)) (id-back no_row none-small.len-small)
    go id h e false q =
        let n = eqb-false (id_of d).0 id.0 q in
        get_other id_layout id-wide table (id_of d).0 id.0 no_row (λ z. n (sym z)) ∙ c.rows id h (rw q e)

pub cleared : (table : List ℕ) → Clearing [] table → Tells [] table
unfolding any
cleared table c = record { long = c.long; rows = λ id h. c.rows id h refl ∙ sym (undefined-row id [] refl) }

-- a table of zeros tells of nothing
zero-at : (n k : ℕ) → get_or (zeros n) k 0 ≡ 0
zero-at zero k = refl
zero-at (suc n) zero = refl
zero-at (suc n) (suc k) = zero-at n k

zero-cell : (n i j : ℕ) → cell_of 3 (zeros n) i j ≡ 0
unfolding cell_of
zero-cell n i j = rw (zero-at n (i * 3 + j)) (go (has_row 3 (zeros n) i && ltb j 3))
  where
    nil : ℕ
    nil = 0

    go : (t : Bool) → (if t then nil else 0) ≡ 0
    go true = refl
    go false = refl

none-defined : (id : ModuleId) → defined id [] ≡ false
unfolding any
none-defined id = refl

pub zeros-tell : (n : ℕ) → 65536 * 3 ≤ n → Tells [] (zeros n)
zeros-tell n h = record { long = omega (arith, h, length-replicate {A = ℕ} n 0); rows = λ id k. row id ∙ sym (undefined-row id [] (none-defined id)) }
  where
    row : (id : ModuleId) → id_row_at (zeros n) id ≡ no_row
    row id = rw (zero-cell n id.0 0, zero-cell n id.0 1, zero-cell n id.0 2)
