-- What the row of an id says is what the module's definitions say. Assumes nothing.
use Rattle.std.specs.Prelude.{ℕ, suc, ◌+◌, ◌≤◌, ◌<◌, ◌≡◌, refl, Bool, true, false, not, ◌&&◌, ◌||◌, List, [], ◌∷◌, eqb, ltb, is_some, Some, None, if◌then◌else◌}
use Rattle.std.proofs.Common.{sym, ap}
use Rattle.std.proofs.Math.Option.{Option, none, some}
use borrow.Author.Tests.{eq-eqb, ne_eqb, lt-ltb, le-ltb}
use Rattle.std.proofs.Math.ListN.{get_elem?}
use Rattle.lent.specs.declared.refusal.Refusal.TheVariants.{UnknownKind, UnknownBlock, ContentPastSegment, NoKeptSegment}
use Rattle.lent.specs.Choice.{when}
use Rattle.lent.specs.Lists.{keep, any, place_of, first}
use Rattle.omf51.specs.declared.Content.{Content}
use Rattle.omf51.specs.declared.Definition.{Definition}
use Rattle.omf51.specs.declared.Fixup.{Fixup}
use Rattle.omf51.specs.Module.{Module}
use Rattle.segments.specs.Ids.{is_kept, segment_of, external_of, kept, named, is_code}
use Rattle.segments.specs.Refuse.{fixup_refusal, passes, content_refusal}
use Rattle.module_ids.specs.declared.Mark.TheVariants.{Other, Code}
use Rattle.module_ids.specs.declared.KeptSegment.{KeptSegment}
use Rattle.module_ids.specs.declared.IdRow.{IdRow}
use Rattle.module_ids.specs.IdRows.{mark_of, kept_as, id_row}
use Rattle.module_ids.specs.fault.Faults.{is_code_mark, passes_kept, fixup_fault, content_fault}

-- a mark says whether the definition is code
pub mark_code : (o : Option Definition) → is_code_mark (mark_of o) ≡ is_code o
mark_code none = refl
mark_code (some d) = go (is_code (some d))
  where
    go : (t : Bool) → is_code_mark (if t then Code else Other) ≡ t
    go true = refl
    go false = refl

-- one passes a test exactly if there is a first that does
abbrev there : {A : Type 0} → Option A → Bool
there none = false
there (some a) = true

any-first : {A : Type 0} (p : A → Bool) (xs : List A) → any p xs ≡ there (first p xs)
unfolding any place_of
any-first p [] = refl
any-first p (x ∷ xs) = go (p x) (any-first p xs)
  where
    go : (t : Bool) → any p xs ≡ there (first p xs) → (t || any p xs) ≡ there (get_elem? (x ∷ xs) (if t then 0 else suc (place_of p xs)))
    go true e = refl
    go false e = e

kept_there : (place : ℕ) (o : Option Definition) → is_some (kept_as place o) ≡ there o
kept_there place none = refl
kept_there place (some d) = refl

kept-passes : (c : Content) (place : ℕ) (o : Option Definition) → passes_kept c (kept_as place o) ≡ passes c o
kept-passes c place none = refl
kept-passes c place (some d) = refl

-- the definition's refusals, by the row
pub fixup-refusal : (m : Module) (f : Fixup) → fixup_refusal m f ≡ fixup_fault (id_row m.definitions f.id) f
unfolding fixup_refusal fixup_fault id_row named kept
fixup-refusal m f =
    ap (λ t. if eqb f.block 3 then none else if ltb 7 f.kind then some UnknownKind else if ltb 3 f.block then some UnknownBlock else when t NoKeptSegment) (go (eqb f.block 1))
  where
    go : (t : Bool)
        → (t && is_code (if t then first (segment_of f.id) m.definitions else if eqb f.block 2 then first (external_of f.id) m.definitions else none) && not (any (segment_of f.id) (keep is_kept m.definitions)))
        ≡ (t && is_code_mark (mark_of (first (segment_of f.id) m.definitions)) && not (is_some (kept_as (place_of (segment_of f.id) (keep is_kept m.definitions)) (first (segment_of f.id) (keep is_kept m.definitions)))))
    go true = rw (mark_code, kept_there, any-first)
    go false = refl

pub content-refusal : (m : Module) (c : Content) → content_refusal m c ≡ content_fault (id_row m.definitions c.id) c
unfolding content_refusal content_fault id_row kept
content-refusal m c = ap (λ t. when t ContentPastSegment) (sym (kept-passes c _ (first (segment_of c.id) (keep is_kept m.definitions))))

-- the code's tests, one after another
module _ (row : IdRow) (f : Fixup) where
  pub ignored : f.block ≡ 3 → fixup_fault row f ≡ none
  unfolding fixup_fault
  ignored e = rw (eq-eqb f.block 3 e)

  module _ (other : f.block ≡ 3 → ⊥) where
    pub unknown-kind : 7 < f.kind → fixup_fault row f ≡ some UnknownKind
    unfolding fixup_fault
    unknown-kind k = rw (ne_eqb f.block 3 other, lt-ltb 7 f.kind k)

    module _ (low : f.kind ≤ 7) where
      pub unknown-block : 3 < f.block → fixup_fault row f ≡ some UnknownBlock
      unfolding fixup_fault
      unknown-block b = rw (ne_eqb f.block 3 other, le-ltb 7 f.kind low, lt-ltb 3 f.block b)

      module _ (small : f.block ≤ 3) where
        pub not-segment : (f.block ≡ 1 → ⊥) → fixup_fault row f ≡ none
        unfolding fixup_fault
        not-segment n = rw (ne_eqb f.block 3 other, le-ltb 7 f.kind low, le-ltb 3 f.block small, ne_eqb f.block 1 n)

        pub not_code : f.block ≡ 1 → is_code_mark row.segment ≡ false → fixup_fault row f ≡ none
        unfolding fixup_fault
        not_code e t = rw (ne_eqb f.block 3 other, le-ltb 7 f.kind low, le-ltb 3 f.block small, eq-eqb f.block 1 e, t)

        pub segment-fault : {t k : Bool} → f.block ≡ 1 → is_code_mark row.segment ≡ t → is_some row.kept ≡ k → fixup_fault row f ≡ when (t && not k) NoKeptSegment
        unfolding fixup_fault
        segment-fault e t k = rw (ne_eqb f.block 3 other, le-ltb 7 f.kind low, le-ltb 3 f.block small, eq-eqb f.block 1 e, t, k)

module _ (row : IdRow) (c : Content) where
  pub no-segment : row.kept ≡ None → content_fault row c ≡ none
  unfolding content_fault
  no-segment e = rw e

  module _ {kept : KeptSegment} (k : row.kept ≡ Some kept) where
    pub fits : c.offset + c.part.len ≤ kept.size → content_fault row c ≡ none
    unfolding content_fault
    fits h = rw (k, le-ltb kept.size (c.offset + c.part.len) h)

    pub too_long : kept.size < c.offset + c.part.len → content_fault row c ≡ some ContentPastSegment
    unfolding content_fault
    too_long h = rw (k, lt-ltb kept.size (c.offset + c.part.len) h)
