-- What a fixup leaves by a row is what the definition says it leaves. Assumes nothing.
use Rattle.std.specs.Prelude.{ℕ, ◌+◌, ◌≡◌, Bool, not, ◌&&◌, [], eqb, ltb, is_some, Some, None, if◌then◌else◌}
use Rattle.std.specs.Prelude.{Option as Optional}
use Rattle.std.proofs.Math.Path.{refl, sym, ap}
use Rattle.std.proofs.Common.{◌∙◌, arith}
use Rattle.std.proofs.Math.Bool.{true, false}
use Rattle.std.proofs.lemmas.Bool.{false≢true}
use Rattle.std.proofs.Math.Option.{Option, none, some}
use borrow.Author.Tests.{ne_eqb, eqb-true}
use Rattle.lent.specs.declared.refusal.Refusal.{Refusal}
use Rattle.lent.specs.declared.refusal.Refusal.TheVariants.{NoKeptSegment, UnknownKind, UnknownBlock}
use Rattle.lent.specs.Choice.{when}
use Rattle.lent.specs.FirstOf.{none≢some}
use Rattle.lent.specs.Lists.{keep, place_of, first}
use Rattle.image.specs.declared.fixup.Kind.{Kind}
use Rattle.image.specs.fixup.Target.{kind_of}
use Rattle.omf51.specs.declared.Definition.{Definition}
use Rattle.omf51.specs.declared.Fixup.{Fixup}
use Rattle.omf51.specs.Module.{Module}
use Rattle.segments.specs.declared.Goal.{Goal}
use Rattle.segments.specs.Ids.{is_kept, segment_of, external_of, kept, kept_place, named, is_code, name_in}
use Rattle.segments.specs.Collect.{left, is_none, goal_of, leaves}
use Rattle.module_ids.specs.declared.IdRow.{IdRow}
use Rattle.module_ids.specs.IdRows.{mark_of, kept_as, id_row}
use Rattle.module_ids.specs.fault.Faults.{is_code_mark, fixup_fault}
use Rattle.module_ids.proofs.fault.FaultLaws.{fixup-refusal, mark_code}
use Rattle.module_ids.specs.reference.LeftReference.{code_named, place_in, goal_by, leaves_by, known_of, kind_known}

-- the cases that the code tells apart
module _ (row : IdRow) (number base : ℕ) (f : Fixup) where
  pub leaves-refused : {r : Refusal} → fixup_fault row f ≡ some r → leaves_by row number base f ≡ []
  unfolding leaves_by
  leaves-refused e = rw e

  module _ (sound : fixup_fault row f ≡ none) where
    pub leaves-other : code_named row f ≡ false → leaves_by row number base f ≡ []
    unfolding leaves_by
    leaves-other c = rw (sound, c)

    pub leaves-kind : {k : Option Kind} → code_named row f ≡ true → kind_of f.kind ≡ k → leaves_by row number base f ≡ left true k (base + f.location) f.offset (goal_by row number f)
    unfolding leaves_by
    leaves-kind c k = rw (sound, c, k)

-- the definition, by the row of the fixup's id
module _ (m : Module) (number : ℕ) (f : Fixup) where
  abbrev row : IdRow
  row = id_row m.definitions f.id

  same_code : is_code (named m f) ≡ code_named row f
  unfolding named id_row
  same_code = go (eqb f.block 1) (eqb f.block 2)
    where
      go : (a b : Bool)
          → is_code (if a then first (segment_of f.id) m.definitions else if b then first (external_of f.id) m.definitions else none)
          ≡ (if a then is_code_mark (mark_of (first (segment_of f.id) m.definitions)) else if b then is_code_mark (mark_of (first (external_of f.id) m.definitions)) else false)
      go true b = sym (mark_code (first (segment_of f.id) m.definitions))
      go false true = sym (mark_code (first (external_of f.id) m.definitions))
      go false false = refl

  -- a block_1 fixup that is not refused and names code has a kept segment
  kept_there : eqb f.block 1 ≡ true → is_code_mark row.segment ≡ true → fixup_fault row f ≡ none → is_some row.kept ≡ true
  unfolding fixup_fault
  kept_there b c e = go (ltb 7 f.kind) (ltb 3 f.block) (is_some row.kept) (rw (ne_eqb f.block 3 other, b, c) at e)
    where
      other : f.block ≡ 3 → ⊥
      other q = omega (arith, eqb-true f.block 1 b)

      go : (y z k : Bool) → (if y then some UnknownKind else if z then some UnknownBlock else when (not k) NoKeptSegment) ≡ none → k ≡ true
      go y z true q = refl
      go true z false q = absurd (none≢some (sym q))
      go false true false q = absurd (none≢some (sym q))
      go false false false q = absurd (none≢some (sym q))

  place-there : (place : ℕ) (o : Option Definition) → is_some (kept_as place o) ≡ true → place_in (kept_as place o) ≡ place
  place-there place none e = absurd (false≢true e)
  place-there place (some d) e = refl

  same-goal : code_named row f ≡ true → fixup_fault row f ≡ none → goal_of m number f ≡ goal_by row number f
  unfolding named id_row kept
  same-goal c e = block_1 (eqb f.block 1) refl c
    where
      block_2 : (t : Bool) → (if t then is_code_mark row.external else false) ≡ true
          → Goal.Name (name_in (if t then first (external_of f.id) m.definitions else none)) ≡ Goal.Name (name_in (first (external_of f.id) m.definitions))
      block_2 true q = refl
      block_2 false q = absurd (false≢true q)

      block_1 : (t : Bool) → eqb f.block 1 ≡ t → (if t then is_code_mark row.segment else if eqb f.block 2 then is_code_mark row.external else false) ≡ true
          → (if t then Goal.Segment (record { 0 = number + kept_place m f.id }) else Goal.Name (name_in (if t then first (segment_of f.id) m.definitions else if eqb f.block 2 then first (external_of f.id) m.definitions else none)))
          ≡ (if t then Goal.Segment (record { 0 = number + place_in row.kept }) else Goal.Name row.name)
      block_1 true b q =
          ap (λ n. Goal.Segment (record { 0 = number + n }))
          (sym (place-there (place_of (segment_of f.id) (keep is_kept m.definitions)) (first (segment_of f.id) (keep is_kept m.definitions)) (kept_there b q e)))
      block_1 false b q = block_2 (eqb f.block 2) q

  pub leaves-by-row : (base : ℕ) → leaves m number base f ≡ leaves_by row number base f
  unfolding leaves_by
  leaves-by-row base = rw (fixup-refusal m f, same_code) (go (fixup_fault row f) refl (code_named row f) refl)
    where
      go : (o : Option Refusal) → fixup_fault row f ≡ o → (t : Bool) → code_named row f ≡ t
          → left (is_none o && t) (kind_of f.kind) (base + f.location) f.offset (goal_of m number f)
          ≡ left (is_none o && t) (kind_of f.kind) (base + f.location) f.offset (goal_by row number f)
      go (some r) e t c = refl
      go none e false c = refl
      go none e true c = ap (left true (kind_of f.kind) (base + f.location) f.offset) (same-goal c e)

-- a kind that is known
abbrev kind_in : Optional Kind → Option Kind
kind_in (Some kind) = some kind
kind_in None = none

kind-back : (o : Option Kind) → kind_in (known_of o) ≡ o
kind-back none = refl
kind-back (some kind) = refl

pub known : (n : ℕ) {k : Optional Kind} → kind_known n ≡ k → kind_of n ≡ kind_in k
known n e = sym (kind-back (kind_of n)) ∙ ap kind_in e
