-- A public definition takes six bytes at least: its id, its info, its offset, a byte that is ignored, and the length of its name. Assumes nothing.
use Rattle.std.specs.Prelude.{ℕ, ◌+◌, ◌≤◌, ◌≡◌, refl, Bool, true, false, List, Option, Some, None}
use Rattle.std.proofs.Common.{sym, ap, subst, ◌∙◌, arith}
use Rattle.lent.specs.declared.part.Part.{Part}
use Rattle.omf51.specs.declared.Frame.{Frame}
use Rattle.omf51.specs.declared.ModuleId.{ModuleId}
use Rattle.omf51.specs.declared.Definition.{Definition}
use Rattle.omf51.specs.declared.Definition.TheVariants.{Segment, Public, External}
use Rattle.omf51.specs.declared.entry.Entries.TheVariants.{Definitions}
use Rattle.omf51.specs.Entry.{id_size, is_segment, is_public, name_offset}
use Rattle.library.specs.declared.items.Cursor.{Cursor}
use Rattle.library.specs.declared.items.NextEntry.{NextEntry}
use Rattle.library.specs.declared.items.NextDefinition.{NextDefinition}
use Rattle.library.specs.items.Walk.{next_entry}
use Rattle.library.specs.items.Items.{past, definition_here, next_definition, definition_step}
use Rattle.library.specs.items.ItemLaws.{step-whole, definition-room, segment-here, public-here, external-here}
use Rattle.library.specs.items.ForwardLaws.{Ordered, Sized, entry-later, definition-sized}

-- the length of a public definition's name stands five bytes behind its start, or later
abbrev Behind : Frame → Definition → Type 0
Behind f (Segment id info relocation size name) = Unit
Behind f (Public id offset name) = 5 ≤ name_offset f
Behind f (External id info name) = Unit

behind-here : (library : List ℕ) (f : Frame) (at : ℕ) → Behind f (definition_here library f at)
behind-here library f at = segment (is_segment f) refl
  where
    public : is_segment f ≡ false → (t : Bool) → is_public f ≡ t → Behind f (definition_here library f at)
    public s true p = let n : name_offset f ≡ id_size f + 4 = rw (s, p) in subst (Behind f) (sym (public-here library f at s p)) (omega (arith, n))
    public s false p = subst (Behind f) (sym (external-here library f at s p)) tt

    segment : (t : Bool) → is_segment f ≡ t → Behind f (definition_here library f at)
    segment true s = subst (Behind f) (sym (segment-here library f at s)) tt
    segment false s = public s (is_public f) refl

pub public-sized : (library : List ℕ) (c : Cursor) → Ordered c → {n : NextDefinition} {id : ModuleId} {offset : ℕ} {name : Part}
    → next_definition library c ≡ Some n → n.definition ≡ Public id offset name → Sized library 6 c n.rest
public-sized library c o {n} {id} {offset} {name} i is = go (next_entry Definitions library c) refl i
  where
    go : (s : Option NextEntry) → next_entry Definitions library c ≡ s → definition_step library s ≡ Some n → Sized library 6 c n.rest
    go (Some s) q e =
        let here = s.here in
        let same : definition_here library here.frame here.at ≡ n.definition = cc in
        let d : definition_here library here.frame here.at ≡ Public id offset name = same ∙ is in
        let p : past here s.end ≡ n.rest = cc in
        let r = definition-room library here.frame here.at (step-whole Definitions library c q).ends in
        let b : 5 ≤ name_offset here.frame = subst (Behind here.frame) d (behind-here library here.frame here.at) in
        record { size-later = omega (arith, entry-later Definitions library c o q, r.0, b, ap (λ (k : Cursor). k.at) p); forward = (definition-sized library c o i).forward }
    go None q e = let z : ◌≡◌ {A = ℕ} 0 1 = cc in absurd (omega arith)
