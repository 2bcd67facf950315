-- Segments by what is met along links, and as the definition has them. Assumes nothing.
use Rattle.std.specs.Prelude.{ℕ, ◌+◌, ◌-◌, ◌≡◌, Bool, ◌&&◌, length, drop, if◌then◌else◌}
use Rattle.std.proofs.Math.Path.{refl}
use Rattle.std.proofs.Common.{ap, ◌∙◌, arith, length-take, length-drop}
use Rattle.std.proofs.Math.Bool.{true, false}
use mathlib.Core.List.{List, [], ◌∷◌, ◌++◌}
use Rattle.std.proofs.Math.Dec.{eqb}
use Rattle.lent.specs.Lists.{one, keep, joined}
use Rattle.lent.specs.ListLaws.{joined_same}
use Rattle.lent.specs.Parts.{bytes_of}
use Rattle.lent.specs.PartLaws.{part-fits}
use Rattle.image.specs.declared.fixup.Rules.{Rules}
use Rattle.image.specs.declared.fixup.Rules.TheVariants.{AsFound, Documented}
use Rattle.omf51.specs.declared.ModuleId.{ModuleId}
use Rattle.omf51.specs.declared.Definition.{Definition}
use Rattle.omf51.specs.declared.Definition.TheVariants.{Segment, Public, External}
use Rattle.omf51.specs.declared.Content.{Content}
use Rattle.omf51.specs.Module.{Section, Module}
use Rattle.segments.specs.Ids.{size_of, id_of}
use Rattle.segments.specs.Collect.{leaves, references_of, symbol_of, symbols_of, kept_segment, absolute_id, inside_of, symbol_base, absolute_segment}
use Rattle.module_index.specs.gather.Places.{public_key, is_public_definition}
use Rattle.module_ids.proofs.reference.LeftReferenceLaws.{leaves-by-row}
use Rattle.segment_parts.specs.declared.carried.Carried.{Carried}
use Rattle.segment_parts.specs.declared.carried.Carried.TheVariants.{All, Inside}
use Rattle.segment_parts.specs.AddedReferences.{leaves_in, section_leaves}
use Rattle.segment_parts.specs.AddedSymbols.{carries_at, base_of, symbol_by}
use Rattle.collect.specs.stored.Segments.{kept_of, absolute_of, WholeContent, publics_of, sections_for, own_by}

-- a content within the library has as many bytes as it says
pub whole_length : (library : List ℕ) (content : Content) → WholeContent library content → length (bytes_of library content.part) ≡ content.part.len
whole_length library content w =
    let p = content.part in
    ap length (part-fits library p w.within) ∙ length-take (p.at + p.len - p.at) (drop p.at library) ∙ omega (arith, length-drop p.at library, w.within)

references-by : (m : Module) (number base : ℕ) (s : Section) → references_of m number base s ≡ joined (leaves_in m.definitions number base) s.fixups
unfolding references_of
references-by m number base s = joined_same (leaves m number base) (leaves_in m.definitions number base) (λ f. leaves-by-row m number f base) s.fixups

module _ (id : ModuleId) (inside : ℕ → Bool) (base : ℕ) (c : Carried) (same-inside : (offset : ℕ) → inside offset ≡ carries_at c offset) (same_base : base ≡ base_of c) where
  symbols-from : (ds : List Definition) → joined (symbol_of id inside base) ds ≡ joined (symbol_by c) (keep (λ d. eqb (public_key d) id.0) (keep is_public_definition ds))
  unfolding joined keep
  symbols-from [] = refl
  symbols-from (Segment own info relocation size name ∷ ds) = symbols-from ds
  symbols-from (External own info name ∷ ds) = symbols-from ds
  symbols-from (Public own offset name ∷ ds) = go (eqb own.0 id.0) (symbols-from ds)
    where
      go : (t : Bool) → let rest = keep (λ d. eqb (public_key d) id.0) (keep is_public_definition ds) in joined (symbol_of id inside base) ds ≡ joined (symbol_by c) rest
          → (if t && inside offset then one (record { name = name; offset = offset - base }) else []) ++ joined (symbol_of id inside base) ds
          ≡ joined (symbol_by c) (if t then Public own offset name ∷ rest else rest)
      go true r = rw (r, same-inside offset, same_base) refl
      go false r = r

pub symbols-by : (m : Module) (id : ModuleId) (inside : ℕ → Bool) (base : ℕ) (c : Carried) → ((offset : ℕ) → inside offset ≡ carries_at c offset) → base ≡ base_of c
    → symbols_of m id inside base ≡ joined (symbol_by c) (publics_of m id)
unfolding symbols_of
symbols-by m id inside base c i b = symbols-from id inside base c i b m.definitions

-- a kept segment, and an absolute content
pub kept_by : (library : List ℕ) (m : Module) (number place : ℕ) (d : Definition)
    → kept_segment library m number (place, d) ≡ kept_of library m.definitions number (size_of d) (sections_for m (id_of d) place) (publics_of m (id_of d))
unfolding kept_segment
kept_by library m number place d =
    rw (symbols-by m (id_of d) (λ offset. true) 0 All (λ offset. refl) refl, joined_same (λ s. references_of m number s.content.offset s) (section_leaves m.definitions number) (λ s. references-by m number s.content.offset s) (sections_for m (id_of d) place)) refl

pub absolute-by : (rules : Rules) (library : List ℕ) (m : Module) (number : ℕ) (s : Section)
    → absolute_segment rules library m number s ≡ absolute_of library m.definitions number (own_by rules) s.content s.fixups (publics_of m absolute_id)
unfolding absolute_segment
absolute-by rules library m number s =
    rw (symbols-by m absolute_id (inside_of s.content) (symbol_base rules s.content) (Inside (record { at = s.content.offset; len = s.content.part.len; own = own_by rules })) (λ offset. refl) (go rules), references-by m number 0 s) refl
  where
    go : (r : Rules) → symbol_base r s.content ≡ base_of (Inside (record { at = s.content.offset; len = s.content.part.len; own = own_by r }))
    go AsFound = refl
    go Documented = refl
