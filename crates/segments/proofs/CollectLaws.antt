-- Where collected segments and their symbols come from. Assumes nothing.
use Rattle.std.specs.Prelude.{ℕ, ◌+◌, ◌-◌, ◌≤◌, ◌<◌, ◌≡◌, refl, ◌⊎◌, Bool, true, false, ◌&&◌, List, [], ◌++◌, map, leb, ltb, length, if◌then◌else◌}
use Rattle.std.proofs.Common.{sym, ap, ◌∙◌, inl, inr, arith, leb-true, ltb-true, eqb-true}
use mathlib.Core.List.Memᴰ
use Rattle.lent.specs.declared.part.Part.{Part}
use Rattle.lent.specs.ChoiceLaws.{both}
use Rattle.lent.specs.Lists.{one, numbered}
use Rattle.lent.specs.Members.{◌among◌, of-keep, of-joined, of-fold}
use Rattle.image.specs.declared.fixup.Rules.{Rules}
use Rattle.image.specs.declared.fixup.Rules.TheVariants.{Documented}
use Rattle.omf51.specs.declared.ModuleId.{ModuleId}
use Rattle.omf51.specs.declared.Definition.{Definition}
use Rattle.omf51.specs.declared.Definition.TheVariants.{Segment, Public, External}
use Rattle.omf51.specs.declared.Content.{Content}
use Rattle.omf51.specs.Module.{Section, Module}
use Rattle.segments.specs.declared.Symbol.{Symbol}
use Rattle.segments.specs.Ids.{same_id, kept, size_of}
use Rattle.segments.proofs.MaskLaws.{masks-length, filled-length}
use Rattle.segments.specs.Collect.{Collected, symbol_of, symbols_of, data_of, data_masks, sections_of, kept_segment, absolute_id, inside_of, symbol_base, absolute_segment, module_segments, collect}

-- a collected segment is a kept segment of some module, with its own place among the kept ones, or an absolute content of it; `number` is that of the module's first segment
pub data Source (rules : Rules) (library : List ℕ) (m : Module) (number : ℕ) (g : Collected) : Type 0 where
  kept_of : (place : ℕ) (d : Definition) → (place, d) among numbered 0 (kept m) → g ≡ kept_segment library m number (place, d) → Source rules library m number g
  absolute_of : (s : Section) → s among m.sections → s.content.id.0 ≡ 0 → g ≡ absolute_segment rules library m number s
      → Source rules library m number g

module-source : (rules : Rules) (library : List ℕ) (number : ℕ) (m : Module) (g : Collected) → g among module_segments rules library number m
    → Source rules library m number g
unfolding module_segments
module-source rules library number m g i =
    go (Memᴰ.append_cases (map (kept_segment library m number) (numbered 0 (kept m))) i)
  where
    go : g among map (kept_segment library m number) (numbered 0 (kept m)) ⊎ g among map (absolute_segment rules library m number) (sections_of m absolute_id)
        → Source rules library m number g
    go (inl k) =
        let p = Memᴰ.of_map (kept_segment library m number) (numbered 0 (kept m)) k in
        kept_of p.0.0 p.0.1 p.1 (sym p.2)
    go (inr a) =
        let p = Memᴰ.of_map (absolute_segment rules library m number) (sections_of m absolute_id) a in
        let q = of-keep (λ s. same_id s.content.id absolute_id) m.sections p.1 in
        absolute_of p.0 q.0 (eqb-true p.0.content.id.0 0 q.1) (sym p.2)

pub source : (rules : Rules) (library : List ℕ) (modules : List Module) (g : Collected) → g among collect rules library modules
    → (m : Module) × (m among modules) × ((number : ℕ) × Source rules library m number g)
unfolding collect
source rules library modules g i =
    go (of-fold (λ found m. found ++ module_segments rules library (length found) m) (λ m x. (number : ℕ) × Source rules library m number x) adds modules [] i)
  where
    adds : (found : List Collected) (m : Module) → g among (found ++ module_segments rules library (length found) m)
        → g among found ⊎ ((number : ℕ) × Source rules library m number g)
    adds found m j = split (Memᴰ.append_cases found j)
      where
        split : g among found ⊎ g among module_segments rules library (length found) m → g among found ⊎ ((number : ℕ) × Source rules library m number g)
        split (inl k) = inl k
        split (inr k) = inr (length found, module-source rules library (length found) m g k)

    go : g among [] ⊎ ((m : Module) × (m among modules) × ((number : ℕ) × Source rules library m number g))
        → (m : Module) × (m among modules) × ((number : ℕ) × Source rules library m number g)
    go (inl k) = absurd (Memᴰ.not-nil k)
    go (inr p) = p

-- a public definition of a name in a module, for an id, at an offset
pub record Defined (m : Module) (id : ModuleId) (name : Part) (offset : ℕ) : Type 0 where
  pub own : ModuleId
  pub same : own.0 ≡ id.0
  pub there : Public own offset name among m.definitions

-- a symbol comes from a public definition of its name, and says how far that definition's offset is past the base
pub record Named (m : Module) (id : ModuleId) (inside : ℕ → Bool) (base : ℕ) (y : Symbol) : Type 0 where
  pub offset : ℕ
  pub defined : Defined m id y.name offset
  pub in-range : inside offset ≡ true
  pub shifted : y.offset ≡ offset - base

pub symbol-named : (m : Module) (id : ModuleId) (inside : ℕ → Bool) (base : ℕ) (y : Symbol) → y among symbols_of m id inside base → Named m id inside base y
unfolding symbols_of
symbol-named m id inside base y i = let p = of-joined (symbol_of id inside base) m.definitions i in go p.0 p.1 p.2
  where
    make : (own : ModuleId) (offset : ℕ) (name : Part) → Public own offset name among m.definitions → (t : Bool) → (same_id own id && inside offset) ≡ t
        → y among (if t then one (record { name = name; offset = offset - base }) else []) → Named m id inside base y
    make own offset name j true e k =
        let p = both (same_id own id) (inside offset) e in
        let q = Memᴰ.eq_of_singleton k in
        record {
          offset = offset;
          defined = record { own = own; same = eqb-true own.0 id.0 p.0; there = rw (ap (λ z. z.name) q) j };
          in-range = p.1;
          shifted = ap (λ z. z.offset) q;
        }
    make own offset name j false e k = absurd (Memᴰ.not-nil k)

    go : (d : Definition) → d among m.definitions → y among symbol_of id inside base d → Named m id inside base y
    go (Segment own info relocation size name) j k = absurd (Memᴰ.not-nil k)
    go (Public own offset name) j k = make own offset name j (same_id own id && inside offset) refl k
    go (External own info name) j k = absurd (Memᴰ.not-nil k)

-- of an absolute content, as documented: content start + the symbol's offset is the definition's own offset
pub record Within (c : Content) (offset : ℕ) : Type 0 where
  pub low : c.offset ≤ offset
  pub high : offset < c.offset + c.part.len

pub within-content : (c : Content) (offset : ℕ) → inside_of c offset ≡ true → Within c offset
within-content c offset e =
    let p = both (leb c.offset offset) (ltb offset (c.offset + c.part.len)) e in
    record { low = leb-true c.offset offset p.0; high = ltb-true offset (c.offset + c.part.len) p.1 }

pub own-offset : (m : Module) (c : Content) (y : Symbol) → (n : Named m absolute_id (inside_of c) (symbol_base Documented c) y)
    → c.offset + y.offset ≡ n.offset
own-offset m c y n = omega (arith, (within-content c n.offset n.in-range).low, n.shifted)

-- a segment has as many masks as bytes
pub same_length : (rules : Rules) (library : List ℕ) (m : Module) (number : ℕ) (g : Collected) → Source rules library m number g
    → length g.masks ≡ length g.bytes
unfolding kept_segment absolute_segment
same_length rules library m number g (kept_of place d i e) =
    ap (λ x. length x.masks) e ∙ filled-length (size_of d) (data_masks library) _
    ∙ sym (filled-length (size_of d) (data_of library) _) ∙ sym (ap (λ x. length x.bytes) e)
same_length rules library m number g (absolute_of s i z e) =
    ap (λ x. length x.masks) e ∙ masks-length (length (data_of library s)) s.fixups ∙ sym (ap (λ x. length x.bytes) e)
