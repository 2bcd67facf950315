-- The segments of a module are those of its two parts, and the second has the public definitions of id 0 by offset. Assumes nothing.
use Rattle.std.specs.Prelude.{ℕ, ◌≡◌, List, ◌++◌, map, get_or}
use Rattle.std.proofs.Math.Path.{refl}
use Rattle.std.proofs.Common.{sym, subst, ◌∙◌, ap, append_assoc, append-nil, arith}
use Rattle.tables.specs.links.Things.{keys_of, places_of, next_of}
use Rattle.module_index.specs.gather.Places.{SectionIs, PublicIs, no_definition}
use Rattle.tables.specs.links.FollowLaws.{follows-end}
use Rattle.image.specs.declared.fixup.Rules.{Rules}
use Rattle.omf51.specs.Module.{Module, definitions_at}
use Rattle.library.specs.Gathered.{items_at}
use Rattle.segments.specs.Collect.{Collected, module_segments, sections_of, absolute_id, absolute_segment}
use Rattle.module_index.specs.gather.Publics.{offset_key, zero_publics}
use Rattle.module_index.specs.IndexedTables.{IndexedInto}
use Rattle.segment_parts.specs.symbols_by_offset.Inside.{Standing}
use Rattle.collect.specs.declared.stored.CollectCounts.{CollectCounts}
use Rattle.collect.specs.stored.Rows.{Stored}
use Rattle.std.specs.Prelude.{Ok}
use Rattle.collect.specs.stored.Rows.{without_room}
use Rattle.collect.specs.stored.Stores.{CollectLists, Room, After, Extends, Stores}
use Rattle.collect.specs.stored.ProgressLaws.{room-front}
use Rattle.collect.specs.kept.Kept.{kept_segments}
use Rattle.collect.specs.absolute.Absolute.{absolute_segments, ByOffset}
use Rattle.collect.specs.one_module.Parts.{Known}

module _ (rules : Rules) (library : List ℕ) (m : Module) (number : ℕ) where
  two-parts : module_segments rules library number m ≡ kept_segments library m number ++ absolute_segments rules library m number
  unfolding module_segments
  two-parts = refl

  -- the second part behind the first
  pub both_stored : (l middle after : CollectLists) (c : CollectCounts) {more : CollectCounts} (v w : Stored) → Extends (kept_segments library m number) l c middle v → v ≡ Ok more
      → Extends (absolute_segments rules library m number) middle more after w → Extends (module_segments rules library number m) l c after w
  both_stored l middle after c {more} v w a e b gs s =
      subst (λ xs. After xs after w) (append_assoc gs (kept_segments library m number) (absolute_segments rules library m number) ∙ sym (rest gs))
      (b (gs ++ kept_segments library m number) (rw e at (a gs s)))
    where
      rest : (gs : List Collected) → gs ++ module_segments rules library number m ≡ gs ++ (kept_segments library m number ++ absolute_segments rules library m number)
      rest gs = rw two-parts refl

  -- no room for the first part is no room for both; then nothing more is stored
  pub first-lacks : (l middle : CollectLists) (c : CollectCounts) (v : Stored) → Extends (kept_segments library m number) l c middle v → v ≡ without_room → Extends (module_segments rules library number m) l c middle without_room
  first-lacks l middle c v a e gs s room =
      (rw e at (a gs s)) (room-front (gs ++ kept_segments library m number) (absolute_segments rules library m number) middle
      (subst (λ xs. Room xs middle) (rw two-parts refl ∙ sym (append_assoc gs (kept_segments library m number) (absolute_segments rules library m number))) room))

-- public definitions that are indexed by their offsets are met by them, and absolute contents from the head of id 0 on
pub by-offset : {library : List ℕ} {m : Module} {from : ℕ} {table first contents definitions₀ heads₀ definitions heads : List ℕ} {link n : ℕ} → link ≡ get_or first 0 0 → Known library m from table first contents
    → IndexedInto (PublicIs library) offset_key (zero_publics (items_at library (definitions_at library) from)) definitions₀ heads₀ definitions heads n → ByOffset library m link table contents definitions n heads
by-offset {library} {m} {contents = contents} {definitions = definitions} {n = n} e k i = record {
  tells = k.tells;
  sections = rw e (k.sections 0 (omega arith));
  standing = subst (Standing library (keys_of definitions) n (places_of definitions)) (ap zero_publics (sym k.defined)) (record { number = i.number; keyed = i.keyed; stand = λ j h. i.stand j h no_definition });
  linked = i.linked;
}

-- a module without absolute contents has nothing in its second part
pub none-absolute : (rules : Rules) {library : List ℕ} {m : Module} (number : ℕ) {from : ℕ} {table first contents : List ℕ} → get_or first 0 0 ≡ 0 → Known library m from table first contents
    → (l : CollectLists) (c : CollectCounts) → Extends (absolute_segments rules library m number) l c l (Ok c)
none-absolute rules {library} {m} number {first = first} {contents = contents} e k l c gs stores =
    let none = follows-end (SectionIs library (places_of contents)) (next_of contents) 0 (get_or first 0 0) (sections_of m absolute_id) (omega (arith, e)) (k.sections 0 (omega arith)) in
    subst (λ xs. Stores xs l c) (sym (append-nil gs) ∙ ap (λ ss. gs ++ map (absolute_segment rules library m number) ss) (sym none)) stores
