-- The segments of all modules are stored, module after module. Assumes nothing.
use Rattle.std.specs.Prelude.{ℕ, ◌*◌, ◌≤◌, ◌≡◌, length}
use Rattle.std.proofs.Math.Path.{refl}
use Rattle.std.proofs.Common.{sym, subst, ◌∙◌, arith}
use mathlib.Core.List.{List, [], ◌∷◌, ◌++◌}
use Rattle.lent.specs.Lists.{joined, fold}
use Rattle.lent.specs.Rows.{Layout, zeros}
use Rattle.lent.specs.RowLaws.{padded-nil}
use Rattle.tables.specs.fill.FilledRows.{Holds}
use Rattle.image.specs.declared.fixup.Rules.{Rules}
use Rattle.omf51.specs.Module.{Module}
use Rattle.segments.specs.Collect.{Collected, module_segments, collect}
use Rattle.segments.specs.SegmentRows.{segment_rows_from, pattern_bytes, pattern_masks}
use Rattle.segments.specs.SegmentLayouts.{segment_layout, reference_layout, symbol_layout}
use Rattle.collect.specs.declared.stored.CollectCounts.{CollectCounts}
use Rattle.collect.specs.stored.Rows.{Stored}
use Rattle.std.specs.Prelude.{Ok}
use Rattle.collect.specs.stored.Rows.{without_room}
use Rattle.collect.specs.stored.Rows.{filled_to}
use Rattle.collect.specs.stored.Stores.{CollectLists, Room, Stores, After, Extends}
use Rattle.collect.specs.stored.StoreLaws.{stored-count}
use Rattle.collect.specs.stored.ProgressLaws.{room-front}
use Rattle.collect.specs.all_modules.All.{nothing}

-- what follows segments that are collected
abbrev pub collect_on : Rules → List ℕ → List Collected → List Module → List Collected
collect_on rules library gs modules = fold (λ found m. found ++ module_segments rules library (length found) m) gs modules

module _ (rules : Rules) (library : List ℕ) where
  pub collect-all : (modules : List Module) → collect_on rules library [] modules ≡ collect rules library modules
  unfolding collect
  collect-all modules = refl

  pub collect-turn : (gs : List Collected) {modules rest : List Module} {m : Module} → modules ≡ m ∷ rest
      → collect_on rules library gs modules ≡ collect_on rules library (gs ++ module_segments rules library (length gs) m) rest
  unfolding fold
  collect-turn gs e = rw e refl

  pub collect-end : (gs : List Collected) {modules : List Module} → modules ≡ [] → collect_on rules library gs modules ≡ gs
  unfolding fold
  collect-end gs e = rw e refl

  -- room for all is room for those before
  pub room-before : (gs : List Collected) (modules : List Module) (l : CollectLists) → Room (collect_on rules library gs modules) l → Room gs l
  unfolding fold
  room-before gs [] l r = r
  room-before gs (m ∷ modules) l r = room-front gs (module_segments rules library (length gs) m) l (room-before (gs ++ module_segments rules library (length gs) m) modules l r)

-- memory of zeros holds nothing
none-held : {R : Type 0} (l : Layout R) (m : List ℕ) → m ≡ zeros (length m) → Holds l [] m (filled_to 0)
unfolding joined
none-held l m z = record { number = refl; room = omega arith; memory = z ∙ padded-nil (length m) }

pub stores-none : (l : CollectLists) → l.segments ≡ zeros (length l.segments) → l.references ≡ zeros (length l.references) → l.symbols ≡ zeros (length l.symbols) → l.bytes ≡ zeros (length l.bytes) → l.masks ≡ zeros (length l.masks)
    → Stores [] l nothing
unfolding segment_rows_from pattern_bytes pattern_masks joined
stores-none l s r y b k = record {
  segments = none-held segment_layout l.segments s;
  references = none-held reference_layout l.references r;
  symbols = none-held symbol_layout l.symbols y;
  bytes = record { room = omega arith; memory = b ∙ padded-nil (length l.bytes) };
  masks = record { room = omega arith; memory = k ∙ padded-nil (length l.masks) };
  pattern = refl;
  even = refl;
}

-- so few segments that their numbers fit
pub stored-few : {gs : List Collected} {l : CollectLists} {c : CollectCounts} → Stores gs l c → c.segments * 8 ≤ length l.segments
stored-few {gs} s = rw s.segments.number s.segments.room

-- on the way: what is stored, and what the modules that are left make of it
pub record Collecting (rules : Rules) (library : List ℕ) (all left : List Module) (l : CollectLists) (c : CollectCounts) : Type 0 where
  pub segments : List Collected
  pub stored : Stores segments l c
  pub same : collect_on rules library segments left ≡ collect rules library all

module _ (rules : Rules) (library : List ℕ) where
  pub collecting-starts : (all : List Module) {l : CollectLists} {c : CollectCounts} → Stores [] l c → Collecting rules library all all l c
  collecting-starts all s = record { segments = []; stored = s; same = collect-all rules library all }

  pub collecting-ends : {all left : List Module} {l : CollectLists} {c : CollectCounts} → left ≡ [] → Collecting rules library all left l c → Stores (collect rules library all) l c
  collecting-ends {all} {left} {l} {c} e p = subst (λ gs. Stores gs l c) (sym (collect-end rules library p.segments e) ∙ p.same) p.stored

  module _ (all : List Module) (l after : CollectLists) (c : CollectCounts) (w : Stored) (m : Module) {left rest : List Module} (e : left ≡ m ∷ rest) (p : Collecting rules library all left l c)
      (x : Extends (module_segments rules library c.segments m) l c after w) where
    abbrev more-segments : List Collected
    more-segments = p.segments ++ module_segments rules library (length p.segments) m

    extended : After more-segments after w
    extended = subst (λ n. After (p.segments ++ module_segments rules library n m) after w) (stored-count p.stored) (x p.segments p.stored)

    turned : collect_on rules library more-segments rest ≡ collect rules library all
    turned = sym (collect-turn rules library p.segments e) ∙ p.same

    pub collecting-on : {more : CollectCounts} → w ≡ Ok more → Collecting rules library all rest after more
    collecting-on q = record { segments = more-segments; stored = rw q at extended; same = turned }

    pub collecting-lacks : w ≡ without_room → Room (collect rules library all) after → ⊥
    collecting-lacks q room = (rw q at extended) (room-before rules library more-segments rest after (subst (λ gs. Room gs after) (sym turned) room))
