-- The collection has one outcome, by its contract alone: the answer, and each lent list; so has clearing them. What the
-- functions inside it store has one outcome where memory held what was stored before. Assumes nothing.
use Rattle.std.specs.Prelude.{ℕ, ◌≡◌, refl, List, ◌++◌, length}
use Rattle.std.proofs.Common.{sym, ap, ◌∙◌, arith}
use Rattle.lent.specs.Lists.{joined}
use Rattle.lent.specs.OneOutcome.{Determines, by-equation}
use Rattle.lent.specs.Rows.{padded}
use Rattle.image.specs.declared.fixup.Rules.{Rules}
use Rattle.omf51.specs.Module.{Module}
use Rattle.segments.specs.Collect.{Collected, collect}
use Rattle.segments.specs.SegmentRows.{segment_rows, pattern_bytes, pattern_masks}
use Rattle.segments.specs.SegmentLayouts.{segment_layout, reference_layout, symbol_layout}
use Rattle.collect.specs.declared.stored.CollectCounts.{CollectCounts}
use Rattle.collect.specs.stored.Rows.{Stored}
use Rattle.std.specs.Prelude.{Ok, Err}
use Rattle.collect.specs.stored.Segments.{lists}
use Rattle.collect.specs.stored.StoreLaws.{stored-count}
use Rattle.collect.specs.stored.Stores.{CollectLists, references_in, symbols_in, Room, Stores, After, Extends, SameLengths}
use Rattle.collect.specs.Outcome.{CollectOutcome, collect_zeroed, collection}
use Rattle.collect.specs.OutcomeLaws.{counted}
use Rattle.collect.specs.Concluded.{Concludes}
use Rattle.collect.specs.all_modules.All.{StoresAll}

pub collect-one : (rules : Rules) (library : List ℕ) (modules : List Module) (l : CollectLists) → Determines (λ (o : CollectOutcome). o ≡ collection rules library modules l)
collect-one rules library modules l = by-equation (collection rules library modules l)

pub clear-all-one : (l : CollectLists) → Determines (λ exit. exit ≡ collect_zeroed l)
clear-all-one l = by-equation (collect_zeroed l)

-- lists of the same lengths that hold the same, and zeros behind it
same-padded : {m n : List ℕ} (xs : List ℕ) → length m ≡ length n → m ≡ padded (length m) xs → n ≡ padded (length n) xs → m ≡ n
same-padded xs long p q = p ∙ ap (λ k. padded k xs) long ∙ sym q

same_lists : {a a' b b' c c' d d' e e' : List ℕ} → a ≡ a' → b ≡ b' → c ≡ c' → d ≡ d' → e ≡ e' → lists a b c d e ≡ lists a' b' c' d' e'
same_lists a b c d e = rw (a, b, c, d, e) refl

-- what the answer and memory are once segments are stored: the answer, and where there was room the lists
pub record OneAfter (a : CollectLists) (w : Stored) (b : CollectLists) (v : Stored) : Type 0 where
  pub answer : w ≡ v
  pub left : (c : CollectCounts) → w ≡ Ok c → a ≡ b

module _ (gs : List Collected) (l a b : CollectLists) (to-a : SameLengths l a) (to-b : SameLengths l b) where
  has_room : {m : CollectLists} {c : CollectCounts} → Stores gs m c → Room gs m
  has_room s = record {
    segments = omega (arith, s.segments.room, s.segments.number, stored-count s);
    references = s.references.room;
    symbols = s.symbols.room;
    bytes = s.bytes.room;
    masks = s.masks.room;
  }

  moved : {m n : CollectLists} → SameLengths l m → SameLengths l n → Room gs m → Room gs n
  moved p q r = record {
    segments = omega (arith, p.segments, q.segments, r.segments);
    references = omega (arith, p.references, q.references, r.references);
    symbols = omega (arith, p.symbols, q.symbols, r.symbols);
    bytes = omega (arith, p.bytes, q.bytes, r.bytes);
    masks = omega (arith, p.masks, q.masks, r.masks);
  }

  pub after_one : (w v : Stored) → After gs a w → After gs b v → OneAfter a w b v
  after_one (Ok c) (Ok d) s t = record { answer = ap Ok (counted gs s ∙ sym (counted gs t)); left = λ k e. same }
    where
      same : a ≡ b
      same =
          same_lists (same-padded (joined segment_layout.cells (segment_rows gs)) (to-a.segments ∙ sym to-b.segments) s.segments.memory t.segments.memory)
          (same-padded (joined reference_layout.cells (references_in gs)) (to-a.references ∙ sym to-b.references) s.references.memory t.references.memory)
          (same-padded (joined symbol_layout.cells (symbols_in gs)) (to-a.symbols ∙ sym to-b.symbols) s.symbols.memory t.symbols.memory)
          (same-padded (pattern_bytes gs) (to-a.bytes ∙ sym to-b.bytes) s.bytes.memory t.bytes.memory)
          (same-padded (pattern_masks gs) (to-a.masks ∙ sym to-b.masks) s.masks.memory t.masks.memory)
  after_one (Ok c) (Err e) s lacks = absurd (lacks (moved to-a to-b (has_room s)))
  after_one (Err e) (Ok d) lacks t = absurd (lacks (moved to-b to-a (has_room t)))
  after_one (Err e) (Err f) s t = record { answer = refl; left = λ c e. cc }

-- the functions that store behind what was stored before, by `Extends`
pub stored_one : (gs new : List Collected) (l a b : CollectLists) (c : CollectCounts) (w v : Stored) → Stores gs l c → SameLengths l a → SameLengths l b
    → Extends new l c a w → Extends new l c b v → OneAfter a w b v
stored_one gs new l a b c w v held p q x y = after_one (gs ++ new) l a b p q w v (x gs held) (y gs held)

-- `store_all`
pub store-all-one : (library : List ℕ) (rules : Rules) (modules : List Module) (l a b : CollectLists) (table table' : List ℕ) (w v : Stored)
    → StoresAll library rules modules table l a w → StoresAll library rules modules table' l b v → OneAfter a w b v
store-all-one library rules modules l a b table table' w v p q =
    after_one (collect rules library modules) l a b p.long q.long w v p.stored q.stored

-- `conclude`, of what `store_all` left
pub conclude-one : (library : List ℕ) (rules : Rules) (modules : List Module) (after : CollectLists) (stored : Stored) → After (collect rules library modules) after stored
    → Determines (Concludes library modules after stored)
conclude-one library rules modules after stored s a b p q = p.concludes rules after same s ∙ sym (q.concludes rules after same s)
  where
    same : SameLengths after after
    same = record { segments = refl; references = refl; symbols = refl; bytes = refl; masks = refl }
