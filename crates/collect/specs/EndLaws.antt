-- The three ends of the collection: done, no room, refused. Assumes nothing.
use Rattle.std.specs.Prelude.{ℕ, ◌≤◌, ◌<◌, ◌≡◌, refl, true, List, [], length}
use Rattle.std.proofs.Common.{sym, subst, ◌∙◌, arith, lt-ltb}
use Rattle.std.proofs.Math.Path.{ap}
use Rattle.std.proofs.Math.Option.{Option, none, some}
use Rattle.std.proofs.lemmas.List.{length-replicate}
use Rattle.lent.specs.declared.refusal.Refusal.{Refusal}
use Rattle.lent.specs.declared.refusal.Refusal.TheVariants.{LibraryTooLong, TooFewRows}
use Rattle.lent.specs.Choice.{leading}
use Rattle.lent.specs.Lists.{joined}
use Rattle.lent.specs.ListLaws.{joined-joined}
use Rattle.lent.specs.Refusals.{zeroes}
use Rattle.lent.specs.RefusalLaws.{zeroes-late}
use Rattle.lent.specs.Rows.{zeros, padded}
use Rattle.image.specs.declared.fixup.Rules.{Rules}
use Rattle.omf51.specs.Module.{Module}
use Rattle.segments.specs.Collect.{Collected, collect}
use Rattle.segments.specs.Refuse.{collect_refusal}
use Rattle.segments.proofs.RefuseLaws.{collect-late}
use Rattle.segments.specs.SegmentRows.{segment_cells, reference_cells, symbol_cells, segment_rows, segment_numbers, reference_numbers, symbol_numbers, pattern_bytes, pattern_masks}
use Rattle.segments.proofs.SegmentRowLaws.{bytes_take, masks-take}
use Rattle.collect.specs.declared.stored.CollectCounts.{CollectCounts}
use Rattle.collect.specs.stored.Stores.{CollectLists, references_in, symbols_in, Room, Stores, SameLengths}
use Rattle.collect.specs.stored.Segments.{lists}
use Rattle.std.specs.Prelude.{Result}
use Rattle.std.specs.Prelude.{Ok, Err}
use Rattle.collect.specs.all_modules.All.{nothing}
use Rattle.collect.specs.all_modules.AllLaws.{stores-none}
use Rattle.collect.specs.Outcome.{CollectOutcome, counted_in, too_few, refusal_of, collect_zeroed, collect_filled, collect_outcome_of, collection}
use Rattle.collect.specs.OutcomeLaws.{refused-9, refused-late, counted, stored-room, no_room}

same_lists : {a a' b b' c c' d d' e e' : List ℕ} → a ≡ a' → b ≡ b' → c ≡ c' → d ≡ d' → e ≡ e' → lists a b c d e ≡ lists a' b' c' d' e'
same_lists p q r s t = rw (p, q, r, s, t) refl

-- memory that holds segments is what the definition fills
stored-fills : (gs : List Collected) {l after : CollectLists} {c : CollectCounts} → SameLengths l after → Stores gs after c → after ≡ collect_filled gs l
unfolding collect_filled segment_numbers reference_numbers symbol_numbers
stored-fills gs n s =
    same_lists
    (s.segments.memory ∙ ap (λ k. padded k (joined segment_cells (segment_rows gs))) n.segments)
    (s.references.memory ∙ ap (λ k. padded k (joined reference_cells (references_in gs))) n.references ∙ ap (padded _) (sym (joined-joined reference_cells (λ g. g.references) gs)))
    (s.symbols.memory ∙ ap (λ k. padded k (joined symbol_cells (symbols_in gs))) n.symbols ∙ ap (padded _) (sym (joined-joined symbol_cells (λ g. g.symbols) gs)))
    (s.bytes.memory ∙ ap (λ k. padded k (pattern_bytes gs)) n.bytes)
    (s.masks.memory ∙ ap (λ k. padded k (pattern_masks gs)) n.masks)

-- zeros depend on the lengths only, and so does whether there is room
zeroed-same : {l after : CollectLists} → SameLengths l after → collect_zeroed after ≡ collect_zeroed l
unfolding collect_zeroed
zeroed-same n = rw (n.segments, n.references, n.symbols, n.bytes, n.masks) refl

few-same : {l after : CollectLists} (c : CollectCounts) → SameLengths l after → too_few after c ≡ too_few l c
few-same c n = rw (n.segments, n.references, n.symbols, n.bytes, n.masks) refl

-- zeros hold nothing yet
pub zeroed-stores : (l : CollectLists) {after : CollectLists} → after ≡ collect_zeroed l → Stores [] after nothing
unfolding collect_zeroed
zeroed-stores l {after} e =
    subst (λ x. Stores [] x nothing) (sym e) (stores-none (collect_zeroed l) (zero (length l.segments)) (zero (length l.references)) (zero (length l.symbols)) (zero (length l.bytes)) (zero (length l.masks)))
  where
    zero : (n : ℕ) → zeros n ≡ zeros (length (zeros n))
    zero n = ap zeros (sym (length-replicate n 0))

pub zeroed-lengths : (l : CollectLists) {after : CollectLists} → after ≡ collect_zeroed l → SameLengths l after
unfolding collect_zeroed
zeroed-lengths l e = rw e (record {
  segments = length-replicate (length l.segments) 0;
  references = length-replicate (length l.references) 0;
  symbols = length-replicate (length l.symbols) 0;
  bytes = length-replicate (length l.bytes) 0;
  masks = length-replicate (length l.masks) 0;
})

abbrev comes : Result CollectCounts Refusal → CollectLists → CollectOutcome
comes answer left = record { answer = answer; left = left }

module _ (rules : Rules) (library : List ℕ) (modules : List Module) (l after : CollectLists) (short : length library ≤ 1048576) (n : SameLengths l after) where
  abbrev gs : List Collected
  gs = collect rules library modules

  by-refusal : {o : Option Refusal} → refusal_of library modules l (counted_in gs) ≡ o → collect_outcome_of o gs l ≡ collection rules library modules l
  unfolding collection
  by-refusal e = ap (λ o. collect_outcome_of o gs l) (sym e)

  pub done-is : {c : CollectCounts} → Stores gs after c → collect_refusal modules ≡ none → comes (Ok c) after ≡ collection rules library modules l
  done-is s r =
      rw (counted gs s, stored-fills gs n s) refl
      ∙ by-refusal (refused-late library modules l (counted_in gs) short (sym (few-same (counted_in gs) n) ∙ stored-room gs s) r)

  zero_left : {left : CollectLists} (r : Refusal) → zeroes r ≡ true → left ≡ collect_zeroed after → comes (Err r) left ≡ collect_outcome_of (some r) gs l
  zero_left r h e = rw (h, e) (ap (comes (Err r)) (zeroed-same n))

  pub lacks-is : {left : CollectLists} → (Room gs after → ⊥) → left ≡ collect_zeroed after → comes (Err TooFewRows) left ≡ collection rules library modules l
  lacks-is lacks e =
      let even = masks-take rules library modules ∙ sym (bytes_take gs) in
      zero_left TooFewRows refl e ∙ by-refusal (refused-9 library modules l (counted_in gs) short (sym (few-same (counted_in gs) n) ∙ no_room gs even lacks))

  pub refused-is : {c : CollectCounts} {r : Refusal} {left : CollectLists} → Stores gs after c → collect_refusal modules ≡ some r → left ≡ collect_zeroed after → comes (Err r) left ≡ collection rules library modules l
  refused-is {c} {r} s q e =
      zero_left r (let n = collect-late modules q in zeroes-late r (omega (arith, n.0)) n.1) e ∙ by-refusal (refused-late library modules l (counted_in gs) short (sym (few-same (counted_in gs) n) ∙ stored-room gs s) q)

-- all five lists set to zero
pub zeroed-is : (l : CollectLists) {a b c d e : List ℕ} → a ≡ zeros (length l.segments) → b ≡ zeros (length l.references) → c ≡ zeros (length l.symbols) → d ≡ zeros (length l.bytes) → e ≡ zeros (length l.masks)
    → lists a b c d e ≡ collect_zeroed l
unfolding collect_zeroed
zeroed-is l p q r s t = rw (p, q, r, s, t) refl

-- a library that is too long: nothing is written
pub long-is : (rules : Rules) (library : List ℕ) (modules : List Module) (l : CollectLists) → 1048576 < length library → comes (Err LibraryTooLong) l ≡ collection rules library modules l
unfolding collection refusal_of leading
long-is rules library modules l h = rw (lt-ltb 1048576 (length library) h) refl
