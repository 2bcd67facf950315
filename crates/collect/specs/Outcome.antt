-- What the collection comes to: the answer, and what is left in the lists that were lent to it.
use Rattle.std.specs.Prelude.{ℕ, Bool, ◌||◌, List, [], ◌∷◌, ltb, length, if◌then◌else◌}
use Rattle.std.proofs.Math.Option.{Option, none, some}
use Rattle.lent.specs.declared.refusal.Refusal.{Refusal}
use Rattle.lent.specs.declared.refusal.Refusal.TheVariants.{LibraryTooLong, TooFewRows}
use Rattle.lent.specs.Choice.{when, leading}
use Rattle.lent.specs.Lists.{total}
use Rattle.lent.specs.Refusals.{zeroes}
use Rattle.lent.specs.Rows.{zeros, padded, too_many}
use Rattle.image.specs.declared.fixup.Rules.{Rules}
use Rattle.omf51.specs.Module.{Module}
use Rattle.segments.specs.Collect.{Collected, collect}
use Rattle.segments.specs.Refuse.{collect_refusal}
use Rattle.segments.specs.SegmentRows.{segment_width, reference_width, symbol_width, segment_numbers, reference_numbers, symbol_numbers, pattern_bytes, pattern_masks}
use Rattle.collect.specs.declared.stored.CollectCounts.{CollectCounts}
use Rattle.collect.specs.stored.Stores.{CollectLists}
use Rattle.std.specs.Prelude.{Result}
use Rattle.std.specs.Prelude.{Ok, Err}

-- the answer, and the lent lists afterwards
pub record CollectOutcome : Type 0 where
  pub answer : Result CollectCounts Refusal
  pub left : CollectLists

-- how many rows and pattern bytes segments take
unfoldable pub counted_in : List Collected → CollectCounts
counted_in gs = record {
  segments = length gs;
  references = total (λ g. length g.references) gs;
  symbols = total (λ g. length g.symbols) gs;
  pattern = total (λ g. length g.bytes) gs;
}

-- refusal 9: segments take more than was lent; each pattern byte takes a byte and a mask
abbrev pub too_few : CollectLists → CollectCounts → Bool
too_few l c =
    too_many segment_width l.segments c.segments
    || (too_many reference_width l.references c.references
    || (too_many symbol_width l.symbols c.symbols || (too_many 1 l.bytes c.pattern || too_many 1 l.masks c.pattern)))

-- the refusals of the collection in their order, of which the first that applies counts
unfoldable pub refusal_of : List ℕ → List Module → CollectLists → CollectCounts → Option Refusal
refusal_of library modules l c =
    leading (when (ltb 1048576 (length library)) LibraryTooLong ∷ when (too_few l c) TooFewRows ∷ collect_refusal modules ∷ [])

-- the lent lists set to zero
unfoldable pub collect_zeroed : CollectLists → CollectLists
collect_zeroed l = record {
  segments = zeros (length l.segments);
  references = zeros (length l.references);
  symbols = zeros (length l.symbols);
  bytes = zeros (length l.bytes);
  masks = zeros (length l.masks);
}

-- the lent lists filled with segments, and zeros behind
unfoldable pub collect_filled : List Collected → CollectLists → CollectLists
collect_filled gs l = record {
  segments = padded (length l.segments) (segment_numbers gs);
  references = padded (length l.references) (reference_numbers gs);
  symbols = padded (length l.symbols) (symbol_numbers gs);
  bytes = padded (length l.bytes) (pattern_bytes gs);
  masks = padded (length l.masks) (pattern_masks gs);
}

-- the outcome with a refusal or without: refusals up to 8 write nothing, 9 to 13 set all lent lists to zero
abbrev pub collect_outcome_of : Option Refusal → List Collected → CollectLists → CollectOutcome
collect_outcome_of none gs l = record { answer = Ok (counted_in gs); left = collect_filled gs l }
collect_outcome_of (some r) gs l = record { answer = Err r; left = if zeroes r then collect_zeroed l else l }

-- the collection of the segments of all modules
unfoldable pub collection : Rules → List ℕ → List Module → CollectLists → CollectOutcome
collection rules library modules l =
    let gs = collect rules library modules in
    collect_outcome_of (refusal_of library modules l (counted_in gs)) gs l
