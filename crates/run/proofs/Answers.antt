-- Demand 1: what a run answers and what it leaves in lent memory. Assumes nothing.
use Rattle.std.specs.Prelude.{ℕ, ◌≤◌, ◌<◌, ◌≡◌, ◌⊎◌, List, length}
use Rattle.std.proofs.Math.Path.{refl}
use Rattle.std.proofs.Common.{inl, inr, arith}
use Rattle.std.proofs.Math.Decide.{dec_lt}
use Rattle.std.proofs.Math.Option.{Option, none, some}
use Rattle.std.proofs.lemmas.List.{length-replicate}
use Rattle.lent.specs.declared.refusal.Refusal.{Refusal}
use Rattle.lent.specs.Choice.{leading}
use Rattle.lent.specs.ListLaws.{rows-length}
use Rattle.lent.specs.RefusalLaws.{numbered, zeroes-late, zeroes-not}
use Rattle.lent.specs.RowLaws.{fitting-length}
use Rattle.image.specs.View.{view}
use Rattle.image.specs.declared.fixup.Rules.{Rules}
use Rattle.image.specs.fixup.Target.{rules_of}
use Rattle.omf51.specs.Module.{Module}
use Rattle.omf51.specs.File.{modules_in}
use Rattle.segments.specs.Collect.{collect}
use Rattle.segments.specs.SegmentRows.{segment_width, reference_width, symbol_width, segment_numbers, reference_numbers, symbol_numbers, pattern_bytes, pattern_masks}
use Rattle.segments.proofs.SegmentRowLaws.{segments-take, references-take, symbols-take, bytes_take, masks-take}
use Rattle.search_rules.specs.SearchRows.{placed_width, noted_width, placed_numbers, noted_numbers}
use Rattle.search_rules.proofs.SearchRowLaws.{placed-take, noted-take}
use Rattle.listing_rules.specs.Listing.{line_width, line_cells, line_numbers}
use Rattle.run.specs.declared.Settings.{Settings}
use Rattle.run.specs.declared.Counts.{Counts}
use Rattle.run.specs.Run.{Lent, Yield, Outcome, library_read, stages, counted, too_long, refusals, zeroed, filled_with, outcome_of, run_seen, run, number_of, no_counts, counts_of, cover}
use Rattle.run.specs.Given.{CollectionOver, SearchOver, ListOver}
use Rattle.run.proofs.Exactly.{done-exactly}

-- two sets of lent lists are as long as one another
pub record SameLengths (a b : Lent) : Type 0 where
  pub segments : length a.segments ≡ length b.segments
  pub references : length a.references ≡ length b.references
  pub symbols : length a.symbols ≡ length b.symbols
  pub bytes : length a.bytes ≡ length b.bytes
  pub masks : length a.masks ≡ length b.masks
  pub placed : length a.placed ≡ length b.placed
  pub noted : length a.noted ≡ length b.noted
  pub lines : length a.lines ≡ length b.lines

-- what an outcome has to be, by its number: the counts and the lists of a run that is done, or what its refusal leaves
pub record SoundBy (counts : Counts) (full lent : Lent) (o : Outcome) : Type 0 where
  -- on 0 the counts are the numbers of rows, and each lent list holds its stage's rows, the rest zero
  pub counts-done : number_of o.answer ≡ 0 → counts_of o.answer ≡ counts
  pub left-done : number_of o.answer ≡ 0 → o.left ≡ full
  -- every refusal has zero counts; 9 to 13 set all to zero, and the others write nothing
  pub counts-refused : 1 ≤ number_of o.answer → counts_of o.answer ≡ no_counts
  pub left-zero : 9 ≤ number_of o.answer → number_of o.answer ≤ 13 → o.left ≡ zeroed lent
  pub left_alone : 1 ≤ number_of o.answer → (number_of o.answer < 9) ⊎ (13 < number_of o.answer) → o.left ≡ lent

module _ (library : List ℕ) (y : Yield) (lent : Lent) where
  pub sound-by : (o : Option Refusal) → SoundBy (counted y) (filled_with library y lent) lent (outcome_of library o y lent)
  sound-by none = record {
    counts-done = λ e. refl;
    left-done = λ e. refl;
    counts-refused = λ h. absurd (omega arith);
    left-zero = λ h l. absurd (omega arith);
    left_alone = λ h l. absurd (omega arith);
  }
  sound-by (some r) = record {
    counts-done = λ e. absurd (omega (arith, numbered r));
    left-done = λ e. absurd (omega (arith, numbered r));
    counts-refused = λ h. refl;
    left-zero = λ h l. rw (zeroes-late r h l);
    left_alone = λ h l. rw (zeroes-not r l);
  }

  -- every lent list keeps its length: what is yielded fits
  pub filled-lengths : (rules : Rules) (modules : List Module) → y.segments ≡ collect rules library modules
      → (CollectionOver lent (counted y) → ⊥) → (SearchOver lent (counted y) → ⊥) → (ListOver lent (counted y) → ⊥) → SameLengths (filled_with library y lent) lent
  unfolding filled_with counted line_numbers
  filled-lengths rules modules is room searched listed = record {
    segments = fitting-length lent.segments (segment_numbers y.segments) segment_width _ (segments-take y.segments) (λ o. room (inl o));
    references = fitting-length lent.references (reference_numbers y.segments) reference_width _ (references-take y.segments) (λ o. room (inr (inl o)));
    symbols = fitting-length lent.symbols (symbol_numbers y.segments) symbol_width _ (symbols-take y.segments) (λ o. room (inr (inr (inl o))));
    bytes = fitting-length lent.bytes (pattern_bytes y.segments) 1 _ (bytes_take y.segments) (λ o. room (inr (inr (inr (inl o)))));
    masks = fitting-length lent.masks (pattern_masks y.segments) 1 _ (rw is (masks-take rules library modules)) (λ o. room (inr (inr (inr (inr o)))));
    placed = fitting-length lent.placed (placed_numbers library y.placed) placed_width _ (placed-take library y.placed) (λ o. searched (inl o));
    noted = fitting-length lent.noted (noted_numbers library y.noted) noted_width _ (noted-take library y.noted) (λ o. searched (inr o));
    lines = fitting-length lent.lines (line_numbers y.lines) line_width _ (rows-length line_width line_cells (λ l. refl) y.lines) listed;
  }

zero-lengths : (lent : Lent) → SameLengths (zeroed lent) lent
unfolding zeroed
zero-lengths lent = record {
  segments = length-replicate (length lent.segments) 0;
  references = length-replicate (length lent.references) 0;
  symbols = length-replicate (length lent.symbols) 0;
  bytes = length-replicate (length lent.bytes) 0;
  masks = length-replicate (length lent.masks) 0;
  placed = length-replicate (length lent.placed) 0;
  noted = length-replicate (length lent.noted) 0;
  lines = length-replicate (length lent.lines) 0;
}

pub kept_by : {counts : Counts} {full lent : Lent} {o : Outcome} → SoundBy counts full lent o → (number_of o.answer ≡ 0 → SameLengths full lent) → SameLengths o.left lent
kept_by {counts} {full} {lent} {o} sound fits = go (dec_lt 0 n) (dec_lt 8 n) (dec_lt 13 n)
  where
    n : ℕ
    n = number_of o.answer

    alone : 0 < n → (n < 9) ⊎ (13 < n) → SameLengths o.left lent
    alone l h =
        rw (sound.left_alone l h)
        (record { segments = refl; references = refl; symbols = refl; bytes = refl; masks = refl; placed = refl; noted = refl; lines = refl })

    go : Dec (0 < n) → Dec (8 < n) → Dec (13 < n) → SameLengths o.left lent
    go (no l) d f = let done : n ≡ 0 = omega arith in rw (sound.left-done done) (fits done)
    go (yes l) (no m) f = alone l (inl (omega arith))
    go (yes l) (yes m) (yes h) = alone l (inr h)
    go (yes l) (yes m) (no h) = rw (sound.left-zero m (omega arith)) (zero-lengths lent)

-- the same for a run on a single image
module _ (image library : List ℕ) (s : Settings) (lent : Lent) where
  abbrev pub yielded : Yield
  yielded = stages (view image (cover s)) library s

  abbrev pub Sound : Outcome → Type 0
  Sound o = SoundBy (counted yielded) (filled_with library yielded lent) lent o

  pub sound : Sound (run image library s lent)
  unfolding run run_seen
  sound = sound-by library yielded lent (leading (refusals (too_long (length (view image (cover s)))) (length (view image (cover s))) library s lent (counted yielded)))

  pub lengths-kept : SameLengths (run image library s lent).left lent
  unfolding stages
  lengths-kept = kept_by sound fits
    where
      fits : number_of (run image library s lent).answer ≡ 0 → SameLengths (filled_with library yielded lent) lent
      fits e =
          let h = (done-exactly image library s lent).0 e in
          filled-lengths library yielded lent (rules_of s.rules) (modules_in (library_read library s)) refl h.reached.room h.searched h.listed
