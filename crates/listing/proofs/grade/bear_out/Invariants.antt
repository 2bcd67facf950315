-- `bear_out` goes from row to row. The invariant: all of them do exactly if all that are left do. Assumes nothing.
use Prim.Native.Nat.{ℕ, ◌≤◌}
use mathlib.Core.Path.{◌≡◌}
use mathlib.Core.Bool.{Bool}
use mathlib.Core.List.{List}
use Rattle.lent.specs.declared.part.Part.{Part}
use Rattle.lent.specs.Lists.{all}
use Rattle.image.specs.declared.Stretch.{Stretch}
use Rattle.image.specs.View.{stretches_in, view}
use Rattle.image.specs.declared.fixup.Rules.{Rules}
use Rattle.segments.specs.declared.Reference.{Reference}
use Rattle.segments.specs.SegmentLayouts.{reference_layout}
use Rattle.segments.proofs.recalled.RowsLaws.{rows_from}
use Rattle.listing.specs.grade.Grades.{is_found, bears_out}
use borrow.Author.Rules.{rules}
use Rattle.listing.proofs.grade.bear_out.Given as goal

abbrev pub bears : List ℕ → List Stretch → Rules → List ℕ → List ℕ → List ℕ → ℕ → Reference → Bool
bears image s rules library placed positions base = bears_out (is_found library 8 placed positions) (view image s) rules base

pub record Inv (p : Reference → Bool) (references : List ℕ) (part : Part) (k : ℕ) : Type 0 where
  pub within : k ≤ part.len
  pub left : all p (rows_from reference_layout references part k) ≡ all p (rows_from reference_layout references part 0)

abbrev pub invariant-loop-k : goal.invariant-loop-k
invariant-loop-k l =
    Inv (bears l.image (stretches_in l.s) l.rules l.found.library.now l.found.placed.now l.found.positions.now l.base) l.found.references.now l.part l.k
