-- THE CHECK TO A DEPTH, a cycle of three: `holds` asks `failed_among` of one depth less, which asks `failed_at` of each reference, which asks `holds` of the match
-- to which it leads. The measure is three times the depth, and where in the cycle the call stands. Assumes nothing.
use Rattle.std.proofs.Common.{◌≡◌, ℕ, ◌+◌, ◌*◌, ◌≤◌, List, length}
use Rattle.lent.specs.declared.part.Part.{Part}
use Rattle.image.specs.declared.fixup.Rules.{Rules}
use Rattle.segments.specs.SegmentLayouts.{reference_layout}
use Rattle.segments.proofs.recalled.RowsLaws.{rows_from}
use Rattle.search_rules.specs.Search.{failed_from}
use Rattle.search.specs.Store.{Stored, seen, stored_in}
use Rattle.search.specs.depth.Depths.{why_to, among, Told}
use Rattle.search.proofs.depth.+failed_among_failed_at_holds.Given as goal

abbrev pub decreases-failed_among : goal.decreases-failed_among
decreases-failed_among l = 3 * l.below + 2

abbrev pub decreases-failed_at : goal.decreases-failed_at
decreases-failed_at l = 3 * l.below + 1

abbrev pub decreases-holds : goal.decreases-holds
decreases-holds l = 3 * l.depth

-- `failed_among` goes from row to row: the table tells the truth, and the first of all that fails is the first of those that are left
pub record Inv (cells : List ℕ) (rules : Rules) (below position : ℕ) (store : Stored) (n : ℕ) (told₀ : List ℕ) (part : Part) (told : List ℕ) (k : ℕ) : Type 0 where
  pub within : k ≤ part.len
  pub long : length told ≡ length told₀
  pub truth : Told cells rules store n told
  pub left : (symbols : List ℕ) → failed_from (why_to cells rules (among cells rules store n symbols) below position) 0 (rows_from reference_layout store.references part 0)
      ≡ failed_from (why_to cells rules (among cells rules store n symbols) below position) k (rows_from reference_layout store.references part k)

abbrev pub invariant-failed_among-loop-k : goal.invariant-failed_among-loop-k
invariant-failed_among-loop-k l =
    Inv (seen l.view) l.rules l.below l.position (stored_in l.store) l.store.n l.initial.told l.part l.told l.k
