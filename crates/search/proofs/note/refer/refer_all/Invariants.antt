-- `refer_all` goes from row to row. The invariant: whoever goes over those that are left has gone over all. Assumes nothing.
use Rattle.std.proofs.Common.{◌≡◌, ℕ, ◌≤◌, Bool, List, length}
use Rattle.lent.specs.declared.part.Part.{Part}
use Rattle.tables.specs.declared.fill.Fill.{Fill}
use Rattle.image.specs.declared.fixup.Rules.{Rules}
use Rattle.segments.specs.SegmentLayouts.{reference_layout}
use Rattle.segments.proofs.recalled.RowsLaws.{rows_from}
use Rattle.search_rules.specs.Search.{Checked}
use Rattle.search.specs.Store.{Stored, seen, stored_in}
use Rattle.search.specs.note.ReferLaws.{Referring}
use Rattle.search.proofs.note.refer.refer_all.Given as goal

pub record Inv (cells : List ℕ) (rules : Rules) (position : ℕ) (valid : Bool) (library : List ℕ) (store : Stored) (n : ℕ)
    (noted₀ heads₀ : List ℕ) (f₀ : Fill) (part : Part) (noted heads : List ℕ) (failed : Checked) (f : Fill) (k : ℕ) : Type 0 where
  pub within : k ≤ part.len
  pub long : length noted ≡ length noted₀
  pub heads-long : length heads ≡ length heads₀
  pub refers : Referring cells rules position valid library store n (rows_from reference_layout store.references part 0)
      k (rows_from reference_layout store.references part k) noted₀ heads₀ f₀ noted heads f failed

abbrev pub invariant-loop-k : goal.invariant-loop-k
invariant-loop-k l =
    Inv (seen l.view) l.rules l.position l.valid l.library (stored_in l.store) l.store.n l.initial.noted l.initial.heads l.initial.f l.part l.noted l.heads l.failed l.f l.k
