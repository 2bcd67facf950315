-- What a fixup leaves has one outcome, by the contract alone. Assumes nothing.
use Rattle.std.specs.Prelude.{ℕ, ◌≡◌, refl, List, [], ◌∷◌, Some, None, Option}
use Rattle.std.proofs.Common.{sym, ap, ◌∙◌}
use Rattle.lent.specs.OneOutcome.{Determines, by_map}
use Rattle.omf51.specs.declared.Fixup.{Fixup}
use Rattle.segments.specs.declared.Reference.{Reference}
use Rattle.module_ids.specs.declared.IdRow.{IdRow}
use Rattle.module_ids.specs.reference.LeftReference.{leaves_by, left_by}

-- back from the list
leaves_of : List Reference → Option Reference
leaves_of [] = None
leaves_of (r ∷ rest) = Some r

back : (l : Option Reference) → leaves_of (left_by l) ≡ l
unfolding leaves_of
back (Some r) = refl
back None = refl

pub reference-of-one : (row : IdRow) (number base : ℕ) (f : Fixup) → Determines (λ r. left_by r ≡ leaves_by row number base f)
reference-of-one row number base f = by_map left_by (λ a b e. sym (back a) ∙ ap leaves_of e ∙ back b) (leaves_by row number base f)
