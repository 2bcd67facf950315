-- The head of an id's contents and the link of a kept segment have one outcome each, by their contracts alone. Assumes nothing.
use Rattle.std.specs.Prelude.{ℕ, ◌≡◌, List, get_or}
use Rattle.lent.specs.OneOutcome.{Determines, by-equation}
use Rattle.omf51.specs.declared.ModuleId.{ModuleId}
use Rattle.module_ids.specs.declared.IdRow.{IdRow}
use Rattle.module_index.specs.owner.Owned.{link_at}

pub head-of-one : (heads : List ℕ) (id : ModuleId) → Determines (λ r. r ≡ get_or heads id.0 0)
head-of-one heads id = by-equation (get_or heads id.0 0)

pub link-at-one : (heads : List ℕ) (id : ModuleId) (row : IdRow) (place : ℕ) → Determines (λ r. r ≡ link_at heads id row place)
link-at-one heads id row place = by-equation (link_at heads id row place)
