-- What storing the segments of all modules leaves in lent memory.
use Rattle.std.specs.Prelude.{ℕ, List, []}
use Rattle.image.specs.declared.fixup.Rules.{Rules}
use Rattle.omf51.specs.Module.{Module}
use Rattle.segments.specs.Collect.{collect}
use Rattle.module_ids.specs.Noted.{Tells}
use Rattle.collect.specs.declared.stored.CollectCounts.{CollectCounts}
use Rattle.collect.specs.stored.Rows.{Stored}
use Rattle.collect.specs.stored.Stores.{CollectLists, After, SameLengths}

-- nothing is stored yet
abbrev pub nothing : CollectCounts
nothing = record { segments = 0; references = 0; symbols = 0; pattern = 0 }

pub record StoresAll (library : List ℕ) (rules : Rules) (modules : List Module) (table : List ℕ) (l after : CollectLists) (w : Stored) : Type 0 where
  pub tells : Tells [] table
  pub long : SameLengths l after
  pub stored : After (collect rules library modules) after w
