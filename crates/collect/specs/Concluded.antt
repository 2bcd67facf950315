-- What the collection comes to once all modules are stored, or there was no room for them.
use Rattle.std.specs.Prelude.{ℕ, ◌≡◌, List}
use Rattle.image.specs.declared.fixup.Rules.{Rules}
use Rattle.omf51.specs.Module.{Module}
use Rattle.segments.specs.Collect.{collect}
use Rattle.collect.specs.stored.Rows.{Stored}
use Rattle.collect.specs.stored.Stores.{CollectLists, After, SameLengths}
use Rattle.collect.specs.Outcome.{CollectOutcome, collection}

-- by whichever rules the segments were stored, and into whichever memory of these lengths, it is what the collection comes to
pub record Concludes (library : List ℕ) (modules : List Module) (after : CollectLists) (stored : Stored) (o : CollectOutcome) : Type 0 where
  pub concludes : (rules : Rules) (l : CollectLists) → SameLengths l after → After (collect rules library modules) after stored → o ≡ collection rules library modules l
