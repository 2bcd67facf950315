-- On the way: some segments are stored, and the others are still to come.
use Rattle.std.specs.Prelude.{◌≡◌, List, ◌++◌}
use Rattle.segments.specs.Collect.{Collected}
use Rattle.collect.specs.declared.stored.CollectCounts.{CollectCounts}
use Rattle.collect.specs.stored.Stores.{CollectLists, Stores}

pub record Progress (before all rest : List Collected) (l : CollectLists) (c : CollectCounts) : Type 0 where
  pub done : List Collected
  pub whole : done ++ rest ≡ all
  pub stored : Stores (before ++ done) l c
