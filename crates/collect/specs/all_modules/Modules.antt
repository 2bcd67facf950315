-- What storing the segments of one more module needs and leaves.
use Rattle.std.specs.Prelude.{ℕ, ◌+◌, ◌<◌, ◌≤◌, ◌^◌, ◌≡◌, List, [], length}
use Rattle.image.specs.declared.fixup.Rules.{Rules}
use Rattle.library.specs.Longest.{Short}
use Rattle.omf51.specs.declared.Edition.TheVariants.{One}
use Rattle.library.specs.WholeLaws.{module_of}
use Rattle.segments.specs.Collect.{module_segments}
use Rattle.module_ids.specs.Noted.{Tells}
use Rattle.module_index.specs.Indexed.{Blank}
use Rattle.collect.specs.declared.one_module.ModuleTask.{ModuleTask}
use Rattle.collect.specs.declared.stored.CollectCounts.{CollectCounts}
use Rattle.collect.specs.stored.Rows.{Stored}
use Rattle.collect.specs.stored.Stores.{CollectLists, Extends, SameLengths}
use Rattle.collect.specs.stored.Segments.{own_by}

-- tables with nothing in them, a library whose ids their rows have room for, so few segments that their numbers fit, and so few public definitions that 683 flags do for the blocks of 256
pub record Workable (library : List ℕ) (number : ℕ) (table contents first definitions heads apart : List ℕ) : Type 0 where
  pub tells : Tells [] table
  pub sections : Blank 7 library contents first
  pub publics : Blank 6 library definitions heads
  pub masks : 65536 ≤ length apart
  pub few-publics : length definitions ≤ 174848
  pub few : number + length library < 2 ^ 64
  pub short : Short library

pub record StoresModule (library : List ℕ) (task : ModuleTask) (c : CollectCounts) (table contents first definitions heads : List ℕ) (l : CollectLists) (apart : List ℕ) (after : CollectLists) (apart' : List ℕ) (w : Stored) : Type 0 where
  pub tells : Tells [] table
  pub sections : Blank 7 library contents first
  pub publics : Blank 6 library definitions heads
  pub long : SameLengths l after
  pub apart-long : length apart' ≡ length apart
  pub extends : (rules : Rules) → task.own ≡ own_by rules → Extends (module_segments rules library c.segments (module_of One library task.at)) l c after w
