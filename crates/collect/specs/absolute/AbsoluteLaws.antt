-- The absolute contents of a module, one after another. Assumes nothing.
use Rattle.std.specs.Prelude.{ℕ, ◌-◌, ◌<◌, ◌≤◌, ◌≡◌, List, ◌++◌, map, length, get_or}
use Rattle.std.proofs.Common.{ap, subst, arith, length-take}
use Rattle.lent.specs.Lists.{one}
use Rattle.image.specs.declared.fixup.Rules.{Rules}
use Rattle.omf51.specs.Module.{Section, Module}
use Rattle.segments.specs.Collect.{Collected, sections_of, absolute_id, absolute_segment}
use Rattle.tables.specs.zeros.Zeros.{zero_list}
use Rattle.tables.specs.zeros.ZeroLaws.{zero-length, zero-at}
use Rattle.tables.specs.links.Things.{keys_of, places_of, next_of}
use Rattle.tables.specs.links.ThingLaws.{keys-long}
use Rattle.tables.specs.links.Follow.{Follows}
use Rattle.tables.specs.links.FollowLaws.{Met, follows-end, follows-step}
use Rattle.collect.specs.declared.stored.CollectCounts.{CollectCounts}
use Rattle.collect.specs.stored.Rows.{Stored}
use Rattle.std.specs.Prelude.{Ok}
use Rattle.collect.specs.stored.Rows.{without_room}
use Rattle.collect.specs.stored.Stores.{CollectLists, Room, Stores, Extends}
use Rattle.collect.specs.stored.Progress.{Progress}
use Rattle.collect.specs.stored.ProgressLaws.{progress-starts, progress-on, progress-lacks, progress-ends}
use Rattle.module_index.specs.gather.Publics.{zero_publics}
use Rattle.segment_parts.specs.symbols_by_offset.Flags.{Clear}
use Rattle.segment_parts.specs.symbols_by_offset.Inside.{Offered}
use Rattle.collect.specs.absolute.Absolute.{absolute_segments, ByOffset}

-- the contents that are still to be met, and those that are stored
pub record Storing (is : ℕ → Section → Type 0) (next : List ℕ) (rules : Rules) (library : List ℕ) (m : Module) (number : ℕ) (gs : List Collected) (last here : ℕ) (l : CollectLists) (c : CollectCounts) : Type 0 where
  pub left : List Section
  pub follows : Follows is next last here left
  pub progress : Progress gs (absolute_segments rules library m number) (map (absolute_segment rules library m number) left) l c

module _ (is : ℕ → Section → Type 0) (next : List ℕ) (rules : Rules) (library : List ℕ) (m : Module) (number : ℕ) (gs : List Collected) where
  abbrev all : List Collected
  all = absolute_segments rules library m number

  pub absolutes-start : {here : ℕ} {l : CollectLists} {c : CollectCounts} → Follows is next 0 here (sections_of m absolute_id) → Stores gs l c → Storing is next rules library m number gs 0 here l c
  absolutes-start f s = record { left = sections_of m absolute_id; follows = f; progress = progress-starts gs all s }

  module _ (last here : ℕ) (l after : CollectLists) (c : CollectCounts) (w : Stored) (h : last < here) (p : Storing is next rules library m number gs last here l c)
      (x : (s : Section) → is (here - 1) s → Extends (one (absolute_segment rules library m number s)) l c after w) where
    met : Met is next here p.left
    met = follows-step is next last here p.left h p.follows

    abbrev rest : List Collected
    rest = map (absolute_segment rules library m number) met.rest

    split : Progress gs all (one (absolute_segment rules library m number met.head) ++ rest) l c
    split = subst (λ ss. Progress gs all (map (absolute_segment rules library m number) ss) l c) met.whole p.progress

    pub absolutes-on : {more : CollectCounts} → w ≡ Ok more → Storing is next rules library m number gs here (get_or next (here - 1) 0) after more
    absolutes-on q = record {
      left = met.rest;
      follows = met.goes_on;
      progress = progress-on gs all (one (absolute_segment rules library m number met.head)) rest after w split (x met.head met.stands) q;
    }

    pub absolutes-lack : w ≡ without_room → Room (gs ++ all) after → ⊥
    absolutes-lack q = progress-lacks gs all (one (absolute_segment rules library m number met.head)) rest after w split (x met.head met.stands) q

  pub absolutes-end : (last here : ℕ) {l : CollectLists} {c : CollectCounts} → here ≤ last → Storing is next rules library m number gs last here l c → Stores (gs ++ all) l c
  absolutes-end last here h p = progress-ends gs all (ap (map (absolute_segment rules library m number)) (follows-end is next last here p.left h p.follows)) p.progress

-- there are flags enough for the public definitions of a module
pub flags-clear : {flags : List ℕ} → flags ≡ zero_list 683 → Clear flags
flags-clear e = rw e (zero-at 683)

pub flags-many : {flags : List ℕ} → flags ≡ zero_list 683 → length flags ≡ 683
flags-many e = rw e (zero-length 683)

pub offered : {library : List ℕ} {m : Module} {link : ℕ} {table contents definitions : List ℕ} {n : ℕ} {heads : List ℕ} (flags : List ℕ) → length flags ≡ 683 → length definitions ≤ 174848
    → ByOffset library m link table contents definitions n heads → Offered library (keys_of definitions) n (places_of definitions) heads (next_of definitions) flags (zero_publics m.definitions)
offered {definitions = definitions} {n = n} flags f d x = record {
  standing = x.standing;
  linked = x.linked;
  wide = omega (arith, length-take n (keys_of definitions), keys-long definitions, f, d);
}
