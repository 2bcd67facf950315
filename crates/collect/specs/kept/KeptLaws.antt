-- The kept segments of a module, one after another. Assumes nothing.
use Rattle.std.specs.Prelude.{ℕ, zero, suc, ◌+◌, ◌-◌, ◌≤◌, ◌<◌, ◌≡◌, Bool, true, false, List, [], ◌∷◌, ◌++◌, map, eqb, length, get_or, if◌then◌else◌}
use Rattle.std.proofs.Math.Path.{refl, ap}
use Rattle.std.proofs.Common.{sym, subst, ◌∙◌, arith, ne_eqb}
use Rattle.std.proofs.Math.Option.{Option, none, some}
use Rattle.std.proofs.Math.ListN.{get_elem?}
use Rattle.lent.specs.FirstOf.{none≢some}
use Rattle.lent.specs.Lists.{one, keep, place_of, numbered}
use Rattle.lent.specs.ListLaws.{numbered-length}
use Rattle.omf51.specs.declared.Definition.{Definition}
use Rattle.omf51.specs.Module.{Module}
use Rattle.segments.specs.Ids.{is_kept, segment_of, kept, kept_place, id_of}
use Rattle.segments.specs.Collect.{Collected, sections_of, kept_segment}
use Rattle.tables.specs.links.Things.{places_of, next_of}
use Rattle.tables.specs.links.Follow.{Follows}
use Rattle.tables.specs.links.FollowLaws.{follows-none}
use Rattle.module_index.specs.gather.Places.{SectionIs}
use Rattle.module_ids.specs.IdRows.{kept_as, id_row, id_row_at}
use Rattle.module_index.specs.Indexed.{Indexed}
use Rattle.collect.specs.declared.stored.CollectCounts.{CollectCounts}
use Rattle.collect.specs.stored.Rows.{Stored}
use Rattle.std.specs.Prelude.{Ok}
use Rattle.collect.specs.stored.Rows.{without_room}
use Rattle.collect.specs.stored.Stores.{CollectLists, Room, Extends}
use Rattle.collect.specs.stored.Progress.{Progress}
use Rattle.collect.specs.stored.ProgressLaws.{progress-count, progress-begun, progress-on, progress-lacks}
use Rattle.collect.specs.stored.Segments.{publics_of, sections_for, StoresKept}
use Rattle.collect.specs.stored.SegmentLaws.{kept_by}
use Rattle.module_index.specs.owner.Owned.{is_first}
use Rattle.collect.specs.declared.kept.one.KeptFrom.{KeptFrom}
use Rattle.collect.specs.kept.Kept.{kept_from, kept_segments}

none-past : {A : Type 0} (xs : List A) (k : ℕ) → get_elem? xs k ≡ none → length xs ≤ k
none-past [] k e = omega arith
none-past (x ∷ xs) zero e = absurd (none≢some (sym e))
none-past (x ∷ xs) (suc k) e = let h = none-past xs k e in omega arith

-- the first kept segment of an id stands at a place exactly if its row says so
first-here : (xs : List Definition) (k place : ℕ) → place < length xs → is_first (kept_as k (get_elem? xs k)) place ≡ eqb k place
first-here xs k place h = go (get_elem? xs k) refl
  where
    go : (o : Option Definition) → get_elem? xs k ≡ o → is_first (kept_as k o) place ≡ eqb k place
    go none e = sym (ne_eqb k place (λ q. omega (arith, none-past xs k e)))
    go (some d) e = refl

module _ (library : List ℕ) (m : Module) (d : Definition) {table first contents heads definitions : List ℕ} (x : Indexed library m table first contents heads definitions) (place : ℕ) (h : place < length (kept m)) (small : (id_of d).0 < 65536) where
  first-by-row : is_first (id_row_at table (id_of d)).kept place ≡ eqb (kept_place m (id_of d)) place
  unfolding id_row kept
  first-by-row =
      ap (λ r. is_first r.kept place) (x.tells.rows (id_of d) small) ∙ first-here (keep is_kept m.definitions) (place_of (segment_of (id_of d)) (keep is_kept m.definitions)) place h

  sections-follow : Follows (SectionIs library (places_of contents)) (next_of contents) 0 (kept_from d place table first heads).content (sections_for m (id_of d) place)
  sections-follow = rw first-by-row (go (eqb (kept_place m (id_of d)) place))
    where
      go : (t : Bool) → Follows (SectionIs library (places_of contents)) (next_of contents) 0 (if t then get_or first (id_of d).0 0 else 0) (if t then sections_of m (id_of d) else [])
      go true = x.sections (id_of d).0 small
      go false = follows-none (SectionIs library (places_of contents)) (next_of contents) 0

  -- what is stored from the links of a definition is its segment
  pub definition-stored : (number : ℕ) {from : KeptFrom} {l after : CollectLists} {c : CollectCounts} {apart apart' : List ℕ} {w : Stored} → from ≡ kept_from d place table first heads
      → StoresKept library table number from contents definitions c l apart after apart' w → Extends (one (kept_segment library m number (place, d))) l c after w
  definition-stored number {l = l} {after} {c} {apart} {apart'} {w} e s =
      let same : StoresKept library table number (kept_from d place table first heads) contents definitions c l apart after apart' w =
      subst (λ f. StoresKept library table number f contents definitions c l apart after apart' w) e s in
      rw (kept_by library m number place d) (same.extends m.definitions (sections_for m (id_of d) place) (publics_of m (id_of d)) x.tells sections-follow (x.publics (id_of d).0 small))

-- the rest of a module's kept segments, from a definition on
abbrev pub kept_rest : List ℕ → Module → ℕ → ℕ → List Definition → List Collected
kept_rest library m number place left = map (kept_segment library m number) (numbered place (keep is_kept left))

module _ (library : List ℕ) (m : Module) (number : ℕ) where
  pub rest-kept : (place : ℕ) {d : Definition} {left rest : List Definition} → left ≡ d ∷ rest → is_kept d ≡ true
      → kept_rest library m number place left ≡ one (kept_segment library m number (place, d)) ++ kept_rest library m number (place + 1) rest
  unfolding keep numbered
  rest-kept place e k = rw (e, k) refl

  pub rest-passed : (place : ℕ) {d : Definition} {left rest : List Definition} → left ≡ d ∷ rest → is_kept d ≡ false
      → kept_rest library m number place left ≡ kept_rest library m number place rest
  unfolding keep
  rest-passed place e k = rw (e, k) refl

  pub rest-none : (place : ℕ) {left : List Definition} → left ≡ [] → kept_rest library m number place left ≡ []
  unfolding keep numbered
  rest-none place e = rw e refl

  map-length : {A B : Type 0} (f : A → B) (xs : List A) → length (map f xs) ≡ length xs
  map-length f [] = refl
  map-length f (y ∷ xs) = ap suc (map-length f xs)

  pub kept-many : length (kept_segments library m number) ≡ length (kept m)
  kept-many = map-length (kept_segment library m number) (numbered 0 (kept m)) ∙ numbered-length 0 (kept m)

-- one kept segment more is stored, or there is no room for all of them
module _ (library : List ℕ) (m : Module) (number : ℕ) (gs : List Collected) (l after : CollectLists) (c : CollectCounts) (w : Stored) {d : Definition} {left rest : List Definition} (e : left ≡ d ∷ rest) (k : is_kept d ≡ true) (n : number ≡ length gs)
    (p : Progress gs (kept_segments library m number) (kept_rest library m number (c.segments - number) left) l c)
    (x : c.segments - number < length (kept m) → Extends (one (kept_segment library m number (c.segments - number, d))) l c after w) where
  abbrev place : ℕ
  place = c.segments - number

  abbrev all : List Collected
  all = kept_segments library m number

  counted : c.segments + suc (length (kept_rest library m number (place + 1) rest)) ≡ number + length (kept m)
  counted =
      ap (λ xs. c.segments + length xs) (sym (rest-kept library m number place e k))
      ∙ progress-count gs all (kept_rest library m number place left) p ∙ rw (kept-many library m number, n) refl

  here : Progress gs all (one (kept_segment library m number (place, d)) ++ kept_rest library m number (place + 1) rest) l c
  here = subst (λ xs. Progress gs all xs l c) (rest-kept library m number place e k) p

  extended : Extends (one (kept_segment library m number (place, d))) l c after w
  extended = x (omega (arith, counted, n, progress-begun gs all p))

  pub keeps_on : {more : CollectCounts} → w ≡ Ok more → Progress gs all (kept_rest library m number (more.segments - number) rest) after more
  keeps_on {more} q =
      let r = progress-on gs all (one (kept_segment library m number (place, d))) (kept_rest library m number (place + 1) rest) after w here extended q in
      let s : place + 1 ≡ more.segments - number = omega (arith, counted, n, progress-begun gs all p, progress-count gs all (kept_rest library m number (place + 1) rest) r, kept-many library m number) in
      subst (λ j. Progress gs all (kept_rest library m number j rest) after more) s r

  pub keeps-lack : w ≡ without_room → Room (gs ++ all) after → ⊥
  keeps-lack q = progress-lacks gs all (one (kept_segment library m number (place, d))) (kept_rest library m number (place + 1) rest) after w here extended q

pub keeps-start : (library : List ℕ) (m : Module) (number : ℕ) {left : List Definition} → left ≡ m.definitions → kept_segments library m number ≡ kept_rest library m number 0 left
unfolding kept
keeps-start library m number e = rw e refl
