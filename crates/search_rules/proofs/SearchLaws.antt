-- Where placed symbols come from, and which stay. Assumes nothing.
use Rattle.std.specs.Prelude.{ℕ, suc, ◌+◌, ◌≤◌, ◌<◌, ◌≡◌, refl, ◌⊎◌, Bool, true, false, ◌||◌, List, [], ◌++◌, map, leb, length, if◌then◌else◌}
use Rattle.std.proofs.Common.{sym, ap, ◌∙◌, inl, inr, leb-false, le-leb}
use Rattle.std.proofs.Math.Bool.{or-true}
use Rattle.std.proofs.lemmas.Bool.{false≢true, lt-leb}
use mathlib.Core.List.Memᴰ
use Rattle.lent.specs.ChoiceLaws.{both}
use Rattle.lent.specs.Lists.{one, joined, is_in, numbered}
use Rattle.lent.specs.Members.{◌among◌, of-all, of-keep, of-joined, of-fold, of-numbered, to-joined}
use Rattle.image.specs.declared.Seat.{Seat}
use Rattle.image.specs.declared.Seat.TheVariants.{Anywhere, Only}
use Rattle.image.specs.Match.{matches_at, tried, matches}
use Rattle.image.specs.declared.fixup.Rules.{Rules}
use Rattle.image.specs.declared.fixup.Target.{Target}
use Rattle.image.specs.declared.fixup.Target.TheVariants.{At, PastEnd, Withheld}
use Rattle.segments.specs.declared.Goal.{Goal}
use Rattle.segments.specs.declared.Reference.{Reference}
use Rattle.segments.specs.declared.Symbol.{Symbol}
use Rattle.segments.specs.Collect.{Collected}
use Rattle.search_rules.specs.declared.Asked.{Asked}
use Rattle.search_rules.specs.Search.{Match, Placing, positions, matches_of, positions_of, all_matches, is_valid, leads, segment_of, holds_at, holds_to, holds, symbol_at, symbols_at, is_placed, place, placed}

-- an absolute segment is found at its address
abbrev pub Seated : Seat → ℕ → Type 0
Seated Anywhere base = Unit
Seated (Only address) base = base ≡ address

-- a match is of one of the segments, at a place where its pattern matches
pub record Matched (cells : List ℕ) (segments : List Collected) (m : Match) : Type 0 where
  pub collected : m.segment among segments
  pub matching : matches_at cells m.segment.bytes m.segment.masks m.position ≡ true
  pub seated : Seated m.segment.seat m.position

tried-seated : (cells : List ℕ) (seat : Seat) (at : ℕ) → at among tried cells seat → Seated seat at
tried-seated cells Anywhere at i = tt
tried-seated cells (Only address) at i = Memᴰ.eq_of_singleton i

pub matched : (cells : List ℕ) (segments : List Collected) (m : Match) → m among all_matches cells segments → Matched cells segments m
unfolding all_matches matches
matched cells segments m i = rw (sym q.2) (record {
  collected = of-numbered 0 segments p.1;
  matching = k.1;
  seated = tried-seated cells g.seat q.0 k.0;
})
  where
    p : (x : ℕ × Collected) × (x among numbered 0 segments) × (m among matches_of cells x)
    p = of-joined (matches_of cells) (numbered 0 segments) i

    g : Collected
    g = p.0.1

    makes : ℕ → Match
    makes at = record { number = p.0.0; segment = g; position = at }

    q : (at : ℕ) × (at among positions cells g) × (makes at ≡ m)
    q = Memᴰ.of_map makes (positions cells g) p.2

    k : (q.0 among tried cells g.seat) × (matches_at cells g.bytes g.masks q.0 ≡ true)
    k = of-keep (matches_at cells g.bytes g.masks) (tried cells g.seat) q.1

-- and every position of every segment gives a match: none is left out
pub all-searched : (cells : List ℕ) (segments : List Collected) (number : ℕ) (g : Collected) (at : ℕ) → (number, g) among numbered 0 segments → at among positions cells g
    → record { number = number; segment = g; position = at } among all_matches cells segments
unfolding all_matches
all-searched cells segments number g at i j =
    to-joined (matches_of cells) (numbered 0 segments) i (Memᴰ.map (λ k. record { number = number; segment = g; position = k }) j)

-- a reference that holds has a target, and a segment reference leads to a match of that segment that holds by the test `below`
abbrev pub Held : List ℕ → List Collected → (Collected → ℕ → Bool) → Goal → Target → Type 0
Held cells segments below goal PastEnd = ⊥
Held cells segments below goal Withheld = ⊥
Held cells segments below (Goal.Segment number) (At t) = (is_in (positions_of cells segments number) t ≡ true) × (below (segment_of segments number) t ≡ true)
Held cells segments below (Goal.Name name) (At t) = Unit

pub holds-each : (cells : List ℕ) (rules : Rules) (segments : List Collected) (d : ℕ) (g : Collected) (position : ℕ) → holds_to cells rules segments (suc d) g position ≡ true
    → (r : Reference) → r among g.references → Held cells segments (λ h at. holds_to cells rules segments d h at) r.goal (leads cells rules position r)
unfolding holds_to
holds-each cells rules segments d g position e r i = held r.goal (leads cells rules position r) (of-all _ g.references e i)
  where
    below : Collected → ℕ → Bool
    below h at = holds_to cells rules segments d h at

    held : (goal : Goal) (t : Target) → holds_at cells segments below goal t ≡ true → Held cells segments below goal t
    held goal PastEnd h = false≢true h
    held goal Withheld h = false≢true h
    held (Goal.Segment number) (At t) h = both (is_in (positions_of cells segments number) t) (below (segment_of segments number) t) h
    held (Goal.Name name) (At t) h = tt

-- a placed symbol is a symbol of a match, which holds to the depth that is asked, at match position + offset, before the
-- image's end; it is valid if the match is
pub record PlacedBy (cells : List ℕ) (a : Asked) (segments : List Collected) (p : Placing) : Type 0 where
  pub m : Match
  pub matched-at : Matched cells segments m
  pub checked : holds cells a segments m ≡ true
  pub symbol : Symbol
  pub carried : symbol among m.segment.symbols
  pub named : p.name ≡ symbol.name
  pub standing : p.position ≡ m.position + symbol.offset
  pub inside : p.position < length cells
  pub valid-is : p.valid ≡ is_valid a m.segment

-- what one step of placing does: omission, the first of a name, a new one
pub place-past : (library : List ℕ) (end : ℕ) (rows : List Placing) (new : Placing) → end ≤ new.position → place library end rows new ≡ rows
unfolding place
place-past library end rows new h = rw (le-leb end new.position h)

pub place-again : (library : List ℕ) (end : ℕ) (rows : List Placing) (new : Placing) → is_placed library rows new.position new.name ≡ true
    → place library end rows new ≡ rows
unfolding place
place-again library end rows new h = rw (h, or-true (leb end new.position))

pub place-new : (library : List ℕ) (end : ℕ) (rows : List Placing) (new : Placing) → new.position < end
    → is_placed library rows new.position new.name ≡ false → place library end rows new ≡ rows ++ one new
unfolding place
place-new library end rows new l h = rw (lt-leb end new.position l, h)

of-place : (library : List ℕ) (end : ℕ) (rows : List Placing) (new : Placing) {p : Placing} → p among place library end rows new
    → p among rows ⊎ ((p ≡ new) × (new.position < end))
unfolding place
of-place library end rows new {p} i = go (leb end new.position) refl (is_placed library rows new.position new.name) i
  where
    new-one : new.position < end → p among rows ⊎ p among one new → p among rows ⊎ ((p ≡ new) × (new.position < end))
    new-one l (inl j) = inl j
    new-one l (inr j) = inr (Memᴰ.eq_of_singleton j, l)

    go : (t : Bool) → leb end new.position ≡ t → (u : Bool) → p among (if t || u then rows else rows ++ one new)
        → p among rows ⊎ ((p ≡ new) × (new.position < end))
    go true e u j = inl j
    go false e true j = inl j
    go false e false j = new-one (leb-false end new.position e) (Memᴰ.append_cases rows j)

pub placed_by : (library cells : List ℕ) (a : Asked) (segments : List Collected) (p : Placing) → p among placed library cells a segments
    → PlacedBy cells a segments p
unfolding placed symbols_at
placed_by library cells a segments p i =
    start (of-fold (place library (length cells)) (λ new q. (q ≡ new) × (new.position < length cells)) (λ rows new. of-place library (length cells) rows new)
    (joined (symbols_at cells a segments) (all_matches cells segments)) [] i)
  where
    symbol : (m : Match) → m among all_matches cells segments → (new : Placing) → p ≡ new → new.position < length cells
        → (t : Bool) → holds cells a segments m ≡ t → new among (if t then map (symbol_at a m) m.segment.symbols else []) → PlacedBy cells a segments p
    symbol m j new e l false f k = absurd (Memᴰ.not-nil k)
    symbol m j new e l true f k =
        let y = Memᴰ.of_map (symbol_at a m) m.segment.symbols k in
        record {
          m = m;
          matched-at = matched cells segments m j;
          checked = f;
          symbol = y.0;
          carried = y.1;
          named = ap (λ q. q.name) (e ∙ sym y.2);
          standing = ap (λ q. q.position) (e ∙ sym y.2);
          inside = rw e l;
          valid-is = ap (λ q. q.valid) (e ∙ sym y.2);
        }

    start : p among [] ⊎ ((new : Placing) × (new among joined (symbols_at cells a segments) (all_matches cells segments)) × ((p ≡ new) × (new.position < length cells)))
        → PlacedBy cells a segments p
    start (inl j) = absurd (Memᴰ.not-nil j)
    start (inr q) =
        let from = of-joined (symbols_at cells a segments) (all_matches cells segments) q.1 in
        symbol from.0 from.1 q.0 q.2.0 q.2.1 (holds cells a segments from.0) refl from.2
