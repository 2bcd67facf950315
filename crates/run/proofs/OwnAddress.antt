-- The address beside a name is that name's own: under rule set 1, where every line graded 1 to 3 comes from, and why it is
-- listed. Assumes nothing.
use Rattle.std.specs.Prelude.{ℕ, ◌+◌, ◌-◌, ◌≤◌, ◌≡◌, ◌⊎◌, true, ◌||◌, List}
use Rattle.std.proofs.Common.{sym, ◌∙◌, arith}
use Rattle.std.proofs.Math.Path.{ap}
use Rattle.std.proofs.Math.Logic.{inl, inr}
use Rattle.std.proofs.Math.Nat.{sub-zero}
use Rattle.lent.specs.declared.part.Part.{Part}
use Rattle.lent.specs.ChoiceLaws.{either}
use Rattle.lent.specs.Lists.{numbered}
use Rattle.lent.specs.Members.{◌among◌}
use Rattle.image.specs.View.{view}
use Rattle.image.specs.Match.{matches_at}
use Rattle.image.specs.declared.fixup.Rules.{Rules}
use Rattle.image.specs.declared.fixup.Rules.TheVariants.{Documented}
use Rattle.image.specs.fixup.Target.{rules_of}
use Rattle.omf51.specs.declared.Definition.{Definition}
use Rattle.omf51.specs.Module.{Section, Module}
use Rattle.omf51.specs.File.{modules_in}
use Rattle.segments.specs.declared.Symbol.{Symbol}
use Rattle.segments.specs.Ids.{kept, id_of}
use Rattle.segments.specs.Collect.{Collected, data_of, data_masks, kept_segment, absolute_id, inside_of, symbol_base, absolute_segment, collect}
use Rattle.segments.proofs.CollectLaws.{Source, kept_of, absolute_of, source, symbol-named, within-content, own-offset}
use Rattle.search_rules.specs.declared.Asked.{Asked}
use Rattle.search_rules.specs.Search.{Placing, is_valid, holds_to, is_noted, placed, noted}
use Rattle.search_rules.proofs.SearchLaws.{Seated, holds-each, PlacedBy, placed_by}
use Rattle.search_rules.proofs.NotedLaws.{NotedAs, noted-as}
use Rattle.listing_rules.specs.declared.Line.{Line}
use Rattle.listing_rules.specs.Listing.{SkipAmount, listing}
use Rattle.listing_rules.proofs.CompleteLaws.{graded-line}
use Rattle.run.specs.declared.Settings.{Settings}
use Rattle.run.specs.Run.{library_read, asked_of, stages, cover}
use Rattle.run.specs.Own.{Reason, OfKept, OfAbsolute, Own}

module _ (library cells : List ℕ) (depth minimum : ℕ) (modules : List Module) (m : Module) (i : m among modules) (number : ℕ) where
  abbrev documented : Asked
  documented = record { rules = Documented; depth = depth; minimum = minimum }

  abbrev Why : Collected → ℕ → Symbol → Type 0
  Why g base y = Reason library cells documented (collect Documented library modules) g base y.name (base + y.offset)

  own-kept : (place : ℕ) (d : Definition) → (place, d) among numbered 0 (kept m) → (y : Symbol) (base : ℕ) → y among (kept_segment library m number (place, d)).symbols
      → matches_at cells (kept_segment library m number (place, d)).bytes (kept_segment library m number (place, d)).masks base ≡ true
      → Why (kept_segment library m number (place, d)) base y → OfKept library cells documented modules y.name (base + y.offset)
  unfolding kept_segment
  own-kept place d k y base c t w =
      let n = symbol-named m (id_of d) (λ offset. true) 0 y c in
      let offset-is : y.offset ≡ n.offset = n.shifted ∙ sub-zero n.offset in
      let back : base + y.offset - n.offset ≡ base = omega (arith, offset-is) in
      record {
        m = m;
        is_read = i;
        number = number;
        place = place;
        d = d;
        is-kept = k;
        offset = n.offset;
        defined = n.defined;
        after = omega (arith, offset-is);
        matching = rw back t;
        reason = rw back w;
      }

  own-absolute : (s : Section) → s among m.sections → s.content.id.0 ≡ 0 → (y : Symbol) (base : ℕ)
      → y among (absolute_segment Documented library m number s).symbols
      → matches_at cells (data_of library s) (data_masks library s) base ≡ true → base ≡ s.content.offset
      → Why (absolute_segment Documented library m number s) base y → OfAbsolute library cells documented modules y.name (base + y.offset)
  unfolding absolute_segment
  own-absolute s k z y base c t e w =
      let n = symbol-named m absolute_id (inside_of s.content) (symbol_base Documented s.content) y c in
      let own : base + y.offset ≡ n.offset = ap (λ f. f + y.offset) e ∙ own-offset m s.content y n in
      record {
        m = m;
        is_read = i;
        number = number;
        content-of = s;
        is-there = k;
        absolute = z;
        defined = rw own n.defined;
        inside = rw own (within-content s.content n.offset n.in-range);
        matching = rw e at t;
        reason = moved e w;
      }
    where
      moved : {b c address : ℕ} {g : Collected} {name : Part} → b ≡ c → Reason library cells documented (collect Documented library modules) g b name address
          → Reason library cells documented (collect Documented library modules) g c name address
      moved q h = rw (sym q) h

  -- where a collected segment matches, its symbols' positions are their names' own
  own-matched : (g : Collected) → Source Documented library m number g → (y : Symbol) (base : ℕ) → y among g.symbols
      → matches_at cells g.bytes g.masks base ≡ true → Seated g.seat base → Why g base y → Own library cells documented modules y.name (base + y.offset)
  unfolding kept_segment absolute_segment
  own-matched g (kept_of place d k e) = rw e λ y base c t s w. inl (own-kept place d k y base c t w)
  own-matched g (absolute_of x k z e) = rw e λ y base c t s w. inr (own-absolute x k z y base c t s w)

-- the reason of a placed symbol that counts
why : (library cells : List ℕ) (a : Asked) (segments : List Collected) (p : Placing) (b : PlacedBy cells a segments p)
    → (p.valid || is_noted library (noted library cells a segments) p.position p.name) ≡ true
    → Reason library cells a segments b.m.segment b.m.position b.symbol.name (b.m.position + b.symbol.offset)
why library cells a segments p b c = record {
  collected = b.matched-at.collected;
  checked = λ d e r i.
      holds-each cells a.rules segments d b.m.segment b.m.position (sym (ap (λ k. holds_to cells a.rules segments k b.m.segment b.m.position) e) ∙ b.checked) r i;
  counts = go (either p.valid (is_noted library (noted library cells a segments) p.position p.name) c);
}
  where
    moved : {x y : Part} {t u : ℕ} → x ≡ y → t ≡ u → NotedAs library cells a segments x t → NotedAs library cells a segments y u
    moved q r h = rw (sym q, sym r) h

    go : (p.valid ≡ true) ⊎ (is_noted library (noted library cells a segments) p.position p.name ≡ true)
        → (is_valid a b.m.segment ≡ true) ⊎ NotedAs library cells a segments b.symbol.name (b.m.position + b.symbol.offset)
    go (inl v) = inl (sym b.valid-is ∙ v)
    go (inr n) = inr (moved b.named b.standing (noted-as library cells a segments p.name p.position n))

-- the lines of a search under a rule set
abbrev lines_by : Rules → ℕ → ℕ → SkipAmount → List ℕ → List ℕ → List Module → List Line
lines_by rules depth minimum skip library cells modules =
    let a : Asked = record { rules = rules; depth = depth; minimum = minimum } in
    let segments = collect rules library modules in
    listing library cells a skip segments (placed library cells a segments) (noted library cells a segments)

own_line : (depth minimum : ℕ) (skip : SkipAmount) (library cells : List ℕ) (modules : List Module) (rules : Rules) → rules ≡ Documented
    → (l : Line) → l among lines_by rules depth minimum skip library cells modules → 1 ≤ l.grade
    → Own library cells (record { rules = rules; depth = depth; minimum = minimum }) modules l.name l.address
own_line depth minimum skip library cells modules rules e = rw e λ l i h.
    let a : Asked = record { rules = Documented; depth = depth; minimum = minimum } in
    let segments = collect Documented library modules in
    let o = graded-line library cells a skip segments (placed library cells a segments) (noted library cells a segments) l i h in
    let b = placed_by library cells a segments o.p o.there in
    let from = source Documented library modules b.m.segment b.matched-at.collected in
    let own =
    own-matched library cells depth minimum modules from.0 from.1 from.2.0 b.m.segment from.2.1 b.symbol b.m.position
    b.carried b.matched-at.matching b.matched-at.seated (why library cells a segments o.p b o.counts) in
    moved (ap (λ k. k.name) o.line-is ∙ b.named) (ap (λ k. k.address) o.line-is ∙ b.standing) own
  where
    moved : {n k : Part} {a b : ℕ} → n ≡ k → a ≡ b → Own library cells (record { rules = Documented; depth = depth; minimum = minimum }) modules k b
        → Own library cells (record { rules = Documented; depth = depth; minimum = minimum }) modules n a
    moved p q h = rw (p, q) h

-- OWN ADDRESS: each line graded 1 to 3, under rule set 1
pub own-address : (image library : List ℕ) (s : Settings) → s.rules ≡ 1 → (l : Line) → l among (stages (view image (cover s)) library s).lines → 1 ≤ l.grade
    → Own library (view image (cover s)) (asked_of s) (modules_in (library_read library s)) l.name l.address
unfolding stages
own-address image library s e =
    own_line s.depth s.minimum s.skip library (view image (cover s)) (modules_in (library_read library s)) (rules_of s.rules) (rw e)
