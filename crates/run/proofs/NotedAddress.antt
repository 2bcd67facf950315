-- The address beside a name of grade 0: which match refers to that name there, and by which fixup of its module. Assumes nothing.
use Rattle.std.specs.Prelude.{ℕ, suc, ◌+◌, ◌≡◌, Bool, ◌&&◌, if◌then◌else◌}
use Rattle.std.proofs.Math.Path.{refl}
use Rattle.std.proofs.Common.{sym, ap, ◌∙◌}
use Rattle.std.proofs.Math.Bool.{true, false}
use Rattle.std.proofs.lemmas.Bool.{false≢true}
use mathlib.Core.List.Memᴰ
use mathlib.Core.List.{List, [], ◌∷◌}
use Rattle.std.proofs.Math.Option.{Option, none, some}
use borrow.Author.Tests.{eqb-true}
use Rattle.std.proofs.Math.Dec.{eqb}
use Rattle.std.proofs.Math.ListN.{get_elem?}
use Rattle.lent.specs.declared.part.Part.{Part}
use Rattle.lent.specs.ChoiceLaws.{both}
use Rattle.lent.specs.FirstOf.{none≢some}
use Rattle.lent.specs.Lists.{joined, place_of, first}
use Rattle.lent.specs.Members.{◌among◌, of-keep, of-joined}
use Rattle.image.specs.View.{view}
use Rattle.image.specs.declared.fixup.Kind.{Kind}
use Rattle.image.specs.fixup.Target.{kind_of}
use Rattle.omf51.specs.declared.ModuleId.{ModuleId}
use Rattle.omf51.specs.declared.Definition.{Definition}
use Rattle.omf51.specs.declared.Definition.TheVariants.{Segment, Public, External}
use Rattle.omf51.specs.declared.Fixup.{Fixup}
use Rattle.omf51.specs.Module.{Section, Module}
use Rattle.omf51.specs.File.{modules_in}
use Rattle.segments.specs.declared.Goal.{Goal}
use Rattle.segments.specs.declared.Reference.{Reference}
use Rattle.segments.specs.Ids.{same_id, kept_place, id_of, external_of, named, is_code, name_in}
use Rattle.segments.specs.Refuse.{fixup_refusal}
use Rattle.segments.specs.Collect.{Collected, goal_of, left, is_none, leaves, references_of, sections_of, kept_segment, absolute_segment, collect}
use Rattle.segments.proofs.CollectLaws.{Source, kept_of, absolute_of, source}
use Rattle.search_rules.specs.declared.Asked.{Asked}
use Rattle.search_rules.specs.Search.{Noting, placed, noted}
use Rattle.search_rules.proofs.NotedLaws.{NotedBy, noted-by, noted-valid}
use Rattle.listing_rules.specs.declared.Line.{Line}
use Rattle.listing_rules.specs.Listing.{noted_line}
use Rattle.listing_rules.proofs.CompleteLaws.{noted-line}
use Rattle.run.specs.declared.Settings.{Settings}
use Rattle.run.specs.Run.{library_read, asked_of, stages, cover}
use Rattle.run.specs.Own.{ByFixup, RefersTo, Referred}

-- the first that passes a test is in the list, and passes
first_found : {A : Type 0} (p : A → Bool) (d : A) (xs : List A) → first p xs ≡ some d → (d among xs) × (p d ≡ true)
unfolding place_of
first_found p d [] e = absurd (none≢some e)
first_found {A} p d (x ∷ xs) e = go (p x) refl e (first_found p d xs)
  where
    inside : Option A → A
    inside none = d
    inside (some y) = y

    go : (t : Bool) → p x ≡ t → get_elem? (x ∷ xs) (if t then 0 else suc (place_of p xs)) ≡ some d → (first p xs ≡ some d → (d among xs) × (p d ≡ true))
        → (d among (x ∷ xs)) × (p d ≡ true)
    go true h f rest = let same : x ≡ d = ap inside f in (Memᴰ.head (sym same), ap p (sym same) ∙ h)
    go false h f rest = let r = rest f in (Memᴰ.tail r.0, r.1)

-- what a reference to a name is made of
module _ (m : Module) (number base : ℕ) (f : Fixup) (name : Part) where
  record FromFixup (r : Reference) : Type 0 where
    block-is : f.block ≡ 2
    own : ModuleId
    info : ℕ
    external : External own info name among m.definitions
    same : own.0 ≡ f.id.0
    kind-is : kind_of f.kind ≡ some r.kind
    offset-is : r.offset ≡ f.offset

  abbrev goal-name : Goal → Part
  goal-name (Goal.Segment n) = name
  goal-name (Goal.Name x) = x

  abbrev is_name : Goal → Bool
  is_name (Goal.Segment n) = false
  is_name (Goal.Name x) = true

  external-of : f.block ≡ 2 → (d : Definition) → d among m.definitions → external_of f.id d ≡ true → name_in (some d) ≡ name → (r : Reference) → kind_of f.kind ≡ some r.kind → r.offset ≡ f.offset → FromFixup r
  external-of b (Segment own info relocation size n) i e q r k o = absurd (false≢true e)
  external-of b (Public own offset n) i e q r k o = absurd (false≢true e)
  external-of b (External own info n) i e q r k o =
      record { block-is = b; own = own; info = info; external = rw (sym q) i; same = eqb-true own.0 f.id.0 e; kind-is = k; offset-is = o }

  named-external : (d : Definition) → eqb f.block 1 ≡ false → named m f ≡ some d
      → (d among m.definitions) × ((external_of f.id d ≡ true) × (f.block ≡ 2))
  unfolding named
  named-external d b e = go (eqb f.block 2) refl (rw b at e)
    where
      go : (t : Bool) → eqb f.block 2 ≡ t → (if t then first (external_of f.id) m.definitions else none) ≡ some d
          → (d among m.definitions) × ((external_of f.id d ≡ true) × (f.block ≡ 2))
      go true two h = let x = first_found (external_of f.id) d m.definitions h in (x.0, (x.1, eqb-true f.block 2 two))
      go false two h = absurd (none≢some h)

  from-fixup : (r : Reference) → r among leaves m number base f → r.goal ≡ Goal.Name name → FromFixup r
  from-fixup r i g = go (is_none (fixup_refusal m f) && is_code (named m f)) refl (kind_of f.kind) refl i
    where
      by_name : (o : Option Definition) → named m f ≡ o → is_code o ≡ true → eqb f.block 1 ≡ false → name_in (named m f) ≡ name → kind_of f.kind ≡ some r.kind → r.offset ≡ f.offset → FromFixup r
      by_name none e c b n k q = absurd (false≢true c)
      by_name (some d) e c b n k q = let x = named-external d b e in external-of x.1.1 d x.0 x.1.0 (ap name_in (sym e) ∙ n) r k q

      by-block : (t : Bool) → eqb f.block 1 ≡ t → (if t then Goal.Segment (record { 0 = number + kept_place m f.id }) else Goal.Name (name_in (named m f))) ≡ Goal.Name name
          → is_code (named m f) ≡ true → kind_of f.kind ≡ some r.kind → r.offset ≡ f.offset → FromFixup r
      by-block true b e c k q = absurd (false≢true (ap is_name e))
      by-block false b e c k q = by_name (named m f) refl c b (ap goal-name e) k q

      go : (t : Bool) → (is_none (fixup_refusal m f) && is_code (named m f)) ≡ t → (o : Option Kind) → kind_of f.kind ≡ o
          → r among left t o (base + f.location) f.offset (goal_of m number f) → FromFixup r
      go false t o k j = absurd (Memᴰ.not-nil j)
      go true t none k j = absurd (Memᴰ.not-nil j)
      go true t (some kind) k j =
          let q = Memᴰ.eq_of_singleton j in
          by-block (eqb f.block 1) refl (sym (ap (λ x. x.goal) q) ∙ g) (both (is_none (fixup_refusal m f)) (is_code (named m f)) t).1
          (k ∙ ap (λ x. some x.kind) (sym q)) (ap (λ x. x.offset) q)

module _ (library : List ℕ) (m : Module) (number : ℕ) (name : Part) where
  from-content : (s : Section) → s among m.sections → (base : ℕ) (r : Reference) → r among references_of m number base s → r.goal ≡ Goal.Name name → ByFixup m name r
  unfolding references_of
  from-content s i base r j g =
      let p = of-joined (leaves m number base) s.fixups j in
      let f = from-fixup m number base p.0 name r p.2 g in
      record {
        content-of = s;
        content-there = i;
        fixup = p.0;
        fixup-there = p.1;
        block-is = f.block-is;
        own = f.own;
        info = f.info;
        external = f.external;
        same = f.same;
        kind-is = f.kind-is;
        offset-is = f.offset-is;
      }

  from-source : (a : Asked) (g : Collected) → Source a.rules library m number g → (r : Reference) → r among g.references → r.goal ≡ Goal.Name name → ByFixup m name r
  unfolding kept_segment absolute_segment
  from-source a g (kept_of place d k e) = rw e λ r i h. go (eqb (kept_place m (id_of d)) place) r i h
    where
      go : (t : Bool) (r : Reference) → r among joined (λ s. references_of m number s.content.offset s) (if t then sections_of m (id_of d) else []) → r.goal ≡ Goal.Name name → ByFixup m name r
      go true r i h =
          let p = of-joined (λ s. references_of m number s.content.offset s) (sections_of m (id_of d)) i in
          from-content p.0 (of-keep (λ s. same_id s.content.id (id_of d)) m.sections p.1).0 p.0.content.offset r p.2 h
      go false r i h = absurd (Memᴰ.not-nil (of-joined (λ s. references_of m number s.content.offset s) [] i).1)
  from-source a g (absolute_of s k z e) = rw e λ r i h. from-content s k 0 r i h

module _ (library cells : List ℕ) (a : Asked) (modules : List Module) where
  abbrev segments : List Collected
  segments = collect a.rules library modules

  refers : (name : Part) (address : ℕ) → NotedBy cells a segments name address → RefersTo library cells a modules name address
  refers name address b =
      let from = source a.rules library modules b.m.segment b.matched-at.collected in
      record {
        by = b;
        m = from.0;
        is_read = from.1;
        number = from.2.0;
        its-segment = from.2.1;
        its-fixup = from-source library from.0 from.2.0 name a b.m.segment from.2.1 b.reference b.carried b.goal-is;
      }

  referred : (n : Noting) → n among noted library cells a segments → n.valid ≡ true → Referred library cells a modules n.name n.target
  unfolding refers
  referred n i v =
      let w = noted-valid library cells a segments n i v in
      record {
        noted-first = refers n.name n.target (noted-by library cells a segments n i);
        own = w.noting.own;
        same_bytes = w.noting.same_bytes;
        noted-validly = refers w.noting.own n.target w.noting.by;
        is-valid = w.is-valid;
      }

-- GRADE 0: the name beside an address is referred to there
pub noted-address : (image library : List ℕ) (s : Settings) (l : Line) → l among (stages (view image (cover s)) library s).lines → l.grade ≡ 0
    → Referred library (view image (cover s)) (asked_of s) (modules_in (library_read library s)) l.name l.address
unfolding stages
noted-address image library s l i h = go (noted-line library cells a s.skip gs (placed library cells a gs) (noted library cells a gs) l i h)
  where
    cells : List ℕ
    cells = view image (cover s)

    a : Asked
    a = asked_of s

    gs : List Collected
    gs = collect a.rules library (modules_in (library_read library s))

    go : (n : Noting) × (n among noted library cells a gs) × ((n.valid ≡ true) × (l ≡ noted_line n)) → Referred library cells a (modules_in (library_read library s)) l.name l.address
    go (n, j, (v, e)) = rw e (referred library cells a (modules_in (library_read library s)) n j v)
