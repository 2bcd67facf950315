-- Flags that are set along links, and cleared again. Assumes nothing.
use Rattle.std.specs.Prelude.{ℕ, ◌+◌, ◌-◌, ◌/◌, ◌<◌, ◌≤◌, ◌^◌, ◌≡◌, refl, Bool, true, false, List, eqb, length, get_or, set, take}
use Rattle.std.proofs.Common.{sym, ap, subst, ◌∙◌, arith, eqb-true, length-set, length-take, get_or-take, get_or-set_same, get_or-set_other}
use Rattle.std.proofs.Math.Decide.{dec_lt}
use Rattle.std.proofs.lemmas.Bool.{eqb-false}
use Rattle.std.proofs.Math.ListN.{get_or-eq_default}
use Rattle.std.proofs.Math.Seq.{set_out}
use Rattle.tables.specs.links.Index.{key_at, link_from, Linked}
use Rattle.segment_parts.specs.declared.symbols_by_offset.flags.Blocks.{Blocks}
use Rattle.segment_parts.specs.symbols_by_offset.Flags.{Clear, no_blocks, Flagged, Bounds, Grows, FlagsBlock, Wide, Words, Covers, FlagsAlong}
use Rattle.segment_parts.specs.symbols_by_offset.LinkLaws.{Leads, link-leads, link-ends}

-- one block more
module _ (flags : List ℕ) (s s' : Blocks) (b : ℕ) (low : (s'.low ≤ s.low) × (s'.low ≤ b)) (high : (s.high ≤ s'.high) × ((b < s'.high) × (s.high ≤ 2 ^ 32 → s'.high ≤ 2 ^ 32))) where
  still_one : (i : ℕ) → b < length flags → get_or flags i 0 ≡ 1 → get_or (set flags b 1) i 0 ≡ 1
  still_one i h e = go (eqb i b) refl
    where
      go : (t : Bool) → eqb i b ≡ t → get_or (set flags b 1) i 0 ≡ 1
      go true q = rw (eqb-true i b q) (get_or-set_same flags b 1 0 h)
      go false q = get_or-set_other flags b i 1 0 (eqb-false i b q) ∙ e

  unset : (i : ℕ) → (i ≡ b → ⊥) → get_or flags i 0 ≡ 0 → get_or (set flags b 1) i 0 ≡ 0
  unset i d e = get_or-set_other flags b i 1 0 d ∙ e

  pub block-flagged : FlagsBlock b flags s (set flags b 1) s'
  block-flagged = record {
    grows = record {
      long = length-set flags b 1;
      bounds = λ k. record {
        before = λ i h. unset i (λ q. omega (arith, low.1)) (k.before i (omega (arith, low.0)));
        behind = λ i h. unset i (λ q. omega (arith, high.1.0)) (k.behind i (omega (arith, high.0)));
        low_small = omega (arith, k.low_small, low.0);
        high_small = high.1.1 k.high_small;
      };
      keeps = λ i k. record { one = kept i k.one (dec_lt b (length flags)); from = omega (arith, k.from, low.0); below = omega (arith, k.below, high.0) };
    };
    flagged = λ h. record { one = get_or-set_same flags b 1 0 h; from = low.1; below = high.1.0 };
  }
    where
      kept : (i : ℕ) → get_or flags i 0 ≡ 1 → Dec (b < length flags) → get_or (set flags b 1) i 0 ≡ 1
      kept i e (yes h) = still_one i h e
      kept i e (no h) = rw (set_out flags b 1 (omega arith)) e

pub grows_none : (flags : List ℕ) (s : Blocks) → Grows flags s flags s
grows_none flags s = record { long = refl; bounds = λ k. k; keeps = λ b k. k }

pub grows-on : {a b c : List ℕ} {s t u : Blocks} → Grows a s b t → Grows b t c u → Grows a s c u
grows-on g h = record { long = h.long ∙ g.long; bounds = λ k. h.bounds (g.bounds k); keeps = λ i k. h.keeps i (g.keeps i k) }

pub none-flagged : (flags : List ℕ) → Clear flags → Bounds flags no_blocks
none-flagged flags c = record { before = λ b h. c b; behind = λ b h. c b; low_small = omega arith; high_small = omega arith }

-- on the way along the links of a key: those before here are flagged
pub record Way (keys : List ℕ) (v last here : ℕ) (flags : List ℕ) (s : Blocks) : Type 0 where
  pub link : here ≡ link_from keys v last
  pub within : last ≤ length keys
  pub done : (j : ℕ) → j < last → key_at keys j ≡ v → Flagged flags s (j / 256)

module _ (keys : List ℕ) (v : ℕ) where
  pub way-starts : {link : ℕ} (flags : List ℕ) (s : Blocks) → link ≡ link_from keys v 0 → Way keys v 0 link flags s
  way-starts flags s e = record { link = e; within = omega arith; done = λ j h. absurd (omega arith) }

  module _ (last here : ℕ) {flags : List ℕ} {s : Blocks} (w : Way keys v last here flags s) where
    pub way_on : (first next flags₀ : List ℕ) {flags' : List ℕ} {s' : Blocks} → last < here → Linked keys 0 first next → Wide keys flags₀ → length flags ≡ length flags₀
        → FlagsBlock ((here - 1) / 256) flags s flags' s' → Way keys v here (get_or next (here - 1) 0) flags' s'
    way_on first next flags₀ {flags'} {s'} h l wide long f = record {
      link = l.follows (here - 1) (omega arith) m.within ∙ ap (λ x. link_from keys x (here - 1 + 1)) m.key ∙ ap (link_from keys v) back;
      within = omega (arith, m.within);
      done = λ j k. go j k (dec_lt j last) (dec_lt j (here - 1));
    }
      where
        m : Leads keys v last here
        m = link-leads keys v last here w.within w.link (omega arith)

        back : here - 1 + 1 ≡ here
        back = omega arith

        go : (j : ℕ) → j < here → Dec (j < last) → Dec (j < here - 1) → key_at keys j ≡ v → Flagged flags' s' (j / 256)
        go j k (yes a) b e = f.grows.keeps (j / 256) (w.done j a e)
        go j k (no a) (yes b) e = absurd (m.earlier j (omega arith) b e)
        go j k (no a) (no b) e =
            let here-now : here - 1 ≡ j = omega arith in
            subst (λ i. Flagged flags' s' (i / 256)) here-now (f.flagged (omega (arith, m.within, wide, long)))

    pub way-ends : here ≤ last → (j : ℕ) → j < length keys → key_at keys j ≡ v → Flagged flags s (j / 256)
    way-ends h j k e = go (dec_lt j last) (dec_lt 0 here)
      where
        go : Dec (j < last) → Dec (0 < here) → Flagged flags s (j / 256)
        go (yes a) b = w.done j a e
        go (no a) (yes b) = absurd (omega (arith, (link-leads keys v last here w.within w.link b).from))
        go (no a) (no b) =
            let zero-link : here ≡ 0 = omega arith in
            absurd (link-ends keys v last (sym w.link ∙ zero-link) j (omega arith) k e)

-- one key more
pub covers-on : (keys first next : List ℕ) (at i : ℕ) (flags₀ : List ℕ) {flags flags' : List ℕ} {s s' : Blocks} → Linked keys 0 first next → Wide keys flags₀ → length flags ≡ length flags₀ → Words keys
    → FlagsAlong (get_or first (at + i) 0) next flags s flags' s' → Covers keys at (at + i) flags s → Covers keys at (at + (i + 1)) flags' s'
covers-on keys first next at i flags₀ {flags} {flags'} {s} {s'} l wide long words f c j h a b = go (dec_lt (key_at keys j) (at + i))
  where
    go : Dec (key_at keys j < at + i) → Flagged flags' s' (j / 256)
    go (yes d) = f.grows.keeps (j / 256) (c j h a d)
    go (no d) =
        let same : key_at keys j ≡ at + i = omega arith in
        f.met keys first (at + i) l (omega (arith, wide, long)) (l.starts (at + i) (omega (arith, words j h))) j h same

pub covers-on-to : (keys first next : List ℕ) (at offset : ℕ) → at ≤ offset → (flags₀ : List ℕ) {flags flags' : List ℕ} {s s' : Blocks} → Linked keys 0 first next → Wide keys flags₀ → length flags ≡ length flags₀ → Words keys
    → FlagsAlong (get_or first offset 0) next flags s flags' s' → Covers keys at offset flags s → Covers keys at (offset + 1) flags' s'
covers-on-to keys first next at offset h flags₀ {flags} {flags'} {s} {s'} l wide long words f c =
    let now : at + (offset - at) ≡ offset = omega arith in
    let then : at + (offset - at + 1) ≡ offset + 1 = omega arith in
    subst (λ k. Covers keys at k flags' s') then
    (covers-on keys first next at (offset - at) flags₀ {flags = flags} {flags' = flags'} {s = s} {s' = s'} l wide long words
    (subst (λ k. FlagsAlong (get_or first k 0) next flags s flags' s') (sym now) f) (subst (λ k. Covers keys at k flags s) (sym now) c))

pub words-taken : (keys : List ℕ) (n : ℕ) → ((j : ℕ) → get_or keys j 0 < 65536) → Words (take n keys)
words-taken keys n w j h = omega (arith, w j, get_or-take n keys j 0 (omega (arith, length-take n keys)))

-- flags set to 0 again, one block after another
pub record ClearTo (s : Blocks) (flags : List ℕ) (b : ℕ) : Type 0 where
  pub before : (i : ℕ) → i < b → get_or flags i 0 ≡ 0
  pub behind : (i : ℕ) → s.high ≤ i → get_or flags i 0 ≡ 0

module _ (s : Blocks) (flags : List ℕ) (b : ℕ) (c : ClearTo s flags b) where
  zero-put : (i : ℕ) → (t : Bool) → eqb i b ≡ t → (eqb i b ≡ false → get_or flags i 0 ≡ 0) → get_or (set flags b 0) i 0 ≡ 0
  zero-put i true q h = rw (eqb-true i b q) (go (dec_lt b (length flags)))
    where
      go : Dec (b < length flags) → get_or (set flags b 0) b 0 ≡ 0
      go (yes l) = get_or-set_same flags b 0 0 l
      go (no l) = rw (set_out flags b 0 (omega arith)) (get_or-eq_default flags 0 (omega arith))
  zero-put i false q h = get_or-set_other flags b i 0 0 (eqb-false i b q) ∙ h q

  pub clear-on : ClearTo s (set flags b 0) (b + 1)
  clear-on = record {
    before = λ i h. zero-put i (eqb i b) refl (λ q. let d = eqb-false i b q in c.before i (omega (arith, d)));
    behind = λ i h. zero-put i (eqb i b) refl (λ q. c.behind i h);
  }

  pub clear-all : s.high ≤ b → Clear flags
  clear-all h i = go (dec_lt i b)
    where
      go : Dec (i < b) → get_or flags i 0 ≡ 0
      go (yes d) = c.before i d
      go (no d) = c.behind i (omega arith)
