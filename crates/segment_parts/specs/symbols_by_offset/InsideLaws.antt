-- Places whose block has no flag are passed over: what stands there is not inside. Assumes nothing.
use Rattle.std.specs.Prelude.{ℕ, zero, suc, ◌+◌, ◌-◌, ◌/◌, ◌<◌, ◌≤◌, ◌≡◌, refl, Bool, false, ◌&&◌, List, [], ◌++◌, leb, ltb, length, get_or, take, drop}
use Rattle.std.proofs.Common.{sym, ap, subst, ◌∙◌, arith, le-leb, le-ltb, drop_of_length-le, get_or-take}
use Rattle.std.proofs.Math.Decide.{dec_lt}
use Rattle.std.proofs.lemmas.Bool.{lt-leb}
use Rattle.std.proofs.lemmas.List.{length-map}
use Rattle.std.proofs.Math.ListN.{get_or-map}
use Rattle.lent.specs.Lists.{joined}
use Rattle.lent.specs.ListLaws.{joined-turn, joined_end}
use Rattle.lent.specs.PartLaws.{drop-turn}
use Rattle.tables.specs.declared.fill.Fill.{Fill}
use Rattle.tables.specs.fill.FilledRows.{Adds, Leads}
use Rattle.tables.specs.fill.AddedRowLaws.{lead-on, all-added}
use Rattle.omf51.specs.declared.Definition.{Definition}
use Rattle.omf51.specs.declared.Definition.TheVariants.{Segment, Public, External}
use Rattle.segments.specs.declared.Symbol.{Symbol}
use Rattle.segments.specs.SegmentLayouts.{symbol_layout}
use Rattle.module_index.specs.gather.Places.{no_definition}
use Rattle.segment_parts.specs.declared.carried.Carried.TheVariants.{Inside}
use Rattle.segment_parts.specs.AddedSymbols.{symbol_by}
use Rattle.segment_parts.specs.declared.symbols_by_offset.flags.Blocks.{Blocks}
use Rattle.module_index.specs.gather.Publics.{offset_key}
use Rattle.segment_parts.specs.symbols_by_offset.Flags.{Flagged, Covers}
use Rattle.segment_parts.specs.symbols_by_offset.Inside.{Standing, NamesAt}

-- things that give nothing are passed over
pub joined-past : {A B : Type 0} (of : A → List B) (none : A) (xs : List A) (n i : ℕ) → ((j : ℕ) → i ≤ j → j < i + n → j < length xs → of (get_or xs j none) ≡ [])
    → joined of (drop i xs) ≡ joined of (drop (i + n) xs)
joined-past of none xs zero i h = let e : i ≡ i + 0 = omega arith in ap (λ k. joined of (drop k xs)) e
joined-past of none xs (suc n) i h = go (dec_lt i (length xs)) (joined-past of none xs n (i + 1) (λ j a b l. h j (omega arith) (omega arith) l))
  where
    e : i + 1 + n ≡ i + suc n
    e = omega arith

    go : Dec (i < length xs) → joined of (drop (i + 1) xs) ≡ joined of (drop (i + 1 + n) xs) → joined of (drop i xs) ≡ joined of (drop (i + suc n) xs)
    go (yes l) rest = joined-turn of (drop-turn xs i none l) ∙ ap (λ ys. ys ++ joined of (drop (i + 1) xs)) (h i (omega arith) (omega arith) l) ∙ rest ∙ ap (λ k. joined of (drop k xs)) e
    go (no l) rest = joined_end of (drop_of_length-le xs {i = i} (omega arith)) ∙ sym (joined_end of (drop_of_length-le xs {i = i + suc n} (omega arith)))

-- one whose offset is not inside has no symbol
pub not-inside : (at len : ℕ) (own : Bool) (d : Definition) {v : ℕ} → v ≡ offset_key d → (leb at v && ltb v (at + len)) ≡ false → symbol_by (Inside (record { at = at; len = len; own = own })) d ≡ []
not-inside at len own (Segment id info relocation size name) e t = refl
not-inside at len own (Public id offset name) e t = rw (← e, t) refl
not-inside at len own (External id info name) e t = refl

module _ (library keys : List ℕ) (n : ℕ) (places : List ℕ) (publics : List Definition) (t : Standing library keys n places publics) where
  pub key-is : (j : ℕ) → j < n → get_or keys j 0 ≡ offset_key (get_or publics j no_definition)
  key-is j h = sym (get_or-take n keys j 0 h) ∙ ap (λ ks. get_or ks j 0) t.keyed ∙ get_or-map offset_key publics j no_definition

  keys-long : length (take n keys) ≡ n
  keys-long = ap length t.keyed ∙ length-map publics offset_key ∙ sym t.number

  module _ (at len : ℕ) (own : Bool) (s : Blocks) (flags : List ℕ) (c : Covers (take n keys) at (at + len) flags s) (m₀ : List ℕ) (f₀ : Fill) where
    abbrev of : Definition → List Symbol
    of = symbol_by (Inside (record { at = at; len = len; own = own }))

    -- what is left from a place on
    abbrev pub Left : ℕ → List ℕ → Fill → Type 0
    Left j m f = Leads symbol_layout (joined of (drop j publics)) m f (joined of publics) m₀ f₀

    unflagged : (j : ℕ) → j < n → (Flagged flags s (j / 256) → ⊥) → of (get_or publics j no_definition) ≡ []
    unflagged j h no_flag = not-inside at len own (get_or publics j no_definition) (key-is j h) (go (dec_lt (get_or keys j 0) at) (dec_lt (get_or keys j 0) (at + len)))
      where
        go : Dec (get_or keys j 0 < at) → Dec (get_or keys j 0 < at + len) → (leb at (get_or keys j 0) && ltb (get_or keys j 0) (at + len)) ≡ false
        go (yes a) b = rw (lt-leb at (get_or keys j 0) a) refl
        go (no a) (no b) = rw (le-leb at (get_or keys j 0) (omega arith), le-ltb (get_or keys j 0) (at + len) (omega arith)) refl
        go (no a) (yes b) =
            let k = get_or-take n keys j 0 h in
            absurd (no_flag (c j (omega (arith, keys-long)) (omega (arith, k)) (omega (arith, k))))

    past : (i k : ℕ) → i ≤ k → ((j : ℕ) → i ≤ j → j < k → Flagged flags s (j / 256) → ⊥) → joined of (drop i publics) ≡ joined of (drop k publics)
    past i k h no_flag =
        let e : i + (k - i) ≡ k = omega arith in
        joined-past of no_definition publics (k - i) i (λ j a b l. unflagged j (omega (arith, t.number)) (no_flag j a (omega arith))) ∙ ap (λ x. joined of (drop x publics)) e

    pub left-past : (i k : ℕ) (m : List ℕ) (f : Fill) → i ≤ k → ((j : ℕ) → i ≤ j → j < k → Flagged flags s (j / 256) → ⊥) → Left i m f → Left k m f
    left-past i k m f h no_flag l = subst (λ xs. Leads symbol_layout xs m f (joined of publics) m₀ f₀) (past i k h no_flag) l

    pub left-all : Left 0 m₀ f₀
    left-all g n h = h

    pub left_one : (j : ℕ) (m m' : List ℕ) (f g : Fill) → j < n → NamesAt library at len own keys places j m f m' g → Left j m f → Left (j + 1) m' g
    left_one j m m' f g h a l =
        lead-on symbol_layout (of (get_or publics j no_definition)) {m₀ = m₀} {m = m} {n = m'} {f₀ = f₀} {f = f} {g = g} (joined-turn of (drop-turn publics j no_definition (omega (arith, t.number)))) (a.adds (get_or publics j no_definition) (key-is j h) (t.stand j h)) l

    pub left-none : (j : ℕ) (m : List ℕ) (f : Fill) → n ≤ j → Left j m f → Adds symbol_layout (joined of publics) m₀ f₀ m f
    left-none j m f h l = all-added symbol_layout (joined_end of (drop_of_length-le publics {i = j} (omega (arith, t.number)))) l
