-- Segments that were stored, or for which there was no room, come to the definition's outcome. Assumes nothing.
use Rattle.std.specs.Prelude.{ℕ, ◌*◌, ◌≤◌, Bool, ◌||◌, List, [], ◌∷◌, ltb, length}
use Rattle.std.proofs.Math.Path.{◌≡◌, refl}
use Rattle.std.proofs.Common.{sym, ◌∙◌, arith, le-ltb, ltb-false}
use Rattle.std.proofs.Math.Bool.{true, false}
use Rattle.std.proofs.lemmas.Bool.{false≢true}
use Rattle.std.proofs.Math.Option.{Option, none, some}
use Rattle.lent.specs.declared.refusal.Refusal.{Refusal}
use Rattle.lent.specs.declared.refusal.Refusal.TheVariants.{TooFewRows}
use Rattle.lent.specs.Choice.{leading}
use Rattle.lent.specs.Lists.{total}
use Rattle.lent.specs.ListLaws.{joined_length}
use Rattle.omf51.specs.Module.{Module}
use Rattle.segments.specs.Collect.{Collected}
use Rattle.segments.specs.Refuse.{collect_refusal}
use Rattle.segments.specs.SegmentRows.{pattern_bytes, pattern_masks}
use Rattle.collect.specs.declared.stored.CollectCounts.{CollectCounts}
use Rattle.collect.specs.stored.Stores.{CollectLists, Room, Stores}
use Rattle.collect.specs.stored.StoreLaws.{stored-count}
use Rattle.collect.specs.Outcome.{counted_in, too_few, refusal_of}

-- the order of the refusals, once the library is short enough
module _ (library : List ℕ) (modules : List Module) (l : CollectLists) (c : CollectCounts) (short : length library ≤ 1048576) where
  pub refused-9 : too_few l c ≡ true → refusal_of library modules l c ≡ some TooFewRows
  unfolding refusal_of leading
  refused-9 e = rw (le-ltb 1048576 (length library) short, e) refl

  pub refused-late : {o : Option Refusal} → too_few l c ≡ false → collect_refusal modules ≡ o → refusal_of library modules l c ≡ o
  unfolding refusal_of leading
  refused-late {o} e r = rw (le-ltb 1048576 (length library) short, e, r) (go o)
    where
      go : (o : Option Refusal) → leading (o ∷ []) ≡ o
      go none = refl
      go (some x) = refl

-- the counts of segments, and room for them
module _ (gs : List Collected) where
  pub counted : {l : CollectLists} {c : CollectCounts} → Stores gs l c → c ≡ counted_in gs
  unfolding counted_in pattern_bytes
  counted {l} {c} s =
      same (stored-count s) (s.references.number ∙ joined_length (λ g. g.references) gs) (s.symbols.number ∙ joined_length (λ g. g.symbols) gs) (s.pattern ∙ joined_length (λ g. g.bytes) gs)
    where
      same : {a a' b b' d d' e e' : ℕ} → a ≡ a' → b ≡ b' → d ≡ d' → e ≡ e'
          → ◌≡◌ {A = CollectCounts} (record { segments = a; references = b; symbols = d; pattern = e }) (record { segments = a'; references = b'; symbols = d'; pattern = e' })
      same a b d e = rw (a, b, d, e) refl

  pub stored-room : {l : CollectLists} {c : CollectCounts} → Stores gs l c → too_few l (counted_in gs) ≡ false
  stored-room {l} {c} s = rw (← counted s) (go
      (le-ltb (length l.segments) (c.segments * 8) (rw s.segments.number s.segments.room))
      (le-ltb (length l.references) (c.references * 6) (rw s.references.number s.references.room))
      (le-ltb (length l.symbols) (c.symbols * 3) (rw s.symbols.number s.symbols.room))
      (le-ltb (length l.bytes) (c.pattern * 1) (omega (arith, s.pattern, s.bytes.room)))
      (le-ltb (length l.masks) (c.pattern * 1) (omega (arith, s.pattern, s.even, s.masks.room))))
    where
      go : {a b d e f : Bool} → a ≡ false → b ≡ false → d ≡ false → e ≡ false → f ≡ false → (a || (b || (d || (e || f)))) ≡ false
      go a b d e f = rw (a, b, d, e, f) refl

  pub no_room : {l : CollectLists} → length (pattern_masks gs) ≡ length (pattern_bytes gs) → (Room gs l → ⊥) → too_few l (counted_in gs) ≡ true
  unfolding counted_in pattern_bytes pattern_masks
  no_room {l} even lacks = go (too_few l (counted_in gs)) refl
    where
      parts : {a b d e f : Bool} → (a || (b || (d || (e || f)))) ≡ false → (a ≡ false) × ((b ≡ false) × ((d ≡ false) × ((e ≡ false) × (f ≡ false))))
      parts {a} {b} {d} {e} {f} h = split a b d e f h
        where
          split : (a b d e f : Bool) → (a || (b || (d || (e || f)))) ≡ false → (a ≡ false) × ((b ≡ false) × ((d ≡ false) × ((e ≡ false) × (f ≡ false))))
          split true b d e f h = absurd (false≢true (sym h))
          split false true d e f h = absurd (false≢true (sym h))
          split false false true e f h = absurd (false≢true (sym h))
          split false false false true f h = absurd (false≢true (sym h))
          split false false false false f h = (refl, (refl, (refl, (refl, h))))

      go : (t : Bool) → too_few l (counted_in gs) ≡ t → t ≡ true
      go true e = refl
      go false e =
          let p : (ltb (length l.segments) (length gs * 8) ≡ false) ×
          ((ltb (length l.references) (total (λ g. length g.references) gs * 6) ≡ false) ×
          ((ltb (length l.symbols) (total (λ g. length g.symbols) gs * 3) ≡ false) ×
          ((ltb (length l.bytes) (total (λ g. length g.bytes) gs * 1) ≡ false) × (ltb (length l.masks) (total (λ g. length g.bytes) gs * 1) ≡ false)))) = parts e in
          absurd (lacks (record {
            segments = ltb-false (length l.segments) (length gs * 8) p.0;
            references = omega (arith, ltb-false (length l.references) (total (λ g. length g.references) gs * 6) p.1.0, joined_length (λ (g : Collected). g.references) gs);
            symbols = omega (arith, ltb-false (length l.symbols) (total (λ g. length g.symbols) gs * 3) p.1.1.0, joined_length (λ (g : Collected). g.symbols) gs);
            bytes = omega (arith, ltb-false (length l.bytes) (total (λ g. length g.bytes) gs * 1) p.1.1.1.0, joined_length (λ (g : Collected). g.bytes) gs);
            masks = omega (arith, ltb-false (length l.masks) (total (λ g. length g.bytes) gs * 1) p.1.1.1.1, joined_length (λ (g : Collected). g.bytes) gs, even);
          }))
