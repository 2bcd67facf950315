-- What the beginning of a run says of the whole run. Assumes nothing.
use Rattle.std.specs.Prelude.{Result, Ok, Err, ℕ, zero, suc, ◌<◌, ◌≤◌, ◌⊎◌, Bool, true, false, ◌||◌, List, [], ◌∷◌, ltb}
use Rattle.std.proofs.Math.Path.{◌≡◌, refl, ap}
use Rattle.std.proofs.Common.{sym, ◌∙◌, inl, inr, arith}
use Rattle.std.proofs.lemmas.Bool.{false≢true}
use Rattle.std.proofs.Math.Option.{Option, none, some}
use Rattle.std.proofs.Math.Decide.{dec_lt}
use borrow.Author.Tests.{ltb-false, lt-ltb, le-ltb}
use Rattle.std.proofs.Math.ListN.{length}
use Rattle.lent.specs.declared.refusal.Refusal.{Refusal}
use Rattle.lent.specs.declared.refusal.Refusal.TheVariants.{RuleSet, OtherEdition, TooDeep, LibraryTooLong, TooManyStretches, StretchPastEnd}
use Rattle.lent.specs.Choice.{when, or_else, leading}
use Rattle.lent.specs.FirstOf.{none≢some}
use Rattle.image.specs.Cover.{passes_end}
use Rattle.image.proofs.CoverLaws.{all_fit}
use Rattle.omf51.specs.Reader.{ReadOutcome, read, stop, refused}
use Rattle.omf51.specs.Module.{Module}
use Rattle.omf51.specs.Record.{edition_of}
use Rattle.omf51.specs.File.{file_refusal}
use Rattle.library.specs.declared.Reading.{Reading}
use Rattle.library.specs.Reading.{first_at, reading_of, reading}
use Rattle.library.specs.StandLaws.{modules-stand, reading-refused}
use Rattle.run.specs.declared.Settings.{Settings}
use Rattle.run.specs.Run.{library_read, other_edition, cover}
use Rattle.run.specs.Given.{NoEdition, AcceptedBy}
use Rattle.libfind.specs.Begin.{settings_refusal, checked, refusal_in, begins_at, beginning, Begun}

-- what the code says of an image for itself
pub own_is : (o : Option Refusal) {c : Result Unit Refusal} → c ≡ checked o → refusal_in c ≡ o
own_is none e = rw e refl
own_is (some r) e = rw e refl

-- 1, 30, 17, the image's own, 3, 16 and 4, one after another
module _ (own : Option Refusal) (size library : ℕ) (s : Settings) where
  pub refused-1 : 1 < s.rules → Err RuleSet ≡ checked (settings_refusal own size library s)
  unfolding settings_refusal leading
  refused-1 h = rw (lt-ltb 1 s.rules h) refl

  module _ (a : s.rules ≤ 1) where
    pub refused-30 : other_edition s.edition ≡ true → Err OtherEdition ≡ checked (settings_refusal own size library s)
    unfolding settings_refusal leading
    refused-30 h = rw (le-ltb 1 s.rules a, h) refl

    module _ (e : other_edition s.edition ≡ false) where
      pub refused-17 : 4 < s.depth → Err TooDeep ≡ checked (settings_refusal own size library s)
      unfolding settings_refusal leading
      refused-17 h = rw (le-ltb 1 s.rules a, e, lt-ltb 4 s.depth h) refl

      module _ (f : s.depth ≤ 4) where
        pub refused-own : {r : Refusal} → own ≡ some r → Err r ≡ checked (settings_refusal own size library s)
        unfolding settings_refusal leading
        refused-own h = rw (le-ltb 1 s.rules a, e, le-ltb 4 s.depth f, h) refl

        module _ (b : own ≡ none) where
          pub refused-3 : 1048576 < library → Err LibraryTooLong ≡ checked (settings_refusal own size library s)
          unfolding settings_refusal leading
          refused-3 h = rw (le-ltb 1 s.rules a, e, le-ltb 4 s.depth f, b, lt-ltb 1048576 library h) refl

          module _ (c : library ≤ 1048576) where
            pub refused-16 : 16 < s.withheld.count → Err TooManyStretches ≡ checked (settings_refusal own size library s)
            unfolding settings_refusal leading
            refused-16 h = rw (le-ltb 1 s.rules a, e, le-ltb 4 s.depth f, b, le-ltb 1048576 library c, lt-ltb 16 s.withheld.count h) refl

            module _ (d : s.withheld.count ≤ 16) where
              pub refused-4 : passes_end size (cover s) ≡ true → Err StretchPastEnd ≡ checked (settings_refusal own size library s)
              unfolding settings_refusal leading
              refused-4 h = rw (le-ltb 1 s.rules a, e, le-ltb 4 s.depth f, b, le-ltb 1048576 library c, le-ltb 16 s.withheld.count d, h) refl

              pub is-accepted : passes_end size (cover s) ≡ false → Ok tt ≡ checked (settings_refusal own size library s)
              unfolding settings_refusal leading
              is-accepted h = rw (le-ltb 1 s.rules a, e, le-ltb 4 s.depth f, b, le-ltb 1048576 library c, le-ltb 16 s.withheld.count d, h) refl

none_of : (a e g : Bool) (b : Option Refusal) (c f d : Bool)
    → leading (when a RuleSet ∷ when e OtherEdition ∷ when g TooDeep ∷ b ∷ when c LibraryTooLong ∷ when f TooManyStretches ∷ when d StretchPastEnd ∷ []) ≡ none
    → (a ≡ false) × (e ≡ false) × (g ≡ false) × (b ≡ none) × (c ≡ false) × (f ≡ false) × (d ≡ false)
unfolding leading
none_of false false false none false false false q = (refl, refl, refl, refl, refl, refl, refl)
none_of false false false none false false true q = absurd (none≢some (sym q))
none_of false false false none false true d q = absurd (none≢some (sym q))
none_of false false false none true f d q = absurd (none≢some (sym q))
none_of false false false (some r) c f d q = absurd (none≢some (sym q))
none_of false false true b c f d q = absurd (none≢some (sym q))
none_of false true g b c f d q = absurd (none≢some (sym q))
none_of true e g b c f d q = absurd (none≢some (sym q))

-- a number that passes the test is 1 or 2
neither : (a b : Bool) → (a || b) ≡ false → (a ≡ false) × (b ≡ false)
neither false false e = (refl, refl)
neither false true e = absurd (false≢true (sym e))
neither true b e = absurd (false≢true (sym e))

is-edition : (n : ℕ) → other_edition n ≡ false → NoEdition n → ⊥
is-edition n e (inl l) = let z = neither (ltb n 1) (ltb 2 n) e in omega (arith, l, ltb-false n 1 z.0)
is-edition n e (inr l) = let z = neither (ltb n 1) (ltb 2 n) e in omega (arith, l, ltb-false 2 n z.1)

-- from the two tests of the code
pub other-edition : (n : ℕ) → (n < 1) ⊎ (1 ≤ n × 2 < n) → other_edition n ≡ true
other-edition n (inl l) = rw (lt-ltb n 1 l) refl
other-edition n (inr p) = rw (le-ltb n 1 p.0, lt-ltb 2 n p.1) refl

pub edition-known : (n : ℕ) → 1 ≤ n → n ≤ 2 → other_edition n ≡ false
edition-known n a b = rw (le-ltb n 1 a, le-ltb 2 n b) refl

pub known-edition : (n : ℕ) → (NoEdition n → ⊥) → other_edition n ≡ false
known-edition n h = edition-known n (below n h) (above n h)
  where
    below : (n : ℕ) → (NoEdition n → ⊥) → 1 ≤ n
    below zero h = absurd (h (inl (omega arith)))
    below (suc n) h = omega arith

    above : (n : ℕ) → (NoEdition n → ⊥) → n ≤ 2
    above n h = go (dec_lt 2 n)
      where
        go : Dec (2 < n) → n ≤ 2
        go (yes l) = absurd (h (inr l))
        go (no l) = omega arith

module _ (own : Option Refusal) (size : ℕ) (library : List ℕ) (s : Settings) where
  abbrev settings : Option Refusal
  settings = settings_refusal own size (length library) s

  accepted : settings ≡ none → AcceptedBy (own ≡ none) size library s
  unfolding settings_refusal
  accepted e =
      let n = none_of _ _ _ _ _ _ _ e in
      record {
        rule-set = ltb-false 1 s.rules n.0;
        edition = is-edition s.edition n.1;
        shallow = ltb-false 4 s.depth n.2;
        image-fits = n.3;
        library-fits = ltb-false 1048576 (length library) n.4;
        few = ltb-false 16 s.withheld.count n.5;
        stretches-fit = (all_fit size (cover s)).0 n.6;
      }

  fine : (o : Option Refusal) → Ok tt ≡ checked o → o ≡ none
  fine none e = refl
  fine (some r) e = let z : ◌≡◌ {A = ℕ} 0 1 = cc in absurd (omega arith)

  by-check : (o : Option Refusal) {r : Refusal} → Err r ≡ checked o → o ≡ some r
  by-check none e = let z : ◌≡◌ {A = ℕ} 0 1 = cc in absurd (omega arith)
  by-check (some q) e = cc

  pub begin-refused : {r : Refusal} → Err r ≡ checked settings → Err r ≡ beginning own size library s
  unfolding beginning
  begin-refused e = rw (by-check settings e) refl

  module _ (ok : Ok tt ≡ checked settings) where
    pub begin-unread : {r : Refusal} → Err r ≡ reading (edition_of s.edition) library → Err r ≡ beginning own size library s
    unfolding beginning
    begin-unread e = rw (fine settings ok, reading-refused (edition_of s.edition) library (sym e)) refl

    pub begin-at : {r : Reading} → Ok r ≡ reading (edition_of s.edition) library → Ok r.first ≡ beginning own size library s
    unfolding beginning reading
    begin-at {r} e = rw (fine settings ok, (modules-stand (edition_of s.edition) library (sym e)).unrefused) (go (library_read library s) e)
      where
        go : (o : ReadOutcome (List Module)) → Ok r ≡ reading_of (first_at library) o → ◌≡◌ {A = Result ℕ Refusal} (Ok r.first) (Ok (first_at library))
        go (read modules next) q = cc
        go stop q = let z : ◌≡◌ {A = ℕ} 0 1 = cc in absurd (omega arith)
        go (refused r) q = let z : ◌≡◌ {A = ℕ} 0 1 = cc in absurd (omega arith)

  -- and what it says of the run
  two : (a b : Option Refusal) {first first' : ℕ} → Ok first ≡ begins_at first' (or_else a b) → (a ≡ none) × (b ≡ none) × (first ≡ first')
  two none none e = (refl, refl, cc)
  two none (some r) e = let z : ◌≡◌ {A = ℕ} 0 1 = cc in absurd (omega arith)
  two (some r) b e = let z : ◌≡◌ {A = ℕ} 0 1 = cc in absurd (omega arith)

  pub begun : {first : ℕ} → Ok first ≡ beginning own size library s → Begun own size library s first
  unfolding beginning reading
  begun {first} e = let p = two settings (file_refusal (library_read library s)) e in go (library_read library s) refl p
    where
      go : (o : ReadOutcome (List Module)) → library_read library s ≡ o → (settings ≡ none) × (file_refusal (library_read library s) ≡ none) × (first ≡ first_at library) → Begun own size library s first
      go (read modules next) q p = record {
        accepted = accepted p.0;
        is_read = p.1;
        there = (modules-stand (edition_of s.edition) library {r = record { first = first; count = length modules }} (ap (reading_of (first_at library)) q ∙ ap (λ at. Ok (record { first = at; count = length modules })) (sym p.2))).there;
      }
      go stop q p = absurd (none≢some (sym (sym (ap file_refusal q) ∙ p.1)))
      go (refused r) q p = absurd (none≢some (sym (sym (ap file_refusal q) ∙ p.1)))

  pub never-begun : {r : Refusal} → Err r ≡ beginning own size library s → or_else settings (file_refusal (library_read library s)) ≡ some r
  unfolding beginning
  never-begun {r} e = go (or_else settings (file_refusal (library_read library s))) e
    where
      go : (o : Option Refusal) → Err r ≡ begins_at (first_at library) o → o ≡ some r
      go none q = let z : ◌≡◌ {A = ℕ} 0 1 = cc in absurd (omega arith)
      go (some q) p = cc
