-- When a reference has a target, and why not. Assumes nothing.
use Rattle.std.specs.Prelude.{◌≡◌, ℕ, zero, suc, ◌+◌, ◌-◌, ◌%◌, ◌<◌, ◌≤◌, Bool, true, false, not, ◌&&◌, ◌⊎◌, ◌↔◌, List, length, if◌then◌else◌}
use Rattle.std.proofs.Math.Path.{refl, sym}
use Rattle.std.proofs.Common.{ap, ◌∙◌, inl, inr, arith, ltb-true, lt-ltb, le-ltb}
use Rattle.std.proofs.lemmas.Bool.{false≢true, not-false}
use Rattle.std.proofs.Math.Option.{none}
use Rattle.std.proofs.Math.Decide.{dec_le}
use Rattle.lent.specs.ChoiceLaws.{same_test}
use Rattle.lent.specs.FirstOf.{none≢some}
use Rattle.lent.specs.Lists.{all, from}
use Rattle.lent.specs.ListLaws.{every, if-every}
use Rattle.image.specs.declared.Stretch.{Stretch}
use Rattle.image.specs.View.{within, view, cell_at, is_byte}
use Rattle.image.proofs.ViewLaws.{Inside, Agree, same_view, view-length, view-inside, view-outside}
use Rattle.image.proofs.MatchLaws.{Apart}
use Rattle.image.specs.Window.{is_apart}
use Rattle.image.proofs.WindowLaws.{is-apart}
use Rattle.image.specs.declared.fixup.Rules.{Rules}
use Rattle.image.specs.declared.fixup.Rules.TheVariants.{AsFound, Documented}
use Rattle.image.specs.declared.fixup.Kind.{Kind}
use Rattle.image.specs.declared.fixup.Target.{Target}
use Rattle.image.specs.declared.fixup.Target.TheVariants.{At, PastEnd, Withheld}
use Rattle.image.specs.fixup.Target.{rules_of, minus, leads_to, counted, reads, passes, shown, address_in, target}

-- rule set 0 is as found, 1 as documented
pub rules-0 : rules_of 0 ≡ AsFound
rules-0 = refl

pub rules-1 : rules_of 1 ≡ Documented
rules-1 = refl

-- bytes that pass the image's end are past it, whatever is withheld
pub target_past : (image : List ℕ) (s : List Stretch) (rules : Rules) (pos : ℕ) (kind : Kind) (offset : ℕ) → length image < pos + reads kind
    → target (view image s) rules pos kind offset ≡ PastEnd
unfolding target
target_past image s rules pos kind offset h = rw (lt-ltb (length (view image s)) (pos + reads kind) (omega (arith, h, view-length image s)))

-- as documented the program counter has 16 bits: no target is above FFFFh
pub target-within : (cells : List ℕ) (pos : ℕ) (kind : Kind) (offset t : ℕ) → target cells Documented pos kind offset ≡ At t → t < 65536
unfolding target
target-within cells pos kind offset t e = go (passes cells pos (reads kind)) (shown cells pos (reads kind)) e
  where
    led : ℕ
    led = minus (leads_to Documented pos kind (cell_at cells pos) (cell_at cells (pos + 1))) offset

    address : Target → ℕ
    address (At x) = x
    address PastEnd = 0
    address Withheld = 0

    go : (a b : Bool) → (if a then PastEnd else if b then At (led % 65536) else Withheld) ≡ At t → t < 65536
    go true b h = let same : 0 ≡ t = ap address h in omega (arith, same)
    go false true h = let same : led % 65536 ≡ t = ap address h in omega (arith, same)
    go false false h = let same : 0 ≡ t = ap address h in omega (arith, same)

-- an image of bytes
abbrev pub Bytes : List ℕ → Type 0
Bytes image = (i : ℕ) → cell_at image i < 256

-- of n bytes that do not pass the image's end none is withheld exactly if they share none with the cover
pub shown-seen : (image : List ℕ) (s : List Stretch) → Bytes image → (pos n : ℕ) → pos + n ≤ length image
    → (shown (view image s) pos n ≡ true) ↔ Apart pos n s
unfolding shown
shown-seen image s bytes pos n fit =
    let cells = view image s in
    let p : ℕ → Bool = λ i. is_byte (cell_at cells (pos + i)) in (
      (λ e i a b h.
          let k : pos + (i - pos) ≡ i = omega arith in
          let byte : cell_at cells i < 256 = rw k at (ltb-true (cell_at cells (pos + (i - pos))) 256 (every p 0 n e (i - pos) (omega arith) (omega arith))) in
          omega (arith, byte, view-inside image s i (omega (arith, fit)) h)),
      (λ h. if-every p 0 n (λ k a b. lt-ltb (cell_at cells (pos + k)) 256
          (rw (view-outside image s (pos + k) (h (pos + k) (omega arith) (omega arith))) (bytes (pos + k))))),
    )

pub shown-window : (image : List ℕ) (s : List Stretch) → Bytes image → (pos n : ℕ) → pos + n ≤ length image → shown (view image s) pos n ≡ is_apart s pos n
shown-window image s bytes pos n fit =
    same_test (shown (view image s) pos n) (is_apart s pos n)
    (λ e. (is-apart s pos n).1 ((shown-seen image s bytes pos n fit).0 e)) (λ e. (shown-seen image s bytes pos n fit).1 ((is-apart s pos n).0 e))

-- one of the n bytes from `at` on is withheld
abbrev pub Touches : ℕ → ℕ → List Stretch → Type 0
Touches at n s = (i : ℕ) × (at ≤ i) × (i < at + n) × Inside s i

-- a test that some number of a run does not pass
not-every : (p : ℕ → Bool) (a n : ℕ) → all p (from a n) ≡ false → (i : ℕ) × (a ≤ i) × (i < a + n) × (p i ≡ false)
unfolding all from
not-every p a zero e = absurd (false≢true (sym e))
not-every p a (suc n) e = go (p a) refl e (not-every p (a + 1) n)
  where
    go : (t : Bool) → p a ≡ t → (t && all p (from (a + 1) n)) ≡ false → (all p (from (a + 1) n) ≡ false → (i : ℕ) × (a + 1 ≤ i) × (i < a + 1 + n) × (p i ≡ false))
        → (i : ℕ) × (a ≤ i) × (i < a + suc n) × (p i ≡ false)
    go true q f rest = let r = rest f in (r.0, omega (arith, r.1), omega (arith, r.2), r.3)
    go false q f rest = (a, omega arith, omega arith, q)

pub apart-or-touches : (at n : ℕ) (s : List Stretch) → Apart at n s ⊎ Touches at n s
unfolding is_apart
apart-or-touches at n s = go (is_apart s at n) refl
  where
    go : (t : Bool) → is_apart s at n ≡ t → Apart at n s ⊎ Touches at n s
    go true e = inl ((is-apart s at n).0 e)
    go false e = let r = not-every (λ i. not (within s i)) at n e in inr (r.0, r.1, r.2, not-false (within s r.0) r.3)

-- the answers for bytes that do not pass the image's end, by the window; and all three, exactly
module _ (image : List ℕ) (s : List Stretch) (bytes : Bytes image) (rules : Rules) (pos : ℕ) (kind : Kind) (offset : ℕ) where
  abbrev cells : List ℕ
  cells = view image s

  abbrev n : ℕ
  n = reads kind

  abbrev led : ℕ
  led = counted rules (minus (leads_to rules pos kind (cell_at cells pos) (cell_at cells (pos + 1))) offset)

  by-window : pos + n ≤ length image → (t : Bool) → is_apart s pos n ≡ t → target cells rules pos kind offset ≡ (if t then At led else Withheld)
  unfolding target
  by-window h t e = rw (le-ltb (length cells) (pos + n) (omega (arith, h, view-length image s)), shown-window image s bytes pos n h ∙ e)

  pub target-withheld : pos + n ≤ length image → is_apart s pos n ≡ false → target cells rules pos kind offset ≡ Withheld
  target-withheld h e = by-window h false e

  pub target-shown : pos + n ≤ length image → is_apart s pos n ≡ true → target cells rules pos kind offset ≡ At led
  target-shown h e = by-window h true e

  -- the three words tell which it is
  word : Target → ℕ
  word (At t) = 0
  word PastEnd = 1
  word Withheld = 2

  apart : Apart pos n s → is_apart s pos n ≡ true
  apart h = (is-apart s pos n).1 h

  touching : Touches pos n s → is_apart s pos n ≡ false
  touching t = go (is_apart s pos n) refl
    where
      go : (b : Bool) → is_apart s pos n ≡ b → b ≡ false
      go true e = absurd ((is-apart s pos n).0 e t.0 t.1 t.2 t.3)
      go false e = refl

  beyond : length image < pos + n → target cells rules pos kind offset ≡ PastEnd
  beyond h = target_past image s rules pos kind offset h

  -- PAST exactly if the bytes pass the image's end
  pub past-exactly : (target cells rules pos kind offset ≡ PastEnd) ↔ (length image < pos + n)
  unfolding word
  past-exactly = (λ e. go (dec_le (pos + n) (length image)) (is_apart s pos n) refl (ap word e), beyond)
    where
      go : Dec (pos + n ≤ length image) → (t : Bool) → is_apart s pos n ≡ t → word (target cells rules pos kind offset) ≡ 1 → length image < pos + n
      go (no h) t p e = omega (arith, h)
      go (yes h) true p e = let z : ◌≡◌ {A = ℕ} 0 1 = sym (ap word (target-shown h p)) ∙ e in absurd (omega arith)
      go (yes h) false p e = let z : ◌≡◌ {A = ℕ} 2 1 = sym (ap word (target-withheld h p)) ∙ e in absurd (omega arith)

  -- WITHHELD exactly if they do not, and one of them is withheld
  pub withheld-exactly : (target cells rules pos kind offset ≡ Withheld) ↔ ((pos + n ≤ length image) × Touches pos n s)
  unfolding word
  withheld-exactly = (λ e. go (dec_le (pos + n) (length image)) (apart-or-touches pos n s) (ap word e), λ h. target-withheld h.0 (touching h.1))
    where
      go : Dec (pos + n ≤ length image) → Apart pos n s ⊎ Touches pos n s → word (target cells rules pos kind offset) ≡ 2 → (pos + n ≤ length image) × Touches pos n s
      go (no h) t e = let z : ◌≡◌ {A = ℕ} 1 2 = sym (ap word (beyond (omega (arith, h)))) ∙ e in absurd (omega arith)
      go (yes h) (inl p) e = let z : ◌≡◌ {A = ℕ} 0 2 = sym (ap word (target-shown h (apart p))) ∙ e in absurd (omega arith)
      go (yes h) (inr t) e = (h, t)

  -- so a reference has no target exactly if its bytes pass the image's end or touch the cover
  pub no_target : (address_in (target cells rules pos kind offset) ≡ none) ↔ ((length image < pos + n) ⊎ Touches pos n s)
  no_target = (λ e. there (dec_le (pos + n) (length image)) (apart-or-touches pos n s) e, λ h. back (dec_le (pos + n) (length image)) h)
    where
      there : Dec (pos + n ≤ length image) → Apart pos n s ⊎ Touches pos n s → address_in (target cells rules pos kind offset) ≡ none → (length image < pos + n) ⊎ Touches pos n s
      there (no h) t e = inl (omega (arith, h))
      there (yes h) (inr t) e = inr t
      there (yes h) (inl p) e = absurd (none≢some (sym e ∙ ap address_in (target-shown h (apart p))))

      back : Dec (pos + n ≤ length image) → (length image < pos + n) ⊎ Touches pos n s → address_in (target cells rules pos kind offset) ≡ none
      back (no h) q = ap address_in (beyond (omega (arith, h)))
      back (yes h) (inl l) = absurd (omega (arith, h, l))
      back (yes h) (inr t) = ap address_in (target-withheld h (touching t))

-- THE COVER: images of one length that agree outside it give one answer, whichever of the three it is
pub target-alone : (a b : List ℕ) (s : List Stretch) → Agree a b s → (rules : Rules) (pos : ℕ) (kind : Kind) (offset : ℕ)
    → target (view a s) rules pos kind offset ≡ target (view b s) rules pos kind offset
target-alone a b s h rules pos kind offset = ap (λ cells. target cells rules pos kind offset) (same_view a b s h)
