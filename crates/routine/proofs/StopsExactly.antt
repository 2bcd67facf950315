-- Why a walk stops before a place, in words: each reason exactly in its case; and that no walk shows more than 256
-- instructions. Assumes nothing.
use Rattle.std.specs.Prelude.{ℕ, zero, suc, ◌+◌, ◌≤◌, ◌<◌, refl, ◌⊎◌, ◌↔◌, Bool, true, false, List, Result, Ok, Err, eqb, length, if◌then◌else◌}
use Rattle.std.proofs.Math.Path.{◌≡◌, ap, subst}
use Rattle.std.proofs.Common.{sym, ◌∙◌, inl, inr, arith, eqb-true, eq-eqb}
use Rattle.std.proofs.lemmas.Bool.{false≢true}
use Rattle.std.proofs.Math.Decide.{dec_le, dec_lt}
use Rattle.lent.specs.Lists.{one}
use Rattle.image.specs.View.{view, within, cell_at}
use Rattle.image.proofs.ViewLaws.{Inside}
use Rattle.image.specs.declared.Stretch.{Stretch}
use Rattle.image.proofs.MatchLaws.{Apart}
use Rattle.image.specs.Window.{is_apart}
use Rattle.image.proofs.WindowLaws.{is-apart}
use Rattle.image.proofs.fixup.TargetLaws.{Bytes, Touches, apart-or-touches}
use Rattle.opcodes.specs.Lengths.{length_of, is_return}
use Rattle.routine.specs.declared.Why.{Why}
use Rattle.routine.specs.declared.Why.TheVariants.{Return, Limit, Reserved, End, Withheld}
use Rattle.routine.specs.declared.step.Shown.{Shown}
use Rattle.routine.specs.Step.{step_at}
use Rattle.routine.specs.Direct.{row_by}
use Rattle.routine.proofs.StepLaws.{step-beyond, step-hidden, step-reserved, step_past, step-touches, step-shown}
use Rattle.routine.specs.Walk.{stops, before, after, walk, walked}

-- what a step says
why_in : Result Shown Why → Why
why_in (Err why) = why
why_in (Ok s) = Return

is_shown : Result Shown Why → ℕ
is_shown (Err why) = 0
is_shown (Ok s) = 1

module _ (image : List ℕ) (s : List Stretch) (bytes : Bytes image) (at : ℕ) where
  abbrev opcode : ℕ
  opcode = cell_at image at

  abbrev n : ℕ
  n = length_of opcode

  -- the opcode is seen; it is the opcode of an instruction
  abbrev Seen : Type 0
  Seen = (at < length image) × (Inside s at → ⊥)

  abbrev Known : Type 0
  Known = Seen × (opcode ≡ 0xA5 → ⊥)

  -- THE CASE OF EACH REASON: a withheld opcode is withheld, and else the end comes before withheld
  abbrev pub StopsBy : Why → Type 0
  StopsBy End = (length image ≤ at) ⊎ (Known × (length image < at + n))
  StopsBy Withheld = ((at < length image) × Inside s at) ⊎ (Known × (at + n ≤ length image) × Touches at n s)
  StopsBy Reserved = Seen × (opcode ≡ 0xA5)
  StopsBy Return = ⊥
  StopsBy Limit = ⊥

  -- an instruction that is shown: all of its bytes are in the image and seen
  abbrev pub Shows : Type 0
  Shows = Known × (at + n ≤ length image) × Apart at n s

  one_apart : (Inside s at → ⊥) → is_apart s at 1 ≡ true
  one_apart out = (is-apart s at 1).1 (λ i l m h. let here : i ≡ at = omega arith in out (rw here at h))

  -- a test that is not passed
  fails : (t : Bool) → (t ≡ true → ⊥) → t ≡ false
  fails true f = absurd (f refl)
  fails false f = refl

  pub stopped_by : (why : Why) → StopsBy why → step_at (view image s) at ≡ Err why
  stopped_by End (inl h) = step-beyond image s at h
  stopped_by End (inr c) = step_past image s at bytes c.0.0.0 (one_apart c.0.0.1) c.0.1 c.1
  stopped_by Withheld (inl c) =
      step-hidden image s at bytes c.0 (fails (is_apart s at 1) (λ e. (is-apart s at 1).0 e at (omega arith) (omega arith) c.1))
  stopped_by Withheld (inr c) =
      let t = c.2 in
      step-touches image s at bytes c.0.0.0 (one_apart c.0.0.1) c.0.1 c.1 (fails (is_apart s at n) (λ e. (is-apart s at n).0 e t.0 t.1 t.2 t.3))
  stopped_by Reserved c = step-reserved image s at bytes c.0.0 (one_apart c.0.1) c.1
  stopped_by Return c = elim c [ ]
  stopped_by Limit c = elim c [ ]

  pub shown_by : Shows → step_at (view image s) at ≡ Ok (record { row = row_by image at (at + n) opcode; next = at + n; last = is_return opcode })
  shown_by c = step-shown image s at bytes c.0.0.0 (one_apart c.0.0.1) c.0.1 c.1 ((is-apart s at n).1 c.2)

  -- one of the cases holds
  abbrev Ways : Type 0
  Ways = ((why : Why) × StopsBy why) ⊎ Shows

  ways : Ways
  ways = there (dec_lt at (length image))
    where
      touched : Known → at + n ≤ length image → Apart at n s ⊎ Touches at n s → Ways
      touched k h (inl a) = inr (k, h, a)
      touched k h (inr t) = inl (Withheld, inr (k, h, t))

      fits : Known → Dec (at + n ≤ length image) → Ways
      fits k (yes h) = touched k h (apart-or-touches at n s)
      fits k (no h) = inl (End, inr (k, omega (arith, h)))

      known : Seen → (t : Bool) → eqb opcode 0xA5 ≡ t → Ways
      known k true e = inl (Reserved, (k, eqb-true opcode 0xA5 e))
      known k false e = fits (k, λ q. false≢true (sym e ∙ eq-eqb opcode 0xA5 q)) (dec_le (at + n) (length image))

      inside : at < length image → (t : Bool) → within s at ≡ t → Ways
      inside l true e = inl (Withheld, inl (l, e))
      inside l false e = known (l, λ h. false≢true (sym e ∙ h)) (eqb opcode 0xA5) refl

      there : Dec (at < length image) → Ways
      there (yes h) = inside h (within s at) refl
      there (no h) = inl (End, inl (omega (arith, h)))

  -- EACH REASON EXACTLY IN ITS CASE
  pub stops-exactly : (why : Why) → (step_at (view image s) at ≡ Err why) ↔ StopsBy why
  unfolding why_in is_shown
  stops-exactly why = (λ e. go e ways, stopped_by why)
    where
      go : step_at (view image s) at ≡ Err why → Ways → StopsBy why
      go e (inl q) = subst StopsBy (ap why_in (sym (stopped_by q.0 q.1) ∙ e)) q.1
      go e (inr c) = let z : ◌≡◌ {A = ℕ} 1 0 = ap is_shown (sym (shown_by c) ∙ e) in absurd (omega (arith, z))

-- NO WALK SHOWS MORE THAN 256 INSTRUCTIONS
at_most : (cells : List ℕ) (k at : ℕ) → length (walk cells k at).rows ≤ k
unfolding walk
at_most cells zero at = omega arith
at_most cells (suc k) at = go (step_at cells at) (at_most cells k)
  where
    on : (s : Shown) (last : Bool) → length (walk cells k s.next).rows ≤ k → length (if last then stops (one s.row) Return else before s.row (walk cells k s.next)).rows ≤ suc k
    on s true rest = omega arith
    on s false rest = omega (arith, rest)

    go : (t : Result Shown Why) → ((next : ℕ) → length (walk cells k next).rows ≤ k) → length (after (walk cells k) t).rows ≤ suc k
    go (Err why) rest = omega arith
    go (Ok s) rest = on s s.last (rest s.next)

pub at-most-256 : (cells : List ℕ) (start : ℕ) → length (walked cells start).rows ≤ 256
at-most-256 cells start = at_most cells 256 start
