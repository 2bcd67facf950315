-- Each refusal exactly in its case and order, and what it leaves in the lent rows. Assumes nothing.
use Rattle.std.specs.Prelude.{ℕ, ◌*◌, ◌≤◌, ◌<◌, refl, ◌⊎◌, ◌↔◌, Bool, true, false, Result, Ok, Err, eqb, length, if◌then◌else◌}
use Rattle.std.proofs.Math.Path.{◌≡◌, sym, ap, subst}
use Rattle.std.proofs.Common.{◌∙◌, inl, inr, arith}
use mathlib.Core.List.{List}
use Rattle.std.proofs.Math.Decide.{dec_le, dec_lt}
use Rattle.lent.specs.Lists.{joined}
use Rattle.lent.specs.Rows.{zeros, padded}
use Rattle.image.specs.View.{view}
use Rattle.image.specs.Cover.{cover_of, passes_end}
use Rattle.image.proofs.CoverLaws.{SomePasses, AllFit, some-passes, all_fit}
use Rattle.image.specs.declared.cover.Stretches.{Stretches}
use Rattle.routine.specs.declared.Walked.{Walked}
use Rattle.routine.specs.declared.WalkRefusal.{WalkRefusal}
use Rattle.routine.specs.declared.WalkRefusal.TheVariants.{ImageTooLong, TooManyStretches, StretchPastEnd, StartPastEnd, NoRoom}
use Rattle.routine.specs.Walk.{Steps, walked}
use Rattle.routine.specs.Outcome.{walk_number, numbers_in, outcome}
use Rattle.routine.proofs.WalkLaws.{laid-fits, laid-over}
use Rattle.routine.proofs.OutcomeLaws.{too_long, too_many, stretch-past, start-past, is-walked}

-- 9 sets all that was lent to zero, every other refusal leaves it as it was
abbrev pub left_by : WalkRefusal → List ℕ → List ℕ
left_by NoRoom lent = zeros (length lent)
left_by ImageTooLong lent = lent
left_by TooManyStretches lent = lent
left_by StretchPastEnd lent = lent
left_by StartPastEnd lent = lent

-- a refusal is known by its number
abbrev of_number : ℕ → WalkRefusal
of_number n =
    if eqb n 2 then ImageTooLong
    else if eqb n 16 then TooManyStretches
    else if eqb n 4 then StretchPastEnd
    else if eqb n 19 then StartPastEnd
    else NoRoom

number-back : (r : WalkRefusal) → of_number (walk_number r) ≡ r
number-back ImageTooLong = refl
number-back TooManyStretches = refl
number-back StretchPastEnd = refl
number-back StartPastEnd = refl
number-back NoRoom = refl

pub number-tells : (a b : WalkRefusal) → walk_number a ≡ walk_number b → a ≡ b
number-tells a b e = sym (number-back a) ∙ ap of_number e ∙ number-back b

-- the refusal in an answer, if there is one
refusal_in : Result Walked WalkRefusal → WalkRefusal
refusal_in (Err r) = r
refusal_in (Ok walk) = NoRoom

is_done : Result Walked WalkRefusal → ℕ
is_done (Err r) = 0
is_done (Ok walk) = 1

module _ (image : List ℕ) (w : Stretches) (start : ℕ) (lent : List ℕ) where
  abbrev steps : Steps
  steps = walked (view image (cover_of w)) start

  -- none of 2, 16 and 4; and none of 19
  abbrev Fits : Type 0
  Fits = (length image ≤ 65536) × (w.count ≤ 16) × AllFit (length image) (cover_of w)

  abbrev pub Starts : Type 0
  Starts = Fits × (start < length image)

  -- THE CASE OF EACH REFUSAL
  abbrev pub Case : WalkRefusal → Type 0
  Case ImageTooLong = 65536 < length image
  Case TooManyStretches = (length image ≤ 65536) × (16 < w.count)
  Case StretchPastEnd = (length image ≤ 65536) × (w.count ≤ 16) × SomePasses (length image) (cover_of w)
  Case StartPastEnd = Fits × (length image ≤ start)
  Case NoRoom = Starts × (length lent < length steps.rows * 3)

  fit : Fits → passes_end (length image) (cover_of w) ≡ false
  fit f = (all_fit (length image) (cover_of w)).1 f.2

  pub refused-by : (r : WalkRefusal) → Case r → ◌≡◌ {A = Result Walked WalkRefusal × List ℕ} (Err r, left_by r lent) (outcome image w start lent)
  refused-by ImageTooLong c = too_long image w start lent c
  refused-by TooManyStretches c = too_many image w start lent c.0 c.1
  refused-by StretchPastEnd c = stretch-past image w start lent c.0 c.1 ((some-passes (length image) (cover_of w)).1 c.2)
  refused-by StartPastEnd c = start-past image w start lent c.0.0 c.0.1 (fit c.0) c.1
  refused-by NoRoom c =
      let f = c.0.0 in
      sym (laid-over steps (length lent) c.1) ∙ is-walked image w start lent f.0 f.1 (fit f) c.0.1

  -- ROWS THAT ARE ENOUGH: the steps shown are the instructions of the walk as defined, and zeros stand behind them
  pub shows : Starts → length steps.rows * 3 ≤ length lent
      → ◌≡◌ {A = Result Walked WalkRefusal × List ℕ} (Ok (record { steps = length steps.rows; why = steps.why }), padded (length lent) (joined numbers_in steps.rows)) (outcome image w start lent)
  shows s h = let f = s.0 in sym (laid-fits steps (length lent) h) ∙ is-walked image w start lent f.0 f.1 (fit f) s.1

  -- one of the cases holds, or it is done
  abbrev Ways : Type 0
  Ways = ((r : WalkRefusal) × Case r) ⊎ (Starts × (length steps.rows * 3 ≤ length lent))

  ways : Ways
  ways = image-long (dec_le (length image) 65536)
    where
      room : Starts → Dec (length steps.rows * 3 ≤ length lent) → Ways
      room s (yes h) = inr (s, h)
      room s (no h) = inl (NoRoom, (s, omega (arith, h)))

      below : Fits → Dec (start < length image) → Ways
      below f (yes h) = room (f, h) (dec_le (length steps.rows * 3) (length lent))
      below f (no h) = inl (StartPastEnd, (f, omega (arith, h)))

      stretches : length image ≤ 65536 → w.count ≤ 16 → (t : Bool) → passes_end (length image) (cover_of w) ≡ t → Ways
      stretches l f true e = inl (StretchPastEnd, (l, f, (some-passes (length image) (cover_of w)).0 e))
      stretches l f false e = below (l, f, (all_fit (length image) (cover_of w)).0 e) (dec_lt start (length image))

      count-few : length image ≤ 65536 → Dec (w.count ≤ 16) → Ways
      count-few l (yes h) = stretches l h (passes_end (length image) (cover_of w)) refl
      count-few l (no h) = inl (TooManyStretches, (l, omega (arith, h)))

      image-long : Dec (length image ≤ 65536) → Ways
      image-long (yes h) = count-few h (dec_le w.count 16)
      image-long (no h) = inl (ImageTooLong, omega (arith, h))

  -- EACH REFUSAL EXACTLY IN ITS CASE
  pub exactly : (r : WalkRefusal) → ((outcome image w start lent).0 ≡ Err r) ↔ Case r
  unfolding refusal_in is_done
  exactly r = (λ e. go e ways, λ c. sym (ap (λ (o : Result Walked WalkRefusal × List ℕ). o.0) (refused-by r c)))
    where
      go : (outcome image w start lent).0 ≡ Err r → Ways → Case r
      go e (inl q) = subst Case (ap refusal_in (ap (λ (o : Result Walked WalkRefusal × List ℕ). o.0) (refused-by q.0 q.1) ∙ e)) q.1
      go e (inr s) =
          let z : ◌≡◌ {A = ℕ} 1 0 = ap is_done (ap (λ (o : Result Walked WalkRefusal × List ℕ). o.0) (shows s.0 s.1) ∙ e) in
          absurd (omega (arith, z))

  -- 9 SETS THE ROWS TO ZERO, THE OTHERS WRITE NOTHING
  pub leaves : (r : WalkRefusal) → (outcome image w start lent).0 ≡ Err r → (outcome image w start lent).1 ≡ left_by r lent
  leaves r e = sym (ap (λ (o : Result Walked WalkRefusal × List ℕ). o.1) (refused-by r ((exactly r).0 e)))
