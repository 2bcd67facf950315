-- The steps of the check to a depth: a match whose answer is worked out; one reference, case by case; references one after
-- another; and whether a match is kept out. Assumes nothing.
use Rattle.std.specs.Prelude.{◌≡◌, ℕ, zero, suc, ◌<◌, ◌≤◌, Bool, true, false, not, ◌&&◌, ◌||◌, List, ◌≢◌, nat_lt, if◌then◌else◌, Ok, is_ok}
use Rattle.std.proofs.Math.Path.{refl, sym, ap}
use Rattle.std.proofs.Common.{subst, ◌∙◌, arith, lt-ltb, le-ltb}
use Rattle.std.proofs.lemmas.Bool.{false≢true}
use Rattle.std.proofs.Math.Option.{none, some}
use Rattle.std.proofs.Math.Decide.{dec_lt}
use Rattle.lent.specs.declared.part.Part.{Part}
use Rattle.lent.specs.Lists.{all}
use Rattle.image.specs.declared.fixup.Rules.{Rules}
use Rattle.image.specs.declared.fixup.Target.{Target}
use Rattle.image.specs.declared.fixup.Target.TheVariants.{At, PastEnd, Withheld}
use Rattle.segments.specs.declared.SegmentNumber.{SegmentNumber}
use Rattle.segments.specs.declared.SegmentRow.{SegmentRow}
use Rattle.segments.specs.declared.Goal.{Goal}
use Rattle.segments.specs.declared.Reference.{Reference}
use Rattle.segments.specs.Collect.{Collected}
use Rattle.segments.specs.SegmentLayouts.{reference_layout, segment_row_at}
use Rattle.segments.specs.recalled.Recall.{rows_of, recalled_by, recalled_at}
use Rattle.search_rules.specs.declared.Why.TheVariants as Why
use Rattle.search_rules.specs.Search.{Checked, failing, no_segment, segment_of, leads, holds_to, failure, failed, failed_from, failed_to}
use Rattle.search_rules.proofs.FailedLaws.{holds-exactly}
use Rattle.search_rules.proofs.DepthLaws.{holds-every-less}
use Rattle.search.specs.targets.Seats.{IsMatch}
use Rattle.search.specs.failed.Failures.{FailsBy, FirstToFail}
use Rattle.search.specs.depth.Depths.{why_to, among, HoldsSo, FailsAt, FailsAmong, Refers, Carries, FailsTo, KeepsOut}
use Rattle.search.specs.depth.StoredLaws.{segment-there, segment-lacks}
use Rattle.search.specs.Store.{Stored}

-- a segment without references holds to every depth
nothing-holds : (cells : List ℕ) (rules : Rules) (gs : List Collected) (depth at : ℕ) → holds_to cells rules gs depth no_segment at ≡ true
unfolding holds_to all
nothing-holds cells rules gs zero at = refl
nothing-holds cells rules gs (suc d) at = refl

twice : (b : Bool) → not (not b) ≡ b
twice true = refl
twice false = refl

module _ (cells : List ℕ) (rules : Rules) (store : Stored) (n : ℕ) where
  abbrev In : List ℕ → List Collected
  In symbols = among cells rules store n symbols

  -- the first that fails among the references of a segment, at the depth of its match
  pub among-to : (below depth position : ℕ) (part : Part) (q : Checked) → depth ≡ suc below
      → FailsAmong cells rules store n below position part q → FailsTo cells rules store n depth position part q
  unfolding failed_to
  among-to below depth position part q e h symbols g refers =
      h symbols
      ∙ ap (failed_from (why_to cells rules (In symbols) below position) 0) (sym refers)
      ∙ ap (λ d. failed_to cells rules (In symbols) d g position) (sym e)

  pub to_none : (depth position : ℕ) (part : Part) → depth ≡ 0 → FailsTo cells rules store n depth position part (Ok tt)
  unfolding failed_to
  to_none depth position part e symbols g refers = ap (λ d. failed_to cells rules (In symbols) d g position) (sym e)

  -- and so whether the match holds
  to-holds : (depth position : ℕ) (part : Part) (q : Checked) → FailsTo cells rules store n depth position part q
      → (symbols : List ℕ) (g : Collected) → Refers cells rules store n part g → is_ok q ≡ holds_to cells rules (In symbols) depth g position
  to-holds depth position part q h symbols g refers = ap is_ok (h symbols g refers) ∙ sym (holds-exactly cells rules (In symbols) depth g position)

  -- THE MATCH OF A SEGMENT by its number: at depth 0; without such a segment; with its row
  module _ (depth : ℕ) (number : SegmentNumber) (at : ℕ) where
    pub holds-none : depth ≡ 0 → HoldsSo cells rules store n depth number at true
    unfolding holds_to
    holds-none e symbols = sym (ap (λ d. holds_to cells rules (In symbols) d (segment_of (In symbols) number) at) e)

    pub holds-lacking : n ≤ number.0 → HoldsSo cells rules store n depth number at true
    holds-lacking l symbols =
        sym (ap (λ g. holds_to cells rules (In symbols) depth g at) (segment-lacks store.segments store.references symbols store.bytes store.masks n number l)
        ∙ nothing-holds cells rules (In symbols) depth at)

    pub holds_row : number.0 < n → (row : SegmentRow) → row ≡ segment_row_at store.segments number.0 → (below : ℕ) → depth ≡ suc below → (q : Checked)
        → FailsAmong cells rules store n below at row.references q → (ok : Bool) → ok ≡ is_ok q
        → HoldsSo cells rules store n depth number at ok
    unfolding recalled_by
    holds_row l row e below d q h ok o symbols =
        o
        ∙ to-holds depth at row.references q (among-to below depth at row.references q d h) symbols (recalled_at store.segments store.references symbols store.bytes store.masks number.0)
        (ap (λ r. rows_of reference_layout store.references r.references) (sym e))
        ∙ ap (λ g. holds_to cells rules (In symbols) depth g at) (sym (segment-there store.segments store.references symbols store.bytes store.masks n number l))

  -- the segment of a row has the row's references
  pub carries-row : (number : SegmentNumber) (row : SegmentRow) → row ≡ segment_row_at store.segments number.0 → Carries cells rules store n number row.references
  unfolding recalled_by
  carries-row number row e symbols l =
      ap (λ g. g.references) (segment-there store.segments store.references symbols store.bytes store.masks n number l) ∙ ap (λ r. rows_of reference_layout store.references r.references) (sym e)

  -- a match that is not kept out at a depth holds at every smaller one
  pub held-less : (depth position : ℕ) (part : Part) (out : Bool) → KeepsOut cells rules store n depth position part out → out ≡ false
      → (number : SegmentNumber) → Carries cells rules store n number part → number.0 < n → (below : ℕ) → below ≤ depth
      → HoldsSo cells rules store n below number position true
  held-less depth position part out h is number carries l below less symbols =
      let g = segment_of (In symbols) number in
      sym (holds-every-less cells rules (In symbols) depth below less g position
      (sym (twice (holds_to cells rules (In symbols) depth g position)) ∙ ap not (sym (h symbols g (carries symbols l)) ∙ is)))

  -- ONE REFERENCE, by its goal and target
  module _ (below k : ℕ) (goal : Goal) (target : Target) where
    abbrev Fails : Checked → Type 0
    Fails q = FailsAt cells rules store n below k goal target q

    abbrev told : List ℕ → Goal → Target → Checked
    told symbols g t = failed k (failure cells (In symbols) (λ h at. holds_to cells rules (In symbols) below h at) g t) (Ok tt)

    pub at-nowhere : ((t : ℕ) → target ≢ At t) → (q : Checked) → FailsBy cells store n k goal target q → Fails q
    at-nowhere z q h symbols = go target refl (h store.references symbols)
      where
        go : (t : Target) → target ≡ t → q ≡ failed k (failure cells (In symbols) (λ g at. true) goal target) (Ok tt) → q ≡ told symbols goal target
        go PastEnd e f = f ∙ ap (λ x. failed k (failure cells (In symbols) (λ g at. true) goal x) (Ok tt)) e ∙ sym (ap (told symbols goal) e)
        go Withheld e f = f ∙ ap (λ x. failed k (failure cells (In symbols) (λ g at. true) goal x) (Ok tt)) e ∙ sym (ap (told symbols goal) e)
        go (At t) e f = absurd (z t e)

    module _ (t : ℕ) (e : target ≡ At t) where
      by-goal : (g : Goal) → goal ≡ g → (q : Checked) → ((symbols : List ℕ) → q ≡ told symbols g (At t)) → Fails q
      by-goal g is q h symbols = h symbols ∙ sym (ap (told symbols goal) e ∙ ap (λ x. told symbols x (At t)) is)

      pub at_name : (name : Part) → goal ≡ Goal.Name name → Fails (Ok tt)
      at_name name is = by-goal (Goal.Name name) is (Ok tt) (λ symbols. refl)

      module _ (number : SegmentNumber) (is : goal ≡ Goal.Segment number) (found : Bool) (h : IsMatch cells store n number t found) where
        abbrev answer : Bool → Bool → Checked
        answer b c = failed k (if b then (if c then none else some Why.NotHeld) else some Why.NoMatch) (Ok tt)

        pub at-unmatched : not found ≡ true → Fails (failing k Why.NoMatch)
        at-unmatched f = go found refl f
          where
            go : (b : Bool) → found ≡ b → not b ≡ true → Fails (failing k Why.NoMatch)
            go true q z = absurd (false≢true z)
            go false q z = by-goal (Goal.Segment number) is (answer false true) (λ symbols.
                ap (λ b. answer b (holds_to cells rules (In symbols) below (segment_of (In symbols) number) t)) (sym q ∙ h store.references symbols))

        pub at-matched : not found ≡ false → (c : Bool) (held : Bool) → held ≡ c → HoldsSo cells rules store n below number t held → Fails (answer true c)
        at-matched f c held q so = go found refl f
          where
            go : (b : Bool) → found ≡ b → not b ≡ false → Fails (answer true c)
            go true p z = by-goal (Goal.Segment number) is (answer true c) (λ symbols.
                ap (answer true) (sym q ∙ so symbols)
                ∙ ap (λ b. answer b (holds_to cells rules (In symbols) below (segment_of (In symbols) number) t)) (sym p ∙ h store.references symbols))
            go false p z = absurd (false≢true (sym z))

  -- of a reference of a match, once its target is made
  pub at-led : (below position k : ℕ) (r : Reference) (t : Target) → t ≡ leads cells rules position r → (q : Checked) → FailsAt cells rules store n below k r.goal t q
      → (symbols : List ℕ) → q ≡ failed k (why_to cells rules (In symbols) below position r) (Ok tt)
  at-led below position k r t led q h symbols =
      h symbols ∙ ap (λ x. failed k (failure cells (In symbols) (λ g at. holds_to cells rules (In symbols) below g at) r.goal x) (Ok tt)) led

  -- WHETHER A MATCH IS KEPT OUT: not at depth 0; where a reference fails at depth 1; at depth 1 not else; and by the check to the depth
  module _ (position : ℕ) (part : Part) where
    pub kept-to : (depth : ℕ) (q : Checked) → FailsTo cells rules store n depth position part q → (out : Bool) → out ≡ not (is_ok q)
        → KeepsOut cells rules store n depth position part out
    kept-to depth q h out o symbols g refers = o ∙ ap not (to-holds depth position part q h symbols g refers)

    pub kept-none : (depth : ℕ) → depth ≡ 0 → KeepsOut cells rules store n depth position part false
    kept-none depth e = kept-to depth (Ok tt) (to_none depth position part e) false refl

    -- what is found at depth 1
    pub once-to : (q : Checked) → FirstToFail cells rules position store n part q → FailsTo cells rules store n 1 position part q
    unfolding holds_to
    once-to q h = among-to 0 1 position part q refl (λ symbols. h store.references symbols)

    pub kept-early : (depth : ℕ) → 1 ≤ depth → (q : Checked) → FirstToFail cells rules position store n part q → (out : Bool) → out ≡ not (is_ok q) → out ≡ true
        → KeepsOut cells rules store n depth position part true
    kept-early depth l q h out o is symbols g refers = go (holds_to cells rules (In symbols) depth g position) refl
      where
        fails : holds_to cells rules (In symbols) 1 g position ≡ false
        fails = sym (to-holds 1 position part q (once-to q h) symbols g refers) ∙ sym (twice (is_ok q)) ∙ ap not (sym o ∙ is)

        go : (b : Bool) → holds_to cells rules (In symbols) depth g position ≡ b → true ≡ not (holds_to cells rules (In symbols) depth g position)
        go true e = absurd (false≢true (sym fails ∙ holds-every-less cells rules (In symbols) depth 1 l g position e))
        go false e = sym (ap not e)

    pub kept-once : (depth : ℕ) → depth ≡ 1 → (q : Checked) → FirstToFail cells rules position store n part q → (out : Bool) → out ≡ not (is_ok q) → out ≡ false
        → KeepsOut cells rules store n depth position part false
    kept-once depth e q h out o is symbols g refers =
        sym is ∙ kept-to 1 q (once-to q h) out o symbols g refers ∙ ap (λ d. not (holds_to cells rules (In symbols) d g position)) (sym e)

    -- as the code decides: by the check to a depth above 1, or by what failed at depth 1
    pub kept-so : (depth : ℕ) (deep : Bool) → (1 < depth → KeepsOut cells rules store n depth position part deep) → (depth ≤ 1 → deep ≡ false)
        → (q : Checked) → FirstToFail cells rules position store n part q → (failed : Bool) → failed ≡ not (is_ok q)
        → (out : Bool) → out ≡ (deep || (nat_lt 0 depth && failed)) → KeepsOut cells rules store n depth position part out
    kept-so depth deep known flat q h failed f out o = go (dec_lt 1 depth) (dec_lt 0 depth) deep refl failed refl
      where
        Out : Bool → Type 0
        Out b = KeepsOut cells rules store n depth position part b

        -- what holds to the depth holds at depth 1, so nothing failed there
        nothing : 1 < depth → deep ≡ false → (symbols : List ℕ) (g : Collected) → Refers cells rules store n part g → failed ≡ not (holds_to cells rules (In symbols) depth g position)
        nothing l e symbols g refers =
            let none : false ≡ not (holds_to cells rules (In symbols) depth g position) = sym e ∙ known l symbols g refers in
            let all : holds_to cells rules (In symbols) depth g position ≡ true = sym (twice (holds_to cells rules (In symbols) depth g position)) ∙ ap not (sym none) in
            let low : 1 ≤ depth = omega (arith, l) in
            f
            ∙ ap not (to-holds 1 position part q (once-to q h) symbols g refers ∙ holds-every-less cells rules (In symbols) depth 1 low g position all)
            ∙ none

        go : Dec (1 < depth) → Dec (0 < depth) → (d : Bool) → deep ≡ d → (b : Bool) → failed ≡ b → Out out
        go (yes l) m true e b g = subst Out (sym (o ∙ rw e refl)) (subst Out e (known l))
        go (yes l) m false e b g = subst Out (sym (o ∙ rw (e, lt-ltb 0 depth (omega (arith, l))) refl)) (nothing l e)
        go (no l) (no m) d e b g =
            subst Out (sym (o ∙ rw (flat (omega (arith, l)), le-ltb 0 depth (omega (arith, m))) refl)) (kept-none depth (omega (arith, m)))
        go (no l) (yes m) d e true g =
            subst Out (sym (o ∙ rw (flat (omega (arith, l)), lt-ltb 0 depth m, g) refl)) (kept-early depth m q h true (sym g ∙ f) refl)
        go (no l) (yes m) d e false g =
            subst Out (sym (o ∙ rw (flat (omega (arith, l)), lt-ltb 0 depth m, g) refl)) (kept-once depth (omega (arith, l, m)) q h false (sym g ∙ f) refl)
