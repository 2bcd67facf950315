-- When each of refusals 10 to 13 is given, in document 01's words. Assumes nothing.
use Rattle.std.specs.Prelude.{◌+◌, ◌≤◌, ◌<◌, ◌≡◌, refl, ◌↔◌, Bool, true, false, not, ◌&&◌, List, eqb, ltb}
use Rattle.std.proofs.Common.{sym, ap, ◌∙◌, arith, ltb-true, ltb-false, lt-ltb, eqb-true, eq-eqb}
use Rattle.std.proofs.Math.Logic.Iff
use Rattle.std.proofs.lemmas.Bool.{false≢true, eqb-false, not-true}
use Rattle.std.proofs.Math.Option.{Option, none, some}
use Rattle.lent.specs.declared.refusal.Refusal.{Refusal}
use Rattle.lent.specs.declared.refusal.Refusal.TheVariants.{UnknownKind, UnknownBlock, ContentPastSegment, NoKeptSegment}
use Rattle.lent.specs.Choice.{when}
use Rattle.lent.specs.ChoiceLaws.{chosen, both}
use Rattle.lent.specs.FirstOf.{none≢some, First, leading_at}
use Rattle.lent.specs.Refusals.{refusal_number}
use Rattle.lent.specs.RefusalLaws.{same_number}
use Rattle.omf51.specs.declared.Content.{Content}
use Rattle.omf51.specs.declared.Definition.{Definition}
use Rattle.omf51.specs.declared.Fixup.{Fixup}
use Rattle.omf51.specs.Module.{Module}
use Rattle.segments.specs.Ids.{any_kept, first_kept, named, is_code, size_of}
use Rattle.segments.specs.Refuse.{leads_nowhere, fixup_refusal, passes, content_refusal, Test, of_fixup, of_content, test_refusal, tests, collect_refusal}

-- 10: a fixup kind above 7, block not 3
abbrev pub KindAbove : Test → Type 0
KindAbove (of_fixup m f) = (7 < f.kind) × (f.block ≡ 3 → ⊥)
KindAbove (of_content m c) = ⊥

-- 11: a fixup block above 3 (10 comes first on one fixup)
abbrev pub BlockAbove : Test → Type 0
BlockAbove (of_fixup m f) = (f.kind ≤ 7) × (3 < f.block)
BlockAbove (of_content m c) = ⊥

-- 12: the content's end passes the size of the kept segment it goes to
abbrev pub PastSegment : Test → Type 0
PastSegment (of_fixup m f) = ⊥
PastSegment (of_content m c) = (d : Definition) × (first_kept m c.id ≡ some d) × (size_of d < c.offset + c.part.len)

-- 13: a block-1 fixup names a code segment, and no kept segment has its id
abbrev pub NowhereKept : Test → Type 0
NowhereKept (of_fixup m f) = (f.kind ≤ 7) × (f.block ≡ 1) × (is_code (named m f) ≡ true) × (any_kept m f.id ≡ false)
NowhereKept (of_content m c) = ⊥

-- what a fixup comes to, case by case
data FixupCase (m : Module) (f : Fixup) : Option Refusal → Type 0 where
  ignored : f.block ≡ 3 → FixupCase m f none
  kind : KindAbove (of_fixup m f) → FixupCase m f (some UnknownKind)
  block : BlockAbove (of_fixup m f) → FixupCase m f (some UnknownBlock)
  nowhere : f.block < 3 → NowhereKept (of_fixup m f) → FixupCase m f (some NoKeptSegment)
  sound : f.kind ≤ 7 → f.block < 3 → (NowhereKept (of_fixup m f) → ⊥) → FixupCase m f none

fixup-case : (m : Module) (f : Fixup) → FixupCase m f (fixup_refusal m f)
unfolding fixup_refusal
fixup-case m f =
    chosen (FixupCase m f) (eqb f.block 3) (λ e. ignored (eqb-true f.block 3 e)) λ e.
    let other : f.block ≡ 3 → ⊥ = eqb-false f.block 3 e in
    chosen (FixupCase m f) (ltb 7 f.kind) (λ k. kind (ltb-true 7 f.kind k, other)) λ k.
    let low : f.kind ≤ 7 = ltb-false 7 f.kind k in
    chosen (FixupCase m f) (ltb 3 f.block) (λ b. block (low, ltb-true 3 f.block b)) λ b.
    let small : f.block < 3 = omega (arith, other, ltb-false 3 f.block b) in
    last low small (leads_nowhere m f) refl
  where
    code : Bool
    code = is_code (named m f)

    last : f.kind ≤ 7 → f.block < 3 → (t : Bool) → leads_nowhere m f ≡ t → FixupCase m f (when t NoKeptSegment)
    last low small true e =
        let p = both (eqb f.block 1 && code) (not (any_kept m f.id)) e in
        let q = both (eqb f.block 1) code p.0 in
        nowhere small (low, eqb-true f.block 1 q.0, q.1, not-true (any_kept m f.id) p.1)
    last low small false e = sound low small λ h.
        let t : leads_nowhere m f ≡ true = rw (eq-eqb f.block 1 h.1, h.2, h.3) in
        false≢true (sym e ∙ t)

-- each refusal of a fixup exactly in its case
kind-case : (m : Module) (f : Fixup) {o : Option Refusal} → FixupCase m f o → (o ≡ some UnknownKind) ↔ KindAbove (of_fixup m f)
kind-case m f (ignored b) = ((λ e. absurd (none≢some e)), λ h. absurd (h.1 b))
kind-case m f (kind k) = ((λ e. k), λ h. refl)
kind-case m f (block b) = ((λ e. absurd (omega (arith, same_number e))), λ h. absurd (omega (arith, b.0, h.0)))
kind-case m f (nowhere s n) = ((λ e. absurd (omega (arith, same_number e))), λ h. absurd (omega (arith, n.0, h.0)))
kind-case m f (sound k s n) = ((λ e. absurd (none≢some e)), λ h. absurd (omega (arith, h.0)))

block-case : (m : Module) (f : Fixup) {o : Option Refusal} → FixupCase m f o → (o ≡ some UnknownBlock) ↔ BlockAbove (of_fixup m f)
block-case m f (ignored b) = ((λ e. absurd (none≢some e)), λ h. absurd (omega (arith, h.1)))
block-case m f (kind k) = ((λ e. absurd (omega (arith, same_number e))), λ h. absurd (omega (arith, k.0, h.0)))
block-case m f (block b) = ((λ e. b), λ h. refl)
block-case m f (nowhere s n) = ((λ e. absurd (omega (arith, same_number e))), λ h. absurd (omega (arith, h.1)))
block-case m f (sound k s n) = ((λ e. absurd (none≢some e)), λ h. absurd (omega (arith, h.1)))

nowhere-case : (m : Module) (f : Fixup) {o : Option Refusal} → FixupCase m f o → (o ≡ some NoKeptSegment) ↔ NowhereKept (of_fixup m f)
nowhere-case m f (ignored b) = ((λ e. absurd (none≢some e)), λ h. absurd (omega (arith, h.1)))
nowhere-case m f (kind k) = ((λ e. absurd (omega (arith, same_number e))), λ h. absurd (omega (arith, k.0, h.0)))
nowhere-case m f (block b) = ((λ e. absurd (omega (arith, same_number e))), λ h. absurd (omega (arith, b.1, h.1)))
nowhere-case m f (nowhere s n) = ((λ e. n), λ h. refl)
nowhere-case m f (sound k s n) = ((λ e. absurd (none≢some e)), λ h. absurd (n h))

never-past : (m : Module) (f : Fixup) {o : Option Refusal} → FixupCase m f o → o ≡ some ContentPastSegment → ⊥
never-past m f (ignored b) e = none≢some e
never-past m f (kind k) e = omega (arith, same_number e)
never-past m f (block b) e = omega (arith, same_number e)
never-past m f (nowhere s n) e = omega (arith, same_number e)
never-past m f (sound k s n) e = none≢some e

-- a content gives 12 or nothing
content-refusal : (m : Module) (c : Content) {r : Refusal} → content_refusal m c ≡ some r → r ≡ ContentPastSegment
unfolding content_refusal
content-refusal m c {r} e = go (passes c (first_kept m c.id)) e
  where
    go : (t : Bool) → when t ContentPastSegment ≡ some r → r ≡ ContentPastSegment
    go true e = cc
    go false e = absurd (none≢some e)

past-case : (m : Module) (c : Content) → (content_refusal m c ≡ some ContentPastSegment) ↔ PastSegment (of_content m c)
unfolding content_refusal
past-case m c = (there (first_kept m c.id) refl, λ h. rw (h.1, lt-ltb (size_of h.0) (c.offset + c.part.len) h.2))
  where
    there : (o : Option Definition) → first_kept m c.id ≡ o → when (passes c o) ContentPastSegment ≡ some ContentPastSegment → PastSegment (of_content m c)
    there none q e = absurd (none≢some e)
    there (some d) q e = (d, q, go (ltb (size_of d) (c.offset + c.part.len)) refl e)
      where
        go : (t : Bool) → ltb (size_of d) (c.offset + c.part.len) ≡ t → when t ContentPastSegment ≡ some ContentPastSegment
            → size_of d < c.offset + c.part.len
        go true l e = ltb-true (size_of d) (c.offset + c.part.len) l
        go false l e = absurd (none≢some e)

-- EACH REFUSAL OF A TEST EXACTLY IN ITS CASE
pub gives-10 : (t : Test) → (test_refusal t ≡ some UnknownKind) ↔ KindAbove t
gives-10 (of_fixup m f) = kind-case m f (fixup-case m f)
gives-10 (of_content m c) = ((λ e. omega (arith, ap refusal_number (content-refusal m c e))), λ h. absurd h)

pub gives-11 : (t : Test) → (test_refusal t ≡ some UnknownBlock) ↔ BlockAbove t
gives-11 (of_fixup m f) = block-case m f (fixup-case m f)
gives-11 (of_content m c) = ((λ e. omega (arith, ap refusal_number (content-refusal m c e))), λ h. absurd h)

pub gives-12 : (t : Test) → (test_refusal t ≡ some ContentPastSegment) ↔ PastSegment t
gives-12 (of_fixup m f) = (never-past m f (fixup-case m f), λ h. absurd h)
gives-12 (of_content m c) = past-case m c

pub gives-13 : (t : Test) → (test_refusal t ≡ some NoKeptSegment) ↔ NowhereKept t
gives-13 (of_fixup m f) = nowhere-case m f (fixup-case m f)
gives-13 (of_content m c) = ((λ e. omega (arith, ap refusal_number (content-refusal m c e))), λ h. absurd h)

-- the first test that refuses decides, and refuses with 10 to 13
pub collect-gives : (modules : List Module) {r : Refusal} (P : Test → Type 0) → ((t : Test) → (test_refusal t ≡ some r) ↔ P t)
    → (collect_refusal modules ≡ some r) ↔ First test_refusal P (tests modules)
unfolding collect_refusal
collect-gives modules P iff = leading_at test_refusal P iff (tests modules)

pub collect-late : (modules : List Module) {r : Refusal} → collect_refusal modules ≡ some r → (10 ≤ refusal_number r) × (refusal_number r ≤ 13)
unfolding collect_refusal
collect-late modules {r} e = late f.here f.holds
  where
    f : First test_refusal (λ t. test_refusal t ≡ some r) (tests modules)
    f = (leading_at test_refusal (λ t. test_refusal t ≡ some r) (λ t. Iff.rfl) (tests modules)).0 e

    fixup : (m : Module) (x : Fixup) {o : Option Refusal} → FixupCase m x o → o ≡ some r → (10 ≤ refusal_number r) × (refusal_number r ≤ 13)
    fixup m x (ignored b) e = absurd (none≢some e)
    fixup m x (kind k) e = (omega (arith, same_number e), omega (arith, same_number e))
    fixup m x (block b) e = (omega (arith, same_number e), omega (arith, same_number e))
    fixup m x (nowhere s n) e = (omega (arith, same_number e), omega (arith, same_number e))
    fixup m x (sound k s n) e = absurd (none≢some e)

    late : (t : Test) → test_refusal t ≡ some r → (10 ≤ refusal_number r) × (refusal_number r ≤ 13)
    late (of_fixup m x) e = fixup m x (fixup-case m x) e
    late (of_content m c) e = let n = ap refusal_number (content-refusal m c e) in (omega (arith, n), omega (arith, n))
