use Rattle.std.proofs.Common.{◌≡◌, ℕ, ◌+◌, Bool, true, false, List, get_or, nat_lt, refl, sym, subst, arith, ltb-true}
use Rattle.std.specs.Bool.{then_some}
use Rattle.search.specs.byte_index.Anchor.{Anchor, Anchored}
use Rattle.search.proofs.byte_index.anchor.anchor.Goals as goal
use Rattle.search.proofs.byte_index.anchor.anchor.Goals.{then-masks-i+then-count-rarest+else-count-lt4, then-masks-i+else-count-rarest, else-masks-i}
use Rattle.search.proofs.byte_index.anchor.anchor.Invariants.{Chosen}

pub loop-i-init : goal.loop-i-init
loop-i-init c =
    record {
      within = omega arith;
      ends = omega (arith, c.min-end.ensures);
      in_bytes = omega (arith, c.min-n.ensures);
      in-masks = omega (arith, c.min-n.ensures);
      chosen = λ h. absurd (omega arith);
    }

pub loop-i-preserved : goal.loop-i-preserved
loop-i-preserved c =
    let l = c.loop-i in
    let a = c.args in
    let n = c.min-n.result in
    let kept : Chosen a.bytes.now a.masks.now n l.place = l.invariant.chosen in
    record {
      within = omega arith;
      ends = elim c.if-masks-i.branch [
        | then-masks-i+then-count-rarest+else-count-lt4 w ↦ omega (arith, w.min-end-then-count-rarest.ensures, l.invariant.ends)
        | then-masks-i+else-count-rarest w ↦ omega (arith, l.invariant.ends)
        | else-masks-i w ↦ omega (arith, l.invariant.ends)
      ];
      in_bytes = l.invariant.in_bytes;
      in-masks = l.invariant.in-masks;
      chosen = elim c.if-masks-i.branch [
        | then-masks-i+then-count-rarest+else-count-lt4 w ↦ subst (Chosen a.bytes.now a.masks.now n) (sym w.place-is)
            (λ h. record { within = omega arith; byte = omega (arith, c.type_inv.bytes l.i); whole = w.if-masks-i.true })
        | then-masks-i+else-count-rarest w ↦ subst (Chosen a.bytes.now a.masks.now n) (sym w.place-is) kept
        | else-masks-i w ↦ subst (Chosen a.bytes.now a.masks.now n) (sym w.place-is) kept
      ];
    }

pub returns : goal.returns
returns c =
    let a = c.args in
    subst (Anchored a.bytes.now a.masks.now) (sym c.then_some.ensures) (anchored_if (nat_lt c.loop-i.place c.min-n.result) (λ e. c.loop-i.invariant.chosen (ltb-true c.loop-i.place c.min-n.result e)))
  where
    anchored_if : {bytes masks : List ℕ} {place : ℕ} (b : Bool) → (b ≡ true → Anchor bytes masks place) → Anchored bytes masks (then_some b place)
    anchored_if true h = h refl
    anchored_if false h = tt
