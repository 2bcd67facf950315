-- `find_target`: bytes past the end, withheld ones, and those that can be read, which are the image's. Assumes nothing.
use Rattle.std.proofs.Common.{ℕ, ◌≡◌, ◌+◌, ◌-◌, ◌%◌, ◌^◌, ◌<◌, ◌≤◌, ltb, length, sym, ap, ◌∙◌, arith, ltb-false, ltb-true}
use Rattle.image.specs.View.{stretches_in}
use Rattle.image.specs.Window.{is_apart}
use Rattle.image.specs.fixup.Target.{reads}
use Rattle.image.proofs.fixup.TargetLaws.{Bytes, target_past, target-withheld}
use Rattle.image.proofs.fixup.AddressLaws.{reads-some, target_at}
use Rattle.image.specs.declared.fixup.Target.TheVariants.{At}
use Rattle.image.proofs.fixup.find_target.Goals as goal
use Rattle.image.proofs.fixup.find_target.Goals.{Else-passes}

-- a difference that wraps at 64 bits, and what it comes from
abbrev less : ℕ → ℕ → ℕ
less led offset = (led + (2 ^ 64 - offset)) % 2 ^ 64

less-more : (led offset : ℕ) → led < 2 ^ 64 → offset < 2 ^ 64 → (less led offset + offset) % 2 ^ 64 ≡ led
less-more led offset h g = omega arith

bytes : (c : Else-passes) → Bytes c.args.image.now
bytes c =
    λ k. omega (arith, c.shared_slice_known-1.given k)

pub returns-then-passes : goal.returns-then-passes
returns-then-passes c =
    let passing : ltb (length c.args.image.now) (c.args.pos + reads c.args.kind) ≡ c.passes.result = let a = c.args in ap (λ w. ltb (length a.image.now) (a.pos + w)) (sym c.width-n.ensures) ∙ sym c.passes.ensures in
    let a = c.args in
    sym (target_past a.image.now (stretches_in a.s.now) a.rules a.pos a.kind a.offset
    (ltb-true (length a.image.now) (a.pos + reads a.kind) (passing ∙ c.if-passes.true)))

pub returns-then-not-is_apart : goal.returns-then-not-is_apart
returns-then-not-is_apart c =
    let passing : ltb (length c.args.image.now) (c.args.pos + reads c.args.kind) ≡ c.passes.result = let a = c.args in ap (λ w. ltb (length a.image.now) (a.pos + w)) (sym c.width-n.ensures) ∙ sym c.passes.ensures in
    let fitting : c.args.pos + reads c.args.kind ≤ length c.args.image.now = let a = c.args in ltb-false (length a.image.now) (a.pos + reads a.kind) (passing ∙ c.if-passes.false) in
    let windowed : is_apart (stretches_in c.args.s.now) c.args.pos (reads c.args.kind) ≡ c.is_apart.result = let a = c.args in ap (is_apart (stretches_in a.s.now) a.pos) (sym c.width-n.ensures) ∙ sym c.is_apart.ensures in
    let a = c.args in
    sym (target-withheld a.image.now (stretches_in a.s.now) (bytes (goal.at.returns-then-not-is_apart c).Else-passes) a.rules a.pos a.kind a.offset (fitting)
    (windowed ∙ c.if-not-is_apart.true))

pub overflow_add-pos : goal.overflow_add-pos
overflow_add-pos c =
    let passing : ltb (length c.args.image.now) (c.args.pos + reads c.args.kind) ≡ c.passes.result = let a = c.args in ap (λ w. ltb (length a.image.now) (a.pos + w)) (sym c.width-n.ensures) ∙ sym c.passes.ensures in
    let fitting : c.args.pos + reads c.args.kind ≤ length c.args.image.now = let a = c.args in ltb-false (length a.image.now) (a.pos + reads a.kind) (passing ∙ c.if-passes.false) in
    omega (arith, fitting, reads-some c.args.kind)

pub returns : goal.returns
returns c =
    let passing : ltb (length c.args.image.now) (c.args.pos + reads c.args.kind) ≡ c.passes.result = let a = c.args in ap (λ w. ltb (length a.image.now) (a.pos + w)) (sym c.width-n.ensures) ∙ sym c.passes.ensures in
    let fitting : c.args.pos + reads c.args.kind ≤ length c.args.image.now = let a = c.args in ltb-false (length a.image.now) (a.pos + reads a.kind) (passing ∙ c.if-passes.false) in
    let windowed : is_apart (stretches_in c.args.s.now) c.args.pos (reads c.args.kind) ≡ c.is_apart.result = let a = c.args in ap (is_apart (stretches_in a.s.now) a.pos) (sym c.width-n.ensures) ∙ sym c.is_apart.ensures in
    let a = c.args in
    ap At c.counted.ensures
    ∙ target_at a.image.now (stretches_in a.s.now) (bytes (goal.at.returns c).Else-passes) a.rules a.pos a.offset a.kind
    c.byte_at-a.result c.byte_at-b.result c.leads_to-led.result (less c.leads_to-led.result a.offset)
    (fitting) (windowed ∙ c.if-not-is_apart.false)
    c.byte_at-a.ensures c.byte_at-b.ensures c.leads_to-led.ensures (omega arith) (omega (arith, c.ranges.offset)) (less-more c.leads_to-led.result a.offset (omega arith) (omega (arith, c.ranges.offset)))
