-- `fails_deep`: what `failed_among` finds at one depth less; that the match holds is remembered. Assumes nothing.
use Rattle.std.proofs.Common.{◌-◌, Bool, true, sym, ◌∙◌, subst, arith}
use Rattle.search.specs.Store.{seen, stored_in}
use Rattle.search.specs.failed.FailureLaws.{failed_is}
use Rattle.search.specs.depth.Depths.{Told, KeepsOut}
use Rattle.search.specs.depth.ToldLaws.{put-told}
use Rattle.search.specs.depth.DeepLaws.{among-to, held-less, kept-to}
use Rattle.search.proofs.depth.fails_deep.Goals as goal

pub returns-then-is_err : goal.returns-then-is_err
returns-then-is_err c =
    let a = c.args in
    let q = c.failed_among in
    let cells = seen a.view in
    let Out : Bool → Type 0 = KeepsOut cells a.rules (stored_in a.store) a.store.n a.depth a.position a.part in
    let kept : Out c.is_err.result =
    kept-to cells a.rules (stored_in a.store) a.store.n a.position a.part a.depth q.result
    (among-to cells a.rules (stored_in a.store) a.store.n (a.depth - 1) a.depth a.position a.part q.result (omega (arith, c.requires.0)) q.ensures.0)
    c.is_err.result (c.is_err.ensures.value ∙ failed_is q.result) in
    (subst Out c.if-is_err.true kept, q.ensures.1)

pub returns-then-number-store : goal.returns-then-number-store
returns-then-number-store c =
    let a = c.args in
    let q = c.failed_among in
    let cells = seen a.view in
    let Out : Bool → Type 0 = KeepsOut cells a.rules (stored_in a.store) a.store.n a.depth a.position a.part in
    let kept : Out c.is_err.result =
    kept-to cells a.rules (stored_in a.store) a.store.n a.position a.part a.depth q.result
    (among-to cells a.rules (stored_in a.store) a.store.n (a.depth - 1) a.depth a.position a.part q.result (omega (arith, c.requires.0)) q.ensures.0)
    c.is_err.result (c.is_err.ensures.value ∙ failed_is q.result) in (
      subst Out c.if-is_err.false kept,
      subst (Told cells a.rules (stored_in a.store) a.store.n) (sym c.remember.ensures)
          (put-told cells a.rules (stored_in a.store) a.store.n q.new.told q.ensures.1 a.number a.position (a.depth - 1) true
          (held-less cells a.rules (stored_in a.store) a.store.n a.depth a.position a.part c.is_err.result kept c.if-is_err.false
          a.number c.requires.2 (omega (arith, c.if-number-store.true)) (a.depth - 1) (omega arith))),
    )

pub returns-else-number-store : goal.returns-else-number-store
returns-else-number-store c =
    let a = c.args in
    let q = c.failed_among in
    let cells = seen a.view in
    let Out : Bool → Type 0 = KeepsOut cells a.rules (stored_in a.store) a.store.n a.depth a.position a.part in
    let kept : Out c.is_err.result =
    kept-to cells a.rules (stored_in a.store) a.store.n a.position a.part a.depth q.result
    (among-to cells a.rules (stored_in a.store) a.store.n (a.depth - 1) a.depth a.position a.part q.result (omega (arith, c.requires.0)) q.ensures.0)
    c.is_err.result (c.is_err.ensures.value ∙ failed_is q.result) in
    (subst Out c.if-is_err.false kept, q.ensures.1)
