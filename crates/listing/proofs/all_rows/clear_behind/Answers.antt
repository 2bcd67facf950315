-- `clear_behind` clears the part behind. Assumes nothing.
use native.Mathlib.Omega.{arith}
use Rattle.listing.specs.ListedLaws.{behind-none, behind-cleared}
use Rattle.listing.proofs.all_rows.clear_behind.Goals as goal

pub returns-then-end-count : goal.returns-then-end-count
returns-then-end-count c =
    behind-none c.args.m.now c.args.count c.if-end-count.true

pub returns : goal.returns
returns c =
    behind-cleared c.args.m.now c.args.count c.fill.new.self (omega (arith, c.if-end-count.false)) (c.fill.ensures.after (λ y e. e))
