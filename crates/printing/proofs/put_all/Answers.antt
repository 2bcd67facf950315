use mathlib.Core.Path.{refl, ap}
use mathlib.Core.List.{[], ◌++◌}
use native.Mathlib.Omega.{arith}
use lib.ListN.{length}
use Rattle.describe.specs.DescribedLaws.{◌then-put◌}
use Rattle.listing_rules.specs.LineLayout.{line_at}
use Rattle.listing_rules.specs.Print.{printed_line}
use Rattle.printing.specs.StoreLaws.{put-nothing}
use Rattle.printing.specs.PutLaws.{put_as}
use Rattle.printing.specs.PrintedTextLaws.{lines-all, line-fits, done_more, done_all, printed-length}
use borrow.Author.Rules.{rules}
use Rattle.printing.proofs.put_all.Goals as goal

pub put-at-requires : goal.put-at-requires
put-at-requires c =
    let a = c.args in omega (arith, printed-length a.library.now a.lines.now a.n)

pub loop-i-init : goal.loop-i-init
loop-i-init c =
    record { done = []; long = refl; wrote = put-nothing c.put-at.new.out c.put-at.result; whole = refl }

pub put_line-at-requires : goal.put_line-at-requires
put_line-at-requires c =
    let a = c.args in
    let l = c.loop-i in
    omega (
      arith,
      l.invariant.wrote.ends,
      l.invariant.long,
      c.put-at.auto.out,
      c.put-at.ensures.ends,
      c.requires,
      printed-length a.library.now a.lines.now a.n,
      ap (λ r. length (printed_line a.library.now r)) c.line_at.ensures,
      line-fits a.library.now a.lines.now a.n l.i l.invariant.done l.invariant.whole c.loop-i-test.true,
    )

pub loop-i-preserved : goal.loop-i-preserved
loop-i-preserved c =
    let a = c.args in
    let l = c.loop-i in
    record {
      done = l.invariant.done ++ printed_line a.library.now (line_at a.lines.now l.i);
      long = search rules;
      wrote = l.invariant.wrote then-put put_as (ap (printed_line a.library.now) c.line_at.ensures) c.put_line-at.ensures;
      whole = done_more a.library.now a.lines.now a.n l.i l.invariant.done l.invariant.whole c.loop-i-test.true;
    }

pub returns : goal.returns
returns c =
    let a = c.args in
    let l = c.loop-i in
    put_as (lines-all a.library.now a.lines.now a.n)
    (c.put-at.ensures
    then-put put_as (done_all a.library.now a.lines.now a.n l.i l.invariant.done l.invariant.whole c.loop-i-test.false) l.invariant.wrote)
