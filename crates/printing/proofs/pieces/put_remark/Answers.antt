-- `put_remark` meets its contract: what the buffer holds, behind a blank, or nothing. Assumes nothing.
use mathlib.Core.Path.{refl, sym}
use native.Mathlib.Omega.{arith}
use lib.ListN.{replicate}
use Rattle.std.proofs.Common.{length-take-le}
use Rattle.printing.specs.StoreLaws.{put-nothing}
use Rattle.printing.specs.PieceLaws.{held, has-room, held-length}
use Rattle.printing.specs.PutLaws.{put_as, remark-put}
use Rattle.printing.proofs.pieces.put_remark.Goals as goal

pub unwrap-requires : goal.unwrap-requires
unwrap-requires c =
    has-room c.args.name.now (replicate 88 0) refl c.describe.ensures

pub put_byte-from-requires : goal.put_byte-from-requires
put_byte-from-requires c =
    let b = c.args.name.now in omega
    (arith, held-length b (held b (replicate 88 0) refl c.describe.ensures c.in-Some.ensures))

pub slice_bounds-put-end : goal.slice_bounds-put-end
slice_bounds-put-end c =
    sym (length-take-le c.in-Some.n c.describe.new.out (held c.args.name.now (replicate 88 0) refl c.describe.ensures c.in-Some.ensures).within)

pub put-requires : goal.put-requires
put-requires c =
    let b = c.args.name.now in
    let h = held b (replicate 88 0) refl c.describe.ensures c.in-Some.ensures in
    omega (arith, length-take-le c.in-Some.n c.describe.new.out h.within, held-length b h)

pub returns : goal.returns
returns c =
    let b = c.args.name.now in
    let h = held b (replicate 88 0) refl c.describe.ensures c.in-Some.ensures in
    remark-put b c.describe.new.out c.in-Some.n h.same c.put_byte-from.ensures c.put.ensures

pub returns-in_default : goal.returns-in_default
returns-in_default c =
    let a = c.args in
    put_as (sym (held a.name.now (replicate 88 0) refl c.describe.ensures c.in_default.ensures).same) (put-nothing a.out.now a.at)
