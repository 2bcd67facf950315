use Rattle.std.proofs.Common.{◌-◌, refl, arith, length-set}
use Rattle.tables.specs.links.IndexLaws.{none-linked, link-turn, linked-at}
use Rattle.search.specs.byte_index.IndexLaws.{past-heads, all-indexed}
use Rattle.search.proofs.byte_index.index.index.Goals as goal

pub loop-i-init : goal.loop-i-init
loop-i-init c =
    let a = c.args in
    let r = c.requires in
    record { within = omega arith; heads-long = refl; next-long = refl; linked = none-linked a.image.now a.first.now a.next.now (omega (arith, r.heads)) r.room r.clear }

pub loop-i-preserved : goal.loop-i-preserved
loop-i-preserved c =
    let l = c.loop-i in
    let a = c.args in
    record {
      within = omega (arith, l.invariant.within);
      heads-long = rw (length-set, length-set) l.invariant.heads-long;
      next-long = rw length-set l.invariant.next-long;
      linked = past-heads _ _ (omega arith) (link-turn a.image.now l.first l.next (l.i - 1) (omega (arith, l.invariant.within))
          (omega (arith, c.type_inv.image (l.i - 1))) (linked-at l.invariant.linked (omega arith)));
    }
