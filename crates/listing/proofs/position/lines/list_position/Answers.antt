-- `list_position`: the noted names are met, then the placed symbols, and then the best are put in order. Assumes nothing.
use mathlib.Core.Path.{sym, subst}
use mathlib.Core.List.{◌++◌, map}
use native.Mathlib.Nat.{le-div_iff_mul-le}
use native.Mathlib.Omega.{arith}
use lib.ListN.{length}
use Rattle.lent.specs.Lists.{keep}
use Rattle.image.specs.View.{stretches_in, view}
use Rattle.listing_rules.specs.Listing.{noted_line, lines_at}
use Rattle.listing_rules.specs.FrontLines.{Front}
use Rattle.listing_rules.proofs.FrontLineLaws.{extends-over}
use Rattle.listing.specs.position.RowsAt.{segments_of, stays_at, line_of, noted_at_it}
use Rattle.listing.specs.position.FinishLaws.{met-apart, met-small, met-listed}
use Rattle.listing.proofs.position.lines.list_position.Goals as goal

pub returns-then-f : goal.returns-then-f
returns-then-f c =
    let a = c.args in
    λ k small. extends-over (lines_at a.found.now.library.now (view a.image.now (stretches_in a.s.now)) k.a (segments_of (view a.image.now (stretches_in a.s.now)) k) k.ps
    k.ns a.skip a.at) a.m.now a.f c.if-f.true

pub returns-then-m-from : goal.returns-then-m-from
returns-then-m-from c =
    let a = c.args in
    λ k small lines front. absurd (omega (
      arith,
      c.if-m-from.true,
      front.counted c.if-f.false,
      (le-div_iff_mul-le {k = 4} {x = length lines}
          {y = length a.m.now} (omega arith)).1 (front.fits c.if-f.false).room,
    ))

pub walk_noted-heard-requires : goal.walk_noted-heard-requires
walk_noted-heard-requires c =
    omega (arith, c.if-m-from.false)

pub walk_placed-best-requires : goal.walk_placed-best-requires
walk_placed-best-requires c =
    (omega (arith, c.if-m-from.false, c.walk_noted-heard.auto.m), c.walk_noted-heard.ensures.few)

pub finish-requires : goal.finish-requires
finish-requires c =
    omega (arith, c.if-m-from.false, c.walk_placed-best.auto.m, c.walk_noted-heard.auto.m)

pub returns : goal.returns
returns c =
    let a = c.args in
    let cells = view a.image.now (stretches_in a.s.now) in
    λ k small lines front.
    let e = c.if-f.false in
    let long = sym (front.counted e) in
    let heard = c.walk_noted-heard.ensures.walked a.found.now.library.now k.ns lines k.sought.notings small long (front.fits e) in
    let met = c.walk_placed-best.ensures.walked k lines (map noted_line (keep (noted_at_it a.at) k.ns)) small long heard in
    subst (λ ls. Front (lines ++ ls) c.finish.new.m c.finish.result) (met-listed cells k a.at a.skip)
    (c.finish.ensures lines (map (line_of cells k) (keep (stays_at cells k a.at) k.ps) ++ map noted_line
    (keep (noted_at_it a.at) k.ns)) long met (met-apart cells k a.at) (met-small cells k a.at))
