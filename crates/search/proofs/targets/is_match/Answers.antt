-- `is_match`: one test at the place, of the pattern that the number's row tells of. Assumes nothing.
use Rattle.std.proofs.Common.{not, ap, sym, ◌∙◌, arith}
use Rattle.search.specs.Store.{seen}
use Rattle.search.specs.targets.MatchLaws.{number_past, number-stands, number-elsewhere}
use Rattle.search.proofs.targets.is_match.Goals as goal

pub returns-then-store-number : goal.returns-then-store-number
returns-then-store-number c references symbols =
    let a = c.args in
    let t = a.store in
    sym (number_past (seen a.view) t.segments.now references symbols t.bytes.now t.masks.now t.n a.number a.at (omega (arith, c.if-store-number.true)))

pub returns-then-may_stand : goal.returns-then-may_stand
returns-then-may_stand c references symbols =
    let a = c.args in
    let t = a.store in
    number-stands (seen a.view) t.segments.now references symbols t.bytes.now t.masks.now t.n a.number a.at c.segment_at-row.result
    (omega (arith, c.if-store-number.false)) c.segment_at-row.ensures c.may_stand.result c.may_stand.ensures
    (ap not c.if-may_stand.true) c.name.ensures c.name-then-may_stand.ensures c.match_at.ensures

pub returns-else-may_stand : goal.returns-else-may_stand
returns-else-may_stand c references symbols =
    let a = c.args in
    let t = a.store in
    c.if-may_stand.false ∙ number-elsewhere (seen a.view) t.segments.now references symbols t.bytes.now t.masks.now t.n a.number a.at c.segment_at-row.result
    (omega (arith, c.if-store-number.false)) c.segment_at-row.ensures c.may_stand.result c.may_stand.ensures (ap not c.if-may_stand.false)
