-- `spread_ends`: a short name is mixed in whole, a longer one by its two ends. Assumes nothing.
use Rattle.std.proofs.Common.{◌-◌, length, take, drop, ap, ◌∙◌, arith, length-drop, take_all}
use Rattle.tables.specs.by_name.Sheet.{spread}
use Rattle.tables.specs.by_name.NamedLaws.{spread-small, ends-long}
use Rattle.tables.proofs.by_name.spread_ends.Goals as goal

pub spread-requires-2 : goal.spread-requires-2
spread-requires-2 c =
    omega (arith, c.spread-front.ensures, spread-small (take 8 c.args.bytes.now) c.args.from c.requires)

pub returns : goal.returns
returns c =
    let a = c.args in
    let back = drop (length a.bytes.now - 8) a.bytes.now in
    c.spread-2.ensures
    ∙ ap (spread c.spread-front.result) (take_all (length a.bytes.now - (length a.bytes.now - 8)) back (omega (arith, length-drop (length a.bytes.now - 8) a.bytes.now)))
    ∙ ap (λ h. spread h back) c.spread-front.ensures
    ∙ ends-long a.bytes.now a.from c.if-len-le16.false
