-- `is_apart`: without a pair nothing is asked. Assumes nothing.
use Rattle.std.proofs.Common.{sym}
use Rattle.image.proofs.WindowLaws.{no-pair}
use Rattle.image.proofs.is_apart.Goals as goal

pub returns-then-s-lt2 : goal.returns-then-s-lt2
returns-then-s-lt2 c =
    let a = c.args in sym (no-pair a.s.now a.at a.n c.if-s-lt2.true)
