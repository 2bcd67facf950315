-- `read_request`: each word that is taken is one more of the words that were passed, and the last step ends them.
use Rattle.std.proofs.Common.{ℕ, ap, ◌∙◌, arith}
use Rattle.command.specs.Arguments.{ended}
use Rattle.command.specs.ArgumentLaws.{passed-one, passed-wrong, passed-all}
use Rattle.command.proofs.arguments.read_request.Goals as goal

pub returns-in-Err : goal.returns-in-Err
returns-in-Err g c = passed-wrong c.loop-i.invariant.passed c.take_argument-reached.ensures c.in-Err.is

pub loop-i-preserved : goal.loop-i-preserved
loop-i-preserved g c =
    record { within = omega arith; passed = passed-one c.loop-i.invariant.passed c.take_argument-reached.ensures c.in-Ok.is }

pub returns : goal.returns
returns g c =
    passed-all c.loop-i.invariant.passed (c.end.ensures ∙ ap (λ (n : ℕ). ended c.loop-i.known n) (omega (arith, c.saturating_sub.ensures)))
