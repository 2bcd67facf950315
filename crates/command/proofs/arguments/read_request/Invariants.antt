-- `read_request` takes one word after another: some words came to what is known and withheld.
use Rattle.std.proofs.Common.{◌≤◌, max}
use Rattle.command.specs.ArgumentLaws.{Passed}
use Rattle.command.proofs.arguments.read_request.Given as goal

abbrev pub invariant-loop-i : goal.invariant-loop-i
invariant-loop-i g l = record { within : l.i ≤ max 1 l.count; passed : Passed l.known l.withheld l.i }
