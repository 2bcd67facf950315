-- `digits` reads one digit after another: the number so far and the digits left make what the whole text makes. Assumes nothing.
use Rattle.std.proofs.Common.{◌≡◌, drop}
use Rattle.command.specs.Numbers.{digits_from}
use Rattle.command.proofs.number.digits.Given as goal

abbrev pub invariant-loop-b : goal.invariant-loop-b
invariant-loop-b l = digits_from l.base l.n (drop l.b-index l.text) ≡ digits_from l.base 0 l.text
