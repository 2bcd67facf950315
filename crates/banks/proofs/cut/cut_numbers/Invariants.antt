-- `cut_numbers` goes from pair to pair. The invariant: those before are cut, and the others are as they were. Assumes nothing.
use Prim.Native.Nat.{◌-◌}
use Rattle.bank_rules.proofs.CutLaws.{Cutting}
use Rattle.banks.proofs.cut.cut_numbers.Given as goal

abbrev pub invariant-loop-i : goal.invariant-loop-i
invariant-loop-i l =
    Cutting l.k l.initial.pairs l.pairs (l.i - 1)
