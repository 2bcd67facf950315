-- `put_blanks` meets its contract: the part holds blanks. Assumes nothing.
use mathlib.Core.Path.{ap, ◌∙◌}
use Prim.Native.Nat.{◌+◌, ◌-◌}
use mathlib.Core.Path.{◌≡◌}
use native.Mathlib.Omega.{arith}
use lib.ListN.{length, take, drop, replicate, length-take, length-drop, length-replicate}
use Rattle.describe.specs.DescribedLaws.{put-whole}
use Rattle.printing.proofs.pieces.put_blanks.Goals as goal

pub returns : goal.returns
returns c =
    let a = c.args in
    let all : length (take (a.at + a.n - a.at) (drop a.at a.out.now)) ≡ a.n = simp (length-take, length-drop) (omega arith) in
    put-whole a.out.now a.at a.n (length-replicate a.n 32) c.requires (c.fill.ensures.after (λ y e. e) ∙ ap (λ k. replicate k 32) all)
