-- `put`: three stores one after another are a row's. Assumes nothing.
use Prim.Native.Nat.{suc, ◌+◌, ◌*◌}
use mathlib.Core.Path.{◌≡◌, sym}
use mathlib.Core.List.{[], ◌∷◌}
use native.Mathlib.Omega.{arith}
use Rattle.lent.specs.RowLaws.{put-there, put-lacks}
use Rattle.module_ids.proofs.row.put.Goals as goal

pub returns-then-at-table : goal.returns-then-at-table
returns-then-at-table c =
    let a = c.args in
    let second : a.id.0 * 3 + 1 ≡ suc (a.id.0 * 3) = omega arith in
    let third : a.id.0 * 3 + 2 ≡ suc (suc (a.id.0 * 3)) = omega arith in
    rw (put-there 3 a.table.now a.id.0 (a.a ∷ a.b ∷ a.c ∷ []) c.if-at-table.true, second, third)

pub returns-else-at-table : goal.returns-else-at-table
returns-else-at-table c =
    let a = c.args in sym (put-lacks 3 a.table.now a.id.0 (a.a ∷ a.b ∷ a.c ∷ []) c.if-at-table.false)
