-- `put` leaves what the definition says: a row that is whole is within memory. Assumes nothing.
use Rattle.std.proofs.Common.{sym, ◌∙◌, ◌*◌, ◌+◌, ◌≤◌, length, append_assoc, arith}
use Rattle.std.proofs.Math.Nat.{add-sub_cancel_left}
use Rattle.std.proofs.lemmas.List.{drop-drop}
use Rattle.std.proofs.lemmas.List.Edits.{sets-eq}
use Rattle.lent.specs.RowLaws.{row_fits, row-lacks, put-none, put-lacks, put-there}
use Rattle.lent.proofs.rows.put.Goals as goal
use Rattle.lent.proofs.rows.put.Goals.{else-width-ne0-via-then-width-ne0+else-i-m, else-width-ne0-via-else-width-ne0}

pub returns-then-i-m : goal.returns-then-i-m
returns-then-i-m c =
    let m = c.args.m.now in
    let i = c.args.i in
    let cells = c.args.cells.now in
    let n = length cells in
    let fits : i * n + n ≤ length m = row_fits (length m) n i (omega arith) c.if-i-m.true in
    rw (add-sub_cancel_left (i * n) n, c.copy_from_slice.ensures.after, drop-drop n (i * n) m, ← append_assoc) (sym (sets-eq cells m (i * n) fits) ∙ sym (put-there n m i cells fits))

pub returns-else-width-ne0 : goal.returns-else-width-ne0
returns-else-width-ne0 c =
    let a = c.args in
    let n = length a.cells.now in
    elim c.else-width-ne0.branch [
      | else-width-ne0-via-then-width-ne0+else-i-m w ↦ sym (put-lacks n a.m.now a.i a.cells.now (row-lacks (length a.m.now) n a.i (omega arith) w.if-i-m.false))
      | else-width-ne0-via-else-width-ne0 w ↦ put-none a.m.now a.i a.cells.now (omega arith)
    ]
