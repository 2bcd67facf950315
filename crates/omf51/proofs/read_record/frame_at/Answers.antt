-- `frame_at` tests in document 01's order: two length bytes, 7, 6, the checksum byte. Assumes nothing.
use mathlib.Core.Path.{sym, ◌∙◌}
use native.Mathlib.Omega.{arith}
use Rattle.omf51.proofs.RecordLaws.{frame-cut, frame-empty, frame_past, frame-unclosed, frame-whole}
use Rattle.omf51.proofs.read_record.frame_at.Goals as goal

pub returns-then-library-lt3 : goal.returns-then-library-lt3
returns-then-library-lt3 c =
    let a = c.args in sym (frame-cut a.library.now a.at (omega arith))

pub returns-then-library-at : goal.returns-then-library-at
returns-then-library-at c =
    let a = c.args in sym (frame-cut a.library.now a.at (omega arith))

pub returns-then-len-eq0 : goal.returns-then-len-eq0
returns-then-len-eq0 c =
    let a = c.args in
    sym (frame-empty a.library.now a.at (omega arith) (sym (c.from-len.ensures ∙ c.word_at.ensures) ∙ c.if-len-eq0.true))

pub returns-then-room-len : goal.returns-then-room-len
returns-then-room-len c =
    let a = c.args in
    sym (frame_past a.library.now a.at (omega arith) (c.from-len.ensures ∙ c.word_at.ensures) c.if-len-eq0.false (omega arith))

pub returns-then-room-len-2 : goal.returns-then-room-len-2
returns-then-room-len-2 c =
    let a = c.args in
    sym (frame-unclosed a.library.now a.at (omega arith) (c.from-len.ensures ∙ c.word_at.ensures) c.if-len-eq0.false (omega arith))

pub returns : goal.returns
returns c =
    let a = c.args in
    sym (frame-whole a.library.now a.at (omega arith) (c.from-len.ensures ∙ c.word_at.ensures) c.if-len-eq0.false (omega arith))
