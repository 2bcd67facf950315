-- `entry_in`: no entry stands at the body's end or behind it. Assumes nothing.
use Rattle.std.proofs.Common.{sym}
use borrow.Author.Tests.{le-leb}
use lib.ListN.{length}
use Rattle.library.specs.BodyLaws.{entry-none}
use Rattle.library.proofs.items.entries.entry_in.Goals as goal

pub returns-then-frame-c : goal.returns-then-frame-c
returns-then-frame-c c =
    let a = c.args in
    rw (le-leb a.c.frame.end (length a.library.now) c.if-library-frame.false) (sym (entry-none a.what a.library.now a.c.frame a.c.at c.if-frame-c.true))
