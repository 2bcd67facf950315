-- `find_views` goes from bank to bank. The invariant: so many are shown. Assumes nothing.
use Rattle.image.specs.View.{view}
use Rattle.run.specs.Run.{lent_lists, cover}
use Rattle.banks.specs.BoardLaws.{Shown}
use Rattle.banks.proofs.views.find_views.Given as goal

abbrev pub invariant-loop-k : goal.invariant-loop-k
invariant-loop-k l =
    Shown (view l.file (cover l.settings)) l.library l.settings l.banks (lent_lists l.initial.segments l.initial.references l.initial.symbols l.initial.bytes l.initial.masks l.initial.placed l.initial.noted l.initial.lines) l.collected l.k
    (lent_lists l.segments l.references l.symbols l.bytes l.masks l.placed l.noted l.lines) l.counts l.each
