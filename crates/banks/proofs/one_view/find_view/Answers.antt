-- `find_view`: the bank is shown, what is withheld is cut, and the lines from the place on are lent. Assumes nothing.
use native.Mathlib.Omega.{arith}
use mathlib.Core.Path.{refl}
use Rattle.run.specs.Run.{lent_lists}
use Rattle.banks.specs.FoundLaws.{finds-view}
use Rattle.banks.proofs.one_view.find_view.Goals as goal

pub offset_bounds-lines-at : goal.offset_bounds-lines-at
offset_bounds-lines-at c =
    omega (arith, c.requires.2, c.well_formed)

pub returns : goal.returns
returns c =
    let a = c.args in
    let q = c.find_collected in
    finds-view a.file.now a.library.now a.settings a.collected a.k a.at c.requires.0
    (lent_lists a.segments.now a.references.now a.symbols.now a.bytes.now a.masks.now a.placed.now a.noted.now a.lines.now)
    _ c.requires.2 c.show_bank.ensures c.cut.ensures q.ensures refl
