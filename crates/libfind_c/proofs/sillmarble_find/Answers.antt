-- `sillmarble_find` makes the settings, runs, and hands over what came of it. Assumes nothing.
use Rattle.run.specs.Run.{lent_lists}
use Rattle.exported.specs.ExportedLaws.{handed-over}
use Rattle.libfind_c.proofs.sillmarble_find.Goals as goal

pub returns : goal.returns
returns c =
    let a = c.args in
    let before = lent_lists a.segments.now a.references.now a.symbols.now a.bytes.now a.masks.now a.placed.now a.noted.now a.lines.now in
    handed-over a.image.now a.library.now _ _ a.counts.now before _ _ _ c.settings_of-settings.ensures
    c.find_names-answer.ensures c.hand_over.ensures.0 c.hand_over.ensures.1
