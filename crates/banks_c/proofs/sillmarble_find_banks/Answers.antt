-- `sillmarble_find_banks` makes the settings, runs, and hands over what came of it. Assumes nothing.
use Rattle.std.specs.Prelude.{length}
use Rattle.std.proofs.Common.{sym, ap, ◌∙◌}
use Rattle.lent.specs.Rows.{put_row}
use Rattle.run.specs.Run.{lent_lists, number_of}
use Rattle.exported.specs.Exported.{counts_in}
use Rattle.bank_rules.specs.Banks.{run_answer, bank_lines}
use Rattle.banks_c.specs.Demands.{handed-over}
use Rattle.banks_c.proofs.sillmarble_find_banks.Goals as goal

pub returns-in-Ok : goal.returns-in-Ok
returns-in-Ok c =
    let a = c.args in
    let before = lent_lists a.segments.now a.references.now a.symbols.now a.bytes.now a.masks.now a.placed.now a.noted.now a.lines.now in
    let e = sym c.in-Ok.is in
    handed-over a.file.now a.library.now _ _ a.counts.now a.each.now before _ _ _ c.settings_of-settings.ensures c.find_banks.ensures
    (c.hand_over.ensures.0 ∙ ap (λ x. number_of (run_answer x)) e) (c.hand_over.ensures.1 ∙ ap (λ x. counts_in a.counts.now (run_answer x)) e)
    (c.put.ensures ∙ ap (λ x. put_row (length (bank_lines x)) a.each.now 0 (bank_lines x)) e)

pub returns-in-Err : goal.returns-in-Err
returns-in-Err c =
    let a = c.args in
    let before = lent_lists a.segments.now a.references.now a.symbols.now a.bytes.now a.masks.now a.placed.now a.noted.now a.lines.now in
    let e = sym c.in-Err.is in
    handed-over a.file.now a.library.now _ _ a.counts.now a.each.now before _ _ _ c.settings_of-settings.ensures c.find_banks.ensures
    (c.hand_over-in-Err.ensures.0 ∙ ap (λ x. number_of (run_answer x)) e) (c.hand_over-in-Err.ensures.1 ∙ ap (λ x. counts_in a.counts.now (run_answer x)) e)
    (c.put-in-Err.ensures ∙ ap (λ x. put_row (length (bank_lines x)) a.each.now 0 (bank_lines x)) e)
