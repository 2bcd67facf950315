-- `record` of edition 1: no sum is asked for. Assumes nothing.
use Rattle.std.proofs.Common.{sym, ◌∙◌}
use Rattle.omf51.proofs.RecordLaws.{first-expected}
use Rattle.omf51.specs.Expected.{allows}
use Rattle.library.proofs.edition.EditionOneReadBy.record.Goals as goal

pub returns : goal.returns
returns c =
    let a = c.args in
    c.record_at.ensures ∙ sym (first-expected a.library.now (allows a.what) a.at)
