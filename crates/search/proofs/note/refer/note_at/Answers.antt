-- `note_at`, case by case. Assumes nothing.
use Rattle.search.specs.note.ReferLaws.{notes-nowhere, notes-segment, notes-name}
use Rattle.search.proofs.note.refer.note_at.Goals as goal

pub returns-in_default : goal.returns-in_default
returns-in_default c =
    let a = c.args in
    notes-nowhere a.valid a.library.now a.goal a.noted.now a.heads.now a.f a.target c.in_default.not-At

pub returns-in_default-goal : goal.returns-in_default-goal
returns-in_default-goal c =
    let a = c.args in
    notes-segment a.valid a.library.now a.goal a.noted.now a.heads.now a.f a.target
    c.in-At.t c.in-At.is c.in_default-goal.field-0 c.in_default-goal.is

pub returns : goal.returns
returns c =
    let a = c.args in
    notes-name a.valid a.library.now a.goal a.noted.now a.heads.now a.f a.target
    c.in-At.t c.in-At.is c.in-Name.name c.in-Name.is
    c.note_name.new.noted c.note_name.new.heads c.note_name.result c.note_name.ensures
