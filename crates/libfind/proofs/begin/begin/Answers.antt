-- `begin`: the settings and lengths, and then what the reader says. Assumes nothing.
use mathlib.Core.Path.{◌≡◌, sym, ap, ◌∙◌}
use lib.ListN.{length}
use Rattle.std.specs.Prelude.{Ok}
use Rattle.omf51.specs.Record.{edition_of}
use Rattle.omf51.proofs.Exits.{handed_on}
use Rattle.library.specs.Reading.{reading}
use Rattle.libfind.specs.Begin.{settings_refusal, checked, refusal_in}
use Rattle.libfind.specs.BeginLaws.{begin-refused, begin-unread, begin-at}
use Rattle.libfind.proofs.begin.begin.Goals as goal
use Rattle.libfind.proofs.begin.begin.Goals.{After-read}

accepted : (c : After-read) → let a = c.args in Ok tt ≡ checked (settings_refusal (refusal_in a.own) a.size (length a.library.now) a.settings)
accepted c = sym c.in_ok-check.was ∙ c.check.ensures

was_read : (c : After-read) → let a = c.args in c.read.result ≡ reading (edition_of a.settings.edition) a.library.now
was_read c = c.read.ensures ∙ ap (λ n. reading n c.args.library.now) c.edition_of.ensures

pub returns-in_err-check : goal.returns-in_err-check
returns-in_err-check c =
    let a = c.args in
    handed_on c.from_residual.result c.from_residual.ensures.1
    ∙ begin-refused (refusal_in a.own) a.size a.library.now a.settings (sym c.in_err-check.was ∙ c.check.ensures)

pub returns-in_err-reading : goal.returns-in_err-reading
returns-in_err-reading c =
    let a = c.args in
    let r = (goal.at.returns-in_err-reading c).After-read in
    handed_on c.from_residual-in_err-reading.result c.from_residual-in_err-reading.ensures.1
    ∙ begin-unread (refusal_in a.own) a.size a.library.now a.settings (accepted r) (sym c.in_err-reading.was ∙ was_read r)

pub returns : goal.returns
returns c =
    let a = c.args in
    let r = (goal.at.returns c).After-read in
    begin-at (refusal_in a.own) a.size a.library.now a.settings (accepted r) (sym c.in_ok-reading.was ∙ was_read r)
