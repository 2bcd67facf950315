-- `find_banks`: refused by what begins the run, or the rest of it. Assumes nothing.
use mathlib.Core.Path.{◌≡◌, sym, ap, ◌∙◌}
use lib.ListN.{length}
use Rattle.run.specs.Run.{Lent, lent_lists}
use Rattle.omf51.proofs.Exits.{handed_on}
use Rattle.libfind.specs.Begin.{beginning}
use Rattle.libfind.specs.BeginLaws.{own_is, begun, never-begun}
use Rattle.bank_rules.specs.Banks.{not_banked}
use Rattle.banks.specs.EntryLaws.{refused-early}
use Rattle.banks.proofs.entry.find_banks.Goals as goal

pub find_from-requires : goal.find_from-requires
find_from-requires c =
    let begins : let a = c.args in c.begin.result ≡ beginning (not_banked (length a.file.now)) (length a.file.now) a.library.now a.settings = let a = c.args in
    c.begin.ensures ∙ ap (λ o. beginning o (length a.file.now) a.library.now a.settings) (own_is (not_banked (length a.file.now)) c.board.ensures) in
    let a = c.args in
    begun (not_banked (length a.file.now)) (length a.file.now) a.library.now a.settings (sym c.in_ok-first.was ∙ begins)

pub returns-in_err-first : goal.returns-in_err-first
returns-in_err-first c =
    let lent : Lent = let a = c.args in lent_lists a.segments.now a.references.now a.symbols.now a.bytes.now a.masks.now a.placed.now a.noted.now a.lines.now in
    let begins : let a = c.args in c.begin.result ≡ beginning (not_banked (length a.file.now)) (length a.file.now) a.library.now a.settings = let a = c.args in
    c.begin.ensures ∙ ap (λ o. beginning o (length a.file.now) a.library.now a.settings) (own_is (not_banked (length a.file.now)) c.board.ensures) in
    let a = c.args in
    ap (λ x. record { answer = x; left = lent }) (handed_on c.from_residual.result c.from_residual.ensures.1)
    ∙ refused-early a.file.now a.library.now a.settings (lent)
    (never-begun (not_banked (length a.file.now)) (length a.file.now) a.library.now a.settings (sym c.in_err-first.was ∙ begins))
