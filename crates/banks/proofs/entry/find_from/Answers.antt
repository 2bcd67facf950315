-- `find_from`: refused by the collection, or the banks then. Assumes nothing.
use mathlib.Core.Path.{refl, sym, ap, ◌∙◌}
use native.Mathlib.Omega.{arith}
use lib.ListN.{length}
use Rattle.image.specs.View.{view}
use Rattle.image.specs.declared.fixup.Rules.{Rules}
use Rattle.omf51.specs.Module.{module_at}
use Rattle.library.specs.Gathered.{items_at}
use Rattle.collect.specs.stored.Stores.{CollectLists}
use Rattle.collect.specs.stored.Segments.{lists}
use Rattle.collect.specs.Outcome.{CollectOutcome, collection}
use Rattle.run.specs.Run.{Lent, lent_lists, cover}
use Rattle.run.proofs.Answers.{SameLengths}
use Rattle.libfind.specs.Ends.{collectable, Filled}
use Rattle.bank_rules.specs.Banks.{banks_in}
use Rattle.banks.specs.Turns.{board_by}
use Rattle.banks.specs.EntryLaws.{begun-banks, refilled, same-board, refused-collecting, collected-filled, banks-then}
use Rattle.banks.proofs.entry.find_from.Goals as goal
use Rattle.banks.proofs.entry.find_from.Goals.{In-Ok}

-- what was lent, what the collection left of it, and both together
abbrev lent_to : (c : In-Ok) → Lent
lent_to c =
    let a = c.args in lent_lists a.segments.now a.references.now a.symbols.now a.bytes.now a.masks.now a.placed.now a.noted.now a.lines.now

abbrev left_by : (c : In-Ok) → CollectLists
left_by c =
    let q = c.collect.new in lists q.segments q.references q.symbols q.bytes q.masks

abbrev between : (c : In-Ok) → Lent
between c =
    let l = left_by c in let a = c.args in lent_lists l.segments l.references l.symbols l.bytes l.masks a.placed.now a.noted.now a.lines.now

kept : (c : In-Ok) → SameLengths (between c) (lent_to c)
kept c = record {
  segments = c.segments-1.given;
  references = c.references-1.given;
  symbols = c.symbols-1.given;
  bytes = c.bytes-1.given;
  masks = c.masks-1.given;
  placed = refl;
  noted = refl;
  lines = refl;
}

filled : (c : In-Ok) → Filled c.args.library.now c.args.settings (lent_to c) c.in-Ok.collected (left_by c)
filled c =
    let a = c.args in
    let collected : Rules → CollectOutcome = λ rules. collection rules a.library.now (items_at a.library.now (module_at a.library.now) a.first) (collectable (lent_to c)) in
    collected-filled a.file.now a.library.now a.settings (lent_to c) c.requires
    (ap (λ r. record { answer = r; left = left_by c }) (sym c.in-Ok.is) ∙ c.collect.ensures ∙ ap (collected) c.rules_of-rules.ensures)

pub find_views-requires : goal.find_views-requires
find_views-requires c =
    let ok = (goal.at.find_views-requires c).In-Ok in
    let a = c.args in
    let n = c.banks_in.ensures in
    let b = begun-banks a.file.now a.library.now a.settings a.first c.requires in (
      omega (arith, n, b.whole),
      omega (arith, n, b.some-bank),
      omega (arith, n, b.few),
      refilled a.library.now a.settings (lent_to ok) c.in-Ok.collected (left_by ok) (kept ok) (filled ok),
    )

pub returns-in-Ok : goal.returns-in-Ok
returns-in-Ok c =
    let ok = (goal.at.returns-in-Ok c).In-Ok in
    let a = c.args in
    let cells = view a.file.now (cover a.settings) in
    c.find_views.ensures
    ∙ ap (λ n. board_by cells a.library.now a.settings n (between ok)) c.banks_in.ensures
    ∙ same-board a.library.now a.settings (lent_to ok) c.in-Ok.collected (left_by ok) cells (banks_in (length a.file.now)) (kept ok)
    ∙ banks-then a.file.now a.library.now a.settings (lent_to ok) c.requires (filled ok)

pub returns-in-Err : goal.returns-in-Err
returns-in-Err c =
    let lent : Lent = let a = c.args in lent_lists a.segments.now a.references.now a.symbols.now a.bytes.now a.masks.now a.placed.now a.noted.now a.lines.now in
    let collected : Rules → CollectOutcome = λ rules. collection rules c.args.library.now (items_at c.args.library.now (module_at c.args.library.now) c.args.first) (collectable (lent)) in
    let left : CollectLists = let q = c.collect.new in lists q.segments q.references q.symbols q.bytes q.masks in
    let a = c.args in
    refused-collecting a.file.now a.library.now a.settings (lent) c.requires
    (ap (λ r. record { answer = r; left = left }) (sym c.in-Err.is) ∙ c.collect.ensures ∙ ap (collected) c.rules_of-rules.ensures)
    (c.fill.ensures.after (λ y e. e)) (c.fill-in-Err.ensures.after (λ y e. e)) (c.fill-in-Err-2.ensures.after (λ y e. e))
