-- `find_from`: refused by the collection, or what is found then. Assumes nothing.
use mathlib.Core.Path.{sym, ap, ◌∙◌}
use Rattle.image.specs.declared.fixup.Rules.{Rules}
use Rattle.omf51.specs.Module.{module_at}
use Rattle.library.specs.Gathered.{items_at}
use Rattle.collect.specs.stored.Stores.{CollectLists}
use Rattle.collect.specs.stored.Segments.{lists}
use Rattle.collect.specs.Outcome.{CollectOutcome, collection}
use Rattle.run.specs.Run.{Lent, lent_lists}
use Rattle.libfind.specs.Ends.{collectable}
use Rattle.libfind.specs.SingleLaws.{image-short, refused-collecting, collected-then}
use Rattle.libfind.proofs.entry.find_from.Goals as goal

pub returns-in-Ok : goal.returns-in-Ok
returns-in-Ok c =
    let lent : Lent = let a = c.args in lent_lists a.segments.now a.references.now a.symbols.now a.bytes.now a.masks.now a.placed.now a.noted.now a.lines.now in
    let collected : Rules → CollectOutcome = λ rules. collection rules c.args.library.now (items_at c.args.library.now (module_at c.args.library.now) c.args.first) (collectable (lent)) in
    λ b.
    let a = c.args in
    let q = c.collect in
    let left : CollectLists = lists q.new.segments q.new.references q.new.symbols q.new.bytes q.new.masks in
    c.find_collected.ensures (image-short a.image.now a.library.now a.settings (lent) b)
    ∙ collected-then a.image.now a.library.now a.settings (lent) b
    (ap (λ r. record { answer = r; left = left }) (sym c.in-Ok.is) ∙ q.ensures ∙ ap (collected) c.rules_of-rules.ensures)

pub returns-in-Err : goal.returns-in-Err
returns-in-Err c =
    let lent : Lent = let a = c.args in lent_lists a.segments.now a.references.now a.symbols.now a.bytes.now a.masks.now a.placed.now a.noted.now a.lines.now in
    let collected : Rules → CollectOutcome = λ rules. collection rules c.args.library.now (items_at c.args.library.now (module_at c.args.library.now) c.args.first) (collectable (lent)) in
    λ b.
    let a = c.args in
    let q = c.collect in
    let left : CollectLists = lists q.new.segments q.new.references q.new.symbols q.new.bytes q.new.masks in
    refused-collecting a.image.now a.library.now a.settings (lent) b
    (ap (λ r. record { answer = r; left = left }) (sym c.in-Err.is) ∙ q.ensures ∙ ap (collected) c.rules_of-rules.ensures)
    (c.fill.ensures.after (λ y e. e)) (c.fill-in-Err.ensures.after (λ y e. e)) (c.fill-in-Err-2.ensures.after (λ y e. e))
