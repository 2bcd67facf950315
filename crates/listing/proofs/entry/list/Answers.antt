-- `list`: too few rows for the lines, or all of them. Assumes nothing.
use mathlib.Core.Path.{sym, ap, ◌∙◌}
use Rattle.std.specs.Prelude.{Err}
use Rattle.lent.specs.declared.refusal.Refusal.TheVariants.{TooFewRows}
use Rattle.lent.specs.Rows.{zeros}
use Rattle.image.specs.View.{stretches_in, view}
use Rattle.search.specs.visit.Visits.{stored}
use Rattle.search.specs.Outcome.{SearchLists as Searchable, search_zeroed as zeroed_search}
use Rattle.listing.specs.OutcomeLaws.{lines-found, emptied, lacks-is, done-is}
use Rattle.listing.proofs.entry.list.Goals as goal

pub returns-then-f : goal.returns-then-f
returns-then-f c =
    let lent : Searchable = record {
      stored = stored c.args.segments.now c.args.references.now c.args.symbols.now c.args.bytes.now c.args.masks.now;
      placed = c.args.placed.now;
      noted = c.args.noted.now;
    } in
    let a = c.args in
    let cells = view a.image.now (stretches_in a.s.now) in
    let f = c.list_rows-f in
    λ l short p q done sought.
    ap (λ x. record { answer = Err TooFewRows; left = record { searched = x; lines = c.fill.new.self } })
    (c.clear_all.ensures ∙ emptied cells a.asked a.library.now a.n l short a.rows (lent) done (sym p) (sym q))
    ∙ ap (λ x. record { answer = Err TooFewRows; left = record { searched = zeroed_search l; lines = x } }) ((c.fill.ensures.after (λ y e. e)) ∙ ap zeros c.list_rows-f.auto.lines)
    ∙ lacks-is cells a.asked a.skip a.library.now a.n (record { searched = l; lines = a.lines.now }) short a.rows (lent) done
    f.new.lines f.result
    (lines-found cells a.asked a.library.now a.n l short a.skip a.rows (lent) done a.positions.now a.goals.now sought a.lines.now
    f.new.lines f.result f.ensures) c.if-f.true

pub returns : goal.returns
returns c =
    let lent : Searchable = record {
      stored = stored c.args.segments.now c.args.references.now c.args.symbols.now c.args.bytes.now c.args.masks.now;
      placed = c.args.placed.now;
      noted = c.args.noted.now;
    } in
    let a = c.args in
    let cells = view a.image.now (stretches_in a.s.now) in
    let f = c.list_rows-f in
    λ l short p q done sought.
    done-is cells a.asked a.skip a.library.now a.n (record { searched = l; lines = a.lines.now }) short a.rows (lent) done
    f.new.lines f.result
    (lines-found cells a.asked a.library.now a.n l short a.skip a.rows (lent) done a.positions.now a.goals.now sought a.lines.now
    f.new.lines f.result f.ensures) c.if-f.false
