use Rattle.std.proofs.Common.{◌≡◌, ◌+◌, ◌*◌, ◌-◌, ◌<◌, refl, sym, ap, ◌∙◌, arith, rules, ◌++◌, length, length-drop, take, drop}
use Rattle.std.proofs.lemmas.List.Edits.{sets}
use Rattle.std.specs.Iterator.Adapters.{enumerate_source, enumerate_count}
use Rattle.std.specs.Slice.Iter.{chunks_rest}
use Rattle.intel_hex.specs.Export.{records}
use Rattle.intel_hex.proofs.ExportLaws.{lines_from, end_line, line-length, part_length, part-is, part-behind, lines_more, lines-all, lines_none, room-more}
use Rattle.intel_hex.proofs.export.put_all.Goals as goal

pub loop-i-init : goal.loop-i-init
loop-i-init c =
    let same = c.into_iter-i-iterator.ensures.into_iter_gives in
    let none = ap enumerate_count same ∙ c.enumerate-i-items.ensures.count in
    let source = ap enumerate_source same ∙ c.enumerate-i-items.ensures.source in
    rw (none, source, c.chunks.ensures.rest, c.chunks.ensures.size)
    record { left = refl; sixteen = refl; within = omega arith; long = refl; room = omega arith; same = lines_none c.args.image.now c.args.out.now }

pub loop-i-preserved : goal.loop-i-preserved
loop-i-preserved c =
    let image = c.args.image.now in
    let l = c.loop-i in
    let step = c.in-Some.ensures.steps in
    let i = enumerate_count l.i-iterator in
    let part = c.in-Some.part.now in
    let rest = chunks_rest (enumerate_source c.next.new.self) in
    let cut : drop (16 * i) image ≡ part ++ rest = sym l.invariant.left ∙ step.0.1.0 in
    let size = rw (l.invariant.sixteen, l.invariant.left) at step.0.1.1 in
    let more : i < records (length image) = omega (arith, step.0.1.2, ap length l.invariant.left, length-drop (16 * i) image) in
    let piece = part-is image i part rest cut size in
    let line = line-length 0 (16 * i) (take 16 (drop (16 * i) image)) in
    let long = ap length piece ∙ part_length image i in
    rw step.2
    record {
      left = part-behind image i part rest cut size;
      sixteen = step.0.0 ∙ l.invariant.sixteen;
      within = omega (arith, more);
      long = search rules;
      room = room-more (length image) i l.at (length l.out) more long c.put_record.auto.out l.invariant.room;
      same = ap (λ o. sets o (l.at + (12 + 2 * length part)) (lines_from image (i + 1) (records (length image) - (i + 1)) ++ end_line))
          (rw (step.1, piece) at c.put_record.ensures)
          ∙ lines_more image i (records (length image)) l.at l.out more (omega (arith, line, long, part_length image i)) ∙ l.invariant.same;
    }

pub returns : goal.returns
returns c =
    let image = c.args.image.now in
    let l = c.loop-i in
    let i = enumerate_count l.i-iterator in
    let none = c.in-None.ensures.steps.0.1.0 in
    c.put_record-2.ensures
    ∙ lines-all image i (records (length image)) l.at l.out (omega (arith, none, ap length l.invariant.left, length-drop (16 * i) image)) ∙ l.invariant.same
