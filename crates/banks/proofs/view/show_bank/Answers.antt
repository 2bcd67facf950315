-- `show_bank` copies the common part, and behind it the bank.
use Rattle.std.proofs.Common.{sym, ◌∙◌, arith, length-take-le}
use Rattle.banks.specs.ShowLaws.{show-halves}
use Rattle.banks.proofs.view.show_bank.Goals as goal

pub slice_bounds-copy_from_slice-end-2 : goal.slice_bounds-copy_from_slice-end-2
slice_bounds-copy_from_slice-end-2 c =
    sym (length-take-le 32768 c.args.seen.now (omega (arith, c.requires.1)))

pub slice_bounds-copy_from_slice-end-3 : goal.slice_bounds-copy_from_slice-end-3
slice_bounds-copy_from_slice-end-3 c =
    sym (length-take-le 32768 c.args.file.now (omega (arith, c.requires.0)))

pub copy_from_slice-requires : goal.copy_from_slice-requires
copy_from_slice-requires c =
    length-take-le 32768 c.args.seen.now (omega (arith, c.requires.1))
    ∙ sym (length-take-le 32768 c.args.file.now (omega (arith, c.requires.0)))

pub returns : goal.returns
returns c =
    let a = c.args in
    show-halves a.k a.file.now a.seen.now c.copy_from_slice.new.self c.copy_from_slice-2.new.self c.requires.0 c.requires.1
    c.copy_from_slice.ensures.after c.copy_from_slice-2.ensures.after
