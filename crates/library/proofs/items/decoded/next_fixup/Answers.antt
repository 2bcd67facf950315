-- `next_fixup`: the next entry, and what it says. Assumes nothing.
use Rattle.std.proofs.Common.{sym}
use native.Mathlib.Omega.{arith}
use Rattle.omf51.specs.declared.entry.Entries.TheVariants.{Fixups}
use Rattle.library.specs.items.ItemLaws.{step-whole, fixup-room}
use Rattle.library.proofs.items.decoded.next_fixup.Goals as goal

pub fixup_of-requires : goal.fixup_of-requires
fixup_of-requires c =
    let a = c.args in
    let h = c.in_ok-entry.entry.here in
    let w = step-whole Fixups a.library.now a.from (sym c.in_ok-entry.ensures) in
    omega (arith, w.inside, fixup-room a.library.now h.frame h.at w.ends)
