-- A content that is read again is the content that was gathered. Assumes nothing.
use Rattle.std.specs.Prelude.{ℕ, ◌≡◌, List, length, Option, Some, None}
use Rattle.std.proofs.Common.{sym, ap, ◌∙◌, arith}
use Rattle.lent.specs.Lists.{one}
use Rattle.omf51.specs.declared.Content.{Content}
use Rattle.omf51.specs.Module.{Section}
use Rattle.library.specs.declared.items.Cursor.{Cursor}
use Rattle.library.specs.declared.items.NextContent.{NextContent}
use Rattle.library.specs.items.Left.{fixups_left}
use Rattle.module_index.specs.gather.Places.{section_in}

abbrev pub section_with : List ℕ → Content → Cursor → Section
section_with library content fixups = record { content = content; fixups = fixups_left library fixups }

pub section-met : (library : List ℕ) {o : Option NextContent} {n : NextContent} {s : Section} → o ≡ Some n → section_in library o ≡ one s
    → section_with library n.content n.fixups ≡ s
section-met library {o} {n} {s} e i =
    let same : one (section_with library n.content n.fixups) ≡ one s = sym (ap (section_in library) e) ∙ i in
    cc

pub none-met : (library : List ℕ) {o : Option NextContent} {s : Section} {B : Type 0} → o ≡ None → section_in library o ≡ one s → B
none-met library e i = let z : ◌≡◌ {A = ℕ} 0 1 = ap length (sym (ap (section_in library) e) ∙ i) in absurd (omega arith)
