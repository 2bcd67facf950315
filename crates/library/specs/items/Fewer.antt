-- Each step of a walk leaves fewer items than there were: the measures of loops over definitions,
-- fixups and contents. Assumes nothing.
use Rattle.std.specs.Prelude.{Some}
use Rattle.std.specs.Prelude.{ℕ, ◌<◌, ◌≡◌, List, length}
use Rattle.std.proofs.Common.{ap, ◌∙◌, arith}
use Rattle.omf51.specs.Module.{sections_at}
use Rattle.library.specs.Gathered.{items_at}
use Rattle.library.specs.declared.items.Cursor.{Cursor}
use Rattle.library.specs.declared.items.NextDefinition.{NextDefinition}
use Rattle.library.specs.declared.items.NextFixup.{NextFixup}
use Rattle.library.specs.declared.items.NextContent.{NextContent}
use Rattle.library.specs.items.Items.{next_definition, next_fixup}
use Rattle.library.specs.items.Contents.{next_content}
use Rattle.library.specs.items.Left.{definitions_left, fixups_left}
use Rattle.library.specs.items.Yields.{definitions_after, fixups_after, sections_after, next-definition-yields, next-fixup-yields, next-content-yields}

pub fewer-definitions : (library : List ℕ) (c : Cursor) {n : NextDefinition} → next_definition library c ≡ Some n
    → length (definitions_left library n.rest) < length (definitions_left library c)
fewer-definitions library c e = omega (arith, ap length (next-definition-yields library c ∙ ap (definitions_after library) e))

pub fewer-fixups : (library : List ℕ) (c : Cursor) {n : NextFixup} → next_fixup library c ≡ Some n
    → length (fixups_left library n.rest) < length (fixups_left library c)
fewer-fixups library c e = omega (arith, ap length (next-fixup-yields library c ∙ ap (fixups_after library) e))

pub fewer-sections : (library : List ℕ) (at : ℕ) {n : NextContent} → next_content library at ≡ Some n
    → length (items_at library (sections_at library) n.rest) < length (items_at library (sections_at library) at)
fewer-sections library at e = omega (arith, ap length (next-content-yields library at ∙ ap (sections_after library) e))
