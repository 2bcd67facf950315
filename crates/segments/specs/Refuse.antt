-- Refusals 10 to 13, in file order: module after module, content after content, each fixup of a
-- content and then the content itself (12).
use Rattle.std.specs.Prelude.{◌+◌, Bool, false, not, ◌&&◌, List, ◌++◌, map, eqb, ltb, if◌then◌else◌}
use Rattle.std.proofs.Math.Option.{Option, none, some}
use Rattle.lent.specs.declared.refusal.Refusal.{Refusal}
use Rattle.lent.specs.declared.refusal.Refusal.TheVariants.{UnknownKind, UnknownBlock, ContentPastSegment, NoKeptSegment}
use Rattle.lent.specs.Choice.{when, leading}
use Rattle.lent.specs.Lists.{one, joined}
use Rattle.omf51.specs.declared.Content.{Content}
use Rattle.omf51.specs.declared.Definition.{Definition}
use Rattle.omf51.specs.declared.Fixup.{Fixup}
use Rattle.omf51.specs.Module.{Module}
use Rattle.segments.specs.Ids.{any_kept, first_kept, named, is_code, size_of}

-- refusal 13: a fixup of block 1 names a segment that is code, and no kept segment has its id
abbrev pub leads_nowhere : Module → Fixup → Bool
leads_nowhere m f = eqb f.block 1 && is_code (named m f) && not (any_kept m f.id)

-- the refusal of a fixup (10, 11 or 13), if it has one; a fixup of block 3 is ignored
unfoldable pub fixup_refusal : Module → Fixup → Option Refusal
fixup_refusal m f =
    if eqb f.block 3 then none
    else if ltb 7 f.kind then some UnknownKind
    else if ltb 3 f.block then some UnknownBlock
    else when (leads_nowhere m f) NoKeptSegment

-- the content's end passes the size of this segment, if there is one
abbrev pub passes : Content → Option Definition → Bool
passes c none = false
passes c (some d) = ltb (size_of d) (c.offset + c.part.len)

-- refusal 12: the content's end passes the size of the kept segment to which the content goes
unfoldable pub content_refusal : Module → Content → Option Refusal
content_refusal m c = when (passes c (first_kept m c.id)) ContentPastSegment

-- what is tested: a fixup, or a content, of a module
pub data Test : Type 0 where
  of_fixup : Module → Fixup → Test
  of_content : Module → Content → Test

-- the refusal of a test, if it has one
abbrev pub test_refusal : Test → Option Refusal
test_refusal (of_fixup m f) = fixup_refusal m f
test_refusal (of_content m c) = content_refusal m c

-- all tests in file order: of each content the fixups, then the content itself
unfoldable pub tests : List Module → List Test
tests modules = joined (λ m. joined (λ s. map (of_fixup m) s.fixups ++ one (of_content m s.content)) m.sections) modules

-- the refusal of the first test that refuses
unfoldable pub collect_refusal : List Module → Option Refusal
collect_refusal modules = leading (map test_refusal (tests modules))
