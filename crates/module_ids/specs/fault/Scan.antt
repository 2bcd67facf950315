-- The first refusal of a module's contents, each after its fixups, in file order.
use Rattle.std.specs.Prelude.{ℕ, ◌≡◌, List, [], map, Result}
use Rattle.std.proofs.Math.Option.{Option}
use Rattle.lent.specs.declared.refusal.Refusal.{Refusal}
use Rattle.lent.specs.Choice.{or_else, leading}
use Rattle.omf51.specs.declared.Content.{Content}
use Rattle.omf51.specs.declared.Definition.{Definition}
use Rattle.omf51.specs.declared.Fixup.{Fixup}
use Rattle.omf51.specs.Module.{Section, Module}
use Rattle.segments.specs.Refuse.{collect_refusal}
use Rattle.module_ids.specs.IdRows.{id_row}
use Rattle.module_ids.specs.Noted.{Tells}
use Rattle.module_ids.specs.fault.Faults.{fixup_fault, content_fault, verdict_of}

abbrev pub one_fault : List Definition → Fixup → Option Refusal
one_fault definitions f = fixup_fault (id_row definitions f.id) f

abbrev pub fixups_fault : List Definition → List Fixup → Option Refusal
fixups_fault definitions fixups = leading (map (one_fault definitions) fixups)

abbrev pub section_fault : List Definition → Section → Option Refusal
section_fault definitions s = or_else (fixups_fault definitions s.fixups) (content_fault (id_row definitions s.content.id) s.content)

abbrev pub sections_fault : List Definition → List Section → Option Refusal
sections_fault definitions sections = leading (map (section_fault definitions) sections)

-- a content with its fixups
abbrev pub section_with : Content → List Fixup → Section
section_with content fixups = record { content = content; fixups = fixups }

-- a verdict on what a table tells of
abbrev pub Says : (List Definition → Option Refusal) → List ℕ → Result Unit Refusal → Type 0
Says fault table verdict = (definitions : List Definition) → Tells definitions table → verdict ≡ verdict_of (fault definitions)

-- the whole scan: its verdict, and the table clear again
pub record Scanned (modules : List Module) (table : List ℕ) (verdict : Result Unit Refusal) : Type 0 where
  pub clear-again : Tells [] table
  pub says : verdict ≡ verdict_of (collect_refusal modules)
