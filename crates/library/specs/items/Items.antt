-- What the entries say that a walk comes to: the next definition, the next fixup.
use Rattle.std.specs.Prelude.{Option, Some, None}
use Rattle.std.specs.Prelude.{ℕ, ◌+◌, List}
use Rattle.lent.specs.declared.part.Part.{Part}
use Rattle.lent.specs.Parts.{byte_at, word_at}
use Rattle.omf51.specs.declared.Frame.{Frame}
use Rattle.omf51.specs.declared.Definition.{Definition}
use Rattle.omf51.specs.declared.Fixup.{Fixup}
use Rattle.omf51.specs.declared.entry.Entries.TheVariants.{Definitions, Fixups}
use Rattle.omf51.specs.Entry.{name_part, id_size, id_at, name_offset, definition_of}
use Rattle.library.specs.declared.items.Cursor.{Cursor}
use Rattle.library.specs.declared.items.NextEntry.{NextEntry}
use Rattle.library.specs.declared.items.NextDefinition.{NextDefinition}
use Rattle.library.specs.declared.items.NextFixup.{NextFixup}
use Rattle.library.specs.items.Walk.{next_entry}

-- a definition where it is whole, with its name; and a fixup
abbrev pub name_here : List ℕ → Frame → ℕ → Part
name_here library f at = name_part library (at + name_offset f)

abbrev pub definition_here : List ℕ → Frame → ℕ → Definition
definition_here library f at = definition_of library f at (name_here library f at)

abbrev pub fixup_here : List ℕ → Frame → ℕ → Fixup
fixup_here library f at = record {
  location = word_at library at;
  kind = byte_at library (at + 2);
  block = byte_at library (at + 3);
  id = id_at library f (at + 4);
  offset = word_at library (at + 4 + id_size f);
}

-- the cursor after an entry
abbrev pub past : Cursor → ℕ → Cursor
past c end = record { frame = c.frame; at = end; next = c.next }

abbrev pub definition_step : List ℕ → Option NextEntry → Option NextDefinition
definition_step library (Some e) = Some (record { definition = definition_here library e.here.frame e.here.at; rest = past e.here e.end })
definition_step library None = None

abbrev pub next_definition : List ℕ → Cursor → Option NextDefinition
next_definition library c = definition_step library (next_entry Definitions library c)

abbrev pub fixup_step : List ℕ → Option NextEntry → Option NextFixup
fixup_step library (Some e) = Some (record { fixup = fixup_here library e.here.frame e.here.at; rest = past e.here e.end })
fixup_step library None = None

abbrev pub next_fixup : List ℕ → Cursor → Option NextFixup
next_fixup library c = fixup_step library (next_entry Fixups library c)
