-- The items that are left of a walk, from a cursor on, as the definition lists them.
use Rattle.std.specs.Prelude.{ℕ, List, [], ◌++◌, leb, length, if◌then◌else◌}
use Rattle.omf51.specs.declared.Frame.{Frame}
use Rattle.omf51.specs.declared.Definition.{Definition}
use Rattle.omf51.specs.declared.Fixup.{Fixup}
use Rattle.omf51.specs.Reader.{Reader}
use Rattle.omf51.specs.Entry.{definition_at, fixup_at}
use Rattle.omf51.specs.Module.{definitions_at, fixups_at}
use Rattle.library.specs.Gathered.{items_at}
use Rattle.library.specs.declared.items.Cursor.{Cursor}

-- the entries from a place in a body on, and then those of the records that follow
abbrev pub left_in : {A : Type 0} → List ℕ → (Frame → Reader (List A)) → Cursor → List A
left_in library each c = if leb c.frame.end (length library) then items_at library (each c.frame) c.at else []

abbrev pub left : {A : Type 0} → List ℕ → (Frame → Reader (List A)) → Reader (List A) → Cursor → List A
left library each records c = left_in library each c ++ items_at library records c.next

abbrev pub definitions_left : List ℕ → Cursor → List Definition
definitions_left library = left library (definition_at library) (definitions_at library)

abbrev pub fixups_left : List ℕ → Cursor → List Fixup
fixups_left library = left library (fixup_at library) (fixups_at library)
