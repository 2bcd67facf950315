-- Where a reading ends, without what it read: what the code says of a repetition, and of an entry that it passes over.
use Rattle.std.specs.Prelude.{ℕ, List, Option, Some, None, Result, Ok, Err}
use Rattle.lent.specs.declared.part.Part.{Part}
use Rattle.lent.specs.declared.refusal.Refusal.{Refusal}
use Rattle.omf51.specs.declared.Frame.{Frame}
use Rattle.omf51.specs.declared.entry.Entries.{Entries}
use Rattle.omf51.specs.declared.entry.Entries.TheVariants.{Definitions, Fixups}
use Rattle.omf51.specs.declared.entry.Named.{Named}
use Rattle.omf51.specs.Reader.{ReadOutcome, read, stop, refused, many, at_least_one}
use Rattle.omf51.specs.Entry.{definition_at, fixup_at}

-- a reading ends at a place; or it stops, since what should be read does not stand there; or it is refused
abbrev pub End : Type 0
End = Result (Option ℕ) Refusal

abbrev pub end_of : {A : Type 0} → ReadOutcome A → End
end_of (read a next) = Ok (Some next)
end_of stop = Ok None
end_of (refused r) = Err r

-- where a repetition ends, which never stops
abbrev pub reached : Result ℕ Refusal → End
reached (Ok next) = Ok (Some next)
reached (Err r) = Err r

abbrev pub entry_end : Entries → List ℕ → Frame → ℕ → End
entry_end Definitions library f at = end_of (definition_at library f at)
entry_end Fixups library f at = end_of (fixup_at library f at)

-- where the entries of a body end from a place on; and where they end in a body that has one at least
abbrev pub rest_end : Entries → List ℕ → Frame → ℕ → End
rest_end Definitions library f at = end_of (many library (definition_at library f) at)
rest_end Fixups library f at = end_of (many library (fixup_at library f) at)

abbrev pub entries_end : Entries → List ℕ → Frame → End
entries_end Definitions library f = end_of (at_least_one library (definition_at library f) f.body)
entries_end Fixups library f = end_of (at_least_one library (fixup_at library f) f.body)

-- the name that was read
abbrev pub name_read : Result (Option Named) Refusal → ReadOutcome Part
name_read (Ok (Some n)) = read n.name n.next
name_read (Ok None) = stop
name_read (Err r) = refused r
