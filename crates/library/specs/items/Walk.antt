-- A walk over a module's entries: where it stands, and the next entry.
use Rattle.std.specs.Prelude.{Option}
use Rattle.std.specs.Prelude.{ℕ, zero, suc, ◌+◌, ◌-◌, List, leb, length, if◌then◌else◌}
use Rattle.lent.specs.Parts.{byte_at}
use Rattle.omf51.specs.Ends.{End}
use Rattle.std.specs.Prelude.{Some, None, Ok, Err}
use Rattle.omf51.specs.declared.Frame.{Frame}
use Rattle.omf51.specs.declared.entry.Entries.{Entries}
use Rattle.omf51.specs.Ends.{entry_end}
use Rattle.library.specs.Passes.{holds, record_end}
use Rattle.library.specs.declared.items.Cursor.{Cursor}
use Rattle.library.specs.declared.items.NextEntry.{NextEntry}

-- before the first record at a place: an empty body, and then that record
abbrev pub start_at : ℕ → Cursor
start_at at = record { frame = record { kind = 0; body = 0; end = 0 }; at = 0; next = at }

-- where the entry at a cursor ends; a body that passes the library's end has none
abbrev pub entry_in : Entries → List ℕ → Cursor → End
entry_in what library c = if leb c.frame.end (length library) then entry_end what library c.frame c.at else Ok None

-- in the body of a record that was read, or behind it if it is skipped
abbrev pub frame_to : List ℕ → ℕ → ℕ → Frame
frame_to library at next = record { kind = byte_at library at; body = at + 3; end = next - 1 }

abbrev pub entered_at : Entries → List ℕ → ℕ → ℕ → Cursor
entered_at what library at next =
    record { frame = frame_to library at next; at = if holds what (byte_at library at) then at + 3 else next - 1; next = next }

-- the entry at the cursor, or else the next in the records that follow
abbrev pub after_record : (Cursor → Option NextEntry) → Entries → List ℕ → ℕ → End → Option NextEntry
after_record rest what library at (Ok (Some next)) = rest (entered_at what library at next)
after_record rest what library at (Ok None) = None
after_record rest what library at (Err r) = None

abbrev pub after_entry : Option NextEntry → Cursor → End → Option NextEntry
after_entry rest c (Ok (Some end)) = Some (record { here = c; end = end })
after_entry rest c (Ok None) = rest
after_entry rest c (Err r) = rest

unfoldable pub steps : ℕ → Entries → List ℕ → Cursor → Option NextEntry
steps zero what library c = None
steps (suc n) what library c =
    after_entry (after_record (steps n what library) what library c.next (record_end what library c.next)) c (entry_in what library c)

-- the count is large enough, since each record takes at least one byte
abbrev pub next_entry : Entries → List ℕ → Cursor → Option NextEntry
next_entry what library c = steps (suc (length library)) what library c
