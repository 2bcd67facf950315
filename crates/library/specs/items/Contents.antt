-- From content to content: the content at a place, its fixups after it, and where the next is sought.
use Rattle.std.specs.Prelude.{Option}
use Rattle.std.specs.Prelude.{ℕ, zero, suc, ◌+◌, ◌-◌, List, length}
use Rattle.lent.specs.Parts.{word_at}
use Rattle.omf51.specs.Ends.{End}
use Rattle.std.specs.Prelude.{Some, None, Ok, Err}
use Rattle.omf51.specs.declared.Frame.{Frame}
use Rattle.omf51.specs.declared.Content.{Content}
use Rattle.omf51.specs.Reader.{ReadOutcome, read, stop, refused}
use Rattle.omf51.specs.Record.{expected}
use Rattle.omf51.specs.Entry.{id_size, id_at}
use Rattle.omf51.specs.Module.{fills, sections_at}
use Rattle.omf51.specs.Ends.{end_of}
use Rattle.library.specs.declared.items.NextContent.{NextContent}
use Rattle.library.specs.items.Walk.{start_at}

-- the content in a body: id, offset (2), and the rest is the data
abbrev pub content_here : List ℕ → Frame → Content
content_here library f = record {
  id = id_at library f f.body;
  offset = word_at library (f.body + id_size f);
  part = record { at = f.body + id_size f + 2; len = f.end - (f.body + id_size f + 2) };
}

-- a content if its record stands here, or else what comes after a record that is skipped
abbrev pub content_or : List ℕ → Option NextContent → ℕ → ReadOutcome Frame → Option NextContent
content_or library other next (read f k) = Some (record { content = content_here library f; fixups = start_at k; rest = next })
content_or library other next stop = other
content_or library other next (refused r) = other

abbrev pub after_section : List ℕ → (ℕ → Option NextContent) → ReadOutcome Frame → End → Option NextContent
after_section library rest o (Ok (Some next)) = content_or library (rest next) next o
after_section library rest o (Ok None) = None
after_section library rest o (Err r) = None

unfoldable pub seek : ℕ → List ℕ → ℕ → Option NextContent
seek zero library at = None
seek (suc n) library at = after_section library (seek n library) (expected library fills at) (end_of (sections_at library at))

abbrev pub next_content : List ℕ → ℕ → Option NextContent
next_content library at = seek (suc (length library)) library at
