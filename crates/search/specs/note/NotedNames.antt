-- What noting the references of a match leaves in lent memory, and which of them fails first.
use Rattle.std.specs.Prelude.{ℕ, Bool, true, List}
use Rattle.lent.specs.declared.part.Part.{Part}
use Rattle.lent.specs.Lists.{one, joined}
use Rattle.tables.specs.declared.fill.Fill.{Fill}
use Rattle.image.specs.declared.fixup.Rules.{Rules}
use Rattle.image.specs.declared.fixup.Target.{Target}
use Rattle.segments.specs.declared.Goal.{Goal}
use Rattle.segments.specs.declared.Reference.{Reference}
use Rattle.segments.specs.SegmentLayouts.{reference_layout}
use Rattle.tables.specs.by_name.Tables.{table, Takes}
use Rattle.segments.specs.recalled.Recall.{rows_of}
use Rattle.search_rules.specs.declared.Noted.{Noted}
use Rattle.search_rules.specs.Search.{Noting, leads, note_at, note}
use Rattle.search_rules.specs.SearchRows.{noted_sheet}
use Rattle.search.specs.failed.Failures.{FirstAmong}
use Rattle.search.specs.declared.note.Referred.{Referred}
use Rattle.search.specs.Store.{Stored}

-- a noted row that is valid now
abbrev pub validated : Noted → Noted
validated r = record { target = r.target; name = r.name; valid = true; link = r.link; alike = r.alike }

-- names are taken in
abbrev pub Notes : List ℕ → List Noting → List ℕ → List ℕ → Fill → List ℕ → List ℕ → Fill → Type 0
Notes library new m heads f m' heads' f' = Takes noted_sheet library (note library) new (table m heads f) (table m' heads' f')

abbrev pub NotesOne : List ℕ → ℕ → Part → Bool → List ℕ → List ℕ → Fill → List ℕ → List ℕ → Fill → Type 0
NotesOne library at name valid = Notes library (one (record { target = at; name = name; valid = valid }))

-- what a reference notes, by its goal and target, is taken in
abbrev pub NotesAt : List ℕ → Bool → Goal → Target → List ℕ → List ℕ → Fill → List ℕ → List ℕ → Fill → Type 0
NotesAt library valid goal t = Notes library (note_at valid goal t)

-- what a reference of a match at a position notes
abbrev pub notes_of : List ℕ → Rules → ℕ → Bool → Reference → List Noting
notes_of cells rules position valid r = note_at valid r.goal (leads cells rules position r)

-- references are gone over: the names are noted, and the answer is the first that fails among the segments that are stored
pub record Refers (cells : List ℕ) (rules : Rules) (position : ℕ) (valid : Bool) (library : List ℕ) (store : Stored) (n : ℕ) (rs : List Reference)
    (m heads : List ℕ) (f : Fill) (m' heads' : List ℕ) (r : Referred) : Type 0 where
  pub notes : Notes library (joined (notes_of cells rules position valid) rs) m heads f m' heads' r.fill
  pub fails : FirstAmong cells rules position store n rs r.failed

abbrev pub RefersAll : List ℕ → Rules → ℕ → Bool → List ℕ → Stored → ℕ → Part → List ℕ → List ℕ → Fill → List ℕ → List ℕ → Referred → Type 0
RefersAll cells rules position valid library store n part =
    Refers cells rules position valid library store n (rows_of reference_layout store.references part)
