-- The steps of a walk yield exactly the definition's lists, in file order. Assumes nothing.
use Rattle.std.specs.Prelude.{Option}
use Rattle.std.specs.Prelude.{ℕ, zero, suc, ◌-◌, ◌≤◌, ◌<◌, ◌≡◌, refl, List, [], ◌∷◌, ◌++◌, length}
use Rattle.std.proofs.Common.{sym, subst, ◌∙◌, arith}
use Rattle.omf51.specs.declared.Edition.TheVariants.{One}
use Rattle.omf51.specs.declared.Frame.{Frame}
use Rattle.omf51.specs.Ends.{End}
use Rattle.std.specs.Prelude.{Some, None, Ok, Err}
use Rattle.omf51.specs.declared.Definition.{Definition}
use Rattle.omf51.specs.declared.Fixup.{Fixup}
use Rattle.omf51.specs.declared.entry.Entries.TheVariants.{Definitions, Fixups}
use Rattle.omf51.specs.Reader.{ReadOutcome, read, stop, refused}
use Rattle.omf51.specs.Record.{expected}
use Rattle.omf51.specs.Entry.{definition_at, fixup_at}
use Rattle.omf51.specs.Module.{fills, Section, definitions_by, fixups_by, definitions_at, fixups_at, sections_at}
use Rattle.omf51.specs.Ends.{end_of}
use Rattle.library.specs.Gathered.{items_at, followed}
use Rattle.library.specs.RepeatLaws.{Moved, items-turn}
use Rattle.library.specs.EndLaws.{Halts, MovedEnd, items-none}
use Rattle.library.specs.Passes.{holds}
use Rattle.library.specs.PassLaws.{definitions-move, fixups-move}
use Rattle.library.specs.SectionLaws.{sections-move, section-moved}
use Rattle.library.specs.declared.items.Cursor.{Cursor}
use Rattle.library.specs.declared.items.NextEntry.{NextEntry}
use Rattle.library.specs.declared.items.NextDefinition.{NextDefinition}
use Rattle.library.specs.declared.items.NextFixup.{NextFixup}
use Rattle.library.specs.declared.items.NextContent.{NextContent}
use Rattle.library.specs.items.Walk.{start_at, next_entry}
use Rattle.library.specs.items.Items.{definition_here, fixup_here, next_definition, definition_step, next_fixup, fixup_step}
use Rattle.library.specs.items.ItemLaws.{definition-read, definition-room, fixup-read, fixup-room}
use Rattle.library.specs.items.Contents.{content_or, after_section, seek, next_content}
use Rattle.library.specs.items.ContentLaws.{Absent, section_of, section-passed, section-skipped}
use Rattle.library.specs.items.Left.{definitions_left, fixups_left}
use Rattle.library.specs.items.EnterLaws.{enter}
use Rattle.library.specs.items.LeftLaws.{Walked, unwound, step-yields, start_left}

-- an entry that ends within its body moves, and none stands at the body's end
ends-within : {A : Type 0} (library : List ℕ) (f : Frame) (at : ℕ) (o : ReadOutcome A) → f.end ≤ length library
    → ((end : ℕ) → end_of o ≡ Ok (Some end) → (at < end) × (end ≤ f.end)) → Moved library at o
ends-within library f at (read a next) h room = let r = room next refl in (r.0, omega arith)
ends-within library f at stop h room = tt
ends-within library f at (refused r) h room = tt

none_last : (f : Frame) (e : End) → ((end : ℕ) → e ≡ Ok (Some end) → (f.end < end) × (end ≤ f.end)) → Halts e
none_last f (Ok (Some k)) room = let r = room k refl in omega arith
none_last f (Ok None) room = tt
none_last f (Err r) room = tt

-- definitions
definition-forward : (library : List ℕ) (f : Frame) (at end : ℕ) → end_of (definition_at library f at) ≡ Ok (Some end) → (at < end) × (end ≤ f.end)
definition-forward library f at end e = let r = definition-room library f at e in (omega arith, r.1)

definitions-walked : (library : List ℕ) → Walked Definitions library (definition_at library) (definitions_at library) (definition_here library)
unfolding definitions_by
definitions-walked library = record {
  entry-ends = λ f at. refl;
  record-ends = λ at. refl;
  entry-reads = definition-read library;
  entries-move = λ f h at. ends-within library f at (definition_at library f at) h (definition-forward library f at);
  last-halts = λ f. none_last f (end_of (definition_at library f f.end)) (definition-forward library f f.end);
  records-move = definitions-move One library;
  enters = enter library _ (holds Definitions) (definition_at library);
}

abbrev pub definitions_after : List ℕ → Option NextDefinition → List Definition
definitions_after library (Some n) = n.definition ∷ definitions_left library n.rest
definitions_after library None = []

pub next-definition-yields : (library : List ℕ) (c : Cursor) → definitions_left library c ≡ definitions_after library (next_definition library c)
next-definition-yields library c = step-yields Definitions library _ _ _ (definitions-walked library) c ∙ go (next_entry Definitions library c)
  where
    go : (s : Option NextEntry) → unwound Definitions library _ _ _ (definitions-walked library) s ≡ definitions_after library (definition_step library s)
    go (Some e) = refl
    go None = refl

pub definitions-start : (library : List ℕ) (at : ℕ) → definitions_left library (start_at at) ≡ items_at library (definitions_at library) at
definitions-start library = start_left Definitions library _ _ _ (definitions-walked library)

-- fixups
fixup-forward : (library : List ℕ) (f : Frame) (at end : ℕ) → end_of (fixup_at library f at) ≡ Ok (Some end) → (at < end) × (end ≤ f.end)
fixup-forward library f at end e = let r = fixup-room library f at e in (omega arith, r.1)

fixups-walked : (library : List ℕ) → Walked Fixups library (fixup_at library) (fixups_at library) (fixup_here library)
unfolding fixups_by
fixups-walked library = record {
  entry-ends = λ f at. refl;
  record-ends = λ at. refl;
  entry-reads = fixup-read library;
  entries-move = λ f h at. ends-within library f at (fixup_at library f at) h (fixup-forward library f at);
  last-halts = λ f. none_last f (end_of (fixup_at library f f.end)) (fixup-forward library f f.end);
  records-move = fixups-move One library;
  enters = enter library _ (holds Fixups) (fixup_at library);
}

abbrev pub fixups_after : List ℕ → Option NextFixup → List Fixup
fixups_after library (Some n) = n.fixup ∷ fixups_left library n.rest
fixups_after library None = []

pub next-fixup-yields : (library : List ℕ) (c : Cursor) → fixups_left library c ≡ fixups_after library (next_fixup library c)
next-fixup-yields library c = step-yields Fixups library _ _ _ (fixups-walked library) c ∙ go (next_entry Fixups library c)
  where
    go : (s : Option NextEntry) → unwound Fixups library _ _ _ (fixups-walked library) s ≡ fixups_after library (fixup_step library s)
    go (Some e) = refl
    go None = refl

pub fixups-start : (library : List ℕ) (at : ℕ) → fixups_left library (start_at at) ≡ items_at library (fixups_at library) at
fixups-start library = start_left Fixups library _ _ _ (fixups-walked library)

-- contents, each with its fixups
abbrev pub sections_after : List ℕ → Option NextContent → List Section
sections_after library (Some n) = section_of n.content (fixups_left library n.fixups) ++ items_at library (sections_at library) n.rest
sections_after library None = []

seek-yields : (n : ℕ) (library : List ℕ) (at : ℕ) → length library - at < n → items_at library (sections_at library) at ≡ sections_after library (seek n library at)
unfolding seek
seek-yields zero library at h = absurd (omega arith)
seek-yields (suc n) library at h = section (end_of (sections_at library at)) refl (seek-yields n library)
  where
    turn : {o : ReadOutcome (List Section)} → sections_at library at ≡ o → items_at library (sections_at library) at ≡ followed (items_at library (sections_at library)) o
    turn e = items-turn library (sections_at library) (sections-move One library) at e

    content : (next : ℕ) → end_of (sections_at library at) ≡ Ok (Some next) → ((k : ℕ) → length library - k < n → items_at library (sections_at library) k ≡ sections_after library (seek n library k))
        → (o : ReadOutcome Frame) → expected library fills at ≡ o
        → items_at library (sections_at library) at ≡ sections_after library (content_or library (seek n library next) next o)
    content next e rest (read f k) q = turn (section-passed library at q e).is ∙ rw (fixups-start library k)
    content next e rest stop q =
        let m : MovedEnd library at (Ok (Some next)) = section-moved One library at e in
        turn (section-skipped library at (subst Absent (sym q) tt) e) ∙ rest next (omega (arith, m, h))
    content next e rest (refused r) q =
        let m : MovedEnd library at (Ok (Some next)) = section-moved One library at e in
        turn (section-skipped library at (subst Absent (sym q) tt) e) ∙ rest next (omega (arith, m, h))

    section : (e : End) → end_of (sections_at library at) ≡ e → ((k : ℕ) → length library - k < n → items_at library (sections_at library) k ≡ sections_after library (seek n library k))
        → items_at library (sections_at library) at ≡ sections_after library (after_section library (seek n library) (expected library fills at) e)
    section (Ok (Some next)) e rest = content next e rest (expected library fills at) refl
    section (Ok None) e rest = items-none library (sections_at library) (sections-move One library) at e tt
    section (Err r) e rest = items-none library (sections_at library) (sections-move One library) at e tt

pub next-content-yields : (library : List ℕ) (at : ℕ) → items_at library (sections_at library) at ≡ sections_after library (next_content library at)
next-content-yields library at = seek-yields (suc (length library)) library at (omega arith)
