-- The fourteen examples of document 01, all proved by one statement over the table, and its whole printed case.
use Rattle.std.specs.Prelude.{ℕ, ◌-◌, ◌^◌, ◌≡◌, refl, List, [], ◌∷◌, ◌++◌, map, length, replicate, None, Ok}
use Rattle.std.proofs.Math.Option.{Option, none, some}
use Rattle.lent.specs.Choice.{leading}
use Rattle.lent.specs.Lists.{one, keep, joined, fold, any, all, place_of, from, numbered, insert, sorted, total}
use Rattle.lent.specs.Parts.{same, before}
use Rattle.lent.specs.Rows.{zeros, flag}
use Rattle.image.specs.declared.Seat.TheVariants.{Anywhere}
use Rattle.image.specs.View.{stretches_in, view}
use Rattle.image.specs.Cover.{no_stretches}
use Rattle.image.specs.Match.{agrees, matches_at, matches}
use Rattle.image.specs.declared.fixup.Rules.{Rules}
use Rattle.image.specs.declared.fixup.Rules.TheVariants.{AsFound, Documented}
use Rattle.image.specs.declared.fixup.Kind.{Kind}
use Rattle.image.specs.declared.fixup.Kind.TheVariants.{Relative, Word, Inblock}
use Rattle.image.specs.fixup.Target.{address_in, kind_number, shown, target}
use Rattle.omf51.specs.Reader.{repeat}
use Rattle.omf51.specs.Record.{frame_at, expected, record_sum, expected_by, record_by}
use Rattle.omf51.specs.Entry.{ending, segment_size, definition_of, definition_at, fixup_at}
use Rattle.omf51.specs.declared.Fixup.{Fixup}
use Rattle.omf51.specs.Module.{definitions_by, fixups_by, section_by, sections_by, module_by}
use Rattle.omf51.specs.File.{library_by, file_read, file_by}
use Rattle.segments.specs.Ids.{kept, named}
use Rattle.segments.specs.Refuse.{fixup_refusal, content_refusal, tests, collect_refusal}
use Rattle.segments.specs.Masks.{masks_of, ored, merged, filled}
use Rattle.segments.specs.Collect.{references_of, symbols_of, kept_segment, absolute_segment, module_segments, collect}
use Rattle.segments.specs.SegmentRows.{segment_rows_from, segment_numbers, reference_numbers, symbol_numbers, pattern_bytes, pattern_masks}
use Rattle.tables.specs.by_name.Newest.{newest_from}
use Rattle.tables.specs.by_name.Sheet.{name_bucket, linked_from}
use Rattle.search_rules.specs.Search.{positions_of, all_matches, is_valid, holds_to, notes, note, noted, symbols_at, place, placed}
use Rattle.search_rules.specs.SearchRows.{placed_numbers, noted_numbers}
use Rattle.listing_rules.specs.Listing.{best_grade, best, grade, graded_at, lines_at, leftovers, listing, line_numbers}
use Rattle.describe.specs.Describe.{text, one_of, description, describe}
use Rattle.listing_rules.specs.Print.{digits, more_digits, printed_line, printed}
use Rattle.run.specs.declared.Settings.{Settings}
use Rattle.run.specs.Run.{Lent, Outcome, stages, counted, refusals, filled_with, run_seen, run}

-- a row of the table: its number, what is computed, and the result that the document gives
pub record Example : Type 0 where
  pub number : ℕ
  pub computed : List ℕ
  pub result : List ℕ

abbrev P : ℕ → List ℕ → List ℕ → Example
P n a b = record { number = n; computed = a; result = b }

-- answers as lists: no address is empty, no description is 0
abbrev as_list : Option ℕ → List ℕ
as_list none = []
as_list (some t) = one t

abbrev words : Option (List ℕ) → List ℕ
words none = one 0
words (some t) = t

-- the target of a reference to bytes at a place, with offset 0; the targets by both rule sets
abbrev target_at : Rules → Kind → ℕ → List ℕ → List ℕ
target_at rules kind pos bytes = as_list (address_in (target (replicate pos 0 ++ bytes) rules pos kind 0))

abbrev both_at : Kind → ℕ → List ℕ → List ℕ
both_at kind pos bytes = target_at AsFound kind pos bytes ++ target_at Documented kind pos bytes

-- a fixup of kind Word at the last of three bytes
abbrev P12 : Fixup
P12 = record { location = 2; kind = kind_number Word; block = 1; id = record { 0 = 1 }; offset = 0 }

abbrev P4 : List ℕ
P4 = 0x41 ∷ 0x42 ∷ 0x43 ∷ 0x41 ∷ 0x00 ∷ 0x43 ∷ []

abbrev matches_p4 : List ℕ → List ℕ
matches_p4 cells = matches cells Anywhere (0x41 ∷ 0x00 ∷ 0x43 ∷ []) (0xff ∷ 0x00 ∷ 0xff ∷ [])

unfoldable pub table : List Example
table =
    P 1 (matches (7 ∷ 8 ∷ []) Anywhere [] []) (0 ∷ 1 ∷ 2 ∷ [])
    ∷ P 2 (matches [] Anywhere [] []) (0 ∷ [])
    ∷ P 3 (matches (7 ∷ 8 ∷ []) Anywhere (7 ∷ 8 ∷ 9 ∷ []) (0xff ∷ 0xff ∷ 0xff ∷ [])) []
    ∷ P 4 (matches_p4 P4) (0 ∷ 3 ∷ [])
    ∷ P 5 (flag (agrees 0xe1 0x01 0x1f) ∷ flag (agrees 0x11 0x01 0x1f) ∷ []) (1 ∷ 0 ∷ [])
    ∷ P 6 (both_at Inblock 0x0100 (0xe1 ∷ 0x34 ∷ [])) (0x0034 ∷ 0x0734 ∷ [])
    ∷ P 7 (both_at Inblock 0x07fe (0x01 ∷ 0x34 ∷ [])) (0x0834 ∷ 0x0834 ∷ [])
    ∷ P 8 (target_at AsFound Relative 0x0010 (0xfe ∷ [])) (0x000f ∷ [])
    ∷ P 9 (both_at Relative 0 (0xfe ∷ [])) ((2 ^ 64 - 1) ∷ 0xffff ∷ [])
    ∷ P 10 (length (target_at AsFound Word 3 (0x12 ∷ [])) ∷ length (target_at AsFound Word 3 (0x12 ∷ 0x34 ∷ [])) ∷ []) (0 ∷ 1 ∷ [])
    ∷ P 11 (segment_size 0x80 5 ∷ segment_size 0 0 ∷ segment_size 0 0xffff ∷ []) (0 ∷ 65536 ∷ 65535 ∷ [])
    ∷ P 12 (masks_of 3 (one P12)) (0xff ∷ 0xff ∷ 0x00 ∷ [])
    ∷ P 13 (words (describe (text "?C?CLDIDATA")) ++ words (describe (text "?C?CLDIXDATA")))
    (text "char (8-bit) load from idata (indirect ram access)" ++ one 0)
    ∷ P 14 (matches_p4 (view P4 (one (record { start = 4; len = 1 })))) (0 ∷ [])
    ∷ []

pub all_hold : map (λ e. e.computed) table ≡ map (λ e. e.result) table
unfolding table matches matches_at any all keep from shown target masks_of fold describe description one_of place_of same numbered view
all_hold = refl

-- The whole printed case.
abbrev image : List ℕ
image = 0x00 ∷ 0xe5 ∷ 0x25 ∷ 0x22 ∷ []

abbrev library : List ℕ
library =
    0x02 ∷ 0x05 ∷ 0x00 ∷ 0x01 ∷ 0x4d ∷ 0x00 ∷ 0x00 ∷ 0xab
    ∷ 0x0e ∷ 0x0b ∷ 0x00 ∷ 0x01 ∷ 0x00 ∷ 0x01 ∷ 0x00 ∷ 0x00 ∷ 0x00 ∷ 0x03 ∷ 0x00 ∷ 0x01 ∷ 0x53 ∷ 0x8e
    ∷ 0x16 ∷ 0x0e ∷ 0x00 ∷ 0x01 ∷ 0x00 ∷ 0x00 ∷ 0x00 ∷ 0x00 ∷ 0x07 ∷ 0x3f ∷ 0x43 ∷ 0x3f ∷ 0x4c ∷ 0x41 ∷ 0x44 ∷ 0x44 ∷ 0xfe
    ∷ 0x06 ∷ 0x07 ∷ 0x00 ∷ 0x01 ∷ 0x00 ∷ 0x00 ∷ 0xe5 ∷ 0x25 ∷ 0x22 ∷ 0xc6
    ∷ 0x04 ∷ 0x07 ∷ 0x00 ∷ 0x01 ∷ 0x4d ∷ 0x00 ∷ 0x00 ∷ 0x00 ∷ 0x00 ∷ 0xa7
    ∷ []

abbrev settings : Settings
settings = record { rules = 0; edition = 1; depth = 1; minimum = 3; skip = None; withheld = no_stretches }

-- lent for it: one number more than a row for each stage, so that what is left over can be seen to be zero
abbrev lent : Lent
lent = record {
  segments = replicate 9 7;
  references = replicate 1 7;
  symbols = replicate 4 7;
  bytes = replicate 4 7;
  masks = replicate 4 7;
  placed = replicate 9 7;
  noted = replicate 1 7;
  lines = replicate 5 7;
}

abbrev outcome : Outcome
outcome = record {
  answer = Ok (record { segments = 1; references = 0; symbols = 1; pattern = 3; placed = 1; noted = 0; lines = 1 });
  left = record {
    segments = 0 ∷ 0 ∷ 0 ∷ 3 ∷ 0 ∷ 0 ∷ 0 ∷ 1 ∷ 0 ∷ [];
    references = zeros 1;
    symbols = 31 ∷ 7 ∷ 0 ∷ 0 ∷ [];
    bytes = 0xe5 ∷ 0x25 ∷ 0x22 ∷ 0 ∷ [];
    masks = 0xff ∷ 0xff ∷ 0xff ∷ 0 ∷ [];
    placed = 1 ∷ 31 ∷ 7 ∷ 1 ∷ 0 ∷ 1 ∷ 0 ∷ 0 ∷ 0 ∷ [];
    noted = zeros 1;
    lines = 1 ∷ 2 ∷ 31 ∷ 7 ∷ 0 ∷ [];
  };
}

pub whole : (run image library settings lent ≡ outcome)
    × (printed library (stages image library settings).lines
    ≡ text "Address | Name                 | Description\n0x0001    ?C?LADD                long (32-bit) addition\n")
unfolding leading keep joined fold any all place_of from numbered insert sorted total same before stretches_in view matches_at matches shown target
    repeat frame_at expected record_sum expected_by record_by ending definition_of definition_at fixup_at definitions_by fixups_by section_by sections_by module_by library_by file_read file_by
    kept named fixup_refusal content_refusal tests collect_refusal masks_of ored merged filled references_of symbols_of kept_segment absolute_segment
    module_segments collect segment_rows_from segment_numbers reference_numbers symbol_numbers pattern_bytes pattern_masks positions_of all_matches is_valid
    holds_to notes note noted symbols_at place placed newest_from name_bucket linked_from placed_numbers noted_numbers best_grade best grade graded_at lines_at leftovers
    listing line_numbers one_of description describe digits more_digits printed_line printed
    stages counted refusals filled_with run_seen run
whole = (refl, refl)
