-- From empty tables all matches fill the rows. Assumes nothing.
use Rattle.std.specs.Prelude.{◌≡◌, ℕ, ◌≤◌, false, List, [], length, slice_index, refl}
use Rattle.std.proofs.Common.{sym, ◌∙◌, arith}
use Rattle.std.proofs.Math.Path.{ap, subst}
use Rattle.std.proofs.lemmas.List.{length-replicate}
use Rattle.lent.specs.Rows.{zeros, padded}
use Rattle.tables.specs.declared.fill.Fill.{Fill}
use Rattle.tables.specs.zeros.Zeros.{zero_list}
use Rattle.tables.specs.zeros.ZeroLaws.{zero-length, zero-at}
use Rattle.tables.specs.by_name.Sheet.{Sheet}
use Rattle.tables.specs.by_name.Heads.{Blank}
use Rattle.tables.specs.by_name.Tables.{table, Tabled}
use Rattle.tables.specs.by_name.TableLaws.{table_done, table-full, table-starts}
use Rattle.search.specs.byte_index.Index.{Ready}
use Rattle.search_rules.specs.declared.Asked.{Asked}
use Rattle.search_rules.specs.Search.{placed, noted}
use Rattle.search_rules.specs.SearchRows.{placed_sheet, noted_sheet, placed_numbers, noted_numbers}
use Rattle.search.specs.declared.visit.Fills.{Fills}
use Rattle.search.specs.visit.Visits.{Stored, segments_in, VisitsAll}
use Rattle.search.specs.Fills.{Filled}

abbrev pub no_rows : Fills
no_rows = record { placed = record { rows = 0; over = false }; noted = record { rows = 0; over = false } }

-- blank heads and memory of zeros are a table of nothing
starts : {A R : Type 0} (s : Sheet A R) (library before m heads : List ℕ) → m ≡ zeros (length before) → Blank (length before) heads → Tabled s library [] (table m heads (record { rows = 0; over = false }))
starts s library before m heads z blank =
    let long : length m ≡ length before = ap length z ∙ length-replicate (length before) 0 in
    table-starts s library m heads (z ∙ ap zeros (sym long)) (rw long blank)

-- where there is room the fill is the number of rows
fill_is : {count : ℕ} (f : Fill) → f.over ≡ false → f.rows ≡ count → f ≡ record { rows = count; over = false }
fill_is f e n = rw (← e, ← n) refl

module _ (cells : List ℕ) (a : Asked) (library : List ℕ) (t : Stored) (n : ℕ) (placed₀ positions₀ noted₀ goals₀ placed₁ noted₁ placed₂ positions₂ noted₂ goals₂ : List ℕ) (f : Fills)
    (clear-placed : placed₁ ≡ zeros (length placed₀)) (clear-noted : noted₁ ≡ zeros (length noted₀))
    (placed-long : length placed₂ ≡ length placed₁) (noted-long : length noted₂ ≡ length noted₁)
    (v : VisitsAll cells a library t n placed₁ positions₀ noted₁ goals₀ no_rows placed₂ positions₂ noted₂ goals₂ f)
    (blank-positions : Blank (length placed₀) positions₀) (blank-goals : Blank (length noted₀) goals₀) where
  all_placed : Tabled placed_sheet library (placed library cells a (segments_in t n)) (table placed₂ positions₂ f.placed)
  unfolding placed
  all_placed = v.places [] (starts placed_sheet library placed₀ placed₁ positions₀ clear-placed blank-positions)

  all_noted : Tabled noted_sheet library (noted library cells a (segments_in t n)) (table noted₂ goals₂ f.noted)
  unfolding noted
  all_noted = v.notes [] (starts noted_sheet library noted₀ noted₁ goals₀ clear-noted blank-goals)

  placed_same : length placed₂ ≡ length placed₀
  placed_same = placed-long ∙ ap length clear-placed ∙ length-replicate (length placed₀) 0

  noted-same : length noted₂ ≡ length noted₀
  noted-same = noted-long ∙ ap length clear-noted ∙ length-replicate (length noted₀) 0

  pub rows-filled : Filled cells a library (segments_in t n) placed₀ noted₀ placed₂ positions₂ noted₂ goals₂ f
  unfolding placed_numbers noted_numbers
  rows-filled =
      let ps = placed library cells a (segments_in t n) in
      let ns = noted library cells a (segments_in t n) in
      record {
        places = record {
          fits = λ e. let d = table_done placed_sheet library {xs = ps} {t = table placed₂ positions₂ f.placed} all_placed e in (d.0 ∙ ap (λ k. padded k (placed_numbers library ps)) placed_same, d.1);
          room = λ e h. let d = table_done placed_sheet library {xs = ps} {t = table placed₂ positions₂ f.placed} all_placed e in omega (arith, h, d.2, placed_same);
          over = λ e. omega (arith, table-full placed_sheet library {xs = ps} {t = table placed₂ positions₂ f.placed} all_placed e, placed_same);
        };
        notes = record {
          fits = λ e. let d = table_done noted_sheet library {xs = ns} {t = table noted₂ goals₂ f.noted} all_noted e in (d.0 ∙ ap (λ k. padded k (noted_numbers library ns)) noted-same, d.1);
          room = λ e h. let d = table_done noted_sheet library {xs = ns} {t = table noted₂ goals₂ f.noted} all_noted e in omega (arith, h, d.2, noted-same);
          over = λ e. omega (arith, table-full noted_sheet library {xs = ns} {t = table noted₂ goals₂ f.noted} all_noted e, noted-same);
        };
        sought = λ p q. record {
          placings = subst (λ g. Tabled placed_sheet library ps (table placed₂ positions₂ g)) (fill_is f.placed p (table_done placed_sheet library {xs = ps} {t = table placed₂ positions₂ f.placed} all_placed p).1) all_placed;
          notings = subst (λ g. Tabled noted_sheet library ns (table noted₂ goals₂ g)) (fill_is f.noted q (table_done noted_sheet library {xs = ns} {t = table noted₂ goals₂ f.noted} all_noted q).1) all_noted;
        };
      }

-- heads of zeros are ready for an index
pub zeros-ready : (image first next : List ℕ) → length image ≤ 65536 → length image ≤ length next → first ≡ zero_list 512 → Ready image first next
zeros-ready image first next few room f = record {
  few = few;
  heads = omega (arith, ap length f, zero-length 512);
  room = room;
  clear = λ byte l. ap (λ xs. slice_index xs byte) f ∙ zero-at 512 byte;
}
