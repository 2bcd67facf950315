-- The rows of the search can be found by key and name: they have what such a table asks for. Assumes nothing.
use Rattle.std.specs.Prelude.{refl}
use Rattle.std.proofs.Common.{arith}
use Rattle.tables.specs.by_name.Readable.{Reads}
use Rattle.search_rules.specs.SearchRows.{placed_sheet, noted_sheet}
use Rattle.search_rules.proofs.SearchLayoutLaws.{placed-width, noted-width, placed-back, noted_back}

pub placed-reads : Reads placed_sheet
placed-reads = record {
  wide = placed-width;
  back = placed-back;
  some = omega arith;
  keyed = λ x link alike. refl;
  placed = λ x link alike. refl;
  long = λ x link alike. refl;
  leads = λ x link alike. refl;
}

pub noted-reads : Reads noted_sheet
noted-reads = record {
  wide = noted-width;
  back = noted_back;
  some = omega arith;
  keyed = λ x link alike. refl;
  placed = λ x link alike. refl;
  long = λ x link alike. refl;
  leads = λ x link alike. refl;
}
