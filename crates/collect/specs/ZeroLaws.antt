-- Tables of zeros are blank, so the collection can work in them. Assumes nothing.
use Rattle.std.specs.Prelude.{ℕ, ◌*◌, ◌<◌, ◌≤◌, ◌≡◌, List, [], length}
use Rattle.std.proofs.Common.{arith}
use Rattle.module_ids.specs.Noted.{Tells}
use Rattle.module_ids.proofs.ClearLaws.{zeros-tell}
use Rattle.module_index.specs.Indexed.{Blank}
use Rattle.module_index.specs.IndexedTableLaws.{zeros-blank}
use Rattle.collect.specs.all_modules.Modules.{Workable}
use Rattle.collect.specs.Sizes.{Sizes}
use Rattle.tables.specs.zeros.Zeros.{zero_list, repeated}
use Rattle.tables.specs.zeros.ZeroLaws.{zero-length, zero-list}

zero-tells : (n : ℕ) → 65536 * 3 ≤ n → Tells [] (zero_list n)
unfolding repeated
zero-tells n h = zeros-tell n h

pub table-tells : {table : List ℕ} → table ≡ zero_list 196608 → Tells [] table
table-tells e = rw e (zero-tells 196608 (omega arith))

-- tables of zeros, of the lengths that the library's length asks for
pub zeros-size : {library contents definitions : List ℕ} (n k : ℕ) → contents ≡ zero_list n → definitions ≡ zero_list k → length library ≤ 1048576 → length library ≤ 7 * n → length library ≤ 6 * k → n ≤ 149797 → k ≤ 174848
    → Sizes library contents definitions
zeros-size n k c d s a b f g = rw (c, d) (record {
  short = s;
  for-contents = rw (zero-length n) a;
  for-publics = rw (zero-length k) b;
  few-contents = rw (zero-length n) f;
  few-publics = rw (zero-length k) g;
})

heads-blank : (size : ℕ) {library things first : List ℕ} → length library ≤ size * length things → length library ≤ 1048576 → length things < 268435456 → first ≡ zero_list 65536 → Blank size library things first
heads-blank size r s f e = rw e (zeros-blank (record { room = r; short = s }) f (omega (arith, zero-length 65536)) (zero-list 65536))

pub tables-work : {library table contents first definitions heads apart : List ℕ} → Sizes library contents definitions → Tells [] table → first ≡ zero_list 65536 → heads ≡ zero_list 65536 → apart ≡ zero_list 65536
    → Workable library 0 table contents first definitions heads apart
tables-work s t f h p = record {
  tells = t;
  sections = heads-blank 7 s.for-contents s.short (omega (arith, s.few-contents)) f;
  publics = heads-blank 6 s.for-publics s.short (omega (arith, s.few-publics)) h;
  masks = rw (p, zero-length 65536) (omega arith);
  few-publics = s.few-publics;
  few = omega (arith, s.short);
  short = s.short;
}
