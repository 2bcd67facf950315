-- The targets that the code works out are rule set 1's. Assumes nothing.
use Rattle.std.specs.Prelude.{ℕ, ◌+◌, ◌-◌, ◌%◌, ◌^◌, ◌≤◌, ◌<◌, ◌≡◌, refl, Bool, true, false, List, ltb, length, if◌then◌else◌}
use Rattle.std.proofs.Common.{sym, ap, ◌∙◌, arith, lt-ltb, le-ltb}
use Rattle.image.specs.View.{view, cell_at}
use Rattle.image.specs.declared.Stretch.{Stretch}
use Rattle.image.specs.Window.{is_apart}
use Rattle.image.proofs.WindowLaws.{is-apart}
use Rattle.image.specs.declared.fixup.Kind.{Kind}
use Rattle.image.specs.declared.fixup.Kind.TheVariants.{Relative, Word, Inblock}
use Rattle.image.specs.declared.fixup.Rules.TheVariants.{Documented}
use Rattle.image.specs.fixup.Target.{plus, signed, addr11, addr16, leads_to, reads, target}
use Rattle.image.proofs.fixup.TargetLaws.{Bytes}
use Rattle.image.proofs.fixup.AddressLaws.{target_at}
use Rattle.opcodes.specs.declared.Leads.{Leads}
use Rattle.opcodes.specs.declared.Leads.TheVariants.{Nowhere, PageJump, PageCall, LongJump, LongCall, ShortJump, LaterJump}
use Rattle.opcodes.specs.Lengths.{length_of}
use Rattle.opcodes.specs.Leads.{leads_of, lead_number, place_of, bytes_of}
use Rattle.opcodes.specs.OpcodeLaws.{ends-together}
use Rattle.routine.specs.declared.Row.{Row}
use Rattle.routine.specs.Step.{told_by, target_of, what_of}
use Rattle.routine.specs.Direct.{short_to, page_to, long_to, target_by, row_by}

-- sums at 64 bits, cut to 16
cut : (x : ℕ) → x % 2 ^ 64 % 65536 ≡ x % 65536
cut x = omega arith

cut_sum : (x y : ℕ) → (x % 65536 + y) % 65536 ≡ (x + y) % 65536
cut_sum x y = omega arith

sum16 : (m y : ℕ) → plus (m % 2 ^ 64) y % 65536 ≡ (m % 65536 + y) % 65536
sum16 m y = cut (m % 2 ^ 64 + y) ∙ sym (cut_sum (m % 2 ^ 64) y) ∙ ap (λ x. (x + y) % 65536) (cut m)

short-sum : (pos b : ℕ) → short_to (pos + 1) b ≡ plus (plus pos 1) (signed b) % 65536
short-sum pos b = go (ltb b 128)
  where
    high : (x : ℕ) → (x + (b + 65280)) % 65536 ≡ (x + (b + (2 ^ 64 - 256))) % 65536
    high x = omega arith

    go : (t : Bool) → ((pos + 1) % 65536 + (if t then b else b + 65280)) % 65536 ≡ plus (plus pos 1) (if t then b else b + (2 ^ 64 - 256)) % 65536
    go true = sym (sum16 (pos + 1) b)
    go false = high ((pos + 1) % 65536) ∙ sym (sum16 (pos + 1) (b + (2 ^ 64 - 256)))

page-sum : (pos a b : ℕ) → a < 256 → b < 256 → page_to (pos + 2) a b ≡ addr11 Documented pos a b % 65536
page-sum pos a b h l = omega arith

long-sum : (a b : ℕ) → a < 256 → b < 256 → long_to a b ≡ addr16 a b % 65536
long-sum a b h l = omega arith

-- a jump by a signed byte, of either sign; and the row of an instruction by where it leads
pub short-low : (next b : ℕ) → b < 128 → (next % 65536 + b) % 65536 ≡ short_to next b
short-low next b h = rw (lt-ltb b 128 h)

pub short-high : (next b : ℕ) → 128 ≤ b → (next % 65536 + b + 65280) % 65536 ≡ short_to next b
short-high next b h = rw (le-ltb b 128 h) (omega arith)

pub row-by : (image : List ℕ) (at next opcode : ℕ) (l : Leads) {t : ℕ} → leads_of opcode ≡ l → t ≡ target_by image next opcode l
    → ◌≡◌ {A = Row} (record { address = at; what = what_of l t }) (row_by image at next opcode)
row-by image at next opcode l e q = rw (q, e)

-- an LJMP and an LCALL have three bytes
long-ends : (opcode : ℕ) (l : Leads) → opcode < 256 → leads_of opcode ≡ l → place_of l + bytes_of l ≡ 3 → 0 < lead_number l → length_of opcode ≡ 3
long-ends opcode l h e three some = sym (rw e at (ends-together opcode h (rw e some))) ∙ three

pub long_jump : (opcode : ℕ) → opcode < 256 → leads_of opcode ≡ LongJump → length_of opcode ≡ 3
long_jump opcode h e = long-ends opcode LongJump h e refl (omega arith)

pub long_call : (opcode : ℕ) → opcode < 256 → leads_of opcode ≡ LongCall → length_of opcode ≡ 3
long_call opcode h e = long-ends opcode LongCall h e refl (omega arith)

-- an instruction of n bytes that can be read
module _ (image : List ℕ) (s : List Stretch) (bytes : Bytes image) (at n : ℕ) (fit : at + n ≤ length image) (apart : is_apart s at n ≡ true) where
  abbrev cells : List ℕ
  cells = view image s

  part : (p w : ℕ) → p + w ≡ n → is_apart s (at + p) w ≡ true
  part p w e = (is-apart s (at + p) w).1 (λ i l m h. (is-apart s at n).0 apart i (omega arith) (omega (arith, e, m)) h)

  -- a reference that ends with it
  told : (p : ℕ) (kind : Kind) → p + reads kind ≡ n → (r : ℕ) → r ≡ leads_to Documented (at + p) kind (cell_at image (at + p)) (cell_at image (at + p + 1)) → r < 2 ^ 64
      → r % 65536 ≡ told_by (target cells Documented (at + p) kind 0)
  told p kind e r q l =
      ap told_by (target_at image s bytes Documented (at + p) 0 kind (cell_at image (at + p)) (cell_at image (at + p + 1)) r r
      (omega (arith, e, fit)) (part p (reads kind) e) refl refl q l (omega arith) (omega arith))

  short : (p : ℕ) → p + 1 ≡ n → short_to (at + n) (cell_at image (at + n - 1)) ≡ told_by (target cells Documented (at + p) Relative 0)
  short p e =
      let last : at + n - 1 ≡ at + p = omega arith in
      let next : at + n ≡ at + p + 1 = omega arith in
      let b = cell_at image (at + p) in
      rw (last, next) (short-sum (at + p) b ∙ told p Relative e (plus (plus (at + p) 1) (signed b)) refl (omega arith))

  page : (p : ℕ) → p + 2 ≡ n → p ≡ 0 → page_to (at + n) (cell_at image at) (cell_at image (at + n - 1)) ≡ told_by (target cells Documented (at + p) Inblock 0)
  page p e z =
      let first : at ≡ at + p = omega arith in
      let last : at + n - 1 ≡ at + p + 1 = omega arith in
      let next : at + n ≡ at + p + 2 = omega arith in
      let a = cell_at image (at + p) in
      let b = cell_at image (at + p + 1) in
      ap (λ i. page_to (at + n) (cell_at image i) (cell_at image (at + n - 1))) first
      ∙ rw (last, next) (page-sum (at + p) a b (bytes (at + p)) (bytes (at + p + 1)) ∙ told p Inblock e (addr11 Documented (at + p) a b) refl (omega arith))

  long : (p : ℕ) → p + 2 ≡ n → long_to (cell_at image (at + n - 2)) (cell_at image (at + n - 1)) ≡ told_by (target cells Documented (at + p) Word 0)
  long p e =
      let first : at + n - 2 ≡ at + p = omega arith in
      let last : at + n - 1 ≡ at + p + 1 = omega arith in
      let a = cell_at image (at + p) in
      let b = cell_at image (at + p + 1) in
      rw (first, last) (long-sum a b (bytes (at + p)) (bytes (at + p + 1)) ∙ told p Word e (addr16 a b) refl (omega (arith, bytes (at + p), bytes (at + p + 1))))

  -- whichever it is
  target_is : (l : Leads) → (0 < lead_number l → place_of l + bytes_of l ≡ n) → target_by image (at + n) (cell_at image at) l ≡ target_of cells at l
  target_is Nowhere e = refl
  target_is PageJump e = page 0 (e (omega arith)) refl
  target_is PageCall e = page 0 (e (omega arith)) refl
  target_is LongJump e = long 1 (e (omega arith))
  target_is LongCall e = long 1 (e (omega arith))
  target_is ShortJump e = short 1 (e (omega arith))
  target_is LaterJump e = short 2 (e (omega arith))

  pub row_is : n ≡ length_of (cell_at image at)
      → ◌≡◌ {A = Row} (row_by image at (at + n) (cell_at image at)) (record { address = at; what = what_of (leads_of (cell_at image at)) (target_of cells at (leads_of (cell_at image at))) })
  row_is e =
      let l = leads_of (cell_at image at) in
      ap (λ t. record { address = at; what = what_of l t }) (target_is l (λ h. ends-together (cell_at image at) (bytes at) h ∙ sym e))
