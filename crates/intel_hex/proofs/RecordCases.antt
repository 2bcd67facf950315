-- What stands at a place of a text, in words: each number of a record exactly in its case. Assumes nothing.
use Rattle.std.specs.Prelude.{ℕ, ◌+◌, ◌≤◌, ◌<◌, ◌≡◌, refl, not, Option, Some, None, Ok, Err, List, leb, ltb, eqb, length}
use Rattle.std.proofs.Common.{sym, ap, subst, ◌∙◌, arith, eqb-true, ltb-true, ltb-false, leb-true, leb-false, eq-eqb, ne_eqb, lt-ltb, le-ltb}
use Rattle.std.proofs.lemmas.Bool.{eqb-false, not-true, not-false}
use Rattle.lent.specs.ChoiceLaws.{chosen}
use Rattle.intel_hex.specs.Record.{size_at, address_at, kind_at, sum_at, next_at, read_line, line_at, Step, step_of, record_at}
use Rattle.intel_hex.proofs.RecordLaws.{Parts, line-bad, line-whole, whole-line, bad-line, past-text, of-line}
use Rattle.intel_hex.specs.declared.HexRefusal.{HexRefusal}
use Rattle.intel_hex.specs.declared.HexRefusal.TheVariants.{ImageTooLong, NoRoom, BadText, WrongSum, OtherType, PastEnd, GivenTwice, NoEndRecord}
use Rattle.intel_hex.specs.declared.line.Line.{Line}
use Rattle.intel_hex.specs.declared.record.DataRecord.{DataRecord}

-- a record with a right sum: neither 20 nor 21
pub record Good (text : List ℕ) (at : ℕ) : Type 0 where
  pub within : at < length text
  pub parts : Parts text at
  pub sums : sum_at text at ≡ 0

-- a data record at these numbers
pub record Lies (text : List ℕ) (at address size next : ℕ) : Type 0 where
  pub good : Good text at
  pub kind : kind_at text at ≡ 0
  pub addressed : address ≡ address_at text at
  pub sizes : size ≡ size_at text at
  pub nexts : next ≡ next_at text at
  pub fits : address + size ≤ 65536

-- the faults that a record has by itself; a byte given twice, and those of the buffer, are none of them
abbrev pub Faulty : List ℕ → ℕ → HexRefusal → Type 0
Faulty text at BadText = (at < length text) × (Parts text at → ⊥)
Faulty text at WrongSum = (at < length text) × Parts text at × (sum_at text at ≡ 0 → ⊥)
Faulty text at OtherType = Good text at × (kind_at text at ≡ 1 → ⊥) × (kind_at text at ≡ 0 → ⊥)
Faulty text at PastEnd = Good text at × (kind_at text at ≡ 0) × (65536 < address_at text at + size_at text at)
Faulty text at NoEndRecord = length text ≤ at
Faulty text at ImageTooLong = ⊥
Faulty text at NoRoom = ⊥
Faulty text at GivenTwice = ⊥

abbrev pub Found : List ℕ → ℕ → Step → Type 0
Found text at (Ok (Some d)) = Lies text at d.address d.size d.next
Found text at (Ok None) = Good text at × (kind_at text at ≡ 1)
Found text at (Err r) = Faulty text at r

found : (text : List ℕ) (at : ℕ) → Found text at (record_at text at)
unfolding record_at
found text at = chosen (Found text at) (leb (length text) at) (leb-true (length text) at) (λ e. go (leb-false (length text) at e) (line_at text at) refl)
  where
    go : at < length text → (l : Option Line) → line_at text at ≡ l → Found text at (step_of text at l)
    go h None e = (h, bad-line text at e)
    go h (Some l) e =
        let w = whole-line text at e in
        chosen (Found text at) (not (eqb l.sum 0))
        (λ q. (h, w.parts, λ z. eqb-false l.sum 0 (not-true (eqb l.sum 0) q) (w.sums ∙ z))) λ q₁.
        let good : Good text at = record {
          within = h;
          parts = w.parts;
          sums = rw (← w.sums) (eqb-true l.sum 0 (not-false (eqb l.sum 0) q₁));
        } in
        chosen (Found text at) (eqb (kind_at text at) 1) (λ q. (good, eqb-true (kind_at text at) 1 q)) λ q₂.
        chosen (Found text at) (not (eqb (kind_at text at) 0))
        (λ q. (good, eqb-false (kind_at text at) 1 q₂, eqb-false (kind_at text at) 0 (not-true (eqb (kind_at text at) 0) q))) λ q₃.
        let kind = eqb-true (kind_at text at) 0 (not-false (eqb (kind_at text at) 0) q₃) in
        chosen (Found text at) (ltb 0x10000 (address_at text at + l.size))
        (λ q. (good, kind, omega (arith, ltb-true 0x10000 (address_at text at + l.size) q, w.sizes))) λ q₄. record {
          good = good;
          kind = kind;
          addressed = refl;
          sizes = w.sizes;
          nexts = w.nexts;
          fits = ltb-false 0x10000 (address_at text at + l.size) q₄;
        }

-- both ways: what stands at a place says what is found, and what is found says what stands there
pub found_at : (text : List ℕ) (at : ℕ) {t : Step} → record_at text at ≡ t → Found text at t
found_at text at e = subst (Found text at) e (found text at)

pub data_at : (text : List ℕ) (at : ℕ) {o : Option DataRecord} {d : DataRecord} → ◌≡◌ {A = Step} (Ok o) (record_at text at) → o ≡ Some d
    → Lies text at d.address d.size d.next
data_at text at {o} {d} e f = found_at text at {t = Ok (Some d)} (sym e ∙ ap Ok f)

module _ (text : List ℕ) (at : ℕ) where
  of-good : Good text at → {t : Step} → step_of text at (Some (read_line text at)) ≡ t
      → record_at text at ≡ t
  of-good g q = of-line text at g.within (line-whole text at g.parts) ∙ q

  faulty-is : (r : HexRefusal) → Faulty text at r → record_at text at ≡ Err r
  faulty-is BadText f = of-line text at f.0 (line-bad text at f.1)
  faulty-is WrongSum f = of-line text at f.0 (line-whole text at f.1) ∙ rw (ne_eqb (sum_at text at) 0 f.2)
  faulty-is OtherType f =
      of-good f.0 (rw (eq-eqb (sum_at text at) 0 f.0.sums, ne_eqb (kind_at text at) 1 f.1, ne_eqb (kind_at text at) 0 f.2))
  faulty-is PastEnd f =
      of-good f.0
      (rw (
        eq-eqb (sum_at text at) 0 f.0.sums,
        ne_eqb (kind_at text at) 1 (λ e. omega (arith, e, f.1)),
        eq-eqb (kind_at text at) 0 f.1,
        lt-ltb 0x10000 (address_at text at + size_at text at) f.2,
      ))
  faulty-is NoEndRecord f = past-text text at f
  faulty-is ImageTooLong f = absurd f
  faulty-is NoRoom f = absurd f
  faulty-is GivenTwice f = absurd f

  pub found-is : (t : Step) → Found text at t → record_at text at ≡ t
  found-is (Ok (Some d)) l =
      of-good l.good
      (rw (
        ← l.nexts,
        eq-eqb (sum_at text at) 0 l.good.sums,
        ne_eqb (kind_at text at) 1 (λ e. omega (arith, e, l.kind)),
        eq-eqb (kind_at text at) 0 l.kind,
        ← l.sizes,
        ← l.addressed,
        le-ltb 0x10000 (d.address + d.size) l.fits,
      ))
  found-is (Ok None) f = of-good f.0 (rw (eq-eqb (sum_at text at) 0 f.0.sums, eq-eqb (kind_at text at) 1 f.1))
  found-is (Err r) f = faulty-is r f
