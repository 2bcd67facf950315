-- Laws of the file: counting its modules, and its closing records. Assumes nothing.
use Rattle.std.specs.Prelude.{Result}
use Prim.Native.Nat.{ℕ, suc}
use Rattle.std.specs.Prelude.{◌≡◌, Bool, true, List, [], ◌∷◌, length, if◌then◌else◌}
use Rattle.std.proofs.Math.Path.{refl, ap}
use Rattle.std.proofs.Common.{sym, ◌∙◌, arith}
use Rattle.std.proofs.Math.Bool.{false}
use borrow.Author.Tests.{eq-eqb, ne_eqb}
use Rattle.std.proofs.Math.Dec.{eqb}
use Rattle.lent.specs.declared.refusal.Refusal.{Refusal}
use Rattle.lent.specs.declared.refusal.Refusal.TheVariants.{NoModule, LeftOver}
use Rattle.lent.specs.Parts.{byte_at}
use Rattle.omf51.specs.declared.Edition.{Edition}
use Rattle.omf51.specs.declared.Edition.TheVariants.{One, Two}
use Rattle.omf51.specs.Ends.{End}
use Rattle.std.specs.Prelude.{Some, None, Ok, Err}
use Rattle.omf51.specs.declared.Frame.{Frame}
use Rattle.omf51.specs.Reader.{ReadOutcome, read, stop, refused, and_then, ◌>>=◌, give, many, not_empty}
use Rattle.omf51.specs.Record.{leaves_over, expected_by, used_up, whole}
use Rattle.omf51.proofs.RecordLaws.{record-framed, used_all, not-expected, read_first}
use Rattle.omf51.specs.Module.{Module, module_by}
use Rattle.omf51.specs.File.{modules_by, plain_by, library_by, file_read, file_used, file_by}
use Rattle.omf51.specs.Expected.{one_type}
use Rattle.omf51.specs.Ends.{end_of}
use Rattle.library.specs.declared.Counted.{Counted}
use Rattle.library.specs.declared.Reading.{Reading}
use Rattle.library.specs.EndLaws.{then_end}
use Rattle.library.specs.PassLaws.{whole-end}
use Rattle.library.specs.Reading.{count_of, reading_of, reading, type_end}

-- the three closing records
abbrev pub closing_end : Edition → List ℕ → ℕ → End
closing_end e library at = then_end (λ b. then_end (type_end e library 0x2a) (type_end e library 0x26 b)) (type_end e library 0x28 at)

-- what reading comes to where it ended well: 15 in edition 2 if bytes are left behind that
abbrev pub used_reading : Edition → List ℕ → ℕ → ℕ → ℕ → Result Reading Refusal
used_reading e library first count end = if leaves_over e end (length library) then Err LeftOver else Ok (record { first = first; count = count })

-- what a library comes to, by its modules and its closing records
abbrev closed_reading : Edition → List ℕ → ℕ → ℕ → End → Result Reading Refusal
closed_reading e library first count (Ok (Some end)) = used_reading e library first count end
closed_reading e library first count (Ok None) = Err NoModule
closed_reading e library first count (Err r) = Err r

abbrev counted_reading : Edition → List ℕ → ℕ → Result Counted Refusal → Result Reading Refusal
counted_reading e library first (Ok m) = closed_reading e library first m.count (closing_end e library m.next)
counted_reading e library first (Err r) = Err r

unfoldable pub library_reading : Edition → List ℕ → ℕ → Result Reading Refusal
library_reading e library first = counted_reading e library first (count_of (modules_by e library first))

abbrev bare_reading : Edition → List ℕ → ℕ → Result Counted Refusal → Result Reading Refusal
bare_reading e library first (Ok m) = used_reading e library first m.count m.next
bare_reading e library first (Err r) = Err r

abbrev least_of : Result Counted Refusal → Result Counted Refusal
least_of (Ok m) = if eqb m.count 0 then Err NoModule else Ok m
least_of (Err r) = Err r

-- a record of one type, by its frame
pub type-known : (e : Edition) (library : List ℕ) (type at : ℕ) {o : ReadOutcome Frame} → expected_by e library (one_type type) at ≡ o → type_end e library type at ≡ end_of o
type-known e library type at q = whole-end tt e library (one_type type) at q

-- at least one module: none in a row is refusal 5
module _ (e : Edition) (library : List ℕ) (at : ℕ) where
  least-count : {c : Result Counted Refusal} → count_of (many library (module_by e library) at) ≡ c → count_of (modules_by e library at) ≡ least_of c
  least-count q = go (many library (module_by e library) at) ∙ ap least_of q
    where
      go : (o : ReadOutcome (List Module)) → count_of (and_then o not_empty) ≡ least_of (count_of o)
      go (read [] next) = refl
      go (read (m ∷ ms) next) = let some : suc (length ms) ≡ 0 → ⊥ = omega arith in rw (ne_eqb (suc (length ms)) 0 some)
      go stop = refl
      go (refused r) = refl

  pub none-counted : {m : Counted} → count_of (many library (module_by e library) at) ≡ Ok m → m.count ≡ 0 → count_of (modules_by e library at) ≡ Err NoModule
  none-counted q z = least-count q ∙ rw z

  pub some-counted : {m : Counted} → count_of (many library (module_by e library) at) ≡ Ok m → (m.count ≡ 0 → ⊥) → count_of (modules_by e library at) ≡ Ok m
  some-counted {m} q z = least-count q ∙ rw (ne_eqb m.count 0 z)

  pub count-refused : {r : Refusal} → count_of (many library (module_by e library) at) ≡ Err r → count_of (modules_by e library at) ≡ Err r
  count-refused q = least-count q

-- what a library comes to
module _ (e : Edition) (library : List ℕ) (first : ℕ) where
  pub library-known : {c : Result Counted Refusal} → count_of (modules_by e library first) ≡ c → library_reading e library first ≡ counted_reading e library first c
  unfolding library_reading
  library-known q = rw q

  pub library-closed : {m : Counted} {x : End} → count_of (modules_by e library first) ≡ Ok m → closing_end e library m.next ≡ x
      → library_reading e library first ≡ closed_reading e library first m.count x
  library-closed {m} c q = library-known c ∙ ap (closed_reading e library first m.count) q

-- what is read of a file, asked whether it is used up
module _ (e : Edition) (library : List ℕ) (first : ℕ) where
  used-read : (ms : List Module) (end : ℕ) → reading_of first (file_used e library (read ms end)) ≡ used_reading e library first (length ms) end
  used-read ms end = go e
    where
      two : (t : Bool) → reading_of first (if t then refused LeftOver else read ms end) ≡ (if t then Err LeftOver else Ok (record { first = first; count = length ms }))
      two true = refl
      two false = refl

      go : (e : Edition) → reading_of first (file_used e library (read ms end)) ≡ used_reading e library first (length ms) end
      go One = refl
      go Two = two (leaves_over Two end (length library))

  used-stop : reading_of first (file_used e library stop) ≡ Err NoModule
  used-stop = go e
    where
      go : (e : Edition) → reading_of first (file_used e library stop) ≡ Err NoModule
      go One = refl
      go Two = refl

  used-refused : (r : Refusal) → reading_of first (file_used e library (refused r)) ≡ Err r
  used-refused r = go e
    where
      go : (e : Edition) → reading_of first (file_used e library (refused r)) ≡ Err r
      go One = refl
      go Two = refl

  -- one closing record after another
  closing : (ms : List Module) (o : ReadOutcome Unit) (rest : ℕ → ReadOutcome (List Module)) (end : ℕ → End)
      → ((k : ℕ) → reading_of first (file_used e library (rest k)) ≡ closed_reading e library first (length ms) (end k))
      → reading_of first (file_used e library (and_then o λ _ k. rest k)) ≡ closed_reading e library first (length ms) (then_end end (end_of o))
  closing ms (read f k) rest end h = h k
  closing ms stop rest end h = used-stop
  closing ms (refused r) rest end h = used-refused r

  closed : (ms : List Module) (o : ReadOutcome Unit) → reading_of first (file_used e library (and_then o λ _. give ms)) ≡ closed_reading e library first (length ms) (end_of o)
  closed ms (read f k) = used-read ms k
  closed ms stop = used-stop
  closed ms (refused r) = used-refused r

  -- the readings of document 01: 2Ch and its closing records, or bare modules
  counted-reading : (o : ReadOutcome (List Module)) {c : Result Counted Refusal} → count_of o ≡ c → reading_of first (file_used e library o) ≡ bare_reading e library first c
  counted-reading o {c} q = go o ∙ ap (bare_reading e library first) q
    where
      go : (o : ReadOutcome (List Module)) → reading_of first (file_used e library o) ≡ bare_reading e library first (count_of o)
      go (read modules next) = used-read modules next
      go stop = used-stop
      go (refused r) = used-refused r

module _ (e : Edition) (library : List ℕ) where
  pub bare-known : (byte_at library 0 ≡ 0x2c → ⊥) → {c : Result Counted Refusal} → count_of (modules_by e library 0) ≡ c → reading e library ≡ bare_reading e library 0 c
  unfolding reading file_by file_read
  bare-known n c =
      let other : eqb 0x2c (byte_at library 0) ≡ false = ne_eqb 0x2c (byte_at library 0) (λ e. n (sym e)) in
      rw (ne_eqb (byte_at library 0) 0x2c n, not-expected library (one_type 0x2c) 0 other) (counted-reading e library 0 (modules_by e library 0) c)

  module _ (is : byte_at library 0 ≡ 0x2c) where
    -- the 2Ch record, by its frame
    opened : {o : ReadOutcome Frame} → expected_by e library (one_type 0x2c) 0 ≡ o
        → file_read e library ≡ and_then o λ _ next. and_then (modules_by e library next) λ ms. do
          _ ← plain_by e library 0x28
          _ ← plain_by e library 0x26
          _ ← plain_by e library 0x2a
          give ms
    unfolding file_read library_by
    opened {o} q = rw (eq-eqb (byte_at library 0) 0x2c is, record-framed e library (one_type 0x2c) (whole (tt {0})) 0 q) (go o _)
      where
        go : (o : ReadOutcome Frame) (rest : ℕ → ReadOutcome (List Module))
            → and_then {A = Unit} (and_then {A = Frame} o λ f next. used_up {A = Unit} e f.end tt f.end next) (λ _ k. rest k) ≡ and_then {A = Frame} o (λ _ k. rest k)
        go (read f next) rest = ap (λ (x : ReadOutcome Unit). and_then {A = Unit} x λ _ k. rest k) (used_all {A = Unit} e f.end tt f.end next (omega arith))
        go stop rest = refl
        go (refused r) rest = refl

    pub library-read : {f : Frame} {next : ℕ} → expected_by e library (one_type 0x2c) 0 ≡ read f next → reading e library ≡ library_reading e library next
    unfolding reading file_by library_reading
    library-read {f} {next} q = rw (opened q, read_first library (one_type 0x2c) 0 e q) (go (modules_by e library next))
      where
        go : (o : ReadOutcome (List Module))
            → reading_of next (file_used e library (and_then o λ ms. do
              _ ← plain_by e library 0x28
              _ ← plain_by e library 0x26
              _ ← plain_by e library 0x2a
              give ms))
            ≡ counted_reading e library next (count_of o)
        go (read ms n) =
            closing e library next ms (plain_by e library 0x28 n) _ _ λ a.
            closing e library next ms (plain_by e library 0x26 a) _ _ λ b.
            closed e library next ms (plain_by e library 0x2a b)
        go stop = used-stop e library next
        go (refused r) = used-refused e library next r

    pub library-halts : expected_by e library (one_type 0x2c) 0 ≡ stop → reading e library ≡ Err NoModule
    unfolding reading file_by
    library-halts q = rw (opened q) (used-stop e library _)

    pub library-refuses : {r : Refusal} → expected_by e library (one_type 0x2c) 0 ≡ refused r → reading e library ≡ Err r
    unfolding reading file_by
    library-refuses {r} q = rw (opened q) (used-refused e library _ r)
