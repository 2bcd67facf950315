-- Reading, place by place, on small files: document 01's printed library, and a file for each of 5 to 8, in either
-- edition; for edition 2 a file for 14, and one for each way of 15. Assumes nothing.
use Rattle.std.specs.Prelude.{ℕ, ◌+◌, ◌≤◌, ◌≡◌, refl, Bool, true, false, not, ◌&&◌, List, [], ◌∷◌, ◌++◌, eqb, leb, length}
use Rattle.std.proofs.Common.{arith, leb-true, eqb-true}
use Rattle.std.proofs.lemmas.Bool.{eqb-false}
use Rattle.lent.specs.ChoiceLaws.{both}
use Rattle.lent.specs.Lists.{any, total}
use Rattle.lent.specs.Parts.{same, byte_at}
use Rattle.omf51.specs.declared.Edition.{Edition}
use Rattle.omf51.specs.declared.Edition.TheVariants.{One, Two}
use Rattle.omf51.specs.Record.{record_sum}
use Rattle.omf51.specs.Reaches.{Begun, State, opening, header, definitions, contents, fixups, ending, expects, length_at, frame_of, behind, name_in, entries_end, least, used, Whole}
use Rattle.omf51.specs.Reaches.{Summed, UsedUp, Taken, other-type, ComesTo, is-library, is-bare, opened, headed, defined, all-defined, filled, all-fixed, all-filled, ended, no_header}
use Rattle.omf51.specs.Reaches.{NothingRead, no-first-header, lacks-28, BodyPasses, LengthIsZero, NamesApart, AllRead, bare-header, SumIsWrong, LeavesOver, in_body, in-file, FileRead}

-- a record is whole if these tests pass
abbrev is_whole : List ℕ → State → ℕ → Bool
is_whole library s at =
    expects s (byte_at library at) && (leb (at + 3) (length library) && (not (eqb (length_at library at) 0)
    && leb (at + 3 + length_at library at) (length library)))

whole : (library : List ℕ) (s : State) (at : ℕ) → is_whole library s at ≡ true → Whole library s at
whole library s at t =
    let a = both (expects s (byte_at library at)) _ t in
    let b = both (leb (at + 3) (length library)) _ a.1 in
    let c = both (not (eqb (length_at library at) 0)) _ b.1 in record {
      expected = record { allowed = a.0; lengths = leb-true (at + 3) (length library) b.0 };
      long = eqb-false (length_at library at) 0 (fails (eqb (length_at library at) 0) c.0);
      closed = leb-true (at + 3 + length_at library at) (length library) c.1;
    }
  where
    fails : (t : Bool) → not t ≡ true → t ≡ false
    fails true q = let z : ◌≡◌ {A = ℕ} 0 1 = cc in absurd (omega arith)
    fails false q = refl

-- what goes up to its end is used up in either edition
used-up-by : (e : Edition) (last end : ℕ) → end ≤ last → UsedUp e last end
used-up-by One last end h = tt
used-up-by Two last end h = h

-- a record is taken in either edition if it is whole and sums to 0, and its body is long enough and used up
abbrev takes : List ℕ → State → ℕ → Bool
takes library s at =
    let f = frame_of library at in
    is_whole library s at && (eqb (record_sum library at (behind library at)) 0 && (leb (least library s f) f.end && leb f.end (used library s f)))

taken : (e : Edition) (library : List ℕ) (s : State) (at : ℕ) → takes library s at ≡ true → Taken e library s at
taken e library s at t =
    let f = frame_of library at in
    let a = both (is_whole library s at) _ t in
    let b = both (eqb (record_sum library at (behind library at)) 0) _ a.1 in
    let c = both (leb (least library s f) f.end) _ b.1 in record {
      whole = whole library s at a.0;
      summed = summed e (eqb-true (record_sum library at (behind library at)) 0 b.0);
      body = leb-true (least library s f) f.end c.0;
      used-up = used-up-by e (used library s f) f.end (leb-true f.end (used library s f) c.1);
    }
  where
    summed : (e : Edition) → record_sum library at (behind library at) ≡ 0 → Summed e library at
    summed One z = tt
    summed Two z = z

-- document 01's printed library: a header, two definitions, a content, an end
abbrev head_m : List ℕ
head_m = 0x02 ∷ 0x05 ∷ 0x00 ∷ 0x01 ∷ 0x4d ∷ 0x00 ∷ 0x00 ∷ 0xab ∷ []

abbrev end_m : List ℕ
end_m = 0x04 ∷ 0x07 ∷ 0x00 ∷ 0x01 ∷ 0x4d ∷ 0x00 ∷ 0x00 ∷ 0x00 ∷ 0x00 ∷ 0xa7 ∷ []

abbrev printed : List ℕ
printed =
    head_m
    ++ (0x0e ∷ 0x0b ∷ 0x00 ∷ 0x01 ∷ 0x00 ∷ 0x01 ∷ 0x00 ∷ 0x00 ∷ 0x00 ∷ 0x03 ∷ 0x00 ∷ 0x01 ∷ 0x53 ∷ 0x8e
    ∷ 0x16 ∷ 0x0e ∷ 0x00 ∷ 0x01 ∷ 0x00 ∷ 0x00 ∷ 0x00 ∷ 0x00 ∷ 0x07 ∷ 0x3f ∷ 0x43 ∷ 0x3f ∷ 0x4c ∷ 0x41 ∷ 0x44 ∷ 0x44 ∷ 0xfe
    ∷ 0x06 ∷ 0x07 ∷ 0x00 ∷ 0x01 ∷ 0x00 ∷ 0x00 ∷ 0xe5 ∷ 0x25 ∷ 0x22 ∷ 0xc6 ∷ end_m)

-- a module that begins at 0 of a file
abbrev first : List ℕ → ℕ → Begun
first library at = record { before = 0; start = at; name = name_in library at }

pub comes-to-definitions : (e : Edition) → ComesTo e printed (definitions (first printed 0)) 22
unfolding any record_sum total entries_end
comes-to-definitions e =
    let m = first printed 0 in
    let bare : ComesTo e printed (header 0) 0 = is-bare (λ q. omega (arith, q)) in
    defined m 8 (headed 0 0 bare (taken e printed (header 0) 0 refl)) (taken e printed (definitions m) 8 refl)

pub comes-to-fixups : (e : Edition) → ComesTo e printed (fixups (first printed 0)) 49
unfolding any record_sum total entries_end
comes-to-fixups e =
    let m = first printed 0 in
    filled m 39 (all-defined m 39 (defined m 22 (comes-to-definitions e) (taken e printed (definitions m) 22 refl)) (other-type refl)) (taken e printed (contents m) 39 refl) refl

pub comes-to-end : (e : Edition) → ComesTo e printed (ending (first printed 0)) 49
unfolding any
comes-to-end e = let m = first printed 0 in all-filled m 49 (all-fixed m 49 (comes-to-fixups e) (other-type refl)) (other-type refl)

pub printed-is-read : (e : Edition) → FileRead e printed
unfolding any same record_sum total
printed-is-read e =
    let m = first printed 0 in record {
      last = 59;
      all = bare-header 0 59 (λ q. omega (arith, q)) (ended m 49 (comes-to-end e) (taken e printed (ending m) 49 refl) refl) (other-type refl);
      used-up = used-up-by e 59 59 (omega arith);
    }

-- 5: an empty file; and a library of one module that lacks its 28h record
pub empty-file : (e : Edition) → NothingRead e []
empty-file e = no-first-header 0 (is-bare (λ q. omega (arith, q))) (other-type refl)

abbrev unclosed : List ℕ
unclosed = 0x2c ∷ 0x01 ∷ 0x00 ∷ 0xd3 ∷ head_m ++ end_m

pub lacks-closing : (e : Edition) → NothingRead e unclosed
unfolding any same record_sum total
lacks-closing e =
    let m = first unclosed 4 in
    let head = headed 0 4 (opened 0 (is-library refl) (taken e unclosed opening 0 refl)) (taken e unclosed (header 0) 4 refl) in
    let end = all-filled m 12 (all-defined m 12 head (other-type refl)) (other-type refl) in
    lacks-28 22 (no_header 0 22 refl (ended m 12 end (taken e unclosed (ending m) 12 refl) refl) (other-type refl)) (other-type refl)

-- 6: a header of which only the type and the length are there; 7: one of length 0
pub body-passes : (e : Edition) → BodyPasses e (0x02 ∷ 0x05 ∷ 0x00 ∷ [])
body-passes e = record {
  state = header 0;
  at = 0;
  comes = is-bare (λ q. omega (arith, q));
  here = record { expected = record { allowed = refl; lengths = omega arith }; long = λ q. omega (arith, q); past = omega arith };
}

pub length-is-zero : (e : Edition) → LengthIsZero e (0x02 ∷ 0x00 ∷ 0x00 ∷ [])
length-is-zero e = record {
  state = header 0;
  at = 0;
  comes = is-bare (λ q. omega (arith, q));
  here = record { expected = record { allowed = refl; lengths = omega arith }; zero-length = refl };
}

-- 8: the header says M, the end N
abbrev renamed : List ℕ
renamed = head_m ++ (0x04 ∷ 0x07 ∷ 0x00 ∷ 0x01 ∷ 0x4e ∷ 0x00 ∷ 0x00 ∷ 0x00 ∷ 0x00 ∷ 0xa6 ∷ [])

pub names_apart : (e : Edition) → NamesApart e renamed
unfolding any same record_sum total
names_apart e =
    let m = first renamed 0 in
    let bare : ComesTo e renamed (header 0) 0 = is-bare (λ q. omega (arith, q)) in
    let head = headed 0 0 bare (taken e renamed (header 0) 0 refl) in record {
      begun = m;
      at = 8;
      comes = all-filled m 8 (all-defined m 8 head (other-type refl)) (other-type refl);
      taken = taken e renamed (ending m) 8 refl;
      differ = refl;
    }

-- 14: a header whose checksum is one too many
abbrev mis_summed : List ℕ
mis_summed = 0x02 ∷ 0x05 ∷ 0x00 ∷ 0x01 ∷ 0x4d ∷ 0x00 ∷ 0x00 ∷ 0xac ∷ []

pub sum-is-wrong : SumIsWrong Two mis_summed
unfolding record_sum total
sum-is-wrong = record {
  state = header 0;
  at = 0;
  comes = is-bare (λ q. omega (arith, q));
  here = record { second = refl; whole = whole mis_summed (header 0) 0 refl; wrong = λ q. omega (arith, q) };
}

-- 15: a header with a byte behind its name and its two bytes
abbrev long_header : List ℕ
long_header = 0x02 ∷ 0x06 ∷ 0x00 ∷ 0x01 ∷ 0x4d ∷ 0x00 ∷ 0x00 ∷ 0x00 ∷ 0xaa ∷ []

pub header-leaves-over : LeavesOver Two long_header
unfolding record_sum total
header-leaves-over =
    in_body (header 0) 0 (is-bare (λ q. omega (arith, q)))
    (record { second = refl; whole = whole long_header (header 0) 0 refl; summed = refl; body = omega arith; left = omega arith })

-- 15: a public name A, and the first byte of a second entry
abbrev partial : List ℕ
partial = head_m ++ (0x16 ∷ 0x09 ∷ 0x00 ∷ 0x01 ∷ 0x00 ∷ 0x00 ∷ 0x00 ∷ 0x00 ∷ 0x01 ∷ 0x41 ∷ 0x02 ∷ 0x9c ∷ [])

pub entry-leaves-over : LeavesOver Two partial
unfolding any record_sum total entries_end
entry-leaves-over =
    let m = first partial 0 in
    in_body (definitions m) 8 (headed 0 0 (is-bare (λ q. omega (arith, q))) (taken Two partial (header 0) 0 refl))
    (record { second = refl; whole = whole partial (definitions m) 8 refl; summed = refl; body = omega arith; left = omega arith })

-- 15: a byte behind the last module, which edition 1 ignores
abbrev trailed : List ℕ
trailed = head_m ++ (end_m ++ (0x1a ∷ []))

trailed-read : (e : Edition) → AllRead e trailed 18
unfolding any same record_sum total
trailed-read e =
    let m = first trailed 0 in
    let bare : ComesTo e trailed (header 0) 0 = is-bare (λ q. omega (arith, q)) in
    let head = headed 0 0 bare (taken e trailed (header 0) 0 refl) in
    let end = all-filled m 8 (all-defined m 8 head (other-type refl)) (other-type refl) in
    bare-header 0 18 (λ q. omega (arith, q)) (ended m 8 end (taken e trailed (ending m) 8 refl) refl) (other-type refl)

pub trailed-is-read : FileRead One trailed
trailed-is-read = record { last = 18; all = trailed-read One; used-up = tt }

pub file-leaves-over : LeavesOver Two trailed
file-leaves-over = in-file 18 refl (trailed-read Two) (omega arith)
