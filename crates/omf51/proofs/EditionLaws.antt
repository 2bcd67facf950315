-- EDITION 2 IS STRICTER: what it reads edition 1 reads too, and it stops where edition 1 stops; else it refuses with what
-- edition 1 refuses with, or with 14 or 15. Assumes nothing.
use Rattle.std.specs.Prelude.{ℕ, zero, suc, ◌≡◌, Bool, eqb, length, if◌then◌else◌}
use Rattle.std.proofs.Math.Path.{refl}
use Rattle.std.proofs.Common.{sym, ap, ◌∙◌, arith}
use Rattle.std.proofs.Math.Bool.{true, false}
use mathlib.Core.List.{List, [], ◌++◌}
use Rattle.std.proofs.Math.Option.{some}
use Rattle.lent.specs.declared.refusal.Refusal.{Refusal}
use Rattle.lent.specs.declared.refusal.Refusal.TheVariants.{WrongSum, LeftOver}
use Rattle.lent.specs.Parts.{byte_at}
use Rattle.omf51.specs.declared.Edition.TheVariants.{One, Two}
use Rattle.omf51.specs.declared.Frame.{Frame}
use Rattle.omf51.specs.Reader.{ReadOutcome, read, stop, refused, Reader, and_then, after, repeat, not_empty}
use Rattle.omf51.specs.Record.{expected, record_sum, summed, expected_by, leaves_over, used_up, whole, record_by}
use Rattle.omf51.specs.Module.{Module, fills, is_idle, content_body, definitions_by, fixups_by, section_by, sections_by, module_by}
use Rattle.omf51.specs.File.{modules_by, plain_by, library_by, file_read, file_used, file_by, file, file_refusal}

-- the outcome of edition 2 beside that of edition 1
pub data Stricter {A : Type 0} (two one : ReadOutcome A) : Type 0 where
  same : two ≡ one → Stricter two one
  wrong : two ≡ refused WrongSum → Stricter two one
  over : two ≡ refused LeftOver → Stricter two one

-- one reader after another
then-stricter : {A B : Type 0} {a b : ReadOutcome A} (f g : A → Reader B) → Stricter a b → ((x : A) (next : ℕ) → Stricter (f x next) (g x next))
    → Stricter (and_then a f) (and_then b g)
then-stricter {A} {B} {a} {b} f g (same e) h = rw e (go b)
  where
    go : (o : ReadOutcome A) → Stricter (and_then o f) (and_then o g)
    go (read x next) = h x next
    go stop = same refl
    go (refused r) = same refl
then-stricter f g (wrong e) h = wrong (ap (λ o. and_then o f) e)
then-stricter f g (over e) h = over (ap (λ o. and_then o f) e)

-- a repetition: both stop at the same places
repeat-stricter : {A : Type 0} (two one : Reader (List A)) → ((at : ℕ) → Stricter (two at) (one at)) → (n : ℕ) (found : List A) (at : ℕ)
    → Stricter (repeat n two found at) (repeat n one found at)
unfolding repeat
repeat-stricter two one h zero found at = same refl
repeat-stricter {A} two one h (suc n) found at = go (h at) (repeat-stricter two one h n)
  where
    go : {a b : ReadOutcome (List A)} → Stricter a b → ((xs : List A) (k : ℕ) → Stricter (repeat n two xs k) (repeat n one xs k))
        → Stricter (after (repeat n two) found at a) (after (repeat n one) found at b)
    go {a} {b} (same e) rest = rw e (turn b)
      where
        turn : (o : ReadOutcome (List A)) → Stricter (after (repeat n two) found at o) (after (repeat n one) found at o)
        turn (read more next) = rest (found ++ more) next
        turn stop = same refl
        turn (refused r) = same refl
    go (wrong e) rest = wrong (ap (after (repeat n two) found at) e)
    go (over e) rest = over (ap (after (repeat n two) found at) e)

-- what was read, asked whether it is used up
used-stricter : {A : Type 0} (end : ℕ) (a : A) (left next : ℕ) → Stricter (used_up Two end a left next) (read a next)
used-stricter end a left next = go (leaves_over Two left end)
  where
    go : (t : Bool) → Stricter (if t then refused LeftOver else read a next) (read a next)
    go true = over refl
    go false = same refl

-- a record
module _ (library : List ℕ) (allowed : ℕ → Bool) (at : ℕ) where
  expected-stricter : Stricter (expected_by Two library allowed at) (expected_by One library allowed at)
  unfolding expected_by
  expected-stricter = go (expected library allowed at)
    where
      asked : (t : Bool) (o : ReadOutcome Frame) → Stricter (if t then o else refused WrongSum) o
      asked true o = same refl
      asked false o = wrong refl

      go : (o : ReadOutcome Frame) → Stricter (and_then o (summed library at)) o
      go (read f next) = asked (eqb (record_sum library at next) 0) (read f next)
      go stop = same refl
      go (refused r) = same refl

  record-stricter : {A : Type 0} (inner : Frame → Reader A) → Stricter (record_by Two library allowed inner at) (record_by One library allowed inner at)
  unfolding record_by
  record-stricter inner =
      then-stricter _ _ expected-stricter λ f next. then-stricter {a = inner f f.body} {b = inner f f.body} _ _ (same refl) λ a left. used-stricter f.end a left next

-- a module, and all of them
module _ (library : List ℕ) where
  definitions-stricter : (at : ℕ) → Stricter (definitions_by Two library at) (definitions_by One library at)
  unfolding definitions_by
  definitions-stricter at = record-stricter library _ at _

  fixups-stricter : (at : ℕ) → Stricter (fixups_by Two library at) (fixups_by One library at)
  unfolding fixups_by
  fixups-stricter at = record-stricter library _ at _

  sections-stricter : (at : ℕ) → Stricter (sections_by Two library at) (sections_by One library at)
  unfolding sections_by section_by
  sections-stricter at = go (fills (byte_at library at))
    where
      go : (t : Bool) → Stricter (if t then section_by Two library at else record_by Two library is_idle (whole []) at) (if t then section_by One library at else record_by One library is_idle (whole []) at)
      go true =
          then-stricter _ _ (record-stricter library fills at (content_body library)) λ content next.
          then-stricter _ _ (repeat-stricter (fixups_by Two library) (fixups_by One library) fixups-stricter _ [] next) λ fixups last. same refl
      go false = record-stricter library is_idle at (whole [])

  module-stricter : (at : ℕ) → Stricter (module_by Two library at) (module_by One library at)
  unfolding module_by
  module-stricter at =
      then-stricter _ _ (record-stricter library _ at _) λ name a.
      then-stricter _ _ (repeat-stricter (definitions_by Two library) (definitions_by One library) definitions-stricter _ [] a) λ definitions b.
      then-stricter _ _ (repeat-stricter (sections_by Two library) (sections_by One library) sections-stricter _ [] b) λ sections c.
      then-stricter _ _ (record-stricter library _ c _) λ last d. same refl

  modules-stricter : (at : ℕ) → Stricter (modules_by Two library at) (modules_by One library at)
  modules-stricter at =
      then-stricter not_empty not_empty (repeat-stricter (module_by Two library) (module_by One library) module-stricter _ [] at) λ modules next. same refl

  plain-stricter : (type at : ℕ) → Stricter (plain_by Two library type at) (plain_by One library type at)
  plain-stricter type at = record-stricter library (eqb type) at (whole tt)

  read-stricter : Stricter (file_read Two library) (file_read One library)
  unfolding file_read library_by
  read-stricter = go (eqb (byte_at library 0) 0x2c)
    where
      go : (t : Bool) → Stricter (if t then library_by Two library 0 else modules_by Two library 0) (if t then library_by One library 0 else modules_by One library 0)
      go true =
          then-stricter _ _ (plain-stricter 0x2c 0) λ _ a.
          then-stricter _ _ (modules-stricter a) λ modules b.
          then-stricter _ _ (plain-stricter 0x28 b) λ _ c.
          then-stricter _ _ (plain-stricter 0x26 c) λ _ d.
          then-stricter _ _ (plain-stricter 0x2a d) λ _ last. same refl
      go false = modules-stricter 0

  pub file-stricter : Stricter (file_by Two library) (file library)
  unfolding file_by
  file-stricter = go read-stricter
    where
      go : {a b : ReadOutcome (List Module)} → Stricter a b → Stricter (file_used Two library a) b
      go {a} {b} (same e) = rw e (used b)
        where
          used : (o : ReadOutcome (List Module)) → Stricter (file_used Two library o) o
          used (read modules next) = used-stricter (length library) modules next next
          used stop = same refl
          used (refused r) = same refl
      go (wrong e) = wrong (ap (file_used Two library) e)
      go (over e) = over (ap (file_used Two library) e)

  -- WHAT EDITION 2 ACCEPTS, EDITION 1 READS TO THE SAME MODULES
  pub editions-agree : {modules : List Module} {end : ℕ} → file_by Two library ≡ read modules end → file library ≡ read modules end
  editions-agree {modules} {end} q = go file-stricter
    where
      go : Stricter (file_by Two library) (file library) → file library ≡ read modules end
      go (same e) = sym e ∙ q
      go (wrong e) = let no : read modules end ≡ refused WrongSum = sym q ∙ e in let z : ◌≡◌ {A = ℕ} 0 1 = cc in absurd (omega arith)
      go (over e) = let no : read modules end ≡ refused LeftOver = sym q ∙ e in let z : ◌≡◌ {A = ℕ} 0 1 = cc in absurd (omega arith)

  -- WHAT EDITION 2 REFUSES WITH 5 TO 8, EDITION 1 REFUSES WITH THE SAME NUMBER
  pub refusals-agree : {r : Refusal} → (r ≡ WrongSum → ⊥) → (r ≡ LeftOver → ⊥) → file_refusal (file_by Two library) ≡ some r → file_refusal (file library) ≡ some r
  refusals-agree {r} sum left q = go file-stricter
    where
      inside : {s : Refusal} → some s ≡ some r → r ≡ s
      inside e = cc

      go : Stricter (file_by Two library) (file library) → file_refusal (file library) ≡ some r
      go (same e) = ap file_refusal (sym e) ∙ q
      go (wrong e) = absurd (sum (inside (sym (ap file_refusal e) ∙ q)))
      go (over e) = absurd (left (inside (sym (ap file_refusal e) ∙ q)))
