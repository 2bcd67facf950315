-- A refusal is known by its number. Assumes nothing.
use Rattle.std.specs.Prelude.{ℕ, ◌≤◌, ◌<◌, ◌≡◌, refl, ◌⊎◌, true, false, List, [], ◌∷◌, eqb, leb, if◌then◌else◌}
use Rattle.std.proofs.Common.{sym, ap, ◌∙◌, inl, inr, arith, le-leb}
use Rattle.std.proofs.Math.Bool.{and-false}
use Rattle.std.proofs.Math.Option.{Option, none, some}
use Rattle.std.proofs.lemmas.Bool.{lt-leb}
use Rattle.lent.specs.declared.refusal.Refusal.{Refusal}
use Rattle.lent.specs.declared.refusal.Refusal.TheVariants.{RuleSet, ImageTooLong, LibraryTooLong, StretchPastEnd, NoModule, BodyPastEnd, LengthZero, NamesDiffer, TooFewRows, UnknownKind}
use Rattle.lent.specs.declared.refusal.Refusal.TheVariants.{UnknownBlock, ContentPastSegment, NoKeptSegment, WrongSum, LeftOver, TooManyStretches, TooDeep, NotBanked, OtherEdition}
use Rattle.lent.specs.Refusals.{refusal_number, zeroes, stage_number}

-- every refusal, in the order of their numbers
abbrev pub every_refusal : List Refusal
every_refusal =
    RuleSet ∷ ImageTooLong ∷ LibraryTooLong ∷ StretchPastEnd ∷ NoModule ∷ BodyPastEnd ∷ LengthZero ∷ NamesDiffer ∷ TooFewRows
    ∷ UnknownKind ∷ UnknownBlock ∷ ContentPastSegment ∷ NoKeptSegment ∷ WrongSum ∷ LeftOver ∷ TooManyStretches ∷ TooDeep ∷ NotBanked ∷ OtherEdition ∷ []

-- the refusal of a number among some refusals, and else the first
among : List Refusal → ℕ → Refusal
among [] n = RuleSet
among (r ∷ rest) n = if eqb (refusal_number r) n then r else among rest n

number-back : (r : Refusal) → among every_refusal (refusal_number r) ≡ r
unfolding among
number-back RuleSet = refl
number-back ImageTooLong = refl
number-back LibraryTooLong = refl
number-back StretchPastEnd = refl
number-back NoModule = refl
number-back BodyPastEnd = refl
number-back LengthZero = refl
number-back NamesDiffer = refl
number-back TooFewRows = refl
number-back UnknownKind = refl
number-back UnknownBlock = refl
number-back ContentPastSegment = refl
number-back NoKeptSegment = refl
number-back WrongSum = refl
number-back LeftOver = refl
number-back TooManyStretches = refl
number-back TooDeep = refl
number-back NotBanked = refl
number-back OtherEdition = refl

pub number-tells : (a b : Refusal) → refusal_number a ≡ refusal_number b → a ≡ b
number-tells a b e = sym (number-back a) ∙ ap (among every_refusal) e ∙ number-back b

pub same_number : {a b : Refusal} → some a ≡ some b → refusal_number a ≡ refusal_number b
same_number {a} {b} e = let z : a ≡ b = cc in ap refusal_number z

-- 0 is no refusal's number
pub numbered : (r : Refusal) → 1 ≤ refusal_number r
numbered RuleSet = omega arith
numbered ImageTooLong = omega arith
numbered LibraryTooLong = omega arith
numbered StretchPastEnd = omega arith
numbered NoModule = omega arith
numbered BodyPastEnd = omega arith
numbered LengthZero = omega arith
numbered NamesDiffer = omega arith
numbered TooFewRows = omega arith
numbered UnknownKind = omega arith
numbered UnknownBlock = omega arith
numbered ContentPastSegment = omega arith
numbered NoKeptSegment = omega arith
numbered WrongSum = omega arith
numbered LeftOver = omega arith
numbered TooManyStretches = omega arith
numbered TooDeep = omega arith
numbered NotBanked = omega arith
numbered OtherEdition = omega arith

-- 9 to 13 set lent memory to zero, and all others write nothing
pub zeroes-late : (r : Refusal) → 9 ≤ refusal_number r → refusal_number r ≤ 13 → zeroes r ≡ true
zeroes-late r l h = rw (le-leb 9 (refusal_number r) l, le-leb (refusal_number r) 13 h)

pub zeroes-not : (r : Refusal) → (refusal_number r < 9) ⊎ (13 < refusal_number r) → zeroes r ≡ false
zeroes-not r (inl l) = rw (lt-leb 9 (refusal_number r) l)
zeroes-not r (inr l) = rw (lt-leb (refusal_number r) 13 l) (and-false (leb 9 (refusal_number r)))

-- what a stage comes to is known by its number
pub stage-tells : (a b : Option Refusal) → stage_number a ≡ stage_number b → a ≡ b
stage-tells none none e = refl
stage-tells none (some r) e = absurd (omega (arith, e, numbered r))
stage-tells (some r) none e = absurd (omega (arith, e, numbered r))
stage-tells (some r) (some s) e = ap some (number-tells r s e)
