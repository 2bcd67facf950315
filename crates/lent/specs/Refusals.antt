-- The number of each refusal, as in document 01's table "Numbers returned", and as the later requests say.
use Rattle.std.specs.Prelude.{ℕ, Bool, ◌&&◌, leb}
use Rattle.std.proofs.Math.Option.{Option, none, some}
use Rattle.lent.specs.declared.refusal.Refusal.{Refusal}
use Rattle.lent.specs.declared.refusal.Refusal.TheVariants.{RuleSet, ImageTooLong, LibraryTooLong, StretchPastEnd, NoModule, BodyPastEnd, LengthZero, NamesDiffer, TooFewRows, UnknownKind}
use Rattle.lent.specs.declared.refusal.Refusal.TheVariants.{UnknownBlock, ContentPastSegment, NoKeptSegment, WrongSum, LeftOver, TooManyStretches, TooDeep, NotBanked, OtherEdition}

abbrev pub refusal_number : Refusal → ℕ
refusal_number RuleSet = 1
refusal_number ImageTooLong = 2
refusal_number LibraryTooLong = 3
refusal_number StretchPastEnd = 4
refusal_number NoModule = 5
refusal_number BodyPastEnd = 6
refusal_number LengthZero = 7
refusal_number NamesDiffer = 8
refusal_number TooFewRows = 9
refusal_number UnknownKind = 10
refusal_number UnknownBlock = 11
refusal_number ContentPastSegment = 12
refusal_number NoKeptSegment = 13
refusal_number WrongSum = 14
refusal_number LeftOver = 15
refusal_number TooManyStretches = 16
refusal_number TooDeep = 17
refusal_number NotBanked = 18
refusal_number OtherEdition = 30

-- 9 to 13 come when lent memory is in use already, and set it to zero; every other refusal writes nothing
abbrev pub zeroes : Refusal → Bool
zeroes r = leb 9 (refusal_number r) && leb (refusal_number r) 13

-- the number of what a stage comes to: that of its refusal, or 0 where it is done
abbrev pub stage_number : Option Refusal → ℕ
stage_number none = 0
stage_number (some r) = refusal_number r
