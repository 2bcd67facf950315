-- Worked examples, computed apart from the request's words (tools/oracle/model/walk.py); they hold by computation.
use Rattle.std.specs.Prelude.{ℕ, ◌≡◌, refl, List, [], ◌∷◌, map}
use Rattle.lent.specs.Lists.{one, any, all, from, numbered}
use Rattle.image.specs.declared.Stretch.{Stretch}
use Rattle.image.specs.View.{view}
use Rattle.image.specs.fixup.Target.{shown, target}
use Rattle.opcodes.specs.Lengths.{length_of}
use Rattle.opcodes.specs.Leads.{leads_of}
use Rattle.routine.specs.declared.Row.{Row}
use Rattle.routine.specs.declared.What.{What}
use Rattle.routine.specs.declared.What.TheVariants.{Neither, Call, Jump}
use Rattle.routine.specs.declared.Why.TheVariants.{Return, Reserved, End, Withheld}
use Rattle.routine.specs.Step.{step_at}
use Rattle.routine.specs.Walk.{stops, walk, walked}

abbrev row : ℕ → What → Row
row address what = record { address = address; what = what }

abbrev withheld : ℕ → ℕ → List Stretch
withheld start len = one (record { start = start; len = len })

-- MOV A,direct; CJNE backwards; LCALL; DJNZ; AJMP; JMP @A+DPTR; RETI
routine : List ℕ
routine = 0xE5 ∷ 0x82 ∷ 0xB4 ∷ 5 ∷ 0xFB ∷ 0x12 ∷ 0x12 ∷ 0x34 ∷ 0xDF ∷ 3 ∷ 0xE1 ∷ 0x80 ∷ 0x73 ∷ 0x32 ∷ one 0

whole : walked routine 0
    ≡ stops (row 0 Neither ∷ row 2 (Jump 0) ∷ row 5 (Call 0x1234) ∷ row 8 (Jump 13) ∷ row 10 (Jump 0x780) ∷ row 12 Neither ∷ one (row 13 Neither)) Return
unfolding routine walk step_at shown target length_of leads_of any all from
whole = refl

-- a jump before address 0 goes round; the end, cut at each byte; A5h, at once and behind an instruction
ends : map (λ image. walked image 0) ((0x80 ∷ one 0xFD) ∷ (0x00 ∷ one 0x02) ∷ (0x12 ∷ one 0) ∷ one 0xA5 ∷ (0 ∷ one 0xA5) ∷ [])
    ≡ stops (one (row 0 (Jump 0xFFFF))) End ∷ stops (one (row 0 Neither)) End ∷ stops [] End ∷ stops [] Reserved ∷ stops (one (row 0 Neither)) Reserved ∷ []
unfolding walk step_at shown target length_of leads_of any all from
ends = refl

-- a withheld opcode, A5h too; a withheld operand; one that is withheld and cut: the end
hidden : walked (view (one 0xA5) (withheld 0 1)) 0 ∷ walked (view (0x12 ∷ 0 ∷ one 0) (withheld 2 1)) 0 ∷ walked (view (0x12 ∷ one 0) (withheld 1 1)) 0 ∷ []
    ≡ stops [] Withheld ∷ stops [] Withheld ∷ stops [] End ∷ []
unfolding view walk step_at shown target length_of leads_of any all from numbered
hidden = refl
