-- Descriptions of names, as at51's `parse_description` finds them.
use Rattle.std.specs.Prelude.{ℕ, Bool, List, [], ◌∷◌, ◌++◌, map, length, take, drop}
use Prim.Native.String.{String, [] as end, ◌∷◌ as ◌then◌}
use Prim.Native.Char.{code}
use Rattle.std.proofs.Math.Option.{Option, none, some}
use Rattle.lent.specs.Lists.{one, first}
use Rattle.lent.specs.Parts.{same}

-- the bytes of a text
abbrev pub text : String → List ℕ
text end = []
text (c then rest) = code c ∷ text rest

-- what a step comes to: what the words say that it took off the front of a name, and the rest of the name; or it failed
abbrev pub Said : Type 0
Said = Option (List ℕ × List ℕ)

-- a step takes words off the front of a name
abbrev pub Step : Type 0
Step = List ℕ → Said

-- words, each with what it says
abbrev pub Words : Type 0
Words = List (List ℕ × List ℕ)

-- words that are written as texts
abbrev pub spelled : List (String × String) → Words
spelled words = map (λ w. (text w.0, text w.1)) words

-- the name starts with the word
abbrev pub starts_with : List ℕ → List ℕ → Bool
starts_with name word = same (take (length word) name) word

-- a name with a word taken off, if there is a word
abbrev pub word_off : List ℕ → Option (List ℕ × List ℕ) → Said
word_off name none = none
word_off name (some (word, says)) = some (says, drop (length word) name)

-- the step that takes the first word of a list with which the name starts
unfoldable pub one_of : Words → Step
one_of words name = word_off name (first (λ w. starts_with name w.0) words)

-- what was said before, and then what a further step came to
abbrev pub more : List ℕ → Said → Said
more says none = none
more says (some (rest, left)) = some (says ++ rest, left)

-- the step q goes on with the rest of the name, unless the step before it failed
abbrev pub onward : Step → Said → Said
onward q none = none
onward q (some (says, left)) = more says (q left)

-- one step and then another, on the rest of the name
infixr 20 ◌and◌
abbrev pub ◌and◌ : Step → Step → Step
◌and◌ p q = λ name. onward q (p name)

-- the step q is tried on the name if the first step failed
abbrev pub otherwise : Step → List ℕ → Said → Said
otherwise q name none = q name
otherwise q name (some got) = some got

-- one step or, if it fails, another: a word that was taken is never reconsidered
infixr 15 ◌or◌
abbrev pub ◌or◌ : Step → Step → Step
◌or◌ p q = λ name. otherwise q name (p name)

-- a step that may fail: then it says nothing and takes nothing
abbrev pub perhaps : Step → Step
perhaps p = p or λ name. some ([], name)

-- what all such names begin with; it says nothing
abbrev pub front : Words
front = spelled (one ("?C?", ""))

-- the sign of a type, which may be missing
abbrev pub signs : Words
signs = spelled (("S", "signed ") ∷ ("U", "unsigned ") ∷ [])

-- the types of data
abbrev pub types : Words
types =
    spelled
    (("C", "char (8-bit) ") ∷ ("I", "int (16-bit) ") ∷ ("P", "general pointer ")
    ∷ ("L0", "long (r3-r0) ") ∷ ("L", "long (32-bit) ") ∷ ("FP", "float ") ∷ [])

-- the twelve operations
abbrev pub operations : Words
operations =
    spelled
    (("ADD", "addition") ∷ ("SUB", "subtraction") ∷ ("MUL", "multiply") ∷ ("DIV", "division") ∷ ("CMP", "compare")
    ∷ ("AND", "bitwise and") ∷ ("OR", "bitwise or") ∷ ("XOR", "bitwise xor") ∷ ("NEG", "negation") ∷ ("NOT", "logical not")
    ∷ ("SHL", "shift left") ∷ ("SHR", "shift right") ∷ [])

-- loads and stores; LD stands before LDI, so that LDI is never taken
abbrev pub moves : Words
moves =
    spelled
    (("LD", "load from ") ∷ ("LDI", "post-increment load from ") ∷ ("ILD", "pre-increment load from ")
    ∷ ("STK", "constant store to ") ∷ ("ST", "store to ") ∷ [])

-- the memories that a move loads from or stores to
abbrev pub memories : Words
memories =
    spelled
    (("XDATA", "xdata") ∷ ("PDATA", "pdata (external ram)") ∷ ("IDATA", "idata (indirect ram access)")
    ∷ ("CODE", "code space") ∷ ("OPTR", "general pointer with offset") ∷ ("PTR", "general pointer") ∷ [])

-- the registers that a move loads into, which may be missing
abbrev pub into : Words
into = spelled (one ("0", " into r3-r0"))

-- a move, its memory, and perhaps its registers
abbrev pub moving : Step
moving = one_of moves and one_of memories and perhaps (one_of into)

-- the words of a name; the rest of the name is ignored
unfoldable pub description : Step
description =
    one_of front and perhaps (one_of signs) and one_of types and (one_of operations or moving)

-- what was said, without the rest of the name
abbrev pub said_in : Said → Option (List ℕ)
said_in none = none
said_in (some (says, left)) = some says

-- the description of a name, if it has one
unfoldable pub describe : List ℕ → Option (List ℕ)
describe name = said_in (description name)
