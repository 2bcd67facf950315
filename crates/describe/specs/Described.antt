-- What the code takes off a name and writes.
use Rattle.std.specs.Prelude.{ℕ, ◌+◌, ◌≡◌, List, [], ◌∷◌, ◌++◌, map, leb, length, drop, Result, Ok, Err, Some, None, if◌then◌else◌}
use Rattle.std.specs.Prelude.{Option as Optional}
use Rattle.std.proofs.Math.Option.{Option, none, some}
use Rattle.std.proofs.lemmas.List.Edits.{sets}
use Rattle.describe.specs.declared.words.Word.{Word}
use Rattle.describe.specs.declared.words.Taken.{Taken}
use Rattle.describe.specs.declared.Sentence.{Sentence}
use Rattle.describe.specs.declared.NoRoom.{NoRoom}
use Rattle.describe.specs.Describe.{Words, Said, otherwise, describe, front, signs, types, operations, moves, memories, into}

-- what all words say, one after another
abbrev pub all_said : Words → List ℕ
all_said [] = []
all_said (w ∷ ws) = w.1 ++ all_said ws

abbrev pub said : List ℕ
said = all_said (front ++ signs ++ types ++ operations ++ moves ++ memories ++ into)

-- the words of a list in the code
abbrev pub words_of : List Word → Words
words_of words = map (λ w. (w.letters.now, w.says.now)) words

-- what the code takes off a name, as a step of the definition says it
abbrev pub said_by : Optional Taken → Said
said_by None = none
said_by (Some t) = some (t.says.now, t.rest.now)

-- what a word that may be missing comes to: a missing word says nothing and takes nothing
abbrev pub unless_missing : Said → List ℕ → Said
unless_missing word name = otherwise (λ rest. some ([], rest)) name word

-- what a whole sentence says
abbrev pub sentence : Sentence → List ℕ
sentence s = s.sign.now ++ (s.kind.now ++ (s.verb.now ++ (s.memory.now ++ s.into.now)))

abbrev pub sentence_in : Optional Sentence → Option (List ℕ)
sentence_in None = none
sentence_in (Some s) = some (sentence s)

-- how long a description is, if there is one
abbrev pub length_in : Option (List ℕ) → ℕ
length_in none = 0
length_in (some t) = length t

-- a text stored from a place on, and where it ends
pub record Put (before : List ℕ) (at : ℕ) (t after : List ℕ) (end : ℕ) : Type 0 where
  pub ends : end ≡ at + length t
  pub stored : after ≡ sets before at t

-- what the code answers: how many bytes of description were written, if the name has one, or that they do not fit
abbrev pub Answer : Type 0
Answer = Result (Optional ℕ) NoRoom

-- the answer, and the lent memory: the text, and what stood behind it; too little memory is left as it was, and so it is where there is no description
abbrev pub fitted : List ℕ → List ℕ → Answer × List ℕ
fitted t out = if leb (length t) (length out) then (Ok (Some (length t)), t ++ drop (length t) out) else (Err (record {}), out)

abbrev pub answered : Option (List ℕ) → List ℕ → Answer × List ℕ
answered none out = (Ok None, out)
answered (some t) out = fitted t out

abbrev pub described : List ℕ → List ℕ → Answer × List ℕ
described name out = answered (describe name) out
