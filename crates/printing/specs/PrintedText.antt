-- A text in a lent buffer, and the lines that lent rows hold.
use Rattle.std.specs.Prelude.{ℕ, List, ◌++◌, map, leb, length, drop, Result, Ok, Err, if◌then◌else◌}
use Rattle.lent.specs.Lists.{from}
use Rattle.describe.specs.declared.NoRoom.{NoRoom}
use Rattle.listing_rules.specs.declared.Line.{Line}
use Rattle.listing_rules.specs.LineLayout.{line_at}

-- what the code answers: how many bytes were written, or that they do not fit
abbrev pub Printed : Type 0
Printed = Result ℕ NoRoom

-- the answer, and the lent buffer: the text, and what stood behind it; too small a buffer is left as it was
abbrev pub fitted_text : List ℕ → List ℕ → Printed × List ℕ
fitted_text t out = if leb (length t) (length out) then (Ok (length t), t ++ drop (length t) out) else (Err (record {}), out)

-- the lines that the first n rows hold
abbrev pub stored_lines : List ℕ → ℕ → List Line
stored_lines m n = map (line_at m) (from 0 n)
