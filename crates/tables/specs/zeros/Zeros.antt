-- Memory of zeros whose length does not unfold, since a large one would take the checker too long.
use Rattle.std.specs.Prelude.{ℕ, List, replicate}

-- an element n times
unfoldable pub repeated : {A : Type 0} → ℕ → A → List A
repeated n x = replicate n x

abbrev pub zero_list : ℕ → List ℕ
zero_list n = repeated n 0
