-- What a caller gets of a run's outcome. Assumes nothing.
use Rattle.std.specs.Prelude.{ℕ, ◌≡◌, List}
use Rattle.std.proofs.Common.{ap, ◌∙◌}
use Rattle.run.specs.declared.Settings.{Settings}
use Rattle.run.specs.Run.{Lent, Outcome, run, number_of}
use Rattle.exported.specs.Exported.{handed, handed_run, counts_in}

-- by the settings, what the run came to, the number and the counts
pub handed-over : (image library : List ℕ) (s t : Settings) (counts : List ℕ) (lent : Lent) (r : ℕ) (after : List ℕ) (o : Outcome)
    → s ≡ t → o ≡ run image library s lent → r ≡ number_of o.answer → after ≡ counts_in counts o.answer
    → (record { number = r; counts = after; left = o.left }) ≡ handed_run image library t counts lent
unfolding handed_run handed
handed-over image library s t counts lent r after o same ran number counted =
    rw (number, counted) (ap (handed counts) (ran ∙ ap (λ (x : Settings). run image library x lent) same))
