-- What a stretch of a board's file withholds in a bank's view: a stretch of the view.
use Rattle.std.specs.Prelude.{ℕ, ◌+◌, ◌-◌, min, List, [], ◌∷◌}
use Rattle.image.specs.declared.Stretch.{Stretch}
use Rattle.image.specs.declared.cover.Stretches.{Stretches}
use Rattle.run.specs.declared.Settings.{Settings}
use Rattle.run.proofs.Withheld.{withholding}
use Rattle.bank_rules.specs.Banks.{bank_start}

-- how many bytes of the first x of the file bank k's view shows: those of the common part, and those of the bank
abbrev pub place : ℕ → ℕ → ℕ
place k x = min x 32768 + min (x - bank_start k) 32768

-- a stretch of the file is one stretch of the view, which is empty where the view shows none of it
abbrev pub cut_one : ℕ → Stretch → Stretch
cut_one k s = record { start = place k s.start; len = place k (s.start + s.len) - place k s.start }

-- the same in a list of numbers: start, length, start, length, ..
unfoldable pub cut_numbers : ℕ → List ℕ → List ℕ
cut_numbers k [] = []
cut_numbers k (start ∷ []) = start ∷ []
cut_numbers k (start ∷ len ∷ rest) = place k start ∷ (place k (start + len) - place k start) ∷ cut_numbers k rest

-- the stretches of settings, each cut
abbrev pub cut_stretches : ℕ → Stretches → Stretches
cut_stretches k w = record { count = w.count; pairs = cut_numbers k w.pairs }

-- the settings for bank k's view: only what is withheld differs
abbrev pub cut_settings : ℕ → Settings → Settings
cut_settings k s = withholding s (cut_stretches k s.withheld)
