-- `put_all` meets its contract: the lines that are left complete what the whole text stored. Assumes nothing.
use Rattle.std.proofs.Common.{◌≡◌, ℕ, ◌+◌, ◌*◌, ◌-◌, ◌≤◌, List, ◌++◌, length, drop}
use Rattle.std.proofs.lemmas.List.Edits.{sets}
use Rattle.std.specs.Iterator.Adapters.{enumerate_source, enumerate_count}
use Rattle.std.specs.Slice.Iter.{chunks_rest, chunks_size}
use Rattle.intel_hex.specs.Export.{records, text_of}
use Rattle.intel_hex.proofs.ExportLaws.{lines_from, end_line}
use Rattle.intel_hex.proofs.export.put_all.Given as goal

pub record Turn (image out₀ out : List ℕ) (at i : ℕ) (rest : List ℕ) (size : ℕ) : Type 0 where
  pub left : rest ≡ drop (16 * i) image
  pub sixteen : size ≡ 16
  pub within : i ≤ records (length image)
  pub long : length out ≡ length out₀
  pub room : at + 12 * (records (length image) - i) + 2 * (length image - 16 * i) + 12 ≤ length out
  pub same : sets out at (lines_from image i (records (length image) - i) ++ end_line) ≡ sets out₀ 0 (text_of image)

abbrev pub invariant-loop-i : goal.invariant-loop-i
invariant-loop-i l =
    let chunks = enumerate_source l.i-iterator in
    Turn l.image l.initial.out l.out l.at (enumerate_count l.i-iterator) (chunks_rest chunks) (chunks_size chunks)
