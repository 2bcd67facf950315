-- A table of zeros has its length, and 0 at every place. Assumes nothing.
use Rattle.std.specs.Prelude.{◌≡◌, ℕ, ◌<◌, length, slice_index}
use Rattle.std.proofs.Common.{sym, ap, arith}
use Rattle.std.proofs.Math.Decide.{dec_lt}
use Rattle.std.proofs.lemmas.List.{length-replicate, get_or-replicate}
use Rattle.std.proofs.Math.ListN.{get_or-eq_default}
use Rattle.lent.specs.Rows.{zeros}
use Rattle.tables.specs.zeros.Zeros.{zero_list, repeated}

pub zero-length : (n : ℕ) → length (zero_list n) ≡ n
unfolding repeated
zero-length n = length-replicate n 0

pub zero-list : (n : ℕ) → zero_list n ≡ zeros (length (zero_list n))
unfolding repeated
zero-list n = ap zeros (sym (length-replicate n 0))

pub zero-at : (n i : ℕ) → slice_index (zero_list n) i ≡ 0
unfolding repeated
zero-at n i = go (dec_lt i n)
  where
    go : Dec (i < n) → slice_index (zero_list n) i ≡ 0
    go (yes h) = get_or-replicate n i 0 0 h
    go (no h) = get_or-eq_default (zero_list n) 0 (omega (arith, zero-length n))
