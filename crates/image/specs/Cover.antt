-- What the settings of a run withhold, and when that passes the image's end.
use Rattle.std.specs.Prelude.{ℕ, ◌+◌, ◌*◌, min, Bool, List, [], ◌∷◌, take, nat_le, nat_lt, slice_set, if◌then◌else◌}
use Rattle.lent.specs.Lists.{any}
use Rattle.lent.specs.Rows.{zeros}
use Rattle.image.specs.declared.Stretch.{Stretch}
use Rattle.image.specs.declared.cover.Stretches.{Stretches}
use Rattle.image.specs.View.{stretches_in}

-- there are more than 16 stretches, empty ones counted
abbrev pub too_many_stretches : Stretches → Bool
too_many_stretches w = nat_lt 16 w.count

-- the stretches of settings: the first `count` pairs, of which there are 16; what stands behind these has no influence
abbrev pub cover_of : Stretches → List Stretch
cover_of w = stretches_in (take (2 * min w.count 16) w.pairs)

-- no stretch
abbrev pub no_stretches : Stretches
no_stretches = record { count = 0; pairs = zeros 32 }

-- one stretch more; behind the sixteenth only that there are too many is kept
abbrev pub one_more : Stretches → ℕ → ℕ → Stretches
one_more w start len =
    if nat_le 16 w.count then record { count = 17; pairs = w.pairs }
    else record { count = w.count + 1; pairs = slice_set (slice_set w.pairs (2 * w.count) start) (2 * w.count + 1) len }

-- the stretches of a list of numbers behind others: start, length, start, length, ..; a start without a length has the
-- largest length of 64 bits, which passes the end of every image
unfoldable pub gathered : Stretches → List ℕ → Stretches
gathered w [] = w
gathered w (start ∷ []) = one_more w start 0xFFFFFFFFFFFFFFFF
gathered w (start ∷ len ∷ rest) = gathered (one_more w start len) rest

-- a stretch passes the end of an image of `len` bytes
abbrev pub ends_past : ℕ → Stretch → Bool
ends_past len s = nat_lt len (s.start + s.len)

-- some stretch of a cover does
abbrev pub passes_end : ℕ → List Stretch → Bool
passes_end len s = any (ends_past len) s
