-- Bytes of the library: single bytes, numbers of two bytes, parts, and names, which are parts.
use Rattle.std.specs.Prelude.{ℕ, ◌+◌, ◌*◌, Bool, true, false, ◌&&◌, ◌||◌, List, [], ◌∷◌, eqb, leb, ltb, length, get_or, take, drop, if◌then◌else◌}
use Rattle.lent.specs.declared.part.Part.{Part}

-- the byte at a place, 0 past the library's end
abbrev pub byte_at : List ℕ → ℕ → ℕ
byte_at library at = get_or library at 0

-- the number of the two bytes at a place, low byte first
abbrev pub word_at : List ℕ → ℕ → ℕ
word_at library at = byte_at library at + 256 * byte_at library (at + 1)

-- the bytes of a part; a part that passes the library's end has none
abbrev pub bytes_of : List ℕ → Part → List ℕ
bytes_of library p = if leb (p.at + p.len) (length library) then take p.len (drop p.at library) else []

-- two strings of bytes are the same
unfoldable pub same : List ℕ → List ℕ → Bool
same [] [] = true
same [] (y ∷ ys) = false
same (x ∷ xs) [] = false
same (x ∷ xs) (y ∷ ys) = eqb x y && same xs ys

-- the first string of bytes comes before the second in byte order; a string comes before those that it begins
unfoldable pub before : List ℕ → List ℕ → Bool
before [] [] = false
before [] (y ∷ ys) = true
before (x ∷ xs) [] = false
before (x ∷ xs) (y ∷ ys) = ltb x y || (eqb x y && before xs ys)

-- two names have the same bytes, wherever they stand
abbrev pub same_name : List ℕ → Part → Part → Bool
same_name library a b = same (bytes_of library a) (bytes_of library b)

-- the first name comes before the second in byte order, wherever they stand
abbrev pub name_before : List ℕ → Part → Part → Bool
name_before library a b = before (bytes_of library a) (bytes_of library b)
