-- Tables of named things: each thing has a key and a name, and is kept as a row, in the order in which things
-- came. A row has two links: to the newest earlier row in its key's bucket, and to the newest earlier row in
-- the bucket of its key and name together.
use Rattle.std.specs.Prelude.{ℕ, ◌+◌, ◌-◌, ◌*◌, ◌/◌, ◌%◌, Bool, ◌&&◌, List, [], ◌∷◌, ◌++◌, length, take, drop, ◌==◌, nat_le, if◌then◌else◌}
use Rattle.lent.specs.declared.part.Part.{Part}
use Rattle.lent.specs.Lists.{one, fold}
use Rattle.lent.specs.Parts.{bytes_of, same_name}
use Rattle.lent.specs.Rows.{Layout}
use Rattle.tables.specs.by_name.Newest.{newest}

-- how a kind of thing is kept in such a table: its key, its name, and the row that it makes with its two links
pub record Sheet (A R : Type 0) : Type 0 where
  pub layout : Layout R
  pub key : A → ℕ
  pub name : A → Part
  pub row : A → ℕ → ℕ → R

-- how many buckets of keys there are
abbrev pub key_buckets : ℕ
key_buckets = 65536

-- how many buckets of key and name together there are
abbrev pub name_buckets : ℕ
name_buckets = 65536

-- the bucket of a key: its low 16 bits
abbrev pub key_bucket : ℕ → ℕ
key_bucket key = key % key_buckets

-- a number h after bytes were mixed in, so that few names share a bucket: the factor is Knuth's for 32 bits
abbrev pub spread : ℕ → List ℕ → ℕ
spread h bytes = fold (λ k byte. (k + byte) * 2654435761 % 4294967296) h bytes

-- the bytes of a name that tell its bucket: all of up to 16, and of more the first eight and the last eight
abbrev pub ends : List ℕ → List ℕ
ends bytes = if nat_le (length bytes) 16 then bytes else take 8 bytes ++ drop (length bytes - 8) bytes

-- the bucket of a key and a name together: the keys of one name all have buckets of their own
unfoldable pub name_bucket : ℕ → List ℕ → ℕ
name_bucket key bytes = (key % name_buckets + spread (length bytes % name_buckets) (ends bytes) / name_buckets) % name_buckets

module _ {A R : Type 0} (s : Sheet A R) (library : List ℕ) where
  -- a thing has this key and name
  abbrev pub is_named : ℕ → Part → A → Bool
  is_named key name x = s.key x == key && same_name library (s.name x) name

  -- a thing is in a bucket of either kind
  abbrev pub in_key : ℕ → A → Bool
  in_key b x = key_bucket (s.key x) == b

  abbrev pub bucket_of : A → ℕ
  bucket_of x = name_bucket (s.key x) (bytes_of library (s.name x))

  abbrev pub in_name : ℕ → A → Bool
  in_name b x = bucket_of x == b

  -- the row of a thing behind others
  abbrev pub row_after : List A → A → R
  row_after earlier x = s.row x (newest (in_key (key_bucket (s.key x))) earlier) (newest (in_name (bucket_of x)) earlier)

  unfoldable pub linked_from : List A → List A → List R
  linked_from earlier [] = []
  linked_from earlier (x ∷ rest) = row_after earlier x ∷ linked_from (earlier ++ one x) rest

  abbrev pub linked : List A → List R
  linked xs = linked_from [] xs
