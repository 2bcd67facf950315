-- Counts change no link; and tables in which all places are linked. Assumes nothing.
use Rattle.std.specs.Prelude.{ℕ, ◌≤◌, List, length, slice_set}
use Rattle.std.proofs.Common.{◌∙◌, arith, length-set, get_or-set_other}
use Rattle.tables.specs.links.Index.{LinkedIn}
use Rattle.search.specs.byte_index.Index.{Indexed}

-- what is stored past the heads changes no link
pub past-heads : {bound i : ℕ} {image first next : List ℕ} (at v : ℕ) → bound ≤ at → LinkedIn bound image i first next → LinkedIn bound image i (slice_set first at v) next
past-heads {first = first} at v h l = record {
  heads = rw length-set l.heads;
  room = l.room;
  starts = λ key k. get_or-set_other first at key v 0 (λ e. omega arith) ∙ l.starts key k;
  follows = l.follows;
}

-- the index is that of keys below 256, all of them linked
pub all-indexed : {image first next : List ℕ} → 512 ≤ length first → LinkedIn 256 image 0 first next → Indexed image first next
all-indexed h l = record {
  heads = record { room = h; starts = l.starts };
  nexts = record { room = l.room; follows = λ j k. l.follows j (omega arith) k };
}

pub linked-all : {image first next : List ℕ} → Indexed image first next → LinkedIn 256 image 0 first next
linked-all i = record { heads = omega (arith, i.heads.room); room = i.nexts.room; starts = i.heads.starts; follows = λ j a k. i.nexts.follows j k }
