-- A head that was set leads where it was set to, and no other changes. Assumes nothing.
use Rattle.std.specs.Prelude.{◌≡◌, ℕ, ◌+◌, ◌*◌, ◌/◌, ◌%◌, ◌<◌, ◌≤◌, Bool, true, false, List, length, ◌≢◌, nat_lt, slice_index, slice_index_or, slice_set, refl, if◌then◌else◌}
use Rattle.std.proofs.Common.{sym, ap, ◌∙◌, arith, ltb-true, ltb-false, lt-ltb, le-ltb}
use Rattle.std.proofs.Math.ListN.{length-set, get_or-eq_default}
use Rattle.std.proofs.Math.Seq.{set_out, get_or-set_same, get_or-set_other}
use Rattle.tables.specs.zeros.Zeros.{zero_list}
use Rattle.tables.specs.zeros.ZeroLaws.{zero-length, zero-at}
use Rattle.tables.specs.by_name.Heads.{head_count, near, head_at, low_head, head_set, head_limit, Blank}

pub head-length : (heads : List ℕ) (i link : ℕ) → length (head_set heads i link) ≡ length heads
unfolding head_set
head-length heads i link = length-set (slice_set heads i (low_head link)) (head_count + i) (link / near % 4294967296) ∙ length-set heads i (low_head link)

-- setting a head past the end changes nothing
pub head-out : (heads : List ℕ) (i link : ℕ) → length heads ≤ i → head_set heads i link ≡ heads
unfolding head_set
head-out heads i link h =
    set_out (slice_set heads i (low_head link)) (head_count + i) (link / near % 4294967296) (omega (arith, h, length-set heads i (low_head link))) ∙ set_out heads i (low_head link) h

-- a head of 0 leads nowhere, and there is none past the end
pub head-none : (heads : List ℕ) (i : ℕ) → slice_index heads i ≡ 0 → head_at heads i ≡ 0
unfolding head_at
head-none heads i e = rw e

pub head_near : (heads : List ℕ) (i : ℕ) → slice_index heads i < near → head_at heads i ≡ slice_index heads i
unfolding head_at
head_near heads i h = rw (lt-ltb (slice_index heads i) near h)

pub head-far : (heads : List ℕ) (i : ℕ) → near ≤ slice_index heads i → head_at heads i ≡ slice_index heads i % near + near * slice_index heads (head_count + i)
unfolding head_at
head-far heads i h = rw (le-ltb (slice_index heads i) near h)

pub head-past : (heads : List ℕ) (i : ℕ) → length heads ≤ i → head_at heads i ≡ 0
head-past heads i h = head-none heads i (get_or-eq_default heads 0 h)

module _ (heads : List ℕ) (i link : ℕ) (small : i < head_count) where
  abbrev once : List ℕ
  once = slice_set heads i (low_head link)

  -- ANOTHER HEAD
  pub head-other : (j : ℕ) → j < head_count → (i ≢ j) → head_at (head_set heads i link) j ≡ head_at heads j
  unfolding head_at head_set
  head-other j l ne =
      rw (
        get_or-set_other once (head_count + i) j (link / near % 4294967296) 0 (λ q. omega (arith, q)),
        get_or-set_other once (head_count + i) (head_count + j) (link / near % 4294967296) 0 (λ q. ne (omega (arith, q))),
        get_or-set_other heads i j (low_head link) 0 (λ q. ne (sym q)),
        get_or-set_other heads i (head_count + j) (low_head link) 0 (λ q. omega (arith, q)),
      )

  -- THE HEAD ITSELF
  module _ (room : head_count ≤ length heads) where
    low-is : slice_index_or (head_set heads i link) i 0 ≡ low_head link
    unfolding head_set
    low-is =
        get_or-set_other once (head_count + i) i (link / near % 4294967296) 0 (λ q. omega (arith, q))
        ∙ get_or-set_same heads i (low_head link) 0 (omega (arith, room, small))

    high_is : head_count + head_count ≤ length heads → slice_index (head_set heads i link) (head_count + i) ≡ link / near % 4294967296
    unfolding head_set
    high_is wide = get_or-set_same once (head_count + i) (link / near % 4294967296) 0 (omega (arith, wide, small, length-set heads i (low_head link)))

    pub head-same : link < head_limit (length heads) → head_at (head_set heads i link) i ≡ link
    head-same fits = go (nat_lt link near) refl
      where
        wide : (t : Bool) → nat_lt (length heads) (head_count + head_count) ≡ t → near ≤ link → link < (if t then near else near * near) → (head_count + head_count ≤ length heads) × (link < near * near)
        wide true e far l = absurd (omega (arith, far, l))
        wide false e far l = (ltb-false (length heads) (head_count + head_count) e, l)

        go : (t : Bool) → nat_lt link near ≡ t → head_at (head_set heads i link) i ≡ link
        go true e =
            let l = ltb-true link near e in
            let is : slice_index_or (head_set heads i link) i 0 ≡ link = low-is ∙ ap (λ b. if b then link else link % near + near) e in
            head_near (head_set heads i link) i (omega (arith, is, l)) ∙ is
        go false e =
            let far = ltb-false link near e in
            let is : slice_index_or (head_set heads i link) i 0 ≡ link % near + near = low-is ∙ ap (λ b. if b then link else link % near + near) e in
            let w = wide (nat_lt (length heads) (head_count + head_count)) refl far fits in
            head-far (head_set heads i link) i (omega (arith, is)) ∙ omega (arith, is, high_is w.0, w.1, far)

-- tables of zeros are blank heads
pub zeros-blank : (n memory : ℕ) (heads : List ℕ) → heads ≡ zero_list n → head_count ≤ n → memory < head_limit n → Blank memory heads
zeros-blank n memory heads z room fits =
    let long : length heads ≡ n = ap length z ∙ zero-length n in
    record { room = omega (arith, room, long); fits = rw long fits; clear = λ i. ap (λ xs. slice_index xs i) z ∙ zero-at n i }
