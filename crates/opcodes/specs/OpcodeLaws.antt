-- A table's rule at each of its entries, and what the manual says of the opcodes. Assumes nothing.
use Rattle.std.specs.Prelude.{ℕ, zero, suc, ◌+◌, ◌≤◌, ◌<◌, ◌%◌, ◌≡◌, refl, ◌⊎◌, Bool, true, not, ◌&&◌, ◌||◌, List, ◌∷◌, map, eqb, leb, length, get_or, if◌then◌else◌}
use Rattle.std.proofs.Common.{sym, ap, ◌∙◌, inl, inr, add-zero, zero-add, arith, eqb-true, ne_eqb, leb-true}
use Rattle.lent.specs.ChoiceLaws.{both, either}
use Rattle.lent.specs.Lists.{one, any, all, keep, from}
use Rattle.lent.specs.ListLaws.{every}
use Rattle.opcodes.specs.declared.Leads.{Leads}
use Rattle.opcodes.specs.declared.Leads.TheVariants.{Nowhere, PageJump, PageCall, LongJump, LongCall, ShortJump, LaterJump}
use Rattle.opcodes.specs.Lengths.{length_of}
use Rattle.opcodes.specs.Leads.{leads_of, lead_number, lead_table, place_of, bytes_of}

-- the table that a rule makes, computed over all places, has at each place what the rule gives there
table-from : (rule : ℕ → ℕ) (at n k : ℕ) → k < n → get_or (map rule (from at n)) k 0 ≡ rule (at + k)
unfolding from
table-from rule at zero k h = absurd (omega arith)
table-from rule at (suc n) zero h = ap rule (sym (add-zero at))
table-from rule at (suc n) (suc k) h =
    let next : at + 1 + k ≡ at + suc k = omega arith in
    table-from rule (at + 1) n k (omega arith) ∙ ap rule next

pub table_at : (rule : ℕ → ℕ) (k : ℕ) → k < 256 → get_or (map rule (from 0 256)) k 0 ≡ rule k
table_at rule k h = table-from rule 0 256 k h ∙ ap rule (zero-add k)

-- a lead is known by its number
abbrev lead_of : ℕ → Leads
lead_of n =
    if eqb n 0 then Nowhere
    else if eqb n 1 then PageJump
    else if eqb n 2 then PageCall
    else if eqb n 3 then LongJump
    else if eqb n 4 then LongCall
    else if eqb n 5 then ShortJump
    else LaterJump

lead-back : (l : Leads) → lead_of (lead_number l) ≡ l
lead-back Nowhere = refl
lead-back PageJump = refl
lead-back PageCall = refl
lead-back LongJump = refl
lead-back LongCall = refl
lead-back ShortJump = refl
lead-back LaterJump = refl

pub lead_is : (a b : Leads) → lead_number a ≡ lead_number b → a ≡ b
lead_is a b e = sym (lead-back a) ∙ ap lead_of e ∙ lead-back b

pub later-is : (l : Leads) → 5 < lead_number l → LaterJump ≡ l
later-is LaterJump h = refl
later-is Nowhere h = absurd (omega arith)
later-is PageJump h = absurd (omega arith)
later-is PageCall h = absurd (omega arith)
later-is LongJump h = absurd (omega arith)
later-is LongCall h = absurd (omega arith)
later-is ShortJump h = absurd (omega arith)

-- the table of all leads has the lead of each opcode, by its number
pub lead_at : (opcode : ℕ) → opcode < 256 → get_or lead_table opcode 0 ≡ lead_number (leads_of opcode)
unfolding lead_table
lead_at opcode h = table_at (λ k. lead_number (leads_of k)) opcode h

-- what holds of every opcode, from a test computed over all of them
of-all : (p : ℕ → Bool) → all p (from 0 256) ≡ true → (opcode : ℕ) → opcode < 256 → p opcode ≡ true
of-all p e opcode h = every p 0 256 e opcode (omega arith) (omega arith)

-- OF ALL OPCODES 24 HAVE THREE BYTES, 91 two, 140 one, and A5h alone has none
abbrev with_length : ℕ → List ℕ
with_length n = keep (λ opcode. eqb (length_of opcode) n) (from 0 256)

pub three-bytes : map (λ n. length (with_length n)) (3 ∷ 2 ∷ 1 ∷ one 0) ≡ 24 ∷ 91 ∷ 140 ∷ one 1
unfolding length_of any keep from
three-bytes = refl

pub only-reserved : with_length 0 ≡ one 0xA5
unfolding length_of any keep from
only-reserved = refl

pub reserved : length_of 0xA5 ≡ 0
unfolding length_of
reserved = refl

-- THOSE WITH LOW FIVE BITS 01h OR 11h HAVE TWO
abbrev two_if_page : ℕ → Bool
two_if_page k = not (eqb (k % 32) 0x01 || eqb (k % 32) 0x11) || eqb (length_of k) 2

two-computed : all two_if_page (from 0 256) ≡ true
unfolding length_of any all from
two-computed = refl

pub page-two : (opcode : ℕ) → opcode < 256 → (opcode % 32 ≡ 0x01) ⊎ (opcode % 32 ≡ 0x11) → length_of opcode ≡ 2
page-two opcode h e = go (of-all two_if_page two-computed opcode h) e
  where
    go : two_if_page opcode ≡ true → (opcode % 32 ≡ 0x01) ⊎ (opcode % 32 ≡ 0x11) → length_of opcode ≡ 2
    go t (inl q) = eqb-true (length_of opcode) 2 (rw q at t)
    go t (inr q) = eqb-true (length_of opcode) 2 (rw q at t)

-- no instruction is longer than three bytes, and only A5h has none
abbrev one_to_three : ℕ → Bool
one_to_three k = leb (length_of k) 3 && (eqb k 0xA5 || leb 1 (length_of k))

lengths-computed : all one_to_three (from 0 256) ≡ true
unfolding length_of any all from
lengths-computed = refl

pub at-most-three : (opcode : ℕ) → opcode < 256 → length_of opcode ≤ 3
at-most-three opcode h =
    leb-true (length_of opcode) 3 (both (leb (length_of opcode) 3) (eqb opcode 0xA5 || leb 1 (length_of opcode)) (of-all one_to_three lengths-computed opcode h)).0

pub reserved-or-some : (opcode : ℕ) → opcode < 256 → (opcode ≡ 0xA5) ⊎ (1 ≤ length_of opcode)
reserved-or-some opcode h = go (either (eqb opcode 0xA5) (leb 1 (length_of opcode)) (both (leb (length_of opcode) 3) (eqb opcode 0xA5 || leb 1 (length_of opcode)) (of-all one_to_three lengths-computed opcode h)).1)
  where
    go : (eqb opcode 0xA5 ≡ true) ⊎ (leb 1 (length_of opcode) ≡ true) → (opcode ≡ 0xA5) ⊎ (1 ≤ length_of opcode)
    go (inl e) = inl (eqb-true opcode 0xA5 e)
    go (inr e) = inr (leb-true 1 (length_of opcode) e)

pub no_length : (opcode : ℕ) → opcode < 256 → length_of opcode ≡ 0 → opcode ≡ 0xA5
no_length opcode h e = go (reserved-or-some opcode h)
  where
    go : (opcode ≡ 0xA5) ⊎ (1 ≤ length_of opcode) → opcode ≡ 0xA5
    go (inl q) = q
    go (inr l) = absurd (omega (arith, e, l))

-- A REFERENCE ENDS WITH ITS INSTRUCTION, in all 47 that have one
abbrev ends_with : Leads → ℕ → Bool
ends_with l n = eqb (lead_number l) 0 || eqb (place_of l + bytes_of l) n

ends-computed : all (λ k. ends_with (leads_of k) (length_of k)) (from 0 256) ≡ true
unfolding leads_of length_of any all from
ends-computed = refl

pub ends-together : (opcode : ℕ) → opcode < 256 → 0 < lead_number (leads_of opcode) → place_of (leads_of opcode) + bytes_of (leads_of opcode) ≡ length_of opcode
ends-together opcode h some =
    let t = of-all (λ k. ends_with (leads_of k) (length_of k)) ends-computed opcode h in
    let other : lead_number (leads_of opcode) ≡ 0 → ⊥ = λ e. omega arith in
    eqb-true (place_of (leads_of opcode) + bytes_of (leads_of opcode)) (length_of opcode) (rw (ne_eqb (lead_number (leads_of opcode)) 0 other) at t)

pub with-targets : length (keep (λ opcode. not (eqb (lead_number (leads_of opcode)) 0)) (from 0 256)) ≡ 47
unfolding leads_of any keep from
with-targets = refl
