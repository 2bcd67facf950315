-- The lines of the list are in order. Assumes nothing.
use Prim.Native.Nat.{ℕ, ◌≤◌, ◌<◌}
use Rattle.std.specs.Prelude.{◌≡◌, ◌⊎◌, Bool, ltb, length}
use Rattle.std.proofs.Common.{sym, ap, ◌∙◌, inl, inr, arith, ltb-true, ltb-false, le-ltb}
use mathlib.Core.List.{List}
use Rattle.lent.specs.Lists.{keep, joined, from, sorted}
use Rattle.lent.specs.Members.{◌among◌, of-joined}
use Rattle.segments.specs.Collect.{Collected}
use Rattle.search_rules.specs.declared.Asked.{Asked}
use Rattle.search_rules.specs.Search.{Placing, Noting}
use Rattle.listing_rules.specs.Listing.{SkipAmount, noted_line, lines_at, is_leftover, leftovers, listing}
use Rattle.listing_rules.specs.declared.Line.{Line}
use Rattle.listing_rules.specs.Earlier.{Earlier, Weak}
use Rattle.listing_rules.proofs.EarlierLaws.{of-from, earlier-from, earlier-both, earlier-append, earlier-joined, earlier-map, earlier-keep}
use Rattle.listing_rules.proofs.SortedLaws.{sorted-order, sorted-as-came}
use Rattle.listing_rules.specs.Listed.{PlacedOnce, NotedOnce, NotedFirst, InOrder}
use Rattle.listing_rules.proofs.CompleteLaws.{StandsAt, NotedThere, of-graded, of-lines, of-leftovers}
use Rattle.listing_rules.proofs.PositionLaws.{by_names}

-- targets by their numbers
abbrev by_target : Noting → Noting → Bool
by_target x y = ltb x.target y.target

by-target-weak : Weak by_target
by-target-weak = record {
  turned = λ x y e. le-ltb y.target x.target (omega (arith, ltb-true x.target y.target e));
  through = λ x y z e f. le-ltb x.target z.target (omega (arith, ltb-false x.target y.target e, ltb-false y.target z.target f));
}

module _ (library cells : List ℕ) (a : Asked) (skip : SkipAmount) (segments : List Collected) (placed : List Placing) (noted : List Noting) where
  abbrev lines_of : ℕ → List Line
  lines_of = lines_at library cells a segments placed noted skip

  -- a line of a position has its address
  address_is : (at : ℕ) (l : Line) → l among lines_of at → l.address ≡ at
  address_is at l i = go (of-graded library cells a skip segments placed noted at l (of-lines library cells a skip segments placed noted at l i).0)
    where
      go : StandsAt library cells a skip segments placed noted at l ⊎ NotedThere library cells a skip segments placed noted at l → l.address ≡ at
      go (inl o) = ap (λ k. k.address) (sym o.line-is) ∙ o.position-is
      go (inr o) = ap (λ k. k.address) (sym o.line-is) ∙ o.target_is

  past_end : (l : Line) → l among leftovers (length cells) skip noted → length cells ≤ l.address
  past_end l i =
      let o = of-leftovers library cells a skip segments placed noted l i in
      omega (arith, o.past, ap (λ k. k.address) o.line-is)

  -- names past the end
  by-notings : (x y : Line) → Earlier x y (leftovers (length cells) skip noted) → (x.address ≤ y.address) × (x.address ≡ y.address → NotedFirst noted x y)
  unfolding leftovers
  by-notings x y e = go (earlier-map noted_line (sorted by_target kept) e)
    where
      kept : List Noting
      kept = keep (is_leftover (length cells) skip noted) noted

      go : (n : Noting) × ((k : Noting) × Earlier n k (sorted by_target kept) × ((x ≡ noted_line n) × (y ≡ noted_line k)))
          → (x.address ≤ y.address) × (x.address ≡ y.address → NotedFirst noted x y)
      go (n, (k, f, (p, q))) =
          let x-at : x.address ≡ n.target = ap (λ l. l.address) p in
          let y-at : y.address ≡ k.target = ap (λ l. l.address) q in
          let up = ltb-false k.target n.target (sorted-order by_target by-target-weak n k kept f) in (
            omega (arith, x-at, y-at, up),
            λ s.
                let level = le-ltb n.target k.target (omega (arith, x-at, y-at, s)) in
                record {
                  n = n;
                  k = k;
                  first = earlier-keep (is_leftover (length cells) skip noted) n k noted (sorted-as-came by_target by-target-weak n k kept f level);
                  x-is = p;
                  y-is = q;
                },
          )

  -- IN ORDER: of two lines of the list the earlier comes first
  pub in_order : PlacedOnce library placed → NotedOnce library noted → (x y : Line) → Earlier x y (listing library cells a skip segments placed noted) → InOrder library (length cells) noted x y
  unfolding listing
  in_order p-once n-once x y e = go (earlier-append (joined lines_of positions) (leftovers (length cells) skip noted) e)
    where
      positions : List ℕ
      positions = from 0 (length cells)

      -- the second is at a higher address
      apart : x.address < y.address → InOrder library (length cells) noted x y
      apart h = record { ascending = omega (arith, h); by_name = λ s. absurd (omega (arith, h, s)); by-noting = λ s. absurd (omega (arith, h, s)) }

      inside : ((at : ℕ) × (at among positions) × Earlier x y (lines_of at)) ⊎ ((i : ℕ) × ((j : ℕ) × Earlier i j positions × ((x among lines_of i) × (y among lines_of j))))
          → InOrder library (length cells) noted x y
      inside (inl (at, m, f)) =
          let b = earlier-both (lines_of at) f in
          let x-at = address_is at x b.0 in
          let y-at = address_is at y b.1 in
          let low : at < length cells = omega (arith, (of-from 0 (length cells) m).1) in
          record { ascending = omega (arith, x-at, y-at); by_name = λ s l. by_names library cells a skip segments placed noted p-once n-once at x y f; by-noting = λ s l. absurd (omega (arith, y-at, low, l)) }
      inside (inr (i, (j, f, (m, n)))) =
          let up = earlier-from 0 (length cells) f in
          apart (omega (arith, up, address_is i x m, address_is j y n))

      go : Earlier x y (joined lines_of positions)
          ⊎ (((x among joined lines_of positions) × (y among leftovers (length cells) skip noted)) ⊎ Earlier x y (leftovers (length cells) skip noted))
          → InOrder library (length cells) noted x y
      go (inl f) = inside (earlier-joined lines_of positions f)
      go (inr (inl (m, n))) =
          let at = of-joined lines_of positions m in
          let low = (of-from 0 (length cells) at.1).1 in
          apart (omega (arith, address_is at.0 x at.2, low, past_end y n))
      go (inr (inr f)) =
          let r = by-notings x y f in
          let late = past_end y (earlier-both (leftovers (length cells) skip noted) f).1 in
          record { ascending = r.0; by_name = λ s l. absurd (omega (arith, late, l)); by-noting = λ s l. r.1 s }
