-- The passes of the sort, from the first to the last. Assumes nothing.
use Rattle.std.specs.Prelude.{ℕ, ◌+◌, ◌≤◌, ◌≡◌, refl, List, ◌++◌}
use Rattle.std.proofs.Common.{sym, ◌∙◌}
use Rattle.std.proofs.Math.Path.{ap}
use Rattle.std.proofs.Math.Decide.{ℕ_discrete}
use native.Mathlib.Omega.{arith}
use Rattle.std.proofs.Math.ListN.{length, length-append}
use Rattle.lent.specs.Lists.{sorted}
use Rattle.lent.specs.ListLaws.{rows-length}
use Rattle.lent.specs.Members.{◌among◌}
use Rattle.listing_rules.specs.Listing.{line_width, line_cells, line_numbers}
use Rattle.listing_rules.proofs.LineLayoutLaws.{line-width}
use Rattle.listing.specs.order.InOrder.{Rising}
use Rattle.listing.specs.order.InsertLaws.{every-mine}
use Rattle.listing.specs.order.InOrderLaws.{in_order}
use Rattle.listing.specs.order.Order.{by_name, Region, memory}
use Rattle.listing.specs.order.Passes.{no_line, placed, Stands, Passed}
use Rattle.listing.specs.order.OrderLaws.{by_name_lem, apart-compare}

module _ {library : List ℕ} {from n : ℕ} (r : Region library from n) (m : List ℕ) where
  -- memory that holds a region has room for it
  pub region-fits : m ≡ memory r r.lines → from + n ≤ length m
  unfolding line_numbers
  region-fits h =
      omega (
        arith,
        ap length h,
        length-append (line_numbers (r.done ++ r.lines)) r.rest,
        rows-length line_width line_cells line-width (r.done ++ r.lines),
        length-append r.done r.lines,
        r.done-long,
        r.long,
      )

  pub stands-first : m ≡ memory r r.lines → Stands r m
  stands-first h = record { lines = r.lines; mixed = record { long = r.long; members = every-mine r.lines; same = refl }; holds = h }

  -- the last pass is one by single steps, unless there are no two lines
  pub stands-last : (gap : ℕ) → Passed r gap n m → gap ≤ 1 → (gap ≡ 0 → n ≡ 0) → m ≡ memory r (sorted (by_name library) r.lines)
  stands-last gap t small none =
      let s = t.now in
      s.holds
      ∙ ap (memory r) (sym (in_order (by_name library) (by_name_lem library) (λ y. y among r.lines) (apart-compare library r.lines r.apart) no_line s.lines s.mixed.members up) ∙ s.mixed.same)
    where
      all : Dec (gap ≡ 1) → Rising (by_name library) n (placed t.now.lines)
      all (yes g) = t.rising g
      all (no g) = λ p h. absurd (omega (arith, none (omega (arith, g)), h))

      up : Rising (by_name library) (length t.now.lines) (placed t.now.lines)
      up p h = all (ℕ_discrete gap 1) p (omega (arith, t.now.mixed.long))
