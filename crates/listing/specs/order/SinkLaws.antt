-- A line on its way down: it is held, and the lines that it passes are put one step up. Assumes nothing.
use Rattle.std.specs.Prelude.{ℕ, suc, ◌+◌, ◌-◌, ◌≤◌, ◌<◌, ◌≡◌, true, false, List, length, set}
use Rattle.std.proofs.Common.{sym, ap, subst, ◌∙◌, arith, length-set, get_or-set_same, get_or-set_other}
use Rattle.std.proofs.lemmas.List.{set-get_or}
use Rattle.lent.specs.Lists.{sorted}
use Rattle.lent.specs.Members.{◌among◌}
use Rattle.lent.specs.Rows.{put_row}
use Rattle.listing_rules.specs.declared.Line.{Line}
use Rattle.listing_rules.specs.Listing.{line_width, line_cells}
use Rattle.listing_rules.specs.LineLayout.{line_at}
use Rattle.listing.specs.order.InOrder.{Every}
use Rattle.listing.specs.order.InsertLaws.{every_set, every-at, shifted}
use Rattle.listing.specs.order.InOrderLaws.{sinking-starts, sinking-ends, step_down}
use Rattle.listing.specs.order.Order.{by_name, Region, memory}
use Rattle.listing.specs.order.Passes.{no_line, placed, Passed, Held}
use Rattle.listing.specs.order.OrderLaws.{by_name_lem, apart-compare}
use Rattle.listing.specs.order.RegionLaws.{region-line, region-put}

module _ {library : List ℕ} {from n : ℕ} (r : Region library from n) where
  -- what a place of the region holds is read
  read : (lines : List Line) (m : List ℕ) → m ≡ memory r lines → length lines ≡ n → Every (λ y. y among r.lines) lines → (k : ℕ) → k < n
      → (placed lines k among r.lines) × (line_at m (from + k) ≡ placed lines k)
  read lines m h l e k b =
      let mine = every-at (λ y. y among r.lines) lines k no_line (omega arith) e in
      (mine, region-line r lines m h k (omega arith) (r.small (placed lines k) mine))

module _ {library : List ℕ} {from n : ℕ} (r : Region library from n) (gap i : ℕ) (below : i < n) where
  pub held_first : (m : List ℕ) → Passed r gap i m → (x : Line) → x ≡ line_at m (from + i) → Held r gap i x m i
  held_first m t x e =
      let s = t.now in
      let got = read r s.lines m s.holds s.mixed.long s.mixed.members i below in
      let own : x ≡ placed s.lines i = e ∙ got.1 in
      let still : set s.lines i x ≡ s.lines = ap (set s.lines i) own ∙ set-get_or s.lines i no_line in
      record {
        lines = s.lines;
        long = s.mixed.long;
        members = s.mixed.members;
        mine = subst (λ y. y among r.lines) (sym own) got.0;
        same = ap (sorted (by_name library)) still ∙ s.mixed.same;
        holds = s.holds;
        sinking = λ g. sinking-starts (by_name library) i (placed s.lines) (placed (set s.lines i x)) (λ p. ap (λ xs. placed xs p) still) (t.rising g);
      }

  module _ (x : Line) (m : List ℕ) (j : ℕ) (held : Held r gap i x m j) (within : j ≤ i) where
    pub held_next : (y : Line) (m' : List ℕ) → 0 < gap → gap ≤ j → y ≡ line_at m (from + (j - gap)) → by_name library x y ≡ true
        → m' ≡ put_row line_width m (from + j) (line_cells y) → Held r gap i x m' (j - gap)
    held_next y m' p q e less put =
        let got = read r held.lines m held.holds held.long held.members (j - gap) (omega arith) in
        let own : y ≡ placed held.lines (j - gap) = e ∙ got.1 in
        let up : by_name library x (placed held.lines (j - gap)) ≡ true = ap (by_name library x) (sym own) ∙ less in
        record {
          lines = set held.lines j (placed held.lines (j - gap));
          long = length-set held.lines j (placed held.lines (j - gap)) ∙ held.long;
          members = every_set (λ z. z among r.lines) held.lines j (placed held.lines (j - gap)) held.members got.0;
          mine = held.mine;
          same =
              shifted (by_name library) (by_name_lem library) (λ z. z among r.lines) (apart-compare library r.lines r.apart) x held.lines (j - gap) j no_line (omega arith) (omega (arith, held.long)) held.mine held.members
              ∙ held.same;
          holds = put ∙ ap (λ z. put_row line_width m (from + j) (line_cells z)) own ∙ region-put r held.lines m held.holds j (omega (arith, held.long)) (placed held.lines (j - gap));
          sinking = λ g.
              step_down (by_name library) (by_name_lem library) no_line x held.lines i (j - gap) j (omega arith) (omega (arith, held.long)) up (held.sinking g);
        }

    pub held-last : (m' : List ℕ) → (gap ≤ j → by_name library x (line_at m (from + (j - gap))) ≡ false)
        → m' ≡ put_row line_width m (from + j) (line_cells x) → Passed r gap (suc i) m'
    held-last m' stop put = record {
      now = record {
        lines = set held.lines j x;
        mixed = record {
          long = length-set held.lines j x ∙ held.long;
          members = every_set (λ z. z among r.lines) held.lines j x held.members held.mine;
          same = held.same;
        };
        holds = put ∙ region-put r held.lines m held.holds j (omega (arith, held.long)) x;
      };
      rising = λ g. sinking-ends (by_name library) i j (placed (set held.lines j x)) (held.sinking g) (λ p e. stays g p e);
    }
      where
        stays : gap ≡ 1 → (p : ℕ) → suc p ≡ j → by_name library (placed (set held.lines j x) j) (placed (set held.lines j x) p) ≡ false
        stays g p e =
            let k : j - gap ≡ p = omega arith in
            let got = read r held.lines m held.holds held.long held.members (j - gap) (omega arith) in
            ap (λ z. by_name library z (placed (set held.lines j x) p)) (get_or-set_same held.lines j x no_line (omega (arith, held.long)))
            ∙ ap (by_name library x) (get_or-set_other held.lines j p x no_line (λ q. omega arith) ∙ ap (placed held.lines) (sym k) ∙ sym got.1)
            ∙ stop (omega arith)
