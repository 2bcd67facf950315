-- The lines of the image's positions, from position to position. Assumes nothing.
use Rattle.std.specs.Prelude.{ℕ, zero, suc, ◌+◌, ◌-◌, ◌≤◌, ◌<◌, ◌≡◌, refl, Bool, true, false, List, [], ◌++◌, map, get_or, if◌then◌else◌}
use Rattle.std.proofs.Common.{sym, ap, subst, ◌∙◌}
use Rattle.std.proofs.Math.Nat.{sub-zero}
use native.Mathlib.Omega.{arith}
use Rattle.lent.specs.Lists.{keep, fold, from, sorted}
use Rattle.lent.specs.ListLaws.{from-turn, joined-turn, joined_end}
use Rattle.tables.specs.declared.fill.Fill.{Fill}
use Rattle.image.specs.declared.fixup.Rules.{Rules}
use Rattle.tables.specs.by_name.Sheet.{key_buckets}
use Rattle.tables.specs.by_name.HeadLaws.{head-none}
use Rattle.tables.specs.by_name.ChainLaws.{head-last}
use Rattle.search_rules.specs.SearchRows.{placed_sheet, noted_sheet}
use Rattle.listing_rules.specs.declared.Line.{Line}
use Rattle.listing_rules.specs.Listing.{SkipAmount, noted_line, best_grade, best, crowded}
use Rattle.listing_rules.specs.FrontLines.{Extends, LeadsTo}
use Rattle.listing_rules.proofs.FrontLineLaws.{extends-none, leads-first, leads-on, leads-same, leads-last}
use Rattle.listing.specs.position.RowsAt.{Known, stays_at, line_of, noted_at_it}
use Rattle.listing.specs.position.RowLines.{noted-within}
use Rattle.listing.specs.position.KnownLaws.{known-within}
use Rattle.listing.specs.position.PositionLines.{listed}
use Rattle.listing.specs.position.FinishLaws.{met-listed}
use Rattle.listing.specs.Bare.{Skips}
use Rattle.listing.specs.Inside.{lines_of, lines_from}

-- where nothing was met nothing is listed
none-listed : (library : List ℕ) (skip : SkipAmount) (all : List Line) → all ≡ [] → listed library skip all ≡ []
unfolding best best_grade keep fold sorted
none-listed library skip all e = ap (listed library skip) e ∙ go (crowded skip 0)
  where
    go : (t : Bool) → ◌≡◌ {A = List Line} (if t then [] else []) []
    go true = refl
    go false = refl

module _ (cells : List ℕ) {rules : Rules} {library segments references : List ℕ} {n : ℕ} {placed positions noted goals : List ℕ} (k : Known rules library segments references n placed positions noted goals) (skip : SkipAmount) where
  -- A POSITION WITHOUT ROWS
  empty-lines : (at : ℕ) → at < key_buckets → get_or positions at 0 ≡ 0 → get_or goals at 0 ≡ 0 → lines_of cells k skip at ≡ []
  empty-lines at small p g =
      let ps = head-last placed_sheet library k.ps at positions (k.sought.placings.headed refl) small 0 (sym (head-none positions at p)) (stays_at cells k at) (known-within cells rules library segments n references placed positions noted goals k at small) in
      let ns = head-last noted_sheet library k.ns at goals (k.sought.notings.headed refl) small 0 (sym (head-none goals at g)) (noted_at_it at) (noted-within at small) in
      sym (met-listed cells k at skip) ∙ none-listed library skip (map (line_of cells k) (keep (stays_at cells k at) k.ps) ++ map noted_line (keep (noted_at_it at) k.ns)) (rw (ps, ns) refl)

  empty-extends : (at : ℕ) (m : List ℕ) (f : Fill) → at < key_buckets → get_or positions at 0 ≡ 0 → get_or goals at 0 ≡ 0 → Extends (lines_of cells k skip at) m f m f
  empty-extends at m f small p g = subst (λ ls. Extends ls m f m f) (sym (empty-lines at small p g)) (extends-none m f)

  -- ONE AFTER ANOTHER, of so many positions
  module _ (end : ℕ) (m₀ : List ℕ) (f₀ : Fill) where
    abbrev pub LeadsFrom : ℕ → List ℕ → Fill → Type 0
    LeadsFrom at m f = LeadsTo (lines_from cells k skip at (end - at)) m f (lines_from cells k skip 0 end) m₀ f₀

    pub inside-first : LeadsFrom 0 m₀ f₀
    inside-first = leads-same (lines_from cells k skip 0 end) m₀ f₀ {m = m₀} {f = f₀} (ap (lines_from cells k skip 0) (sym (sub-zero end))) (leads-first (lines_from cells k skip 0 end) m₀ f₀)

    pub inside_on : (at : ℕ) (m : List ℕ) (f : Fill) (m' : List ℕ) (f' : Fill) → at < end → LeadsFrom at m f → Extends (lines_of cells k skip at) m f m' f' → LeadsFrom (at + 1) m' f'
    inside_on at m f m' f' h l step =
        leads-on (lines_from cells k skip 0 end) m₀ f₀ {left = lines_from cells k skip at (end - at)} {rest = lines_from cells k skip (at + 1) (end - (at + 1))} (lines_of cells k skip at) {m = m} {m' = m'} {f = f} {f' = f'}
        (joined-turn (lines_of cells k skip) (from-turn at end h)) l step

    -- positions without rows are passed over
    pub inside-skip : (at r : ℕ) (m : List ℕ) (f : Fill) → at ≤ end → end ≤ key_buckets → Skips positions goals at end r → LeadsFrom at m f → LeadsFrom r m f
    inside-skip at r m f low small s l = subst (λ x. LeadsFrom x m f) (omega (arith, s.on)) (over (r - at) (omega (arith, s.on)))
      where
        over : (d : ℕ) → at + d ≤ r → LeadsFrom (at + d) m f
        over zero h = subst (λ x. LeadsFrom x m f) (omega arith) l
        over (suc d) h =
            let e = s.bare (at + d) (omega arith) (omega arith) in
            subst (λ x. LeadsFrom x m f) (omega arith)
            (inside_on (at + d) m f m f (omega (arith, s.within low)) (over d (omega arith)) (empty-extends (at + d) m f (omega (arith, s.within low)) e.0 e.1))

    pub inside-last : (at : ℕ) (m : List ℕ) (f : Fill) → end ≤ at → LeadsFrom at m f → Extends (lines_from cells k skip 0 end) m₀ f₀ m f
    unfolding from
    inside-last at m f h l =
        let z : end - at ≡ 0 = omega arith in
        leads-last (lines_from cells k skip 0 end) m₀ f₀ {left = lines_from cells k skip at (end - at)} {m = m} {f = f} (joined_end (lines_of cells k skip) (ap (from at) z)) l
