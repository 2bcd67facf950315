-- Steps from link to link: one more thing is met. Assumes nothing.
use Rattle.std.specs.Prelude.{ℕ, ◌-◌, ◌<◌, ◌≤◌, ◌≡◌, refl, List, get_or}
use Rattle.std.proofs.Common.{sym, ap, ◌∙◌}
use Rattle.lent.specs.Lists.{joined, fold}
use Rattle.lent.specs.ListLaws.{joined-turn, joined_end, fold-turn, fold_end}
use Rattle.lent.specs.Rows.{Layout}
use Rattle.tables.specs.declared.fill.Fill.{Fill}
use Rattle.tables.specs.fill.FilledRows.{Adds}
use Rattle.tables.specs.fill.AddedRowLaws.{lead-on, all-added}
use Rattle.tables.specs.links.Follow.{Follows}
use Rattle.tables.specs.links.FollowLaws.{Met, follows-end, follows-step}
use Rattle.segment_parts.specs.Along.{Adding, Merging}

module _ {A : Type 0} (is : ℕ → A → Type 0) (next : List ℕ) (all : List A) (m₀ : List ℕ) where
  module _ {R : Type 0} (l : Layout R) (of : A → List R) (f₀ : Fill) where
    pub adding-starts : {link : ℕ} → Follows is next 0 link all → Adding is next l of all m₀ f₀ 0 link m₀ f₀
    adding-starts f = record { left = all; follows = f; leads = λ n g h. h }

    pub adding-on : (last link : ℕ) (m n : List ℕ) (f g : Fill) → last < link → Adding is next l of all m₀ f₀ last link m f
        → ((x : A) → is (link - 1) x → Adds l (of x) m f n g) → Adding is next l of all m₀ f₀ link (get_or next (link - 1) 0) n g
    adding-on last link m n f g h a step =
        let t : Met is next link a.left = follows-step is next last link a.left h a.follows in
        record {
          left = t.rest;
          follows = t.goes_on;
          leads = lead-on l (of t.head) {m₀ = m₀} {m = m} {n = n} {f₀ = f₀} {f = f} {g = g} (joined-turn of t.whole) (step t.head t.stands) a.leads;
        }

    pub adding-ends : (last link : ℕ) (m : List ℕ) (f : Fill) → link ≤ last → Adding is next l of all m₀ f₀ last link m f → Adds l (joined of all) m₀ f₀ m f
    adding-ends last link m f h a = all-added l (joined_end of (follows-end is next last link a.left h a.follows)) a.leads

  module _ (step : List ℕ → A → List ℕ) where
    pub merging-starts : {link : ℕ} → Follows is next 0 link all → Merging is next step all m₀ 0 link m₀
    merging-starts f = record { left = all; follows = f; same = refl }

    pub merging-on : (last link : ℕ) (m : List ℕ) {n : List ℕ} → last < link → Merging is next step all m₀ last link m
        → ((x : A) → is (link - 1) x → n ≡ step m x) → Merging is next step all m₀ link (get_or next (link - 1) 0) n
    merging-on last link m h a turn =
        let t : Met is next link a.left = follows-step is next last link a.left h a.follows in
        record {
          left = t.rest;
          follows = t.goes_on;
          same = ap (λ x. fold step x t.rest) (turn t.head t.stands) ∙ sym (fold-turn step m t.whole) ∙ a.same;
        }

    pub merging-ends : (last link : ℕ) (m : List ℕ) → link ≤ last → Merging is next step all m₀ last link m → m ≡ fold step m₀ all
    merging-ends last link m h a = sym (fold_end step m (follows-end is next last link a.left h a.follows)) ∙ a.same
