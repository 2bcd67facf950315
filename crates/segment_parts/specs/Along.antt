-- On the way along links: which things are still to be met, and that adding or merging these finishes the work on all.
use Rattle.std.specs.Prelude.{ℕ, ◌≡◌, List}
use Rattle.lent.specs.Lists.{joined, fold}
use Rattle.lent.specs.Rows.{Layout}
use Rattle.tables.specs.declared.fill.Fill.{Fill}
use Rattle.tables.specs.fill.FilledRows.{Leads}
use Rattle.tables.specs.links.Follow.{Follows}

pub record Adding {A R : Type 0} (is : ℕ → A → Type 0) (next : List ℕ) (l : Layout R) (of : A → List R) (all : List A) (m₀ : List ℕ) (f₀ : Fill) (last link : ℕ) (m : List ℕ) (f : Fill) : Type 0 where
  pub left : List A
  pub follows : Follows is next last link left
  pub leads : Leads l (joined of left) m f (joined of all) m₀ f₀

pub record Merging {A : Type 0} (is : ℕ → A → Type 0) (next : List ℕ) (step : List ℕ → A → List ℕ) (all : List A) (m₀ : List ℕ) (last link : ℕ) (m : List ℕ) : Type 0 where
  pub left : List A
  pub follows : Follows is next last link left
  pub same : fold step m left ≡ fold step m₀ all
