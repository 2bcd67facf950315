-- What the passes of the sort leave: the lines of the region in some order; after the pass with gap 1 no line comes
-- before the line in front of it.
use Rattle.std.specs.Prelude.{ℕ, suc, ◌<◌, ◌≡◌, List, length, get_or, set}
use Rattle.lent.specs.Lists.{sorted}
use Rattle.lent.specs.Members.{◌among◌}
use Rattle.listing_rules.specs.declared.Line.{Line}
use Rattle.listing.specs.order.InOrder.{Every, Rising, Sinking}
use Rattle.listing.specs.order.Order.{by_name, Region, memory}

-- what a place past the end gives
abbrev pub no_line : Line
no_line = record { address = 0; grade = 0; name = record { at = 0; len = 0 } }

abbrev pub placed : List Line → ℕ → Line
placed lines i = get_or lines i no_line

-- lines that come to the same when they are put in order
pub record Mixed {library : List ℕ} {from n : ℕ} (r : Region library from n) (lines : List Line) : Type 0 where
  pub long : length lines ≡ n
  pub members : Every (λ x. x among r.lines) lines
  pub same : sorted (by_name library) lines ≡ sorted (by_name library) r.lines

-- memory that holds such lines
pub record Stands {library : List ℕ} {from n : ℕ} (r : Region library from n) (m : List ℕ) : Type 0 where
  pub lines : List Line
  pub mixed : Mixed r lines
  pub holds : m ≡ memory r lines

-- and a pass by single steps has put the first k of them in order
pub record Passed {library : List ℕ} {from n : ℕ} (r : Region library from n) (gap k : ℕ) (m : List ℕ) : Type 0 where
  pub now : Stands r m
  pub rising : gap ≡ 1 → Rising (by_name library) k (placed now.lines)

-- line x, which stood at place i, is held for place j
pub record Held {library : List ℕ} {from n : ℕ} (r : Region library from n) (gap i : ℕ) (x : Line) (m : List ℕ) (j : ℕ) : Type 0 where
  pub lines : List Line
  pub long : length lines ≡ n
  pub members : Every (λ y. y among r.lines) lines
  pub mine : x among r.lines
  pub same : sorted (by_name library) (set lines j x) ≡ sorted (by_name library) r.lines
  pub holds : m ≡ memory r lines
  pub sinking : gap ≡ 1 → Sinking (by_name library) i j (placed (set lines j x))

-- one line more, and all
abbrev pub Sinks : List ℕ → List ℕ → ℕ → ℕ → ℕ → List ℕ → Type 0
Sinks library m from gap i m' = (n : ℕ) (r : Region library from n) → Passed r gap i m → i < n → Passed r gap (suc i) m'

abbrev pub Passes : List ℕ → List ℕ → ℕ → ℕ → ℕ → List ℕ → Type 0
Passes library m from n gap m' = (r : Region library from n) → Stands r m → Passed r gap n m'
