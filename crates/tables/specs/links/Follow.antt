-- Following links: the things that are met on the way.
use Rattle.std.specs.Prelude.{◌≡◌, ℕ, ◌-◌, ◌<◌, List, [], ◌∷◌, slice_index}

-- following the links from `link` on meets these things, one after another; `is j x` says that x stands at place j.
-- Each link is above the one before, so that the way comes to an end
unfoldable pub Follows : {A : Type 0} → (ℕ → A → Type 0) → List ℕ → ℕ → ℕ → List A → Type 0
Follows is next last link [] = link ≡ 0
Follows is next last link (x ∷ xs) = (last < link) × (is (link - 1) x × Follows is next link (slice_index next (link - 1)) xs)
