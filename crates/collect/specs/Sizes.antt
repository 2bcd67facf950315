-- How large the tables of a module are for a library: a content takes 7 bytes at least, and a public definition 6.
use Rattle.std.specs.Prelude.{ℕ, ◌*◌, ◌≤◌, List, length}

pub record Sizes (library contents definitions : List ℕ) : Type 0 where
  pub short : length library ≤ 1048576
  pub for-contents : length library ≤ 7 * length contents
  pub for-publics : length library ≤ 6 * length definitions
  pub few-contents : length contents ≤ 149797
  pub few-publics : length definitions ≤ 174848
