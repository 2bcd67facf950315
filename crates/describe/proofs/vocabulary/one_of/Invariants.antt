-- `one_of` meets its contract: the words that are left decide, since none before them stands there.
use mathlib.Core.Path.{◌≡◌}
use lib.ListN.{drop}
use Rattle.describe.specs.Describe.{one_of}
use Rattle.describe.specs.Described.{words_of}
use Rattle.describe.proofs.vocabulary.one_of.Given as goal

abbrev pub invariant-loop-word : goal.invariant-loop-word
invariant-loop-word l =
    one_of (words_of (drop l.word-index l.words)) l.name ≡ one_of (words_of l.words) l.name
