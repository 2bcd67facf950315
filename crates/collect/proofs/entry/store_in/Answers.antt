-- `store_in` lends heads of zeros, and room for masks. Assumes nothing.
use Rattle.collect.specs.ZeroLaws.{tables-work}
use Rattle.collect.proofs.entry.store_in.Goals as goal

pub store_all-requires : goal.store_all-requires
store_all-requires c =
    let p = c.requires in
    (tables-work p.0 p.1.0 c.zeros-first.ensures c.zeros-names.ensures c.zeros-apart.ensures, p.1.1)
