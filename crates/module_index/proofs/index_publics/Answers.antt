-- `index_publics` gathers, and links what was gathered. Assumes nothing.
use Rattle.module_index.specs.gather.Places.{PublicIs, no_definition}
use Rattle.module_index.specs.gather.Publics.{key_by}
use Rattle.module_index.specs.IndexedTableLaws.{indexed-ready, indexed-linked}
use Rattle.module_index.proofs.index_publics.Goals as goal

pub link-requires : goal.link-requires
link-requires c =
    let a = c.args in
    indexed-ready (key_by a.by) (PublicIs a.library.now) no_definition c.gather_publics-n.ensures c.requires

pub returns : goal.returns
returns c =
    let a = c.args in
    indexed-linked (key_by a.by) (PublicIs a.library.now) no_definition
    c.gather_publics-n.ensures
    c.link.ensures c.things-2-1.given c.first-1.given
