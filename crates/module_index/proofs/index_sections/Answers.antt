-- `index_sections` gathers, and links what was gathered. Assumes nothing.
use Rattle.module_index.specs.gather.Places.{section_key, SectionIs, no_section}
use Rattle.module_index.specs.IndexedTableLaws.{indexed-ready, indexed-linked}
use Rattle.module_index.proofs.index_sections.Goals as goal

pub link-requires : goal.link-requires
link-requires c =
    indexed-ready section_key (SectionIs c.args.library.now) no_section c.gather_sections-n.ensures c.requires

pub returns : goal.returns
returns c =
    indexed-linked section_key (SectionIs c.args.library.now) no_section
    c.gather_sections-n.ensures
    c.link.ensures c.things-2-1.given c.first-1.given
