-- `name_inside` flags, names and clears. Assumes nothing.
use mathlib.Core.Path.{◌∙◌}
use lib.ListN.{take}
use Rattle.tables.specs.links.Things.{keys_of}
use Rattle.tables.specs.links.ThingLaws.{key-small}
use Rattle.segment_parts.specs.symbols_by_offset.FlagLaws.{none-flagged, words-taken}
use Rattle.segment_parts.proofs.symbols_by_offset.names.name_inside.Goals as goal

pub flag_inside-s-requires : goal.flag_inside-s-requires
flag_inside-s-requires c =
    (c.requires.0, c.requires.1.0)

pub name_blocks-f-requires : goal.name_blocks-f-requires
name_blocks-f-requires c =
    let b = c.flag_inside-s.ensures.grows.bounds (none-flagged c.args.flags.now c.requires.1.1) in
    (b.low_small, b.high_small)

pub returns : goal.returns
returns c =
    let a = c.args in
    let f = c.flag_inside-s.ensures in
    record {
      long = c.name_blocks-f.ensures.long;
      flags_long = c.clear_blocks.ensures.long ∙ f.grows.long;
      clear = c.clear_blocks.ensures.clear (f.grows.bounds (none-flagged a.flags.now c.requires.1.1));
      adds = λ p o. c.name_blocks-f.ensures.adds p o.standing
          (f.met (take a.n (keys_of a.publics.now)) o.linked o.wide
          (words-taken (keys_of a.publics.now) a.n (key-small a.publics.now)));
    }
