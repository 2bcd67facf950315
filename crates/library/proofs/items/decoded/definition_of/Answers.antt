-- `definition_of` by the record's type. Assumes nothing.
use mathlib.Core.Path.{sym, ◌∙◌}
use Rattle.library.specs.items.ItemLaws.{segment-here, public-here, external-here}
use Rattle.library.proofs.items.decoded.definition_of.Goals as goal

pub name_at-name-requires : goal.name_at-name-requires
name_at-name-requires c =
    rw c.name_offset.ensures.0 c.requires

pub returns-then-is_segment : goal.returns-then-is_segment
returns-then-is_segment c =
    let a = c.args in
    rw (
      c.id_at.ensures,
      c.segment_size.ensures,
      c.word_at.ensures,
      c.byte_at.ensures,
      c.byte_at-info.ensures,
      c.name_at-name.ensures,
      c.name_offset.ensures.0,
      c.id_size.ensures.0,
    )
    (sym (segment-here a.library.now a.f a.at (sym c.is_segment.ensures ∙ c.if-is_segment.true)))

pub returns-then-is_public : goal.returns-then-is_public
returns-then-is_public c =
    let a = c.args in
    rw (
      c.id_at-then-is_public.ensures,
      c.word.ensures,
      c.name_at-name.ensures,
      c.name_offset.ensures.0,
      c.id_size.ensures.0,
    )
    (sym (public-here a.library.now a.f a.at
    (sym c.is_segment.ensures ∙ c.if-is_segment.false)
    (sym c.is_public.ensures ∙ c.if-is_public.true)))

pub returns : goal.returns
returns c =
    let a = c.args in
    rw (
      c.id_at-2.ensures,
      c.byte_at-2.ensures,
      c.name_at-name.ensures,
      c.name_offset.ensures.0,
      c.id_size.ensures.0,
    )
    (sym (external-here a.library.now a.f a.at
    (sym c.is_segment.ensures ∙ c.if-is_segment.false)
    (sym c.is_public.ensures ∙ c.if-is_public.false)))
