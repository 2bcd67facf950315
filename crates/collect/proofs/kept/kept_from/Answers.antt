-- `kept_from` looks the links of a definition up by its id. Assumes nothing.
use Prim.Native.Nat.{◌<◌}
use mathlib.Core.Path.{refl, subst}
use Rattle.omf51.specs.declared.ModuleId.{ModuleId}
use Rattle.collect.proofs.kept.kept_from.Goals as goal

pub returns : goal.returns
returns c =
    let id = c.id_of-id.ensures in (
      rw (c.link_at.ensures, c.head_of.ensures, c.size_of.ensures, c.id_row-row.ensures.0, id.0) refl,
      subst (λ (i : ModuleId). i.0 < 65536) id.0 id.1,
    )
