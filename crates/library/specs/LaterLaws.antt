-- A LATER BARE MODULE THAT CAN'T BE READ ends the list of modules, and those before it stay, however many there are: it is no refusal 5. Assumes nothing.
use Rattle.std.specs.Prelude.{ℕ, ◌≡◌, false, List, [], ◌∷◌, eqb}
use Rattle.std.proofs.Common.{ap, ◌∙◌}
use Rattle.lent.specs.Lists.{one}
use Rattle.lent.specs.Parts.{byte_at}
use Rattle.omf51.specs.declared.Edition.TheVariants.{One}
use Rattle.omf51.specs.Reader.{read, stop, and_then, after, many, not_empty}
use Rattle.omf51.specs.Module.{Module, module_at}
use Rattle.omf51.specs.File.{file_read, file_by, file}
use Rattle.library.specs.RepeatLaws.{onto, many-turn}
use Rattle.library.specs.WholeLaws.{modules-move}

-- these modules stand one after another, from a place on up to another
unfoldable pub InRow : List ℕ → ℕ → List Module → ℕ → Type 0
InRow library at [] end = at ≡ end
InRow library at (m ∷ ms) end = (next : ℕ) × (module_at library at ≡ read (one m) next) × InRow library next ms end

many-row : (library : List ℕ) (at : ℕ) (ms : List Module) (end : ℕ) → InRow library at ms end → module_at library end ≡ stop → many library (module_at library) at ≡ read ms end
unfolding InRow
many-row library at [] end r s = many-turn library (module_at library) (modules-move One library) at ∙ rw (r, s)
many-row library at (m ∷ ms) end (next, e, r) s =
    many-turn library (module_at library) (modules-move One library) at
    ∙ ap (after (λ xs k. onto xs (many library (module_at library) k)) [] at) e
    ∙ ap (onto (one m)) (many-row library next ms end r s)

pub damaged-later : (library : List ℕ) (m : Module) (ms : List Module) (end : ℕ) → eqb (byte_at library 0) 0x2c ≡ false
    → InRow library 0 (m ∷ ms) end → module_at library end ≡ stop → file library ≡ read (m ∷ ms) end
unfolding file_by file_read
damaged-later library m ms end bare r s = rw bare (ap (λ o. and_then o not_empty) (many-row library 0 (m ∷ ms) end r s))
