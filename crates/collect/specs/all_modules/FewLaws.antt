-- A module has no more definitions than the library has bytes, so the numbers of its segments fit. Assumes nothing.
use Rattle.std.specs.Prelude.{ℕ, zero, suc, ◌+◌, ◌<◌, ◌≤◌, ◌^◌, ◌≡◌, refl, Bool, true, false, List, [], ◌∷◌, length, if◌then◌else◌}
use Rattle.std.proofs.Common.{ap, ◌∙◌, arith}
use Rattle.std.proofs.Math.Option.{Option, none, some}
use Rattle.std.specs.Prelude.{Option as Answer, Some, None}
use Rattle.lent.specs.Lists.{keep, place_of, first}
use Rattle.omf51.specs.declared.ModuleId.{ModuleId}
use Rattle.omf51.specs.declared.Definition.{Definition}
use Rattle.omf51.specs.Module.{definitions_at}
use Rattle.library.specs.Gathered.{items_at}
use Rattle.library.specs.declared.items.Cursor.{Cursor}
use Rattle.library.specs.declared.items.NextDefinition.{NextDefinition}
use Rattle.library.specs.items.Walk.{start_at}
use Rattle.library.specs.items.Items.{next_definition}
use Rattle.library.specs.items.Left.{definitions_left}
use Rattle.library.specs.items.Yields.{definitions_after, next-definition-yields, definitions-start}
use Rattle.library.specs.items.ForwardLaws.{Ordered, definition-goes}
use Rattle.segments.specs.Ids.{is_kept, segment_of}
use Rattle.module_ids.specs.IdRows.{kept_as, id_row}
use Rattle.module_ids.specs.Noted.{Tells}
use Rattle.module_ids.specs.reference.LeftReference.{place_in}
use Rattle.segment_parts.specs.AddedReferences.{Placeable}

left-few : (library : List ℕ) (n : ℕ) (c : Cursor) → Ordered c → c.at ≤ length library → length (definitions_left library c) ≡ n → c.at + n ≤ length library
left-few library zero c o h e = omega arith
left-few library (suc n) c o h e = go (next_definition library c) refl (left-few library n)
  where
    go : (s : Answer NextDefinition) → next_definition library c ≡ s → ((k : Cursor) → Ordered k → k.at ≤ length library → length (definitions_left library k) ≡ n → k.at + n ≤ length library)
        → c.at + suc n ≤ length library
    go (Some next) q again =
        let f = definition-goes library c o q in
        let l : length (definitions_left library c) ≡ suc (length (definitions_left library next.rest)) = ap length (next-definition-yields library c ∙ ap (definitions_after library) q) in
        omega (arith, f.later, again next.rest f.ordered f.inside (omega (arith, l, e)))
    go None q again =
        let l : length (definitions_left library c) ≡ 0 = ap length (next-definition-yields library c ∙ ap (definitions_after library) q) in
        absurd (omega (arith, l, e))

definitions-few : (library : List ℕ) (at : ℕ) → length (items_at library (definitions_at library) at) ≤ length library
definitions-few library at =
    omega (arith, ap length (definitions-start library at), left-few library (length (definitions_left library (start_at at))) (start_at at) (record { before = omega arith; body-before = omega arith }) (omega arith) refl)

-- a place among those that are kept
place-few : {A : Type 0} (p : A → Bool) (xs : List A) → place_of p xs ≤ length xs
unfolding place_of
place-few p [] = omega arith
place-few p (x ∷ xs) = go (p x) (place-few p xs)
  where
    go : (t : Bool) → place_of p xs ≤ length xs → (if t then 0 else suc (place_of p xs)) ≤ suc (length xs)
    go true h = omega arith
    go false h = omega arith

keep-few : {A : Type 0} (p : A → Bool) (xs : List A) → length (keep p xs) ≤ length xs
unfolding keep
keep-few p [] = omega arith
keep-few p (x ∷ xs) = go (p x) (keep-few p xs)
  where
    go : (t : Bool) → length (keep p xs) ≤ length xs → length (if t then x ∷ keep p xs else keep p xs) ≤ suc (length xs)
    go true h = omega arith
    go false h = omega arith

place-in : (k : ℕ) (o : Option Definition) → place_in (kept_as k o) ≤ k
place-in k none = omega arith
place-in k (some d) = omega arith

kept-few : (ds : List Definition) (id : ModuleId) → place_in (id_row ds id).kept ≤ length ds
unfolding id_row
kept-few ds id =
    omega (arith, place-in (place_of (segment_of id) (keep is_kept ds)) (first (segment_of id) (keep is_kept ds)), place-few (segment_of id) (keep is_kept ds), keep-few is_kept ds)

pub numbers_fit : (library : List ℕ) (at number : ℕ) {table : List ℕ} → Tells (items_at library (definitions_at library) at) table → number + length library < 2 ^ 64 → Placeable table number 0
numbers_fit library at number {table} t h = record {
  numbers = λ id small. omega (arith, ap (λ r. place_in r.kept) (t.rows id small), kept-few (items_at library (definitions_at library) at) id, definitions-few library at);
  places = omega arith;
}
