-- A module's places: by the ends of its parts, and what they hold. Assumes nothing.
use Rattle.std.specs.Prelude.{ℕ, ◌≡◌, refl, true, false, List}
use Rattle.std.proofs.Common.{ap, ◌∙◌}
use Rattle.lent.specs.declared.part.Part.{Part}
use Rattle.lent.specs.declared.refusal.Refusal.TheVariants.{NamesDiffer}
use Rattle.lent.specs.Parts.{same_name}
use Rattle.omf51.specs.declared.Edition.{Edition}
use Rattle.omf51.specs.Ends.{End}
use Rattle.std.specs.Prelude.{Some, None, Ok, Err}
use Rattle.omf51.specs.declared.entry.Entries.TheVariants.{Definitions}
use Rattle.omf51.specs.Reader.{ReadOutcome, read, stop, refused, and_then, many}
use Rattle.omf51.specs.Module.{definitions_by, sections_by}
use Rattle.omf51.specs.Ends.{end_of}
use Rattle.library.specs.Passes.{all_end_by, sections_end_by, head_by, last_by, closed_by, last_places, rest_places, places_by}

-- the end record, and the names
module _ (e : Edition) (library : List ℕ) (name : Part) (definitions contents : ℕ) where
  pub last-known : (at : ℕ) {o : ReadOutcome Part} → last_by e library at ≡ o
      → last_places e library name definitions contents at ≡ and_then o (closed_by library name definitions contents)
  unfolding last_places
  last-known at q = rw q

  module _ (at : ℕ) {last : Part} {next : ℕ} (q : last_by e library at ≡ read last next) where
    pub last-same : same_name library name last ≡ true
        → last_places e library name definitions contents at ≡ read (record { definitions = definitions; contents = contents; next = next }) next
    last-same s = last-known at q ∙ rw s

    pub last-differs : same_name library name last ≡ false → last_places e library name definitions contents at ≡ refused NamesDiffer
    last-differs s = last-known at q ∙ rw s

-- a reader that goes on from where another ended
abbrev on_end : {B : Type 0} → (ℕ → ReadOutcome B) → End → ReadOutcome B
on_end f (Ok (Some k)) = f k
on_end f (Ok None) = stop
on_end f (Err r) = refused r

then-from : {A B : Type 0} (o : ReadOutcome A) (f : ℕ → ReadOutcome B) {e : End} → end_of o ≡ e → and_then o (λ _ k. f k) ≡ on_end f e
then-from {A} {B} o f e = go o ∙ ap (on_end f) e
  where
    go : (o : ReadOutcome A) → and_then o (λ _ k. f k) ≡ on_end f (end_of o)
    go (read a k) = refl
    go stop = refl
    go (refused r) = refl

-- what follows the header, by where the definitions and the contents end
module _ (e : Edition) (library : List ℕ) (name : Part) (definitions : ℕ) where
  pub rest-known : {x : End} → all_end_by e Definitions library definitions ≡ x
      → rest_places e library name definitions
      ≡ on_end (λ contents. and_then (many library (sections_by e library) contents) λ _ at. last_places e library name definitions contents at) x
  unfolding rest_places
  rest-known q = then-from (many library (definitions_by e library) definitions) _ q

  pub contents-known : {contents : ℕ} {x : End} → all_end_by e Definitions library definitions ≡ Ok (Some contents) → sections_end_by e library contents ≡ x
      → rest_places e library name definitions ≡ on_end (last_places e library name definitions contents) x
  contents-known {contents} d q = rest-known d ∙ then-from (many library (sections_by e library) contents) _ q

pub head-known : (e : Edition) (library : List ℕ) (at : ℕ) {o : ReadOutcome Part} → head_by e library at ≡ o → places_by e library at ≡ and_then o (rest_places e library)
unfolding places_by
head-known e library at q = rw q
