-- One reference, case by case; and references one after another. Assumes nothing.
use Rattle.std.specs.Prelude.{◌≡◌, ℕ, ◌+◌, Bool, true, false, ◌⊎◌, List, [], ◌∷◌, ◌++◌, ◌≢◌, refl, Ok, is_ok}
use Rattle.std.proofs.Common.{sym, subst, ◌∙◌}
use Rattle.std.proofs.Math.Path.{ap}
use Rattle.std.proofs.Math.Logic.{inl, inr}
use Rattle.std.proofs.Math.Option.{Option}
use Rattle.lent.specs.declared.part.Part.{Part}
use Rattle.lent.specs.Lists.{joined}
use Rattle.lent.specs.ListLaws.{joined_end}
use Rattle.tables.specs.declared.fill.Fill.{Fill}
use Rattle.image.specs.declared.fixup.Rules.{Rules}
use Rattle.image.specs.declared.fixup.Target.{Target}
use Rattle.image.specs.declared.fixup.Target.TheVariants.{At, PastEnd, Withheld}
use Rattle.segments.specs.declared.SegmentNumber.{SegmentNumber}
use Rattle.segments.specs.declared.Goal.{Goal}
use Rattle.segments.specs.declared.Reference.{Reference}
use Rattle.tables.specs.by_name.Tables.{table, Takes, LeadsOn}
use Rattle.tables.specs.by_name.TakeLaws.{takes_none, leads-all, lead-on, all-taken}
use Rattle.segments.specs.recalled.Recall.{recalled}
use Rattle.search_rules.specs.declared.Why.{Why}
use Rattle.search_rules.specs.Search.{Checked, leads, failed, failed_from, note_at, note}
use Rattle.search_rules.specs.SearchRows.{noted_sheet}
use Rattle.search.specs.failed.Failures.{why_of, FailsBy}
use Rattle.search.specs.failed.FailureLaws.{fails-led, or_else, goes_on, all_asked}
use Rattle.search.specs.note.NotedNames.{NotesOne, NotesAt, notes_of, Refers}
use Rattle.search.specs.Store.{Stored}

-- a reference notes nothing without a target, nor if its goal is a segment; else its name
module _ (valid : Bool) (library : List ℕ) (goal : Goal) (m heads : List ℕ) (f : Fill) where
  nothing : (target : Target) → note_at valid goal target ≡ [] → NotesAt library valid goal target m heads f m heads f
  nothing target e = subst (λ xs. Takes noted_sheet library (note library) xs (table m heads f) (table m heads f)) (sym e) (takes_none noted_sheet library (note library) (table m heads f))

  pub notes-nowhere : (target : Target) → ((at : ℕ) → target ≢ At at) → NotesAt library valid goal target m heads f m heads f
  notes-nowhere (At at) z = absurd (z at refl)
  notes-nowhere PastEnd z = nothing PastEnd refl
  notes-nowhere Withheld z = nothing Withheld refl

  module _ (target : Target) (t : ℕ) (e : target ≡ At t) where
    by-goal : (g : Goal) → goal ≡ g → note_at valid goal target ≡ note_at valid g (At t)
    by-goal g is = ap (note_at valid goal) e ∙ ap (λ x. note_at valid x (At t)) is

    pub notes-segment : (number : SegmentNumber) → goal ≡ Goal.Segment number → NotesAt library valid goal target m heads f m heads f
    notes-segment number g = nothing target (by-goal (Goal.Segment number) g)

    pub notes-name : (name : Part) → goal ≡ Goal.Name name → (m' heads' : List ℕ) (f' : Fill) → NotesOne library t name valid m heads f m' heads' f'
        → NotesAt library valid goal target m heads f m' heads' f'
    notes-name name g m' heads' f' h = subst (λ xs. Takes noted_sheet library (note library) xs (table m heads f) (table m' heads' f')) (sym (by-goal (Goal.Name name) g)) h

-- some of the references are gone over, and some are left
pub record Referring (cells : List ℕ) (rules : Rules) (position : ℕ) (valid : Bool) (library : List ℕ) (store : Stored) (n : ℕ) (every : List Reference) (k : ℕ) (left : List Reference)
    (m₀ heads₀ : List ℕ) (f₀ : Fill) (m heads : List ℕ) (f : Fill) (so_far : Checked) : Type 0 where
  pub notes : LeadsOn noted_sheet library (note library) (joined (notes_of cells rules position valid) left) (table m heads f) (joined (notes_of cells rules position valid) every) (table m₀ heads₀ f₀)
  pub fails : (references symbols : List ℕ)
      → or_else so_far (failed_from (why_of cells rules position (recalled store.segments references symbols store.bytes store.masks n)) k left)
      ≡ failed_from (why_of cells rules position (recalled store.segments references symbols store.bytes store.masks n)) 0 every

module _ (cells : List ℕ) (rules : Rules) (position : ℕ) (valid : Bool) (library : List ℕ) (store : Stored) (n : ℕ) (every : List Reference) (m₀ heads₀ : List ℕ) (f₀ : Fill) where
  abbrev On : ℕ → List Reference → List ℕ → List ℕ → Fill → Checked → Type 0
  On k left = Referring cells rules position valid library store n every k left m₀ heads₀ f₀

  abbrev why : List ℕ → List ℕ → Reference → Option Why
  why references symbols = why_of cells rules position (recalled store.segments references symbols store.bytes store.masks n)

  pub referring-starts : On 0 every m₀ heads₀ f₀ (Ok tt)
  referring-starts = record {
    notes = leads-all noted_sheet library (note library) (joined (notes_of cells rules position valid) every) (table m₀ heads₀ f₀);
    fails = λ references symbols. refl;
  }

  module _ {left : List Reference} (k : ℕ) (m heads : List ℕ) (f : Fill) (so_far : Checked) (l : On k left m heads f so_far) where
    -- one more: it notes by its goal and target, and is asked only where none failed
    pub referring-on : (r : Reference) (rest : List Reference) → left ≡ r ∷ rest → (t : Target) → t ≡ leads cells rules position r
        → (m' heads' : List ℕ) (f' : Fill) → NotesAt library valid r.goal t m heads f m' heads' f'
        → (ok : Bool) → ok ≡ is_ok so_far → (now : Checked)
        → ((ok ≡ true) × FailsBy cells store n k r.goal t now) ⊎ ((ok ≡ false) × (now ≡ so_far)) → On (k + 1) rest m' heads' f' now
    unfolding joined
    referring-on r rest e t led m' heads' f' h ok o now came = record {
      notes =
          lead-on noted_sheet library (note library) (note_at valid r.goal t) (joined (notes_of cells rules position valid) rest) (joined (notes_of cells rules position valid) every)
          {t₀ = table m₀ heads₀ f₀} {t = table m heads f} {u = table m' heads' f'}
          (ap (joined (notes_of cells rules position valid)) e ∙ ap (λ x. note_at valid r.goal x ++ joined (notes_of cells rules position valid) rest) (sym led)) h l.notes;
      fails = λ references symbols. goes_on (why references symbols) k so_far now r rest e ok o (asked references symbols came) ∙ l.fails references symbols;
    }
      where
        asked : (references symbols : List ℕ) → ((ok ≡ true) × FailsBy cells store n k r.goal t now) ⊎ ((ok ≡ false) × (now ≡ so_far))
            → ((ok ≡ true) × (now ≡ failed k (why references symbols r) (Ok tt))) ⊎ ((ok ≡ false) × (now ≡ so_far))
        asked references symbols (inl (z, is)) =
            inl (z, fails-led cells rules position store n k r t led now is references symbols)
        asked references symbols (inr w) = inr w

    pub referring-ends : left ≡ [] → Refers cells rules position valid library store n every m₀ heads₀ f₀ m heads (record { failed = so_far; fill = f })
    referring-ends e = record {
      notes = all-taken noted_sheet library (note library) (joined (notes_of cells rules position valid) every) {t₀ = table m₀ heads₀ f₀} {t = table m heads f} (joined_end (notes_of cells rules position valid) e) l.notes;
      fails = λ references symbols. sym (all_asked (why references symbols) k so_far e) ∙ l.fails references symbols;
    }
