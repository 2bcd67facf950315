-- Demand 3: bytes that are withheld have no influence on anything that a run gives. Assumes nothing.
-- What a cover takes away is proved in the crate image: `matches-seen` (MatchLaws.antt) of matches, `wider` (ViewMatchLaws.antt)
-- of the matches under a wider cover, `no_target` (fixup/TargetLaws.antt) of references.
use Rattle.std.specs.Prelude.{ℕ, ◌≤◌, ◌<◌, ◌≡◌, false, List, length}
use Rattle.std.proofs.Math.Path.{refl, ap}
use Rattle.std.proofs.Common.{sym, ◌∙◌}
use Rattle.std.proofs.lemmas.Bool.{false≢true}
use borrow.Author.Tests.{le-ltb}
use Rattle.lent.specs.Lists.{any}
use Rattle.image.specs.declared.cover.Stretches.{Stretches}
use Rattle.image.specs.View.{within, view}
use Rattle.image.proofs.ViewLaws.{Inside, Agree, same_view, same-cover, view-none, view-length}
use Rattle.image.specs.Cover.{cover_of, passes_end}
use Rattle.image.proofs.CoverLaws.{AllFit, all_fit, no-stretches}
use Rattle.run.specs.declared.Settings.{Settings}
use Rattle.run.specs.Run.{Lent, cover, stages, refusals, run_seen, run}

-- two images of one length that agree outside the cover give one outcome: answer, counts, refusal, and every lent list
pub same-run : (a b library : List ℕ) (s : Settings) (lent : Lent) → Agree a b (cover s) → run a library s lent ≡ run b library s lent
unfolding run
same-run a b library s lent h = ap (λ cells. run_seen cells library s lent) (same_view a b (cover s) h)

-- stretches that are refused neither with 16 nor with 4
pub record Fit (image : List ℕ) (w : Stretches) : Type 0 where
  pub few : w.count ≤ 16
  pub within-image : AllFit (length image) (cover_of w)

-- the same settings with other stretches
abbrev pub withholding : Settings → Stretches → Settings
withholding s w = record { rules = s.rules; edition = s.edition; depth = s.depth; minimum = s.minimum; skip = s.skip; withheld = w }

-- two such lists of stretches that cover the same bytes give one outcome, whatever later refusal it may be
module _ (image library : List ℕ) (s : Settings) (lent : Lent) (v w : Stretches) (f : Fit image v) (g : Fit image w) where
  same_tests : (cells : List ℕ) → passes_end (length cells) (cover_of v) ≡ false → passes_end (length cells) (cover_of w) ≡ false
      → run_seen cells library (withholding s v) lent ≡ run_seen cells library (withholding s w) lent
  unfolding run_seen refusals stages
  same_tests cells p q = rw (le-ltb 16 v.count f.few, le-ltb 16 w.count g.few, p, q) refl

  fine : (u : Stretches) → Fit image u → passes_end (length (view image (cover_of w))) (cover_of u) ≡ false
  fine u h = rw (view-length image (cover_of w)) ((all_fit (length image) (cover_of u)).1 h.within-image)

  pub same-cover-run : ((i : ℕ) → i < length image → within (cover_of v) i ≡ within (cover_of w) i)
      → run image library (withholding s v) lent ≡ run image library (withholding s w) lent
  unfolding run
  same-cover-run same =
      ap (λ cells. run_seen cells library (withholding s v) lent) (same-cover image (cover_of v) (cover_of w) same)
      ∙ same_tests (view image (cover_of w)) (fine v f) (fine w g)

-- with nothing withheld a run sees the image itself, so its list is demand 2's: with no stretch, or with empty ones alone
pub plain-run : (image library : List ℕ) (s : Settings) (lent : Lent) → ((i : ℕ) → Inside (cover s) i → ⊥) → run image library s lent ≡ run_seen image library s lent
unfolding run
plain-run image library s lent none = ap (λ cells. run_seen cells library s lent) (view-none image (cover s) none)

pub none_inside : (s : Settings) → s.withheld.count ≡ 0 → (i : ℕ) → Inside (cover s) i → ⊥
unfolding any
none_inside s e i h = false≢true (ap (λ c. within c i) (sym (no-stretches s.withheld e)) ∙ h)
