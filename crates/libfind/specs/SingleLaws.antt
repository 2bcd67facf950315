-- The steps make up the run on a single image. Assumes nothing.
use Rattle.std.specs.Prelude.{ℕ, ◌≤◌, ◌≡◌, Bool, true, false, List, ltb, Ok, Err}
use Rattle.std.proofs.Math.Path.{sym, ap}
use Rattle.std.proofs.Common.{◌∙◌, inl, arith}
use Rattle.std.proofs.Math.Option.{Option, some}
use Rattle.std.proofs.Math.ListN.{length}
use Rattle.lent.specs.declared.refusal.Refusal.{Refusal}
use Rattle.lent.specs.declared.refusal.Refusal.TheVariants.{ImageTooLong}
use Rattle.lent.specs.Choice.{when, or_else}
use Rattle.lent.specs.FirstOf.{none≢some}
use Rattle.lent.specs.Refusals.{zeroes}
use Rattle.lent.specs.RefusalLaws.{same_number, zeroes-not}
use Rattle.lent.specs.Rows.{zeros}
use Rattle.image.specs.View.{view}
use Rattle.image.proofs.ViewLaws.{view-length}
use Rattle.image.specs.fixup.Target.{rules_of}
use Rattle.omf51.specs.Module.{module_at}
use Rattle.omf51.specs.File.{file_refusal}
use Rattle.library.specs.Gathered.{items_at}
use Rattle.collect.specs.declared.stored.CollectCounts.{CollectCounts as Stored}
use Rattle.collect.specs.stored.Stores.{CollectLists as Collectable}
use Rattle.collect.specs.Outcome.{collection}
use Rattle.listing.specs.Outcome.{find_outcome}
use Rattle.run.specs.declared.Settings.{Settings}
use Rattle.run.specs.Run.{Lent, lent_lists, Yield, asked_of, library_read, stages, counted, too_long, run_by, run_seen, run, cover}
use Rattle.run.proofs.StageLaws.{not-less}
use Rattle.libfind.specs.Begin.{settings_refusal, Begun}
use Rattle.libfind.specs.Ends.{collectable, findable, concluded}
use Rattle.libfind.specs.EndLaws as end
use Rattle.libfind.specs.FoundLaws.{found-then}

-- 2 writes nothing
mild : (size : ℕ) (r : Refusal) → too_long size ≡ some r → zeroes r ≡ false
mild size r e = go (ltb 65536 size) e
  where
    go : (t : Bool) → when t ImageTooLong ≡ some r → zeroes r ≡ false
    go true q = zeroes-not r (inl (omega (arith, same_number q)))
    go false q = absurd (none≢some q)

module _ (image library : List ℕ) (s : Settings) (lent : Lent) where
  abbrev own : Option Refusal
  own = too_long (length image)

  abbrev cells : List ℕ
  cells = view image (cover s)

  abbrev yield : Yield
  yield = stages cells library s

  -- the view is as long as the image
  run_is : run_by own (length image) library s lent (counted yield) yield ≡ run image library s lent
  unfolding run run_seen
  run_is = ap (λ n. run_by (too_long n) n library s lent (counted yield) yield) (sym (view-length image (cover s)))

  -- REFUSED EARLY: nothing is written
  pub refused-early : {r : Refusal} → or_else (settings_refusal own (length image) (length library) s) (file_refusal (library_read library s)) ≡ some r
      → record { answer = Err r; left = lent } ≡ run image library s lent
  unfolding counted stages
  refused-early e = end.refused-early own (mild (length image)) (length image) library s lent (length yield.placed) (length yield.noted) (length yield.lines) yield e ∙ run_is

  module _ {first : ℕ} (b : Begun own (length image) library s first) where
    pub image-short : length image ≤ 65536
    image-short = (not-less 65536 (length image) ImageTooLong).0 b.accepted.image-fits

    -- REFUSED BY THE COLLECTION: all that was lent is set to zero
    pub refused-collecting : {r : Refusal} {left : Collectable} {placed noted lines : List ℕ}
        → record { answer = Err r; left = left } ≡ collection (rules_of s.rules) library (items_at library (module_at library) first) (collectable lent)
        → placed ≡ zeros (length lent.placed) → noted ≡ zeros (length lent.noted) → lines ≡ zeros (length lent.lines)
        → record { answer = Err r; left = lent_lists left.segments left.references left.symbols left.bytes left.masks placed noted lines } ≡ run image library s lent
    unfolding counted stages
    refused-collecting e p q r =
        end.refused-collecting own (mild (length image)) (length image) library s lent (length yield.placed) (length yield.noted) (length yield.lines) yield b e p q r ∙ run_is

    -- COLLECTED: the rest of the run is what is found
    pub collected-then : {c : Stored} {left : Collectable}
        → record { answer = Ok c; left = left } ≡ collection (rules_of s.rules) library (items_at library (module_at library) first) (collectable lent)
        → concluded c (find_outcome cells (asked_of s) s.skip library c.segments (findable left lent)) ≡ run image library s lent
    unfolding counted stages
    collected-then e =
        let f = end.collected-filled own (mild (length image)) (length image) library s lent (length yield.placed) (length yield.noted) (length yield.lines) yield b e in
        found-then cells short library s lent f
        ∙ sym (end.run-found own (mild (length image)) (length image) library s lent (length yield.placed) (length yield.noted) (length yield.lines) yield b f)
        ∙ run_is
      where
        short : length cells ≤ 65536
        short = omega (arith, view-length image (cover s), image-short)
