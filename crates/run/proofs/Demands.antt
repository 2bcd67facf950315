-- THE DEMANDS, from the contract alone: if an entry point meets this contract, all of the following holds of what it
-- gives. Assumes nothing.
use Rattle.std.specs.Prelude.{ℕ, ◌*◌, ◌≤◌, ◌<◌, ◌≡◌, ◌↔◌, List, get_or}
use Rattle.std.proofs.Math.Path.{sym, ap}
use Rattle.std.proofs.Common.{subst, ◌∙◌, arith}
use mathlib.Core.List.Memᴰ
use Rattle.std.proofs.Math.ListN.{length}
use Rattle.lent.specs.declared.refusal.Refusal.{Refusal}
use Rattle.lent.specs.OneOutcome.{Determines, by-equation}
use Rattle.lent.specs.Refusals.{refusal_number}
use Rattle.image.specs.declared.cover.Stretches.{Stretches}
use Rattle.image.specs.View.{within, view}
use Rattle.image.proofs.ViewLaws.{Inside, Agree, view-length}
use Rattle.image.specs.Cover.{cover_of}
use Rattle.omf51.specs.File.{modules_in}
use Rattle.listing_rules.specs.declared.Line.{Line}
use Rattle.listing_rules.specs.Listing.{line_width}
use Rattle.listing_rules.specs.LineLayout.{line_at}
use Rattle.listing_rules.proofs.EarlierLaws.{earlier-at}
use Rattle.listing_rules.specs.Listed.{Listed, InOrder}
use Rattle.listing_rules.proofs.CompleteLaws.{complete, only}
use Rattle.listing_rules.proofs.OnceLaws.{placed-once, noted-once}
use Rattle.listing_rules.proofs.OrderLaws.{in_order}
use Rattle.run.specs.declared.Settings.{Settings}
use Rattle.run.specs.Run.{library_read, Lent, Yield, Outcome, asked_of, stages, counted, filled_with, run_seen, run, number_of, counts_of, cover}
use Rattle.run.specs.Given.{Given, NothingRefused}
use Rattle.run.proofs.Exactly.{given-exactly, done-exactly}
use Rattle.run.proofs.EditionLaws.{edition-alone}
use Rattle.run.proofs.Answers.{SameLengths, Sound, sound, lengths-kept}
use Rattle.run.proofs.Withheld.{Fit, withholding, same-run, same-cover-run, plain-run}
use Rattle.run.specs.Editions.{in_edition}
use Rattle.run.specs.Own.{Own, Referred}
use Rattle.run.proofs.OwnAddress.{own-address}
use Rattle.run.proofs.NotedAddress.{noted-address}
use Rattle.run.proofs.SixteenBits.{sixteen-bits}
use Rattle.run.proofs.ListedRows.{at-among, place-among, grades, row-is-line}

-- the contract of an entry point: its answer, and all that it leaves in lent memory, are those of the run
abbrev pub Contract : List ℕ → List ℕ → Settings → Lent → Outcome → Type 0
Contract image library s lent o = o ≡ run image library s lent

abbrev no_line : Line
no_line = record { address = 0; grade = 0; name = record { at = 0; len = 0 } }

module _ (image library : List ℕ) (s : Settings) (lent : Lent) where
  -- ONE OUTCOME: any two that the contract allows are equal
  pub one-outcome : Determines (Contract image library s lent)
  one-outcome = by-equation (run image library s lent)

  -- what the stages give on the view, and its lines
  abbrev pub yield : Yield
  yield = stages (view image (cover s)) library s

  abbrev lines : List Line
  lines = yield.lines

  module _ (o : Outcome) (c : Contract image library s lent o) where
    -- THE TABLE OF REFUSALS: each number exactly in its case, and 0 exactly if none applies
    pub refused-exactly : (r : Refusal) → (number_of o.answer ≡ refusal_number r) ↔ Given image library s lent r
    refused-exactly r = rw c (given-exactly image library s lent r)

    pub answered-exactly : (number_of o.answer ≡ 0) ↔ NothingRefused image library s lent
    answered-exactly = rw c (done-exactly image library s lent)

    -- MEMORY AND COUNTS: rows and then zeros on 0, and the counts are the rows; zeros on 9 to 13, nothing written on any other refusal, no counts on either
    pub memory : Sound image library s lent o
    memory = rw c (sound image library s lent)

    pub same-lengths : SameLengths o.left lent
    same-lengths = rw c (lengths-kept image library s lent)

    -- on 0 each row of the list, as it is read from lent memory, is a line of it
    record Row (i : ℕ) : Type 0 where
      number : i < length lines
      is : line_at o.left.lines i ≡ get_or lines i no_line

    row : number_of o.answer ≡ 0 → (i : ℕ) → i < length lines → Row i
    unfolding counted filled_with stages
    row z i h = record {
      number = h;
      is =
          ap (λ x. line_at x.lines i) (memory.left-done z)
          ∙ row-is-line lines no_line (length lent.lines) i (λ l j. grades _ _ _ _ _ _ s.skip j) room h;
    }
      where
        room : length lines * line_width ≤ length lent.lines
        room = omega (arith, (answered-exactly.0 z).listed)

    lines-counted : number_of o.answer ≡ 0 → (counts_of o.answer).lines ≡ length lines
    unfolding counted
    lines-counted z = ap (λ x. x.lines) (memory.counts-done z)

    row_of : number_of o.answer ≡ 0 → (i : ℕ) → i < (counts_of o.answer).lines → Row i
    row_of z i h = row z i (omega (arith, h, lines-counted z))

    -- OWN ADDRESS: each row of the list with a grade of 1 to 3, under rule set 1
    pub own_row : s.rules ≡ 1 → number_of o.answer ≡ 0 → (i : ℕ) → i < (counts_of o.answer).lines → 1 ≤ (line_at o.left.lines i).grade
        → Own library (view image (cover s)) (asked_of s) (modules_in (library_read library s)) (line_at o.left.lines i).name (line_at o.left.lines i).address
    own_row r z i h =
        let x = row_of z i h in
        subst (λ l. 1 ≤ l.grade → Own library (view image (cover s)) (asked_of s) (modules_in (library_read library s)) l.name l.address) (sym x.is)
        (own-address image library s r (get_or lines i no_line) (at-among lines no_line i x.number))

    -- SIXTEEN BITS: under rule set 1 no row of the list has an address above FFFFh
    pub rows-within : s.rules ≡ 1 → number_of o.answer ≡ 0 → (i : ℕ) → i < (counts_of o.answer).lines → (line_at o.left.lines i).address < 65536
    rows-within r z i h =
        let x = row_of z i h in
        subst (λ l. l.address < 65536) (sym x.is)
        (sixteen-bits image library s r (answered-exactly.0 z).reached.accepted.image-fits (get_or lines i no_line) (at-among lines no_line i x.number))

    -- GRADE 0: the name of each row with grade 0 is referred to there, under either rule set
    pub noted-row : number_of o.answer ≡ 0 → (i : ℕ) → i < (counts_of o.answer).lines → (line_at o.left.lines i).grade ≡ 0
        → Referred library (view image (cover s)) (asked_of s) (modules_in (library_read library s)) (line_at o.left.lines i).name (line_at o.left.lines i).address
    noted-row z i h =
        let x = row_of z i h in
        subst (λ l. l.grade ≡ 0 → Referred library (view image (cover s)) (asked_of s) (modules_in (library_read library s)) l.name l.address) (sym x.is)
        (noted-address image library s (get_or lines i no_line) (at-among lines no_line i x.number))

    -- COMPLETE: the rows of the list are exactly the lines that are to be listed
    pub complete-rows : number_of o.answer ≡ 0 → (l : Line) → ((i : ℕ) × (i < (counts_of o.answer).lines) × (line_at o.left.lines i ≡ l))
        ↔ Listed library (view image (cover s)) (asked_of s) s.skip yield.segments yield.placed yield.noted l
    unfolding stages
    complete-rows z l = (to, back)
      where
        to : (i : ℕ) × (i < (counts_of o.answer).lines) × (line_at o.left.lines i ≡ l)
            → Listed library (view image (cover s)) (asked_of s) s.skip yield.segments yield.placed yield.noted l
        to (i, h, e) =
            let x = row_of z i h in
            only library _ _ _ _ _ _ l (Memᴰ.cast (sym e ∙ x.is) (at-among lines no_line i x.number))

        back : Listed library (view image (cover s)) (asked_of s) s.skip yield.segments yield.placed yield.noted l
            → (i : ℕ) × (i < (counts_of o.answer).lines) × (line_at o.left.lines i ≡ l)
        back q =
            let p = place-among no_line lines (complete library _ _ _ _ _ _ l q) in
            (p.0, omega (arith, p.1, lines-counted z), (row z p.0 p.1).is ∙ p.2)

    -- IN ORDER: of two rows of the list the earlier comes first
    pub rows-in-order : number_of o.answer ≡ 0 → (i j : ℕ) → i < j → j < (counts_of o.answer).lines
        → InOrder library (length image) yield.noted (line_at o.left.lines i) (line_at o.left.lines j)
    unfolding stages
    rows-in-order z i j l h =
        let y = row_of z j h in
        let x = row z i (omega (arith, l, y.number)) in
        rw (x.is, y.is, sym (view-length image (cover s)))
        (in_order library _ (asked_of s) s.skip _ _ _ (placed-once library _ _ _) (noted-once library _ _ _) (get_or lines i no_line) (get_or lines j no_line)
        (earlier-at lines no_line i j l y.number))

-- THE STRETCHES: two images of one length that agree outside the cover give one outcome, if all else is equal
pub stretch-alone : (a b library : List ℕ) (s : Settings) (lent : Lent) → Agree a b (cover s)
    → (o p : Outcome) → Contract a library s lent o → Contract b library s lent p → o ≡ p
stretch-alone a b library s lent h o p c d = c ∙ same-run a b library s lent h ∙ sym d

-- SAME COVER: two lists of stretches, neither refused with 16 or 4, that cover the same bytes give one outcome, if all else is equal
pub same-cover : (image library : List ℕ) (s : Settings) (lent : Lent) (v w : Stretches) → Fit image v → Fit image w
    → ((i : ℕ) → i < length image → within (cover_of v) i ≡ within (cover_of w) i)
    → (o p : Outcome) → Contract image library (withholding s v) lent o → Contract image library (withholding s w) lent p → o ≡ p
same-cover image library s lent v w f g same o p c d = c ∙ same-cover-run image library s lent v w f g same ∙ sym d

-- NOTHING WITHHELD: where no stretch has a byte the run is that on the image itself, so that its list is demand 2's
pub nothing-withheld : (image library : List ℕ) (s : Settings) (lent : Lent) → ((i : ℕ) → Inside (cover s) i → ⊥)
    → (o : Outcome) → Contract image library s lent o → o ≡ run_seen image library s lent
nothing-withheld image library s lent e o c = c ∙ plain-run image library s lent e

-- THE TWO EDITIONS: what edition 2 does not refuse with 14 or 15, it answers and leaves as edition 1 does
pub editions-agree : (image library : List ℕ) (s : Settings) (lent : Lent) (two one : Outcome) → Contract image library (in_edition 2 s) lent two
    → Contract image library (in_edition 1 s) lent one → (number_of two.answer ≡ 14 → ⊥) → (number_of two.answer ≡ 15 → ⊥) → two ≡ one
editions-agree image library s lent two one c d sum left =
    c ∙ edition-alone image library s lent (λ e. sum (ap (λ o. number_of o.answer) c ∙ e)) (λ e. left (ap (λ o. number_of o.answer) c ∙ e)) ∙ sym d
