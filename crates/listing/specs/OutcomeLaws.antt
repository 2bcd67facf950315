-- The ends of search and list: by what the search came to, and by whether there was room for the lines. Assumes nothing.
use Rattle.std.specs.Prelude.{ℕ, ◌*◌, ◌<◌, ◌≤◌, ◌≡◌, Bool, List, ltb, Ok, Err, if◌then◌else◌, Result}
use Rattle.std.proofs.Math.Path.{refl, sym, ap, subst}
use Rattle.std.proofs.Common.{◌∙◌, arith, lt-ltb, le-ltb}
use Rattle.std.proofs.Math.Bool.{true, false}
use Rattle.std.proofs.lemmas.Bool.{false≢true}
use Rattle.std.proofs.Math.Option.{none, some}
use Rattle.std.proofs.Math.ListN.{length}
use Rattle.lent.specs.declared.refusal.Refusal.{Refusal}
use Rattle.lent.specs.declared.refusal.Refusal.TheVariants.{ImageTooLong, TooFewRows}
use Rattle.lent.specs.Choice.{leading}
use Rattle.lent.specs.Rows.{zeros}
use Rattle.tables.specs.declared.fill.Fill.{Fill}
use Rattle.segments.specs.Collect.{Collected}
use Rattle.search_rules.specs.declared.Asked.{Asked}
use Rattle.search_rules.specs.Search.{Placing, Noting, placed, noted}
use Rattle.search.specs.declared.SearchCounts.{SearchCounts}
use Rattle.search.specs.visit.Visits.{segments_in}
use Rattle.search.specs.Outcome.{SearchLists as Searchable, too_few, refusal_of as search_refusal, search_zeroed as zeroed_search, search_filled as filled_search, search_outcome_of as search_outcome, searched}
use Rattle.search.specs.Fills.{Fitted, Sought}
use Rattle.search.specs.EndLaws.{zeroed-same}
use Rattle.listing_rules.specs.Listing.{SkipAmount, listing, line_width, line_numbers}
use Rattle.listing.specs.Outcome.{FindLists, Yield, yields, refusal_of, find_zeroed, counted, find_outcome_of, find_outcome}
use Rattle.listing.specs.Listed.{ListsRows}

-- what a search's answer says
is_done : Result SearchCounts Refusal → Bool
is_done (Ok rows) = true
is_done (Err r) = false

rows_in : Result SearchCounts Refusal → SearchCounts
rows_in (Ok rows) = rows
rows_in (Err r) = record { placed = 0; noted = 0 }

refusal_in : Result SearchCounts Refusal → Refusal
refusal_in (Ok rows) = TooFewRows
refusal_in (Err r) = r

module _ (cells : List ℕ) (a : Asked) (library : List ℕ) (n : ℕ) (l : Searchable) where
  abbrev gs : List Collected
  gs = segments_in l.stored n

  abbrev ps : List Placing
  ps = placed library cells a gs

  abbrev ns : List Noting
  ns = noted library cells a gs

  module _ (short : length cells ≤ 65536) where
    refusal_is : (t : Bool) → too_few l ps ns ≡ t → search_refusal cells l ps ns ≡ (if t then some TooFewRows else none)
    unfolding search_refusal leading
    refusal_is true e = rw (le-ltb 65536 (length cells) short, e)
    refusal_is false e = rw (le-ltb 65536 (length cells) short, e)

    searched-is : (t : Bool) → too_few l ps ns ≡ t → searched cells a library n l ≡ search_outcome library (if t then some TooFewRows else none) ps ns l
    unfolding searched
    searched-is t e = ap (λ x. search_outcome library x ps ns l) (refusal_is t e)

    -- THE SEARCH IS DONE: there was room, and the rows are there
    pub record SearchDone (rows : SearchCounts) (left : Searchable) : Type 0 where
      pub room : too_few l ps ns ≡ false
      pub numbers : rows ≡ record { placed = length ps; noted = length ns }
      pub memory : left ≡ filled_search library ps ns l

    pub search-done : (rows : SearchCounts) (left : Searchable) → record { answer = Ok rows; left = left } ≡ searched cells a library n l → SearchDone rows left
    unfolding is_done rows_in
    search-done rows left e = go (too_few l ps ns) refl
      where
        go : (t : Bool) → too_few l ps ns ≡ t → SearchDone rows left
        go true f = absurd (false≢true (sym (ap (λ o. is_done o.answer) (e ∙ searched-is true f))))
        go false f = let q = e ∙ searched-is false f in record { room = f; numbers = ap (λ o. rows_in o.answer) q; memory = ap (λ o. o.left) q }

    -- IT IS REFUSED: there were too few rows, and all is zero
    pub record SearchRefused (r : Refusal) (left : Searchable) : Type 0 where
      pub full : too_few l ps ns ≡ true
      pub refusal : r ≡ TooFewRows
      pub memory : left ≡ zeroed_search l

    pub search-refused : (r : Refusal) (left : Searchable) → record { answer = Err r; left = left } ≡ searched cells a library n l → SearchRefused r left
    unfolding is_done refusal_in
    search-refused r left e = go (too_few l ps ns) refl
      where
        go : (t : Bool) → too_few l ps ns ≡ t → SearchRefused r left
        go true f = let q = e ∙ searched-is true f in record { full = f; refusal = ap (λ o. refusal_in o.answer) q; memory = ap (λ o. o.left) q }
        go false f = absurd (false≢true (ap (λ o. is_done o.answer) (e ∙ searched-is false f)))

module _ (cells : List ℕ) (a : Asked) (skip : SkipAmount) (library : List ℕ) (n : ℕ) (l : FindLists) where
  abbrev y : Yield
  y = yields cells a skip library (segments_in l.searched.stored n)

  -- an image that is too long is refused, and nothing is written
  pub long-is : 65536 < length cells → record { answer = Err ImageTooLong; left = l } ≡ find_outcome cells a skip library n l
  unfolding find_outcome refusal_of leading
  long-is h = rw (lt-ltb 65536 (length cells) h)

  module _ (short : length cells ≤ 65536) where
    found-by : (t u : Bool) → too_few l.searched y.placed y.noted ≡ t → ltb (length l.lines) (length y.lines * line_width) ≡ u
        → find_outcome cells a skip library n l ≡ find_outcome_of library (if t then some TooFewRows else if u then some TooFewRows else none) y l
    unfolding find_outcome refusal_of leading
    found-by true u e f = rw (le-ltb 65536 (length cells) short, e)
    found-by false true e f = rw (le-ltb 65536 (length cells) short, e, f)
    found-by false false e f = rw (le-ltb 65536 (length cells) short, e, f)

    -- TOO FEW ROWS for the search
    pub refused-is : (r : Refusal) (left : Searchable) (lines : List ℕ) → SearchRefused cells a library n l.searched short r left → lines ≡ zeros (length l.lines)
        → record { answer = Err r; left = record { searched = left; lines = lines } } ≡ find_outcome cells a skip library n l
    unfolding yields
    refused-is r left lines h z =
        ap (λ q. record { answer = Err q; left = record { searched = left; lines = lines } }) h.refusal
        ∙ ap (λ x. record { answer = Err TooFewRows; left = record { searched = x; lines = lines } }) h.memory
        ∙ ap (λ x. record { answer = Err TooFewRows; left = record { searched = zeroed_search l.searched; lines = x } }) z
        ∙ sym (found-by true (ltb (length l.lines) (length y.lines * line_width)) h.full refl)

    -- THE LINES are those of the rows that the search left, or there are too few for them
    module _ (rows : SearchCounts) (left : Searchable) (h : SearchDone cells a library n l.searched short rows left) (lines : List ℕ) (f : Fill)
        (fitted : Fitted line_width (length y.lines) (line_numbers y.lines) l.lines lines f) where
      lines-over : ltb (length l.lines) (length y.lines * line_width) ≡ f.over
      lines-over = go f.over refl
        where
          go : (t : Bool) → f.over ≡ t → ltb (length l.lines) (length y.lines * line_width) ≡ t
          go true e = lt-ltb (length l.lines) (length y.lines * line_width) (fitted.over e)
          go false e = let r = fitted.room e in le-ltb (length l.lines) (length y.lines * line_width) (omega (arith, r))

      pub lacks-is : f.over ≡ true → record { answer = Err TooFewRows; left = find_zeroed l } ≡ find_outcome cells a skip library n l
      unfolding yields
      lacks-is e = sym (found-by false true h.room (lines-over ∙ e))

      pub done-is : f.over ≡ false
          → record { answer = Ok (record { placed = rows.placed; noted = rows.noted; lines = f.rows }); left = record { searched = left; lines = lines } } ≡ find_outcome cells a skip library n l
      unfolding yields
      done-is e =
          let fit = fitted.fits e in
          ap (λ (r : SearchCounts). record { answer = Ok (record { placed = r.placed; noted = r.noted; lines = f.rows }); left = record { searched = left; lines = lines } }) h.numbers
          ∙ ap (λ k. record { answer = Ok (record { placed = length y.placed; noted = length y.noted; lines = k }); left = record { searched = left; lines = lines } }) fit.1
          ∙ ap (λ x. record { answer = Ok (counted y); left = record { searched = x; lines = lines } }) h.memory
          ∙ ap (λ x. record { answer = Ok (counted y); left = record { searched = filled_search library y.placed y.noted l.searched; lines = x } }) fit.0
          ∙ sym (found-by false false h.room (lines-over ∙ e))

-- THE ROWS that the search left, as the listing knows them
module _ (cells : List ℕ) (a : Asked) (library : List ℕ) (n : ℕ) (l : Searchable) (short : length cells ≤ 65536) where
  abbrev found-ps : List Placing
  found-ps = placed library cells a (segments_in l.stored n)

  abbrev found-ns : List Noting
  found-ns = noted library cells a (segments_in l.stored n)

  -- the list of those rows is what is found
  pub lines-found : (skip : SkipAmount) (rows : SearchCounts) (left : Searchable) → SearchDone cells a library n l short rows left
      → (positions goals : List ℕ) → Sought library found-ps found-ns left.placed positions left.noted goals → (lines lines' : List ℕ) (f : Fill)
      → ListsRows cells a.rules skip library left.stored.segments n left.stored.references left.placed positions left.noted goals rows.noted lines lines' f
      → Fitted line_width (length (yields cells a skip library (segments_in l.stored n)).lines) (line_numbers (yields cells a skip library (segments_in l.stored n)).lines) lines lines' f
  unfolding yields filled_search
  lines-found skip rows left h positions goals sought lines lines' f lists =
      subst (λ t. Fitted line_width (length (listing library cells a skip (segments_in t n) found-ps found-ns)) (line_numbers (listing library cells a skip (segments_in t n) found-ps found-ns)) lines lines' f)
      (ap (λ x. x.stored) h.memory)
      (lists (record { a = a; ruled = refl; symbols = left.stored.symbols; bytes = left.stored.bytes; masks = left.stored.masks; ps = found-ps; ns = found-ns; sought = sought })
      (sym (ap (λ r. r.noted) h.numbers)) short)

  -- zeros depend on the lengths only, and those a search keeps
  pub emptied : (rows : SearchCounts) (left : Searchable) → SearchDone cells a library n l short rows left → length left.placed ≡ length l.placed → length left.noted ≡ length l.noted
      → zeroed_search left ≡ zeroed_search l
  unfolding filled_search
  emptied rows left h p q =
      ap (λ t. zeroed_search (record { stored = t; placed = left.placed; noted = left.noted })) (ap (λ x. x.stored) h.memory)
      ∙ zeroed-same l.stored l.placed l.noted left.placed left.noted p q
