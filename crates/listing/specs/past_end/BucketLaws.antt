-- Going over the rows of a target's bucket: where the walk stands, and which rows it has passed. Assumes nothing.
use Rattle.std.specs.Prelude.{ℕ, ◌-◌, ◌%◌, ◌<◌, ◌≡◌, refl, Bool, true, false, ◌||◌, List, [], ◌∷◌, eqb, get_or, drop}
use Rattle.std.proofs.Common.{sym, ap, subst, ◌∙◌, mod-lt, arith, eqb-true}
use Rattle.lent.specs.ChoiceLaws.{both}
use Rattle.lent.specs.Lists.{keep}
use Rattle.tables.specs.by_name.Sheet.{key_buckets, key_bucket}
use Rattle.tables.specs.by_name.Tables.{table}
use Rattle.tables.specs.by_name.ChainLaws.{Stands, head-stands, head-last, link_of, row-there, link-less, link-stands, link-passes}
use Rattle.search_rules.specs.declared.Noted.{Noted}
use Rattle.search_rules.specs.Search.{Noting}
use Rattle.search_rules.specs.SearchRows.{noted_sheet}
use Rattle.search_rules.specs.SearchLayouts.{noted_at}
use Rattle.search_rules.proofs.FindableLaws.{noted-reads}
use Rattle.listing.specs.past_end.Beyond.{noting_of, sought, Onward, HeadedBy}

-- what a row's number gives where there is no row
abbrev pub no_noting : Noting
no_noting = record { target = 0; name = record { at = 0; len = 0 }; valid = false }

keep-first : {A : Type 0} (p : A → Bool) (x : A) (xs : List A) → p x ≡ true → keep p (x ∷ xs) ≡ x ∷ keep p xs
unfolding keep
keep-first p x xs e = rw e

keep-rest : {A : Type 0} (p : A → Bool) (x : A) (xs : List A) → p x ≡ false → keep p (x ∷ xs) ≡ keep p xs
unfolding keep
keep-rest p x xs e = rw e

module _ (noted : List ℕ) (t head : ℕ) (ns : List Noting) (c : HeadedBy noted t head ns) where
  -- a link that leads into the target's bucket
  abbrev pub In : ℕ → Type 0
  In here = Stands noted_sheet c.rows.library ns (t % key_buckets) here

  small : t % key_buckets < key_buckets
  small = mod-lt t (omega arith)

  within : (all : Bool) (x : Noting) → sought t all x ≡ true → key_bucket x.target ≡ t % key_buckets
  within all x e = ap (λ k. k % key_buckets) (eqb-true x.target t (both (eqb x.target t) (all || x.valid) e).0)

  -- THE HEAD leads there, and nothing that is sought stands behind
  pub first-in : In head
  first-in =
      head-stands noted_sheet c.rows.library ns (t % key_buckets) c.goals (c.rows.tabled.headed refl) small head c.head-is

  pub first-none : (all : Bool) → keep (sought t all) (drop head ns) ≡ []
  first-none all =
      head-last noted_sheet c.rows.library ns (t % key_buckets) c.goals (c.rows.tabled.headed refl) small head c.head-is (sought t all) (within all)

  -- A ROW there, and where its link leads
  module _ (here : ℕ) (stands : In here) (some : here ≡ 0 → ⊥) (row : Noted) (is : row ≡ noted_at noted (here - 1)) (next : ℕ) (on : Onward here row.link next) where
    abbrev this : Noting
    this = get_or ns (here - 1) no_noting

    abbrev link : ℕ
    link =
        link_of noted_sheet c.rows.library ns (t % key_buckets) noted-reads no_noting
        {t = table noted c.goals (record { rows = c.rows.n; over = false })} c.rows.tabled refl here stands some

    row-links : row.link ≡ link
    row-links = ap (λ r. r.link) (is ∙ row-there noted_sheet c.rows.library ns (t % key_buckets) noted-reads no_noting
        {t = table noted c.goals (record { rows = c.rows.n; over = false })} c.rows.tabled refl here stands some)

    row-notes : noting_of row ≡ this
    row-notes = ap noting_of (is ∙ row-there noted_sheet c.rows.library ns (t % key_buckets) noted-reads no_noting
        {t = table noted c.goals (record { rows = c.rows.n; over = false })} c.rows.tabled refl here stands some)

    next-is : next ≡ link
    next-is =
        let less = link-less noted_sheet c.rows.library ns (t % key_buckets) noted-reads no_noting
        {t = table noted c.goals (record { rows = c.rows.n; over = false })} c.rows.tabled refl here stands some in
        on.same (omega (arith, row-links, less)) ∙ row-links

    pub next-in : In next
    next-in = subst In (sym next-is) (link-stands noted_sheet c.rows.library ns (t % key_buckets) noted-reads no_noting
        {t = table noted c.goals (record { rows = c.rows.n; over = false })} c.rows.tabled refl here stands some)

    passes : (all : Bool) → keep (sought t all) (drop next ns) ≡ keep (sought t all) (noting_of row ∷ drop here ns)
    passes all =
        ap (λ k. keep (sought t all) (drop k ns)) next-is
        ∙ link-passes noted_sheet c.rows.library ns (t % key_buckets) noted-reads no_noting
        {t = table noted c.goals (record { rows = c.rows.n; over = false })} c.rows.tabled refl here stands some (sought t all) (within all)
        ∙ ap (λ x. keep (sought t all) (x ∷ drop here ns)) (sym row-notes)

    pub next_more : (all : Bool) → sought t all (noting_of row) ≡ true → keep (sought t all) (drop next ns) ≡ noting_of row ∷ keep (sought t all) (drop here ns)
    next_more all e = passes all ∙ keep-first (sought t all) (noting_of row) (drop here ns) e

    pub next-same : (all : Bool) → sought t all (noting_of row) ≡ false → keep (sought t all) (drop next ns) ≡ keep (sought t all) (drop here ns)
    next-same all e = passes all ∙ keep-rest (sought t all) (noting_of row) (drop here ns) e
