-- Counting along a bucket, and writing lines along it from the back. Assumes nothing.
use Rattle.std.specs.Prelude.{ℕ, ◌+◌, ◌-◌, ◌*◌, ◌<◌, ◌≤◌, ◌≡◌, refl, ◌⊎◌, Bool, true, false, List, ◌++◌, map, length, drop, take}
use Rattle.std.proofs.Common.{sym, ap, subst, ◌∙◌, inl, inr, arith, length-append, take-append-drop}
use Rattle.lent.specs.Lists.{keep}
use Rattle.lent.specs.Rows.{put_row}
use Rattle.tables.specs.by_name.ChainLaws.{keep-both}
use Rattle.search_rules.specs.declared.Noted.{Noted}
use Rattle.search_rules.specs.Search.{Noting}
use Rattle.search_rules.specs.SearchLayouts.{noted_at}
use Rattle.listing_rules.specs.Listing.{noted_line, line_width, line_cells, line_numbers}
use Rattle.listing.specs.past_end.Beyond.{noting_of, sought, Onward, HeadedBy, Counts, WritesOne, Wrote, WritesAll}
use Rattle.listing.specs.past_end.BucketLaws.{In, first-in, first-none, next-in, next_more, next-same}
use Rattle.listing.specs.past_end.WriteLaws.{wrote_none, wrote-more}

-- HOW MANY were counted: those behind where one stands
pub record Counted (noted : List ℕ) (head t : ℕ) (all : Bool) (here n : ℕ) : Type 0 where
  pub few : n + here ≤ head
  pub stands : (ns : List Noting) (c : HeadedBy noted t head ns) → In noted t head ns c here
  pub passed : (ns : List Noting) → HeadedBy noted t head ns → n ≡ length (keep (sought t all) (drop here ns))

module _ (noted : List ℕ) (head t : ℕ) (all : Bool) where
  pub counted-first : Counted noted head t all head 0
  counted-first = record {
    few = omega arith;
    stands = λ ns c. first-in noted t head ns c;
    passed = λ ns c. sym (ap length (first-none noted t head ns c all));
  }

  module _ (here n : ℕ) (h : Counted noted head t all here n) (some : here ≡ 0 → ⊥) (row : Noted) (is : row ≡ noted_at noted (here - 1)) (next : ℕ) (on : Onward here row.link next) where
    counted-one : sought t all (noting_of row) ≡ true → Counted noted head t all next (n + 1)
    counted-one e = record {
      few = omega (arith, h.few, on.less some);
      stands = λ ns c. next-in noted t head ns c here (h.stands ns c) some row is next on;
      passed = λ ns c.
          let more = ap length (next_more noted t head ns c here (h.stands ns c) some row is next on all e) in
          omega (arith, h.passed ns c, more);
    }

    counted_none : sought t all (noting_of row) ≡ false → Counted noted head t all next n
    counted_none e = record {
      few = omega (arith, h.few, on.less some);
      stands = λ ns c. next-in noted t head ns c here (h.stands ns c) some row is next on;
      passed = λ ns c. h.passed ns c ∙ sym (ap length (next-same noted t head ns c here (h.stands ns c) some row is next on all e));
    }

    pub counted-on : (found : Bool) → found ≡ sought t all (noting_of row) → (n' : ℕ) → ((found ≡ true) × (n' ≡ n + 1)) ⊎ ((found ≡ false) × (n' ≡ n))
        → Counted noted head t all next n'
    counted-on found e n' (inl (y, z)) = subst (Counted noted head t all next) (sym z) (counted-one (sym e ∙ y))
    counted-on found e n' (inr (y, z)) = subst (Counted noted head t all next) (sym z) (counted_none (sym e ∙ y))

  pub counted-last : (here n : ℕ) → Counted noted head t all here n → here ≡ 0 → Counts noted head t all n
  counted-last here n h e ns c = h.passed ns c ∙ ap (λ k. length (keep (sought t all) (drop k ns))) e

-- WHAT WAS WRITTEN: those behind where one stands
abbrev pub valid : ℕ → List Noting → List Noting
valid t ns = keep (sought t false) ns

pub record Written (noted : List ℕ) (head t end : ℕ) (m m' : List ℕ) (k here : ℕ) (ns : List Noting) (c : HeadedBy noted t head ns) : Type 0 where
  pub stands : In noted t head ns c here
  pub counted : k + length (valid t (drop here ns)) ≡ end
  pub wrote : Wrote (map noted_line (valid t (drop here ns))) k end m m'

pub record Writing (noted : List ℕ) (head t end : ℕ) (m m' : List ℕ) (k here : ℕ) : Type 0 where
  pub long : length m' ≡ length m
  pub right : (ns : List Noting) (c : HeadedBy noted t head ns) → length (valid t ns) ≤ end → end * line_width ≤ length m
      → Written noted head t end m m' k here ns c

few-behind : (t here : ℕ) (ns : List Noting) → length (valid t (drop here ns)) ≤ length (valid t ns)
few-behind t here ns =
    let e : length (valid t ns) ≡ length (valid t (take here ns)) + length (valid t (drop here ns)) =
    ap (λ xs. length (valid t xs)) (sym (take-append-drop here ns))
    ∙ ap length (keep-both (sought t false) (take here ns) (drop here ns))
    ∙ length-append (valid t (take here ns)) (valid t (drop here ns)) in
    omega (arith, e)

module _ (noted : List ℕ) (head t end : ℕ) (m : List ℕ) where
  pub writing-first : Writing noted head t end m m end head
  writing-first = record {
    long = refl;
    right = λ ns c few room. record {
      stands = first-in noted t head ns c;
      counted = let e = ap length (first-none noted t head ns c false) in omega (arith, e);
      wrote = subst (λ xs. Wrote (map noted_line xs) end end m m) (sym (first-none noted t head ns c false)) (wrote_none end m);
    };
  }

  module _ (m' : List ℕ) (k here : ℕ) (h : Writing noted head t end m m' k here) (some : here ≡ 0 → ⊥) (row : Noted) (is : row ≡ noted_at noted (here - 1)) (next : ℕ) (on : Onward here row.link next)
      (m'' : List ℕ) (k' : ℕ) (w : WritesOne row t m' k m'' k') (same : length m'' ≡ length m') where
    module _ (ns : List Noting) (c : HeadedBy noted t head ns) (few : length (valid t ns) ≤ end) (room : end * line_width ≤ length m) where
      abbrev so : Written noted head t end m m' k here ns c
      so = h.right ns c few room

      written_one : sought t false (noting_of row) ≡ true → Written noted head t end m m'' k' next ns c
      written_one e =
          let more = next_more noted t head ns c here so.stands some row is next on false e in
          let longer = ap length more in
          let left : 0 < k = omega (arith, so.counted, longer, few-behind t next ns, few) in
          let less = w.one_less e left in
          let at : k - 1 ≡ k' = omega (arith, less) in
          record {
            stands = next-in noted t head ns c here so.stands some row is next on;
            counted = omega (arith, so.counted, longer, less);
            wrote =
                w.written e left
                ∙ ap (λ i. put_row line_width m' i (line_cells (noted_line (noting_of row)))) at
                ∙ wrote-more (map noted_line (valid t (drop here ns))) (noted_line (noting_of row)) k' end m m'
                (omega (arith, room, so.counted, less)) h.long
                (subst (λ i. Wrote (map noted_line (valid t (drop here ns))) i end m m') (sym less) so.wrote)
                ∙ ap (λ xs. take (k' * line_width) m ++ (line_numbers (map noted_line xs) ++ drop (end * line_width) m)) (sym more);
          }

      written_none : sought t false (noting_of row) ≡ false → Written noted head t end m m'' k' next ns c
      written_none e =
          let more = next-same noted t head ns c here so.stands some row is next on false e in
          record {
            stands = next-in noted t head ns c here so.stands some row is next on;
            counted = omega (arith, w.none-less e, ap length more, so.counted);
            wrote =
                w.unchanged e
                ∙ so.wrote
                ∙ ap (λ i. take (i * line_width) m ++ (line_numbers (map noted_line (valid t (drop here ns))) ++ drop (end * line_width) m)) (sym (w.none-less e))
                ∙ ap (λ xs. take (k' * line_width) m ++ (line_numbers (map noted_line xs) ++ drop (end * line_width) m)) (sym more);
          }

    pub writing-on : Writing noted head t end m m'' k' next
    writing-on = record { long = same ∙ h.long; right = λ ns c few room. go ns c few room (sought t false (noting_of row)) refl }
      where
        go : (ns : List Noting) (c : HeadedBy noted t head ns) → length (valid t ns) ≤ end → end * line_width ≤ length m → (u : Bool) → sought t false (noting_of row) ≡ u
            → Written noted head t end m m'' k' next ns c
        go ns c few room true e = written_one ns c few room e
        go ns c few room false e = written_none ns c few room e

  pub writing-last : (m' : List ℕ) (k here : ℕ) → Writing noted head t end m m' k here → here ≡ 0 → WritesAll noted head t end m m'
  writing-last m' k here h e ns c few room =
      let so = h.right ns c few room in
      let all : valid t (drop here ns) ≡ valid t ns = ap (λ i. valid t (drop i ns)) e in
      let at : k ≡ end - length (valid t ns) = omega (arith, so.counted, ap length all) in
      subst (λ i. Wrote (map noted_line (valid t ns)) i end m m') at (subst (λ xs. Wrote (map noted_line xs) k end m m') all so.wrote)
