-- Going over a bucket of a position, from row to row. Assumes nothing.
use Rattle.std.specs.Prelude.{ℕ, ◌-◌, ◌*◌, ◌≤◌, ◌<◌, ◌≡◌, refl, Bool, true, false, List, [], ◌∷◌, ◌++◌, map, length, get_or, take, drop}
use Rattle.std.proofs.Common.{sym, ap, subst, ◌∙◌, append_assoc, append-nil, mul-le-mul_right, arith}
use Rattle.lent.specs.Lists.{one, keep, fold}
use Rattle.lent.specs.Rows.{row_at}
use Rattle.tables.specs.by_name.Newest.{newest}
use Rattle.tables.specs.by_name.Sheet.{Sheet, key_buckets, key_bucket, in_name, bucket_of}
use Rattle.tables.specs.by_name.Heads.{head_at}
use Rattle.tables.specs.by_name.Tables.{Table, Tabled}
use Rattle.tables.specs.by_name.Readable.{Reads}
use Rattle.tables.specs.by_name.TableLaws.{table_done}
use Rattle.tables.specs.by_name.ChainLaws.{keep-both, head-stands, head-last, link_of, row-there, link-less, link-stands, link-passes}
use Rattle.listing_rules.specs.declared.Line.{Line}
use Rattle.listing_rules.specs.Listing.{best_grade, best}
use Rattle.listing_rules.specs.FrontLines.{Fronts}
use Rattle.listing.specs.declared.position.Best.{Best}
use Rattle.listing.specs.position.Bests.{Bests, Meets}
use Rattle.listing.specs.position.RowsAt.{Walked}

-- none was met yet
pub none-met : (lines : List Line) (m : List ℕ) → Fronts lines m → Bests lines [] m (record { count = 0; grade = 0 })
unfolding best best_grade fold keep
none-met lines m h = record {
  count = refl;
  grade = refl;
  region = record { front = h; whole = λ room. subst (λ ls. Fronts ls m) (sym (append-nil lines)) h };
}

-- a row that is passed over, and one whose line is met
pub meets-none : (from : ℕ) (new : List Line) (m : List ℕ) (b : Best) → new ≡ [] → Meets from new m b m b
meets-none from new m b e = record { few = omega arith; met = λ lines all l h. subst (λ ls. Bests lines (ls ++ all) m b) (sym e) h }

pub meets-this : (from : ℕ) (new : List Line) (x : Line) (m m' : List ℕ) (b b' : Best) → new ≡ one x → Meets from (one x) m b m' b' → Meets from new m b m' b'
meets-this from new x m m' b b' e h = subst (λ ls. Meets from ls m b m' b') (sym e) h

map_both : {A B : Type 0} (f : A → B) (xs ys : List A) → map f (xs ++ ys) ≡ map f xs ++ map f ys
map_both f [] ys = refl
map_both f (x ∷ xs) ys = ap (λ zs. f x ∷ zs) (map_both f xs ys)

module _ {A R : Type 0} (s : Sheet A R) (library : List ℕ) (reads : Reads s) (d : A) (xs : List A) {t : Table} (tabled : Tabled s library xs t) (room : t.fill.over ≡ false)
    (bucket : ℕ) (q : A → Bool) (within : (x : A) → q x ≡ true → key_bucket (s.key x) ≡ bucket) (line : A → Line) (lines before : List Line) where
  abbrev Walked-to : ℕ → List ℕ → Best → Type 0
  Walked-to = Walked s library xs bucket q line lines before

  -- FROM THE HEAD
  pub walked-first : (here : ℕ) (m : List ℕ) (b : Best) → bucket < key_buckets → here ≡ head_at t.heads bucket → Bests lines before m b → Walked-to here m b
  walked-first here m b small e h = record {
    stands = head-stands s library xs bucket t.heads (tabled.headed room) small here e;
    bests = subst (λ ys. Bests lines (map line ys ++ before) m b) (sym (head-last s library xs bucket t.heads (tabled.headed room) small here e q within)) h;
  }

  -- a link leads to one of the rows that there are
  pub walked-room : {here : ℕ} {m : List ℕ} {b : Best} → Walked-to here m b → here * s.layout.width ≤ length t.memory
  walked-room w = omega (arith, (table_done s library {t = t} tabled room).2, mul-le-mul_right s.layout.width w.stands.inside)

  -- FROM LINK TO LINK: a row is read, what lines it has are met, and its link leads to an earlier row, or to none
  module _ (here : ℕ) (m : List ℕ) (b : Best) (w : Walked-to here m b) (some : here ≡ 0 → ⊥) where
    abbrev this : A
    this = get_or xs (here - 1) d

    pub walked_on : (m' : List ℕ) (b' : Best) → Bests lines (map line (keep q (one this)) ++ (map line (keep q (drop here xs)) ++ before)) m' b'
        → Walked-to (link_of s library xs bucket reads d {t = t} tabled room here w.stands some) m' b'
    walked_on m' b' h = record {
      stands = link-stands s library xs bucket reads d {t = t} tabled room here w.stands some;
      bests =
          subst (λ ls. Bests lines ls m' b')
          (sym (append_assoc (map line (keep q (one this))) (map line (keep q (drop here xs))) before)
          ∙ ap (λ ls. ls ++ before)
          (sym (map_both line (keep q (one this)) (keep q (drop here xs)))
          ∙ ap (map line) (sym (keep-both q (one this) (drop here xs)) ∙ sym (link-passes s library xs bucket reads d {t = t} tabled room here w.stands some q within))))
          h;
    }

    -- by the row that was read
    module _ (linked : R → ℕ) (leads : (x : A) (link alike : ℕ) → linked (s.row x link alike) ≡ link)
        (lines_of : R → List Line) (are : (x : A) (link alike : ℕ) → lines_of (s.row x link alike) ≡ map line (keep q (one x)))
        (row : R) (read : row ≡ row_at s.layout t.memory (here - 1)) where
      abbrev alike : ℕ
      alike = newest (in_name s library (bucket_of s library this)) (take (here - 1) xs)

      abbrev link : ℕ
      link = link_of s library xs bucket reads d {t = t} tabled room here w.stands some

      row_is : row ≡ s.row this link alike
      row_is = read ∙ row-there s library xs bucket reads d {t = t} tabled room here w.stands some

      link-is : linked row ≡ link
      link-is = ap linked row_is ∙ leads this link alike

      pub leads-back : linked row < here
      leads-back = omega (arith, link-is, link-less s library xs bucket reads d {t = t} tabled room here w.stands some)

      pub walked-turn : (from : ℕ) (m' : List ℕ) (b' : Best) → length lines ≡ from → Meets from (lines_of row) m b m' b' → Walked-to (linked row) m' b'
      walked-turn from m' b' long met =
          subst (λ k. Walked-to k m' b') (sym link-is)
          (walked_on m' b'
          (subst (λ ls. Bests lines (ls ++ (map line (keep q (drop here xs)) ++ before)) m' b') (ap lines_of row_is ∙ are this link alike)
          (met.met lines (map line (keep q (drop here xs)) ++ before) long w.bests)))

  -- TO THE END
  pub walked-last : (here : ℕ) (m : List ℕ) (b : Best) → here ≡ 0 → Walked-to here m b → Bests lines (map line (keep q xs) ++ before) m b
  walked-last here m b z w = subst (λ k. Bests lines (map line (keep q (drop k xs)) ++ before) m b) z w.bests
