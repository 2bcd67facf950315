-- Segments stored step by step. Assumes nothing.
use Rattle.std.specs.Prelude.{◌+◌, ◌≤◌, ◌≡◌, refl, List, [], ◌++◌, length}
use Rattle.std.proofs.Common.{sym, ap, subst, ◌∙◌, append-nil, append_assoc, arith, length-append}
use Rattle.lent.specs.Lists.{joined}
use Rattle.lent.specs.ListLaws.{joined-append}
use Rattle.segments.specs.Collect.{Collected}
use Rattle.segments.specs.SegmentRows.{pattern_bytes, pattern_masks}
use Rattle.collect.specs.declared.stored.CollectCounts.{CollectCounts}
use Rattle.collect.specs.stored.Rows.{Stored}
use Rattle.std.specs.Prelude.{Ok}
use Rattle.collect.specs.stored.Rows.{without_room}
use Rattle.collect.specs.stored.Stores.{CollectLists, Room, Stores, Extends, SameLengths}
use Rattle.collect.specs.stored.StoreLaws.{stored-count}
use Rattle.collect.specs.stored.Progress.{Progress}

-- room for all is room for the first of them
joined-both : {B : Type 0} (f : Collected → List B) (xs ys : List Collected) → length (joined f (xs ++ ys)) ≡ length (joined f xs) + length (joined f ys)
joined-both f xs ys = ap length (joined-append f xs ys) ∙ length-append (joined f xs) (joined f ys)

pub room-front : (xs ys : List Collected) (l : CollectLists) → Room (xs ++ ys) l → Room xs l
unfolding pattern_bytes pattern_masks
room-front xs ys l r = record {
  segments = omega (arith, r.segments, length-append xs ys);
  references = omega (arith, r.references, joined-both (λ g. g.references) xs ys);
  symbols = omega (arith, r.symbols, joined-both (λ g. g.symbols) xs ys);
  bytes = omega (arith, r.bytes, joined-both (λ g. g.bytes) xs ys);
  masks = omega (arith, r.masks, joined-both (λ g. g.masks) xs ys);
}

module _ (before all : List Collected) where
  pub progress-starts : {l : CollectLists} {c : CollectCounts} → Stores before l c → Progress before all all l c
  progress-starts {l} {c} s = record { done = []; whole = refl; stored = subst (λ gs. Stores gs l c) (sym (append-nil before)) s }

  pub progress-count : (rest : List Collected) {l : CollectLists} {c : CollectCounts} → Progress before all rest l c → c.segments + length rest ≡ length before + length all
  progress-count rest p = omega (arith, stored-count p.stored, length-append before p.done, ap length p.whole, length-append p.done rest)

  pub progress-begun : {rest : List Collected} {l : CollectLists} {c : CollectCounts} → Progress before all rest l c → length before ≤ c.segments
  progress-begun p = omega (arith, stored-count p.stored, length-append before p.done)

  module _ (new rest : List Collected) {l : CollectLists} {c : CollectCounts} (after : CollectLists) (w : Stored) (p : Progress before all (new ++ rest) l c) (x : Extends new l c after w) where
    together : (p.done ++ new) ++ rest ≡ all
    together = append_assoc p.done new rest ∙ p.whole

    pub progress-on : {more : CollectCounts} → w ≡ Ok more → Progress before all rest after more
    progress-on {more} e = record { done = p.done ++ new; whole = together; stored = subst (λ gs. Stores gs after more) (append_assoc before p.done new) (rw e at (x (before ++ p.done) p.stored)) }

    pub progress-lacks : w ≡ without_room → Room (before ++ all) after → ⊥
    progress-lacks e room =
        (rw e at (x (before ++ p.done) p.stored))
        (room-front ((before ++ p.done) ++ new) rest after (subst (λ gs. Room gs after) (ap (λ gs. before ++ gs) (sym together) ∙ sym (append_assoc before (p.done ++ new) rest) ∙ ap (λ gs. gs ++ rest) (sym (append_assoc before p.done new))) room))

  pub progress-ends : {rest : List Collected} {l : CollectLists} {c : CollectCounts} → rest ≡ [] → Progress before all rest l c → Stores (before ++ all) l c
  progress-ends {rest} {l} {c} e p = subst (λ gs. Stores (before ++ gs) l c) (sym (append-nil p.done) ∙ ap (λ gs. p.done ++ gs) (sym e) ∙ p.whole) p.stored

-- lengths that stay
pub same-lengths : (l : CollectLists) → SameLengths l l
same-lengths l = record { segments = refl; references = refl; symbols = refl; bytes = refl; masks = refl }

pub lengths-on : {a b c : CollectLists} → SameLengths a b → SameLengths b c → SameLengths a c
lengths-on p q = record {
  segments = q.segments ∙ p.segments;
  references = q.references ∙ p.references;
  symbols = q.symbols ∙ p.symbols;
  bytes = q.bytes ∙ p.bytes;
  masks = q.masks ∙ p.masks;
}
