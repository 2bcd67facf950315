-- The search for a pattern from its start on, match by match. Assumes nothing.
use Rattle.std.specs.Prelude.{◌≡◌, ℕ, zero, suc, ◌+◌, ◌-◌, ◌<◌, ◌≤◌, Bool, true, false, List, [], ◌∷◌, length, ◌==◌, slice_index, if◌then◌else◌}
use Rattle.std.proofs.Math.Path.{refl}
use Rattle.std.proofs.Common.{sym, ap, subst, ◌∙◌, arith, eq-eqb, ne_eqb}
use Rattle.std.proofs.lemmas.Bool.{eqb-false}
use Rattle.lent.specs.Lists.{keep}
use Rattle.std.specs.declared.option.Option.{Option}
use Rattle.std.specs.declared.option.Option.TheVariants.{Some, None}
use Rattle.image.specs.declared.Seat.TheVariants.{Anywhere, Only}
use Rattle.image.specs.declared.Stretch.{Stretch}
use Rattle.image.specs.View.{view}
use Rattle.image.proofs.ViewLaws.{view-length}
use Rattle.image.specs.Match.{matches_at, matches}
use Rattle.image.proofs.MatchLaws.{matches-at}
use Rattle.image.specs.Next.{matches_from, next_match}
use Rattle.image.proofs.NextLaws.{matches-from-0, from-match, from-other, from_past, next-match, next-other, next_past}
use Rattle.tables.specs.links.Index.{link_from}
use Rattle.search.specs.declared.matches.MatchCursor.{MatchCursor}
use Rattle.search.specs.declared.matches.MatchCursor.TheVariants.{Along, Plain, Once, Over}
use Rattle.search.specs.declared.matches.Next.{Next}
use Rattle.search.specs.byte_index.Index.{Heads, Nexts}
use Rattle.search.specs.byte_index.Anchor.{Anchor}
use Rattle.search.specs.matches.Cursor.{left_along, places_left, SoundAlong, Started, Reached, Stepped}
use Rattle.search.specs.matches.CursorLaws.{LeadsFrom, link-leads, left_at}

-- the start: by the links of the anchor's byte, from the first place on, or at an address
module _ (image bytes masks : List ℕ) where
  pub started-along : (first : List ℕ) (anchor : ℕ) → Heads image first → Anchor bytes masks anchor → Started image Anywhere bytes masks (Along anchor (slice_index first (slice_index bytes anchor)))
  started-along first anchor h a =
      let e = h.starts (slice_index bytes anchor) a.byte in
      let none : 0 - anchor ≡ 0 = omega arith in
      record {
        sound = record { anchored = a; leads = rw e (link-leads image (slice_index bytes anchor) 0).leads };
        all = λ s.
            ap (left_along (view image s) bytes masks anchor) e
            ∙ sym (left_at image s bytes masks anchor a 0)
            ∙ ap (matches_from (view image s) bytes masks) none
            ∙ matches-from-0 (view image s) bytes masks;
      }

  pub started-plain : Started image Anywhere bytes masks (Plain 0)
  started-plain = record { sound = tt; all = λ s. matches-from-0 (view image s) bytes masks }

  pub started-once : (at : ℕ) → Started image (Only at) bytes masks (Once at)
  unfolding matches
  started-once at = record { sound = tt; all = λ s. refl }

-- how far a link is from the end: what falls at each step along the links
abbrev pub ahead : List ℕ → ℕ → ℕ
ahead image link = if link == 0 then 0 else length image + 1 - link

-- a step along the links of the anchor's byte
module _ (image : List ℕ) (s : List Stretch) (bytes masks next : List ℕ) (anchor link : ℕ) (n : Nexts image next) (w : SoundAlong image bytes masks anchor link) where
  abbrev left : ℕ → List ℕ
  left to = left_along (view image s) bytes masks anchor to

  pub along-end : link ≡ 0 → left link ≡ []
  along-end e = rw (eq-eqb link 0 e)

  module _ (h : link ≡ 0 → ⊥) where
    abbrev past : ℕ
    past = slice_index next (link - 1)

    -- the next link is the one from here on
    past-link : past ≡ link_from image (slice_index bytes anchor) link
    past-link =
        let back : link - 1 + 1 ≡ link = omega (arith, h) in
        n.follows (link - 1) (w.leads.within h)
        ∙ ap (λ b. link_from image b (link - 1 + 1)) (w.leads.there h)
        ∙ ap (link_from image (slice_index bytes anchor)) back

    past-leads : LeadsFrom image (slice_index bytes anchor) link past
    past-leads = rw past-link (link-leads image (slice_index bytes anchor) link)

    pub past-sound : SoundAlong image bytes masks anchor past
    past-sound = record { anchored = w.anchored; leads = past-leads.leads }

    pub past-less : ahead image past < ahead image link
    past-less = rw (ne_eqb link 0 h) (go (past == 0) refl)
      where
        go : (t : Bool) → (past == 0) ≡ t → (if t then 0 else length image + 1 - past) < length image + 1 - link
        go true e = omega (arith, w.leads.within h)
        go false e = omega (arith, w.leads.within h, past-leads.past (eqb-false past 0 e))

    past-left : matches_from (view image s) bytes masks (link - anchor) ≡ left past
    past-left = left_at image s bytes masks anchor w.anchored link ∙ ap left (sym past-link)

    here-left : left link ≡ matches_from (view image s) bytes masks (link - 1 - anchor)
    here-left = rw (ne_eqb link 0 h)

    -- the pattern cannot have begun before the image
    pub along-before : link - 1 < anchor → left link ≡ left past
    along-before l = let e : link - 1 - anchor ≡ link - anchor = omega arith in here-left ∙ ap (matches_from (view image s) bytes masks) e ∙ past-left

    module _ (l : anchor ≤ link - 1) where
      on : link - 1 - anchor + 1 ≡ link - anchor
      on = omega (arith, h)

      in-view : link - 1 - anchor ≤ length (view image s)
      in-view = omega (arith, view-length image s, w.leads.within h)

      pub along-match : matches_at (view image s) bytes masks (link - 1 - anchor) ≡ true → left link ≡ (link - 1 - anchor) ∷ left past
      along-match e =
          here-left
          ∙ from-match (view image s) bytes masks (link - 1 - anchor) in-view e
          ∙ ap (λ to. (link - 1 - anchor) ∷ matches_from (view image s) bytes masks to) on
          ∙ ap (λ ps. (link - 1 - anchor) ∷ ps) past-left

      pub along-other : matches_at (view image s) bytes masks (link - 1 - anchor) ≡ false → left link ≡ left past
      along-other e =
          here-left
          ∙ from-other (view image s) bytes masks (link - 1 - anchor) in-view e
          ∙ ap (matches_from (view image s) bytes masks) on
          ∙ past-left

-- a step that tries each place: the next match is the first of those left
module _ (cells bytes masks : List ℕ) where
  abbrev Listed : ℕ → Option ℕ → Type 0
  Listed from (Some at) = (matches_from cells bytes masks from ≡ at ∷ matches_from cells bytes masks (at + 1)) × (matches_at cells bytes masks at ≡ true)
  Listed from None = matches_from cells bytes masks from ≡ []

  listed-on : (from : ℕ) (f : Option ℕ) → matches_from cells bytes masks from ≡ matches_from cells bytes masks (from + 1) → Listed (from + 1) f → Listed from f
  listed-on from (Some at) e l = (e ∙ l.0, l.1)
  listed-on from None e l = e ∙ l

  listed-from : (n from : ℕ) → length cells + 1 - from ≡ n → Listed from (next_match cells bytes masks from)
  listed-from zero from e = rw (next_past cells bytes masks from (omega arith)) (from_past cells bytes masks from (omega arith))
  listed-from (suc n) from e = go (matches_at cells bytes masks from) refl (listed-from n (from + 1) (omega arith))
    where
      go : (t : Bool) → matches_at cells bytes masks from ≡ t → Listed (from + 1) (next_match cells bytes masks (from + 1)) → Listed from (next_match cells bytes masks from)
      go true q rest = rw (next-match cells bytes masks from (omega arith) q) (from-match cells bytes masks from (omega arith) q, q)
      go false q rest =
          rw (next-other cells bytes masks from (omega arith) q)
          (listed-on from (next_match cells bytes masks (from + 1)) (from-other cells bytes masks from (omega arith) q) rest)

  listed : (from : ℕ) {f : Option ℕ} → next_match cells bytes masks from ≡ f → Listed from f
  listed from e = subst (Listed from) e (listed-from (length cells + 1 - from) from refl)

module _ (image : List ℕ) (s : List Stretch) (bytes masks : List ℕ) where
  pub plain_at : (from at : ℕ) → next_match (view image s) bytes masks from ≡ Some at → Reached image s bytes masks (Plain from) at (Plain (at + 1))
  plain_at from at e = let l = listed (view image s) bytes masks from e in record { places = l.0; matched = l.1; sound = tt }

  pub plain_done : (from : ℕ) → next_match (view image s) bytes masks from ≡ None → places_left (view image s) bytes masks (Plain from) ≡ []
  plain_done from e = listed (view image s) bytes masks from e

  -- the one place
  pub once-at : (at : ℕ) → matches_at (view image s) bytes masks at ≡ true → Reached image s bytes masks (Once at) at Over
  unfolding keep
  once-at at e = record { places = rw e; matched = e; sound = tt }

  pub once-done : (at : ℕ) → matches_at (view image s) bytes masks at ≡ false → places_left (view image s) bytes masks (Once at) ≡ []
  unfolding keep
  once-done at e = rw e

  -- for whoever goes over the matches: what a step has reached, that fewer are left after it, and where it ends
  module _ (c : MatchCursor) where
    pub stepped-at : {r : Option Next} {m : Next} → r ≡ Some m → Stepped image s bytes masks c r → Reached image s bytes masks c m.at m.rest
    stepped-at e p = subst (Stepped image s bytes masks c) e p

    pub stepped-done : {r : Option Next} → r ≡ None → Stepped image s bytes masks c r → places_left (view image s) bytes masks c ≡ []
    stepped-done e p = subst (Stepped image s bytes masks c) e p

    module _ {at : ℕ} {rest : MatchCursor} (p : Reached image s bytes masks c at rest) where
      pub reached-fits : at + length bytes ≤ length image
      reached-fits = omega (arith, ((matches-at (view image s) bytes masks at).0 p.matched).fits, view-length image s)

      pub reached-less : length (places_left (view image s) bytes masks rest) < length (places_left (view image s) bytes masks c)
      reached-less = rw p.places (omega arith)
