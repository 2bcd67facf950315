-- Where noted names come from. Assumes nothing.
use Rattle.std.specs.Prelude.{ℕ, ◌≡◌, refl, ◌⊎◌, Bool, true, false, ◌&&◌, eqb, if◌then◌else◌}
use Rattle.std.proofs.Common.{sym, ◌∙◌, inl, inr, eqb-true}
use Rattle.std.proofs.Math.Path.{ap}
use Rattle.std.proofs.lemmas.Bool.{false≢true}
use mathlib.Core.List.Memᴰ
use mathlib.Core.List.{List, [], ◌∷◌, ◌++◌, map}
use Rattle.lent.specs.declared.part.Part.{Part}
use Rattle.lent.specs.ChoiceLaws.{both, either}
use Rattle.lent.specs.Lists.{one, joined, fold, any}
use Rattle.lent.specs.Members.{◌among◌, of-joined}
use Rattle.lent.specs.Parts.{bytes_of, same_name}
use Rattle.tables.specs.by_name.NamedLaws.{same-equal}
use Rattle.image.specs.declared.fixup.Target.{Target}
use Rattle.image.specs.declared.fixup.Target.TheVariants.{At, PastEnd, Withheld}
use Rattle.segments.specs.declared.Goal.{Goal}
use Rattle.segments.specs.declared.Reference.{Reference}
use Rattle.segments.specs.Collect.{Collected}
use Rattle.search_rules.specs.declared.Asked.{Asked}
use Rattle.search_rules.specs.Search.{Match, Noting, all_matches, is_valid, target_of, note_at, notes, notes_it, is_noted, also_noted, note, noted}
use Rattle.search_rules.proofs.SearchLaws.{Matched, matched}

-- a match notes a name at a target: one of its references has that name for its goal, and leads there
pub record NotedBy (cells : List ℕ) (a : Asked) (segments : List Collected) (name : Part) (target : ℕ) : Type 0 where
  pub m : Match
  pub matched-at : Matched cells segments m
  pub reference : Reference
  pub carried : reference among m.segment.references
  pub goal-is : reference.goal ≡ Goal.Name name
  pub leads-to : target_of cells a m.position reference ≡ At target

-- a match notes a name of these bytes at a target
pub record NotedAs (library cells : List ℕ) (a : Asked) (segments : List Collected) (name : Part) (target : ℕ) : Type 0 where
  pub own : Part
  pub same_bytes : bytes_of library own ≡ bytes_of library name
  pub by : NotedBy cells a segments own target

-- and the match is valid
pub record NotedValid (library cells : List ℕ) (a : Asked) (segments : List Collected) (name : Part) (target : ℕ) : Type 0 where
  pub noting : NotedAs library cells a segments name target
  pub is-valid : is_valid a noting.by.m.segment ≡ true

-- of a list some of which pass a test: one does
of-any : {A : Type 0} (p : A → Bool) (xs : List A) → any p xs ≡ true → (x : A) × (x among xs) × (p x ≡ true)
unfolding any
of-any p [] e = absurd (false≢true e)
of-any {A} p (x ∷ xs) e = go (either (p x) (any p xs) e) (of-any p xs)
  where
    go : (p x ≡ true) ⊎ (any p xs ≡ true) → (any p xs ≡ true → (y : A) × (y among xs) × (p y ≡ true)) → (y : A) × (y among (x ∷ xs)) × (p y ≡ true)
    go (inl h) rest = (x, Memᴰ.head refl, h)
    go (inr h) rest = let y = rest h in (y.0, Memᴰ.tail y.1, y.2)

-- what holds of all before each step, and then of all after it, holds of all that a fold makes
each-fold : {A B : Type 0} (step : List B → A → List B) (P : B → Type 0) (xs : List A)
    → ((found : List B) (x : A) → x among xs → ((y : B) → y among found → P y) → (y : B) → y among step found x → P y)
    → (found : List B) → ((y : B) → y among found → P y) → (y : B) → y among fold step found xs → P y
unfolding fold
each-fold step P [] keeps found h = h
each-fold step P (x ∷ xs) keeps found h =
    each-fold step P xs (λ f z i. keeps f z (Memᴰ.tail i)) (step found x) (keeps found x (Memᴰ.head refl) h)

-- a row was noted, under its own name, and a valid row by a valid noting of a name with the same bytes
record Row (library : List ℕ) (all : List Noting) (n : Noting) : Type 0 where
  first : Noting
  first-is : first among all
  first-name : first.name ≡ n.name
  first-target : first.target ≡ n.target
  valid : n.valid ≡ true → (k : Noting) × (k among all) × ((bytes_of library k.name ≡ bytes_of library n.name) × ((k.target ≡ n.target) × (k.valid ≡ true)))

row-after : (library : List ℕ) (all rows : List Noting) (new : Noting) → new among all
    → ((n : Noting) → n among rows → Row library all n) → (n : Noting) → n among note library rows new → Row library all n
unfolding note
row-after library all rows new i h n j = go (is_noted library rows new.target new.name) j
  where
    again : (r : Noting) → r among rows → also_noted library new r ≡ n → Row library all n
    again r k e = rw (sym e) (record {
      first = (h r k).first;
      first-is = (h r k).first-is;
      first-name = (h r k).first-name;
      first-target = (h r k).first-target;
      valid = λ v. which (either r.valid (notes_it library new.target new.name r && new.valid) v);
    })
      where
        which : (r.valid ≡ true) ⊎ ((notes_it library new.target new.name r && new.valid) ≡ true)
            → (x : Noting) × (x among all) × ((bytes_of library x.name ≡ bytes_of library r.name) × ((x.target ≡ r.target) × (x.valid ≡ true)))
        which (inl v) = (h r k).valid v
        which (inr v) =
            let p = both (notes_it library new.target new.name r) new.valid v in
            let q = both (eqb r.target new.target) (same_name library r.name new.name) p.0 in
            (new, i, (sym (same-equal _ _ q.1), (sym (eqb-true r.target new.target q.0), p.1)))

    added : n among rows ⊎ n among one new → Row library all n
    added (inl k) = h n k
    added (inr k) = rw (Memᴰ.eq_of_singleton k) (record {
      first = new;
      first-is = i;
      first-name = refl;
      first-target = refl;
      valid = λ v. (new, i, (refl, (refl, v)));
    })

    go : (t : Bool) → n among (if t then map (also_noted library new) rows else rows ++ one new) → Row library all n
    go true k = let r = Memᴰ.of_map (also_noted library new) rows k in again r.0 r.1 r.2
    go false k = added (Memᴰ.append_cases rows k)

module _ (library cells : List ℕ) (a : Asked) (segments : List Collected) where
  -- all that the matches note, one noting after another
  abbrev notings : List Noting
  notings = joined (λ m. notes cells a m.segment m.position) (all_matches cells segments)

  -- what one noting says
  record Said (n : Noting) : Type 0 where
    by : NotedBy cells a segments n.name n.target
    valid-is : n.valid ≡ is_valid a by.m.segment

  said : (n : Noting) → n among notings → Said n
  unfolding notes
  said n i = let p = of-joined (λ m. notes cells a m.segment m.position) (all_matches cells segments) i in by-match p.0 p.1 p.2
    where
      by-reference : (m : Match) → m among all_matches cells segments → (r : Reference) → r among m.segment.references
          → (goal : Goal) → r.goal ≡ goal → (t : Target) → target_of cells a m.position r ≡ t → n among note_at (is_valid a m.segment) goal t → Said n
      by-reference m j r k goal e PastEnd f l = absurd (Memᴰ.not-nil l)
      by-reference m j r k goal e Withheld f l = absurd (Memᴰ.not-nil l)
      by-reference m j r k (Goal.Segment number) e (At t) f l = absurd (Memᴰ.not-nil l)
      by-reference m j r k (Goal.Name name) e (At t) f l =
          let q = Memᴰ.eq_of_singleton l in
          record {
            by = record {
              m = m;
              matched-at = matched cells segments m j;
              reference = r;
              carried = k;
              goal-is = e ∙ ap (λ x. Goal.Name x.name) (sym q);
              leads-to = f ∙ ap (λ x. At x.target) (sym q);
            };
            valid-is = ap (λ x. x.valid) q;
          }

      by-match : (m : Match) → m among all_matches cells segments → n among notes cells a m.segment m.position → Said n
      by-match m j k =
          let p = of-joined (λ r. note_at (is_valid a m.segment) r.goal (target_of cells a m.position r)) m.segment.references k in
          by-reference m j p.0 p.1 p.0.goal refl (target_of cells a m.position p.0) refl p.2

  row_of : (n : Noting) → n among noted library cells a segments → Row library notings n
  unfolding noted
  row_of = each-fold (note library) (Row library notings) notings (λ rows new i h. row-after library notings rows new i h) [] (λ n i. absurd (Memᴰ.not-nil i))

  -- a noted name is noted at its target by a match
  pub noted-by : (n : Noting) → n among noted library cells a segments → NotedBy cells a segments n.name n.target
  noted-by n i = let r = row_of n i in moved r.first-name r.first-target (said r.first r.first-is).by
    where
      moved : {x y : Part} {t u : ℕ} → x ≡ y → t ≡ u → NotedBy cells a segments x t → NotedBy cells a segments y u
      moved p q h = rw (sym p, sym q) h

  -- a valid noted name, with the same bytes, by a valid match
  pub noted-valid : (n : Noting) → n among noted library cells a segments → n.valid ≡ true → NotedValid library cells a segments n.name n.target
  noted-valid n i v = go ((row_of n i).valid v)
    where
      go : (k : Noting) × (k among notings) × ((bytes_of library k.name ≡ bytes_of library n.name) × ((k.target ≡ n.target) × (k.valid ≡ true)))
          → NotedValid library cells a segments n.name n.target
      go (k, j, (b, (t, w))) =
          let s = said k j in
          rw (sym t) (record { noting = record { own = k.name; same_bytes = b; by = s.by }; is-valid = sym s.valid-is ∙ w })

  -- a name that is noted at a target, by its bytes, is so by a match
  pub noted-as : (name : Part) (target : ℕ) → is_noted library (noted library cells a segments) target name ≡ true → NotedAs library cells a segments name target
  noted-as name target e = go (of-any (notes_it library target name) (noted library cells a segments) e)
    where
      go : (n : Noting) × (n among noted library cells a segments) × (notes_it library target name n ≡ true) → NotedAs library cells a segments name target
      go (n, i, h) =
          let p = both (eqb n.target target) (same_name library n.name name) h in
          rw (sym (eqb-true n.target target p.0)) (record { own = n.name; same_bytes = same-equal _ _ p.1; by = noted-by n i })
