use Prim.Native.Nat.{ℕ, ◌+◌, ◌*◌, ◌/◌, ◌≤◌, ◌<◌}
use mathlib.Core.Path.{◌≡◌, refl, sym, ap, ◌∙◌}
use mathlib.Core.List.{List}
use native.Mathlib.Omega.{arith}
use lib.ListN.{get_or}
use Rattle.tables.specs.links.Things.{keys_of, places_of}
use Rattle.segment_parts.specs.declared.symbols_by_offset.flags.Blocks.{Blocks}
use Rattle.segment_parts.specs.symbols_by_offset.Flags.{Flagged}
use Rattle.segment_parts.specs.symbols_by_offset.InsideLaws.{left-all, left-past, left_one, left-none}
use Rattle.segment_parts.proofs.symbols_by_offset.names.name_blocks.Goals as goal

-- all places up to the next block share the flag
unflagged : (flags : List ℕ) (s : Blocks) (i : ℕ) → get_or flags (i / 256) 0 ≡ 0 → (j : ℕ) → i ≤ j → j < (i / 256 + 1) * 256 → Flagged flags s (j / 256) → ⊥
unflagged flags s i e j a b f =
    let same : j / 256 ≡ i / 256 = omega arith in
    let z : ◌≡◌ {A = ℕ} 0 1 = sym e ∙ ap (λ k. get_or flags k 0) (sym same) ∙ f.one in
    omega (arith, z)

pub loop-j-init : goal.loop-j-init
loop-j-init c =
    let a = c.args in
    record {
      long = refl;
      left = λ p t k. left-past a.library.now (keys_of a.publics.now) a.n (places_of a.publics.now) p t a.window.at a.window.len a.window.own a.s a.flags.now k
          a.m.now a.before 0 (a.s.low * 256) a.m.now a.before (omega arith) (λ j x y fl. omega (arith, fl.from))
          (left-all a.library.now (keys_of a.publics.now) a.n (places_of a.publics.now) p t a.window.at a.window.len a.window.own a.s a.flags.now k a.m.now a.before);
    }

pub returns-then-s-b : goal.returns-then-s-b
returns-then-s-b c =
    let a = c.args in
    let l = c.loop-j in
    record {
      long = l.invariant.long;
      adds = λ p t k. left-none a.library.now (keys_of a.publics.now) a.n (places_of a.publics.now) p t a.window.at a.window.len a.window.own a.s a.flags.now k
          a.m.now a.before (l.j + a.n) l.m l.f (omega arith)
          (left-past a.library.now (keys_of a.publics.now) a.n (places_of a.publics.now) p t a.window.at a.window.len a.window.own a.s a.flags.now k a.m.now
          a.before l.j (l.j + a.n) l.m l.f (omega arith) (λ j x y fl. omega (arith, fl.below)) (l.invariant.left p t k));
    }

pub loop-j-preserved-then-flag_at-eq0 : goal.loop-j-preserved-then-flag_at-eq0
loop-j-preserved-then-flag_at-eq0 c =
    let a = c.args in
    let l = c.loop-j in
    record {
      long = l.invariant.long;
      left = λ p t k. left-past a.library.now (keys_of a.publics.now) a.n (places_of a.publics.now) p t a.window.at a.window.len a.window.own a.s a.flags.now k
          a.m.now a.before l.j _ l.m l.f (omega arith) (unflagged a.flags.now a.s l.j (sym c.flag_at.ensures ∙ c.if-flag_at-eq0.true)) (l.invariant.left p t k);
    }

pub loop-j-preserved : goal.loop-j-preserved
loop-j-preserved c =
    let a = c.args in
    let l = c.loop-j in
    record {
      long = c.name_place-f.ensures.long ∙ l.invariant.long;
      left = λ p t k. left_one a.library.now (keys_of a.publics.now) a.n (places_of a.publics.now) p t a.window.at a.window.len a.window.own a.s a.flags.now k
          a.m.now a.before l.j l.m c.name_place-f.new.m l.f c.name_place-f.result
          (omega arith) c.name_place-f.ensures (l.invariant.left p t k);
    }

pub returns : goal.returns
returns c =
    let a = c.args in
    let l = c.loop-j in
    record {
      long = l.invariant.long;
      adds = λ p t k. left-none a.library.now (keys_of a.publics.now) a.n (places_of a.publics.now) p t a.window.at a.window.len a.window.own a.s a.flags.now k
          a.m.now a.before l.j l.m l.f (omega arith) (l.invariant.left p t k);
    }
