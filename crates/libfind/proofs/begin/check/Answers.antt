-- `check`: 1, 30, 17, the image's own, 3, 16 and 4, in their order. Assumes nothing.
use Prim.Native.Nat.{◌≤◌}
use mathlib.Core.Path.{◌≡◌, sym, ap, ◌∙◌}
use mathlib.Core.Bool.{false}
use mathlib.Core.Option.{none}
use native.Mathlib.Omega.{arith}
use Rattle.omf51.proofs.Exits.{handed_on}
use Rattle.image.specs.View.{stretches_in}
use Rattle.image.specs.Cover.{passes_end}
use Rattle.run.specs.Run.{other_edition, cover}
use Rattle.libfind.specs.Begin.{refusal_in}
use Rattle.libfind.specs.BeginLaws.{other-edition, edition-known, refused-1, refused-30, refused-17, refused-own, refused-3, refused-16, refused-4, is-accepted}
use Rattle.libfind.proofs.begin.check.Goals as goal
use Rattle.libfind.proofs.begin.check.Goals.{Else-settings-gt1}

rules-fine : (c : Else-settings-gt1) → c.args.settings.rules ≤ 1
rules-fine c =
    omega (arith, c.if-settings-gt1.false)

pub returns-then-settings-gt1 : goal.returns-then-settings-gt1
returns-then-settings-gt1 c =
    let a = c.args in
    refused-1 (refusal_in a.own) a.size a.library a.settings (omega (arith, c.if-settings-gt1.true))

pub returns-then-settings-lt1 : goal.returns-then-settings-lt1
returns-then-settings-lt1 c =
    let a = c.args in
    refused-30 (refusal_in a.own) a.size a.library a.settings (omega (arith, c.if-settings-gt1.false)) (other-edition a.settings.edition c.then-settings-lt1.either)

pub returns-then-settings-gt-DEEPEST : goal.returns-then-settings-gt-DEEPEST
returns-then-settings-gt-DEEPEST c =
    let edition-fine : other_edition c.args.settings.edition ≡ false = edition-known c.args.settings.edition (omega (arith, c.if-settings-lt1.false)) (omega (arith, c.if-settings-gt2.false)) in
    let a = c.args in
    refused-17 (refusal_in a.own) a.size a.library a.settings (rules-fine (goal.at.returns-then-settings-gt-DEEPEST c).Else-settings-gt1) (edition-fine) (omega (arith, c.if-settings-gt-DEEPEST.true))

pub returns-in_err-own : goal.returns-in_err-own
returns-in_err-own c =
    let edition-fine : other_edition c.args.settings.edition ≡ false = edition-known c.args.settings.edition (omega (arith, c.if-settings-lt1.false)) (omega (arith, c.if-settings-gt2.false)) in
    let depth-fine : c.args.settings.depth ≤ 4 = omega (arith, c.if-settings-gt-DEEPEST.false) in
    let a = c.args in
    handed_on c.from_residual.result c.from_residual.ensures.1
    ∙ refused-own (refusal_in a.own) a.size a.library a.settings (rules-fine (goal.at.returns-in_err-own c).Else-settings-gt1) (edition-fine) (depth-fine) (ap refusal_in c.in_err-own.was)

pub returns-then-library-gt-LONGEST_LIBRARY : goal.returns-then-library-gt-LONGEST_LIBRARY
returns-then-library-gt-LONGEST_LIBRARY c =
    let edition-fine : other_edition c.args.settings.edition ≡ false = edition-known c.args.settings.edition (omega (arith, c.if-settings-lt1.false)) (omega (arith, c.if-settings-gt2.false)) in
    let depth-fine : c.args.settings.depth ≤ 4 = omega (arith, c.if-settings-gt-DEEPEST.false) in
    let own-fine : refusal_in c.args.own ≡ none = ap refusal_in c.in_ok-own.was in
    let a = c.args in
    refused-3 (refusal_in a.own) a.size a.library a.settings (rules-fine (goal.at.returns-then-library-gt-LONGEST_LIBRARY c).Else-settings-gt1) (edition-fine) (depth-fine) (own-fine) (omega (arith, c.if-library-gt-LONGEST_LIBRARY.true))

pub returns-then-withheld-gt-MOST_STRETCHES : goal.returns-then-withheld-gt-MOST_STRETCHES
returns-then-withheld-gt-MOST_STRETCHES c =
    let edition-fine : other_edition c.args.settings.edition ≡ false = edition-known c.args.settings.edition (omega (arith, c.if-settings-lt1.false)) (omega (arith, c.if-settings-gt2.false)) in
    let depth-fine : c.args.settings.depth ≤ 4 = omega (arith, c.if-settings-gt-DEEPEST.false) in
    let own-fine : refusal_in c.args.own ≡ none = ap refusal_in c.in_ok-own.was in
    let library-fine : c.args.library ≤ 1048576 = omega (arith, c.if-library-gt-LONGEST_LIBRARY.false) in
    let a = c.args in
    refused-16 (refusal_in a.own) a.size a.library a.settings (rules-fine (goal.at.returns-then-withheld-gt-MOST_STRETCHES c).Else-settings-gt1) (edition-fine) (depth-fine)
    (own-fine) (library-fine) (omega (arith, c.if-withheld-gt-MOST_STRETCHES.true))

pub returns-then-passes_end : goal.returns-then-passes_end
returns-then-passes_end c =
    let edition-fine : other_edition c.args.settings.edition ≡ false = edition-known c.args.settings.edition (omega (arith, c.if-settings-lt1.false)) (omega (arith, c.if-settings-gt2.false)) in
    let depth-fine : c.args.settings.depth ≤ 4 = omega (arith, c.if-settings-gt-DEEPEST.false) in
    let own-fine : refusal_in c.args.own ≡ none = ap refusal_in c.in_ok-own.was in
    let library-fine : c.args.library ≤ 1048576 = omega (arith, c.if-library-gt-LONGEST_LIBRARY.false) in
    let passing : let a = c.args in c.passes_end.result ≡ passes_end a.size (cover a.settings) = let a = c.args in
    c.passes_end.ensures ∙ ap (λ pairs. passes_end a.size (stretches_in pairs)) c.first_pairs.ensures in
    let a = c.args in
    refused-4 (refusal_in a.own) a.size a.library a.settings (rules-fine (goal.at.returns-then-passes_end c).Else-settings-gt1) (edition-fine) (depth-fine) (own-fine) (library-fine)
    (omega (arith, c.if-withheld-gt-MOST_STRETCHES.false)) (sym (passing) ∙ c.if-passes_end.true)

pub returns : goal.returns
returns c =
    let edition-fine : other_edition c.args.settings.edition ≡ false = edition-known c.args.settings.edition (omega (arith, c.if-settings-lt1.false)) (omega (arith, c.if-settings-gt2.false)) in
    let depth-fine : c.args.settings.depth ≤ 4 = omega (arith, c.if-settings-gt-DEEPEST.false) in
    let own-fine : refusal_in c.args.own ≡ none = ap refusal_in c.in_ok-own.was in
    let library-fine : c.args.library ≤ 1048576 = omega (arith, c.if-library-gt-LONGEST_LIBRARY.false) in
    let passing : let a = c.args in c.passes_end.result ≡ passes_end a.size (cover a.settings) = let a = c.args in
    c.passes_end.ensures ∙ ap (λ pairs. passes_end a.size (stretches_in pairs)) c.first_pairs.ensures in
    let a = c.args in
    is-accepted (refusal_in a.own) a.size a.library a.settings (rules-fine (goal.at.returns c).Else-settings-gt1) (edition-fine) (depth-fine) (own-fine) (library-fine)
    (omega (arith, c.if-withheld-gt-MOST_STRETCHES.false)) (sym (passing) ∙ c.if-passes_end.false)
