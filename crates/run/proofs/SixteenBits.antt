-- Under rule set 1 the program counter has 16 bits: no line of the list has an address above FFFFh. Assumes nothing.
use Rattle.std.specs.Prelude.{ℕ, ◌+◌, ◌≤◌, ◌<◌, ◌≡◌, List, length}
use Rattle.std.proofs.Common.{sym, ap, ◌∙◌, arith}
use Rattle.lent.specs.Members.{◌among◌}
use Rattle.image.specs.View.{view}
use Rattle.image.proofs.ViewLaws.{view-length}
use Rattle.image.specs.declared.fixup.Rules.TheVariants.{Documented}
use Rattle.image.specs.fixup.Target.{rules_of, target}
use Rattle.image.proofs.fixup.TargetLaws.{target-within}
use Rattle.omf51.specs.File.{modules_in}
use Rattle.segments.specs.Collect.{Collected, collect}
use Rattle.search_rules.specs.declared.Asked.{Asked}
use Rattle.search_rules.specs.Search.{Noting, placed, noted}
use Rattle.search_rules.proofs.NotedLaws.{noted-by}
use Rattle.listing_rules.specs.declared.Line.{Line}
use Rattle.listing_rules.specs.Listed.{Listed, of_symbol, of_name, past_end}
use Rattle.listing_rules.proofs.CompleteLaws.{only}
use Rattle.run.specs.declared.Settings.{Settings}
use Rattle.run.specs.Run.{library_read, asked_of, stages, cover}

-- a name is noted at no target above FFFFh
noted-within : (library cells : List ℕ) (a : Asked) (segments : List Collected) → a.rules ≡ Documented
    → (n : Noting) → n among noted library cells a segments → n.target < 65536
noted-within library cells a segments r n i =
    let by = noted-by library cells a segments n i in
    let pos = by.m.position + by.reference.place in
    target-within cells pos by.reference.kind by.reference.offset n.target
    (ap (λ rules. target cells rules pos by.reference.kind by.reference.offset) (sym r) ∙ by.leads-to)

-- and each line is that of a place in the image, or of a noted name
pub sixteen-bits : (image library : List ℕ) (s : Settings) → s.rules ≡ 1 → length image ≤ 65536
    → (l : Line) → l among (stages (view image (cover s)) library s).lines → l.address < 65536
unfolding stages
sixteen-bits image library s r fits l i = go (only library cells a s.skip gs (placed library cells a gs) (noted library cells a gs) l i)
  where
    cells : List ℕ
    cells = view image (cover s)

    a : Asked
    a = asked_of s

    gs : List Collected
    gs = collect a.rules library (modules_in (library_read library s))

    within : length cells ≤ 65536
    within = omega (arith, view-length image (cover s), fits)

    go : Listed library cells a s.skip gs (placed library cells a gs) (noted library cells a gs) l → l.address < 65536
    go (of_symbol o) = rw o.line-is (omega (arith, o.inside, within))
    go (of_name o) = rw o.line-is (omega (arith, o.inside, within))
    go (past_end o) = rw o.line-is (noted-within library cells a gs (ap rules_of r) o.n o.there)
