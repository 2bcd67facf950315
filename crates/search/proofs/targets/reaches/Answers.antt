-- `reaches`: of the masks that are not 0 so many are taken, where there are so many. Assumes nothing.
use Rattle.std.proofs.Common.{◌≡◌, ℕ, Bool, not, length, take, nat_eq, ◌==◌, ap, ◌∙◌, rules, tests}
use Rattle.std.specs.List.{filter}
use Rattle.std.proofs.lemmas.Iterator.{YieldsList-from_slice, YieldsList-from_take}
use Rattle.std.proofs.lemmas.Iterator.Consumers.{YieldsList-at, YieldsList-from_filter, count_from_yields_List}
use Rattle.lent.specs.Lists.{keep}
use Rattle.search.specs.targets.CountLaws.{kept-filter, taken-all}
use Rattle.search.proofs.targets.reaches.Goals as goal

pub returns : goal.returns
returns c =
    let masks = c.args.masks.now in
    let test : ℕ → Bool = λ mask. not (mask == 0) in
    let counted : c.count.result ≡ length (take c.args.least (filter test masks)) =
    count_from_yields_List c.take.result c.count.result c.count.ensures.ran
    (YieldsList-from_take c.args.least (YieldsList-at c.take.ensures.source (YieldsList-from_filter _ test (YieldsList-from_slice masks cc) c.filter.ensures.closure (λ x r q k. search (rules, tests)))) c.take.ensures.count) in
    ap (λ n. nat_eq n c.args.least) (counted ∙ ap (λ xs. length (take c.args.least xs)) (kept-filter test masks)) ∙ taken-all c.args.least (keep test masks)
