-- What each stage says in document 01's terms: its number, and its values. Each follows from the stage's contract alone. Assumes nothing.
use Rattle.std.specs.Prelude.{ℕ, ◌≡◌, refl, List, length, Ok, Err, Result}
use Rattle.std.proofs.Common.{ap, ◌∙◌}
use Rattle.std.proofs.Math.Option.{Option, none, some}
use Rattle.lent.specs.declared.refusal.Refusal.{Refusal}
use Rattle.lent.specs.Choice.{or_else}
use Rattle.lent.specs.Refusals.{refusal_number, stage_number}
use Rattle.image.specs.declared.fixup.Rules.{Rules}
use Rattle.omf51.specs.Module.{Module}
use Rattle.omf51.specs.File.{file_refusal}
use Rattle.segments.specs.Collect.{Collected, collect}
use Rattle.collect.specs.declared.stored.CollectCounts.{CollectCounts}
use Rattle.collect.specs.stored.Stores.{CollectLists}
use Rattle.collect.specs.Outcome.{CollectOutcome, counted_in, refusal_of as collection_refusal, collect_outcome_of, collection}
use Rattle.search_rules.specs.declared.Asked.{Asked}
use Rattle.search_rules.specs.Search.{Placing, Noting, placed, noted}
use Rattle.search.specs.declared.SearchCounts.{SearchCounts}
use Rattle.search.specs.visit.Visits.{segments_in}
use Rattle.search.specs.Outcome.{SearchLists, SearchOutcome, refusal_of as search_refusal, search_outcome_of, searched}
use Rattle.listing_rules.specs.Listing.{SkipAmount}
use Rattle.listing.specs.Outcome.{FindAnswer, FindLists, FindOutcome, Yield, yields, refusal_of as find_refusal, find_outcome_of, find_outcome}
use Rattle.library.specs.Reading.{first_at}
use Rattle.run.specs.declared.Settings.{Settings}
use Rattle.run.specs.Run.{library_read}
use Rattle.libfind.specs.Begin.{settings_refusal, begins_at, beginning}

-- the number of each answer; its values are in the answer itself, and a refusal has none
abbrev pub beginning_number : Result ℕ Refusal → ℕ
beginning_number (Ok first) = 0
beginning_number (Err r) = refusal_number r

abbrev pub collection_number : Result CollectCounts Refusal → ℕ
collection_number (Ok counts) = 0
collection_number (Err r) = refusal_number r

abbrev pub searched_number : Result SearchCounts Refusal → ℕ
searched_number (Ok counts) = 0
searched_number (Err r) = refusal_number r

abbrev pub find_number : FindAnswer → ℕ
find_number (Ok counts) = 0
find_number (Err r) = refusal_number r

-- the counts of the collection; zeros with a refusal
abbrev pub collection_counts : Result CollectCounts Refusal → CollectCounts
collection_counts (Ok counts) = counts
collection_counts (Err r) = record { segments = 0; references = 0; symbols = 0; pattern = 0 }

begin-of : (first : ℕ) (o : Option Refusal) → beginning_number (begins_at first o) ≡ stage_number o
begin-of first none = refl
begin-of first (some r) = refl

pub begin-number : (own : Option Refusal) (size : ℕ) (library : List ℕ) (s : Settings) (r : Result ℕ Refusal) → r ≡ beginning own size library s
    → beginning_number r ≡ stage_number (or_else (settings_refusal own size (length library) s) (file_refusal (library_read library s)))
unfolding beginning
begin-number own size library s r c =
    ap beginning_number c ∙ begin-of (first_at library) (or_else (settings_refusal own size (length library) s) (file_refusal (library_read library s)))

collect-of : (o : Option Refusal) (gs : List Collected) (l : CollectLists) → collection_number (collect_outcome_of o gs l).answer ≡ stage_number o
collect-of none gs l = refl
collect-of (some r) gs l = refl

pub collect-number : (rules : Rules) (library : List ℕ) (modules : List Module) (l : CollectLists) (o : CollectOutcome) → o ≡ collection rules library modules l
    → collection_number o.answer ≡ stage_number (collection_refusal library modules l (counted_in (collect rules library modules)))
unfolding collection
collect-number rules library modules l o c =
    let gs = collect rules library modules in
    ap (λ x. collection_number x.answer) c ∙ collect-of (collection_refusal library modules l (counted_in gs)) gs l

search-of : (library : List ℕ) (o : Option Refusal) (p : List Placing) (n : List Noting) (l : SearchLists) → searched_number (search_outcome_of library o p n l).answer ≡ stage_number o
search-of library none p n l = refl
search-of library (some r) p n l = refl

pub search-number : (cells : List ℕ) (a : Asked) (library : List ℕ) (n : ℕ) (l : SearchLists) (o : SearchOutcome) → o ≡ searched cells a library n l
    → searched_number o.answer ≡ stage_number (search_refusal cells l (placed library cells a (segments_in l.stored n)) (noted library cells a (segments_in l.stored n)))
unfolding searched
search-number cells a library n l o c =
    let gs = segments_in l.stored n in
    let p = placed library cells a gs in
    let q = noted library cells a gs in
    ap (λ x. searched_number x.answer) c ∙ search-of library (search_refusal cells l p q) p q l

find-of : (library : List ℕ) (o : Option Refusal) (y : Yield) (l : FindLists) → find_number (find_outcome_of library o y l).answer ≡ stage_number o
find-of library none y l = refl
find-of library (some r) y l = refl

pub find-number : (cells : List ℕ) (a : Asked) (skip : SkipAmount) (library : List ℕ) (n : ℕ) (l : FindLists) (o : FindOutcome) → o ≡ find_outcome cells a skip library n l
    → find_number o.answer ≡ stage_number (find_refusal cells l (yields cells a skip library (segments_in l.searched.stored n)))
unfolding find_outcome
find-number cells a skip library n l o c =
    let y = yields cells a skip library (segments_in l.searched.stored n) in
    ap (λ x. find_number x.answer) c ∙ find-of library (find_refusal cells l y) y l
