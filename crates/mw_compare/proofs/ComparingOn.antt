-- How what is compared goes on: from one space to the next, along paths that agree, and with comparisons behind.
use Rattle.std.proofs.Common.{◌≡◌, ap, subst, sym, ◌∙◌, refl, ℕ, List, ◌∷◌, ◌++◌, append_assoc}
use Rattle.std.specs.Prelude.{None, Option, Some, Result, Ok, Err}
use Rattle.mw_rel.specs.ComparisonWords.{Compared, Comparison, Subject, compared_in, with_comparison}
use Rattle.mw_symmem.proofs.Later.{goes_then, writes_then}
use Rattle.mw_term.specs.Assigned.{Numbers}
use Rattle.mw_term.specs.Cofactors.{Agree}
use Rattle.mw_term.specs.Functions.{Function}
use Rattle.mw_space.specs.declared.space.Space.{Space}
use Rattle.mw_path.specs.declared.paths.Paths.{Paths}
use Rattle.mw_decide.specs.Faults.{RunStop}
use Rattle.mw_compare.specs.Comparing.{Compares, FailsFirst, GoesComparing, HaveCompared, IsComparedKind}
use Rattle.mw_compare.specs.Comparing.{IsOutcome, StopsComparing}
use Rattle.mw_space.specs.Spaces.{list_of_space}
use Rattle.mw_decide.specs.SpacePaths.{HavePaths}
use Rattle.mw_compare.proofs.GoingOn.{GoesOnAs, front_then}
use Rattle.mw_path.proofs.Sharing.{shared_with_more}

-- ---- from one space to the next

pub comparing_then : (a b c : Space) → GoesComparing a b → GoesComparing b c → GoesComparing a c
comparing_then a b c first second = record {
  goes = goes_then IsComparedKind a.terms b.terms c.terms a.words b.words c.words a.memory b.memory c.memory first.goes
      second.goes;
  writes = writes_then a.memory b.memory c.memory first.writes second.writes;
}

-- the paths are right for the terms still
pub comparing_paths : (old new : Space) (paths : Paths) → GoesComparing old new → HavePaths old paths
    → HavePaths new paths
comparing_paths old new paths goes have = record {
  there = have.there;
  share = shared_with_more old.terms new.terms paths.places paths.shared paths.dds goes.goes.later.extends
      goes.goes.later.keeps have.share;
}

-- ---- with comparisons behind

-- comparisons with others behind them, from one of them on
behind_one : (all some before after more : List Comparison) (c : Comparison) → all ≡ some ++ more
    → some ≡ before ++ c ∷ after → all ≡ before ++ c ∷ (after ++ more)
behind_one all some before after more c is are =
    is ∙ ap (λ (xs : List Comparison). xs ++ more) are ∙ append_assoc before (c ∷ after) more

fails_further : (map : List ℕ) (space : Space) (path : Function) (compared all : Compared) (numbers : Numbers)
    → GoesOnAs compared all → FailsFirst map space path compared numbers → FailsFirst map space path all numbers
fails_further map space path compared all numbers on fails = record {
  before = fails.before;
  after = fails.after ++ on.more;
  at = fails.at;
  are = behind_one all.comparisons compared.comparisons fails.before fails.after on.more fails.at on.comparisons_are
      fails.are;
  none = fails.none;
  list = fails.list;
  first = fails.first;
}

stops_further : (map : List ℕ) (nodes : ℕ) (space : Space) (path : Function) (compared all : Compared) (word j : ℕ)
    → GoesOnAs compared all → StopsComparing map nodes space path compared word j
    → StopsComparing map nodes space path all word j
stops_further map nodes space path compared all word j on stopped = record {
  before = stopped.before;
  after = stopped.after ++ on.more;
  at = stopped.at;
  are =
      behind_one all.comparisons compared.comparisons stopped.before stopped.after on.more stopped.at on.comparisons_are
      stopped.are;
  list = stopped.list;
  table = stopped.table;
  map_is = stopped.map_is;
  term = stopped.term;
  named = stopped.named;
  over = stopped.over;
  front = front_then (list_of_space space) compared.list all.list stopped.front on.front;
}

-- a difference was found, or the comparing stopped
abbrev pub IsShown : Result (Option Numbers) RunStop → Type 0
IsShown (Ok None) = ⊥
IsShown (Ok (Some numbers)) = Unit {0}
IsShown (Err stop) = Unit {0}

-- then it is so with others behind
pub compares_shown : (nodes : ℕ) (old new : Space) (path : Function) (first all : Compared → Compared)
    (result : Result (Option Numbers) RunStop) → IsShown result → ((c : Compared) → GoesOnAs (first c) (all c))
    → Compares nodes old new path first result → Compares nodes old new path all result
compares_shown nodes old new path first all (Ok None) shown on says = absurd shown
compares_shown nodes old new path first all (Ok (Some numbers)) shown on says = λ so_far have.
    fails_further old.terms.map new path (first so_far) (all so_far) numbers (on so_far) (says so_far have)
compares_shown nodes old new path first all (Err stop) shown on says = λ so_far have place over.
    stops_further old.terms.map nodes new path (first so_far) (all so_far) place.word place.bit (on so_far)
    (says so_far have place over)

-- ---- one comparison after another

-- the same comparisons behind each list that the space has
pub compares_as : (nodes : ℕ) (old new : Space) (path : Function) (some all : Compared → Compared)
    (result : Result (Option Numbers) RunStop) → ((c : Compared) → c.list ≡ list_of_space old → all c ≡ some c)
    → Compares nodes old new path some result → Compares nodes old new path all result
compares_as nodes old new path some all result same says = λ so_far have.
    subst (λ (c : Compared). IsOutcome old.terms.map nodes new path c result) (sym (same so_far have.list))
    (says so_far have)

-- where the first shows nothing, what the second says from there on, along a path that agrees, the whole says
pub compares_then : (nodes : ℕ) (old mid new : Space) (path other : Function) (first second all : Compared → Compared)
    (result : Result (Option Numbers) RunStop) → mid.terms.map ≡ old.terms.map → Agree other path
    → ((c : Compared) → c.list ≡ list_of_space old → all c ≡ second (first c))
    → Compares nodes old mid path first (Ok None) → Compares nodes mid new other second result
    → Compares nodes old new path all result
compares_then nodes old mid new path other first second all result map agree splits none says =
    let same : other ≡ path = λ i given. agree given i in
    compares_as nodes old new path (λ c. second (first c)) all result splits (λ so_far have.
    subst (λ (p : Function). (c : Compared) → HaveCompared old.terms.map nodes mid p c
    → IsOutcome old.terms.map nodes new p (second c) result) same
    (subst (λ (m : List ℕ). (c : Compared) → HaveCompared m nodes mid other c
    → IsOutcome m nodes new other (second c) result) map says) (first so_far) (none so_far have))

-- two terms, compared where the list went on
pub compares_later : (nodes : ℕ) (old mid new : Space) (path : Function) (subject : Subject) (a b : ℕ)
    (all : Compared → Compared) (result : Result (Option Numbers) RunStop) → mid.terms.map ≡ old.terms.map
    → ((c : Compared) → c.list ≡ list_of_space old
    → all c ≡ with_comparison subject a b (compared_in (list_of_space mid) c.comparisons))
    → Compares nodes mid new path (with_comparison subject a b) result → Compares nodes old new path all result
compares_later nodes old mid new path subject a b all result map ends =
    compares_then nodes old mid new path path (λ c. compared_in (list_of_space mid) c.comparisons)
    (with_comparison subject a b) all result map (λ given. refl) ends
    (λ so_far have. record { list = refl; none = have.none; within = have.within })
