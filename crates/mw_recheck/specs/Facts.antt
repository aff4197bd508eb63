-- Facts of a log: node R is G where F holds, else H.
use Rattle.std.specs.Prelude.{ℕ, List, Bool, true, false, ◌&&◌, ◌||◌, ◌==◌, nat_lt, if◌then◌else◌}
use Rattle.std.specs.Prelude.{Option, Some, None}
use Rattle.std.specs.List.{fold}
use Rattle.std.specs.Map.{update}
use Rattle.std.specs.HashMap.{get}
use Rattle.std.specs.Option.{option_or, option_map}
use Rattle.mw_term.specs.Cofactors.{Variable, is_before}
use Rattle.mw_term.specs.Functions.{Function, ite, made}
use Rattle.mw_recheck.specs.declared.facts as kept
use Rattle.mw_recheck.specs.declared.line.LogLine.{LogLine}
use Rattle.mw_recheck.specs.declared.line.LogLine.TheVariants as says
use Rattle.mw_recheck.specs.declared.line.Node.{Node}
use Rattle.mw_recheck.specs.declared.line.Triple.{Triple}
use Rattle.mw_recheck.specs.Nodes.{variable_of, is_variable, count, node_at, function_of}

-- the triple of these nodes
abbrev pub triple : (f g h : ℕ) → Triple
triple f g h = record { f = f; g = g; h = h }

-- the line that states the result of a triple
abbrev pub fact_line : Triple → ℕ → LogLine
fact_line t r = says.Fact t.f t.g t.h r

-- two triples are one
abbrev pub is_triple : (t u : Triple) → Bool
is_triple t u = (t.f == u.f) && ((t.g == u.g) && (t.h == u.h))

-- the function that a triple chooses
abbrev pub chosen : List Node → Triple → Function
chosen nodes t = made (ite (function_of nodes t.f) (function_of nodes t.g) (function_of nodes t.h))

-- ---- the results that lines give

-- what triples have as result
abbrev pub Facts : Type 0
Facts = Triple → Option ℕ

-- no result
abbrev pub no_facts : Facts
no_facts t = None

-- with one fact more
abbrev pub with_fact : Facts → Triple → ℕ → Facts
with_fact facts t r = update is_triple facts t (Some r)

-- with what a line says
abbrev pub with_line : Facts → LogLine → Facts
with_line facts (says.Node word bit high low) = facts
with_line facts (says.Fact f g h r) = with_fact facts (triple f g h) r

-- The result that the facts among lines give to a triple. Where several speak of it, they give the same.
unfoldable pub facts_of : List LogLine → Facts
facts_of lines = fold with_line no_facts lines

-- the facts that the code keeps
abbrev pub facts_seen : kept.Facts.Facts → Facts
facts_seen facts = λ t. get is_triple facts.results t

-- ---- when a fact follows

-- the result that a triple has at once: h where f is false, g where f is true, and g where g is h
unfoldable pub at_once : Triple → Option ℕ
at_once t =
    if t.f == 0 then Some t.h
    else (if t.f == 1 then Some t.g
    else (if t.g == t.h then Some t.g
    else None))

-- the result of a triple, at once or by an earlier fact
abbrev pub result_of : Facts → Triple → Option ℕ
result_of facts t = option_or (at_once t) (facts t)

-- the earlier of two variables, where there is one
abbrev pub earlier : Option Variable → Option Variable → Option Variable
earlier None u = u
earlier (Some v) None = Some v
earlier (Some v) (Some u) = if is_before u v then Some u else Some v

-- the variable of a node; a constant has none
abbrev pub own_variable : List Node → ℕ → Option Variable
own_variable nodes x = option_map variable_of (node_at nodes x)

-- the first variable of three nodes
unfoldable pub first_variable : List Node → Triple → Option Variable
first_variable nodes t =
    earlier (own_variable nodes t.f) (earlier (own_variable nodes t.g) (own_variable nodes t.h))

-- what a node chooses where a variable has a value, if the variable is its own
abbrev pub half_of : Variable → Bool → ℕ → Option Node → ℕ
half_of v value x None = x
half_of v value x (Some n) = if is_variable v (variable_of n) then (if value then n.high else n.low) else x

-- a node where the first variable has a value
abbrev pub half : List Node → Variable → Bool → ℕ → ℕ
half nodes v value x = half_of v value x (node_at nodes x)

-- a triple where its first variable has a value
unfoldable pub halves : List Node → Variable → Bool → Triple → Triple
halves nodes v value t = triple (half nodes v value t.f) (half nodes v value t.g) (half nodes v value t.h)

-- a node is there, of this variable, and chooses these two
abbrev pub chooses : Variable → (high low : ℕ) → Option Node → Bool
chooses v high low None = false
chooses v high low (Some n) = is_variable v (variable_of n) && ((n.high == high) && (n.low == low))

-- a node is that of a variable with the results of both halves, or both are this node
abbrev pub joins : List Node → Variable → ℕ → Option ℕ → Option ℕ → Bool
joins nodes v r (Some a) (Some b) = chooses v a b (node_at nodes r) || ((a == r) && (b == r))
joins nodes v r (Some a) None = false
joins nodes v r None b = false

-- a result follows from those of the halves by the first variable
abbrev pub follows_by : List Node → Facts → Triple → ℕ → Option Variable → Bool
follows_by nodes facts t r None = false
follows_by nodes facts t r (Some v) =
    joins nodes v r (result_of facts (halves nodes v true t)) (result_of facts (halves nodes v false t))

-- it is this node
abbrev pub is_result : ℕ → Option ℕ → Bool
is_result r None = false
is_result r (Some a) = a == r

-- A fact follows: its triple has the result at once, or by the results of its halves.
unfoldable pub follows : List Node → Facts → Triple → ℕ → Bool
follows nodes facts t r =
    is_result r (at_once t) || follows_by nodes facts t r (first_variable nodes t)

-- the four nodes that a fact names are there
unfoldable pub are_there : List Node → Triple → ℕ → Bool
are_there nodes t r =
    nat_lt t.f (count nodes) && (nat_lt t.g (count nodes) && (nat_lt t.h (count nodes) && nat_lt r (count nodes)))

-- A fact keeps the rule behind these nodes and facts: the nodes that it names are there, and it follows.
abbrev pub is_new_fact : List Node → Facts → Triple → ℕ → Bool
is_new_fact nodes facts t r = are_there nodes t r && follows nodes facts t r
