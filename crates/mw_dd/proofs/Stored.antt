-- Nodes as they are kept, and one more.
use Rattle.std.proofs.Common.{◌≡◌, inl, inr, ℕ, suc, ◌<◌, List, [], ◌∷◌, ◌++◌, length, get_or}
use Rattle.std.proofs.Common.{Option, option_map, refl, ap, ap₂, ◌∙◌, sym, subst, arith}
use Rattle.std.specs.Prelude.{slice_get, Some}
use Rattle.std.proofs.lemmas.List.{get_or_append_left, length-append, length-map}
use Rattle.std.proofs.lemmas.Option.{same_Some, slice_get_cases, slice_get-map, slice_get-get_or, slice_get_within}
use Rattle.std.proofs.lemmas.Option.{get_or_from_slice_get}
use Rattle.mw_term.specs.Cofactors.{Variable, variable}
use Rattle.mw_dd.specs.declared.nodes.Node.{Node}
use Rattle.mw_dd.specs.declared.unique_table.Stored.{Stored}
use Rattle.mw_dd.specs.Links.{IsAbsent}
use Rattle.mw_dd.specs.Stored.{node_of, nodes_of, AreKnown, HasAdded}
use Rattle.mw_dd.proofs.Lists.{get-push}

-- how a node is kept whose variable has this index
abbrev pub stored_as : (index : ℕ) → Node → Stored
stored_as index n = record { index = index; low = n.low; high = n.high }

-- a node with this variable in place of its own
abbrev with_variable : Variable → Node → Node
with_variable v n = record { variable = v; low = n.low; high = n.high }

-- where a node is kept at a place, it is the node there
pub found : (variables : List Variable) (stored : List Stored) (index place : ℕ) (n : Node)
    → slice_get variables index ≡ Some n.variable → slice_get stored place ≡ Some (stored_as index n)
    → slice_get (nodes_of variables stored) place ≡ Some n
found variables stored index place n is at =
    slice_get-map (node_of variables) stored place
    ∙ ap (λ (o : Option Stored). option_map (node_of variables) o) at
    ∙ ap (λ (v : Variable). Some (with_variable v n)) (get_or_from_slice_get variables index n.variable (variable 0 0) is)

module _ (variables : List Variable) (stored : List Stored) (are : AreKnown variables stored) where
  -- a node of the list is kept with the index of its variable
  origin : (i : ℕ) (n : Node) → slice_get (nodes_of variables stored) i ≡ Some n
      → (s : Stored) × (slice_get stored i ≡ Some s) × (slice_get variables s.index ≡ Some n.variable)
      × (s ≡ stored_as s.index n)
  origin i n at = elim (slice_get_cases stored i).1 [
    | inl there ↦
        let s = there.0 in
        let same : node_of variables s ≡ n = same_Some (node_of variables s) n
        (sym (slice_get-map (node_of variables) stored i
        ∙ ap (λ (o : Option Stored). option_map (node_of variables) o) there.2) ∙ at) in (
          s,
          there.2,
          slice_get-get_or variables s.index (variable 0 0) (are.within i s there.2)
              ∙ ap (λ (m : Node). Some m.variable) same,
          ap (λ (m : Node). stored_as s.index m) same,
        )
    | inr past ↦
        absurd (omega (
          arith,
          past.0,
          slice_get_within (nodes_of variables stored) i n at,
          length-map stored (node_of variables),
        ))
  ]

  -- none is there whose variable isn't
  pub absent_variable : (n : Node) → IsAbsent variables n.variable → IsAbsent (nodes_of variables stored) n
  absent_variable n none i at = let from = origin i n at in none from.0.index from.2

  -- nor one that isn't kept with the index of its variable
  pub absent_stored : (index : ℕ) (n : Node) → slice_get variables index ≡ Some n.variable
      → IsAbsent stored (stored_as index n) → IsAbsent (nodes_of variables stored) n
  absent_stored index n is none i at =
      let from = origin i n at in
      let same : from.0.index ≡ index = are.once from.0.index index n.variable from.2 is in
      none i (from.1 ∙ ap Some (from.3 ∙ ap (λ (k : ℕ). stored_as k n) same))

  -- ---- a variable more

  module _ (new : List Variable) (v : Variable) where
    same_node : HasAdded variables new v → (s : Stored) → s.index < length variables
        → node_of new s ≡ node_of variables s
    same_node (inl same) s within = ap (λ (vs : List Variable). node_of vs s) same
    same_node (inr more) s within =
        ap (λ (u : Variable). record { variable = u; low = s.low; high = s.high })
        (ap (λ (vs : List Variable). get_or vs s.index (variable 0 0)) more.0
        ∙ get_or_append_left variables (v ∷ []) (variable 0 0) s.index within)

    pub known-more : HasAdded variables new v → AreKnown new stored
    known-more (inl same) = subst (λ (vs : List Variable). AreKnown vs stored) (sym same) are
    known-more (inr more) = rw more.0 (record {
      within = λ k s at.
          let before = are.within k s at in
          let one = length-append variables (v ∷ []) in
          omega (arith, before, one);
      once = λ i j u at of. elim (get-push variables v i u at) [
        | inl old ↦ elim (get-push variables v j u of) [
          | inl also ↦ are.once i j u old also
          | inr last ↦ absurd (more.1 i (old ∙ ap Some (sym last.1)))
        ]
        | inr last ↦ elim (get-push variables v j u of) [
          | inl old ↦ absurd (more.1 j (old ∙ ap Some (sym last.1)))
          | inr also ↦ omega (arith, last.0, also.0)
        ]
      ];
    })

  all_same : (new : List Variable) (v : Variable) → HasAdded variables new v → (rest : List Stored)
      → ((k : ℕ) (s : Stored) → slice_get rest k ≡ Some s → s.index < length variables)
      → nodes_of new rest ≡ nodes_of variables rest
  all_same new v more [] within = refl
  all_same new v more (s ∷ rest) within =
      ap₂ (λ (n : Node) (ns : List Node). n ∷ ns) (same_node new v more s (within 0 s refl))
      (all_same new v more rest (λ k u at. within (suc k) u at))

  pub nodes-more : (new : List Variable) (v : Variable) → HasAdded variables new v
      → nodes_of new stored ≡ nodes_of variables stored
  nodes-more new v more = all_same new v more stored are.within

-- ---- a node more

pub known-push : (variables : List Variable) (stored : List Stored) (s : Stored) (v : Variable)
    → AreKnown variables stored → slice_get variables s.index ≡ Some v → AreKnown variables (stored ++ s ∷ [])
known-push variables stored s v are is = record {
  within = λ k u at. elim (get-push stored s k u at) [
    | inl old ↦ are.within k u old
    | inr last ↦ subst (λ (w : Stored). w.index < length variables) last.1
        (slice_get_within variables s.index v is)
  ];
  once = are.once;
}

pub nodes-push : (variables : List Variable) (stored : List Stored) (index : ℕ) (n : Node)
    → slice_get variables index ≡ Some n.variable
    → nodes_of variables (stored ++ stored_as index n ∷ []) ≡ nodes_of variables stored ++ n ∷ []
nodes-push variables [] index n is =
    ap (λ (v : Variable). record { variable = v; low = n.low; high = n.high } ∷ [])
    (get_or_from_slice_get variables index n.variable (variable 0 0) is)
nodes-push variables (s ∷ rest) index n is =
    ap (λ (ns : List Node). node_of variables s ∷ ns) (nodes-push variables rest index n is)
