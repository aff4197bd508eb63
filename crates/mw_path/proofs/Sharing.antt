-- What was written stands in a shared table: at first nothing does, and what does goes on to.
use Rattle.std.proofs.Common.{◌≡◌, ℕ, List, [], ap, arith, subst, sym, ◌∙◌}
use Rattle.mw_term.specs.Standing.{StandsIn}
use Rattle.mw_term.specs.Table.{Extends, Table, table_of}
use Rattle.mw_term.specs.Values.{Keeps}
use Rattle.mw_term.proofs.Standing.{stands_with_more}
use Rattle.mw_dd.specs.Nodes.{Node}
use Rattle.mw_blast.specs.declared.shared.Shared.{Shared}
use Rattle.mw_blast.specs.Kept.{IsOf}
use Rattle.mw_blast.specs.Shared.{IsShared}

none_stands : (w t : Table) → t.map ≡ w.map → StandsIn w t []
none_stands w t same = record {
  map = same;
  few = omega arith;
  at = λ term place is. absurd cc;
  ops = λ term place op is. absurd cc;
}

-- no place yet, in a table of the same map
pub shared_at_first : (w : Table) (map places : List ℕ) (shared : Shared) (nodes : List Node)
    → shared.terms ≡ table_of [] map → IsOf shared.terms nodes shared.blast → places ≡ [] → w.map ≡ map
    → IsShared w shared places nodes
shared_at_first w map places shared nodes terms bits none same = record {
  stands = subst (StandsIn w shared.terms) (sym none)
      (none_stands w shared.terms (ap (λ (t : Table). t.map) terms ∙ sym same));
  bits = bits;
}

-- more is written
pub shared_with_more : (old new : Table) (places : List ℕ) (shared : Shared) (nodes : List Node) → Extends old new
    → Keeps old new → IsShared old shared places nodes → IsShared new shared places nodes
shared_with_more old new places shared nodes extends keeps share = record {
  stands = stands_with_more old new shared.terms places extends keeps share.stands;
  bits = share.bits;
}
