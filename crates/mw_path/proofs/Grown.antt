-- What was made grows, and grows on.
use Rattle.std.proofs.Common.{length, refl, ◌∙◌, arith}
use Rattle.std.proofs.lemmas.List.{take_all}
use Rattle.mw_dd.specs.Diagrams.{Keeps}
use Rattle.mw_blast.specs.Shared.{GrowsInTable}
use Rattle.mw_blast.proofs.Bits.{keeps-itself, keeps-then}
use Rattle.mw_symmem.proofs.Growth.{extends_then, keeps_then}
use Rattle.mw_path.specs.declared.paths.Paths.{Paths}
use Rattle.mw_path.specs.Paths.{HaveGrown, StayOnPath}

-- ---- it grows

pub grown_itself : (made : Paths) → HaveGrown made made
grown_itself made =
    let t = made.shared.terms in
    record {
      nodes = keeps-itself made.dds;
      extends = record { map = refl; more = omega arith; ops = take_all (length t.ops) t.ops (omega arith) };
      terms = record { widths = λ term inside. refl; values = λ given term inside. refl };
    }

pub grown_then : (a b c : Paths) → HaveGrown a b → HaveGrown b c → HaveGrown a c
grown_then a b c first second = record {
  nodes = keeps-then a.dds b.dds c.dds first.nodes second.nodes;
  extends = extends_then a.shared.terms b.shared.terms c.shared.terms first.extends second.extends;
  terms = keeps_then a.shared.terms b.shared.terms c.shared.terms first.extends.more first.terms second.terms;
}

-- in one call of the shared table
pub grown_in_table : (old new : Paths) → GrowsInTable old.shared.terms new.shared.terms old.places new.places
    → Keeps old.dds new.dds → HaveGrown old new
grown_in_table old new more keeps = record { nodes = keeps; extends = more.extends; terms = more.keeps }

-- ---- and the path is the same

pub stays_itself : (made : Paths) → StayOnPath made made
stays_itself made = record { grown = grown_itself made; path = refl }

pub stays_then : (a b c : Paths) → StayOnPath a b → StayOnPath b c → StayOnPath a c
stays_then a b c first second = record {
  grown = grown_then a b c first.grown second.grown;
  path = second.path ∙ first.path;
}
