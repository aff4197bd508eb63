-- How clauses see what the code keeps.
use Rattle.mw_base.specs.Named.{names_seen}
use Rattle.mw_asm.specs.declared.first_pass as passes
use Rattle.mw_asm.specs.FirstPass.{Known}

-- what is known after some lines
abbrev pub known_seen : passes.Known.Known → Known
known_seen known = record {
  names = names_seen known.names;
  next = known.next;
  used = known.used.items;
  words = known.words.items;
  labels = known.labels.items;
}
