-- How clauses see what the code keeps.
use Rattle.std.specs.Prelude.{map, reverse, option_map}
use Rattle.mw_base.specs.Named.{names_seen}
use Rattle.mw_expr.specs.Tree.{view}
use Rattle.mw_expr.specs.Written.{written}
use Rattle.mw_macro.specs.Statements.{act_of}
use Rattle.mw_descfile.specs.declared.declared as declarations
use Rattle.mw_descfile.specs.declared.expression as expressions
use Rattle.mw_descfile.specs.declared.machine.Known.{Known as Kept}
use Rattle.mw_descfile.specs.declared.machine.Known.TheVariants as kept
use Rattle.mw_descfile.specs.declared.said.Said.{Said as KeptSaid}
use Rattle.mw_descfile.specs.declared.said.Said.TheVariants as saids
use Rattle.mw_descfile.specs.declared.stated as statements
use Rattle.mw_descfile.specs.Declarations.{Elements, Declared}
use Rattle.mw_descfile.specs.Expressions.{Whole}
use Rattle.mw_descfile.specs.Machine.{Known, nothing, declaring, stating}
use Rattle.mw_descfile.specs.Statements.{Said, to_assign, to_write, to_put, to_take, to_choose, to_turn, to_end}
use Rattle.mw_descfile.specs.Stating.{Over, OpenIf, Stated}

-- an expression without a fault
abbrev pub whole_seen : expressions.Whole.Whole → Whole
whole_seen whole = record { tree = view whole.expr; left = whole.left }

-- registers, or temporaries
abbrev pub elements_seen : declarations.Elements.Elements → Elements
elements_seen all = record { names = all.names.items; widths = all.widths.items }

-- what is declared
abbrev pub declared_seen : declarations.Declared.Declared → Declared
declared_seen d = record {
  names = names_seen d.names;
  address = d.address;
  word = d.word;
  registers = elements_seen d.registers;
  temporaries = elements_seen d.temporaries;
}

-- what a line of statements says
abbrev pub said_seen : KeptSaid → Said
said_seen (saids.Assign name sign value) = to_assign name sign (written value)
said_seen (saids.Write word address sign value) = to_write word (written address) sign (written value)
said_seen (saids.Put word value) = to_put word (written value)
said_seen (saids.Take word name) = to_take word name
said_seen (saids.If word condition) = to_choose word (written condition)
said_seen saids.Else = to_turn
said_seen saids.End = to_end

-- what statements are over
abbrev pub over_seen : statements.Over.Over → Over
over_seen over = record {
  names = names_seen over.names;
  registers = over.registers;
  elements =
      over.elements;
  scope = over.scope;
}

-- an open `if`
abbrev pub open_seen : statements.OpenIf.OpenIf → OpenIf
open_seen o = record {
  condition = view o.condition;
  before = map act_of o.before.items;
  first =
      option_map (λ acts. map act_of acts.items) o.first;
}

-- what is stated, the innermost open `if` first
abbrev pub stated_seen : statements.Stated.Stated → Stated
stated_seen s = record {
  over = over_seen s.over;
  statements_left = s.statements_left;
  reads_left = s.reads_left;
  acts = map act_of s.acts.items;
  open_ifs = reverse (map open_seen s.open_ifs.items);
}

-- what is known after some lines
abbrev pub known_seen : Kept → Known
known_seen kept.Nothing = nothing
known_seen (kept.Declaring d) = declaring (declared_seen d)
known_seen (kept.Stating s) = stating (stated_seen s)
