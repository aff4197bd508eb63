-- The command line as one simple command of `clap`, without help and version flags.
use Rattle.std.specs.Prelude.{Some, codes, true}
use Rattle.clap.specs.Lexer.{usize_max}
use Rattle.clap.specs.Simple.{on_top}
use Rattle.clap.specs.Words.{App, Rule, Text, new_app, new_rule, with_rule}
use Rattle.clap.specs.declared.builder.action.ArgAction.TheVariants.{Set, SetTrue, Append}

-- the word of the command, which has to be there
abbrev pub command_rule : Rule
command_rule = record (new_rule (codes "command")) { required = true; action = Some Set }

-- the words behind the command, as many as there are
abbrev pub operands_rule : Rule
operands_rule = record (new_rule (codes "operands")) {
  action = Some Append;
  range = Some (record { start_inclusive = 0; end_inclusive = usize_max });
}

-- an option with one value, as text
abbrev pub option_rule : Text → Rule
option_rule name = record (new_rule name) { long = Some name; action = Some Set }

-- a flag
abbrev pub flag_rule : Text → Rule
flag_rule name = record (new_rule name) { long = Some name; action = Some SetTrue }

-- a command whose words have no program name, and which has no help and no version flag
abbrev pub bare : App → App
bare app = on_top (λ shape. record shape {
  no_binary_name = true;
  disable_help_flag = true;
  disable_version_flag = true;
}) app

-- the whole line
unfoldable pub line : App
line =
    let words = with_rule (with_rule (bare (new_app (codes "mw_bench"))) command_rule) operands_rule in
    let budgets = with_rule (with_rule words (option_rule (codes "nodes"))) (option_rule (codes "paths")) in
    let lengths = with_rule (with_rule budgets (option_rule (codes "steps"))) (option_rule (codes "cycles")) in
    with_rule lengths (flag_rule (codes "parts"))
