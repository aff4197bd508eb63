-- What the words of a command line ask for.
use Rattle.std.specs.Prelude.{◌≡◌, ℕ, List, [], ◌∷◌, codes, string_bytes, map, length, find, Bool, true, false, Option}
use Rattle.std.specs.Prelude.{Some, None, option_and_then}
use Rattle.std.specs.List.{list_any}
use Rattle.std.specs.Str.{bytes_eq}
use Rattle.clap.specs.Kinds.{Kinds}
use Rattle.clap.specs.Words.{Row, fault_of, first_of, matches_of}
use Rattle.mw_plan.specs.Files.{FilesRead}
use Rattle.mw_top.specs.declared.commands.Task.{Task}
use Rattle.mw_top.specs.declared.commands.Task.TheVariants as tasks
use Rattle.mw_top.specs.declared.request.Command.{Command}
use Rattle.mw_top.specs.declared.request.Command.TheVariants.{Asm, Bounds, Certify, Compare, Debug, Equal, Generate}
use Rattle.mw_top.specs.declared.request.Command.TheVariants.{Pal, Replay, Run, Upgrade}
use Rattle.mw_top.specs.declared.request.Request.{Request}
use Rattle.mw_top.specs.declared.request.operands.Expected.{Expected}
use Rattle.mw_top.specs.declared.request.operands.Expected.TheVariants.{Files, JobNumber}
use Rattle.mw_top.specs.declared.request.options.Number.{Number}
use Rattle.mw_top.specs.declared.request.options.Number.TheVariants.{Nodes, Paths, Steps, Cycles}
use Rattle.mw_top.specs.declared.request.options.Options.{Options}
use Rattle.mw_top.specs.Line.{line}
use Rattle.mw_top.specs.Operands.{OperandsData, file_count, operands_of, words_in}
use Rattle.mw_top.specs.Options.{limit_of, option_number, is_true, parts_of, options_from}

-- A command, the names of its files in the order of the words, the number of a job, and the options. An option that
-- isn't the command's own stands as it does where no line gives it, and the number as 0.
pub record RequestData : Type 0 where
  pub command : Command
  pub files : List (List ℕ)
  pub number : ℕ
  pub nodes : ℕ
  pub paths : ℕ
  pub steps : ℕ
  pub cycles : ℕ
  pub parts : Bool

-- a request with the bytes of its files' names
abbrev pub data_of : Request → RequestData
data_of request = record {
  command = request.command;
  files = map string_bytes request.files.items;
  number = request.number;
  nodes = request.nodes;
  paths = request.paths;
  steps = request.steps;
  cycles = request.cycles;
  parts = request.parts;
}

-- the files of a request, of the first so many of which these are the contents
abbrev pub files_of : RequestData → List (List ℕ) → FilesRead
files_of request contents = record { names = request.files; contents = contents }

-- the word that stands for a command, what it does, and which options are its own
pub record CommandRow : Type 0 where
  pub word : List ℕ
  pub task : Task
  pub numbers : List Number
  pub parts : Bool

-- the row of each command
abbrev pub row_of : Command → CommandRow
row_of Compare = record { word = codes "compare"; task = tasks.Comparison; numbers = Steps ∷ []; parts = true }
row_of Asm = record { word = codes "asm"; task = tasks.Assembly; numbers = []; parts = false }
row_of Run = record { word = codes "run"; task = tasks.Run; numbers = Cycles ∷ []; parts = true }
row_of Debug = record { word = codes "debug"; task = tasks.Trace; numbers = []; parts = false }
row_of Equal = record { word = codes "equal"; task = tasks.Question; numbers = Nodes ∷ []; parts = false }
row_of Certify =
    record { word = codes "certify"; task = tasks.Certification; numbers = Nodes ∷ Paths ∷ []; parts = false }
row_of Bounds = record { word = codes "bounds"; task = tasks.Bounds; numbers = Nodes ∷ Paths ∷ []; parts = false }
row_of Replay = record { word = codes "replay"; task = tasks.Comparison; numbers = []; parts = false }
row_of Generate =
    record { word = codes "generate"; task = tasks.Generation; numbers = Nodes ∷ Paths ∷ []; parts = false }
row_of Upgrade = record { word = codes "upgrade"; task = tasks.Upgrade; numbers = []; parts = false }
row_of Pal = record { word = codes "pal"; task = tasks.Console; numbers = Steps ∷ []; parts = false }

-- what the command of a request does
abbrev pub task_of : RequestData → Task
task_of request = (row_of request.command).task

-- what is expected behind a command of a task
abbrev pub expected_by : Task → Expected
expected_by tasks.Comparison = Files 5
expected_by tasks.Assembly = Files 2
expected_by tasks.Run = Files 3
expected_by tasks.Trace = Files 4
expected_by tasks.Question = Files 1
expected_by tasks.Certification = Files 4
expected_by tasks.Bounds = Files 4
expected_by tasks.Upgrade = Files 1
expected_by tasks.Console = Files 6
expected_by tasks.Generation = JobNumber

-- the commands
abbrev pub commands : List Command
commands = Compare ∷ Asm ∷ Run ∷ Debug ∷ Equal ∷ Certify ∷ Bounds ∷ Replay ∷ Generate ∷ Upgrade ∷ Pal ∷ []

-- the command of a word
abbrev pub command_of : List ℕ → Option Command
command_of word = find (λ command. bytes_eq word (row_of command).word) commands

-- the two options are one
abbrev pub same_number : Number → Number → Bool
same_number Nodes Nodes = true
same_number Paths Paths = true
same_number Steps Steps = true
same_number Cycles Cycles = true
same_number _ _ = false

-- the number of an option, which is read where it is the command's own
abbrev pub number_in : Command → List Row → Number → Option ℕ
number_in command matches number = option_number (limit_of number).most (limit_of number).otherwise
    (list_any (λ own. same_number own number) (row_of command).numbers) (first_of (limit_of number).name matches)

-- the options of a command; nothing where one isn't its own, or isn't a number in its range
abbrev pub options_in : Command → List Row → Option Options
options_in command matches = options_from
    (number_in command matches Nodes) (number_in command matches Paths)
    (number_in command matches Steps) (number_in command matches Cycles)
    (parts_of (row_of command).parts (is_true (first_of (codes "parts") matches)))

-- the command with what stands behind it and with its options, where both are its own
abbrev pub with_options : Command → Option OperandsData → Option Options → Option RequestData
with_options command (Some operands) (Some options) = Some (record {
  command = command;
  files = operands.files;
  number = operands.number;
  nodes = options.nodes;
  paths = options.paths;
  steps = options.steps;
  cycles = options.cycles;
  parts = options.parts;
})
with_options command _ _ = None

-- the command that the line names
abbrev pub command_in : List Row → Option Command
command_in matches = option_and_then command_of (first_of (codes "command") matches)

-- the request of a command, where there is one
abbrev pub with_command : Option Command → List Row → Option RequestData
with_command None matches = None
with_command (Some command) matches =
    with_options command (operands_of (expected_by (row_of command).task) (words_in matches))
    (options_in command matches)

-- the request of the matches of a line
abbrev pub request_in : List Row → Option RequestData
request_in matches = with_command (command_in matches) matches

-- the same, where `clap` has no fault in the line
abbrev pub unless_refused : Kinds → List Row → Option RequestData
unless_refused [] matches = request_in matches
unless_refused (kind ∷ kinds) matches = None

-- the request of the words, without the program's name; nothing where they are no request
unfoldable pub request_of : List (List ℕ) → Option RequestData
request_of words = unless_refused (fault_of line words) (matches_of line words)

-- a request has as many files as its command
abbrev pub HasItsFiles : Request → Type 0
HasItsFiles request = length request.files.items ≡ file_count (expected_by (row_of request.command).task)

-- a command with its files, where the line gives no option
abbrev pub plainly : Command → List (List ℕ) → RequestData
plainly command files = record {
  command = command;
  files = files;
  number = 0;
  nodes = 1000000;
  paths = 4096;
  steps = 1;
  cycles = 1000;
  parts = false;
}
