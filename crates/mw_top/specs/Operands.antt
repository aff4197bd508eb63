-- The words behind the command: the names of its files, or the number of a job.
use Rattle.std.specs.Prelude.{ℕ, List, [], ◌∷◌, string_bytes, map, length, ◌==◌, if◌then◌else◌, Option, Some, None}
use Rattle.std.specs.Prelude.{option_map, unwrap_or, codes}
use Rattle.clap.specs.Words.{Row, all_of}
use Rattle.mw_top.specs.declared.request.operands.Expected.{Expected}
use Rattle.mw_top.specs.declared.request.operands.Expected.TheVariants.{Files, JobNumber}
use Rattle.mw_top.specs.declared.request.operands.Operands.{Operands}
use Rattle.mw_top.specs.Options.{number_within}

-- how many files are expected
abbrev pub file_count : Expected → ℕ
file_count (Files count) = count
file_count JobNumber = 0

-- the words behind the command
abbrev pub words_in : List Row → List (List ℕ)
words_in matches = unwrap_or (all_of (codes "operands") matches) []

-- what they give: the names of files, and the number of a job, which is 0 where files are expected
pub record OperandsData : Type 0 where
  pub files : List (List ℕ)
  pub number : ℕ

-- operands with the bytes of their files' names
abbrev pub operands_data : Operands → OperandsData
operands_data operands = record { files = map string_bytes operands.files.items; number = operands.number }

-- the words as names of files, where there are so many
abbrev pub as_files : ℕ → List (List ℕ) → Option OperandsData
as_files count words = if length words == count then Some (record { files = words; number = 0 }) else None

-- the one word as the number of a job, 0 to 65,535
abbrev pub as_job_number : List (List ℕ) → Option OperandsData
as_job_number (word ∷ []) = option_map (λ number. record { files = []; number = number }) (number_within 0 65535 word)
as_job_number words = None

-- the words as what is expected
abbrev pub operands_of : Expected → List (List ℕ) → Option OperandsData
operands_of (Files count) words = as_files count words
operands_of JobNumber words = as_job_number words
