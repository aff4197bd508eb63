-- The words ask for a task.
use Rattle.std.specs.Prelude.{◌≡◌, Some}
use Rattle.mw_top.specs.declared.commands.Task.{Task}
use Rattle.mw_top.specs.Call.{Call}
use Rattle.mw_top.specs.Request.{RequestData, request_of, task_of}

-- the words are a request of a command of this task
pub record AsksFor (task : Task) (call : Call) : Type 0 where
  pub request : RequestData
  pub requested : request_of call.words ≡ Some request
  pub task_is : task_of request ≡ task
