-- Load: what it answers and what it leaves in the workspace, on all inputs. Assumes nothing.
use Rattle.std.specs.Prelude.{ℕ, zero, suc, List, ℤ, Result, Ok, Err}
use Rattle.refusals.specs.Refusals.{first, header_test}
use Rattle.refusals.specs.declared.Refusal.{Refusal}
use Rattle.refusals.specs.Outcomes.{number_of}
use Rattle.matrix_record.specs.MatrixRecord.{matrix_tag, matrix_bytes, matrix_test, heard_byte_of}
use Rattle.workspace.specs.Workspace.{workspace_test}
use Rattle.workspace.specs.Loading.{loaded_words}
use Rattle.engine.specs.Job.{loaded_job, no_job}
use Rattle.engine.specs.declared.load.Loaded.{Loaded}
use Rattle.engine.specs.declared.load.LoadReply.{LoadReply}

pub record LoadOutcome : Type 0 where
  pub reply : LoadReply
  pub workspace : List ℤ

-- the reply of an outcome: its values, or the refusal's number alone
abbrev pub load_reply : Result Loaded Refusal → LoadReply
load_reply (Ok loaded) = record { number = 0; heard = loaded.heard; job = loaded.job }
load_reply (Err refusal) = record { number = number_of refusal; heard = 0; job = no_job }

-- tests 1, 2, 3, 4
unfoldable pub load_refusal_of : List ℕ → List ℤ → ℕ
load_refusal_of rec workspace = first (header_test matrix_tag matrix_bytes rec) (first (workspace_test workspace) (matrix_test rec))

-- by that number. The workspace is filled, and the heard byte and the job (0, 0) are answered; a refusal answers its number alone, other fields 0, and
-- changes nothing
unfoldable pub load_by : ℕ → List ℕ → List ℤ → LoadOutcome
load_by zero rec workspace = record { reply = record { number = 0; heard = heard_byte_of rec; job = loaded_job }; workspace = loaded_words rec workspace }
load_by (suc n) rec workspace = record { reply = record { number = suc n; heard = 0; job = no_job }; workspace = workspace }

unfoldable pub load_of : List ℕ → List ℤ → LoadOutcome
load_of rec workspace = load_by (load_refusal_of rec workspace) rec workspace
