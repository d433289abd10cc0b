-- Read: what it answers and what it leaves in the workspace, on all inputs. Assumes nothing.
use Rattle.std.specs.Prelude.{ℕ, zero, suc, List, ℤ, Result, Ok, Err}
use Rattle.refusals.specs.Refusals.{first, header_test}
use Rattle.refusals.specs.declared.Refusal.{Refusal}
use Rattle.refusals.specs.Outcomes.{number_of}
use Rattle.result_record.specs.ResultRecord.{result_tag, result_bytes, result_test, record_r}
use Rattle.workspace.specs.Workspace.{workspace_test}
use Rattle.workspace.specs.Reading.{read_words}
use Rattle.engine.specs.Job.{read_job, no_job}
use Rattle.engine.specs.declared.job.Job.{Job}
use Rattle.engine.specs.declared.read.ReadReply.{ReadReply}

pub record ReadOutcome : Type 0 where
  pub reply : ReadReply
  pub workspace : List ℤ

-- the reply of an outcome: its job, or the refusal's number alone
abbrev pub read_reply : Result Job Refusal → ReadReply
read_reply (Ok job) = record { number = 0; job = job }
read_reply (Err refusal) = record { number = number_of refusal; job = no_job }

-- tests 1, 2, 3, 8
unfoldable pub read_refusal_of : List ℕ → List ℤ → ℕ
read_refusal_of rec workspace = first (header_test result_tag result_bytes rec) (first (workspace_test workspace) (result_test (record_r rec)))

-- by that number. The workspace is filled, and the job (120, 0) is answered; a refusal answers its number alone, other fields 0, and changes nothing
unfoldable pub read_by : ℕ → List ℕ → List ℤ → ReadOutcome
read_by zero rec workspace = record { reply = record { number = 0; job = read_job }; workspace = read_words rec workspace }
read_by (suc n) rec workspace = record { reply = record { number = suc n; job = no_job }; workspace = workspace }

unfoldable pub read_of : List ℕ → List ℤ → ReadOutcome
read_of rec workspace = read_by (read_refusal_of rec workspace) rec workspace
