-- Fetch: what it answers and what it leaves in the buffer, on all inputs. Assumes nothing.
use Rattle.std.specs.Prelude.{ℕ, zero, suc, List, ℤ}
use Rattle.lists.specs.Lists.{filled}
use Rattle.refusals.specs.Refusals.{first, buffer_test}
use Rattle.result_record.specs.ResultRecord.{result_bytes, result_byte, result_test}
use Rattle.workspace.specs.Workspace.{workspace_test, R, Q}
use Rattle.engine.specs.Job.{job_test, end_test}
use Rattle.engine.specs.declared.job.Job.{Job}

-- the number is all that Fetch answers
pub record FetchOutcome : Type 0 where
  pub number : ℕ
  pub buffer : List ℕ

-- tests 3, 5, 6, 7, 8
unfoldable pub fetch_refusal_of : Job → List ℤ → List ℕ → ℕ
fetch_refusal_of job workspace buffer =
    first (workspace_test workspace) (first (job_test job) (first (end_test job) (first (buffer_test result_bytes buffer) (result_test (R workspace)))))

-- by that number. The first 2,049 bytes become the record of R and Q, the rest is as before; a refusal changes nothing
unfoldable pub fetch_by : ℕ → List ℤ → List ℕ → FetchOutcome
fetch_by zero workspace buffer = record { number = 0; buffer = filled result_bytes (result_byte (R workspace) (Q workspace)) buffer }
fetch_by (suc n) workspace buffer = record { number = suc n; buffer = buffer }

unfoldable pub fetch_of : Job → List ℤ → List ℕ → FetchOutcome
fetch_of job workspace buffer = fetch_by (fetch_refusal_of job workspace buffer) workspace buffer
