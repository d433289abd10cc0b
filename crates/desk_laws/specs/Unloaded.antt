-- Document 02, U7: a sector never loaded has the job (120, 0) and heard byte 0, and no matrix of its own waits. So its Run makes nothing, and its Fetch, by a role
-- that may fetch, is refused by 3, 7 or 8 alone and brings nothing in. Assumes nothing.
use Rattle.std.specs.Prelude.{◌≡◌, false, List, [], ℕ, zero, suc, ◌<◌, ℤ}
use Rattle.refusals.specs.Refusals.{first, buffer_test}
use Rattle.result_record.specs.ResultRecord.{result_bytes, result_test}
use Rattle.workspace.specs.Workspace.{workspace_test, R}
use Rattle.engine.specs.Fetch.{fetch_by}
use Rattle.desk.specs.Desk.{sector_count, unloaded_job, job_at_of, heard_at_of, waits_at_of}
use Rattle.desk.specs.Roles.{may_operate_of, may_fetch_of, role_test}
use Rattle.desk_laws.specs.Calls.{Lent, Call, run, fetch, Hub, new, lent_words, Answer, bare, answer, after, EachNoLoad}

-- a Run that makes nothing, by its number
abbrev pub ran_nothing : ℕ → List ℤ → Answer
ran_nothing zero l = record { number = 0; heard = 0; job = unloaded_job; count = 0; clamps-r = 0; clamps-q = 0; buffer = []; words = l }
ran_nothing (suc n) l = bare (suc n) [] l

pub record Unloaded (i : ℕ) (h : Hub) : Type 0 where
  pub job : job_at_of h.desk i ≡ unloaded_job
  pub heard : heard_at_of h.desk i ≡ 0
  pub waits : waits_at_of h.desk i ≡ false
  -- its Run is refused by 15 and 3 alone, whatever the request and whatever its count, and makes nothing
  pub run : (role request : ℕ) (lent : Lent)
      → (let l = lent_words (h.area i) lent in answer h (run role i request lent) ≡ ran_nothing (first (role_test (may_operate_of role)) (workspace_test l)) l)
  -- its Fetch is refused by 15, 3, 7 or 8 alone, and else writes the record of what the area holds
  pub fetch : (role : ℕ) (buffer : List ℕ) (lent : Lent)
      → (let l = lent_words (h.area i) lent in
      let n = first (role_test (may_fetch_of role)) (first (workspace_test l) (first (buffer_test result_bytes buffer) (result_test (R l)))) in
      answer h (fetch role i buffer lent) ≡ bare n (fetch_by n l buffer).buffer l)

abbrev pub NeverLoaded : Type 0
NeverLoaded = (i : ℕ) (areas : ℕ → List ℤ) (calls : List Call) → i < sector_count → EachNoLoad i (new areas) calls → Unloaded i (after (new areas) calls)
