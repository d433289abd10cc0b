-- Document 02, U7 and U10 to U12: 15 ahead of all other numbers, 12 ahead of all but 15, 13 after 5 and by the sector's own count, 14 above 120 in total, and
-- what stands beside them, as one table with one statement over all its rows, computed from the definitions that the contracts cite. On each of these desks
-- every sector has the same job, in some rows one that no call answers, such as (5, 6). Where it can, a refused row fails the tests that follow as well. Assumes
-- nothing.
use Rattle.std.specs.Prelude.{◌≡◌, refl, List, [], ◌∷◌, ◌++◌, ℕ, ◌*◌, pos, replicate, set}
use Rattle.integers.specs.Sum.{total}
use Rattle.refusals.specs.Refusals.{header_test}
use Rattle.lists.specs.Lists.{all_below}
use Rattle.matrix_record.specs.MatrixRecord.{matrix_bytes, part_of, antenna_heard_of, heard_below}
use Rattle.result_record.specs.ResultRecord.{is_finished_at, is_finished}
use Rattle.workspace.specs.Workspace.{word_in, R}
use Rattle.engine.specs.declared.job.Job.{Job}
use Rattle.engine.specs.Job.{job_test}
use Rattle.engine.specs.Load.{load_refusal_of}
use Rattle.engine.specs.Run.{run_refusal_of}
use Rattle.engine.specs.Fetch.{fetch_refusal_of}
use Rattle.desk.specs.declared.Desk.{Desk}
use Rattle.desk.specs.Desk.{sector_count}
use Rattle.desk.specs.Roles.{viewer, fitter, operator}
use Rattle.desk.specs.HandIn.{hand_in_refusal_of, must_wait_of, hand_in_by, hand_in_of}
use Rattle.desk.specs.Run.{count_test, desk_run_refusal, desk_run_done, desk_run_by, desk_run_of}
use Rattle.desk.specs.Fetch.{desk_fetch_refusal, desk_fetch_by, desk_fetch_of}
use Rattle.desk.specs.Heard.{desk_heard_by, desk_heard_of}
use Rattle.desk.specs.Rounds.{begin_by, begin_of}
use Rattle.desk.specs.Shares.{set_shares_refusal_of, set_shares_by, set_shares_of}

-- a call with all that it is handed, the role first, and the number that it answers
pub data Example : Type 0 where
  -- job, what says whether one waits, sector, record and words of the area
  handing : ℕ → Job → ℕ → ℕ → List ℕ → ℕ → ℕ → Example
  -- job, what the sector has left in the round, what each other one has left, sector, request and words of the area
  running : ℕ → Job → ℕ → ℕ → ℕ → ℕ → ℕ → ℕ → Example
  -- job, what says whether one waits, sector, words of the area, what each of them is, and bytes of the buffer
  fetching : ℕ → Job → ℕ → ℕ → ℕ → ℕ → ℕ → ℕ → Example
  -- sector
  hearing : ℕ → ℕ → ℕ → Example
  -- shares
  assigning : ℕ → List ℕ → ℕ → Example
  -- no more than a role
  beginning : ℕ → ℕ → Example

-- a turn number, and turns made
abbrev pub job : ℕ → ℕ → Job
job turn made = record { turn = turn; made = made }

abbrev pub desk_with : Job → List ℕ → ℕ → Desk
desk_with job left waits =
    record {
      jobs = replicate sector_count job;
      heard = replicate sector_count 255;
      shares = replicate sector_count 0;
      left = left;
      waits = replicate sector_count waits;
      records = replicate (sector_count * matrix_bytes) 0;
    }

-- all counts used up
abbrev pub none : List ℕ
none = replicate sector_count 0

abbrev pub counts : ℕ → ℕ → ℕ → List ℕ
counts sector left others = set (replicate sector_count others) sector left

abbrev pub Answers : Example → Type 0
Answers (handing role job waits sector rec words n) = (hand_in_of role (desk_with job none waits) sector rec (replicate words (pos 0))).reply.number ≡ n
Answers (running role job left others sector request words n) = (desk_run_of role (desk_with job (counts sector left others) 0) sector request (replicate words (pos 0))).reply.number ≡ n
Answers (fetching role job waits sector words word bytes n) = (desk_fetch_of role (desk_with job none waits) sector (replicate words (pos word)) (replicate bytes 0)).reply.number ≡ n
Answers (hearing role sector n) = (desk_heard_of role (desk_with (job 0 0) none 0) sector).number ≡ n
Answers (assigning role shares n) = (set_shares_of role (desk_with (job 0 0) none 0) shares).number ≡ n
Answers (beginning role n) = (begin_of role (desk_with (job 0 0) none 0)).number ≡ n

abbrev pub AllAnswer : List Example → Type 0
AllAnswer [] = Unit {0}
AllAnswer (e ∷ es) = Answers e × AllAnswer es

unfoldable pub examples : List Example
examples =
    -- ---- 12: the first sector above 7, one that is 7 in its lowest byte, and the largest number; ahead of 1 and 3. Then 1, 2, 3, 4 where the matrix only waits
    handing operator (job 0 0) 0 8 [] 511 12
    ∷ handing operator (job 0 0) 0 263 [] 511 12
    ∷ handing operator (job 0 0) 0 4294967295 [] 511 12
    ∷ handing operator (job 0 0) 0 7 [] 511 1
    ∷ handing operator (job 0 0) 0 7 (1 ∷ []) 511 2
    ∷ handing operator (job 0 0) 0 7 (1 ∷ replicate 256 0) 511 3
    ∷ handing operator (job 0 0) 0 7 (1 ∷ replicate 256 0) 512 4
    ∷ handing operator (job 0 0) 0 7 (1 ∷ 0 ∷ 17 ∷ replicate 254 0) 512 0
    -- where it is loaded directly the same
    ∷ handing operator (job 120 0) 0 8 [] 511 12
    ∷ handing operator (job 120 0) 0 7 (1 ∷ replicate 256 0) 511 3
    ∷ handing operator (job 120 0) 0 7 (1 ∷ replicate 256 0) 512 4
    ∷ handing operator (job 120 0) 0 7 (1 ∷ 0 ∷ 17 ∷ replicate 254 0) 512 0
    -- and where one waits, and behind jobs that are none: 5 is no test of a hand-in
    ∷ handing operator (job 120 0) 1 7 (1 ∷ replicate 256 0) 512 4
    ∷ handing operator (job 120 0) 1 7 (1 ∷ 0 ∷ 17 ∷ replicate 254 0) 512 0
    ∷ handing operator (job 5 6) 0 7 (1 ∷ 0 ∷ 17 ∷ replicate 254 0) 512 0
    ∷ handing operator (job 121 0) 0 7 (1 ∷ replicate 256 0) 511 3
    ∷ handing operator (job 121 0) 0 7 (1 ∷ 0 ∷ 17 ∷ replicate 254 0) 512 0
    -- ---- Run: 12, 3, 5, 13
    ∷ running operator (job 5 6) 0 0 8 1 511 12
    ∷ running operator (job 5 6) 0 0 7 1 511 3
    -- "13 .. after 5"
    ∷ running operator (job 5 6) 0 0 7 1 512 5
    ∷ running operator (job 121 0) 0 0 7 1 512 5
    ∷ running operator (job 5 5) 0 0 7 1 512 13
    -- "13 now means the sector's own count is used up", whatever the others have left
    ∷ running operator (job 5 5) 0 15 7 1 512 13
    ∷ running operator (job 119 0) 0 120 0 65535 512 13
    -- accepted: "a request above 0", "an unfinished job", "its own count is used up" each fail once
    ∷ running operator (job 5 5) 0 0 7 0 512 0
    ∷ running operator (job 120 0) 0 0 7 1 512 0
    ∷ running operator (job 5 5) 1 0 7 1 512 0
    -- ---- Fetch: 12, 3, 5, 6, 7, 8
    ∷ fetching operator (job 121 0) 0 8 511 1 2048 12
    ∷ fetching operator (job 121 0) 0 7 511 1 2048 3
    ∷ fetching operator (job 121 0) 0 7 512 1 2048 5
    ∷ fetching operator (job 119 0) 0 7 512 1 2048 6
    ∷ fetching operator (job 120 0) 0 7 512 1 2048 7
    ∷ fetching operator (job 120 0) 0 7 512 1 2049 8
    ∷ fetching operator (job 120 0) 0 7 512 0 2049 0
    -- where one waits the same
    ∷ fetching operator (job 119 0) 1 7 512 1 2048 6
    ∷ fetching operator (job 120 0) 1 7 512 0 2048 7
    ∷ fetching operator (job 120 0) 255 7 512 0 2049 0
    -- ---- the heard byte
    ∷ hearing operator 8 12
    ∷ hearing operator 4294967295 12
    ∷ hearing operator 7 0
    -- ---- 14: "shares above 120 in total"; their sum is exact, also where it is a small number in 16 bits
    ∷ assigning operator (replicate 8 15) 0
    ∷ assigning operator (120 ∷ replicate 7 0) 0
    ∷ assigning operator (replicate 8 0) 0
    ∷ assigning operator (16 ∷ replicate 7 15) 14
    ∷ assigning operator (replicate 7 15 ++ 16 ∷ []) 14
    ∷ assigning operator (121 ∷ replicate 7 0) 14
    ∷ assigning operator (replicate 8 8192) 14
    ∷ assigning operator (replicate 8 65535) 14
    -- ---- 15: "not allowed to this role, ahead of 12" and of all others: of a viewer, of a fitter, and of numbers that are no role, some of them one in their lowest
    -- bits. The hand-in
    ∷ handing viewer (job 0 0) 0 8 [] 511 15
    ∷ handing fitter (job 0 0) 0 8 [] 511 15
    ∷ handing fitter (job 120 0) 0 7 (1 ∷ 0 ∷ 17 ∷ replicate 254 0) 512 15
    ∷ handing 3 (job 0 0) 0 8 [] 511 15
    ∷ handing 258 (job 0 0) 0 8 [] 511 15
    -- Run
    ∷ running viewer (job 5 6) 0 0 8 1 511 15
    ∷ running fitter (job 5 6) 0 0 8 1 511 15
    ∷ running fitter (job 5 5) 1 0 7 1 512 15
    ∷ running 65538 (job 5 6) 0 0 8 1 511 15
    -- Fetch is a fitter's too, with the same numbers
    ∷ fetching viewer (job 121 0) 0 8 511 1 2048 15
    ∷ fetching viewer (job 120 0) 0 7 512 0 2049 15
    ∷ fetching 3 (job 121 0) 0 8 511 1 2048 15
    ∷ fetching 257 (job 121 0) 0 8 511 1 2048 15
    ∷ fetching fitter (job 121 0) 0 8 511 1 2048 12
    ∷ fetching fitter (job 119 0) 1 7 512 1 2048 6
    ∷ fetching fitter (job 120 0) 1 7 512 0 2049 0
    -- the heard byte is a viewer's too
    ∷ hearing 3 8 15
    ∷ hearing 255 7 15
    ∷ hearing 256 7 15
    ∷ hearing 4294967295 7 15
    ∷ hearing viewer 8 12
    ∷ hearing viewer 7 0
    ∷ hearing fitter 7 0
    -- shares: ahead of 14
    ∷ assigning viewer (replicate 8 65535) 15
    ∷ assigning fitter (replicate 8 15) 15
    ∷ assigning 258 (replicate 8 65535) 15
    -- and rounds
    ∷ beginning viewer 15
    ∷ beginning fitter 15
    ∷ beginning 3 15
    ∷ beginning operator 0
    ∷ []

pub desk-numbered : AllAnswer examples
unfolding examples job_test load_refusal_of run_refusal_of fetch_refusal_of header_test hand_in_of hand_in_by hand_in_refusal_of must_wait_of desk_run_of desk_run_by desk_run_done desk_run_refusal count_test desk_fetch_of desk_fetch_by desk_fetch_refusal desk_heard_of desk_heard_by set_shares_of set_shares_refusal_of set_shares_by begin_of begin_by total heard_below antenna_heard_of part_of all_below is_finished is_finished_at R word_in
desk-numbered =
    (refl, (refl, (refl, (refl, (refl, (refl, (refl, (refl, (refl, (refl, (refl, (refl, (refl, (refl, (refl, (refl, (refl, (refl, (refl, (refl, (refl, (refl, (refl, (refl, (refl, (refl, (refl, (refl, (refl, (refl, (refl, (refl, (refl, (refl, (refl, (refl, (refl, (refl, (refl, (refl, (refl, (refl, (refl, (refl, (refl, (refl, (refl, (refl, (refl, (refl, (refl, (refl, (refl, (refl, (refl, (refl, (refl, (refl, (refl, (refl, (refl, (refl, (refl, (refl, (refl, (refl, (refl, (refl, (refl, (refl, (refl, (refl, (refl, (refl, (refl, (refl, (refl, (refl, tt))))))))))))))))))))))))))))))))))))))))))))))))))))))))))))))))))))))))))))))
