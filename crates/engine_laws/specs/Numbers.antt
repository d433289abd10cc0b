-- Document 01, the table of numbers under "Calls and the order of tests": its eight examples, and an example of each number at each call that can
-- give it, with document 02's for number 5 (U5), as one table with one statement over all its rows, computed from the definitions that the contracts cite. The rows use document 01's own numbers.
-- Where it can, a refused row fails the tests that follow as well, so that the rows tell the sequence of the tests. An accepted row (number 0) lies just
-- beside what is refused. Assumes nothing.
use Rattle.std.specs.Prelude.{◌≡◌, refl, cond, List, [], ◌∷◌, ◌++◌, ℕ, ◌%◌, eqb, ℤ, pos, negsuc, replicate}
use Rattle.lists.specs.Lists.{tabulate, all_below}
use Rattle.refusals.specs.Refusals.{header_test}
use Rattle.matrix_record.specs.MatrixRecord.{part_of, antenna_heard_of, heard_below}
use Rattle.result_record.specs.ResultRecord.{record_word, record_r, is_finished_at, is_finished}
use Rattle.workspace.specs.Workspace.{word_in, R}
use Rattle.engine.specs.declared.job.Job.{Job}
use Rattle.engine.specs.Job.{job_test}
use Rattle.engine.specs.Load.{load_refusal_of, load_by, load_of}
use Rattle.engine.specs.Run.{run_refusal_of, run_done, run_by, run_of}
use Rattle.engine.specs.Fetch.{fetch_refusal_of, fetch_by, fetch_of}
use Rattle.engine.specs.Read.{read_refusal_of, read_by, read_of}
use Rattle.engine.specs.Whole.{whole_refusal_of, whole_done, whole_by, whole_of}
use Rattle.engine_laws.specs.Marked.{matrix_heard}

-- a call with all that it is handed, and the number that it answers
pub data Example : Type 0 where
  -- record and workspace
  loading : List ℕ → List ℤ → ℕ → Example
  -- job, budget and workspace
  running : Job → ℕ → List ℤ → ℕ → Example
  -- job, workspace and buffer
  fetching : Job → List ℤ → List ℕ → ℕ → Example
  -- record and workspace
  reading : List ℕ → List ℤ → ℕ → Example
  -- record, workspace and buffer
  factoring : List ℕ → List ℤ → List ℕ → ℕ → Example

abbrev pub Answers : Example → Type 0
Answers (loading rec l n) = (load_of rec l).reply.number ≡ n
Answers (running job budget l n) = (run_of job budget l).reply.number ≡ n
Answers (fetching job l buffer n) = (fetch_of job l buffer).number ≡ n
Answers (reading rec l n) = (read_of rec l).reply.number ≡ n
Answers (factoring rec l buffer n) = (whole_of rec l buffer).reply.number ≡ n

abbrev pub AllAnswer : List Example → Type 0
AllAnswer [] = Unit {0}
AllAnswer (e ∷ es) = Answers e × AllAnswer es

-- a turn number, and turns made
abbrev pub job : ℕ → ℕ → Job
job turn made = record { turn = turn; made = made }

-- this many words, and this many bytes, of zeros
abbrev pub zero_words : ℕ → List ℤ
zero_words n = replicate n (pos 0)

abbrev pub zero_bytes : ℕ → List ℕ
zero_bytes n = replicate n 0

-- a matrix record in which the real part of each diagonal element is d, and each other byte but the first is b
abbrev pub with_diagonal : ℕ → ℕ → List ℕ
with_diagonal d b = matrix_heard (tabulate 16 (λ p. cond (eqb (p % 2) 0) 0 d)) b

unfoldable pub examples : List Example
examples =
    -- ---- Load: tests 1, 2, 3, 4
    -- 1: "no byte", "empty record"
    loading [] (zero_words 511) 1
    -- 1: "the kind byte is not the call's (01 for matrices, 02 for results)"
    ∷ loading (2 ∷ zero_bytes 255) (zero_words 511) 1
    -- 2: "Load of 256 bytes starting 01"; and one byte too many
    ∷ loading (1 ∷ zero_bytes 255) (zero_words 511) 2
    ∷ loading (1 ∷ zero_bytes 257) (zero_words 511) 2
    -- 3: "511 words"
    ∷ loading (1 ∷ zero_bytes 256) (zero_words 511) 3
    -- 4: "01 and 256 bytes 00"
    ∷ loading (1 ∷ zero_bytes 256) (zero_words 512) 4
    -- 4: "a single element 1", "all parts -32768"
    ∷ loading (1 ∷ 0 ∷ 1 ∷ zero_bytes 254) (zero_words 512) 4
    ∷ loading (1 ∷ tabulate 256 (λ p. cond (eqb (p % 2) 0) 128 0)) (zero_words 512) 4
    -- 4: no real part on the diagonal is above 16, and all others are loud
    ∷ loading (with_diagonal 16 127) (zero_words 512) 4
    -- accepted: 17 in its place; and the last antenna alone is heard
    ∷ loading (with_diagonal 17 127) (zero_words 512) 0
    ∷ loading (1 ∷ zero_bytes 253 ++ 17 ∷ zero_bytes 2) (zero_words 512) 0
    -- ---- Run: tests 3, 5
    -- 3: "511 words"
    ∷ running (job 121 0) 0 (zero_words 511) 3
    -- 5: "Run at 121"
    ∷ running (job 121 0) 0 (zero_words 512) 5
    -- 5: more turns made than the turn number, from the first turn on
    ∷ running (job 5 6) 1 (zero_words 512) 5
    ∷ running (job 0 1) 1 (zero_words 512) 5
    -- accepted: "Run at 120", and "Allowance 0 is no error"
    ∷ running (job 120 0) 0 (zero_words 512) 0
    -- accepted: as many made as the turn number
    ∷ running (job 6 6) 0 (zero_words 512) 0
    -- ---- Fetch: tests 3, 5, 6, 7, 8
    -- 3: "511 words"
    ∷ fetching (job 121 0) (negsuc 0 ∷ zero_words 510) (zero_bytes 2048) 3
    -- 5: "turn number above 120"
    ∷ fetching (job 121 0) (negsuc 0 ∷ zero_words 511) (zero_bytes 2048) 5
    -- 5: more turns made than the turn number, under 120 and at it
    ∷ fetching (job 5 6) (negsuc 0 ∷ zero_words 511) (zero_bytes 2048) 5
    ∷ fetching (job 120 121) (negsuc 0 ∷ zero_words 511) (zero_bytes 2048) 5
    -- 6: "Fetch at 119"
    ∷ fetching (job 119 0) (negsuc 0 ∷ zero_words 511) (zero_bytes 2048) 6
    -- 7: "2,048 bytes"
    ∷ fetching (job 120 0) (negsuc 0 ∷ zero_words 511) (zero_bytes 2048) 7
    -- 8: "one of its first 15 diagonal words is negative", the first and the last of them
    ∷ fetching (job 120 0) (negsuc 0 ∷ zero_words 511) (zero_bytes 2049) 8
    ∷ fetching (job 120 0) (zero_words 462 ++ negsuc 0 ∷ zero_words 49) (zero_bytes 2049) 8
    -- 8: "a word of R under the diagonal is not 0", the first and the last of them
    ∷ fetching (job 120 0) (zero_words 32 ++ pos 1 ∷ zero_words 479) (zero_bytes 2049) 8
    ∷ fetching (job 120 0) (zero_words 494 ++ pos 1 ∷ zero_words 17) (zero_bytes 2049) 8
    -- accepted: R's word (0, 1) and its last diagonal word are negative
    ∷ fetching (job 120 0) (pos 0 ∷ negsuc 0 ∷ zero_words 493 ++ negsuc 0 ∷ zero_words 16) (zero_bytes 2049) 0
    -- accepted: as many made as the turn number
    ∷ fetching (job 120 120) (zero_words 512) (zero_bytes 2049) 0
    -- ---- Read: tests 1, 2, 3, 8
    -- 1: "no byte"
    ∷ reading [] (zero_words 511) 1
    -- 1: "the kind byte is not the call's (01 for matrices, 02 for results)"
    ∷ reading (1 ∷ 255 ∷ zero_bytes 2046) (zero_words 511) 1
    -- 2: "record length is not 257, or 2,049": one byte too few, and one too many
    ∷ reading (2 ∷ 255 ∷ zero_bytes 2046) (zero_words 511) 2
    ∷ reading (2 ∷ 255 ∷ zero_bytes 2048) (zero_words 511) 2
    -- 3: "511 words"
    ∷ reading (2 ∷ 255 ∷ zero_bytes 2047) (zero_words 511) 3
    -- 8: "result record whose first word is FFFFFFFF"
    ∷ reading (2 ∷ 255 ∷ 255 ∷ 255 ∷ 255 ∷ zero_bytes 2044) (zero_words 512) 8
    -- 8: "a word of R under the diagonal is not 0", the last of them
    ∷ reading (2 ∷ zero_bytes 1019 ++ 1 ∷ zero_bytes 1028) (zero_words 512) 8
    -- accepted: R's word (0, 1) and its last diagonal word are negative
    ∷ reading (2 ∷ zero_bytes 4 ++ 255 ∷ zero_bytes 1015 ++ 255 ∷ zero_bytes 1027) (zero_words 512) 0
    -- ---- Whole: tests 1, 2, 3, 7, 4
    -- 1: "no byte"
    ∷ factoring [] (zero_words 511) (zero_bytes 2048) 1
    -- 1: "the kind byte is not the call's (01 for matrices, 02 for results)"
    ∷ factoring (2 ∷ zero_bytes 255) (zero_words 511) (zero_bytes 2048) 1
    -- 2: "record length is not 257, or 2,049"
    ∷ factoring (1 ∷ zero_bytes 255) (zero_words 511) (zero_bytes 2048) 2
    -- 3: "511 words"
    ∷ factoring (1 ∷ zero_bytes 256) (zero_words 511) (zero_bytes 2048) 3
    -- 7: "2,048 bytes"
    ∷ factoring (1 ∷ zero_bytes 256) (zero_words 512) (zero_bytes 2048) 7
    -- 4: "01 and 256 bytes 00"
    ∷ factoring (1 ∷ zero_bytes 256) (zero_words 512) (zero_bytes 2049) 4
    -- 4: no real part on the diagonal is above 16, and all others are loud
    ∷ factoring (with_diagonal 16 127) (zero_words 512) (zero_bytes 2049) 4
    -- accepted: 17 in its place
    ∷ factoring (with_diagonal 17 127) (zero_words 512) (zero_bytes 2049) 0
    ∷ []

pub numbered : AllAnswer examples
unfolding examples job_test load_of load_by load_refusal_of run_of run_by run_done run_refusal_of fetch_of fetch_by fetch_refusal_of read_of read_by read_refusal_of whole_of whole_by whole_done whole_refusal_of header_test tabulate all_below heard_below antenna_heard_of part_of is_finished is_finished_at R word_in record_r record_word
numbered =
    (refl, (refl, (refl, (refl, (refl, (refl, (refl, (refl, (refl, (refl, (refl, (refl, (refl, (refl, (refl, (refl, (refl, (refl, (refl, (refl, (refl, (refl, (refl, (refl, (refl, (refl, (refl, (refl, (refl, (refl, (refl, (refl, (refl, (refl, (refl, (refl, (refl, (refl, (refl, (refl, (refl, (refl, (refl, (refl, (refl, tt)))))))))))))))))))))))))))))))))))))))))))))
