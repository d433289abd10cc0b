-- Demand 2: each finished result written as a record reads back to itself, and each accepted record is written again byte for byte.
-- Assumes nothing.
use Rattle.std.specs.Prelude.{◌≡◌, refl, List, ◌∷◌, ◌++◌, ℕ, ◌≤◌, ℤ, pos, length, get_or, take, drop, replicate}
use Rattle.std.specs.Int.{w32}
use Rattle.std.proofs.Common.{SFits}
use Rattle.lists.specs.Lists.{all_below}
use Rattle.refusals.specs.Refusals.{header_test}
use Rattle.words.specs.Words.{Bytes}
use Rattle.result_record.specs.ResultRecord.{result_bytes, record_word, record_r, is_finished_at, is_finished}
use Rattle.workspace.specs.Workspace.{workspace_words, word_in, R}
use Rattle.engine.specs.declared.job.Job.{Job}
use Rattle.engine.specs.Job.{read_job, job_test}
use Rattle.engine.specs.Fetch.{fetch_refusal_of, fetch_of}
use Rattle.engine.specs.Read.{read_refusal_of, read_of}

-- what a lent slice of 32-bit words always is
abbrev pub Words32 : List ℤ → Type 0
Words32 l = (k : ℕ) → SFits w32 (get_or l k (pos 0))

-- what an accepted Fetch writes, Read accepts, and it fills any workspace with the same 512 words
abbrev pub FetchThenRead : Type 0
FetchThenRead = (job : Job) (l other : List ℤ) (buffer : List ℕ) → Words32 l → fetch_refusal_of job l buffer ≡ 0 → workspace_words ≤ length other
    → read_of (take result_bytes (fetch_of job l buffer).buffer) other
    ≡ record { reply = record { number = 0; job = read_job }; workspace = take workspace_words l ++ drop workspace_words other }

-- what Read accepts, Fetch writes again byte for byte
abbrev pub ReadThenFetch : Type 0
ReadThenFetch = (rec : List ℕ) (l : List ℤ) (buffer : List ℕ) → Bytes rec → read_refusal_of rec l ≡ 0 → result_bytes ≤ length buffer
    → fetch_of read_job (read_of rec l).workspace buffer ≡ record { number = 0; buffer = rec ++ drop result_bytes buffer }

-- ---- the premises can be met: a workspace and a record of zeros

pub fetch_possible : fetch_refusal_of (record { turn = 120; made = 120 }) (replicate 512 (pos 0)) (replicate 2049 0) ≡ 0
unfolding fetch_refusal_of job_test is_finished is_finished_at all_below R word_in
fetch_possible = refl

pub read_possible : read_refusal_of (2 ∷ replicate 2048 0) (replicate 512 (pos 0)) ≡ 0
unfolding read_refusal_of header_test is_finished is_finished_at all_below record_r record_word
read_possible = refl
