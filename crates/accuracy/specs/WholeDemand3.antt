-- Demand 3 for an accepted Whole, as document 01 has it, with the clamps by side (document 02, U1): its list is a Run of allowance 120 and then a
-- Fetch. Assumes nothing.
use Rattle.std.specs.Prelude.{◌≡◌, List, [], ◌∷◌, ℕ, ◌<◌, ℤ, get_or}
use Rattle.lists.specs.Histories.{after_all}
use Rattle.schedule.specs.Schedule.{rotation_count}
use Rattle.matrix_record.specs.MatrixRecord.{real_entry_of}
use Rattle.workspace.specs.Workspace.{R, Q}
use Rattle.engine.specs.Job.{loaded_job}
use Rattle.engine.specs.Load.{load_refusal_of, load_of}
use Rattle.engine.specs.Whole.{whole_refusal_of, whole_of}
use Rattle.accuracy.specs.Factorization.{Factorization}
use Rattle.accuracy.specs.Demand3.{loaded, RunCall, FetchCall, Call, run, fetch, reply, fetched, Accepted, after, Load, start, Kept}

abbrev pub whole_run : RunCall
whole_run = record { job = loaded_job; budget = rotation_count; lent = loaded }

-- handed the job that the Run answers
abbrev pub whole_fetch : Load → List ℕ → FetchCall
whole_fetch l buffer = record { job = (reply (start l) whole_run).job; lent = loaded; buffer = buffer }

abbrev pub whole_calls : Load → List ℕ → List Call
whole_calls l buffer = run whole_run ∷ fetch (whole_fetch l buffer) ∷ []

-- the list keeps the promise, its Fetch is accepted, and Whole answers and leaves what Load and the list do
pub record WholeKept (l : Load) (buffer : List ℕ) : Type 0 where
  pub kept : Kept l (whole_calls l buffer)
  pub accepted : Accepted (after (start l) (run whole_run)) (fetch (whole_fetch l buffer))
  pub answer : (whole_of l.bytes l.lent buffer).reply
      ≡ record {
        number = 0;
        heard = (load_of l.bytes l.lent).reply.heard;
        clamps_r = (reply (start l) whole_run).clamps_r;
        clamps_q = (reply (start l) whole_run).clamps_q;
      }
  pub words : (whole_of l.bytes l.lent buffer).workspace ≡ (after_all after (start l) (whole_calls l buffer)).workspace
  pub written : (whole_of l.bytes l.lent buffer).buffer ≡ fetched (after (start l) (run whole_run)) (whole_fetch l buffer)
  -- so all of demand 3 holds of what Whole leaves: no word is clamped, and the matrix is worked to the end
  pub no_clamps : ((whole_of l.bytes l.lent buffer).reply.clamps_r ≡ 0) × ((whole_of l.bytes l.lent buffer).reply.clamps_q ≡ 0)
  pub factored : Factorization (real_entry_of l.bytes) (R (whole_of l.bytes l.lent buffer).workspace) (Q (whole_of l.bytes l.lent buffer).workspace)

abbrev pub WholeDemand3 : Type 0
WholeDemand3 = (bytes : List ℕ) (lent : List ℤ) (buffer : List ℕ) (small : (k : ℕ) → get_or bytes k 0 < 256) → whole_refusal_of bytes lent buffer ≡ 0
    → (a : load_refusal_of bytes lent ≡ 0) × WholeKept (record { bytes = bytes; lent = lent; small = small; accepted = a }) buffer
