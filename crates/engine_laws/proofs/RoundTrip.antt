-- What Fetch writes, Read accepts and returns to the same words; what Read accepts, Fetch writes again byte for byte. Assumes nothing.
use mathlib.Core.Path.{◌≡◌, refl, ap, ◌∙◌}
use mathlib.Core.List.{List, ◌++◌}
use Prim.Native.Nat.{ℕ, ◌≤◌}
use native.Mathlib.Omega.{arith}
use lib.Dec.{lit≤}
use lib.IntN.{ℤ}
use lib.ListN.{length, take, drop}
use lib.Seq.{take_at}
use Rattle.lists.specs.Lists.{filled, tabulate}
use Rattle.lists.proofs.Tabulate.{length-tabulate, get_d_tabulate, length-filled}
use Rattle.words.specs.Words.{Bytes}
use Rattle.result_record.specs.ResultRecord.{result_byte, result_record_of, record_r, record_q}
use Rattle.result_record.proofs.ResultRecord.{finished_same}
use Rattle.workspace.specs.Workspace.{R, Q}
use Rattle.workspace.specs.Reading.{read_word_of, read_words}
use Rattle.workspace.proofs.Filled.{read-r, read-written, written_r, written_read}
use Rattle.engine.specs.declared.job.Job.{Job}
use Rattle.engine.specs.Job.{read_job}
use Rattle.engine.specs.Fetch.{fetch_refusal_of, fetch_by, fetch_of}
use Rattle.engine.specs.Read.{read_refusal_of, read_by, read_of}
use Rattle.engine.proofs.Accepted.{fetch_accepted, fetch_passes, read-accepted, read-passes}
use Rattle.engine_laws.specs.RoundTrip.{Words32, FetchThenRead, ReadThenFetch}

-- ---- a fetched record

module _ (job : Job) (l : List ℤ) (buffer : List ℕ) (fits : Words32 l) (t : fetch_refusal_of job l buffer ≡ 0) where
  -- it is accepted
  pub written-accepted : (other : List ℤ) → 512 ≤ length other → read_refusal_of (result_record_of (R l) (Q l)) other ≡ 0
  unfolding result_record_of result_byte
  written-accepted other room =
      read-passes (result_record_of (R l) (Q l)) other (record {
        header = record { tagged = get_d_tabulate 2049 (result_byte (R l) (Q l)) 0 0 (omega arith); sized = length-tabulate 2049 (result_byte (R l) (Q l)) };
        room = room;
        finished = finished_same (record_r (result_record_of (R l) (Q l))) (Q l) (R l) (Q l) (written_r l fits) ∙ (fetch_accepted job l buffer t).finished;
      })

  -- and is what the first 2,049 bytes hold
  pub written_is : take 2049 (fetch_of job l buffer).buffer ≡ result_record_of (R l) (Q l)
  unfolding fetch_of fetch_by filled result_record_of
  written_is = rw t (take_at (tabulate 2049 (result_byte (R l) (Q l))) (drop 2049 buffer) 2049 (length-tabulate 2049 (result_byte (R l) (Q l))))

pub fetch_then_read : FetchThenRead
unfolding read_of read_by
fetch_then_read job l other buffer fits t room =
    rw (written_is job l buffer fits t, written-accepted job l buffer fits t other room, written_read l fits other (fetch_accepted job l buffer t).room)

-- ---- an accepted record

-- Fetch accepts the workspace that Read filled
filled-accepted : (rec : List ℕ) (l : List ℤ) (buffer : List ℕ) → read_refusal_of rec l ≡ 0 → 2049 ≤ length buffer → fetch_refusal_of read_job (read_words rec l) buffer ≡ 0
filled-accepted rec l buffer t space =
    let s = read-accepted rec l t in
    fetch_passes read_job (read_words rec l) buffer (record {
      room = omega (arith, length-filled 512 (read_word_of rec) l s.room, s.room);
      last = refl;
      made = lit≤ tt;
      space = space;
      finished = finished_same (R (read_words rec l)) (record_q rec) (record_r rec) (record_q rec) (read-r rec l) ∙ s.finished;
    })

-- and writes the record again
written_again : (rec : List ℕ) (l : List ℤ) (buffer : List ℕ) → Bytes rec → read_refusal_of rec l ≡ 0 → filled 2049 (result_byte (R (read_words rec l)) (Q (read_words rec l))) buffer ≡ rec ++ drop 2049 buffer
unfolding filled result_record_of
written_again rec l buffer b t =
    let s = (read-accepted rec l t).header in
    ap (λ (x : List ℕ). x ++ drop 2049 buffer) (read-written rec l b s.tagged s.sized)

pub read_then_fetch : ReadThenFetch
unfolding read_of read_by fetch_of fetch_by
read_then_fetch rec l buffer b t space = rw (t, filled-accepted rec l buffer t space, written_again rec l buffer b t)
