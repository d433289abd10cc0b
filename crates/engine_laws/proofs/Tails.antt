-- Words from 512 on and bytes from 2,049 on stay as they were, in every call. Assumes nothing.
use mathlib.Core.Path.{◌≡◌, refl, ◌∙◌}
use mathlib.Core.List.{List}
use Prim.Native.Nat.{ℕ, zero, suc, ◌-◌, min}
use native.Mathlib.Omega.{arith}
use lib.Dec.{lit≤}
use lib.IntN.{ℤ}
use lib.ListN.{drop}
use Rattle.lists.proofs.Tabulate.{length-filled, drop-filled}
use Rattle.workspace.specs.Loading.{loaded_word_of, loaded_words}
use Rattle.workspace.proofs.WordsAfter.{words_tail}
use Rattle.engine.specs.declared.job.Job.{Job}
use Rattle.engine.specs.Load.{load_refusal_of, load_by, load_of}
use Rattle.engine.specs.Run.{run_refusal_of, run_done, run_by, run_of}
use Rattle.engine.specs.Fetch.{fetch_refusal_of, fetch_by, fetch_of}
use Rattle.engine.specs.Read.{read_refusal_of, read_by, read_of}
use Rattle.engine.specs.Whole.{whole_refusal_of, whole_done, whole_by, whole_of}
use Rattle.engine.proofs.Accepted.{run_accepted, whole-accepted}
use Rattle.engine_laws.specs.Tails.{Tails}

-- ---- the calls, by the number of their tests

load_tail : (number : ℕ) (rec : List ℕ) (l : List ℤ) → drop 512 (load_by number rec l).workspace ≡ drop 512 l
unfolding load_by
load_tail zero rec l = drop-filled 512 _ l
load_tail (suc n) rec l = refl

run_tail : (number : ℕ) (job : Job) (budget : ℕ) (l : List ℤ) → run_refusal_of job l ≡ number → drop 512 (run_by number job budget l).workspace ≡ drop 512 l
unfolding run_by run_done
run_tail zero job budget l h = let s = run_accepted job l h in words_tail job.turn (min budget (120 - job.turn)) l (omega (arith, s.possible.turn)) s.room
run_tail (suc n) job budget l h = refl

read_tail : (number : ℕ) (rec : List ℕ) (l : List ℤ) → drop 512 (read_by number rec l).workspace ≡ drop 512 l
unfolding read_by
read_tail zero rec l = drop-filled 512 _ l
read_tail (suc n) rec l = refl

fetch_tail : (number : ℕ) (l : List ℤ) (buffer : List ℕ) → drop 2049 (fetch_by number l buffer).buffer ≡ drop 2049 buffer
unfolding fetch_by
fetch_tail zero l buffer = drop-filled 2049 _ buffer
fetch_tail (suc n) l buffer = refl

whole_tail : (number : ℕ) (rec : List ℕ) (l : List ℤ) (buffer : List ℕ) → whole_refusal_of rec l buffer ≡ number → drop 512 (whole_by number rec l buffer).workspace ≡ drop 512 l
unfolding whole_by whole_done
whole_tail zero rec l buffer h =
    let room = (whole-accepted rec l buffer h).load.room in
    words_tail 0 120 (loaded_words rec l) (lit≤ tt) (omega (arith, length-filled 512 (loaded_word_of rec) l room, room)) ∙ drop-filled 512 _ l
whole_tail (suc n) rec l buffer h = refl

whole-buffer_tail : (number : ℕ) (rec : List ℕ) (l : List ℤ) (buffer : List ℕ) → drop 2049 (whole_by number rec l buffer).buffer ≡ drop 2049 buffer
unfolding whole_by whole_done
whole-buffer_tail zero rec l buffer = drop-filled 2049 _ buffer
whole-buffer_tail (suc n) rec l buffer = refl

pub tails : Tails
unfolding load_of run_of read_of fetch_of whole_of
tails = record {
  load = λ rec l. load_tail (load_refusal_of rec l) rec l;
  run = λ job budget l. run_tail (run_refusal_of job l) job budget l refl;
  read = λ rec l. read_tail (read_refusal_of rec l) rec l;
  whole = λ rec l buffer. whole_tail (whole_refusal_of rec l buffer) rec l buffer refl;
  fetch_buffer = λ job l buffer. fetch_tail (fetch_refusal_of job l buffer) l buffer;
  whole-buffer = λ rec l buffer. whole-buffer_tail (whole_refusal_of rec l buffer) rec l buffer;
}
