-- No call reads a word from 512 on. Assumes nothing.
use mathlib.Core.Path.{◌≡◌, refl, sym, ap, ap₂, ◌∙◌}
use mathlib.Core.List.{List, ◌++◌}
use Prim.Native.Nat.{ℕ, zero, suc, ◌+◌, ◌-◌, ◌≤◌, ◌<◌, min}
use native.Mathlib.Decide.{dec_lt}
use native.Mathlib.Omega.{arith}
use borrow.Author.Tests.{lt-ltb, le-ltb}
use lib.Dec.{lit≤}
use lib.IntN.{ℤ}
use lib.ListN.{length, drop, length-take}
use lib.Seq.{take_at}
use Rattle.lists.specs.Lists.{tabulate, filled}
use Rattle.lists.proofs.Tabulate.{length-tabulate, length-filled}
use Rattle.rotation.specs.declared.Saturations.{Saturations}
use Rattle.matrix_record.specs.MatrixRecord.{heard_byte_of}
use Rattle.result_record.specs.ResultRecord.{result_byte, result_record_of}
use Rattle.result_record.proofs.ResultRecord.{finished_same, record_same}
use Rattle.workspace.specs.Workspace.{workspace_test, R, Q}
use Rattle.workspace.specs.Loading.{loaded_word_of, loaded_words}
use Rattle.workspace.specs.Reading.{read_word_of}
use Rattle.workspace.specs.Rotations.{words_after}
use Rattle.workspace.proofs.SameWords.{SameWords, same_words, r_same, q_same, words_same, words_take, saturations_same, turns_made_same}
use Rattle.engine.specs.Load.{load_refusal_of, load_by, load_of}
use Rattle.engine.specs.declared.job.Job.{Job}
use Rattle.engine.specs.Run.{run_refusal_of, next_job, run_done, run_by, run_of}
use Rattle.engine.specs.Fetch.{fetch_refusal_of, fetch_by, fetch_of}
use Rattle.engine.specs.Read.{read_refusal_of, read_by, read_of}
use Rattle.engine.specs.Whole.{whole_refusal_of, whole_done, whole_by, whole_of}
use Rattle.engine.proofs.Accepted.{run_accepted, whole-accepted}
use Rattle.engine_laws.specs.Unread.{Alike, LoadAlike, RunAlike, FetchAlike, ReadAlike, WholeAlike}

-- ---- what two areas that are alike share

-- the first 512 words that are filled in one way
filled_alike : (f : ℕ → ℤ) (l m : List ℤ) → Alike (filled 512 f l) (filled 512 f m)
unfolding filled
filled_alike f l m =
    take_at (tabulate 512 f) (drop 512 l) 512 (length-tabulate 512 f) ∙ sym (take_at (tabulate 512 f) (drop 512 m) 512 (length-tabulate 512 f))

-- the record of R and Q, in a buffer
buffer_same : (l m : List ℤ) (buffer : List ℕ) → SameWords l m → filled 2049 (result_byte (R l) (Q l)) buffer ≡ filled 2049 (result_byte (R m) (Q m)) buffer
unfolding filled result_record_of
buffer_same l m buffer same =
    ap (λ (x : List ℕ). x ++ drop 2049 buffer) (record_same (R l) (Q l) (R m) (Q m) (r_same l m same) (q_same l m same))

module _ (l m : List ℤ) (alike : Alike l m) where
  -- how much of the 512 words they have
  lengths : min 512 (length l) ≡ min 512 (length m)
  lengths = sym (length-take 512 l) ∙ ap length alike ∙ length-take 512 m

  room_same : 512 ≤ length l → 512 ≤ length m
  room_same h = omega (arith, lengths)

  test_same : workspace_test l ≡ workspace_test m
  test_same = pick (dec_lt (length l) 512)
    where
      pick : Dec (length l < 512) → workspace_test l ≡ workspace_test m
      pick (yes h) = rw (lt-ltb (length l) 512 h, lt-ltb (length m) 512 (omega (arith, lengths)))
      pick (no h) = rw (le-ltb (length l) 512 (omega arith), le-ltb (length m) 512 (omega (arith, lengths)))

  -- ---- the calls, by the number of their tests

  load_by_lem : (number : ℕ) (rec : List ℕ) → ((load_by number rec l).reply ≡ (load_by number rec m).reply) × Alike (load_by number rec l).workspace (load_by number rec m).workspace
  unfolding load_by
  load_by_lem zero rec = (refl, filled_alike (loaded_word_of rec) l m)
  load_by_lem (suc n) rec = (refl, alike)

  read_by_lem : (number : ℕ) (rec : List ℕ) → ((read_by number rec l).reply ≡ (read_by number rec m).reply) × Alike (read_by number rec l).workspace (read_by number rec m).workspace
  unfolding read_by
  read_by_lem zero rec = (refl, filled_alike (read_word_of rec) l m)
  read_by_lem (suc n) rec = (refl, alike)

  run_by_lem : (number : ℕ) (job : Job) (budget : ℕ) → run_refusal_of job l ≡ number
      → ((run_by number job budget l).reply ≡ (run_by number job budget m).reply) × Alike (run_by number job budget l).workspace (run_by number job budget m).workspace
  unfolding run_by run_done next_job
  run_by_lem zero job budget h =
      let s = run_accepted job l h in
      let k : ℕ = min budget (120 - job.turn) in
      let within : job.turn + k ≤ 120 = omega (arith, s.possible.turn) in
      let same = same_words l m alike in (
        ap₂ (λ (t : Saturations) (n : ℕ). record { number = 0; job = record { turn = job.turn + k; made = job.made + n }; count = k; clamps_r = t.r; clamps_q = t.q })
            (saturations_same l m s.room (room_same s.room) same job.turn k within) (turns_made_same l m s.room (room_same s.room) same job.turn k within),
        words_take l m s.room (room_same s.room) same job.turn k within,
      )
  run_by_lem (suc n) job budget h = (refl, alike)

  fetch_by_lem : (number : ℕ) (buffer : List ℕ) → fetch_by number l buffer ≡ fetch_by number m buffer
  unfolding fetch_by
  fetch_by_lem zero buffer = ap (λ (x : List ℕ). record { number = 0; buffer = x }) (buffer_same l m buffer (same_words l m alike))
  fetch_by_lem (suc n) buffer = refl

  whole_by_lem : (number : ℕ) (rec buffer : List ℕ) → whole_refusal_of rec l buffer ≡ number
      → ((whole_by number rec l buffer).reply ≡ (whole_by number rec m buffer).reply)
      × Alike (whole_by number rec l buffer).workspace (whole_by number rec m buffer).workspace
      × ((whole_by number rec l buffer).buffer ≡ (whole_by number rec m buffer).buffer)
  unfolding whole_by whole_done
  whole_by_lem zero rec buffer h =
      let space = (whole-accepted rec l buffer h).load.room in
      let a = loaded_words rec l in
      let b = loaded_words rec m in
      let room : 512 ≤ length a = omega (arith, length-filled 512 (loaded_word_of rec) l space, space) in
      let roomy : 512 ≤ length b = omega (arith, length-filled 512 (loaded_word_of rec) m (room_same space), room_same space) in
      let same : SameWords a b = same_words a b (filled_alike (loaded_word_of rec) l m) in (
        ap (λ (t : Saturations). record { number = 0; heard = heard_byte_of rec; clamps_r = t.r; clamps_q = t.q }) (saturations_same a b room roomy same 0 120 (lit≤ tt)),
        words_take a b room roomy same 0 120 (lit≤ tt),
        buffer_same (words_after 0 120 a) (words_after 0 120 b) buffer (words_same a b room roomy same 0 120 (lit≤ tt)),
      )
  whole_by_lem (suc n) rec buffer h = (refl, alike, refl)

  -- ---- the numbers

  load-number : (rec : List ℕ) → load_refusal_of rec l ≡ load_refusal_of rec m
  unfolding load_refusal_of
  load-number rec = rw test_same

  run_number_lem : (job : Job) → run_refusal_of job l ≡ run_refusal_of job m
  unfolding run_refusal_of
  run_number_lem job = rw test_same

  read_number : (rec : List ℕ) → read_refusal_of rec l ≡ read_refusal_of rec m
  unfolding read_refusal_of
  read_number rec = rw test_same

  whole-number : (rec buffer : List ℕ) → whole_refusal_of rec l buffer ≡ whole_refusal_of rec m buffer
  unfolding whole_refusal_of
  whole-number rec buffer = rw test_same

  fetch_number_lem : (job : Job) (buffer : List ℕ) → fetch_refusal_of job l buffer ≡ fetch_refusal_of job m buffer
  unfolding fetch_refusal_of
  fetch_number_lem job buffer = rw (test_same, finished_same (R l) (Q l) (R m) (Q m) (r_same l m (same_words l m alike)))

pub load_alike : LoadAlike
unfolding load_of
load_alike rec l m alike = rw (load-number l m alike rec) (load_by_lem l m alike (load_refusal_of rec m) rec)

pub run_alike : RunAlike
unfolding run_of
run_alike job budget l m alike = rw (← run_number_lem l m alike job) (run_by_lem l m alike (run_refusal_of job l) job budget refl)

pub fetch_alike : FetchAlike
unfolding fetch_of
fetch_alike job l m buffer alike = rw (fetch_number_lem l m alike job buffer) (fetch_by_lem l m alike (fetch_refusal_of job m buffer) buffer)

pub read_alike : ReadAlike
unfolding read_of
read_alike rec l m alike = rw (read_number l m alike rec) (read_by_lem l m alike (read_refusal_of rec m) rec)

pub whole_alike : WholeAlike
unfolding whole_of
whole_alike rec l m buffer alike = rw (← whole-number l m alike rec buffer) (whole_by_lem l m alike (whole_refusal_of rec l buffer) rec buffer refl)
