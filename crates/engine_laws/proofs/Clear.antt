-- A Run of a workspace whose R is finished, by the laws of its turns; and the diagonal of (32767, 0) is one. Assumes nothing.
use mathlib.Core.Path.{◌≡◌, refl, sym, ap, ◌∙◌}
use mathlib.Core.Bool.{true, cond}
use mathlib.Core.List.{List}
use Prim.Native.Nat.{ℕ, ◌+◌, ◌-◌, ◌*◌, ◌/◌, ◌%◌, ◌≤◌, ◌<◌, min}
use native.Mathlib.Nat.{add-zero}
use native.Mathlib.Decide.{ℕ_discrete}
use native.Mathlib.Omega.{arith}
use borrow.Author.Tests.{lt-ltb, le-ltb, eq-eqb, ne_eqb}
use lib.Dec.{ltb, eqb, lit≤}
use lib.IntN.{ℤ, pos}
use lib.ListN.{length, get_or}
use Rattle.lists.specs.Lists.{tabulate, all_below}
use Rattle.lists.proofs.Tabulate.{get_d_tabulate, length-filled}
use Rattle.matrix_record.specs.MatrixRecord.{part_of, real_entry_of, antenna_heard_of, heard_below}
use Rattle.result_record.specs.ResultRecord.{is_finished_at, is_finished}
use Rattle.result_record.proofs.ResultRecord.{finished_same}
use Rattle.workspace.specs.Workspace.{R, Q}
use Rattle.workspace.specs.Loading.{loaded_at, loaded_word_of, loaded_words}
use Rattle.workspace.proofs.Filled.{loaded_at_lem}
use Rattle.workspace.proofs.Finished.{words_stay, uncounted, unmade}
use Rattle.engine.specs.Job.{loaded_job}
use Rattle.engine.specs.Load.{LoadOutcome, load_refusal_of, load_by, load_of}
use Rattle.engine.specs.Run.{RunOutcome, next_job, run_done, run_by, run_of}
use Rattle.engine.proofs.Accepted.{load-passes, run_accepted, run_passes}
use Rattle.engine_laws.specs.Clear.{ClearStays, diagonal_record, diagonal_run, DiagonalStays}

-- ---- a workspace whose R is finished

pub clear_stays : ClearStays
unfolding run_of run_by run_done next_job
clear_stays job budget l h finished =
    let t = (run_accepted job l h).possible.turn in
    let count : ℕ = min budget (120 - job.turn) in
    let within : job.turn + count ≤ 120 = omega arith in
    rw (h, words_stay l finished job.turn count within, uncounted l finished job.turn count within, unmade l finished job.turn count within, add-zero job.made)

-- ---- the diagonal of (32767, 0)

-- its words, by row and column
diagonal_at : ℕ → ℕ → ℤ
diagonal_at i j = cond (ltb j 16) (cond (eqb i j) (pos 268427264) (pos 0)) (cond (eqb j (i + 16)) (pos 1073741824) (pos 0))

diagonal-words : tabulate 512 (loaded_word_of diagonal_record) ≡ tabulate 512 (λ k. diagonal_at (k / 32) (k % 32))
unfolding tabulate loaded_at real_entry_of part_of diagonal_at
diagonal-words = refl

loaded-diagonal : (i j : ℕ) → i < 16 → j < 32 → loaded_at diagonal_record i j ≡ diagonal_at i j
loaded-diagonal i j p q =
    let row : (i * 32 + j) / 32 ≡ i = omega arith in
    let column : (i * 32 + j) % 32 ≡ j = omega arith in
    rw (row, column) at
    (sym (get_d_tabulate 512 (loaded_word_of diagonal_record) (pos 0) (i * 32 + j) (omega arith))
    ∙ ap (λ (x : List ℤ). get_or x (i * 32 + j) (pos 0)) diagonal-words ∙ get_d_tabulate 512 (λ k. diagonal_at (k / 32) (k % 32)) (pos 0) (i * 32 + j) (omega arith))

module _ (l : List ℤ) (room : 512 ≤ length l) where
  r_is : (i j : ℕ) → i < 16 → j < 16 → R (loaded_words diagonal_record l) i j ≡ cond (eqb i j) (pos 268427264) (pos 0)
  unfolding R diagonal_at
  r_is i j p q = loaded_at_lem diagonal_record l i j p (omega arith) ∙ loaded-diagonal i j p (omega arith) ∙ rw (lt-ltb j 16 q)

  q_is : (i j : ℕ) → i < 16 → j < 16 → Q (loaded_words diagonal_record l) i j ≡ cond (eqb i j) (pos 1073741824) (pos 0)
  unfolding Q diagonal_at
  q_is i j p q = loaded_at_lem diagonal_record l j (16 + i) q (omega arith) ∙ loaded-diagonal j (16 + i) q (omega arith) ∙ rw (le-ltb (16 + i) 16 (omega arith)) (pick (ℕ_discrete i j))
    where
      pick : Dec (i ≡ j) → ◌≡◌ {A = ℤ} (cond (eqb (16 + i) (j + 16)) (pos 1073741824) (pos 0)) (cond (eqb i j) (pos 1073741824) (pos 0))
      pick (yes e) = rw (eq-eqb (16 + i) (j + 16) (omega arith), eq-eqb i j e)
      pick (no d) = rw (ne_eqb (16 + i) (j + 16) (λ e. d (omega arith)), ne_eqb i j d)

  finished : is_finished (R (loaded_words diagonal_record l)) ≡ true
  unfolding is_finished is_finished_at all_below
  finished = finished_same (R (loaded_words diagonal_record l)) (Q (loaded_words diagonal_record l)) (λ i j. cond (eqb i j) (pos 268427264) (pos 0)) (Q (loaded_words diagonal_record l)) r_is

  -- Load accepts it, and the Run of 120 after it makes no turn
  taken : load_refusal_of diagonal_record l ≡ 0
  unfolding tabulate heard_below antenna_heard_of part_of
  taken = load-passes diagonal_record l (record { header = record { tagged = refl; sized = refl }; room = room; heard = refl })

  load_is : load_of diagonal_record l ≡ record { reply = record { number = 0; heard = 255; job = loaded_job }; workspace = loaded_words diagonal_record l }
  unfolding load_of load_by tabulate heard_below antenna_heard_of part_of
  load_is = rw taken

  ran : diagonal_run l ≡ record { reply = record { number = 0; job = record { turn = 120; made = 0 }; count = 120; clamps_r = 0; clamps_q = 0 }; workspace = loaded_words diagonal_record l }
  ran =
      ap (λ (o : LoadOutcome). run_of o.reply.job 120 o.workspace) load_is
      ∙ clear_stays loaded_job 120 (loaded_words diagonal_record l)
      (run_passes loaded_job (loaded_words diagonal_record l) (record { room = omega (arith, length-filled 512 (loaded_word_of diagonal_record) l room, room); possible = record { turn = lit≤ tt; made = lit≤ tt } }))
      finished

pub diagonal-stays : DiagonalStays
diagonal-stays = record {
  loaded = λ l room. ap (λ (o : LoadOutcome). o.reply) (load_is l room);
  no_turn_made = λ l room. ap (λ (o : RunOutcome). o.reply.job) (ran l room);
  diagonal-r = λ l room i j p q. ap (λ (o : RunOutcome). R o.workspace i j) (ran l room) ∙ r_is l room i j p q;
  q_is_one = λ l room i j p q. ap (λ (o : RunOutcome). Q o.workspace i j) (ran l room) ∙ q_is l room i j p q;
}
