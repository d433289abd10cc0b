-- A workspace whose R is finished is clear at every turn of the schedule: no turn is made, no word changes and nothing is counted. Assumes nothing.
use mathlib.Core.Path.{◌≡◌, refl, sym, ◌∙◌}
use mathlib.Core.Bool.{true}
use mathlib.Core.List.{List}
use Prim.Native.Nat.{ℕ, zero, suc, ◌+◌, ◌-◌, ◌*◌, ◌≤◌, ◌<◌}
use native.Mathlib.Omega.{arith}
use lib.IntN.{ℤ, pos}
use lib.ListN.{take-append-drop}
use lib.Seq.{get_or-drop}
use Rattle.rotation.specs.Saturations.{no_saturations}
use Rattle.rotation.specs.Turn.{is_clear_of}
use Rattle.rotation.proofs.Turn.{clear_of, turn_skipped}
use Rattle.rotation.proofs.Counts.{none_added_lem}
use Rattle.schedule.specs.declared.Rotation.{Rotation}
use Rattle.schedule.specs.Schedule.{rotation_at_of}
use Rattle.schedule.proofs.Clear.{rotation_shape}
use Rattle.result_record.specs.ResultRecord.{is_finished}
use Rattle.result_record.proofs.Finished.{finished-zero, finished_nonneg}
use Rattle.workspace.specs.Workspace.{word_in, R}
use Rattle.workspace.specs.Rotations.{rows_from, workspace_turned, workspace_saturations, workspace_made, words_after, saturations_counted, turns_made}

module _ (l : List ℤ) (finished : is_finished (R l) ≡ true) where
  -- a turn
  module _ (t : Rotation) (ordered : t.column ≤ t.upper) (apart : t.upper < t.lower) (inside : t.lower < 16) where
    clear : is_clear_of t.column (t.lower - t.upper) (rows_from t l) ≡ true
    unfolding R word_in
    clear =
        let row : t.upper * 32 + ((t.lower - t.upper) * 32 + t.column) ≡ t.lower * 32 + t.column = omega arith in
        clear_of t.column (t.lower - t.upper) (rows_from t l)
        (get_or-drop (t.upper * 32) l ((t.lower - t.upper) * 32 + t.column) (pos 0) ∙ rw row (finished-zero (R l) finished t.lower t.column (omega arith) inside))
        (rw (get_or-drop (t.upper * 32) l t.column (pos 0)) (finished_nonneg (R l) finished t.upper t.column ordered (omega arith)))

    turn_stays : workspace_turned t l ≡ l
    unfolding workspace_turned
    turn_stays = rw (← (turn_skipped t.column (t.lower - t.upper) (rows_from t l) clear).0) (take-append-drop (t.upper * 32) l)

    turn_uncounted : workspace_saturations t l ≡ no_saturations
    unfolding workspace_saturations
    turn_uncounted = sym (turn_skipped t.column (t.lower - t.upper) (rows_from t l) clear).1

    turn_unmade : workspace_made t l ≡ 0
    unfolding workspace_made
    turn_unmade = sym (turn_skipped t.column (t.lower - t.upper) (rows_from t l) clear).2

  -- turns of the schedule
  pub words_stay : (n k : ℕ) → n + k ≤ 120 → words_after n k l ≡ l
  unfolding words_after
  words_stay n zero h = refl
  words_stay n (suc k) h = let s = rotation_shape (n + k) (omega arith) in rw (words_stay n k (omega arith)) (turn_stays (rotation_at_of (n + k)) s.0 s.1 s.2)

  pub uncounted : (n k : ℕ) → n + k ≤ 120 → saturations_counted n k l ≡ no_saturations
  unfolding saturations_counted
  uncounted n zero h = refl
  uncounted n (suc k) h =
      let s = rotation_shape (n + k) (omega arith) in
      rw (words_stay n k (omega arith), uncounted n k (omega arith), turn_uncounted (rotation_at_of (n + k)) s.0 s.1 s.2) (none_added_lem no_saturations)

  pub unmade : (n k : ℕ) → n + k ≤ 120 → turns_made n k l ≡ 0
  unfolding turns_made
  unmade n zero h = refl
  unmade n (suc k) h =
      let s = rotation_shape (n + k) (omega arith) in
      rw (words_stay n k (omega arith), unmade n k (omega arith), turn_unmade (rotation_at_of (n + k)) s.0 s.1 s.2)
