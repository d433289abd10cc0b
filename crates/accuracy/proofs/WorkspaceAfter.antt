-- The turns of the schedule from the loaded words: the workspace after k of them, how many of them are made, and that they count nothing. Assumes nothing.
use mathlib.Core.Path.{◌≡◌, refl, ap}
use mathlib.Core.List.{List}
use Prim.Native.Nat.{ℕ, zero, suc, ◌+◌, ◌^◌, ◌≤◌, ◌<◌}
use native.Mathlib.Nat.{zero-add}
use native.Mathlib.Omega.{arith}
use lib.IntN.{ℤ, nat_abs}
use lib.ListN.{length}
use Rattle.rotation.specs.Saturations.{no_saturations}
use Rattle.rotation.proofs.Counts.{none_added_lem}
use Rattle.schedule.specs.Schedule.{rotation_at_of}
use Rattle.schedule.proofs.Clear.{rotation_shape}
use Rattle.workspace.specs.Workspace.{word_in}
use Rattle.workspace.specs.Rotations.{workspace_turned, workspace_saturations, words_after, saturations_counted, turns_made}
use Rattle.workspace.proofs.Products.{GivensStep}
use Rattle.accuracy.specs.Factorization.{gram}
use Rattle.workspace.proofs.GivensStep.{givens_step, workspace_uncounted}
use Rattle.workspace.proofs.WordsAfter.{words-length, words_more, turns_made_more, turns_made_le}
use Rattle.accuracy.specs.Demand3.{workspace_after, made_after}
use Rattle.accuracy.proofs.Gram.{pair-norm-kept}

-- ---- the workspace after k turns

module _ (l : List ℤ) (room : 512 ≤ length l) where
  pub after_none : workspace_after l 0 ≡ l
  unfolding workspace_after words_after
  after_none = refl

  after_next : (k : ℕ) → workspace_after l (suc k) ≡ workspace_turned (rotation_at_of k) (workspace_after l k)
  unfolding workspace_after words_after
  after_next k = ap (λ (n : ℕ). workspace_turned (rotation_at_of n) (words_after 0 k l)) (zero-add k)

  pub after-length : (k : ℕ) → k ≤ 120 → length (workspace_after l k) ≡ length l
  unfolding workspace_after
  after-length k h = words-length 0 k l (omega arith) room

  pub after-rotated : (k : ℕ) → k < 120 → GivensStep (rotation_at_of k) (word_in (workspace_after l k)) (word_in (workspace_after l (suc k)))
  after-rotated k h =
      let s = rotation_shape k h in
      rw (after_next k) (givens_step (rotation_at_of k) (workspace_after l k) s.0 s.1 s.2 (omega (arith, after-length k (omega arith))))

  -- turns that follow others
  pub after_more : (j k : ℕ) → words_after j k (workspace_after l j) ≡ workspace_after l (j + k)
  unfolding workspace_after
  after_more j k = rw (zero-add j) at (words_more 0 j k l)

  pub made_more : (j k : ℕ) → made_after l j + turns_made j k (workspace_after l j) ≡ made_after l (j + k)
  unfolding workspace_after made_after
  made_more j k = rw (zero-add j) at (turns_made_more 0 j k l)

  pub made_le : (k : ℕ) → made_after l k ≤ k
  unfolding made_after
  made_le k = turns_made_le 0 k l

  pub made_none : made_after l 0 ≡ 0
  unfolding made_after turns_made
  made_none = refl

  module _ (start : (a : ℕ) → a < 32 → nat_abs (gram (word_in (workspace_after l 0)) a a) ≤ 2 ^ 60) where
    pub made_uncounted : (k : ℕ) → k < 120 → workspace_saturations (rotation_at_of k) (workspace_after l k) ≡ no_saturations
    made_uncounted k h =
        let s = rotation_shape k h in
        workspace_uncounted (rotation_at_of k) (workspace_after l k) s.0 s.1 s.2 (omega (arith, after-length k (omega arith)))
        (pair-norm-kept (λ (k : ℕ). word_in (workspace_after l k)) after-rotated start k h)

    pub more_uncounted : (j k : ℕ) → j + k ≤ 120 → saturations_counted j k (workspace_after l j) ≡ no_saturations
    unfolding saturations_counted
    more_uncounted j zero h = refl
    more_uncounted j (suc k) h = rw (more_uncounted j k (omega arith), after_more j k, made_uncounted (j + k) (omega arith)) (none_added_lem no_saturations)
