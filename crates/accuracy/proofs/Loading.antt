-- What Load fills the workspace with, and the accuracy of the workspace after the last rotation. Assumes nothing.
use mathlib.Core.Path.{◌≡◌, subst}
use mathlib.Core.List.{List}
use Prim.Native.Nat.{ℕ, ◌^◌, ◌≤◌, ◌<◌}
use lib.IntN.{ℤ, nat_abs, ◌-ℤ◌}
use lib.ListN.{length, get_or}
use Rattle.integers.specs.Within.{Within}
use Rattle.lists.proofs.Tabulate.{length-filled}
use Rattle.matrix_record.specs.MatrixRecord.{real_entry_of}
use Rattle.workspace.specs.Workspace.{R, Q, word_in}
use Rattle.workspace.specs.Loading.{loaded_at, loaded_word_of, loaded_words}
use Rattle.workspace.proofs.Filled.{loaded_at_lem}
use Rattle.accuracy.proofs.Accurate.{start, accurate}
use Rattle.accuracy.specs.Factorization.{gram, Factorization}
use Rattle.accuracy.specs.Demand3.{workspace_after}
use Rattle.accuracy.proofs.Gram.{gram-kept}
use Rattle.accuracy.proofs.WorkspaceAfter.{after_none, after-rotated}

module _ (rec : List ℕ) (bytes : (k : ℕ) → get_or rec k 0 < 256) (lent : List ℤ) (room : 512 ≤ length lent) where
  pub loaded-room : 512 ≤ length (loaded_words rec lent)
  loaded-room = rw (length-filled 512 (loaded_word_of rec) lent room) room

  load_at : (r c : ℕ) → r < 16 → c < 32 → word_in (workspace_after (loaded_words rec lent) 0) r c ≡ loaded_at rec r c
  load_at r c p q = rw (after_none (loaded_words rec lent) loaded-room) (loaded_at_lem rec lent r c p q)

  -- every column is short at the start
  pub loaded_short : (a : ℕ) → a < 32 → nat_abs (gram (word_in (workspace_after (loaded_words rec lent) 0)) a a) ≤ 2 ^ 60
  loaded_short = start rec bytes (λ (k : ℕ). word_in (workspace_after (loaded_words rec lent) k)) load_at (after-rotated (loaded_words rec lent) loaded-room)

  -- the products of columns are kept after each rotation
  pub loaded-bounded : (k : ℕ) → k ≤ 120 → (a b : ℕ) → a < 32 → b < 32
      → Within (gram (word_in (workspace_after (loaded_words rec lent) k)) a b -ℤ gram (word_in (loaded_words rec lent)) a b) (2 ^ 44)
  loaded-bounded k h a b p q =
      subst (λ (x : List ℤ). Within (gram (word_in (workspace_after (loaded_words rec lent) k)) a b -ℤ gram (word_in x) a b) (2 ^ 44)) (after_none (loaded_words rec lent) loaded-room)
      (gram-kept (λ (k : ℕ). word_in (workspace_after (loaded_words rec lent) k)) (after-rotated (loaded_words rec lent) loaded-room) loaded_short k h a b p q)

  -- and accurate at the end
  pub loaded-factored : Factorization (real_entry_of rec) (R (workspace_after (loaded_words rec lent) 120)) (Q (workspace_after (loaded_words rec lent) 120))
  unfolding R Q
  loaded-factored = accurate rec bytes (λ (k : ℕ). word_in (workspace_after (loaded_words rec lent) k)) load_at (after-rotated (loaded_words rec lent) loaded-room)
