-- The first n columns are oriented. Assumes nothing.
use Rattle.std.proofs.Common.{ℕ, ◌+◌, ◌<◌, pos, get_or}
use Rattle.std.specs.Int.Signed.{lt_z}
use Rattle.rotation.specs.Column.{column_at}
use Rattle.rows.specs.Lanes.{words_at, Words32, Lanes}
use Rattle.rows.proofs.orient_columns.Given as goal

abbrev pub invariant-loop-n : goal.invariant-loop-n
invariant-loop-n g l =
    let f = g.W.Lane.number in
    record {
      done : Lanes f (λ (j : ℕ). column_at (lt_z (get_or l.part l.column (pos 0)) (pos 0)) l.base l.part (l.column + j)) l.n l.us l.vs;
      in_range : (j : ℕ) → j < l.n → Words32 (words_at l.base l.part (l.column + j));
    }
