-- `matrix_of_two` meets its contract: each call has the sums that the one before answered. Assumes nothing.
use mathlib.Core.Path.{◌≡◌}
use mathlib.Core.List.{List}
use Prim.Native.Nat.{ℕ}
use Rattle.covariance.specs.declared.Sample.{Sample}
use Rattle.covariance.specs.declared.Sums.{Sums}
use Rattle.covariance.specs.declared.add.AddReply.{AddReply}
use Rattle.covariance.specs.Sums.{sums_none_of}
use Rattle.covariance.specs.AddSnapshot.{add_of}
use Rattle.covariance.specs.WriteMatrix.{write_of}
use Rattle.caller.specs.Caller.{pair_of}
use Rattle.caller.proofs.matrix_of_two.Goals as goal

pair_is : (first second : List Sample) (buffer out : List ℕ) (none : Sums) (one two : AddReply) (written : ℕ) → none ≡ sums_none_of → one ≡ add_of first none → two ≡ add_of second one.sums
    → record { number = written; buffer = out } ≡ write_of two.sums buffer
    → record { reply = record { first = one.number; second = two.number; written = written }; buffer = out } ≡ pair_of first second buffer
unfolding pair_of
pair_is first second buffer out none one two written n a b w = rw (← n, ← a, ← b, ← w)

pub returns : goal.returns
returns c =
    pair_is _ _ _ _ _ _ _ _ c.hubqr_sums_none-none.ensures c.hubqr_add_snapshot-one.ensures c.hubqr_add_snapshot-two.ensures c.hubqr_write_matrix-written.ensures
