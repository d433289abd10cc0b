-- Document 02, U2: adding a snapshot, what it answers, on all inputs. Assumes nothing.
use Rattle.std.specs.Prelude.{ℕ, zero, suc, ◌+◌, List, leb}
use Rattle.lists.specs.Lists.{tabulate}
use Rattle.refusals.specs.Refusals.{first, fails_if, sums_out_of_range}
use Rattle.covariance.specs.declared.Sample.{Sample}
use Rattle.covariance.specs.declared.Sums.{Sums}
use Rattle.covariance.specs.declared.add.AddReply.{AddReply}
use Rattle.covariance.specs.Sums.{snapshot_limit, sum_words, added_word, sums_test}

-- 10: a snapshot added after 4,096; and the test of the sums
unfoldable pub add_refusal_of : Sums → ℕ
add_refusal_of s = first (fails_if (leb snapshot_limit s.count) sums_out_of_range) (sums_test s.count s.words)

-- by that number. The snapshot is added to each sum and counted; a refusal answers its number, and the sums unchanged
unfoldable pub add_by : ℕ → List Sample → Sums → AddReply
add_by zero snapshot s = record { number = 0; sums = record { count = s.count + 1; words = tabulate sum_words (added_word snapshot s.words) } }
add_by (suc n) snapshot s = record { number = suc n; sums = s }

unfoldable pub add_of : List Sample → Sums → AddReply
add_of snapshot s = add_by (add_refusal_of s) snapshot s
