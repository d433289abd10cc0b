-- The sums of the first e elements have the snapshot added, and the others are as they were.
use Rattle.std.proofs.Common.{◌≡◌, ◌*◌}
use Rattle.lists.proofs.Filling.{Filling}
use Rattle.covariance.specs.Sums.{added_word}
use Rattle.covariance.proofs.Sums.add.Given as goal

abbrev pub invariant-loop-e : goal.invariant-loop-e
invariant-loop-e l = record {
  counted : l.self.count ≡ l.fn.self.count;
  filled : Filling 128 (added_word l.snapshot l.fn.self.words) l.fn.self.words (2 * l.e) l.self.words;
}
