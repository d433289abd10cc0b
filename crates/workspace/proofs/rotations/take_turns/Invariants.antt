-- The turns before turn k are taken, and what they count and how many are made is added up. Assumes nothing.
use Rattle.std.proofs.Common.{◌≡◌, ◌-◌, ◌≤◌}
use Rattle.rotation.specs.Saturations.{CountOf}
use Rattle.workspace.specs.Rotations.{words_after, saturations_counted, turns_made}
use Rattle.workspace.proofs.rotations.take_turns.Given as goal

abbrev pub invariant-loop-k : goal.invariant-loop-k
invariant-loop-k l =
    let taken = l.k - l.n in
    record {
      begun : l.n ≤ l.k;
      words : l.workspace ≡ words_after l.n taken l.fn.workspace;
      counted : l.saturations ≡ saturations_counted l.n taken l.fn.workspace;
      few : CountOf taken l.saturations;
      turns : l.made ≡ turns_made l.n taken l.fn.workspace;
    }
