-- One turn more is taken, counted and added up. Assumes nothing.
use Rattle.std.proofs.Common.{◌≡◌, ◌≤◌, suc, ◌+◌, ◌-◌, arith}
use Rattle.schedule.proofs.Clear.{rotation_shape}
use Rattle.rotation.proofs.Counts.{count_none, count_more, count_le}
use Rattle.workspace.specs.Rotations.{words_after, saturations_counted, turns_made}
use Rattle.workspace.proofs.WordsAfter.{turn_count_one, turn_made_one, turns_made_le}
use Rattle.workspace.proofs.rotations.take_turns.Goals as goal

pub loop-k-init : goal.loop-k-init
unfolding words_after saturations_counted turns_made
loop-k-init c =
    let none : c.args.n - c.args.n ≡ 0 = omega arith in
    record { begun = omega arith; words = rw none; counted = rw none c.none-saturations.ensures; few = rw (none, c.none-saturations.ensures) count_none; turns = rw none }

pub turn_workspace-turn-requires : goal.turn_workspace-turn-requires
turn_workspace-turn-requires c =
    let s = rotation_shape c.loop-k.k (omega arith) in
    rw c.rotation_at.ensures (omega arith, s.1, s.2, omega arith)

pub overflow_add-made : goal.overflow_add-made
overflow_add-made c =
    let l = c.loop-k in
    let t = c.turn_workspace-turn in
    let few : l.made ≤ l.k - c.args.n = rw l.invariant.turns (turns_made_le _ _ _) in
    let one : t.result.made ≤ 1 = rw t.ensures.made (turn_made_one _ _) in
    omega arith

pub plus-saturations-requires : goal.plus-saturations-requires
plus-saturations-requires c = (count_le c.loop-k.invariant.few (omega arith), rw c.turn_workspace-turn.ensures.saturations (turn_count_one _ _))

pub loop-k-preserved : goal.loop-k-preserved
unfolding words_after saturations_counted turns_made
loop-k-preserved c =
    let l = c.loop-k in
    let t = c.turn_workspace-turn in
    let more : l.k + 1 - c.args.n ≡ suc (l.k - c.args.n) = omega arith in
    let one : l.k + 1 - c.args.n ≡ l.k - c.args.n + 1 = omega arith in
    let here : c.args.n + (l.k - c.args.n) ≡ l.k = omega arith in
    record {
      begun = omega arith;
      words = rw (more, here, ← l.invariant.words, ← c.rotation_at.ensures) t.ensures.words;
      counted = rw (more, here, ← l.invariant.counted, ← l.invariant.words, ← c.rotation_at.ensures, ← t.ensures.saturations) c.plus-saturations.ensures;
      few = rw (one, c.plus-saturations.ensures) (count_more l.invariant.few (rw t.ensures.saturations (turn_count_one _ _)));
      turns = rw (more, here, ← l.invariant.words, ← l.invariant.turns, ← c.rotation_at.ensures, ← t.ensures.made);
    }
