-- n columns are stored, and their saturations counted. Assumes nothing.
use Rattle.std.proofs.Common.{◌≡◌, ℕ, ◌≤◌, ◌+◌, ◌-◌, ◌*◌}
use Rattle.rotation.specs.Column.{stored}
use Rattle.rotation.specs.Stores.{written, counted}
use Rattle.rows.specs.Lanes.{lane}
use Rattle.rows.proofs.store_columns.Given as goal

abbrev pub invariant-loop-n : goal.invariant-loop-n
invariant-loop-n g l =
    let f = g.W.Lane.number in
    record {
      few : l.saturations ≤ 2 * l.n;
      done : l.part ≡ written (λ (k : ℕ). stored (lane f l.fn.us l.fn.vs (k - l.column))) l.base (l.column + l.from) l.n l.fn.part;
      sum : l.saturations ≡ counted (λ (k : ℕ). stored (lane f l.fn.us l.fn.vs (k - l.column))) (l.column + l.from) l.n;
    }
