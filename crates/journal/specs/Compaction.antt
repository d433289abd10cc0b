-- Only the contract of an inner function, `compact`, uses this: what a sweep moves to the front. Assumes nothing.
use Rattle.std.specs.Prelude.{ℕ, List, []}
use Rattle.std.proofs.Math.Option.{Option, none, some}
use Rattle.journal.specs.Entry.{Entry, log_bytes}
use Rattle.journal.specs.Retention.{keep}

-- the bytes of the entries that stay
abbrev pub kept_bytes : ℕ → Option (List Entry) → List ℕ
kept_bytes day none = []
kept_bytes day (some es) = log_bytes (keep day es)
