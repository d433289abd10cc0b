-- Document 02, U4: whatever record and targets are handed over, no weight is a NaN or an infinity, so that a modem never meets one. How near the weights are
-- to the solution of the equations, no theorem says. Assumes nothing.
use Rattle.std.specs.Prelude.{ℕ, ◌*◌, ◌^◌, ◌≤◌, ◌<◌, List, Float}
use Rattle.std.specs.Float.{nan, inf, fin}
use Rattle.std.specs.Float.Ieee.{up, down}
use Rattle.words.specs.Words.{Bytes}
use Rattle.covariance.specs.declared.Sample.{Sample}
use Rattle.weights_laws.specs.Replies.{Targets16, weight_at_of}

-- neither NaN nor infinity, and at most 2 ^ k either way. The float `fin s m e` is m times 2 ^ e, with the sign s; 2 ^ e is up e / down e
abbrev pub AtMost : Float → ℕ → Type 0
AtMost nan k = ⊥
AtMost (inf s) k = ⊥
AtMost (fin s m e) k = m * up e ≤ 2 ^ k * down e

abbrev pub Finite : Type 0
Finite = (rec : List ℕ) (targets : List Sample) → Bytes rec → Targets16 targets
    → (k : ℕ) → k < 8 → AtMost (weight_at_of rec targets k).re 786 × AtMost (weight_at_of rec targets k).im 786
