-- Row n of a table that holds the schedule is the schedule's rotation. Assumes nothing.
use mathlib.Core.Path.{◌≡◌, sym, subst}
use mathlib.Core.List.{[], map}
use Prim.Native.Nat.{ℕ, ◌<◌}
use lib.ListN.{get_or}
use Rattle.std.proofs.lemmas.List.{get_or-map}
use Rattle.schedule.specs.Schedule.{schedule, triple, no_rotation, rotation_at_of}
use Rattle.schedule.specs.Pairing.{rotations_120}

pub row_at : (n : ℕ) → n < 120 → get_or (map triple schedule) n [] ≡ triple (rotation_at_of n)
unfolding rotation_at_of
row_at n h = get_or-map triple schedule n no_rotation [] (subst (λ (m : ℕ). n < m) (sym rotations_120) h)
