-- A stage pairs the rows that stand in order: by place, and how many; and no column and no row passes 15. Assumes nothing.
use mathlib.Core.Path.{◌≡◌, refl}
use mathlib.Core.List.{[], ◌∷◌}
use Prim.Native.Nat.{ℕ, zero, suc, ◌+◌, ◌*◌, ◌<◌, ◌≤◌}
use native.Mathlib.Nat.{le_of_suc-le-suc, not-suc-le-zero}
use native.Mathlib.Omega.{arith}
use lib.Dec.{T}
use lib.ListN.{get_or}
use Rattle.schedule.specs.Schedule.{stage_rotations, survivors, stages, up_from, column_stages, stages_rotations, columns_rotations, schedule, flat}
use Rattle.schedule.specs.Pairing.{StagePairs, StageCount, StageStands, StandingCount, AtMost15}
use Rattle.integers.proofs.Claim.{Claim, less, test, sound, each, each_at}

place_more : (m : ℕ) → 2 * suc m ≡ suc (suc (2 * m))
place_more m = omega arith

pair_more : (m : ℕ) → 2 * suc m + 1 ≡ suc (suc (2 * m + 1))
pair_more m = omega arith

pub stage_pairs : StagePairs
unfolding stage_rotations
stage_pairs j [] m h = absurd (not-suc-le-zero h)
stage_pairs j (a ∷ []) m h = absurd (omega arith)
stage_pairs j (a ∷ b ∷ rest) zero h = refl
stage_pairs j (a ∷ b ∷ rest) (suc m) h = rw (pair_more m, place_more m) (stage_pairs j rest m (omega arith))

pub stage_count : StageCount
unfolding stage_rotations
stage_count j [] = refl
stage_count j (a ∷ []) = refl
stage_count j (a ∷ b ∷ rest) = omega (arith, stage_count j rest)

pub stage_stands : StageStands
unfolding survivors
stage_stands [] m h = absurd (not-suc-le-zero h)
stage_stands (a ∷ []) zero h = refl
stage_stands (a ∷ []) (suc m) h = absurd (omega arith)
stage_stands (a ∷ b ∷ rest) zero h = refl
stage_stands (a ∷ b ∷ rest) (suc m) h = rw (place_more m) (stage_stands rest m (omega arith))

pub standing-count : StandingCount
unfolding survivors
standing-count [] = refl
standing-count (a ∷ []) = refl
standing-count (a ∷ b ∷ rest) = omega (arith, standing-count rest)

-- ---- no number of the schedule passes 15: one claim over all of them, which antt tests, and which holds of each

abbrev all_at_most : ℕ → ℕ → Claim
all_at_most n past = each 360 (λ k. less (get_or (flat schedule) k past) (suc n))

at_most : (n past : ℕ) → T (test (all_at_most n past)) → (k : ℕ) → k < 360 → get_or (flat schedule) k past ≤ n
at_most n past t k h = le_of_suc-le-suc (each_at 360 (λ j. less (get_or (flat schedule) j past) (suc n)) (sound (all_at_most n past) t) k h)

pub at_most_15 : AtMost15
unfolding each flat schedule columns_rotations stages_rotations column_stages stages survivors up_from stage_rotations
at_most_15 k past h = at_most _ past tt k h
