-- What the numbers of the desk's tests say, and when 13 is not given. Assumes nothing.
use mathlib.Core.Path.{◌≡◌, refl}
use mathlib.Core.Bool.{Bool, true, false, ◌&&◌}
use Prim.Native.Nat.{ℕ, ◌≤◌, ◌<◌}
use native.Mathlib.Omega.{arith}
use borrow.Author.Tests.{ltb-false, le-ltb, ne_eqb}
use lib.Dec.{ltb, eqb}
use Rattle.refusals.specs.Refusals.{fails_if}
use Rattle.refusals.proofs.Refusals.{first-none, if_passed}
use Rattle.engine.specs.declared.job.Job.{Job}
use Rattle.desk.specs.Desk.{sector_test}
use Rattle.desk.specs.Roles.{role_test, admission_test}
use Rattle.desk.specs.Run.{count_test}

sector_passed : (sector : ℕ) → sector_test sector ≡ 0 → sector < 8
sector_passed sector h = omega (arith, ltb-false 7 sector (if_passed (ltb 7 sector) 11 h))

pub admitted : (may : Bool) (sector : ℕ) → admission_test may sector ≡ 0 → sector < 8
admitted may sector h = sector_passed sector (first-none (role_test may) _ h).1

pub sector_passes : (sector : ℕ) → sector < 8 → sector_test sector ≡ 0
sector_passes sector h = rw (le-ltb 7 sector (omega arith))

-- 13 is not given for a finished job, nor where the sector has turns left
spent_never : (a b c : Bool) → (b && c) ≡ false → fails_if (a && (b && c)) 13 ≡ 0
spent_never true b c e = rw e
spent_never false b c e = refl

pub finished-passes : (job : Job) (left request : ℕ) → 120 ≤ job.turn → count_test job left request ≡ 0
unfolding count_test
finished-passes job left request h = spent_never (ltb 0 request) (ltb job.turn 120) (eqb left 0) (rw (le-ltb job.turn 120 h))

pub left-passes : (job : Job) (left request : ℕ) → 0 < left → count_test job left request ≡ 0
unfolding count_test
left-passes job left request h = spent_never (ltb 0 request) (ltb job.turn 120) (eqb left 0) (and_not (ltb job.turn 120) (ne_eqb left 0 (λ e. omega (arith, e, h))))
  where
    and_not : (b : Bool) {c : Bool} → c ≡ false → (b && c) ≡ false
    and_not true e = e
    and_not false e = refl
