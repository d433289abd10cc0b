-- What the number of an outcome says, in a sequence of tests. Assumes nothing.
use Rattle.std.specs.Prelude.{◌≡◌, ℕ, zero, suc}
use Rattle.std.proofs.Common.{refl, ◌∙◌, arith}
use Rattle.refusals.specs.declared.Refusal.{Refusal}
use Rattle.refusals.specs.declared.Refusal.TheVariants.{WrongTag, WrongLength, ShortWorkspace, NoneHeard, NoSuchJob, Unfinished, ShortBuffer, NotTriangular, NoneAdded, SumsOutOfRange, ZeroDiagonal, NoSuchSector, CountUsedUp, SharesExceedRound, NotAllowed, BrokenLog, NoRoom}
use Rattle.refusals.specs.Refusals.{first}
use Rattle.refusals.specs.Outcomes.{number_of}
use Rattle.refusals.proofs.Refusals.{first_is}

-- no refusal has the number 0
pub numbers_nonzero : (refusal : Refusal) → number_of refusal ≡ 0 → ⊥
numbers_nonzero WrongTag h = omega arith
numbers_nonzero WrongLength h = omega arith
numbers_nonzero ShortWorkspace h = omega arith
numbers_nonzero NoneHeard h = omega arith
numbers_nonzero NoSuchJob h = omega arith
numbers_nonzero Unfinished h = omega arith
numbers_nonzero ShortBuffer h = omega arith
numbers_nonzero NotTriangular h = omega arith
numbers_nonzero NoneAdded h = omega arith
numbers_nonzero SumsOutOfRange h = omega arith
numbers_nonzero ZeroDiagonal h = omega arith
numbers_nonzero NoSuchSector h = omega arith
numbers_nonzero CountUsedUp h = omega arith
numbers_nonzero SharesExceedRound h = omega arith
numbers_nonzero NotAllowed h = omega arith
numbers_nonzero BrokenLog h = omega arith
numbers_nonzero NoRoom h = omega arith

-- a test that refuses decides, whatever follows
pub refused_first : (refusal : Refusal) (n rest : ℕ) → number_of refusal ≡ n → number_of refusal ≡ first n rest
refused_first refusal n rest h = h ∙ first_is n rest (λ z. numbers_nonzero refusal (h ∙ z))

-- a test that is passed adds nothing
pub passed_first : (n rest : ℕ) → 0 ≡ n → first n rest ≡ rest
passed_first zero rest h = refl
passed_first (suc n) rest h = absurd (omega arith)
