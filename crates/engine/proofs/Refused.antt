-- The number of a refusal is no 0, in the form in which what a call does by its number computes. Assumes nothing.
use Rattle.std.proofs.Common.{◌≡◌, suc, ◌-◌, arith}
use Rattle.refusals.specs.declared.Refusal.{Refusal}
use Rattle.refusals.specs.Outcomes.{number_of}
use Rattle.refusals.proofs.Outcomes.{numbers_nonzero}

pub refused_by : (refusal : Refusal) → suc (number_of refusal - 1) ≡ number_of refusal
refused_by refusal = omega (arith, numbers_nonzero refusal)
