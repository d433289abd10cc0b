-- What the role of a number says of the number. Assumes nothing.
use Rattle.std.proofs.Common.{◌≡◌, ℕ, Bool, true, false}
use Rattle.std.specs.Prelude.{cond, eqb, Result, Ok, Err}
use denote.Enum.Bare.{sameb}
use Rattle.refusals.specs.declared.Refusal.{Refusal}
use Rattle.refusals.specs.declared.Refusal.TheVariants.{NotAllowed}
use Rattle.desk.specs.contracts.roles.Role.{the_type}
use Rattle.desk.specs.declared.roles.Role.{Role}
use Rattle.desk.specs.declared.roles.Role.TheVariants.{Viewer, Fitter, Operator}
use Rattle.desk.specs.Roles.{role_of, may_operate_of}

pub operator_is : (number : ℕ) (role : Role) → ◌≡◌ {A = Result Role Refusal} (Ok role) (role_of number) → sameb the_type role Operator ≡ may_operate_of number
operator_is number role = go (eqb number 2) (eqb number 1) (eqb number 0) role
  where
    go : (o f v : Bool) (role : Role) → ◌≡◌ {A = Result Role Refusal} (Ok role) (cond o (Ok Operator) (cond f (Ok Fitter) (cond v (Ok Viewer) (Err NotAllowed)))) → sameb the_type role Operator ≡ o
    go true f v role h = let e : role ≡ Operator = cc in rw e
    go false true v role h = let e : role ≡ Fitter = cc in rw e
    go false false true role h = let e : role ≡ Viewer = cc in rw e
    go false false false role h = cc
