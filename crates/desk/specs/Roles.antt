-- Document 02, U12: who may do what, and the two tests ahead of all others: 15 not allowed to this role, and then 12 sector above 7. A role is a number;
-- a number that is none of the three may nothing. Assumes nothing.
use Rattle.std.specs.Prelude.{ℕ, Bool, ◌||◌, cond, eqb, Result, Ok, Err}
use Rattle.refusals.specs.declared.Refusal.{Refusal}
use Rattle.refusals.specs.declared.Refusal.TheVariants.{NotAllowed}
use Rattle.refusals.specs.Refusals.{not_allowed, first, fails_unless}
use Rattle.desk.specs.declared.roles.Role.{Role}
use Rattle.desk.specs.declared.roles.Role.TheVariants.{Viewer, Fitter, Operator}
use Rattle.desk.specs.Desk.{sector_test}

abbrev pub viewer : ℕ
viewer = 0

abbrev pub fitter : ℕ
fitter = 1

abbrev pub operator : ℕ
operator = 2

-- hands in, runs, begins rounds and sets shares: the operator
abbrev pub may_operate_of : ℕ → Bool
may_operate_of role = eqb role operator

-- gets the result record: a fitter too
abbrev pub may_fetch_of : ℕ → Bool
may_fetch_of role = eqb role fitter || may_operate_of role

-- gets the heard byte: a viewer too, who gets nothing else
abbrev pub may_hear_of : ℕ → Bool
may_hear_of role = eqb role viewer || may_fetch_of role

-- the role of a number
abbrev pub role_of : ℕ → Result Role Refusal
role_of number = cond (may_operate_of number) (Ok Operator) (cond (eqb number fitter) (Ok Fitter) (cond (eqb number viewer) (Ok Viewer) (Err NotAllowed)))

-- whether the role of a number may what this one may
abbrev pub may_of : Role → ℕ → Bool
may_of Viewer number = may_hear_of number
may_of Fitter number = may_fetch_of number
may_of Operator number = may_operate_of number

-- 15: not allowed to this role
abbrev pub role_test : Bool → ℕ
role_test may = fails_unless may not_allowed

-- 15, and then 12
abbrev pub admission_test : Bool → ℕ → ℕ
admission_test may sector = first (role_test may) (sector_test sector)
