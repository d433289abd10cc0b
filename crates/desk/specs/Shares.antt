-- Document 02, U10: all eight shares are set in one call: what it answers, on all inputs. Assumes nothing.
use Rattle.std.specs.Prelude.{ℕ, zero, suc, List, ltb, get_or}
use Rattle.integers.specs.Sum.{total}
use Rattle.refusals.specs.Refusals.{shares_exceed_round, first, fails_if}
use Rattle.desk.specs.declared.Desk.{Desk}
use Rattle.desk.specs.declared.DeskReply.{DeskReply}
use Rattle.desk.specs.Desk.{sector_count, round_turns, shared}
use Rattle.desk.specs.Roles.{may_operate_of, role_test}

-- share 0 + share 1 + .. + share 7
abbrev pub total_of : List ℕ → ℕ
total_of shares = total sector_count (λ k. get_or shares k 0)

-- 14: shares above 120 in total
abbrev pub shares_test : List ℕ → ℕ
shares_test shares = fails_if (ltb round_turns (total_of shares)) shares_exceed_round

-- tests 15 and 14
unfoldable pub set_shares_refusal_of : ℕ → List ℕ → ℕ
set_shares_refusal_of role shares = first (role_test (may_operate_of role)) (shares_test shares)

-- by that number; a refusal changes no share
unfoldable pub set_shares_by : ℕ → Desk → List ℕ → DeskReply
set_shares_by zero desk shares = record { desk = shared desk shares; number = 0 }
set_shares_by (suc n) desk shares = record { desk = desk; number = suc n }

unfoldable pub set_shares_of : ℕ → Desk → List ℕ → DeskReply
set_shares_of role desk shares = set_shares_by (set_shares_refusal_of role shares) desk shares
