-- Document 02, U14: "how long things stay". Assumes nothing.
use Rattle.std.specs.Prelude.{ℕ, ◌+◌, Bool, cond, List, [], ◌∷◌, eqb, ltb}
use Rattle.journal.specs.Entry.{Entry, result_kind, refusal_kind}

-- "Heard bytes stay ninety days, refusals thirty, results seven." A log holds no kind but these three
unfoldable pub retention : ℕ → ℕ
retention kind = cond (eqb kind result_kind) 7 (cond (eqb kind refusal_kind) 30 90)

-- whether an entry stays in a sweep on this day: "A result of day 100 is there on day 106 and swept on 107"
unfoldable pub is_kept : ℕ → Entry → Bool
is_kept day e = ltb day (e.day + retention e.kind)

-- the entries that stay, in their order
unfoldable pub keep : ℕ → List Entry → List Entry
keep day [] = []
keep day (e ∷ es) = cond (is_kept day e) (e ∷ keep day es) (keep day es)
