-- Document 02, U14: how long entries stay, in numbers: one table, and one statement over all its rows, computed from the definition that the contracts cite.
-- Assumes nothing.
use Rattle.std.specs.Prelude.{◌≡◌, refl, Bool, true, false, List, [], ◌∷◌, ℕ}
use Rattle.journal.specs.Retention.{retention, is_kept}

-- an entry's kind and day, the day of a sweep, and whether the entry stays
pub data Dating : Type 0 where
  dates : ℕ → ℕ → ℕ → Bool → Dating

abbrev pub Dates : Dating → Type 0
Dates (dates kind day sweep there) = is_kept sweep (record { kind = kind; day = day; body = [] }) ≡ there

abbrev pub AllDated : List Dating → Type 0
AllDated [] = Unit {0}
AllDated (d ∷ ds) = Dates d × AllDated ds

unfoldable pub datings : List Dating
datings =
    -- "A result of day 100 is there on day 106 and swept on 107"
    dates 5 100 106 true
    ∷ dates 5 100 107 false
    ∷ dates 5 100 4294967295 false
    -- a refusal thirty days, a heard byte ninety
    ∷ dates 6 100 129 true
    ∷ dates 6 100 130 false
    ∷ dates 7 100 189 true
    ∷ dates 7 100 190 false
    -- on its own day, and dated after the sweep's
    ∷ dates 5 100 100 true
    ∷ dates 5 101 100 true
    ∷ dates 5 4294967295 0 true
    ∷ dates 6 4294967295 0 true
    ∷ dates 7 4294967295 0 true
    -- days and retention that pass 2^32 together
    ∷ dates 5 4294967288 4294967294 true
    ∷ dates 5 4294967288 4294967295 false
    ∷ dates 5 4294967289 4294967295 true
    ∷ dates 5 4294967295 4294967295 true
    ∷ dates 6 4294967266 4294967295 true
    ∷ dates 6 4294967265 4294967295 false
    ∷ dates 7 4294967206 4294967295 true
    ∷ dates 7 4294967205 4294967295 false
    -- the first day
    ∷ dates 5 0 6 true
    ∷ dates 5 0 7 false
    ∷ []

pub dated : AllDated datings
unfolding datings retention is_kept
dated =
    (refl, (refl, (refl, (refl, (refl, (refl, (refl, (refl, (refl, (refl, (refl, (refl, (refl, (refl, (refl, (refl, (refl, (refl, (refl, (refl, (refl, (refl, tt))))))))))))))))))))))
