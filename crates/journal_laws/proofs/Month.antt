-- The named instances, computed, or taken from the theorems. Assumes nothing.
use mathlib.Core.Path.{◌≡◌, refl, ap}
use mathlib.Core.Logic.{⊎_elim}
use mathlib.Core.List.{[], ◌∷◌}
use Prim.Native.Nat.{ℕ}
use native.Mathlib.Omega.{arith}
use Rattle.lists.specs.Histories.{after_all, Place}
use Rattle.journal.specs.Entry.{body_length_of, entry_bytes, log_bytes}
use Rattle.journal.specs.Held.{first_size, first_entry, up_to, entries, held}
use Rattle.journal.specs.Retention.{retention, is_kept, keep}
use Rattle.journal.specs.Add.{entry_test, log_add_refusal, log_add_by, log_add_of}
use Rattle.journal.specs.Sweep.{log_sweep_by, log_sweep_of}
use Rattle.journal_laws.specs.Calls.{Call, add, sweep, fill, outcome, next}
use Rattle.journal_laws.specs.Logged.{survives, logged}
use Rattle.journal_laws.specs.Month.{room, month, heard_entry, Month, Ninety, Week}
use Rattle.journal_laws.proofs.Places.{place-first, place_none, place-cases}
use Rattle.journal_laws.proofs.Keeping.{future_stays}
use Rattle.journal_laws.proofs.Logged.{nothing_lost}
use Rattle.journal_laws.proofs.Swept.{swept_remains}

-- the day of a sweep, and of any other call 130
day_of : Call → ℕ
day_of (add kind day body) = 130
day_of (sweep day) = day
day_of (fill f) = 130

-- the only sweep behind the first add is that of day 130
one_sweep : (d : ℕ) → Place (sweep d) (add 6 100 (4 ∷ []) ∷ add 7 101 (1 ∷ []) ∷ sweep 130 ∷ add 6 130 (8 ∷ []) ∷ []) → d ≡ 130
unfolding day_of
one_sweep d p = ⊎_elim (ap day_of) (λ q. ⊎_elim (ap day_of) (λ r. ⊎_elim (ap day_of) (λ s. ⊎_elim (ap day_of) (λ t. absurd (place_none t)) (place-cases s)) (place-cases r)) (place-cases q)) (place-cases p)

abbrev first-add : Place (add 7 100 (255 ∷ [])) month
first-add = record { before = []; rest = add 6 100 (4 ∷ []) ∷ add 7 101 (1 ∷ []) ∷ sweep 130 ∷ add 6 130 (8 ∷ []) ∷ []; is = refl }

pub month-logged : Month
unfolding body_length_of entry_bytes log_bytes first_size first_entry up_to entries held retention is_kept keep entry_test log_add_refusal log_add_by log_add_of log_sweep_by log_sweep_of outcome next after_all survives logged
month-logged =
    record {
      refused = refl;
      full = refl;
      freed = refl;
      again = refl;
      holds = refl;
      stays = nothing_lost room month 7 100 (255 ∷ []) first-add refl (λ d p. let e = one_sweep d p in omega arith);
      young = place-first heard_entry [];
    }

pub ninety_days : Ninety
unfolding body_length_of first_size first_entry up_to entries held retention is_kept keep
ninety_days =
    record {
      there = refl;
      stays = future_stays 99 heard_entry (heard_entry ∷ []) (place-first heard_entry []) (omega arith);
      gone = refl;
      remains = swept_remains 190 6 (7 ∷ 0 ∷ 0 ∷ 0 ∷ 100 ∷ 255 ∷ []) (heard_entry ∷ []) refl refl;
    }

pub week : Week
unfolding body_length_of entry_bytes log_bytes first_size first_entry up_to entries held retention is_kept keep entry_test log_add_refusal log_add_by log_add_of log_sweep_by log_sweep_of outcome next after_all survives logged
week = record { there = refl; used = refl; gone = refl; none = refl }
