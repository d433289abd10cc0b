-- What number 0 of a record's own tests says, a record that passes them, and which numbers they give. Assumes nothing.
use mathlib.Core.Path.{◌≡◌}
use mathlib.Core.Bool.{Bool, true, false}
use mathlib.Core.List.{List}
use Prim.Native.Nat.{ℕ, zero, suc, ◌≤◌}
use native.Mathlib.Omega.{arith}
use Rattle.refusals.specs.Refusals.{first, fails_unless, header_test}
use Rattle.refusals.proofs.Refusals.{first-none, unless_passed, Header, header_passed, header_passes, header_number}
use Rattle.result_record.specs.ResultRecord.{record_r, is_finished, record_refusal_of}

pub record RecordAccepted (rec : List ℕ) : Type 0 where
  pub header : Header 2 2049 rec
  pub finished : is_finished (record_r rec) ≡ true

pub record-accepted : (rec : List ℕ) → record_refusal_of rec ≡ 0 → RecordAccepted rec
unfolding record_refusal_of
record-accepted rec h =
    let a = first-none (header_test 2 2049 rec) _ h in
    record { header = header_passed 2 2049 rec a.0; finished = unless_passed (is_finished (record_r rec)) 7 a.1 }

pub record-passes : (rec : List ℕ) → RecordAccepted rec → record_refusal_of rec ≡ 0
unfolding record_refusal_of
record-passes rec a = rw (header_passes 2 2048 rec a.header, a.finished)

-- no number above 8
pub record-number : (rec : List ℕ) → record_refusal_of rec ≤ 8
unfolding record_refusal_of
record-number rec = go (header_test 2 2049 rec) (is_finished (record_r rec)) (header_number 2 2049 rec)
  where
    go : (n : ℕ) (t : Bool) → n ≤ 2 → first n (fails_unless t 8) ≤ 8
    go zero true h = omega arith
    go zero false h = omega arith
    go (suc n) t h = omega arith
