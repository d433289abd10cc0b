-- What a refused call answers, by the refusal: its reply, and the desk and every lent buffer as they were. Assumes nothing.
use Rattle.std.proofs.Common.{◌≡◌, ℕ, zero, suc, Bool, List}
use lib.IntN.{ℤ}
use Rattle.std.specs.Prelude.{Err}
use Rattle.refusals.specs.declared.Refusal.{Refusal}
use Rattle.refusals.specs.Outcomes.{number_of}
use Rattle.refusals.proofs.Outcomes.{numbers_nonzero}
use Rattle.desk.specs.declared.Desk.{Desk}
use Rattle.desk.specs.declared.DeskReply.{DeskReply}
use Rattle.desk.specs.Replies.{desk_load_reply, desk_run_reply, desk_heard_reply}
use Rattle.desk.specs.HandIn.{hand_in_by}
use Rattle.desk.specs.Run.{desk_run_by}
use Rattle.desk.specs.Fetch.{DeskFetchOutcome, desk_fetch_by}
use Rattle.desk.specs.Heard.{desk_heard_by}
use Rattle.desk.specs.Rounds.{begin_by}
use Rattle.desk.specs.Shares.{set_shares_by}

module _ (refusal : Refusal) where
  pub hand_in_refused : (n : ℕ) (must : Bool) (desk : Desk) (sector : ℕ) (rec : List ℕ) (area : List ℤ) → number_of refusal ≡ n
      → record { reply = desk_load_reply desk (Err refusal); area = area } ≡ hand_in_by n must desk sector rec area
  unfolding hand_in_by
  hand_in_refused zero must desk sector rec area h = absurd (numbers_nonzero refusal h)
  hand_in_refused (suc n) must desk sector rec area h = rw h

  pub run_refused : (n : ℕ) (desk : Desk) (sector request : ℕ) (area : List ℤ) → number_of refusal ≡ n
      → record { reply = desk_run_reply desk (Err refusal); area = area } ≡ desk_run_by n desk sector request area
  unfolding desk_run_by
  run_refused zero desk sector request area h = absurd (numbers_nonzero refusal h)
  run_refused (suc n) desk sector request area h = rw h

  pub fetch_refused : (n : ℕ) (brought : Bool) (desk : Desk) (sector : ℕ) (area : List ℤ) (buffer : List ℕ) → number_of refusal ≡ n
      → ◌≡◌ {A = DeskFetchOutcome} (record { reply = record { desk = desk; number = number_of refusal }; area = area; buffer = buffer }) (desk_fetch_by n brought desk sector area buffer)
  unfolding desk_fetch_by
  fetch_refused zero brought desk sector area buffer h = absurd (numbers_nonzero refusal h)
  fetch_refused (suc n) brought desk sector area buffer h = rw h

  pub heard_refused : (n : ℕ) (desk : Desk) (sector : ℕ) → number_of refusal ≡ n → desk_heard_reply desk (Err refusal) ≡ desk_heard_by n desk sector
  unfolding desk_heard_by
  heard_refused zero desk sector h = absurd (numbers_nonzero refusal h)
  heard_refused (suc n) desk sector h = rw h

  pub begin_refused : (n : ℕ) (desk : Desk) → number_of refusal ≡ n → ◌≡◌ {A = DeskReply} (record { desk = desk; number = number_of refusal }) (begin_by n desk)
  unfolding begin_by
  begin_refused zero desk h = absurd (numbers_nonzero refusal h)
  begin_refused (suc n) desk h = rw h

  pub set_shares_refused : (n : ℕ) (desk : Desk) (shares : List ℕ) → number_of refusal ≡ n → ◌≡◌ {A = DeskReply} (record { desk = desk; number = number_of refusal }) (set_shares_by n desk shares)
  unfolding set_shares_by
  set_shares_refused zero desk shares h = absurd (numbers_nonzero refusal h)
  set_shares_refused (suc n) desk shares h = rw h
