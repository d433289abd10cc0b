-- Document 02, U11: the hand-in of a matrix, in the place of Load: what it answers and what it leaves in the area, on all inputs. Assumes nothing.
use Rattle.std.specs.Prelude.{ℕ, zero, suc, Bool, true, false, ◌||◌, List, ltb, ℤ}
use Rattle.refusals.specs.Refusals.{first}
use Rattle.schedule.specs.Schedule.{rotation_count}
use Rattle.matrix_record.specs.MatrixRecord.{heard_byte_of}
use Rattle.engine.specs.Job.{loaded_job, no_job}
use Rattle.engine.specs.Load.{load_refusal_of}
use Rattle.desk.specs.declared.Desk.{Desk}
use Rattle.desk.specs.declared.hand_in.DeskLoadReply.{DeskLoadReply}
use Rattle.desk.specs.Desk.{job_at_of, heard_at_of, waits_at_of, kept, loaded}
use Rattle.desk.specs.Roles.{may_operate_of, admission_test}

pub record HandInOutcome : Type 0 where
  pub reply : DeskLoadReply
  pub area : List ℤ

-- tests 15 and 12, and then the engine's tests for Load, with the area that is lent, also where the matrix only waits
unfoldable pub hand_in_refusal_of : ℕ → ℕ → List ℕ → List ℤ → ℕ
hand_in_refusal_of role sector rec area = first (admission_test (may_operate_of role) sector) (load_refusal_of rec area)

-- one waits already, or the sector's job is unfinished
unfoldable pub must_wait_of : Desk → ℕ → Bool
must_wait_of desk sector = waits_at_of desk sector || ltb (job_at_of desk sector).turn rotation_count

-- one that waits: the sector's job and heard byte are answered as they stand
abbrev pub kept_reply : Desk → ℕ → List ℕ → DeskLoadReply
kept_reply desk sector rec = record { desk = kept desk sector rec; number = 0; heard = heard_at_of desk sector; job = job_at_of desk sector }

-- by that number, and by whether the matrix must wait: it waits, in the place of one that waited, and the area is as it was; or it is loaded directly. A refusal
-- answers its number and the desk as it was, other fields 0, and changes nothing
unfoldable pub hand_in_by : ℕ → Bool → Desk → ℕ → List ℕ → List ℤ → HandInOutcome
hand_in_by zero true desk sector rec area = record { reply = kept_reply desk sector rec; area = area }
hand_in_by zero false desk sector rec area =
    let o = loaded desk sector rec area in
    record { reply = record { desk = o.desk; number = 0; heard = heard_byte_of rec; job = loaded_job }; area = o.area }
hand_in_by (suc n) must desk sector rec area = record { reply = record { desk = desk; number = suc n; heard = 0; job = no_job }; area = area }

unfoldable pub hand_in_of : ℕ → Desk → ℕ → List ℕ → List ℤ → HandInOutcome
hand_in_of role desk sector rec area = hand_in_by (hand_in_refusal_of role sector rec area) (must_wait_of desk sector) desk sector rec area
