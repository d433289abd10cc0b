-- Fetch for a sector, which for the operator brings in the matrix that waits (document 02, U11 and U12): what it answers and what it leaves in the area and the
-- buffer, on all inputs. Assumes nothing.
use Rattle.std.specs.Prelude.{ℕ, zero, suc, Bool, true, false, ◌&&◌, List, ℤ}
use Rattle.refusals.specs.Refusals.{first}
use Rattle.engine.specs.Fetch.{fetch_refusal_of, fetch_by}
use Rattle.desk.specs.declared.Desk.{Desk}
use Rattle.desk.specs.declared.DeskReply.{DeskReply}
use Rattle.desk.specs.Desk.{job_at_of, waits_at_of, waiting_at, Loaded, loaded}
use Rattle.desk.specs.Roles.{may_fetch_of, may_operate_of, admission_test}

pub record DeskFetchOutcome : Type 0 where
  pub reply : DeskReply
  pub area : List ℤ
  pub buffer : List ℕ

-- tests 15 and 12, and then the engine's tests for Fetch
unfoldable pub desk_fetch_refusal : ℕ → Desk → ℕ → List ℤ → List ℕ → ℕ
desk_fetch_refusal role desk sector area buffer = first (admission_test (may_fetch_of role) sector) (fetch_refusal_of (job_at_of desk sector) area buffer)

-- whether one is brought in: one waits, and the role is the operator's. A fitter's Fetch never brings one in
abbrev pub brings : ℕ → Desk → ℕ → Bool
brings role desk sector = may_operate_of role && waits_at_of desk sector

-- by that: it is loaded in the place of the one that was fetched. It was tested when it was handed in, and is not tested again
abbrev pub brought_in : Bool → Desk → ℕ → List ℤ → Loaded
brought_in true desk sector area = loaded desk sector (waiting_at desk sector) area
brought_in false desk sector area = record { desk = desk; area = area }

-- by the number of the tests, and by whether one is brought in. The engine's Fetch is done and the one that waits brought in, or nothing is done
unfoldable pub desk_fetch_by : ℕ → Bool → Desk → ℕ → List ℤ → List ℕ → DeskFetchOutcome
desk_fetch_by zero b desk sector area buffer =
    let o = brought_in b desk sector area in
    record { reply = record { desk = o.desk; number = 0 }; area = o.area; buffer = (fetch_by 0 area buffer).buffer }
desk_fetch_by (suc n) b desk sector area buffer = record { reply = record { desk = desk; number = suc n }; area = area; buffer = buffer }

unfoldable pub desk_fetch_of : ℕ → Desk → ℕ → List ℤ → List ℕ → DeskFetchOutcome
desk_fetch_of role desk sector area buffer = desk_fetch_by (desk_fetch_refusal role desk sector area buffer) (brings role desk sector) desk sector area buffer
