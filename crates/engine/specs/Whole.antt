-- Whole: what it answers and what it leaves in the workspace and the buffer, on all inputs. Assumes nothing.
use Rattle.std.specs.Prelude.{ℕ, zero, suc, List, ℤ, Result, Ok, Err}
use Rattle.lists.specs.Lists.{filled}
use Rattle.refusals.specs.Refusals.{first, header_test, buffer_test}
use Rattle.refusals.specs.declared.Refusal.{Refusal}
use Rattle.refusals.specs.Outcomes.{number_of}
use Rattle.matrix_record.specs.MatrixRecord.{matrix_tag, matrix_bytes, matrix_test, heard_byte_of}
use Rattle.result_record.specs.ResultRecord.{result_bytes, result_byte}
use Rattle.schedule.specs.Schedule.{rotation_count}
use Rattle.workspace.specs.Workspace.{workspace_test, R, Q}
use Rattle.workspace.specs.Loading.{loaded_words}
use Rattle.workspace.specs.Rotations.{words_after, saturations_counted}
use Rattle.engine.specs.declared.whole.Factored.{Factored}
use Rattle.engine.specs.declared.whole.WholeReply.{WholeReply}

pub record WholeOutcome : Type 0 where
  pub reply : WholeReply
  pub workspace : List ℤ
  pub buffer : List ℕ

-- the reply of an outcome: its values, or the refusal's number alone
abbrev pub whole_reply : Result Factored Refusal → WholeReply
whole_reply (Ok factored) = record { number = 0; heard = factored.heard; clamps_r = factored.clamps.r; clamps_q = factored.clamps.q }
whole_reply (Err refusal) = record { number = number_of refusal; heard = 0; clamps_r = 0; clamps_q = 0 }

-- tests 1, 2, 3, 7, 4
unfoldable pub whole_refusal_of : List ℕ → List ℤ → List ℕ → ℕ
whole_refusal_of rec workspace buffer =
    first (header_test matrix_tag matrix_bytes rec) (first (workspace_test workspace) (first (buffer_test result_bytes buffer) (matrix_test rec)))

-- the workspace is left as Load and the 120 turns make it, and the buffer holds the record of its R and Q; the clamps are those of each side
-- (document 02, U1)
unfoldable pub whole_done : List ℕ → List ℤ → List ℕ → WholeOutcome
whole_done rec workspace buffer =
    let loaded = loaded_words rec workspace in
    let words = words_after 0 rotation_count loaded in
    let saturations = saturations_counted 0 rotation_count loaded in
    record {
      reply = record { number = 0; heard = heard_byte_of rec; clamps_r = saturations.r; clamps_q = saturations.q };
      workspace = words;
      buffer = filled result_bytes (result_byte (R words) (Q words)) buffer;
    }

-- by the number of the tests; a refusal answers its number alone, other fields 0, and changes nothing
unfoldable pub whole_by : ℕ → List ℕ → List ℤ → List ℕ → WholeOutcome
whole_by zero rec workspace buffer = whole_done rec workspace buffer
whole_by (suc n) rec workspace buffer = record { reply = record { number = suc n; heard = 0; clamps_r = 0; clamps_q = 0 }; workspace = workspace; buffer = buffer }

unfoldable pub whole_of : List ℕ → List ℤ → List ℕ → WholeOutcome
whole_of rec workspace buffer = whole_by (whole_refusal_of rec workspace buffer) rec workspace buffer
