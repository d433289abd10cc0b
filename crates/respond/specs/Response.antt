-- Document 01: the program `qr` does Whole, and writes the result record, or the refusal record. The workspace of 512 words and the buffer of 2,049
-- bytes are its own. Assumes nothing.
use Rattle.std.specs.Prelude.{◌≡◌, refl, List, [], ◌∷◌, ℕ, zero, suc, pos, replicate}
use Rattle.refusals.specs.Refusals.{header_test, refusal_record_of}
use Rattle.result_record.specs.ResultRecord.{result_bytes}
use Rattle.workspace.specs.Workspace.{workspace_words}
use Rattle.engine.specs.Whole.{whole_refusal_of, whole_by, whole_of}

-- by Whole's number: what it left in the buffer, or the refusal record
abbrev pub response_by : ℕ → List ℕ → List ℕ
response_by zero buffer = buffer
response_by (suc n) buffer = refusal_record_of (suc n)

unfoldable pub response : List ℕ → List ℕ
response rec =
    let o = whole_of rec (replicate workspace_words (pos 0)) (replicate result_bytes 0) in
    response_by o.reply.number o.buffer

-- with empty input the whole output is 03 01
pub empty : response [] ≡ 3 ∷ 1 ∷ []
unfolding response whole_of whole_by whole_refusal_of header_test
empty = refl
