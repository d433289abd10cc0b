-- A yes does not promise U6's clause: two records that get yes, in which R's columns lie farther off than the limit. Assumes nothing.
use Rattle.std.specs.Prelude.{List, ℕ}
use Rattle.words.specs.Words.{Bytes}
use Rattle.matrix_record.specs.MatrixRecord.{real_entry_of}
use Rattle.result_record.specs.ResultRecord.{record_r}
use Rattle.verify_laws.specs.Answers.{Yes, Columns}

pub record YesWithoutColumns : Type 0 where
  pub matrix : List ℕ
  pub result : List ℕ
  pub matrix_bytes_lem : Bytes matrix
  pub result_bytes_lem : Bytes result
  pub yes : Yes matrix result
  pub columns : Columns (real_entry_of matrix) (record_r result) → ⊥
