-- What reading a result record puts into the workspace: R's words into columns 0 to 15, and Q's, transposed, into columns 16 to 31. Assumes nothing.
use Rattle.std.specs.Prelude.{ℕ, ◌-◌, ◌/◌, ◌%◌, cond, List, ltb, ℤ}
use Rattle.integers.specs.Matrix.{Matrix}
use Rattle.lists.specs.Lists.{filled}
use Rattle.result_record.specs.ResultRecord.{record_r, record_q}
use Rattle.rotation.specs.Column.{row_words}
use Rattle.workspace.specs.Workspace.{workspace_words}

-- the word at row i, column j
unfoldable pub read_at : List ℕ → Matrix
read_at rec i j = cond (ltb j 16) (record_r rec i j) (record_q rec (j - 16) i)

abbrev pub read_word_of : List ℕ → ℕ → ℤ
read_word_of rec k = read_at rec (k / row_words) (k % row_words)

-- the first 512 words are filled, the rest is as before
abbrev pub read_words : List ℕ → List ℤ → List ℤ
read_words rec workspace = filled workspace_words (read_word_of rec) workspace
