-- Document 01, "The words": what loading a matrix record puts into the workspace. Assumes nothing.
use Rattle.std.specs.Prelude.{ℕ, ◌+◌, ◌/◌, ◌%◌, ◌^◌, cond, List, ltb, eqb, ℤ, pos, ◌*ℤ◌}
use Rattle.integers.specs.Matrix.{Matrix}
use Rattle.lists.specs.Lists.{filled}
use Rattle.matrix_record.specs.MatrixRecord.{real_entry_of}
use Rattle.rotation.specs.Column.{row_words}
use Rattle.workspace.specs.Workspace.{workspace_words}

-- the word at row i, column j: the entry times 2^13, and beside it the identity with 2^30 for one
unfoldable pub loaded_at : List ℕ → Matrix
loaded_at rec i j =
    cond (ltb j 16) (real_entry_of rec i j *ℤ pos (2 ^ 13)) (cond (eqb j (i + 16)) (pos (2 ^ 30)) (pos 0))

abbrev pub loaded_word_of : List ℕ → ℕ → ℤ
loaded_word_of rec k = loaded_at rec (k / row_words) (k % row_words)

-- the first 512 words are filled, the rest is as before
abbrev pub loaded_words : List ℕ → List ℤ → List ℤ
loaded_words rec workspace = filled workspace_words (loaded_word_of rec) workspace
