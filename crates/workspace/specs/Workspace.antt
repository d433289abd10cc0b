-- Document 01, "Work area": the workspace is a lent slice of 32-bit words, 16 rows of 32 columns. Columns 0 to 15 hold R in the making, and columns 16
-- to 31 Q transposed. A longer one is allowed. Assumes nothing.
use Rattle.std.specs.Prelude.{ℕ, ◌+◌, ◌*◌, List, ltb, ℤ, pos, length, get_or}
use Rattle.integers.specs.Matrix.{Matrix}
use Rattle.rotation.specs.Column.{row_words}
use Rattle.refusals.specs.Refusals.{short_workspace, fails_if}

-- the words of a workspace (document 01's work area) that are worked on; what stands behind them is never touched
abbrev pub workspace_words : ℕ
workspace_words = 512

-- 3: under 512 words
abbrev pub workspace_test : List ℤ → ℕ
workspace_test workspace = fails_if (ltb (length workspace) workspace_words) short_workspace

-- the word at row i, column j
unfoldable pub word_in : List ℤ → Matrix
word_in workspace i j = get_or workspace (i * row_words + j) (pos 0)

-- R's word (i, j) is row i, column j
unfoldable pub R : List ℤ → Matrix
R workspace i j = word_in workspace i j

-- Q's word (i, j) is row j, column 16 + i
unfoldable pub Q : List ℤ → Matrix
Q workspace i j = word_in workspace j (16 + i)
