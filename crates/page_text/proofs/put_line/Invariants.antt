-- The first j words of the row stand in their columns.
use Rattle.std.proofs.Common.{ℕ, List}
use Rattle.lists.proofs.Joined.{Joining}
use Rattle.result_record.specs.ResultRecord.{record_r}
use Rattle.page_text.specs.Decimal.{field}
use Rattle.page_text.proofs.put_line.Given as goal

-- the words of row i in their columns
abbrev pub fields : List ℕ → ℕ → ℕ → List ℕ
fields rec i j = field (record_r rec i j)

abbrev pub invariant-loop-j : goal.invariant-loop-j
invariant-loop-j l = Joining 12 (fields l.bytes l.i) l.initial.line l.j l.line
