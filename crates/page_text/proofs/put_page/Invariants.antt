-- The first i rows stand in their lines.
use Rattle.std.proofs.Common.{ℕ, List}
use Rattle.lists.proofs.Joined.{Joining}
use Rattle.result_record.specs.ResultRecord.{record_r}
use Rattle.page_text.specs.Page.{line_of}
use Rattle.page_text.proofs.put_page.Given as goal

-- the lines of a record's R
abbrev pub lines : List ℕ → ℕ → List ℕ
lines rec i = line_of (record_r rec i)

abbrev pub invariant-loop-i : goal.invariant-loop-i
invariant-loop-i l = Joining 193 (lines l.bytes) l.initial.page l.i l.page
