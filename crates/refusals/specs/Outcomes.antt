-- The number of a refusal, and of an outcome: what a reply carries. Assumes nothing.
use Rattle.std.specs.Prelude.{ℕ, Result, Ok, Err}
use Rattle.refusals.specs.declared.Refusal.{Refusal}
use Rattle.refusals.specs.declared.Refusal.TheVariants.{WrongTag, WrongLength, ShortWorkspace, NoneHeard, NoSuchJob, Unfinished, ShortBuffer, NotTriangular, NoneAdded, SumsOutOfRange, ZeroDiagonal, NoSuchSector, CountUsedUp, SharesExceedRound, NotAllowed, BrokenLog, NoRoom}
use Rattle.refusals.specs.Refusals.{wrong_tag, wrong_length, short_workspace, none_heard, no_such_job, unfinished, short_buffer, not_triangular, none_added, sums_out_of_range, zero_diagonal, no_such_sector, count_used_up, shares_exceed_round, not_allowed, broken_log, no_room}

abbrev pub number_of : Refusal → ℕ
number_of WrongTag = wrong_tag
number_of WrongLength = wrong_length
number_of ShortWorkspace = short_workspace
number_of NoneHeard = none_heard
number_of NoSuchJob = no_such_job
number_of Unfinished = unfinished
number_of ShortBuffer = short_buffer
number_of NotTriangular = not_triangular
number_of NoneAdded = none_added
number_of SumsOutOfRange = sums_out_of_range
number_of ZeroDiagonal = zero_diagonal
number_of NoSuchSector = no_such_sector
number_of CountUsedUp = count_used_up
number_of SharesExceedRound = shares_exceed_round
number_of NotAllowed = not_allowed
number_of BrokenLog = broken_log
number_of NoRoom = no_room

-- 0 for none
abbrev pub outcome_number : {A : Type 0} → Result A Refusal → ℕ
outcome_number (Ok value) = 0
outcome_number (Err refusal) = number_of refusal
