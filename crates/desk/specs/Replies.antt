-- What a call's outcome is in the C interface: the desk after the call, the refusal's number, 0 for none, and the call's fields, all 0 where it refuses.
-- Assumes nothing.
use Rattle.std.specs.Prelude.{ℕ, Result, Ok, Err}
use Rattle.refusals.specs.declared.Refusal.{Refusal}
use Rattle.refusals.specs.Outcomes.{number_of, outcome_number}
use Rattle.engine.specs.Job.{no_job}
use Rattle.engine.specs.declared.run.Ran.{Ran}
use Rattle.desk.specs.declared.Desk.{Desk}
use Rattle.desk.specs.declared.DeskReply.{DeskReply}
use Rattle.desk.specs.declared.hand_in.HandedIn.{HandedIn}
use Rattle.desk.specs.declared.hand_in.DeskLoadReply.{DeskLoadReply}
use Rattle.desk.specs.declared.heard.DeskHeardReply.{DeskHeardReply}
use Rattle.desk.specs.declared.run.DeskRunReply.{DeskRunReply}

abbrev pub desk_reply : {A : Type 0} → Desk → Result A Refusal → DeskReply
desk_reply desk outcome = record { desk = desk; number = outcome_number outcome }

abbrev pub desk_load_reply : Desk → Result HandedIn Refusal → DeskLoadReply
desk_load_reply desk (Ok handed) = record { desk = desk; number = 0; heard = handed.heard; job = handed.job }
desk_load_reply desk (Err refusal) = record { desk = desk; number = number_of refusal; heard = 0; job = no_job }

abbrev pub desk_run_reply : Desk → Result Ran Refusal → DeskRunReply
desk_run_reply desk (Ok ran) = record { desk = desk; number = 0; job = ran.job; count = ran.count; clamps_r = ran.clamps.r; clamps_q = ran.clamps.q }
desk_run_reply desk (Err refusal) = record { desk = desk; number = number_of refusal; job = no_job; count = 0; clamps_r = 0; clamps_q = 0 }

abbrev pub desk_heard_reply : Desk → Result ℕ Refusal → DeskHeardReply
desk_heard_reply desk (Ok heard) = record { desk = desk; number = 0; heard = heard }
desk_heard_reply desk (Err refusal) = record { desk = desk; number = number_of refusal; heard = 0 }
