-- Document 02, U14: what a call on the log answers, and what it leaves in the buffer. Assumes nothing.
use Rattle.std.specs.Prelude.{ℕ, zero, suc, List}
use Rattle.journal.specs.declared.LogReply.{LogReply}

pub record LogOutcome : Type 0 where
  pub reply : LogReply
  pub buffer : List ℕ

-- a refusal answers its number alone, 0 for the used count, and changes no byte
abbrev pub log_refused : ℕ → List ℕ → LogOutcome
log_refused number buffer = record { reply = record { number = number; used = 0 }; buffer = buffer }

-- the used count that the caller has after a call, by its number: the one that was answered, and after a refusal the old one
abbrev pub used_after_of : ℕ → ℕ → ℕ → ℕ
used_after_of zero answered old = answered
used_after_of (suc n) answered old = old
