-- Calls one after the other, each on the words and the job, on the sums, on the log or on the desk, that the one before left: all replies, and what is left
-- in every lent buffer, on all inputs. Assumes nothing.
use Rattle.std.specs.Prelude.{List, ℕ, ℤ}
use Rattle.engine.specs.Load.{load_of}
use Rattle.engine.specs.Run.{run_of}
use Rattle.engine.specs.Fetch.{fetch_of}
use Rattle.engine.specs.Read.{read_of}
use Rattle.engine.specs.Whole.{whole_of}
use Rattle.covariance.specs.declared.Sample.{Sample}
use Rattle.covariance.specs.Sums.{sums_none_of}
use Rattle.covariance.specs.AddSnapshot.{add_of}
use Rattle.covariance.specs.WriteMatrix.{write_of}
use Rattle.weights.specs.Weights.{weights_of}
use Rattle.verify.specs.Verify.{verdict_of}
use Rattle.journal.specs.Outcome.{used_after_of}
use Rattle.journal.specs.Add.{log_add_of}
use Rattle.journal.specs.Sweep.{log_sweep_of}
use Rattle.journal.specs.Next.{log_next_of}
use Rattle.desk.specs.declared.Desk.{Desk}
use Rattle.desk.specs.Desk.{new_desk}
use Rattle.desk.specs.Roles.{viewer, operator}
use Rattle.desk.specs.HandIn.{hand_in_of}
use Rattle.desk.specs.Run.{desk_run_of}
use Rattle.desk.specs.Fetch.{desk_fetch_of}
use Rattle.desk.specs.Heard.{desk_heard_of}
use Rattle.desk.specs.Rounds.{begin_of}
use Rattle.desk.specs.Shares.{set_shares_of}
use Rattle.caller.specs.declared.HalvesReply.{HalvesReply}
use Rattle.caller.specs.declared.AgainReply.{AgainReply}
use Rattle.caller.specs.declared.CopyReply.{CopyReply}
use Rattle.caller.specs.declared.PairReply.{PairReply}
use Rattle.caller.specs.declared.WeighedReply.{WeighedReply}
use Rattle.caller.specs.declared.VerifiedReply.{VerifiedReply}
use Rattle.caller.specs.declared.DailyReply.{DailyReply}
use Rattle.caller.specs.declared.ServedReply.{ServedReply}
use Rattle.caller.specs.declared.RoundReply.{RoundReply}

pub record HalvesOutcome : Type 0 where
  pub reply : HalvesReply
  pub workspace : List ℤ
  pub buffer : List ℕ

-- Load, Run with an allowance of 60, Run with 60 from where that ended, and Fetch
unfoldable pub halves_of : List ℕ → List ℤ → List ℕ → HalvesOutcome
halves_of rec workspace buffer =
    let loaded = load_of rec workspace in
    let half = run_of loaded.reply.job 60 loaded.workspace in
    let end = run_of half.reply.job 60 half.workspace in
    let fetched = fetch_of end.reply.job end.workspace buffer in
    record {
      reply = record { load = loaded.reply; first = half.reply; second = end.reply; number = fetched.number };
      workspace = end.workspace;
      buffer = fetched.buffer;
    }

pub record AgainOutcome : Type 0 where
  pub reply : AgainReply
  pub workspace : List ℤ
  pub buffer : List ℕ

-- Read, and Fetch
unfoldable pub again_of : List ℕ → List ℤ → List ℕ → AgainOutcome
again_of rec workspace buffer =
    let taken = read_of rec workspace in
    let fetched = fetch_of taken.reply.job taken.workspace buffer in
    record { reply = record { read = taken.reply; number = fetched.number }; workspace = taken.workspace; buffer = fetched.buffer }

pub record CopyOutcome : Type 0 where
  pub reply : CopyReply
  pub workspace : List ℤ
  pub buffer : List ℕ
  pub copy : List ℕ

-- Whole, and Fetch with the job (120, 0) into another buffer
unfoldable pub copy_of : List ℕ → List ℤ → List ℕ → List ℕ → CopyOutcome
copy_of rec workspace buffer copy =
    let done = whole_of rec workspace buffer in
    let fetched = fetch_of (record { turn = 120; made = 0 }) done.workspace copy in
    record { reply = record { whole = done.reply; number = fetched.number }; workspace = done.workspace; buffer = done.buffer; copy = fetched.buffer }

pub record PairOutcome : Type 0 where
  pub reply : PairReply
  pub buffer : List ℕ

-- two snapshots added to none, and the record of the sums
unfoldable pub pair_of : List Sample → List Sample → List ℕ → PairOutcome
pair_of first second buffer =
    let one = add_of first sums_none_of in
    let two = add_of second one.sums in
    let written = write_of two.sums buffer in
    record { reply = record { first = one.number; second = two.number; written = written.number }; buffer = written.buffer }

pub record WeighedOutcome : Type 0 where
  pub reply : WeighedReply
  pub workspace : List ℤ
  pub buffer : List ℕ

-- Whole, and the weights of what the buffer then holds
unfoldable pub weighed_of : List ℕ → List Sample → List ℤ → List ℕ → WeighedOutcome
weighed_of rec targets workspace buffer =
    let done = whole_of rec workspace buffer in
    record { reply = record { whole = done.reply; weights = weights_of done.buffer targets }; workspace = done.workspace; buffer = done.buffer }

pub record VerifiedOutcome : Type 0 where
  pub reply : VerifiedReply
  pub workspace : List ℤ
  pub buffer : List ℕ

-- Whole, and the verdict on what the buffer then holds
unfoldable pub verified_of : List ℕ → List ℤ → List ℕ → VerifiedOutcome
verified_of rec workspace buffer =
    let done = whole_of rec workspace buffer in
    record { reply = record { whole = done.reply; verdict = verdict_of rec done.buffer }; workspace = done.workspace; buffer = done.buffer }

pub record DailyOutcome : Type 0 where
  pub reply : DailyReply
  pub buffer : List ℕ

-- a sweep, an add behind what stays, and the reader at place 0
unfoldable pub daily_of : ℕ → ℕ → List ℕ → ℕ → List ℕ → DailyOutcome
daily_of kind day body used buffer =
    let swept = log_sweep_of day used buffer in
    let end = used_after_of swept.reply.number swept.reply.used used in
    let added = log_add_of kind day body end swept.buffer in
    let last = used_after_of added.reply.number added.reply.used end in
    record { reply = record { swept = swept.reply; added = added.reply; first = log_next_of 0 last added.buffer }; buffer = added.buffer }

pub record ServedOutcome : Type 0 where
  pub reply : ServedReply
  pub area : List ℤ
  pub buffer : List ℕ

-- at a new desk, by the operator: shares for all, and the begin of a round; for one sector both hand-ins and Run with a request of 120; and Fetch by this role
unfoldable pub served_of : ℕ → List ℕ → ℕ → List ℕ → List ℕ → List ℤ → List ℕ → ServedOutcome
served_of role shares sector rec following area buffer =
    let given = set_shares_of operator new_desk shares in
    let begun = begin_of operator given.desk in
    let first = hand_in_of operator begun.desk sector rec area in
    let early = hand_in_of operator first.reply.desk sector following first.area in
    let ran = desk_run_of operator early.reply.desk sector 120 early.area in
    let fetched = desk_fetch_of role ran.reply.desk sector ran.area buffer in
    record {
      reply = record { set = given; begun = begun; first = first.reply; early = early.reply; run = ran.reply; fetch = fetched.reply };
      area = fetched.area;
      buffer = fetched.buffer;
    }

pub record RoundOutcome : Type 0 where
  pub reply : RoundReply
  pub area : List ℤ

-- at any desk: the begin of a round and Run by this role, and the heard byte for a viewer
unfoldable pub round_of : ℕ → Desk → ℕ → ℕ → List ℤ → RoundOutcome
round_of role desk sector request area =
    let begun = begin_of role desk in
    let ran = desk_run_of role begun.desk sector request area in
    record { reply = record { begun = begun; run = ran.reply; heard = desk_heard_of viewer ran.reply.desk sector }; area = ran.area }
