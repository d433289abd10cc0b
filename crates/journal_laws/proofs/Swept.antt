-- A sweep of any log, by the entries that it holds. Assumes nothing.
use mathlib.Core.Path.{◌≡◌, ap, ◌∙◌}
use mathlib.Core.List.{List, ◌++◌}
use mathlib.Core.Option.{some}
use Prim.Native.Nat.{ℕ}
use native.Mathlib.Omega.{arith}
use lib.ListN.{length, drop, length-append, length-drop}
use lib.Seq.{drop-append_seam}
use Rattle.journal.specs.Entry.{Entry, log_bytes}
use Rattle.journal.specs.Held.{held}
use Rattle.journal.specs.Retention.{keep}
use Rattle.journal.specs.Sweep.{log_sweep_by, log_sweep_of}
use Rattle.journal.proofs.Sweeping.{held-parts}
use Rattle.journal_laws.specs.Swept.{AllSwept, SweptRemains}
use Rattle.journal_laws.proofs.Format.{held_front, held_sound, held-used}
use Rattle.journal_laws.proofs.Keeping.{before-kept, kept-before, keep_append, kept_was, was_kept, keep_twice, keep_sound, kept_shorter}

-- what a sweep answers and leaves where the log holds these entries
pub sweep_some : (day used : ℕ) (buffer : List ℕ) (es : List Entry) → held used buffer ≡ some es → log_sweep_of day used buffer ≡ log_sweep_by day (some es) buffer
unfolding log_sweep_of
sweep_some day used buffer es h = ap (λ o. log_sweep_by day o buffer) h

-- entries that all stay, in front of a buffer, are left as they are
sweep_all_stay : (day : ℕ) (es : List Entry) (ys : List ℕ) → keep day es ≡ es
    → log_sweep_by day (some es) (log_bytes es ++ ys) ≡ record { reply = record { number = 0; used = length (log_bytes es) }; buffer = log_bytes es ++ ys }
unfolding log_sweep_by
sweep_all_stay day es ys k =
    rw k (ap (λ (t : List ℕ). record { reply = record { number = 0; used = length (log_bytes es) }; buffer = log_bytes es ++ t }) (drop-append_seam (log_bytes es) ys))

pub swept : AllSwept
unfolding log_sweep_by
swept day used buffer es h =
    let o = sweep_some day used buffer es h in
    let kept = log_bytes (keep day es) in
    let n = length kept in
    let k = kept_shorter day es in
    let u = held-used used buffer es h in
    let r = (held-parts used buffer es h).room in
    let d = length-drop n buffer in
    let holds : held n (kept ++ drop n buffer) ≡ some (keep day es) = held_front (keep day es) (drop n buffer) (keep_sound day es (held_sound used buffer es h)) in
    record {
      accepted = rw o;
      holds = rw o holds;
      order = λ front back e. ap (keep day) e ∙ keep_append day front back;
      stays = λ e p l. was_kept day es e p (kept-before day e l);
      goes = λ e p. ((kept_was day es e p).0, before-kept day e (kept_was day es e p).1);
      rest = rw o (drop-append_seam kept (drop n buffer));
      size = rw o (length-append kept (drop n buffer) ∙ omega arith);
      shrinks = rw o (omega arith);
      again =
          rw o
          (sweep_some day n (kept ++ drop n buffer) (keep day es) holds ∙ sweep_all_stay day (keep day es) (drop n buffer) (keep_twice day es));
    }

pub swept_remains : SweptRemains
unfolding log_sweep_by log_bytes
swept_remains day used buffer es h none =
    rw (sweep_some day used buffer es h, none)
