-- An accepted Whole is Load, a Run of 120 and a Fetch, so demand 3 holds for it too. Assumes nothing.
use mathlib.Core.Path.{◌≡◌, refl, sym, ap, ◌∙◌}
use mathlib.Core.List.{List, [], ◌∷◌, ◌++◌}
use Prim.Native.Nat.{ℕ, ◌≤◌}
use native.Mathlib.Omega.{arith}
use lib.ListN.{length, drop}
use Rattle.lists.specs.Lists.{filled}
use Rattle.lists.specs.Histories.{after_all}
use Rattle.matrix_record.specs.MatrixRecord.{real_entry_of, heard_byte_of}
use Rattle.result_record.specs.ResultRecord.{result_record_of}
use Rattle.workspace.specs.Workspace.{R, Q}
use Rattle.engine.specs.declared.whole.WholeReply.{WholeReply}
use Rattle.engine.specs.Load.{load_of, load_by}
use Rattle.engine.specs.Job.{loaded_job}
use Rattle.engine.specs.Run.{RunOutcome, run_done}
use Rattle.engine.specs.Whole.{WholeOutcome, whole_refusal_of, whole_done, whole_by, whole_of}
use Rattle.engine.proofs.Accepted.{load-passes, whole-accepted}
use Rattle.accuracy.specs.Factorization.{Factorization}
use Rattle.accuracy.specs.Demand3.{run, fetch, State, fetched, Load, start, reply, Kept}
use Rattle.accuracy.specs.WholeDemand3.{whole_run, whole_fetch, whole_calls, WholeKept, WholeDemand3}
use Rattle.accuracy.proofs.Start.{first, start_is}
use Rattle.accuracy.proofs.Demand3.{fetch_written, demand3}
use Rattle.accuracy.proofs.Possible.{ended, ended_is, run_done_lem, fetch_in_step, fetch_taken}
use Rattle.accuracy.proofs.Mixed.{alone}

module _ (l : Load) (buffer : List ℕ) (space : 2049 ≤ length buffer) (passed : whole_refusal_of l.bytes l.lent buffer ≡ 0) where
  kept : Kept l (whole_calls l buffer)
  kept = demand3 l (whole_calls l buffer) (alone l buffer space).in_step

  whole_is : whole_of l.bytes l.lent buffer ≡ whole_done l.bytes l.lent buffer
  unfolding whole_of whole_by
  whole_is = rw passed

  words : (whole_of l.bytes l.lent buffer).workspace ≡ (ended l).workspace
  unfolding whole_done
  words = ap (λ (o : WholeOutcome). o.workspace) whole_is ∙ sym (ap (λ (s : State). s.workspace) (ended_is l))

  written : (whole_of l.bytes l.lent buffer).buffer ≡ fetched (ended l) (whole_fetch l buffer)
  unfolding whole_done filled result_record_of
  written =
      ap (λ (o : WholeOutcome). o.buffer) whole_is
      ∙ sym (fetch_written (ended l) (whole_fetch l buffer) (fetch_taken l buffer space) (fetch_in_step l buffer)
      ∙ ap (λ (s : State). result_record_of (R s.workspace) (Q s.workspace) ++ drop 2049 buffer) (ended_is l))

  heard : (load_of l.bytes l.lent).reply.heard ≡ heard_byte_of l.bytes
  unfolding load_of load_by
  heard = rw l.accepted

  run_reply : reply (start l) whole_run ≡ (run_done loaded_job 120 (first l)).reply
  run_reply = ap (λ (s : State). reply s whole_run) (start_is l) ∙ ap (λ (o : RunOutcome). o.reply) (run_done_lem l)

  answer : (whole_of l.bytes l.lent buffer).reply
      ≡ record { number = 0; heard = (load_of l.bytes l.lent).reply.heard; clamps_r = (reply (start l) whole_run).clamps_r; clamps_q = (reply (start l) whole_run).clamps_q }
  unfolding whole_done run_done
  answer = ap (λ (o : WholeOutcome). o.reply) whole_is ∙ rw (heard, run_reply)

  no_clamps : ((whole_of l.bytes l.lent buffer).reply.clamps_r ≡ 0) × ((whole_of l.bytes l.lent buffer).reply.clamps_q ≡ 0)
  unfolding after_all
  no_clamps =
      let none = kept.no_run_clamps whole_run (record { before = []; rest = fetch (whole_fetch l buffer) ∷ []; is = refl }) in
      (ap (λ (w : WholeReply). w.clamps_r) answer ∙ none.0, ap (λ (w : WholeReply). w.clamps_q) answer ∙ none.1)

  factored : Factorization (real_entry_of l.bytes) (R (whole_of l.bytes l.lent buffer).workspace) (Q (whole_of l.bytes l.lent buffer).workspace)
  unfolding after_all
  factored =
      let g : (ended l).granted ≡ 120 = ap (λ (s : State). s.granted) (ended_is l) in
      rw words (kept.factored (record { before = run whole_run ∷ []; rest = fetch (whole_fetch l buffer) ∷ []; is = refl }) (omega (arith, g)))

  whole-kept : WholeKept l buffer
  unfolding after_all
  whole-kept = record {
    kept = kept;
    accepted = fetch_taken l buffer space;
    answer = answer;
    words = words;
    written = written;
    no_clamps = no_clamps;
    factored = factored;
  }

pub whole_demand3 : WholeDemand3
whole_demand3 bytes lent buffer small passed =
    let a = whole-accepted bytes lent buffer passed in
    let b = load-passes bytes lent a.load in
    (b, whole-kept (record { bytes = bytes; lent = lent; small = small; accepted = b }) buffer a.space passed)
