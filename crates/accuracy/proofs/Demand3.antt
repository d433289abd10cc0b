-- Demand 3: every list of calls whose accepted ones are in step. Assumes nothing.
use mathlib.Core.Path.{◌≡◌, refl, sym, ap, ap₂, ◌∙◌, subst}
use mathlib.Core.Logic.{◌↔◌}
use mathlib.Core.List.{List, ◌++◌}
use Prim.Native.Nat.{ℕ, zero, suc, ◌+◌, ◌-◌, ◌^◌, ◌≤◌, ◌<◌, min}
use native.Mathlib.Nat.{le_refl}
use native.Mathlib.Omega.{arith}
use lib.IntN.{ℤ, ◌-ℤ◌}
use lib.ListN.{length, drop}
use Rattle.integers.specs.Within.{Within}
use Rattle.lists.specs.Lists.{filled}
use Rattle.lists.specs.Histories.{Place, Point}
use Rattle.lists.proofs.Histories.{kept_at, kept-before}
use Rattle.rotation.specs.declared.Saturations.{Saturations}
use Rattle.rotation.specs.Saturations.{no_saturations}
use Rattle.schedule.specs.Schedule.{rotation_at_of}
use Rattle.matrix_record.specs.MatrixRecord.{real_entry_of}
use Rattle.result_record.specs.ResultRecord.{result_byte, result_record_of}
use Rattle.workspace.specs.Workspace.{R, Q, word_in}
use Rattle.workspace.specs.Rotations.{workspace_saturations, words_after, saturations_counted, turns_made}
use Rattle.engine.specs.declared.job.Job.{Job}
use Rattle.engine.specs.Run.{RunOutcome, next_job, run_done, run_by, run_of}
use Rattle.engine.specs.Fetch.{fetch_refusal_of, fetch_by, fetch_of}
use Rattle.engine.proofs.Accepted.{load-accepted, fetch_accepted, fetch_passes}
use Rattle.accuracy.specs.Factorization.{gram, Factorization}
use Rattle.accuracy.specs.Demand3.{Lent, loaded, other, RunCall, FetchCall, Call, run, fetch, State, words_of, lent_of, left_in, ran, reply, fetched, refusal, Accepted, InStep, moved, after, Load, start, found, reached, EachInStep, workspace_after, made_after, Demand3}
use Rattle.accuracy.proofs.WorkspaceAfter.{after_none, after-length, after_more, made_none, made_le, made_more, made_uncounted, more_uncounted}
use Rattle.accuracy.proofs.Loading.{loaded-room, loaded_short, loaded-bounded, loaded-factored}
use Rattle.accuracy.proofs.Finished.{finished}
use Rattle.accuracy.proofs.Start.{first, start_is}

-- ---- a Run is refused, or it is accepted

pub run_cases : (number : ℕ) (job : Job) (budget : ℕ) (l : List ℤ) (P : ℕ → RunOutcome → Type 0) → ((m : ℕ) → P (suc m) (record { reply = record { number = suc m; job = job; count = 0; clamps_r = 0; clamps_q = 0 }; workspace = l }))
    → P 0 (run_done job (min budget (120 - job.turn)) l) → P number (run_by number job budget l)
unfolding run_by
run_cases zero job budget l P refused made = made
run_cases (suc m) job budget l P refused made = refused m

-- ---- the workspace of an accepted Load

module _ (l : Load) where
  lent-room : 512 ≤ length l.lent
  lent-room = (load-accepted l.bytes l.lent l.accepted).room

  pub room : 512 ≤ length (first l)
  room = loaded-room l.bytes l.small l.lent lent-room

  -- the turns count nothing
  rotation_none : (k : ℕ) → k < 120 → workspace_saturations (rotation_at_of k) (workspace_after (first l) k) ≡ no_saturations
  rotation_none = made_uncounted (first l) room (loaded_short l.bytes l.small l.lent lent-room)

  rotations_none : (j k : ℕ) → j + k ≤ 120 → saturations_counted j k (workspace_after (first l) j) ≡ no_saturations
  rotations_none = more_uncounted (first l) room (loaded_short l.bytes l.small l.lent lent-room)

  -- the products of columns after each of them
  rotations_bounded : (k : ℕ) → k ≤ 120 → (a b : ℕ) → a < 32 → b < 32
      → Within (gram (word_in (workspace_after (first l) k)) a b -ℤ gram (word_in (first l)) a b) (2 ^ 44)
  rotations_bounded = loaded-bounded l.bytes l.small l.lent lent-room

  -- the workspace after all turns
  pub done : Factorization (real_entry_of l.bytes) (R (workspace_after (first l) 120)) (Q (workspace_after (first l) 120))
  done = loaded-factored l.bytes l.small l.lent lent-room

-- ---- what holds between two calls

pub record Standing (l : Load) (s : State) : Type 0 where
  pub workspace : s.workspace ≡ workspace_after (first l) (min 120 s.granted)
  pub turn : s.job.turn ≡ min 120 s.granted
  pub made : s.job.made ≡ made_after (first l) (min 120 s.granted)

pub standing-start : (l : Load) → Standing l (start l)
standing-start l = rw (start_is l) (record { workspace = sym (after_none (first l) (room l)); turn = refl; made = sym (made_none (first l) (room l)) })

pub left_same : (s : State) (w : Lent) → left_in s w (words_of s w) ≡ s.workspace
left_same s loaded = refl
left_same s (other x) = refl

-- a call in step is lent the workspace that Load filled, and a Run in step is handed the job that stands
in_step-words : (s : State) (c : Call) → InStep s c → words_of s (lent_of c) ≡ s.workspace
in_step-words s c e = ap (words_of s) e.0

in_step_run : (s : State) (r : RunCall) → InStep s (run r) → record { job = s.job; budget = r.budget; lent = loaded } ≡ r
in_step_run s r e = λ i. record { job = sym e.1 i; budget = r.budget; lent = sym e.0 i }

-- a Run of `budget` in step, and a Fetch
module _ (l : Load) (s : State) (h : Standing l s) where
  workspace_at : s.workspace ≡ workspace_after (first l) s.job.turn
  workspace_at = h.workspace ∙ ap (workspace_after (first l)) (sym h.turn)

  rotations : (budget : ℕ) → s.job.turn + min budget (120 - s.job.turn) ≡ min 120 (s.granted + budget)
  rotations budget = omega (arith, h.turn)

  run_words : (budget : ℕ) → words_after s.job.turn (min budget (120 - s.job.turn)) s.workspace ≡ workspace_after (first l) (min 120 (s.granted + budget))
  run_words budget =
      ap (λ (a : List ℤ). words_after s.job.turn (min budget (120 - s.job.turn)) a) workspace_at
      ∙ after_more (first l) (room l) s.job.turn (min budget (120 - s.job.turn)) ∙ ap (workspace_after (first l)) (rotations budget)

  run_made : (budget : ℕ) → s.job.made + turns_made s.job.turn (min budget (120 - s.job.turn)) s.workspace ≡ made_after (first l) (min 120 (s.granted + budget))
  run_made budget =
      ap₂ (λ (m : ℕ) (a : List ℤ). m + turns_made s.job.turn (min budget (120 - s.job.turn)) a) (h.made ∙ ap (made_after (first l)) (sym h.turn)) workspace_at
      ∙ made_more (first l) (room l) s.job.turn (min budget (120 - s.job.turn)) ∙ ap (made_after (first l)) (rotations budget)

  run_uncounted : (budget : ℕ) → saturations_counted s.job.turn (min budget (120 - s.job.turn)) s.workspace ≡ no_saturations
  run_uncounted budget =
      ap (saturations_counted s.job.turn (min budget (120 - s.job.turn))) workspace_at
      ∙ rotations_none l s.job.turn (min budget (120 - s.job.turn)) (omega (arith, h.turn))

  -- the workspace is worked to the end
  worked : 120 ≤ s.granted → s.workspace ≡ workspace_after (first l) 120
  worked k = let e : min 120 s.granted ≡ 120 = omega arith in h.workspace ∙ ap (workspace_after (first l)) e

  factored_at : 120 ≤ s.granted → Factorization (real_entry_of l.bytes) (R s.workspace) (Q s.workspace)
  factored_at k = rw (worked k) (done l)

  pub fetch_iff : (f : FetchCall) → InStep s (fetch f) → Accepted s (fetch f) ↔ ((120 ≤ s.granted) × (2049 ≤ length f.buffer))
  fetch_iff f e = rw (in_step-words s (fetch f) e, e.1) (there, back)
    where
      there : fetch_refusal_of s.job s.workspace f.buffer ≡ 0 → (120 ≤ s.granted) × (2049 ≤ length f.buffer)
      there z = let g = fetch_accepted s.job s.workspace f.buffer z in (omega (arith, h.turn, g.last), g.space)

      back : (120 ≤ s.granted) × (2049 ≤ length f.buffer) → fetch_refusal_of s.job s.workspace f.buffer ≡ 0
      back k = fetch_passes s.job s.workspace f.buffer (record {
        room = rw (worked k.0) (omega (arith, after-length (first l) (room l) 120 (le_refl 120), room l));
        last = omega (arith, h.turn, k.0);
        made = omega (arith, h.made, made_le (first l) (room l) (min 120 s.granted));
        space = k.1;
        finished = finished (real_entry_of l.bytes) (R s.workspace) (Q s.workspace) (factored_at k.0);
      })

  -- ---- a Run, in step if it is accepted
  module _ (r : RunCall) (p : Accepted s (run r) → InStep s (run r)) where
    -- it is refused, or it has the job in step and the workspace that Load filled
    by_cases : (P : RunCall → ℕ → RunOutcome → Type 0) → ((m : ℕ) → P r (suc m) (record { reply = record { number = suc m; job = r.job; count = 0; clamps_r = 0; clamps_q = 0 }; workspace = words_of s r.lent }))
        → P (record { job = s.job; budget = r.budget; lent = loaded }) 0 (run_done s.job (min r.budget (120 - s.job.turn)) s.workspace)
        → P r (refusal s (run r)) (ran s r)
    unfolding run_of
    by_cases P refused made =
        run_cases (refusal s (run r)) r.job r.budget (words_of s r.lent) (λ n o. (n ≡ 0 → InStep s (run r)) → P r n o) (λ m q. refused m) (λ q. from (q refl)) p
      where
        from : InStep s (run r) → P r 0 (run_done r.job (min r.budget (120 - r.job.turn)) (words_of s r.lent))
        from e =
            subst (λ (x : RunCall). P x 0 (run_done x.job (min x.budget (120 - x.job.turn)) (words_of s x.lent)))
            (in_step_run s r e) made

    run_standing : Standing l (after s (run r))
    unfolding run_done next_job
    run_standing = by_cases (λ x n o. Standing l (moved s x o)) (λ m. rw (left_same s r.lent) h)
        (record { workspace = run_words r.budget; turn = rotations r.budget; made = run_made r.budget })

    no_run_clamps : ((reply s r).clamps_r ≡ 0) × ((reply s r).clamps_q ≡ 0)
    unfolding run_done
    no_run_clamps = by_cases (λ x n o. (o.reply.clamps_r ≡ 0) × (o.reply.clamps_q ≡ 0)) (λ m. (refl, refl))
        (ap (λ (t : Saturations). t.r) (run_uncounted r.budget), ap (λ (t : Saturations). t.q) (run_uncounted r.budget))

    turn_number : Accepted s (run r) → (reply s r).job.turn ≡ min 120 (s.granted + r.budget)
    unfolding run_done next_job
    turn_number = by_cases (λ x n o. n ≡ 0 → o.reply.job.turn ≡ min 120 (s.granted + x.budget)) (λ m z. absurd (omega arith)) (λ z. rotations r.budget)

    made_total : Accepted s (run r) → (reply s r).job.made ≡ made_after (first l) (min 120 (s.granted + r.budget))
    unfolding run_done next_job
    made_total = by_cases (λ x n o. n ≡ 0 → o.reply.job.made ≡ made_after (first l) (min 120 (s.granted + x.budget))) (λ m z. absurd (omega arith)) (λ z. run_made r.budget)

    made_few : Accepted s (run r) → ((reply s r).job.made ≤ (reply s r).job.turn) × ((reply s r).job.made ≤ 120)
    made_few z =
        let few = made_le (first l) (room l) (min 120 (s.granted + r.budget)) in
        (omega (arith, turn_number z, made_total z, few), omega (arith, made_total z, few))

-- each call keeps it
pub standing-next : (l : Load) (s : State) (c : Call) → Standing l s → (Accepted s c → InStep s c) → Standing l (after s c)
standing-next l s (run r) h p = run_standing l s h r p
standing-next l s (fetch f) h p = h

-- an accepted Fetch in step writes the record of R and Q
fetch_filled : (s : State) (f : FetchCall) → Accepted s (fetch f) → fetched s f ≡ filled 2049 (result_byte (R (words_of s f.lent)) (Q (words_of s f.lent))) f.buffer
unfolding fetch_of fetch_by
fetch_filled s f z = ap (λ (n : ℕ). (fetch_by n (words_of s f.lent) f.buffer).buffer) z

pub fetch_written : (s : State) (f : FetchCall) → Accepted s (fetch f) → InStep s (fetch f) → fetched s f ≡ result_record_of (R s.workspace) (Q s.workspace) ++ drop 2049 f.buffer
unfolding filled result_record_of
fetch_written s f z e = fetch_filled s f z ∙ ap (λ (w : List ℤ). filled 2049 (result_byte (R w) (Q w)) f.buffer) (in_step-words s (fetch f) e)

-- ---- the demand

pub demand3 : Demand3
unfolding EachInStep
demand3 l calls each = record {
  no_turn_clamps = λ p k h. rw first_is (rotation_none l k (omega arith));
  no_run_clamps = λ r p. no_run_clamps l (found l p) (at p) r (each (run r) p);
  turn_number = λ r p. turn_number l (found l p) (at p) r (each (run r) p);
  made_total = λ r p z. made_total l (found l p) (at p) r (each (run r) p) z ∙ ap (λ (a : List ℤ). made_after a (min 120 ((found l p).granted + r.budget))) (sym first_is);
  made_few = λ r p. made_few l (found l p) (at p) r (each (run r) p);
  fetch_accepted = λ f p. fetch_iff l (found l p) (at p) f;
  words = λ p. (holds p).workspace ∙ ap (λ (a : List ℤ). workspace_after a (min 120 (reached l p).granted)) (sym first_is);
  bounded = λ p k h. rw first_is (rotations_bounded l k (omega arith));
  factored = λ p. factored_at l (reached l p) (holds p);
  written = λ f p z. fetch_written (found l p) f z (each (fetch f) p z);
}
  where
    first_is : (start l).workspace ≡ first l
    first_is = ap (λ (s : State). s.workspace) (start_is l)

    holds : (p : Point calls) → Standing l (reached l p)
    holds = kept_at after (Standing l) (λ s c. Accepted s c → InStep s c) (standing-next l) (start l) calls (standing-start l) each

    at : {c : Call} (p : Place c calls) → Standing l (found l p)
    at = kept-before after (Standing l) (λ s c. Accepted s c → InStep s c) (standing-next l) (start l) calls (standing-start l) each
