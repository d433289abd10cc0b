-- Each entry passed is dropped, moved down, or left where it stands already.
use Rattle.std.proofs.Common.{arith, sym}
use Rattle.journal.proofs.Sweeping.{sweep_none, sweep_drop, sweep_keep, sweep_in_place, sweep_done}
use Rattle.journal.proofs.sweep.compact.Goals as goal
use Rattle.journal.proofs.sweep.compact.Goals.{then-stays, else-stays, then-to-at, else-to-at}

pub loop-head-init : goal.loop-head-init
loop-head-init c = sweep_none _ _ (λ k. omega (arith, c.type_inv.log k)) c.requires

pub loop-head-preserved : goal.loop-head-preserved
loop-head-preserved c =
    let i = c.loop-head.invariant in
    elim c.if-stays.branch [
      | then-stays w ↦
          elim w.if-to-at.branch [
            | then-to-at v ↦
                rw (w.to-is, w.log-is, v.log-is)
                (sweep_keep i _ c.in-Some.ensures _ c.entry_size-size.ensures (sym w.if-stays.ensures) _ v.copy_within.ensures.after)
            | else-to-at v ↦
                rw (w.to-is, w.log-is, v.log-is)
                (sweep_in_place i _ c.in-Some.ensures _ c.entry_size-size.ensures (sym w.if-stays.ensures) v.if-to-at.false)
          ]
      | else-stays w ↦ rw (w.to-is, w.log-is) (sweep_drop i _ c.in-Some.ensures _ c.entry_size-size.ensures (sym w.if-stays.ensures))
    ]

pub returns-clause-count : goal.returns-clause-count
returns-clause-count c = (sweep_done c.loop-head.invariant c.in_default.ensures).0

pub returns-clause-bytes : goal.returns-clause-bytes
returns-clause-bytes c = (sweep_done c.loop-head.invariant c.in_default.ensures).1
