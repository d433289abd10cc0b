-- Document 02, U7: a sector's area is as if it had run alone with the turns granted, and so are its job and its heard byte. Assumes nothing.
use Rattle.std.specs.Prelude.{◌≡◌, Bool, true, false, List, [], ◌∷◌, ◌++◌, ℕ, zero, suc, ◌<◌, ℤ}
use Rattle.lists.specs.Histories.{after_all}
use Rattle.engine.specs.declared.job.Job.{Job}
use Rattle.engine.specs.Load.{load_of}
use Rattle.engine.specs.Run.{run_of}
use Rattle.desk.specs.Desk.{sector_count, job_at_of, heard_at_of}
use Rattle.desk_laws.specs.Calls.{Call, hand_in, run, fetch, heard, begin, set_shares, Hub, new, loads, answer, next, after, Kind, own, other, round, setting, kind, EachLentIts}
use Rattle.desk_laws.specs.Ledger.{Handed, nothing, matrix, Ledger, fresh, noted}

-- ---- one area alone, by the engine's own calls

pub record Alone : Type 0 where
  pub job : Job
  pub heard : ℕ
  pub area : List ℤ

-- Load of a record, or Run with so many turns
pub data Work : Type 0 where
  loading : List ℕ → Work
  turns : ℕ → Work

-- a refused Load leaves job and heard byte as they were
abbrev pub loaded_alone : ℕ → Alone → Alone → Alone
loaded_alone zero before after = after
loaded_alone (suc n) before after = before

unfoldable pub alone_next : Alone → Work → Alone
alone_next a (loading rec) =
    let o = load_of rec a.area in
    loaded_alone o.reply.number a (record { job = o.reply.job; heard = o.reply.heard; area = o.workspace })
alone_next a (turns k) = let o = run_of a.job k a.area in record { job = o.reply.job; heard = a.heard; area = o.workspace }

abbrev pub alone_after : Alone → List Work → Alone
alone_after a works = after_all alone_next a works

-- ---- what the desk had the engine do for a sector: Load of the records that it was loaded from, and the turns granted to its accepted Runs

abbrev pub load_work : Bool → Handed → List Work
load_work true (matrix rec) = loading rec ∷ []
load_work true nothing = []
load_work false m = []

abbrev pub run_work : Call → ℕ → List Work
run_work (hand_in role i rec lent) count = []
run_work (run role i request lent) count = turns count ∷ []
run_work (fetch role i buffer lent) count = []
run_work (heard role i) count = []
run_work (begin role) count = []
run_work (set_shares role shares eight) count = []

-- by kind, and by the call's number; `source` is what the job is loaded from, where the call loads
abbrev pub works_of : Kind → ℕ → Bool → Handed → Call → ℕ → List Work
works_of own zero b source c count = load_work b source ++ run_work c count
works_of own (suc n) b source c count = []
works_of other n b source c count = []
works_of round n b source c count = []
works_of (setting s) n b source c count = []

unfoldable pub works : ℕ → Hub → Ledger → List Call → List Work
works i h g [] = []
works i h g (c ∷ calls) =
    works_of (kind i c) (answer h c).number (loads h c) (noted i h c g).source c (answer h c).count ++ works i (next h c) (noted i h c g) calls

-- ---- the law

abbrev pub standing : ℕ → Hub → Alone
standing i h = record { job = job_at_of h.desk i; heard = heard_at_of h.desk i; area = h.area i }

abbrev pub AsAlone : Type 0
AsAlone = (i : ℕ) (areas : ℕ → List ℤ) (calls : List Call) → i < sector_count → EachLentIts i (new areas) calls
    → standing i (after (new areas) calls) ≡ alone_after (standing i (new areas)) (works i (new areas) fresh calls)
