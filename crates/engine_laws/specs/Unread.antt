-- Document 01: words of the work area from 512 on "are never touched". That no call writes them is `Tails`; here, that none reads them: where two areas
-- have the same first 512 words, a call answers the same and leaves the same first 512 words and the same buffer. For every call and all inputs,
-- accepted or refused. Assumes nothing.
use Rattle.std.specs.Prelude.{◌≡◌, refl, List, [], ◌∷◌, ◌++◌, ℕ, ℤ, pos, take, replicate}
use Rattle.workspace.specs.Workspace.{workspace_words}
use Rattle.engine.specs.declared.job.Job.{Job}
use Rattle.engine.specs.Load.{load_of}
use Rattle.engine.specs.Run.{run_of}
use Rattle.engine.specs.Fetch.{fetch_of}
use Rattle.engine.specs.Read.{read_of}
use Rattle.engine.specs.Whole.{whole_of}

-- two areas have the same first 512 words; where one is shorter than that, they are the same area
abbrev pub Alike : List ℤ → List ℤ → Type 0
Alike l m = take workspace_words l ≡ take workspace_words m

abbrev pub LoadAlike : Type 0
LoadAlike = (rec : List ℕ) (l m : List ℤ) → Alike l m → ((load_of rec l).reply ≡ (load_of rec m).reply) × Alike (load_of rec l).workspace (load_of rec m).workspace

abbrev pub RunAlike : Type 0
RunAlike =
    (job : Job) (budget : ℕ) (l m : List ℤ) → Alike l m
    → ((run_of job budget l).reply ≡ (run_of job budget m).reply) × Alike (run_of job budget l).workspace (run_of job budget m).workspace

-- Fetch has the number and the buffer alone
abbrev pub FetchAlike : Type 0
FetchAlike = (job : Job) (l m : List ℤ) (buffer : List ℕ) → Alike l m → fetch_of job l buffer ≡ fetch_of job m buffer

abbrev pub ReadAlike : Type 0
ReadAlike = (rec : List ℕ) (l m : List ℤ) → Alike l m → ((read_of rec l).reply ≡ (read_of rec m).reply) × Alike (read_of rec l).workspace (read_of rec m).workspace

abbrev pub WholeAlike : Type 0
WholeAlike =
    (rec : List ℕ) (l m : List ℤ) (buffer : List ℕ) → Alike l m
    → ((whole_of rec l buffer).reply ≡ (whole_of rec m buffer).reply)
    × Alike (whole_of rec l buffer).workspace (whole_of rec m buffer).workspace
    × ((whole_of rec l buffer).buffer ≡ (whole_of rec m buffer).buffer)

-- the premise can be met: two areas that differ in word 512
pub alike_possible : Alike (replicate 512 (pos 0) ++ pos 1 ∷ []) (replicate 512 (pos 0) ++ pos 2 ∷ [])
alike_possible = refl
