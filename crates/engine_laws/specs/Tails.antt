-- Document 01: a longer work area is allowed, and words from 512 on are never touched; Fetch writes the first 2,049 bytes. For every call and all
-- inputs, accepted or refused. Assumes nothing.
use Rattle.std.specs.Prelude.{◌≡◌, List, ℕ, ℤ, drop}
use Rattle.result_record.specs.ResultRecord.{result_bytes}
use Rattle.workspace.specs.Workspace.{workspace_words}
use Rattle.engine.specs.declared.job.Job.{Job}
use Rattle.engine.specs.Load.{load_of}
use Rattle.engine.specs.Run.{run_of}
use Rattle.engine.specs.Fetch.{fetch_of}
use Rattle.engine.specs.Read.{read_of}
use Rattle.engine.specs.Whole.{whole_of}

pub record Tails : Type 0 where
  pub load : (rec : List ℕ) (l : List ℤ) → drop workspace_words (load_of rec l).workspace ≡ drop workspace_words l
  pub run : (job : Job) (budget : ℕ) (l : List ℤ) → drop workspace_words (run_of job budget l).workspace ≡ drop workspace_words l
  pub read : (rec : List ℕ) (l : List ℤ) → drop workspace_words (read_of rec l).workspace ≡ drop workspace_words l
  pub whole : (rec : List ℕ) (l : List ℤ) (buffer : List ℕ) → drop workspace_words (whole_of rec l buffer).workspace ≡ drop workspace_words l
  pub fetch_buffer : (job : Job) (l : List ℤ) (buffer : List ℕ) → drop result_bytes (fetch_of job l buffer).buffer ≡ drop result_bytes buffer
  pub whole-buffer : (rec : List ℕ) (l : List ℤ) (buffer : List ℕ) → drop result_bytes (whole_of rec l buffer).buffer ≡ drop result_bytes buffer
