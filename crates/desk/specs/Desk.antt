-- Document 02, U7, U10 and U11: the desk, the sectors 0 to 7, what each of them has of a round, and the matrix of each that waits. Assumes nothing.
use Rattle.std.specs.Prelude.{ℕ, ◌*◌, Bool, List, ltb, ℤ, get_or, set, take, drop, replicate}
use Rattle.std.proofs.Math.Seq.{paste}
use Rattle.refusals.specs.Refusals.{no_such_sector, fails_if}
use Rattle.schedule.specs.Schedule.{rotation_count}
use Rattle.matrix_record.specs.MatrixRecord.{matrix_bytes, heard_byte_of}
use Rattle.workspace.specs.Loading.{loaded_words}
use Rattle.engine.specs.declared.job.Job.{Job}
use Rattle.engine.specs.Job.{loaded_job, no_job}
use Rattle.desk.specs.declared.Desk.{Desk}

abbrev pub sector_count : ℕ
sector_count = 8

-- what the shares of all sectors make at most, so that a round has no more turns
abbrev pub round_turns : ℕ
round_turns = 120

-- the share of each sector at first
abbrev pub first_share : ℕ
first_share = 15

-- of a sector never loaded
abbrev pub unloaded_job : Job
unloaded_job = record { turn = rotation_count; made = 0 }

-- no sector is loaded, no antenna heard, and no matrix waits; a round is at its start: each remaining count is the sector's share
abbrev pub new_desk : Desk
new_desk =
    record {
      jobs = replicate sector_count unloaded_job;
      heard = replicate sector_count 0;
      shares = replicate sector_count first_share;
      left = replicate sector_count first_share;
      waits = replicate sector_count 0;
      records = replicate (sector_count * matrix_bytes) 0;
    }

-- ---- what is a sector's

-- 12: sector above 7
abbrev pub sector_test : ℕ → ℕ
sector_test sector = fails_if (ltb 7 sector) no_such_sector

-- above 7 there is none, and nothing is read: test 12 comes before
abbrev pub job_at_of : Desk → ℕ → Job
job_at_of desk sector = get_or desk.jobs sector no_job

abbrev pub heard_at_of : Desk → ℕ → ℕ
heard_at_of desk sector = get_or desk.heard sector 0

abbrev pub share_at : Desk → ℕ → ℕ
share_at desk sector = get_or desk.shares sector 0

-- its remaining count: the turns that it has left in the round
abbrev pub left_at_of : Desk → ℕ → ℕ
left_at_of desk sector = get_or desk.left sector 0

-- whether a matrix of its waits: 0 says no, 1 says yes, and so does every number above 1, which no call sets
abbrev pub waits_at_of : Desk → ℕ → Bool
waits_at_of desk sector = ltb 0 (get_or desk.waits sector 0)

-- the record that waits: of the records of all eight, 257 bytes each, that of the sector
unfoldable pub record_in : List ℕ → ℕ → List ℕ
record_in records sector = take matrix_bytes (drop (sector * matrix_bytes) records)

abbrev pub waiting_at : Desk → ℕ → List ℕ
waiting_at desk sector = record_in desk.records sector

-- ---- what changes

-- a round begins: each remaining count is refilled from the sector's share, and nothing else changes
abbrev pub begun : Desk → Desk
begun desk =
    record { jobs = desk.jobs; heard = desk.heard; shares = desk.shares; left = desk.shares; waits = desk.waits; records = desk.records }

-- all eight shares are new; they count from the next round on, so that no remaining count changes
abbrev pub shared : Desk → List ℕ → Desk
shared desk shares =
    record { jobs = desk.jobs; heard = desk.heard; shares = shares; left = desk.left; waits = desk.waits; records = desk.records }

-- one sector's job is worked on, which its own count pays: `left` turns of it are left
abbrev pub paid : Desk → ℕ → Job → ℕ → Desk
paid desk sector job left =
    record { jobs = set desk.jobs sector job; heard = desk.heard; shares = desk.shares; left = set desk.left sector left; waits = desk.waits; records = desk.records }

-- a matrix of one sector waits, in the place of one that waited; the sector's job and its heard byte stand
abbrev pub kept : Desk → ℕ → List ℕ → Desk
kept desk sector rec =
    record {
      jobs = desk.jobs;
      heard = desk.heard;
      shares = desk.shares;
      left = desk.left;
      waits = set desk.waits sector 1;
      records = paste desk.records (sector * matrix_bytes) rec matrix_bytes;
    }

-- one sector has the job (0, 0) and a new heard byte, and no matrix of its own waits; it has the turns left that it had
abbrev pub seated : Desk → ℕ → ℕ → Desk
seated desk sector heard =
    record {
      jobs = set desk.jobs sector loaded_job;
      heard = set desk.heard sector heard;
      shares = desk.shares;
      left = desk.left;
      waits = set desk.waits sector 0;
      records = desk.records;
    }

-- the desk and the area after a load, of a record that is handed in or of the one that waited: as the engine's Load does it, its tests apart
pub record Loaded : Type 0 where
  pub desk : Desk
  pub area : List ℤ

abbrev pub loaded : Desk → ℕ → List ℕ → List ℤ → Loaded
loaded desk sector rec area = record { desk = seated desk sector (heard_byte_of rec); area = loaded_words rec area }
