-- Document 02, U11: what waits, what was loaded, and the heard byte. Assumes nothing.
use Rattle.std.specs.Prelude.{◌≡◌, true, false, ◌↔◌, List, ℕ, ◌≤◌, ◌<◌, ℤ, length}
use Rattle.matrix_record.specs.MatrixRecord.{heard_byte_of}
use Rattle.workspace.specs.Workspace.{workspace_words}
use Rattle.engine.specs.Load.{load_refusal_of}
use Rattle.desk.specs.declared.Desk.{Desk}
use Rattle.desk.specs.Desk.{sector_count, heard_at_of, waits_at_of, waiting_at}
use Rattle.desk_laws.specs.Calls.{Call, new, after, EachNoLoad}
use Rattle.desk_laws.specs.Ledger.{nothing, matrix, Ledger, ledger}

-- from a new desk on whatever waits is the record of the sector's last accepted hand-in, and passes Load's tests with every area that is long enough, so that
-- Fetch need not test it again
pub record Waiting (i : ℕ) (d : Desk) (g : Ledger) : Type 0 where
  pub handed : g.handed ≡ matrix (waiting_at d i)
  pub passes : (l : List ℤ) → workspace_words ≤ length l → load_refusal_of (waiting_at d i) l ≡ 0

abbrev pub WaitingIsHandedIn : Type 0
WaitingIsHandedIn = (i : ℕ) (areas : ℕ → List ℤ) (calls : List Call) → i < sector_count
    → (let d = (after (new areas) calls).desk in waits_at_of d i ≡ true → Waiting i d (ledger i areas calls))

-- where none waits the sector's job was loaded from the record that was handed in last: nothing that was handed in is lost but by a later hand-in
abbrev pub NoneLost : Type 0
NoneLost = (i : ℕ) (areas : ℕ → List ℤ) (calls : List Call) → i < sector_count
    → (let g = ledger i areas calls in waits_at_of (after (new areas) calls).desk i ≡ false → g.source ≡ g.handed)

-- and it was loaded from a record exactly if some call loaded it
abbrev pub SourceIfLoaded : Type 0
SourceIfLoaded = (i : ℕ) (areas : ℕ → List ℤ) (calls : List Call) → i < sector_count → EachNoLoad i (new areas) calls ↔ ((ledger i areas calls).source ≡ nothing)

-- the heard byte changes only with a load: while the sector is not loaded it stays
abbrev pub HeardByLoad : Type 0
HeardByLoad = (i : ℕ) (areas : ℕ → List ℤ) (before calls : List Call) → i < sector_count
    → (let h = after (new areas) before in EachNoLoad i h calls → heard_at_of (after h calls).desk i ≡ heard_at_of h.desk i)

-- and it is that of the matrix that the sector's job was loaded from
abbrev pub HeardOfSource : Type 0
HeardOfSource = (i : ℕ) (areas : ℕ → List ℤ) (calls : List Call) (rec : List ℕ) → i < sector_count
    → (ledger i areas calls).source ≡ matrix rec → heard_at_of (after (new areas) calls).desk i ≡ heard_byte_of rec
