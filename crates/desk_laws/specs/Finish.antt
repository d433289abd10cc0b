-- Document 02, U10: a loaded sector, not loaded again, with an unchanged share s above 0 that requests s, with an area of at least 512 words, in every round
-- begun after the load, finishes within 120 divided by s such rounds, rounded up. With U11 a load is a hand-in that is loaded directly or a Fetch that brings one
-- in. With U12 rounds are begun and requests made by the operator. Assumes nothing.
use Rattle.std.specs.Prelude.{◌≡◌, List, [], ◌∷◌, ◌++◌, ℕ, ◌+◌, ◌-◌, ◌/◌, ◌≤◌, ◌<◌, ℤ, length}
use Rattle.lists.specs.Histories.{Place, Each}
use Rattle.schedule.specs.Schedule.{rotation_count}
use Rattle.workspace.specs.Workspace.{workspace_words}
use Rattle.desk.specs.Desk.{sector_count, job_at_of, share_at}
use Rattle.desk.specs.Roles.{operator}
use Rattle.desk_laws.specs.Calls.{Lent, Call, run, begin, Hub, new, lent_words, next, after, round, kind, Loads, NoLoad}

-- where a round begins the sector has share s, and no call loads it
pub record Undisturbed (i s : ℕ) (h : Hub) (c : Call) : Type 0 where
  pub share : kind i c ≡ round → share_at h.desk i ≡ s
  pub not_loaded : NoLoad i h c

unfoldable pub EachUndisturbed : ℕ → ℕ → Hub → List Call → Type 0
EachUndisturbed i s h calls = Each next (Undisturbed i s) h calls

-- among the calls of a round the operator requests s for the sector, or more, with an area of at least 512 words, its own or another
pub record Requests (i s : ℕ) (h : Hub) (calls : List Call) : Type 0 where
  pub request : ℕ
  pub lent : Lent
  pub place : Place (run operator i request lent) calls
  pub enough : s ≤ request
  pub room : workspace_words ≤ length (lent_words ((after h place.before).area i) lent)

-- rounds one after another, each given by the calls that follow its begin; more rounds may begin among those, with no request asked of them
unfoldable pub in_rounds : List (List Call) → List Call
in_rounds [] = []
in_rounds (calls ∷ rounds) = begin operator ∷ calls ++ in_rounds rounds

unfoldable pub EachRequests : ℕ → ℕ → Hub → List (List Call) → Type 0
EachRequests i s h [] = Unit {0}
EachRequests i s h (calls ∷ rounds) = Requests i s (next h (begin operator)) calls × EachRequests i s (after (next h (begin operator)) calls) rounds

-- n divided by s, rounded up
abbrev pub rounded_up : ℕ → ℕ → ℕ
rounded_up n s = (n + s - 1) / s

-- after any calls the call c loads the sector, directly or by bringing in, with any area; the rest of that round follows, and then rounds. Other calls of
-- its own and of others may stand anywhere, refused ones too, and in the rest more rounds may begin
abbrev pub FinishesInTime : Type 0
FinishesInTime = (i s : ℕ) (areas : ℕ → List ℤ) (before : List Call) (c : Call) (rest : List Call) (rounds : List (List Call)) → i < sector_count → 0 < s
    → (let h = after (new areas) before in
    let g = next h c in
    Loads i h c → EachUndisturbed i s g (rest ++ in_rounds rounds) → EachRequests i s (after g rest) rounds
    → rounded_up rotation_count s ≤ length rounds → (job_at_of (after g (rest ++ in_rounds rounds)).desk i).turn ≡ rotation_count)
