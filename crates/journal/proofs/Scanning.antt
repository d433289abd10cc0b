-- The entry at a place of the used bytes. Assumes nothing.
use mathlib.Core.Path.{◌≡◌}
use mathlib.Core.List.{List, []}
use Prim.Native.Nat.{ℕ, ◌+◌, ◌<◌, ◌≤◌}
use native.Mathlib.Omega.{arith}
use lib.ListN.{length, take, drop_of_length-le}
use lib.Seq.{length-take-le}
use Rattle.journal.specs.Held.{first_size}
use Rattle.journal.proofs.Views.{view, view-length}
use Rattle.journal.proofs.Runs.{whole}

module _ (at used : ℕ) (b : List ℕ) (within : at ≤ used) (room : used ≤ length b) where
  -- an entry that stands whole at a place has a head and ends within the used bytes
  pub whole_at : 0 < first_size (view at used b) → (5 < first_size (view at used b)) × (at + first_size (view at used b) ≤ used)
  whole_at h =
      let w = whole (view at used b) h in
      let e = view-length at used b within room in
      (omega (arith, w.known, w.size), omega (arith, w.known, w.size, w.fits, e))

  -- nothing stands at the end
  pub view_end : used ≤ at → view at used b ≡ []
  view_end l =
      let h : length (take used b) ≤ at = rw (length-take-le used b room) l in
      drop_of_length-le (take used b) h
