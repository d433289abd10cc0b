-- Reading on from place 0 gives what the log holds. Assumes nothing.
use mathlib.Core.Path.{◌≡◌, refl, sym, ap, ap₂, ◌∙◌}
use mathlib.Core.Bool.{Bool, true, false}
use mathlib.Core.List.{List}
use mathlib.Core.Option.{Option, none, some}
use Prim.Native.Nat.{ℕ, zero, suc, ◌+◌, ◌-◌, ◌<◌, ◌≤◌}
use native.Mathlib.Omega.{arith}
use borrow.Author.Tests.{ltb-true, ltb-false, eqb-true, eqb-false}
use lib.Dec.{eqb, ltb}
use lib.ListN.{length, get_or, take, drop}
use lib.Seq.{take-take}
use Rattle.journal.specs.Entry.{Entry, body_length_of, head_bytes}
use Rattle.journal.specs.Held.{first_size, first_entry, in_front, entries, held}
use Rattle.journal.specs.Next.{log_next_by}
use Rattle.journal.proofs.Views.{view, view-length, view-take, view-next}
use Rattle.journal.proofs.Runs.{Whole, whole, entries_step, entries_none}
use Rattle.journal.proofs.Scanning.{whole_at, view_end}
use Rattle.journal.proofs.Calls.{next_over, next_end, next_inner}
use Rattle.journal_laws.specs.Reading.{entry_in, read_on_by, read_from, read_all, ReadsBack}

-- what a kind fixes a body for is not 0, which says that no entry stands there
kind_is : (kind : ℕ) → 0 < body_length_of kind → 0 < kind
unfolding body_length_of
kind_is zero h = absurd (omega arith)
kind_is (suc k) h = omega arith

known : (xs : List ℕ) → Whole xs → 0 < (first_entry xs).kind
unfolding first_entry
known xs w = kind_is (get_or xs 0 0) w.known

-- an entry that was read stands in front of what is read behind it
front_read : (kind size : ℕ) (e : Entry) (o : Option (List Entry)) → 0 < kind → read_on_by 0 kind e o ≡ in_front (suc size) e o
front_read zero size e o h = absurd (omega arith)
front_read (suc k) size e none h = refl
front_read (suc k) size e (some es) h = refl

module _ (out : Option (List Entry)) (used : ℕ) (b : List ℕ) (room : used ≤ length b) where
  -- the entry at a place, its body from the buffer
  entry_at : (at size : ℕ) → at ≤ used → first_size (view at used b) ≡ suc size → entry_in b (log_next_by (suc size) at (first_entry (view at used b))) ≡ first_entry (view at used b)
  unfolding first_entry
  entry_at at size within s =
      let xs = view at used b in
      let e = first_entry xs in
      let w = whole xs (omega (arith, s)) in
      let v = view-length at used b within room in
      let n = body_length_of (get_or xs 0 0) in
      let t : drop head_bytes xs ≡ take (used - (at + head_bytes)) (drop (at + head_bytes) b) =
      view-next at head_bytes used b ∙ view-take (at + head_bytes) used b (omega (arith, w.fits)) room in
      let body : take n (drop (at + head_bytes) b) ≡ take n (drop head_bytes xs) =
      sym (ap (take n) t ∙ take-take n (used - (at + head_bytes)) (drop (at + head_bytes) b) (omega (arith, w.fits))) in
      ap (λ (l : List ℕ). record { kind = e.kind; day = e.day; body = l }) body

  module _ (n at : ℕ) (within : at ≤ used) (l : at ≡ used → ⊥)
      (further : (next : ℕ) → at < next → next ≤ used → read_from out n next used b ≡ entries (view next used b)) where
    step : (size : ℕ) → first_size (view at used b) ≡ size
        → read_on_by (log_next_by size at (first_entry (view at used b))).number (log_next_by size at (first_entry (view at used b))).kind
        (entry_in b (log_next_by size at (first_entry (view at used b)))) (read_from out n (log_next_by size at (first_entry (view at used b))).next used b)
        ≡ in_front size (first_entry (view at used b)) (entries (drop size (view at used b)))
    step zero s = refl
    step (suc size) s =
        let xs = view at used b in
        let f = whole_at at used b within room (omega (arith, s)) in
        let w = whole xs (omega (arith, s)) in
        let k : 0 < (first_entry xs).kind = known xs w in
        front_read (first_entry xs).kind size (entry_in b (log_next_by (suc size) at (first_entry xs))) (read_from out n (at + suc size) used b) k
        ∙ ap₂ (in_front (suc size)) (entry_at at size within s)
        (further (at + suc size) (omega arith) (omega (arith, f.1, s)) ∙ ap entries (sym (view-next at (suc size) used b)))

  read_from_lem : (n at : ℕ) → at ≤ used → used - at < n → read_from out n at used b ≡ entries (view at used b)
  unfolding read_from
  read_from_lem zero at within h = absurd (omega arith)
  read_from_lem (suc n) at within h = go (λ next a c. read_from_lem n next c (omega arith)) (eqb at used) refl
    where
      go : ((next : ℕ) → at < next → next ≤ used → read_from out n next used b ≡ entries (view next used b)) → (t : Bool) → eqb at used ≡ t → read_from out (suc n) at used b ≡ entries (view at used b)
      go further true e =
          let q : at ≡ used = eqb-true at used e in
          rw (← next_end at used b room within q)
          (sym (ap entries (view_end at used b within room (omega arith)) ∙ entries_none))
      go further false e =
          let q : at ≡ used → ⊥ = eqb-false at used e in
          let v = view-length at used b within room in
          rw (next_inner at used b room within q)
          (step n at within q further (first_size (view at used b)) refl
          ∙ sym (entries_step (view at used b) (omega (arith, q))))

pub reads_back : ReadsBack
unfolding held read_from
reads_back out used b = go (ltb (length b) used) refl
  where
    go : (t : Bool) → ltb (length b) used ≡ t → read_all out used b ≡ held used b
    go true e = rw (← next_over 0 used b (ltb-true _ _ e), e)
    go false e = let r : used ≤ length b = ltb-false _ _ e in rw e (read_from_lem out used b r (suc used) 0 (omega arith) (omega arith))
