-- What the calls make of any list of snapshots, added up from none. Assumes nothing.
use mathlib.Core.Path.{◌≡◌, sym, ap, ◌∙◌}
use mathlib.Core.List.{List}
use Prim.Native.Nat.{ℕ, ◌+◌, ◌*◌, ◌<◌}
use native.Mathlib.Decide.{dec_lt}
use native.Mathlib.Omega.{arith}
use borrow.Author.Tests.{le-leb, lt-leb, eq-eqb, ne_eqb}
use lib.Dec.{leb, eqb}
use lib.IntN.{ℤ, pos, ◌+ℤ◌, +ℤ_idl}
use lib.ListN.{length, get_or-replicate}
use Rattle.integers.specs.Sum.{sum}
use Rattle.refusals.specs.Refusals.{first, fails_if, buffer_test}
use Rattle.covariance.specs.declared.Sample.{Sample}
use Rattle.covariance.specs.declared.add.AddReply.{AddReply}
use Rattle.covariance.specs.Sums.{sums_none_of, sum_at}
use Rattle.covariance.specs.AddSnapshot.{add_by, add_of}
use Rattle.covariance.specs.WriteMatrix.{write_refusal_of, write_of}
use Rattle.covariance.proofs.Adding.{add-full}
use Rattle.covariance.proofs.Accepted.{sums_pass, write_by-number}
use Rattle.covariance_laws.specs.Snapshots.{Parts16, term_at, sums_after}
use Rattle.covariance_laws.specs.Accumulated.{added_of, AllAccumulated}
use Rattle.covariance_laws.proofs.SumsAfter.{Fair, none_fair, add_taken, After, after}

module _ (l : List (List Sample)) (short : Parts16 l) where
  final : After sums_none_of l
  final = after sums_none_of l none_fair short

  counted : (sums_after l).count ≡ added_of l
  unfolding sums_after
  counted = final.count ∙ omega arith

  summed : (i j q : ℕ) → i < 8 → j < 8 → q < 2 → sum_at (sums_after l).words (2 * (8 * i + j) + q) ≡ sum (added_of l) (term_at l i j q)
  unfolding sums_after
  summed i j q hi hj hq =
      let n : ℕ = 2 * (8 * i + j) + q in
      let z : sum_at sums_none_of.words n ≡ pos 0 = get_or-replicate 128 n (pos 0) (pos 0) (omega arith) in
      final.sums i j q hi hj hq
      ∙ ap (λ (y : ℤ). y +ℤ sum (added_of l) (term_at l i j q)) z
      ∙ +ℤ_idl (sum (added_of l) (term_at l i j q))

  pub fair_after : Fair (sums_after l)
  unfolding sums_after
  fair_after = final.fair

  -- the number of one more, and of writing
  more : (x : List Sample) → (add_of x (sums_after l)).number ≡ fails_if (leb 4096 (length l)) 10
  unfolding add_by
  more x = either (dec_lt (length l) 4096)
    where
      either : Dec (length l < 4096) → (add_of x (sums_after l)).number ≡ fails_if (leb 4096 (length l)) 10
      either (yes room) = ap (λ (r : AddReply). r.number) (add_taken x (sums_after l) fair_after (omega (arith, counted))) ∙ sym (rw (lt-leb 4096 (length l) room))
      either (no d) = ap (λ (r : AddReply). r.number) (sym (add-full x (sums_after l) (omega (arith, counted)))) ∙ sym (rw (le-leb 4096 (length l) (omega arith)))

  write-number : (buffer : List ℕ) → (write_of (sums_after l) buffer).number ≡ first (fails_if (eqb (length l) 0) 9) (buffer_test 257 buffer)
  unfolding write_of write_refusal_of
  write-number buffer =
      write_by-number (write_refusal_of (sums_after l).count (sums_after l).words buffer) (sums_after l) buffer
      ∙ simp (sums_pass (sums_after l).count (sums_after l).words fair_after.few fair_after.near, some)
    where
      some : eqb (sums_after l).count 0 ≡ eqb (length l) 0
      some = either (dec_lt 0 (length l))
        where
          either : Dec (0 < length l) → eqb (sums_after l).count 0 ≡ eqb (length l) 0
          either (yes h) = ne_eqb (sums_after l).count 0 (λ e. omega (arith, counted)) ∙ sym (ne_eqb (length l) 0 (λ e. omega arith))
          either (no d) = eq-eqb (sums_after l).count 0 (omega (arith, counted)) ∙ sym (eq-eqb (length l) 0 (omega arith))

pub accumulated : AllAccumulated
accumulated l short =
    record {
      count = counted l short;
      sums = summed l short;
      next = more l short;
      write = write-number l short;
    }
