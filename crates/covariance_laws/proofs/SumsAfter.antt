-- What the calls make of a list of snapshots from any sums in range: by induction over the list. Assumes nothing.
use mathlib.Core.Path.{◌≡◌, sym, ap, subst, ◌∙◌}
use mathlib.Core.List.{List, [], ◌∷◌}
use Prim.Native.Nat.{ℕ, suc, ◌+◌, ◌*◌, ◌-◌, ◌/◌, ◌%◌, ◌≤◌, ◌<◌, min}
use native.Mathlib.Nat.{le_trans}
use native.Mathlib.Decide.{dec_lt}
use native.Mathlib.Omega.{arith}
use lib.IntN.{ℤ, pos, ◌+ℤ◌, +ℤ_assoc, +ℤ_idr}
use lib.ListN.{length, get_or-replicate}
use Rattle.integers.specs.Sum.{sum}
use Rattle.integers.proofs.Sum.{sum_first}
use Rattle.integers.proofs.Within.{within, within-+}
use Rattle.lists.specs.Histories.{after_all}
use Rattle.lists.proofs.Tabulate.{get_d_tabulate}
use Rattle.covariance.specs.declared.Sample.{Sample}
use Rattle.covariance.specs.declared.Sums.{Sums}
use Rattle.covariance.specs.declared.add.AddReply.{AddReply}
use Rattle.covariance.specs.Sums.{product_part, sample_of, sums_none_of, sum_at, added_word}
use Rattle.covariance.specs.AddSnapshot.{add_by, add_of}
use Rattle.covariance.proofs.Adding.{add-full}
use Rattle.covariance.proofs.Accepted.{Near, add-passes}
use Rattle.covariance_laws.specs.Snapshots.{Parts16, term_at}
use Rattle.covariance_laws.proofs.Terms.{Sample16, product_near, element_added}

abbrev pub step : Sums → List Sample → Sums
step s snapshot = (add_of snapshot s).sums

-- sums that calls from none can leave
pub record Fair (s : Sums) : Type 0 where
  pub few : s.count ≤ 4096
  pub near : Near s.count s.words

pub none_fair : Fair sums_none_of
none_fair = record { few = omega arith; near = λ n l. rw (get_or-replicate 128 n (pos 0) (pos 0) l) (omega arith) }

-- ---- one snapshot

module _ (x : List Sample) (s : Sums) (fair : Fair s) where
  -- with room it is added
  pub add_taken : s.count < 4096 → add_of x s ≡ add_by 0 x s
  unfolding add_of
  add_taken room = rw (add-passes s room fair.near)

  added_fair : ((i : ℕ) → Sample16 (sample_of x i)) → s.count < 4096 → Fair (add_by 0 x s).sums
  unfolding add_by added_word
  added_fair short room =
      record {
        few = omega arith;
        near = λ n l.
            rw (get_d_tabulate 128 (added_word x s.words) (pos 0) n l)
            (le_trans (within-+ (within {x = sum_at s.words n} (fair.near n l)) (product_near (sample_of x (n / 16)) (sample_of x (n / 2 % 8)) (n % 2) (short (n / 16)) (short (n / 2 % 8)))).abs (omega arith));
      }

-- ---- a list of them

pub record After (s : Sums) (l : List (List Sample)) : Type 0 where
  pub count : (after_all step s l).count ≡ min (s.count + length l) 4096
  pub sums : (i j q : ℕ) → i < 8 → j < 8 → q < 2
      → sum_at (after_all step s l).words (2 * (8 * i + j) + q) ≡ sum_at s.words (2 * (8 * i + j) + q) +ℤ sum (min (length l) (4096 - s.count)) (term_at l i j q)
  pub fair : Fair (after_all step s l)

none_of : {n : ℕ} → n ≡ 0 → (l : List (List Sample)) (i j q : ℕ) → sum n (term_at l i j q) ≡ pos 0
unfolding sum
none_of e l i j q = ap (λ (k : ℕ). sum k (term_at l i j q)) e

module _ (x : List Sample) (s : Sums) (l : List (List Sample)) (fair : Fair s) where
  -- the first is added, and the list after it is what it is from there
  grown : s.count < 4096 → After (add_by 0 x s).sums l → After s (x ∷ l)
  unfolding after_all add_by
  grown room a =
      let e : after_all step s (x ∷ l) ≡ after_all step (add_by 0 x s).sums l = ap (λ (r : AddReply). after_all step r.sums l) (add_taken x s fair room) in
      let m : min (suc (length l)) (4096 - s.count) ≡ suc (min (length l) (4096 - (s.count + 1))) = omega arith in
      record {
        count = ap (λ (u : Sums). u.count) e ∙ a.count ∙ omega arith;
        sums = λ i j q hi hj hq.
            let n : ℕ = 2 * (8 * i + j) + q in
            let rest : ℤ = sum (min (length l) (4096 - (s.count + 1))) (term_at l i j q) in
            let first-term : ℤ = product_part (sample_of x i) (sample_of x j) q in
            ap (λ (u : Sums). sum_at u.words n) e
            ∙ a.sums i j q hi hj hq
            ∙ ap (λ (z : ℤ). z +ℤ rest) (element_added x s.words i j q hi hj hq)
            ∙ +ℤ_assoc (sum_at s.words n) first-term rest
            ∙ ap (λ (z : ℤ). sum_at s.words n +ℤ z) (sym (ap (λ (k : ℕ). sum k (term_at (x ∷ l) i j q)) m ∙ sum_first (min (length l) (4096 - (s.count + 1))) (term_at (x ∷ l) i j q)));
        fair = subst Fair (sym e) a.fair;
      }

  -- there is no room: the first is refused, as all after it
  stuck : 4096 ≤ s.count → After s l → After s (x ∷ l)
  unfolding after_all
  stuck h a =
      let e : after_all step s (x ∷ l) ≡ after_all step s l = ap (λ (r : AddReply). after_all step r.sums l) (sym (add-full x s h)) in
      let m : min (length l) (4096 - s.count) ≡ 0 = omega arith in
      let k : min (suc (length l)) (4096 - s.count) ≡ 0 = omega arith in
      record {
        count = ap (λ (u : Sums). u.count) e ∙ a.count ∙ omega (arith, fair.few);
        sums = λ i j q hi hj hq.
            ap (λ (u : Sums). sum_at u.words (2 * (8 * i + j) + q)) e
            ∙ a.sums i j q hi hj hq
            ∙ ap (λ (z : ℤ). sum_at s.words (2 * (8 * i + j) + q) +ℤ z) (none_of m l i j q ∙ sym (none_of k (x ∷ l) i j q));
        fair = subst Fair (sym e) a.fair;
      }

pub after : (s : Sums) (l : List (List Sample)) → Fair s → Parts16 l → After s l
unfolding after_all sum
after s [] fair short =
    let m : min 0 (4096 - s.count) ≡ 0 = omega arith in
    record {
      count = omega (arith, fair.few);
      sums = λ i j q hi hj hq.
          sym (ap (λ (z : ℤ). sum_at s.words (2 * (8 * i + j) + q) +ℤ z) (none_of m [] i j q) ∙ +ℤ_idr (sum_at s.words (2 * (8 * i + j) + q)));
      fair = fair;
    }
after s (x ∷ l) fair short =
    either (λ room. grown x s l fair room (after (add_by 0 x s).sums l (added_fair x s fair (short 0) room) (λ k. short (suc k))))
    (λ h. stuck x s l fair h (after s l fair (λ k. short (suc k)))) (dec_lt s.count 4096)
  where
    either : (s.count < 4096 → After s (x ∷ l)) → (4096 ≤ s.count → After s (x ∷ l)) → Dec (s.count < 4096) → After s (x ∷ l)
    either f g (yes room) = f room
    either f g (no d) = g (omega arith)
