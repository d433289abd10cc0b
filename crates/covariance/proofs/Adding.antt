-- The answers of adding, by the tests that lead to them. Assumes nothing.
use mathlib.Core.Path.{◌≡◌, refl, sym, ap, ap₂, ◌∙◌}
use mathlib.Core.List.{List}
use Prim.Native.Nat.{ℕ, zero, suc, ◌+◌, ◌-◌, ◌*◌, ◌/◌, ◌%◌, ◌^◌, ◌<◌, ◌≤◌}
use native.Mathlib.Omega.{arith}
use borrow.Author.Tests.{le-leb}
use lib.Dec.{lit<}
use lib.IntN.{ℤ, ◌+ℤ◌}
use lib.ListN.{get_or, drop}
use mir.Syntax.{w64}
use mir.Val.{SFits}
use Rattle.std.proofs.lemmas.List.{get_or-append_right, get_or-drop}
use Rattle.integers.specs.Within.{Within}
use Rattle.integers.proofs.Within.{within}
use Rattle.lists.specs.Lists.{tabulate, filled}
use Rattle.lists.proofs.Filling.{Filling}
use Rattle.lists.proofs.Tabulate.{length-tabulate}
use Rattle.covariance.specs.declared.Sample.{Sample}
use Rattle.covariance.specs.declared.Sums.{Sums}
use Rattle.covariance.specs.Sums.{product_part, sample_of, sum_at, added_word}
use Rattle.covariance.specs.AddSnapshot.{add_refusal_of, add_by, add_of}
use Rattle.covariance.proofs.Accepted.{AddAccepted, near}
use Rattle.covariance.proofs.Elements.{added-part}
use Rattle.covariance.proofs.Machine.{read, plus_fits, plus_is}

module _ (snapshot : List Sample) (s : Sums) where
  pub add-full : 4096 ≤ s.count → record { number = 10; sums = s } ≡ add_of snapshot s
  unfolding add_of add_refusal_of add_by
  add-full h = simp (le-leb 4096 s.count h)

  by_number : (n : ℕ) → (n ≡ 0 → ⊥) → record { number = n; sums = s } ≡ add_by n snapshot s
  unfolding add_by
  by_number zero f = absurd (f refl)
  by_number (suc n) f = refl

  -- a refusal changes nothing
  pub refused : (add_refusal_of s ≡ 0 → ⊥) → record { number = add_refusal_of s; sums = s } ≡ add_of snapshot s
  unfolding add_of
  refused f = by_number (add_refusal_of s) f

  -- and else the snapshot is added to each sum, and counted
  pub accepted : (t : Sums) → add_refusal_of s ≡ 0 → t.count ≡ s.count + 1 → t.words ≡ tabulate 128 (added_word snapshot s.words) → record { number = 0; sums = t } ≡ add_of snapshot s
  unfolding add_of add_by
  accepted t z c e = rw z (ap₂ (λ (count : ℕ) (words : List ℤ). record { number = 0; sums = record { count = count; words = words } }) c e)

  -- ---- one sum more, of those that are in range
  module _ (a : AddAccepted s) where
    sum_near : (n : ℕ) → n < 128 → Within (sum_at s.words n) (4096 * 2 ^ 31)
    sum_near n l = within (omega (arith, near s.count s.words a.sums.inside n l, a.room))

    pub plus_fit : (n : ℕ) → n < 128 → {p : ℤ} → Within p (2 ^ 31) → SFits w64 (read (sum_at s.words n) +ℤ read p)
    plus_fit n l h = plus_fits (sum_near n l) h (lit< tt)

    pub plus_are : (e q : ℕ) → e < 64 → q < 2 → {p : ℤ} → Within p (2 ^ 31) → p ≡ product_part (sample_of snapshot (e / 8)) (sample_of snapshot (e % 8)) q
        → read (read (sum_at s.words (2 * e + q)) +ℤ read p) ≡ added_word snapshot s.words (2 * e + q)
    plus_are e q l k h is =
        plus_is (sum_near (2 * e + q) (omega arith)) h (lit< tt)
        ∙ ap (λ (z : ℤ). sum_at s.words (2 * e + q) +ℤ z) is
        ∙ sym (added-part snapshot s.words e q k)

-- what is not filled yet is as it was
pub not_yet : {A : Type 0} {n : ℕ} {f : ℕ → A} {d a : List A} {k : ℕ} → Filling n f d k a → (i : ℕ) (x : A) → k ≤ i → get_or a i x ≡ get_or d i x
unfolding filled
not_yet {A} {n} {f} {d} {a} {k} h i x l =
    let e : k + (i - k) ≡ i = omega arith in
    rw (h.is, get_or-append_right (tabulate k f) (drop k d) k i x (length-tabulate k f) l, get_or-drop k d (i - k) x, e)
