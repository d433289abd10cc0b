-- The heard byte: each of its bits, and when it is 0. Assumes nothing.
use mathlib.Core.Path.{◌≡◌, refl, ap, ◌∙◌, subst}
use mathlib.Core.Bool.{Bool, true, false, cond}
use mathlib.Core.List.{List}
use mathlib.Core.Logic.{⊎_elim}
use Prim.Native.Nat.{ℕ, zero, suc, ◌+◌, ◌-◌, ◌*◌, ◌/◌, ◌%◌, ◌^◌, ◌<◌}
use native.Mathlib.Nat.{not-suc-le-zero, le_of_suc-le-suc, eq-or-lt_of_le, le_refl, mod-lt, add-mul, mul_assoc, pow-succ'}
use native.Mathlib.Omega.{arith}
use lib.Bits.{block_odd}
use lib.Dec.{lit<}
use lib.Pow.{pow_pos, pow-add, split, high}
use Rattle.matrix_record.specs.MatrixRecord.{antenna_heard_of, heard_below}

-- a bit as a number
abbrev bit : Bool → ℕ
bit b = cond b 1 0

bit_times : (b : Bool) (p m : ℕ) → m + cond b p 0 ≡ bit b * p + m
bit_times true p m = omega arith
bit_times false p m = omega arith

bit_odd : (b : Bool) → bit b % 2 ≡ bit b
bit_odd true = refl
bit_odd false = refl

-- what stands above bit k leaves it as it is
below_block : (a j k m : ℕ) → (a * 2 ^ (suc j + k) + m) / 2 ^ k % 2 ≡ m / 2 ^ k % 2
below_block a j k m = ap (λ (n : ℕ). n / 2 ^ k % 2) apart ∙ ap (λ (n : ℕ). n % 2) (high (a * 2 ^ suc j + m / 2 ^ k) k (mod-lt m (pow_pos k))) ∙ block_odd a j (m / 2 ^ k)
  where
    apart : a * 2 ^ (suc j + k) + m ≡ (a * 2 ^ suc j + m / 2 ^ k) * 2 ^ k + m % 2 ^ k
    apart = rw (pow-add 2 (suc j) k, add-mul (a * 2 ^ suc j) (m / 2 ^ k) (2 ^ k), mul_assoc a (2 ^ suc j) (2 ^ k)) (omega (arith, split m k))

module _ (rec : List ℕ) where
  more : (n : ℕ) → heard_below rec (suc n) ≡ bit (antenna_heard_of rec n) * 2 ^ n + heard_below rec n
  unfolding heard_below
  more n = bit_times (antenna_heard_of rec n) (2 ^ n) (heard_below rec n)

  below_power : (n : ℕ) → heard_below rec n < 2 ^ n
  unfolding heard_below
  below_power zero = lit< tt
  below_power (suc n) = rw (pow-succ' 2 n) (go (antenna_heard_of rec n) (heard_below rec n) (2 ^ n) (below_power n))
    where
      go : (b : Bool) (m p : ℕ) → m < p → m + cond b p 0 < 2 * p
      go true m p h = omega arith
      go false m p h = omega arith

  -- bit k is that of antenna k
  pub heard_bit : (n k : ℕ) → k < n → heard_below rec n / 2 ^ k % 2 ≡ bit (antenna_heard_of rec k)
  heard_bit zero k l = absurd (not-suc-le-zero l)
  heard_bit (suc n) k l = rw (more n) (⊎_elim last (λ h. lower h (heard_bit n k h)) (eq-or-lt_of_le (le_of_suc-le-suc l)))
    where
      last : k ≡ n → (bit (antenna_heard_of rec n) * 2 ^ n + heard_below rec n) / 2 ^ k % 2 ≡ bit (antenna_heard_of rec k)
      last e = rw e (ap (λ (m : ℕ). m % 2) (high (bit (antenna_heard_of rec n)) n (below_power n)) ∙ bit_odd (antenna_heard_of rec n))

      lower : k < n → heard_below rec n / 2 ^ k % 2 ≡ bit (antenna_heard_of rec k) → (bit (antenna_heard_of rec n) * 2 ^ n + heard_below rec n) / 2 ^ k % 2 ≡ bit (antenna_heard_of rec k)
      lower h is =
          let e : suc (n - suc k) + k ≡ n = omega arith in
          subst (λ (m : ℕ). (bit (antenna_heard_of rec n) * 2 ^ m + heard_below rec n) / 2 ^ k % 2 ≡ bit (antenna_heard_of rec k)) e
          (below_block (bit (antenna_heard_of rec n)) (n - suc k) k (heard_below rec n) ∙ is)

  -- no bit is set exactly if no antenna is heard
  pub unheard : (n : ℕ) → heard_below rec n ≡ 0 → (k : ℕ) → k < n → antenna_heard_of rec k ≡ false
  unfolding heard_below
  unheard zero h k l = absurd (not-suc-le-zero l)
  unheard (suc n) h k l = let c = clear (antenna_heard_of rec n) (heard_below rec n) (2 ^ n) (pow_pos n) h in ⊎_elim (λ q. rw q c.0) (unheard n c.1 k) (eq-or-lt_of_le (le_of_suc-le-suc l))
    where
      clear : (b : Bool) (m p : ℕ) → 0 < p → m + cond b p 0 ≡ 0 → (b ≡ false) × (m ≡ 0)
      clear true m p q h = absurd (omega arith)
      clear false m p q h = (refl, omega arith)

  pub none_heard_lem : (n : ℕ) → ((k : ℕ) → k < n → antenna_heard_of rec k ≡ false) → heard_below rec n ≡ 0
  unfolding heard_below
  none_heard_lem zero h = refl
  none_heard_lem (suc n) h = rw (h n (le_refl (suc n)), none_heard_lem n (λ k l. h k (omega arith)))
