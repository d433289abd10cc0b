-- Reading what was written: the digits of a number give the number, and its columns too. Assumes nothing.
use mathlib.Core.Path.{◌≡◌, refl, sym, ap, ◌∙◌}
use mathlib.Core.Bool.{Bool, true, false, cond}
use mathlib.Core.List.{List, [], ◌∷◌, ◌++◌, append_assoc, append-nil}
use mathlib.Core.Option.{some, map}
use Prim.Native.Nat.{ℕ, zero, suc, ◌+◌, ◌-◌, ◌*◌, ◌/◌, ◌%◌, ◌^◌, ◌<◌}
use native.Mathlib.Decide.{dec_lt}
use native.Mathlib.Omega.{arith}
use borrow.Author.Tests.{ne_eqb}
use lib.Dec.{ltb, eqb}
use lib.IntN.{ℤ, pos, negsuc, neg_ℤ}
use lib.ListN.{length, replicate}
use mir.Syntax.{w32}
use mir.Val.{SFits}
use Rattle.page_text.specs.Decimal.{blank, minus, last_digit, digits, decimalℕ, decimal, field}
use Rattle.page_text.proofs.Decimal.{digits_below, digits_above, tenth}
use Rattle.page_text_laws.specs.Reading.{number_from, digits_in, number_in}
use Rattle.page_text_laws.proofs.Characters.{digit_is}

-- ---- digits

-- one digit
one : (m n : ℕ) (rest : List ℕ) → number_from m (last_digit n ∷ rest) ≡ number_from (m * 10 + n % 10) rest
unfolding number_from
one m n rest =
    let d : last_digit n - 48 ≡ n % 10 = omega arith in
    rw (digit_is n, d)

below : (k n : ℕ) (rest : List ℕ) → n < 10 → number_from 0 (digits k n ++ rest) ≡ number_from n rest
below k n rest h =
    let v : 0 * 10 + n % 10 ≡ n = omega arith in
    ap (λ (l : List ℕ). number_from 0 (l ++ rest)) (digits_below k n h) ∙ one 0 n rest ∙ ap (λ (m : ℕ). number_from m rest) v

all : (k n : ℕ) (rest : List ℕ) → n < 10 ^ suc k → number_from 0 (digits k n ++ rest) ≡ number_from n rest
all zero n rest h = below zero n rest h
all (suc k) n rest h = pick (dec_lt n 10) (all k (n / 10) (last_digit n ∷ rest) (tenth n (suc k) h))
  where
    pick : Dec (n < 10) → number_from 0 (digits k (n / 10) ++ last_digit n ∷ rest) ≡ number_from (n / 10) (last_digit n ∷ rest)
        → number_from 0 (digits (suc k) n ++ rest) ≡ number_from n rest
    pick (yes s) e = below (suc k) n rest s
    pick (no s) e =
        let v : n / 10 * 10 + n % 10 ≡ n = omega arith in
        ap (λ (l : List ℕ). number_from 0 (l ++ rest)) (digits_above k n (omega arith))
        ∙ ap (number_from 0) (append_assoc (digits k (n / 10)) (last_digit n ∷ []) rest)
        ∙ e
        ∙ one (n / 10) n rest
        ∙ ap (λ (m : ℕ). number_from m rest) v

-- digits begin with a digit, so that there is one, and neither a blank nor a sign
pub record Begins (cs : List ℕ) : Type 0 where
  pub first : ℕ
  pub rest : List ℕ
  pub is : cs ≡ first ∷ rest
  pub no_blank : eqb first blank ≡ false
  pub no_minus : eqb first minus ≡ false

begins_digit : (n : ℕ) (rest : List ℕ) → Begins (last_digit n ∷ rest)
begins_digit n rest =
    record {
      first = last_digit n;
      rest = rest;
      is = refl;
      no_blank = ne_eqb (last_digit n) blank (λ e. omega arith);
      no_minus = ne_eqb (last_digit n) minus (λ e. omega arith);
    }

begins : (k n : ℕ) (rest : List ℕ) → Begins (digits k n ++ rest)
unfolding digits
begins zero n rest = begins_digit n rest
begins (suc k) n rest = pick (ltb n 10) (begins k (n / 10) (last_digit n ∷ rest))
  where
    pick : (t : Bool) → Begins (digits k (n / 10) ++ last_digit n ∷ rest) → Begins (cond t (last_digit n ∷ []) (digits k (n / 10) ++ last_digit n ∷ []) ++ rest)
    pick true b = begins_digit n rest
    pick false b = rw (append_assoc (digits k (n / 10)) (last_digit n ∷ []) rest) b

module _ (n : ℕ) (h : n < 10 ^ 10) where
  b : Begins (decimalℕ n)
  b = rw (append-nil (decimalℕ n)) at (begins 9 n [])

  number : number_from 0 (decimalℕ n) ≡ some n
  unfolding number_from
  number = rw (append-nil (decimalℕ n)) at (all 9 n [] h)

  unsigned : digits_in (decimalℕ n) ≡ some n
  unfolding digits_in
  unsigned = ap digits_in b.is ∙ ap (number_from 0) (sym b.is) ∙ number

  plain : number_in (decimalℕ n) ≡ some (pos n)
  unfolding number_in
  plain =
      ap number_in b.is
      ∙ rw (b.no_blank, b.no_minus) (ap (λ (l : List ℕ). map pos (digits_in l)) (sym b.is) ∙ ap (map pos) unsigned)

-- ---- words

decimal-read : (z : ℤ) → SFits w32 z → number_in (decimal z) ≡ some z
unfolding decimal number_in
decimal-read (pos n) f = plain n (omega (arith, f.sfits))
decimal-read (negsuc n) f = ap (map (λ (n : ℕ). neg_ℤ (pos n))) (unsigned (suc n) (omega (arith, f.sfits)))

past_blanks : (k : ℕ) (cs : List ℕ) → number_in (replicate k blank ++ cs) ≡ number_in cs
unfolding number_in
past_blanks zero cs = refl
past_blanks (suc k) cs = past_blanks k cs

pub field-read : (z : ℤ) → SFits w32 z → number_in (field z) ≡ some z
unfolding field
field-read z f = past_blanks (12 - length (decimal z)) (decimal z) ∙ decimal-read z f
