-- The characters of a number in decimal: digits, the last of which is the last, and before them a minus sign and blanks. Assumes nothing.
use mathlib.Core.Path.{◌≡◌, refl, sym, ap, ◌∙◌}
use mathlib.Core.Bool.{Bool, true, false, cond}
use mathlib.Core.List.{List, [], ◌∷◌, ◌++◌, append_assoc}
use Prim.Native.Nat.{ℕ, zero, suc, ◌-◌, ◌/◌, ◌<◌}
use native.Mathlib.Nat.{not-suc-le-zero, le_of_suc-le-suc}
use native.Mathlib.Omega.{arith}
use borrow.Author.Tests.{lt-ltb, ne_eqb}
use lib.Dec.{ltb, eqb}
use lib.IntN.{ℤ, pos, negsuc}
use lib.ListN.{length, get_or, replicate}
use Rattle.lists.specs.Lists.{joined}
use Rattle.page_text.specs.Decimal.{blank, minus, last_digit, digits, decimal, field}
use Rattle.page_text_laws.specs.Reading.{is_digit, is_printed}

pub digit_is : (n : ℕ) → is_digit (last_digit n) ≡ true
digit_is n = rw (lt-ltb 47 (last_digit n) (omega arith), lt-ltb (last_digit n) 58 (omega arith))

digit_printed : (n : ℕ) → is_printed (last_digit n) ≡ true
digit_printed n =
    let b : eqb (last_digit n) blank ≡ false = ne_eqb (last_digit n) blank (λ e. omega arith) in
    let m : eqb (last_digit n) minus ≡ false = ne_eqb (last_digit n) minus (λ e. omega arith) in
    rw (b, m) (digit_is n)

-- ---- all characters of a list

abbrev pub OnlyPrinted : List ℕ → Type 0
OnlyPrinted [] = Unit {0}
OnlyPrinted (c ∷ cs) = (is_printed c ≡ true) × OnlyPrinted cs

pub printed_at : (cs : List ℕ) → OnlyPrinted cs → (k : ℕ) → k < length cs → is_printed (get_or cs k 0) ≡ true
printed_at [] p k h = absurd (not-suc-le-zero h)
printed_at (c ∷ cs) p zero h = p.0
printed_at (c ∷ cs) p (suc k) h = printed_at cs p.1 k (le_of_suc-le-suc h)

printed_append : (cs ds : List ℕ) → OnlyPrinted cs → OnlyPrinted ds → OnlyPrinted (cs ++ ds)
printed_append [] ds p q = q
printed_append (c ∷ cs) ds p q = (p.0, printed_append cs ds p.1 q)

printed_blanks : (n : ℕ) → OnlyPrinted (replicate n blank)
printed_blanks zero = tt
printed_blanks (suc n) = (refl, printed_blanks n)

printed-digits : (k n : ℕ) → OnlyPrinted (digits k n)
unfolding digits
printed-digits zero n = (digit_printed n, tt)
printed-digits (suc k) n = pick (ltb n 10) (printed-digits k (n / 10))
  where
    pick : (t : Bool) → OnlyPrinted (digits k (n / 10)) → OnlyPrinted (cond t (last_digit n ∷ []) (digits k (n / 10) ++ last_digit n ∷ []))
    pick true p = (digit_printed n, tt)
    pick false p = printed_append (digits k (n / 10)) (last_digit n ∷ []) p (digit_printed n, tt)

printed-decimal : (z : ℤ) → OnlyPrinted (decimal z)
unfolding decimal
printed-decimal (pos n) = printed-digits 9 n
printed-decimal (negsuc n) = (refl, printed-digits 9 (suc n))

pub printed-field : (z : ℤ) → OnlyPrinted (field z)
unfolding field
printed-field z = printed_append (replicate (12 - length (decimal z)) blank) (decimal z) (printed_blanks (12 - length (decimal z))) (printed-decimal z)

pub printed-joined : (n : ℕ) (f : ℕ → List ℕ) → ((j : ℕ) → OnlyPrinted (f j)) → OnlyPrinted (joined n f)
unfolding joined
printed-joined zero f p = tt
printed-joined (suc n) f p = printed_append (joined n f) (f n) (printed-joined n f p) (p n)

-- ---- the last character

-- a list that ends in a digit
pub record Ends (cs : List ℕ) : Type 0 where
  pub before : List ℕ
  pub last : ℕ
  pub is : cs ≡ before ++ last ∷ []
  pub digit : is_digit last ≡ true

ends-digits : (k n : ℕ) → Ends (digits k n)
unfolding digits
ends-digits zero n = record { before = []; last = last_digit n; is = refl; digit = digit_is n }
ends-digits (suc k) n = pick (ltb n 10)
  where
    pick : (t : Bool) → Ends (cond t (last_digit n ∷ []) (digits k (n / 10) ++ last_digit n ∷ []))
    pick true = record { before = []; last = last_digit n; is = refl; digit = digit_is n }
    pick false = record { before = digits k (n / 10); last = last_digit n; is = refl; digit = digit_is n }

ends_behind : (cs ds : List ℕ) → Ends ds → Ends (cs ++ ds)
ends_behind cs ds e =
    record {
      before = cs ++ e.before;
      last = e.last;
      is = ap (λ (l : List ℕ). cs ++ l) e.is ∙ sym (append_assoc cs e.before (e.last ∷ []));
      digit = e.digit;
    }

ends-decimal : (z : ℤ) → Ends (decimal z)
unfolding decimal
ends-decimal (pos n) = ends-digits 9 n
ends-decimal (negsuc n) = ends_behind (minus ∷ []) (digits 9 (suc n)) (ends-digits 9 (suc n))

pub ends-field : (z : ℤ) → Ends (field z)
unfolding field
ends-field z = ends_behind (replicate (12 - length (decimal z)) blank) (decimal z) (ends-decimal z)
