-- Laws of numbers in decimal: one digit more, that they are the library's text, and how long they are. Assumes nothing.
use mathlib.Core.Path.{◌≡◌, refl, sym, ap, ◌∙◌}
use mathlib.Core.List.{List, [], ◌∷◌, ◌++◌}
use Prim.Native.Nat.{ℕ, zero, suc, ◌+◌, ◌-◌, ◌/◌, ◌%◌, ◌^◌, ◌≤◌, ◌<◌}
use native.Mathlib.Decide.{dec_lt}
use native.Mathlib.Nat.{div-lt_iff_lt-mul, pow-suc}
use native.Mathlib.Omega.{arith}
use borrow.Author.Tests.{lt-ltb, le-ltb}
use lib.IntN.{ℤ, pos, negsuc}
use lib.ListN.{length, replicate, length-append, length-replicate}
use mir.Syntax.{w32}
use mir.Val.{SFits}
use Rattle.std.specs.Fmt as text
use Rattle.std.proofs.lemmas.Fmt.{decimal_digit, decimal_step}
use Rattle.page_text.specs.Decimal.{blank, last_digit, digits, decimalℕ, decimal, field}

-- ---- digits

digits-none : (n : ℕ) → digits zero n ≡ last_digit n ∷ []
unfolding digits
digits-none n = refl

pub digits_below : (k n : ℕ) → n < 10 → digits k n ≡ last_digit n ∷ []
unfolding digits
digits_below zero n h = digits-none n
digits_below (suc k) n h = rw (lt-ltb n 10 h)

pub digits_above : (k n : ℕ) → 10 ≤ n → digits (suc k) n ≡ digits k (n / 10) ++ last_digit n ∷ []
unfolding digits
digits_above k n h = rw (le-ltb n 10 h)

pub tenth : (n e : ℕ) → n < 10 ^ suc e → n / 10 < 10 ^ e
tenth n e h = (div-lt_iff_lt-mul {k = 10} {x = n} {y = 10 ^ e} (omega arith)).1 (rw (pow-suc 10 e) at h)

-- where there is room for all digits, more room changes nothing
room : (k n : ℕ) → n < 10 ^ suc k → digits k n ≡ digits (suc k) n
room zero n h = digits_below zero n h ∙ sym (digits_below 1 n h)
room (suc k) n h = pick (dec_lt n 10) (room k (n / 10) (tenth n (suc k) h))
  where
    pick : Dec (n < 10) → digits k (n / 10) ≡ digits (suc k) (n / 10) → digits (suc k) n ≡ digits (suc (suc k)) n
    pick (yes s) e = digits_below (suc k) n s ∙ sym (digits_below (suc (suc k)) n s)
    pick (no s) e =
        digits_above k n (omega arith) ∙ ap (λ (ds : List ℕ). ds ++ last_digit n ∷ []) e ∙ sym (digits_above (suc k) n (omega arith))

-- a number of two digits or more: those of its tenth, and the last
pub decimal_more : (n : ℕ) → 10 ≤ n → n < 10 ^ 10 → decimalℕ n ≡ decimalℕ (n / 10) ++ last_digit n ∷ []
decimal_more n h l = digits_above 8 n h ∙ ap (λ (ds : List ℕ). ds ++ last_digit n ∷ []) (room 8 (n / 10) (tenth n 9 l))

-- ---- the text that the library writes is the decimal

digit_text : (n : ℕ) → n < 10 → text.decimal n ≡ decimalℕ n
digit_text n h = let e : n ≡ n % 10 = omega arith in decimal_digit n h ∙ ap (λ (k : ℕ). (48 + k) ∷ []) e ∙ sym (digits_below _ n h)

digits_text : (k n : ℕ) → n < 10 ^ suc k → n < 10 ^ 10 → text.decimal n ≡ decimalℕ n
digits_text zero n h l = digit_text n h
digits_text (suc k) n h l = pick (dec_lt n 10) (digits_text k (n / 10) (tenth n (suc k) h) (omega arith))
  where
    pick : Dec (n < 10) → text.decimal (n / 10) ≡ decimalℕ (n / 10) → text.decimal n ≡ decimalℕ n
    pick (yes s) e = digit_text n s
    pick (no s) e = decimal_step n (omega arith) (omega arith) ∙ ap (λ (ds : List ℕ). ds ++ last_digit n ∷ []) e ∙ sym (decimal_more n (omega arith) l)

pub decimal_text : (n : ℕ) → n < 10 ^ 10 → text.decimal n ≡ decimalℕ n
decimal_text n h = digits_text 9 n h h

-- ---- lengths

-- a number below 10 ^ (e + 1) has e + 1 digits at most
digits-length : (k e n : ℕ) → n < 10 ^ suc e → length (digits k n) ≤ suc e
digits-length zero e n h = rw (digits-none n) (omega arith)
digits-length (suc k) zero n h = rw (digits_below (suc k) n h) (omega arith)
digits-length (suc k) (suc e) n h = pick (dec_lt n 10) (digits-length k e (n / 10) (tenth n (suc e) h))
  where
    pick : Dec (n < 10) → length (digits k (n / 10)) ≤ suc e → length (digits (suc k) n) ≤ suc (suc e)
    pick (yes s) d = rw (digits_below (suc k) n s) (omega arith)
    pick (no s) d = rw (digits_above k n (omega arith), length-append (digits k (n / 10)) (last_digit n ∷ [])) (omega arith)

-- nor has any number no digit
some_digit : (k n : ℕ) → 1 ≤ length (digits k n)
some_digit zero n = rw (digits-none n) (omega arith)
some_digit (suc k) n = pick (dec_lt n 10)
  where
    pick : Dec (n < 10) → 1 ≤ length (digits (suc k) n)
    pick (yes s) = rw (digits_below (suc k) n s) (omega arith)
    pick (no s) = rw (digits_above k n (omega arith), length-append (digits k (n / 10)) (last_digit n ∷ [])) (omega arith)

pub ten_digits : (n : ℕ) → n < 10 ^ 10 → (1 ≤ length (decimalℕ n)) × (length (decimalℕ n) ≤ 10)
ten_digits n h = (some_digit 9 n, digits-length 9 9 n h)

-- no word of 32 bits takes more than 11 columns
pub decimal-length : (z : ℤ) → SFits w32 z → length (decimal z) ≤ 11
unfolding decimal
decimal-length (pos n) f = let d = digits-length 9 9 n (omega (arith, f.sfits)) in omega arith
decimal-length (negsuc n) f = let d = digits-length 9 9 (suc n) (omega (arith, f.sfits)) in omega arith

pub field-length : (z : ℤ) → SFits w32 z → length (field z) ≡ 12
unfolding field
field-length z f =
    let d = decimal-length z f in
    length-append (replicate (12 - length (decimal z)) blank) (decimal z) ∙ simp length-replicate (omega arith)
