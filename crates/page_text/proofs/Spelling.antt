-- A word's digits stand at the end of 12 columns, behind blanks: what the columns hold, and what the sign makes of them. Assumes nothing.
use mathlib.Core.Path.{◌≡◌, sym, ap, ap₂, ◌∙◌, subst}
use mathlib.Core.Bool.{true, false}
use mathlib.Core.List.{List, ◌∷◌, ◌++◌, append-nil}
use Prim.Native.Nat.{ℕ, suc, ◌+◌, ◌-◌, ◌^◌, ◌≤◌, ◌<◌}
use native.Mathlib.Nat.{not-suc-le-zero}
use native.Mathlib.Omega.{arith}
use borrow.Author.Tests.{ltb-true}
use lib.Dec.{T}
use lib.IntN.{ℤ, pos, negsuc, nat_abs}
use lib.Signed.{lt_z}
use lib.ListN.{length, set, take, drop, replicate, length-drop, take-append-drop}
use lib.Seq.{take-take, set_split}
use Rattle.std.specs.Fmt as text
use Rattle.lists.proofs.Tabulate.{take-replicate}
use Rattle.page_text.specs.Decimal.{blank, minus, decimalℕ, decimal, right_aligned, field}
use Rattle.page_text.proofs.Decimal.{decimal_text, ten_digits}

-- all digits of m are put, from the column `at` on
pub record Spelled (m at : ℕ) (columns : List ℕ) : Type 0 where
  pub size : length columns ≡ 12
  pub low : 2 ≤ at
  pub high : at ≤ 11
  pub blanks : take at columns ≡ replicate at blank
  pub digits : drop at columns ≡ decimalℕ m

-- the library's digits of a number below 10^10 take ten columns at most
pub few_columns : (m : ℕ) → m < 10 ^ 10 → length (text.decimal m) ≤ 10
few_columns m h = rw (decimal_text m h) ((ten_digits m h).1)

-- so all digits are put where the library wrote them over blanks
pub spelled_all : (m at : ℕ) (before columns : List ℕ) → m < 10 ^ 10 → before ≡ replicate 12 blank → length columns ≡ 12
    → at + length (text.decimal m) ≡ 12 → drop at columns ≡ text.decimal m ++ drop 12 before → take at columns ≡ take at before → Spelled m at columns
spelled_all m at before columns h e size start written same =
    let d : text.decimal m ≡ decimalℕ m = decimal_text m h in
    let few = ten_digits m h in
    let n : at + length (decimalℕ m) ≡ 12 = ap (λ (l : List ℕ). at + length l) (sym d) ∙ start in
    record {
      size = size;
      low = omega (arith, n, few.1);
      high = omega (arith, n, few.0);
      blanks = same ∙ ap (take at) e ∙ take-replicate at 12 blank (omega (arith, n));
      digits = written ∙ ap₂ (λ (a b : List ℕ). a ++ drop 12 b) d e ∙ append-nil (decimalℕ m);
    }

-- the columns before one of blank columns are blank
blanks_before : (at p : ℕ) (columns : List ℕ) → take at columns ≡ replicate at blank → p ≤ at → take p columns ≡ replicate p blank
blanks_before at p columns e h = sym (take-take p at columns h) ∙ ap (take p) e ∙ take-replicate p at blank h

-- ---- the word

module _ {m at : ℕ} {columns : List ℕ} (s : Spelled m at columns) where
  taken : length (decimalℕ m) ≡ 12 - at
  taken = ap length (sym s.digits) ∙ length-drop at columns ∙ ap (λ (k : ℕ). k - at) s.size

  plain : columns ≡ right_aligned 12 (decimalℕ m)
  plain =
      let k : at ≡ 12 - length (decimalℕ m) = omega (arith, taken, s.high) in
      sym (take-append-drop at columns)
      ∙ ap₂ (λ (a b : List ℕ). a ++ b) (s.blanks ∙ ap (λ (j : ℕ). replicate j blank) k) s.digits

  signed : (p : ℕ) → suc p ≡ at → set columns p minus ≡ right_aligned 12 (minus ∷ decimalℕ m)
  signed p e =
      let k : p ≡ 12 - suc (length (decimalℕ m)) = omega (arith, taken, s.high) in
      set_split columns p minus (omega (arith, s.size, s.high))
      ∙ ap₂ (λ (a b : List ℕ). a ++ (minus ∷ b))
      (blanks_before at p columns s.blanks (omega arith) ∙ ap (λ (j : ℕ). replicate j blank) k)
      (ap (λ (j : ℕ). drop j columns) e ∙ s.digits)

  -- m being the absolute value of w, the columns are w's, after a minus sign where w is negative
  pub spelled_plain : (w : ℤ) → lt_z w (pos 0) ≡ false → m ≡ nat_abs w → columns ≡ field w
  unfolding field decimal
  spelled_plain (pos n) t e = plain ∙ ap (λ (k : ℕ). right_aligned 12 (decimalℕ k)) e
  spelled_plain (negsuc n) t e = absurd (subst T t tt)

  pub spelled_signed : (w : ℤ) (p : ℕ) → suc p ≡ at → lt_z w (pos 0) ≡ true → m ≡ nat_abs w → set columns p minus ≡ field w
  unfolding field decimal
  spelled_signed (pos n) p h t e = absurd (not-suc-le-zero (ltb-true n 0 t))
  spelled_signed (negsuc n) p h t e = signed p h ∙ ap (λ (k : ℕ). right_aligned 12 (minus ∷ decimalℕ k)) e
