-- Inputs that are too long: tests 1 and 2 see nothing behind the first 2,050 bytes. Assumes nothing.
use mathlib.Core.Path.{◌≡◌, refl, sym, ap, ◌∙◌}
use mathlib.Core.Bool.{Bool, true, false}
use mathlib.Core.List.{List}
use Prim.Native.Nat.{ℕ, ◌≤◌, ◌<◌}
use native.Mathlib.Decide.{ℕ_discrete, dec_lt}
use native.Mathlib.Omega.{arith}
use borrow.Author.Tests.{eq-eqb, ne_eqb}
use lib.Dec.{eqb}
use lib.ListN.{length, get_or, take}
use lib.Seq.{take_all, length-take-le, get_or-take}
use Rattle.refusals.specs.Refusals.{first, fails_if, header_test}
use Rattle.result_record.specs.ResultRecord.{record_r, result_test, record_refusal_of}
use Rattle.page_text.specs.Page.{refusal_line, page_of}
use Rattle.page_text.proofs.Page.{page_refused}
use Rattle.page_text_laws.specs.LongInput.{LongInput}

long-refused : (input : List ℕ) → 2050 ≤ length input → get_or input 0 0 ≡ 2 → page_of input ≡ refusal_line 2
unfolding record_refusal_of header_test
long-refused input l e = page_refused input 2 two (λ z. omega arith)
  where
    two : record_refusal_of input ≡ 2
    two = rw (ne_eqb (length input) 0 (λ z. omega arith), eq-eqb (get_or input 0 0) 2 e, ne_eqb (length input) 2049 (λ z. omega arith))

-- test 1 fails first, whether there is a byte or not
kind-number : (input : List ℕ) → (get_or input 0 0 ≡ 2 → ⊥) → record_refusal_of input ≡ 1
unfolding record_refusal_of header_test
kind-number input f = rw (ne_eqb (get_or input 0 0) 2 f) (by (eqb (length input) 0))
  where
    by : (t : Bool) → first (first (fails_if t 1) 1) (result_test (record_r input)) ≡ 1
    by true = refl
    by false = refl

kind-refused : (input : List ℕ) → (get_or input 0 0 ≡ 2 → ⊥) → page_of input ≡ refusal_line 1
kind-refused input f = page_refused input 1 (kind-number input f) (λ z. omega arith)

module _ (input : List ℕ) (l : 2050 < length input) where
  first_byte : get_or (take 2050 input) 0 0 ≡ get_or input 0 0
  first_byte = get_or-take 2050 input 0 0 (omega arith)

  cut-long : Dec (get_or input 0 0 ≡ 2) → page_of (take 2050 input) ≡ page_of input
  cut-long (yes e) =
      long-refused (take 2050 input) (omega (arith, length-take-le 2050 input (omega arith))) (first_byte ∙ e) ∙ sym (long-refused input (omega arith) e)
  cut-long (no f) = kind-refused (take 2050 input) (λ e. f (sym first_byte ∙ e)) ∙ sym (kind-refused input f)

cut_same : (input : List ℕ) → page_of (take 2050 input) ≡ page_of input
cut_same input = pick (dec_lt 2050 (length input))
  where
    pick : Dec (2050 < length input) → page_of (take 2050 input) ≡ page_of input
    pick (yes l) = cut-long input l (ℕ_discrete (get_or input 0 0) 2)
    pick (no l) = ap page_of (take_all 2050 input (omega arith))

pub long_input : LongInput
long_input =
    record {
      cut = cut_same;
      too_long = long-refused;
      other_kind = kind-refused;
    }
