-- The test of R word by word, and row by row. Assumes nothing.
use mathlib.Core.Path.{◌≡◌, sym, ◌∙◌, subst}
use mathlib.Core.Bool.{Bool, true, false}
use mathlib.Core.List.{List}
use Prim.Native.Nat.{ℕ, ◌+◌, ◌*◌, ◌/◌, ◌%◌, ◌<◌}
use native.Mathlib.Omega.{arith}
use borrow.Author.Tests.{lt-ltb, le-ltb, eq-eqb, ne_eqb}
use lib.Dec.{eqb}
use lib.IntN.{ℤ}
use lib.Signed.{mag}
use mir.Syntax.{w32}
use mir.Val.{of_z}
use Rattle.integers.proofs.Magnitude.{zero_bits}
use Rattle.lists.specs.Lists.{all_below}
use Rattle.lists.proofs.Passing.{Passed, pass_run, pass_last, run_fails, all_at, all_same}
use Rattle.result_record.specs.ResultRecord.{record_r, is_finished_at, is_finished}

-- ---- within a row

-- before the diagonal a word has to be 0, which the machine tests by its bits
before_is : (i j : ℕ) (w : ℤ) → j < i → mag w < 2147483648 → is_finished_at i j w ≡ eqb (of_z w32 w) 0
unfolding is_finished_at
before_is i j w h small = rw (lt-ltb j i h) (sym (zero_bits w small))

pub before_passes : (bytes : List ℕ) (i j : ℕ) (w : ℤ) → j < i → w ≡ record_r bytes i j → mag w < 2147483648 → of_z w32 w ≡ 0 → is_finished_at i j (record_r bytes i j) ≡ true
before_passes bytes i j w h e small z = rw (← e) (before_is i j w h small ∙ eq-eqb _ _ z)

pub before_fails : (bytes : List ℕ) (i j : ℕ) (w : ℤ) → j < i → w ≡ record_r bytes i j → mag w < 2147483648 → (of_z w32 w ≡ 0 → ⊥) → is_finished_at i j (record_r bytes i j) ≡ false
before_fails bytes i j w h e small z = rw (← e) (before_is i j w h small ∙ ne_eqb _ _ z)

-- after it any word may stand
after_is : (i j : ℕ) (w : ℤ) → i < j → is_finished_at i j w ≡ true
unfolding is_finished_at
after_is i j w h = simp (le-ltb j i (omega arith), ne_eqb i j (λ e. omega arith))

-- the diagonal word decides
pub diagonal_is : (bytes : List ℕ) (i j : ℕ) → i < 16 → j ≡ i → Passed 16 (λ (n : ℕ). is_finished_at i n (record_r bytes i n)) j
    → is_finished_at i i (record_r bytes i i) ≡ all_below 16 (λ n. is_finished_at i n (record_r bytes i n))
diagonal_is bytes i j h e p =
    pass_last (subst (Passed 16 (λ (n : ℕ). is_finished_at i n (record_r bytes i n))) e p) h (λ n l. after_is i n (record_r bytes i n) l)

-- ---- row by row

-- the test of word k
unfoldable pub word_test : List ℕ → ℕ → Bool
word_test bytes k = is_finished_at (k / 16) (k % 16) (record_r bytes (k / 16) (k % 16))

at_row : (bytes : List ℕ) (i j : ℕ) → j < 16 → word_test bytes (16 * i + j) ≡ is_finished_at i j (record_r bytes i j)
unfolding word_test
at_row bytes i j h =
    let d : (16 * i + j) / 16 ≡ i = omega arith in
    let m : (16 * i + j) % 16 ≡ j = omega arith in
    rw (d, m)

row_test : (bytes : List ℕ) (i : ℕ) → all_below 16 (λ j. word_test bytes (16 * i + j)) ≡ all_below 16 (λ j. is_finished_at i j (record_r bytes i j))
row_test bytes i = all_same _ _ 16 (λ j h. at_row bytes i j h)

-- a row that fails, and one more that holds
pub row_fails : (bytes : List ℕ) (i : ℕ) → i < 16 → all_below 16 (λ j. is_finished_at i j (record_r bytes i j)) ≡ false → false ≡ is_finished (record_r bytes)
unfolding is_finished word_test
row_fails bytes i h e = run_fails (word_test bytes) 256 (16 * i) 16 (omega arith) (row_test bytes i ∙ e)

pub row_holds : (bytes : List ℕ) (i : ℕ) → i < 16 → all_below 16 (λ j. is_finished_at i j (record_r bytes i j)) ≡ true → Passed 256 (word_test bytes) (16 * i)
    → Passed 256 (word_test bytes) (16 * (i + 1))
row_holds bytes i h e p =
    let next : 16 * i + 16 ≡ 16 * (i + 1) = omega arith in
    rw next at (pass_run 16 p (omega arith) (λ j l. all_at (λ j. word_test bytes (16 * i + j)) 16 (row_test bytes i ∙ e) j l))
