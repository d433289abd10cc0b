-- The result record is its words and they are it: what was written reads back to the same words, and a record is written again byte for byte.
-- Assumes nothing.
use mathlib.Core.Path.{◌≡◌, refl, sym, ap, ◌∙◌}
use mathlib.Core.Bool.{false, cond}
use mathlib.Core.List.{List}
use Prim.Native.Nat.{ℕ, zero, suc, ◌+◌, ◌*◌, ◌-◌, ◌/◌, ◌%◌, ◌<◌}
use native.Mathlib.Decide.{dec_lt}
use native.Mathlib.Omega.{arith}
use borrow.Author.Tests.{lt-ltb, le-ltb, ne_eqb}
use lib.Dec.{eqb, ltb}
use lib.IntN.{ℤ}
use lib.ListN.{length, get_or}
use mir.Syntax.{w32}
use mir.Val.{SFits}
use mir.Facts.{sfits_to_z}
use Rattle.integers.specs.Matrix.{Matrix}
use Rattle.lists.specs.Lists.{tabulate}
use Rattle.lists.proofs.Tabulate.{length-tabulate, get_d_tabulate, tabulate_is}
use Rattle.lists.proofs.Passing.{all_same}
use Rattle.words.specs.Words.{byte_of}
use Rattle.words.proofs.Words.{word_again, byte_again, one_of}
use Rattle.result_record.specs.ResultRecord.{result_word, result_byte, result_record_of, record_word, record_r, record_q, is_finished_at, is_finished}

-- ---- the words of R and of Q among the record's

pub word_of_r : (r q : Matrix) (i j : ℕ) → i < 16 → j < 16 → result_word r q (i * 16 + j) ≡ r i j
unfolding result_word
word_of_r r q i j a b =
    let d : (i * 16 + j) / 16 ≡ i = omega arith in
    let m : (i * 16 + j) % 16 ≡ j = omega arith in
    rw (lt-ltb (i * 16 + j) 256 (omega arith), d, m)

pub word_of_q : (r q : Matrix) (i j : ℕ) → i < 16 → j < 16 → result_word r q (256 + j * 16 + i) ≡ q i j
unfolding result_word
word_of_q r q i j a b =
    let d : (256 + j * 16 + i - 256) / 16 ≡ j = omega arith in
    let m : (256 + j * 16 + i - 256) % 16 ≡ i = omega arith in
    rw (le-ltb (256 + j * 16 + i) 256 (omega arith), d, m)

-- byte n of word m is byte p of the record
pub byte_at : (r q : Matrix) (p m n : ℕ) → n < 4 → p ≡ 1 + 4 * m + n → result_byte r q p ≡ byte_of (result_word r q m) n
unfolding result_byte
byte_at r q p m n h e =
    let a : eqb p 0 ≡ false = ne_eqb p 0 (λ z. omega arith) in
    let d : (p - 1) / 4 ≡ m = omega arith in
    let b : (p - 1) % 4 ≡ n = omega arith in
    simp (a, d, b)

-- ---- from words to words

-- the words of the record of r and q, which fit 32 bits
module _ (r q : Matrix) where
  word_back : (m : ℕ) → m < 512 → SFits w32 (result_word r q m) → record_word (result_record_of r q) m ≡ result_word r q m
  unfolding record_word result_record_of
  word_back m h f =
      rw (byte (1 + 4 * m) 0 (omega arith) (omega arith), byte (1 + 4 * m + 1) 1 (omega arith) refl, byte (1 + 4 * m + 2) 2 (omega arith) refl, byte (1 + 4 * m + 3) 3 (omega arith) refl)
      (word_again (result_word r q m) f)
    where
      byte : (p n : ℕ) → n < 4 → p ≡ 1 + 4 * m + n → get_or (tabulate 2049 (result_byte r q)) p 0 ≡ byte_of (result_word r q m) n
      byte p n l e = get_d_tabulate 2049 (result_byte r q) 0 p (omega arith) ∙ byte_at r q p m n l e

  pub r_back : (i j : ℕ) → i < 16 → j < 16 → SFits w32 (r i j) → record_r (result_record_of r q) i j ≡ r i j
  unfolding record_r
  r_back i j a b f = let e = word_of_r r q i j a b in word_back (i * 16 + j) (omega arith) (rw e f) ∙ e

  pub q_back : (i j : ℕ) → i < 16 → j < 16 → SFits w32 (q i j) → record_q (result_record_of r q) i j ≡ q i j
  unfolding record_q
  q_back i j a b f = let e = word_of_q r q i j a b in word_back (256 + j * 16 + i) (omega arith) (rw e f) ∙ e

-- ---- words of 32 bits, where the record is one of bytes

module _ (rec : List ℕ) (b : (k : ℕ) → get_or rec k 0 < 256) where
  word_fits : (m : ℕ) → SFits w32 (record_word rec m)
  unfolding record_word
  word_fits m =
      sfits_to_z {w = w32} {n = get_or rec (1 + 4 * m) 0 * 16777216 + get_or rec (1 + 4 * m + 1) 0 * 65536 + get_or rec (1 + 4 * m + 2) 0 * 256 + get_or rec (1 + 4 * m + 3) 0}
      (record { fits = omega (arith, b (1 + 4 * m), b (1 + 4 * m + 1), b (1 + 4 * m + 2), b (1 + 4 * m + 3)) })

  pub r_fits : (i j : ℕ) → SFits w32 (record_r rec i j)
  unfolding record_r
  r_fits i j = word_fits (i * 16 + j)

  pub q_fits : (i j : ℕ) → SFits w32 (record_q rec i j)
  unfolding record_q
  q_fits i j = word_fits (256 + j * 16 + i)

-- ---- from bytes to bytes

-- byte n of four bytes that stand together
four : (rec : List ℕ) (m n : ℕ) → n < 4 → one_of (get_or rec (1 + 4 * m) 0) (get_or rec (1 + 4 * m + 1) 0) (get_or rec (1 + 4 * m + 2) 0) (get_or rec (1 + 4 * m + 3) 0) n ≡ get_or rec (1 + 4 * m + n) 0
four rec m zero h = let e : 1 + 4 * m ≡ 1 + 4 * m + 0 = omega arith in ap (λ (n : ℕ). get_or rec n 0) e
four rec m (suc zero) h = refl
four rec m (suc (suc zero)) h = refl
four rec m (suc (suc (suc zero))) h = refl
four rec m (suc (suc (suc (suc n)))) h = absurd (omega arith)

module _ (rec : List ℕ) (b : (k : ℕ) → get_or rec k 0 < 256) (tag : get_or rec 0 0 ≡ 2) where
  -- the words of a record are those of its R and Q
  word_same : (m : ℕ) → m < 512 → result_word (record_r rec) (record_q rec) m ≡ record_word rec m
  unfolding result_word record_r record_q
  word_same m h = pick (dec_lt m 256)
    where
      pick : Dec (m < 256) → cond (ltb m 256) (record_word rec (m / 16 * 16 + m % 16)) (record_word rec (256 + (m - 256) / 16 * 16 + (m - 256) % 16)) ≡ record_word rec m
      pick (yes l) = let e : m / 16 * 16 + m % 16 ≡ m = omega arith in rw (lt-ltb m 256 l, e)
      pick (no l) = let e : 256 + (m - 256) / 16 * 16 + (m - 256) % 16 ≡ m = omega arith in rw (le-ltb m 256 (omega arith), e)

  pub byte_back : (p : ℕ) → p < 2049 → result_byte (record_r rec) (record_q rec) p ≡ get_or rec p 0
  unfolding result_byte record_word
  byte_back zero h = sym tag
  byte_back (suc k) h =
      let m : ℕ = k / 4 in
      let n : ℕ = k % 4 in
      let l : n < 4 = omega arith in
      let e : suc k ≡ 1 + 4 * m + n = omega arith in
      byte_at (record_r rec) (record_q rec) (suc k) m n l e
      ∙ ap (λ (z : ℤ). byte_of z n) (word_same m (omega arith))
      ∙ byte_again _ _ _ _ (b (1 + 4 * m)) (b (1 + 4 * m + 1)) (b (1 + 4 * m + 2)) (b (1 + 4 * m + 3)) n l
      ∙ four rec m n l
      ∙ ap (λ (k : ℕ). get_or rec k 0) (sym e)

  pub record-back : length rec ≡ 2049 → result_record_of (record_r rec) (record_q rec) ≡ rec
  unfolding result_record_of
  record-back size = tabulate_is 2049 (result_byte (record_r rec) (record_q rec)) rec 0 size byte_back

-- ---- the same words

module _ (r q s p : Matrix) (e : (i j : ℕ) → i < 16 → j < 16 → r i j ≡ s i j) where
  -- pass the same test
  pub finished_same : is_finished r ≡ is_finished s
  unfolding is_finished
  finished_same = all_same _ _ 256 (λ k h. ap (is_finished_at (k / 16) (k % 16)) (e (k / 16) (k % 16) (omega arith) (omega arith)))

  module _ (d : (i j : ℕ) → i < 16 → j < 16 → q i j ≡ p i j) where
    words_same : (m : ℕ) → m < 512 → result_word r q m ≡ result_word s p m
    unfolding result_word
    words_same m h = pick (dec_lt m 256)
      where
        pick : Dec (m < 256) → cond (ltb m 256) (r (m / 16) (m % 16)) (q ((m - 256) % 16) ((m - 256) / 16)) ≡ cond (ltb m 256) (s (m / 16) (m % 16)) (p ((m - 256) % 16) ((m - 256) / 16))
        pick (yes l) = rw (lt-ltb m 256 l) (e (m / 16) (m % 16) (omega arith) (omega arith))
        pick (no l) = rw (le-ltb m 256 (omega arith)) (d ((m - 256) % 16) ((m - 256) / 16) (omega arith) (omega arith))

    bytes_same : (n : ℕ) → n < 2049 → result_byte r q n ≡ result_byte s p n
    unfolding result_byte
    bytes_same n h = ap (λ (z : ℤ). cond (eqb n 0) 2 (byte_of z ((n - 1) % 4))) (words_same ((n - 1) / 4) (omega arith))

    -- and have the same record
    pub record_same : result_record_of r q ≡ result_record_of s p
    unfolding result_record_of
    record_same =
        tabulate_is 2049 (result_byte r q) (tabulate 2049 (result_byte s p)) 0 (length-tabulate 2049 (result_byte s p))
        (λ n h. bytes_same n h ∙ sym (get_d_tabulate 2049 (result_byte s p) 0 n h))
