-- The two sums of an element, by its number e, and the two bytes of a part, by the number n of its sum. Assumes nothing.
use mathlib.Core.Path.{◌≡◌, sym, ap, ◌∙◌}
use mathlib.Core.List.{List}
use Prim.Native.Nat.{ℕ, ◌+◌, ◌*◌, ◌/◌, ◌%◌, ◌<◌}
use native.Mathlib.Omega.{arith}
use lib.IntN.{ℤ, ◌+ℤ◌}
use Rattle.words.specs.Words.{int16_byte, int16_bytes_of}
use Rattle.matrix_record.specs.MatrixRecord.{matrix_byte}
use Rattle.matrix_record.proofs.Written.{byte_at}
use Rattle.matrix_record.proofs.Writing.{Values}
use Rattle.covariance.specs.declared.Sample.{Sample}
use Rattle.covariance.specs.Sums.{product_part, sample_of, sum_at, added_word}
use Rattle.covariance.specs.WriteMatrix.{normalized, element_part}

-- part q of element e with a snapshot added
pub added-part : (snapshot : List Sample) (words : List ℤ) (e q : ℕ) → q < 2 →
    added_word snapshot words (2 * e + q) ≡ sum_at words (2 * e + q) +ℤ product_part (sample_of snapshot (e / 8)) (sample_of snapshot (e % 8)) q
unfolding added_word
added-part snapshot words e q h =
    let r : (2 * e + q) / 16 ≡ e / 8 = omega arith in
    let c : (2 * e + q) / 2 ≡ e = omega arith in
    let p : (2 * e + q) % 2 ≡ q = omega arith in
    simp (r, c, p)

-- byte b of the part that sum n gives
part_byte : (count : ℕ) (words : List ℤ) (n b : ℕ) → b < 2 → matrix_byte (element_part count words) (1 + 2 * n + b) ≡ int16_byte (normalized count (sum_at words n)) b
unfolding element_part
part_byte count words n b h =
    let m : 2 * (n / 2) + n % 2 ≡ n = omega arith in
    byte_at (element_part count words) (1 + 2 * n + b) (n / 2) (n % 2) b (omega arith) h (omega arith)
    ∙ ap (λ (k : ℕ). int16_byte (normalized count (sum_at words k)) b) m

-- its two bytes are the record's bytes from 1 + 2 * n on
pub part_values : (count : ℕ) (words : List ℤ) (n : ℕ) → Values (matrix_byte (element_part count words)) (1 + 2 * n) (int16_bytes_of (normalized count (sum_at words n)))
unfolding Values
part_values count words n =
    let z : 1 + 2 * n + 0 ≡ 1 + 2 * n = omega arith in
    (sym (rw z at (part_byte count words n 0 (omega arith))), (sym (part_byte count words n 1 (omega arith)), tt))
