-- The record of a matrix: its elements read back, and its header is that of a matrix record. Assumes nothing.
use mathlib.Core.Path.{◌≡◌, refl, ◌∙◌}
use mathlib.Core.Bool.{false}
use Prim.Native.Nat.{ℕ, ◌+◌, ◌*◌, ◌-◌, ◌/◌, ◌%◌, ◌<◌}
use native.Mathlib.Omega.{arith}
use borrow.Author.Tests.{ne_eqb}
use lib.Dec.{eqb}
use lib.IntN.{ℤ}
use lib.ListN.{get_or}
use mir.Syntax.{w16}
use mir.Val.{SFits}
use Rattle.lists.proofs.Tabulate.{length-tabulate, get_d_tabulate}
use Rattle.words.specs.Words.{int16_byte}
use Rattle.words.proofs.Words.{int16_again}
use Rattle.refusals.proofs.Refusals.{Header}
use Rattle.matrix_record.specs.MatrixRecord.{matrix_tag, matrix_bytes, part_of, matrix_byte, matrix_record_of}

module _ (part : ℕ → ℕ → ℤ) where
  -- byte b of part q of element e is byte p of the record
  pub byte_at : (p e q b : ℕ) → q < 2 → b < 2 → p ≡ 1 + 4 * e + 2 * q + b → matrix_byte part p ≡ int16_byte (part e q) b
  unfolding matrix_byte
  byte_at p e q b hq hb h =
      let z : eqb p 0 ≡ false = ne_eqb p 0 (λ z. omega arith) in
      let d : (p - 1) / 4 ≡ e = omega arith in
      let m : (p - 1) / 2 ≡ 2 * e + q = omega arith in
      let r : (2 * e + q) % 2 ≡ q = omega arith in
      let s : (p - 1) % 2 ≡ b = omega arith in
      simp (z, d, m, r, s)

  -- a part that fits 16 bits reads back
  pub part_again : (e q : ℕ) → e < 64 → q < 2 → SFits w16 (part e q) → part_of (matrix_record_of part) e q ≡ part e q
  unfolding part_of matrix_record_of
  part_again e q he hq f = rw (byte (1 + 4 * e + 2 * q) 0 (omega arith) (omega arith), byte (1 + 4 * e + 2 * q + 1) 1 (omega arith) refl) (int16_again (part e q) f)
    where
      byte : (p b : ℕ) → b < 2 → p ≡ 1 + 4 * e + 2 * q + b → get_or (matrix_record_of part) p 0 ≡ int16_byte (part e q) b
      byte p b hb h = get_d_tabulate 257 (matrix_byte part) 0 p (omega arith) ∙ byte_at p e q b hq hb h

  pub written_header : Header matrix_tag matrix_bytes (matrix_record_of part)
  unfolding matrix_record_of matrix_byte
  written_header = record { tagged = get_d_tabulate 257 (matrix_byte part) 0 0 (omega arith); sized = length-tabulate 257 (matrix_byte part) }
