-- The record that an accepted call writes. Assumes nothing.
use mathlib.Core.Path.{◌≡◌, sym, ap, ◌∙◌}
use mathlib.Core.List.{List}
use Prim.Native.Nat.{ℕ, ◌+◌, ◌*◌, ◌<◌}
use native.Mathlib.Omega.{arith}
use lib.IntN.{ℤ}
use lib.ListN.{take, drop}
use lib.Seq.{take_at}
use Rattle.lists.specs.Lists.{tabulate, filled}
use Rattle.lists.proofs.Tabulate.{length-tabulate, drop-filled}
use Rattle.refusals.specs.Refusals.{first}
use Rattle.refusals.proofs.Refusals.{header_passes}
use Rattle.matrix_record.specs.MatrixRecord.{part_of, matrix_byte, matrix_record_of, matrix_test}
use Rattle.matrix_record.proofs.Written.{part_again, written_header}
use Rattle.workspace.specs.Workspace.{workspace_test}
use Rattle.engine.specs.Load.{load_refusal_of}
use Rattle.covariance.specs.declared.Sums.{Sums}
use Rattle.covariance.specs.Sums.{sum_at}
use Rattle.covariance.specs.WriteMatrix.{normalized, element_part, write_refusal_of, write_by, write_of}
use Rattle.covariance.proofs.Accepted.{near, write-accepted, write_by-number}
use Rattle.covariance.proofs.Normalized.{normalized_fits}
use Rattle.covariance_laws.specs.WrittenMatrix.{record_written, AllWritten}

module _ (s : Sums) (buffer : List ℕ) (accepted : (write_of s buffer).number ≡ 0) where
  abbrev part : ℕ → ℕ → ℤ
  part = element_part s.count s.words

  none : write_refusal_of s.count s.words buffer ≡ 0
  unfolding write_of
  none = sym (write_by-number (write_refusal_of s.count s.words buffer) s buffer) ∙ accepted

  pub some_added : 0 < s.count
  some_added = (write-accepted s.count s.words buffer none).some

  buffer_is : (write_of s buffer).buffer ≡ filled 257 (matrix_byte part) buffer
  unfolding write_of write_by
  buffer_is = rw none

  record_is : record_written s buffer ≡ matrix_record_of part
  unfolding matrix_record_of filled
  record_is = ap (take 257) buffer_is ∙ take_at (tabulate 257 (matrix_byte part)) (drop 257 buffer) 257 (length-tabulate 257 (matrix_byte part))

  part_is : (i j q : ℕ) → i < 8 → j < 8 → q < 2 → part_of (record_written s buffer) (8 * i + j) q ≡ normalized s.count (sum_at s.words (2 * (8 * i + j) + q))
  unfolding element_part
  part_is i j q hi hj hq =
      let n : ℕ = 2 * (8 * i + j) + q in
      let fits = normalized_fits s.count (sum_at s.words n) (near s.count s.words (write-accepted s.count s.words buffer none).sums.inside n (omega arith)) in
      ap (λ (r : List ℕ). part_of r (8 * i + j) q) record_is ∙ part_again part (8 * i + j) q (omega arith) hq fits

  load-number : (workspace : List ℤ) → load_refusal_of (record_written s buffer) workspace ≡ first (workspace_test workspace) (matrix_test (record_written s buffer))
  unfolding load_refusal_of
  load-number workspace = rw (record_is, header_passes 1 256 (matrix_record_of part) (written_header part))

pub written-matrix : AllWritten
written-matrix s buffer h =
    record {
      parts = part_is s buffer h;
      load = load-number s buffer h;
      rest = ap (drop 257) (buffer_is s buffer h) ∙ drop-filled 257 (matrix_byte (element_part s.count s.words)) buffer;
    }
