-- `respond` meets its contract: by the number of Whole's tests the buffer holds the result record, or the refusal record is put into it.
-- Assumes nothing.
use mathlib.Core.Path.{◌≡◌, refl, sym, ap, ◌∙◌}
use mathlib.Core.List.{List, [], ◌++◌, append-nil}
use Prim.Native.Nat.{ℕ, zero, suc}
use native.Mathlib.Omega.{arith}
use borrow.Author.Tests.{le-ltb}
use lib.IntN.{ℤ, pos}
use lib.ListN.{length, drop, replicate, drop_of_length-le}
use Rattle.lists.specs.Lists.{tabulate, filled}
use Rattle.lists.proofs.Tabulate.{length-tabulate, filled_all}
use Rattle.refusals.specs.Refusals.{refusal_record_of}
use Rattle.refusals.proofs.Outcomes.{numbers_nonzero}
use Rattle.result_record.specs.ResultRecord.{result_byte}
use Rattle.workspace.specs.Workspace.{R, Q}
use Rattle.workspace.specs.Loading.{loaded_words}
use Rattle.workspace.specs.Rotations.{words_after}
use Rattle.engine.specs.Whole.{WholeOutcome, whole_refusal_of, whole_done, whole_by, whole_of}
use Rattle.respond.specs.Response.{response_by, response}
use borrow.Author.Rules.{rules}
use Rattle.respond.proofs.respond.Goals as goal

abbrev zeros : List ℤ
zeros = replicate 512 (pos 0)

abbrev blank : List ℕ
blank = replicate 2049 0

-- Whole's tests look at no byte of the buffer, only at its length
same_number : (rec out : List ℕ) → length out ≡ 2049 → whole_refusal_of rec zeros blank ≡ whole_refusal_of rec zeros out
unfolding whole_refusal_of
same_number rec out e = rw (le-ltb (length out) 2049 (omega arith))

-- what an outcome by the number leaves, and what is written of it
module _ (rec out : List ℕ) (size : length out ≡ 2049) where
  -- by the number, what the response is
  abbrev answered : ℕ → List ℕ
  answered number = let o = whole_by number rec zeros blank in response_by o.reply.number o.buffer

  response-is : response rec ≡ answered (whole_refusal_of rec zeros out)
  unfolding response whole_of
  response-is = ap answered (same_number rec out size)

  -- accepted: the buffer is filled whole
  accepted : (number : ℕ) (o : WholeOutcome) → o ≡ whole_by number rec zeros out → o.reply.number ≡ 0
      → (2049 ≡ length (answered number)) × (o.buffer ≡ answered number ++ drop 2049 out)
  unfolding whole_by whole_done
  accepted zero o e a =
      let words : List ℤ = words_after 0 120 (loaded_words rec zeros) in
      let f : ℕ → ℕ = result_byte (R words) (Q words) in
      let b : filled 2049 f blank ≡ tabulate 2049 f = filled_all 2049 f blank (omega arith) in
      let n : length (filled 2049 f blank) ≡ 2049 = ap length b ∙ length-tabulate 2049 f in
      let d : drop 2049 out ≡ [] = drop_of_length-le out {i = 2049} (omega arith) in
      (sym n, ap (λ (x : WholeOutcome). x.buffer) e ∙ filled_all 2049 f out (omega arith) ∙ sym (rw (d, append-nil) b))
  accepted (suc n) o e a = absurd (omega (arith, a, ap (λ (x : WholeOutcome). x.reply.number) e))

  -- refused: the buffer is as it was
  refused : (number : ℕ) (o : WholeOutcome) → o ≡ whole_by number rec zeros out → (o.reply.number ≡ 0 → ⊥)
      → (2 ≡ length (answered number)) × (refusal_record_of o.reply.number ++ drop 2 o.buffer ≡ answered number ++ drop 2 out)
  unfolding whole_by whole_done
  refused zero o e a = absurd (a (ap (λ (x : WholeOutcome). x.reply.number) e))
  refused (suc m) o e a = (refl, ap (λ (x : WholeOutcome). refusal_record_of x.reply.number ++ drop 2 x.buffer) e)

pub returns-in-Ok-clause-size : goal.returns-in-Ok-clause-size
unfolding whole_of
returns-in-Ok-clause-size c =
    let a = c.args in
    let size : length a.output.now ≡ 2049 = search rules in
    rw (response-is a.input.now a.output.now size)
    (accepted a.input.now a.output.now size _ _ c.in-Ok.ensures refl).0

pub returns-in-Ok-clause-bytes : goal.returns-in-Ok-clause-bytes
unfolding whole_of
returns-in-Ok-clause-bytes c =
    let a = c.args in
    let size : length a.output.now ≡ 2049 = search rules in
    rw (response-is a.input.now a.output.now size)
    (accepted a.input.now a.output.now size _ _ c.in-Ok.ensures refl).1

pub returns-in-Err-clause-size : goal.returns-in-Err-clause-size
unfolding whole_of
returns-in-Err-clause-size c =
    let a = c.args in
    let size : length a.output.now ≡ 2049 = search rules in
    rw (response-is a.input.now a.output.now size)
    (refused a.input.now a.output.now size _ _ c.in-Err.ensures (numbers_nonzero c.in-Err.refusal)).0

pub returns-in-Err-clause-bytes : goal.returns-in-Err-clause-bytes
unfolding whole_of
returns-in-Err-clause-bytes c =
    let a = c.args in
    let size : length a.output.now ≡ 2049 = search rules in
    rw (response-is a.input.now a.output.now size, c.copy_from_slice.ensures.after, c.refusal_record-record.ensures, c.number.ensures)
    (refused a.input.now a.output.now size _ _ c.in-Err.ensures (numbers_nonzero c.in-Err.refusal)).1
