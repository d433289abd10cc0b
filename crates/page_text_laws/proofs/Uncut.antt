-- No word is cut: its columns by the laws of numbers in decimal. Assumes nothing.
use mathlib.Core.Path.{◌≡◌, ap, ◌∙◌}
use mathlib.Core.Bool.{true}
use mathlib.Core.List.{List, [], ◌∷◌, ◌++◌}
use Prim.Native.Nat.{ℕ, suc, ◌-◌, ◌<◌}
use native.Mathlib.Omega.{arith}
use lib.IntN.{ℤ}
use lib.ListN.{length, get_or, replicate, length-append}
use lib.Seq.{get_or_at}
use mir.Syntax.{w32}
use mir.Val.{SFits}
use Rattle.page_text.specs.Decimal.{blank, decimal, field}
use Rattle.page_text.proofs.Decimal.{decimal-length, field-length}
use Rattle.page_text_laws.specs.Reading.{is_digit, is_printed}
use Rattle.page_text_laws.specs.Uncut.{Uncut}
use Rattle.page_text_laws.proofs.Characters.{printed_at, printed-field, ends-field}
use Rattle.page_text_laws.proofs.Reading.{field-read}

module _ (z : ℤ) (f : SFits w32 z) where
  -- the first of one blank or more
  first : get_or (field z) 0 0 ≡ blank
  unfolding field
  first =
      let l = decimal-length z f in
      let e : 12 - length (decimal z) ≡ suc (11 - length (decimal z)) = omega arith in
      ap (λ (n : ℕ). get_or (replicate n blank ++ decimal z) 0 0) e

  pub field-printed : (k : ℕ) → k < 12 → is_printed (get_or (field z) k 0) ≡ true
  field-printed k h = printed_at (field z) (printed-field z) k (rw (field-length z f) h)

  pub field-ends : is_digit (get_or (field z) 11 0) ≡ true
  field-ends =
      let e = ends-field z in
      let l : length e.before ≡ 11 = omega (arith, ap length e.is ∙ length-append e.before (e.last ∷ []), field-length z f) in
      ap (λ (cs : List ℕ). is_digit (get_or cs 11 0)) e.is ∙ ap is_digit (get_or_at e.before e.last [] 0 11 l) ∙ e.digit

pub uncut : Uncut
uncut =
    record {
      columns = field-length;
      eleven = decimal-length;
      blank-first = first;
      characters = field-printed;
      ends = field-ends;
      read_back = field-read;
    }
