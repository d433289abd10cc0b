-- The records of eight sectors in one array: one that is pasted is its sector's, and the others stay. Assumes nothing.
use mathlib.Core.Path.{◌≡◌, refl, sym, ap, ◌∙◌}
use mathlib.Core.List.{List, ◌++◌, append_assoc}
use Prim.Native.Nat.{ℕ, ◌+◌, ◌-◌, ◌*◌, ◌≤◌, ◌<◌}
use native.Mathlib.Omega.{arith}
use borrow.Author.Tests.{ltb-true, ltb-false}
use mathlib.Core.Bool.{Bool, true, false}
use lib.Dec.{ltb}
use lib.ListN.{length, take, drop, length-drop, take-append-drop}
use lib.Seq.{length-take-le, take_all, take-append-le, drop-append-le, drop-append-add, drop-drop, take_at, drop_at, paste, length_paste_head}
use Rattle.desk.specs.Desk.{record_in}

module _ (d rec : List ℕ) (i : ℕ) (size : length d ≡ 2056) (whole : length rec ≡ 257) (small : i < 8) where
  pub record_same : record_in (paste d (i * 257) rec 257) i ≡ rec
  unfolding record_in
  record_same =
      let a = take (i * 257) d in
      let b = take 257 rec in
      let c = drop (i * 257 + 257) d in
      ap (λ (l : List ℕ). take 257 (drop (i * 257) l)) (append_assoc a b c)
      ∙ ap (take 257) (drop_at a (b ++ c) (i * 257) (length-take-le (i * 257) d (omega (arith, size))))
      ∙ take_at b c 257 (length-take-le 257 rec (omega (arith, whole)))
      ∙ take_all 257 rec (omega (arith, whole))

  -- a record that lies in the first list of two
  before : (j : ℕ) (a x : List ℕ) → j * 257 + 257 ≤ length a → record_in (a ++ x) j ≡ record_in a j
  unfolding record_in
  before j a x h =
      let z : 257 ≤ length (drop (j * 257) a) = rw (length-drop (j * 257) a) (omega arith) in
      ap (take 257) (drop-append-le (j * 257) a x (omega arith)) ∙ take-append-le 257 (drop (j * 257) a) x z

  record-before : (j : ℕ) → j < i → record_in (paste d (i * 257) rec 257) j ≡ record_in d j
  record-before j h =
      let a = take (i * 257) d in
      let b = take 257 rec in
      let c = drop (i * 257 + 257) d in
      let n = length-take-le (i * 257) d (omega (arith, size)) in
      let z : j * 257 + 257 ≤ length a = omega (arith, n) in
      ap (λ (l : List ℕ). record_in l j) (append_assoc a b c) ∙ before j a (b ++ c) z
      ∙ sym (before j a (drop (i * 257) d) z) ∙ ap (λ (l : List ℕ). record_in l j) (take-append-drop (i * 257) d)

  record_behind : (j : ℕ) → i < j → record_in (paste d (i * 257) rec 257) j ≡ record_in d j
  unfolding record_in
  record_behind j h =
      let p = take (i * 257) d ++ take 257 rec in
      let c = drop (i * 257 + 257) d in
      let m = j * 257 - (i * 257 + 257) in
      let n : length p ≡ i * 257 + 257 = length_paste_head d (i * 257) rec 257 (omega (arith, size)) (omega (arith, whole)) in
      let e : length p + m ≡ j * 257 = omega (arith, n) in
      let f : i * 257 + 257 + m ≡ j * 257 = omega arith in
      ap (take 257) (ap (λ (k : ℕ). drop k (p ++ c)) (sym e) ∙ drop-append-add p c m ∙ drop-drop m (i * 257 + 257) d ∙ ap (λ (k : ℕ). drop k d) f)

  pub record_other : (j : ℕ) → (j ≡ i → ⊥) → record_in (paste d (i * 257) rec 257) j ≡ record_in d j
  record_other j e = pick (ltb j i) (ltb-true j i) (ltb-false j i)
    where
      pick : (b : Bool) → (b ≡ true → j < i) → (b ≡ false → i ≤ j) → record_in (paste d (i * 257) rec 257) j ≡ record_in d j
      pick true f g = record-before j (f refl)
      pick false f g = let h = g refl in record_behind j (omega (arith, e, h))
