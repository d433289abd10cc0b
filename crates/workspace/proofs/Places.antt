-- The words of a workspace's result record, where they stand. Assumes nothing.
use mathlib.Core.Path.{◌≡◌, refl, sym, ap, ◌∙◌}
use mathlib.Core.Bool.{Bool, true, false, cond}
use mathlib.Core.List.{List}
use Prim.Native.Nat.{ℕ, ◌+◌, ◌*◌, ◌-◌, ◌/◌, ◌%◌, ◌<◌}
use native.Mathlib.Omega.{arith}
use borrow.Author.Tests.{eqb-true}
use lib.Dec.{eqb, ltb}
use lib.IntN.{ℤ, pos}
use lib.ListN.{get_or}
use Rattle.lists.specs.Lists.{all_below}
use Rattle.lists.proofs.Passing.{all_at}
use Rattle.words.specs.Words.{byte_of, word_bytes}
use Rattle.matrix_record.proofs.Writing.{Values}
use Rattle.result_record.specs.ResultRecord.{result_word, result_byte}
use Rattle.result_record.proofs.ResultRecord as result
use Rattle.workspace.specs.Workspace.{word_in, R, Q}
use Rattle.workspace.specs.Places.{place_of}

-- where word m of the record stands, by row and column
places : ℕ → Bool
places m = eqb (place_of m) (cond (ltb m 256) (m / 16 * 32 + m % 16) ((m - 256) / 16 * 32 + (16 + (m - 256) % 16)))

places_are : (m : ℕ) → m < 512 → place_of m ≡ cond (ltb m 256) (m / 16 * 32 + m % 16) ((m - 256) / 16 * 32 + (16 + (m - 256) % 16))
unfolding places all_below
places_are m h = eqb-true _ _ (all_at places 512 refl m h)

-- the word that stands there is the record's
pub word_is : (l : List ℤ) (m : ℕ) → m < 512 → get_or l (place_of m) (pos 0) ≡ result_word (R l) (Q l) m
unfolding result_word R Q word_in
word_is l m h = rw (places_are m h) (pick (ltb m 256))
  where
    pick : (b : Bool) → get_or l (cond b (m / 16 * 32 + m % 16) ((m - 256) / 16 * 32 + (16 + (m - 256) % 16))) (pos 0)
        ≡ cond b (get_or l (m / 16 * 32 + m % 16) (pos 0)) (get_or l ((m - 256) / 16 * 32 + (16 + (m - 256) % 16)) (pos 0))
    pick true = refl
    pick false = refl

-- byte q of word m of a workspace's record, which is byte p of the record
byte_at : (l : List ℤ) (p m q : ℕ) → m < 512 → q < 4 → p ≡ 1 + 4 * m + q → result_byte (R l) (Q l) p ≡ byte_of (get_or l (place_of m) (pos 0)) q
byte_at l p m q b h e = result.byte_at (R l) (Q l) p m q h e ∙ ap (λ (z : ℤ). byte_of z q) (sym (word_is l m b))

-- the four bytes of word m are the record's bytes from 1 + 4 * m on
pub word_values : (l : List ℤ) (m : ℕ) → m < 512 → Values (result_byte (R l) (Q l)) (1 + 4 * m) (word_bytes (get_or l (place_of m) (pos 0)))
unfolding Values
word_values l m b =
    let first = sym (byte_at l (1 + 4 * m) m 0 b (omega arith) (omega arith)) in
    let second = sym (byte_at l (1 + 4 * m + 1) m 1 b (omega arith) refl) in
    let third = sym (byte_at l (1 + 4 * m + 1 + 1) m 2 b (omega arith) (omega arith)) in
    let fourth = sym (byte_at l (1 + 4 * m + 1 + 1 + 1) m 3 b (omega arith) (omega arith)) in
    (first, (second, (third, (fourth, tt))))
