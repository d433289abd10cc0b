-- Bytes by a computed test. Assumes nothing.
use mathlib.Core.Path.{◌≡◌}
use mathlib.Core.Bool.{Bool, true, ◌&&◌}
use mathlib.Core.List.{List, [], ◌∷◌}
use Prim.Native.Nat.{ℕ, zero, suc}
use borrow.Author.Tests.{ltb-true}
use lib.Dec.{lit<, ltb}
use Rattle.lists.proofs.Passing.{and_parts}
use Rattle.words.specs.Words.{Bytes}

unfoldable pub are_bytes : List ℕ → Bool
are_bytes [] = true
are_bytes (b ∷ bs) = ltb b 256 && are_bytes bs

pub bytes_of : (bs : List ℕ) → are_bytes bs ≡ true → Bytes bs
unfolding are_bytes
bytes_of [] e k = lit< tt
bytes_of (b ∷ bs) e zero = ltb-true b 256 (and_parts (ltb b 256) (are_bytes bs) e).0
bytes_of (b ∷ bs) e (suc k) = bytes_of bs (and_parts (ltb b 256) (are_bytes bs) e).1 k
