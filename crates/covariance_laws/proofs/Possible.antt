-- The premises can be met: lists of any number of snapshots of the loudest samples, among them such as are refused; and sums handed in at the end of their
-- range. Assumes nothing.
use mathlib.Core.Path.{◌≡◌, refl}
use mathlib.Core.List.{List}
use Prim.Native.Nat.{ℕ, zero, suc}
use lib.Dec.{lit<}
use lib.IntN.{pos, negsuc}
use lib.ListN.{replicate}
use Rattle.lists.specs.Lists.{all_below}
use Rattle.covariance.specs.declared.Sample.{Sample}
use Rattle.covariance.specs.Sums.{sample_of, words_in_range_of, sums_test}
use Rattle.covariance.specs.WriteMatrix.{write_refusal_of, write_by, write_of}
use Rattle.covariance_laws.specs.Snapshots.{Parts16}
use Rattle.covariance_laws.proofs.Terms.{Sample16}

-- eight samples of -32,768 in both parts
abbrev pub loudest : List Sample
loudest = replicate 8 (record { re = negsuc 32767; im = negsuc 32767 })

silent16 : Sample16 (record { re = pos 0; im = pos 0 })
silent16 = (record { sfits = lit< tt }, record { sfits = lit< tt })

loud16 : (n i : ℕ) → Sample16 (sample_of (replicate n (record { re = negsuc 32767; im = negsuc 32767 })) i)
loud16 zero i = silent16
loud16 (suc n) zero = (record { sfits = lit< tt }, record { sfits = lit< tt })
loud16 (suc n) (suc i) = loud16 n i

pub parts_possible : (n : ℕ) → Parts16 (replicate n loudest)
parts_possible zero k i = silent16
parts_possible (suc n) zero i = loud16 8 i
parts_possible (suc n) (suc k) i = parts_possible n k i

-- 4,096 snapshots' sums of -2^31 times the count
pub handed_in_possible : (write_of (record { count = 4096; words = replicate 128 (negsuc 8796093022207) }) (replicate 257 0)).number ≡ 0
unfolding write_of write_by write_refusal_of sums_test words_in_range_of all_below
handed_in_possible = refl
