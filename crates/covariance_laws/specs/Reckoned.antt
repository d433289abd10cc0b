-- Document 02, U2, in numbers: one table, and one statement over all its rows, computed from the definitions that the contracts cite. The rows are
-- numerals, document 02's own or worked out from its words, and use nothing of those definitions. Assumes nothing.
use Rattle.std.specs.Prelude.{◌≡◌, refl, List, [], ◌∷◌, ◌++◌, ℕ, ◌+◌, ◌-◌, ℤ, pos, negsuc, get_or, replicate}
use Rattle.lists.specs.Lists.{tabulate, filled, all_below}
use Rattle.matrix_record.specs.MatrixRecord.{matrix_byte}
use Rattle.covariance.specs.declared.Sample.{Sample}
use Rattle.covariance.specs.declared.Sums.{Sums}
use Rattle.covariance.specs.Sums.{product_part, added_word, sums_none_of, words_in_range_of, sums_test}
use Rattle.covariance.specs.AddSnapshot.{add_refusal_of, add_by, add_of}
use Rattle.covariance.specs.WriteMatrix.{normalized, element_part, write_refusal_of, write_by, write_of}

pub data Reckoning : Type 0 where
  -- two samples stand at two antennas, the first one before the second, and all others are zero: added to none, this sum is this number
  adds : ℕ → Sample → ℕ → Sample → ℕ → ℤ → Reckoning
  -- a sum of this many snapshots gives this part of an element
  divides : ℕ → ℤ → ℤ → Reckoning
  -- the sums of a count are zero but for one: the number that adding a snapshot of zeros answers
  adding : ℕ → ℕ → ℤ → ℕ → Reckoning
  -- of such sums: the number that writing answers, with a buffer of so many bytes
  writing : ℕ → ℕ → ℤ → ℕ → ℕ → Reckoning
  -- of such sums: the record has these two bytes from a byte position on
  bytes : ℕ → ℕ → ℤ → ℕ → ℕ → ℕ → Reckoning

-- a sample of these parts
abbrev pub sample : ℤ → ℤ → Sample
sample re im = record { re = re; im = im }

abbrev pub zero_samples : ℕ → List Sample
zero_samples n = replicate n (sample (pos 0) (pos 0))

abbrev pub two_samples : ℕ → Sample → ℕ → Sample → List Sample
two_samples i a j b = zero_samples i ++ a ∷ zero_samples (j - i - 1) ++ b ∷ zero_samples (7 - j)

abbrev pub one_sum : ℕ → ℕ → ℤ → Sums
one_sum count n sum = record { count = count; words = replicate n (pos 0) ++ sum ∷ replicate (127 - n) (pos 0) }

abbrev pub Reckons : Reckoning → Type 0
Reckons (adds i a j b n sum) = get_or (add_of (two_samples i a j b) sums_none_of).sums.words n (pos 0) ≡ sum
Reckons (divides count sum part) = normalized count sum ≡ part
Reckons (adding count n sum number) = (add_of (zero_samples 8) (one_sum count n sum)).number ≡ number
Reckons (writing count n sum size number) = (write_of (one_sum count n sum) (replicate size 0)).number ≡ number
Reckons (bytes count n sum p high low) =
    (get_or (write_of (one_sum count n sum) (replicate 257 0)).buffer p 0 ≡ high) × (get_or (write_of (one_sum count n sum) (replicate 257 0)).buffer (p + 1) 0 ≡ low)

abbrev pub AllReckon : List Reckoning → Type 0
AllReckon [] = Unit {0}
AllReckon (i ∷ is) = Reckons i × AllReckon is

unfoldable pub reckonings : List Reckoning
reckonings =
    -- ---- (1 + 2 i) times the conjugate of (3 + 4 i) is 11 + 2 i: sums 2 and 3 for antennas 0 and 1, and its conjugate in sums 16 and 17
    adds 0 (sample (pos 1) (pos 2)) 1 (sample (pos 3) (pos 4)) 2 (pos 11)
    ∷ adds 0 (sample (pos 1) (pos 2)) 1 (sample (pos 3) (pos 4)) 3 (pos 2)
    ∷ adds 0 (sample (pos 1) (pos 2)) 1 (sample (pos 3) (pos 4)) 16 (pos 11)
    ∷ adds 0 (sample (pos 1) (pos 2)) 1 (sample (pos 3) (pos 4)) 17 (negsuc 1)
    -- antenna 7 with itself, in the last two sums: 3 * 3 + 4 * 4, and 0
    ∷ adds 0 (sample (pos 1) (pos 2)) 7 (sample (pos 3) (pos 4)) 126 (pos 25)
    ∷ adds 0 (sample (pos 1) (pos 2)) 7 (sample (pos 3) (pos 4)) 127 (pos 0)
    -- the largest: both parts -32,768 make 2^31
    ∷ adds 0 (sample (negsuc 32767) (negsuc 32767)) 1 (sample (negsuc 32767) (negsuc 32767)) 2 (pos 2147483648)
    -- ---- "divided by 65,536 times the count, toward zero"
    ∷ divides 1 (pos 65535) (pos 0)
    ∷ divides 1 (pos 65536) (pos 1)
    ∷ divides 1 (negsuc 65534) (pos 0)
    ∷ divides 1 (negsuc 65535) (negsuc 0)
    ∷ divides 1 (negsuc 65536) (negsuc 0)
    ∷ divides 3 (pos 589823) (pos 2)
    -- "and clamped at 32,767": from above alone
    ∷ divides 1 (pos 2147483647) (pos 32767)
    ∷ divides 1 (pos 2147483648) (pos 32767)
    ∷ divides 1 (negsuc 2147483647) (negsuc 32767)
    ∷ divides 4096 (pos 8796093022208) (pos 32767)
    ∷ divides 4096 (negsuc 8796093022207) (negsuc 32767)
    -- ---- 10: "a snapshot added after 4,096", and "a count above 4,096"
    ∷ adding 4095 0 (pos 0) 0
    ∷ adding 4096 0 (pos 0) 10
    ∷ adding 4294967295 0 (pos 0) 10
    -- 10: "a sum beyond 2^31 times the count either way", at the first and the last of them
    ∷ adding 1 0 (pos 2147483648) 0
    ∷ adding 1 0 (pos 2147483649) 10
    ∷ adding 1 127 (negsuc 2147483647) 0
    ∷ adding 1 127 (negsuc 2147483648) 10
    ∷ adding 0 64 (pos 1) 10
    -- ---- the same at writing, where 4,096 may be written
    ∷ writing 4096 0 (pos 0) 257 0
    ∷ writing 4097 0 (pos 0) 256 10
    ∷ writing 1 127 (pos 2147483649) 256 10
    ∷ writing 1 0 (negsuc 9223372036854775807) 256 10
    ∷ writing 0 127 (negsuc 0) 256 10
    -- 9: "writing with none added, after 10 and before 7"
    ∷ writing 0 0 (pos 0) 256 9
    -- 7: "which here means under 257 bytes"
    ∷ writing 1 0 (pos 0) 256 7
    ∷ writing 1 0 (pos 0) 257 0
    -- ---- sum n gives bytes 1 + 2 n and 2 + 2 n, high byte first
    ∷ bytes 2 0 (pos 33685504) 1 1 1
    ∷ bytes 1 127 (negsuc 131071) 255 255 254
    ∷ []

pub reckoned : AllReckon reckonings
unfolding reckonings product_part added_word tabulate filled all_below words_in_range_of sums_test add_refusal_of add_by add_of normalized element_part matrix_byte write_refusal_of write_by write_of
reckoned =
    (refl, (refl, (refl, (refl, (refl, (refl, (refl, (refl, (refl, (refl, (refl, (refl, (refl, (refl, (refl, (refl, (refl, (refl, (refl, (refl, (refl, (refl, (refl, (refl, (refl, (refl, (refl, (refl, (refl, (refl, (refl, (refl, (refl, (refl, ((refl, refl), ((refl, refl), tt))))))))))))))))))))))))))))))))))))
