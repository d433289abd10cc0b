-- Document 02, U2: products of samples, the sums of them, and the range of sums. Assumes nothing.
use Rattle.std.specs.Prelude.{ℕ, zero, suc, ◌*◌, ◌/◌, ◌%◌, ◌^◌, Bool, List, leb, ltb, ℤ, pos, nat_abs, ◌+ℤ◌, ◌-ℤ◌, ◌*ℤ◌, get_or, replicate}
use Rattle.lists.specs.Lists.{all_below}
use Rattle.refusals.specs.Refusals.{first, fails_if, fails_unless, sums_out_of_range}
use Rattle.covariance.specs.declared.Sample.{Sample}
use Rattle.covariance.specs.declared.Sums.{Sums}

-- the most snapshots that are added up, and how many sums there are: a real and an imaginary one for each of the 64 elements
abbrev pub snapshot_limit : ℕ
snapshot_limit = 4096

abbrev pub sum_words : ℕ
sum_words = 128

-- ---- products

-- "sample i times the conjugate of sample j": (x + y i) (u - v i), its real part (q is 0) and its imaginary part (q is 1)
unfoldable pub product_part : Sample → Sample → ℕ → ℤ
product_part a b zero = a.re *ℤ b.re +ℤ a.im *ℤ b.im
product_part a b (suc q) = a.im *ℤ b.re -ℤ a.re *ℤ b.im

-- a snapshot is a list of eight samples, and this is sample i
abbrev pub sample_of : List Sample → ℕ → Sample
sample_of snapshot i = get_or snapshot i (record { re = pos 0; im = pos 0 })

-- ---- sums, in the order of the matrix record: part q of element (i, j) is sum 2 * (8 * i + j) + q

-- no snapshot added
abbrev pub sums_none_of : Sums
sums_none_of = record { count = 0; words = replicate sum_words (pos 0) }

-- sum n
abbrev pub sum_at : List ℤ → ℕ → ℤ
sum_at words n = get_or words n (pos 0)

-- sum n with a snapshot added
unfoldable pub added_word : List Sample → List ℤ → ℕ → ℤ
added_word snapshot words n = sum_at words n +ℤ product_part (sample_of snapshot (n / 16)) (sample_of snapshot (n / 2 % 8)) (n % 2)

-- ---- the range of sums

-- within 2^31 times the count, either way
abbrev pub in_range : ℕ → ℤ → Bool
in_range count sum = leb (nat_abs sum) (2 ^ 31 * count)

unfoldable pub words_in_range_of : ℕ → List ℤ → Bool
words_in_range_of count words = all_below sum_words (λ n. in_range count (sum_at words n))

-- 10, adding or writing: a count above 4,096 or a sum beyond 2^31 times the count either way
unfoldable pub sums_test : ℕ → List ℤ → ℕ
sums_test count words = first (fails_if (ltb snapshot_limit count) sums_out_of_range) (fails_unless (words_in_range_of count words) sums_out_of_range)
