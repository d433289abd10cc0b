-- Document 02, U13, in numbers: "the sums for Q times R and for the rows of Q lie within the mission's limits, over all 256 pairs of each", and "Sums may pass 64
-- bits for odd records and must still be right". One table, and one statement over all its rows, computed from the definitions that the contract cites. The rows
-- are numerals, worked out from the words of documents 01 and 02, and use nothing of those definitions. Assumes nothing.
use Rattle.std.specs.Prelude.{◌≡◌, refl, Bool, true, false, List, [], ◌∷◌, ◌++◌, ℕ, zero, suc, ℤ, pos, negsuc}
use Rattle.integers.specs.Matrix.{Entry, at, matrix_of}
use Rattle.integers.specs.Within.{is_within}
use Rattle.integers.specs.Sum.{sum}
use Rattle.lists.specs.Lists.{all_below}
use Rattle.verify.specs.Verify.{is_product, is_orthogonal}

pub data Summing : Type 0 where
  -- the input has one number all along its diagonal, R and Q have one word each, and others where lists have them, all else being 0: whether Q times R lies
  -- within the limits
  product : ℤ → List Entry → ℤ → List Entry → ℤ → List Entry → Bool → Summing
  -- Q has one word all along its diagonal, and others where a list has them, all else being 0: whether its rows do
  rows : ℤ → List Entry → Bool → Summing

abbrev pub Adds : Summing → Type 0
Adds (product a es r rs q qs t) = is_product (matrix_of a es) (matrix_of r rs) (matrix_of q qs) ≡ t
Adds (rows q qs t) = is_orthogonal (matrix_of q qs) ≡ t

abbrev pub AllSum : List Summing → Type 0
AllSum [] = Unit {0}
AllSum (s ∷ ss) = Adds s × AllSum ss

-- a word at the first n places of column 0, and of row 0. Where a list has a place twice, the first word counts
unfoldable pub first_down : ℕ → ℤ → List Entry
first_down zero w = []
first_down (suc n) w = at n 0 w ∷ first_down n w

unfoldable pub first_across : ℕ → ℤ → List Entry
first_across zero w = []
first_across (suc n) w = at 0 n w ∷ first_across n w

unfoldable pub summings : List Summing
summings =
    -- 2^13 in R and 2^30 in Q are one step of the input
    product (pos 3) [] (pos 24576) [] (pos 1073741824) [] true
    -- off by 2^44 at the first and at the last pair, either way, and by 2^30 more
    ∷ product (pos 3) [] (pos 24576) (at 0 0 (pos 40960) ∷ []) (pos 1073741824) [] true
    ∷ product (pos 3) [] (pos 24576) (at 0 0 (pos 40961) ∷ []) (pos 1073741824) [] false
    ∷ product (pos 3) [] (pos 24576) (at 15 15 (pos 8192) ∷ []) (pos 1073741824) [] true
    ∷ product (pos 3) [] (pos 24576) (at 15 15 (pos 8191) ∷ []) (pos 1073741824) [] false
    -- off by 2^44, and by one more, either way: Q's word (0, 1) meets R's word (1, 1) in the sum for (0, 1)
    ∷ product (pos 0) [] (pos 0) (at 0 1 (pos 16384) ∷ at 1 1 (pos 1) ∷ []) (pos 1073741824) [] true
    ∷ product (pos 0) [] (pos 0) (at 0 1 (pos 16384) ∷ at 1 1 (pos 1) ∷ []) (pos 1073741824) (at 0 1 (pos 1) ∷ []) false
    ∷ product (pos 0) [] (pos 0) (at 0 1 (negsuc 16383) ∷ at 1 1 (pos 1) ∷ []) (pos 1073741824) [] true
    ∷ product (pos 0) [] (pos 0) (at 0 1 (negsuc 16383) ∷ at 1 1 (pos 1) ∷ []) (pos 1073741824) (at 0 1 (negsuc 0) ∷ []) false
    -- Q times R, and not Q transposed times R: Q's word (2, 5) brings row 5 of R into row 2
    ∷ product (pos 0) (at 2 7 (pos 3) ∷ []) (pos 0) (at 5 7 (pos 24576) ∷ []) (pos 0) (at 2 5 (pos 1073741824) ∷ []) true
    ∷ product (pos 0) (at 2 7 (pos 3) ∷ []) (pos 0) (at 5 7 (pos 24576) ∷ []) (pos 0) (at 5 2 (pos 1073741824) ∷ []) false
    -- four products of 2^62 make 2^64, and as many of -2^62 + 2^31 leave 2^33 of it
    ∷ product (pos 0) [] (pos 0) (first_down 4 (negsuc 2147483647)) (pos 0) (first_across 4 (negsuc 2147483647)) false
    ∷ product (pos 0) [] (pos 0) (first_down 4 (negsuc 2147483647) ++ first_down 8 (pos 2147483647)) (pos 0) (first_across 8 (negsuc 2147483647)) true
    -- the rows: 2^30 squared is 2^60, with 8,192 more it is off by 2^44 + 2^26, and with 8,192 less by 2^44 - 2^26
    ∷ rows (pos 1073741824) [] true
    ∷ rows (pos 0) [] false
    ∷ rows (pos 1073741824) (at 0 0 (pos 1073750015) ∷ []) true
    ∷ rows (pos 1073741824) (at 0 0 (pos 1073750016) ∷ []) false
    ∷ rows (pos 1073741824) (at 15 15 (pos 1073733632) ∷ []) true
    ∷ rows (pos 1073741824) (at 15 15 (pos 1073733631) ∷ []) false
    -- two rows: off by 2^44, and by one more, either way
    ∷ rows (pos 1073741824) (at 0 1 (pos 16384) ∷ []) true
    ∷ rows (pos 1073741824) (at 0 1 (pos 16384) ∷ at 0 2 (pos 1) ∷ at 1 2 (pos 1) ∷ []) false
    ∷ rows (pos 1073741824) (at 14 15 (negsuc 16383) ∷ []) true
    ∷ rows (pos 1073741824) (at 14 15 (negsuc 16383) ∷ at 14 0 (pos 1) ∷ at 15 0 (negsuc 0) ∷ []) false
    ∷ []

pub summed : AllSum summings
unfolding summings first_down first_across matrix_of is_product is_orthogonal is_within all_below sum
summed =
    (refl, (refl, (refl, (refl, (refl, (refl, (refl, (refl, (refl, (refl, (refl, (refl, (refl, (refl, (refl, (refl, (refl, (refl, (refl, (refl, (refl, (refl, (refl, tt)))))))))))))))))))))))
