-- Document 02, U4, in numbers: one table, and one statement over all its rows, computed from the definitions that the contract cites. The rows are numerals,
-- worked out from document 02's words, and use nothing of those definitions. A float is written as the logic has it: `fin s m e` is m times 2 ^ e, negative
-- where s is true, and m is odd or 0. Assumes nothing.
use Rattle.std.specs.Prelude.{◌≡◌, refl, true, false, cond, List, [], ◌∷◌, ℕ, ◌+◌, eqb, Float, ℤ, pos, negsuc}
use Rattle.std.specs.Float.{fin}
use Rattle.std.specs.Float.Ieee.{round, of_int, neg, add, sub, mul, div}
use Rattle.std.specs.Float.Ieee as ieee
use Rattle.integers.specs.Matrix.{Entry, at, matrix_of}
use Rattle.integers.specs.Sum.{sum}
use Rattle.lists.specs.Lists.{tabulate}
use Rattle.covariance.specs.declared.Sample.{Sample}
use Rattle.weights.specs.Solution.{target_part_of, right_sum_of, right_side_of, row_left_of, row_component_of, component_of, worked_rows}

-- one of the target's 16 parts
pub data Part : Type 0 where
  part : ℕ → ℤ → Part

pub data Weighing : Type 0 where
  -- R has one word all along its diagonal and others where a list has them, Q has its own, and the target has the parts of a list, all else being 0:
  -- this component of the weights is this float
  weighs : ℤ → List Entry → ℤ → List Entry → List Part → ℕ → Float → Weighing

unfoldable pub value_of : List Part → ℕ → ℤ
value_of [] j = pos 0
value_of (part place value ∷ ps) j = cond (eqb j place) value (value_of ps j)

unfoldable pub targets_of : List Part → List Sample
targets_of ps = tabulate 8 (λ k. record { re = value_of ps k; im = value_of ps (8 + k) })

abbrev pub Weighs : Weighing → Type 0
Weighs (weighs d rs o qs ps k x) = component_of (worked_rows (matrix_of d rs) (matrix_of o qs) (target_part_of (targets_of ps)) 16) k ≡ x

abbrev pub AllWeigh : List Weighing → Type 0
AllWeigh [] = Unit {0}
AllWeigh (w ∷ ws) = Weighs w × AllWeigh ws

unfoldable pub weighings : List Weighing
weighings =
    -- 8,192 over 3, rounded: 2^30 for one and the division by 131,072 leave 8,192 of a target of 1
    weighs (pos 3) [] (pos 1073741824) [] (part 0 (pos 1) ∷ []) 0 (fin false 6004799503160661 (negsuc 40))
    ∷ weighs (pos 3) [] (pos 1073741824) [] (part 0 (pos 1) ∷ []) 1 (fin false 0 (pos 0))
    -- the imaginary part of target 2 is part 10, and component 10 the imaginary part of weight 2
    ∷ weighs (pos 3) [] (pos 1073741824) [] (part 10 (negsuc 4) ∷ []) 10 (fin true 7505999378950827 (negsuc 38))
    ∷ weighs (pos 3) [] (pos 1073741824) [] (part 10 (negsuc 4) ∷ []) 2 (fin false 0 (pos 0))
    -- Q's word (4, 1) brings target 4 into row 1, and leaves row 4 as it is
    ∷ weighs (pos 3) [] (pos 1073741824) (at 4 1 (pos 131072) ∷ []) (part 4 (pos 7) ∷ []) 1 (fin false 5254199565265579 (negsuc 50))
    ∷ weighs (pos 3) [] (pos 1073741824) (at 4 1 (pos 131072) ∷ []) (part 4 (pos 7) ∷ []) 4 (fin false 5254199565265579 (negsuc 37))
    -- the sum is made a float before it is divided: 1 over 131,072 is not 0
    ∷ weighs (pos 1) [] (pos 1) [] (part 0 (pos 1) ∷ []) 0 (fin false 1 (negsuc 16))
    -- products are taken off before the division: 8,191 over 3
    ∷ weighs (pos 3) (at 0 1 (pos 1) ∷ at 1 1 (pos 8192) ∷ []) (pos 1073741824) [] (part 0 (pos 1) ∷ part 1 (pos 1) ∷ []) 0 (fin false 6004066495408811 (negsuc 40))
    -- and in rising column order: 1 is lost twice beside 2^53, where 2 would not be lost
    ∷ weighs (pos 1) (at 0 1 (pos 67108864) ∷ at 0 2 (pos 1) ∷ at 0 3 (pos 1) ∷ at 2 2 (pos 8192) ∷ at 3 3 (pos 8192) ∷ []) (pos 1073741824) [] (part 1 (pos 16384) ∷ part 2 (pos 1) ∷ part 3 (pos 1) ∷ []) 0 (fin true 1 (pos 53))
    -- each product is rounded by itself: of 2^54 less (2^27 - 1) (2^27 + 1) nothing is left, where one rounding for both would leave 1
    ∷ weighs (pos 1) (at 0 1 (negsuc 134217727) ∷ at 0 2 (pos 134217727) ∷ []) (pos 1073741824) (at 3 2 (pos 131072) ∷ []) (part 1 (pos 16384) ∷ part 2 (pos 16384) ∷ part 3 (pos 1) ∷ []) 2 (fin false 134217729 (pos 0))
    ∷ weighs (pos 1) (at 0 1 (negsuc 134217727) ∷ at 0 2 (pos 134217727) ∷ []) (pos 1073741824) (at 3 2 (pos 131072) ∷ []) (part 1 (pos 16384) ∷ part 2 (pos 16384) ∷ part 3 (pos 1) ∷ []) 0 (fin false 0 (pos 0))
    -- row 0 reads component 15, and 15 is the last imaginary part
    ∷ weighs (pos 3) (at 0 15 (pos 5) ∷ []) (pos 1073741824) [] (part 15 (negsuc 32767) ∷ []) 15 (fin true 6004799503160661 (negsuc 25))
    ∷ weighs (pos 3) (at 0 15 (pos 5) ∷ []) (pos 1073741824) [] (part 15 (negsuc 32767) ∷ []) 0 (fin false 5003999585967217 (negsuc 24))
    -- a negative last diagonal word makes -0.0 of 0, which no row above hands on
    ∷ weighs (pos 1) (at 15 15 (negsuc 0) ∷ []) (pos 1073741824) [] [] 15 (fin true 0 (pos 0))
    ∷ weighs (pos 1) (at 15 15 (negsuc 0) ∷ []) (pos 1073741824) [] [] 14 (fin false 0 (pos 0))
    ∷ []

pub weighed : AllWeigh weighings
unfolding weighings matrix_of value_of targets_of tabulate target_part_of sum right_sum_of right_side_of row_left_of row_component_of worked_rows round of_int neg ieee.sum add sub mul div
weighed =
    (refl, (refl, (refl, (refl, (refl, (refl, (refl, (refl, (refl, (refl, (refl, (refl, (refl, (refl, (refl, tt)))))))))))))))
