-- Document 02, U13: "Tests run 1, 2, 4 on the matrix, then 1, 2, 8 on the result", in numbers: one table, and one statement over all its rows, computed from the
-- definitions that the contract cites. The rows are bytes and numbers, and use nothing of those definitions. Where it can, a refused row fails the tests that
-- follow as well, so that the rows tell the sequence of the tests. Assumes nothing.
use Rattle.std.specs.Prelude.{◌≡◌, refl, List, [], ◌∷◌, ◌++◌, ℕ, replicate}
use Rattle.lists.specs.Lists.{all_below}
use Rattle.refusals.specs.Refusals.{header_test}
use Rattle.matrix_record.specs.MatrixRecord.{part_of, antenna_heard_of, heard_below, matrix_refusal}
use Rattle.result_record.specs.ResultRecord.{record_word, record_r, is_finished_at, is_finished, record_refusal_of}
use Rattle.verify.specs.Verify.{verify_refusal_of, verdict_by, verdict_of}

-- a matrix record, a result record, and the number by which the call refuses them
pub data Judgement : Type 0 where
  judges : List ℕ → List ℕ → ℕ → Judgement

abbrev pub Judges : Judgement → Type 0
Judges (judges matrix result n) = verdict_of matrix result ≡ record { number = n; yes = 0 }

abbrev pub AllJudged : List Judgement → Type 0
AllJudged [] = Unit {0}
AllJudged (j ∷ js) = Judges j × AllJudged js

-- the real part of element (0, 0) is this number, and all else is 0
unfoldable pub heard_by : ℕ → List ℕ
heard_by n = 1 ∷ 0 ∷ n ∷ replicate 254 0

-- word (1, 0), under the diagonal, is 1, and all else is 0
unfoldable pub under_diagonal : List ℕ
under_diagonal = 2 ∷ replicate 67 0 ++ 1 ∷ replicate 1980 0

unfoldable pub judgements : List Judgement
judgements =
    -- the matrix: 1, and then 2; none of these hears an antenna, and the results are refused as well
    judges [] [] 1
    ∷ judges (2 ∷ replicate 255 0) [] 1
    ∷ judges (1 ∷ replicate 255 0) [] 2
    ∷ judges (1 ∷ replicate 257 0) [] 2
    -- 4, ahead of 1, 2 and 8 of the result: 16 is not above 16, and an element off the diagonal does not count
    ∷ judges (heard_by 0) [] 4
    ∷ judges (heard_by 16) (2 ∷ []) 4
    ∷ judges (heard_by 16) under_diagonal 4
    ∷ judges (1 ∷ replicate 4 0 ++ 127 ∷ replicate 251 0) under_diagonal 4
    -- the result: 1, and then 2; the records of 2,048 and 2,050 bytes have a word under the diagonal
    ∷ judges (heard_by 17) [] 1
    ∷ judges (heard_by 17) (heard_by 17) 1
    ∷ judges (heard_by 17) (2 ∷ replicate 67 0 ++ 1 ∷ replicate 1979 0) 2
    ∷ judges (heard_by 17) (2 ∷ replicate 67 0 ++ 1 ∷ replicate 1981 0) 2
    -- 8: word (1, 0) is 1; word (0, 0) is -1
    ∷ judges (heard_by 17) under_diagonal 8
    ∷ judges (heard_by 17) (2 ∷ 255 ∷ 255 ∷ 255 ∷ 255 ∷ replicate 2044 0) 8
    ∷ []

-- of a pair that passes all tests a no: Q and R of zeros
abbrev pub ZerosGetNo : Type 0
ZerosGetNo = verdict_of (heard_by 17) (2 ∷ replicate 2048 0) ≡ record { number = 0; yes = 0 }

pub judged : AllJudged judgements
unfolding judgements heard_by under_diagonal header_test part_of antenna_heard_of heard_below matrix_refusal record_word record_r is_finished_at is_finished all_below record_refusal_of verify_refusal_of verdict_by verdict_of
judged =
    (refl, (refl, (refl, (refl, (refl, (refl, (refl, (refl, (refl, (refl, (refl, (refl, (refl, (refl, tt))))))))))))))
