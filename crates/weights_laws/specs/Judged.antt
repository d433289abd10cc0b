-- Document 02, U4: "11 a diagonal word is 0, after 1, 2 and 8 on the record", in numbers: one table, and one statement over all its rows, computed from the
-- definitions that the contract cites. The rows are bytes and numbers, and use nothing of those definitions. Where it can, a refused row fails the tests that
-- follow as well, so that the rows tell the sequence of the tests. Assumes nothing.
use Rattle.std.specs.Prelude.{◌≡◌, refl, List, [], ◌∷◌, ◌++◌, ℕ, zero, suc, replicate}
use Rattle.lists.specs.Lists.{all_below}
use Rattle.refusals.specs.Refusals.{header_test}
use Rattle.result_record.specs.ResultRecord.{record_word, record_r, is_finished_at, is_finished, record_refusal_of}
use Rattle.covariance.specs.declared.Sample.{Sample}
use Rattle.weights.specs.Weights.{diagonal_nonzero_of, weights_refusal_of, weights_by, weights_of}

-- a record, and the number that the call answers, whatever the targets
pub data Judgement : Type 0 where
  judges : List ℕ → ℕ → Judgement

abbrev pub Judges : Judgement → Type 0
Judges (judges rec n) = (targets : List Sample) → (weights_of rec targets).number ≡ n

abbrev pub AllJudged : List Judgement → Type 0
AllJudged [] = Unit {0}
AllJudged (j ∷ js) = Judges j × AllJudged js

-- n diagonal words of 1, with 16 words of 0 after each
unfoldable pub ones : ℕ → List ℕ
ones zero = []
ones (suc n) = 0 ∷ 0 ∷ 0 ∷ 1 ∷ replicate 64 0 ++ ones n

-- a record whose diagonal words are 1 but for the first and the last, which have these bytes; all other words are 0
unfoldable pub diagonal : List ℕ → List ℕ → List ℕ
diagonal first last = 2 ∷ first ++ replicate 64 0 ++ ones 14 ++ last ++ replicate 1024 0

unfoldable pub judgements : List Judgement
judgements =
    -- 1, and then 2: the records of 2,048 and 2,050 bytes have a word under the diagonal and zeros on it
    judges [] 1
    ∷ judges (1 ∷ replicate 67 0 ++ 1 ∷ replicate 1979 0) 1
    ∷ judges (2 ∷ replicate 67 0 ++ 1 ∷ replicate 1979 0) 2
    ∷ judges (2 ∷ replicate 67 0 ++ 1 ∷ replicate 1981 0) 2
    -- 8: word (1, 0) is 1, and word (0, 0) is -1; the diagonal has words of 0 as well
    ∷ judges (2 ∷ replicate 67 0 ++ 1 ∷ replicate 1980 0) 8
    ∷ judges (diagonal (255 ∷ 255 ∷ 255 ∷ 255 ∷ []) (0 ∷ 0 ∷ 0 ∷ 0 ∷ [])) 8
    -- 11: the last diagonal word alone
    ∷ judges (diagonal (0 ∷ 0 ∷ 0 ∷ 1 ∷ []) (0 ∷ 0 ∷ 0 ∷ 0 ∷ [])) 11
    -- accepted: the last diagonal word is -1
    ∷ judges (diagonal (0 ∷ 0 ∷ 0 ∷ 1 ∷ []) (255 ∷ 255 ∷ 255 ∷ 255 ∷ [])) 0
    ∷ []

pub judged : AllJudged judgements
unfolding judgements diagonal ones header_test record_word record_r is_finished_at is_finished all_below record_refusal_of diagonal_nonzero_of weights_refusal_of weights_by weights_of
judged =
    (λ targets. refl, (λ targets. refl, (λ targets. refl, (λ targets. refl, (λ targets. refl, (λ targets. refl, (λ targets. refl, (λ targets. refl, tt))))))))
