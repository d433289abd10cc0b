-- The premises of the theorems can be met: by a record that is accepted with any targets and whose bytes are all below 256, and by the loudest targets.
-- Assumes nothing.
use mathlib.Core.Path.{◌≡◌, refl}
use mathlib.Core.List.{List, [], ◌∷◌}
use Prim.Native.Nat.{ℕ, zero, suc}
use lib.Dec.{lit<}
use lib.IntN.{pos, negsuc}
use lib.ListN.{replicate}
use Rattle.words.specs.Words.{Bytes}
use Rattle.words.proofs.Bytes.{are_bytes, bytes_of}
use Rattle.covariance.specs.declared.Sample.{Sample}
use Rattle.weights.specs.Weights.{weights_of}
use Rattle.weights_laws.specs.Replies.{Targets16}
use Rattle.weights_laws.specs.Judged.{ones, diagonal, judgements, judged}

-- ---- a record

-- the last row of `judged`: its diagonal words are 1, and the last is -1
abbrev some_record : List ℕ
some_record = diagonal (0 ∷ 0 ∷ 0 ∷ 1 ∷ []) (255 ∷ 255 ∷ 255 ∷ 255 ∷ [])

pub record_possible : Bytes some_record × ((targets : List Sample) → (weights_of some_record targets).number ≡ 0)
unfolding are_bytes diagonal ones judgements
record_possible = (bytes_of some_record refl, judged.1.1.1.1.1.1.1.0)

-- ---- targets

pub targets_possible : Targets16 (replicate 8 (record { re = negsuc 32767; im = pos 32767 }))
targets_possible = at 8
  where
    at : (n : ℕ) → Targets16 (replicate n (record { re = negsuc 32767; im = pos 32767 }))
    at zero k = (record { sfits = lit< tt }, record { sfits = lit< tt })
    at (suc n) zero = (record { sfits = lit< tt }, record { sfits = lit< tt })
    at (suc n) (suc k) = at n k
