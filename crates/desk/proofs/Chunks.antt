-- A chunk of a list by its place. Assumes nothing.
use Rattle.std.proofs.Common.{◌≡◌, ℕ, zero, suc, ◌+◌, ◌*◌, ◌<◌, List, get_or, take, drop, ap, ◌∙◌, arith}
use native.Mathlib.Nat.{suc-mul}
use Rattle.std.proofs.lemmas.List.{drop-drop}
use Rattle.std.specs.Simd.{first_chunks}

pub chunk_at : {A : Type 0} (n k i : ℕ) (xs : List A) (none : List A) → i < k → get_or (first_chunks n k xs) i none ≡ take n (drop (i * n) xs)
chunk_at n zero i xs none h = absurd (omega arith)
chunk_at n (suc k) zero xs none h = let z : 0 ≡ 0 * n = omega arith in ap (λ (m : ℕ). take n (drop m xs)) z
chunk_at n (suc k) (suc i) xs none h =
    let z : n + i * n ≡ suc i * n = omega (arith, suc-mul i n) in
    chunk_at n k i (drop n xs) none (omega arith) ∙ ap (take n) (drop-drop (i * n) n xs ∙ ap (λ (m : ℕ). drop m xs) z)
