-- Square roots without roots: where the square of w lies within d squared of s, the root of s lies within d of w. Assumes nothing.
use mathlib.Core.Path.{◌≡◌, ap, ◌∙◌}
use Prim.Native.Nat.{ℕ, ◌+◌, ◌-◌, ◌*◌, ◌≤◌}
use native.Mathlib.Nat.{add-mul, mul-add}
use native.Mathlib.Decide.{dec_le}
use native.Mathlib.Omega.{arith}

squared_sum : (v d : ℕ) → (v + d) * (v + d) ≡ (v * v + d * v) + (v * d + d * d)
squared_sum v d = mul-add (v + d) v d ∙ ap (λ (x : ℕ). x + (v + d) * d) (add-mul v d v) ∙ ap (λ (x : ℕ). (v * v + d * v) + x) (add-mul v d d)

pub root_most : (w s d : ℕ) → s ≤ w * w + d * d → s ≤ (w + d) * (w + d)
root_most w s d h = omega (arith, h, squared_sum w d)

pub root_least : (w s d : ℕ) → w * w ≤ s + d * d → (w - d) * (w - d) ≤ s
root_least w s d h = pick (dec_le d w)
  where
    pick : Dec (d ≤ w) → (w - d) * (w - d) ≤ s
    pick (yes k) =
        let e : w ≡ (w - d) + d = omega arith in
        omega (arith, h, ap (λ (x : ℕ). x * x) e ∙ squared_sum (w - d) d)
    pick (no k) = let e : w - d ≡ 0 = omega arith in rw e (omega arith)
