-- Only the contracts of inner functions use this: the columns that two rows of words hold, and what a word type asks of them. A word stands for a number,
-- which the type's `number` gives. Assumes nothing.
use Rattle.std.specs.Prelude.{ℕ, ◌+◌, ◌-◌, ◌^◌, List, map, ℤ, pos, get_or}
use Rattle.cordic.specs.declared.Pair.{Pair}
use Rattle.cordic.specs.Range.{InRange}
use Rattle.rotation.specs.Stores.{pair_at, Columns}

-- both words of a column are such as H says
pub record Both (H : ℤ → Type 0) (p : Pair) : Type 0 where
  pub u : H p.u
  pub v : H p.v

-- column k of the part l as it stands, whose lower row begins `base` words on
unfoldable pub words_at : ℕ → List ℤ → ℕ → Pair
words_at base l k = record { u = get_or l k (pos 0); v = get_or l (base + k) (pos 0) }

-- both words of a column fit 32 bits, as any words of the workspace do
abbrev pub Words32 : Pair → Type 0
Words32 p = InRange (2 ^ 31 - 1) p

-- column j of two rows
abbrev pub lane : {A : Type 0} → (A → ℤ) → List A → List A → ℕ → Pair
lane number us vs j = pair_at (map number us) (map number vs) j

-- the first `count` columns of two rows are as f says
abbrev pub Lanes : {A : Type 0} → (A → ℤ) → (ℕ → Pair) → ℕ → List A → List A → Type 0
Lanes number f count us vs = Columns f 0 count (map number us) (map number vs)
