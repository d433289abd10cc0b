-- Lists of calls, for any calls and any states between them: `next s c` is the state that the call c leaves where it finds the state s. Assumes nothing.
use Rattle.std.specs.Prelude.{◌≡◌, List, [], ◌∷◌, ◌++◌}

-- the state after all calls of a list
unfoldable pub after_all : {S C : Type 0} → (S → C → S) → S → List C → S
after_all next s [] = s
after_all next s (c ∷ calls) = after_all next (next s c) calls

-- the call c stands in the list
pub record Place {C : Type 0} (c : C) (calls : List C) : Type 0 where
  pub before : List C
  pub rest : List C
  pub is : calls ≡ before ++ c ∷ rest

-- a point between two calls, before the first or after the last
pub record Point {C : Type 0} (calls : List C) : Type 0 where
  pub before : List C
  pub rest : List C
  pub is : calls ≡ before ++ rest

-- P holds of each call of the list and the state that it finds
abbrev pub Each : {S C : Type 0} → (S → C → S) → (S → C → Type 0) → S → List C → Type 0
Each {S} {C} next P s calls = (c : C) (p : Place c calls) → P (after_all next s p.before) c
