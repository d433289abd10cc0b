-- What stands in a list, and in one list behind another. Assumes nothing.
use mathlib.Core.Path.{◌≡◌, refl, sym, ap, ◌∙◌, subst}
use mathlib.Core.Logic.{◌⊎◌, inl, inr, ⊎_elim}
use mathlib.Core.List.{List, [], ◌∷◌, ◌++◌, append_assoc}
use native.Mathlib.Omega.{arith}
use lib.ListN.{length, length-append}
use Rattle.lists.specs.Histories.{Place}

module _ {C : Type 0} where
  pub place-first : (c : C) (cs : List C) → Place c (c ∷ cs)
  place-first c cs = record { before = []; rest = cs; is = refl }

  pub place_later : {c : C} {cs : List C} (d : C) → Place c cs → Place c (d ∷ cs)
  place_later d p = record { before = d ∷ p.before; rest = p.rest; is = ap (λ (t : List C). d ∷ t) p.is }

  -- nothing stands in no list
  pub place_none : {c : C} → Place c [] → ⊥
  place_none {c} p = omega (arith, ap length p.is, length-append p.before (c ∷ p.rest))

  -- first, or behind that
  pub place-cases : {c d : C} {cs : List C} → Place c (d ∷ cs) → (c ≡ d) ⊎ Place c cs
  place-cases {c} {d} {cs} p = go p.before p.rest p.is
    where
      go : (before rest : List C) → d ∷ cs ≡ before ++ c ∷ rest → (c ≡ d) ⊎ Place c cs
      go [] rest e = let h : c ≡ d = cc in inl h
      go (x ∷ before) rest e = let t : cs ≡ before ++ c ∷ rest = cc in inr (record { before = before; rest = rest; is = t })

  -- in one of two lists, and in one behind the other
  pub place_right : {c : C} (a : List C) {b : List C} → Place c b → Place c (a ++ b)
  place_right {c} a p = record { before = a ++ p.before; rest = p.rest; is = ap (λ (t : List C). a ++ t) p.is ∙ sym (append_assoc a p.before (c ∷ p.rest)) }

  pub place_either : {c : C} (a : List C) {b : List C} → Place c (a ++ b) → Place c a ⊎ Place c b
  place_either [] p = inr p
  place_either {c} (x ∷ a) {b} p =
      ⊎_elim (λ h. inl (subst (λ (d : C). Place c (d ∷ a)) h (place-first c a)))
      (λ t. ⊎_elim (λ l. inl (place_later x l)) (λ r. inr r) (place_either a t)) (place-cases p)
