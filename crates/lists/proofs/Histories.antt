-- Laws of lists of calls: what each call keeps holds at every point; what holds call by call holds at every place; calls that change nothing may stand
-- anywhere. Assumes nothing.
use mathlib.Core.Path.{◌≡◌, refl, ap, ◌∙◌, subst}
use mathlib.Core.List.{List, [], ◌∷◌, ◌++◌, append_assoc}
use native.Mathlib.Omega.{arith}
use lib.ListN.{length, length-append}
use Rattle.lists.specs.Histories.{after_all, Place, Point, Each}

module _ {S C : Type 0} (next : S → C → S) where
  -- ---- one list after another
  pub after_append : (s : S) (a b : List C) → after_all next s (a ++ b) ≡ after_all next (after_all next s a) b
  unfolding after_all
  after_append s [] b = refl
  after_append s (c ∷ a) b = after_append (next s c) a b

  -- ---- an invariant: what holds at the start, and after each call of which Q holds
  module _ (P : S → Type 0) (Q : S → C → Type 0) (step : (s : S) (c : C) → P s → Q s c → P (next s c)) where
    kept_over : (s : S) (before rest : List C) → P s → ((a b : List C) (c : C) → before ++ rest ≡ a ++ c ∷ b → Q (after_all next s a) c) → P (after_all next s before)
    unfolding after_all
    kept_over s [] rest h q = h
    kept_over s (c ∷ before) rest h q =
        kept_over (next s c) before rest (step s c h (q [] (before ++ rest) c refl)) (λ a b d e. q (c ∷ a) b d (ap (λ (t : List C). c ∷ t) e))

    pub kept_at : (s : S) (calls : List C) → P s → Each next Q s calls → (p : Point calls) → P (after_all next s p.before)
    kept_at s calls h each p = kept_over s p.before p.rest h (λ a b c e. each c (record { before = a; rest = b; is = p.is ∙ e }))

    pub kept-before : (s : S) (calls : List C) → P s → Each next Q s calls → {c : C} (p : Place c calls) → P (after_all next s p.before)
    kept-before s calls h each {c} p = kept_at s calls h each (record { before = p.before; rest = c ∷ p.rest; is = p.is })

  -- ---- call by call
  module _ (Q : S → C → Type 0) where
    -- Q holds of each call in turn
    unfoldable pub Along : S → List C → Type 0
    Along s [] = Unit {0}
    Along s (c ∷ calls) = Q s c × Along (next s c) calls

    along_at : (s : S) (calls before rest : List C) (c : C) → Along s calls → calls ≡ before ++ c ∷ rest → Q (after_all next s before) c
    unfolding Along after_all
    along_at s [] before rest c a e = absurd (omega (arith, ap length e, length-append before (c ∷ rest)))
    along_at s (x ∷ xs) [] rest c a e = let h : x ≡ c = cc in subst (Q s) h a.0
    along_at s (x ∷ xs) (y ∷ ys) rest c a e =
        let h : x ≡ y = cc in
        let t : xs ≡ ys ++ c ∷ rest = cc in
        subst (λ (d : C). Q (after_all next (next s d) ys) c) h (along_at (next s x) xs ys rest c a.1 t)

    pub each_of : (s : S) (calls : List C) → Along s calls → Each next Q s calls
    each_of s calls a c p = along_at s calls p.before p.rest c a p.is

    -- what holds at every place holds call by call, and at every place of the calls up to a point
    pub along_of : (s : S) (calls : List C) → Each next Q s calls → Along s calls
    unfolding Along after_all
    along_of s [] each = tt
    along_of s (c ∷ calls) each = (
      each c (record { before = []; rest = calls; is = refl }),
      along_of (next s c) calls (λ d p. each d (record { before = c ∷ p.before; rest = p.rest; is = ap (λ (t : List C). c ∷ t) p.is })),
    )

    pub each-before : (s : S) (calls : List C) (p : Point calls) → Each next Q s calls → Each next Q s p.before
    each-before s calls p each c q =
        each c (record { before = q.before; rest = q.rest ++ p.rest; is = p.is ∙ ap (λ (t : List C). t ++ p.rest) q.is ∙ append_assoc q.before (c ∷ q.rest) p.rest })

    -- one list after another, and each of the two by itself
    pub along_first : (s : S) (a b : List C) → Along s (a ++ b) → Along s a
    unfolding Along
    along_first s [] b x = tt
    along_first s (c ∷ a) b x = (x.0, along_first (next s c) a b x.1)

    pub along_rest : (s : S) (a b : List C) → Along s (a ++ b) → Along (after_all next s a) b
    unfolding Along after_all
    along_rest s [] b x = x
    along_rest s (c ∷ a) b x = along_rest (next s c) a b x.1

    pub along_append : (s : S) (a b : List C) → Along s a → Along (after_all next s a) b → Along s (a ++ b)
    unfolding Along after_all
    along_append s [] b x y = y
    along_append s (c ∷ a) b x y = (x.0, along_append (next s c) a b x.1 y)

  -- ---- calls that leave the state s as it is
  unfoldable pub Idle : S → List C → Type 0
  Idle s [] = Unit {0}
  Idle s (c ∷ calls) = (next s c ≡ s) × Idle s calls

  pub idle_after : (s : S) (calls rest : List C) → Idle s calls → after_all next s (calls ++ rest) ≡ after_all next s rest
  unfolding Idle after_all
  idle_after s [] rest i = refl
  idle_after s (c ∷ calls) rest i = ap (λ (t : S). after_all next t (calls ++ rest)) i.0 ∙ idle_after s calls rest i.1
