-- Bytes as a run of entries: a whole first entry, and the entries behind it. Assumes nothing.
use mathlib.Core.Path.{◌≡◌, refl, sym, ap, ◌∙◌, subst}
use mathlib.Core.Bool.{Bool, true, false, cond}
use mathlib.Core.List.{List, [], ◌∷◌}
use mathlib.Core.Option.{Option, none, some}
use Prim.Native.Nat.{ℕ, zero, suc, ◌+◌, ◌<◌, ◌≤◌}
use native.Mathlib.Nat.{not-suc-le-zero}
use native.Mathlib.Omega.{arith}
use borrow.Author.Tests.{eqb-false, ltb-false, ne_eqb, lt-ltb, le-ltb}
use lib.Dec.{eqb, ltb, T}
use lib.ListN.{length, get_or, take, drop, length-drop}
use Rattle.journal.specs.Entry.{Entry, body_length_of, head_bytes}
use Rattle.journal.specs.Held.{first_size, first_entry, in_front, up_to, entries, held, is_some}

-- a whole entry stands first
pub record Whole (xs : List ℕ) : Type 0 where
  pub known : 0 < body_length_of (get_or xs 0 0)
  pub size : first_size xs ≡ head_bytes + body_length_of (get_or xs 0 0)
  pub fits : head_bytes + body_length_of (get_or xs 0 0) ≤ length xs

both_false : (p q : Bool) (n : ℕ) → 0 < cond p 0 (cond q 0 n) → (p ≡ false) × (q ≡ false)
both_false true q n h = absurd (not-suc-le-zero h)
both_false false true n h = absurd (not-suc-le-zero h)
both_false false false n h = (refl, refl)

module _ (xs : List ℕ) where
  pub size-whole : (body_length_of (get_or xs 0 0) ≡ 0 → ⊥) → head_bytes + body_length_of (get_or xs 0 0) ≤ length xs → first_size xs ≡ head_bytes + body_length_of (get_or xs 0 0)
  unfolding first_size
  size-whole h l = simp (ne_eqb (body_length_of (get_or xs 0 0)) 0 h, le-ltb (length xs) (head_bytes + body_length_of (get_or xs 0 0)) l)

  pub whole : 0 < first_size xs → Whole xs
  unfolding first_size
  whole h =
      let t = both_false (eqb (body_length_of (get_or xs 0 0)) 0) (ltb (length xs) (head_bytes + body_length_of (get_or xs 0 0))) (head_bytes + body_length_of (get_or xs 0 0)) h in
      let z : body_length_of (get_or xs 0 0) ≡ 0 → ⊥ = eqb-false _ _ t.0 in
      let l : head_bytes + body_length_of (get_or xs 0 0) ≤ length xs = ltb-false _ _ t.1 in
      record { known = omega (arith, z); size = size-whole z l; fits = l }

-- an entry in front of the same others
front_same : (s : ℕ) (e : Entry) (o o' : Option (List Entry)) → (0 < s → o ≡ o') → in_front s e o ≡ in_front s e o'
front_same zero e o o' h = refl
front_same (suc s) e o o' h = ap (in_front (suc s) e) (h (omega arith))

-- as many entries as there are bytes are enough
up_to_fuel : (n m : ℕ) (xs : List ℕ) → length xs ≤ n → length xs ≤ m → up_to n xs ≡ up_to m xs
unfolding up_to
up_to_fuel zero zero [] h k = refl
up_to_fuel zero (suc m) [] h k = refl
up_to_fuel (suc n) zero [] h k = refl
up_to_fuel (suc n) (suc m) [] h k = refl
up_to_fuel zero m (x ∷ xs) h k = absurd (not-suc-le-zero h)
up_to_fuel (suc n) zero (x ∷ xs) h k = absurd (not-suc-le-zero k)
up_to_fuel (suc n) (suc m) (x ∷ xs) h k =
    front_same (first_size (x ∷ xs)) (first_entry (x ∷ xs)) _ _
    (λ p. up_to_fuel n m (drop (first_size (x ∷ xs)) (x ∷ xs)) (shorter n h p) (shorter m k p))
  where
    shorter : (i : ℕ) → suc (length xs) ≤ suc i → 0 < first_size (x ∷ xs) → length (drop (first_size (x ∷ xs)) (x ∷ xs)) ≤ i
    shorter i l p = rw (length-drop (first_size (x ∷ xs)) (x ∷ xs)) (omega arith)

-- the first entry, then the entries behind it
pub entries_step : (xs : List ℕ) → 0 < length xs → entries xs ≡ in_front (first_size xs) (first_entry xs) (entries (drop (first_size xs) xs))
unfolding entries up_to
entries_step [] h = absurd (not-suc-le-zero h)
entries_step (x ∷ xs) h =
    front_same (first_size (x ∷ xs)) (first_entry (x ∷ xs)) _ _
    (λ p. up_to_fuel (length xs) (length (drop (first_size (x ∷ xs)) (x ∷ xs))) (drop (first_size (x ∷ xs)) (x ∷ xs)) (rw (length-drop (first_size (x ∷ xs)) (x ∷ xs)) (omega arith)) (omega arith))

pub entries_none : entries [] ≡ some []
unfolding entries up_to
entries_none = refl

-- entries of bytes that are not empty
pub record Head (xs : List ℕ) (es : List Entry) : Type 0 where
  pub rest : List Entry
  pub size : 0 < first_size xs
  pub is : es ≡ first_entry xs ∷ rest
  pub left : entries (drop (first_size xs) xs) ≡ some rest

front_parts : (s : ℕ) (e : Entry) (o : Option (List Entry)) (es : List Entry) → in_front s e o ≡ some es → (rest : List Entry) × (0 < s) × (es ≡ e ∷ rest) × (o ≡ some rest)
front_parts zero e o es h = let z : ◌≡◌ {A = ℕ} 0 1 = cc in absurd (omega arith)
front_parts (suc s) e none es h = let z : ◌≡◌ {A = ℕ} 0 1 = cc in absurd (omega arith)
front_parts (suc s) e (some r) es h = (r, omega arith, cc, refl)

pub entries_head : (xs : List ℕ) (es : List Entry) → 0 < length xs → entries xs ≡ some es → Head xs es
entries_head xs es l h =
    let p = front_parts (first_size xs) (first_entry xs) (entries (drop (first_size xs) xs)) es (sym (entries_step xs l) ∙ h) in
    record { rest = p.0; size = p.1; is = p.2; left = p.3 }

-- whether bytes are a run goes on behind a whole entry, and ends at what is none
front_run : (s : ℕ) (e : Entry) (o : Option (List Entry)) → 0 < s → is_some (in_front s e o) ≡ is_some o
front_run zero e o h = absurd (not-suc-le-zero h)
front_run (suc s) e none h = refl
front_run (suc s) e (some es) h = refl

pub run_on : (xs : List ℕ) → 0 < first_size xs → is_some (entries xs) ≡ is_some (entries (drop (first_size xs) xs))
run_on xs h = let w = whole xs h in ap is_some (entries_step xs (omega (arith, w.fits))) ∙ front_run (first_size xs) _ _ h

pub run_ends : (xs : List ℕ) → 0 < length xs → first_size xs ≡ 0 → is_some (entries xs) ≡ false
run_ends xs l e =
    ap is_some (entries_step xs l ∙ ap (λ (s : ℕ). in_front s (first_entry xs) (entries (drop (first_size xs) xs))) e)

-- what is some has its entries
pub run_some : (o : Option (List Entry)) → is_some o ≡ true → (es : List Entry) × (o ≡ some es)
run_some none h = absurd (subst T (sym h) tt)
run_some (some es) h = (es, refl)

-- what the used bytes hold, by whether they are within the buffer
pub held_past : (used : ℕ) (b : List ℕ) → length b < used → is_some (held used b) ≡ false
unfolding held
held_past used b h = rw (lt-ltb (length b) used h)

pub held_within : (used : ℕ) (b : List ℕ) → used ≤ length b → held used b ≡ entries (take used b)
unfolding held
held_within used b h = rw (le-ltb (length b) used h)
