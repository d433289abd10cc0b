-- What stays on a day: exactly the entries that are not too old, in their order. Assumes nothing.
use mathlib.Core.Path.{◌≡◌, refl, sym, ap, ◌∙◌, subst}
use mathlib.Core.Bool.{Bool, true, false, cond}
use mathlib.Core.Logic.{⊎_elim}
use mathlib.Core.List.{List, [], ◌∷◌, ◌++◌}
use Prim.Native.Nat.{ℕ, ◌+◌, ◌<◌, ◌≤◌}
use native.Mathlib.Omega.{arith}
use borrow.Author.Tests.{lt-ltb, ltb-true}
use lib.Dec.{eqb}
use lib.ListN.{length, length-append}
use Rattle.lists.specs.Histories.{Place}
use Rattle.journal.specs.Entry.{Entry, entry_bytes, log_bytes}
use Rattle.journal.specs.Retention.{retention, is_kept, keep}
use Rattle.journal.proofs.Sweeping.{keep_old, keep-young}
use Rattle.journal_laws.specs.Swept.{FutureStays}
use Rattle.journal_laws.proofs.Places.{place-first, place_later, place_none, place-cases}
use Rattle.journal_laws.proofs.Format.{AllSound}

pub kept-before : (day : ℕ) (e : Entry) → day < e.day + retention e.kind → is_kept day e ≡ true
unfolding is_kept
kept-before day e h = lt-ltb day (e.day + retention e.kind) h

pub before-kept : (day : ℕ) (e : Entry) → is_kept day e ≡ true → day < e.day + retention e.kind
unfolding is_kept
before-kept day e h = ltb-true day (e.day + retention e.kind) h

-- a property of what is kept of an entry and others, by whether it stays
module _ (day : ℕ) (e : Entry) (es : List Entry) (P : List Entry → Type 0) where
  by_age : (is_kept day e ≡ true → P (e ∷ keep day es)) → (is_kept day e ≡ false → P (keep day es)) → P (keep day (e ∷ es))
  by_age y o = go (is_kept day e) refl
    where
      go : (t : Bool) → is_kept day e ≡ t → P (keep day (e ∷ es))
      go true h = subst P (sym (keep-young day e es h)) (y h)
      go false h = subst P (sym (keep_old day e es h)) (o h)

pub keep_append : (day : ℕ) (es fs : List Entry) → keep day (es ++ fs) ≡ keep day es ++ keep day fs
unfolding keep
keep_append day [] fs = refl
keep_append day (e ∷ es) fs = go (is_kept day e) (keep_append day es fs)
  where
    go : (t : Bool) → keep day (es ++ fs) ≡ keep day es ++ keep day fs
        → cond t (e ∷ keep day (es ++ fs)) (keep day (es ++ fs)) ≡ cond t (e ∷ keep day es) (keep day es) ++ keep day fs
    go true h = ap (λ (l : List Entry). e ∷ l) h
    go false h = h

pub kept_was : (day : ℕ) (es : List Entry) (f : Entry) → Place f (keep day es) → Place f es × (is_kept day f ≡ true)
unfolding keep
kept_was day [] f m = absurd (place_none m)
kept_was day (e ∷ es) f m =
    let h : Place f (keep day es) → Place f es × (is_kept day f ≡ true) = kept_was day es f in
    by_age day e es (λ l. Place f l → Place f (e ∷ es) × (is_kept day f ≡ true))
    (λ y n. ⊎_elim (λ q. (subst (λ (d : Entry). Place f (d ∷ es)) q (place-first f es), ap (is_kept day) q ∙ y)) (λ t. (place_later e (h t).0, (h t).1)) (place-cases n))
    (λ o n. (place_later e (h n).0, (h n).1)) m

pub was_kept : (day : ℕ) (es : List Entry) (f : Entry) → Place f es → is_kept day f ≡ true → Place f (keep day es)
was_kept day [] f m h = absurd (place_none m)
was_kept day (e ∷ es) f m h =
    let k : Place f es → Place f (keep day es) = λ t. was_kept day es f t h in
    ⊎_elim
    (λ q. subst (λ (l : List Entry). Place f l) (sym (keep-young day e es (ap (is_kept day) (sym q) ∙ h))) (subst (λ (d : Entry). Place f (d ∷ keep day es)) q (place-first f (keep day es))))
    (λ t. by_age day e es (λ l. Place f l) (λ y. place_later e (k t)) (λ o. k t)) (place-cases m)

-- a second sweep on the same day finds nothing
pub keep_twice : (day : ℕ) (es : List Entry) → keep day (keep day es) ≡ keep day es
unfolding keep
keep_twice day [] = refl
keep_twice day (e ∷ es) =
    let h = keep_twice day es in
    by_age day e es (λ l. keep day l ≡ l) (λ y. keep-young day e (keep day es) y ∙ ap (λ (l : List Entry). e ∷ l) h) (λ o. h)

pub keep_sound : (day : ℕ) (es : List Entry) → AllSound es → AllSound (keep day es)
unfolding keep AllSound
keep_sound day [] s = tt
keep_sound day (e ∷ es) s = let h = keep_sound day es s.1 in by_age day e es AllSound (λ y. (s.0, h)) (λ o. h)

-- what is kept is no longer than what was there
pub kept_shorter : (day : ℕ) (es : List Entry) → length (log_bytes (keep day es)) ≤ length (log_bytes es)
unfolding keep log_bytes
kept_shorter day [] = omega arith
kept_shorter day (e ∷ es) =
    let h = kept_shorter day es in
    let a = length-append (entry_bytes e) (log_bytes es) in
    let b = length-append (entry_bytes e) (log_bytes (keep day es)) in
    by_age day e es (λ l. length (log_bytes l) ≤ length (entry_bytes e ++ log_bytes es)) (λ y. omega arith) (λ o. omega arith)

-- each kind stays some days
some_days : (p q : Bool) → 0 < cond p 7 (cond q 30 90)
some_days true q = omega arith
some_days false true = omega arith
some_days false false = omega arith

pub future_stays : FutureStays
unfolding retention
future_stays day e es p h =
    let d : 0 < retention e.kind = some_days (eqb e.kind 5) (eqb e.kind 6) in was_kept day es e p (kept-before day e (omega arith))
