-- The format both ways: entries that a log can hold are read as they were written, and entries that were read are such ones. Assumes nothing.
use mathlib.Core.Path.{◌≡◌, refl, sym, ap, ap₂, ◌∙◌, subst}
use mathlib.Core.List.{List, [], ◌∷◌, ◌++◌, append_assoc}
use mathlib.Core.Option.{some}
use Prim.Native.Nat.{ℕ, zero, suc, ◌<◌}
use native.Mathlib.Omega.{arith}
use borrow.Author.Tests.{le-ltb}
use lib.ListN.{length, get_or, take, drop, length-append, length-drop}
use lib.Seq.{length-take-le, drop_at, take-append_seam}
use Rattle.journal.specs.Entry.{Entry, body_length_of, head_bytes, entry_bytes, log_bytes}
use Rattle.journal.specs.Held.{first_size, first_entry, in_front, entries, held}
use Rattle.journal.proofs.Runs.{Whole, whole, entries_step, entries_head, entries_none}
use Rattle.journal.proofs.EntryBytes.{Sound, entry_length, size-written, entry_written}
use Rattle.journal.proofs.Sweeping.{held-parts}

unfoldable pub AllSound : List Entry → Type 0
AllSound [] = Unit {0}
AllSound (e ∷ es) = Sound e × AllSound es

pub sound_append : (es fs : List Entry) → AllSound es → AllSound fs → AllSound (es ++ fs)
unfolding AllSound
sound_append [] fs s t = t
sound_append (e ∷ es) fs s t = (s.0, sound_append es fs s.1 t)

pub written_append : (es fs : List Entry) → log_bytes (es ++ fs) ≡ log_bytes es ++ log_bytes fs
unfolding log_bytes
written_append [] fs = refl
written_append (e ∷ es) fs =
    ap (λ (l : List ℕ). entry_bytes e ++ l) (written_append es fs) ∙ sym (append_assoc (entry_bytes e) (log_bytes es) (log_bytes fs))

-- ---- reading what was written

in_front_lem : (s : ℕ) (e : Entry) (es : List Entry) → 0 < s → in_front s e (some es) ≡ some (e ∷ es)
in_front_lem zero e es h = absurd (omega arith)
in_front_lem (suc s) e es h = refl

entries_cons : (e : Entry) (ys : List ℕ) (es : List Entry) → Sound e → entries ys ≡ some es → entries (entry_bytes e ++ ys) ≡ some (e ∷ es)
entries_cons e ys es s h =
    let n = entry_length e in
    let a = length-append (entry_bytes e) ys in
    let d : drop (first_size (entry_bytes e ++ ys)) (entry_bytes e ++ ys) ≡ ys =
    drop_at (entry_bytes e) ys (first_size (entry_bytes e ++ ys)) (sym (size-written e s ys)) in
    entries_step (entry_bytes e ++ ys) (omega arith)
    ∙ ap₂ (in_front (first_size (entry_bytes e ++ ys))) (entry_written e s ys) (ap entries d ∙ h)
    ∙ in_front_lem (first_size (entry_bytes e ++ ys)) e es (omega (arith, size-written e s ys))

pub entries-written : (es : List Entry) → AllSound es → entries (log_bytes es) ≡ some es
unfolding log_bytes AllSound
entries-written [] s = entries_none
entries-written (e ∷ es) s = entries_cons e (log_bytes es) es s.0 (entries-written es s.1)

-- entries written in front of a buffer are held
pub held_front : (es : List Entry) (ys : List ℕ) → AllSound es → held (length (log_bytes es)) (log_bytes es ++ ys) ≡ some es
unfolding held
held_front es ys s =
    let a = length-append (log_bytes es) ys in
    rw (le-ltb (length (log_bytes es ++ ys)) (length (log_bytes es)) (omega arith), take-append_seam (log_bytes es) ys)
    (entries-written es s)

-- ---- what was read can be written, in as many bytes

pub first_exact : (xs : List ℕ) → Whole xs → length (first_entry xs).body ≡ body_length_of (get_or xs 0 0)
unfolding first_entry
first_exact xs w =
    length-take-le (body_length_of (get_or xs 0 0)) (drop head_bytes xs) (rw (length-drop head_bytes xs) (omega (arith, w.fits)))

first_sound : (xs : List ℕ) → Whole xs → Sound (first_entry xs)
unfolding first_entry
first_sound xs w = record { known = w.known; exact = first_exact xs w }

pub record Again (xs : List ℕ) (es : List Entry) : Type 0 where
  pub sound : AllSound es
  pub size : length (log_bytes es) ≡ length xs

pub read_again : (es : List Entry) (xs : List ℕ) → entries xs ≡ some es → Again xs es
unfolding log_bytes AllSound
read_again [] [] h = record { sound = tt; size = refl }
read_again [] (x ∷ xs) h =
    let p = entries_head (x ∷ xs) [] (omega arith) h in
    let q = p.is in
    let z : ◌≡◌ {A = ℕ} 0 1 = cc in
    absurd (omega arith)
read_again (e ∷ es) [] h =
    let q = sym entries_none ∙ h in
    let z : ◌≡◌ {A = ℕ} 0 1 = cc in
    absurd (omega arith)
read_again (e ∷ es) (x ∷ xs) h =
    let l : List ℕ = x ∷ xs in
    let p = entries_head l (e ∷ es) (omega arith) h in
    let q = p.is in
    let first : e ≡ first_entry l = cc in
    let rest : es ≡ p.rest = cc in
    let w = whole l p.size in
    let r = read_again es (drop (first_size l) l) (p.left ∙ ap some (sym rest)) in
    let b : length e.body ≡ body_length_of (get_or l 0 0) = ap (λ (f : Entry). length f.body) first ∙ first_exact l w in
    let n = entry_length e in
    let a = length-append (entry_bytes e) (log_bytes es) in
    let d = length-drop (first_size l) l in
    record {
      sound = (subst Sound (sym first) (first_sound l w), r.sound);
      size = omega (arith, w.size, w.fits, r.size);
    }

module _ (used : ℕ) (b : List ℕ) (es : List Entry) (h : held used b ≡ some es) where
  pub held_sound : AllSound es
  held_sound = (read_again es (take used b) (held-parts used b es h).is).sound

  pub held-used : length (log_bytes es) ≡ used
  held-used = let p = held-parts used b es h in (read_again es (take used b) p.is).size ∙ length-take-le used b p.room
