-- A loop that copies: what it has copied, and, of bytes copied down, that what is still to be copied has not been overwritten. Assumes nothing.
use mathlib.Core.Path.{◌≡◌, refl, sym, ap, ap₂, ◌∙◌}
use mathlib.Core.List.{List, ◌++◌, append-nil}
use Prim.Native.Nat.{ℕ, ◌+◌, ◌-◌, ◌<◌, ◌≤◌}
use native.Mathlib.Numerals.{add-one}
use native.Mathlib.Omega.{arith}
use lib.ListN.{length, set, get_or, drop, length-set, drop_of_length-le}
use lib.Seq.{paste, paste-zero, paste-suc, drop-paste, get_or-drop, take-length}

-- i of n bytes of s stand in d from place `at` on
pub record Copying (d : List ℕ) (at : ℕ) (s : List ℕ) (n i : ℕ) (b : List ℕ) : Type 0 where
  pub within : i ≤ n
  pub room : at + n ≤ length d
  pub enough : n ≤ length s
  pub same : length b ≡ length d
  pub is : b ≡ paste d at s i

pub copy-none : (d : List ℕ) (at : ℕ) (s : List ℕ) (n : ℕ) → at + n ≤ length d → n ≤ length s → Copying d at s n 0 d
copy-none d at s n room enough =
    record { within = omega arith; room = room; enough = enough; same = refl; is = paste-zero d at s }

-- one more store
pub copy_more : {d : List ℕ} {at : ℕ} {s : List ℕ} {n i : ℕ} {b : List ℕ} {v : ℕ} → Copying d at s n i b → i < n → v ≡ get_or s i 0 → Copying d at s n (i + 1) (set b (at + i) v)
copy_more {d} {at} {s} {n} {i} {b} {v} h l e =
    record {
      within = omega arith;
      room = h.room;
      enough = h.enough;
      same = length-set b (at + i) v ∙ h.same;
      is = rw (h.is, e, add-one) (paste-suc d at s i 0 (omega (arith, h.room)) (omega (arith, h.enough)));
    }

pub copy_done : {d : List ℕ} {at : ℕ} {s : List ℕ} {n i : ℕ} {b : List ℕ} → Copying d at s n i b → n ≤ i → b ≡ paste d at s n
copy_done {d} {at} {s} {n} {i} h l = let e : i ≡ n = omega arith in h.is ∙ ap (paste d at s) e

-- where all of a place is copied to, it is what was copied
pub copy_all : {d s : List ℕ} {i : ℕ} {b : List ℕ} → Copying d 0 s (length s) i b → length d ≡ length s → length s ≤ i → b ≡ s
copy_all {d} {s} {i} {b} h e l =
    copy_done h l
    ∙ ap₂ (λ (x y : List ℕ). x ++ y) (take-length s) (drop_of_length-le d {i = 0 + length s} (omega (arith, e)))
    ∙ append-nil s

-- what is copied down has not been overwritten
pub copy_unread : {d : List ℕ} {to from n i : ℕ} {b : List ℕ} → Copying d to (drop from d) n i b → to ≤ from → get_or b (from + i) 0 ≡ get_or (drop from d) i 0
copy_unread {d} {to} {from} {n} {i} {b} h l =
    let e : to + i + (from - to) ≡ from + i = omega arith in
    let a : get_or b (to + i + (from - to)) 0 ≡ get_or d (to + i + (from - to)) 0 =
    sym (get_or-drop (to + i) b (from - to) 0)
    ∙ ap (λ (l : List ℕ). get_or l (from - to) 0) (ap (drop (to + i)) h.is ∙ drop-paste d to (drop from d) i (omega (arith, h.room)) (omega (arith, h.within, h.enough)))
    ∙ get_or-drop (to + i) d (from - to) 0 in
    rw e at a ∙ sym (get_or-drop from d i 0)
