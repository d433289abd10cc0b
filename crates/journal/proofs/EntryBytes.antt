-- An entry and its bytes: writing what was read gives the bytes, and reading what was written the entry. Assumes nothing.
use mathlib.Core.Path.{◌≡◌, sym, ap, ap₂, ◌∙◌}
use mathlib.Core.List.{List, [], ◌∷◌, ◌++◌}
use Prim.Native.Nat.{ℕ, suc, ◌+◌, ◌<◌, ◌≤◌}
use native.Mathlib.Omega.{arith}
use lib.ListN.{length, get_or, take, length-append}
use lib.Seq.{take_at}
use Rattle.words.proofs.Words.{uint32_again, bytes_again}
use Rattle.journal.specs.Entry.{Entry, body_length_of, head_bytes, entry_bytes}
use Rattle.journal.specs.Held.{first_size, first_entry}
use Rattle.journal.proofs.Runs.{size-whole}

-- the bytes of a first entry are the bytes that it was read from
pub first-bytes : (xs : List ℕ) → ((k : ℕ) → k < 5 → get_or xs k 0 < 256) → 5 ≤ length xs → entry_bytes (first_entry xs) ≡ take (head_bytes + body_length_of (get_or xs 0 0)) xs
unfolding entry_bytes first_entry
first-bytes [] small h = absurd (omega arith)
first-bytes (a ∷ []) small h = absurd (omega arith)
first-bytes (a ∷ b ∷ []) small h = absurd (omega arith)
first-bytes (a ∷ b ∷ c ∷ []) small h = absurd (omega arith)
first-bytes (a ∷ b ∷ c ∷ d ∷ []) small h = absurd (omega arith)
first-bytes (a ∷ b ∷ c ∷ d ∷ e ∷ xs) small h =
    let five : 5 + body_length_of a ≡ suc (suc (suc (suc (suc (body_length_of a))))) = omega arith in
    ap (λ (l : List ℕ). a ∷ l ++ take (body_length_of a) xs)
    (bytes_again b c d e (small 1 (omega arith)) (small 2 (omega arith)) (small 3 (omega arith)) (small 4 (omega arith)))
    ∙ ap (λ (m : ℕ). take m (a ∷ b ∷ c ∷ d ∷ e ∷ xs)) (sym five)

-- the length of an entry's bytes
pub entry_length : (e : Entry) → length (entry_bytes e) ≡ head_bytes + length e.body
unfolding entry_bytes
entry_length e = omega arith

-- an entry of a known kind with a body of its length: what a log can hold
pub record Sound (e : Entry) : Type 0 where
  pub known : 0 < body_length_of e.kind
  pub exact : length e.body ≡ body_length_of e.kind

-- an entry that was written stands first, and is read as it was
module _ (e : Entry) (s : Sound e) (ys : List ℕ) where
  pub size-written : first_size (entry_bytes e ++ ys) ≡ length (entry_bytes e)
  unfolding entry_bytes
  size-written =
      let n : body_length_of e.kind ≡ 0 → ⊥ = λ z. omega (arith, s.known) in
      size-whole (entry_bytes e ++ ys) n (rw (length-append (entry_bytes e) ys) (omega (arith, s.exact))) ∙ omega (arith, s.exact)

  pub entry_written : first_entry (entry_bytes e ++ ys) ≡ e
  unfolding first_entry entry_bytes
  entry_written =
      ap₂ (λ (d : ℕ) (b : List ℕ). record { kind = e.kind; day = d; body = b }) (uint32_again e.day)
      (take_at e.body ys (body_length_of e.kind) s.exact)
