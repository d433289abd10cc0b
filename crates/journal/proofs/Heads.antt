-- The head of a whole entry. Assumes nothing.
use mathlib.Core.Path.{◌≡◌, ap, ◌∙◌, sym}
use mathlib.Core.List.{List, [], ◌∷◌}
use Prim.Native.Nat.{ℕ, ◌+◌, ◌-◌, ◌<◌, ◌≤◌}
use native.Mathlib.Omega.{arith}
use borrow.Author.Tests.{ne_eqb}
use lib.Dec.{lit<, eqb}
use lib.ListN.{length, get_or, take, drop}
use Rattle.std.proofs.lemmas.List.{take_rest}
use Rattle.words.specs.Words.{uint32}
use Rattle.journal.specs.declared.kind.Kind.{Kind}
use Rattle.journal.specs.declared.kind.Kind.TheVariants.{ResultRecord, RefusalNumber, HeardByte}
use Rattle.journal.specs.declared.format.Head.{Head}
use Rattle.journal.specs.Entry.{body_length_of, head_bytes}
use Rattle.journal.specs.Held.{first_size, first_entry, entries, is_some}
use Rattle.journal.specs.Kind.{kind_number}
use Rattle.journal.specs.Head.{HeadsFirst}
use Rattle.journal.proofs.Runs.{size-whole, entries_none, run_on, run_ends}

-- each kind has a body
pub has_body : (kind : Kind) → 0 < body_length_of (kind_number kind)
unfolding body_length_of
has_body ResultRecord = lit< tt
has_body RefusalNumber = lit< tt
has_body HeardByte = lit< tt

-- a kind, a day and as many bytes as the kind asks for are a whole entry
pub heads_first : (xs : List ℕ) (kind : Kind) (day : ℕ) → get_or xs 0 0 ≡ kind_number kind
    → day ≡ uint32 (get_or xs 1 0) (get_or xs 2 0) (get_or xs 3 0) (get_or xs 4 0)
    → head_bytes + body_length_of (kind_number kind) ≤ length xs → HeadsFirst xs (record { kind = kind; day = day })
unfolding first_entry
heads_first xs kind day k d h =
    let e = ap body_length_of k in
    let s : first_size xs ≡ head_bytes + body_length_of (kind_number kind) =
    size-whole xs (λ z. omega (arith, has_body kind, e)) (omega arith) ∙ ap (λ (n : ℕ). head_bytes + n) e in
    record { kind = k; day = sym d; size = s; whole = omega arith }

-- whether bytes are a run goes on behind a first entry
pub run_behind : (xs : List ℕ) (head : Head) (size : ℕ) → HeadsFirst xs head → size ≡ head_bytes + body_length_of (kind_number head.kind)
    → is_some (entries (take (length xs - size) (drop size xs))) ≡ is_some (entries xs)
run_behind xs head size h e =
    ap (λ (l : List ℕ). is_some (entries l)) (take_rest xs size ∙ ap (λ (n : ℕ). drop n xs) (e ∙ sym h.size)) ∙ sym (run_on xs (omega (arith, h.size)))

-- where no entry is first, bytes are a run only if there are none
pub run_end : (xs : List ℕ) → first_size xs ≡ 0 → eqb (length xs) 0 ≡ is_some (entries xs)
run_end [] h = sym (ap is_some entries_none)
run_end (x ∷ xs) h = ne_eqb (length (x ∷ xs)) 0 (λ z. omega (arith, z)) ∙ sym (run_ends (x ∷ xs) (omega arith) h)
