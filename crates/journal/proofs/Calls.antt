-- The calls by their tests: what each way of them answers and leaves. Assumes nothing.
use mathlib.Core.Path.{◌≡◌, refl, sym, ap, ap₂, ◌∙◌, subst}
use mathlib.Core.Bool.{Bool, true, false, cond}
use mathlib.Core.Logic.{◌⊎◌, inl, inr}
use mathlib.Core.List.{List, ◌∷◌, ◌++◌, append_assoc}
use mathlib.Core.Option.{Option, none, some}
use Prim.Native.Nat.{ℕ, zero, suc, ◌+◌, ◌-◌, ◌<◌, ◌≤◌}
use native.Mathlib.Omega.{arith}
use borrow.Author.Tests.{lt-ltb, le-ltb, ltb-false, eq-eqb, ne_eqb, eqb-true, eqb-false}
use lib.Dec.{eqb, ltb, T}
use lib.ListN.{length, take, drop, length-append, length-drop}
use Rattle.std.proofs.lemmas.List.{drop-append-le, take-append-drop, length-take-le}
use lib.Seq.{drop-drop}
use borrow.Rule.Slice.PartMut.{put_mid}
use Rattle.std.proofs.lemmas.Slice.{take-put_mid, drop-put_mid, between_is}
use Rattle.words.specs.Words.{uint32_bytes_of}
use Rattle.refusals.specs.declared.Refusal.{Refusal}
use Rattle.refusals.specs.Refusals.{fails_if, fails_unless}
use Rattle.refusals.specs.Outcomes.{number_of}
use Rattle.refusals.proofs.Refusals.{first-none, if_passed, unless_passed}
use Rattle.refusals.proofs.Outcomes.{numbers_nonzero}
use Rattle.journal.specs.Entry.{Entry, body_length_of, head_bytes, entry_bytes}
use Rattle.journal.specs.Held.{first_size, first_entry, entries, held, is_some}
use Rattle.journal.specs.Add.{entry_test, log_add_refusal, log_add_by, log_add_of}
use Rattle.journal.specs.Sweep.{log_sweep_by, log_sweep_of}
use Rattle.journal.specs.Compaction.{kept_bytes}
use Rattle.journal.specs.declared.format.Head.{Head}
use Rattle.journal.specs.Kind.{kind_number}
use Rattle.journal.specs.Head.{HeadsFirst}
use Rattle.journal.specs.Next.{refused_entry, no_entry, log_next_by, log_next_of}
use Rattle.journal.proofs.Views.{view, view-length}
use Rattle.journal.proofs.Runs.{held_within}
use Rattle.journal.proofs.EntryBytes.{entry_length}
use Rattle.journal.proofs.Sweeping.{held_some, held-parts}

-- used bytes that are a run are within the buffer
pub run_room : (used : ℕ) (b : List ℕ) → is_some (held used b) ≡ true → used ≤ length b
run_room used b h = let r = held_some used b h in (held-parts used b r.0 r.1).room

-- ---- Add: refused and accepted
-- what number 0 says
pub record Accepted (kind : ℕ) (body : List ℕ) (used : ℕ) (b : List ℕ) : Type 0 where
  pub run : is_some (held used b) ≡ true
  pub known : 0 < body_length_of kind
  pub exact : length body ≡ body_length_of kind
  pub room : used + 5 + length body ≤ length b

pub add-accepted : (kind : ℕ) (body : List ℕ) (used : ℕ) (b : List ℕ) → log_add_refusal kind body used b ≡ 0 → Accepted kind body used b
unfolding log_add_refusal entry_test
add-accepted kind body used b h =
    let p = first-none (fails_unless (is_some (held used b)) 16) _ h in
    let q = first-none (entry_test kind body) _ p.1 in
    let s = first-none (fails_if (eqb (body_length_of kind) 0) 1) (fails_unless (eqb (length body) (body_length_of kind)) 2) q.0 in
    let k : body_length_of kind ≡ 0 → ⊥ = eqb-false _ _ (if_passed (eqb (body_length_of kind) 0) 0 s.0) in
    let f : used + (head_bytes + length body) ≤ length b = ltb-false _ _ (if_passed (ltb (length b) (used + (head_bytes + length body))) 16 q.1) in
    record {
      run = unless_passed (is_some (held used b)) 15 p.0;
      known = omega (arith, k);
      exact = eqb-true _ _ (unless_passed (eqb (length body) (body_length_of kind)) 1 s.1);
      room = omega arith;
    }

-- a refusal changes nothing
refused_by : (n : ℕ) (e : Entry) (used : ℕ) (b : List ℕ) → (n ≡ 0 → ⊥) → record { reply = record { number = n; used = 0 }; buffer = b } ≡ log_add_by n e used b
unfolding log_add_by
refused_by zero e used b f = absurd (f refl)
refused_by (suc n) e used b f = refl

pub add_refused : (refusal : Refusal) (kind day : ℕ) (body : List ℕ) (used : ℕ) (b : List ℕ) → number_of refusal ≡ log_add_refusal kind body used b
    → record { reply = record { number = number_of refusal; used = 0 }; buffer = b } ≡ log_add_of kind day body used b
unfolding log_add_of
add_refused refusal kind day body used b h = rw (← h) (refused_by (number_of refusal) _ used b (numbers_nonzero refusal))

-- the head and the body written one behind the other are the entry's bytes
pub add_written : (kind day : ℕ) (body : List ℕ) (used : ℕ) (b h x : List ℕ) → 0 ≡ log_add_refusal kind body used b → used + 5 + length body ≤ length b
    → h ≡ kind ∷ uint32_bytes_of day → x ≡ body
    → record { reply = record { number = 0; used = used + 5 + length body }; buffer = put_mid (used + 5) (used + 5 + length body - (used + 5)) (put_mid used (used + 5 - used) b h) x } ≡ log_add_of kind day body used b
unfolding log_add_of log_add_by entry_bytes
add_written kind day body used b h x z room eh ex =
    let e : Entry = record { kind = kind; day = day; body = body } in
    let n : length h ≡ 5 = ap length eh in
    let front : take (used + 5) (put_mid used (used + 5 - used) b h) ≡ take used b ++ (kind ∷ uint32_bytes_of day) =
    take-put_mid used (used + 5 - used) b h (used + 5) (omega arith) (omega arith) ∙ ap (λ (l : List ℕ). take used b ++ l) eh in
    let end : used + 5 + (used + 5 + length body - (used + 5)) ≡ used + 5 + length body = omega arith in
    let back : drop (used + 5 + length body - (used + 5)) (drop (used + 5) (put_mid used (used + 5 - used) b h)) ≡ drop (used + 5 + length body) b =
    drop-drop (used + 5 + length body - (used + 5)) (used + 5) _
    ∙ drop-put_mid used (used + 5 - used) b h (used + 5 + (used + 5 + length body - (used + 5))) (omega arith) (omega arith) (omega arith)
    ∙ ap (λ (m : ℕ). drop m b) end in
    let total : used + 5 + length body ≡ used + length (entry_bytes e) = omega (arith, entry_length e) in
    rw (← z)
    (ap₂ (λ (m : ℕ) (l : List ℕ). record { reply = record { number = 0; used = m }; buffer = l }) total
    (ap₂ (λ (l m : List ℕ). l ++ (m ++ drop (used + 5 + length body - (used + 5)) (drop (used + 5) (put_mid used (used + 5 - used) b h)))) front ex
    ∙ ap (λ (l : List ℕ). (take used b ++ (kind ∷ uint32_bytes_of day)) ++ (body ++ l)) back
    ∙ append_assoc (take used b) (kind ∷ uint32_bytes_of day) (body ++ drop (used + 5 + length body) b)
    ∙ sym (append_assoc (take used b) ((kind ∷ uint32_bytes_of day) ++ body) (drop (used + 5 + length body) b))
    ∙ ap (λ (m : ℕ). take used b ++ ((kind ∷ uint32_bytes_of day) ++ body) ++ drop m b) total))

-- ---- Sweep: refused and accepted
refused_sweep : (refusal : Refusal) (day : ℕ) (o : Option (List Entry)) (b : List ℕ) → number_of refusal ≡ fails_unless (is_some o) 16
    → record { reply = record { number = number_of refusal; used = 0 }; buffer = b } ≡ log_sweep_by day o b
unfolding log_sweep_by
refused_sweep refusal day none b h = ap (λ (n : ℕ). record { reply = record { number = n; used = 0 }; buffer = b }) h
refused_sweep refusal day (some es) b h = absurd (numbers_nonzero refusal h)

pub sweep_refused : (refusal : Refusal) (day used : ℕ) (b : List ℕ) → number_of refusal ≡ fails_unless (is_some (held used b)) 16
    → record { reply = record { number = number_of refusal; used = 0 }; buffer = b } ≡ log_sweep_of day used b
unfolding log_sweep_of
sweep_refused refusal day used b h = refused_sweep refusal day (held used b) b h

pub sweep-accepted : (day : ℕ) (o : Option (List Entry)) (b b₁ : List ℕ) (n : ℕ) → is_some o ≡ true → n ≡ length (kept_bytes day o)
    → b₁ ≡ kept_bytes day o ++ drop (length (kept_bytes day o)) b → record { reply = record { number = 0; used = n }; buffer = b₁ } ≡ log_sweep_by day o b
unfolding log_sweep_by
sweep-accepted day none b b₁ n h e f = absurd (subst T (sym h) tt)
sweep-accepted day (some es) b b₁ n h e f = ap₂ (λ (m : ℕ) (x : List ℕ). record { reply = record { number = 0; used = m }; buffer = x }) e f

-- what is in front of the used bytes and the others, behind what was written there
rejoin : (used : ℕ) (b x k : List ℕ) → used ≤ length b → length x ≡ length (take used b) → x ≡ k ++ drop (length k) (take used b) → x ++ drop used b ≡ k ++ drop (length k) b
rejoin used b x k room same e =
    let l = length-take-le used b room in
    let d = length-drop (length k) (take used b) in
    let n : length x ≡ length k + length (drop (length k) (take used b)) = ap length e ∙ length-append k (drop (length k) (take used b)) in
    let h : length k ≤ length (take used b) = omega arith in
    ap (λ (y : List ℕ). y ++ drop used b) e
    ∙ append_assoc k (drop (length k) (take used b)) (drop used b)
    ∙ ap (λ (y : List ℕ). k ++ y) (sym (drop-append-le (length k) (take used b) (drop used b) h) ∙ ap (drop (length k)) (take-append-drop used b))

-- the used bytes compacted, and the others as before
pub sweep_compacted : (day used : ℕ) (b x : List ℕ) (n : ℕ) → used ≤ length b → is_some (entries (take used b)) ≡ true → length x ≡ length (take used b)
    → n ≡ length (kept_bytes day (entries (take used b))) → x ≡ kept_bytes day (entries (take used b)) ++ drop (length (kept_bytes day (entries (take used b)))) (take used b)
    → record { reply = record { number = 0; used = n }; buffer = x ++ drop used b } ≡ log_sweep_of day used b
unfolding log_sweep_of
sweep_compacted day used b x n room run same e f =
    rw (held_within used b room) (sweep-accepted day (entries (take used b)) b _ n run e (rejoin used b x _ room same f))

-- ---- Next: the ways of its tests
module _ (at used : ℕ) (b : List ℕ) where
  pub next_over : length b < used → refused_entry ≡ log_next_of at used b
  unfolding log_next_of
  next_over h = rw (lt-ltb (length b) used h)

  pub next_past : used < at → refused_entry ≡ log_next_of at used b
  unfolding log_next_of
  next_past h = rw (lt-ltb used at h) (same (ltb (length b) used))
    where
      same : (p : Bool) → refused_entry ≡ cond p refused_entry refused_entry
      same true = refl
      same false = refl

  pub next_outside : (used < at) ⊎ (length b < used) → refused_entry ≡ log_next_of at used b
  next_outside (inl h) = next_past h
  next_outside (inr h) = next_over h

  module _ (room : used ≤ length b) where
    pub next_end : at ≤ used → at ≡ used → no_entry used ≡ log_next_of at used b
    unfolding log_next_of
    next_end w e = rw (le-ltb (length b) used room, le-ltb used at w, eq-eqb at used e)

    module _ (w : at ≤ used) (l : at ≡ used → ⊥) where
      pub next_inner : log_next_of at used b ≡ log_next_by (first_size (view at used b)) at (first_entry (view at used b))
      unfolding log_next_of
      next_inner = rw (le-ltb (length b) used room, le-ltb used at w, ne_eqb at used l)

-- an entry of some size
entry_by : (at n : ℕ) (e : Entry) (kind day : ℕ) → 0 < n → kind ≡ e.kind → day ≡ e.day → n ≡ head_bytes + body_length_of kind
    → record { number = 0; kind = kind; day = day; body = at + head_bytes; body_len = at + n - (at + head_bytes); next = at + n } ≡ log_next_by n at e
entry_by at zero e kind day h k d s = absurd (omega arith)
entry_by at (suc n) e kind day h k d s =
    let m : at + suc n - (at + head_bytes) ≡ body_length_of e.kind = omega (arith, ap body_length_of k) in
    ap₂ (λ (x y : ℕ). record { number = 0; kind = x; day = y; body = at + head_bytes; body_len = at + suc n - (at + head_bytes); next = at + suc n }) k d
    ∙ ap (λ (x : ℕ). record { number = 0; kind = e.kind; day = e.day; body = at + head_bytes; body_len = x; next = at + suc n }) m

-- the used bytes from a place on
module _ (at used : ℕ) (b xs : List ℕ) (w : at ≤ used) (room : used ≤ length b) (is : xs ≡ take (used - at) (drop at b)) where
  here : xs ≡ view at used b
  here = is ∙ between_is b at used

  long : length xs ≡ used - at
  long = ap length here ∙ view-length at used b w room

  pub next_none : eqb (length xs) 0 ≡ true → no_entry at ≡ log_next_of at used b
  next_none h =
      let z : length xs ≡ 0 = eqb-true _ _ h in
      let e : at ≡ used = omega (arith, long) in
      ap no_entry e ∙ next_end at used b room w e

  module _ (h : eqb (length xs) 0 ≡ false) where
    found : log_next_of at used b ≡ log_next_by (first_size xs) at (first_entry xs)
    found =
        let z : length xs ≡ 0 → ⊥ = eqb-false _ _ h in
        next_inner at used b room w (λ e. z (omega (arith, long))) ∙ ap (λ (l : List ℕ). log_next_by (first_size l) at (first_entry l)) (sym here)

    pub next_cut : first_size xs ≡ 0 → refused_entry ≡ log_next_of at used b
    next_cut z = sym (found ∙ ap (λ (n : ℕ). log_next_by n at (first_entry xs)) z)

    pub next_found : (head : Head) (size : ℕ) → HeadsFirst xs head → size ≡ head_bytes + body_length_of (kind_number head.kind)
        → record { number = 0; kind = kind_number head.kind; day = head.day; body = at + head_bytes; body_len = at + size - (at + head_bytes); next = at + size } ≡ log_next_of at used b
    next_found head size f e =
        entry_by at size (first_entry xs) (kind_number head.kind) head.day (omega (arith, e)) (sym f.kind) (sym f.day) e
        ∙ ap (λ (n : ℕ). log_next_by n at (first_entry xs)) (e ∙ sym f.size)
        ∙ sym found
