-- A sweep in the making: the entries that stay stand in front, and the rest of the buffer is as before. Assumes nothing.
use mathlib.Core.Path.{◌≡◌, refl, sym, ap, ap₂, ◌∙◌, subst}
use mathlib.Core.Bool.{Bool, true, false, cond}
use mathlib.Core.List.{List, [], ◌∷◌, ◌++◌, append_assoc, append-nil}
use mathlib.Core.Option.{Option, none, some}
use Prim.Native.Nat.{ℕ, ◌+◌, ◌-◌, ◌<◌, ◌≤◌}
use native.Mathlib.Omega.{arith}
use borrow.Author.Tests.{ltb-false}
use lib.Dec.{ltb, T}
use lib.ListN.{length, get_or, take, drop, length-append, length-take, length-drop, take-append-drop}
use Rattle.std.proofs.lemmas.List.{take_rest}
use lib.Seq.{paste, take_at, drop_at, drop-drop, get_or-drop, take-add}
use Rattle.journal.specs.Entry.{Entry, body_length_of, head_bytes, entry_bytes, log_bytes}
use Rattle.journal.specs.Held.{first_size, first_entry, entries, held, is_some}
use Rattle.journal.specs.Retention.{is_kept, keep}
use Rattle.journal.specs.Compaction.{kept_bytes}
use Rattle.journal.proofs.Runs.{Head as Parts, whole, entries_head, entries_none, run_some}
use Rattle.journal.proofs.Heads.{has_body}
use Rattle.journal.proofs.EntryBytes.{first-bytes}
use Rattle.journal.specs.declared.format.Head.{Head}
use Rattle.journal.specs.Kind.{kind_number}
use Rattle.journal.specs.Head.{HeadsFirst}

-- used bytes that are a run are within the buffer
inside : (t : Bool) (o : Option (List Entry)) → is_some (cond t none o) ≡ true → t ≡ false
inside true o h = absurd (subst T (sym h) tt)
inside false o h = refl

pub record Held (used : ℕ) (b : List ℕ) (es : List Entry) : Type 0 where
  pub room : used ≤ length b
  pub is : entries (take used b) ≡ some es

pub held-parts : (used : ℕ) (b : List ℕ) (es : List Entry) → held used b ≡ some es → Held used b es
unfolding held
held-parts used b es h =
    let t = inside (ltb (length b) used) (entries (take used b)) (ap is_some h) in
    record { room = ltb-false _ _ t; is = rw t at h }

pub held_some : (used : ℕ) (b : List ℕ) → is_some (held used b) ≡ true → (es : List Entry) × (held used b ≡ some es)
held_some used b h = run_some (held used b) h

-- an entry that is_kept, and one that does not
module _ (day : ℕ) (e : Entry) (es : List Entry) where
  pub keep_old : is_kept day e ≡ false → keep day (e ∷ es) ≡ keep day es
  unfolding keep
  keep_old h = rw h

  pub keep-young : is_kept day e ≡ true → keep day (e ∷ es) ≡ e ∷ keep day es
  unfolding keep
  keep-young h = rw h

pub record Sweeping (day : ℕ) (b₀ : List ℕ) (at to : ℕ) (b : List ℕ) : Type 0 where
  pub small : (k : ℕ) → get_or b₀ k 0 < 256
  pub within : at ≤ length b₀
  pub behind : to ≤ at
  pub front : List ℕ
  pub rest : List Entry
  pub count : length front ≡ to
  pub is : b ≡ front ++ drop to b₀
  pub left : entries (drop at b₀) ≡ some rest
  pub all : front ++ log_bytes (keep day rest) ≡ kept_bytes day (entries b₀)

pub sweep_none : (day : ℕ) (b₀ : List ℕ) → ((k : ℕ) → get_or b₀ k 0 < 256) → is_some (entries b₀) ≡ true → Sweeping day b₀ 0 0 b₀
sweep_none day b₀ small h =
    let r = run_some (entries b₀) h in
    record {
      small = small;
      within = omega arith;
      behind = omega arith;
      front = [];
      rest = r.0;
      count = refl;
      is = refl;
      left = r.1;
      all = ap (kept_bytes day) (sym r.1);
    }

-- where no entry is first, no entry is left
none_left : (xs : List ℕ) (es : List Entry) → entries xs ≡ some es → first_size xs ≡ 0 → es ≡ []
none_left [] es h z = let n : some es ≡ some [] = sym h ∙ entries_none in cc
none_left (x ∷ xs) es h z = let p = (entries_head (x ∷ xs) es (omega arith) h).size in absurd (omega (arith, p, z))

-- the head of an entry says whether it stays
kept_any : (day : ℕ) (e : Entry) → is_kept day (record { kind = e.kind; day = e.day; body = [] }) ≡ is_kept day e
unfolding is_kept
kept_any day e = refl

pub kept_head : (day : ℕ) (xs : List ℕ) (head : Head) → HeadsFirst xs head → is_kept day (record { kind = kind_number head.kind; day = head.day; body = [] }) ≡ is_kept day (first_entry xs)
kept_head day xs head h = ap₂ (λ (k d : ℕ). is_kept day (record { kind = k; day = d; body = [] })) (sym h.kind) (sym h.day) ∙ kept_any day (first_entry xs)

-- what stands in its place already is as it would be copied
in_place : (b : List ℕ) (at n : ℕ) → b ≡ paste b at (drop at b) n
in_place b at n = sym (ap (λ (t : List ℕ). t ++ drop (at + n) b) (sym (take-add at n b)) ∙ take-append-drop (at + n) b)

module _ {day : ℕ} {b₀ : List ℕ} {at to : ℕ} {b : List ℕ} (s : Sweeping day b₀ at to b) where
  -- the buffer keeps its length, and from `to` on its bytes
  pub sweep_length : length b ≡ length b₀
  sweep_length =
      let d = length-drop to b₀ in
      ap length s.is ∙ length-append s.front (drop to b₀) ∙ omega (arith, s.count, s.behind, s.within, d)

  tail_same : (k : ℕ) → drop (to + k) b ≡ drop (to + k) b₀
  tail_same k =
      sym (drop-drop k to b)
      ∙ ap (drop k) (ap (drop to) s.is ∙ drop_at s.front (drop to b₀) to s.count)
      ∙ drop-drop k to b₀

  pub here_same : take (length b - at) (drop at b) ≡ drop at b₀
  here_same =
      let e : to + (at - to) ≡ at = omega (arith, s.behind) in
      take_rest b at ∙ rw e at (tail_same (at - to))

  pub sweep_done : first_size (take (length b - at) (drop at b)) ≡ 0 → (to ≡ length (kept_bytes day (entries b₀))) × (b ≡ kept_bytes day (entries b₀) ++ drop (length (kept_bytes day (entries b₀))) b₀)
  unfolding keep log_bytes
  sweep_done z =
      let r : s.rest ≡ [] = none_left (drop at b₀) s.rest s.left (ap first_size (sym here_same) ∙ z) in
      let f : s.front ≡ kept_bytes day (entries b₀) =
      sym (append-nil s.front) ∙ ap (λ (es : List Entry). s.front ++ log_bytes (keep day es)) (sym r) ∙ s.all in
      let c : to ≡ length (kept_bytes day (entries b₀)) = sym s.count ∙ ap length f in
      (c, s.is ∙ ap₂ (λ (x : List ℕ) (n : ℕ). x ++ drop n b₀) f c)

  module _ (head : Head) (h : HeadsFirst (take (length b - at) (drop at b)) head) (size : ℕ) (is : size ≡ head_bytes + body_length_of (kind_number head.kind)) where
    first : HeadsFirst (drop at b₀) head
    first = subst (λ (l : List ℕ). HeadsFirst l head) here_same h

    first_is : first_size (drop at b₀) ≡ size
    first_is = first.size ∙ sym is

    pub sweep_bound : (5 < size) × (at + size ≤ length b₀)
    sweep_bound =
        let l = length-drop at b₀ in
        (omega (arith, has_body head.kind, is), omega (arith, first.whole, first_is, l, s.within, is))

    parts : Parts (drop at b₀) s.rest
    parts = let l = length-drop at b₀ in entries_head (drop at b₀) s.rest (omega (arith, sweep_bound.0, sweep_bound.1, l)) s.left

    left_next : entries (drop (at + size) b₀) ≡ some parts.rest
    left_next = ap entries (sym (drop-drop size at b₀) ∙ ap (λ (n : ℕ). drop n (drop at b₀)) (sym first_is)) ∙ parts.left

    -- an entry that is too old is passed over
    pub sweep_drop : is_kept day (record { kind = kind_number head.kind; day = head.day; body = [] }) ≡ false → Sweeping day b₀ (at + size) to b
    sweep_drop k =
        let e : is_kept day (first_entry (drop at b₀)) ≡ false = sym (kept_head day _ head first) ∙ k in
        record {
          small = s.small;
          within = sweep_bound.1;
          behind = omega (arith, s.behind);
          front = s.front;
          rest = parts.rest;
          count = s.count;
          is = s.is;
          left = left_next;
          all = ap (λ (es : List Entry). s.front ++ log_bytes es) (sym (ap (keep day) parts.is ∙ keep_old day _ _ e)) ∙ s.all;
        }

    -- the bytes of the entry at `at`
    bytes_here : take size (drop at b) ≡ entry_bytes (first_entry (drop at b₀))
    bytes_here =
        let w = whole (drop at b₀) (omega (arith, first_is, sweep_bound.0)) in
        ap (take size) (sym (take_rest b at) ∙ here_same)
        ∙ ap (λ (n : ℕ). take n (drop at b₀)) (sym first_is ∙ w.size)
        ∙ sym (first-bytes (drop at b₀) (λ k l. rw (get_or-drop at b₀ k 0) (s.small (at + k))) (omega (arith, w.fits)))

    -- one that stays is moved down
    pub sweep_keep : is_kept day (record { kind = kind_number head.kind; day = head.day; body = [] }) ≡ true → (b₁ : List ℕ) → b₁ ≡ paste b to (drop at b) (at + size - at) → Sweeping day b₀ (at + size) (to + size) b₁
    unfolding log_bytes
    sweep_keep k b₁ eb =
        let k₀ : is_kept day (first_entry (drop at b₀)) ≡ true = sym (kept_head day _ head first) ∙ k in
        let e = first_entry (drop at b₀) in
        let d : at + size - at ≡ size = omega arith in
        let f : take to b ≡ s.front = ap (take to) s.is ∙ take_at s.front (drop to b₀) to s.count in
        let n : length (entry_bytes e) ≡ size =
        ap length (sym bytes_here) ∙ simp (length-take, length-drop) (omega (arith, sweep_bound.1, sweep_length)) in
        record {
          small = s.small;
          within = sweep_bound.1;
          behind = omega (arith, s.behind);
          front = s.front ++ entry_bytes e;
          rest = parts.rest;
          count = length-append s.front (entry_bytes e) ∙ ap₂ ◌+◌ s.count n;
          is = eb ∙ rw (d, f, bytes_here, tail_same size);
          left = left_next;
          all =
              append_assoc s.front (entry_bytes e) (log_bytes (keep day parts.rest))
              ∙ ap (λ (es : List Entry). s.front ++ log_bytes es) (sym (ap (keep day) parts.is ∙ keep-young day _ _ k₀))
              ∙ s.all;
        }

    -- one that stays and stands in its place is as if it were moved
    pub sweep_in_place : is_kept day (record { kind = kind_number head.kind; day = head.day; body = [] }) ≡ true → at ≤ to → Sweeping day b₀ (at + size) (to + size) b
    sweep_in_place k l =
        let e : at ≡ to = omega (arith, s.behind) in
        sweep_keep k b (in_place b to (at + size - at) ∙ ap (λ (n : ℕ). paste b to (drop n b) (at + size - at)) (sym e))
