-- The hub that heard nothing: the tests of Load and Whole, and what they say of the bytes. Assumes nothing.
use mathlib.Core.Path.{◌≡◌, refl, sym, ◌∙◌, subst}
use mathlib.Core.Logic.{◌↔◌, ◌⊎◌, inl, inr, ⊎_elim}
use mathlib.Core.Bool.{Bool, true, false, cond}
use mathlib.Core.List.{List, ◌∷◌}
use Prim.Native.Nat.{ℕ, zero, suc, ◌+◌, ◌-◌, ◌*◌, ◌/◌, ◌%◌, ◌^◌, ◌≤◌, ◌<◌}
use native.Mathlib.Omega.{arith}
use borrow.Author.Tests.{le-ltb, eq-eqb, eqb-true, ltb-true, ltb-false}
use lib.Dec.{T, ltb, eqb}
use lib.IntN.{ℤ, pos, negsuc}
use lib.ListN.{length, replicate}
use lib.Signed.{lt_z}
use mir.Syntax.{w16}
use mir.Val.{sel, to_z}
use Rattle.matrix_record.specs.MatrixRecord.{part_of, antenna_heard_of, heard_below, heard_byte_of}
use Rattle.matrix_record.proofs.Heard.{heard_bit, unheard, none_heard_lem}
use Rattle.refusals.specs.Refusals.{fails_if, header_test, buffer_test}
use Rattle.refusals.proofs.Refusals.{first_past, if_other, header_number, header_passed, header_passes, buffer_passed, buffer-passes}
use Rattle.workspace.specs.Workspace.{workspace_test}
use Rattle.engine.specs.Load.{load_refusal_of, load_by, load_of}
use Rattle.engine.specs.Whole.{whole_refusal_of, whole_done, whole_by, whole_of}
use Rattle.engine.proofs.Accepted.{room_passed, room-passes, LoadAccepted, load-accepted, whole-accepted}
use Rattle.engine_laws.specs.Silence.{SizedMatrix, diagonal_bits, Unheard, NoneHeard, Silence}

-- ---- an antenna and its two bytes

-- 16 bits stand for a number that is not above 16
bits_iff : (n : ℕ) → (lt_z (pos 16) (to_z w16 n) ≡ false) ↔ ((n ≤ 16) ⊎ (32768 ≤ n))
bits_iff n = by_sign (ltb n 32768) refl
  where
    by_sign : (b : Bool) → ltb n 32768 ≡ b → (lt_z (pos 16) (sel b (pos n) (negsuc (65536 - suc n))) ≡ false) ↔ ((n ≤ 16) ⊎ (32768 ≤ n))
    by_sign true e = (λ h. inl (ltb-false 16 n h), ⊎_elim (λ h. le-ltb 16 n h) (λ h. absurd (omega (arith, ltb-true n 32768 e))))
    by_sign false e = (λ h. inr (ltb-false n 32768 e), λ h. refl)

module _ (rec : List ℕ) where
  antenna_iff : (k : ℕ) → (antenna_heard_of rec k ≡ false) ↔ Unheard rec k
  unfolding antenna_heard_of part_of
  antenna_iff k =
      let high : 1 + 4 * (8 * k + k) + 2 * 0 ≡ 1 + 36 * k = omega arith in
      let low : 1 + 4 * (8 * k + k) + 2 * 0 + 1 ≡ 2 + 36 * k = omega arith in
      rw (low, high) (bits_iff (diagonal_bits rec k))

  byte_iff : (heard_byte_of rec ≡ 0) ↔ NoneHeard rec
  byte_iff = (λ h k l. (antenna_iff k).0 (unheard rec 8 h k l), λ h. none_heard_lem rec 8 (λ k l. (antenna_iff k).1 (h k l)))

  bit_iff : (k : ℕ) → k < 8 → (heard_byte_of rec / 2 ^ k % 2 ≡ 0) ↔ Unheard rec k
  bit_iff k l = rw (heard_bit rec 8 k l) (clear (antenna_heard_of rec k) (antenna_iff k))
    where
      clear : {P : Type 0} (b : Bool) → (b ≡ false) ↔ P → (◌≡◌ {A = ℕ} (cond b 1 0) 0) ↔ P
      clear true i = (λ h. absurd (omega (arith, h)), λ p. absurd (subst T (i.1 p) tt))
      clear false i = (λ h. i.0 refl, λ p. refl)

-- ---- the numbers and heard bytes that are answered

load-answers : (n : ℕ) (rec : List ℕ) (l : List ℤ) → (load_by n rec l).reply.number ≡ n
unfolding load_by
load-answers zero rec l = refl
load-answers (suc n) rec l = refl

whole-answers : (n : ℕ) (rec : List ℕ) (l : List ℤ) (buffer : List ℕ) → (whole_by n rec l buffer).reply.number ≡ n
unfolding whole_by whole_done
whole-answers zero rec l buffer = refl
whole-answers (suc n) rec l buffer = refl

load-refused : (rec : List ℕ) (l : List ℤ) → (load_of rec l).reply.number ≡ load_refusal_of rec l
unfolding load_of
load-refused rec l = load-answers (load_refusal_of rec l) rec l

whole-refused : (rec : List ℕ) (l : List ℤ) (buffer : List ℕ) → (whole_of rec l buffer).reply.number ≡ whole_refusal_of rec l buffer
unfolding whole_of
whole-refused rec l buffer = whole-answers (whole_refusal_of rec l buffer) rec l buffer

load-answers_heard : (rec : List ℕ) (l : List ℤ) → load_refusal_of rec l ≡ 0 → (load_of rec l).reply.heard ≡ heard_byte_of rec
unfolding load_of load_by
load-answers_heard rec l h = rw h

whole-answers_heard : (rec : List ℕ) (l : List ℤ) (buffer : List ℕ) → whole_refusal_of rec l buffer ≡ 0 → (whole_of rec l buffer).reply.heard ≡ heard_byte_of rec
unfolding whole_of whole_by whole_done
whole-answers_heard rec l buffer h = rw h

-- ---- an accepted call

heard_not_0 : (rec : List ℕ) (l : List ℤ) → LoadAccepted rec l → heard_byte_of rec ≡ 0 → ⊥
heard_not_0 rec l a z = subst T (sym (eq-eqb (heard_byte_of rec) 0 z) ∙ a.heard) tt

load_taken : (rec : List ℕ) (l : List ℤ) → (load_of rec l).reply.number ≡ 0 → load_refusal_of rec l ≡ 0
load_taken rec l h = sym (load-refused rec l) ∙ h

whole_taken : (rec : List ℕ) (l : List ℤ) (buffer : List ℕ) → (whole_of rec l buffer).reply.number ≡ 0 → whole_refusal_of rec l buffer ≡ 0
whole_taken rec l buffer h = sym (whole-refused rec l buffer) ∙ h

-- ---- number 4

-- the last test of all
silent_iff : (rec : List ℕ) → (fails_if (eqb (heard_byte_of rec) 0) 4 ≡ 4) ↔ (heard_byte_of rec ≡ 0)
silent_iff rec = by_test (eqb (heard_byte_of rec) 0) refl
  where
    by_test : (b : Bool) → eqb (heard_byte_of rec) 0 ≡ b → (fails_if b 4 ≡ 4) ↔ (heard_byte_of rec ≡ 0)
    by_test true e = (λ h. eqb-true (heard_byte_of rec) 0 e, λ h. refl)
    by_test false e = (λ h. absurd (omega (arith, h)), λ h. absurd (subst T (sym (eq-eqb (heard_byte_of rec) 0 h) ∙ e) tt))

abbrev LoadSilent : List ℕ → List ℤ → Type 0
LoadSilent rec l = SizedMatrix rec × ((512 ≤ length l) × (heard_byte_of rec ≡ 0))

load_silent : (rec : List ℕ) (l : List ℤ) → load_refusal_of rec l ≡ 4 → LoadSilent rec l
unfolding load_refusal_of
load_silent rec l h =
    let a = first_past (header_test 1 257 rec) _ 3 (λ e. omega (arith, header_number 1 257 rec)) h in
    let b = first_past (workspace_test l) _ 3 (if_other (ltb (length l) 512) 3 3 (λ e. omega (arith, e))) a.1 in
    let s = header_passed 1 257 rec a.0 in
    ((s.tagged, s.sized), (room_passed l b.0, (silent_iff rec).0 b.1))

silent_loaded : (rec : List ℕ) (l : List ℤ) → LoadSilent rec l → load_refusal_of rec l ≡ 4
unfolding load_refusal_of
silent_loaded rec l s = rw (header_passes 1 256 rec (record { tagged = s.0.0; sized = s.0.1 }), room-passes l s.1.0) ((silent_iff rec).1 s.1.1)

abbrev WholeSilent : List ℕ → List ℤ → List ℕ → Type 0
WholeSilent rec l buffer = SizedMatrix rec × ((512 ≤ length l) × ((2049 ≤ length buffer) × (heard_byte_of rec ≡ 0)))

whole_silent : (rec : List ℕ) (l : List ℤ) (buffer : List ℕ) → whole_refusal_of rec l buffer ≡ 4 → WholeSilent rec l buffer
unfolding whole_refusal_of
whole_silent rec l buffer h =
    let a = first_past (header_test 1 257 rec) _ 3 (λ e. omega (arith, header_number 1 257 rec)) h in
    let b = first_past (workspace_test l) _ 3 (if_other (ltb (length l) 512) 3 3 (λ e. omega (arith, e))) a.1 in
    let c = first_past (buffer_test 2049 buffer) _ 3 (if_other (ltb (length buffer) 2049) 7 3 (λ e. omega (arith, e))) b.1 in
    let s = header_passed 1 257 rec a.0 in
    ((s.tagged, s.sized), (room_passed l b.0, (buffer_passed 2049 buffer c.0, (silent_iff rec).0 c.1)))

silent_whole : (rec : List ℕ) (l : List ℤ) (buffer : List ℕ) → WholeSilent rec l buffer → whole_refusal_of rec l buffer ≡ 4
unfolding whole_refusal_of
silent_whole rec l buffer s =
    rw (header_passes 1 256 rec (record { tagged = s.0.0; sized = s.0.1 }), room-passes l s.1.0, buffer-passes 2049 buffer s.1.1.0) ((silent_iff rec).1 s.1.1.1)

load-number : (rec : List ℕ) (l : List ℤ) → ((load_of rec l).reply.number ≡ 4) ↔ LoadSilent rec l
load-number rec l = rw (load-refused rec l) (load_silent rec l, silent_loaded rec l)

whole-number : (rec : List ℕ) (l : List ℤ) (buffer : List ℕ) → ((whole_of rec l buffer).reply.number ≡ 4) ↔ WholeSilent rec l buffer
whole-number rec l buffer = rw (whole-refused rec l buffer) (whole_silent rec l buffer, silent_whole rec l buffer)

-- ---- nothing but zeros

zero-record : heard_byte_of (1 ∷ replicate 256 0) ≡ 0
unfolding heard_below antenna_heard_of part_of
zero-record = refl

pub silence : Silence
silence = record {
  load_heard = λ rec l h z. heard_not_0 rec l (load-accepted rec l (load_taken rec l h)) (sym (load-answers_heard rec l (load_taken rec l h)) ∙ z);
  whole_heard = λ rec l buffer h z. heard_not_0 rec l (whole-accepted rec l buffer (whole_taken rec l buffer h)).load (sym (whole-answers_heard rec l buffer (whole_taken rec l buffer h)) ∙ z);
  load_bit = λ rec l h k b. rw (load-answers_heard rec l (load_taken rec l h)) (bit_iff rec k b);
  whole_bit = λ rec l buffer h k b. rw (whole-answers_heard rec l buffer (whole_taken rec l buffer h)) (bit_iff rec k b);
  load-number = load-number;
  whole-number = whole-number;
  load_iff = λ rec l s room. (λ h. (byte_iff rec).0 ((load-number rec l).0 h).1.1, λ h. (load-number rec l).1 (s, (room, (byte_iff rec).1 h)));
  whole_iff = λ rec l buffer s room space. (λ h. (byte_iff rec).0 ((whole-number rec l buffer).0 h).1.1.1, λ h. (whole-number rec l buffer).1 (s, (room, (space, (byte_iff rec).1 h))));
  not_loaded = λ rec l n h. heard_not_0 rec l (load-accepted rec l (load_taken rec l h)) ((byte_iff rec).1 n);
  not_factored = λ rec l buffer n h. heard_not_0 rec l (whole-accepted rec l buffer (whole_taken rec l buffer h)).load ((byte_iff rec).1 n);
  zeros_loaded = λ l room. (load-number _ l).1 ((refl, refl), (room, zero-record));
  zeros_factored = λ l buffer room space. (whole-number _ l buffer).1 ((refl, refl), (room, (space, zero-record)));
}
