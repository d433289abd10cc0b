-- The hub that heard nothing (demand 1: a matrix of nothing but zeros is refused; document 02, U3: number 4 is given when no antenna is heard). An
-- accepted Load or Whole never answers a heard byte of 0, and answers in bit k whether antenna k is heard. Number 4 is given exactly if the tests before
-- it are passed and the heard byte would be 0, which is if each of the eight real parts on the diagonal is 16 or less, whatever else the record holds.
-- Assumes nothing.
use Rattle.std.specs.Prelude.{◌≡◌, ◌↔◌, ◌⊎◌, List, ◌∷◌, ℕ, ◌+◌, ◌*◌, ◌/◌, ◌%◌, ◌^◌, ◌≤◌, ◌<◌, ℤ, length, get_or, replicate}
use Rattle.matrix_record.specs.MatrixRecord.{heard_byte_of}
use Rattle.engine.specs.Load.{load_of}
use Rattle.engine.specs.Whole.{whole_of}

-- a record of 257 bytes with the kind byte 01. Here and below in the documents' own numbers, and whatever numbers stand for bytes
abbrev pub SizedMatrix : List ℕ → Type 0
SizedMatrix rec = (get_or rec 0 0 ≡ 1) × (length rec ≡ 257)

-- the 16 bits of the real part of element (k, k), high byte first; after it come its imaginary part and eight elements of four bytes
abbrev pub diagonal_bits : List ℕ → ℕ → ℕ
diagonal_bits rec k = get_or rec (1 + 36 * k) 0 * 256 + get_or rec (2 + 36 * k) 0

-- it is 16 or less: from 32768 on, bits stand for negative numbers
abbrev pub Unheard : List ℕ → ℕ → Type 0
Unheard rec k = (diagonal_bits rec k ≤ 16) ⊎ (32768 ≤ diagonal_bits rec k)

abbrev pub NoneHeard : List ℕ → Type 0
NoneHeard rec = (k : ℕ) → k < 8 → Unheard rec k

pub record Silence : Type 0 where
  -- an accepted call never answers a heard byte of 0
  pub load_heard : (rec : List ℕ) (l : List ℤ) → (load_of rec l).reply.number ≡ 0 → (load_of rec l).reply.heard ≡ 0 → ⊥
  pub whole_heard : (rec : List ℕ) (l : List ℤ) (buffer : List ℕ) → (whole_of rec l buffer).reply.number ≡ 0 → (whole_of rec l buffer).reply.heard ≡ 0 → ⊥
  -- and bit k of it is 0 exactly if antenna k is not heard
  pub load_bit : (rec : List ℕ) (l : List ℤ) → (load_of rec l).reply.number ≡ 0
      → (k : ℕ) → k < 8 → ((load_of rec l).reply.heard / 2 ^ k % 2 ≡ 0) ↔ Unheard rec k
  pub whole_bit : (rec : List ℕ) (l : List ℤ) (buffer : List ℕ) → (whole_of rec l buffer).reply.number ≡ 0
      → (k : ℕ) → k < 8 → ((whole_of rec l buffer).reply.heard / 2 ^ k % 2 ≡ 0) ↔ Unheard rec k
  -- number 4 exactly if the tests before it are passed and the byte would be 0
  pub load-number : (rec : List ℕ) (l : List ℤ) → ((load_of rec l).reply.number ≡ 4) ↔ (SizedMatrix rec × ((512 ≤ length l) × (heard_byte_of rec ≡ 0)))
  pub whole-number : (rec : List ℕ) (l : List ℤ) (buffer : List ℕ)
      → ((whole_of rec l buffer).reply.number ≡ 4) ↔ (SizedMatrix rec × ((512 ≤ length l) × ((2049 ≤ length buffer) × (heard_byte_of rec ≡ 0))))
  -- which says of the bytes, the sizes being right
  pub load_iff : (rec : List ℕ) (l : List ℤ) → SizedMatrix rec → 512 ≤ length l → ((load_of rec l).reply.number ≡ 4) ↔ NoneHeard rec
  pub whole_iff : (rec : List ℕ) (l : List ℤ) (buffer : List ℕ) → SizedMatrix rec → 512 ≤ length l → 2049 ≤ length buffer
      → ((whole_of rec l buffer).reply.number ≡ 4) ↔ NoneHeard rec
  -- of whatever sizes, such a record is not accepted
  pub not_loaded : (rec : List ℕ) (l : List ℤ) → NoneHeard rec → (load_of rec l).reply.number ≡ 0 → ⊥
  pub not_factored : (rec : List ℕ) (l : List ℤ) (buffer : List ℕ) → NoneHeard rec → (whole_of rec l buffer).reply.number ≡ 0 → ⊥
  -- a matrix of nothing but zeros
  pub zeros_loaded : (l : List ℤ) → 512 ≤ length l → (load_of (1 ∷ replicate 256 0) l).reply.number ≡ 4
  pub zeros_factored : (l : List ℤ) (buffer : List ℕ) → 512 ≤ length l → 2049 ≤ length buffer → (whole_of (1 ∷ replicate 256 0) l buffer).reply.number ≡ 4
