-- Document 02, U14: the entries that the used bytes of a buffer hold, where those are "a whole run of entries". Assumes nothing.
use Rattle.std.specs.Prelude.{ℕ, zero, suc, ◌+◌, Bool, true, false, cond, List, [], ◌∷◌, eqb, ltb, length, get_or, take, drop}
use Rattle.std.proofs.Math.Option.{Option, none, some}
use Rattle.words.specs.Words.{uint32}
use Rattle.journal.specs.Entry.{Entry, body_length_of, head_bytes}

-- the size of the entry that the bytes begin with: 0 where they begin with no kind, or end before the body does
unfoldable pub first_size : List ℕ → ℕ
first_size bytes =
    cond (eqb (body_length_of (get_or bytes 0 0)) 0) 0
    (cond (ltb (length bytes) (head_bytes + body_length_of (get_or bytes 0 0))) 0
    (head_bytes + body_length_of (get_or bytes 0 0)))

-- the entry that they begin with, where there is one
unfoldable pub first_entry : List ℕ → Entry
first_entry bytes =
    record {
      kind = get_or bytes 0 0;
      day = uint32 (get_or bytes 1 0) (get_or bytes 2 0) (get_or bytes 3 0) (get_or bytes 4 0);
      body = take (body_length_of (get_or bytes 0 0)) (drop head_bytes bytes);
    }

-- an entry of this size in front of others; none where its size is 0, or where the others are none
abbrev pub in_front : ℕ → Entry → Option (List Entry) → Option (List Entry)
in_front zero e others = none
in_front (suc n) e none = none
in_front (suc n) e (some es) = some (e ∷ es)

-- at most n entries, one after another, up to the last byte
unfoldable pub up_to : ℕ → List ℕ → Option (List Entry)
up_to zero [] = some []
up_to zero (b ∷ bytes) = none
up_to (suc n) [] = some []
up_to (suc n) (b ∷ bytes) = let size = first_size (b ∷ bytes) in in_front size (first_entry (b ∷ bytes)) (up_to n (drop size (b ∷ bytes)))

-- the entries that the bytes are a whole run of; none where they are no whole run. No entry is shorter than a byte
unfoldable pub entries : List ℕ → Option (List Entry)
entries bytes = up_to (length bytes) bytes

-- "the used bytes pass the buffer or are no whole run of entries" is where this is none
unfoldable pub held : ℕ → List ℕ → Option (List Entry)
held used buffer = cond (ltb (length buffer) used) none (entries (take used buffer))

abbrev pub is_some : Option (List Entry) → Bool
is_some none = false
is_some (some es) = true
