-- Document 02, U14: an entry of the log, and how entries are written, "one after another". Assumes nothing.
use Rattle.std.specs.Prelude.{ℕ, cond, List, [], ◌∷◌, ◌++◌, eqb}
use Rattle.words.specs.Words.{uint32_bytes_of}

-- the day is counted from 1 January 1970, the body is "stored untested"
pub record Entry : Type 0 where
  pub kind : ℕ
  pub day : ℕ
  pub body : List ℕ

-- "kind 05 a result record, 06 a refusal number, 07 a heard byte"
abbrev pub result_kind : ℕ
result_kind = 5

abbrev pub refusal_kind : ℕ
refusal_kind = 6

abbrev pub heard_kind : ℕ
heard_kind = 7

-- "the body that the kind fixes (2,049, 1 and 1 bytes ..)", and 0 for what is no kind
unfoldable pub body_length_of : ℕ → ℕ
body_length_of kind = cond (eqb kind result_kind) 2049 (cond (eqb kind refusal_kind) 1 (cond (eqb kind heard_kind) 1 0))

-- the kind, "then an unsigned 4-byte day number": what stands before the body
abbrev pub head_bytes : ℕ
head_bytes = 5

unfoldable pub entry_bytes : Entry → List ℕ
entry_bytes e = e.kind ∷ uint32_bytes_of e.day ++ e.body

-- entries one after another
unfoldable pub log_bytes : List Entry → List ℕ
log_bytes [] = []
log_bytes (e ∷ es) = entry_bytes e ++ log_bytes es
