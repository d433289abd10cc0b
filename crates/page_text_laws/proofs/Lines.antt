-- The lines of a page: each stands where it should, and so does each word in it. Assumes nothing.
use mathlib.Core.Path.{◌≡◌, refl, sym, ap, ◌∙◌}
use mathlib.Core.List.{List, [], ◌∷◌, ◌++◌}
use mathlib.Core.Option.{some}
use Prim.Native.Nat.{ℕ, ◌+◌, ◌*◌, ◌≤◌, ◌<◌}
use native.Mathlib.Omega.{arith}
use lib.IntN.{ℤ, pos}
use lib.ListN.{length, get_or, take, drop, length-append, length-drop, get_or-append}
use lib.Seq.{take_at, take-append-le, drop-append-le, get_or_at, get_or-append-add}
use mir.Syntax.{w32}
use mir.Val.{SFits}
use Rattle.lists.specs.Lists.{joined}
use Rattle.lists.proofs.Joined.{joined_length, joined_at}
use Rattle.words.specs.Words.{Bytes}
use Rattle.result_record.specs.ResultRecord.{record_r, record_refusal_of}
use Rattle.result_record.proofs.ResultRecord.{r_fits}
use Rattle.result_record.proofs.Accepted.{record-number}
use Rattle.page_text.specs.Decimal.{line_feed, field}
use Rattle.page_text.specs.Page.{line_of, page_of_r, refusal_line, page_of}
use Rattle.page_text.proofs.Decimal.{field-length}
use Rattle.page_text.proofs.Page.{page_accepted, page_refused, refusal-length}
use Rattle.page_text_laws.specs.Reading.{line_at, columns_at, is_digit, is_printed, number_in}
use Rattle.page_text_laws.specs.Lines.{Line, Lines}
use Rattle.page_text_laws.proofs.Characters.{printed_at, printed-field, printed-joined}
use Rattle.page_text_laws.proofs.Reading.{field-read}
use Rattle.page_text_laws.proofs.Uncut.{field-ends}

-- ---- a line of words

module _ (words : ℕ → ℤ) (fit : (j : ℕ) → SFits w32 (words j)) where
  abbrev fields : ℕ → List ℕ
  fields j = field (words j)

  sized : (j : ℕ) → length (fields j) ≡ 12
  sized j = field-length (words j) (fit j)

  row : length (joined 16 fields) ≡ 192
  row = joined_length 12 fields sized 16

  pub line_length : length (line_of words) ≡ 193
  unfolding line_of
  line_length = length-append (joined 16 fields) (line_feed ∷ []) ∙ ap (λ (n : ℕ). n + 1) row

  before-feed : (k : ℕ) → k < 192 → get_or (line_of words) k 0 ≡ get_or (joined 16 fields) k 0
  unfolding line_of
  before-feed k h = get_or-append (joined 16 fields) (line_feed ∷ []) 0 k (rw row h)

  -- the last character is the last of word 15
  last : get_or (joined 16 fields) 191 0 ≡ get_or (fields 15) 11 0
  unfolding joined
  last =
      let n : length (joined 15 fields) ≡ 180 = joined_length 12 fields sized 15 in
      ap (λ (k : ℕ). get_or (joined 15 fields ++ fields 15) (k + 11) 0) (sym n) ∙ get_or-append-add (joined 15 fields) (fields 15) 11 0

  pub line_is : Line (line_of words)
  unfolding line_of
  line_is =
      record {
        long = line_length;
        characters =
            λ k h.
            ap is_printed (before-feed k h)
            ∙ printed_at (joined 16 fields) (printed-joined 16 fields (λ j. printed-field (words j))) k (rw row h);
        ends = ap is_digit (before-feed 191 (omega arith) ∙ last) ∙ field-ends (words 15) (fit 15);
        feed = get_or_at (joined 16 fields) line_feed [] 0 192 row;
      }

  pub columns_at_lem : (j : ℕ) → j < 16 → columns_at j (line_of words) ≡ fields j
  unfolding line_of
  columns_at_lem j h =
      let room : 12 ≤ length (drop (12 * j) (joined 16 fields)) = rw (length-drop (12 * j) (joined 16 fields)) (omega (arith, row)) in
      ap (take 12) (drop-append-le (12 * j) (joined 16 fields) (line_feed ∷ []) (omega (arith, row)))
      ∙ take-append-le 12 (drop (12 * j) (joined 16 fields)) (line_feed ∷ []) room
      ∙ joined_at 12 fields sized 16 j h

-- ---- an accepted record

module _ (rec : List ℕ) (bytes : Bytes rec) (accepted : record_refusal_of rec ≡ 0) where
  abbrev rows : ℕ → List ℕ
  rows i = line_of (record_r rec i)

  rows-length : (i : ℕ) → length (rows i) ≡ 193
  rows-length i = line_length (record_r rec i) (r_fits rec bytes i)

  pub page_length : length (page_of rec) ≡ 16 * 193
  unfolding page_of_r
  page_length = ap length (page_accepted rec accepted) ∙ joined_length 193 rows rows-length 16

  line_at_lem : (i : ℕ) → i < 16 → line_at i (page_of rec) ≡ rows i
  unfolding page_of_r
  line_at_lem i h = ap (line_at i) (page_accepted rec accepted) ∙ joined_at 193 rows rows-length 16 i h

  line_each : (i : ℕ) → i < 16 → Line (line_at i (page_of rec))
  line_each i h = rw (line_at_lem i h) (line_is (record_r rec i) (r_fits rec bytes i))

  pub word_at : (i j : ℕ) → i < 16 → j < 16 → number_in (columns_at j (line_at i (page_of rec))) ≡ some (record_r rec i j)
  word_at i j p q =
      ap (λ (l : List ℕ). number_in (columns_at j l)) (line_at_lem i p)
      ∙ ap number_in (columns_at_lem (record_r rec i) (r_fits rec bytes i) j q)
      ∙ field-read (record_r rec i j) (r_fits rec bytes i j)

-- ---- a refused record

module _ (rec : List ℕ) (refused : record_refusal_of rec ≡ 0 → ⊥) where
  pub line_refused : page_of rec ≡ refusal_line (record_refusal_of rec)
  line_refused = page_refused rec (record_refusal_of rec) refl refused

  fits : SFits w32 (pos (record_refusal_of rec))
  fits = record { sfits = omega (arith, record-number rec) }

  pub refused-length : length (page_of rec) ≡ 13
  refused-length = ap length line_refused ∙ refusal-length (record_refusal_of rec) (omega (arith, record-number rec))

  refused-ends : get_or (page_of rec) 12 0 ≡ line_feed
  unfolding refusal_line
  refused-ends =
      ap (λ (l : List ℕ). get_or l 12 0) line_refused
      ∙ get_or_at (field (pos (record_refusal_of rec))) line_feed [] 0 12 (field-length (pos (record_refusal_of rec)) fits)

  pub refused-read : number_in (take 12 (page_of rec)) ≡ some (pos (record_refusal_of rec))
  unfolding refusal_line
  refused-read =
      ap (λ (l : List ℕ). number_in (take 12 l)) line_refused
      ∙ ap number_in (take_at (field (pos (record_refusal_of rec))) (line_feed ∷ []) 12 (field-length (pos (record_refusal_of rec)) fits))
      ∙ field-read (pos (record_refusal_of rec)) fits

pub lines : Lines
lines =
    record {
      sixteen = page_length;
      each = line_each;
      read_back = word_at;
      refused-long = refused-length;
      refused-feed = refused-ends;
      refused-back = refused-read;
    }
