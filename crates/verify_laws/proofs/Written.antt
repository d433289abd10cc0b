-- What the engine writes gets yes: a result record has the words of R and Q, which are a factorization of the matrix. Assumes nothing.
use mathlib.Core.Path.{◌≡◌, refl, sym, ap, ap₂, ◌∙◌, subst}
use mathlib.Core.Bool.{true, cond}
use mathlib.Core.List.{List, [], ◌∷◌, ◌++◌}
use Prim.Native.Nat.{ℕ, ◌^◌, ◌<◌}
use lib.Dec.{eqb, lit≤}
use lib.IntN.{ℤ, pos, ◌-ℤ◌, ◌*ℤ◌}
use lib.ListN.{drop, replicate}
use lib.Seq.{take_at}
use mir.Syntax.{w32}
use mir.Val.{SFits}
use Rattle.integers.specs.Matrix.{Matrix}
use Rattle.integers.specs.Within.{Within}
use Rattle.integers.proofs.Sum.{sum_equal}
use Rattle.lists.specs.Lists.{tabulate, filled}
use Rattle.lists.specs.Histories.{Place, Point}
use Rattle.lists.proofs.Tabulate.{length-tabulate}
use Rattle.words.specs.Words.{Bytes}
use Rattle.refusals.proofs.Refusals.{header_passes}
use Rattle.matrix_record.specs.MatrixRecord.{real_entry_of, matrix_refusal}
use Rattle.matrix_record.proofs.MatrixRecord.{entry_small}
use Rattle.result_record.specs.ResultRecord.{result_byte, result_record_of, record_r, record_q, is_finished, record_refusal_of}
use Rattle.result_record.proofs.ResultRecord.{r_back, q_back, finished_same}
use Rattle.result_record.proofs.Accepted.{record-passes}
use Rattle.workspace.specs.Workspace.{R, Q}
use Rattle.engine.specs.Load.{load_refusal_of}
use Rattle.engine.specs.Whole.{whole_refusal_of, whole_done, whole_by, whole_of}
use Rattle.engine.proofs.Accepted.{load-accepted}
use Rattle.accuracy.specs.Factorization.{error_limit, Factorization}
use Rattle.accuracy.specs.Demand3.{Load, FetchCall, fetched, found, start, EachInStep, Kept}
use Rattle.accuracy.specs.Demand3 as engine
use Rattle.accuracy.specs.Instalments.{next_fetch, instalments, after_instalments, instalment_calls}
use Rattle.accuracy.proofs.Finished.{finished}
use Rattle.accuracy.proofs.Demand3.{demand3}
use Rattle.accuracy.proofs.WholeDemand3.{whole_demand3}
use Rattle.accuracy.proofs.Instalments.{instalments_possible}
use Rattle.desk.specs.Roles.{fitter, operator}
use Rattle.desk_laws.specs.Calls.{its, Call, fetch, new, answer, after}
use Rattle.desk_laws.specs.Early.{early, both_worked, ComesOut}
use Rattle.desk_laws.proofs.Results.{results_accurate, source-passes}
use Rattle.desk_laws.proofs.Early.{both_come_out}
use Rattle.verify_laws.specs.Answers.{Yes, Factors}
use Rattle.verify_laws.specs.Written.{written_in, FetchedYes, WholeYes, SectorYes, InstalmentsYes, BothYes}
use Rattle.verify_laws.proofs.Answers.{yes_if, result-next}
use Rattle.verify_laws.proofs.Fitting.{q_short, r_short}

-- ---- a result record and its words

module _ (r q : Matrix) (r_fits : (i j : ℕ) → i < 16 → j < 16 → SFits w32 (r i j)) (q_fits : (i j : ℕ) → i < 16 → j < 16 → SFits w32 (q i j)) where
  pub same_r : (i j : ℕ) → i < 16 → j < 16 → record_r (result_record_of r q) i j ≡ r i j
  same_r i j h k = r_back r q i j h k (r_fits i j h k)

  same_q : (i j : ℕ) → i < 16 → j < 16 → record_q (result_record_of r q) i j ≡ q i j
  same_q i j h k = q_back r q i j h k (q_fits i j h k)

  -- its sums are those of R and Q
  pub written_factors : (a : Matrix) → Factors a r q → Factors a (record_r (result_record_of r q)) (record_q (result_record_of r q))
  written_factors a f = record {
    product = λ i j h k.
        subst (λ (x : ℤ). Within (x -ℤ pos (2 ^ 43) *ℤ a i j) error_limit) (sum_equal 16 (λ n m. sym (ap₂ (λ (x y : ℤ). x *ℤ y) (same_q i n h m) (same_r n j m k))))
        (f.product i j h k);
    orthogonal = λ i j h k.
        subst (λ (x : ℤ). Within (x -ℤ cond (eqb i j) (pos (2 ^ 60)) (pos 0)) error_limit) (sum_equal 16 (λ n m. sym (ap₂ (λ (x y : ℤ). x *ℤ y) (same_q i n h m) (same_q j n k m))))
        (f.orthogonal i j h k);
  }

  -- and it passes its tests where R is a finished one
  written-passes : is_finished r ≡ true → record_refusal_of (result_record_of r q) ≡ 0
  unfolding result_record_of result_byte tabulate
  written-passes e = record-passes (result_record_of r q) (record {
    header = record { tagged = refl; sized = length-tabulate 2049 (result_byte r q) };
    finished = finished_same (record_r (result_record_of r q)) (record_q (result_record_of r q)) r q same_r ∙ e;
  })

  -- so where the sums lie within the limits it gets yes
  pub written_yes : (matrix : List ℕ) → matrix_refusal matrix ≡ 0 → is_finished r ≡ true → Factors (real_entry_of matrix) r q → Yes matrix (result_record_of r q)
  written_yes matrix passes e f =
      yes_if matrix (result_record_of r q) (result-next matrix (result_record_of r q) passes ∙ written-passes e) (written_factors (real_entry_of matrix) f)

-- ---- a buffer that begins with the record of a matrix worked to the end

module _ (matrix : List ℕ) (small : Bytes matrix) (passes : matrix_refusal matrix ≡ 0) (r q : Matrix) (f : Factorization (real_entry_of matrix) r q) where
  record_yes : Yes matrix (result_record_of r q)
  record_yes =
      written_yes r q (r_short (real_entry_of matrix) r q f (entry_small matrix small)) (q_short (real_entry_of matrix) r q f) matrix passes
      (finished (real_entry_of matrix) r q f) (record { product = f.product; orthogonal = f.orthogonal })

  pub buffer_yes : (buffer rest : List ℕ) → buffer ≡ result_record_of r q ++ rest → Yes matrix (written_in buffer)
  unfolding result_record_of
  buffer_yes buffer rest e =
      subst (Yes matrix) (sym (ap written_in e ∙ take_at (result_record_of r q) rest 2049 (length-tabulate 2049 (result_byte r q)))) record_yes

-- what Load accepts passes the matrix's tests
matrix-passes : (matrix : List ℕ) (lent : List ℤ) → load_refusal_of matrix lent ≡ 0 → matrix_refusal matrix ≡ 0
unfolding matrix_refusal
matrix-passes matrix lent e =
    let a = load-accepted matrix lent e in
    rw (header_passes 1 256 matrix a.header, a.heard)

-- ---- the engine

-- a Fetch in step of a list that keeps demand 3's promise
kept_yes : (l : Load) (calls : List engine.Call) → Kept l calls → (f : FetchCall) (p : Place (engine.fetch f) calls)
    → engine.InStep (found l p) (engine.fetch f) → engine.Accepted (found l p) (engine.fetch f) → Yes l.bytes (written_in (fetched (found l p) f))
kept_yes l calls kept f p s z =
    let here : Point calls = record { before = p.before; rest = engine.fetch f ∷ p.rest; is = p.is } in
    let w = (found l p).workspace in
    buffer_yes l.bytes l.small (matrix-passes l.bytes l.lent l.accepted) (R w) (Q w) (kept.factored here ((kept.fetch_accepted f p s).0 z).0)
    (fetched (found l p) f) (drop 2049 f.buffer) (kept.written f p z)

pub fetched_yes : FetchedYes
unfolding EachInStep
fetched_yes l calls each f p z = kept_yes l calls (demand3 l calls each) f p (each (engine.fetch f) p z) z

whole-buffer : (matrix : List ℕ) (lent : List ℤ) (buffer : List ℕ) → whole_refusal_of matrix lent buffer ≡ 0
    → (let o = whole_of matrix lent buffer in o.buffer ≡ result_record_of (R o.workspace) (Q o.workspace) ++ drop 2049 buffer)
unfolding whole_of whole_by whole_done filled result_record_of
whole-buffer matrix lent buffer passed = rw passed

pub whole_yes : WholeYes
whole_yes matrix lent buffer small passed =
    let k = whole_demand3 matrix lent buffer small passed in
    buffer_yes matrix small (matrix-passes matrix lent k.0) _ _ k.1.factored _ (drop 2049 buffer) (whole-buffer matrix lent buffer passed)

pub instalments_yes : InstalmentsYes
instalments_yes l budgets buffer all space =
    let i = instalments_possible l budgets buffer in
    let f = next_fetch (after_instalments l budgets) buffer in
    fetched_yes l (instalment_calls l budgets buffer) i.in_step f (record { before = instalments (start l) budgets; rest = []; is = refl }) (i.fetch_accepted.1 (all, space))

-- ---- the desk

pub sector_yes : SectorYes
sector_yes role i areas calls buffer matrix h u z =
    let o = (results_accurate role i areas calls buffer matrix h u).result z in
    let l : List ℤ = replicate 512 (pos 0) in
    buffer_yes matrix u.small (matrix-passes matrix l (source-passes i h areas calls matrix u l (lit≤ tt))) _ _ o.factored _ (drop 2049 buffer) o.bytes

comes_yes : (role i : ℕ) (areas : ℕ → List ℤ) (calls : List Call) (buffer matrix : List ℕ) → i < 8 → ComesOut role i areas calls buffer matrix
    → Yes matrix (written_in (answer (after (new areas) calls) (fetch role i buffer its)).buffer)
comes_yes role i areas calls buffer matrix h o = sector_yes role i areas calls buffer matrix h o.in_step o.accepted

pub both_yes : BothYes
both_yes i s areas l later others k m buffer h a b c d e g n =
    let o = both_come_out i s areas l later others k m buffer h a b c d e g n in
    record {
      first_out = comes_yes operator i areas (early i s l later others k m) buffer l.bytes h o.first_out;
      fitter_out = comes_yes fitter i areas (early i s l later others k m) buffer l.bytes h o.fitter_out;
      second_out = comes_yes operator i areas (both_worked i s l later others k m buffer) buffer later.bytes h o.second_out;
    }
