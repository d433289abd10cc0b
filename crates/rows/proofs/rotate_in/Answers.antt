-- The columns from the leading one on are oriented, rotated and stored, each at its place. Assumes nothing.
use Rattle.std.proofs.Common.{arith, rules, ◌≡◌, ℕ, ◌+◌, ◌-◌, ◌*◌, ◌≤◌, ◌<◌, ◌∙◌, Bool, List, pos, get_or, map, sym, subst, ap}
use native.Mathlib.Nat.{add-zero, le_refl}
use lib.IntN.{ℤ}
use lib.Signed.{lt_z}
use Rattle.cordic.specs.declared.Pair.{Pair}
use Rattle.cordic.specs.MicroRotation.{micro_rotations, sign, oriented_pair}
use Rattle.rotation.specs.Column.{stored, column_at, rotated_at, column_stored}
use Rattle.rotation.specs.Stores.{pair_at, Columns}
use Rattle.rotation.proofs.Stores.{rows_same, count_same, rows-rotated, count-rotated}
use Rattle.rows.specs.Lanes.{Both, words_at, Words32, lane}
use Rattle.rows.proofs.rotate_in.Goals as goal

-- each column, oriented, has words that a word may have through all micro-rotations
stays_at : {H : ℤ → Type 0} {T : Pair → Type 0} → ((p : Pair) → Words32 p → T p → (negate : Bool) (s : ℕ → Bool) (n : ℕ) → n ≤ 28 → Both H (micro_rotations s n (oriented_pair negate p.u p.v)))
    → (c base : ℕ) (part us vs : List ℤ) → ((k : ℕ) → c ≤ k → k < 32 → T (words_at base part k)) → ((j : ℕ) → j < 32 - c → Words32 (words_at base part (c + j)))
    → Columns (λ (j : ℕ). column_at (lt_z (get_or part c (pos 0)) (pos 0)) base part (c + j)) 0 (32 - c) us vs
    → (s : ℕ → Bool) (j : ℕ) → j < 32 - c → (n : ℕ) → n ≤ 28 → Both H (micro_rotations s n (pair_at us vs j))
unfolding column_at words_at
stays_at {H} stays c base part us vs takes fit done s j below n few =
    subst (λ (q : Pair). Both H (micro_rotations s n q)) (sym (done j (omega arith) below))
    (stays (words_at base part (c + j)) (fit j below) (takes (c + j) (omega arith) (omega arith)) (lt_z (get_or part c (pos 0)) (pos 0)) s n few)

-- each column as it is stored: the rows us and vs hold the columns oriented, and xs and ys hold them rotated
stored_is :
    (c gap : ℕ) (part us vs xs ys : List ℤ)
    → Columns (λ (j : ℕ). column_at (lt_z (get_or part c (pos 0)) (pos 0)) (gap * 32) part (c + j)) 0 (32 - c) us vs
    → Columns (λ (j : ℕ). micro_rotations (sign (pair_at us vs 0)) 28 (pair_at us vs j)) 0 (32 - c) xs ys
    → (k : ℕ) → c ≤ k → k < 32 → stored (pair_at xs ys (k - c)) ≡ column_stored c gap part k
unfolding column_stored rotated_at
stored_is c gap part us vs xs ys e h k from below =
    let here : c + (k - c) ≡ k = omega arith in
    ap stored
    (h (k - c) (omega arith) (omega arith)
    ∙ rw (e 0 (omega arith) (omega arith), e (k - c) (omega arith) (omega arith), add-zero, here)
    )

pub rotate_columns-requires : goal.rotate_columns-requires
rotate_columns-requires g c =
    let a = c.args in
    let f = g.W.Lane.number in
    let o = c.orient_columns in (
      search rules,
      (
        (omega arith, omega arith),
        λ j below n few. stays_at g.met.W.Lane.stays a.column (a.gap * 32) a.part.now (map f o.new.us) (map f o.new.vs) c.requires.by_index o.ensures.in_range o.ensures.oriented (sign (lane f o.new.us o.new.vs 0)) j below n few,
      ),
    )

pub store_rows-requires : goal.store_rows-requires
store_rows-requires g c =
    let a = c.args in
    let f = g.W.Lane.number in
    let o = c.orient_columns in
    let r = c.rotate_columns in (
      search rules,
      (
        (omega arith, omega arith),
        λ j below. subst (Both g.W.Lane.Holds) (sym (r.ensures j (omega arith) below))
            (stays_at g.met.W.Lane.stays a.column (a.gap * 32) a.part.now (map f o.new.us) (map f o.new.vs) c.requires.by_index o.ensures.in_range o.ensures.oriented (sign (lane f o.new.us o.new.vs 0)) j below 28 (le_refl 28)),
      ),
    )

pub returns-clause-words : goal.returns-clause-words
returns-clause-words g c =
    let a = c.args in
    let l = a.part.now in
    let f = g.W.Lane.number in
    let o = c.orient_columns in
    let r = c.rotate_columns in
    let small : a.column < 32 = omega arith in
    let same = stored_is a.column a.gap l (map f o.new.us) (map f o.new.vs) (map f r.new.us) (map f r.new.vs) o.ensures.oriented r.ensures in
    c.store_rows.ensures.words
    ∙ rows_same (λ (k : ℕ). stored (lane f r.new.us r.new.vs (k - a.column))) (column_stored a.column a.gap l) a.column small same (a.gap * 32) l
    ∙ rows-rotated a.column a.gap l small c.requires.column_bound.1 c.requires.column_bound.2

pub returns-clause-saturations : goal.returns-clause-saturations
returns-clause-saturations g c left =
    let a = c.args in
    let l = a.part.now in
    let f = g.W.Lane.number in
    let o = c.orient_columns in
    let r = c.rotate_columns in
    let small : a.column < 32 = omega arith in
    let same = stored_is a.column a.gap l (map f o.new.us) (map f o.new.vs) (map f r.new.us) (map f r.new.vs) o.ensures.oriented r.ensures in
    c.store_rows.ensures.saturations left
    ∙ count_same (λ (k : ℕ). stored (lane f r.new.us r.new.vs (k - a.column))) (column_stored a.column a.gap l) a.column small same left
    ∙ count-rotated a.column a.gap l left
