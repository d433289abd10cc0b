-- A loaded sector that requests its share in every round finishes in time. Assumes nothing.
use mathlib.Core.Path.{◌≡◌, refl, sym, ap, ◌∙◌, subst}
use mathlib.Core.List.{List, [], ◌∷◌, ◌++◌}
use Prim.Native.Nat.{ℕ, zero, suc, ◌+◌, ◌-◌, ◌*◌, ◌≤◌, ◌<◌, min}
use native.Mathlib.Nat.{div-add-mod', mod-lt, mul-le-mul_right, suc-mul, zero-mul}
use native.Mathlib.Omega.{arith}
use lib.IntN.{ℤ}
use lib.ListN.{length}
use Rattle.lists.specs.Histories.{after_all}
use Rattle.lists.proofs.Histories.{after_append, Along, along_of, along_first, along_rest}
use Rattle.engine.specs.Run.{next_job, run_done}
use Rattle.engine.proofs.Accepted.{PossibleJob, run_passes}
use Rattle.engine.proofs.Taken.{possible_next}
use Rattle.desk.specs.Desk.{job_at_of}
use Rattle.desk.specs.Roles.{operator}
use Rattle.desk.proofs.Accepted.{left-passes}
use Rattle.desk_laws.specs.Calls.{Lent, Call, run, begin, Hub, new, lent_words, next, after}
use Rattle.desk_laws.specs.Ledger.{ledger}
use Rattle.desk_laws.specs.Finish.{Undisturbed, EachUndisturbed, Requests, in_rounds, EachRequests, rounded_up, FinishesInTime}
use Rattle.desk_laws.proofs.Seats.{Seat, seat, Eight, loaded_seat, run_seat, run_number, seat_grant, seat_lent, own_kind, own_loads_lem, own_next_lem, refilled, seat_next, eight_next, eight_after, eight_new}
use Rattle.desk_laws.proofs.Steady.{Steady, steady_next}
use Rattle.desk_laws.proofs.Ledgers.{own_loading, noted_all}

-- ---- call by call

-- the sector's share is s
abbrev HasShare : ℕ → Seat → Type 0
HasShare s a = a.share ≡ s

module _ (i s : ℕ) (small : i < 8) (P : Seat → Type 0) (r : Steady (HasShare s) P) where
  undisturbed-after : (h : Hub) (calls : List Call) → Eight h.desk → Along next (Undisturbed i s) h calls → P (seat i h) → P (seat i (after h calls))
  unfolding Along after_all
  undisturbed-after h [] w u x = x
  undisturbed-after h (c ∷ calls) w u x =
      undisturbed-after (next h c) calls (eight_next h c w) u.1 (steady_next (HasShare s) P r i small h c w u.0.not_loaded u.0.share x)

-- ---- how far a sector is

-- its job stands at n or later
record Grown (n : ℕ) (a : Seat) : Type 0 where
  from : n ≤ a.job.turn
  possible : PossibleJob a.job

-- and with what it has left in the round it comes to n + s
record Held (n s : ℕ) (a : Seat) : Type 0 where
  grown : Grown n a
  reach : n + s ≤ a.job.turn + a.left
  few : a.left ≤ s

grown_ran : (n k request : ℕ) (a : Seat) (lent : Lent) → Grown n a → Grown n (run_seat k a (seat_grant a request) lent)
unfolding run_done next_job
grown_ran n zero request a lent x = record {
  from = omega (arith, x.from);
  possible = possible_next a.job (seat_grant a request) (lent_words a.area lent) (omega arith) x.possible;
}
grown_ran n (suc k) request a lent x = x

held-ran : (n s k request : ℕ) (a : Seat) (lent : Lent) → Held n s a → Held n s (run_seat k a (seat_grant a request) lent)
unfolding run_done next_job
held-ran n s zero request a lent x =
    record { grown = grown_ran n 0 request a lent x.grown; reach = omega (arith, x.reach); few = omega (arith, x.few) }
held-ran n s (suc k) request a lent x = x

grown_steady : (s n : ℕ) → Steady (HasShare s) (Grown n)
grown_steady s n = record {
  ran = λ k request a lent x. grown_ran n k request a lent x;
  kept = λ rec a e x. record { from = x.from; possible = x.possible };
  began = λ a e x. record { from = x.from; possible = x.possible };
  set = λ t a x. record { from = x.from; possible = x.possible };
}

held-begun : (n s : ℕ) (a : Seat) → a.share ≡ s → Grown n a → Held n s (refilled a)
held-begun n s a e x = record { grown = record { from = x.from; possible = x.possible }; reach = omega (arith, e, x.from); few = omega (arith, e) }

held_steady : (s n : ℕ) → Steady (HasShare s) (Held n s)
held_steady s n = record {
  ran = λ k request a lent x. held-ran n s k request a lent x;
  kept = λ rec a e x. record { grown = record { from = x.grown.from; possible = x.grown.possible }; reach = x.reach; few = x.few };
  began = λ a e x. held-begun n s a e x.grown;
  set = λ t a x. record { grown = record { from = x.grown.from; possible = x.grown.possible }; reach = x.reach; few = x.few };
}

-- ---- a request of its share or more: it has none left and has come to n + s, or it is granted what it has left

module _ (n s request : ℕ) (fits : s ≤ request) (a : Seat) (lent : Lent) (room : 512 ≤ length (lent_words a.area lent)) (x : Held n s a) where
  accepted : 0 < a.left → run_number operator a request lent ≡ 0
  accepted some =
      let r = run_passes a.job (lent_words a.area lent) (record { room = room; possible = x.grown.possible }) in
      rw (r, left-passes a.job a.left request some)

  granted : Grown (min (n + s) 120) (run_seat 0 a (seat_grant a request) lent)
  unfolding run_done next_job
  granted = record {
    from = omega (arith, fits, x.reach, x.few, x.grown.possible.turn);
    possible = possible_next a.job (seat_grant a request) (lent_words a.area lent) (omega arith) x.grown.possible;
  }

  by_left : (m : ℕ) → a.left ≡ m → Grown (min (n + s) 120) (run_seat (run_number operator a request lent) a (seat_grant a request) lent)
  by_left zero e =
      grown_ran (min (n + s) 120) (run_number operator a request lent) request a lent (record { from = omega (arith, x.reach, e); possible = x.grown.possible })
  by_left (suc m) e =
      subst (λ (k : ℕ). Grown (min (n + s) 120) (run_seat k a (seat_grant a request) lent)) (sym (accepted (omega (arith, e)))) granted

-- ---- rounds

module _ (i s : ℕ) (small : i < 8) where
  -- the calls of one round: those before the request, the request, and those after it
  one_round : (n : ℕ) (h : Hub) (calls : List Call) → Eight h.desk → Along next (Undisturbed i s) h (begin operator ∷ calls) → Requests i s (next h (begin operator)) calls
      → Grown n (seat i h) → Grown (min (n + s) 120) (seat i (after (next h (begin operator)) calls))
  unfolding Along after_all
  one_round n h calls w u r x =
      let p = r.place in
      let c = run operator i r.request r.lent in
      let b = next h (begin operator) in
      let m = after b p.before in
      let w' = eight_next h (begin operator) w in
      let w'' = eight_after b p.before w' in
      let v : Along next (Undisturbed i s) b (p.before ++ c ∷ p.rest) = subst (Along next (Undisturbed i s) b) p.is u.1 in
      let v' : Along next (Undisturbed i s) m (c ∷ p.rest) = along_rest next (Undisturbed i s) b p.before (c ∷ p.rest) v in
      let begun : Held n s (seat i b) = subst (Held n s) (sym (seat_next h i small w (begin operator))) (held-begun n s (seat i h) (u.0.share refl) x) in
      let held : Held n s (seat i m) =
      undisturbed-after i s small (Held n s) (held_steady s n) b p.before w' (along_first next (Undisturbed i s) b p.before (c ∷ p.rest) v) begun in
      let asked : Grown (min (n + s) 120) (seat i (next m c)) =
      subst (Grown (min (n + s) 120)) (sym (own_next_lem m i small w'' c (own_kind i))) (by_left n s r.request r.enough (seat i m) r.lent r.room held (seat i m).left refl) in
      let end = undisturbed-after i s small (Grown (min (n + s) 120)) (grown_steady s (min (n + s) 120)) (next m c) p.rest (eight_next m c w'') v'.1 asked in
      subst (λ (g : Hub). Grown (min (n + s) 120) (seat i g)) (sym (ap (after b) p.is ∙ after_append next b p.before (c ∷ p.rest))) end

  all_rounds : (n : ℕ) (h : Hub) (rounds : List (List Call)) → Eight h.desk → Along next (Undisturbed i s) h (in_rounds rounds) → EachRequests i s h rounds
      → Grown n (seat i h) → Grown (min (n + length rounds * s) 120) (seat i (after h (in_rounds rounds)))
  unfolding after_all in_rounds EachRequests
  all_rounds n h [] w u r x = record { from = omega (arith, zero-mul s, x.from); possible = x.possible }
  all_rounds n h (calls ∷ rounds) w u r x =
      let b = next h (begin operator) in
      let m = after b calls in
      let y = one_round n h calls w (along_first next (Undisturbed i s) h (begin operator ∷ calls) (in_rounds rounds) u) r.0 x in
      let z = all_rounds (min (n + s) 120) m rounds (eight_after b calls (eight_next h (begin operator) w)) (along_rest next (Undisturbed i s) h (begin operator ∷ calls) (in_rounds rounds) u) r.1 y in
      let f : Grown (min (n + suc (length rounds) * s) 120) (seat i (after m (in_rounds rounds))) =
      record { from = omega (arith, suc-mul (length rounds) s, z.from); possible = z.possible } in
      subst (λ (g : Hub). Grown (min (n + suc (length rounds) * s) 120) (seat i g)) (sym (after_append next b calls (in_rounds rounds))) f

-- as many rounds as 120 divided by s, rounded up, have 120 turns or more
rounds_suffice : (s m : ℕ) → 0 < s → rounded_up 120 s ≤ m → 120 ≤ m * s
rounds_suffice s m h e =
    let q = div-add-mod' (120 + s - 1) s in
    let r = mod-lt (120 + s - 1) h in
    let t = mul-le-mul_right s e in
    omega arith

-- ---- the law

-- a load leaves it at the start
loaded_grown : (a : Seat) (rec : List ℕ) (l : List ℤ) → Grown 0 (loaded_seat a rec l)
loaded_grown a rec l = record { from = omega arith; possible = record { turn = omega arith; made = omega arith } }

pub finishes_in_time : FinishesInTime
unfolding EachUndisturbed
finishes_in_time i s areas before c rest rounds small positive loaded u r e =
    let h = after (new areas) before in
    let g = next h c in
    let w = eight_after (new areas) before (eight_new areas) in
    let w' = eight_next h c w in
    let v = along_of next (Undisturbed i s) g (rest ++ in_rounds rounds) u in
    let o = own_loading (ledger i areas before) (seat i h) (noted_all i small areas before) c (sym (own_loads_lem h i small w c loaded.0) ∙ loaded.1) in
    let x : Grown 0 (seat i g) = subst (Grown 0) (sym (own_next_lem h i small w c loaded.0 ∙ o.is)) (loaded_grown (seat i h) o.rec (seat_lent (seat i h) c)) in
    let y = undisturbed-after i s small (Grown 0) (grown_steady s 0) g rest w' (along_first next (Undisturbed i s) g rest (in_rounds rounds) v) x in
    let z = all_rounds i s small 0 (after g rest) rounds (eight_after g rest w') (along_rest next (Undisturbed i s) g rest (in_rounds rounds) v) r y in
    let f = rounds_suffice s (length rounds) positive e in
    ap (λ (k : Hub). (job_at_of k.desk i).turn) (after_append next g rest (in_rounds rounds)) ∙ done z.from z.possible.turn f
  where
    done : {m j : ℕ} → min (0 + m) 120 ≤ j → j ≤ 120 → 120 ≤ m → j ≡ 120
    done a b c = omega arith
