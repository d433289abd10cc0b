-- Calls among which the sector hands nothing in and fetches nothing: what waits stays, and so does what the ledger says. Assumes nothing.
use mathlib.Core.Path.{◌≡◌, refl, ap, ◌∙◌}
use mathlib.Core.Bool.{false}
use mathlib.Core.List.{List, [], ◌∷◌}
use Prim.Native.Nat.{ℕ, zero, suc, ◌<◌}
use Rattle.lists.specs.Histories.{after_all}
use Rattle.lists.proofs.Histories.{Along}
use Rattle.desk_laws.specs.Calls.{Lent, Call, hand_in, run, fetch, heard, begin, set_shares, Hub, loads, answer, next, after, Kind, own, other, round, setting, kind, LentIts, OwnLent}
use Rattle.desk_laws.specs.Ledger.{Ledger, if_accepted, noted_by, noted, ledger_after, EachIts}
use Rattle.desk_laws.proofs.Seats.{Seat, seat, Eight, run_seat, run_number, seat_grant, own_next, step, seat_next, eight_next}

-- a call that neither hands in nor fetches
abbrev pub Works : Call → Type 0
Works (hand_in role i rec lent) = ⊥
Works (run role i request lent) = Unit {0}
Works (fetch role i buffer lent) = ⊥
Works (heard role i) = Unit {0}
Works (begin role) = Unit {0}
Works (set_shares role shares eight) = Unit {0}

abbrev pub Calm : ℕ → Hub → Call → Type 0
Calm i h c = kind i c ≡ own → Works c

pub record Stays (i : ℕ) (h : Hub) (g : Ledger) (calls : List Call) : Type 0 where
  pub waits : (seat i (after h calls)).waits ≡ (seat i h).waits
  pub handed : (ledger_after i h g calls).handed ≡ g.handed
  pub source : (ledger_after i h g calls).source ≡ g.source
  pub its : EachIts g.since → EachIts (ledger_after i h g calls).since

-- ---- one call

run_waits : (a : Seat) (request : ℕ) (lent : Lent) (n : ℕ) → (run_seat n a (seat_grant a request) lent).waits ≡ a.waits
run_waits a request lent zero = refl
run_waits a request lent (suc n) = refl

own_waits : (a : Seat) (c : Call) → Works c → (own_next a c).waits ≡ a.waits
own_waits a (hand_in role j rec lent) x = absurd x
own_waits a (run role j request lent) x = run_waits a request lent (run_number role a request lent)
own_waits a (fetch role j buffer lent) x = absurd x
own_waits a (heard role j) x = refl
own_waits a (begin role) x = refl
own_waits a (set_shares role shares eight) x = refl

-- what is noted of it
record Same (g g' : Ledger) : Type 0 where
  handed : g'.handed ≡ g.handed
  source : g'.source ≡ g.source
  its : EachIts g.since → EachIts g'.since

unchanged : (g : Ledger) → Same g g
unchanged g = record { handed = refl; source = refl; its = λ u. u }

entered_same : (g : Ledger) (c : Call) (n : ℕ) → Works c → (n ≡ 0 → LentIts c) → Same g (if_accepted n false c g)
unfolding EachIts
entered_same g (hand_in role j rec lent) n x u = absurd x
entered_same g (run role j request lent) zero x u = record { handed = refl; source = refl; its = λ v. (u refl, v) }
entered_same g (run role j request lent) (suc n) x u = unchanged g
entered_same g (fetch role j buffer lent) n x u = absurd x
entered_same g (heard role j) zero x u = record { handed = refl; source = refl; its = λ v. (tt, v) }
entered_same g (heard role j) (suc n) x u = unchanged g
entered_same g (begin role) zero x u = record { handed = refl; source = refl; its = λ v. (tt, v) }
entered_same g (begin role) (suc n) x u = unchanged g
entered_same g (set_shares role shares eight) zero x u = record { handed = refl; source = refl; its = λ v. (tt, v) }
entered_same g (set_shares role shares eight) (suc n) x u = unchanged g

works-loads : (h : Hub) (c : Call) → Works c → loads h c ≡ false
works-loads h (hand_in role j rec lent) x = absurd x
works-loads h (run role j request lent) x = refl
works-loads h (fetch role j buffer lent) x = absurd x
works-loads h (heard role j) x = refl
works-loads h (begin role) x = refl
works-loads h (set_shares role shares eight) x = refl

module _ (i : ℕ) (small : i < 8) where
  waits-next : (h : Hub) (c : Call) (k : Kind) → kind i c ≡ k → Calm i h c → (step k c (seat i h)).waits ≡ (seat i h).waits
  waits-next h c own e f = own_waits (seat i h) c (f e)
  waits-next h c other e f = refl
  waits-next h c round e f = refl
  waits-next h c (setting s) e f = refl

  same_next : (h : Hub) (c : Call) (g : Ledger) (k : Kind) → kind i c ≡ k → Calm i h c → OwnLent i h c → Same g (noted_by k (answer h c).number (loads h c) c g)
  same_next h c g own e f u = rw (works-loads h c (f e)) (entered_same g c (answer h c).number (f e) (u e))
  same_next h c g other e f u = unchanged g
  same_next h c g round e f u = unchanged g
  same_next h c g (setting s) e f u = unchanged g

  -- ---- a list of them
  pub calm_after : (h : Hub) (g : Ledger) (calls : List Call) → Eight h.desk → Along next (Calm i) h calls → Along next (OwnLent i) h calls → Stays i h g calls
  unfolding Along after_all ledger_after
  calm_after h g [] w f u = record { waits = refl; handed = refl; source = refl; its = λ v. v }
  calm_after h g (c ∷ calls) w f u =
      let s = same_next h c g (kind i c) refl f.0 u.0 in
      let r = calm_after (next h c) (noted i h c g) calls (eight_next h c w) f.1 u.1 in
      record {
        waits = r.waits ∙ ap (λ (a : Seat). a.waits) (seat_next h i small w c) ∙ waits-next h c (kind i c) refl f.0;
        handed = r.handed ∙ s.handed;
        source = r.source ∙ s.source;
        its = λ v. r.its (s.its v);
      }
