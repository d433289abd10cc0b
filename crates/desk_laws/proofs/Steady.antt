-- What holds of a sector until it is loaded. Assumes nothing.
use mathlib.Core.Path.{◌≡◌, refl, sym, ◌∙◌, subst}
use mathlib.Core.Bool.{Bool, true, false, not}
use mathlib.Core.List.{List, [], ◌∷◌}
use Prim.Native.Nat.{ℕ, zero, suc, ◌<◌}
use lib.Dec.{T}
use Rattle.lists.specs.Histories.{after_all}
use Rattle.lists.proofs.Histories.{Along}
use Rattle.desk_laws.specs.Calls.{Lent, Call, hand_in, run, fetch, heard, begin, set_shares, Hub, loads_if, next, after, Kind, own, other, round, setting, kind, NoLoad}
use Rattle.desk_laws.proofs.Seats.{Seat, seat, Eight, kept_seat, hand_seat, run_seat, fetch_seat, hand_number, seat_must_wait, run_number, fetch_number, seat_brings, seat_grant, own_next, own_loads, own_loads_lem, refilled, sharing, step, seat_next, eight_next}

-- P is kept by a Run, granted or refused, by a matrix that must wait, by the begin of a round where Q holds, and by a share that the sector is given
pub record Steady (Q P : Seat → Type 0) : Type 0 where
  pub ran : (n request : ℕ) (a : Seat) (lent : Lent) → P a → P (run_seat n a (seat_grant a request) lent)
  pub kept : (rec : List ℕ) (a : Seat) → seat_must_wait a ≡ true → P a → P (kept_seat a rec)
  pub began : (a : Seat) → Q a → P a → P (refilled a)
  pub set : (s : ℕ) (a : Seat) → P a → P (sharing a s)

module _ (Q P : Seat → Type 0) (r : Steady Q P) where
  hand_steady : (a : Seat) (rec : List ℕ) (lent : Lent) (n : ℕ) (must : Bool) → seat_must_wait a ≡ must → loads_if n (not must) ≡ false → P a → P (hand_seat n must a rec lent)
  hand_steady a rec lent zero true e f x = r.kept rec a e x
  hand_steady a rec lent zero false e f x = absurd (subst T f tt)
  hand_steady a rec lent (suc n) must e f x = x

  fetch_steady : (a : Seat) (lent : Lent) (n : ℕ) (brought : Bool) → loads_if n brought ≡ false → P a → P (fetch_seat n brought a lent)
  fetch_steady a lent zero true f x = absurd (subst T f tt)
  fetch_steady a lent zero false f x = x
  fetch_steady a lent (suc n) brought f x = x

  own_steady : (a : Seat) (c : Call) → own_loads a c ≡ false → P a → P (own_next a c)
  own_steady a (hand_in role j rec lent) f x = hand_steady a rec lent (hand_number role a rec lent) (seat_must_wait a) refl f x
  own_steady a (run role j request lent) f x = r.ran (run_number role a request lent) request a lent x
  own_steady a (fetch role j buffer lent) f x = fetch_steady a lent (fetch_number role a buffer lent) (seat_brings role a) f x
  own_steady a (heard role j) f x = x
  own_steady a (begin role) f x = x
  own_steady a (set_shares role shares eight) f x = x

  module _ (i : ℕ) (small : i < 8) (h : Hub) (c : Call) (w : Eight h.desk) (f : NoLoad i h c) (q : kind i c ≡ round → Q (seat i h)) (x : P (seat i h)) where
    steady_kind : (k : Kind) → kind i c ≡ k → P (step k c (seat i h))
    steady_kind own e = own_steady (seat i h) c (sym (own_loads_lem h i small w c e) ∙ f e) x
    steady_kind other e = x
    steady_kind round e = r.began (seat i h) (q e) x
    steady_kind (setting s) e = r.set s (seat i h) x

    -- so every call but one that loads the sector keeps it
    pub steady_next : P (seat i (next h c))
    steady_next = subst P (sym (seat_next h i small w c)) (steady_kind (kind i c) refl)

-- ---- and what they keep wherever rounds begin

abbrev pub Any : Seat → Type 0
Any a = Unit {0}

pub steady_after : (P : Seat → Type 0) → Steady Any P → (i : ℕ) → i < 8 → (h : Hub) (calls : List Call) → Eight h.desk → Along next (NoLoad i) h calls → P (seat i h)
    → P (seat i (after h calls))
unfolding Along after_all
steady_after P r i small h [] w f x = x
steady_after P r i small h (c ∷ calls) w f x =
    steady_after P r i small (next h c) calls (eight_next h c w) f.1 (steady_next Any P r i small h c w f.0 (λ e. tt) x)
