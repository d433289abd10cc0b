-- The last load of a sector in a list of calls, and what the ledger says of the calls since; there is one exactly if the sector has a source. Assumes nothing.
use mathlib.Core.Path.{◌≡◌, refl, sym, ap, ◌∙◌, subst}
use mathlib.Core.Bool.{Bool, true, false}
use mathlib.Core.List.{List, [], ◌∷◌, ◌++◌}
use Prim.Native.Nat.{ℕ, zero, suc, ◌<◌}
use native.Mathlib.Omega.{arith}
use lib.Dec.{T}
use lib.IntN.{ℤ}
use Rattle.lists.specs.Histories.{after_all, Each}
use Rattle.lists.proofs.Histories.{Along, each_of}
use Rattle.desk_laws.specs.Calls.{Call, Hub, new, loads, answer, next, after, Kind, own, other, round, setting, kind, Loads, NoLoad, EachNoLoad, OwnLent}
use Rattle.desk_laws.specs.Ledger.{nothing, Ledger, fresh, if_accepted, noted, ledger_after, ledger, EachIts}
use Rattle.desk_laws.specs.Loads.{SourceIfLoaded}
use Rattle.desk_laws.proofs.Seats.{seat, own_loads_lem, eight_after, eight_new}
use Rattle.desk_laws.proofs.Ledgers.{no_source, own_loading, own_entry, noted_all, ledger_append}

-- ---- the last load of a list of calls

module _ (i : ℕ) where
  -- what the ledger says of calls that do not load the sector
  pub record Tail (h : Hub) (g : Ledger) (calls : List Call) : Type 0 where
    pub none : Along next (NoLoad i) h calls
    pub source : (ledger_after i h g calls).source ≡ g.source
    pub its : EachIts (ledger_after i h g calls).since → Along next (OwnLent i) h calls × EachIts g.since

  -- the calls before the last load, that load, and those after it
  pub record Split (h : Hub) (g : Ledger) (calls : List Call) : Type 0 where
    pub before : List Call
    pub load : Call
    pub rest : List Call
    pub is : calls ≡ before ++ load ∷ rest
    pub loads : Loads i (after h before) load
    pub tail : Tail (next (after h before) load) (noted i (after h before) load (ledger_after i h g before)) rest

  pub data Last (h : Hub) (g : Ledger) (calls : List Call) : Type 0 where
    quiet : Tail h g calls → Last h g calls
    split : Split h g calls → Last h g calls

  -- a call before those that do not load the sector
  module _ (h : Hub) (g : Ledger) (c : Call) (calls : List Call) where
    -- that is its own, accepted or refused
    quiet_own : (n : ℕ) → (answer h c).number ≡ n → kind i c ≡ own → loads h c ≡ false → noted i h c g ≡ if_accepted n false c g
        → Tail (next h c) (noted i h c g) calls → Tail h g (c ∷ calls)
    unfolding Along ledger_after EachIts
    quiet_own zero z e f s t = record {
      none = (λ k. f, t.none);
      source = t.source ∙ ap (λ (m : Ledger). m.source) s;
      its = λ u.
          let v = t.its u in
          let y : EachIts (c ∷ g.since) = subst (λ (m : Ledger). EachIts m.since) s v.1 in
          ((λ k a. y.0, v.0), y.1);
    }
    quiet_own (suc n) z e f s t = record {
      none = (λ k. f, t.none);
      source = t.source ∙ ap (λ (m : Ledger). m.source) s;
      its = λ u.
          let v = t.its u in
          ((λ k a. absurd (omega (arith, z, a)), v.0), subst (λ (m : Ledger). EachIts m.since) s v.1);
    }

    -- or not its own
    quiet_other : (kind i c ≡ own → ⊥) → noted i h c g ≡ g → Tail (next h c) (noted i h c g) calls → Tail h g (c ∷ calls)
    unfolding Along ledger_after
    quiet_other d s t = record {
      none = (λ k. absurd (d k), t.none);
      source = t.source ∙ ap (λ (m : Ledger). m.source) s;
      its = λ u. let v = t.its u in ((λ k a. absurd (d k), v.0), subst (λ (m : Ledger). EachIts m.since) s v.1);
    }

    by_load : (b : Bool) → loads h c ≡ b → kind i c ≡ own → Tail (next h c) (noted i h c g) calls → Last h g (c ∷ calls)
    unfolding after_all ledger_after
    by_load true f e t = split (record { before = []; load = c; rest = calls; is = refl; loads = (e, f); tail = t })
    by_load false f e t =
        let s : noted i h c g ≡ if_accepted (answer h c).number false c g = rw (e, f) in
        quiet (quiet_own (answer h c).number refl e f s t)

    by_kind : (k : Kind) → kind i c ≡ k → Tail (next h c) (noted i h c g) calls → Last h g (c ∷ calls)
    by_kind own e t = by_load (loads h c) refl e t
    by_kind other e t = quiet (quiet_other (λ o. let z : ◌≡◌ {A = ℕ} 0 1 = cc in omega arith) (rw e) t)
    by_kind round e t = quiet (quiet_other (λ o. let z : ◌≡◌ {A = ℕ} 0 1 = cc in omega arith) (rw e) t)
    by_kind (setting s) e t = quiet (quiet_other (λ o. let z : ◌≡◌ {A = ℕ} 0 1 = cc in omega arith) (rw e) t)

    one_more : Last (next h c) (noted i h c g) calls → Last h g (c ∷ calls)
    unfolding after_all ledger_after
    one_more (quiet t) = by_kind (kind i c) refl t
    one_more (split p) =
        split (record { before = c ∷ p.before; load = p.load; rest = p.rest; is = ap (λ (t : List Call). c ∷ t) p.is; loads = p.loads; tail = p.tail })

  pub last : (h : Hub) (g : Ledger) (calls : List Call) → Last h g calls
  unfolding Along ledger_after
  last h g [] = quiet (record { none = tt; source = refl; its = λ e. (tt, e) })
  last h g (c ∷ calls) = one_more h g c calls (last (next h c) (noted i h c g) calls)

-- ---- a source exactly if some call loaded the sector

module _ (i : ℕ) (small : i < 8) (areas : ℕ → List ℤ) (calls : List Call) where
  no_load_no_source : EachNoLoad i (new areas) calls → (ledger i areas calls).source ≡ nothing
  unfolding EachNoLoad
  no_load_no_source f = by_none (last i (new areas) fresh calls)
    where
      by_none : Last i (new areas) fresh calls → (ledger i areas calls).source ≡ nothing
      by_none (quiet t) = t.source
      by_none (split p) =
          absurd (subst T (sym p.loads.1 ∙ f p.load (record { before = p.before; rest = p.rest; is = p.is }) p.loads.0) tt)

  no_source_no_load : (ledger i areas calls).source ≡ nothing → EachNoLoad i (new areas) calls
  unfolding EachNoLoad ledger_after
  no_source_no_load s = by_none (last i (new areas) fresh calls)
    where
      by_none : Last i (new areas) fresh calls → Each next (NoLoad i) (new areas) calls
      by_none (quiet t) = each_of next (NoLoad i) (new areas) calls t.none
      by_none (split p) =
          let h = after (new areas) p.before in
          let w = eight_after (new areas) p.before (eight_new areas) in
          let g = ledger i areas p.before in
          let o = own_entry i small h p.load g w p.loads.0 in
          let e = ap (ledger i areas) p.is ∙ ledger_append i (new areas) fresh p.before (p.load ∷ p.rest) in
          let z = sym (ap (λ (m : Ledger). m.source) o) ∙ sym p.tail.source ∙ sym (ap (λ (m : Ledger). m.source) e) ∙ s in
          let r = own_loading g (seat i h) (noted_all i small areas p.before) p.load (sym (own_loads_lem h i small w p.load p.loads.0) ∙ p.loads.1) in
          absurd (no_source r.rec (sym z ∙ r.source))

pub source_if_loaded : SourceIfLoaded
source_if_loaded i areas calls small = (no_load_no_source i small areas calls, no_source_no_load i small areas calls)
