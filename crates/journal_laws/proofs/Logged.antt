-- Any list of adds and sweeps from used count 0: what the log holds is what was accepted and survived. Assumes nothing.
use mathlib.Core.Path.{◌≡◌, refl, sym, ap, ap₂, ◌∙◌, subst}
use mathlib.Core.Bool.{Bool, true, false, ◌&&◌, cond}
use mathlib.Core.Logic.{⊎_elim}
use mathlib.Core.List.{List, [], ◌∷◌, ◌++◌, append_assoc, append-nil}
use mathlib.Core.Option.{some}
use Prim.Native.Nat.{ℕ, zero, suc, ◌+◌, ◌-◌, ◌<◌, ◌≤◌}
use native.Mathlib.Omega.{arith}
use borrow.Author.Tests.{le-ltb}
use lib.ListN.{length, take, drop, length-append, length-drop}
use lib.Seq.{length-take-le, take_at, take-append_seam}
use Rattle.lists.specs.Histories.{after_all, Place}
use Rattle.lists.specs.Lists.{tabulate}
use Rattle.lists.proofs.Tabulate.{length-tabulate}
use Rattle.lists.proofs.Passing.{and_parts}
use Rattle.refusals.specs.Refusals.{first}
use Rattle.journal.specs.Entry.{Entry, entry_bytes, log_bytes}
use Rattle.journal.specs.Held.{held, is_some}
use Rattle.journal.specs.Retention.{retention, is_kept, keep}
use Rattle.journal.specs.Outcome.{LogOutcome}
use Rattle.journal.specs.Add.{entry_test, room_test, log_add_refusal, log_add_by, log_add_of}
use Rattle.journal.specs.Sweep.{log_sweep_by}
use Rattle.journal.proofs.EntryBytes.{entry_length}
use Rattle.journal.proofs.Calls.{add-accepted}
use Rattle.journal_laws.specs.Calls.{Call, add, sweep, fill, Log, empty_log, outcome, number, next, after}
use Rattle.journal_laws.specs.Logged.{entry_of, survives, logged_by, logged, AllLogged, NothingLost, NoneTooOld}
use Rattle.journal_laws.proofs.Places.{place-first, place_later, place_none, place-cases, place_right, place_either}
use Rattle.journal_laws.proofs.Format.{AllSound, sound_append, written_append, entries-written}
use Rattle.journal_laws.proofs.Keeping.{kept-before, before-kept, keep_sound, kept_shorter}
use Rattle.journal_laws.proofs.Swept.{sweep_some}

-- ---- a log of n bytes whose used bytes are those of the entries
record Holding (n : ℕ) (l : Log) (es : List Entry) : Type 0 where
  size : length l.buffer ≡ n
  room : l.used ≤ length l.buffer
  sound : AllSound es
  same : take l.used l.buffer ≡ log_bytes es

-- entries written in front of a buffer
front : (n : ℕ) (es : List Entry) (ys : List ℕ) → AllSound es → length (log_bytes es ++ ys) ≡ n
    → Holding n (record { used = length (log_bytes es); buffer = log_bytes es ++ ys }) es
front n es ys s e =
    let a = length-append (log_bytes es) ys in
    record { size = e; room = omega arith; sound = s; same = take-append_seam (log_bytes es) ys }

-- the entries after a call, by its number
abbrev stepped : ℕ → Call → List Entry → List Entry
stepped zero (add kind day body) es = es ++ entry_of kind day body ∷ []
stepped zero (sweep day) es = keep day es
stepped zero (fill f) es = es
stepped (suc n) c es = es

module _ {n : ℕ} {l : Log} {es : List Entry} (h : Holding n l es) where
  holding_held : held l.used l.buffer ≡ some es
  unfolding held
  holding_held = rw (le-ltb (length l.buffer) l.used h.room, h.same) (entries-written es h.sound)

  holding_used : l.used ≡ length (log_bytes es)
  holding_used = sym (length-take-le l.used l.buffer h.room) ∙ ap length h.same

  -- ---- a sweep is accepted, and leaves what it keeps
  sweep-number : (day : ℕ) → number l (sweep day) ≡ 0
  unfolding outcome log_sweep_by
  sweep-number day = ap (λ (o : LogOutcome). o.reply.number) (sweep_some day l.used l.buffer es holding_held)

  sweep_step : (day : ℕ) → Holding n (next l (sweep day)) (keep day es)
  unfolding next outcome log_sweep_by
  sweep_step day =
      let u = holding_used in
      let k = kept_shorter day es in
      let m = length (log_bytes (keep day es)) in
      let d = length-drop m l.buffer in
      let r = h.room in
      rw (sweep-number day, sweep_some day l.used l.buffer es holding_held)
      (front n (keep day es) (drop m l.buffer) (keep_sound day es h.sound)
      (length-append (log_bytes (keep day es)) (drop m l.buffer) ∙ omega (arith, h.size)))

  -- ---- an add
  module _ (kind day : ℕ) (body : List ℕ) where
    add-number : number l (add kind day body) ≡ log_add_refusal kind body l.used l.buffer
    unfolding outcome log_add_of log_add_by
    add-number = go (log_add_refusal kind body l.used l.buffer)
      where
        go : (m : ℕ) → (log_add_by m (entry_of kind day body) l.used l.buffer).reply.number ≡ m
        go zero = refl
        go (suc m) = refl

    add_tests : log_add_refusal kind body l.used l.buffer ≡ first (entry_test kind body) (room_test n (length (log_bytes es)) (length body))
    unfolding log_add_refusal
    add_tests = rw (ap is_some holding_held, h.size, holding_used)

    accepted : log_add_refusal kind body l.used l.buffer ≡ 0 → Holding n (next l (add kind day body)) (es ++ entry_of kind day body ∷ [])
    unfolding next outcome log_add_of log_add_by log_bytes AllSound
    accepted z =
        let a = add-accepted kind body l.used l.buffer z in
        let x = entry_of kind day body in
        let e = entry_length x in
        let w : log_bytes (es ++ x ∷ []) ≡ take l.used l.buffer ++ entry_bytes x =
        written_append es (x ∷ []) ∙ ap₂ (λ (p q : List ℕ). p ++ q) (sym h.same) (append-nil (entry_bytes x)) in
        let m : length (log_bytes (es ++ x ∷ [])) ≡ l.used + length (entry_bytes x) =
        ap length w ∙ length-append (take l.used l.buffer) (entry_bytes x) ∙ ap (λ (k : ℕ). k + length (entry_bytes x)) (length-take-le l.used l.buffer h.room) in
        let d = length-drop (length (log_bytes (es ++ x ∷ []))) l.buffer in
        rw (add-number ∙ z, z, ← w, ← m)
        (front n (es ++ x ∷ []) (drop (length (log_bytes (es ++ x ∷ []))) l.buffer)
        (sound_append es (x ∷ []) h.sound (record { known = a.known; exact = a.exact }, tt))
        (length-append (log_bytes (es ++ x ∷ [])) (drop (length (log_bytes (es ++ x ∷ []))) l.buffer) ∙ omega (arith, h.size, a.room)))

    refused : (m : ℕ) → log_add_refusal kind body l.used l.buffer ≡ suc m → Holding n (next l (add kind day body)) es
    unfolding next outcome log_add_of log_add_by
    refused m z = rw (add-number ∙ z, z) h

    add_step : Holding n (next l (add kind day body)) (stepped (number l (add kind day body)) (add kind day body) es)
    add_step = rw add-number (go (log_add_refusal kind body l.used l.buffer) refl)
      where
        go : (m : ℕ) → log_add_refusal kind body l.used l.buffer ≡ m → Holding n (next l (add kind day body)) (stepped m (add kind day body) es)
        go zero z = accepted z
        go (suc m) z = refused m z

  -- ---- what the caller writes
  fill-number : (f : ℕ → ℕ) → number l (fill f) ≡ 0
  unfolding outcome
  fill-number f = refl

  fill_step : (f : ℕ → ℕ) → Holding n (next l (fill f)) es
  unfolding next outcome
  fill_step f =
      let t = length-take-le l.used l.buffer h.room in
      let m = length l.buffer - l.used in
      let a = length-append (take l.used l.buffer) (tabulate m f) in
      let b = length-tabulate m f in
      let r = h.room in
      record {
        size = omega (arith, h.size);
        room = omega arith;
        sound = h.sound;
        same = take_at (take l.used l.buffer) (tabulate m f) l.used t ∙ h.same;
      }

  step : (c : Call) → Holding n (next l c) (stepped (number l c) c es)
  step (add kind day body) = add_step kind day body
  step (sweep day) = rw (sweep-number day) (sweep_step day)
  step (fill f) = rw (fill-number f) (fill_step f)

-- ---- the entries that survive a list of calls
unfoldable surviving : List Call → List Entry → List Entry
surviving calls [] = []
surviving calls (e ∷ es) = cond (survives e calls) (e ∷ surviving calls es) (surviving calls es)

surviving_all : (es : List Entry) → surviving [] es ≡ es
unfolding surviving survives
surviving_all [] = refl
surviving_all (e ∷ es) = ap (λ (t : List Entry). e ∷ t) (surviving_all es)

surviving_append : (calls : List Call) (es fs : List Entry) → surviving calls (es ++ fs) ≡ surviving calls es ++ surviving calls fs
unfolding surviving
surviving_append calls [] fs = refl
surviving_append calls (e ∷ es) fs = go (survives e calls) (surviving_append calls es fs)
  where
    go : (t : Bool) → surviving calls (es ++ fs) ≡ surviving calls es ++ surviving calls fs
        → cond t (e ∷ surviving calls (es ++ fs)) (surviving calls (es ++ fs)) ≡ cond t (e ∷ surviving calls es) (surviving calls es) ++ surviving calls fs
    go true h = ap (λ (t : List Entry). e ∷ t) h
    go false h = h

surviving_add : (kind day : ℕ) (body : List ℕ) (calls : List Call) (es : List Entry) → surviving (add kind day body ∷ calls) es ≡ surviving calls es
unfolding surviving survives
surviving_add kind day body calls [] = refl
surviving_add kind day body calls (e ∷ es) = ap (λ (t : List Entry). cond (survives e calls) (e ∷ t) t) (surviving_add kind day body calls es)

surviving_fill : (f : ℕ → ℕ) (calls : List Call) (es : List Entry) → surviving (fill f ∷ calls) es ≡ surviving calls es
unfolding surviving survives
surviving_fill f calls [] = refl
surviving_fill f calls (e ∷ es) = ap (λ (t : List Entry). cond (survives e calls) (e ∷ t) t) (surviving_fill f calls es)

surviving_sweep : (day : ℕ) (calls : List Call) (es : List Entry) → surviving (sweep day ∷ calls) es ≡ surviving calls (keep day es)
unfolding surviving survives keep
surviving_sweep day calls [] = refl
surviving_sweep day calls (e ∷ es) = go (is_kept day e) (survives e calls) refl (surviving_sweep day calls es)
  where
    go : (t u : Bool) → survives e calls ≡ u → surviving (sweep day ∷ calls) es ≡ surviving calls (keep day es)
        → cond (t && u) (e ∷ surviving (sweep day ∷ calls) es) (surviving (sweep day ∷ calls) es) ≡ surviving calls (cond t (e ∷ keep day es) (keep day es))
    go true true z h = rw z (ap (λ (t : List Entry). e ∷ t) h)
    go true false z h = rw z h
    go false u z h = h

-- ---- all calls
split : (m : ℕ) (c : Call) (calls : List Call) (es rest : List Entry) → ((day : ℕ) → c ≡ sweep day → m ≡ 0)
    → surviving calls (stepped m c es) ++ rest ≡ surviving (c ∷ calls) es ++ (logged_by m c calls ++ rest)
unfolding surviving
split zero (add kind day body) calls es rest z =
    ap (λ (t : List Entry). t ++ rest) (surviving_append calls es (entry_of kind day body ∷ []))
    ∙ append_assoc (surviving calls es) (cond (survives (entry_of kind day body) calls) (entry_of kind day body ∷ []) []) rest
    ∙ ap (λ (t : List Entry). t ++ (logged_by 0 (add kind day body) calls ++ rest)) (sym (surviving_add kind day body calls es))
split zero (sweep day) calls es rest z = ap (λ (t : List Entry). t ++ rest) (sym (surviving_sweep day calls es))
split zero (fill f) calls es rest z = ap (λ (t : List Entry). t ++ rest) (sym (surviving_fill f calls es))
split (suc m) (add kind day body) calls es rest z = ap (λ (t : List Entry). t ++ rest) (sym (surviving_add kind day body calls es))
split (suc m) (sweep day) calls es rest z = absurd (omega (arith, z day refl))
split (suc m) (fill f) calls es rest z = ap (λ (t : List Entry). t ++ rest) (sym (surviving_fill f calls es))

holding_after : (n : ℕ) (l : Log) (es : List Entry) (calls : List Call) → Holding n l es → Holding n (after l calls) (surviving calls es ++ logged l calls)
unfolding after_all logged
holding_after n l es [] h = subst (Holding n l) (sym (append-nil (surviving [] es) ∙ surviving_all es)) h
holding_after n l es (c ∷ calls) h =
    let accept : (day : ℕ) → c ≡ sweep day → number l c ≡ 0 = λ day e. ap (number l) e ∙ sweep-number h day in
    subst (Holding n (after (next l c) calls)) (split (number l c) c calls es (logged (next l c) calls) accept)
    (holding_after n (next l c) (stepped (number l c) c es) calls (step h c))

pub all_logged : AllLogged
unfolding surviving log_bytes AllSound
all_logged buffer calls =
    let start : Holding (length buffer) (empty_log buffer) [] = record { size = refl; room = omega arith; sound = tt; same = refl } in
    let h = holding_after (length buffer) (empty_log buffer) [] calls start in
    record {
      holds = holding_held h;
      bytes = h.same;
      used = holding_used h;
      size = h.size;
      adds = λ kind day body. add-number h kind day body ∙ add_tests h kind day body;
      sweeps = λ day. sweep-number h day;
    }

-- ---- nothing is lost that should stay
survives_all : (e : Entry) (calls : List Call) → ((d : ℕ) → Place (sweep d) calls → d < e.day + retention e.kind) → survives e calls ≡ true
unfolding survives
survives_all e [] h = refl
survives_all e (add kind day body ∷ calls) h = survives_all e calls (λ d p. h d (place_later (add kind day body) p))
survives_all e (fill f ∷ calls) h = survives_all e calls (λ d p. h d (place_later (fill f) p))
survives_all e (sweep day ∷ calls) h =
    rw (kept-before day e (h day (place-first (sweep day) calls))) (survives_all e calls (λ d p. h d (place_later (sweep day) p)))

kept_later : (e : Entry) (l : Log) (before rest : List Call) → Place e (logged (after l before) rest) → Place e (logged l (before ++ rest))
unfolding logged after_all
kept_later e l [] rest p = p
kept_later e l (c ∷ before) rest p = place_right (logged_by (number l c) c (before ++ rest)) (kept_later e (next l c) before rest p)

pub nothing_lost : NothingLost
unfolding logged
nothing_lost buffer calls kind day body p z h =
    let e = entry_of kind day body in
    let l = after (empty_log buffer) p.before in
    let here : Place e (logged l (add kind day body ∷ p.rest)) = rw (z, survives_all e p.rest h) (place-first e _) in
    rw p.is (kept_later e (empty_log buffer) p.before (add kind day body ∷ p.rest) here)

-- ---- none stays that should go
survives_last : (e : Entry) (calls : List Call) (d : ℕ) → survives e (calls ++ sweep d ∷ []) ≡ true → is_kept d e ≡ true
unfolding survives
survives_last e [] d h = (and_parts (is_kept d e) true h).0
survives_last e (add kind day body ∷ calls) d h = survives_last e calls d h
survives_last e (fill f ∷ calls) d h = survives_last e calls d h
survives_last e (sweep day ∷ calls) d h = survives_last e calls d (and_parts (is_kept day e) (survives e (calls ++ sweep d ∷ [])) h).1

of_call : (m : ℕ) (c : Call) (later : List Call) (e : Entry) → Place e (logged_by m c later) → survives e later ≡ true
of_call zero (add kind day body) later e p = go (survives (entry_of kind day body) later) refl p
  where
    go : (t : Bool) → survives (entry_of kind day body) later ≡ t → Place e (cond t (entry_of kind day body ∷ []) []) → survives e later ≡ true
    go true h q = ⊎_elim (λ x. ap (λ (f : Entry). survives f later) x ∙ h) (λ y. absurd (place_none y)) (place-cases q)
    go false h q = absurd (place_none q)
of_call zero (sweep day) later e p = absurd (place_none p)
of_call zero (fill f) later e p = absurd (place_none p)
of_call (suc m) c later e p = absurd (place_none p)

swept_last : (l : Log) (calls : List Call) (d : ℕ) (e : Entry) → Place e (logged l (calls ++ sweep d ∷ [])) → is_kept d e ≡ true
unfolding logged
swept_last l [] d e p =
    ⊎_elim (λ x. absurd (none (number l (sweep d)) x)) (λ y. absurd (place_none y)) (place_either (logged_by (number l (sweep d)) (sweep d) []) p)
  where
    none : (m : ℕ) → Place e (logged_by m (sweep d) []) → ⊥
    none zero x = place_none x
    none (suc m) x = place_none x
swept_last l (c ∷ calls) d e p =
    let later = calls ++ sweep d ∷ [] in
    ⊎_elim (λ x. survives_last e calls d (of_call (number l c) c later e x)) (λ y. swept_last (next l c) calls d e y)
    (place_either (logged_by (number l c) c later) p)

pub none_too_old : NoneTooOld
none_too_old buffer calls d e p = before-kept d e (swept_last (empty_log buffer) calls d e p)
