-- Where nothing is due any more, each recovery has ended.
use Rattle.std.proofs.Common.{◌≡◌, ℕ, zero, suc, ◌<◌, Bool, true, false, List, [], ◌∷◌, ◌++◌, slice_get, Option, Some, None, refl, sym, ap, ◌∙◌, subst, arith}
use Rattle.std.specs.Prelude.{◌==◌, ◌&&◌, is_none}
use Rattle.std.proofs.lemmas.Bool.Decides.{nat_tests}
use Rattle.std.proofs.lemmas.Option.{none-some, same_Some}
use Rattle.world.specs.RecoveryCore.OwnStep.{OwnStep}
use Rattle.world.specs.RecoveryCore.OwnStep.TheVariants as step
use Rattle.world.specs.RecoveryCore.Primaries.{own_step}
use Rattle.script_lang.specs.declared.instructions.Instruction.TheVariants as says
use Rattle.script_lang.specs.declared.instructions.ScriptLine.{ScriptLine}
use Rattle.script_lang.specs.Grammar.{numbered}
use Rattle.world.specs.Parts.{Lower, idle, writes, serves, recovers, ended_below, Told, Leading, Primary, no_primary, was_told, leads, has_led}
use Rattle.world.specs.Safe.{Has}
use Rattle.world.specs.Worlds.{World, start}
use Rattle.world.specs.Connections.{is_alive}
use Rattle.world.specs.Enabled.{can_down, can_up, is_commit, leads_on, leads_step_on, primary_has_asked}
use Rattle.world_laws.proofs.FactTables.{and-right}
use Rattle.world_orders.proofs.Clients.{clash}
use Rattle.play_model.specs.declared.dues.Due.TheVariants as due
use Rattle.play_model.specs.declared.recoveries.Recovery.{Recovery}
use Rattle.play_model.specs.Dues.{Queues, is_open, is_open_above, when, when_due, upto, own_dues, reader_dues, primary_dues, conn_dues, dues}
use Rattle.play_model.specs.Lines.{Plays, PlaysLines, blocks_of}
use Rattle.play_model.specs.Recoveries.{acts, leads_due, primary_due, recovery_due}
use Rattle.play_model.specs.States.{PlayState, world_of, opened}
use Rattle.play_scripts.specs.Fitting.{ScriptFits, begun}
use Rattle.play_scripts.specs.Recoveries.{recovery_numbers}
use Rattle.play_scripts.proofs.NumberingLemmas.{ascending_differ}
use Rattle.play_scripts.proofs.RecoveryLemmas.{plays_recover}
use Rattle.world_recovery_ends.specs.Going.{takes_request, GoesOn, hears, answers, steps, asks}
use Rattle.world_recovery_ends.proofs.Going.{all-go-on}
use Rattle.world_recovery_ends.proofs.Leading.{mapped-at}
use Rattle.world_recovery_ends.proofs.Stopping.{all-have-stopped}
use Rattle.play_recovery_ends.specs.Endings.{PlaysTo, IsTaken, WasStopped, NeverBegan, RecoveryEnds, result, stopped, unbegun}
use Rattle.play_recovery_ends.proofs.Worlds.{IsUntold}
use Rattle.play_recovery_ends.proofs.Plays.{Origin, Playing, Ended, lines-playing}

-- NOTHING IS LISTED

none-left : {A : Type 0} (xs ys : List A) → xs ++ ys ≡ [] → xs ≡ []
none-left [] ys e = refl
none-left (x ∷ xs) ys e = cc

none-right : {A : Type 0} (xs ys : List A) → xs ++ ys ≡ [] → ys ≡ []
none-right [] ys e = e
none-right (x ∷ xs) ys e = cc

not-when : {A : Type 0} (b : Bool) (x : A) → when b x ≡ [] → b ≡ false
not-when true x e = cc
not-when false x e = refl

none-below : {A : Type 0} (f : ℕ → List A) (n c : ℕ) → upto f n ≡ [] → c < n → f c ≡ []
none-below f zero c e lt = absurd (omega (arith, lt))
none-below {A} f (suc n) c e lt = go (c == n) refl (none-below f n c (none-left (upto f n) (f n) e))
  where
    go : (b : Bool) → (c == n) ≡ b → (c < n → f c ≡ []) → f c ≡ []
    go true q before = subst (λ (m : ℕ). f m ≡ []) (sym (grind (arith, nat_tests, q))) (none-right (upto f n) (f n) e)
    go false q before = before (grind (arith, nat_tests, q, lt))

-- nothing is due of primaries and connections
record IsStill (w : World) (queues : Queues) (rs : List Recovery) : Type 0 where
  primaries : primary_dues w queues rs ≡ []
  conns : upto (conn_dues w queues) w.next_conn ≡ []

settled-still : (blocks : List ℕ) (p : PlayState) → dues blocks p ≡ [] → IsStill (world_of p) p.queues p.recoveries
unfolding dues
settled-still blocks p e =
    let behind = none-right (own_dues (world_of p) p.queues blocks) _ e in
    let later = none-right (reader_dues (world_of p) p.queues p.asks) _ behind in
    record {
      primaries = none-left (primary_dues (world_of p) p.queues p.recoveries) _ later;
      conns = none-right (primary_dues (world_of p) p.queues p.recoveries) _ later;
    }

not-due : (w : World) (queues : Queues) (rs : List Recovery) (k : ℕ) (r : Recovery) → primary_dues w queues rs ≡ [] → slice_get rs k ≡ Some r → recovery_due w r ≡ false
not-due w queues [] k r e at = absurd (none-some r at)
not-due w queues (x ∷ rs) zero r e at = subst (λ (y : Recovery). recovery_due w y ≡ false) (same_Some x r at) (not-when (recovery_due w x) (due.Primary x) (none-left (when_due w queues (due.Primary x)) _ e))
not-due w queues (x ∷ rs) (suc k) r e at = not-due w queues rs k r (none-right (when_due w queues (due.Primary x)) _ e) at

-- A PRIMARY WHOSE NODE LIVES ON

-- the lower end of a recovery's connection isn't over
open-takes : (l : Lower) → takes_request l ≡ true → is_open l ≡ true
open-takes idle e = refl
open-takes (writes m) e = cc
open-takes (serves b s) e = cc
open-takes recovers e = refl
open-takes ended_below e = cc

both : (a b : Bool) → a ≡ true → b ≡ true → (a && b) ≡ true
both true b p q = q
both false b p q = cc

step-acts : (s : OwnStep) → leads_on None s ≡ true → acts s ≡ true
step-acts step.Waits e = cc
step-acts (step.Updates c) e = refl
step-acts (step.Commits c) e = refl
step-acts (step.Ends r) e = refl

commit-acts : (s : OwnStep) → is_commit s ≡ true → acts s ≡ true
commit-acts step.Waits e = cc
commit-acts (step.Updates c) e = refl
commit-acts (step.Commits c) e = refl
commit-acts (step.Ends r) e = refl

module _ (w : World) (queues : Queues) (rs : List Recovery) (still : IsStill w queues rs) (r : Recovery) (has : Has rs r) where
  undue : recovery_due w r ≡ false
  undue = not-due w queues rs has.place r still.primaries has.there

  module _ (l : Leading) (is : w.primaries r.primary ≡ leads l) (untold : l.told ≡ None) (alive : is_alive w l.at ≡ true) where
    -- it has no step
    not-acting : acts (own_step l.state).does ≡ true → ⊥
    not-acting e =
        let none : is_none l.told ≡ true = ap is_none untold in
        let due_so : leads_due w l ≡ true = both (is_alive w l.at) (is_none l.told && acts (own_step l.state).does) alive (both (is_none l.told) (acts (own_step l.state).does) none e) in
        clash (recovery_due w r) undue (ap (λ (q : Primary). primary_due q w r) is ∙ due_so)

    conn-none : (c : ℕ) → c < w.next_conn → conn_dues w queues c ≡ []
    conn-none c lt = none-below (conn_dues w queues) w.next_conn c still.conns lt

    not-going : GoesOn w r.primary → ⊥
    not-going (hears c o e) =
        let none = none-right (when_due w queues (due.Ready (record { 0 = c }))) _ (none-right (when_due w queues (due.Down (record { 0 = c }))) _ (conn-none c o.known)) in
        let shut = not-when (is_open_above w (w.dialled c).upper && can_up w c) (due.Up (record { 0 = c })) none in
        clash (is_open_above w (w.dialled c).upper && can_up w c) shut (both (is_open_above w (w.dialled c).upper) (can_up w c) (ap (is_open_above w) o.upper) e)
    not-going (answers c o t e) =
        let shut = not-when (is_open (w.lowers c) && can_down w c) (due.Down (record { 0 = c })) (none-left (when_due w queues (due.Down (record { 0 = c }))) _ (conn-none c o.known)) in
        clash (is_open (w.lowers c) && can_down w c) shut (both (is_open (w.lowers c)) (can_down w c) (open-takes (w.lowers c) t) e)
    not-going (steps e) =
        let on : (is_alive w l.at && leads_on l.told (own_step l.state).does) ≡ true = ap (λ (q : Primary). leads_step_on q w) (sym is) ∙ e in
        not-acting (step-acts (own_step l.state).does (ap (λ (t : Option Told). leads_on t (own_step l.state).does) (sym untold) ∙ and-right (is_alive w l.at) (leads_on l.told (own_step l.state).does) on))
    not-going (asks e) =
        let on : (is_alive w l.at && is_none l.told && is_commit (own_step l.state).does) ≡ true = ap (λ (q : Primary). primary_has_asked q w) (sym is) ∙ e in
        not-acting (commit-acts (own_step l.state).does (and-right (is_alive w l.at && is_none l.told) (is_commit (own_step l.state).does) on))

-- WHAT EACH RECOVERY COMES TO

module _ (shelves : ℕ) (script : List ScriptLine) (end : PlayState) (fits : ScriptFits shelves script) (plays : Plays script end) where
  abbrev blocks : List ℕ
  blocks = blocks_of fits.body

  abbrev old : PlayState
  old = opened fits.nodes fits.seed

  abbrev Ends : Type 0
  Ends = Ended blocks fits.body old end

  starts : Playing blocks fits.body old 0 old
  unfolding start
  starts = record {
    sound = record {
      untold = record { each = λ i. tt };
      led = record { each = λ i l is. cc };
      members = λ r has. absurd (none-some r has.there);
      runs = λ r has may. absurd (none-some r has.there);
    };
    origins = λ r has. absurd (none-some r has.there);
  }

  ends : Ends
  ends =
      let body : PlaysLines blocks fits.body old end = subst (λ (ls : List ScriptLine). Plays ls end) fits.parts plays in
      lines-playing blocks fits.body old (ascending_differ 0 fits.body fits.ascend) (begun fits.nodes fits.seed) [] fits.body old end refl refl fits.lines starts body

  abbrev Comes : Recovery → Type 0
  Comes r = Origin blocks fits.body old ends.far end r

  taken-at : (i : ℕ) (r : Recovery) → r.primary ≡ i → (o : Comes r) → IsTaken script i r.node o.taken
  taken-at i r number o = record {
    first = numbered fits.first (says.Nodes fits.nodes);
    second = numbered fits.second (says.Seed fits.seed);
    front = o.front;
    line = o.line;
    rest = o.rest;
    parts = fits.parts ∙ ap (λ (ls : List ScriptLine). numbered fits.first (says.Nodes fits.nodes) ∷ numbered fits.second (says.Seed fits.seed) ∷ ls) (sym o.parts);
    count = fits.nodes;
    nodes_are = refl;
    seed = fits.seed;
    seed_is = refl;
    came = subst (λ (ls : List ScriptLine). PlaysTo (blocks_of ls) o.front old o.taken) (sym o.parts) o.came;
    number_is = o.number_is ∙ number;
    block = o.block;
    members = o.members;
    says_so = o.says_so;
  }

  -- it never began
  never-began : (i : ℕ) (r : Recovery) → Has end.recoveries r → r.primary ≡ i → r.may_begin ≡ false → NeverBegan script end i
  never-began i r has number may =
      let o = ends.playing.origins r has in
      record { line = record { node = r.node; taken = o.taken; is_taken = taken-at i r number o; since = o.since; joins = o.joins }; idle = o.idle may }

  -- its node stopped
  was-stopped : (i : ℕ) (l : Leading) → (world_of end).primaries i ≡ leads l → is_alive (world_of end) l.at ≡ false → WasStopped script end i l
  was-stopped i l is dead =
      let b = ends.playing.sound.led.each i l is in
      let o = ends.playing.origins b.recovery b.has in
      record {
        line = record { node = b.recovery.node; taken = o.taken; is_taken = taken-at i b.recovery b.number o; since = o.since; joins = o.joins };
        there = b.node;
        stops = o.stops l (ap (world_of end).primaries b.number ∙ is) dead;
        leading = all-have-stopped end.nodes end.events i l is dead;
      }

  still : IsStill (world_of end) end.queues end.recoveries
  still = settled-still blocks end ends.settled

  recovery-ends : (r : Recovery) → Has end.recoveries r → RecoveryEnds script end r.primary
  recovery-ends r has = go ((world_of end).primaries r.primary) refl
    where
      may-not : (may runs : Bool) → (may ≡ true → runs ≡ true) → (may && runs) ≡ false → may ≡ false
      may-not true runs on e = absurd (clash runs e (on refl))
      may-not false runs on e = refl

      leading : (l : Leading) → (world_of end).primaries r.primary ≡ leads l → (b : Bool) → is_alive (world_of end) l.at ≡ b → RecoveryEnds script end r.primary
      leading l is true q =
          absurd (not-going (world_of end) end.queues end.recoveries still r has l is (subst IsUntold is (ends.playing.sound.untold.each r.primary)) q (all-go-on end.nodes end.events r.primary l is q))
      leading l is false q = stopped l is (was-stopped r.primary l is q)

      go : (q : Primary) → (world_of end).primaries r.primary ≡ q → RecoveryEnds script end r.primary
      go no_primary is = unbegun is (never-began r.primary r has refl (may-not r.may_begin ((world_of end).running r.node.0) (ends.playing.sound.runs r has)
          (ap (λ (q : Primary). primary_due q (world_of end) r) (sym is) ∙ undue (world_of end) end.queues end.recoveries still r has)))
      go (was_told b t) is = absurd (subst IsUntold is (ends.playing.sound.untold.each r.primary))
      go (leads l) is = leading l is (is_alive (world_of end) l.at) refl
      go (has_led x) is = result x is

  pub plays-end : (i : ℕ) → Has (recovery_numbers script) i → RecoveryEnds script end i
  plays-end i n =
      let m = mapped-at (λ (r : Recovery). r.primary) end.recoveries n.place i (subst (λ (ns : List ℕ). slice_get ns n.place ≡ Some i) (sym (plays_recover script end plays)) n.there) in
      subst (RecoveryEnds script end) m.is (recovery-ends m.from (record { place = n.place; there = m.there }))
