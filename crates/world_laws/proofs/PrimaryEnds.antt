-- What primaries and the office leave in range.
use Rattle.std.proofs.Common.{◌≡◌, ℕ, zero, suc, ◌<◌, ◌≤◌, ◌+◌, Bool, true, false, ◌||◌, List, [], ◌∷◌, length, slice_get, Option, Some, None, IfSome, Ok, Err, refl, subst, arith}
use Rattle.std.specs.Prelude.{◌==◌, ◌&&◌, not, is_none, zip, if◌then◌else◌}
use Rattle.std.proofs.lemmas.Option.{none-some, same_Some}
use Rattle.hd_base.specs.declared.numbers.BlockId.{BlockId}
use Rattle.hd_base.specs.declared.numbers.NodeId.{NodeId}
use Rattle.name_core.specs.declared.calls.Begun.{Begun}
use Rattle.name_core.specs.declared.calls.OfficeAnswer.TheVariants as office
use Rattle.name_core.specs.declared.calls.OfficeCall.{OfficeCall}
use Rattle.name_core.specs.declared.calls.OfficeCall.TheVariants as call
use Rattle.name_core.specs.declared.choice.Chosen.{Chosen}
use Rattle.name_core.specs.Offices.{answer_to}
use Rattle.world.specs.WriterCore.Action.{Action}
use Rattle.world.specs.WriterCore.Action.TheVariants as action
use Rattle.world.specs.WriterCore.Transitions as writer
use Rattle.world.specs.RecoveryCore.OwnStep.{OwnStep}
use Rattle.world.specs.RecoveryCore.OwnStep.TheVariants as own
use Rattle.world.specs.RecoveryCore.Recovered.{Recovered}
use Rattle.world.specs.RecoveryCore.Standing.{Standing}
use Rattle.world.specs.RecoveryCore.Primaries.{PrimaryState, begun_with, own_step, sync_call, is_among, is_awaited, office_refused, heard_at, shuts_at}
use Rattle.world.specs.declared.events.Caller.{Caller}
use Rattle.world.specs.declared.events.Caller.TheVariants as caller
use Rattle.world.specs.Parts.{Message, Place, Told, Leading, Primary, no_primary, was_told, leads, has_led}
use Rattle.world.specs.Worlds.{World, Dial}
use Rattle.world.specs.Connections.{Next, is_conn, is_alive, place_of}
use Rattle.world.specs.Clients.{are_members}
use Rattle.world.specs.Primaries.{primary_change, is_among_conns, dials_answered, numbered, primary_dials, recovery_message, begins_with, begins_as, begins_at, own_recover, updates_on, is_done_with, updates_change, ends_change, leads_step, commits_step, leads_told, own_primary_as, own_primary, heard_of, listens, hears_change, primary_up_as, primary_up, asks_writer, asks_primary, writer_asks, primary_commits, primary_asks, office_event}
use Rattle.world_laws.specs.Placing.{IsConn, IsDialled, IsLeading, IsPrimary, Placed}
use Rattle.world_laws.proofs.FactTables.{if-each, when-each, and-left, and-right}
use Rattle.world_laws.proofs.PlaceConns.{conn-out, no-conn, one-conn}
use Rattle.world_laws.proofs.PlaceFitting.{conn-later, Fits}
use Rattle.world_laws.proofs.PlaceLeaves.{rest, no-dial, first-idle}

primary-fits : (w : World) (i : ℕ) (p : Primary) → IsPrimary w.nodes (w.next_conn + 0) p → Placed w → Fits w (primary_change w i p)
primary-fits w i p q h =
    let k = rest w (w.next_conn + 0) (omega arith) h in
    record {
      dials = no-dial (λ d. IsDialled w.nodes (w.next_conn + 0) d.dialled);
      downs = λ d e. refl;
      ups = λ d e. refl;
      shuts = λ d e. refl;
      lower_at = first-idle w h;
      lower = k.lower;
      writer = k.writer;
      reader = k.reader;
      primary = q;
    }

-- ITS CONNECTIONS

-- connections that were dialled
abbrev AreConns : ℕ → List (Option ℕ) → Type 0
AreConns n cs = (i c : ℕ) → slice_get cs i ≡ Some (Some c) → c < n

are-head : (n : ℕ) (o : Option ℕ) (cs : List (Option ℕ)) → AreConns n (o ∷ cs) → IsConn n o
are-head n None cs h = no-conn n
are-head n (Some c) cs h = one-conn n c (h zero c refl)

are-tail : (n : ℕ) (o : Option ℕ) (cs : List (Option ℕ)) → AreConns n (o ∷ cs) → AreConns n cs
are-tail n o cs h = λ i c e. h (suc i) c e

among-out : (n d : ℕ) (cs : List (Option ℕ)) → AreConns n cs → n ≤ d → is_among_conns cs d ≡ false
among-out n d [] h le = refl
among-out n d (o ∷ cs) h le = rw (conn-out n d o (are-head n o cs h) le) (among-out n d cs (are-tail n o cs h) le)

done-out : (n d : ℕ) (standings : List Standing) (cs : List (Option ℕ)) → AreConns n cs → n ≤ d → is_done_with (zip standings cs) d ≡ false
done-out n d [] cs h le = refl
done-out n d (s ∷ ss) [] h le = refl
done-out n d (s ∷ ss) (o ∷ cs) h le =
    or-false (not (is_awaited s)) (is_conn o d) (is_done_with (zip ss cs) d) (conn-out n d o (are-head n o cs h) le) (done-out n d ss cs (are-tail n o cs h) le)
  where
    or-false : (a b c : Bool) → b ≡ false → c ≡ false → ((a && b) || c) ≡ false
    or-false true b c e f = rw e f
    or-false false b c e f = f

updates-out : (n d : ℕ) (m : Message) (chosen members : List NodeId) (cs : List (Option ℕ)) → AreConns n cs → n ≤ d → updates_on m chosen (zip members cs) d ≡ []
updates-out n d m chosen [] cs h le = refl
updates-out n d m chosen (x ∷ xs) [] h le = refl
updates-out n d m chosen (x ∷ xs) (o ∷ cs) h le =
    if-each (λ (ms : List Message). ms ≡ []) (is_among chosen x && is_conn o d) (m ∷ []) (updates_on m chosen (zip xs cs) d)
    (λ e. absurd (never (is_among chosen x) (is_conn o d) (conn-out n d o (are-head n o cs h) le) e))
    (λ e. updates-out n d m chosen xs cs (are-tail n o cs h) le)
  where
    never : (a b : Bool) → b ≡ false → (a && b) ≡ true → ⊥
    never true b f e = cc
    never false b f e = cc

-- ITS FIRST STEP

-- one answer for each member, and none of a node that doesn't run
abbrev Answering : World → List NodeId → List Bool → Type 0
Answering w ns answers = (i : ℕ) (n : NodeId) → slice_get ns i ≡ Some n → slice_get answers i ≡ Some true → w.running n.0 ≡ true

answers-run : (w : World) (ns : List NodeId) (answers : List Bool) → Answering w ns (dials_answered w ns answers)
answers-run w [] answers i n e f = absurd (none-some n e)
answers-run w (m ∷ ns) [] zero n e f = cc
answers-run w (m ∷ ns) [] (suc i) n e f = answers-run w ns [] i n e f
answers-run w (m ∷ ns) (a ∷ answers) zero n e f =
    subst (λ (x : NodeId). w.running x.0 ≡ true) (same_Some m n e) (and-right a (w.running m.0) (same_Some (a && w.running m.0) true f))
answers-run w (m ∷ ns) (a ∷ answers) (suc i) n e f = answers-run w ns answers i n e f

answered-length : (w : World) (ns : List NodeId) (answers : List Bool) → length ns ≡ length (dials_answered w ns answers)
answered-length w [] answers = refl
answered-length w (n ∷ ns) [] = omega (arith, answered-length w ns [])
answered-length w (n ∷ ns) (a ∷ answers) = omega (arith, answered-length w ns answers)

-- the new connections have numbers from the next one on
numbered-in : (w : World) (i : ℕ) (from : Place) (m : Message) (place next : ℕ) (ns : List NodeId) (bs : List Bool) → length ns ≡ length bs
    → AreConns (next + length (primary_dials w i from m place ns bs)) (numbered next bs)
numbered-in w i from m place next [] [] e j c f = absurd (none-some (Some c) f)
numbered-in w i from m place next [] (b ∷ bs) e j c f = absurd (omega (arith, e))
numbered-in w i from m place next (n ∷ ns) [] e j c f = absurd (none-some (Some c) f)
numbered-in w i from m place next (n ∷ ns) (true ∷ bs) e zero c f = omega (arith, same_Some next c (same_Some (Some next) (Some c) f))
numbered-in w i from m place next (n ∷ ns) (true ∷ bs) e (suc j) c f =
    omega (arith, numbered-in w i from m (place + 1) (next + 1) ns bs (omega (arith, e)) j c f)
numbered-in w i from m place next (n ∷ ns) (false ∷ bs) e zero c f = absurd (none-some c (same_Some None (Some c) f))
numbered-in w i from m place next (n ∷ ns) (false ∷ bs) e (suc j) c f = numbered-in w i from m (place + 1) next ns bs (omega (arith, e)) j c f

answering-tail : (w : World) (n : NodeId) (b : Bool) (ns : List NodeId) (bs : List Bool) → Answering w (n ∷ ns) (b ∷ bs) → Answering w ns bs
answering-tail w n b ns bs h = λ i m e f. h (suc i) m e f

-- its dials reach nodes that run
dials-in : (w : World) (i : ℕ) (from : Place) (m : Message) (place n : ℕ) (ns : List NodeId) (bs : List Bool) → Placed w → from.node < w.nodes → Answering w ns bs
    → (j : ℕ) (d : Dial) → slice_get (primary_dials w i from m place ns bs) j ≡ Some d → IsDialled w.nodes n d.dialled
dials-in w i from m place n [] bs h lt a j d e = absurd (none-some d e)
dials-in w i from m place n (x ∷ xs) [] h lt a j d e = absurd (none-some d e)
dials-in w i from m place n (x ∷ xs) (true ∷ bs) h lt a zero d e =
    subst (λ (y : Dial). IsDialled w.nodes n y.dialled) (same_Some _ d e) (record { to = h.runs x.0 (a zero x refl refl); from = lt; upper = tt })
dials-in w i from m place n (x ∷ xs) (true ∷ bs) h lt a (suc j) d e =
    dials-in w i from m (place + 1) n xs bs h lt (answering-tail w x true xs bs a) j d e
dials-in w i from m place n (x ∷ xs) (false ∷ bs) h lt a j d e =
    dials-in w i from m (place + 1) n xs bs h lt (answering-tail w x false xs bs a) j d e

begins-fits : (w : World) (i : ℕ) (at : Place) (b : BlockId) (begun : Begun) (members : List NodeId) (answers : List Bool) → at.node < w.nodes → Placed w
    → Fits w (begins_with w i at b begun members (dials_answered w members answers))
begins-fits w i at b begun members answers lt h =
    let bs = dials_answered w members answers in
    let m = recovery_message (begun_with b begun members bs) in
    let n = w.next_conn + length (primary_dials w i at m 0 members bs) in
    let k = rest w n (omega arith) h in
    record {
      dials = dials-in w i at m 0 n members bs h lt (answers-run w members answers);
      downs = λ d e. refl;
      ups = λ d e. refl;
      shuts = λ d e. refl;
      lower_at = first-idle w h;
      lower = k.lower;
      writer = k.writer;
      reader = k.reader;
      primary = record { at = lt; conns_of = numbered-in w i at m 0 w.next_conn members bs (answered-length w members answers) };
    }

begins-as : (t : Told) (w : World) (i : ℕ) (at : Place) (b : BlockId) (members : List NodeId) (answers : List Bool) → at.node < w.nodes → Placed w
    → IfSome (begins_as t w i at b members answers) (Fits w)
begins-as (Ok (office.Stamp s)) w i at b members answers lt h = tt
begins-as (Ok (office.Reopened r)) w i at b members answers lt h = tt
begins-as (Ok (office.Begun begun)) w i at b members answers lt h = begins-fits w i at b begun members answers lt h
begins-as (Ok office.Nothing) w i at b members answers lt h = tt
begins-as (Err fault) w i at b members answers lt h = primary-fits w i (has_led (office_refused fault)) tt h

begins-at : (p : Primary) (w : World) (i n : ℕ) (b : BlockId) (members : List NodeId) (answers : List Bool) → Placed w
    → IfSome (begins_at p w i n b members answers) (Fits w)
begins-at no_primary w i n b members answers h = tt
begins-at (was_told asked told) w i n b members answers h =
    when-each (Fits w) (asked.0 == b.0 && w.running n && are_members members) _
    (λ e. begins-as told w i (place_of w n) b members answers
    (h.runs n (and-right (asked.0 == b.0) (w.running n) (and-left (asked.0 == b.0 && w.running n) (are_members members) e))) h)
begins-at (leads l) w i n b members answers h = tt
begins-at (has_led r) w i n b members answers h = tt

pub own-recover-fits : (w : World) (i n : ℕ) (b : BlockId) (members : List NodeId) (answers : List Bool) → Placed w
    → IfSome (own_recover w i n b members answers) (Fits w)
own-recover-fits w i n b members answers h = begins-at (w.primaries i) w i n b members answers h

-- ITS FURTHER STEPS

-- the same primary with another state
led-in : (w : World) (l : Leading) (p : PrimaryState) → IsLeading w.nodes w.next_conn l → IsLeading w.nodes (w.next_conn + 0) (record l { state = p })
led-in w l p k = record { at = k.at; conns_of = λ i c e. omega (arith, k.conns_of i c e) }

updates-fits : (w : World) (i : ℕ) (l : Leading) (p : PrimaryState) (c : Chosen) → IsLeading w.nodes w.next_conn l → Placed w → Fits w (updates_change w i l p c)
updates-fits w i l p c q h =
    let k = primary-fits w i (leads (record l { state = p })) (led-in w l p q) h in
    record {
      dials = k.dials;
      downs = λ d e. updates-out w.next_conn d _ c.members l.state.members l.conns q.conns_of e;
      ups = k.ups;
      shuts = λ d e. done-out w.next_conn d p.standings l.conns q.conns_of e;
      lower_at = k.lower_at;
      lower = k.lower;
      writer = k.writer;
      reader = k.reader;
      primary = k.primary;
    }

ends-fits : (w : World) (i : ℕ) (l : Leading) (r : Recovered) → IsLeading w.nodes w.next_conn l → Placed w → Fits w (ends_change w i l r)
ends-fits w i l r q h =
    let k = primary-fits w i (has_led r) tt h in
    record {
      dials = k.dials;
      downs = k.downs;
      ups = k.ups;
      shuts = λ d e. among-out w.next_conn d l.conns q.conns_of e;
      lower_at = k.lower_at;
      lower = k.lower;
      writer = k.writer;
      reader = k.reader;
      primary = k.primary;
    }

leads-step-fits : (s : OwnStep) (w : World) (i : ℕ) (l : Leading) (p : PrimaryState) → IsLeading w.nodes w.next_conn l → Placed w → IfSome (leads_step s w i l p) (Fits w)
leads-step-fits own.Waits w i l p q h = tt
leads-step-fits (own.Updates c) w i l p q h = updates-fits w i l p c q h
leads-step-fits (own.Commits c) w i l p q h = tt
leads-step-fits (own.Ends r) w i l p q h = ends-fits w i l r q h

commits-fits : (s : OwnStep) (w : World) (i : ℕ) (l : Leading) (t : Told) → IsLeading w.nodes w.next_conn l → Placed w → IfSome (commits_step s w i l t) (Fits w)
commits-fits own.Waits w i l t q h = tt
commits-fits (own.Updates c) w i l t q h = tt
commits-fits (own.Commits c) w i l t q h = ends-fits w i l _ q h
commits-fits (own.Ends r) w i l t q h = tt

leads-told-fits : (t : Option Told) (w : World) (i : ℕ) (l : Leading) → IsLeading w.nodes w.next_conn l → Placed w → IfSome (leads_told t w i l) (Fits w)
leads-told-fits None w i l q h = leads-step-fits (own_step l.state).does w i l (own_step l.state).primary q h
leads-told-fits (Some told) w i l q h = commits-fits (own_step l.state).does w i l told q h

own-primary-as : (p : Primary) (w : World) (i : ℕ) → IsPrimary w.nodes w.next_conn p → Placed w → IfSome (own_primary_as p w i) (Fits w)
own-primary-as no_primary w i q h = tt
own-primary-as (was_told b t) w i q h = tt
own-primary-as (leads l) w i q h = when-each (Fits w) (is_alive w l.at) _ (λ _. leads-told-fits l.told w i l q h)
own-primary-as (has_led r) w i q h = tt

pub own-primary-fits : (w : World) (i : ℕ) → Placed w → IfSome (own_primary w i) (Fits w)
own-primary-fits w i h = own-primary-as (w.primaries i) w i (h.primaries i) h

-- WHAT IT TAKES

hears-fits : (w : World) (i : ℕ) (l : Leading) (place c : ℕ) (x : Next) (o : Option Standing) → IsLeading w.nodes w.next_conn l → c < w.next_conn → Placed w
    → IfSome (hears_change w i l place c x o) (Fits w)
hears-fits w i l place c x None q lt h = tt
hears-fits w i l place c x (Some s) q lt h =
    when-each (Fits w) (listens l.state.phase s) _ (λ _.
    let p : PrimaryState = heard_at l.state place (heard_of x) in
    let k = primary-fits w i (leads (record l { state = p })) (led-in w l p q) h in
    record {
      dials = k.dials;
      downs = k.downs;
      ups = k.ups;
      shuts = λ d e. shut-out (shuts_at l.state place) d e;
      lower_at = k.lower_at;
      lower = k.lower;
      writer = k.writer;
      reader = k.reader;
      primary = k.primary;
    })
  where
    shut-out : (b : Bool) (d : ℕ) → w.next_conn ≤ d → (if b then is_conn (Some c) else (λ (_ : ℕ). false)) d ≡ false
    shut-out true d e = conn-out w.next_conn d (Some c) (one-conn w.next_conn c lt) e
    shut-out false d e = refl

primary-up-as : (p : Primary) (w : World) (i place c : ℕ) (x : Next) → IsPrimary w.nodes w.next_conn p → c < w.next_conn → Placed w
    → IfSome (primary_up_as p w i place c x) (Fits w)
primary-up-as no_primary w i place c x q lt h = tt
primary-up-as (was_told b t) w i place c x q lt h = tt
primary-up-as (leads l) w i place c x q lt h =
    when-each (Fits w) (is_alive w l.at && is_none l.told) _ (λ _. hears-fits w i l place c x (slice_get l.state.standings place) q lt h)
primary-up-as (has_led r) w i place c x q lt h = tt

pub primary-up-fits : (w : World) (i place c : ℕ) (x : Next) → c < w.next_conn → Placed w → IfSome (primary_up w i place c x) (Fits w)
primary-up-fits w i place c x lt h = primary-up-as (w.primaries i) w i place c x (h.primaries i) lt h

-- THE OFFICE

asks-writer-fits : (w : World) (b : ℕ) (c : OfficeCall) → Placed w → Fits w (asks_writer w b c)
asks-writer-fits w b c h =
    let k = rest w (w.next_conn + 0) (omega arith) h in
    record {
      dials = no-dial (λ d. IsDialled w.nodes (w.next_conn + 0) d.dialled);
      downs = λ d e. refl;
      ups = λ d e. refl;
      shuts = λ d e. refl;
      lower_at = first-idle w h;
      lower = k.lower;
      writer = conn-later w.next_conn (w.next_conn + 0) (w.writers b).conn (omega arith) (h.writers b);
      reader = k.reader;
      primary = k.primary;
    }

asks-primary-fits : (w : World) (i : ℕ) (c : OfficeCall) (p : Told → Primary) → ((t : Told) → IsPrimary w.nodes (w.next_conn + 0) (p t)) → Placed w
    → Fits w (asks_primary w i c p)
asks-primary-fits w i c p q h =
    let k = rest w (w.next_conn + 0) (omega arith) h in
    record {
      dials = no-dial (λ d. IsDialled w.nodes (w.next_conn + 0) d.dialled);
      downs = λ d e. refl;
      ups = λ d e. refl;
      shuts = λ d e. refl;
      lower_at = first-idle w h;
      lower = k.lower;
      writer = k.writer;
      reader = k.reader;
      primary = q (answer_to w.office c);
    }

writer-asks-fits : (a : Action) (w : World) (b : ℕ) → Placed w → IfSome (writer_asks a w b) (Fits w)
writer-asks-fits action.Wait w b h = tt
writer-asks-fits action.Took w b h = tt
writer-asks-fits (action.Ask c) w b h = asks-writer-fits w b c h
writer-asks-fits (action.Dial to r) w b h = tt
writer-asks-fits (action.Send p) w b h = tt
writer-asks-fits (action.Answered n a) w b h = tt
writer-asks-fits action.Memory w b h = tt

commits-asked : (s : OwnStep) (w : World) (i : ℕ) (l : Leading) → IsLeading w.nodes w.next_conn l → Placed w → IfSome (primary_commits s w i l) (Fits w)
commits-asked own.Waits w i l q h = tt
commits-asked (own.Updates c) w i l q h = tt
commits-asked (own.Commits c) w i l q h =
    asks-primary-fits w i (sync_call l.state c) (λ told. leads (record l { told = Some told }))
    (λ t. record { at = q.at; conns_of = λ j d e. omega (arith, q.conns_of j d e) }) h
commits-asked (own.Ends r) w i l q h = tt

primary-asks-fits : (p : Primary) (w : World) (i : ℕ) (b : BlockId) → IsPrimary w.nodes w.next_conn p → Placed w → IfSome (primary_asks p w i b) (Fits w)
primary-asks-fits no_primary w i b q h = asks-primary-fits w i (call.BeginRecovery b) (was_told b) (λ t. tt) h
primary-asks-fits (was_told c t) w i b q h = tt
primary-asks-fits (leads l) w i b q h = when-each (Fits w) (is_alive w l.at && is_none l.told) _ (λ _. commits-asked (own_step l.state).does w i l q h)
primary-asks-fits (has_led r) w i b q h = tt

pub office-fits : (w : World) (c : Caller) → Placed w → IfSome (office_event w c) (Fits w)
office-fits w (caller.Writer b) h =
    when-each (Fits w) (is_none (w.writers b.0).told) _ (λ _. writer-asks-fits (writer.own_step (w.writers b.0).known).action w b.0 h)
office-fits w (caller.Primary i b) h = primary-asks-fits (w.primaries i) w i b (h.primaries i) h
