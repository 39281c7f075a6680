-- FINALIZED replicas have their stamps' lengths after every list of events.
use Rattle.std.proofs.Common.{◌≡◌, ℕ, ◌<◌, Bool, true, false, List, [], ◌∷◌, Option, Some, None, IfSome, refl, sym, subst, arith}
use Rattle.std.specs.Prelude.{◌&&◌, not, nat_lt}
use Rattle.std.proofs.lemmas.Bool.Decides.{nat_tests}
use Rattle.std.proofs.lemmas.Bool.{false≢true}
use Rattle.std.proofs.lemmas.Option.{none-some}
use Rattle.world.specs.declared.events.Caller.{Caller}
use Rattle.world.specs.declared.events.Caller.TheVariants as caller
use Rattle.world.specs.declared.events.Delivery.{Delivery}
use Rattle.world.specs.declared.events.Delivery.TheVariants as delivery
use Rattle.world.specs.declared.events.Event.{Event}
use Rattle.world.specs.declared.events.Event.TheVariants as event
use Rattle.world.specs.declared.events.OwnStep.{OwnStep}
use Rattle.world.specs.declared.events.OwnStep.TheVariants as own
use Rattle.world.specs.Parts.{Upper, by_writer, by_member, by_reader, by_primary}
use Rattle.world.specs.Worlds.{World, Change, Stamped, apply, start}
use Rattle.world.specs.Connections.{Next, next_down, next_up, down_taken, up_taken, is_served}
use Rattle.world.specs.Nodes.{lower_down, lower_ready}
use Rattle.world.specs.Clients.{writer_up, reader_up}
use Rattle.world.specs.Primaries.{office_event, primary_up}
use Rattle.world.specs.Restarts.{restart}
use Rattle.world.specs.Events.{changed, own_change, down_as, down_event, ready_event, unless_fails, upper_up, up_as, up_event, fault_event, lost, stop, where_so, outcome, after_event, happens, run}
use Rattle.world_laws.proofs.FactTables.{when-each, some-weaker}
use Rattle.world_laws.specs.Filling.{IsBreak}
use Rattle.world_laws.proofs.FilledLaws.{all-filled}
use Rattle.world_laws.specs.Stamping.{Givens, none_given, given_with, stamped_in, given_by, given_in, Recorded}
use Rattle.world_laws.proofs.AllRecorded.{happens-recorded, Reached, reached-next, reached-agreed, start-recorded}
use Rattle.world_laws.specs.Carrying.{Carried}
use Rattle.world_laws.proofs.ByteLeaves.{Facts}
use Rattle.world_laws.proofs.ByteEnds.{lower-ready-keeps}
use Rattle.world_laws.proofs.AllCarried.{down-taken-facts, up-taken-facts, changed-carried, down-as-carried, up-as-carried, own-keeps, happens-carried, reached-facts, at-start, start-carried}
use Rattle.world_laws.proofs.AllSetUp.{served-life}
use Rattle.world_recoveries.specs.Recovering.{Recovering}
use Rattle.world_recoveries.proofs.AllRecovering.{sent-down, down-taken-fits, happens-fits, reached-writes, start-fits}
use Rattle.world_laws.specs.Joining.{SetUps}
use Rattle.world_laws.proofs.AllSetUp.{happens-set, start-set}
use Rattle.world_recoveries.specs.Naming.{Naming}
use Rattle.world_recoveries.proofs.AllNaming.{happens-naming, start-naming}
use Rattle.world_finals.specs.Finishing.{Ids, no_ids, ids_with, ids_by, ids_in, Finals}
use Rattle.world_finals.proofs.Frame.{keeps, stays-so}
use Rattle.world_finals.proofs.Nodes.{Makes, beside-ends, makes-news, lower-down-makes, lower-ready-makes, mirror-up-makes}
use Rattle.world_finals.proofs.Clients.{Brings, own-writer-brings, writer-up-brings, own-reader-brings, reader-up-brings}
use Rattle.world_finals.proofs.Steps.{OfficeBrings, own-recover-brings, own-primary-brings, primary-up-brings, writer-asks-brings, primary-asks-brings}
use Rattle.world_finals.proofs.Still.{same-finals, down-taken-final, up-taken-final, stop-final, lost-final, restart-final}

-- replicas were full before they broke
abbrev Broken : World → Type 0
Broken w = (n b : ℕ) → IfSome (w.breaks n b) IsBreak

-- CHANGES

brings-of : (f : Ids) (g : Givens) (w : World) (o : Option Change) → Finals f g w → Facts g w → IfSome o (Makes f g w) → IfSome o (Brings f g w)
brings-of f g w o h a n = some-weaker (Makes f g w) (Brings f g w) o (λ k x. record { ends = beside-ends w k x.beside; news = λ _. makes-news f g w k h a x }) n

changed-final : (f : Ids) (g : Givens) (w : World) (o : Option Change) → Finals f g w → Facts g w → IfSome (changed w o) (Carried g) → IfSome o (Brings f g w) → IfSome (changed w o) (Finals f g)
changed-final f g w None h a c n = tt
changed-final f g w (Some k) h a c n = keeps f g w f g k h a (stays-so f g w k h a n.ends) (n.news c)

unless-brings : (f : Ids) (g : Givens) (w : World) (fails : Bool) (o : Option Change) → IfSome o (Brings f g w) → IfSome (unless_fails fails o) (Brings f g w)
unless-brings f g w true o n = tt
unless-brings f g w false o n = n

-- DELIVERIES

down-as-final : (f : Ids) (g : Givens) (w : World) (c : ℕ) (answered fails : Bool) (o : Option Next) → Finals f g w → Facts g w → Recovering g w → is_served w c ≡ true → next_down w c ≡ o → IfSome (down_as w c answered fails o) (Finals f g)
unfolding down_taken
down-as-final f g w c answered fails None h a r s e = tt
down-as-final f g w c answered fails (Some x) h a r s e =
    let v = down_taken w c x in
    let i = down-taken-final f g w c x h a in
    let d = down-taken-facts g w c x a in
    changed-final f g v (lower_down (w.lowers c) v c x answered fails) i d (down-as-carried g w c answered fails (Some x) a e)
    (brings-of f g v (lower_down (w.lowers c) v c x answered fails) i d
    (lower-down-makes (w.lowers c) f g v c x answered fails (record { known = record { finals = i; facts = d }; recovering = down-taken-fits g w c x r; life = served-life w c s }) (a.carried.lowers c) (sent-down w c x e)))

down-final : (f : Ids) (g : Givens) (w : World) (c : ℕ) (answered fails : Bool) → Finals f g w → Facts g w → Recovering g w → IfSome (down_event w c answered fails) (Finals f g)
down-final f g w c answered fails h a r = when-each (Finals f g) (is_served w c) _ (λ e. down-as-final f g w c answered fails (next_down w c) h a r e refl)

ready-final : (f : Ids) (g : Givens) (w : World) (c : ℕ) (fails : Bool) → Finals f g w → Facts g w → IfSome (ready_event w c fails) (Finals f g)
ready-final f g w c fails h a =
    when-each (Finals f g) (is_served w c) _ (λ _.
    let k = lower_ready (w.lowers c) w c fails in
    changed-final f g w k h a (changed-carried g w k (lower-ready-keeps (w.lowers c) g w c fails a (a.carried.lowers c))) (brings-of f g w k h a (lower-ready-makes (w.lowers c) f g w c fails (record { finals = h; facts = a }) (a.carried.lowers c))))

upper-brings : (u : Upper) (f : Ids) (g : Givens) (w : World) (c : ℕ) (x : Next) (fails : Bool) → Finals f g w → Facts g w → IfSome (upper_up u w c x fails) (Brings f g w)
upper-brings (by_writer b) f g w c x fails h a = unless-brings f g w fails (writer_up w b c x) (writer-up-brings f g w b c x h a)
upper-brings (by_member d) f g w c x fails h a = brings-of f g w (upper_up (by_member d) w c x fails) h a (mirror-up-makes (w.lowers d) f g w d x fails (record { finals = h; facts = a }) (a.carried.lowers d))
upper-brings (by_reader i) f g w c x fails h a = unless-brings f g w fails (reader_up w i c x) (reader-up-brings f g w i c x h a)
upper-brings (by_primary i p) f g w c x fails h a = unless-brings f g w fails (primary_up w i p c x) (primary-up-brings f g w i p c x h a)

up-as-final : (f : Ids) (g : Givens) (w : World) (c : ℕ) (fails : Bool) (o : Option Next) → Finals f g w → Facts g w → c < w.next_conn → next_up w c ≡ o → IfSome (up_as w c fails o) (Finals f g)
unfolding up_taken
up-as-final f g w c fails None h a lt e = tt
up-as-final f g w c fails (Some x) h a lt e =
    let v = up_taken w c x in
    let i = up-taken-final f g w c x h a in
    let d = up-taken-facts g w c x a in
    changed-final f g v (upper_up (w.dialled c).upper v c x fails) i d (up-as-carried g w c fails (Some x) a lt e) (upper-brings (w.dialled c).upper f g v c x fails i d)

up-final : (f : Ids) (g : Givens) (w : World) (c : ℕ) (fails : Bool) → Finals f g w → Facts g w → IfSome (up_event w c fails) (Finals f g)
up-final f g w c fails h a = when-each (Finals f g) (nat_lt c w.next_conn) _ (λ e. up-as-final f g w c fails (next_up w c) h a (lt-true c w.next_conn e) refl)
  where
    lt-true : (a b : ℕ) → nat_lt a b ≡ true → a < b
    lt-true a b e = grind (arith, nat_tests, e)

fault-final : (f : Ids) (g : Givens) (w : World) (d : Delivery) → Finals f g w → Facts g w → Recovering g w → IfSome (fault_event w d) (Finals f g)
fault-final f g w (delivery.Down c) h a r = down-final f g w c.0 false true h a r
fault-final f g w (delivery.Ready c) h a r = ready-final f g w c.0 true h a
fault-final f g w (delivery.Up c) h a r = up-final f g w c.0 true h a

own-brings : (f : Ids) (g : Givens) (w : World) (s : OwnStep) → Finals f g w → Facts g w → Recovering g w → Naming g w → IfSome (own_change w s) (Brings f g w)
own-brings f g w (own.Writer b takes answered) h a y n = own-writer-brings f g w b.0 takes answered h a (n.knows b.0)
own-brings f g w (own.Reader i n r answered) h a y named = own-reader-brings f g w i n.0 r answered h a
own-brings f g w (own.Recover i n b members answers) h a y named = own-recover-brings f g w i n.0 b members answers h a
own-brings f g w (own.Primary i) h a y named = own-primary-brings f g w i h a y

-- THE OFFICE

asked-final : (f : Ids) (g : Givens) (w : World) (o : Option Change) (e : Option Stamped → Ids) → Finals f g w → Facts g w → IfSome o (λ k. OfficeBrings f g w (e k.stamped) (given_with g k.stamped) k) → IfSome (changed w o) (Finals (e (stamped_in o)) (given_with g (stamped_in o)))
asked-final f g w None e h a n = tt
asked-final f g w (Some k) e h a n = keeps f g w (e k.stamped) (given_with g k.stamped) k h a n.stays n.news

office-final : (f : Ids) (g : Givens) (w : World) (c : Caller) → Finals f g w → Facts g w → IfSome (changed w (office_event w c)) (Finals (ids_by f w (event.Office c)) (given_with g (stamped_in (office_event w c))))
office-final f g w (caller.Writer b) h a = asked-final f g w (office_event w (caller.Writer b)) (λ _. f) h a (writer-asks-brings f g w b.0 h a)
office-final f g w (caller.Primary i b) h a = asked-final f g w (office_event w (caller.Primary i b)) (λ o. ids_with f o) h a (primary-asks-brings (w.primaries i) f g w i b h a refl)

-- ALL EVENTS

where-final : (f : Ids) (g : Givens) (test : Bool) (v : World) → Finals f g v → IfSome (where_so test v) (Finals f g)
where-final f g true v h = h
where-final f g false v h = tt

outcome-final : (f : Ids) (g : Givens) (w : World) (e : Event) → Finals f g w → Facts g w → Recovering g w → Naming g w → Broken w → IfSome (outcome w e) (Finals (ids_by f w e) (given_by g w e))
unfolding outcome
outcome-final f g w (event.Own s) h a r named i = changed-final f g w (own_change w s) h a (changed-carried g w (own_change w s) (own-keeps g w s a)) (own-brings f g w s h a r named)
outcome-final f g w (event.Office c) h a r named i = office-final f g w c h a
outcome-final f g w (event.Down c answered) h a r named i = down-final f g w c.0 answered false h a r
outcome-final f g w (event.Ready c) h a r named i = ready-final f g w c.0 false h a
outcome-final f g w (event.Up c) h a r named i = up-final f g w c.0 false h a
outcome-final f g w (event.Lost c way more) h a r named i = where-final f g (nat_lt c.0 w.next_conn) (lost w c.0 way more) (lost-final f g w c.0 way more h a)
outcome-final f g w (event.Fault d) h a r named i = fault-final f g w d h a r
outcome-final f g w (event.Stop n) h a r named i = where-final f g (w.running n.0) (stop w n.0) (stop-final f g w n.0 h a)
outcome-final f g w (event.Restart n list) h a r named i =
    where-final f g (nat_lt n.0 w.nodes && not (w.running n.0)) (restart w n.0 list) (restart-final f g w n.0 list h a i)

-- an event that isn't enabled gives no stamp
idle-office : (f : Ids) (g : Givens) (w : World) (o : Option Change) (e : Option Stamped → Ids) → e None ≡ f → changed w o ≡ None → Finals f g w → Finals (e (stamped_in o)) (given_with g (stamped_in o)) w
idle-office f g w None e q i h = subst (λ (x : Ids). Finals x g w) (sym q) h
idle-office f g w (Some k) e q i h = absurd (none-some (apply w k) (sym i))

idle-caller : (f : Ids) (g : Givens) (w : World) (c : Caller) → changed w (office_event w c) ≡ None → Finals f g w → Finals (ids_by f w (event.Office c)) (given_by g w (event.Office c)) w
idle-caller f g w (caller.Writer b) i h = idle-office f g w (office_event w (caller.Writer b)) (λ _. f) refl i h
idle-caller f g w (caller.Primary n b) i h = idle-office f g w (office_event w (caller.Primary n b)) (λ o. ids_with f o) refl i h

idle-final : (f : Ids) (g : Givens) (w : World) (e : Event) → outcome w e ≡ None → Finals f g w → Finals (ids_by f w e) (given_by g w e) w
unfolding outcome
idle-final f g w (event.Own s) i h = h
idle-final f g w (event.Office c) i h = idle-caller f g w c i h
idle-final f g w (event.Down c answered) i h = h
idle-final f g w (event.Ready c) i h = h
idle-final f g w (event.Up c) i h = h
idle-final f g w (event.Lost c way more) i h = h
idle-final f g w (event.Fault d) i h = h
idle-final f g w (event.Stop n) i h = h
idle-final f g w (event.Restart n list) i h = h

-- the world that names its last event
named-final : (f : Ids) (g : Givens) (v : World) (e : Event) → Finals f g v → Facts g v → Finals f g (record v { last = Some e })
named-final f g v e h a = same-finals f g v (record v { last = Some e }) h a (record { past = refl; office = refl; latest = refl; writers = refl; primaries = refl }) h.replicas h.breaks

after-final : (f : Ids) (g : Givens) (w : World) (e : Event) (o : Option World) → outcome w e ≡ o → Finals f g w → IfSome o (Finals (ids_by f w e) (given_by g w e)) → Facts (given_by g w e) (after_event w e o) → Finals (ids_by f w e) (given_by g w e) (after_event w e o)
after-final f g w e None i h k a = idle-final f g w e i h
after-final f g w e (Some v) i h k a = named-final (ids_by f w e) (given_by g w e) v e k (record { carried = record { downs = a.carried.downs; ups = a.carried.ups; replicas = a.carried.replicas; breaks = a.carried.breaks; lowers = a.carried.lowers; writers = a.carried.writers; entries = a.carried.entries; primaries = a.carried.primaries; led = a.carried.led }; fresh = a.fresh; full = a.full; unused = a.unused; recorded = record { below = a.recorded.below; above = a.recorded.above; session = a.recorded.session; one = a.recorded.one; first = a.recorded.first; writers = a.recorded.writers; blocks = a.recorded.blocks } })

happens-final : (f : Ids) (g : Givens) (w : World) (e : Event) → Finals f g w → Facts g w → Recovering g w → Naming g w → Broken w → Facts (given_by g w e) (happens w e) → Finals (ids_by f w e) (given_by g w e) (happens w e)
unfolding happens
happens-final f g w e h a r n i b = after-final f g w e (outcome w e) refl h (outcome-final f g w e h a r n i) b

reached-broken : (w : World) → Reached w → (n b : ℕ) → IfSome (w.breaks n b) IsBreak
reached-broken w r = subst (λ (v : World). (n b : ℕ) → IfSome (v.breaks n b) IsBreak) r.is (all-filled r.nodes r.events).breaks

run-final : (f : Ids) (g : Givens) (w : World) (events : List Event) → Reached w → Recorded g w → Carried g w → Recovering g w → SetUps g w → Naming g w → Finals f g w → Finals (ids_in f w events) (given_in g w events) (run w events)
run-final f g w [] r i c y s n h = h
run-final f g w (e ∷ events) r i c y s n h =
    let a = reached-agreed w r in
    let x = reached-facts g w r i c in
    let j = happens-recorded g w e i a in
    let d = happens-carried g w e x a in
    let next = reached-next w e r in
    run-final (ids_by f w e) (given_by g w e) (happens w e) events next j d (happens-fits g w e x a y (reached-writes w r)).recovering
    (happens-set g w e x a j.one s) (happens-naming g w e x s d n) (happens-final f g w e h x y n (reached-broken w r) (reached-facts (given_by g w e) (happens w e) next j d))

start-final : (nodes : ℕ) → Finals no_ids none_given (start nodes)
unfolding start
start-final nodes = record {
  earlier = λ b t d e x. absurd (none-some d x);
  below = λ t e. absurd (false≢true e);
  downs = λ c i m e. absurd (none-some m e);
  replicas = λ n b. record { final = tt; last = tt };
  breaks = λ n b. tt;
  writers = λ b. record { shut = λ e. absurd (none-some _ e); closing = λ e. absurd (false≢true e); closed = λ e. refl; last = λ e. absurd (false≢true e) };
  stamps = λ b. tt;
  primaries = λ i id x. absurd x;
  sends = λ i. tt;
  entries = λ b. tt;
  sessions = λ b e q. absurd (none-some e q);
  acks = λ b. record { begins = λ e. absurd (false≢true e); first = λ t e. absurd (cc) };
}

pub all-final : (nodes : ℕ) (events : List Event) → Finals (ids_in no_ids (start nodes) events) (given_in none_given (start nodes) events) (run (start nodes) events)
all-final nodes events = run-final no_ids none_given (start nodes) events (at-start nodes) (start-recorded nodes) (start-carried nodes) (start-fits nodes) (start-set nodes) (start-naming nodes) (start-final nodes)
