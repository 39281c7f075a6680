-- What members show of writers' acked bytes holds after every list of events.
use Rattle.std.proofs.Common.{◌≡◌, ℕ, ◌<◌, ◌≤◌, Bool, true, false, List, [], ◌∷◌, length, Option, Some, None, IfSome, refl, sym, subst, arith}
use Rattle.std.specs.Prelude.{◌==◌, ◌&&◌, not, nat_lt}
use Rattle.std.proofs.lemmas.Bool.{false≢true}
use Rattle.op_headers.specs.Values.{WriteFields}
use Rattle.replica_model.specs.Rows.{FullReplica, IsFull}
use Rattle.writer_core.specs.declared.records.WriterRecord.{WriterRecord}
use Rattle.world.specs.declared.events.Delivery.{Delivery}
use Rattle.world.specs.declared.events.Delivery.TheVariants as delivery
use Rattle.world.specs.declared.events.Direction.{Direction}
use Rattle.world.specs.declared.events.Direction.TheVariants as direction
use Rattle.world.specs.declared.events.Event.{Event}
use Rattle.world.specs.declared.events.Event.TheVariants as event
use Rattle.world.specs.declared.events.FoundReplica.{FoundReplica}
use Rattle.world.specs.declared.events.OwnStep.{OwnStep}
use Rattle.world.specs.declared.events.OwnStep.TheVariants as own
use Rattle.world.specs.Parts.{Upper, by_writer, by_member, by_reader, by_primary}
use Rattle.world.specs.Worlds.{World, Change, apply, start}
use Rattle.world.specs.Connections.{Next, next_down, next_up, down_taken, up_taken, is_served}
use Rattle.world.specs.Nodes.{node_of, lower_down, lower_ready, mirror_up}
use Rattle.world.specs.Clients.{writer_up, own_reader, reader_up}
use Rattle.world.specs.Primaries.{own_recover, own_primary, primary_up, office_event}
use Rattle.world.specs.Restarts.{restart}
use Rattle.world.specs.Events.{changed, own_change, down_as, down_event, ready_event, unless_fails, upper_up, up_as, up_event, fault_event, lost, stop, where_so, outcome, after_event, happens, run}
use Rattle.world_laws.proofs.SessionAsides.{lower-down-aside, lower-ready-aside, mirror-up-aside, own-reader-aside, reader-up-aside, own-recover-aside, own-primary-aside, primary-up-aside}
use Rattle.world_laws.specs.Stamping.{Givens, none_given, given_with, stamped_in, given_by, given_in, heard}
use Rattle.world_laws.proofs.AllRecorded.{happens-recorded, Reached, reached-next, reached-agreed, start-recorded}
use Rattle.world_laws.proofs.AllCarried.{happens-carried, reached-facts, at-start, start-carried}
use Rattle.world_laws.proofs.AllSetUp.{happens-set, start-set}
use Rattle.world_acks.specs.Acking.{Ends, Asked}
use Rattle.world_acks.proofs.Seats.{Onward}
use Rattle.world_acks.proofs.Frame.{apply-onward}
use Rattle.world_acks.proofs.Turning.{Known, HeardTells, same-asked}
use Rattle.world_acks.proofs.Lowers.{after-at}
use Rattle.world_acks.proofs.Ends.{lower-ready-leaf}
use Rattle.world_acks.proofs.Clients.{Leads}
use Rattle.world_acks.proofs.Granting.{OfficeLeads, fresh-given, office-event-leads}
use Rattle.world_laws.proofs.FactTables.{if-each}
use Rattle.world_acks.proofs.WorldRecoveries.AllRecovering.{happens-fits, start-fits}
use Rattle.world_acks.proofs.AllAcked.{like-onward, down-known, up-known, leads-of, when-two, lt-true, served-known, served-life, next-tells, taken-tells, heard-tells, lower-taken, upper-taken, own-leads, Follows, down-follows, up-follows, outcome-follows, happens-told, no_ends, start-requests, start-acked, restart-onward}
use Rattle.std.proofs.lemmas.Option.{none-some}
use Rattle.world.specs.Parts.{Answered}
use Rattle.world.specs.Safe.{Has}
use Rattle.world_writers.specs.Settling.{AllSit}
use Rattle.world_writers.proofs.AllMove.{all-reached}
use Rattle.world_writers.proofs.AllPiped.{all-piped}
use Rattle.world_writers.specs.Showing.{ShowsAt, asking_in, Shows, AllShow}
use Rattle.world_writers.proofs.Piped.{Piped, Writers, Stands, stands-on, answer-on, Longer, Standing, Stood, apply-stands, asides-stood}
use Rattle.world_writers.proofs.Stepping.{own-writer-stood}
use Rattle.world_writers.proofs.Hearing.{writer-up-stood}
use Rattle.world_writers.proofs.Granting.{Gives, office-stood}

-- CHANGES

changed-stands : (g : Givens) (t : Ends) (w : World) (o : Option Change) → Known g t w → Standing g w → IfSome o (Leads g g t w) → IfSome (changed w o) (Follows g w) → IfSome o (Stood g g t w) → IfSome (changed w o) (Standing g)
changed-stands g t w None h s l f d = tt
changed-stands g t w (Some k) h s l f d =
    let new = subst (λ (r : FullReplica). IsFull r) (after-at w k) (f.facts.full k.node k.block) in
    let on = apply-onward g g t l.ends w k l.steps h.recovering f.coming.tells f.coming.recovering h.facts.full new (λ b i e q. q) l.named in
    apply-stands g g t l.ends w k s on f.facts d

office-stands : (g : Givens) (t : Ends) (w : World) (o : Option Change) → Known g t w → Standing g w → IfSome o (OfficeLeads g t w) → IfSome (changed w o) (Follows (given_with g (stamped_in o)) w) → IfSome o (Gives g t w) → IfSome (changed w o) (Standing (given_with g (stamped_in o)))
office-stands g t w None h s l f d = tt
office-stands g t w (Some k) h s x f d =
    let l = x.leads in
    let new = subst (λ (r : FullReplica). IsFull r) (after-at w k) (f.facts.full k.node k.block) in
    let on = apply-onward g (given_with g k.stamped) t l.ends w k l.steps h.recovering f.coming.tells f.coming.recovering h.facts.full new (fresh-given g t w k.stamped h x.fresh) l.named in
    apply-stands g (given_with g k.stamped) t l.ends w k s on f.facts d

-- WORLDS WITH THE SAME WRITERS

-- a world with the same writers, in which what was shown is shown
same-stands : (g : Givens) (t u : Ends) (w v : World) → Onward g g t u w v → Longer w v → v.answered ≡ w.answered → v.latest ≡ w.latest → v.writers ≡ w.writers → Standing g w → Standing g v
same-stands g t u w v o l n a b h = record {
  each = λ d.
      subst (λ f. Stands v d (v.latest d) (heard (f d)) (f d).conn) (sym b)
      (subst (λ (f : ℕ → ℕ). Stands v d (f d) (heard (w.writers d)) (w.writers d).conn) (sym a)
      (stands-on g g t u w v d (w.latest d) (heard (w.writers d)) (w.writers d).conn o l (h.each d)));
  answers = λ x q. answer-on g g t u w v x o (h.answers x (subst (λ (xs : List Answered). Has xs x) n q));
}

same-longer : (w v : World) → v.past ≡ w.past → Longer w v
same-longer w v e = λ s. subst (λ p. length (w.written s) ≤ length (p.written s)) (sym e) (omega arith)

down-taken-stands : (g : Givens) (t : Ends) (w : World) (c : ℕ) (x : Next) → Standing g w → Standing g (down_taken w c x)
unfolding down_taken
down-taken-stands g t w c x h =
    let v = down_taken w c x in
    same-stands g t t w v (like-onward g t w v (record { past = refl; runs = λ n e. e; lives = λ n. refl; replicas = λ n b. refl })) (same-longer w v refl) refl refl refl h

up-taken-writers : (w : World) (c : ℕ) (x : Next) → Writers w → Writers (up_taken w c x)
unfolding up_taken
up-taken-writers w c x h = record { pipes = h.pipes; reaches = h.reaches }

up-taken-stands : (g : Givens) (t : Ends) (w : World) (c : ℕ) (x : Next) → Standing g w → Standing g (up_taken w c x)
unfolding up_taken
up-taken-stands g t w c x h =
    let v = up_taken w c x in
    same-stands g t t w v (like-onward g t w v (record { past = refl; runs = λ n e. e; lives = λ n. refl; replicas = λ n b. refl })) (same-longer w v refl) refl refl refl h

-- DELIVERIES

down-as-stands : (g : Givens) (t : Ends) (w : World) (c : ℕ) (answered fails : Bool) (o : Option Next) → Known g t w → Standing g w → c < w.next_conn → w.lives (node_of w c) ≡ (w.dialled c).to.life → next_down w c ≡ o
    → IfSome (down_as w c answered fails o) (Follows g w) → IfSome (down_as w c answered fails o) (Standing g)
down-as-stands g t w c answered fails None h s lt alive e f = tt
down-as-stands g t w c answered fails (Some x) h s lt alive e f =
    let v = down_taken w c x in
    let k = lower_down (w.lowers c) v c x answered fails in
    let d = down-taken-stands g t w c x s in
    changed-stands g t v k (down-known g t w c x h) d
    (leads-of g t v k (lower-taken g t w c x answered fails (down-known g t w c x h) lt alive (taken-tells g t w c x x (next-tells g t w c x h e)))) (down-follows g w c x _ f)
    (asides-stood g t v k d (lower-down-aside (w.lowers c) v c x answered fails))

down-stands : (g : Givens) (t : Ends) (w : World) (c : ℕ) (answered fails : Bool) → Known g t w → Standing g w → IfSome (down_event w c answered fails) (Follows g w) → IfSome (down_event w c answered fails) (Standing g)
down-stands g t w c answered fails h s f =
    when-two (Follows g w) (Standing g) (is_served w c) _ f (λ e q. down-as-stands g t w c answered fails (next_down w c) h s (served-known w c e) (served-life w c e) refl q)

ready-stands : (g : Givens) (t : Ends) (w : World) (c : ℕ) (fails : Bool) → Known g t w → Standing g w → IfSome (ready_event w c fails) (Follows g w) → IfSome (ready_event w c fails) (Standing g)
ready-stands g t w c fails h s f =
    let k = lower_ready (w.lowers c) w c fails in
    when-two (Follows g w) (Standing g) (is_served w c) _ f (λ e q. changed-stands g t w k h s (leads-of g t w k (lower-ready-leaf (w.lowers c) g t w c fails h refl (served-life w c e))) q
    (asides-stood g t w k s (lower-ready-aside (w.lowers c) w c fails)))

unless-stood : (g : Givens) (t : Ends) (w : World) (fails : Bool) (o : Option Change) → IfSome o (Stood g g t w) → IfSome (unless_fails fails o) (Stood g g t w)
unless-stood g t w true o h = tt
unless-stood g t w false o h = h

upper-stood : (u : Upper) (g : Givens) (t : Ends) (w : World) (c : ℕ) (x : Next) (fails : Bool) → Known g t w → Writers w → Standing g w → HeardTells g t w c x → IfSome (upper_up u w c x fails) (Stood g g t w)
upper-stood (by_writer b) g t w c x fails h v s n = unless-stood g t w fails (writer_up w b c x) (writer-up-stood g t w b c x h v s n)
upper-stood (by_member d) g t w c x fails h v s n = asides-stood g t w (mirror_up (w.lowers d) w d x fails) s (mirror-up-aside (w.lowers d) w d x fails)
upper-stood (by_reader i) g t w c x fails h v s n = unless-stood g t w fails (reader_up w i c x) (asides-stood g t w (reader_up w i c x) s (reader-up-aside w i c x))
upper-stood (by_primary i p) g t w c x fails h v s n = unless-stood g t w fails (primary_up w i p c x) (asides-stood g t w (primary_up w i p c x) s (primary-up-aside w i p c x))

up-as-stands : (g : Givens) (t : Ends) (w : World) (c : ℕ) (fails : Bool) (o : Option Next) → Known g t w → Writers w → Standing g w → c < w.next_conn → next_up w c ≡ o → IfSome (up_as w c fails o) (Follows g w) → IfSome (up_as w c fails o) (Standing g)
up-as-stands g t w c fails None h z s lt e f = tt
up-as-stands g t w c fails (Some x) h z s lt e f =
    let v = up_taken w c x in
    let k = upper_up (w.dialled c).upper v c x fails in
    let d = up-taken-stands g t w c x s in
    let known = up-known g t w c x h in
    let told = heard-tells g t w c x h e in
    changed-stands g t v k known d (upper-taken g t w c x fails known lt told) (up-follows g w c x _ f) (upper-stood (w.dialled c).upper g t v c x fails known (up-taken-writers w c x z) d told)

up-stands : (g : Givens) (t : Ends) (w : World) (c : ℕ) (fails : Bool) → Known g t w → Writers w → Standing g w → IfSome (up_event w c fails) (Follows g w) → IfSome (up_event w c fails) (Standing g)
up-stands g t w c fails h z s f = when-two (Follows g w) (Standing g) (nat_lt c w.next_conn) _ f (λ e q. up-as-stands g t w c fails (next_up w c) h z s (lt-true c w.next_conn e) refl q)

fault-stands : (g : Givens) (t : Ends) (w : World) (d : Delivery) → Known g t w → Writers w → Standing g w → IfSome (fault_event w d) (Follows g w) → IfSome (fault_event w d) (Standing g)
fault-stands g t w (delivery.Down c) h v s f = down-stands g t w c.0 false true h s f
fault-stands g t w (delivery.Ready c) h v s f = ready-stands g t w c.0 true h s f
fault-stands g t w (delivery.Up c) h v s f = up-stands g t w c.0 true h v s f

own-stood : (g : Givens) (t : Ends) (w : World) (s : OwnStep) → Known g t w → Writers w → Standing g w → IfSome (own_change w s) (Stood g g t w)
own-stood g t w (own.Writer b takes answered) h v d = own-writer-stood g t w b.0 takes answered h v d
own-stood g t w (own.Reader i n r answered) h v d = asides-stood g t w (own_reader w i n.0 r answered) d (own-reader-aside w i n.0 r answered)
own-stood g t w (own.Recover i n b members answers) h v d = asides-stood g t w (own_recover w i n.0 b members answers) d (own-recover-aside w i n.0 b members answers)
own-stood g t w (own.Primary i) h v d = asides-stood g t w (own_primary w i) d (own-primary-aside w i)

-- STOPS, LOSSES, RESTARTS

stop-stands : (g : Givens) (t : Ends) (w : World) (n : ℕ) → Standing g w → Standing g (stop w n)
stop-stands g t w n h =
    let v = stop w n in
    same-stands g t t w v (like-onward g t w v (record { past = refl; runs = λ m e. if-each (λ (b : Bool). b ≡ true → w.running m ≡ true) (m == n) false (w.running m) (λ _ q. absurd (false≢true q)) (λ _ q. q) e; lives = λ m. refl; replicas = λ m b. refl }))
    (same-longer w v refl) refl refl refl h

lost-stands : (g : Givens) (t : Ends) (w : World) (c : ℕ) (way : Direction) (more : ℕ) → Standing g w → Standing g (lost w c way more)
lost-stands g t w c direction.Down more h =
    let v = lost w c direction.Down more in
    same-stands g t t w v (like-onward g t w v (record { past = refl; runs = λ m e. e; lives = λ m. refl; replicas = λ m b. refl })) (same-longer w v refl) refl refl refl h
lost-stands g t w c direction.Up more h =
    let v = lost w c direction.Up more in
    same-stands g t t w v (like-onward g t w v (record { past = refl; runs = λ m e. e; lives = λ m. refl; replicas = λ m b. refl })) (same-longer w v refl) refl refl refl h

restart-stands : (g : Givens) (t : Ends) (w : World) (n : ℕ) (list : List FoundReplica) → Standing g w → Standing g (restart w n list)
unfolding restart
restart-stands g t w n list h = same-stands g t t w (restart w n list) (restart-onward g t w n list) (same-longer w (restart w n list) refl) refl refl refl h

-- ALL EVENTS

where-stands : (g : Givens) (test : Bool) (v : World) → Standing g v → IfSome (where_so test v) (Standing g)
where-stands g true v h = h
where-stands g false v h = tt

outcome-stands : (g : Givens) (t : Ends) (w : World) (e : Event) → Known g t w → Writers w → Standing g w → IfSome (outcome w e) (Follows (given_by g w e) w) → IfSome (outcome w e) (Standing (given_by g w e))
unfolding outcome
outcome-stands g t w (event.Own s) h v d f = changed-stands g t w (own_change w s) h d (own-leads g t w s h) f (own-stood g t w s h v d)
outcome-stands g t w (event.Office c) h v d f = office-stands g t w (office_event w c) h d (office-event-leads g t w c h) f (office-stood g t w c h d)
outcome-stands g t w (event.Down c answered) h v d f = down-stands g t w c.0 answered false h d f
outcome-stands g t w (event.Ready c) h v d f = ready-stands g t w c.0 false h d f
outcome-stands g t w (event.Up c) h v d f = up-stands g t w c.0 false h v d f
outcome-stands g t w (event.Lost c way more) h v d f = where-stands g (nat_lt c.0 w.next_conn) (lost w c.0 way more) (lost-stands g t w c.0 way more d)
outcome-stands g t w (event.Fault x) h v d f = fault-stands g t w x h v d f
outcome-stands g t w (event.Stop n) h v d f = where-stands g (w.running n.0) (stop w n.0) (stop-stands g t w n.0 d)
outcome-stands g t w (event.Restart n list) h v d f = where-stands g (nat_lt n.0 w.nodes && not (w.running n.0)) (restart w n.0 list) (restart-stands g t w n.0 list d)

last-stands : (g : Givens) (t : Ends) (v : World) (e : Event) → Standing g v → Standing g (record v { last = Some e })
last-stands g t w e h =
    let v : World = record w { last = Some e } in
    same-stands g t t w v (like-onward g t w v (record { past = refl; runs = λ m q. q; lives = λ m. refl; replicas = λ m b. refl })) (same-longer w v refl) refl refl refl h

-- an event that isn't enabled gives no stamp
idle-office : (g : Givens) (w : World) (o : Option Change) → changed w o ≡ None → Standing g w → Standing (given_with g (stamped_in o)) w
idle-office g w None e h = h
idle-office g w (Some k) e h = absurd (none-some (apply w k) (sym e))

idle-stands : (g : Givens) (w : World) (e : Event) → outcome w e ≡ None → Standing g w → Standing (given_by g w e) w
unfolding outcome
idle-stands g w (event.Own s) i h = h
idle-stands g w (event.Office c) i h = idle-office g w (office_event w c) i h
idle-stands g w (event.Down c answered) i h = h
idle-stands g w (event.Ready c) i h = h
idle-stands g w (event.Up c) i h = h
idle-stands g w (event.Lost c way more) i h = h
idle-stands g w (event.Fault d) i h = h
idle-stands g w (event.Stop n) i h = h
idle-stands g w (event.Restart n list) i h = h

after-stands : (g : Givens) (t : Ends) (w : World) (e : Event) (o : Option World) → outcome w e ≡ o → Standing g w → IfSome o (Standing (given_by g w e)) → Standing (given_by g w e) (after_event w e o)
after-stands g t w e None i h k = idle-stands g w e i h
after-stands g t w e (Some v) i h k = last-stands (given_by g w e) t v e k

happens-stands : (g : Givens) (t : Ends) (w : World) (e : Event) → Known g t w → Writers w → Standing g w → Follows (given_by g w e) w (happens w e) → Standing (given_by g w e) (happens w e)
unfolding happens
happens-stands g t w e h v d f = after-stands g t w e (outcome w e) refl d (outcome-stands g t w e h v d (outcome-follows (given_by g w e) w e (outcome w e) f))

-- what is known of writers after every list of events
writers-at : (w : World) → Reached w → Writers w
writers-at w r = subst (λ (v : World). Writers v) r.is (record { pipes = all-piped r.nodes r.events; reaches = all-reached r.nodes r.events })

-- what a world that some events lead to has
pub record AtEnd (g : Givens) (w : World) : Type 0 where
  pub ends : Ends
  pub known : Known g ends w
  pub stands : Standing g w

run-stands : (g : Givens) (t : Ends) (w : World) (events : List Event) → Reached w → Known g t w → Standing g w → AtEnd (given_in g w events) (run w events)
run-stands g t w [] r h d = record { ends = t; known = h; stands = d }
run-stands g t w (e ∷ events) r h d =
    let a = reached-agreed w r in
    let j = happens-recorded g w e h.facts.recorded a in
    let c = happens-carried g w e h.facts a in
    let s = happens-set g w e h.facts a j.one h.sets in
    let n = reached-next w e r in
    let f = reached-facts (given_by g w e) (happens w e) n j c in
    let m = happens-fits g w e h.facts a h.recovering h.sets.writes in
    let y : Follows (given_by g w e) w (happens w e) = record { facts = f; coming = m } in
    let k = happens-told g t w e h y in
    run-stands (given_by g w e) k.ends (happens w e) events n (record { facts = f; sets = s; requests = k.requests; acked = k.acked; recovering = m.recovering }) (happens-stands g t w e h (writers-at w r) d y)

start-stands : (nodes : ℕ) → Standing none_given (start nodes)
unfolding start
start-stands nodes = record { each = λ b. record { within = omega arith; starts = tt; piped = tt; released = λ r. absurd (false≢true r) }; answers = λ a q. absurd (none-some a q.there) }

-- WHAT IS SHOWN

shows-of : (w : World) (b e : ℕ) (x : WriterRecord) (conn : Option ℕ) → Stands w b e x conn → Shows w e x conn
shows-of w b e x conn h = record { within = h.within; starts = h.starts; shown = λ c q f a. go c f a (subst (λ (o : Option ℕ). IfSome o (Piped w e (asking_in x.phase) x.stream.acked)) q h.piped) }
  where
    go : (c : ℕ) (f : WriteFields) → Asked w.past c f → Piped w e (asking_in x.phase) x.stream.acked c → ShowsAt (asking_in x.phase) w c f e x.stream.acked
    go c f a p = subst (λ (k : WriteFields). ShowsAt (asking_in x.phase) w c k e x.stream.acked) (same-asked w c p.fields f p.asked a) p.shows

pub at-end : (nodes : ℕ) (events : List Event) → AtEnd (given_in none_given (start nodes) events) (run (start nodes) events)
at-end nodes events =
    let c = start-carried nodes in
    let r = start-recorded nodes in
    run-stands none_given no_ends (start nodes) events (at-start nodes) (record { facts = reached-facts none_given (start nodes) (at-start nodes) r c; sets = start-set nodes; requests = start-requests nodes; acked = start-acked nodes; recovering = start-fits nodes }) (start-stands nodes)

pub all-show : AllShow
all-show nodes events b =
    let w = run (start nodes) events in
    shows-of w b (w.latest b) (heard (w.writers b)) (w.writers b).conn ((at-end nodes events).stands.each b)

pub all-sit : AllSit
all-sit nodes events = (at-end nodes events).stands.answers
