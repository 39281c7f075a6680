-- Replicas are what their histories made of them, and acks tell of packets with sync, after every event.
use Rattle.std.proofs.Common.{◌≡◌, ℕ, zero, suc, ◌<◌, ◌≤◌, Bool, true, false, List, [], ◌∷◌, ◌++◌, slice_get, Option, Some, None, IfSome, refl, sym, ap, subst, ◌∙◌, arith, eqb-true}
use Rattle.std.specs.Prelude.{◌==◌, ◌&&◌, ◌+◌, not, nat_lt, is_some, if◌then◌else◌}
use Rattle.std.proofs.lemmas.Bool.{false≢true}
use Rattle.std.proofs.lemmas.Bool.Decides.{nat_tests}
use Rattle.std.proofs.lemmas.Option.{none-some}
use Rattle.op_headers.specs.declared.ops.Op.TheVariants as op
use Rattle.op_headers.specs.Values.{WriteFields}
use Rattle.replica_model.specs.Found.{Found}
use Rattle.replica_model.specs.Rows.{FullReplica, IsFull}
use Rattle.world.specs.declared.events.Delivery.{Delivery}
use Rattle.world.specs.declared.events.Delivery.TheVariants as delivery
use Rattle.world.specs.declared.events.Direction.{Direction}
use Rattle.world.specs.declared.events.Direction.TheVariants as direction
use Rattle.world.specs.declared.events.Event.{Event}
use Rattle.world.specs.declared.events.Event.TheVariants as event
use Rattle.world.specs.declared.events.FoundReplica.{FoundReplica}
use Rattle.world.specs.declared.events.OwnStep.{OwnStep}
use Rattle.world.specs.declared.events.OwnStep.TheVariants as own
use Rattle.world.specs.Parts.{Message, request, packet, ack, response, read_status, recovery_answer, Upper, by_writer, by_member, by_reader, by_primary}
use Rattle.world.specs.Worlds.{Past, World, Change, put, put_at, past_after, apply, start}
use Rattle.world.specs.Connections.{Next, message, the_end, next_down, next_up, down_taken, up_taken, is_alive, is_served}
use Rattle.world.specs.Nodes.{node_of, lower_down, lower_ready}
use Rattle.world.specs.Primaries.{office_event}
use Rattle.world.specs.Restarts.{may_find, whole_found, found_in, replica_found, restarted, restart}
use Rattle.world.specs.Events.{changed, own_change, down_as, down_event, ready_event, unless_fails, upper_up, up_as, up_event, fault_event, lost, stop, where_so, outcome, after_event, happens}
use Rattle.world.specs.Safe.{Has}
use Rattle.world_laws.proofs.FactTables.{if-each, some-weaker, and-left, and-right}
use Rattle.world_laws.proofs.ByteFrame.{Each, each-nil, each-append}
use Rattle.world_laws.proofs.ByteLeaves.{Facts}
use Rattle.world_laws.proofs.GrowthLaws.{apply-grows}
use Rattle.world_laws.proofs.ReplicaUntouching.{own-writer-untouched, own-reader-untouched, own-recover-untouched, own-primary-untouched, office-untouched}
use Rattle.world_laws.specs.Growing.{Begins}
use Rattle.world_laws.specs.Stamping.{Givens, given_with, given_by, stamped_in}
use Rattle.world_acks.specs.Acking.{UpdatesLeave, Asked, Ends, DownTells, UpperTells}
use Rattle.world_acks.proofs.ClosedMoves.{next-sent}
use Rattle.world_acks.proofs.Seats.{has-left, Steps}
use Rattle.world_acks.proofs.Clients.{Leads}
use Rattle.world_acks.proofs.Granting.{OfficeLeads, office-event-leads}
use Rattle.world_acks.proofs.Turning.{Known}
use Rattle.world_acks.proofs.Pending.{Pend}
use Rattle.world_acks.proofs.AllAcked.{upper-taken, IsLike, down-known, up-known, leads-of, when-two, lt-true, served-known, served-life, next-tells, taken-tells, heard-tells, lower-taken, upper-taken, own-leads, Follows, down-follows, up-follows, outcome-follows}
use Rattle.world_acks.proofs.Ends.{lower-ready-leaf}
use Rattle.world_syncs.specs.Histories.{TakenEvent, History, Histories, no_events, at_first, with_event, lower_event, acting_event, upper_event, down_event_as, up_event_as, delivery_event, history_with, history_by}
use Rattle.world_syncs.proofs.Seats.{Holds, goes-of, Replays, goes-replays, SyncSeat, seat-apply, seat-like}
use Rattle.world_syncs.proofs.Booking.{IsBooked, lower-down-booked, lower-ready-booked, upper-booked, untouched-booked}
use Rattle.world_syncs.proofs.Pending.{KeepsSent, Awaits, AllAwait, BringsIn, table-awaits}
use Rattle.world_syncs.proofs.Turning.{UpSyncs, Later, up-on, HeardSyncs}
use Rattle.world_syncs.proofs.Lowers.{LeafSyncs, Syncing, IsSent, TakenNumber}
use Rattle.world_syncs.proofs.Lowers as lower
use Rattle.world_syncs.proofs.Quiets.{Quiet, own-writer-quiet, own-reader-quiet, own-recover-quiet, own-primary-quiet, writer-up-quiet, reader-up-quiet, primary-up-quiet, office-quiet}

-- WHAT HOLDS

pub record Syncs (h : Histories) (w : World) : Type 0 where
  pub replays : (n b : ℕ) → Replays (h n b) (w.replicas n b)
  pub awaits : AllAwait h w
  pub ups : (c i : ℕ) (m : Message) → slice_get (w.ups c) i ≡ Some m → UpSyncs h w c m

-- so it does in a later world
pub record Onwards (h l : Histories) (w v : World) : Type 0 where
  pub syncs : Syncs l v
  pub later : Later h l w v

-- CHANGES

get-more : {A : Type 0} (xs ys : List A) (i : ℕ) (x : A) → slice_get xs i ≡ Some x → slice_get (xs ++ ys) i ≡ Some x
get-more [] ys i x e = absurd (none-some x e)
get-more (z ∷ xs) ys zero x e = e
get-more (z ∷ xs) ys (suc i) x e = get-more xs ys i x e

begins-at : (xs ys : List Message) (i : ℕ) (m : Message) → Begins xs ys → slice_get xs i ≡ Some m → slice_get ys i ≡ Some m
begins-at xs ys i m b e = subst (λ (zs : List Message). slice_get zs i ≡ Some m) b.joins (get-more xs b.rest i m e)

-- what is needed of a change
pub record Makes (h : Histories) (w : World) (o : Option TakenEvent) (k : Change) : Type 0 where
  pub booked : IsBooked w o k
  pub steps : Steps w k
  pub brings : IfSome o (BringsIn w)
  pub ups : Later h (with_event h o) w (apply w k) → ((n b : ℕ) → IsFull ((apply w k).replicas n b)) → (c : ℕ) → Each (UpSyncs (with_event h o) (apply w k) c) (k.ups c)

sent-apply : (w : World) (k : Change) → KeepsSent w.past (past_after w k)
unfolding apply
sent-apply w k = record { downs = λ c i m e. begins-at (w.downs c) ((past_after w k).downs c) i m ((apply-grows w k).downs c) e }

later-apply : (h : Histories) (w : World) (o : Option TakenEvent) (k : Change) → ((n b : ℕ) → IsFull (w.replicas n b)) → ((n b : ℕ) → IsFull ((apply w k).replicas n b)) → Makes h w o k → Syncs h w → Later h (with_event h o) w (apply w k)
unfolding apply
later-apply h w o k full new m s =
    let y = apply-grows w k in
    record {
      seats = λ b p n j x. seat-apply h (with_event h o) w k b p n j m.steps full new s.replays (goes-of w o k h m.booked) x;
      sent = sent-apply w k;
      conns = y.conns;
      nodes = λ c lt. ap (λ d. d.to.node) (y.dialled c lt);
      joined = λ x j. has-left w.joined k.joined x j;
    }

pub makes-steps : (h : Histories) (w : World) (o : Option TakenEvent) (k : Change) → ((n b : ℕ) → IsFull (w.replicas n b)) → ((n b : ℕ) → IsFull ((apply w k).replicas n b)) → Makes h w o k → Syncs h w → Onwards h (with_event h o) w (apply w k)
unfolding apply
makes-steps h w o k full new m s =
    let l = with_event h o in
    let v = apply w k in
    let on = later-apply h w o k full new m s in
    record {
      later = on;
      syncs = record {
        replays = λ n b. goes-replays (h n b) (l n b) (w.replicas n b) (put_at w.replicas k.node k.block k.replica n b) (goes-of w o k h m.booked n b) (s.replays n b);
        awaits = record {
          each = λ n b.
              subst (λ (r : FullReplica). Pend (Awaits (past_after w k) (l n b) b) r.known) (sym (m.booked.each n b))
              (table-awaits h w (past_after w k) o on.sent m.brings s.replays (λ i d. subst (λ (r : FullReplica). IsFull r) (m.booked.each i d) (new i d)) s.awaits n b);
        };
        ups = λ c. (each-append (UpSyncs l v c) (w.ups c) (k.ups c) (record { at = λ i x e. up-on h l w v c x on (s.ups c i x e) }) (m.ups on new c)).at;
      };
    }

-- WORLDS WITH THE SAME PAST AND REPLICAS

pub like-later : (h : Histories) (w v : World) → IsLike w v → Later h h w v
like-later h w v l = record {
  seats = λ b s n j x. seat-like h w v b s n j l x;
  sent = record { downs = λ c i m e. subst (λ (p : Past). slice_get (p.downs c) i ≡ Some m) (sym l.past) e };
  conns = omega (arith, ap (λ (p : Past). p.next_conn) l.past);
  nodes = λ c lt. ap (λ (p : Past). (p.dialled c).to.node) l.past;
  joined = λ x j. subst (λ (p : Past). Has p.joined x) (sym l.past) j;
}

pub like-syncs : (h : Histories) (w v : World) → IsLike w v → Syncs h w → Syncs h v
like-syncs h w v l s = record {
  replays = λ n b. subst (λ (r : FullReplica). Replays (h n b) r) (sym (l.replicas n b)) (s.replays n b);
  awaits = record { each = λ n b. subst (λ (p : Past). Pend (Awaits p (h n b) b) (v.replicas n b).known) (sym l.past) (subst (λ (r : FullReplica). Pend (Awaits w.past (h n b) b) r.known) (sym (l.replicas n b)) (s.awaits.each n b)) };
  ups = λ c i m e. up-on h h w v c m (like-later h w v l) (s.ups c i m (subst (λ (p : Past). slice_get (p.ups c) i ≡ Some m) l.past e));
}

pub like-steps : (h : Histories) (w v : World) → IsLike w v → Syncs h w → Onwards h h w v
like-steps h w v l s = record { syncs = like-syncs h w v l s; later = like-later h w v l }

pub later-then : (h k l : Histories) (w u v : World) → Later h k w u → Later k l u v → Later h l w v
later-then h k l w u v a b = record {
  seats = λ i s n j x. b.seats i s n j (a.seats i s n j x);
  sent = record { downs = λ c i m e. b.sent.downs c i m (a.sent.downs c i m e) };
  conns = omega (arith, a.conns, b.conns);
  nodes = λ c lt. b.nodes c (omega (arith, lt, a.conns)) ∙ a.nodes c lt;
  joined = λ x j. b.joined x (a.joined x j);
}

pub steps-then : (h l : Histories) (w u v : World) → Later h h w u → Onwards h l u v → Onwards h l w v
steps-then h l w u v a b = record { syncs = b.syncs; later = later-then h h l w u v a b.later }

pub down-like : (w : World) (c : ℕ) (x : Next) → IsLike w (down_taken w c x)
unfolding down_taken
down-like w c x = record { past = refl; runs = λ n e. e; lives = λ n. refl; replicas = λ n b. refl }

pub up-like : (w : World) (c : ℕ) (x : Next) → IsLike w (up_taken w c x)
unfolding up_taken
up-like w c x = record { past = refl; runs = λ n e. e; lives = λ n. refl; replicas = λ n b. refl }

pub lost-like : (w : World) (c : ℕ) (way : Direction) (more : ℕ) → IsLike w (lost w c way more)
lost-like w c direction.Down more = record { past = refl; runs = λ n e. e; lives = λ n. refl; replicas = λ n b. refl }
lost-like w c direction.Up more = record { past = refl; runs = λ n e. e; lives = λ n. refl; replicas = λ n b. refl }

pub stop-like : (w : World) (n : ℕ) → IsLike w (stop w n)
stop-like w n = record {
  past = refl;
  runs = λ m e. if-each (λ (b : Bool). b ≡ true → w.running m ≡ true) (m == n) false (w.running m) (λ _ q. absurd (false≢true q)) (λ _ q. q) e;
  lives = λ m. refl;
  replicas = λ m b. refl;
}

pub last-like : (w : World) (e : Event) → IsLike w (record w { last = Some e })
last-like w e = record { past = refl; runs = λ n q. q; lives = λ n. refl; replicas = λ n b. refl }

-- WHAT EACH CHANGE MAKES

both-of : {A : Type 0} (P Q R : A → Type 0) (o : Option A) → ((x : A) → P x → Q x → R x) → IfSome o P → IfSome o Q → IfSome o R
both-of P Q R None f p q = tt
both-of P Q R (Some x) f p q = f x p q

leaf-makes : (g : Givens) (t : Ends) (h : Histories) (w : World) (o : Option TakenEvent) (k : Option Change) → IfSome k (Leads g g t w) → IfSome k (LeafSyncs h w o) → IfSome k (IsBooked w o) → IfSome k (Makes h w o)
leaf-makes g t h w o None l s b = tt
leaf-makes g t h w o (Some k) l s b = record { booked = b; steps = l.steps; brings = s.brings; ups = s.ups }

quiet-makes : (g l : Givens) (t : Ends) (h : Histories) (w : World) (k : Option Change) → IfSome k (Leads g l t w) → IfSome k Quiet → IfSome k (IsBooked w None) → IfSome k (Makes h w None)
quiet-makes g l t h w None d q b = tt
quiet-makes g l t h w (Some k) d q b = record { booked = b; steps = d.steps; brings = tt; ups = λ _ _ c. subst (λ (ms : List Message). Each (UpSyncs h (apply w k) c) ms) (sym (q.ups c)) (each-nil (UpSyncs h (apply w k) c)) }

own-makes : (g : Givens) (t : Ends) (h : Histories) (w : World) (s : OwnStep) → Known g t w → IfSome (own_change w s) (Makes h w None)
own-makes g t h w (own.Writer b takes answered) k = quiet-makes g g t h w _ (own-leads g t w (own.Writer b takes answered) k) (own-writer-quiet w b.0 takes answered) (untouched-booked w _ (own-writer-untouched w b.0 takes answered))
own-makes g t h w (own.Reader i n r answered) k = quiet-makes g g t h w _ (own-leads g t w (own.Reader i n r answered) k) (own-reader-quiet w i n.0 r answered) (untouched-booked w _ (own-reader-untouched w i n.0 r answered))
own-makes g t h w (own.Recover i n b members answers) k = quiet-makes g g t h w _ (own-leads g t w (own.Recover i n b members answers) k) (own-recover-quiet w i n.0 b members answers) (untouched-booked w _ (own-recover-untouched w i n.0 b members answers))
own-makes g t h w (own.Primary i) k = quiet-makes g g t h w _ (own-leads g t w (own.Primary i) k) (own-primary-quiet w i) (untouched-booked w _ (own-primary-untouched w i))

office-steps : (g : Givens) (t : Ends) (w : World) (o : Option Change) → IfSome o (OfficeLeads g t w) → IfSome o (Steps w)
office-steps g t w o l = some-weaker (OfficeLeads g t w) (Steps w) o (λ k x. x.leads.steps) l

office-makes : (g : Givens) (t : Ends) (h : Histories) (w : World) (o : Option Change) → IfSome o (Steps w) → IfSome o Quiet → IfSome o (IsBooked w None) → IfSome o (Makes h w None)
office-makes g t h w None d q b = tt
office-makes g t h w (Some k) d q b = record { booked = b; steps = d; brings = tt; ups = λ _ _ c. subst (λ (ms : List Message). Each (UpSyncs h (apply w k) c) ms) (sym (q.ups c)) (each-nil (UpSyncs h (apply w k) c)) }

-- of a world that a change leads to
pub changed-steps : (g : Givens) (h : Histories) (w : World) (o : Option TakenEvent) (k : Option Change) → ((n b : ℕ) → IsFull (w.replicas n b)) → IfSome k (Makes h w o) → IfSome (changed w k) (Facts g) → Syncs h w → IfSome (changed w k) (Onwards h (with_event h o) w)
changed-steps g h w o None full m f s = tt
changed-steps g h w o (Some k) full m f s = makes-steps h w o k full f.full m s

-- DELIVERIES

pub syncing-of : (g : Givens) (t : Ends) (h : Histories) (w : World) → Known g t w → Syncs h w → Syncing g t h w
syncing-of g t h w k s = record { known = k; awaits = s.awaits; replays = s.replays }

pub alive-life : (w : World) (c : ℕ) → is_alive w (w.dialled c).to ≡ true → w.lives (node_of w c) ≡ (w.dialled c).to.life
alive-life w c e = let p = (w.dialled c).to in eqb-true (w.lives p.node) p.life (and-right (w.running p.node) (w.lives p.node == p.life) e)

pub served-runs : (w : World) (c : ℕ) → is_served w c ≡ true → w.running (node_of w c) ≡ true
served-runs w c e = let p = (w.dialled c).to in and-left (w.running p.node) (w.lives p.node == p.life) (and-right (nat_lt c w.next_conn) (is_alive w p) e)

pub sent-of : (w : World) (c : ℕ) (x : Next) → next_down w c ≡ Some x → IsSent w.past c x
sent-of w c (message m) e = ((w.down_marks c).taken, next-sent (w.downs c) (w.down_marks c) m e)
sent-of w c the_end e = tt

message-number : (g : Givens) (t : Ends) (w : World) (c : ℕ) (m : Message) → DownTells g t w c m → TakenNumber (message m)
message-number g t w c (packet p) x = (x.numbered.number, x.numbered.is)
message-number g t w c (request r) x = tt
message-number g t w c (response r) x = tt
message-number g t w c (ack a) x = tt
message-number g t w c (read_status s) x = tt
message-number g t w c (recovery_answer a) x = tt

pub number-of : (g : Givens) (t : Ends) (w : World) (c : ℕ) (x : Next) → Known g t w → next_down w c ≡ Some x → TakenNumber x
number-of g t w c (message m) k e = message-number g t w c m (k.acked.downs c (w.down_marks c).taken m (next-sent (w.downs c) (w.down_marks c) m e))
number-of g t w c the_end k e = tt

-- a write request that is taken is the first on its connection
pub first-of : (g : Givens) (t : Ends) (w : World) (c : ℕ) (x : Next) (f : WriteFields) → Known g t w → next_down w c ≡ Some x → x ≡ message (request (op.Write f)) → Asked w.past c f
first-of g t w c x f k e q = record { first = (k.facts.carried.downs c (w.down_marks c).taken (request (op.Write f)) (next-sent (w.downs c) (w.down_marks c) (request (op.Write f)) (e ∙ ap (λ (y : Next). Some y) q))).first }

pub lower-syncs : (g : Givens) (t : Ends) (h : Histories) (w : World) (c : ℕ) (x : Next) (answered fails : Bool) → Known g t (down_taken w c x) → Syncs h (down_taken w c x) → w.running (node_of w c) ≡ true → w.lives (node_of w c) ≡ (w.dialled c).to.life → IsSent w.past c x → TakenNumber x
    → ((f : WriteFields) → x ≡ message (request (op.Write f)) → Asked w.past c f) → IfSome (lower_down (w.lowers c) (down_taken w c x) c x answered fails) (LeafSyncs h (down_taken w c x) (lower_event (w.lowers c) (down_taken w c x) c x fails))
unfolding down_taken
lower-syncs g t h w c x answered fails k s runs alive sent n first = lower.lower-down-leaf (w.lowers c) g t h (down_taken w c x) c x answered fails (syncing-of g t h (down_taken w c x) k s) refl runs alive sent n first

follows-facts : (g : Givens) (w : World) (o : Option World) → IfSome o (Follows g w) → IfSome o (Facts g)
follows-facts g w o f = some-weaker (Follows g w) (Facts g) o (λ v x. x.facts) f

steps-before : (h l : Histories) (w u : World) (o : Option World) → Later h h w u → IfSome o (Onwards h l u) → IfSome o (Onwards h l w)
steps-before h l w u o a s = some-weaker (Onwards h l u) (Onwards h l w) o (λ v x. steps-then h l w u v a x) s

down-as-steps : (g : Givens) (t : Ends) (h : Histories) (w : World) (c : ℕ) (answered fails : Bool) (o : Option Next) → Known g t w → Syncs h w → c < w.next_conn → w.running (node_of w c) ≡ true → w.lives (node_of w c) ≡ (w.dialled c).to.life → next_down w c ≡ o
    → IfSome (down_as w c answered fails o) (Follows g w) → IfSome (down_as w c answered fails o) (Onwards h (with_event h (down_event_as w c fails o)) w)
down-as-steps g t h w c answered fails None k s lt runs alive e f = tt
down-as-steps g t h w c answered fails (Some x) k s lt runs alive e f =
    let v = down_taken w c x in
    let q = lower_down (w.lowers c) v c x answered fails in
    let ev = lower_event (w.lowers c) v c x fails in
    let known = down-known g t w c x k in
    let s2 = like-syncs h w v (down-like w c x) s in
    steps-before h (with_event h ev) w v (changed v q) (like-later h w v (down-like w c x))
    (changed-steps g h v ev q known.facts.full
    (leaf-makes g t h v ev q (leads-of g t v q (lower-taken g t w c x answered fails known lt alive (taken-tells g t w c x x (next-tells g t w c x k e))))
    (lower-syncs g t h w c x answered fails known s2 runs alive (sent-of w c x e) (number-of g t w c x k e) (λ p r. first-of g t w c x p k e r)) (lower-down-booked (w.lowers c) v c x answered fails known.facts.full))
    (follows-facts g v (changed v q) (down-follows g w c x (changed v q) f)) s2)

down-steps : (g : Givens) (t : Ends) (h : Histories) (w : World) (c : ℕ) (answered fails : Bool) → Known g t w → Syncs h w → IfSome (down_event w c answered fails) (Follows g w) → IfSome (down_event w c answered fails) (Onwards h (with_event h (down_event_as w c fails (next_down w c))) w)
down-steps g t h w c answered fails k s f =
    when-two (Follows g w) (Onwards h (with_event h (down_event_as w c fails (next_down w c))) w) (is_served w c) _ f (λ e q. down-as-steps g t h w c answered fails (next_down w c) k s (served-known w c e) (served-runs w c e) (served-life w c e) refl q)

ready-steps : (g : Givens) (t : Ends) (h : Histories) (w : World) (c : ℕ) (fails : Bool) → Known g t w → Syncs h w → IfSome (ready_event w c fails) (Follows g w) → IfSome (ready_event w c fails) (Onwards h (with_event h (acting_event (w.lowers c) w c fails)) w)
ready-steps g t h w c fails k s f =
    let q = lower_ready (w.lowers c) w c fails in
    let ev = acting_event (w.lowers c) w c fails in
    when-two (Follows g w) (Onwards h (with_event h ev) w) (is_served w c) _ f (λ e z. changed-steps g h w ev q k.facts.full
    (leaf-makes g t h w ev q (leads-of g t w q (lower-ready-leaf (w.lowers c) g t w c fails k refl (served-life w c e)))
    (lower.lower-ready-leaf (w.lowers c) g t h w c fails (syncing-of g t h w k s) refl (served-life w c e)) (lower-ready-booked (w.lowers c) w c fails k.facts.full)) (follows-facts g w (changed w q) z) s)

pub heard-of : (h : Histories) (w : World) (c : ℕ) (x : Next) → Syncs h w → next_up w c ≡ Some x → HeardSyncs h w c x
heard-of h w c (message m) s e = s.ups c (w.up_marks c).taken m (next-sent (w.ups c) (w.up_marks c) m e)
heard-of h w c the_end s e = tt

pub heard-like : (h : Histories) (w v : World) (c : ℕ) (x : Next) → Later h h w v → HeardSyncs h w c x → HeardSyncs h v c x
heard-like h w v c (message m) l s = up-on h h w v c m l s
heard-like h w v c the_end l s = tt

unless-quiet : (fails : Bool) (k : Option Change) → IfSome k Quiet → IfSome (unless_fails fails k) Quiet
unless-quiet true k q = tt
unless-quiet false k q = q

upper-makes : (u : Upper) (g : Givens) (t : Ends) (h : Histories) (w : World) (c : ℕ) (x : Next) (fails : Bool) → Known g t w → Syncs h w → (w.dialled c).upper ≡ u → c < w.next_conn → HeardSyncs h w c x → IfSome (upper_up u w c x fails) (Leads g g t w)
    → IfSome (upper_up u w c x fails) (Makes h w (upper_event u w x fails))
upper-makes (by_writer b) g t h w c x fails k s e lt n l = quiet-makes g g t h w _ l (unless-quiet fails _ (writer-up-quiet w b c x)) (upper-booked (by_writer b) w c x fails)
upper-makes (by_member d) g t h w c x fails k s e lt n l =
    leaf-makes g t h w (upper_event (by_member d) w x fails) _ l
    (lower.mirror-leaf (w.lowers d) g t h w d c x fails (syncing-of g t h w k s) refl (λ a. alive-life w d a) (subst (λ (u : Upper). UpperTells w.past c u) e (k.acked.uppers c lt)) n)
    (upper-booked (by_member d) w c x fails)
upper-makes (by_reader i) g t h w c x fails k s e lt n l = quiet-makes g g t h w _ l (unless-quiet fails _ (reader-up-quiet w i c x)) (upper-booked (by_reader i) w c x fails)
upper-makes (by_primary i p) g t h w c x fails k s e lt n l = quiet-makes g g t h w _ l (unless-quiet fails _ (primary-up-quiet w i p c x)) (upper-booked (by_primary i p) w c x fails)

upper-syncs : (g : Givens) (t : Ends) (h : Histories) (w : World) (c : ℕ) (x : Next) (fails : Bool) → Known g t (up_taken w c x) → Syncs h (up_taken w c x) → c < w.next_conn → HeardSyncs h (up_taken w c x) c x → IfSome (upper_up (w.dialled c).upper (up_taken w c x) c x fails) (Leads g g t (up_taken w c x))
    → IfSome (upper_up (w.dialled c).upper (up_taken w c x) c x fails) (Makes h (up_taken w c x) (upper_event (w.dialled c).upper (up_taken w c x) x fails))
unfolding up_taken
upper-syncs g t h w c x fails k s lt n l = upper-makes (w.dialled c).upper g t h (up_taken w c x) c x fails k s refl lt n l

up-as-steps : (g : Givens) (t : Ends) (h : Histories) (w : World) (c : ℕ) (fails : Bool) (o : Option Next) → Known g t w → Syncs h w → c < w.next_conn → next_up w c ≡ o → IfSome (up_as w c fails o) (Follows g w)
    → IfSome (up_as w c fails o) (Onwards h (with_event h (up_event_as w c fails o)) w)
up-as-steps g t h w c fails None k s lt e f = tt
up-as-steps g t h w c fails (Some x) k s lt e f =
    let v = up_taken w c x in
    let q = upper_up (w.dialled c).upper v c x fails in
    let ev = upper_event (w.dialled c).upper v x fails in
    let known = up-known g t w c x k in
    let l = like-later h w v (up-like w c x) in
    let s2 = like-syncs h w v (up-like w c x) s in
    steps-before h (with_event h ev) w v (changed v q) l
    (changed-steps g h v ev q known.facts.full
    (upper-syncs g t h w c x fails known s2 lt (heard-like h w v c x l (heard-of h w c x s e)) (upper-taken g t w c x fails known lt (heard-tells g t w c x k e)))
    (follows-facts g v (changed v q) (up-follows g w c x (changed v q) f)) s2)

up-steps : (g : Givens) (t : Ends) (h : Histories) (w : World) (c : ℕ) (fails : Bool) → Known g t w → Syncs h w → IfSome (up_event w c fails) (Follows g w) → IfSome (up_event w c fails) (Onwards h (with_event h (up_event_as w c fails (next_up w c))) w)
up-steps g t h w c fails k s f = when-two (Follows g w) (Onwards h (with_event h (up_event_as w c fails (next_up w c))) w) (nat_lt c w.next_conn) _ f (λ e q. up-as-steps g t h w c fails (next_up w c) k s (lt-true c w.next_conn e) refl q)

fault-steps : (g : Givens) (t : Ends) (h : Histories) (w : World) (d : Delivery) → Known g t w → Syncs h w → IfSome (fault_event w d) (Follows g w) → IfSome (fault_event w d) (Onwards h (with_event h (delivery_event w d true)) w)
fault-steps g t h w (delivery.Down c) k s f = down-steps g t h w c.0 false true k s f
fault-steps g t h w (delivery.Ready c) k s f = ready-steps g t h w c.0 true k s f
fault-steps g t h w (delivery.Up c) k s f = up-steps g t h w c.0 true k s f

-- RESTARTS

pub eq-self : (n : ℕ) → (n == n) ≡ true
eq-self n = grind (arith, nat_tests)

-- nothing is pending at a replica that was found
found-awaits : (p : Past) (x : History) (b : ℕ) (f : Option Found) → Pend (Awaits p x b) (replica_found b f).known
found-awaits p x b None = tt
found-awaits p x b (Some f) = λ j e q. absurd (none-some e q)

restarted-awaits : (p : Past) (x : History) (b : ℕ) (w : World) (n : ℕ) (f : Option Found) → Pend (Awaits p x b) (restarted b (w.replicas n b) (w.breaks n b) f).known
unfolding restarted
restarted-awaits p x b w n f = found-awaits p x b (if may_find (w.replicas n b) (w.breaks n b) f then f else whole_found (w.replicas n b) (w.breaks n b))

-- the histories of a node that restarts
abbrev Anew : Histories → ℕ → (ℕ → FullReplica) → Histories
Anew h n r = put h n (λ b. at_first (r b))

restart-seat : (h : Histories) (w : World) (n : ℕ) (list : List FoundReplica) (r : ℕ → FullReplica) (b s m most : ℕ) → SyncSeat h w b s m most → SyncSeat (Anew h n r) (restart w n list) b s m most
unfolding restart
restart-seat h w n list r b s m most x = record {
  life = x.life;
  joins = x.joins;
  born = more (m == n) refl;
  holds = λ runs alive sound j le left. at j le (m == n) refl runs alive sound (record { each = left.each });
}
  where
    more : (c : Bool) → (m == n) ≡ c → x.life ≤ (if c then w.lives n + 1 else w.lives m)
    more true q = omega (arith, x.born, ap (λ (i : ℕ). w.lives i) (eqb-true m n q))
    more false q = x.born

    at : (j : ℕ) → j ≤ most → (c : Bool) → (m == n) ≡ c → (if c then true else w.running m) ≡ true → (if c then w.lives n + 1 else w.lives m) ≡ x.life
        → ((if c then (λ d. restarted d (w.replicas n d) (w.breaks n d) (found_in list d)) else w.replicas m) b).known.is_broken ≡ false → UpdatesLeave w b s m x.life j
        → Holds ((if c then (λ d. at_first (r d)) else h m) b) ((if c then (λ d. restarted d (w.replicas n d) (w.breaks n d) (found_in list d)) else w.replicas m) b) s j
    at j le true q runs alive sound left = absurd (omega (arith, alive, x.born, ap (λ (i : ℕ). w.lives i) (eqb-true m n q)))
    at j le false q runs alive sound left = x.holds runs alive sound j le left

restart-steps : (h : Histories) (w : World) (n : ℕ) (list : List FoundReplica) (r : ℕ → FullReplica) → ((b : ℕ) → r b ≡ (restart w n list).replicas n b) → Syncs h w → Onwards h (Anew h n r) w (restart w n list)
unfolding restart
restart-steps h w n list r e s = record {
  later = later;
  syncs = record {
    replays = λ m b. replays m b (m == n) refl;
    awaits = record { each = λ m b. awaits m b (m == n) };
    ups = λ c i x q. up-on h (Anew h n r) w (restart w n list) c x later (s.ups c i x q);
  };
}
  where
    later : Later h (Anew h n r) w (restart w n list)
    later = record {
      seats = λ b p m j x. restart-seat h w n list r b p m j x;
      sent = record { downs = λ c i m q. q };
      conns = omega arith;
      nodes = λ c lt. refl;
      joined = λ x j. j;
    }

    here : (b : ℕ) → r b ≡ restarted b (w.replicas n b) (w.breaks n b) (found_in list b)
    here b = e b ∙ ap (λ (t : Bool). (if t then (λ d. restarted d (w.replicas n d) (w.breaks n d) (found_in list d)) else w.replicas n) b) (eq-self n)

    replays : (m b : ℕ) (c : Bool) → (m == n) ≡ c → Replays ((if c then (λ d. at_first (r d)) else h m) b) ((if c then (λ d. restarted d (w.replicas n d) (w.breaks n d) (found_in list d)) else w.replicas m) b)
    replays m b true q = record { is = here b }
    replays m b false q = s.replays m b

    awaits : (m b : ℕ) (c : Bool) → Pend (Awaits w.past ((if c then (λ d. at_first (r d)) else h m) b) b) ((if c then (λ d. restarted d (w.replicas n d) (w.breaks n d) (found_in list d)) else w.replicas m) b).known
    awaits m b true = restarted-awaits w.past (at_first (r b)) b w n (found_in list b)
    awaits m b false = s.awaits.each m b

-- ALL EVENTS

where-steps : (h l : Histories) (w : World) (test : Bool) (v : World) → Onwards h l w v → IfSome (where_so test v) (Onwards h l w)
where-steps h l w true v x = x
where-steps h l w false v x = tt

where-restart : (h : Histories) (w : World) (n : ℕ) (list : List FoundReplica) (e : Event) (test t : Bool) → test ≡ t → Syncs h w → IfSome (where_so t (restart w n list)) (Onwards h (Anew h n (λ b. (after_event w e (where_so test (restart w n list))).replicas n b)) w)
where-restart h w n list e test false q s = tt
where-restart h w n list e test true q s = restart-steps h w n list _ (λ b. ap (λ (z : Bool). (after_event w e (where_so z (restart w n list))).replicas n b) q) s

pub outcome-steps : (g : Givens) (t : Ends) (h : Histories) (w : World) (e : Event) → Known g t w → Syncs h w → IfSome (outcome w e) (Follows (given_by g w e) w) → IfSome (outcome w e) (Onwards h (history_with h w e) w)
unfolding outcome happens
outcome-steps g t h w (event.Own x) k s f = changed-steps g h w None (own_change w x) k.facts.full (own-makes g t h w x k) (follows-facts g w _ f) s
outcome-steps g t h w (event.Office c) k s f =
    changed-steps (given_with g (stamped_in (office_event w c))) h w None (office_event w c) k.facts.full
    (office-makes g t h w (office_event w c) (office-steps g t w (office_event w c) (office-event-leads g t w c k)) (office-quiet w c) (untouched-booked w (office_event w c) (office-untouched w c)))
    (follows-facts (given_with g (stamped_in (office_event w c))) w _ f) s
outcome-steps g t h w (event.Down c answered) k s f = down-steps g t h w c.0 answered false k s f
outcome-steps g t h w (event.Ready c) k s f = ready-steps g t h w c.0 false k s f
outcome-steps g t h w (event.Up c) k s f = up-steps g t h w c.0 false k s f
outcome-steps g t h w (event.Lost c way more) k s f = where-steps h h w (nat_lt c.0 w.next_conn) (lost w c.0 way more) (like-steps h w (lost w c.0 way more) (lost-like w c.0 way more) s)
outcome-steps g t h w (event.Fault d) k s f = fault-steps g t h w d k s f
outcome-steps g t h w (event.Stop n) k s f = where-steps h h w (w.running n.0) (stop w n.0) (like-steps h w (stop w n.0) (stop-like w n.0) s)
outcome-steps g t h w (event.Restart n list) k s f =
    where-restart h w n.0 list (event.Restart n list) (nat_lt n.0 w.nodes && not (w.running n.0)) (nat_lt n.0 w.nodes && not (w.running n.0)) refl s

after-steps : (h l : Histories) (w : World) (e : Event) (o : Option World) → Syncs h w → IfSome o (Onwards h l w) → Onwards h (if is_some o then l else h) w (after_event w e o)
after-steps h l w e None s x = record { syncs = s; later = like-later h w w (record { past = refl; runs = λ n q. q; lives = λ n. refl; replicas = λ n b. refl }) }
after-steps h l w e (Some v) s x =
    let y = like-steps l v (record v { last = Some e }) (last-like v e) x.syncs in
    record { syncs = y.syncs; later = later-then h l l w v (record v { last = Some e }) x.later y.later }

pub happens-steps : (g : Givens) (t : Ends) (h : Histories) (w : World) (e : Event) → Known g t w → Syncs h w → Follows (given_by g w e) w (happens w e) → Onwards h (history_by h w e) w (happens w e)
unfolding happens
happens-steps g t h w e k s f = after-steps h (history_with h w e) w e (outcome w e) s (outcome-steps g t h w e k s (outcome-follows (given_by g w e) w e (outcome w e) f))

pub start-syncs : (nodes : ℕ) → Syncs no_events (start nodes)
unfolding start
start-syncs nodes = record {
  replays = λ n b. record { is = refl };
  awaits = record { each = λ n b. tt };
  ups = λ c i m e. absurd (none-some m e);
}
