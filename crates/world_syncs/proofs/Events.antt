-- What the events of the world make of waits for the packets of hsyncs.
use Rattle.std.proofs.Common.{◌≡◌, ℕ, ◌<◌, ◌⊎◌, inl, inr, Bool, true, false, List, slice_get, Option, Some, None, IfSome, refl, sym, ap, subst}
use Rattle.std.specs.Prelude.{◌&&◌, not, nat_lt, is_some, is_none, if◌then◌else◌}
use Rattle.std.proofs.lemmas.Option.{none-some}
use Rattle.hd_base.specs.declared.numbers.BlockId.{BlockId}
use Rattle.hd_base.specs.declared.numbers.NodeId.{NodeId}
use Rattle.hd_base.specs.declared.numbers.Stamp.{Stamp}
use Rattle.op_headers.specs.declared.ops.Op.{Op}
use Rattle.op_headers.specs.declared.ops.Op.TheVariants as op
use Rattle.op_headers.specs.Values.{WriteFields}
use Rattle.packet_codec.specs.declared.packets.Packet.{Packet}
use Rattle.name_core.specs.declared.calls.OfficeCall.{OfficeCall}
use Rattle.name_core.specs.declared.calls.OfficeCall.TheVariants as call
use Rattle.recovery_core.specs.declared.primary.OwnStep.{OwnStep as PrimaryStep}
use Rattle.recovery_core.specs.declared.primary.OwnStep.TheVariants as primary_own
use Rattle.recovery_core.specs.Primaries.{sync_call}
use Rattle.recovery_core.specs.Primaries as primary
use Rattle.writer_core.specs.declared.actions.Action.{Action}
use Rattle.writer_core.specs.declared.actions.Action.TheVariants as action
use Rattle.writer_core.specs.declared.records.WriterRecord.{WriterRecord}
use Rattle.writer_core.specs.Transitions.{own_step}
use Rattle.world.specs.declared.events.Caller.{Caller}
use Rattle.world.specs.declared.events.Caller.TheVariants as caller
use Rattle.world.specs.declared.events.Delivery.{Delivery}
use Rattle.world.specs.declared.events.Delivery.TheVariants as delivery
use Rattle.world.specs.declared.events.Direction.{Direction}
use Rattle.world.specs.declared.events.Direction.TheVariants as direction
use Rattle.world.specs.declared.events.Event.{Event}
use Rattle.world.specs.declared.events.Event.TheVariants as event
use Rattle.world.specs.declared.events.FoundReplica.{FoundReplica}
use Rattle.world.specs.declared.events.OwnStep.{OwnStep}
use Rattle.world.specs.declared.events.OwnStep.TheVariants as own
use Rattle.world.specs.Parts.{Message, request, packet, ack, response, read_status, recovery_answer, Told, Upper, by_writer, by_member, by_reader, by_primary, Primary, no_primary, was_told, leads, has_led, Leading}
use Rattle.world.specs.Worlds.{Past, World, Change, apply}
use Rattle.world.specs.Connections.{Next, next_down, next_up, down_taken, up_taken, is_alive, is_served}
use Rattle.world.specs.Nodes.{node_of, lower_down, lower_ready, mirror_up}
use Rattle.world.specs.Clients.{writer_up, own_reader, reader_up}
use Rattle.world.specs.Primaries.{own_recover, own_primary, primary_up, asks_primary, writer_asks, primary_commits, primary_asks, office_event}
use Rattle.world.specs.Restarts.{restart}
use Rattle.world.specs.Events.{changed, own_change, down_as, down_event, ready_event, unless_fails, upper_up, up_as, up_event, fault_event, lost, stop, where_so, outcome, after_event, happens}
use Rattle.world.specs.Safe.{Has}
use Rattle.world_laws.proofs.FactTables.{when-each, some-weaker}
use Rattle.world_laws.proofs.StampWalking.{none-is}
use Rattle.world_laws.proofs.SessionAsides.{Aside, lower-down-aside, lower-ready-aside, mirror-up-aside, own-reader-aside, reader-up-aside, own-recover-aside, own-primary-aside, primary-up-aside}
use Rattle.world_laws.proofs.OfficeSteps.{AsksAs, IsPrimarys, own-step-asking}
use Rattle.world_laws.proofs.OfficeSteps as steps
use Rattle.world_laws.specs.Stamping.{Givens, Recorded, given_with, stamped_in, given_by, known_heard, heard}
use Rattle.world_laws.specs.Carrying.{Sets}
use Rattle.world_laws.specs.Joining.{SetUps, joined_as}
use Rattle.world_acks.specs.Acking.{Ends, UpperTells, Numbers, Asked, Seated}
use Rattle.world_acks.proofs.Seats.{seated-on}
use Rattle.world_acks.specs.Waiting.{Unasked}
use Rattle.world_acks.proofs.Turning.{Known}
use Rattle.world_acks.proofs.Granting.{OfficeLeads, office-event-leads, fresh-given, answers-by, latest-by}
use Rattle.world_acks.proofs.AllAcked.{IsLike, like-onward, down-known, up-known, when-two, lt-true, served-life}
use Rattle.world_writers.specs.Showing.{Asking, not_asked, was_asked, was_answered, asking_in, ShowsAt}
use Rattle.world_writers.specs.Taking.{Joins}
use Rattle.world_syncs.specs.Histories.{Histories, TakenEvent, with_event, history_with, history_by, lower_event, acting_event, upper_event, down_event_as, up_event_as, delivery_event}
use Rattle.world_syncs.proofs.Turning.{Later, HeardSyncs}
use Rattle.world_syncs.proofs.Lowers.{LeafSyncs, DownForwards, DialCopies}
use Rattle.world_syncs.proofs.Lowers as lower
use Rattle.world_syncs.proofs.Quiets.{Quiet, own-reader-quiet, own-recover-quiet, own-primary-quiet, reader-up-quiet, primary-up-quiet}
use Rattle.world_syncs.proofs.Calms.{Calm, NoWrite, own-reader-calm, own-recover-calm, own-primary-calm, reader-up-calm, primary-up-calm}
use Rattle.world_syncs.proofs.Running.{Onwards, like-later, like-syncs, down-like, up-like, last-like, later-then, lower-syncs, served-runs, sent-of, number-of, first-of, syncing-of, heard-of, heard-like, alive-life}
use Rattle.world_syncs.proofs.Waiting.{WriterWaits, FormedOk, SyncReached, Waits, Frame}
use Rattle.world_syncs.proofs.Changes.{NewDown, NewDial}
use Rattle.world_syncs.proofs.Stepping.{Around, After, Leads, NoPacket, NoFields, none-joined, aside-leads, waits-same}
use Rattle.world_syncs.proofs.Answering.{none-sent, asks-leads, primary-leads}
use Rattle.world_syncs.proofs.Owning.{own-writer-leads, writer-up-leads}

-- WHAT IS KNOWN OF THE WORLD AFTER

pub record Ahead (l : Givens) (h j : Histories) (w v : World) : Type 0 where
  pub sets : SetUps l v
  pub joins : Joins v
  pub recorded : Recorded l v
  pub later : Later h j w v

after-of : (g l : Givens) (t : Ends) (h j : Histories) (w : World) (k : Change) → Around g t h w → ((b s e : ℕ) → g b s ≡ Some e → l b s ≡ Some e) → Ahead l h j w (apply w k) → After g l t h j w k
unfolding apply
after-of g l t h j w k a given z = record {
  sides = record { known = a.known; joins = a.joins; runs = a.runs; sets = z.sets; joins_after = z.joins; given = given; later = z.later; nodes = refl; lives = λ n. refl };
  recorded = z.recorded;
}

changed-waits : (g l : Givens) (t : Ends) (h j : Histories) (w : World) (o : Option Change) → Around g t h w → ((b s e : ℕ) → g b s ≡ Some e → l b s ≡ Some e) → IfSome o (Leads g l t h j w) → IfSome (changed w o) (Ahead l h j w) → IfSome (changed w o) (Waits l j)
changed-waits g l t h j w None a given d z = tt
changed-waits g l t h j w (Some k) a given d z = d.go (after-of g l t h j w k a given z)

-- the same given where marks moved on before
ahead-from : (l : Givens) (h j : Histories) (w u v : World) → Later h h u w → Ahead l h j w v → Ahead l h j u v
ahead-from l h j w u v back z = record { sets = z.sets; joins = z.joins; recorded = z.recorded; later = later-then h h j u w v back z.later }

-- CHANGES THAT LEAVE WRITERS

down-op : (p : Past) (c : ℕ) (o : Op) → DownForwards p c (request o) → NewDown p NoPacket c (request o)
down-op p c (op.Write f) x = x
down-op p c (op.Read r) x = tt
down-op p c (op.Recovery r) x = tt
down-op p c (op.Transfer r) x = tt
down-op p c (op.Checksum r) x = tt

down-new : (p : Past) (c : ℕ) (m : Message) → DownForwards p c m → NewDown p NoPacket c m
down-new p c (packet d) x = inl x
down-new p c (request o) x = down-op p c o x
down-new p c (ack a) x = tt
down-new p c (response r) x = tt
down-new p c (read_status s) x = tt
down-new p c (recovery_answer s) x = tt

dial-op : (p : Past) (o : Op) → DialCopies p (request o) → NewDial p NoFields (request o)
dial-op p (op.Write f) x = inl x
dial-op p (op.Read r) x = tt
dial-op p (op.Recovery r) x = tt
dial-op p (op.Transfer r) x = tt
dial-op p (op.Checksum r) x = tt

dial-new : (p : Past) (m : Message) → DialCopies p m → NewDial p NoFields m
dial-new p (packet d) x = x
dial-new p (request o) x = dial-op p o x
dial-new p (ack a) x = tt
dial-new p (response r) x = tt
dial-new p (read_status s) x = tt
dial-new p (recovery_answer s) x = tt

calm-op : (p : Past) (o : Op) → NoWrite (request o) → (c : ℕ) → NewDown p NoPacket c (request o) × NewDial p NoFields (request o)
calm-op p (op.Write f) x c = absurd x
calm-op p (op.Read r) x c = (tt, tt)
calm-op p (op.Recovery r) x c = (tt, tt)
calm-op p (op.Transfer r) x c = (tt, tt)
calm-op p (op.Checksum r) x c = (tt, tt)

calm-new : (p : Past) (m : Message) → NoWrite m → (c : ℕ) → NewDown p NoPacket c m × NewDial p NoFields m
calm-new p (packet d) x c = absurd x
calm-new p (request o) x c = calm-op p o x c
calm-new p (ack a) x c = (tt, tt)
calm-new p (response r) x c = (tt, tt)
calm-new p (read_status s) x c = (tt, tt)
calm-new p (recovery_answer s) x c = (tt, tt)

leaf-leads : (g : Givens) (t : Ends) (h : Histories) (w : World) (o : Option TakenEvent) (k : Option Change) → Around g t h w → IfSome k (Aside w) → IfSome k (LeafSyncs h w o) → IfSome k (Leads g g t h (with_event h o) w)
leaf-leads g t h w o None a s l = tt
leaf-leads g t h w o (Some k) a s l =
    aside-leads g t h (with_event h o) w k a s (record {
      downs = λ c. record { at = λ i m e. down-new w.past c m ((l.downs c).at i m e) };
      dials = λ i d e. dial-new w.past d.request (l.dials i d e);
    }) l.joins

calm-leads : (g : Givens) (t : Ends) (h : Histories) (w : World) (k : Option Change) → Around g t h w → IfSome k (Aside w) → IfSome k Calm → IfSome k Quiet → IfSome k (Leads g g t h h w)
calm-leads g t h w None a s c q = tt
calm-leads g t h w (Some k) a s c q =
    aside-leads g t h h w k a s (record {
      downs = λ d. record { at = λ i m e. (calm-new w.past m ((c.downs d).at i m e) d).0 };
      dials = λ i d e. (calm-new w.past d.request (c.dials i d e) 0).1;
    }) (none-joined w k q.joined)

-- WORLDS WITH THE SAME PAST

like-frame : (g : Givens) (t : Ends) (h j : Histories) (w v : World) → v.past ≡ w.past → v.nodes ≡ w.nodes → Known g t w → Recorded g v → Later h j w v → Frame g g t h j w v NoPacket NoFields
like-frame g t h j w v e n known recorded later = record {
  later = later;
  known = known;
  recorded = recorded;
  given = λ b s d q. q;
  sent = λ c i p s there sets. inl (c, i, subst (λ (q : Past). slice_get (q.downs c) i ≡ Some (packet p)) e there, subst (λ (q : Past). Sets q c s) e sets);
  asked = λ c f x. inl (subst (λ (q : Past). Asked q c f) e x);
  joins = λ s m i has. inl (subst (λ (q : Past). Has q.joined (joined_as s m i)) e has);
  nodes = n;
}

shows-like : (i : Asking) (g : Givens) (t : Ends) (w v : World) (c : ℕ) (f : WriteFields) (e n : ℕ) → IsLike w v → node_of w c ≡ node_of v c → ShowsAt i w c f e n → ShowsAt i v c f e n
shows-like not_asked g t w v c f e n l same x = tt
shows-like was_asked g t w v c f e n l same x = x
shows-like was_answered g t w v c f e n l same x = subst (λ (m : ℕ). Seated v f m e n) same (seated-on g g t t w v f (node_of w c) e n (like-onward g t w v l) x)

down-back : (w : World) (c : ℕ) (x : Next) → IsLike (down_taken w c x) w
unfolding down_taken
down-back w c x = record { past = refl; runs = λ n e. e; lives = λ n. refl; replicas = λ n b. refl }

around-down : (g : Givens) (t : Ends) (h : Histories) (w : World) (c : ℕ) (x : Next) → Around g t h w → Around g t h (down_taken w c x)
unfolding down_taken
around-down g t h w c x a =
    let v = down_taken w c x in
    let known = down-known g t w c x a.known in
    let like = down-like w c x in
    let j = a.joins in
    record {
      known = known;
      joins = record { few = j.few; begun = j.begun; once = j.once; unmet = j.unmet; stamped = j.stamped; members = j.members; setups = j.setups; fits = j.fits; under = j.under; sessions = j.sessions; early = j.early; late = j.late; within = j.within; order = j.order; answered = j.answered; acked = j.acked; cover = j.cover; given = j.given; reach = j.reach; single = j.single };
      runs = a.runs;
      syncs = like-syncs h w v like a.syncs;
      waits = waits-same g t h h w v (like-frame g t h h w v refl refl a.known known.facts.recorded (like-later h w v like)) refl refl refl a.waits;
      shows = λ b. record { within = (a.shows b).within; starts = (a.shows b).starts; shown = λ d e f q. shows-like (asking_in (heard (w.writers b)).phase) g t w v d f (w.latest b) (heard (w.writers b)).stream.acked like refl ((a.shows b).shown d e f q) };
      piped = a.piped;
      ends = a.ends;
      waited = a.waited;
    }

up-back : (w : World) (c : ℕ) (x : Next) → IsLike (up_taken w c x) w
unfolding up_taken
up-back w c x = record { past = refl; runs = λ n e. e; lives = λ n. refl; replicas = λ n b. refl }

around-up : (g : Givens) (t : Ends) (h : Histories) (w : World) (c : ℕ) (x : Next) → Around g t h w → Around g t h (up_taken w c x)
unfolding up_taken
around-up g t h w c x a =
    let v = up_taken w c x in
    let known = up-known g t w c x a.known in
    let like = up-like w c x in
    let j = a.joins in
    record {
      known = known;
      joins = record { few = j.few; begun = j.begun; once = j.once; unmet = j.unmet; stamped = j.stamped; members = j.members; setups = j.setups; fits = j.fits; under = j.under; sessions = j.sessions; early = j.early; late = j.late; within = j.within; order = j.order; answered = j.answered; acked = j.acked; cover = j.cover; given = j.given; reach = j.reach; single = j.single };
      runs = a.runs;
      syncs = like-syncs h w v like a.syncs;
      waits = waits-same g t h h w v (like-frame g t h h w v refl refl a.known known.facts.recorded (like-later h w v like)) refl refl refl a.waits;
      shows = λ b. record { within = (a.shows b).within; starts = (a.shows b).starts; shown = λ d e f q. shows-like (asking_in (heard (w.writers b)).phase) g t w v d f (w.latest b) (heard (w.writers b)).stream.acked like refl ((a.shows b).shown d e f q) };
      piped = a.piped;
      ends = a.ends;
      waited = a.waited;
    }

-- DELIVERIES

down-as-waits : (g : Givens) (t : Ends) (h : Histories) (w : World) (c : ℕ) (answered fails : Bool) (o : Option Next) → Around g t h w → w.running (node_of w c) ≡ true → w.lives (node_of w c) ≡ (w.dialled c).to.life → next_down w c ≡ o
    → IfSome (down_as w c answered fails o) (Ahead g h (with_event h (down_event_as w c fails o)) w) → IfSome (down_as w c answered fails o) (Waits g (with_event h (down_event_as w c fails o)))
down-as-waits g t h w c answered fails None a runs alive e f = tt
down-as-waits g t h w c answered fails (Some x) a runs alive e f =
    let v = down_taken w c x in
    let q = lower_down (w.lowers c) v c x answered fails in
    let ev = lower_event (w.lowers c) v c x fails in
    let b = around-down g t h w c x a in
    changed-waits g g t h (with_event h ev) v q b (λ i s d z. z)
    (leaf-leads g t h v ev q b (lower-down-aside (w.lowers c) v c x answered fails) (lower-syncs g t h w c x answered fails b.known b.syncs runs alive (sent-of w c x e) (number-of g t w c x a.known e) (λ p r. first-of g t w c x p a.known e r)))
    (some-weaker (Ahead g h (with_event h ev) w) (Ahead g h (with_event h ev) v) (changed v q) (λ u z. ahead-from g h (with_event h ev) w v u (like-later h v w (down-back w c x)) z) f)

down-waits : (g : Givens) (t : Ends) (h : Histories) (w : World) (c : ℕ) (answered fails : Bool) → Around g t h w → IfSome (down_event w c answered fails) (Ahead g h (with_event h (down_event_as w c fails (next_down w c))) w)
    → IfSome (down_event w c answered fails) (Waits g (with_event h (down_event_as w c fails (next_down w c))))
down-waits g t h w c answered fails a f =
    let j = with_event h (down_event_as w c fails (next_down w c)) in
    when-two (Ahead g h j w) (Waits g j) (is_served w c) _ f (λ e q. down-as-waits g t h w c answered fails (next_down w c) a (served-runs w c e) (served-life w c e) refl q)

ready-waits : (g : Givens) (t : Ends) (h : Histories) (w : World) (c : ℕ) (fails : Bool) → Around g t h w → IfSome (ready_event w c fails) (Ahead g h (with_event h (acting_event (w.lowers c) w c fails)) w) → IfSome (ready_event w c fails) (Waits g (with_event h (acting_event (w.lowers c) w c fails)))
ready-waits g t h w c fails a f =
    let q = lower_ready (w.lowers c) w c fails in
    let ev = acting_event (w.lowers c) w c fails in
    let j = with_event h ev in
    when-two (Ahead g h j w) (Waits g j) (is_served w c) _ f (λ e z. changed-waits g g t h j w q a (λ i s d y. y)
    (leaf-leads g t h w ev q a (lower-ready-aside (w.lowers c) w c fails) (lower.lower-ready-leaf (w.lowers c) g t h w c fails (syncing-of g t h w a.known a.syncs) refl (served-life w c e))) z)

unless-leads : (g : Givens) (t : Ends) (h : Histories) (w : World) (fails : Bool) (k : Option Change) → IfSome k (Leads g g t h h w) → IfSome (unless_fails fails k) (Leads g g t h h w)
unless-leads g t h w true k x = tt
unless-leads g t h w false k x = x

upper-leads : (u : Upper) (g : Givens) (t : Ends) (h : Histories) (w : World) (c : ℕ) (x : Next) (fails : Bool) → Around g t h w → (w.dialled c).upper ≡ u → c < w.next_conn → HeardSyncs h w c x → IfSome (upper_up u w c x fails) (Leads g g t h (with_event h (upper_event u w x fails)) w)
upper-leads (by_writer b) g t h w c x fails a e lt n = unless-leads g t h w fails (writer_up w b c x) (writer-up-leads g t h w b c x a n)
upper-leads (by_member d) g t h w c x fails a e lt n =
    leaf-leads g t h w (upper_event (by_member d) w x fails) (mirror_up (w.lowers d) w d x fails) a (mirror-up-aside (w.lowers d) w d x fails)
    (lower.mirror-leaf (w.lowers d) g t h w d c x fails (syncing-of g t h w a.known a.syncs) refl (λ z. alive-life w d z) (subst (λ (u : Upper). UpperTells w.past c u) e (a.known.acked.uppers c lt)) n)
upper-leads (by_reader i) g t h w c x fails a e lt n = unless-leads g t h w fails (reader_up w i c x) (calm-leads g t h w (reader_up w i c x) a (reader-up-aside w i c x) (reader-up-calm w i c x) (reader-up-quiet w i c x))
upper-leads (by_primary i p) g t h w c x fails a e lt n = unless-leads g t h w fails (primary_up w i p c x) (calm-leads g t h w (primary_up w i p c x) a (primary-up-aside w i p c x) (primary-up-calm w i p c x) (primary-up-quiet w i p c x))

upper-at : (g : Givens) (t : Ends) (h : Histories) (w : World) (c : ℕ) (x : Next) (fails : Bool) → Around g t h (up_taken w c x) → c < w.next_conn → HeardSyncs h (up_taken w c x) c x
    → IfSome (upper_up (w.dialled c).upper (up_taken w c x) c x fails) (Leads g g t h (with_event h (upper_event (w.dialled c).upper (up_taken w c x) x fails)) (up_taken w c x))
unfolding up_taken
upper-at g t h w c x fails a lt n = upper-leads (w.dialled c).upper g t h (up_taken w c x) c x fails a refl lt n

up-as-waits : (g : Givens) (t : Ends) (h : Histories) (w : World) (c : ℕ) (fails : Bool) (o : Option Next) → Around g t h w → c < w.next_conn → next_up w c ≡ o → IfSome (up_as w c fails o) (Ahead g h (with_event h (up_event_as w c fails o)) w) → IfSome (up_as w c fails o) (Waits g (with_event h (up_event_as w c fails o)))
up-as-waits g t h w c fails None a lt e f = tt
up-as-waits g t h w c fails (Some x) a lt e f =
    let v = up_taken w c x in
    let q = upper_up (w.dialled c).upper v c x fails in
    let ev = upper_event (w.dialled c).upper v x fails in
    let b = around-up g t h w c x a in
    changed-waits g g t h (with_event h ev) v q b (λ i s d z. z)
    (upper-at g t h w c x fails b lt (heard-like h w v c x (like-later h w v (up-like w c x)) (heard-of h w c x a.syncs e)))
    (some-weaker (Ahead g h (with_event h ev) w) (Ahead g h (with_event h ev) v) (changed v q) (λ u z. ahead-from g h (with_event h ev) w v u (like-later h v w (up-back w c x)) z) f)

up-waits : (g : Givens) (t : Ends) (h : Histories) (w : World) (c : ℕ) (fails : Bool) → Around g t h w → IfSome (up_event w c fails) (Ahead g h (with_event h (up_event_as w c fails (next_up w c))) w) → IfSome (up_event w c fails) (Waits g (with_event h (up_event_as w c fails (next_up w c))))
up-waits g t h w c fails a f =
    let j = with_event h (up_event_as w c fails (next_up w c)) in
    when-two (Ahead g h j w) (Waits g j) (nat_lt c w.next_conn) _ f (λ e q. up-as-waits g t h w c fails (next_up w c) a (lt-true c w.next_conn e) refl q)

fault-waits : (g : Givens) (t : Ends) (h : Histories) (w : World) (d : Delivery) → Around g t h w → IfSome (fault_event w d) (Ahead g h (with_event h (delivery_event w d true)) w) → IfSome (fault_event w d) (Waits g (with_event h (delivery_event w d true)))
fault-waits g t h w (delivery.Down c) a f = down-waits g t h w c.0 false true a f
fault-waits g t h w (delivery.Ready c) a f = ready-waits g t h w c.0 true a f
fault-waits g t h w (delivery.Up c) a f = up-waits g t h w c.0 true a f

own-leads : (g : Givens) (t : Ends) (h : Histories) (w : World) (s : OwnStep) → Around g t h w → IfSome (own_change w s) (Leads g g t h h w)
own-leads g t h w (own.Writer b takes answered) a = own-writer-leads g t h w b.0 takes answered a
own-leads g t h w (own.Reader i n r answered) a = calm-leads g t h w (own_reader w i n.0 r answered) a (own-reader-aside w i n.0 r answered) (own-reader-calm w i n.0 r answered) (own-reader-quiet w i n.0 r answered)
own-leads g t h w (own.Recover i n b members answers) a = calm-leads g t h w (own_recover w i n.0 b members answers) a (own-recover-aside w i n.0 b members answers) (own-recover-calm w i n.0 b members answers) (own-recover-quiet w i n.0 b members answers)
own-leads g t h w (own.Primary i) a = calm-leads g t h w (own_primary w i) a (own-primary-aside w i) (own-primary-calm w i) (own-primary-quiet w i)

-- THE OFFICE

abbrev Gives : Givens → Ends → Histories → World → Change → Type 0
Gives g t h w k = Leads g (given_with g k.stamped) t h h w k

asked-leads : (x : Action) (g : Givens) (t : Ends) (h : Histories) (w : World) (b : ℕ) → Around g t h w → (w.writers b).told ≡ None → (own_step (w.writers b).known).action ≡ x → IfSome (writer_asks x w b) (Gives g t h w)
asked-leads action.Wait g t h w b a e q = tt
asked-leads action.Took g t h w b a e q = tt
asked-leads (action.Dial to r) g t h w b a e q = tt
asked-leads (action.Send p) g t h w b a e q = tt
asked-leads (action.Answered n c) g t h w b a e q = tt
asked-leads action.Memory g t h w b a e q = tt
asked-leads (action.Ask c) g t h w b a e q =
    let x = (w.writers b).known in
    let k = a.known in
    let asking : AsksAs x c = subst (λ (z : Action). steps.Asking x z) q (own-step-asking x) in
    let block : x.block ≡ record { 0 = b } = subst (λ (o : Option Told). (known_heard x o).block ≡ record { 0 = b }) e (k.facts.recorded.writers b) in
    let numbers : Numbers (g b) t (w.latest b) x = subst (λ (o : Option Told). Numbers (g b) t (w.latest b) (known_heard x o)) e (k.acked.writers b) in
    let asked : Unasked w.past x.phase = subst (λ (o : Option Told). Unasked w.past (known_heard x o).phase) e (k.requests.unasked b) in
    let y = answers-by g t w b c x asking block k numbers asked in
    asks-leads g t h w b x c a (ap (λ (o : Option Told). known_heard x o) e) refl asking y.others

primary-asks : (g : Givens) (t : Ends) (h : Histories) (w : World) (i : ℕ) (c : OfficeCall) (p : Told → Primary) → IsPrimarys c → Around g t h w → Gives g t h w (asks_primary w i c p)
primary-asks g t h w i c p is a = primary-leads g t h w (asks_primary w i c p) a refl refl (none-sent w (asks_primary w i c p) (λ _. refl) refl) refl (latest-by w c is)

commits-asked : (s : PrimaryStep) (g : Givens) (t : Ends) (h : Histories) (w : World) (i : ℕ) (l : Leading) → Around g t h w → IfSome (primary_commits s w i l) (Gives g t h w)
commits-asked primary_own.Waits g t h w i l a = tt
commits-asked (primary_own.Updates c) g t h w i l a = tt
commits-asked (primary_own.Commits c) g t h w i l a = primary-asks g t h w i (sync_call l.state c) (λ told. leads (record l { told = Some told })) tt a
commits-asked (primary_own.Ends r) g t h w i l a = tt

primary-as : (p : Primary) (g : Givens) (t : Ends) (h : Histories) (w : World) (i : ℕ) (b : BlockId) → Around g t h w → IfSome (primary_asks p w i b) (Gives g t h w)
primary-as no_primary g t h w i b a = primary-asks g t h w i (call.BeginRecovery b) (was_told b) tt a
primary-as (was_told c told) g t h w i b a = tt
primary-as (leads l) g t h w i b a = when-each (Gives g t h w) (is_alive w l.at && is_none l.told) _ (λ _. commits-asked (primary.own_step l.state).does g t h w i l a)
primary-as (has_led r) g t h w i b a = tt

office-leads : (g : Givens) (t : Ends) (h : Histories) (w : World) (c : Caller) → Around g t h w → IfSome (office_event w c) (Gives g t h w)
office-leads g t h w (caller.Writer b) a = when-each (Gives g t h w) (is_none (w.writers b.0).told) _ (λ e. asked-leads (own_step (w.writers b.0).known).action g t h w b.0 a (none-is (w.writers b.0).told e) refl)
office-leads g t h w (caller.Primary i b) a = primary-as (w.primaries i) g t h w i b a

office-waits : (g : Givens) (t : Ends) (h : Histories) (w : World) (o : Option Change) → Around g t h w → IfSome o (OfficeLeads g t w) → IfSome o (Gives g t h w) → IfSome (changed w o) (Ahead (given_with g (stamped_in o)) h h w) → IfSome (changed w o) (Waits (given_with g (stamped_in o)) h)
office-waits g t h w None a x d z = tt
office-waits g t h w (Some k) a x d z = changed-waits g (given_with g k.stamped) t h h w (Some k) a (fresh-given g t w k.stamped a.known x.fresh) d z

-- STOPS, LOSSES, RESTARTS

where-waits : (l : Givens) (h j : Histories) (w : World) (test : Bool) (v : World) → (Ahead l h j w v → Waits l j v) → IfSome (where_so test v) (Ahead l h j w) → IfSome (where_so test v) (Waits l j)
where-waits l h j w true v f x = f x
where-waits l h j w false v f x = tt

stop-waits : (g : Givens) (t : Ends) (h j : Histories) (w : World) (n : ℕ) → Around g t h w → Ahead g h j w (stop w n) → Waits g j (stop w n)
stop-waits g t h j w n a z = waits-same g t h j w (stop w n) (like-frame g t h j w (stop w n) refl refl a.known z.recorded z.later) refl refl refl a.waits

lost-waits : (g : Givens) (t : Ends) (h j : Histories) (w : World) (c : ℕ) (way : Direction) (more : ℕ) → Around g t h w → Ahead g h j w (lost w c way more) → Waits g j (lost w c way more)
lost-waits g t h j w c direction.Down more a z = waits-same g t h j w (lost w c direction.Down more) (like-frame g t h j w (lost w c direction.Down more) refl refl a.known z.recorded z.later) refl refl refl a.waits
lost-waits g t h j w c direction.Up more a z = waits-same g t h j w (lost w c direction.Up more) (like-frame g t h j w (lost w c direction.Up more) refl refl a.known z.recorded z.later) refl refl refl a.waits

restart-waits : (g : Givens) (t : Ends) (h j : Histories) (w : World) (n : ℕ) (list : List FoundReplica) → Around g t h w → Ahead g h j w (restart w n list) → Waits g j (restart w n list)
unfolding restart
restart-waits g t h j w n list a z = waits-same g t h j w (restart w n list) (like-frame g t h j w (restart w n list) refl refl a.known z.recorded z.later) refl refl refl a.waits

-- ALL EVENTS

outcome-waits : (g : Givens) (t : Ends) (h : Histories) (w : World) (e : Event) → Around g t h w → IfSome (outcome w e) (Ahead (given_by g w e) h (history_with h w e) w) → IfSome (outcome w e) (Waits (given_by g w e) (history_with h w e))
unfolding outcome
outcome-waits g t h w (event.Own s) a f = changed-waits g g t h h w (own_change w s) a (λ i b d z. z) (own-leads g t h w s a) f
outcome-waits g t h w (event.Office c) a f = office-waits g t h w (office_event w c) a (office-event-leads g t w c a.known) (office-leads g t h w c a) f
outcome-waits g t h w (event.Down c answered) a f = down-waits g t h w c.0 answered false a f
outcome-waits g t h w (event.Ready c) a f = ready-waits g t h w c.0 false a f
outcome-waits g t h w (event.Up c) a f = up-waits g t h w c.0 false a f
outcome-waits g t h w (event.Lost c way more) a f = where-waits g h h w (nat_lt c.0 w.next_conn) (lost w c.0 way more) (λ z. lost-waits g t h h w c.0 way more a z) f
outcome-waits g t h w (event.Fault d) a f = fault-waits g t h w d a f
outcome-waits g t h w (event.Stop n) a f = where-waits g h h w (w.running n.0) (stop w n.0) (λ z. stop-waits g t h h w n.0 a z) f
outcome-waits g t h w (event.Restart n list) a f =
    where-waits g h (history_with h w (event.Restart n list)) w (nat_lt n.0 w.nodes && not (w.running n.0)) (restart w n.0 list) (λ z. restart-waits g t h (history_with h w (event.Restart n list)) w n.0 list a z) f

-- THE LAST EVENT

last-reached : (g : Givens) (h : Histories) (v : World) (x : Event) (b e : ℕ) (c : Stamp) (ms : List NodeId) (n : ℕ) → SyncReached g h v b e c ms n → SyncReached g h (record v { last = Some x }) b e c ms n
last-reached g h v x b e c ms n r =
    let on = like-later h v (record v { last = Some x }) (last-like v x) in
    record {
      from = r.from;
      conn = r.conn;
      fields = r.fields;
      asked = r.asked;
      block_is = r.block_is;
      stamp_is = r.stamp_is;
      given = r.given;
      least = r.least;
      requests = r.requests;
      first = λ m has lt. on.seats b r.from m.0 n (r.first m has lt);
      seats = λ t l m has lt le q j. on.seats b t m.0 n (r.seats t l m has lt le q j);
    }

last-formed : (g : Givens) (h : Histories) (v : World) (x : Event) (b e : ℕ) (y : WriterRecord) → WriterWaits g h v b e y → WriterWaits g h (record v { last = Some x }) b e y
last-formed g h v x b e y f n q waits reach =
    let o = f n q waits reach in
    record { number = o.number; is = o.is; below = o.below; downs = o.downs; unacked = o.unacked; stands = stands o }
  where
    stands : (o : FormedOk g h v b e y n q) → ((i : ℕ) × (p : Packet) × (slice_get y.stream.unacked i ≡ Some p) × (p.seqno ≡ q)) ⊎ SyncReached g h (record v { last = Some x }) b e y.committed y.members n
    stands o = go o.stands
      where
        go : ((i : ℕ) × (p : Packet) × (slice_get y.stream.unacked i ≡ Some p) × (p.seqno ≡ q)) ⊎ SyncReached g h v b e y.committed y.members n → ((i : ℕ) × (p : Packet) × (slice_get y.stream.unacked i ≡ Some p) × (p.seqno ≡ q)) ⊎ SyncReached g h (record v { last = Some x }) b e y.committed y.members n
        go (inl z) = inl z
        go (inr z) = inr (last-reached g h v x b e y.committed y.members n z)

last-waits : (g : Givens) (h : Histories) (v : World) (x : Event) → Waits g h v → Waits g h (record v { last = Some x })
last-waits g h v x z =
    let on = like-later h v (record v { last = Some x }) (last-like v x) in
    record {
      writers = λ b. last-formed g h v x b (v.latest b) (heard (v.writers b)) (z.writers b);
      unsent = z.unsent;
      answers = λ a has c m has2 lt. on.seats a.block a.stamp m.0 a.length (z.answers a has c m has2 lt);
    }

-- an event that isn't enabled gives no stamp
idle-office : (g : Givens) (h : Histories) (w : World) (o : Option Change) → changed w o ≡ None → Waits g h w → Waits (given_with g (stamped_in o)) h w
idle-office g h w None e z = z
idle-office g h w (Some k) e z = absurd (none-some (apply w k) (sym e))

idle-waits : (g : Givens) (h : Histories) (w : World) (e : Event) → outcome w e ≡ None → Waits g h w → Waits (given_by g w e) h w
unfolding outcome
idle-waits g h w (event.Own s) i z = z
idle-waits g h w (event.Office c) i z = idle-office g h w (office_event w c) i z
idle-waits g h w (event.Down c answered) i z = z
idle-waits g h w (event.Ready c) i z = z
idle-waits g h w (event.Up c) i z = z
idle-waits g h w (event.Lost c way more) i z = z
idle-waits g h w (event.Fault d) i z = z
idle-waits g h w (event.Stop n) i z = z
idle-waits g h w (event.Restart n list) i z = z

after-waits : (g : Givens) (h j : Histories) (w : World) (e : Event) (o : Option World) → outcome w e ≡ o → Waits g h w → IfSome o (Waits (given_by g w e) j) → Waits (given_by g w e) (if is_some o then j else h) (after_event w e o)
after-waits g h j w e None i z x = idle-waits g h w e i z
after-waits g h j w e (Some v) i z x = last-waits (given_by g w e) j v e x

ahead-of : (l : Givens) (h j : Histories) (w : World) (e : Event) (o : Option World) → SetUps l (after_event w e o) → Joins (after_event w e o) → Recorded l (after_event w e o) → IfSome o (Onwards h j w) → IfSome o (Ahead l h j w)
ahead-of l h j w e None s y r x = tt
ahead-of l h j w e (Some v) s y r x = record {
  sets = record { answers = s.answers; given = s.given; reached = s.reached; plain = s.plain; writes = s.writes; breaks = s.breaks };
  joins = record { few = y.few; begun = y.begun; once = y.once; unmet = y.unmet; stamped = y.stamped; members = y.members; setups = y.setups; fits = y.fits; under = y.under; sessions = y.sessions; early = y.early; late = y.late; within = y.within; order = y.order; answered = y.answered; acked = y.acked; cover = y.cover; given = y.given; reach = y.reach; single = y.single };
  recorded = record { below = r.below; above = r.above; session = r.session; one = r.one; first = r.first; writers = r.writers; blocks = r.blocks };
  later = x.later;
}

pub happens-waits : (g : Givens) (t : Ends) (h : Histories) (w : World) (e : Event) → Around g t h w → SetUps (given_by g w e) (happens w e) → Joins (happens w e) → Recorded (given_by g w e) (happens w e) → IfSome (outcome w e) (Onwards h (history_with h w e) w) → Waits (given_by g w e) (history_by h w e) (happens w e)
unfolding happens
happens-waits g t h w e a s y r x =
    after-waits g h (history_with h w e) w e (outcome w e) refl a.waits (outcome-waits g t h w e a (ahead-of (given_by g w e) h (history_with h w e) w e (outcome w e) s y r x))
