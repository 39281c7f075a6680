-- What a writer's members have once it has taken the answer to the recovery of a close, or the ack of its last packet.
use Rattle.std.proofs.Common.{◌≡◌, ℕ, ℤ, zero, suc, ◌≤◌, ◌⊎◌, inl, inr, Bool, true, false, List, [], ◌∷◌, length, map, slice_get, Option, Some, None, IfSome, refl, sym, ◌∙◌, ap, subst, arith}
use Rattle.std.specs.Prelude.{option_map}
use Rattle.std.proofs.lemmas.Bool.{false≢true}
use Rattle.std.proofs.lemmas.Option.{none-some, same_Some}
use Rattle.hd_base.specs.declared.numbers.NodeId.{NodeId}
use Rattle.hd_base.specs.declared.numbers.Stamp.{Stamp}
use Rattle.ack_codec.specs.declared.acks.Ack.{Ack}
use Rattle.ack_codec.specs.declared.responses.Response.{Response}
use Rattle.node_refs.specs.NodeRefs.{port_of, ref_of}
use Rattle.op_headers.specs.declared.nodes.NodeRef.{NodeRef}
use Rattle.op_headers.specs.declared.ops.Op.TheVariants as op
use Rattle.op_headers.specs.Values.{WriteFields}
use Rattle.packet_codec.specs.declared.packets.Packet.{Packet}
use Rattle.packet_stream.specs.Streams.{is_last, oldest_is_last}
use Rattle.member_core.specs.Acks.{is_success}
use Rattle.member_core.specs.declared.requests.SetupKind.TheVariants as kind
use Rattle.member_core.specs.Requests.{setup_with}
use Rattle.writer_core.specs.declared.phases.Phase.{Phase}
use Rattle.writer_core.specs.declared.phases.Phase.TheVariants as phase
use Rattle.writer_core.specs.declared.phases.Remedy.{Remedy}
use Rattle.writer_core.specs.declared.phases.Setup.TheVariants as setup
use Rattle.writer_core.specs.declared.phases.Verdict.{Verdict}
use Rattle.writer_core.specs.declared.phases.Verdict.TheVariants as verdict
use Rattle.writer_core.specs.declared.records.WriterRecord.{WriterRecord}
use Rattle.writer_core.specs.Phases.{remedy_after, remedy_at_ack, ack_verdict, bad_place}
use Rattle.writer_core.specs.Transitions.{setup_answered_in, setup_answered, phase_acked, acked_oldest, acked_as, acked_in, acked, is_connected}
use Rattle.world.specs.Parts.{request, packet, ack, response, read_status, recovery_answer}
use Rattle.world.specs.Worlds.{World}
use Rattle.world.specs.Connections.{Next, message, the_end}
use Rattle.world.specs.Nodes.{node_of, node_on, block_of}
use Rattle.world.specs.Clients.{named_member, writer_hears}
use Rattle.world_laws.specs.Growing.{Grows}
use Rattle.world_laws.specs.Stamping.{Givens, heard}
use Rattle.world_laws.specs.Carrying.{new_stamp, Sets, ConnSays}
use Rattle.world_writers.specs.WorldAcks.Closing.{StandsClosed, AllClosed}
use Rattle.world_writers.specs.WorldAcks.Acking.{PacketEnd, end_of, Asked, AsksToRead, SetUpFrom, Ends, AckedFrom, UpTells, reach_of, Numbers}
use Rattle.world_writers.proofs.WorldAcks.Frame.{begins-first}
use Rattle.world_writers.proofs.WorldAcks.Turning.{HeardTells, Known, same-asked, never-both}
use Rattle.world_writers.specs.Piping.{setup_stamp, IsPipeline, Piped, PipedOf}
use Rattle.world_writers.proofs.Hearing.{latest-is}
use Rattle.world_writers.proofs.Standing.{verdict-good}
use Rattle.world_writers.specs.WorldFinals.Finishing.{is_closing, has_packets, WriterEnds}
use Rattle.world_closings.specs.Answering.{MembersClosed, AsksToClose, ClosesIn}
use Rattle.world_closings.proofs.Nearing.{fail-passes, ended-passes}

-- LATER WORLDS

-- a later world, in which nodes that stood closed stand so
pub record Later (g l : Givens) (w v : World) : Type 0 where
  pub closed : (b s n : ℕ) → StandsClosed g w b s n → StandsClosed l v b s n
  pub grows : Grows w.past v.past

pub sets-later : (g l : Givens) (w v : World) (c : ℕ) (s : Stamp) → Later g l w v → Sets w.past c s → Sets v.past c s
sets-later g l w v c s k h = record { fields = h.fields; first = begins-first (w.downs c) (v.downs c) (request (op.Write h.fields)) (k.grows.downs c) h.first; is = h.is }

-- THE MEMBERS

get-map : (xs : List NodeId) (i : ℕ) (m : NodeId) → slice_get xs i ≡ Some m → slice_get (map ref_of xs) i ≡ Some (ref_of m)
get-map [] i m e = absurd (none-some m e)
get-map (x ∷ xs) zero m e = ap (λ (y : NodeId). Some (ref_of y)) (same_Some x m e)
get-map (x ∷ xs) (suc i) m e = get-map xs i m e

-- all nodes of a pipeline have closed, so its members have
members-closed : (g l : Givens) (w v : World) (b c : ℕ) (t : Stamp) (ms : List NodeId) (f : WriteFields) → Later g l w v → (p : IsPipeline w.past b t ms c) → Asked w.past c f → AllClosed g w f (node_of w c) → MembersClosed l v b t ms
members-closed g l w v b c t ms f k p asked h = record {
  conn = c;
  asked = sets-later g l w v c t k (record { fields = p.fields; first = p.asked; is = p.stamp_is });
  each = λ m has there. k.closed b t.0 m.0 (at m has.place (subst (λ (xs : List NodeId). slice_get xs has.place ≡ Some m) p.are has.there) there);
}
  where
    same : f ≡ p.fields
    same = same-asked w c f p.fields asked (record { first = p.asked })

    all : AllClosed g w p.fields (node_of w c)
    all = subst (λ (q : WriteFields). AllClosed g w q (node_of w c)) same h

    own : (n : ℕ) → StandsClosed g w (block_of p.fields) (new_stamp p.fields).0 n → StandsClosed g w b t.0 n
    own n x = subst (λ (s : Stamp). StandsClosed g w b s.0 n) p.stamp_is (subst (λ (d : ℕ). StandsClosed g w d (new_stamp p.fields).0 n) p.block_is x)

    at : (m : NodeId) (i : ℕ) → slice_get (p.first ∷ p.others) i ≡ Some m → node_on (port_of m) ≡ Some m.0 → StandsClosed g w b t.0 m.0
    at m zero e there = own m.0 (subst (λ (n : ℕ). StandsClosed g w (block_of p.fields) (new_stamp p.fields).0 n) (p.node ∙ ap (λ (x : NodeId). x.0) (same_Some p.first m e)) all.here)
    at m (suc i) e there =
        own m.0 (all.below i m.0 (ref_of m) (subst (λ (xs : List NodeRef). slice_get xs i ≡ Some (ref_of m)) (sym p.targets) (get-map p.others i m e)) there)

-- ANSWERS

-- what is known of a writer that takes something from its connection
pub record Hears (g : Givens) (t : Ends) (w : World) (b c : ℕ) (x : WriterRecord) : Type 0 where
  pub known : Known g t w
  pub conn : (w.writers b).conn ≡ Some c
  pub at : heard (w.writers b) ≡ x
  pub piped : PipedOf w b
  pub ends : WriterEnds x

-- its pipeline
pipeline-of : (g : Givens) (t : Ends) (w : World) (b c : ℕ) (x : WriterRecord) → Hears g t w b c x → is_connected x.phase ≡ true → IsPipeline w.past b (setup_stamp x.phase x.committed) x.members c
pipeline-of g t w b c x h e =
    let p : Piped w.past b x (w.writers b).conn = subst (λ (y : WriterRecord). is_connected y.phase ≡ true → Piped w.past b y (w.writers b).conn) h.at h.piped e in
    subst (λ (n : ℕ). IsPipeline w.past b (setup_stamp x.phase x.committed) x.members n) (same_Some p.at c (sym p.is ∙ h.conn)) p.pipeline

-- the answer to the recovery of a close
set-closed : (g l : Givens) (t : Ends) (w v : World) (b c : ℕ) (x : WriterRecord) (stamp : Stamp) → Hears g t w b c x → Later g l w v → x.phase ≡ phase.Requested setup.CloseRecovery stamp → AsksToClose v.past (Some c)
    → SetUpFrom g w c ⊎ AsksToRead w.past c → MembersClosed l v b stamp x.members
set-closed g l t w v b c x stamp h k e a (inr r) =
    let p = pipeline-of g t w b c x h (ap is_connected e) in absurd (never-both w c p.fields (record { first = p.asked }) r)
set-closed g l t w v b c x stamp h k e a (inl u) =
    let p = subst (λ (s : Stamp). IsPipeline w.past b s x.members c) (ap (λ (q : Phase). setup_stamp q x.committed) e) (pipeline-of g t w b c x h (ap is_connected e)) in
    members-closed g l w v b c stamp x.members u.fields k p u.pipe.asked (u.closed (stage (same_Some a.at c (sym a.is)) a))
  where
    first : slice_get (v.downs c) 0 ≡ Some (request (op.Write u.fields))
    first = begins-first (w.downs c) (v.downs c) (request (op.Write u.fields)) (k.grows.downs c) u.pipe.asked.first

    stage : a.at ≡ c → (y : AsksToClose v.past (Some c)) → setup_with u.fields.stage ≡ Some kind.CloseRecovery
    stage at y =
        let here : slice_get (v.downs c) 0 ≡ Some (request (op.Write y.fields)) = subst (λ (n : ℕ). slice_get (v.downs n) 0 ≡ Some (request (op.Write y.fields))) (same_Some y.at c (sym y.is)) y.first in
        ap (λ (f : WriteFields). setup_with f.stage) (same-asked v c u.fields y.fields (record { first = first }) (record { first = here })) ∙ y.stage

abbrev At : Givens → World → ℕ → ℕ → WriterRecord → Type 0
At l v b c x = ClosesIn l v b (Some c) x x.phase

answered-in-closes : (g l : Givens) (t : Ends) (w v : World) (b c : ℕ) (x : WriterRecord) (p : Phase) (good : Bool) (bad : Option NodeId) → x.phase ≡ p → Hears g t w b c x → Later g l w v → At l v b c x
    → (good ≡ true → SetUpFrom g w c ⊎ AsksToRead w.past c) → At l v b c (setup_answered_in x p good bad)
answered-in-closes g l t w v b c x (phase.Requested setup.CloseRecovery s) true bad e h k old u = set-closed g l t w v b c x s h k e (subst (λ (q : Phase). ClosesIn l v b (Some c) x q) e old) (u refl)
answered-in-closes g l t w v b c x (phase.Requested setup.Create s) true bad e h k old u = tt
answered-in-closes g l t w v b c x (phase.Requested setup.Append s) true bad e h k old u = tt
answered-in-closes g l t w v b c x (phase.Requested setup.AppendRecovery s) true bad e h k old u = tt
answered-in-closes g l t w v b c x (phase.Requested setup.StreamRecovery s) true bad e h k old u = tt
answered-in-closes g l t w v b c x (phase.Requested s stamp) false bad e h k old u = fail-passes x (remedy_after s) (bad_place x.members bad) l v b (Some c) old
answered-in-closes g l t w v b c x phase.Closed good bad e h k old u = old
answered-in-closes g l t w v b c x (phase.Wanted s) good bad e h k old u = old
answered-in-closes g l t w v b c x (phase.Stamped s stamp) good bad e h k old u = old
answered-in-closes g l t w v b c x (phase.Accepted s stamp) good bad e h k old u = old
answered-in-closes g l t w v b c x phase.Opened good bad e h k old u = old
answered-in-closes g l t w v b c x (phase.Streaming sent) good bad e h k old u = old
answered-in-closes g l t w v b c x phase.Closing good bad e h k old u = old
answered-in-closes g l t w v b c x phase.Finished good bad e h k old u = old
answered-in-closes g l t w v b c x phase.Completed good bad e h k old u = old
answered-in-closes g l t w v b c x (phase.Failed f) good bad e h k old u = old

answered-closes : (g l : Givens) (t : Ends) (w v : World) (b c : ℕ) (x : WriterRecord) (r : Response) (bad : Option NodeId) → Hears g t w b c x → Later g l w v → At l v b c x → UpTells g t w c (response r) → At l v b c (setup_answered x r bad)
unfolding setup_answered
answered-closes g l t w v b c x r bad h k old u = answered-in-closes g l t w v b c x x.phase (is_success r.status) bad refl h k old u

-- ACKS

-- a writer that hears acks and has the last packet is closing
closing-only : (x : WriterRecord) (r : Remedy) (p : Packet) → WriterEnds x → slice_get x.stream.unacked 0 ≡ Some p → p.last ≡ true → (q : Phase) → x.phase ≡ q → remedy_at_ack q ≡ Some r → q ≡ phase.Closing
closing-only x r p h old last phase.Closing e z = refl
closing-only x r p h old last phase.Closed e z = absurd (none-some r z)
closing-only x r p h old last (phase.Wanted s) e z = absurd (none-some r z)
closing-only x r p h old last (phase.Stamped s t) e z = absurd (none-some r z)
closing-only x r p h old last (phase.Requested s t) e z = absurd (none-some r z)
closing-only x r p h old last phase.Finished e z = absurd (none-some r z)
closing-only x r p h old last phase.Completed e z = absurd (none-some r z)
closing-only x r p h old last (phase.Failed f) e z = absurd (none-some r z)
closing-only x r p h old last phase.Opened e z = absurd (false≢true (subst (λ (q : Phase). is_closing q ≡ true) e (h.last (ap has_packets e) 0 p old last)))
closing-only x r p h old last (phase.Streaming sent) e z = absurd (false≢true (subst (λ (q : Phase). is_closing q ≡ true) e (h.last (ap has_packets e) 0 p old last)))
closing-only x r p h old last (phase.Accepted setup.CloseRecovery t) e z = absurd (none-some r z)
closing-only x r p h old last (phase.Accepted setup.Create t) e z = absurd (false≢true (subst (λ (q : Phase). is_closing q ≡ true) e (h.last (ap has_packets e) 0 p old last)))
closing-only x r p h old last (phase.Accepted setup.Append t) e z = absurd (false≢true (subst (λ (q : Phase). is_closing q ≡ true) e (h.last (ap has_packets e) 0 p old last)))
closing-only x r p h old last (phase.Accepted setup.AppendRecovery t) e z = absurd (false≢true (subst (λ (q : Phase). is_closing q ≡ true) e (h.last (ap has_packets e) 0 p old last)))
closing-only x r p h old last (phase.Accepted setup.StreamRecovery t) e z = absurd (false≢true (subst (λ (q : Phase). is_closing q ≡ true) e (h.last (ap has_packets e) 0 p old last)))

-- the ack of the last packet
last-closed : (g l : Givens) (t : Ends) (w v : World) (b c : ℕ) (x : WriterRecord) (a : Ack) (p : Packet) → Hears g t w b c x → Later g l w v → x.phase ≡ phase.Closing → slice_get x.stream.unacked 0 ≡ Some p → p.last ≡ true → p.seqno ≡ a.seqno
    → AckedFrom g t w c a.seqno → MembersClosed l v b x.committed x.members
last-closed g l t w v b c x a p h k e old last number u =
    let line = subst (λ (s : Stamp). IsPipeline w.past b s x.members c) (ap (λ (q : Phase). setup_stamp q x.committed) e) (pipeline-of g t w b c x h (ap is_connected e)) in
    let says : ConnSays g w.past b (w.latest b) c = subst (λ (o : Option ℕ). IfSome o (ConnSays g w.past b (w.latest b))) h.conn (h.known.facts.carried.writers b).conn in
    let session : u.session ≡ w.latest b = latest-is g t w b c u.fields u.session h.known says u.pipe in
    let numbers : Numbers (g b) t (w.latest b) x = subst (λ (y : WriterRecord). Numbers (g b) t (w.latest b) y) h.at (h.known.acked.writers b) in
    let named : t (w.latest b) a.seqno ≡ Some (end_of p) = subst (λ (q : ℤ). t (w.latest b) q ≡ Some (end_of p)) number (numbers.packets (reached e) 0 p old).named in
    let end : u.end ≡ end_of p = same_Some u.end (end_of p) (sym u.named ∙ ap (λ (i : ℕ). t i a.seqno) session ∙ named) in
    members-closed g l w v b c x.committed x.members u.fields k line u.pipe.asked (u.closed (ap (λ (z : PacketEnd). z.last) end ∙ last))
  where
    reached : x.phase ≡ phase.Closing → 1 ≤ reach_of x.phase
    reached e = omega (arith, ap reach_of e)

acked-passes : (l : Givens) (v : World) (b : ℕ) (conn : Option ℕ) (x : WriterRecord) (p : Phase) → ClosesIn l v b conn x p → ClosesIn l v b conn (acked_oldest x) (phase_acked false p)
acked-passes l v b conn x phase.Closed h = tt
acked-passes l v b conn x (phase.Wanted s) h = tt
acked-passes l v b conn x (phase.Stamped s t) h = tt
acked-passes l v b conn x (phase.Requested setup.Create t) h = tt
acked-passes l v b conn x (phase.Requested setup.Append t) h = tt
acked-passes l v b conn x (phase.Requested setup.AppendRecovery t) h = tt
acked-passes l v b conn x (phase.Requested setup.StreamRecovery t) h = tt
acked-passes l v b conn x (phase.Requested setup.CloseRecovery t) h = h
acked-passes l v b conn x (phase.Accepted setup.Create t) h = tt
acked-passes l v b conn x (phase.Accepted setup.Append t) h = tt
acked-passes l v b conn x (phase.Accepted setup.AppendRecovery t) h = tt
acked-passes l v b conn x (phase.Accepted setup.StreamRecovery t) h = tt
acked-passes l v b conn x (phase.Accepted setup.CloseRecovery t) h = h
acked-passes l v b conn x phase.Opened h = tt
acked-passes l v b conn x (phase.Streaming sent) h = tt
acked-passes l v b conn x phase.Closing h = tt
acked-passes l v b conn x phase.Finished h = h
acked-passes l v b conn x phase.Completed h = h
acked-passes l v b conn x (phase.Failed f) h = tt

-- a good ack, of the last packet or another
good-closes : (g l : Givens) (t : Ends) (w v : World) (b c : ℕ) (x : WriterRecord) (a : Ack) (r : Remedy) (p : Packet) → Hears g t w b c x → Later g l w v → remedy_at_ack x.phase ≡ Some r → slice_get x.stream.unacked 0 ≡ Some p
    → p.seqno ≡ a.seqno → AckedFrom g t w c a.seqno → At l v b c x → At l v b c (acked_oldest x)
good-closes g l t w v b c x a r p h k e old number u at = go (oldest_is_last x.stream) refl
  where
    go : (last : Bool) → oldest_is_last x.stream ≡ last → ClosesIn l v b (Some c) (acked_oldest x) (phase_acked last x.phase)
    go false q = acked-passes l v b (Some c) x x.phase at
    go true q =
        let last : p.last ≡ true = sym (ap is_last old) ∙ q in
        last-closed g l t w v b c x a p h k (closing-only x r p h.ends old last x.phase refl e) old last number u

verdict-closes : (g l : Givens) (t : Ends) (w v : World) (b c : ℕ) (x : WriterRecord) (a : Ack) (r : Remedy) (p : Packet) (d : Verdict) → Hears g t w b c x → Later g l w v → remedy_at_ack x.phase ≡ Some r → slice_get x.stream.unacked 0 ≡ Some p
    → ack_verdict (Some p.seqno) (length x.members) a ≡ d → UpTells g t w c (ack a) → At l v b c x → At l v b c (acked_as x r d)
verdict-closes g l t w v b c x a r p (verdict.Bad place) h k e old q u at = fail-passes x r place l v b (Some c) at
verdict-closes g l t w v b c x a r p verdict.Good h k e old q u at = let z = verdict-good p (length x.members) a q in good-closes g l t w v b c x a r p h k e old z.0 (u z.1) at

oldest-closes : (g l : Givens) (t : Ends) (w v : World) (b c : ℕ) (x : WriterRecord) (a : Ack) (r : Remedy) (o : Option Packet) → Hears g t w b c x → Later g l w v → remedy_at_ack x.phase ≡ Some r → slice_get x.stream.unacked 0 ≡ o
    → UpTells g t w c (ack a) → At l v b c x → At l v b c (acked_as x r (ack_verdict (option_map (λ p. p.seqno) o) (length x.members) a))
oldest-closes g l t w v b c x a r None h k e old u at = fail-passes x r 0 l v b (Some c) at
oldest-closes g l t w v b c x a r (Some p) h k e old u at = verdict-closes g l t w v b c x a r p (ack_verdict (Some p.seqno) (length x.members) a) h k e old refl u at

acked-in-closes : (g l : Givens) (t : Ends) (w v : World) (b c : ℕ) (x : WriterRecord) (a : Ack) (o : Option Remedy) → Hears g t w b c x → Later g l w v → remedy_at_ack x.phase ≡ o → UpTells g t w c (ack a) → At l v b c x → At l v b c (acked_in x a o)
acked-in-closes g l t w v b c x a None h k e u at = at
acked-in-closes g l t w v b c x a (Some r) h k e u at = oldest-closes g l t w v b c x a r (slice_get x.stream.unacked 0) h k e refl u at

acked-closes : (g l : Givens) (t : Ends) (w v : World) (b c : ℕ) (x : WriterRecord) (a : Ack) → Hears g t w b c x → Later g l w v → UpTells g t w c (ack a) → At l v b c x → At l v b c (acked x a)
unfolding acked
acked-closes g l t w v b c x a h k u at = acked-in-closes g l t w v b c x a (remedy_at_ack x.phase) h k refl u at

pub hears-closes : (g l : Givens) (t : Ends) (w v : World) (b c : ℕ) (x : WriterRecord) (m : Next) → Hears g t w b c x → Later g l w v → HeardTells g t w c m → At l v b c x → At l v b c (writer_hears x m)
hears-closes g l t w v b c x (message (response r)) h k u at = answered-closes g l t w v b c x r (named_member x.members r.first_bad) h k at u
hears-closes g l t w v b c x (message (ack a)) h k u at = acked-closes g l t w v b c x a h k u at
hears-closes g l t w v b c x (message (request o)) h k u at = ended-passes x l v b (Some c) at
hears-closes g l t w v b c x (message (packet p)) h k u at = ended-passes x l v b (Some c) at
hears-closes g l t w v b c x (message (read_status s)) h k u at = ended-passes x l v b (Some c) at
hears-closes g l t w v b c x (message (recovery_answer a)) h k u at = ended-passes x l v b (Some c) at
hears-closes g l t w v b c x the_end h k u at = ended-passes x l v b (Some c) at
