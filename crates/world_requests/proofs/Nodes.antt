-- What the lower ends of connections send.
use Rattle.std.proofs.Common.{◌≡◌, ℕ, suc, Bool, true, false, List, [], ◌∷◌, slice_get, Option, Some, None, IfSome, Result, Ok, Err, refl, subst, sym}
use Rattle.std.specs.Prelude.{nat_le}
use Rattle.world_laws.specs.PacketCodec.Packet.{Packet}
use Rattle.op_headers.specs.declared.nodes.NodeRef.{NodeRef}
use Rattle.op_headers.specs.declared.ops.Op.TheVariants as op
use Rattle.op_headers.specs.declared.ops.ReadOp.{ReadOp}
use Rattle.op_headers.specs.declared.ops.RecoveryOp.{RecoveryOp}
use Rattle.op_headers.specs.Values.{WriteFields}
use Rattle.world_laws.specs.NodeRefs.NodeRefs.{ref_of}
use Rattle.replica_core.specs.declared.events.Event.{Event}
use Rattle.replica_core.specs.Views.{rule_in}
use Rattle.world_laws.specs.ReplicaModel.ReplicaEvent.{ReplicaEvent}
use Rattle.world_laws.specs.ReplicaModel.ReplicaEvent.TheVariants as replica_event
use Rattle.world_laws.specs.ReplicaModel.Rows.{FullReplica}
use Rattle.world_laws.specs.RequestRefusals.RequestRefusal.{RequestRefusal}
use Rattle.world_laws.specs.MemberCore.Upward.{Upward}
use Rattle.world_laws.specs.MemberCore.Upward.TheVariants as upward
use Rattle.world_laws.specs.MemberCore.Mirror.{Mirror}
use Rattle.world_laws.specs.MemberCore.Mirror.TheVariants as mirror
use Rattle.world_laws.specs.MemberCore.TheConstants.{MAX_PORT}
use Rattle.world_laws.specs.MemberCore.Turn.{Turn}
use Rattle.world_laws.specs.MemberCore.Members.{MemberState, down_turn, up_turn, hears}
use Rattle.world_laws.specs.MemberCore.Requests.{request_event, request_from, request_to, mirror_request}
use Rattle.world_laws.specs.MemberCore.Steps.{Step, Setup, step, faulted_step, oldest_at, ready_turn_at, request_step, faulted_request}
use Rattle.world_laws.specs.ReadCore.Servings.{ServingState, accepting, refusing, faulted_read, faulted_piece, next_call, piece_at, read_at, read_event}
use Rattle.world_laws.specs.RecoveryCore.RecoveryReply.{RecoveryReply}
use Rattle.world_laws.specs.RecoveryCore.Members.{Served, answer_of, recovery_event, serve, serve_faulted}
use Rattle.world_laws.specs.World.Parts.{Message, request, packet, ack, response, read_status, recovery_answer, FullMember, Lower, idle, writes, serves, recovers, ended_below, Break}
use Rattle.world_laws.specs.World.Worlds.{World}
use Rattle.world_laws.specs.World.Connections.{Next, message, the_end, is_alive}
use Rattle.world_laws.specs.World.Nodes.{replica_at, node_of, block_of, broke_at, is_asked, below_of, closing, unless_failing, above_of, sent_up, passed, member_change, failing_turn, turn_change, takes_next, pending_at, member_down, member_up, ready_change, mirror_dial, mirror_node, dials_of, member_dials, setup_change, failing_write, write_request, breaking, read_change, failing_read, read_request, piece_as, serve_change, recovery_change, failing_recovery, recovery_request, first_message, next_recovery, lower_down, lower_ready, mirror_up}
use Rattle.world_laws.proofs.ByteFrame.{Each, each-nil, each-one}
use Rattle.world_laws.proofs.FactTables.{if-each, when-each}
use Rattle.world_requests.specs.Requests.{IsAsked}
use Rattle.world_requests.proofs.Frame.{Asking, to_write, MessageIs, NextIs, DialIs, Brings, sent-asked, quiet}

module _ (Of : Asking → ℕ → Type 0) where
  -- THE REQUEST TO THE MIRROR

  -- the targets without the first
  from-asked : (source : NodeRef) (f : WriteFields) (first : NodeRef) (rest : List NodeRef) → f.targets ≡ first ∷ rest → IsAsked (Of to_write) f → IsAsked (Of to_write) (request_from source f rest)
  from-asked source f first rest e h = record {
    block = h.block;
    ports = λ k t s. h.ports (suc k) t (subst (λ (ts : List NodeRef). slice_get ts (suc k) ≡ Some t) (sym e) s);
  }

  to-asked : (source : NodeRef) (f : WriteFields) (ts : List NodeRef) → f.targets ≡ ts → IsAsked (Of to_write) f → IfSome (request_to source f ts) (IsAsked (Of to_write))
  to-asked source f [] e h = tt
  to-asked source f (t ∷ ts) e h = if-each (λ (o : Option WriteFields). IfSome o (IsAsked (Of to_write))) (nat_le t.xfer MAX_PORT) _ None (λ _. from-asked source f t ts e h) (λ _. tt)

  mirror-asked : (source : NodeRef) (f : WriteFields) → IsAsked (Of to_write) f → IfSome (mirror_request source f) (IsAsked (Of to_write))
  unfolding mirror_request
  mirror-asked source f h = to-asked source f f.targets refl h

  -- WHAT IS PASSED ON AND ANSWERED

  passed-asked : (b : Bool) (x : Next) → NextIs Of x → Each (MessageIs Of) (passed b x)
  passed-asked true (message m) h = each-one (MessageIs Of) m h
  passed-asked true the_end h = each-nil (MessageIs Of)
  passed-asked false (message m) h = each-nil (MessageIs Of)
  passed-asked false the_end h = each-nil (MessageIs Of)

  up-asked : (f : WriteFields) (o : Option Upward) → Each (MessageIs Of) (sent_up f o)
  up-asked f None = each-nil (MessageIs Of)
  up-asked f (Some (upward.Answer a)) = each-one (MessageIs Of) _ tt
  up-asked f (Some (upward.Ack a)) = each-one (MessageIs Of) _ tt

  module _ (w : World) where
    closing-brings : (c : ℕ) → Brings Of w (closing w c)
    closing-brings c = quiet Of w (closing w c) refl (λ _. refl) (λ _. refl) (λ h. h 0)

    unless-brings : (c : ℕ) (fails : Bool) → IfSome (unless_failing fails (closing w c)) (Brings Of w)
    unless-brings c true = tt
    unless-brings c false = closing-brings c

    -- MEMBERS

    member-brings : (c : ℕ) (m : FullMember) (x : Next) (s : Step) (b : Option Break) → NextIs Of x → Brings Of w (member_change w c m x s b)
    member-brings c m x s b n = record {
      dials = each-nil (DialIs Of);
      downs = sent-asked Of m.mirror (passed s.effect.forwards x) (passed-asked s.effect.forwards x n);
      ups = sent-asked Of (Some c) (sent_up m.fields s.effect.sends) (up-asked m.fields s.effect.sends);
      primary = λ h. h 0;
    }

    failing-brings : (c : ℕ) (m : FullMember) (x : Next) (t : Turn) (o : Option ReplicaEvent) → NextIs Of x → IfSome (failing_turn w c m x t o) (Brings Of w)
    failing-brings c m x t None n = tt
    failing-brings c m x t (Some e) n = member-brings c m x (faulted_step m.state (replica_at w c (block_of m.fields)) t) (broke_at w c (block_of m.fields) e) n

    turn-brings : (c : ℕ) (m : FullMember) (x : Next) (t : Turn) (fails : Bool) → NextIs Of x → IfSome (turn_change w c m x t fails) (Brings Of w)
    turn-brings c m x t true n = failing-brings c m x t t.call n
    turn-brings c m x t false n = member-brings c m x (step m.state (replica_at w c (block_of m.fields)) t) (w.breaks (node_of w c) (block_of m.fields)) n

    member-down-brings : (c : ℕ) (m : FullMember) (x : Next) (fails : Bool) → NextIs Of x → IfSome (member_down w c m x fails) (Brings Of w)
    member-down-brings c m x fails n = when-each (Brings Of w) (takes_next m.state (pending_at w c m) x) _ (λ _. turn-brings c m x (down_turn m.state (above_of x)) fails n)

    member-up-brings : (c : ℕ) (m : FullMember) (x : Next) (fails : Bool) → NextIs Of x → IfSome (member_up w c m x fails) (Brings Of w)
    member-up-brings c m x fails n = when-each (Brings Of w) (hears m.state) _ (λ _. turn-brings c m x (up_turn m.state (oldest_at (replica_at w c (block_of m.fields))) (below_of x)) fails n)

    ready-brings : (c : ℕ) (m : FullMember) (o : Option Turn) (fails : Bool) → IfSome (ready_change w c m o fails) (Brings Of w)
    ready-brings c m None fails = tt
    ready-brings c m (Some t) fails = turn-brings c m the_end t fails tt

    -- WRITE REQUESTS

    mirror-dial-asked : (c : ℕ) (g : Option WriteFields) (n : Option ℕ) → IfSome g (IsAsked (Of to_write)) → Each (DialIs Of) (mirror_dial w c g n)
    mirror-dial-asked c (Some f) (Some n) g = each-one (DialIs Of) _ g
    mirror-dial-asked c (Some f) None g = each-nil (DialIs Of)
    mirror-dial-asked c None n g = each-nil (DialIs Of)

    dials-asked : (c : ℕ) (f : WriteFields) (z : Mirror) → IsAsked (Of to_write) f → Each (DialIs Of) (dials_of z w c f)
    dials-asked c f mirror.Asked g = mirror-dial-asked c (mirror_request (ref_of (record { 0 = node_of w c })) f) (mirror_node f.targets) (mirror-asked (ref_of (record { 0 = node_of w c })) f g)
    dials-asked c f mirror.Nobody g = each-nil (DialIs Of)
    dials-asked c f mirror.Unreachable g = each-nil (DialIs Of)
    dials-asked c f mirror.Open g = each-nil (DialIs Of)
    dials-asked c f mirror.Ended g = each-nil (DialIs Of)

    member-dials-asked : (c : ℕ) (f : WriteFields) (o : Option MemberState) → IsAsked (Of to_write) f → Each (DialIs Of) (member_dials o w c f)
    member-dials-asked c f None g = each-nil (DialIs Of)
    member-dials-asked c f (Some m) g = dials-asked c f m.mirror g

    setup-brings : (c : ℕ) (f : WriteFields) (s : Setup) (b : Option Break) → IsAsked (Of to_write) f → Brings Of w (setup_change w c f s b)
    setup-brings c f s b g = record {
      dials = member-dials-asked c f s.member g;
      downs = λ d. each-nil (MessageIs Of);
      ups = sent-asked Of (Some c) (sent_up f s.effect.sends) (up-asked f s.effect.sends);
      primary = λ h. h 0;
    }

    failing-write-brings : (c : ℕ) (f : WriteFields) (e : Result Event RequestRefusal) → IsAsked (Of to_write) f → IfSome (failing_write w c f e) (Brings Of w)
    failing-write-brings c f (Err e) g = tt
    failing-write-brings c f (Ok e) g = setup-brings c f (faulted_request (replica_at w c (block_of f))) (broke_at w c (block_of f) (replica_event.Other e)) g

    write-brings : (c : ℕ) (f : WriteFields) (answered fails : Bool) → IsAsked (Of to_write) f → IfSome (write_request w c f answered fails) (Brings Of w)
    write-brings c f answered true g = failing-write-brings c f (request_event (record { 0 = c }) f (rule_in (replica_at w c (block_of f)).known)) g
    write-brings c f answered false g =
        setup-brings c f (request_step (record { 0 = c }) f (is_asked w c f answered) (replica_at w c (block_of f))) (w.breaks (node_of w c) (block_of f)) g

    -- READS

    breaking-brings : (c b : ℕ) (r : FullReplica) (e : ReplicaEvent) (ms : List Message) → Each (MessageIs Of) ms → Brings Of w (breaking w c b r e ms)
    breaking-brings c b r e ms m = record {
      dials = each-nil (DialIs Of);
      downs = λ d. each-nil (MessageIs Of);
      ups = sent-asked Of (Some c) ms m;
      primary = λ h. h 0;
    }

    read-brings : (c b : ℕ) (o : Result ServingState RequestRefusal) → Brings Of w (read_change w c b o)
    read-brings c b (Ok s) = record { dials = each-nil (DialIs Of); downs = λ d. each-nil (MessageIs Of); ups = sent-asked Of (Some c) (response (accepting s) ∷ []) (each-one (MessageIs Of) (response (accepting s)) tt); primary = λ h. h 0 }
    read-brings c b (Err r) = record { dials = each-nil (DialIs Of); downs = λ d. each-nil (MessageIs Of); ups = sent-asked Of (Some c) (response (refusing r) ∷ []) (each-one (MessageIs Of) (response (refusing r)) tt); primary = λ h. h 0 }

    failing-read-brings : (c b : ℕ) (e : Result Event RequestRefusal) → IfSome (failing_read w c b e) (Brings Of w)
    failing-read-brings c b (Err r) = tt
    failing-read-brings c b (Ok e) =
        let x = faulted_read (replica_at w c b) in breaking-brings c b x.0 (replica_event.Other e) (response (refusing x.1) ∷ []) (each-one (MessageIs Of) (response (refusing x.1)) tt)

    read-request-brings : (c : ℕ) (r : ReadOp) (fails : Bool) → IfSome (read_request w c r fails) (Brings Of w)
    read-request-brings c r true = failing-read-brings c r.block.block.0 (read_event r)
    read-request-brings c r false = read-brings c r.block.block.0 (read_at r (replica_at w c r.block.block.0))

    piece-brings : (c b : ℕ) (s : ServingState) (o : Option Packet) → Brings Of w (piece_as w c b s o)
    piece-brings c b s None = closing-brings c
    piece-brings c b s (Some p) = record { dials = each-nil (DialIs Of); downs = λ d. each-nil (MessageIs Of); ups = sent-asked Of (Some c) (packet p ∷ []) (each-one (MessageIs Of) (packet p) tt); primary = λ h. h 0 }

    serve-brings : (c b : ℕ) (s : ServingState) (o : Option Event) (fails : Bool) → IfSome (serve_change w c b s o fails) (Brings Of w)
    serve-brings c b s None fails = tt
    serve-brings c b s (Some e) true = breaking-brings c b (faulted_piece s (replica_at w c b)).0 (replica_event.Other e) [] (each-nil (MessageIs Of))
    serve-brings c b s (Some e) false = piece-brings c b (piece_at s (replica_at w c b)).serving (piece_at s (replica_at w c b)).packet

    -- RECOVERIES

    recovery-brings : (c : ℕ) (r : RecoveryOp) (s : Served) (b : Option Break) → Brings Of w (recovery_change w c r s b)
    recovery-brings c r s b = record {
      dials = each-nil (DialIs Of);
      downs = λ d. each-nil (MessageIs Of);
      ups = sent-asked Of (Some c) (recovery_answer (answer_of s.reply) ∷ []) (each-one (MessageIs Of) (recovery_answer (answer_of s.reply)) tt);
      primary = λ h. h 0;
    }

    failing-recovery-brings : (c : ℕ) (r : RecoveryOp) (e : Result Event RecoveryReply) → IfSome (failing_recovery w c r e) (Brings Of w)
    failing-recovery-brings c r (Err said) = tt
    failing-recovery-brings c r (Ok e) = recovery-brings c r (serve_faulted (replica_at w c r.block.block.0)) (broke_at w c r.block.block.0 (replica_event.Other e))

    recovery-request-brings : (c : ℕ) (r : RecoveryOp) (fails : Bool) → IfSome (recovery_request w c r fails) (Brings Of w)
    recovery-request-brings c r true = failing-recovery-brings c r (recovery_event r)
    recovery-request-brings c r false = recovery-brings c r (serve (replica_at w c r.block.block.0) r) (w.breaks (node_of w c) r.block.block.0)

    -- THE LOWER END

    first-brings : (c : ℕ) (m : Message) (answered fails : Bool) → MessageIs Of m → IfSome (first_message w c m answered fails) (Brings Of w)
    first-brings c (request (op.Write f)) answered fails k = write-brings c f answered fails k
    first-brings c (request (op.Read r)) answered fails k = read-request-brings c r fails
    first-brings c (request (op.Recovery r)) answered fails k = recovery-request-brings c r fails
    first-brings c (request (op.Transfer r)) answered fails k = unless-brings c fails
    first-brings c (request (op.Checksum r)) answered fails k = unless-brings c fails
    first-brings c (packet p) answered fails k = unless-brings c fails
    first-brings c (ack a) answered fails k = unless-brings c fails
    first-brings c (response r) answered fails k = unless-brings c fails
    first-brings c (read_status s) answered fails k = unless-brings c fails
    first-brings c (recovery_answer a) answered fails k = unless-brings c fails

    next-brings : (c : ℕ) (x : Next) (fails : Bool) → IfSome (next_recovery w c x fails) (Brings Of w)
    next-brings c (message (request (op.Recovery r))) fails = recovery-request-brings c r fails
    next-brings c (message (request (op.Write f))) fails = unless-brings c fails
    next-brings c (message (request (op.Read r))) fails = unless-brings c fails
    next-brings c (message (request (op.Transfer r))) fails = unless-brings c fails
    next-brings c (message (request (op.Checksum r))) fails = unless-brings c fails
    next-brings c (message (packet p)) fails = unless-brings c fails
    next-brings c (message (ack a)) fails = unless-brings c fails
    next-brings c (message (response r)) fails = unless-brings c fails
    next-brings c (message (read_status s)) fails = unless-brings c fails
    next-brings c (message (recovery_answer a)) fails = unless-brings c fails
    next-brings c the_end fails = unless-brings c fails

    pub lower-down-brings : (l : Lower) (c : ℕ) (x : Next) (answered fails : Bool) → NextIs Of x → IfSome (lower_down l w c x answered fails) (Brings Of w)
    lower-down-brings idle c (message m) answered fails k = first-brings c m answered fails k
    lower-down-brings idle c the_end answered fails k = unless-brings c fails
    lower-down-brings (writes m) c x answered fails k = member-down-brings c m x fails k
    lower-down-brings (serves b s) c x answered fails k = unless-brings c fails
    lower-down-brings recovers c x answered fails k = next-brings c x fails
    lower-down-brings ended_below c x answered fails k = tt

    pub lower-ready-brings : (l : Lower) (c : ℕ) (fails : Bool) → IfSome (lower_ready l w c fails) (Brings Of w)
    lower-ready-brings idle c fails = tt
    lower-ready-brings (writes m) c fails = ready-brings c m (ready_turn_at m.state (replica_at w c (block_of m.fields))) fails
    lower-ready-brings (serves b s) c fails = serve-brings c b s (next_call s) fails
    lower-ready-brings recovers c fails = tt
    lower-ready-brings ended_below c fails = tt

    pub mirror-up-brings : (l : Lower) (d : ℕ) (x : Next) (fails : Bool) → NextIs Of x → IfSome (mirror_up l w d x fails) (Brings Of w)
    mirror-up-brings idle d x fails k = tt
    mirror-up-brings (writes m) d x fails k = when-each (Brings Of w) (is_alive w (w.dialled d).to) _ (λ _. member-up-brings d m x fails k)
    mirror-up-brings (serves b s) d x fails k = tt
    mirror-up-brings recovers d x fails k = tt
    mirror-up-brings ended_below d x fails k = tt
