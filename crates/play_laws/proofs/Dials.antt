-- What a change dials: each request to write in it has targets that are nodes.
use Rattle.std.proofs.Common.{◌≡◌, ℕ, suc, ◌+◌, Bool, true, false, List, [], ◌∷◌, slice_get, Option, Some, None, IfSome, Result, Ok, Err, refl, sym, subst}
use Rattle.std.specs.Prelude.{◌==◌, ◌&&◌, nat_le, is_none}
use Rattle.std.proofs.lemmas.Option.{none-some}
use Rattle.hd_base.specs.declared.numbers.BlockId.{BlockId}
use Rattle.hd_base.specs.declared.numbers.NodeId.{NodeId}
use Rattle.packet_codec.specs.declared.packets.Packet.{Packet}
use Rattle.op_headers.specs.declared.nodes.NodeRef.{NodeRef}
use Rattle.op_headers.specs.declared.ops.Op.TheVariants as op
use Rattle.op_headers.specs.declared.ops.ReadOp.{ReadOp}
use Rattle.op_headers.specs.declared.ops.RecoveryOp.{RecoveryOp}
use Rattle.op_headers.specs.Values.{WriteFields}
use Rattle.node_refs.specs.NodeRefs.{ref_of}
use Rattle.name_core.specs.declared.calls.OfficeAnswer.TheVariants as office
use Rattle.replica_core.specs.declared.events.Event.{Event}
use Rattle.replica_core.specs.Views.{rule_in}
use Rattle.replica_model.specs.declared.events.ReplicaEvent.{ReplicaEvent}
use Rattle.replica_model.specs.declared.events.ReplicaEvent.TheVariants as replica_event
use Rattle.request_refusals.specs.declared.refusals.RequestRefusal.{RequestRefusal}
use Rattle.member_core.specs.declared.member.Mirror.{Mirror}
use Rattle.member_core.specs.declared.member.Mirror.TheVariants as mirror
use Rattle.member_core.specs.declared.requests.TheConstants.{MAX_PORT}
use Rattle.member_core.specs.declared.turns.Turn.{Turn}
use Rattle.member_core.specs.Members.{MemberState, down_turn, up_turn, hears}
use Rattle.member_core.specs.Requests.{request_event, request_to, mirror_request}
use Rattle.member_core.specs.Steps.{Setup, oldest_at, ready_turn_at, request_step, faulted_request}
use Rattle.world.specs.ReadCore.ReadTurn.{ReadTurn}
use Rattle.world.specs.ReadCore.ReadTurn.TheVariants as turn
use Rattle.world.specs.ReadCore.Readings.{ReadTaken, take_from}
use Rattle.world.specs.ReadCore.Servings.{ServingState, next_call, piece_at, read_at, read_event}
use Rattle.recovery_core.specs.declared.members.RecoveryReply.{RecoveryReply}
use Rattle.recovery_core.specs.declared.primary.OwnStep.{OwnStep}
use Rattle.recovery_core.specs.declared.primary.OwnStep.TheVariants as own
use Rattle.recovery_core.specs.declared.standings.Standing.{Standing}
use Rattle.recovery_core.specs.Members.{recovery_event}
use Rattle.recovery_core.specs.Primaries.{PrimaryState, own_step}
use Rattle.writer_core.specs.declared.actions.Action.{Action}
use Rattle.writer_core.specs.declared.actions.Action.TheVariants as action
use Rattle.writer_core.specs.Transitions as writer
use Rattle.world.specs.declared.events.Caller.{Caller}
use Rattle.world.specs.declared.events.Caller.TheVariants as caller
use Rattle.world.specs.Parts.{Message, request, packet, ack, response, read_status, recovery_answer, Place, FullMember, Lower, idle, writes, serves, recovers, ended_below, Break, Told, Reader, no_reader, reads, has_read, Leading, Primary, no_primary, was_told, leads, has_led}
use Rattle.world.specs.Worlds.{World, Dial, Change}
use Rattle.world.specs.Connections.{Next, message, the_end, is_alive, place_of}
use Rattle.world.specs.Nodes.{replica_at, node_of, block_of, broke_at, is_asked, above_of, below_of, closing, unless_failing, failing_turn, turn_change, takes_next, pending_at, member_down, member_up, ready_change, mirror_dial, mirror_node, dials_of, member_dials, setup_change, failing_write, write_request, read_change, failing_read, read_request, piece_as, serve_change, failing_recovery, recovery_request, first_message, next_recovery, lower_down, lower_ready, mirror_up}
use Rattle.world.specs.Clients.{are_members, reader_dials, own_reader_as, own_reader, from_node_of, reader_turn, reader_up_as, reader_up}
use Rattle.world.specs.Primaries.{dials_answered, primary_dials, begins_as, begins_at, own_recover, leads_step, commits_step, leads_told, own_primary_as, own_primary, listens, hears_change, primary_up_as, primary_up, writer_asks, primary_commits, primary_asks, office_event}
use Rattle.play_model.proofs.WorldLaws.ByteFrame.{Each, each-nil, each-one, each-cons}
use Rattle.play_model.proofs.WorldLaws.FactTables.{if-each, when-each}
use Rattle.play_laws.specs.Members.{AreRefs}

module _ (Of : NodeId → Type 0) where
  -- a request to write, and nothing of any other message
  abbrev pub Aims : Message → Type 0
  Aims (request (op.Write f)) = AreRefs Of f
  Aims other = Unit {0}

  abbrev pub NextAims : Next → Type 0
  NextAims (message m) = Aims m
  NextAims the_end = Unit {0}

  -- what a change dials; one that dials sends nothing else down
  pub record Calls (k : Change) : Type 0 where
    pub dials : Each (λ (d : Dial). Aims d.request) k.dials
    pub alone : (i : ℕ) (d : Dial) → slice_get k.dials i ≡ Some d → (c : ℕ) → k.downs c ≡ []

  -- a change that dials nothing
  pub quiet : (k : Change) → k.dials ≡ [] → Calls k
  quiet k e = record {
    dials = subst (Each (λ (d : Dial). Aims d.request)) (sym e) (each-nil (λ (d : Dial). Aims d.request));
    alone = λ i d s. absurd (none-some d (subst (λ (ds : List Dial). slice_get ds i ≡ Some d) e s));
  }

  -- THE REQUEST TO THE MIRROR

  to-aims : (source : NodeRef) (f : WriteFields) (ts : List NodeRef) → f.targets ≡ ts → AreRefs Of f → IfSome (request_to source f ts) (AreRefs Of)
  to-aims source f [] e h = tt
  to-aims source f (t ∷ ts) e h = if-each (λ (o : Option WriteFields). IfSome o (AreRefs Of)) (nat_le t.xfer MAX_PORT) _ None
      (λ _. λ k r s. h (suc k) r (subst (λ (l : List NodeRef). slice_get l (suc k) ≡ Some r) (sym e) s)) (λ _. tt)

  mirror-aims : (source : NodeRef) (f : WriteFields) → AreRefs Of f → IfSome (mirror_request source f) (AreRefs Of)
  unfolding mirror_request
  mirror-aims source f h = to-aims source f f.targets refl h

  module _ (w : World) where
    closing-calls : (c : ℕ) → Calls (closing w c)
    closing-calls c = quiet (closing w c) refl

    unless-calls : (c : ℕ) (fails : Bool) → IfSome (unless_failing fails (closing w c)) Calls
    unless-calls c true = tt
    unless-calls c false = closing-calls c

    -- MEMBERS

    turn-calls : (c : ℕ) (m : FullMember) (x : Next) (t : Turn) (fails : Bool) → IfSome (turn_change w c m x t fails) Calls
    turn-calls c m x t true = go t.call
      where
        go : (o : Option ReplicaEvent) → IfSome (failing_turn w c m x t o) Calls
        go None = tt
        go (Some e) = quiet _ refl
    turn-calls c m x t false = quiet _ refl

    member-down-calls : (c : ℕ) (m : FullMember) (x : Next) (fails : Bool) → IfSome (member_down w c m x fails) Calls
    member-down-calls c m x fails = when-each Calls (takes_next m.state (pending_at w c m) x) _ (λ _. turn-calls c m x (down_turn m.state (above_of x)) fails)

    member-up-calls : (c : ℕ) (m : FullMember) (x : Next) (fails : Bool) → IfSome (member_up w c m x fails) Calls
    member-up-calls c m x fails = when-each Calls (hears m.state) _ (λ _. turn-calls c m x (up_turn m.state (oldest_at (replica_at w c (block_of m.fields))) (below_of x)) fails)

    ready-calls : (c : ℕ) (m : FullMember) (o : Option Turn) (fails : Bool) → IfSome (ready_change w c m o fails) Calls
    ready-calls c m None fails = tt
    ready-calls c m (Some t) fails = turn-calls c m the_end t fails

    -- WRITE REQUESTS

    mirror-dial-aims : (c : ℕ) (g : Option WriteFields) (n : Option ℕ) → IfSome g (AreRefs Of) → Each (λ (d : Dial). Aims d.request) (mirror_dial w c g n)
    mirror-dial-aims c (Some f) (Some n) g = each-one (λ (d : Dial). Aims d.request) _ g
    mirror-dial-aims c (Some f) None g = each-nil (λ (d : Dial). Aims d.request)
    mirror-dial-aims c None n g = each-nil (λ (d : Dial). Aims d.request)

    dials-aim : (c : ℕ) (f : WriteFields) (z : Mirror) → AreRefs Of f → Each (λ (d : Dial). Aims d.request) (dials_of z w c f)
    dials-aim c f mirror.Asked g = mirror-dial-aims c (mirror_request (ref_of (record { 0 = node_of w c })) f) (mirror_node f.targets) (mirror-aims (ref_of (record { 0 = node_of w c })) f g)
    dials-aim c f mirror.Nobody g = each-nil (λ (d : Dial). Aims d.request)
    dials-aim c f mirror.Unreachable g = each-nil (λ (d : Dial). Aims d.request)
    dials-aim c f mirror.Open g = each-nil (λ (d : Dial). Aims d.request)
    dials-aim c f mirror.Ended g = each-nil (λ (d : Dial). Aims d.request)

    member-dials-aim : (c : ℕ) (f : WriteFields) (o : Option MemberState) → AreRefs Of f → Each (λ (d : Dial). Aims d.request) (member_dials o w c f)
    member-dials-aim c f None g = each-nil (λ (d : Dial). Aims d.request)
    member-dials-aim c f (Some m) g = dials-aim c f m.mirror g

    setup-calls : (c : ℕ) (f : WriteFields) (s : Setup) (b : Option Break) → AreRefs Of f → Calls (setup_change w c f s b)
    setup-calls c f s b g = record { dials = member-dials-aim c f s.member g; alone = λ i d e j. refl }

    failing-write-calls : (c : ℕ) (f : WriteFields) (e : Result Event RequestRefusal) → AreRefs Of f → IfSome (failing_write w c f e) Calls
    failing-write-calls c f (Err e) g = tt
    failing-write-calls c f (Ok e) g = setup-calls c f (faulted_request (replica_at w c (block_of f))) (broke_at w c (block_of f) (replica_event.Other e)) g

    write-calls : (c : ℕ) (f : WriteFields) (answered fails : Bool) → AreRefs Of f → IfSome (write_request w c f answered fails) Calls
    write-calls c f answered true g = failing-write-calls c f (request_event (record { 0 = c }) f (rule_in (replica_at w c (block_of f)).known)) g
    write-calls c f answered false g =
        setup-calls c f (request_step (record { 0 = c }) f (is_asked w c f answered) (replica_at w c (block_of f))) (w.breaks (node_of w c) (block_of f)) g

    -- READS AND RECOVERIES

    failing-read-calls : (c b : ℕ) (e : Result Event RequestRefusal) → IfSome (failing_read w c b e) Calls
    failing-read-calls c b (Err r) = tt
    failing-read-calls c b (Ok e) = quiet _ refl

    read-calls : (c b : ℕ) (o : Result ServingState RequestRefusal) → Calls (read_change w c b o)
    read-calls c b (Ok s) = quiet _ refl
    read-calls c b (Err r) = quiet _ refl

    read-request-calls : (c : ℕ) (r : ReadOp) (fails : Bool) → IfSome (read_request w c r fails) Calls
    read-request-calls c r true = failing-read-calls c r.block.block.0 (read_event r)
    read-request-calls c r false = read-calls c r.block.block.0 (read_at r (replica_at w c r.block.block.0))

    piece-calls : (c b : ℕ) (s : ServingState) (o : Option Packet) → Calls (piece_as w c b s o)
    piece-calls c b s None = closing-calls c
    piece-calls c b s (Some p) = quiet _ refl

    serve-calls : (c b : ℕ) (s : ServingState) (o : Option Event) (fails : Bool) → IfSome (serve_change w c b s o fails) Calls
    serve-calls c b s None fails = tt
    serve-calls c b s (Some e) true = quiet _ refl
    serve-calls c b s (Some e) false = piece-calls c b (piece_at s (replica_at w c b)).serving (piece_at s (replica_at w c b)).packet

    failing-recovery-calls : (c : ℕ) (r : RecoveryOp) (e : Result Event RecoveryReply) → IfSome (failing_recovery w c r e) Calls
    failing-recovery-calls c r (Err said) = tt
    failing-recovery-calls c r (Ok e) = quiet _ refl

    recovery-request-calls : (c : ℕ) (r : RecoveryOp) (fails : Bool) → IfSome (recovery_request w c r fails) Calls
    recovery-request-calls c r true = failing-recovery-calls c r (recovery_event r)
    recovery-request-calls c r false = quiet _ refl

    -- THE LOWER END

    first-calls : (c : ℕ) (m : Message) (answered fails : Bool) → Aims m → IfSome (first_message w c m answered fails) Calls
    first-calls c (request (op.Write f)) answered fails k = write-calls c f answered fails k
    first-calls c (request (op.Read r)) answered fails k = read-request-calls c r fails
    first-calls c (request (op.Recovery r)) answered fails k = recovery-request-calls c r fails
    first-calls c (request (op.Transfer r)) answered fails k = unless-calls c fails
    first-calls c (request (op.Checksum r)) answered fails k = unless-calls c fails
    first-calls c (packet p) answered fails k = unless-calls c fails
    first-calls c (ack a) answered fails k = unless-calls c fails
    first-calls c (response r) answered fails k = unless-calls c fails
    first-calls c (read_status s) answered fails k = unless-calls c fails
    first-calls c (recovery_answer a) answered fails k = unless-calls c fails

    next-calls : (c : ℕ) (x : Next) (fails : Bool) → IfSome (next_recovery w c x fails) Calls
    next-calls c (message (request (op.Recovery r))) fails = recovery-request-calls c r fails
    next-calls c (message (request (op.Write f))) fails = unless-calls c fails
    next-calls c (message (request (op.Read r))) fails = unless-calls c fails
    next-calls c (message (request (op.Transfer r))) fails = unless-calls c fails
    next-calls c (message (request (op.Checksum r))) fails = unless-calls c fails
    next-calls c (message (packet p)) fails = unless-calls c fails
    next-calls c (message (ack a)) fails = unless-calls c fails
    next-calls c (message (response r)) fails = unless-calls c fails
    next-calls c (message (read_status s)) fails = unless-calls c fails
    next-calls c (message (recovery_answer a)) fails = unless-calls c fails
    next-calls c the_end fails = unless-calls c fails

    pub lower-down-calls : (l : Lower) (c : ℕ) (x : Next) (answered fails : Bool) → (l ≡ idle → NextAims x) → IfSome (lower_down l w c x answered fails) Calls
    lower-down-calls idle c (message m) answered fails k = first-calls c m answered fails (k refl)
    lower-down-calls idle c the_end answered fails k = unless-calls c fails
    lower-down-calls (writes m) c x answered fails k = member-down-calls c m x fails
    lower-down-calls (serves b s) c x answered fails k = unless-calls c fails
    lower-down-calls recovers c x answered fails k = next-calls c x fails
    lower-down-calls ended_below c x answered fails k = tt

    pub lower-ready-calls : (l : Lower) (c : ℕ) (fails : Bool) → IfSome (lower_ready l w c fails) Calls
    lower-ready-calls idle c fails = tt
    lower-ready-calls (writes m) c fails = ready-calls c m (ready_turn_at m.state (replica_at w c (block_of m.fields))) fails
    lower-ready-calls (serves b s) c fails = serve-calls c b s (next_call s) fails
    lower-ready-calls recovers c fails = tt
    lower-ready-calls ended_below c fails = tt

    pub mirror-up-calls : (l : Lower) (d : ℕ) (x : Next) (fails : Bool) → IfSome (mirror_up l w d x fails) Calls
    mirror-up-calls idle d x fails = tt
    mirror-up-calls (writes m) d x fails = when-each Calls (is_alive w (w.dialled d).to) _ (λ _. member-up-calls d m x fails)
    mirror-up-calls (serves b s) d x fails = tt
    mirror-up-calls recovers d x fails = tt
    mirror-up-calls ended_below d x fails = tt

    -- READERS

    reader-dials-calls : (i n : ℕ) (r : ReadOp) (answered : Bool) → Calls (reader_dials w i n r answered)
    reader-dials-calls i n r true = record { dials = each-one (λ (d : Dial). Aims d.request) _ tt; alone = λ j d e c. refl }
    reader-dials-calls i n r false = quiet _ refl

    own-reader-as-calls : (x : Reader) (i n : ℕ) (r : ReadOp) (answered : Bool) → IfSome (own_reader_as x w i n r answered) Calls
    own-reader-as-calls no_reader i n r answered = reader-dials-calls i n r (answered && w.running n)
    own-reader-as-calls (reads c s) i n r answered = tt
    own-reader-as-calls (has_read x) i n r answered = tt

    pub own-reader-calls : (i n : ℕ) (r : ReadOp) (answered : Bool) → IfSome (own_reader w i n r answered) Calls
    own-reader-calls i n r answered = own-reader-as-calls (w.readers i) i n r answered

    reader-turn-calls : (i c : ℕ) (t : ReadTaken) (x : ReadTurn) → Calls (reader_turn w i c t x)
    reader-turn-calls i c t turn.Goes = quiet _ refl
    reader-turn-calls i c t turn.Verified = quiet _ refl
    reader-turn-calls i c t (turn.Fails f) = quiet _ refl

    reader-up-as-calls : (x : Reader) (i c : ℕ) (n : Next) → IfSome (reader_up_as x w i c n) Calls
    reader-up-as-calls no_reader i c n = tt
    reader-up-as-calls (reads d s) i c n = when-each Calls (d == c) _ (λ _. reader-turn-calls i c (take_from s (from_node_of n)) _)
    reader-up-as-calls (has_read x) i c n = tt

    pub reader-up-calls : (i c : ℕ) (n : Next) → IfSome (reader_up w i c n) Calls
    reader-up-calls i c n = reader-up-as-calls (w.readers i) i c n

    -- PRIMARIES

    primary-dials-aim : (i : ℕ) (from : Place) (m : Message) (place : ℕ) (ns : List NodeId) (bs : List Bool) → Aims m → Each (λ (d : Dial). Aims d.request) (primary_dials w i from m place ns bs)
    primary-dials-aim i from m place [] bs h = each-nil (λ (d : Dial). Aims d.request)
    primary-dials-aim i from m place (n ∷ ns) [] h = each-nil (λ (d : Dial). Aims d.request)
    primary-dials-aim i from m place (n ∷ ns) (true ∷ bs) h = each-cons (λ (d : Dial). Aims d.request) _ (primary_dials w i from m (place + 1) ns bs) h (primary-dials-aim i from m (place + 1) ns bs h)
    primary-dials-aim i from m place (n ∷ ns) (false ∷ bs) h = primary-dials-aim i from m (place + 1) ns bs h

    begins-as-calls : (told : Told) (i : ℕ) (at : Place) (b : BlockId) (ns : List NodeId) (bs : List Bool) → IfSome (begins_as told w i at b ns bs) Calls
    begins-as-calls (Ok (office.Begun begun)) i at b ns bs = record { dials = primary-dials-aim i at _ 0 ns (dials_answered w ns bs) tt; alone = λ j d e c. refl }
    begins-as-calls (Ok (office.Stamp x)) i at b ns bs = tt
    begins-as-calls (Ok (office.Reopened x)) i at b ns bs = tt
    begins-as-calls (Ok office.Nothing) i at b ns bs = tt
    begins-as-calls (Err e) i at b ns bs = quiet _ refl

    begins-at-calls : (x : Primary) (i n : ℕ) (b : BlockId) (ns : List NodeId) (bs : List Bool) → IfSome (begins_at x w i n b ns bs) Calls
    begins-at-calls no_primary i n b ns bs = tt
    begins-at-calls (was_told q told) i n b ns bs = when-each Calls (q.0 == b.0 && w.running n && are_members ns) _ (λ _. begins-as-calls told i (place_of w n) b ns bs)
    begins-at-calls (leads l) i n b ns bs = tt
    begins-at-calls (has_led x) i n b ns bs = tt

    pub own-recover-calls : (i n : ℕ) (b : BlockId) (ns : List NodeId) (bs : List Bool) → IfSome (own_recover w i n b ns bs) Calls
    own-recover-calls i n b ns bs = begins-at-calls (w.primaries i) i n b ns bs

    step-calls : (s : OwnStep) (i : ℕ) (l : Leading) (p : PrimaryState) → IfSome (leads_step s w i l p) Calls
    step-calls own.Waits i l p = tt
    step-calls (own.Updates c) i l p = quiet _ refl
    step-calls (own.Commits c) i l p = tt
    step-calls (own.Ends x) i l p = quiet _ refl

    commits-calls : (s : OwnStep) (i : ℕ) (l : Leading) (t : Told) → IfSome (commits_step s w i l t) Calls
    commits-calls own.Waits i l t = tt
    commits-calls (own.Updates c) i l t = tt
    commits-calls (own.Commits c) i l t = quiet _ refl
    commits-calls (own.Ends x) i l t = tt

    told-calls : (o : Option Told) (i : ℕ) (l : Leading) → IfSome (leads_told o w i l) Calls
    told-calls None i l = step-calls (own_step l.state).does i l (own_step l.state).primary
    told-calls (Some t) i l = commits-calls (own_step l.state).does i l t

    own-as-calls : (x : Primary) (i : ℕ) → IfSome (own_primary_as x w i) Calls
    own-as-calls no_primary i = tt
    own-as-calls (was_told b t) i = tt
    own-as-calls (leads l) i = when-each Calls (is_alive w l.at) _ (λ _. told-calls l.told i l)
    own-as-calls (has_led x) i = tt

    pub own-primary-calls : (i : ℕ) → IfSome (own_primary w i) Calls
    own-primary-calls i = own-as-calls (w.primaries i) i

    hears-calls : (i : ℕ) (l : Leading) (place c : ℕ) (x : Next) (o : Option Standing) → IfSome (hears_change w i l place c x o) Calls
    hears-calls i l place c x None = tt
    hears-calls i l place c x (Some s) = when-each Calls (listens l.state.phase s) _ (λ _. quiet _ refl)

    up-as-calls : (x : Primary) (i place c : ℕ) (n : Next) → IfSome (primary_up_as x w i place c n) Calls
    up-as-calls no_primary i place c n = tt
    up-as-calls (was_told b t) i place c n = tt
    up-as-calls (leads l) i place c n = when-each Calls (is_alive w l.at && is_none l.told) _ (λ _. hears-calls i l place c n (slice_get l.state.standings place))
    up-as-calls (has_led x) i place c n = tt

    pub primary-up-calls : (i place c : ℕ) (n : Next) → IfSome (primary_up w i place c n) Calls
    primary-up-calls i place c n = up-as-calls (w.primaries i) i place c n

    -- THE OFFICE

    asks-calls : (a : Action) (b : ℕ) → IfSome (writer_asks a w b) Calls
    asks-calls (action.Ask c) b = quiet _ refl
    asks-calls action.Took b = tt
    asks-calls (action.Send p) b = tt
    asks-calls (action.Answered k said) b = tt
    asks-calls action.Wait b = tt
    asks-calls (action.Dial to r) b = tt
    asks-calls action.Memory b = tt

    commits-asks : (s : OwnStep) (i : ℕ) (l : Leading) → IfSome (primary_commits s w i l) Calls
    commits-asks (own.Commits c) i l = quiet _ refl
    commits-asks own.Waits i l = tt
    commits-asks (own.Updates c) i l = tt
    commits-asks (own.Ends x) i l = tt

    primary-asks-calls : (x : Primary) (i : ℕ) (b : BlockId) → IfSome (primary_asks x w i b) Calls
    primary-asks-calls no_primary i b = quiet _ refl
    primary-asks-calls (leads l) i b = when-each Calls (is_alive w l.at && is_none l.told) _ (λ _. commits-asks (own_step l.state).does i l)
    primary-asks-calls (was_told q t) i b = tt
    primary-asks-calls (has_led x) i b = tt

    pub office-calls : (c : Caller) → IfSome (office_event w c) Calls
    office-calls (caller.Writer b) = when-each Calls (is_none (w.writers b.0).told) _ (λ _. asks-calls (writer.own_step (w.writers b.0).known).action b.0)
    office-calls (caller.Primary i b) = primary-asks-calls (w.primaries i) i b
