-- How an end that has taken a request becomes a member, or why it doesn't.
use Rattle.std.proofs.Common.{◌≡◌, ◌≢◌, ◌⊎◌, inl, inr, ◌≤◌, ◌<◌, ◌+◌, ℕ, Bool, true, false, if◌then◌else◌, List, [], ◌∷◌, ◌++◌, length, slice_get, Option, Some, None, IfSome, Result, Ok, Err, refl, sym, ap, ◌∙◌, subst, arith}
use Rattle.std.specs.Prelude.{◌&&◌, nat_le}
use Rattle.std.proofs.lemmas.Bool.Decides.{nat_tests}
use Rattle.hd_base.specs.Channels.{Plain}
use Rattle.hd_base.specs.Ends.{IsKnown}
use Rattle.hd_base.specs.Faults.{FaultsIncreased}
use Rattle.hd_base.specs.declared.ends.Conn.{Conn}
use Rattle.hd_base.specs.declared.files.Files as files
use Rattle.hd_base.specs.declared.links.LinkIn as link_in
use Rattle.hd_base.specs.declared.links.LinkOut as link_out
use Rattle.hd_base.specs.declared.numbers.ConnId.{ConnId}
use Rattle.hd_base.specs.declared.numbers.NodeId.{NodeId}
use Rattle.hd_base.specs.declared.numbers.Receipt.{Receipt}
use Rattle.hd_base.specs.declared.roads.Roads as roads
use Rattle.hd_base.specs.declared.roads.TheConstants.{FIRST_PORT}
use Rattle.link_pieces.specs.Pieces.{SendsPiece}
use Rattle.link_pieces.specs.Roads.{IsUnanswered}
use Rattle.proto_fields.specs.Frames.{limit}
use Rattle.op_headers.specs.declared.ops.Op.TheVariants as op
use Rattle.op_headers.specs.Requests.{op_message}
use Rattle.op_headers.specs.Values.{WriteFields}
use Rattle.pipe_member.specs.NodeRefs.NodeRefs.{ref_of}
use Rattle.pipe_member.specs.MemberCore.TheConstants.{MAX_PORT}
use Rattle.pipe_member.specs.MemberCore.Requests.{request_to, request_from, mirror_request}
use Rattle.pipe_member.specs.PipeSetup.Requests.{request_text, first_port, written}
use Rattle.world_texts.specs.World.Parts.{request}
use Rattle.world_texts.specs.World.Nodes.{node_of}
use Rattle.world_texts.specs.WorldNets.Rows.{text_of}
use Rattle.world_texts.specs.Texts.{SpellsText}
use Rattle.proto_fields.specs.Framed.{FramesSome}
use Rattle.link_pieces.specs.Roads.{KeepsRoads, IsDialled}
use Rattle.pipe_member.specs.MemberCore.Effect.{Effect}
use Rattle.pipe_member.specs.MemberCore.Members.{MemberState, set_up}
use Rattle.pipe_member.specs.MemberCore.Steps.{request_step, taken_request}
use Rattle.pipe_member.specs.PipeSetup.Reaching.{IsUnwritten}
use Rattle.road_traffic.proofs.CallLemmas.{dialled-shows}
use Rattle.road_traffic.proofs.ShowingLemmas.{roads-same}
use Rattle.world_texts.specs.World.Parts.{Message}
use Rattle.world_texts.specs.World.Worlds.{apply}
use Rattle.world_texts.specs.World.Nodes.{runs_there, mirror_node, setup_change, member_dials}
use Rattle.world_texts.specs.World.Events.{outcome}
use Rattle.world_texts.specs.WorldNets.Drawn.{break_at}
use Rattle.member_events.proofs.JoinAlone.{IsUnset, asked_is_set}
use Rattle.member_events.proofs.JoinEvents.{unset, end_at, step_at, taken_at, taken_ends}
use Rattle.member_events.proofs.JoinFaults.{join_link, join_file, both_keep, lost_risen}
use Rattle.member_events.proofs.JoinMirror.{MirrorDone, asked_setup, asked_dial, mirror_waits, mirror_joins}
use Rattle.member_events.proofs.JoinWorld.{IsMirror, is_mirror, request_same, setup_out, SentDown, sent_down, runs_as, asked_there, unasked_there, fails_unasked, dial_is}
use Rattle.member_events.proofs.StepLaws.{last_of}
use Rattle.op_headers.specs.Requests.{OpSays}
use Rattle.replica_core.specs.declared.events.Event.{Event}
use Rattle.replica_core.specs.Transitions.{transition}
use Rattle.replica_core.specs.Views.{rule_in}
use Rattle.op_headers.specs.declared.nodes.NodeRef.{NodeRef}
use Rattle.pipe_member.specs.MemberCore.Requests.{request_event}
use Rattle.pipe_member.specs.ReplicaModel.Rows.{FullReplica}
use Rattle.pipe_member.specs.ReplicaFiles.BookState.{BookState}
use Rattle.pipe_member.specs.ReplicaFiles.Books.{replica_of}
use Rattle.pipe_member.specs.RequestRefusals.RequestRefusal.{RequestRefusal}
use Rattle.pipe_member.specs.MemberCore.Shuts.{Shuts}
use Rattle.pipe_member.specs.PipeSetup.SetupRefusal.TheVariants as refusal
use Rattle.pipe_member.specs.PipeSetup.Setup.{Setup}
use Rattle.pipe_member.specs.PipeSetup.Setup.TheVariants as setup
use Rattle.pipe_member.specs.PipeSetup.Reaching.{IsAskedBy}
use Rattle.pipe_member.specs.PipeSetup.Setups.{IsLost, EndsAs, GoesOn, booked_in}
use Rattle.pipe_member.proofs.PipeSetup.ReachingLemmas.{port_is_one}
use Rattle.pipe_member.specs.PipeTurns.Acting.{ShutsMirror}
use Rattle.pipe_member.specs.declared.member.Member.{Member}
use Rattle.pipe_member.specs.declared.stages.Stage.{Stage}
use Rattle.pipe_member.specs.declared.stages.Stage.TheVariants as stage
use Rattle.pipe_member.specs.declared.stepped.Stepped.{Stepped}
use Rattle.pipe_member.specs.declared.stepped.Stepped.TheVariants as stepped
use Rattle.pipe_member.specs.EventSteps.{IsOfHistory}
use Rattle.pipe_member.specs.Exchanges.{AreKnown, ExchangesBoth}
use Rattle.pipe_member.specs.SetupSteps.{was_answered, IsNewRequest}
use Rattle.pipe_member.specs.Setups.{Begins, FollowsSetup, SetsUp, SetsUpWith, opened, with_outward}
use Rattle.pipe_member.specs.Steps.{done_step}
use Rattle.pipe_member.specs.Turns.{IsNew}
use Rattle.pipe_member.proofs.SetupStepLemmas.{awaits}
use Rattle.road_traffic.specs.Showing.{Net}
use Rattle.world_texts.specs.World.Event.TheVariants as event
use Rattle.world_texts.specs.World.Worlds.{World}
use Rattle.world_texts.specs.World.Connections.{down_taken}
use Rattle.world_texts.specs.World.Events.{happens}
use Rattle.member_events.specs.declared.beginning.Requested.{Requested}
use Rattle.member_events.specs.declared.joining.Joined.{Joined}
use Rattle.member_events.specs.declared.joining.MirrorDial.{MirrorDial}
use Rattle.member_events.specs.declared.joining.MirrorDial.TheVariants as dial
use Rattle.member_events.specs.declared.faults.MemberFault.{MemberFault}
use Rattle.member_events.specs.declared.faults.MemberFault.TheVariants as fault
use Rattle.member_events.specs.Joining.{IsMirrorPort, MeetsNobody, MeetsMirror, Meets, Accepts, write_next, JoinStands, CanJoin, MemberJoins, MirrorJoins, JoinsBy, JoinEnds, JoinShows}
use Rattle.member_events.specs.Roads.{RoadsPass}
use Rattle.member_events.specs.Showing.{MirrorShows}
use Rattle.member_events.specs.Steps as steps
use Rattle.member_events.specs.Steps.{IsPlaced}
use Rattle.member_events.proofs.CauseLaws.{still_risen, less_through}
use Rattle.member_events.proofs.EndLaws.{RoadsAt}
use Rattle.member_events.proofs.EventEndLemmas.{IsGood, placed_good}
use Rattle.member_events.proofs.FaultEvents.{exchange_never, rises_from, lost_caused, placed_caused}
use Rattle.member_events.proofs.JoinEvents.{before, roads_at, refused_joins, last_joins, down_joins}
use Rattle.member_events.proofs.KnownLaws.{SameMirror, exchanged_same}
use Rattle.member_events.proofs.SetupEnds.{SetUpAs, HasRefused, HasTaken, refused_before, last_is, core_is, waits_is}
use Rattle.member_events.proofs.SetupKnown.{setup_ids, refused_ids, setup_passes}
use Rattle.member_events.proofs.StepLaws.{spelled_within, fits_within}

-- WHAT GOES ON

-- The request that goes to the mirror, by its text.
pub record GoesTo (node : NodeId) (w : WriteFields) (text : List ℕ) : Type 0 where
  pub on : WriteFields
  pub is : mirror_request (ref_of node) w ≡ Some on
  pub text_is : text ≡ text_of (request (op.Write on))

sized_is : (b : Bool) (on : WriteFields) (text : List ℕ) → (if b then Some (text_of (request (op.Write on))) else None) ≡ Some text → text ≡ text_of (request (op.Write on))
sized_is true on text h = cc
sized_is false on text h = cc

goes_by : (node : NodeId) (w : WriteFields) (text : List ℕ) (x : Option WriteFields) → mirror_request (ref_of node) w ≡ x → written x ≡ Some text → GoesTo node w text
goes_by node w text None is h = cc
goes_by node w text (Some on) is h = record { on = on; is = is; text_is = sized_is (nat_le (length (op_message (op.Write on))) limit) on text h }

pub goes_to : (node : NodeId) (w : WriteFields) (text : List ℕ) → request_text node w ≡ Some text → GoesTo node w text
unfolding request_text
goes_to node w text h = goes_by node w text (mirror_request (ref_of node) w) refl h

-- a request that is spelled as it is written is within the limit
tail_of : (a b : ℕ) (xs ys : List ℕ) → 0 ∷ 28 ∷ a ∷ xs ≡ 0 ∷ 28 ∷ b ∷ ys → xs ≡ ys
tail_of a b xs ys h = cc

few_enough : (n m : ℕ) → n ≤ m → nat_le n m ≡ true
few_enough n m h = grind (arith, nat_tests)

some_none : {A : Type 0} (b : Bool) (a : A) → b ≡ true → (if b then Some a else None) ≡ None → ⊥
some_none true a is h = cc
some_none false a is h = cc

none_if : {A : Type 0} (b : Bool) (a : A) → b ≡ false → (if b then Some a else None) ≡ None
none_if true a is = cc
none_if false a is = refl

too_many : (n m : ℕ) → m < n → nat_le n m ≡ false
too_many n m h = grind (arith, nat_tests)

portless : (source : NodeRef) (w : WriteFields) (targets : List NodeRef) → MAX_PORT < first_port targets → request_to source w targets ≡ None
portless source w [] far = refl
portless source w (mirror ∷ rest) far = none_if (nat_le mirror.xfer MAX_PORT) (request_from source w rest) (too_many mirror.xfer MAX_PORT far)

ported : (source : NodeRef) (w : WriteFields) (targets : List NodeRef) → targets ≢ [] → first_port targets ≤ MAX_PORT → request_to source w targets ≡ None → ⊥
ported source w [] some fits none = some refl
ported source w (mirror ∷ rest) some fits none = some_none (nat_le mirror.xfer MAX_PORT) (request_from source w rest) (few_enough mirror.xfer MAX_PORT fits) none

-- Nothing goes to a mirror that is named at no port,
pub never_goes : (source : NodeRef) (w : WriteFields) → MAX_PORT < first_port w.targets → mirror_request source w ≡ None
unfolding mirror_request
never_goes source w far = portless source w w.targets far

-- and a request goes to each other one.
pub always_goes : (source : NodeRef) (w : WriteFields) → w.targets ≢ [] → first_port w.targets ≤ MAX_PORT → mirror_request source w ≡ None → ⊥
unfolding mirror_request
always_goes source w some fits none = ported source w w.targets some fits none

-- so it goes on, if there is one
unwritten_by : (node : NodeId) (w : WriteFields) (x : Option WriteFields) → mirror_request (ref_of node) w ≡ x → ((on : WriteFields) → mirror_request (ref_of node) w ≡ Some on → length (op_message (op.Write on)) ≤ limit) → written x ≡ None → mirror_request (ref_of node) w ≡ None
unwritten_by node w None is few h = is
unwritten_by node w (Some on) is few h = absurd (some_none (nat_le (length (op_message (op.Write on))) limit) _ (few_enough _ _ (few on is)) h)

pub unwritten : (node : NodeId) (w : WriteFields) → ((on : WriteFields) → mirror_request (ref_of node) w ≡ Some on → length (op_message (op.Write on)) ≤ limit) → request_text node w ≡ None → mirror_request (ref_of node) w ≡ None
unfolding request_text
unwritten node w few h = unwritten_by node w (mirror_request (ref_of node) w) refl few h

-- WHAT IS SPELLED

pub spelled_few : (on : WriteFields) → SpellsText (request (op.Write on)) → length (op_message (op.Write on)) ≤ limit
spelled_few on h =
    let parts = tail_of _ _ _ _ h.parts in
    let frame = subst (λ (bytes : List ℕ). FramesSome (λ message. OpSays h.code message (Ok (op.Write on))) bytes) (sym parts) h.holds in
    spelled_within (op_message (op.Write on)) (λ message. OpSays h.code message (Ok (op.Write on))) frame (fits_within (op_message (op.Write on)) (λ message. OpSays h.code message (Ok (op.Write on))) frame)

-- BEFORE AND AFTER THE SETUP

same_node : (a b : NodeId) → a.0 ≡ b.0 → a ≡ b
same_node a b h = λ j. record { 0 = h j }

none_same : {I O : Type 0} (a b : Option (Conn I O)) → a ≡ None → SameMirror a b → b ≡ None
none_same None None none h = refl
none_same None (Some y) none h = absurd h
none_same (Some x) b none h = cc

shut_mirror : {I O : Type 0} (o : link_out.Ghosts O) (end : Conn I O) (e : Option (Conn I O)) → ShutsMirror o false (Some end) e → e ≡ Some end
shut_mirror o end None h = absurd h
shut_mirror o end (Some y) h = ap Some h

mirror_none : {I O : Type 0} (i : link_in.Ghosts I) (o : link_out.Ghosts O) (v : World) (made : Net) (mirror : Option ℕ) (e : Option (Conn I O)) → mirror ≡ None → MirrorShows i o v made mirror e → e ≡ None
mirror_none i o v made None None is h = refl
mirror_none i o v made None (Some y) is h = absurd h
mirror_none i o v made (Some d) e is h = cc

true_not : true ≡ false → ⊥
true_not h = cc

module _ {F R I O : Type 0} (f : files.Ghosts F) (r : roads.Ghosts R I O) (i : link_in.Ghosts I) (o : link_out.Ghosts O) (node : NodeId) (next : ConnId) (requested : Requested I O) (old held : Member I O) (book book' : BookState F) (ended : Stepped) (port : Option ℕ) (road mid later road' : R) where
  -- What is known of a member's setup, before and after it is placed.
  pub record IsJoining : Type 0 where
    pub is_new : IsNew node requested.end requested.op old
    pub of_history : IsOfHistory book
    pub port_is : IsMirrorPort requested.op.targets port
    pub set_up : SetsUp f r i o stage.New old held book book' road mid ended
    pub not_risen : r.risen mid next.0 ≡ false

  module _ (h : IsJoining) (w : World) (net : Net) (conn : ConnId) (stands : JoinStands r i o w net conn.0 node next requested book road) (can : CanJoin w conn requested.op) where
    abbrev result_is : Result (Joined I O) MemberFault → Type 0
    result_is result = JoinEnds f r i o w net conn next requested.op book book' road road' result

    no_mirror : old.mirror ≡ None
    no_mirror = h.is_new.mirror

    first_at : RoadsAt r net road
    first_at = roads_at r i o w net conn node next requested old book road stands can h.is_new

    -- a result where nobody is met
    nobody_met : (left : Option (Member I O)) (mirror : MirrorDial I O) (result : Result (Joined I O) MemberFault) → JoinsBy r i o w net conn next requested.op book' road road' left mirror → result ≡ Ok (record { member = left; mirror = mirror }) → result_is result
    nobody_met left mirror result k is = subst result_is (sym is) k

    -- where nothing was dialled, and it is the same whether one would be answered
    undialled : (left : Option (Member I O)) (result : Result (Joined I O) MemberFault) → ((answered : Bool) → MemberJoins r i o (down_taken w conn.0 (write_next requested.op)) net (happens w (event.Down conn answered)) conn.0 requested.op None book' later left)
        → MeetsNobody left dial.NotDialled later road' result → result_is result
    undialled left result k met = nobody_met left dial.NotDialled result (λ answered. subst (λ (y : R). MemberJoins r i o (down_taken w conn.0 (write_next requested.op)) net (happens w (event.Down conn answered)) conn.0 requested.op None book' y left) (sym met.same) (k answered)) met.is

    -- a request that was refused has shut
    not_open : (st : Stepped) (receipt : Option Receipt) (new : Member I O) → st ≡ stepped.Shut receipt → IsPlaced r i o st held mid later (Ok (Some new)) → ⊥
    not_open st receipt new is p = subst (λ (y : Stepped). IsPlaced r i o y held mid later (Ok (Some new))) is p

    not_over : (st : Stepped) (receipt : Option Receipt) → st ≡ stepped.Moved receipt → IsPlaced r i o st held mid later (Ok None) → ⊥
    not_over st receipt is p = subst (λ (y : Stepped). IsPlaced r i o y held mid later (Ok None)) is p

    is_exchanged : (st : Stepped) (receipt : Option Receipt) (new : Member I O) → st ≡ stepped.Moved receipt → IsPlaced r i o st held mid later (Ok (Some new)) → ExchangesBoth r i o None held new mid later (Ok tt)
    is_exchanged st receipt new is p = subst (λ (y : Stepped). IsPlaced r i o y held mid later (Ok (Some new))) is p

    refused_end : (q : Option ℕ) (left : Option (Member I O)) (result : Result (Joined I O) MemberFault) → HasRefused o old held book book' ended → held.mirror ≡ None → RoadsAt r net mid → IsPlaced r i o ended held mid later (Ok left) → Meets r i o q left later road' result → result_is result
    refused_end q None result k none at p met = undialled None result (refused_joins r i o w net conn node next requested old book road stands can h.is_new held book' ended mid later None k none at p) met
    refused_end q (Some new) result k none at p met = absurd (not_open ended k.ends.receipt new k.ends.ended p)

    last_end : (q : Option ℕ) (left : Option (Member I O)) (result : Result (Joined I O) MemberFault) → IsMirrorPort requested.op.targets q → requested.op.targets ≡ [] → HasTaken o false old held book book' ended → held.mirror ≡ None → RoadsAt r net mid → IsPlaced r i o ended held mid later (Ok left) → Meets r i o q left later road' result → result_is result
    last_end (Some n) left result port_is last k none at p met = absurd (port_is.0 last)
    last_end None None result port_is last k none at p met = undialled None result (last_joins r i o w net conn node next requested old book road stands can h.is_new held book' ended mid later None last k none at p) met
    last_end None (Some new) result port_is last k none at p met = undialled (Some new) result (last_joins r i o w net conn node next requested old book road stands can h.is_new held book' ended mid later (Some new) last k none at p) met

    -- what a member has shut that isn't the last
    waits_open : (a : Bool) → requested.op.targets ≢ [] → (k : HasTaken o a old held book book' ended) → ended ≡ stepped.Moved k.ends.receipt
    waits_open a some k =
        let some' : old.op.targets ≢ [] = λ z. some (sym (ap (λ (x : WriteFields). x.targets) h.is_new.op_is) ∙ z) in
        k.ends.ended ∙ ap (λ (s : Shuts). done_step s k.ends.receipt) (awaits old.upstream.id old.op a some').1

    abbrev taken : World
    taken = down_taken w conn.0 (write_next requested.op)

    same_running : (n : ℕ) → taken.running n ≡ w.running n
    same_running n = (request_same w conn.0 requested.op).running n

    mirror_is : requested.op.targets ≢ [] → IsMirror requested.op.targets
    mirror_is some = is_mirror requested.op some can.of_node

    -- why a mirror at this node couldn't be asked
    abbrev CantAsk : ℕ → R → Type 0
    CantAsk number after = (w.running number ≡ false) ⊎ FaultsIncreased (r.faults road) (r.faults after)

    down_end : (q : Option ℕ) (left : Option (Member I O)) (result : Result (Joined I O) MemberFault) → IsMirrorPort requested.op.targets q → (some : requested.op.targets ≢ []) → HasTaken o false old held book book' ended → held.mirror ≡ None → RoadsAt r net mid
        → (first_port requested.op.targets ≤ MAX_PORT → CantAsk (mirror_is some).number mid) → IsPlaced r i o ended held mid later (Ok left) → Meets r i o q left later road' result → result_is result
    down_end None None result port_is some k none at cause p met = absurd (not_over ended k.ends.receipt (waits_open false some k) p)
    down_end None (Some new) result port_is some k none at cause p met =
        undialled (Some new) result (λ answered. down_joins r i o w net conn node next requested old book road stands can h.is_new held book' ended mid later (Some new) some k none at p answered
        (unasked_there taken conn.0 requested.op answered (never_goes _ requested.op (port_is some)))) met
    down_end (Some n) None result port_is some k none at cause p met = absurd (not_over ended k.ends.receipt (waits_open false some k) p)
    down_end (Some n) (Some new) result port_is some k none at cause p met =
        let m : IsMirror requested.op.targets = mirror_is some in
        let joins : (answered : Bool) → (answered && w.running m.number) ≡ false → MemberJoins r i o taken net (happens w (event.Down conn answered)) conn.0 requested.op None book' later (Some new) = λ answered fails.
        down_joins r i o w net conn node next requested old book road stands can h.is_new held book' ended mid later (Some new) some k none at p answered
        (fails_unasked taken conn.0 requested.op m answered (subst (λ (b : Bool). (answered && b) ≡ false) (sym (same_running m.number)) fails)) in
        let failed = joins false refl in
        let alone : new.mirror ≡ None = mirror_none i o (happens w (event.Down conn false)) failed.made failed.left_is.full.mirror new.mirror failed.left_is.mirror_is failed.left_is.shows.mirror in
        let here : MeetsNobody (Some new) dial.Unanswered later road' result = subst (λ (y : Option (Conn I O)). MeetsMirror r i o n new y later road' result) alone met in
        let ex = is_exchanged ended k.ends.receipt new (waits_open false some k) p in
        nobody_met (Some new) dial.Unanswered result
        (subst (λ (y : R). JoinsBy r i o w net conn next requested.op book' road y (Some new) dial.Unanswered) (sym here.same) (record {
          number = m.number;
          node_is = m.node_is;
          cause = later_cause (cause (subst (λ (q : ℕ). q ≤ MAX_PORT) port_is.1.0 port_is.1.1)) (exchange_never r i o None held new mid later ex);
          joins = joins;
        })) here.is
      where
        later_cause : CantAsk (mirror_is some).number mid → r.faults mid ≤ r.faults later → CantAsk (mirror_is some).number later
        later_cause (inl x) le = inl x
        later_cause (inr x) le = inr (still_risen (r.faults road) (r.faults mid) (r.faults later) x le)

    -- THE MIRROR

    unset_at : IsUnset taken conn.0 requested.op old
    unset_at = unset r i o w net conn node next requested old book road stands can h.is_new

    some_old : requested.op.targets ≢ [] → old.op.targets ≢ []
    some_old some z = some (sym (ap (λ (x : WriteFields). x.targets) h.is_new.op_is) ∙ z)

    node_at : old.node ≡ record { 0 = node_of taken conn.0 }
    node_at = same_node old.node (record { 0 = node_of taken conn.0 }) unset_at.node

    request_at_node : mirror_request (ref_of old.node) old.op ≡ mirror_request (ref_of (record { 0 = node_of taken conn.0 })) requested.op
    request_at_node = λ j. mirror_request (ref_of (node_at j)) (h.is_new.op_is j)

    runs_if : (m : IsMirror requested.op.targets) (b : Bool) → IfSome (r.plain road) (λ p. p.listening (first_port old.op.targets) ≡ b) → runs_there taken (mirror_node requested.op.targets) ≡ b
    runs_if m b heard =
        let shows = stands.roads_are.shows in
        let here : shows.plain.listening (first_port old.op.targets) ≡ b = subst (λ (y : Option Plain). IfSome y (λ p. p.listening (first_port old.op.targets) ≡ b)) shows.is heard in
        let port_at : first_port old.op.targets ≡ FIRST_PORT + m.number = ap (λ (x : WriteFields). first_port x.targets) h.is_new.op_is ∙ m.port_is in
        runs_as taken requested.op.targets m b
        (sym (stands.roads_are.is_net.listens m.number) ∙ (sym (ap net.listens port_at) ∙ (sym (shows.holds.listening (first_port old.op.targets)) ∙ here)))

    -- the last message that was sent down on the connection to the mirror
    last_down : (m : Message) (d : SentDown (happens w (event.Down conn true)) taken.next_conn m) → slice_get ((happens w (event.Down conn true)).downs w.next_conn) (length d.earlier) ≡ Some m
    last_down m d =
        ap (λ (ms : List Message). slice_get ms (length d.earlier)) (subst (λ (n : ℕ). (happens w (event.Down conn true)).downs n ≡ d.earlier ++ m ∷ []) (request_same w conn.0 requested.op).next d.downs)
        ∙ last_of d.earlier m

    -- the event in which the mirror is asked
    asked_out : (k_after : FullReplica) (on : WriteFields) → ((a : Bool) → request_step old.upstream.id old.op a (replica_of book) ≡ taken_request k_after (set_up old.upstream.id old.op a)) → requested.op.targets ≢ [] → mirror_request (ref_of old.node) old.op ≡ Some on → runs_there taken (mirror_node requested.op.targets) ≡ true
        → outcome w (event.Down conn true) ≡ Some (apply taken (setup_change taken conn.0 requested.op (asked_setup k_after conn requested.op) (break_at taken conn.0 requested.op)))
    asked_out k_after on steps some is runs =
        setup_out w conn true true requested.op (asked_setup k_after conn requested.op) stands.comes stands.lower (asked_there taken conn.0 requested.op on (sym request_at_node ∙ is) runs)
        (sym (step_at r i o w net conn node next requested old book road stands can h.is_new true) ∙ (steps true ∙ (taken_at r i o w net conn node next requested old book road stands can h.is_new true k_after ∙ ap (λ (u : MemberState × Effect). taken_request k_after u) (asked_is_set conn requested.op some))))

    dials_at : (k_after : FullReplica) (on : WriteFields) (m : IsMirror requested.op.targets) → mirror_request (ref_of old.node) old.op ≡ Some on → member_dials (asked_setup k_after conn requested.op).member taken conn.0 requested.op ≡ asked_dial taken conn.0 on m.number ∷ []
    dials_at k_after on m is = dial_is taken conn.0 requested.op on m (sym request_at_node ∙ is)

    few_on : HasTaken o false old held book book' ended → requested.op.targets ≢ [] → runs_there taken (mirror_node requested.op.targets) ≡ true → (on : WriteFields) → mirror_request (ref_of old.node) old.op ≡ Some on → length (op_message (op.Write on)) ≤ limit
    few_on k some runs on is =
        let m = mirror_is some in
        let d = sent_down w taken (setup_change taken conn.0 requested.op (asked_setup k.after conn requested.op) (break_at taken conn.0 requested.op)) (asked_dial taken conn.0 on m.number) (event.Down conn true) (dials_at k.after on m is) (asked_out k.after on k.step_is some is runs) in
        spelled_few on (can.goes_on (length d.earlier) (request (op.Write on)) (last_down (request (op.Write on)) d))

    stopped : (some : requested.op.targets ≢ []) → runs_there taken (mirror_node requested.op.targets) ≡ false → w.running (mirror_is some).number ≡ false
    stopped some is = sym (same_running (mirror_is some).number) ∙ (sym (ap (runs_there taken) (mirror_is some).node_is) ∙ is)

    -- a request that couldn't be written isn't for a node that runs
    unwritten_by_runs : (b : Bool) → HasTaken o false old held book book' ended → (some : requested.op.targets ≢ []) → first_port requested.op.targets ≤ MAX_PORT → request_text old.node old.op ≡ None → runs_there taken (mirror_node requested.op.targets) ≡ b → w.running (mirror_is some).number ≡ false
    unwritten_by_runs false k some fits none is = stopped some is
    unwritten_by_runs true k some fits none is = absurd (always_goes (ref_of (record { 0 = node_of taken conn.0 })) requested.op some fits (sym request_at_node ∙ unwritten old.node old.op (few_on k some is) none))

    unasked_if : HasTaken o false old held book book' ended → (some : requested.op.targets ≢ []) → IsUnwritten old.node old.op road mid ⊎ IsUnanswered r (first_port old.op.targets) road mid → first_port requested.op.targets ≤ MAX_PORT → CantAsk (mirror_is some).number mid
    unasked_if k some (inl x) fits = inl (unwritten_by_runs (runs_there taken (mirror_node requested.op.targets)) k some fits x.unwritten refl)
    unasked_if k some (inr x) fits = cause_of x.cause
      where
        cause_of : IfSome (r.plain road) (λ p. p.listening (first_port old.op.targets) ≡ false) ⊎ FaultsIncreased (r.faults road) (r.faults mid) → CantAsk (mirror_is some).number mid
        cause_of (inl heard) = inl (stopped some (runs_if (mirror_is some) false heard))
        cause_of (inr rose) = inr rose

    same_roads : mid ≡ road → RoadsAt r net mid
    same_roads is = subst (λ (y : R). RoadsAt r net y) (sym is) first_at

    kept_roads : KeepsRoads r road mid → RoadsAt r net mid
    kept_roads k = record { sane = first_at.sane; shows = roads-same r i o net road mid first_at.shows k.plain k.carried }

    down_roads : IsUnwritten old.node old.op road mid ⊎ IsUnanswered r (first_port old.op.targets) road mid → RoadsAt r net mid
    down_roads (inl x) = same_roads x.same
    down_roads (inr x) = kept_roads x.kept

    -- the connection to a mirror that was lost isn't one of an event that was done
    next_is_new : (port : ℕ) (middle : R) (fresh : Conn I O) → IsDialled r i o port road middle fresh → fresh.id.0 ≡ next.0
    next_is_new n middle fresh d =
        (dialled-shows r i o n road middle fresh d net first_at.sane first_at.shows).number ∙ (stands.roads_are.is_net.conns ∙ ((request_same w conn.0 requested.op).next ∙ sym stands.next_is))

    lost_end : (n : ℕ) → IsLost r i o n road mid → ⊥
    lost_end n x = true_not (sym (lost_risen r i o n road mid x) ∙ (ap (r.risen mid) (next_is_new n x.middle x.unsent.fresh x.unsent.dialled) ∙ h.not_risen))

    -- a mirror that was asked: the roads, the ends and the texts
    mirror_done : (n : ℕ) (end : Conn I O) (new : Member I O) (x : IsAskedBy r i o old.node old.op road mid end) (g : GoesTo old.node old.op x.text) (k : HasTaken o true old held book book' ended) (some : requested.op.targets ≢ []) → n ≡ first_port old.op.targets → held.mirror ≡ Some end → ExchangesBoth r i o None held new mid later (Ok tt)
        → MirrorDone r i o w taken net (event.Down conn true) conn.0 conn requested.op g.on (mirror_is some).number n k.after (break_at taken conn.0 requested.op) old held new x.asked.fresh end book' ended road mid later
    mirror_done n end new x g k some port_at holds ex =
        let runs = runs_if (mirror_is some) true x.asked.listening in
        record {
          before = before r i o w net conn node next requested old book road stands can h.is_new;
          out = asked_out k.after g.on k.step_is some g.is runs;
          node_is = (mirror_is some).node_is;
          runs = sym (ap (runs_there taken) (mirror_is some).node_is) ∙ runs;
          dials = dials_at k.after g.on (mirror_is some) g.is;
          is_net = stands.roads_are.is_net;
          roads_at = first_at;
          end_is = end_at r i o w net conn node next requested old book road stands can h.is_new;
          unset = unset_at;
          ends = subst (λ (u : MemberState × Effect). SetUpAs o (taken_request k.after u) old held book' ended) (asked_is_set conn requested.op some)
              (taken_ends r i o w net conn node next requested old book road stands can h.is_new true held book' ended k);
          dialled = subst (λ (m : ℕ). IsDialled r i o m road mid x.asked.fresh) (sym port_at) x.asked.dialled;
          kept = x.asked.kept;
          sent = subst (λ (t : List ℕ). SendsPiece o t x.asked.fresh.outward end.outward) g.text_is x.asked.sent;
          holds = holds;
          exchanged = ex;
        }

    accepted_end : (n : ℕ) (end : Conn I O) (new : Member I O) (result : Result (Joined I O) MemberFault) (x : IsAskedBy r i o old.node old.op road mid end) → HasTaken o true old held book book' ended → requested.op.targets ≢ [] → n ≡ first_port old.op.targets → held.mirror ≡ Some end → ExchangesBoth r i o None held new mid later (Ok tt)
        → r.faults road ≤ r.faults later → Accepts r i o n new later road' result → result_is result
    accepted_end n end new (Ok joined) x k some port_at holds ex le a =
        let g = goes_to old.node old.op x.text x.is in
        let d = mirror_done n end new x g k some port_at holds ex in
        let m = mirror_joins r i o w taken net (event.Down conn true) conn.0 conn requested.op g.on (mirror_is some).number n k.after (break_at taken conn.0 requested.op) old held new x.asked.fresh end book' ended road mid later d a.at_end road' a.accepts in
        subst (λ (y : Joined I O). result_is (Ok y)) (sym a.is)
        (subst (λ (c : ℕ). MirrorJoins r i o taken net (happens w (event.Down conn true)) conn.0 c requested.op book' road' (Some new) a.at_end) ((request_same w conn.0 requested.op).next ∙ sym stands.next_is) m)
    accepted_end n end new (Err fault.RoadsFailed) x k some port_at holds ex le (inl none) =
        let g = goes_to old.node old.op x.text x.is in
        absurd (mirror_waits r i o w taken net (event.Down conn true) conn.0 conn requested.op g.on (mirror_is some).number n k.after (break_at taken conn.0 requested.op) old held new x.asked.fresh end book' ended road mid later (mirror_done n end new x g k some port_at holds ex) none)
    accepted_end n end new (Err fault.RoadsFailed) x k some port_at holds ex le (inr rose) = rises_from (r.faults road) (r.faults later) (r.faults road') le rose
    accepted_end n end new (Err fault.Memory) x k some port_at holds ex le a = tt
    accepted_end n end new (Err fault.LinkFailed) x k some port_at holds ex le a = absurd a
    accepted_end n end new (Err fault.FilesFailed) x k some port_at holds ex le a = absurd a

    met_mirror : (n : ℕ) (end : Conn I O) (new : Member I O) (e : Option (Conn I O)) (result : Result (Joined I O) MemberFault) → SameMirror (Some end) e → MeetsMirror r i o n new e later road' result → Accepts r i o n new later road' result
    met_mirror n end new None result same met = absurd same
    met_mirror n end new (Some y) result same met = met

    asked_fits : (end : Conn I O) → IsAskedBy r i o old.node old.op road mid end → first_port requested.op.targets ≤ MAX_PORT
    asked_fits end x = subst (λ (y : WriteFields). first_port y.targets ≤ MAX_PORT) h.is_new.op_is (port_is_one old.node old.op x.text x.is)

    never_both : (n m : ℕ) → n ≤ m → m < n → ⊥
    never_both n m le lt = absurd (omega (arith, le, lt))

    asked_end : (q : Option ℕ) (left : Option (Member I O)) (end : Conn I O) (result : Result (Joined I O) MemberFault) (x : IsAskedBy r i o old.node old.op road mid end) → IsMirrorPort requested.op.targets q → requested.op.targets ≢ [] → HasTaken o true old held book book' ended → held.mirror ≡ Some end → r.faults road ≤ r.faults mid
        → IsPlaced r i o ended held mid later (Ok left) → Meets r i o q left later road' result → result_is result
    asked_end None left end result x port_is some k holds le p met = absurd (never_both (first_port requested.op.targets) MAX_PORT (asked_fits end x) (port_is some))
    asked_end (Some n) None end result x port_is some k holds le p met = absurd (not_over ended k.ends.receipt (waits_open true some k) p)
    asked_end (Some n) (Some new) end result x port_is some k holds le p met =
        let ex = is_exchanged ended k.ends.receipt new (waits_open true some k) p in
        let targets : old.op.targets ≡ requested.op.targets = ap (λ (y : WriteFields). y.targets) h.is_new.op_is in
        let ends : SameMirror (Some end) new.mirror = subst (λ (y : Option (Conn I O)). SameMirror y new.mirror) holds (exchanged_same r i o None held new mid later ex).lower in
        accepted_end n end new result x k some (port_is.1.0 ∙ sym (ap first_port targets)) holds ex (less_through (r.faults road) (r.faults mid) (r.faults later) le (exchange_never r i o None held new mid later ex)) (met_mirror n end new new.mirror result ends met)

    -- EACH SETUP

    abbrev EndsWell : Option (Member I O) → Result (Joined I O) MemberFault → Type 0
    EndsWell left result = IsPlaced r i o ended held mid later (Ok left) → Meets r i o port left later road' result → result_is result

    on_requested : old.op.targets ≡ [] → requested.op.targets ≡ []
    on_requested z = sym (ap (λ (x : WriteFields). x.targets) h.is_new.op_is) ∙ z

    some_requested : old.op.targets ≢ [] → requested.op.targets ≢ []
    some_requested some z = some (ap (λ (x : WriteFields). x.targets) h.is_new.op_is ∙ z)

    setup_end : (e : Event) (x : SetsUpWith f r i o e old held book book' road mid ended) (z : Setup I O) (left : Option (Member I O)) (result : Result (Joined I O) MemberFault) → IsNewRequest (Ok e) old book ended → IsGood ended → r.faults road ≤ r.faults mid → x.ended ≡ z → EndsAs f book book' e (booked_in z)
        → GoesOn r i o old.node old.op road mid z → FollowsSetup o (opened old.upstream.id old.op (transition book.replica e)) z (with_outward old x.half) held ended → EndsWell left result
    setup_end e x (setup.Last receipt) left result asked good le is b g y p met =
        last_end port left result h.port_is (on_requested g.0) (last_is f r i o e old held book book' road mid ended asked good x receipt is b y)
        (none_same old.mirror held.mirror no_mirror (setup_ids o (opened old.upstream.id old.op (transition book.replica e)) (setup.Last receipt) (with_outward old x.half) held ended y).lower) (same_roads g.1) p met
    setup_end e x (setup.Mirrored receipt end) left result asked good le is b g y p met =
        asked_end port left end result g.1 h.port_is (some_requested g.0) (waits_is f r i o e old held book book' road mid ended asked good x true receipt _ (Some end) (ap was_answered is) b g.0 y)
        (shut_mirror o end held.mirror y.lower) le p met
    setup_end e x (setup.MirrorDown receipt true) left result asked good le is b g y p met = absurd (lost_end _ g.1)
    setup_end e x (setup.MirrorDown receipt false) left result asked good le is b g y p met =
        let k = waits_is f r i o e old held book book' road mid ended asked good x false receipt _ old.mirror (ap was_answered is) b g.0 y in
        down_end port left result h.port_is (some_requested g.0) k (none_same old.mirror held.mirror no_mirror (setup_ids o (opened old.upstream.id old.op (transition book.replica e)) (setup.MirrorDown receipt false) (with_outward old x.half) held ended y).lower) (down_roads g.1) (unasked_if k (some_requested g.0) g.1) p met
    setup_end e x (setup.Refused (refusal.Core why receipt)) left result asked good le is b g y p met =
        refused_end port left result (core_is f r i o e old held book book' road mid ended asked good x why receipt is b y)
        (none_same old.mirror held.mirror no_mirror (setup_ids o (opened old.upstream.id old.op (transition book.replica e)) (setup.Refused (refusal.Core why receipt)) (with_outward old x.half) held ended y).lower) (same_roads g) p met
    setup_end e x (setup.Refused (refusal.Stage n)) left result asked good le is b g y p met = absurd y
    setup_end e x (setup.Refused refusal.Pool) left result asked good le is b g y p met = absurd y
    setup_end e x (setup.Refused (refusal.Checksum n c)) left result asked good le is b g y p met = absurd y
    setup_end e x (setup.Refused (refusal.TooMany n)) left result asked good le is b g y p met = absurd y
    setup_end e x (setup.File receipt) left result asked good le is b g y p met = absurd (subst IsGood y.is good)
    setup_end e x (setup.Memory None) left result asked good le is b g y p met = absurd (subst IsGood y.1 good)
    setup_end e x (setup.Memory (Some receipt)) left result asked good le is b g y p met = absurd (subst IsGood y.1 good)

    new_request : (event : Result Event RequestRefusal) → request_event old.upstream.id old.op (rule_in book.replica) ≡ event → IsGood ended → IsNewRequest event old book ended
    new_request event is good = record { mirror = no_mirror; of_history = h.of_history; found_memory = λ z. subst IsGood z good; event_is = is }

    begun_end : (event : Result Event RequestRefusal) (left : Option (Member I O)) (result : Result (Joined I O) MemberFault) → request_event old.upstream.id old.op (rule_in book.replica) ≡ event → Begins f r i o event old held book book' road mid ended → EndsWell left result
    begun_end (Ok e) left result is x p met =
        let good = placed_good r i o ended held mid later left p in
        setup_end e x x.ended left result (new_request (Ok e) is good) good (setup_passes f r i o (Ok e) old held book book' road mid ended no_mirror x).roads_pass.never_falls refl x.sets_up.booked x.sets_up.goes_on x.follows p met
    begun_end (Err why) left result is x p met =
        let good = placed_good r i o ended held mid later left p in
        let refused = refused_before f r i o why old held book ended (new_request (Err why) is good) x.1.1 good in
        refused_end port left result (subst (λ (b : BookState F). HasRefused o old held book b ended) (sym x.1.0) refused)
        (none_same old.mirror held.mirror no_mirror (refused_ids o _ x.1.1.done (with_outward old x.1.1.half) held ended x.1.1.ends).lower) (same_roads x.0) p met

  -- A member that was set up and placed, and what is met of its mirror.
  pub join_met : IsJoining → (left : Option (Member I O)) (result : Result (Joined I O) MemberFault) → IsPlaced r i o ended held mid later (Ok left) → Meets r i o port left later road' result → JoinShows f r i o node next requested book book' road road' result
  join_met h left result p met = λ w net conn stands can. begun_end h w net conn stands can (request_event old.upstream.id old.op (rule_in book.replica)) left result refl h.set_up p met

-- HOW IT FAILS

module _ {F R I O : Type 0} (f : files.Ghosts F) (r : roads.Ghosts R I O) (i : link_in.Ghosts I) (o : link_out.Ghosts O) (node : NodeId) (next : ConnId) (requested : Requested I O) where
  pub join_memory : (book : BookState F) (road : R) (result : Result (Joined I O) MemberFault) → result ≡ Err fault.Memory → JoinShows f r i o node next requested book book road road result
  join_memory book road result is = subst (λ (y : Result (Joined I O) MemberFault). JoinShows f r i o node next requested book book road road y) (sym is) (λ w net conn stands can. tt)

  pub join_lost : (held : Member I O) (book book' : BookState F) (road mid road' : R) (why : MemberFault) → r.risen mid next.0 ≡ true → steps.IsLost r i o held mid road' why → JoinShows f r i o node next requested book book' road road' (Err why)
  join_lost held book book' road mid road' why risen lost = λ w net conn stands can.
      lost_caused f r i o conn.0 (Some next.0) book book' road mid road' held why (λ b. inr (both_keep r i o next.0 held mid road' risen b)) lost

  pub join_unplaced : (old held : Member I O) (book book' : BookState F) (ended : Stepped) (road mid road' : R) (why : MemberFault) → IsNew node requested.end requested.op old → SetsUp f r i o stage.New old held book book' road mid ended → IsPlaced r i o ended held mid road' (Err why) → JoinShows f r i o node next requested book book' road road' (Err why)
  join_unplaced old held book book' ended road mid road' why is_new set_up p = λ w net conn stands can.
      let event : Result Event RequestRefusal = request_event old.upstream.id old.op (rule_in book.replica) in
      let k = setup_passes f r i o event old held book book' road mid ended is_new.mirror set_up in
      placed_caused f r i o conn.0 (Some next.0) book book' road mid road' held ended why k.roads_pass.never_falls
      (ap (λ (y : ConnId). y.0) k.upper ∙ (ap (λ (y : Conn I O). y.id.0) is_new.upstream ∙ stands.end_is.id))
      (λ receipt is. join_link f r i o event old held book book' road mid ended receipt is set_up)
      (λ receipt is. join_file f r i o event old held book book' road mid ended receipt is set_up) p

  -- the setup of a member that is new
  pub at_new : (old held : Member I O) (book book' : BookState F) (ended : Stepped) (road mid : R) → IsNew node requested.end requested.op old → SetsUp f r i o old.stage old held book book' road mid ended → SetsUp f r i o stage.New old held book book' road mid ended
  at_new old held book book' ended road mid is_new x = subst (λ (st : Stage). SetsUp f r i o st old held book book' road mid ended) is_new.stage x

  -- Roads that know the end know both ends of the member.
  pub join_known : (old held : Member I O) (book book' : BookState F) (ended : Stepped) (road mid : R) → IsNew node requested.end requested.op old → SetsUp f r i o old.stage old held book book' road mid ended → IsKnown (r.plain road) requested.end.id.0 → AreKnown (r.plain mid) held
  join_known old held book book' ended road mid is_new x known =
      (setup_passes f r i o (request_event old.upstream.id old.op (rule_in book.replica)) old held book book' road mid ended is_new.mirror (at_new old held book book' ended road mid is_new x)).known
      (subst (λ (y : Conn I O). IsKnown (r.plain road) y.id.0) (sym is_new.upstream) known)

  -- The roads pass the setup of a member.
  pub join_passes : (old held : Member I O) (book book' : BookState F) (ended : Stepped) (road mid : R) → IsNew node requested.end requested.op old → SetsUp f r i o old.stage old held book book' road mid ended → RoadsPass r road mid
  join_passes old held book book' ended road mid is_new x =
      (setup_passes f r i o (request_event old.upstream.id old.op (rule_in book.replica)) old held book book' road mid ended is_new.mirror (at_new old held book book' ended road mid is_new x)).roads_pass

  pub join_failed : (old held : Member I O) (book book' : BookState F) (ended : Stepped) (road mid road' : R) (result : Result (Joined I O) MemberFault) (why : MemberFault) → result ≡ Err why → IsNew node requested.end requested.op old → SetsUp f r i o old.stage old held book book' road mid ended → IsPlaced r i o ended held mid road' (Err why)
      → JoinShows f r i o node next requested book book' road road' result
  join_failed old held book book' ended road mid road' result why is is_new x p =
      subst (λ (y : Result (Joined I O) MemberFault). JoinShows f r i o node next requested book book' road road' y) (sym is)
      (join_unplaced old held book book' ended road mid road' why is_new (at_new old held book book' ended road mid is_new x) p)
