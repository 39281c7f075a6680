-- How a connection's first message ends: the end came, a request was set up, or a fault has its cause.
use Rattle.std.proofs.Common.{◌≡◌, ◌≢◌, [], ◌⊎◌, inl, inr, ◌∷◌, ◌<◌, ◌≤◌, ℕ, Bool, true, false, List, length, slice_get, Option, Some, None, IsSome, Result, Ok, Err, refl, sym, ap, ◌∙◌, subst, arith, length-set, eqb-true}
use Rattle.std.specs.Prelude.{◌==◌, ◌&&◌}
use Rattle.std.specs.List.{position_or_len}
use Rattle.std.proofs.lemmas.Bool.Decides.{nat_tests}
use Rattle.hd_base.specs.Faults.{FaultsIncreased}
use Rattle.hd_base.specs.declared.ends.Conn.{Conn}
use Rattle.hd_base.specs.declared.files.Files as files
use Rattle.hd_base.specs.declared.links.LinkIn as link_in
use Rattle.hd_base.specs.declared.links.LinkOut as link_out
use Rattle.hd_base.specs.declared.numbers.BlockId.{BlockId}
use Rattle.hd_base.specs.declared.numbers.ConnId.{ConnId}
use Rattle.hd_base.specs.declared.numbers.NodeId.{NodeId}
use Rattle.hd_base.specs.declared.roads.Roads as roads
use Rattle.hd_base.specs.declared.roads.TheConstants.{FIRST_PORT}
use Rattle.op_headers.specs.declared.nodes.NodeRef.{NodeRef}
use Rattle.op_headers.specs.declared.ops.Op.TheVariants as op
use Rattle.op_headers.specs.Values.{WriteFields}
use Rattle.member_events.specs.MemberCore.Steps.{request_step}
use Rattle.member_events.specs.ReplicaFiles.BookState.{BookState}
use Rattle.member_events.specs.PipeMember.Member.{Member}
use Rattle.member_events.specs.PipeSetup.Requests.{first_port}
use Rattle.road_traffic.specs.Showing.{Net}
use Rattle.play_model.specs.World.Event.TheVariants as event
use Rattle.play_model.specs.World.Parts.{request, idle}
use Rattle.play_model.specs.World.Worlds.{World, apply}
use Rattle.play_model.specs.World.Connections.{Next, down_taken}
use Rattle.play_model.specs.World.Nodes.{node_of, block_of, replica_at, setup_change, is_asked}
use Rattle.play_model.specs.World.Events.{outcome, happens}
use Rattle.play_model.specs.WorldLaws.Placing.{Placed}
use Rattle.world_orders.proofs.AllOrdered.{next-found}
use Rattle.world_requests.specs.Requests.{IsAsked, IsAmong}
use Rattle.member_events.specs.WorldNets.Drawn.{ComesDown, break_at}
use Rattle.member_events.specs.WorldNets.Nets.{IsEndOf, is_over}
use Rattle.member_events.proofs.WorldNets.StepLemmas.{followed, changed-over, taken-over}
use Rattle.play_model.specs.declared.dues.Due.TheVariants as due
use Rattle.play_model.specs.Dues.{Queues, is_due}
use Rattle.member_events.specs.declared.beginning.Requested.{Requested}
use Rattle.member_events.specs.declared.faults.MemberFault.{MemberFault}
use Rattle.member_events.specs.declared.faults.MemberFault.TheVariants as member_fault
use Rattle.member_events.specs.declared.joining.Joined.{Joined}
use Rattle.member_events.specs.declared.joining.MirrorDial.{MirrorDial}
use Rattle.member_events.specs.declared.joining.MirrorDial.TheVariants as dial
use Rattle.member_events.specs.Beginning as member_begin
use Rattle.member_events.specs.Beginning.{IdleStands, CanBegin, HasRequest, IsEndFault}
use Rattle.member_events.specs.Joining.{write_next, JoinStands, CanJoin, MemberJoins, JoinsBy, JoinEnds}
use Rattle.member_events.specs.Showing.{OthersStay}
use Rattle.member_events.proofs.FaultEvents.{rises_from}
use Rattle.member_events.proofs.JoinWorld.{setup_out, request_same}
use Rattle.play_nodes.specs.declared.connections.Connection.{Connection}
use Rattle.play_nodes.specs.declared.connections.Lower.TheVariants as lower
use Rattle.play_nodes.specs.declared.faults.NodesFault.{NodesFault}
use Rattle.play_nodes.specs.declared.faults.NodesFault.TheVariants as fault
use Rattle.play_nodes.specs.declared.nodes.NodeBooks.{NodeBooks}
use Rattle.play_nodes.specs.declared.nodes.Nodes.{Nodes}
use Rattle.play_nodes.specs.declared.nodes.Seat.{Seat}
use Rattle.play_nodes.specs.Faults.{fault_at}
use Rattle.play_nodes.specs.Places.{book_at, with_lower, TakesIdle, idle_of, PutBack, BookSet, AddsDial, FollowsJoin, place_of, IsMirrorNode, IsJoined, HasNoBook}
use Rattle.play_nodes.specs.Showing.{IsOfPipeline, NodesStand}
use Rattle.play_nodes.specs.Events.{IsLawful, IsCaused}
use Rattle.play_nodes.specs.Beginning.{RequestsFit, BeginsUnanswered, BeginEnds, BeginShows}
use Rattle.play_nodes.proofs.PlaceLaws.{same_some}
use Rattle.play_nodes.proofs.WorldFrames.{KeepsRest, rest_taken}
use Rattle.play_nodes.proofs.ReadyNodes.{caused, served_within}
use Rattle.play_nodes.proofs.TakeNodes.{TakesAt, takes_at}
use Rattle.play_nodes.proofs.BeginNodes.{IdleAt, idle_at, begins, ended_left}
use Rattle.play_nodes.proofs.JoinNodes.{Passes, passes_at, place_there, setup_rest, mirror_number, IsSetUp, alone_left, mirrored_left}

-- THE WORLD AFTER A REQUEST

-- What the event leaves as it is where a request was taken.
record SetupFrame (w : World) (conn : ConnId) (answered : Bool) (fields : WriteFields) : Type 0 where
  rest : KeepsRest w (happens w (event.Down conn answered)) conn.0 (node_of w conn.0) (block_of fields)
  over : (d : ℕ) → is_over (happens w (event.Down conn answered)) d false ≡ is_over w d false

setup_frame : (w : World) (conn : ConnId) (answered : Bool) (fields : WriteFields) → ComesDown w conn.0 (write_next fields) → w.lowers conn.0 ≡ idle → SetupFrame w conn answered fields
setup_frame w conn answered fields comes is =
    let c : ℕ = conn.0 in
    let x : Next = write_next fields in
    let w1 : World = down_taken w c x in
    let e = event.Down conn answered in
    let s = request_step conn fields (is_asked w1 c fields answered) (replica_at w1 c (block_of fields)) in
    let k = setup_change w1 c fields s (break_at w1 c fields) in
    let out : outcome w e ≡ Some (apply w1 k) = setup_out w conn answered (is_asked w1 c fields answered) fields s comes is refl refl in
    record {
      rest = rest_taken w c true x (happens w e) c (block_of fields) (setup_rest w w1 c fields s (break_at w1 c fields) e out);
      over = λ d. (followed w (apply w1 k) e out).over d false ∙ (changed-over w1 k d false ∙ taken-over w d false c true x (λ same. refl));
    }

taken_lowers : (w : World) (c : ℕ) (x : Next) (d : ℕ) → (down_taken w c x).lowers d ≡ w.lowers d
unfolding down_taken
taken_lowers w c x d = refl

-- the port of the first target is a node's where that of each is
mirror_port : (targets : List NodeRef) → ((k : ℕ) (t : NodeRef) → slice_get targets k ≡ Some t → FIRST_PORT ≤ t.xfer) → targets ≢ [] → FIRST_PORT ≤ first_port targets
mirror_port [] ports some = absurd (some refl)
mirror_port (t ∷ rest) ports some = ports 0 t refl

not_none : {A : Type 0} (x : Option A) → IsSome x → x ≡ None → ⊥
not_none None h e = cc
not_none (Some a) h e = cc

same_test : (a b : ℕ) → a ≡ b → (a == b) ≡ true
same_test a b e = grind (arith, nat_tests, e)

module _ {R I O : Type 0} (r : roads.Ghosts R I O) (i : link_in.Ghosts I) (o : link_out.Ghosts O) where
  pub shows_as : (end : Conn I O) (made other : Option (Requested I O)) (road road' : R) → made ≡ other → member_begin.BeginShows r i o end road road' (Ok made) → member_begin.BeginShows r i o end road road' (Ok other)
  shows_as end made other road road' is h = subst (λ (x : Option (Requested I O)). member_begin.BeginShows r i o end road road' (Ok x)) is h

module _ {F R I O : Type 0} (f : files.Ghosts F) (r : roads.Ghosts R I O) (i : link_in.Ghosts I) (o : link_out.Ghosts O) where
  -- FAULTS

  end_caused : (old new : Nodes F I O) (node : NodeId) (c : ℕ) (road road' : R) (why : MemberFault) → IsEndFault r c road road' why → IsCaused f r old new road road' (fault_at node why)
  end_caused old new node c road road' member_fault.LinkFailed h = (c, h)
  end_caused old new node c road road' member_fault.RoadsFailed h = h
  end_caused old new node c road road' member_fault.Memory h = tt
  end_caused old new node c road road' member_fault.FilesFailed h = absurd h

  -- a cause after a moment is one after an earlier moment
  caused_from : (old new : Nodes F I O) (first road road' : R) (why : NodesFault) → r.faults first ≤ r.faults road → IsCaused f r old new road road' why → IsCaused f r old new first road' why
  caused_from old new first road road' fault.LinkFailed le h = h
  caused_from old new first road road' fault.RoadsFailed le h = rises_from (r.faults first) (r.faults road) (r.faults road') le h
  caused_from old new first road road' (fault.FilesFailed node) le h = h
  caused_from old new first road road' fault.Memory le h = h

  rose_from : (P : Type 0) (first road road' : R) → r.faults first ≤ r.faults road → P ⊎ FaultsIncreased (r.faults road) (r.faults road') → P ⊎ FaultsIncreased (r.faults first) (r.faults road')
  rose_from P first road road' le (inl h) = inl h
  rose_from P first road road' le (inr h) = inr (rises_from (r.faults first) (r.faults road) (r.faults road') le h)

  -- BEFORE THE EVENT

  -- An end that has taken nothing yet was taken from its place, and this comes next for it.
  record IsFirstAt (w : World) (net : Net) (c : ℕ) (old : Nodes F I O) (end : Conn I O) (road : R) : Type 0 where
    k : IdleAt r i o w net c old
    taking : TakesAt w c
    end_same : end ≡ k.end
    stands : IdleStands r i o w net c end road
    can : CanBegin w c taking.next

  same_end : (k : Connection I O) (end at_end : Conn I O) → k.lower ≡ lower.Idle at_end → Some end ≡ idle_of k.lower → end ≡ at_end
  same_end k end at_end is h = same_some end at_end (h ∙ ap idle_of is)

  first_at : (w : World) (net : Net) (queues : Queues) (conn : ConnId) (old mid : Nodes F I O) (end : Conn I O) (road : R) → NodesStand r i o w net road old → IsOfPipeline w conn.0 → ((answered : Bool) → IsLawful w (event.Down conn answered)) → is_due w queues (due.Down conn) ≡ true → w.lowers conn.0 ≡ idle
      → TakesIdle old mid conn.0 (Some end) → IsFirstAt w net conn.0 old end road
  first_at w net queues conn old mid end road stands of lawful due is t =
      let c : ℕ = conn.0 in
      let taking : TakesAt w c = takes_at w conn queues due in
      let k : IdleAt r i o w net c old = idle_at r i o w net road c old stands of taking.events is in
      let same : end ≡ k.end = same_end k.at end k.end k.lower (t.taken k.at k.found) in
      record {
        k = k;
        taking = taking;
        end_same = same;
        stands = record { roads_are = stands.roads_are; lower = is; end_is = subst (λ (e : Conn I O). IsEndOf i o w net c true e) (sym same) k.end_is };
        can = begins r i o w net c old taking.next (lawful true).ordered (lawful true).taken (lawful true).before k is taking.comes;
      }

  -- It isn't due where there is no such connection, or no such end.
  pub begin_outside : (old new : Nodes F I O) (conn : ConnId) (road road' : R) (result : Result (Option NodeId) NodesFault) → length old.connections.items ≤ conn.0 → BeginShows f r i o conn old new road road' result
  begin_outside old new conn road road' result far = λ w net queues stands of lawful fits due is.
      let taking : TakesAt w conn.0 = takes_at w conn queues due in
      let before : conn.0 < w.next_conn = served_within w conn.0 taking.comes.served in
      absurd (omega (arith, far, before, stands.nodes_are.count))

  pub begin_taken : (old mid new : Nodes F I O) (conn : ConnId) (road road' : R) (result : Result (Option NodeId) NodesFault) → TakesIdle old mid conn.0 None → BeginShows f r i o conn old new road road' result
  begin_taken old mid new conn road road' result t = λ w net queues stands of lawful fits due is.
      let k : IdleAt r i o w net conn.0 old = idle_at r i o w net road conn.0 old stands of (takes_at w conn queues due).events is in
      absurd (never k.end (t.taken k.at k.found ∙ ap idle_of k.lower))
    where
      never : (e : Conn I O) → None ≡ Some e → ⊥
      never e h = cc

  -- THE END CAME, OR A FAULT

  pub begin_ended : (old mid : Nodes F I O) (conn : ConnId) (end : Conn I O) (road road' : R) → TakesIdle old mid conn.0 (Some end) → member_begin.BeginShows r i o end road road' (Ok None) → BeginShows f r i o conn old mid road road' (Ok None)
  begin_ended old mid conn end road road' t shows = λ w net queues stands of lawful fits due is.
      let z : IsFirstAt w net conn.0 old end road = first_at w net queues conn old mid end road stands of lawful due is t in
      ended_left r i o w net road road' conn z.taking.next old mid (lawful true).ordered stands z.k is z.taking.comes (subst (λ (e : Conn I O). TakesIdle old mid conn.0 (Some e)) z.end_same t)
      (shows w net conn true z.taking.next z.stands z.can)

  pub begin_failed : (old mid : Nodes F I O) (conn : ConnId) (node : NodeId) (end : Conn I O) (road road' : R) (why : MemberFault) (result : Result (Option NodeId) NodesFault) → result ≡ Err (fault_at node why) → TakesIdle old mid conn.0 (Some end) → member_begin.BeginShows r i o end road road' (Err why) → BeginShows f r i o conn old mid road road' result
  begin_failed old mid conn node end road road' why result is_err t shows = λ w net queues stands of lawful fits due is.
      let z : IsFirstAt w net conn.0 old end road = first_at w net queues conn old mid end road stands of lawful due is t in
      subst (λ (y : Result (Option NodeId) NodesFault). BeginEnds f r i o w net conn old mid road road' y) (sym is_err)
      (end_caused old mid node conn.0 road road' why (shows w net conn true z.taking.next z.stands z.can))

  -- A REQUEST CAME

  module _ (w : World) (net n1 : Net) (conn : ConnId) (fields : WriteFields) (next : ConnId) (s : Seat) (of : NodeId) (book book' : BookState F) (old mid set new : Nodes F I O) (at : Connection I O) (end : Conn I O) (road first road' : R) (result : Result (Option NodeId) NodesFault) where
    abbrev taken : World
    taken = down_taken w conn.0 (write_next fields)

    -- What is known before the setup.
    record IsTaken : Type 0 where
      stands : NodesStand r i o w net road old
      lawful : (answered : Bool) → IsLawful w (event.Down conn answered)
      k : TakesAt w conn.0
      comes : ComesDown w conn.0 (write_next fields)
      idle_is : w.lowers conn.0 ≡ idle
      of_pipeline : IsOfPipeline w conn.0
      found : slice_get old.connections.items conn.0 ≡ Some at
      taken_is : TakesIdle old mid conn.0 (Some end)
      set_is : BookSet mid set s.node.0 s.place book'
      at_book : book_at mid.nodes.items s.node.0 s.place ≡ Some book
      conn_is : s.conn ≡ conn.0
      node_is : s.node.0 ≡ node_of w conn.0
      block : BlockId
      at_place : slice_get old.blocks.items s.place ≡ Some block
      of_block : block.0 ≡ block_of fields
      others : OthersStay i o w net taken n1 conn.0 None
      next_is : next.0 ≡ w.next_conn
      mirror_is : IsMirrorNode fields.targets of
      never_falls : r.faults road ≤ r.faults first

    module _ (h : IsTaken) where
      set_up : (answered : Bool) (mirror : Option ℕ) (left : Option (Member I O)) (middle : Nodes F I O) → PutBack set middle s left → MemberJoins r i o taken n1 (happens w (event.Down conn answered)) conn.0 fields mirror book' road' left
          → IsSetUp r i o w taken (happens w (event.Down conn answered)) net n1 conn.0 fields mirror s book' road' left old mid set middle at end
      set_up answered mirror left middle put joins =
          let frame : SetupFrame w conn answered fields = setup_frame w conn answered fields h.comes h.idle_is in
          record {
            ordered = (h.lawful true).ordered;
            nodes_are = h.stands.nodes_are;
            found = h.found;
            before = served_within w conn.0 h.comes.served;
            of_pipeline = h.of_pipeline;
            lower = h.idle_is;
            served = h.comes.served;
            taken = h.taken_is;
            is_set = h.set_is;
            put = put;
            conn = h.conn_is;
            node = h.node_is;
            block = h.block;
            at_place = h.at_place;
            of_block = h.of_block;
            rest = frame.rest;
            over = frame.over;
            first = h.others;
            conns = (request_same w conn.0 fields).next;
            joins = joins;
          }

      abbrev ends : Result (Option NodeId) NodesFault → Type 0
      ends x = BeginEnds f r i o w net conn old new road road' x

      -- the connection to the mirror was added, or memory ran out
      reached_ends : (left : Option (Member I O)) (reached : Conn I O) (middle : Nodes F I O) (x : Result (Option NodeId) NodesFault) → PutBack set middle s left → JoinsBy r i o w n1 conn next fields book' first road' left (dial.Reached reached) → AddsDial middle new s next of (dial.Reached reached) x → ends x
      unfolding set_up
      reached_ends left reached middle (Ok unanswered) put joins adds =
          subst (λ (n : Option NodeId). ends (Ok n)) (sym adds.0)
          (mirrored_left r i o w taken (happens w (event.Down conn true)) net n1 conn.0 fields (Some next.0) s book' road' left old mid set middle at end (set_up true (Some next.0) left middle put joins.joins)
          new next of reached (h.lawful true).placed adds.1 h.next_is refl h.mirror_is joins.end_is joins.dialled (joins.lower_same ∙ taken_lowers w conn.0 (write_next fields) next.0))
      reached_ends left reached middle (Err why) put joins adds = subst (λ (y : NodesFault). ends (Err y)) (sym adds) tt

      dial_ends : (left : Option (Member I O)) (d : MirrorDial I O) (middle : Nodes F I O) → PutBack set middle s left → JoinsBy r i o w n1 conn next fields book' first road' left d → AddsDial middle new s next of d result → ends result
      dial_ends left dial.NotDialled middle put joins adds =
          subst ends (sym adds.1)
          (alone_left r i o w taken (happens w (event.Down conn true)) net n1 conn.0 fields None s book' road' left old mid set middle at end (set_up true None left middle put (joins true)) new adds.0 refl)
      dial_ends left dial.Unanswered middle put joins adds =
          let same : of.0 ≡ joins.number = mirror_number fields.targets of joins.number h.mirror_is joins.node_is in
          let begins : BeginsUnanswered r i o w net conn of new road road' = record {
            unanswered = record {
              fields = fields;
              comes = h.comes;
              node_is = joins.node_is ∙ ap Some (sym same);
              cause = rose_from (w.running of.0 ≡ false) road first road' h.never_falls
                  (subst (λ (n : ℕ). (w.running n ≡ false) ⊎ FaultsIncreased (r.faults first) (r.faults road')) (sym same) joins.cause);
            };
            left = λ answered fails.
                alone_left r i o w taken (happens w (event.Down conn answered)) net n1 conn.0 fields None s book' road' left old mid set middle at end
                (set_up answered None left middle put (joins.joins answered (subst (λ (n : ℕ). (answered && w.running n) ≡ false) same fails))) new adds.0 refl;
          } in
          subst ends (sym adds.1) begins
      dial_ends left (dial.Reached reached) middle put joins adds = reached_ends left reached middle result put joins adds

      join_ends : (joined : Result (Joined I O) MemberFault) → JoinEnds f r i o w n1 conn next fields book book' first road' joined → FollowsJoin set new s next of joined result → ends result
      join_ends (Ok joined) joins follows = dial_ends joined.member joined.mirror follows.middle follows.put joins follows.adds
      join_ends (Err why) joins follows =
          subst ends (sym follows.1) (caused_from old new road first road' (fault_at s.node why) h.never_falls
          (caused f r i o old mid set new s conn.0 (Some next.0) book book' first road' why h.taken_is.nodes h.at_book h.set_is follows.0 joins))

  -- the request that came fits
  fits_at : (w : World) (c : ℕ) (old : Nodes F I O) (fields : WriteFields) → RequestsFit w old → ComesDown w c (write_next fields) → IsAsked (IsAmong old.blocks.items) fields
  fits_at w c old fields fits comes = fits c (w.down_marks c).taken fields (next-found (w.downs c) (w.down_marks c) (request (op.Write fields)) comes.next)

  -- the block of a request at the place where it is found
  block_found : (blocks : List BlockId) (fields : WriteFields) (place : ℕ) → place_of blocks fields ≡ Some place → (block : BlockId) × ((slice_get blocks place ≡ Some block) × (block.0 ≡ block_of fields))
  block_found blocks fields place is =
      let p : Passes (λ b. b.0 == fields.block.block.0) blocks place = passes_at (λ b. b.0 == fields.block.block.0) blocks place is in
      (p.at, (p.found, eqb-true p.at.0 fields.block.block.0 p.passes))

  book_needed : (w : World) (net : Net) (c : ℕ) (old mid : Nodes F I O) (at : Connection I O) (fields : WriteFields) (road : R) → NodesStand r i o w net road old → Placed w → c < w.next_conn → slice_get old.connections.items c ≡ Some at → mid.blocks.items ≡ old.blocks.items → mid.nodes.items ≡ old.nodes.items → IsAsked (IsAmong old.blocks.items) fields
      → ((place : ℕ) → place_of mid.blocks.items fields ≡ Some place → book_at mid.nodes.items at.node.0 place ≡ None) → ⊥
  book_needed w net c old mid at fields road stands placed before found blocks nodes fit none =
      let test : BlockId → Bool = λ b. b.0 == fields.block.block.0 in
      let place : ℕ = position_or_len test old.blocks.items in
      let is : place_of old.blocks.items fields ≡ Some place = place_there test old.blocks.items fit.block.place fit.block.block fit.block.at_place (same_test fit.block.block.0 fields.block.block.0 fit.block.is) in
      let b = block_found old.blocks.items fields place is in
      let node : at.node.0 ≡ node_of w c = (stands.nodes_are.each c at found).node in
      not_none (book_at old.nodes.items (node_of w c) place) (stands.nodes_are.has_books (node_of w c) place b.0 (placed.dialled c before).to b.1.0)
      (ap (λ (q : ℕ). book_at old.nodes.items q place) (sym node) ∙ (ap (λ (xs : List (NodeBooks F)). book_at xs at.node.0 place) (sym nodes) ∙
      none place (ap (λ (xs : List BlockId). place_of xs fields) blocks ∙ is)))

  -- A request was taken, and made a member.
  pub begin_joined : (old mid new : Nodes F I O) (conn : ConnId) (at : Connection I O) (end : Conn I O) (requested : Requested I O) (road first road' : R) (result : Result (Option NodeId) NodesFault) → slice_get old.connections.items conn.0 ≡ Some at → TakesIdle old mid conn.0 (Some end)
      → member_begin.BeginShows r i o end road first (Ok (Some requested)) → r.faults road ≤ r.faults first → (IsJoined f r i o mid new conn.0 at.node requested first road' result ⊎ HasNoBook mid new at.node requested.op first road' result)
      → BeginShows f r i o conn old new road road' result
  begin_joined old mid new conn at end requested road first road' result found t shows le (inr none) = λ w net queues stands of lawful fits due is.
      let z : IsFirstAt w net conn.0 old end road = first_at w net queues conn old mid end road stands of lawful due is t in
      let has = shows w net conn true z.taking.next z.stands z.can in
      let comes : ComesDown w conn.0 (write_next requested.op) = subst (λ (x : Next). ComesDown w conn.0 x) has.is_request z.taking.comes in
      absurd (book_needed w net conn.0 old mid at requested.op road stands (lawful true).placed z.k.before found t.blocks t.nodes (fits_at w conn.0 old requested.op fits comes) none.none)
  begin_joined old mid new conn at end requested road first road' result found t shows le (inl j) = λ w net queues stands of lawful fits due is.
      let c : ℕ = conn.0 in
      let fields : WriteFields = requested.op in
      let z : IsFirstAt w net c old end road = first_at w net queues conn old mid end road stands of lawful due is t in
      let begun : HasRequest r i o w net c z.taking.next first requested = shows w net conn true z.taking.next z.stands z.can in
      let has : HasRequest r i o w net c (write_next fields) first requested = subst (λ (x : Next). HasRequest r i o w net c x first requested) begun.is_request begun in
      let comes : ComesDown w c (write_next fields) = subst (λ (x : Next). ComesDown w c x) begun.is_request z.taking.comes in
      let fit : IsAsked (IsAmong old.blocks.items) fields = fits_at w c old fields fits comes in
      let b = block_found old.blocks.items fields j.place (ap (λ (xs : List BlockId). place_of xs fields) (sym t.blocks) ∙ j.at_place) in
      let node : at.node.0 ≡ node_of w c = (stands.nodes_are.each c at found).node in
      let size : length mid.connections.items ≡ w.next_conn = ap length (t.set at found) ∙ (length-set old.connections.items c (with_lower at lower.Ended) ∙ stands.nodes_are.count) in
      let at_old : book_at old.nodes.items at.node.0 j.place ≡ Some j.book = ap (λ (xs : List (NodeBooks F)). book_at xs at.node.0 j.place) (sym t.nodes) ∙ j.at_book in
      let joining : JoinStands r i o w has.made c at.node j.next requested j.book first = record {
        comes = comes;
        lower = is;
        roads_are = has.roads_are;
        end_is = has.end_is;
        node_is = node;
        next_is = j.next_is ∙ size;
        replica = stands.nodes_are.books at.node.0 j.place b.0 j.book b.1.0 at_old ∙ (ap (λ (q : ℕ). w.replicas q b.0.0) node ∙ ap (w.replicas (node_of w c)) b.1.1);
      } in
      let can : CanJoin w conn fields = record {
        of_node = mirror_port fields.targets fit.ports;
        answers = λ answered. (lawful answered).after.ups c;
        goes_on = (lawful true).after.downs w.next_conn;
      } in
      let s : Seat = record { conn = c; node = at.node; place = j.place } in
      join_ends w net has.made conn fields j.next s j.mirror j.book j.book' old mid j.set new at end road first road' result (record {
        stands = stands;
        lawful = lawful;
        k = z.taking;
        comes = comes;
        idle_is = is;
        of_pipeline = of;
        found = found;
        taken_is = t;
        set_is = j.is_set;
        at_book = j.at_book;
        conn_is = refl;
        node_is = node;
        block = b.0;
        at_place = b.1.0;
        of_block = b.1.1;
        others = has.others;
        next_is = j.next_is ∙ size;
        mirror_is = j.mirror_is;
        never_falls = le;
      }) j.joined (j.shows w has.made conn joining can) j.follows
