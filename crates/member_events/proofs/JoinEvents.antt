-- A request to write makes an end a member.
use Rattle.std.proofs.Common.{◌≡◌, ◌≢◌, ◌<◌, ℕ, Bool, true, false, [], Option, None, Ok, refl, sym, ap, ◌∙◌, subst}
use Rattle.hd_base.specs.declared.ends.Conn.{Conn}
use Rattle.hd_base.specs.declared.links.LinkIn as link_in
use Rattle.hd_base.specs.declared.links.LinkOut as link_out
use Rattle.hd_base.specs.declared.numbers.ConnId.{ConnId}
use Rattle.hd_base.specs.declared.numbers.NodeId.{NodeId}
use Rattle.hd_base.specs.declared.roads.Roads as roads
use Rattle.pipe_member.specs.ReplicaModel.Rows.{FullReplica}
use Rattle.pipe_member.specs.ReplicaFiles.BookState.{BookState}
use Rattle.pipe_member.specs.ReplicaFiles.Books.{replica_of}
use Rattle.pipe_member.specs.MemberCore.Members.{set_up}
use Rattle.pipe_member.specs.MemberCore.Steps.{Setup, request_step, refused_request, taken_request}
use Rattle.pipe_member.specs.declared.member.Member.{Member}
use Rattle.pipe_member.specs.declared.stepped.Stepped.{Stepped}
use Rattle.pipe_member.specs.Turns.{IsNew}
use Rattle.road_traffic.specs.Showing.{Net}
use Rattle.world_texts.specs.World.Event.TheVariants as event
use Rattle.world_texts.specs.World.Worlds.{World}
use Rattle.world_texts.specs.World.Connections.{down_taken}
use Rattle.world_texts.specs.World.Nodes.{block_of, replica_at, is_asked}
use Rattle.world_texts.specs.World.Events.{happens}
use Rattle.world_texts.specs.WorldNets.Drawn.{break_at}
use Rattle.world_texts.specs.WorldNets.Nets.{IsEndOf}
use Rattle.member_events.specs.declared.beginning.Requested.{Requested}
use Rattle.member_events.specs.Joining.{write_next, JoinStands, CanJoin, MemberJoins}
use Rattle.member_events.specs.Steps.{IsPlaced}
use Rattle.member_events.proofs.EndLaws.{RoadsAt}
use Rattle.member_events.proofs.JoinAlone.{IsUnset, AloneSetup, alone_joins, refused_alone, last_alone, down_alone}
use Rattle.member_events.proofs.JoinWorld.{RequestSame, request_same, served_before, setup_out, last_unasked}
use Rattle.member_events.proofs.SetupEnds.{SetUpAs, HasRefused, HasTaken}

-- the same number of a connection
same_conn : (a b : ConnId) → a.0 ≡ b.0 → a ≡ b
same_conn a b h = λ j. record { 0 = h j }

module _ {F R I O : Type 0} (r : roads.Ghosts R I O) (i : link_in.Ghosts I) (o : link_out.Ghosts O) (w : World) (net : Net) (conn : ConnId) (node : NodeId) (next : ConnId) (requested : Requested I O) (old : Member I O) (book : BookState F) (road : R)
    (stands : JoinStands r i o w net conn.0 node next requested book road) (can : CanJoin w conn requested.op) (is_new : IsNew node requested.end requested.op old) where
  abbrev pub taken : World
  taken = down_taken w conn.0 (write_next requested.op)

  pub same : RequestSame w taken conn.0
  same = request_same w conn.0 requested.op

  pub before : conn.0 < taken.next_conn
  before = subst (λ (n : ℕ). conn.0 < n) (sym same.next) (served_before w conn.0 stands.comes.served)

  id_is : old.upstream.id ≡ conn
  id_is = same_conn old.upstream.id conn (ap (λ (e : Conn I O). e.id.0) is_new.upstream ∙ stands.end_is.id)

  replica_is : replica_of book ≡ replica_at taken conn.0 (block_of requested.op)
  replica_is = stands.replica ∙ sym (same.replica (block_of requested.op))

  -- the step of the request is that in the world
  pub step_at : (a : Bool) → request_step old.upstream.id old.op a (replica_of book) ≡ request_step conn requested.op a (replica_at taken conn.0 (block_of requested.op))
  step_at a = λ j. request_step (id_is j) (is_new.op_is j) a (replica_is j)

  pub taken_at : (a : Bool) (after : FullReplica) → taken_request after (set_up old.upstream.id old.op a) ≡ taken_request after (set_up conn requested.op a)
  taken_at a after = λ j. taken_request after (set_up (id_is j) (is_new.op_is j) a)

  pub unset : IsUnset taken conn.0 requested.op old
  unset = record {
    node = ap (λ (y : NodeId). y.0) is_new.node_is ∙ (stands.node_is ∙ sym same.node);
    op = is_new.op_is;
    above = is_new.above;
    below = is_new.below;
  }

  pub end_at : IsEndOf i o taken net conn.0 true old.upstream
  end_at = subst (λ (y : Conn I O). IsEndOf i o taken net conn.0 true y) (sym is_new.upstream) stands.end_is

  pub roads_at : RoadsAt r net road
  roads_at = record { sane = stands.roads_are.sane; shows = stands.roads_are.shows }

  -- A setup that dials nothing, in the world where a dial is answered or isn't.
  alone_by : (answered asked : Bool) (s : Setup) (held : Member I O) (book' : BookState F) (result : Stepped) (mid later : R) (left : Option (Member I O)) → is_asked taken conn.0 requested.op answered ≡ asked → request_step old.upstream.id old.op asked (replica_of book) ≡ s
      → SetUpAs o s old held book' result → held.mirror ≡ None → AloneSetup s taken conn.0 requested.op → RoadsAt r net mid → IsPlaced r i o result held mid later (Ok left)
      → MemberJoins r i o taken net (happens w (event.Down conn answered)) conn.0 requested.op None book' later left
  alone_by answered asked s held book' result mid later left is leads ends none alone at placed =
      alone_joins r i o w taken net (event.Down conn answered) conn.0 requested.op s (break_at taken conn.0 requested.op) old held book' result mid later
      (record {
        before = before;
        out = setup_out w conn answered asked requested.op s stands.comes stands.lower is (sym (step_at asked) ∙ leads);
        is_net = stands.roads_are.is_net;
        roads_at = at;
        end_is = end_at;
        unset = unset;
        spelled = can.answers answered;
        ends = ends;
        no_mirror = none;
        dials = alone.dials;
      }) left alone.kind placed

  -- A request that was refused.
  pub refused_joins : (held : Member I O) (book' : BookState F) (result : Stepped) (mid later : R) (left : Option (Member I O)) → HasRefused o old held book book' result → held.mirror ≡ None → RoadsAt r net mid → IsPlaced r i o result held mid later (Ok left)
      → (answered : Bool) → MemberJoins r i o taken net (happens w (event.Down conn answered)) conn.0 requested.op None book' later left
  refused_joins held book' result mid later left k none at placed answered =
      let asked : Bool = is_asked taken conn.0 requested.op answered in
      alone_by answered asked (refused_request k.after k.why) held book' result mid later left refl (k.step_is asked) k.ends none (refused_alone k.after k.why taken conn.0 requested.op) at placed

  pub taken_ends : (a : Bool) (held : Member I O) (book' : BookState F) (result : Stepped) (k : HasTaken o a old held book book' result) → SetUpAs o (taken_request k.after (set_up conn requested.op a)) old held book' result
  taken_ends a held book' result k = subst (λ (s : Setup). SetUpAs o s old held book' result) (taken_at a k.after) k.ends

  -- The last member.
  pub last_joins : (held : Member I O) (book' : BookState F) (result : Stepped) (mid later : R) (left : Option (Member I O)) → requested.op.targets ≡ [] → HasTaken o false old held book book' result → held.mirror ≡ None → RoadsAt r net mid → IsPlaced r i o result held mid later (Ok left)
      → (answered : Bool) → MemberJoins r i o taken net (happens w (event.Down conn answered)) conn.0 requested.op None book' later left
  last_joins held book' result mid later left last k none at placed answered =
      alone_by answered false (taken_request k.after (set_up conn requested.op false)) held book' result mid later left (last_unasked taken conn.0 requested.op answered last) (k.step_is false ∙ taken_at false k.after) (taken_ends false held book' result k) none
      (last_alone k.after conn taken conn.0 requested.op last) at placed

  -- One whose mirror isn't asked, in the world where a dial is answered or isn't.
  pub down_joins : (held : Member I O) (book' : BookState F) (result : Stepped) (mid later : R) (left : Option (Member I O)) → requested.op.targets ≢ [] → HasTaken o false old held book book' result → held.mirror ≡ None → RoadsAt r net mid → IsPlaced r i o result held mid later (Ok left)
      → (answered : Bool) → is_asked taken conn.0 requested.op answered ≡ false → MemberJoins r i o taken net (happens w (event.Down conn answered)) conn.0 requested.op None book' later left
  down_joins held book' result mid later left some k none at placed answered unasked =
      alone_by answered false (taken_request k.after (set_up conn requested.op false)) held book' result mid later left unasked (k.step_is false ∙ taken_at false k.after) (taken_ends false held book' result k) none
      (down_alone k.after conn taken conn.0 requested.op some) at placed
