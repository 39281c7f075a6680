-- The world after an idle end took its request.
use Rattle.std.proofs.Common.{◌≡◌, ℕ, ◌<◌, ◌+◌, Bool, true, false, List, [], ◌∷◌, ◌++◌, length, slice_get, Option, Some, None, refl, ◌∙◌, ap, arith}
use Rattle.std.specs.Prelude.{◌==◌, ◌&&◌, is_some, option_map}
use Rattle.std.proofs.lemmas.Bool.Decides.{nat_tests}
use Rattle.std.proofs.lemmas.List.{append-nil}
use Rattle.op_headers.specs.declared.ops.Op.TheVariants as op
use Rattle.op_headers.specs.Values.{WriteFields}
use Rattle.node_refs.specs.NodeRefs.{ref_of}
use Rattle.replica_model.specs.Rows.{FullReplica}
use Rattle.member_core.specs.declared.effects.Effect.{Effect}
use Rattle.member_core.specs.declared.effects.Shuts.TheVariants as shuts
use Rattle.member_core.specs.declared.effects.Upward.{Upward}
use Rattle.member_core.specs.Members.{MemberState}
use Rattle.member_core.specs.Requests.{mirror_request}
use Rattle.member_core.specs.Steps.{Setup}
use Rattle.world.specs.declared.events.Event.{Event}
use Rattle.world.specs.Parts.{Message, request, by_member, Marks, idle, writes, Break}
use Rattle.world.specs.Worlds.{World, Dial, Change, put, listed, downs_with, ups_with, apply}
use Rattle.world.specs.Connections.{message, marks_taken, place_of}
use Rattle.world.specs.Nodes.{node_of, block_of, sent_up, shut_by, mirror_node, runs_there, is_asked, mirror_dial, mirror_conn, member_dials, setup_change}
use Rattle.world_laws.specs.Placing.{Placed, IsUndialled}
use Rattle.world_laws.proofs.StampGivens.{put-here}
use Rattle.world_orders.proofs.Frame.{marked}
use Rattle.world_orders.proofs.Lists.{no-dial-before, dial-here, dialled-before, dialled-here}
use Rattle.play_completeness.proofs.DownTurns.{one-taken}
use Rattle.play_completeness.proofs.TookRequest.{TookRequest}
use Rattle.play_completeness.proofs.Turned.{sent-off}
use Rattle.play_completeness.proofs.TurnWorld.{named, Takes, put-same, put-else, at-here, at-else, shut-taken, open-end}

-- this is sent up, if anything is, and nothing is shut
abbrev pub says_up : Option Upward → Effect
says_up s = record { forwards = false; sends = s; shuts = shuts.Nothing }

-- a request that was taken
abbrev pub took : MemberState → FullReplica → Option Upward → Setup
took m r s = record { member = Some m; replica = r; effect = says_up s }

module _ (w : World) (c : ℕ) (f : WriteFields) (m : MemberState) (r : FullReplica) (s : Option Upward) (b : Option Break) (e : Event) where
  abbrev dm : ℕ → Marks
  dm = put w.down_marks c (marks_taken (w.down_marks c) (message (request (op.Write f))))

  abbrev z : World
  z = marked w dm w.up_marks

  abbrev pub change : Change
  change = setup_change z c f (took m r s) b

  abbrev pub after : World
  after = named e (apply z change)

  td : Takes w.down_marks dm (λ k. k == c)
  td = one-taken w.down_marks c (request (op.Write f))

  no-request-before : (k : ℕ) → k < w.next_conn → downs_with z change k ≡ w.downs k
  no-request-before k lt =
      ap (λ (o : Option Dial). (w.downs k ++ []) ++ listed (option_map (λ (d : Dial). d.request) o)) (no-dial-before w.next_conn k change.dials lt)
      ∙ (append-nil (w.downs k ++ []) ∙ append-nil (w.downs k))

  pub took-request : TookRequest w after c f (record { fields = f; state = m; mirror = mirror_conn m.mirror w.next_conn }) r (sent_up f s)
  unfolding apply
  took-request = record {
    more = omega arith;
    dialled = λ k lt. dialled-before z change k lt;
    downs = λ k lt. no-request-before k lt;
    ups = λ k. refl;
    lower = put-here w.lowers c (writes (record { fields = f; state = m; mirror = mirror_conn m.mirror w.next_conn }));
    lowers = λ k other. put-else w.lowers c (writes (record { fields = f; state = m; mirror = mirror_conn m.mirror w.next_conn })) k other;
    replica = at-here w.replicas (node_of w c) (block_of f) r;
    replicas = λ n k other. at-else w.replicas (node_of w c) (block_of f) r n k other;
    writers = λ k. put-same w.writers 0 k;
    down_end = λ k. open-end (shut_by shuts.Nothing c None) (downs_with z change) dm k refl ∙ td.end k;
    up_end = λ k. open-end (shut_by shuts.Nothing c None) (ups_with z change) w.up_marks k refl;
    down_taken = λ k other. shut-taken (shut_by shuts.Nothing c None) (downs_with z change) dm k ∙ td.taken k other;
    up_taken = λ k. shut-taken (shut_by shuts.Nothing c None) (ups_with z change) w.up_marks k;
  }

  -- the request was taken
  pub one-more : (w.down_marks c).taken ≡ 0 → (after.down_marks c).taken ≡ 1
  unfolding apply
  one-more none =
      let a : (after.down_marks c).taken ≡ (dm c).taken = shut-taken (shut_by shuts.Nothing c None) (downs_with z change) dm c in
      let k : (dm c).taken ≡ (w.down_marks c).taken + 1 = ap (λ (i : Marks). i.taken) (put-here w.down_marks c (marks_taken (w.down_marks c) (message (request (op.Write f))))) in
      omega (arith, a, k, none)

  pub conns-are : after.next_conn ≡ w.next_conn + length (member_dials (Some m) z c f)
  unfolding apply
  conns-are = refl

  -- THE NEW CONNECTION

  module _ (placed : Placed w) (lc : c < w.next_conn) (d : Dial) (dials : member_dials (Some m) z c f ≡ d ∷ []) where
    new-bare : IsUndialled w w.next_conn
    new-bare = placed.undialled w.next_conn (omega arith)

    pub new-other : (w.next_conn == c) ≡ false
    new-other = grind (arith, nat_tests, lc)

    first-dial : slice_get change.dials 0 ≡ Some d
    first-dial = ap (λ (ds : List Dial). slice_get ds 0) dials

    here : w.next_conn ≡ w.next_conn + 0
    here = omega arith

    pub new-dialled : after.dialled w.next_conn ≡ d.dialled
    unfolding apply
    new-dialled = dialled-here z change w.next_conn 0 d here first-dial

    pub new-downs : after.downs w.next_conn ≡ d.request ∷ []
    unfolding apply
    new-downs =
        ap (λ (o : Option Dial). (w.downs w.next_conn ++ []) ++ listed (option_map (λ (x : Dial). x.request) o)) (dial-here w.next_conn w.next_conn 0 change.dials d here first-dial)
        ∙ ap (λ (ms : List Message). (ms ++ []) ++ d.request ∷ []) new-bare.downs

    pub new-ups : after.ups w.next_conn ≡ []
    new-ups = took-request.ups w.next_conn ∙ (ap (λ (ms : List Message). w.ups w.next_conn ++ ms) (sent-off (Some c) (sent_up f s) w.next_conn new-other) ∙ (append-nil (w.ups w.next_conn) ∙ new-bare.ups))

    pub new-idle : after.lowers w.next_conn ≡ idle
    new-idle = took-request.lowers w.next_conn new-other ∙ new-bare.lower

    pub new-down : ((after.down_marks w.next_conn).taken ≡ 0) × ((after.down_marks w.next_conn).end ≡ None)
    new-down = (took-request.down_taken w.next_conn new-other ∙ ap (λ (k : Marks). k.taken) new-bare.down_marks, took-request.down_end w.next_conn ∙ ap (λ (k : Marks). k.end) new-bare.down_marks)

    pub new-up : ((after.up_marks w.next_conn).taken ≡ 0) × ((after.up_marks w.next_conn).end ≡ None)
    new-up = (took-request.up_taken w.next_conn ∙ ap (λ (k : Marks). k.taken) new-bare.up_marks, took-request.up_end w.next_conn ∙ ap (λ (k : Marks). k.end) new-bare.up_marks)

-- THE DIAL OF A MIRROR

module _ (w : World) (c : ℕ) (f g : WriteFields) (n : ℕ) (asks : mirror_request (ref_of (record { 0 = node_of w c })) f ≡ Some g) (node : mirror_node f.targets ≡ Some n) where
  abbrev pub dial : Dial
  dial = record { dialled = record { upper = by_member c; from = Some (w.dialled c).to; to = place_of w n }; request = request (op.Write g) }

  pub dial-is : mirror_dial w c (mirror_request (ref_of (record { 0 = node_of w c })) f) (mirror_node f.targets) ≡ dial ∷ []
  dial-is = ap (λ (o : Option WriteFields). mirror_dial w c o (mirror_node f.targets)) asks ∙ ap (mirror_dial w c (Some g)) node

  pub asked-so : w.running n ≡ true → is_asked w c f true ≡ true
  asked-so runs =
      ap (λ (o : Option WriteFields). true && is_some o && runs_there w (mirror_node f.targets)) asks
      ∙ (ap (λ (o : Option ℕ). true && is_some (Some g) && runs_there w o) node ∙ ap (λ (q : Bool). true && is_some (Some g) && q) runs)
