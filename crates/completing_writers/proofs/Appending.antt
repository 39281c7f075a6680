-- A writer sets up the pipeline of an append: the office opens the block with a new stamp, and the first member is dialled.
use Rattle.std.proofs.Common.{◌≡◌, ℕ, zero, suc, ◌<◌, ◌≤◌, ◌+◌, Bool, true, List, [], ◌∷◌, ◌++◌, length, map, slice_get, Option, Some, None, IfSome, Ok, refl, sym, ◌∙◌, ap, subst, arith, inr}
use Rattle.std.specs.Prelude.{◌==◌, nat_le, take, if◌then◌else◌}
use Rattle.std.proofs.lemmas.Bool.{false≢true}
use Rattle.std.proofs.lemmas.Bool.Decides.{nat_tests}
use Rattle.std.proofs.lemmas.List.{length-map, take_all}
use Rattle.std.proofs.lemmas.Option.{none-some, same_Some}
use Rattle.hd_base.specs.declared.numbers.BlockId.{BlockId}
use Rattle.hd_base.specs.declared.numbers.NodeId.{NodeId}
use Rattle.hd_base.specs.declared.numbers.Stamp.{Stamp}
use Rattle.op_headers.specs.declared.nodes.NodeRef.{NodeRef}
use Rattle.op_headers.specs.Values.{WriteFields}
use Rattle.node_refs.specs.NodeRefs.{ref_of}
use Rattle.name_core.specs.declared.calls.OfficeAnswer.TheVariants as office
use Rattle.name_core.specs.declared.calls.OfficeCall.{OfficeCall}
use Rattle.name_core.specs.declared.calls.OfficeCall.TheVariants as call
use Rattle.name_core.specs.declared.calls.Reopened.{Reopened}
use Rattle.name_core.specs.declared.records.BlockRecord.{BlockRecord}
use Rattle.name_core.specs.declared.records.TheConstants.{MAX_APPEND_LENGTH}
use Rattle.name_core.specs.Offices.{OfficeState, record_of, answer_to, stamp_given, with_record}
use Rattle.name_core.proofs.BlockLemmas.{record_of-with_record_same}
use Rattle.packet_stream.specs.Streams.{written_in}
use Rattle.packet_stream.proofs.StreamLemmas.{begun_written}
use Rattle.replica_model.specs.Rows.{FullReplica}
use Rattle.member_core.specs.declared.requests.SetupKind.{SetupKind}
use Rattle.member_core.specs.declared.requests.TheConstants.{MAX_BELOW}
use Rattle.member_core.specs.Requests.{setup_with}
use Rattle.writer_core.specs.declared.actions.Action.TheVariants as action
use Rattle.writer_core.specs.declared.commands.Command.{Command}
use Rattle.writer_core.specs.declared.intake.Stand.TheVariants as stand
use Rattle.writer_core.specs.Commands.{is_open, queued_bytes}
use Rattle.writer_core.specs.declared.phases.Phase.{Phase}
use Rattle.writer_core.specs.declared.phases.Phase.TheVariants as phase
use Rattle.writer_core.specs.declared.phases.Setup.TheVariants as setup
use Rattle.writer_core.specs.declared.phases.Waiting.TheVariants as waiting
use Rattle.writer_core.specs.declared.records.WriterRecord.{WriterRecord}
use Rattle.writer_core.specs.Transitions.{begin_session, step_in, own_step, granted, granted_in, is_connected}
use Rattle.world.specs.declared.events.TakenCommand.{TakenCommand}
use Rattle.world.specs.Parts.{Told}
use Rattle.world.specs.Worlds.{World, add, put}
use Rattle.world.specs.Safe.{Has}
use Rattle.world.specs.Nodes.{node_on, block_of}
use Rattle.world_laws.proofs.StampGivens.{put-here}
use Rattle.world_laws.proofs.Unused.{unused-are-empty}
use Rattle.play_completeness.specs.WorldAcks.Acking.{least_of}
use Rattle.play_completeness.specs.WorldWriters.Taking.{chain}
use Rattle.play_model.specs.States.{PlayState, world_of}
use Rattle.play_model.specs.Dues.{acting, action_of}
use Rattle.play_completeness.specs.PlayLaws.Writers.{needs_members}
use Rattle.play_completeness.proofs.PlayLaws.Resting.{all-rest}
use Rattle.play_completeness.proofs.PlayLaws.Running.{all-run}
use Rattle.play_completeness.specs.Complete.{bytes_after}
use Rattle.play_completeness.specs.Plain.{IsLeased}
use Rattle.play_completeness.specs.Streams.{first_reach}
use Rattle.play_completeness.specs.Links.{IsFinalWith, MayTake, IsRequest}
use Rattle.play_completeness.specs.Writers.{IsClosed}
use Rattle.play_completeness.specs.Played.{BlockPlayed, Played}
use Rattle.play_completeness.proofs.Awaiting.{plain-keeps-nodes}
use Rattle.play_completeness.proofs.TurnWorld.{put-else}
use Rattle.completing_writers.specs.Steps.{PlaysWell}
use Rattle.completing_writers.proofs.Leaving.{add-here, add-else}
use Rattle.completing_writers.proofs.Others.{Kept}
use Rattle.completing_writers.proofs.Known.{sound, block-is, agrees, latest-below, first-stamp, committed-below, not-same}
use Rattle.completing_writers.proofs.Naming.{First, first-of, IsMade, made}
use Rattle.completing_writers.proofs.Asking.{Begins, asks-office, asks-written}
use Rattle.completing_writers.proofs.Granting.{IsGranted, after-is, answer-is, append-granted}
use Rattle.completing_writers.proofs.Requests.{AsksAppend, asks-append}
use Rattle.completing_writers.proofs.Dialling.{dial-office}
use Rattle.completing_writers.proofs.Opening.{u, n, r, v, aside, written-is, to-first, opens-keep}
use Rattle.completing_writers.proofs.Sessions.{closed-session, after-length, queued-front, chain-member}

module _ (p : PlayState) (commands : ℕ → List Command) (x : PlaysWell p commands) (b : BlockId) (at : ((world_of p).writers b.0).known.phase ≡ phase.Wanted setup.Append) (waits : ((world_of p).writers b.0).known.waiting ≡ Some waiting.Opening)
    (open_yet : is_open ((world_of p).writers b.0).known.intake.stand ≡ true) (closed : IsClosed (world_of p) b.0 ((world_of p).writers b.0).known) where
  abbrev h : Played p commands
  h = x.played

  abbrev w : World
  w = world_of p

  abbrev X : WriterRecord
  X = (w.writers b.0).known

  abbrev B : BlockPlayed w b.0 (p.queues b.0) (commands b.0)
  B = h.blocks b.0

  abbrev s : Stamp
  s = w.office.next

  abbrev block : BlockId
  block = record { 0 = b.0 }

  abbrev before : BlockRecord
  before = closed.office.entry

  abbrev c : OfficeCall
  c = call.Append X.block

  abbrev back : Reopened
  back = record { committed = before.committed; length = before.length; new = s }

  abbrev told : Told
  told = Ok (office.Reopened back)

  block-so : X.block ≡ block
  block-so = block-is p.nodes p.events h.quiet b.0

  entry-so : record_of w.office X.block ≡ Some before
  entry-so = ap (record_of w.office) block-so ∙ closed.office.is

  leased : IsLeased before
  leased = subst (λ (o : Option BlockRecord). IfSome o IsLeased) closed.office.is (h.peaceful.leases b.0)

  -- the length that the block has
  length-so : before.length ≡ length (w.written (w.latest b.0))
  length-so = closed.office.length_is ∙ sym closed.all

  short : before.length ≤ MAX_APPEND_LENGTH
  short =
      let long : length (bytes_after block [] B.taken) ≡ 0 + queued_bytes B.taken = after-length block [] B.taken in
      let all : queued_bytes B.taken ≤ queued_bytes (B.taken ++ map (λ (t : TakenCommand). t.command) (p.queues b.0)) = queued-front B.taken (map (λ (t : TakenCommand). t.command) (p.queues b.0)) in
      let most : queued_bytes (B.taken ++ map (λ (t : TakenCommand). t.command) (p.queues b.0)) ≤ MAX_APPEND_LENGTH = subst (λ (cs : List Command). queued_bytes cs ≤ MAX_APPEND_LENGTH) B.are (x.fit b.0).short in
      let same : length (w.written (w.latest b.0)) ≡ length (bytes_after block [] B.taken) = ap (λ (l : List ℕ). length l) B.bytes in
      omega (arith, long, all, most, same, length-so)

  abbrev reopened_as : BlockRecord
  reopened_as = record before { is_open = true; recovery = None }

  abbrev office_then : OfficeState
  office_then = with_record (stamp_given w.office) X.block reopened_as

  grants : IsGranted w.office c office_then (office.Reopened back)
  grants = append-granted w.office X.block before entry-so closed.office.shut short

  asks : action_of w b ≡ action.Ask c
  unfolding own_step
  asks = ap (λ (q : Phase). (step_in X q).action) at

  number-so : X.block.0 ≡ b.0
  number-so = ap (λ (q : BlockId). q.0) block-so

  -- the bytes with which the session begins
  abbrev base : List ℕ
  base = take before.length (w.written (w.session_of before.committed.0))

  base-is : base ≡ w.written (w.latest b.0)
  base-is =
      ap (λ (k : ℕ). take before.length (w.written k)) (closed-session p.nodes p.events h.plain h.quiet b.0 before closed.office.is closed.office.shut)
      ∙ take_all before.length (w.written (w.latest b.0)) (omega (arith, length-so))

  abbrev add_base : ℕ → List ℕ
  add_base k = add w.written s.0 base k

  begins : Begins w b.0 c told block-so
  begins = record {
    others = λ k other.
        ap (λ (i : ℕ). add_base i) (put-else w.latest X.block.0 s.0 k (ap (λ (i : ℕ). k == i) number-so ∙ other))
        ∙ add-else w.written s.0 base (w.latest k) (not-same (w.latest k) s.0 (λ e. let low : w.latest k < s.0 = latest-below p.nodes p.events h.quiet b.0 k in absurd (omega (arith, low, e))));
    unused = add-else w.written s.0 base 0 (not-same 0 s.0 (λ e. let low : 1 ≤ s.0 = first-stamp p.nodes p.events h.quiet b.0 in absurd (omega (arith, low, e))));
  }

  abbrev Z : WriterRecord
  Z = begin_session X before.committed before.length

  fits : nat_le before.length MAX_APPEND_LENGTH ≡ true
  fits = grind (arith, nat_tests, short)

  gives : granted X told ≡ record Z { phase = phase.Stamped setup.Append s }
  unfolding granted
  gives = ap (λ (q : Phase). granted_in X q (office.Reopened back)) at ∙ ap (λ (q : Bool). if q then record Z { phase = phase.Stamped setup.Append s } else X) fits

  -- THE MEMBERS

  not-unmade : X.intake.stand ≡ stand.Unmade → ⊥
  not-unmade e = false≢true (ap is_open (sym e) ∙ open_yet)

  is-made : IsMade w b.0 p.nodes B.taken (commands b.0)
  is-made = made p commands h b (x.fit b.0) not-unmade

  members : First X.members
  members = first-of X.members ((all-rest p.nodes p.events b.0).members (ap needs_members at))

  are-nodes : (j : ℕ) (m : NodeId) → slice_get X.members j ≡ Some m → m.0 < p.nodes
  are-nodes j m found = is-made.are_nodes j m (ap (λ (ms : List NodeId). slice_get ms j) (sym is-made.members) ∙ found)

  runs : w.running members.first.0 ≡ true
  runs = (all-run p.nodes p.events (plain-keeps-nodes p.events h.plain)).runs members.first.0 (are-nodes 0 members.first (ap (λ (ms : List NodeId). slice_get ms 0) members.are))

  none : (w.writers b.0).conn ≡ None
  none = (all-rest p.nodes p.events b.0).alone (ap is_connected at)

  answered : answer_to w.office c ≡ told
  answered = answer-is w.office c office_then (office.Reopened back) grants

  -- THE REQUEST

  request-is : AsksAppend Z s members.others (r p commands h b c told block-so begins asks answered Z setup.Append s gives members runs none)
  request-is = asks-append Z s (length X.members) members.others (sound p.nodes p.events h.quiet b.0).stream.chunk

  abbrev f : WriteFields
  f = request-is.asks.fields

  few : length f.targets ≤ MAX_BELOW
  few =
      let targets : length f.targets ≡ length members.others = ap (λ (ts : List NodeRef). length ts) request-is.asks.targets ∙ length-map members.others ref_of in
      let all : length is-made.created ≡ length (members.first ∷ members.others) = ap (λ (ms : List NodeId). length ms) (sym is-made.members ∙ members.are) in
      omega (arith, targets, all, is-made.few)

  asks-well : IsRequest f X.stream.rule
  asks-well = record { opens = inr request-is.stage; pool = request-is.asks.pool; few = few; rule_is = request-is.asks.rule }

  block-of-f : block_of f ≡ b.0
  block-of-f = ap (λ (q : BlockId). q.0) (request-is.asks.block ∙ block-so)

  min-is : f.min ≡ before.length
  min-is = request-is.least ∙ begun_written X.stream.rule before.length

  -- a node that the request reaches is a member
  reaches : (i k : ℕ) → slice_get (chain (v p commands h b c told block-so begins asks answered Z setup.Append s gives members runs none).past (u p commands h b c told block-so begins asks answered Z setup.Append s gives members runs none).next_conn f) i ≡ Some (Some k) → (m : NodeId) × (Has X.members m) × (m.0 ≡ k)
  reaches zero k found =
      (members.first, record { place = 0; there = ap (λ (ms : List NodeId). slice_get ms 0) members.are }, sym (to-first p commands h b c told block-so begins asks answered Z setup.Append s gives members runs none) ∙ same_Some ((v p commands h b c told block-so begins asks answered Z setup.Append s gives members runs none).dialled (u p commands h b c told block-so begins asks answered Z setup.Append s gives members runs none).next_conn).to.node k (same_Some (Some ((v p commands h b c told block-so begins asks answered Z setup.Append s gives members runs none).dialled (u p commands h b c told block-so begins asks answered Z setup.Append s gives members runs none).next_conn).to.node) (Some k) found))
  reaches (suc i) k found =
      let at_target : slice_get (map (λ (t : NodeRef). node_on t.xfer) (map ref_of members.others)) i ≡ Some (Some k) =
      ap (λ (ts : List NodeRef). slice_get (map (λ (t : NodeRef). node_on t.xfer) ts) i) (sym request-is.asks.targets) ∙ found in
      let m = chain-member members.others i k p.nodes x.few (λ j y there. are-nodes (suc j) y (ap (λ (ms : List NodeId). slice_get ms (suc j)) members.are ∙ there)) at_target in
      (m.0, record { place = suc i; there = ap (λ (ms : List NodeId). slice_get ms (suc i)) members.are ∙ m.1 }, m.2)

  rises : f.block.stamp.0 < f.latest.0
  rises =
      let low : before.committed.0 < s.0 = committed-below p.nodes p.events h.quiet b.0 before closed.office.is in
      let named : f.block.stamp.0 ≡ before.committed.0 = ap (λ (z : Stamp). z.0) request-is.named in
      let latest : f.latest.0 ≡ s.0 = ap (λ (z : Stamp). z.0) request-is.latest in
      omega (arith, low, named, latest)

  final : (m : NodeId) → Has X.members m → IsFinalWith f.block.stamp f.min X.stream.rule (w.replicas m.0 b.0)
  final m has =
      let stamp : X.committed ≡ f.block.stamp = agrees p.nodes p.events h.quiet b.0 before closed.office.is leased.free ∙ sym request-is.named in
      let long : written_in X.stream ≡ f.min = sym closed.office.length_is ∙ sym min-is in
      subst (λ (z : Stamp). IsFinalWith z f.min X.stream.rule (w.replicas m.0 b.0)) stamp
      (subst (λ (k : ℕ). IsFinalWith X.committed k X.stream.rule (w.replicas m.0 b.0)) long (closed.members.each m has))

  ready : (i k : ℕ) → slice_get (chain (v p commands h b c told block-so begins asks answered Z setup.Append s gives members runs none).past (u p commands h b c told block-so begins asks answered Z setup.Append s gives members runs none).next_conn f) i ≡ Some (Some k) → MayTake (setup_with f.stage) f X.stream.rule ((v p commands h b c told block-so begins asks answered Z setup.Append s gives members runs none).replicas k (block_of f))
  ready i k found =
      let a = aside p commands h b c told block-so begins asks answered Z setup.Append s gives members runs none in
      let m = reaches i k found in
      let same : (v p commands h b c told block-so begins asks answered Z setup.Append s gives members runs none).replicas k (block_of f) ≡ w.replicas m.0.0 b.0 = a.replicas k (block_of f) ∙ (ap (λ (j : ℕ). w.replicas k j) block-of-f ∙ ap (λ (j : ℕ). w.replicas j b.0) (sym m.2)) in
      subst (λ (z : Option SetupKind). MayTake z f X.stream.rule ((v p commands h b c told block-so begins asks answered Z setup.Append s gives members runs none).replicas k (block_of f))) (sym request-is.stage)
      (rises, subst (λ (y : FullReplica). IsFinalWith f.block.stamp f.min X.stream.rule y) (sym same) (final m.0 m.1))

  -- THE BYTES

  base-written : (u p commands h b c told block-so begins asks answered Z setup.Append s gives members runs none).written ((u p commands h b c told block-so begins asks answered Z setup.Append s gives members runs none).latest b.0) ≡ w.written (w.latest b.0)
  base-written =
      asks-written w b.0 c told block-so
      ∙ (ap (λ (k : ℕ). add_base k) (ap (λ (i : ℕ). put w.latest i s.0 b.0) number-so ∙ put-here w.latest b.0 s.0)
      ∙ (add-here w.written s.0 base ∙ (ap (λ (l : List ℕ). l ++ base) (unused-are-empty p.nodes p.events s.0 (omega arith)) ∙ base-is)))

  office-is : record_of (v p commands h b c told block-so begins asks answered Z setup.Append s gives members runs none).office block ≡ Some reopened_as
  office-is =
      ap (λ (o : OfficeState). record_of o block) (dial-office (u p commands h b c told block-so begins asks answered Z setup.Append s gives members runs none) b.0 (n p commands h b c told block-so begins asks answered Z setup.Append s gives members runs none) members.first (r p commands h b c told block-so begins asks answered Z setup.Append s gives members runs none) (acting b.0 None) ∙ (asks-office w b.0 c told block-so ∙ after-is w.office c office_then (office.Reopened back) grants))
      ∙ subst (λ (q : BlockId). record_of office_then q ≡ Some reopened_as) block-so (record_of-with_record_same (stamp_given w.office) X.block before reopened_as entry-so)

  pub append-asked : Kept p commands b
  append-asked =
      opens-keep p commands h b c told block-so begins asks answered Z setup.Append s gives members runs none f request-is.asks.is X.stream.rule asks-well ready refl
      (ap (λ (z : Option SetupKind). first_reach (least_of z f.min)) request-is.stage ∙ ap first_reach min-is) refl refl refl refl refl
      (written-is p commands h b c told block-so begins asks answered Z setup.Append s gives members runs none ∙ (base-written ∙ B.bytes))
      (record {
        stream = record { all = λ _. refl; ends = λ i q found. absurd (none-some q found); within = omega arith };
        phase_is = record {
          office = record { entry = reopened_as; is = office-is; open_is = refl };
          opens = inr refl;
          waits = waits;
          stand = open_yet;
          none = refl;
        };
      })
