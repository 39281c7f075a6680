-- A writer sets up the pipeline of a create: the office gives a stamp, and the first member is dialled.
use Rattle.std.proofs.Common.{◌≡◌, ℕ, ◌≤◌, true, List, [], ◌∷◌, length, slice_get, Option, Some, None, Ok, refl, sym, ◌∙◌, ap, subst, arith, inl}
use Rattle.std.specs.Prelude.{◌==◌}
use Rattle.std.proofs.lemmas.Bool.{false≢true}
use Rattle.std.proofs.lemmas.List.{length-map}
use Rattle.std.proofs.lemmas.Option.{none-some}
use Rattle.hd_base.specs.declared.numbers.BlockId.{BlockId}
use Rattle.hd_base.specs.declared.numbers.NodeId.{NodeId}
use Rattle.hd_base.specs.declared.numbers.Stamp.{Stamp}
use Rattle.op_headers.specs.declared.nodes.NodeRef.{NodeRef}
use Rattle.op_headers.specs.Values.{WriteFields}
use Rattle.node_refs.specs.NodeRefs.{ref_of}
use Rattle.name_core.specs.declared.calls.OfficeAnswer.TheVariants as office
use Rattle.name_core.specs.declared.calls.OfficeCall.{OfficeCall}
use Rattle.name_core.specs.declared.calls.OfficeCall.TheVariants as call
use Rattle.name_core.specs.Records.{opened}
use Rattle.name_core.specs.Offices.{OfficeState, record_of, answer_to, stamp_given, with_new_record}
use Rattle.name_core.proofs.BlockLemmas.{record_of-with_new_record_same}
use Rattle.replica_model.specs.Rows.{FullReplica}
use Rattle.member_core.specs.declared.requests.SetupKind.{SetupKind}
use Rattle.member_core.specs.declared.requests.TheConstants.{MAX_BELOW}
use Rattle.member_core.specs.Requests.{setup_with}
use Rattle.writer_core.specs.declared.actions.Action.TheVariants as action
use Rattle.writer_core.specs.declared.commands.Command.{Command}
use Rattle.writer_core.specs.declared.intake.Stand.TheVariants as stand
use Rattle.writer_core.specs.Commands.{is_open}
use Rattle.writer_core.specs.declared.phases.Phase.{Phase}
use Rattle.writer_core.specs.declared.phases.Phase.TheVariants as phase
use Rattle.writer_core.specs.declared.phases.Setup.TheVariants as setup
use Rattle.writer_core.specs.declared.phases.Waiting.TheVariants as waiting
use Rattle.writer_core.specs.declared.records.WriterRecord.{WriterRecord}
use Rattle.writer_core.specs.Transitions.{begin_session, step_in, own_step, granted, granted_in, is_connected}
use Rattle.world.specs.Parts.{Told}
use Rattle.world.specs.Worlds.{World, put}
use Rattle.world.specs.Nodes.{block_of}
use Rattle.world_laws.proofs.StampGivens.{put-here}
use Rattle.world_laws.proofs.Unused.{unused-are-empty}
use Rattle.play_completeness.specs.WorldAcks.Acking.{least_of}
use Rattle.play_completeness.specs.WorldWriters.Taking.{chain}
use Rattle.play_model.specs.States.{PlayState, world_of}
use Rattle.play_model.specs.Dues.{acting, action_of}
use Rattle.play_completeness.specs.PlayLaws.Writers.{needs_members}
use Rattle.play_completeness.proofs.PlayLaws.Resting.{all-rest}
use Rattle.play_completeness.proofs.PlayLaws.Running.{all-run}
use Rattle.play_completeness.specs.Complete.{bytes_after}
use Rattle.play_completeness.specs.Streams.{first_reach}
use Rattle.play_completeness.specs.Links.{MayTake, IsRequest}
use Rattle.play_completeness.specs.Writers.{IsUnknown}
use Rattle.play_completeness.specs.Played.{BlockPlayed, Played}
use Rattle.play_completeness.proofs.Awaiting.{plain-keeps-nodes}
use Rattle.play_completeness.proofs.TurnWorld.{put-else}
use Rattle.completing_writers.specs.Steps.{PlaysWell}
use Rattle.completing_writers.proofs.Leaving.{add-none}
use Rattle.completing_writers.proofs.Others.{Kept}
use Rattle.completing_writers.proofs.Known.{sound, block-is, unknown-latest}
use Rattle.completing_writers.proofs.Naming.{First, first-of, IsMade, made}
use Rattle.completing_writers.proofs.Asking.{Begins, asks-office, asks-written}
use Rattle.completing_writers.proofs.Granting.{IsGranted, after-is, answer-is, create-granted}
use Rattle.completing_writers.proofs.Requests.{AsksCreate, asks-create}
use Rattle.completing_writers.proofs.Dialling.{dial-office}
use Rattle.completing_writers.proofs.Opening.{u, n, r, v, aside, written-is, opens-keep}

module _ (p : PlayState) (commands : ℕ → List Command) (x : PlaysWell p commands) (b : BlockId) (at : ((world_of p).writers b.0).known.phase ≡ phase.Wanted setup.Create) (waits : ((world_of p).writers b.0).known.waiting ≡ Some waiting.Opening)
    (open_yet : is_open ((world_of p).writers b.0).known.intake.stand ≡ true) (unknown : IsUnknown (world_of p) b.0) where
  abbrev h : Played p commands
  h = x.played

  abbrev w : World
  w = world_of p

  abbrev X : WriterRecord
  X = (w.writers b.0).known

  abbrev B : BlockPlayed w b.0 (p.queues b.0) (commands b.0)
  B = h.blocks b.0

  abbrev s : Stamp
  s = w.office.next

  abbrev block : BlockId
  block = record { 0 = b.0 }

  abbrev c : OfficeCall
  c = call.Create X.block X.members

  abbrev told : Told
  told = Ok (office.Stamp s)

  block-so : X.block ≡ block
  block-so = block-is p.nodes p.events h.quiet b.0

  abbrev office_then : OfficeState
  office_then = with_new_record (stamp_given w.office) X.block (opened X.members s)

  grants : IsGranted w.office c office_then (office.Stamp s)
  grants = create-granted w.office X.block X.members (ap (record_of w.office) block-so ∙ unknown.entry)

  asks : action_of w b ≡ action.Ask c
  unfolding own_step
  asks = ap (λ (q : Phase). (step_in X q).action) at

  number-so : X.block.0 ≡ b.0
  number-so = ap (λ (q : BlockId). q.0) block-so

  begins : Begins w b.0 c told block-so
  begins = record {
    others = λ k other. add-none w.written s.0 (put w.latest X.block.0 s.0 k) ∙ ap (λ (i : ℕ). w.written i) (put-else w.latest X.block.0 s.0 k (ap (λ (i : ℕ). k == i) number-so ∙ other));
    unused = add-none w.written s.0 0;
  }

  abbrev Z : WriterRecord
  Z = begin_session X s 0

  gives : granted X told ≡ record Z { phase = phase.Stamped setup.Create s }
  unfolding granted
  gives = ap (λ (q : Phase). granted_in X q (office.Stamp s)) at

  -- THE MEMBERS

  not-unmade : X.intake.stand ≡ stand.Unmade → ⊥
  not-unmade e = false≢true (ap is_open (sym e) ∙ open_yet)

  is-made : IsMade w b.0 p.nodes B.taken (commands b.0)
  is-made = made p commands h b (x.fit b.0) not-unmade

  members : First X.members
  members = first-of X.members ((all-rest p.nodes p.events b.0).members (ap needs_members at))

  runs : w.running members.first.0 ≡ true
  runs =
      let there : slice_get is-made.created 0 ≡ Some members.first = ap (λ (ms : List NodeId). slice_get ms 0) (sym is-made.members ∙ members.are) in
      (all-run p.nodes p.events (plain-keeps-nodes p.events h.plain)).runs members.first.0 (is-made.are_nodes 0 members.first there)

  none : (w.writers b.0).conn ≡ None
  none = (all-rest p.nodes p.events b.0).alone (ap is_connected at)

  answered : answer_to w.office c ≡ told
  answered = answer-is w.office c office_then (office.Stamp s) grants

  -- THE REQUEST

  request-is : AsksCreate Z s members.others (r p commands h b c told block-so begins asks answered Z setup.Create s gives members runs none)
  request-is = asks-create Z s (length X.members) members.others (sound p.nodes p.events h.quiet b.0).stream.chunk

  abbrev f : WriteFields
  f = request-is.asks.fields

  few : length f.targets ≤ MAX_BELOW
  few =
      let targets : length f.targets ≡ length members.others = ap (λ (ts : List NodeRef). length ts) request-is.asks.targets ∙ length-map members.others ref_of in
      let all : length is-made.created ≡ length (members.first ∷ members.others) = ap (λ (ms : List NodeId). length ms) (sym is-made.members ∙ members.are) in
      omega (arith, targets, all, is-made.few)

  asks-well : IsRequest f X.stream.rule
  asks-well = record { opens = inl request-is.stage; pool = request-is.asks.pool; few = few; rule_is = request-is.asks.rule }

  block-of-f : block_of f ≡ b.0
  block-of-f = ap (λ (q : BlockId). q.0) (request-is.asks.block ∙ block-so)

  ready : (i k : ℕ) → slice_get (chain (v p commands h b c told block-so begins asks answered Z setup.Create s gives members runs none).past (u p commands h b c told block-so begins asks answered Z setup.Create s gives members runs none).next_conn f) i ≡ Some (Some k)
      → MayTake (setup_with f.stage) f X.stream.rule ((v p commands h b c told block-so begins asks answered Z setup.Create s gives members runs none).replicas k (block_of f))
  ready i k found =
      let a = aside p commands h b c told block-so begins asks answered Z setup.Create s gives members runs none in
      subst (λ (z : Option SetupKind). MayTake z f X.stream.rule ((v p commands h b c told block-so begins asks answered Z setup.Create s gives members runs none).replicas k (block_of f))) (sym request-is.stage)
      (ap (λ (y : FullReplica). y.known.info) (a.replicas k (block_of f) ∙ ap (λ (j : ℕ). w.replicas k j) block-of-f) ∙ unknown.none k)

  -- THE BYTES

  none-taken : bytes_after block [] B.taken ≡ []
  none-taken = sym B.bytes ∙ (ap (λ (k : ℕ). w.written k) (unknown-latest p.nodes p.events h.quiet b.0 unknown.entry) ∙ x.unused)

  none-written : (u p commands h b c told block-so begins asks answered Z setup.Create s gives members runs none).written ((u p commands h b c told block-so begins asks answered Z setup.Create s gives members runs none).latest b.0) ≡ []
  none-written =
      asks-written w b.0 c told block-so
      ∙ (add-none w.written s.0 (put w.latest X.block.0 s.0 b.0)
      ∙ (ap (λ (k : ℕ). w.written k) (ap (λ (i : ℕ). put w.latest i s.0 b.0) number-so ∙ put-here w.latest b.0 s.0)
      ∙ unused-are-empty p.nodes p.events s.0 (omega arith)))

  office-is : record_of (v p commands h b c told block-so begins asks answered Z setup.Create s gives members runs none).office block ≡ Some (opened X.members s)
  office-is =
      ap (λ (o : OfficeState). record_of o block) (dial-office (u p commands h b c told block-so begins asks answered Z setup.Create s gives members runs none) b.0 (n p commands h b c told block-so begins asks answered Z setup.Create s gives members runs none) members.first (r p commands h b c told block-so begins asks answered Z setup.Create s gives members runs none) (acting b.0 None) ∙ (asks-office w b.0 c told block-so ∙ after-is w.office c office_then (office.Stamp s) grants))
      ∙ subst (λ (q : BlockId). record_of office_then q ≡ Some (opened X.members s)) block-so (record_of-with_new_record_same (stamp_given w.office) X.block (opened X.members s))

  pub create-asked : Kept p commands b
  create-asked =
      opens-keep p commands h b c told block-so begins asks answered Z setup.Create s gives members runs none f request-is.asks.is X.stream.rule asks-well ready refl
      (ap (λ (z : Option SetupKind). first_reach (least_of z f.min)) request-is.stage) refl refl refl refl refl
      (written-is p commands h b c told block-so begins asks answered Z setup.Create s gives members runs none ∙ (none-written ∙ sym none-taken))
      (record {
        stream = record { all = λ _. refl; ends = λ i q found. absurd (none-some q found); within = omega arith };
        phase_is = record {
          office = record { entry = opened X.members s; is = office-is; open_is = refl };
          opens = inl refl;
          waits = waits;
          stand = open_yet;
          none = refl;
        };
      })
