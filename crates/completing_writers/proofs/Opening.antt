-- A writer that has the stamp of its pipeline dials the first member.
use Rattle.std.proofs.Common.{◌≡◌, ℕ, Bool, true, List, [], ◌∷◌, ◌++◌, length, slice_get, Option, Some, None, refl, sym, ◌∙◌, ap, subst, arith}
use Rattle.std.proofs.lemmas.List.{append-nil}
use Rattle.hd_base.specs.declared.numbers.BlockId.{BlockId}
use Rattle.hd_base.specs.declared.numbers.NodeId.{NodeId}
use Rattle.hd_base.specs.declared.numbers.Stamp.{Stamp}
use Rattle.hd_base.specs.SumRules.{Rule}
use Rattle.op_headers.specs.declared.ops.Op.{Op}
use Rattle.op_headers.specs.declared.ops.Op.TheVariants as op
use Rattle.op_headers.specs.Values.{WriteFields}
use Rattle.name_core.specs.declared.calls.OfficeCall.{OfficeCall}
use Rattle.name_core.specs.Offices.{answer_to}
use Rattle.member_core.specs.Requests.{setup_with}
use Rattle.writer_core.specs.declared.actions.Action.{Action}
use Rattle.writer_core.specs.declared.actions.Action.TheVariants as action
use Rattle.writer_core.specs.declared.commands.Command.{Command}
use Rattle.writer_core.specs.declared.intake.Intake.{Intake}
use Rattle.writer_core.specs.declared.phases.Phase.TheVariants as phase
use Rattle.writer_core.specs.declared.phases.Setup.{Setup}
use Rattle.writer_core.specs.declared.phases.Waiting.{Waiting}
use Rattle.writer_core.specs.declared.records.WriterRecord.{WriterRecord}
use Rattle.writer_core.specs.Requests.{request_for}
use Rattle.writer_core.specs.Transitions.{dial_step_as, dialled, granted}
use Rattle.world.specs.declared.events.Event.{Event}
use Rattle.world.specs.Parts.{request, Told, Writing, Said, Dialled}
use Rattle.world.specs.Worlds.{World, Change, still, start}
use Rattle.world.specs.Nodes.{block_of}
use Rattle.world.specs.Clients.{dialled_change, dialling as dials, rest_change}
use Rattle.world.specs.Events.{happens, run}
use Rattle.world_laws.specs.Placing.{Placed}
use Rattle.world_laws.proofs.OfficeSteps.{block_in}
use Rattle.world_laws.proofs.PlacedLaws.{all-placed}
use Rattle.world_laws.proofs.RunLaws.{runs-end}
use Rattle.play_completeness.specs.WorldAcks.Acking.{promised}
use Rattle.play_completeness.specs.WorldWriters.Taking.{chain}
use Rattle.play_model.specs.declared.dues.Due.TheVariants as due
use Rattle.play_model.specs.States.{PlayState, world_of}
use Rattle.play_model.specs.Dues.{acting, asking, queue_left, action_of, due_events}
use Rattle.play_completeness.specs.Complete.{bytes_after}
use Rattle.play_completeness.specs.Streams.{first_reach, reach_of}
use Rattle.play_completeness.specs.Links.{MayTake, IsRequest, Links}
use Rattle.play_completeness.specs.Writers.{WriterWell}
use Rattle.play_completeness.specs.Played.{DoneSoFar, QueueFits, BlockPlayed, Played}
use Rattle.completing_writers.proofs.Leaving.{Aside, Unsent, aside-then}
use Rattle.completing_writers.proofs.Linking.{quiet-links}
use Rattle.completing_writers.proofs.Others.{Kept, folds}
use Rattle.completing_writers.proofs.Doing.{Did, placed}
use Rattle.completing_writers.proofs.Naming.{First}
use Rattle.completing_writers.proofs.Asking.{Begins, told_world, told_writer, asks-aside, asks-unsent, asks-said, asks-running, happens-asking, happens-then, asks-then}
use Rattle.completing_writers.proofs.Dialling.{dial, new, dialling, after, dial-did, dial-conns, old-downs, new-downs, new-dialled, dials-links}

module _ (p : PlayState) (commands : ℕ → List Command) (h : Played p commands) (b : BlockId) (c : OfficeCall) (told : Told) (block : block_in c ≡ record { 0 = b.0 }) (begins : Begins (world_of p) b.0 c told block)
    (asks : action_of (world_of p) b ≡ action.Ask c) (answer : answer_to (world_of p).office c ≡ told) (Z : WriterRecord) (way : Setup) (stamp : Stamp)
    (gives : granted ((world_of p).writers b.0).known told ≡ record Z { phase = phase.Stamped way stamp }) (members : First Z.members) (runs : (world_of p).running members.first.0 ≡ true) (none : ((world_of p).writers b.0).conn ≡ None) where
  abbrev w : World
  w = world_of p

  abbrev X : WriterRecord
  X = (w.writers b.0).known

  abbrev B : BlockPlayed w b.0 (p.queues b.0) (commands b.0)
  B = h.blocks b.0

  abbrev pub u : World
  u = told_world w b.0 c told

  abbrev Y : WriterRecord
  Y = record Z { phase = phase.Stamped way stamp }

  abbrev pub n : WriterRecord
  n = record Z { phase = phase.Requested way stamp }

  abbrev pub r : Op
  r = request_for Z.block Z.committed Z.stream way stamp (length Z.members) members.others

  abbrev alone : Event
  alone = acting b.0 None

  abbrev pub v : World
  v = after u b.0 n members.first r alone

  aside-first : Aside w u b.0 (told_writer w b.0 told)
  aside-first = asks-aside w b.0 c told block begins

  unsent-first : Unsent w u
  unsent-first = asks-unsent w b.0 c told block

  first : happens w (asking b.0) ≡ u
  first = happens-asking w b.0 c told (h.quiet b.0) asks answer

  placed-then : Placed u
  placed-then = subst Placed (runs-end (start p.nodes) p.events (asking b.0) ∙ first) (all-placed p.nodes (p.events ++ asking b.0 ∷ []))

  links-then : Links u
  links-then =
      quiet-links w u b.0 (told_writer w b.0 told) (placed p commands h b) h.links aside-first unsent-first refl (λ k e. record { waits = refl; reach = refl; rule = refl })

  none-then : (u.writers b.0).conn ≡ None
  none-then = ap (λ (y : Writing). y.conn) aside-first.writer ∙ none

  -- the dial, which is answered
  abbrev change_with : WriterRecord → Change
  change_with m = record (still u) { writer_at = b.0; writer = new u b.0 m members.first r alone; dials = dial u b.0 m members.first r alone ∷ [] }

  requested : dialled Y true ≡ n
  unfolding dialled
  requested = refl

  goes : rest_change u b.0 (granted X told) true ≡ Some (dialling u b.0 n members.first r alone)
  goes =
      let running : u.running members.first.0 ≡ true = ap (λ (f : ℕ → Bool). f members.first.0) (asks-running w b.0 c told block) ∙ runs in
      ap (λ (y : WriterRecord). rest_change u b.0 y true) gives
      ∙ (ap (λ (ms : List NodeId). Some (dials u b.0 Y (dial_step_as Y way stamp ms).action true)) members.are
      ∙ (ap (λ (q : Bool). Some (dialled_change u b.0 Y members.first r q)) running
      ∙ ap (λ (m : WriterRecord). Some (change_with m)) requested))

  happened : run w (due_events w p.queues (due.Own b)) ≡ v
  happened =
      asks-then w v p.queues b c told asks first
      (happens-then u b.0 X told (dialling u b.0 n members.first r alone) (ap (λ (y : Writing). y.known) aside-first.writer) (ap (λ (y : Writing). y.told) aside-first.writer) goes)

  abbrev pub now : Writing
  now = new u b.0 n members.first r alone

  pub did : Did u v b.0 now [] []
  did = dial-did u b.0 n members.first r alone

  pub aside : Aside w v b.0 now
  aside = aside-then w u v b.0 (told_writer w b.0 told) now unsent-first aside-first did.aside

  said-same : v.said b.0 ≡ w.said b.0
  said-same = did.answered ∙ (append-nil (u.said b.0) ∙ asks-said w b.0 c told block)

  pub written-is : v.written (v.latest b.0) ≡ u.written (u.latest b.0)
  written-is = did.wrote ∙ append-nil (u.written (u.latest b.0))

  -- the first member is at the new connection's lower end
  pub to-first : (v.dialled u.next_conn).to.node ≡ members.first.0
  to-first = ap (λ (d : Dialled). d.to.node) (new-dialled u b.0 n members.first r alone)

  -- what was done of the block's commands
  opens-block : n.taken ≡ X.taken → n.intake ≡ X.intake → n.members ≡ X.members → n.waiting ≡ X.waiting → v.written (v.latest b.0) ≡ bytes_after (record { 0 = b.0 }) [] B.taken → BlockPlayed v b.0 (p.queues b.0) (commands b.0)
  opens-block taken intake same waits bytes =
      let is : (v.writers b.0).known ≡ n = ap (λ (z : Writing). z.known) aside.writer in
      record {
        taken = B.taken;
        are = B.are;
        writes = B.writes;
        number = ap (λ (z : WriterRecord). z.taken) is ∙ (taken ∙ B.number);
        stand = ap (λ (z : WriterRecord). z.intake.stand) is ∙ (ap (λ (z : Intake). z.stand) intake ∙ B.stand);
        members = λ i created e. ap (λ (z : WriterRecord). z.members) is ∙ (same ∙ B.members i created e);
        answers = subst (λ (z : WriterRecord). DoneSoFar B.taken (v.said b.0) z.waiting) (sym is)
            (subst (λ (o : Option Waiting). DoneSoFar B.taken (v.said b.0) o) (sym waits)
            (subst (λ (l : List Said). DoneSoFar B.taken l X.waiting) (sym said-same) B.answers));
        bytes = bytes;
        queued = subst (λ (z : WriterRecord). QueueFits v.nodes z.intake (p.queues b.0)) (sym is)
            (subst (λ (i : Intake). QueueFits v.nodes i (p.queues b.0)) (sym intake)
            (subst (λ (k : ℕ). QueueFits k X.intake (p.queues b.0)) (sym aside.nodes) B.queued));
      }

  -- The play, where the request may be taken.
  pub opens-keep : (f : WriteFields) → r ≡ op.Write f → (rule : Rule) → IsRequest f rule → ((i k : ℕ) → slice_get (chain v.past u.next_conn f) i ≡ Some (Some k) → MayTake (setup_with f.stage) f rule (v.replicas k (block_of f)))
      → n.stream.unacked ≡ [] → first_reach (promised f) ≡ reach_of n → n.stream.rule ≡ rule → n.taken ≡ X.taken → n.intake ≡ X.intake → n.members ≡ X.members → n.waiting ≡ X.waiting
      → v.written (v.latest b.0) ≡ bytes_after (record { 0 = b.0 }) [] B.taken → WriterWell v b.0 n → Kept p commands b
  opens-keep f is rule request_is ready unacked reach ruled taken intake same waits bytes well =
      let m : NodeId = members.first in
      let downs : v.downs u.next_conn ≡ request (op.Write f) ∷ [] =
      new-downs u b.0 n m r alone (placed-then.undialled u.next_conn (omega arith)).downs ∙ ap (λ (o : Op). request o ∷ []) is in
      let links : Links v =
      dials-links u v placed-then links-then b.0 now did.aside none-then refl (dial-conns u b.0 n m r alone) (old-downs u b.0 n m r alone) f downs (ap (λ (d : Dialled). d.upper) (new-dialled u b.0 n m r alone)) rule request_is ready unacked reach ruled in
      folds p commands h b v now happened aside links well
      (subst (λ (a : Action). BlockPlayed v b.0 (queue_left a (p.queues b.0)) (commands b.0)) (sym asks) (opens-block taken intake same waits bytes))
