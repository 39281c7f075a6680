-- A writer whose packets are all acked completes its block, and answers the close.
use Rattle.std.proofs.Common.{◌≡◌, ℕ, ◌≤◌, true, false, List, [], ◌∷◌, length, Option, Some, None, IfSome, Ok, refl, sym, ◌∙◌, ap, subst, arith, inr}
use Rattle.std.proofs.lemmas.Bool.{false≢true}
use Rattle.std.proofs.lemmas.List.{append-nil}
use Rattle.std.proofs.lemmas.Option.{none-some}
use Rattle.hd_base.specs.declared.numbers.BlockId.{BlockId}
use Rattle.hd_base.specs.declared.numbers.Stamp.{Stamp}
use Rattle.name_core.specs.declared.calls.OfficeAnswer.TheVariants as office
use Rattle.name_core.specs.declared.calls.OfficeCall.{OfficeCall}
use Rattle.name_core.specs.declared.calls.OfficeCall.TheVariants as call
use Rattle.name_core.specs.declared.records.BlockRecord.{BlockRecord}
use Rattle.name_core.specs.Offices.{OfficeState, record_of, with_record}
use Rattle.name_core.proofs.BlockLemmas.{record_of-with_record_same}
use Rattle.packet_stream.specs.Streams.{written_in}
use Rattle.replica_model.specs.Rows.{FullReplica}
use Rattle.writer_core.specs.declared.actions.Action.{Action}
use Rattle.writer_core.specs.declared.actions.Action.TheVariants as action
use Rattle.writer_core.specs.declared.actions.ClientAnswer.TheVariants as answer
use Rattle.writer_core.specs.declared.commands.Command.{Command}
use Rattle.writer_core.specs.declared.commands.Command.TheVariants as command
use Rattle.writer_core.specs.declared.intake.Stand.{Stand}
use Rattle.writer_core.specs.declared.intake.Stand.TheVariants as stand
use Rattle.writer_core.specs.Commands.{is_unmade, is_open}
use Rattle.writer_core.specs.declared.phases.Phase.{Phase}
use Rattle.writer_core.specs.declared.phases.Phase.TheVariants as phase
use Rattle.writer_core.specs.declared.phases.Waiting.TheVariants as waiting
use Rattle.writer_core.specs.declared.records.WriterRecord.{WriterRecord}
use Rattle.writer_core.specs.Transitions.{step_in, own_step, ordinal, granted, granted_in, is_connected}
use Rattle.world.specs.Parts.{Told, Writing}
use Rattle.world.specs.Worlds.{World, Change, apply}
use Rattle.world.specs.Clients.{writing_as, rest_change}
use Rattle.world.specs.Events.{run}
use Rattle.play_completeness.specs.WorldFinals.Finishing.{WriterEnds}
use Rattle.play_completeness.proofs.WorldFinals.AllFinal.{all-final}
use Rattle.play_model.specs.declared.dues.Due.TheVariants as due
use Rattle.play_model.specs.States.{PlayState, world_of}
use Rattle.play_model.specs.Dues.{acting, queue_left, action_of, due_events}
use Rattle.play_completeness.proofs.PlayLaws.Commanding.{unmade-fresh}
use Rattle.play_completeness.proofs.PlayLaws.Resting.{all-rest}
use Rattle.play_completeness.specs.Complete.{is_done}
use Rattle.play_completeness.specs.Plain.{IsLeased}
use Rattle.play_completeness.specs.Links.{IsFinalWith, Links}
use Rattle.play_completeness.specs.Writers.{IsClosed, RestsWell, FinishesWell}
use Rattle.play_completeness.specs.Played.{IsOf, BlockPlayed, Played}
use Rattle.play_completeness.proofs.TurnWorld.{named}
use Rattle.completing_writers.proofs.Leaving.{Aside, Unsent, add-none, unsent-then}
use Rattle.completing_writers.proofs.Linking.{quiet-links}
use Rattle.completing_writers.proofs.Others.{Kept, folds}
use Rattle.completing_writers.proofs.Doing.{Did, Stepped, same-conn, answering, answering-steps, answering-unsent, placed}
use Rattle.completing_writers.proofs.Answering.{answered-block}
use Rattle.completing_writers.proofs.Known.{heard-is, block-is, agrees, finished-whole}
use Rattle.completing_writers.proofs.Asking.{told_world, told_writer, asks-aside, asks-unsent, asks-office, asks-said, asks-written, happens-asking, happens-then, asks-then, did-then}
use Rattle.completing_writers.proofs.Granting.{IsGranted, after-is, answer-is, complete-granted}

shut-is : (s : Stand) → is_open s ≡ false → (s ≡ stand.Unmade → ⊥) → s ≡ stand.Closed
shut-is stand.Unmade e made = absurd (made refl)
shut-is stand.Open e made = absurd (false≢true (sym e))
shut-is stand.Closed e made = refl

module _ (p : PlayState) (commands : ℕ → List Command) (h : Played p commands) (b : BlockId) (at : ((world_of p).writers b.0).known.phase ≡ phase.Finished) (well : FinishesWell (world_of p) b.0 ((world_of p).writers b.0).known) where
  abbrev w : World
  w = world_of p

  abbrev X : WriterRecord
  X = (w.writers b.0).known

  abbrev r : BlockRecord
  r = well.office.entry

  abbrev block : BlockId
  block = record { 0 = b.0 }

  -- the office's record of the block, with no recovery
  leased : IsLeased r
  leased = subst (λ (o : Option BlockRecord). IfSome o IsLeased) well.office.is (h.peaceful.leases b.0)

  abbrev c : OfficeCall
  c = call.Complete X.block X.committed (written_in X.stream)

  abbrev shut : BlockRecord
  shut = record r { is_open = false; length = written_in X.stream }

  block-so : X.block ≡ block
  block-so = block-is p.nodes p.events h.quiet b.0

  grants : IsGranted w.office c (with_record w.office block shut) office.Nothing
  grants =
      let stamp : r.committed.0 ≤ X.committed.0 = subst (λ (s : Stamp). s.0 ≤ X.committed.0) (agrees p.nodes p.events h.quiet b.0 r well.office.is leased.free) (omega arith) in
      subst (λ (q : BlockId). IsGranted w.office (call.Complete q X.committed (written_in X.stream)) (with_record w.office block shut) office.Nothing) (sym block-so)
      (complete-granted w.office block r X.committed (written_in X.stream) well.office.is leased.free well.office.open_is stamp)

  abbrev told : Told
  told = Ok office.Nothing

  abbrev u : World
  u = told_world w b.0 c told

  aside : Aside w u b.0 (told_writer w b.0 told)
  aside = asks-aside w b.0 c told block-so (record { others = λ n other. add-none w.written 0 (w.latest n); unused = add-none w.written 0 0 })

  unsent : Unsent w u
  unsent = asks-unsent w b.0 c told block-so

  -- the writer once it has answered
  abbrev n : WriterRecord
  n = record X { waiting = None; phase = phase.Closed }

  no-conn : (w.writers b.0).conn ≡ None
  no-conn = (all-rest p.nodes p.events b.0).alone (ap is_connected at)

  conn-then : (u.writers b.0).conn ≡ None
  conn-then = ap (λ (y : Writing). y.conn) aside.writer ∙ no-conn

  abbrev k : Change
  k = answering u b.0 n (inr conn-then) (acting b.0 None) (ordinal X) (answer.Reached (written_in X.stream) X.committed X.members) X.waiting

  abbrev v : World
  v = named (acting b.0 None) (apply u k)

  completes : granted X told ≡ record X { phase = phase.Completed }
  unfolding granted
  completes = ap (λ (q : Phase). granted_in X q office.Nothing) at

  goes : rest_change u b.0 (granted X told) true ≡ Some k
  goes = ap (λ (y : WriterRecord). rest_change u b.0 y true) completes

  asks : action_of w b ≡ action.Ask c
  unfolding own_step
  asks = ap (λ (q : Phase). (step_in X q).action) at

  abbrev new : Writing
  new = writing_as n (u.writers b.0).conn

  happened : run w (due_events w p.queues (due.Own b)) ≡ v
  happened =
      asks-then w v p.queues b c told asks (happens-asking w b.0 c told (h.quiet b.0) asks (answer-is w.office c (with_record w.office block shut) office.Nothing grants))
      (happens-then u b.0 X told k (ap (λ (y : Writing). y.known) aside.writer) (ap (λ (y : Writing). y.told) aside.writer) goes)

  steps : Stepped u v b.0 new (record { ordinal = ordinal X; answer = answer.Reached (written_in X.stream) X.committed X.members } ∷ []) []
  steps = answering-steps u b.0 n (inr conn-then) (acting b.0 None) (ordinal X) (answer.Reached (written_in X.stream) X.committed X.members) X.waiting

  did : Did w v b.0 new (record { ordinal = ordinal X; answer = answer.Reached (written_in X.stream) X.committed X.members } ∷ []) []
  did = did-then w u v b.0 (told_writer w b.0 told) new _ unsent aside (asks-said w b.0 c told block-so) (asks-written w b.0 c told block-so ∙ add-none w.written 0 (w.latest b.0)) steps.did

  unsent-all : Unsent w v
  unsent-all = unsent-then w u v unsent (answering-unsent u b.0 n (inr conn-then) (acting b.0 None) (ordinal X) (answer.Reached (written_in X.stream) X.committed X.members) X.waiting)

  links-now : Links v
  links-now =
      quiet-links w v b.0 new (placed p commands h b) h.links did.aside unsent-all (same-conn phase.Closed (u.writers b.0).conn (inr conn-then) ∙ (conn-then ∙ sym no-conn))
      (λ i e. absurd (none-some i (sym no-conn ∙ e)))

  -- THE BLOCK

  -- the block is closed for commands, since the close was taken
  stands : X.intake.stand ≡ stand.Closed
  stands =
      let ends : WriterEnds X = subst WriterEnds (heard-is p.nodes p.events h.quiet b.0) ((all-final p.nodes p.events).writers b.0) in
      shut-is X.intake.stand (ends.shut well.waits) (λ e. no-phase (sym at ∙ ap (λ (x : WriterRecord). x.phase) (unmade-fresh p.nodes p.events b.0 (ap is_unmade e))))
    where
      no-phase : phase.Finished ≡ phase.Closed → ⊥
      no-phase e = cc

  written-same : v.written (v.latest b.0) ≡ w.written (w.latest b.0)
  written-same = did.wrote ∙ append-nil (w.written (w.latest b.0))

  closed : IsClosed v b.0 n
  closed = record {
    office = record {
      entry = shut;
      is = ap (λ (o : OfficeState). record_of o block) (steps.office ∙ (asks-office w b.0 c told block-so ∙ after-is w.office c (with_record w.office block shut) office.Nothing grants)) ∙ record_of-with_record_same w.office block r shut well.office.is;
      shut = refl;
      length_is = refl;
    };
    all = ap (λ (l : List ℕ). length l) written-same ∙ finished-whole p.nodes p.events h.quiet b.0 r well.office.is at;
    members = record { each = λ m has. subst (λ (y : FullReplica). IsFinalWith X.committed (written_in X.stream) X.stream.rule y) (sym (did.aside.replicas m.0 b.0)) (well.members.each m has) };
  }

  reached-close : (d : Command) → IsOf waiting.Close d → is_done d (answer.Reached (written_in X.stream) X.committed X.members) ≡ true
  reached-close command.Close o = refl
  reached-close (command.Create ms) o = absurd o
  reached-close (command.Append ms) o = absurd o
  reached-close (command.Write bytes) o = absurd o
  reached-close (command.Fill i) o = absurd o
  reached-close command.Hflush o = absurd o
  reached-close command.Hsync o = absurd o

  pub close-answered : Kept p commands b
  close-answered =
      folds p commands h b v new happened did.aside links-now
      (record { stream = record { all = (h.writers b.0).stream.all; ends = (h.writers b.0).stream.ends; within = (h.writers b.0).stream.within }; phase_is = (refl, subst (RestsWell v b.0 n) (sym stands) closed) })
      (subst (λ (x : Action). BlockPlayed v b.0 (queue_left x (p.queues b.0)) (commands b.0)) (sym asks)
      (answered-block p commands h b v n waiting.Close (answer.Reached (written_in X.stream) X.committed X.members) well.waits refl refl refl refl reached-close
      (record { aside = subst (λ (y : Writing). Aside w v b.0 y) same-new did.aside; answered = did.answered; wrote = did.wrote })))
    where
      same-new : new ≡ writing_as n (w.writers b.0).conn
      same-new = ap (λ (o : Option ℕ). writing_as n o) (conn-then ∙ sym no-conn)
