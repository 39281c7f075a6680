-- A writer whose append was accepted commits its stamp, and answers the append.
use Rattle.std.proofs.Common.{◌≡◌, ℕ, ◌<◌, true, List, [], ◌∷◌, length, Option, Some, None, IfSome, Ok, refl, sym, ◌∙◌, ap, subst, inl}
use Rattle.hd_base.specs.declared.numbers.BlockId.{BlockId}
use Rattle.hd_base.specs.declared.numbers.Stamp.{Stamp}
use Rattle.name_core.specs.declared.calls.OfficeAnswer.TheVariants as office
use Rattle.name_core.specs.declared.calls.OfficeCall.{OfficeCall}
use Rattle.name_core.specs.declared.calls.OfficeCall.TheVariants as call
use Rattle.name_core.specs.declared.records.BlockRecord.{BlockRecord}
use Rattle.name_core.specs.Offices.{OfficeState, record_of, with_record}
use Rattle.name_core.proofs.BlockLemmas.{record_of-with_record_same}
use Rattle.packet_codec.specs.declared.packets.Packet.{Packet}
use Rattle.writer_core.specs.declared.actions.Action.{Action}
use Rattle.writer_core.specs.declared.actions.Action.TheVariants as action
use Rattle.writer_core.specs.declared.actions.ClientAnswer.TheVariants as answer
use Rattle.writer_core.specs.declared.commands.Command.{Command}
use Rattle.writer_core.specs.declared.commands.Command.TheVariants as command
use Rattle.writer_core.specs.declared.phases.Phase.{Phase}
use Rattle.writer_core.specs.declared.phases.Phase.TheVariants as phase
use Rattle.writer_core.specs.declared.phases.Setup.TheVariants as setup
use Rattle.writer_core.specs.declared.phases.Waiting.TheVariants as waiting
use Rattle.writer_core.specs.declared.records.WriterRecord.{WriterRecord}
use Rattle.writer_core.specs.Transitions.{step_in, own_step, ordinal, granted, granted_in}
use Rattle.world.specs.Parts.{Told, Writing}
use Rattle.world.specs.Worlds.{World, Change, apply}
use Rattle.world.specs.Clients.{writing_as, rest_change}
use Rattle.world.specs.Events.{run}
use Rattle.play_model.specs.declared.dues.Due.TheVariants as due
use Rattle.play_model.specs.States.{PlayState, world_of}
use Rattle.play_model.specs.Dues.{acting, queue_left, action_of, due_events}
use Rattle.play_completeness.specs.Complete.{is_done}
use Rattle.play_completeness.specs.Plain.{IsLeased}
use Rattle.play_completeness.specs.Streams.{reach_formed}
use Rattle.play_completeness.specs.Links.{Links}
use Rattle.play_completeness.specs.Writers.{OpensWell}
use Rattle.play_completeness.specs.Played.{IsOf, BlockPlayed, Played}
use Rattle.play_completeness.proofs.TurnWorld.{named}
use Rattle.completing_writers.proofs.Leaving.{Aside, Unsent, add-none, unsent-then}
use Rattle.completing_writers.proofs.Linking.{quiet-links}
use Rattle.completing_writers.proofs.Others.{Kept, folds}
use Rattle.completing_writers.proofs.Doing.{Did, Stepped, answering, answering-steps, answering-unsent, placed}
use Rattle.completing_writers.proofs.Answering.{answered-block}
use Rattle.completing_writers.proofs.Known.{block-is, agrees}
use Rattle.completing_writers.proofs.Asking.{told_world, told_writer, asks-aside, asks-unsent, asks-office, asks-said, asks-written, happens-asking, happens-then, asks-then, did-then}
use Rattle.completing_writers.proofs.Granting.{IsGranted, after-is, answer-is, commit-granted}
use Rattle.completing_writers.proofs.RisingSteps.{RisesIn}
use Rattle.completing_writers.proofs.Rising.{all-rising}

module _ (p : PlayState) (commands : ℕ → List Command) (h : Played p commands) (b : BlockId) (stamp : Stamp) (at : ((world_of p).writers b.0).known.phase ≡ phase.Accepted setup.Append stamp) (well : OpensWell (world_of p) b.0 ((world_of p).writers b.0).known setup.Append) where
  abbrev w : World
  w = world_of p

  abbrev X : WriterRecord
  X = (w.writers b.0).known

  abbrev r : BlockRecord
  r = well.office.entry

  abbrev block : BlockId
  block = record { 0 = b.0 }

  leased : IsLeased r
  leased = subst (λ (o : Option BlockRecord). IfSome o IsLeased) well.office.is (h.peaceful.leases b.0)

  abbrev c : OfficeCall
  c = call.Commit X.block stamp X.members

  abbrev after : BlockRecord
  after = record r { committed = stamp; members = X.members }

  block-so : X.block ≡ block
  block-so = block-is p.nodes p.events h.quiet b.0

  -- the stamp is later than the committed one
  rises : r.committed.0 < stamp.0
  rises =
      let known : X.committed.0 < stamp.0 = subst (λ (q : Phase). RisesIn X.committed q) at (all-rising p.nodes p.events h.plain b.0).known in
      subst (λ (z : Stamp). z.0 < stamp.0) (agrees p.nodes p.events h.quiet b.0 r well.office.is leased.free) known

  grants : IsGranted w.office c (with_record w.office block after) office.Nothing
  grants =
      subst (λ (q : BlockId). IsGranted w.office (call.Commit q stamp X.members) (with_record w.office block after) office.Nothing) (sym block-so)
      (commit-granted w.office block r stamp X.members well.office.is leased.free well.office.open_is rises)

  abbrev told : Told
  told = Ok office.Nothing

  abbrev u : World
  u = told_world w b.0 c told

  aside : Aside w u b.0 (told_writer w b.0 told)
  aside = asks-aside w b.0 c told block-so (record { others = λ n other. add-none w.written 0 (w.latest n); unused = add-none w.written 0 0 })

  unsent : Unsent w u
  unsent = asks-unsent w b.0 c told block-so

  -- the writer once it has answered
  abbrev n : WriterRecord
  n = record X { committed = stamp; waiting = None; phase = phase.Streaming 0 }

  conn-then : (u.writers b.0).conn ≡ (w.writers b.0).conn
  conn-then = ap (λ (y : Writing). y.conn) aside.writer

  abbrev k : Change
  k = answering u b.0 n (inl refl) (acting b.0 None) (ordinal X) (answer.Granted stamp) X.waiting

  abbrev v : World
  v = named (acting b.0 None) (apply u k)

  opens : granted X told ≡ record X { committed = stamp; phase = phase.Opened }
  unfolding granted
  opens = ap (λ (q : Phase). granted_in X q office.Nothing) at

  goes : rest_change u b.0 (granted X told) true ≡ Some k
  goes = ap (λ (y : WriterRecord). rest_change u b.0 y true) opens

  asks : action_of w b ≡ action.Ask c
  unfolding own_step
  asks = ap (λ (q : Phase). (step_in X q).action) at

  abbrev new : Writing
  new = writing_as n (u.writers b.0).conn

  happened : run w (due_events w p.queues (due.Own b)) ≡ v
  happened =
      asks-then w v p.queues b c told asks (happens-asking w b.0 c told (h.quiet b.0) asks (answer-is w.office c (with_record w.office block after) office.Nothing grants))
      (happens-then u b.0 X told k (ap (λ (y : Writing). y.known) aside.writer) (ap (λ (y : Writing). y.told) aside.writer) goes)

  steps : Stepped u v b.0 new (record { ordinal = ordinal X; answer = answer.Granted stamp } ∷ []) []
  steps = answering-steps u b.0 n (inl refl) (acting b.0 None) (ordinal X) (answer.Granted stamp) X.waiting

  did : Did w v b.0 new (record { ordinal = ordinal X; answer = answer.Granted stamp } ∷ []) []
  did = did-then w u v b.0 (told_writer w b.0 told) new _ unsent aside (asks-said w b.0 c told block-so) (asks-written w b.0 c told block-so ∙ add-none w.written 0 (w.latest b.0)) steps.did

  links-now : Links v
  links-now =
      quiet-links w v b.0 new (placed p commands h b) h.links did.aside (unsent-then w u v unsent (answering-unsent u b.0 n (inl refl) (acting b.0 None) (ordinal X) (answer.Granted stamp) X.waiting))
      conn-then (λ i e. record { waits = refl; reach = sym (ap (λ (q : Phase). reach_formed q X.stream) at); rule = refl })

  -- THE BLOCK

  grants-append : (d : Command) → IsOf waiting.Opening d → is_done d (answer.Granted stamp) ≡ true
  grants-append (command.Create ms) o = refl
  grants-append (command.Append ms) o = refl
  grants-append (command.Write bytes) o = absurd o
  grants-append (command.Fill i) o = absurd o
  grants-append command.Hflush o = absurd o
  grants-append command.Hsync o = absurd o
  grants-append command.Close o = absurd o

  office-is : record_of v.office block ≡ Some after
  office-is =
      ap (λ (o : OfficeState). record_of o block) (steps.office ∙ (asks-office w b.0 c told block-so ∙ after-is w.office c (with_record w.office block after) office.Nothing grants))
      ∙ record_of-with_record_same w.office block r after well.office.is

  pub append-committed : Kept p commands b
  append-committed =
      folds p commands h b v new happened did.aside links-now
      (record {
        stream = (h.writers b.0).stream;
        phase_is = record {
          office = record { entry = after; is = office-is; open_is = well.office.open_is };
          sent_all = sym (ap (λ (xs : List Packet). length xs) well.none);
          waits = tt;
          stand = λ _. well.stand;
        };
      })
      (subst (λ (x : Action). BlockPlayed v b.0 (queue_left x (p.queues b.0)) (commands b.0)) (sym asks)
      (answered-block p commands h b v n waiting.Opening (answer.Granted stamp) well.waits refl refl refl refl grants-append
      (record { aside = subst (λ (y : Writing). Aside w v b.0 y) (ap (λ (o : Option ℕ). writing_as n o) conn-then) did.aside; answered = did.answered; wrote = did.wrote })))
