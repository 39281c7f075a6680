-- A writer takes what stands next on its connection, and is as it should be then.
use Rattle.std.proofs.Common.{◌≡◌, ℕ, ◌≤◌, true, false, List, [], ◌∷◌, ◌++◌, slice_get, Option, Some, refl, sym, ◌∙◌, ap, subst}
use Rattle.std.proofs.lemmas.Option.{none-some}
use Rattle.hd_base.specs.SumRules.{Rule}
use Rattle.hd_base.specs.declared.numbers.ConnId.{ConnId}
use Rattle.hd_base.specs.declared.numbers.NodeId.{NodeId}
use Rattle.hd_base.specs.declared.numbers.Stamp.{Stamp}
use Rattle.hd_base.specs.declared.roads.TheConstants.{MAX_NODES}
use Rattle.ack_codec.specs.declared.acks.Ack.{Ack}
use Rattle.ack_codec.specs.declared.responses.Response.{Response}
use Rattle.name_core.specs.declared.records.BlockRecord.{BlockRecord}
use Rattle.name_core.specs.Offices.{OfficeState, record_of}
use Rattle.packet_codec.specs.declared.packets.Packet.{Packet}
use Rattle.packet_stream.specs.Streams.{written_in}
use Rattle.replica_model.specs.Rows.{FullReplica}
use Rattle.writer_core.specs.declared.phases.Phase.{Phase}
use Rattle.writer_core.specs.declared.phases.Phase.TheVariants as phase
use Rattle.writer_core.specs.declared.phases.Setup.{Setup}
use Rattle.writer_core.specs.declared.records.WriterRecord.{WriterRecord}
use Rattle.writer_core.specs.Transitions.{acked, is_connected}
use Rattle.world.specs.declared.events.Event.{Event}
use Rattle.world.specs.declared.events.Event.TheVariants as event
use Rattle.world.specs.Parts.{Message, ack, response, by_writer, Writing}
use Rattle.world.specs.Worlds.{World, start}
use Rattle.world.specs.Connections.{Next, message, the_end, next_up}
use Rattle.world.specs.Clients.{named_member, writing_as, writer_hears}
use Rattle.world.specs.Events.{happens, run}
use Rattle.world_laws.specs.Stamping.{Givens, none_given, given_in, known_heard, heard, InPhase, Entries, HeldOf}
use Rattle.world_laws.proofs.AllRecorded.{all-recorded}
use Rattle.world_laws.proofs.PlacedLaws.{all-placed}
use Rattle.world_laws.proofs.RunLaws.{runs-end}
use Rattle.world_orders.specs.Orders.{pipeline, comes_up, is_requested}
use Rattle.world_orders.proofs.AllOrdered.{all-ordered, next-found}
use Rattle.world_orders.proofs.Takes.{takes-in-order}
use Rattle.play_model.specs.declared.dues.Due.TheVariants as due
use Rattle.play_model.specs.Laws.{IsQuiet}
use Rattle.play_scripts.specs.PlayLaws.Members.{IsNode, EventNames, AllName}
use Rattle.play_scripts.proofs.PlayLaws.Early.{nothing-early}
use Rattle.play_scripts.proofs.PlayLaws.Resting.{all-rest}
use Rattle.play_scripts.proofs.PlayLaws.Untold.{stays-quiet}
use Rattle.play_completeness.specs.Formed.{Formed, HasRule, AllHave, Ruled}
use Rattle.play_completeness.specs.Links.{IsFinalWith, InPipeline, Links}
use Rattle.play_completeness.specs.Plain.{is_plain, ArePlain}
use Rattle.play_completeness.specs.Writers.{IsOpened, AreWhole, OpensWell, StreamsWell, WellIn, Writers}
use Rattle.play_completeness.proofs.AckKeeps.{HeardWell, answer-heard, ack-heard}
use Rattle.play_completeness.proofs.Finals.{member-whole}
use Rattle.play_completeness.proofs.UpSteps.{ack-only, response-only}
use Rattle.play_completeness.proofs.WriterHearing.{members-are, no-writer-end}
use Rattle.play_completeness.proofs.WriterKeeps.{WriterHeard, heard_as, writer-heard}
use Rattle.play_completeness.proofs.WriterUps.{is_acked_in, acked_so, answered-is, split, acked-as, rule-stays}

-- ONE EVENT MORE

pub plain-more : (events : List Event) (e : Event) → ArePlain events → is_plain e ≡ true → ArePlain (events ++ e ∷ [])
plain-more [] e h k = (k, tt)
plain-more (x ∷ events) e h k = (h.0, plain-more events e h.1 k)

pub names-more : (Of : NodeId → Type 0) (events : List Event) (e : Event) → AllName Of events → EventNames Of e → AllName Of (events ++ e ∷ [])
names-more Of [] e h k = (k, tt)
names-more Of (x ∷ events) e h k = (h.0, names-more Of events e h.1 k)

module _ (nodes : ℕ) (events : List Event) (few : nodes ≤ MAX_NODES) (plain : ArePlain events) (names : AllName (IsNode nodes) events) (quiet : IsQuiet (run (start nodes) events)) (links : Links (run (start nodes) events)) (well : Writers (run (start nodes) events))
    (formed : Formed (run (start nodes) events)) (ruled : Ruled (run (start nodes) events)) (b : ℕ) (c : ConnId) (lc : InPipeline (run (start nodes) events) c.0) (upper : ((run (start nodes) events).dialled c.0).upper ≡ by_writer b) (conn : ((run (start nodes) events).writers b).conn ≡ Some c.0) where
  abbrev w : World
  w = run (start nodes) events

  abbrev X : WriterRecord
  X = (w.writers b).known

  abbrev e : Event
  e = event.Up c

  -- In a stream the last packet wasn't formed.
  none-last : (n : ℕ) → X.phase ≡ phase.Streaming n → StreamsWell w b X n → (p : Packet) → slice_get X.stream.unacked 0 ≡ Some p → p.last ≡ false
  none-last n at h p found =
      let g : Givens = given_in none_given (start nodes) events in
      let known : heard (w.writers b) ≡ X = ap (known_heard X) (quiet b) in
      let held : Entries (g b) (w.latest b) h.office.entry X =
      subst (λ (y : WriterRecord). HeldOf (g b) (w.latest b) (Some h.office.entry) y) known (subst (λ (o : Option BlockRecord). HeldOf (g b) (w.latest b) o (heard (w.writers b))) h.office.is ((all-recorded nodes events).blocks b)) in
      let fits : InPhase (g b) (w.latest b) h.office.entry.recovery X.committed X.waiting X.stream.unacked (phase.Streaming n) =
      subst (λ (q : Phase). InPhase (g b) (w.latest b) h.office.entry.recovery X.committed X.waiting X.stream.unacked q) at held.writer.fits in
      fits.1.none 0 p found

  -- WITH THE ACK OF THE LAST PACKET

  module _ (y : Message) (is : happens w (event.Up c) ≡ heard_as w b c.0 (message y) (acked_so X true) (event.Up c)) (office : IsOpened w b) where
    abbrev u : World
    u = heard_as w b c.0 (message y) (acked_so X true) e

    t : WriterHeard w u b (writing_as (acked_so X true) (w.writers b).conn)
    t = writer-heard w b c.0 (message y) (acked_so X true) e

    abbrev v : World
    v = run (start nodes) (events ++ e ∷ [])

    same : u ≡ v
    same = sym (runs-end (start nodes) events e ∙ is)

    own-rules : (X.stream.rule ≡ (acked_so X true).stream.rule) → AllHave u b (u.writers b).known.stream.rule
    own-rules r =
        subst (λ (z : Writing). AllHave u b z.known.stream.rule) (sym t.writer)
        (subst (λ (z : Rule). AllHave u b z) r (record { each = λ n. subst (λ (k : FullReplica). HasRule X.stream.rule k) (sym (t.replicas n b)) ((ruled b).each n) }))

    whole-after : (X.stream.rule ≡ (acked_so X true).stream.rule) → AreWhole v b (v.writers b).known
    whole-after r =
        let quiet_on : IsQuiet v = subst IsQuiet (sym (runs-end (start nodes) events e)) (stays-quiet w (λ _. []) (due.Up c) quiet) in
        let finished : (v.writers b).known.phase ≡ phase.Finished = subst (λ (z : World). (z.writers b).known.phase ≡ phase.Finished) same (ap (λ (z : Writing). z.known.phase) t.writer) in
        let entry : record_of v.office (record { 0 = b }) ≡ Some office.entry = subst (λ (z : World). record_of z.office (record { 0 = b }) ≡ Some office.entry) same (ap (λ (o : OfficeState). record_of o (record { 0 = b })) t.office ∙ office.is) in
        let rules : AllHave v b (v.writers b).known.stream.rule = subst (λ (z : World). AllHave z b (z.writers b).known.stream.rule) same (own-rules r) in
        record {
          each = λ m has. member-whole nodes (events ++ e ∷ []) few (plain-more events e plain refl) (names-more (IsNode nodes) events e names tt) quiet_on b finished office.entry entry m has (v.writers b).known.stream.rule (rules.each m.0);
        }

    pub whole-now : (X.stream.rule ≡ (acked_so X true).stream.rule) → AreWhole w b (acked_so X true)
    whole-now r =
        let there : AreWhole u b (u.writers b).known = subst (λ (z : World). AreWhole z b (z.writers b).known) (sym same) (whole-after r) in
        let here : AreWhole u b (acked_so X true) = subst (λ (z : Writing). AreWhole u b z.known) t.writer there in
        record {
          each = λ m has.
              subst (λ (k : FullReplica). IsFinalWith (acked_so X true).committed (written_in (acked_so X true).stream) (acked_so X true).stream.rule k) (t.replicas m.0 b) (here.each m has);
        }

  -- WHAT IT TAKES

  -- the writer after a message, where that happens
  abbrev Hears : Message → Type 0
  Hears y = happens w (event.Up c) ≡ heard_as w b c.0 (message y) (writer_hears X (message y)) (event.Up c) → HeardWell w b X (writer_hears X (message y))

  hears-answer : (r : Response) → slice_get (w.ups c.0) (w.up_marks c.0).taken ≡ Some (response r) → (s : Setup) (stamp : Stamp) → X.phase ≡ phase.Requested s stamp → OpensWell w b X s → Hears (response r)
  hears-answer r found s stamp at h is =
      subst (λ (n : WriterRecord). HeardWell w b X n) (sym (answered-is X r (named_member X.members r.first_bad) s stamp at ((links c.0 lc).ups (w.up_marks c.0).taken (response r) found)))
      (answer-heard w b X s stamp (well b).stream (formed b) h)

  hears-ack : (a : Ack) → slice_get (w.ups c.0) (w.up_marks c.0).taken ≡ Some (ack a) → (q : Phase) → X.phase ≡ q → is_acked_in q ≡ true → is_connected q ≡ true → WellIn w b X q → ((n : ℕ) → q ≡ phase.Streaming n → StreamsWell w b X n)
      → IsOpened w b → Hears (ack a)
  hears-ack a found q at taking connected h streams office is =
      let o = all-ordered nodes events in
      let placed = all-placed nodes events in
      let takes : is_acked_in X.phase ≡ true = ap is_acked_in at ∙ taking in
      let parts = split w o placed links b c.0 e conn lc upper a found takes in
      let members = members-are nodes events quiet links well b c.0 e lc upper conn (ap is_connected at ∙ connected) in
      let made : acked X a ≡ acked_so X parts.0.last = acked-as w o placed links b c.0 e conn lc upper a found takes members in
      let first : slice_get X.stream.unacked 0 ≡ Some parts.0 = ap (λ (ps : List Packet). slice_get ps 0) parts.2 in
      let rule : X.stream.rule ≡ (acked_so X true).stream.rule = sym (rule-stays X parts.0 parts.1 parts.2) in
      subst (λ (n : WriterRecord). HeardWell w b X n) (sym made)
      (ack-heard w b X parts.0 parts.1 parts.2 (well b).stream (formed b) q at taking h
      (λ n streaming. none-last n (at ∙ streaming) (streams n streaming) parts.0 first)
      (λ ends. whole-now (ack a) (is ∙ ap (λ (n : WriterRecord). heard_as w b c.0 (message (ack a)) n (event.Up c)) (made ∙ ap (acked_so X) ends)) office rule))

  -- a writer in this phase has no connection
  no-conn : (q : Phase) → X.phase ≡ q → is_connected q ≡ false → ⊥
  no-conn q at alone = none-some c.0 (sym ((all-rest nodes events b).alone (ap is_connected at ∙ alone)) ∙ conn)

  hears : (y : Message) → next_up w c.0 ≡ Some (message y) → (q : Phase) → X.phase ≡ q → WellIn w b X q → Hears y
  hears y next (phase.Requested s stamp) at good =
      let k = response-only y (sym (ap (λ (z : Phase). comes_up pipeline (is_requested z) y) at) ∙ (takes-in-order w (all-ordered nodes events)).writers_hear b c.0 y conn next) in
      subst Hears (sym k.1) (hears-answer k.0 (next-found (w.ups c.0) (w.up_marks c.0) (response k.0) (next ∙ ap (λ (z : Message). Some (message z)) k.1)) s stamp at good)
  hears y next (phase.Accepted s stamp) at good = absurd (nothing-early nodes events b c.0 s stamp y at conn next)
  hears y next (phase.Streaming n) at good =
      let k = ack-only y (sym (ap (λ (z : Phase). comes_up pipeline (is_requested z) y) at) ∙ (takes-in-order w (all-ordered nodes events)).writers_hear b c.0 y conn next) in
      subst Hears (sym k.1) (hears-ack k.0 (next-found (w.ups c.0) (w.up_marks c.0) (ack k.0) (next ∙ ap (λ (z : Message). Some (message z)) k.1)) (phase.Streaming n) at refl refl good (λ m same. subst (λ (z : Phase). WellIn w b X z) same good) good.office)
  hears y next phase.Closing at good =
      let k = ack-only y (sym (ap (λ (z : Phase). comes_up pipeline (is_requested z) y) at) ∙ (takes-in-order w (all-ordered nodes events)).writers_hear b c.0 y conn next) in
      subst Hears (sym k.1) (hears-ack k.0 (next-found (w.ups c.0) (w.up_marks c.0) (ack k.0) (next ∙ ap (λ (z : Message). Some (message z)) k.1)) phase.Closing at refl refl good (λ m same. absurd (apart m same)) good.office)
    where
      apart : (m : ℕ) → phase.Closing ≡ phase.Streaming m → ⊥
      apart m same = cc
  hears y next phase.Closed at good = absurd (no-conn phase.Closed at refl)
  hears y next (phase.Wanted s) at good = absurd (no-conn (phase.Wanted s) at refl)
  hears y next phase.Finished at good = absurd (no-conn phase.Finished at refl)
  hears y next (phase.Stamped s stamp) at good = absurd good
  hears y next phase.Opened at good = absurd good
  hears y next phase.Completed at good = absurd good
  hears y next (phase.Failed f) at good = absurd good

  pub hears-well : (x : Next) → next_up w c.0 ≡ Some x → happens w (event.Up c) ≡ heard_as w b c.0 x (writer_hears X x) (event.Up c) → HeardWell w b X (writer_hears X x)
  hears-well (message y) next is = hears y next X.phase refl (well b).phase_is is
  hears-well the_end next is = absurd (no-writer-end nodes events quiet links well b c.0 e lc upper conn next)
