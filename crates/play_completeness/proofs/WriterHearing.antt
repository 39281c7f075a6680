-- What writers hear keeps all connections.
use Rattle.std.proofs.Common.{◌≡◌, ℕ, suc, Bool, true, false, List, [], ◌∷◌, length, map, slice_get, Option, Some, None, IfSome, refl, sym, ◌∙◌, ap, subst, ◌⊎◌, eqb-true}
use Rattle.std.specs.Prelude.{◌&&◌, not, is_none, nat_lt, if◌then◌else◌}
use Rattle.std.proofs.lemmas.Bool.{false≢true}
use Rattle.std.proofs.lemmas.List.{length-map}
use Rattle.std.proofs.lemmas.Option.{none-some, same_Some}
use Rattle.hd_base.specs.declared.numbers.NodeId.{NodeId}
use Rattle.hd_base.specs.declared.numbers.Stamp.{Stamp}
use Rattle.ack_codec.specs.declared.acks.Ack.{Ack}
use Rattle.ack_codec.specs.declared.responses.Response.{Response}
use Rattle.op_headers.specs.declared.ops.Op.TheVariants as op
use Rattle.op_headers.specs.declared.nodes.NodeRef.{NodeRef}
use Rattle.op_headers.specs.Values.{WriteFields}
use Rattle.node_refs.specs.NodeRefs.{ref_of}
use Rattle.replica_core.specs.declared.ack_queue.PendingPacket.{PendingPacket}
use Rattle.writer_core.specs.declared.phases.Phase.{Phase}
use Rattle.writer_core.specs.declared.phases.Phase.TheVariants as phase
use Rattle.writer_core.specs.declared.phases.Setup.{Setup}
use Rattle.writer_core.specs.declared.phases.Setup.TheVariants as setup
use Rattle.writer_core.specs.declared.records.WriterRecord.{WriterRecord}
use Rattle.writer_core.specs.Transitions.{is_connected}
use Rattle.world.specs.declared.events.Event.{Event}
use Rattle.world.specs.declared.events.Event.TheVariants as event
use Rattle.world.specs.Parts.{Message, request, ack, response, Upper, by_writer}
use Rattle.world.specs.Worlds.{World, start}
use Rattle.world.specs.Connections.{Next, message, the_end, next_up, up_taken, is_conn}
use Rattle.world.specs.Clients.{named_member, writer_change, writer_hears}
use Rattle.world.specs.Events.{changed, upper_up, up_as, up_event, outcome, happens, run}
use Rattle.world_laws.specs.Stamping.{known_heard, heard}
use Rattle.world_laws.proofs.FactTables.{and-left}
use Rattle.world_laws.proofs.FactTables.{when-each}
use Rattle.world_laws.proofs.PlacedLaws.{all-placed}
use Rattle.world_orders.specs.Orders.{pipeline, comes_up, is_requested}
use Rattle.world_orders.proofs.AllOrdered.{all-ordered, next-found}
use Rattle.world_orders.proofs.Takes.{takes-in-order}
use Rattle.world_closings.specs.WorldWriters.Piping.{Piped}
use Rattle.world_closings.proofs.WorldWriters.AllPiped.{all-piped}
use Rattle.play_model.specs.Dues.{is_open}
use Rattle.play_model.specs.Laws.{IsQuiet}
use Rattle.play_scripts.proofs.PlayLaws.Early.{nothing-early}
use Rattle.play_scripts.proofs.PlayLaws.Resting.{all-rest}
use Rattle.play_completeness.specs.Streams.{acks_in, HasLast}
use Rattle.play_completeness.specs.Links.{Awaits, acks_left, Carries, InPipeline, Links}
use Rattle.play_completeness.specs.Writers.{WellIn, Writers}
use Rattle.play_completeness.specs.Hearing.{WritersHear}
use Rattle.play_completeness.proofs.Hearing.{less}
use Rattle.play_completeness.proofs.TurnWorld.{named}
use Rattle.play_completeness.proofs.DownTurns.{no-end, after-links}
use Rattle.play_completeness.proofs.UpSteps.{ack-only, response-only, end-last, same-fields}
use Rattle.play_completeness.proofs.WriterUps.{is_acked_in, acks-links, answer-links}
use Rattle.play_completeness.proofs.Pipelines.{dialled-in}

module _ (nodes : ℕ) (events : List Event) (quiet : IsQuiet (run (start nodes) events)) (links : Links (run (start nodes) events)) (well : Writers (run (start nodes) events)) (b c : ℕ) (x : Event)
    (lc : InPipeline (run (start nodes) events) c) (upper : ((run (start nodes) events).dialled c).upper ≡ by_writer b) (conn : ((run (start nodes) events).writers b).conn ≡ Some c) where
  abbrev w : World
  w = run (start nodes) events

  abbrev X : WriterRecord
  X = (w.writers b).known

  abbrev Named : World → Type 0
  Named v = Links (named x v)

  -- the members are the node at the lower end and the targets
  pub members-are : is_connected X.phase ≡ true → length X.members ≡ suc (length (links c lc).fields.targets)
  members-are connected =
      let same : heard (w.writers b) ≡ X = ap (known_heard X) (quiet b) in
      let piped : Piped w.past b (heard (w.writers b)) (w.writers b).conn = all-piped nodes events b (ap (λ (k : WriterRecord). is_connected k.phase) same ∙ connected) in
      let p = piped.pipeline in
      let at : piped.at ≡ c = same_Some piped.at c (sym piped.is ∙ conn) in
      let asked : slice_get (w.downs c) 0 ≡ Some (request (op.Write p.fields)) = subst (λ (k : ℕ). slice_get (w.downs k) 0 ≡ Some (request (op.Write p.fields))) at p.asked in
      let fields : p.fields ≡ (links c lc).fields = same-fields p.fields (links c lc).fields (same_Some (request (op.Write p.fields)) (request (op.Write (links c lc).fields)) (sym asked ∙ (links c lc).asked.first)) in
      sym (ap (λ (k : WriterRecord). length k.members) same) ∙ (ap (λ (ns : List NodeId). length ns) p.are
      ∙ ap suc (sym (length-map p.others ref_of) ∙ (sym (ap (λ (ts : List NodeRef). length ts) p.targets) ∙ ap (λ (f : WriteFields). length f.targets) fields)))

  -- a writer that took this message
  abbrev Took : Message → Type 0
  Took y = IfSome (changed (up_taken w c (message y)) (Some (writer_change (up_taken w c (message y)) b (writer_hears X (message y))))) Named

  took-ack : (a : Ack) → slice_get (w.ups c) (w.up_marks c).taken ≡ Some (ack a) → (q : Phase) → X.phase ≡ q → is_acked_in q ≡ true → is_connected q ≡ true → Took (ack a)
  unfolding up_taken
  took-ack a found q at taking connected =
      acks-links w (all-ordered nodes events) (all-placed nodes events) links b c x conn lc upper a found (ap is_acked_in at ∙ taking) (members-are (ap is_connected at ∙ connected))

  took-answer : (r : Response) → slice_get (w.ups c) (w.up_marks c).taken ≡ Some (response r) → (s : Setup) (stamp : Stamp) → X.phase ≡ phase.Requested s stamp → (s ≡ setup.Create) ⊎ (s ≡ setup.Append) → Took (response r)
  unfolding up_taken
  took-answer r found s stamp at opens = answer-links w (all-ordered nodes events) (all-placed nodes events) links b c x conn lc upper r (named_member X.members r.first_bad) s stamp found at opens

  -- a writer in this phase has no connection
  no-conn : (q : Phase) → X.phase ≡ q → is_connected q ≡ false → (y : Message) → Took y
  no-conn q at alone y = absurd (none-some c (sym ((all-rest nodes events b).alone (ap is_connected at ∙ alone)) ∙ conn))

  took : (y : Message) → next_up w c ≡ Some (message y) → (q : Phase) → X.phase ≡ q → WellIn w b X q → Took y
  took y next (phase.Requested s stamp) at good =
      let k = response-only y (sym (ap (λ (z : Phase). comes_up pipeline (is_requested z) y) at) ∙ (takes-in-order w (all-ordered nodes events)).writers_hear b c y conn next) in
      subst Took (sym k.1) (took-answer k.0 (next-found (w.ups c) (w.up_marks c) (response k.0) (next ∙ ap (λ (z : Message). Some (message z)) k.1)) s stamp at good.opens)
  took y next (phase.Accepted s stamp) at good = absurd (nothing-early nodes events b c s stamp y at conn next)
  took y next (phase.Streaming n) at good =
      let k = ack-only y (sym (ap (λ (z : Phase). comes_up pipeline (is_requested z) y) at) ∙ (takes-in-order w (all-ordered nodes events)).writers_hear b c y conn next) in
      subst Took (sym k.1) (took-ack k.0 (next-found (w.ups c) (w.up_marks c) (ack k.0) (next ∙ ap (λ (z : Message). Some (message z)) k.1)) (phase.Streaming n) at refl refl)
  took y next phase.Closing at good =
      let k = ack-only y (sym (ap (λ (z : Phase). comes_up pipeline (is_requested z) y) at) ∙ (takes-in-order w (all-ordered nodes events)).writers_hear b c y conn next) in
      subst Took (sym k.1) (took-ack k.0 (next-found (w.ups c) (w.up_marks c) (ack k.0) (next ∙ ap (λ (z : Message). Some (message z)) k.1)) phase.Closing at refl refl)
  took y next phase.Closed at good = no-conn phase.Closed at refl y
  took y next (phase.Wanted s) at good = no-conn (phase.Wanted s) at refl y
  took y next phase.Finished at good = no-conn phase.Finished at refl y
  took y next (phase.Stamped s stamp) at good = absurd good
  took y next phase.Opened at good = absurd good
  took y next phase.Completed at good = absurd good
  took y next (phase.Failed f) at good = absurd good

  old : Carries w c (links c lc).fields (links c lc).rule (by_writer b) (w.lowers c)
  old = subst (λ (u : Upper). Carries w c (links c lc).fields (links c lc).rule u (w.lowers c)) upper ((links c lc).carries (subst (λ (u : Upper). Awaits w c u) (sym upper) conn))

  pub no-writer-end : next_up w c ≡ Some the_end → ⊥
  no-writer-end next = go (is_open (w.lowers c)) refl
    where
      none-last : (acked : List PendingPacket) → map (λ (e : PendingPacket). e.seqno) acked ≡ [] → HasLast acked → ⊥
      none-last [] n l = none-some l.packet l.there.there
      none-last (e ∷ acked) n l = absurd (cc)

      go : (k : Bool) → is_open (w.lowers c) ≡ k → ⊥
      go true q = no-end (w.ups c) (w.up_marks c) ((links c lc).ends.up q) next
      go false q =
          let none : acks_left w c ≡ [] = ap acks_in (end-last (w.ups c) (w.up_marks c) ((links c lc).ends.over q) next) in
          none-last old.flows.acked (old.flows.numbers ∙ ap (λ (bs : List Ack). map (λ (a : Ack). a.seqno) bs) none) (old.flows.over_so (ap not q))

  -- what stands next
  heard-next : (n : Next) → next_up w c ≡ Some n → IfSome (changed (up_taken w c n) (Some (writer_change (up_taken w c n) b (writer_hears X n)))) Named
  heard-next (message y) next = took y next X.phase refl (well b).phase_is
  heard-next the_end next = absurd (no-writer-end next)

pub conn-is : (o : Option ℕ) (c : ℕ) → is_conn o c ≡ true → o ≡ Some c
conn-is None c e = absurd (false≢true e)
conn-is (Some n) c e = ap (λ (k : ℕ). Some k) (sym (eqb-true c n e))

writer-next : (nodes : ℕ) (events : List Event) → IsQuiet (run (start nodes) events) → Links (run (start nodes) events) → Writers (run (start nodes) events) → (b c : ℕ) (x : Event) → InPipeline (run (start nodes) events) c → ((run (start nodes) events).dialled c).upper ≡ by_writer b
    → (o : Option Next) → next_up (run (start nodes) events) c ≡ o → IfSome (up_as (run (start nodes) events) c false o) (λ v. Links (named x v))
unfolding up_taken
writer-next nodes events quiet links well b c x lc upper None next = tt
writer-next nodes events quiet links well b c x lc upper (Some n) next =
    let w : World = run (start nodes) events in
    subst (λ (u : Upper). IfSome (changed (up_taken w c n) (upper_up u (up_taken w c n) c n false)) (λ v. Links (named x v))) (sym upper)
    (go (is_conn (w.writers b).conn c && is_none (w.writers b).told) refl)
  where
    go : (k : Bool) → (is_conn ((run (start nodes) events).writers b).conn c && is_none ((run (start nodes) events).writers b).told) ≡ k
        → IfSome (changed (up_taken (run (start nodes) events) c n) (if k then Some (writer_change (up_taken (run (start nodes) events) c n) b (writer_hears ((run (start nodes) events).writers b).known n)) else None)) (λ v. Links (named x v))
    go false e = tt
    go true e = heard-next nodes events quiet links well b c x lc upper (conn-is ((run (start nodes) events).writers b).conn c (and-left _ _ e)) n next

pub writers-hear : WritersHear
unfolding happens outcome
writers-hear nodes events c b plain quiet links well upper =
    let w : World = run (start nodes) events in
    after-links w (event.Up c) (up_event w c.0 false) links
    (when-each (λ (v : World). Links (named (event.Up c) v)) (nat_lt c.0 w.next_conn) _ (λ k. writer-next nodes events quiet links well b c.0 (event.Up c) (dialled-in w c.0 (by_writer b) upper refl (less c.0 w k)) upper (next_up w c.0) refl))
