-- A writer asks the office, and goes on with the answer in its next own step.
use Rattle.std.proofs.Common.{◌≡◌, ◌≢◌, ℕ, ◌<◌, ◌≤◌, ◌+◌, ◌^◌, Bool, true, false, List, [], ◌∷◌, ◌++◌, length, slice_get, Option, Some, None, IfSome, Result, Ok, Err, refl, sym, ap, ◌∙◌, subst, arith}
use Rattle.std.specs.Prelude.{is_some, is_none, if◌then◌else◌}
use Rattle.std.proofs.lemmas.Bool.{false≢true}
use Rattle.hd_base.specs.declared.numbers.BlockId.{BlockId}
use Rattle.hd_base.specs.declared.numbers.NodeId.{NodeId}
use Rattle.hd_base.specs.declared.numbers.Stamp.{Stamp}
use Rattle.packet_codec.specs.declared.packets.Packet.{Packet}
use Rattle.packet_stream.specs.Streams.{IsStream, written_in}
use Rattle.name_core.specs.declared.calls.OfficeCall.{OfficeCall}
use Rattle.name_core.specs.declared.calls.OfficeCall.TheVariants as call
use Rattle.name_core.specs.Offices.{OfficeState, answer_to}
use Rattle.writer_core.specs.declared.actions.Action.{Action}
use Rattle.writer_core.specs.declared.actions.Action.TheVariants as action
use Rattle.writer_core.specs.declared.commands.Command.{Command}
use Rattle.writer_core.specs.declared.commands.Command.TheVariants as command
use Rattle.writer_core.specs.declared.phases.DuePacket.{DuePacket}
use Rattle.writer_core.specs.declared.phases.DuePacket.TheVariants as due
use Rattle.writer_core.specs.declared.phases.Failure.{Failure}
use Rattle.writer_core.specs.declared.phases.Phase.{Phase}
use Rattle.writer_core.specs.declared.phases.Phase.TheVariants as phase
use Rattle.writer_core.specs.declared.phases.Setup.{Setup}
use Rattle.writer_core.specs.declared.phases.Setup.TheVariants as setup
use Rattle.writer_core.specs.declared.phases.Waiting.{Waiting}
use Rattle.writer_core.specs.declared.records.WriterRecord.{WriterRecord}
use Rattle.writer_core.specs.Transitions.{own_step, step_in, free_step_as, take_first, failed_step_as, failed_first, failed_command, dial_step_as, accepted_step, stream_step_as, due_step, due_now, form_step, reach_step_as, reached_length, stamp_call}
use Rattle.world.specs.declared.events.Caller.TheVariants as caller
use Rattle.world.specs.declared.events.OwnStep.TheVariants as own
use Rattle.world.specs.Parts as world_told
use Rattle.world.specs.Parts.{Writing}
use Rattle.world.specs.Clients.{own_writer, writer_step}
use Rattle.world_texts.proofs.WorldLaws.PlacedLaws.{all-placed}
use Rattle.world_texts.proofs.WorldLaws.AllCarried.{all-carried}
use Rattle.world_texts.proofs.WorldLaws.RunLaws.{runs-end}
use Rattle.world_texts.specs.Texts.{AllFit}
use Rattle.world_texts.proofs.AllWritten.{all-formed}
use Rattle.world_settling.specs.Measure.{writer_weight, LowersBoth, AskingLowers}
use Rattle.world_settling.proofs.Requests.{IsNew}
use Rattle.world_settling.proofs.OwnEvents.{linked-as, heard-none}
use Rattle.world_settling.proofs.WriterHears.{changed-each, after-both}
use Rattle.world_settling.proofs.WriterPairs.{CanGoOn, told-both}
use Rattle.world.specs.declared.events.Event.{Event}
use Rattle.world.specs.declared.events.Event.TheVariants as event
use Rattle.world.specs.Worlds.{World, Change, apply, start}
use Rattle.world.specs.Primaries.{asks_writer, writer_asks, writer_asks_office}
use Rattle.world.specs.Events.{changed, outcome, after_event, is_enabled, happens, run}
use Rattle.world_settling.specs.Traffic.{traffic, hops}
use Rattle.world_settling.proofs.Begun.{AllBegun, all-begun}
use Rattle.world_settling.proofs.Chains.{hops-later}
use Rattle.world_settling.proofs.Outer.{outer-keep, conns-stay}
use Rattle.world_settling.proofs.WriterOwn.{IsWriters, writer-put, writers-else}
use Rattle.world_settling.proofs.OfficeAnswers.{IsAnswer, IsDone, committed, completed, stamps}

-- WHO ASKS

free-never : (x : WriterRecord) (o : Option Waiting) (q : OfficeCall) → (free_step_as x o).action ≡ action.Ask q → ⊥
free-never x (Some y) q is = cc
free-never x None q is = by (slice_get x.queue 0) is where
  by : (o : Option Command) → (take_first x o).action ≡ action.Ask q → ⊥
  by None is = cc
  by (Some c) is = cc

failed-never : (x : WriterRecord) (f : Failure) (o : Option Waiting) (q : OfficeCall) → (failed_step_as x f o).action ≡ action.Ask q → ⊥
failed-never x f (Some y) q is = cc
failed-never x f None q is = by (slice_get x.queue 0) is where
  by : (o : Option Command) → (failed_first x f o).action ≡ action.Ask q → ⊥
  by None is = cc
  by (Some (command.Create members)) is = cc
  by (Some (command.Append members)) is = cc
  by (Some (command.Write bytes)) is = cc
  by (Some (command.Fill count)) is = cc
  by (Some command.Hflush) is = cc
  by (Some command.Hsync) is = cc
  by (Some command.Close) is = cc

dial-never : (x : WriterRecord) (s : Setup) (stamp : Stamp) (ms : List NodeId) (q : OfficeCall) → (dial_step_as x s stamp ms).action ≡ action.Ask q → ⊥
dial-never x s stamp [] q is = cc
dial-never x s stamp (m ∷ ms) q is = cc

stream-never : (x : WriterRecord) (sent : ℕ) (o : Option Packet) (q : OfficeCall) → (stream_step_as x sent o).action ≡ action.Ask q → ⊥
stream-never x sent (Some p) q is = cc
stream-never x sent None q is = due_or (due_now x) is where
  reach_or : (o : Option ℕ) → (reach_step_as x o).action ≡ action.Ask q → ⊥
  reach_or (Some n) is = cc
  reach_or None is = free-never x x.waiting q is

  due_or : (o : Option DuePacket) → (due_step x o).action ≡ action.Ask q → ⊥
  due_or (Some (due.Data end is_sync)) is = cc
  due_or (Some due.Sync) is = cc
  due_or (Some due.Last) is = cc
  due_or None is = reach_or (reached_length x.waiting x.stream) is

asks-as : (o : OfficeState) (x : WriterRecord) (p : Phase) (q : OfficeCall) → (step_in x p).action ≡ action.Ask q → IsAnswer p (answer_to o q)
asks-as o x (phase.Wanted s) q is = let same : stamp_call x s ≡ q = cc in subst (λ (c : OfficeCall). IsAnswer (phase.Wanted s) (answer_to o c)) same (stamps o x s x.committed)
asks-as o x (phase.Accepted setup.Create stamp) q is = cc
asks-as o x (phase.Accepted setup.Append stamp) q is = let same : call.Commit x.block stamp x.members ≡ q = cc in subst (λ (c : OfficeCall). IsDone (answer_to o c)) same (committed o x.block stamp x.members)
asks-as o x (phase.Accepted setup.AppendRecovery stamp) q is = let same : call.Commit x.block stamp x.members ≡ q = cc in subst (λ (c : OfficeCall). IsDone (answer_to o c)) same (committed o x.block stamp x.members)
asks-as o x (phase.Accepted setup.StreamRecovery stamp) q is = let same : call.Commit x.block stamp x.members ≡ q = cc in subst (λ (c : OfficeCall). IsDone (answer_to o c)) same (committed o x.block stamp x.members)
asks-as o x (phase.Accepted setup.CloseRecovery stamp) q is = let same : call.Commit x.block stamp x.members ≡ q = cc in subst (λ (c : OfficeCall). IsDone (answer_to o c)) same (committed o x.block stamp x.members)
asks-as o x phase.Finished q is = let same : call.Complete x.block x.committed (written_in x.stream) ≡ q = cc in subst (λ (c : OfficeCall). IsDone (answer_to o c)) same (completed o x.block x.committed (written_in x.stream))
asks-as o x phase.Closed q is = absurd (free-never x x.waiting q is)
asks-as o x (phase.Stamped s stamp) q is = absurd (dial-never x s stamp x.members q is)
asks-as o x (phase.Requested s stamp) q is = absurd (free-never x x.waiting q is)
asks-as o x phase.Opened q is = cc
asks-as o x (phase.Streaming sent) q is = absurd (stream-never x sent (slice_get x.stream.unacked sent) q is)
asks-as o x phase.Closing q is = absurd (free-never x x.waiting q is)
asks-as o x phase.Completed q is = cc
asks-as o x (phase.Failed f) q is = absurd (failed-never x f x.waiting q is)

pub asks-fair : (o : OfficeState) (x : WriterRecord) (q : OfficeCall) → (own_step x).action ≡ action.Ask q → IsAnswer x.phase (answer_to o q)
unfolding own_step
asks-fair o x q is = asks-as o x x.phase q is

-- THE TWO EVENTS

-- the question, and the world once it was asked
pub record Asks (w : World) (b : BlockId) : Type 0 where
  pub question : OfficeCall
  pub is : (own_step (w.writers b.0).known).action ≡ action.Ask question
  pub out : outcome w (event.Office (caller.Writer b)) ≡ Some (apply w (asks_writer w b.0 question))

asks-by : (w : World) (b : BlockId) (a : Action) → (own_step (w.writers b.0).known).action ≡ a → is_none (w.writers b.0).told ≡ true → is_enabled w (event.Office (caller.Writer b)) ≡ true → Asks w b
unfolding outcome
asks-by w b a is none enabled = by a is where
  out_is : (c : Action) → (own_step (w.writers b.0).known).action ≡ c → changed w (writer_asks_office w b.0) ≡ changed w (writer_asks c w b.0)
  out_is c e = ap (λ (q : Bool). changed w (if q then writer_asks (own_step (w.writers b.0).known).action w b.0 else None)) none ∙ ap (λ (y : Action). changed w (writer_asks y w b.0)) e

  never : (c : Action) → (own_step (w.writers b.0).known).action ≡ c → changed w (writer_asks c w b.0) ≡ None → Asks w b
  never c e idle = absurd (false≢true (sym (ap is_some (out_is c e ∙ idle)) ∙ enabled))

  by : (c : Action) → (own_step (w.writers b.0).known).action ≡ c → Asks w b
  by (action.Ask q) e = record { question = q; is = e; out = out_is (action.Ask q) e }
  by action.Wait e = never action.Wait e refl
  by action.Took e = never action.Took e refl
  by (action.Dial to r) e = never (action.Dial to r) e refl
  by (action.Send p) e = never (action.Send p) e refl
  by (action.Answered n a) e = never (action.Answered n a) e refl
  by action.Memory e = never action.Memory e refl

-- the answer waits for the writer, which is else as before
pub record Told (w v : World) (b : ℕ) (q : OfficeCall) : Type 0 where
  pub writer : v.writers b ≡ record (w.writers b) { told = Some (answer_to w.office q) }
  pub others : (a : ℕ) → a ≢ b → v.writers a ≡ w.writers a
  pub less : traffic v ≤ traffic w
  pub conns : v.next_conn ≡ w.next_conn
  pub hops_are : (c : ℕ) → c < w.next_conn → hops v c ≡ hops w c

tells : (w : World) (b : BlockId) (q : OfficeCall) → AllBegun w → outcome w (event.Office (caller.Writer b)) ≡ Some (apply w (asks_writer w b.0 q)) → Told w (happens w (event.Office (caller.Writer b))) b.0 q
unfolding happens
tells w b q begun out =
    let e : Event = event.Office (caller.Writer b) in
    let k : Change = asks_writer w b.0 q in
    let u : World = record (apply w k) { last = Some e } in
    let after : after_event w e (outcome w e) ≡ u = ap (after_event w e) out in
    let here : Told w u b.0 q = record {
      writer = writer-put w k;
      others = writers-else w k;
      less = subst (λ (v : World). traffic v ≤ traffic w) after (outer-keep w e refl);
      conns = conns-stay w k refl;
      hops_are = λ c lt. hops-later w k c begun lt;
    } in
    subst (λ (v : World). Told w v b.0 q) (sym after) here

-- a writer to whom the office has answered goes on
goes-on : (w v : World) (b : ℕ) (q : OfficeCall) (answered : Bool) → Told w v b q → (own_step (w.writers b).known).action ≡ action.Ask q → CanGoOn v b → IfSome (own_writer v b None answered) (λ k. LowersBoth v (apply v k) b 0)
goes-on w v b q answered t is h =
    let told : (v.writers b).told ≡ Some (answer_to w.office q) = ap Writing.told t.writer in
    let known : (v.writers b).known ≡ (w.writers b).known = ap Writing.known t.writer in
    let fair : IsAnswer (v.writers b).known.phase (answer_to w.office q) =
    subst (λ (x : WriterRecord). IsAnswer x.phase (answer_to w.office q)) (sym known) (asks-fair w.office (w.writers b).known q is) in
    subst (λ (o : Option world_told.Told). IfSome (writer_step v b (v.writers b).known o None answered) (λ k. LowersBoth v (apply v k) b 0)) (sym told)
    (told-both v b answered h (v.writers b).known.phase (answer_to w.office q) refl fair)

-- what holds after every list of events that fit, with the question behind them
can-go-on : (nodes : ℕ) (events : List Event) (b : BlockId) (q : OfficeCall) → AllFit events → (run (start nodes) events).office.next.0 ≤ 2 ^ 64 → ((run (start nodes) events).writers b.0).told ≡ None
    → Told (run (start nodes) events) (happens (run (start nodes) events) (event.Office (caller.Writer b))) b.0 q → CanGoOn (happens (run (start nodes) events) (event.Office (caller.Writer b))) b.0
can-go-on nodes events b q fit left told t =
    let w : World = run (start nodes) events in
    let e : Event = event.Office (caller.Writer b) in
    let v : World = happens w e in
    let on : run (start nodes) (events ++ e ∷ []) ≡ v = runs-end (start nodes) events e in
    let formed = all-formed nodes events fit left in
    let known : (v.writers b.0).known ≡ (w.writers b.0).known = ap Writing.known t.writer in
    let conn : (v.writers b.0).conn ≡ (w.writers b.0).conn = ap Writing.conn t.writer in
    let heard_is = heard-none (w.writers b.0).known (w.writers b.0).conn (w.writers b.0).told told in
    let begun : AllBegun v = subst AllBegun on (all-begun nodes (events ++ e ∷ [])) in
    let new : IsNew v = subst IsNew on (let z : World = run (start nodes) (events ++ e ∷ []) in let p = (all-placed nodes (events ++ e ∷ [])).undialled z.next_conn (omega arith) in record { downs = p.downs; ups = p.ups; lower = p.lower }) in
    let before : IfSome (w.writers b.0).conn (IsWriters w) = linked-as w (all-begun nodes events) formed (w.writers b.0).conn ((all-placed nodes events).writers b.0).below in
    record {
      new = new;
      stream = subst (λ (x : WriterRecord). IsStream x.stream) (heard_is ∙ sym known) ((all-carried nodes events).writers b.0).sound.stream;
      few = subst (λ (x : WriterRecord). length x.members ≤ 16) (heard_is ∙ sym known) (formed.writers b.0).few;
      linked = subst (λ (o : Option ℕ). IfSome o (IsWriters v)) (sym conn) (later w v b.0 q t begun (w.writers b.0).conn ((all-placed nodes events).writers b.0).below before);
    }
  where
    later : (w v : World) (b : ℕ) (q : OfficeCall) → Told w v b q → AllBegun v → (o : Option ℕ) → IfSome o (λ d. d < w.next_conn) → IfSome o (IsWriters w) → IfSome o (IsWriters v)
    later w v b q t begun None lt h = tt
    later w v b q t begun (Some d) lt h = record { first = begun.first d (omega (arith, lt, t.conns)); few = omega (arith, h.few, t.hops_are d lt) }

acts : (v : World) (b : BlockId) (answered : Bool) → IfSome (own_writer v b.0 None answered) (λ k. LowersBoth v (apply v k) b.0 0) → is_enabled v (event.Own (own.Writer b None answered)) ≡ true
    → LowersBoth v (happens v (event.Own (own.Writer b None answered))) b.0 0
unfolding happens outcome
acts v b answered h enabled =
    after-both v (event.Own (own.Writer b None answered)) b.0 0 (changed v (own_writer v b.0 None answered)) (changed-each (λ u. LowersBoth v u b.0 0) v (own_writer v b.0 None answered) h) enabled

pub asking-lowers : AskingLowers
asking-lowers nodes events b answered fit left told asked enabled =
    let w : World = run (start nodes) events in
    let v : World = happens w (event.Office (caller.Writer b)) in
    let a : Asks w b = asks-by w b (own_step (w.writers b.0).known).action refl (ap is_none told) asked in
    let t : Told w v b.0 a.question = tells w b a.question (all-begun nodes events) a.out in
    let h : CanGoOn v b.0 = can-go-on nodes events b a.question fit left told t in
    let l : LowersBoth v (happens v (event.Own (own.Writer b None answered))) b.0 0 = acts v b answered (goes-on w v b.0 a.question answered t a.is h) enabled in
    record {
      is = omega (arith, l.is, t.less, ap (λ (x : Writing). writer_weight x.known) t.writer);
      others = λ c other. l.others c other ∙ t.others c other;
    }
