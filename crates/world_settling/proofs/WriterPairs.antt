-- A writer that asks the office, and goes on with what it is answered.
use Rattle.std.proofs.Common.{◌≡◌, ◌≢◌, ℕ, ◌<◌, ◌≤◌, ◌+◌, ◌*◌, Bool, true, false, List, [], ◌∷◌, ◌++◌, length, map, slice_get, Option, Some, None, IfSome, Result, Ok, Err, refl, sym, ap, ◌∙◌, subst, arith}
use Rattle.std.specs.Prelude.{◌&&◌, sum_by, nat_le, is_some, is_none, if◌then◌else◌}
use Rattle.std.proofs.lemmas.Bool.Decides.{nat_tests}
use Rattle.std.proofs.lemmas.List.Sums.{sum_by-cons}
use Rattle.std.proofs.lemmas.List.{length-map}
use Rattle.hd_base.specs.declared.numbers.NodeId.{NodeId}
use Rattle.hd_base.specs.declared.numbers.Stamp.{Stamp}
use Rattle.op_headers.specs.declared.ops.Op.{Op}
use Rattle.op_headers.specs.declared.ops.Op.TheVariants as op
use Rattle.world.specs.NodeRefs.NodeRefs.{ref_of}
use Rattle.name_core.specs.declared.calls.OfficeAnswer.{OfficeAnswer}
use Rattle.name_core.specs.declared.calls.OfficeAnswer.TheVariants as office
use Rattle.name_core.specs.declared.calls.Reopened.{Reopened}
use Rattle.name_core.specs.declared.faults.OfficeFault.{OfficeFault}
use Rattle.name_core.specs.declared.faults.OfficeFault.TheVariants as fault
use Rattle.name_core.specs.declared.records.TheConstants.{MAX_APPEND_LENGTH}
use Rattle.packet_stream.specs.Streams.{StreamState, IsStream, written_in, begun}
use Rattle.packet_stream.proofs.StreamLemmas.{begun_written}
use Rattle.writer_core.specs.declared.phases.Failure.{Failure}
use Rattle.writer_core.specs.declared.phases.Failure.TheVariants as failure
use Rattle.writer_core.specs.declared.phases.Phase.{Phase}
use Rattle.writer_core.specs.declared.phases.Phase.TheVariants as phase
use Rattle.writer_core.specs.declared.phases.Setup.{Setup}
use Rattle.writer_core.specs.declared.phases.Setup.TheVariants as setup
use Rattle.writer_core.specs.declared.records.WriterRecord.{WriterRecord}
use Rattle.writer_core.specs.Phases.{remedy_after}
use Rattle.writer_core.specs.Requests.{request_for}
use Rattle.writer_core.specs.Transitions.{granted, granted_as, granted_in, asks, refused, begin_session, stamped, reopened, stamp_given, committed_as, commit_given, complete_given, phase_committed, dialled, dialled_in, dial_step, dial_step_as, open_step, completed_step}
use Rattle.world.specs.Parts.{Message, request, Lower, idle, Told, Dialled, by_writer, Writing}
use Rattle.world.specs.Worlds.{World, Change, Dial, apply, dial_at, listed}
use Rattle.world.specs.Connections.{place_of}
use Rattle.world.specs.Clients.{writer_change, dialled_change, dialling, rest_in, rest_change, did_step}
use Rattle.world_settling.specs.Traffic.{sum_to, hops, down_weight, request_weight, up_weight, down_way, up_way, sides, open_weight, lower_weight, entries, entries_of, traffic}
use Rattle.world_settling.specs.Measure.{Pays, cost, past_last, is_closing, phase_weight, wait_weight, last_weight, unformed, writer_weight, LowersBoth}
use Rattle.world_settling.proofs.Sums.{sum-le, sum-more}
use Rattle.world_settling.proofs.Ways.{whole-way}
use Rattle.world_settling.proofs.Frame.{Eases, entries-each, downs-quiet, ups-quiet, sides-same}
use Rattle.world_settling.proofs.Outer.{Quiet, lower-stays}
use Rattle.world_settling.proofs.Requests.{IsNew, one-more, here-dial, open-most}
use Rattle.world_settling.proofs.WriterSteps.{at-phase, at-last, last-most, opens-pay, completes-pay}
use Rattle.world_settling.proofs.WriterHears.{fails-at}
use Rattle.world_settling.proofs.WriterOwn.{does-both, quiet-both, did-both, IsWriters}
use Rattle.world_settling.proofs.OfficeAnswers.{IsAnswer, IsStampGiven, IsReopened, IsDone}

-- A DIAL

-- A change that dials one connection, and leaves lower ends and replicas as they are.
pub record DialsOne (w : World) (k : Change) (d : Dial) : Type 0 where
  dials : k.dials ≡ d ∷ []
  downs : (c : ℕ) → k.downs c ≡ []
  ups : (c : ℕ) → k.ups c ≡ []
  lower : k.lower ≡ w.lowers k.lower_at
  replica : k.replica ≡ w.replicas k.node k.block
  new : IsNew w

new-downs : (w : World) (k : Change) (d : Dial) → DialsOne w k d → (apply w k).downs w.next_conn ≡ d.request ∷ []
unfolding apply
new-downs w k d h = rw h.new.downs (rw (h.downs w.next_conn) (rw h.dials (rw (here-dial w.next_conn d) refl)))

new-ups : (w : World) (k : Change) (d : Dial) → DialsOne w k d → (apply w k).ups w.next_conn ≡ []
unfolding apply
new-ups w k d h = rw h.new.ups (h.ups w.next_conn)

dials-weight : (w : World) (k : Change) (d : Dial) (more : ℕ) → DialsOne w k d → ((h : ℕ) → down_weight h d.request ≡ more) → traffic (apply w k) ≤ traffic w + (2 + more)
unfolding traffic
dials-weight w k d more h weighs =
    let v : World = apply w k in
    let m : ℕ = w.next_conn in
    let n = one-more w k d h.dials in
    let f : Message → ℕ = down_weight (hops v m) in
    let eases : (c : ℕ) → Eases w k c = λ c. rw h.replica (omega arith) in
    let here-lower : v.lowers m ≡ idle = lower-stays w k m h.lower ∙ h.new.lower in
    let old-lowers = sum-le (λ c. lower_weight (w.lowers c)) (λ c. lower_weight (v.lowers c)) m (λ c lt. rw (lower-stays w k c h.lower) (omega arith)) in
    let old-held = sum-le (entries w) (entries v) m (λ c lt. rw (lower-stays w k c h.lower) (entries-each w k c (w.lowers c) lt (eases c))) in
    let downs = sum-more (down_way w) (down_way v) m more (downs-quiet w k h.downs)
    (omega (arith, whole-way f (v.down_marks m) (v.downs m), ap (sum_by f) (new-downs w k d h), sum_by-cons f d.request [], weighs (hops v m))) in
    let ups = sum-more (up_way w) (up_way v) m 0 (ups-quiet w k h.ups) (omega (arith, whole-way up_weight (v.up_marks m) (v.ups m), ap (sum_by up_weight) (new-ups w k d h))) in
    let ends = sum-more (sides w) (sides v) m 2 (sides-same w k) (omega (arith, open-most (v.down_marks m), open-most (v.up_marks m))) in
    let lowers = sum-more (λ c. lower_weight (w.lowers c)) (λ c. lower_weight (v.lowers c)) m 0 (omega (arith, old-lowers)) (omega (arith, ap lower_weight here-lower)) in
    let held = sum-more (entries w) (entries v) m 0 (omega (arith, old-held)) (omega (arith, ap (λ (y : Lower). entries_of y v m) here-lower)) in
    omega (arith, downs, ups, ends, lowers, held, ap (sum_to (down_way v)) n, ap (sum_to (up_way v)) n, ap (sum_to (sides v)) n, ap (sum_to (λ c. lower_weight (v.lowers c))) n, ap (sum_to (entries v)) n)

-- THE REST OF A STEP

-- A stamp was given: the first member is dialled.
dials-both : (v : World) (b : ℕ) (y : WriterRecord) (s : Setup) (stamp : Stamp) (ms : List NodeId) (answered : Bool) → IsNew v → y.phase ≡ phase.Stamped s stamp → length ms ≤ 16 → writer_weight y + 1 ≤ writer_weight (v.writers b).known
    → LowersBoth v (apply v (dialling v b y (dial_step_as y s stamp ms).action answered)) b 0
unfolding dialled request_for
dials-both v b y s stamp [] answered new is few pays =
    quiet-both v b y (writer_change v b y) 0 refl refl (record { dials = refl; downs = λ d. refl; ups = λ d. refl; lower = refl; replica = refl }) (omega (arith, pays))
dials-both v b y s stamp (m ∷ ms) answered new is few pays = by (answered && v.running m.0) where
  r : Op
  r = request_for y.block y.committed y.stream s stamp (length y.members) ms

  requested : writer_weight (dialled_in y y.phase true) + 299 ≤ writer_weight y
  requested = subst (λ (p : Phase). writer_weight (dialled_in y p true) + 299 ≤ writer_weight y) (sym is) (omega (arith, at-phase y (phase.Stamped s stamp) is, at-last y (phase.Stamped s stamp) is))

  failed : writer_weight (dialled_in y y.phase false) ≤ writer_weight y
  failed = subst (λ (p : Phase). writer_weight (dialled_in y p false) ≤ writer_weight y) (sym is) (fails-at y (remedy_after s) 0)

  by : (a : Bool) → LowersBoth v (apply v (dialled_change v b y m r a)) b 0
  by true =
      does-both v b (dialled_in y y.phase true) (dialled_change v b y m r true) 104 0 refl refl
      (omega (
        arith,
        dials-weight v (dialled_change v b y m r true) (record { dialled = record { upper = by_writer b; from = None; to = place_of v m.0 }; request = request r }) (request_weight r)
            (record { dials = refl; downs = λ d. refl; ups = λ d. refl; lower = refl; replica = refl; new = new }) (λ h. refl),
        length-map ms ref_of,
        few,
      ))
      (omega (arith, requested, pays))
  by false =
      quiet-both v b (dialled_in y y.phase false) (writer_change v b (dialled_in y y.phase false)) 0 refl refl (record { dials = refl; downs = λ d. refl; ups = λ d. refl; lower = refl; replica = refl })
      (omega (arith, failed, pays))

-- what is known where the office answers a writer
pub record CanGoOn (v : World) (b : ℕ) : Type 0 where
  pub new : IsNew v
  pub stream : IsStream (v.writers b).known.stream
  pub few : length (v.writers b).known.members ≤ 16
  pub linked : IfSome (v.writers b).conn (IsWriters v)

-- the writer comes into a state in which it does no more in this step
rests : (v : World) (b : ℕ) (y : WriterRecord) → writer_weight y + 1 ≤ writer_weight (v.writers b).known → LowersBoth v (apply v (writer_change v b y)) b 0
rests v b y pays = quiet-both v b y (writer_change v b y) 0 refl refl (record { dials = refl; downs = λ d. refl; ups = λ d. refl; lower = refl; replica = refl }) (omega (arith, pays))

-- A writer that asked is refused.
refuses-both : (v : World) (b : ℕ) (p : Phase) (answered : Bool) (e : OfficeFault) → (v.writers b).known.phase ≡ p → 1 ≤ phase_weight p (length (v.writers b).known.stream.unacked) → e ≢ fault.Memory
    → IfSome (rest_change v b (refused (v.writers b).known e) answered) (λ k. LowersBoth v (apply v k) b 0)
refuses-both v b p answered e is some never = by e never where
  x : WriterRecord
  x = (v.writers b).known

  fails : (f : Failure) → writer_weight (record x { phase = phase.Failed f }) + 1 ≤ writer_weight x
  fails f = omega (arith, at-phase x p is, some)

  by : (e : OfficeFault) → e ≢ fault.Memory → IfSome (rest_change v b (refused x e) answered) (λ k. LowersBoth v (apply v k) b 0)
  by fault.Memory never = absurd (never refl)
  by (fault.LeaseLost recovery) never = rests v b (record x { phase = phase.Failed (failure.Lost recovery) }) (fails (failure.Lost recovery))
  by fault.Known never = rests v b (record x { phase = phase.Failed (failure.Refused fault.Known) }) (fails (failure.Refused fault.Known))
  by fault.Unknown never = rests v b (record x { phase = phase.Failed (failure.Refused fault.Unknown) }) (fails (failure.Refused fault.Unknown))
  by fault.NotOpen never = rests v b (record x { phase = phase.Failed (failure.Refused fault.NotOpen) }) (fails (failure.Refused fault.NotOpen))
  by fault.NotClosed never = rests v b (record x { phase = phase.Failed (failure.Refused fault.NotClosed) }) (fails (failure.Refused fault.NotClosed))
  by (fault.OldStamp c) never = rests v b (record x { phase = phase.Failed (failure.Refused (fault.OldStamp c)) }) (fails (failure.Refused (fault.OldStamp c)))
  by (fault.OldRecovery r) never = rests v b (record x { phase = phase.Failed (failure.Refused (fault.OldRecovery r)) }) (fails (failure.Refused (fault.OldRecovery r)))
  by (fault.TooLong n) never = rests v b (record x { phase = phase.Failed (failure.Refused (fault.TooLong n)) }) (fails (failure.Refused (fault.TooLong n)))

module _ (v : World) (b : ℕ) (answered : Bool) (h : CanGoOn v b) where
  abbrev known_in : WriterRecord
  known_in = (v.writers b).known

  -- the stamp of a pipeline is given
  given-both : (s : Setup) (y : WriterRecord) (stamp : Stamp) → y.phase ≡ phase.Stamped s stamp → y.members ≡ known_in.members → writer_weight y + 1 ≤ writer_weight known_in
      → IfSome (rest_in (phase.Stamped s stamp) v b y answered) (λ k. LowersBoth v (apply v k) b 0)
  given-both s y stamp is same pays = dials-both v b y s stamp y.members answered h.new is (omega (arith, h.few, ap length same)) pays

  wants-both : (s : Setup) (a : OfficeAnswer) → known_in.phase ≡ phase.Wanted s → IsAnswer (phase.Wanted s) (Ok a) → IfSome (rest_change v b (stamp_given known_in s a) answered) (λ k. LowersBoth v (apply v k) b 0)
  wants-both setup.Create (office.Stamp stamp) is fair =
      given-both setup.Create (stamped known_in setup.Create stamp) stamp refl refl (omega (arith, begun_written known_in.stream.rule 0, at-phase known_in (phase.Wanted setup.Create) is, at-last known_in (phase.Wanted setup.Create) is))
  wants-both setup.AppendRecovery (office.Stamp stamp) is fair =
      given-both setup.AppendRecovery (stamped known_in setup.AppendRecovery stamp) stamp refl refl (omega (arith, at-phase known_in (phase.Wanted setup.AppendRecovery) is, at-last known_in (phase.Wanted setup.AppendRecovery) is))
  wants-both setup.StreamRecovery (office.Stamp stamp) is fair =
      given-both setup.StreamRecovery (stamped known_in setup.StreamRecovery stamp) stamp refl refl (omega (arith, at-phase known_in (phase.Wanted setup.StreamRecovery) is, at-last known_in (phase.Wanted setup.StreamRecovery) is))
  wants-both setup.CloseRecovery (office.Stamp stamp) is fair =
      given-both setup.CloseRecovery (stamped known_in setup.CloseRecovery stamp) stamp refl refl (omega (arith, at-phase known_in (phase.Wanted setup.CloseRecovery) is, at-last known_in (phase.Wanted setup.CloseRecovery) is))
  wants-both setup.Append (office.Reopened r) is fair = by (nat_le r.length MAX_APPEND_LENGTH) (grind (arith, nat_tests, fair)) where
    y : WriterRecord
    y = record (begin_session known_in r.committed r.length) { phase = phase.Stamped setup.Append r.new }

    by : (t : Bool) → t ≡ true → IfSome (rest_change v b (if t then y else known_in) answered) (λ k. LowersBoth v (apply v k) b 0)
    by true e = given-both setup.Append y r.new refl refl (omega (arith, begun_written known_in.stream.rule r.length, at-phase known_in (phase.Wanted setup.Append) is, at-last known_in (phase.Wanted setup.Append) is))
    by false e = cc
  wants-both setup.Create (office.Reopened r) is fair = absurd fair
  wants-both setup.Create (office.Begun r) is fair = absurd fair
  wants-both setup.Create office.Nothing is fair = absurd fair
  wants-both setup.Append (office.Stamp r) is fair = absurd fair
  wants-both setup.Append (office.Begun r) is fair = absurd fair
  wants-both setup.Append office.Nothing is fair = absurd fair
  wants-both setup.AppendRecovery (office.Reopened r) is fair = absurd fair
  wants-both setup.AppendRecovery (office.Begun r) is fair = absurd fair
  wants-both setup.AppendRecovery office.Nothing is fair = absurd fair
  wants-both setup.StreamRecovery (office.Reopened r) is fair = absurd fair
  wants-both setup.StreamRecovery (office.Begun r) is fair = absurd fair
  wants-both setup.StreamRecovery office.Nothing is fair = absurd fair
  wants-both setup.CloseRecovery (office.Reopened r) is fair = absurd fair
  wants-both setup.CloseRecovery (office.Begun r) is fair = absurd fair
  wants-both setup.CloseRecovery office.Nothing is fair = absurd fair

  -- the stamp of an append is committed, and the append is answered
  opens-both : (s : Setup) (stamp : Stamp) → is_closing s ≡ false → known_in.phase ≡ phase.Accepted s stamp
      → IfSome (rest_change v b (record known_in { committed = stamp; phase = phase.Opened }) answered) (λ k. LowersBoth v (apply v k) b 0)
  opens-both s stamp closing is =
      let y : WriterRecord = record known_in { committed = stamp; phase = phase.Opened } in
      let pays = (opens-pay y h.stream (omega arith)).is in
      let same : last_weight (past_last known_in.phase) known_in.waiting ≡ last_weight false known_in.waiting = at-last known_in (phase.Accepted s stamp) is ∙ ap (λ (q : Bool). last_weight q known_in.waiting) closing in
      did-both v b 0 y.waiting (open_step y).action (open_step y).writer [] h.linked (omega (arith, pays, at-phase known_in (phase.Accepted s stamp) is, same))

  commits-both : (s : Setup) (stamp : Stamp) (a : OfficeAnswer) → known_in.phase ≡ phase.Accepted s stamp → IsAnswer (phase.Accepted s stamp) (Ok a) → IfSome (rest_change v b (commit_given known_in s stamp a) answered) (λ k. LowersBoth v (apply v k) b 0)
  commits-both setup.Create stamp a is fair = absurd fair
  commits-both setup.Append stamp office.Nothing is fair = opens-both setup.Append stamp refl is
  commits-both setup.AppendRecovery stamp office.Nothing is fair = opens-both setup.AppendRecovery stamp refl is
  commits-both setup.StreamRecovery stamp office.Nothing is fair =
      rests v b (record known_in { committed = stamp; phase = phase.Streaming 0 }) (omega (arith, h.stream.few, at-phase known_in (phase.Accepted setup.StreamRecovery stamp) is, at-last known_in (phase.Accepted setup.StreamRecovery stamp) is))
  commits-both setup.CloseRecovery stamp office.Nothing is fair =
      rests v b (record known_in { committed = stamp; phase = phase.Finished }) (omega (arith, at-phase known_in (phase.Accepted setup.CloseRecovery stamp) is, at-last known_in (phase.Accepted setup.CloseRecovery stamp) is))
  commits-both setup.Append stamp (office.Stamp r) is fair = absurd fair
  commits-both setup.Append stamp (office.Reopened r) is fair = absurd fair
  commits-both setup.Append stamp (office.Begun r) is fair = absurd fair
  commits-both setup.AppendRecovery stamp (office.Stamp r) is fair = absurd fair
  commits-both setup.AppendRecovery stamp (office.Reopened r) is fair = absurd fair
  commits-both setup.AppendRecovery stamp (office.Begun r) is fair = absurd fair
  commits-both setup.StreamRecovery stamp (office.Stamp r) is fair = absurd fair
  commits-both setup.StreamRecovery stamp (office.Reopened r) is fair = absurd fair
  commits-both setup.StreamRecovery stamp (office.Begun r) is fair = absurd fair
  commits-both setup.CloseRecovery stamp (office.Stamp r) is fair = absurd fair
  commits-both setup.CloseRecovery stamp (office.Reopened r) is fair = absurd fair
  commits-both setup.CloseRecovery stamp (office.Begun r) is fair = absurd fair

  completes-both : (a : OfficeAnswer) → known_in.phase ≡ phase.Finished → IsAnswer phase.Finished (Ok a) → IfSome (rest_change v b (complete_given known_in a) answered) (λ k. LowersBoth v (apply v k) b 0)
  completes-both office.Nothing is fair =
      let y : WriterRecord = record known_in { phase = phase.Completed } in
      let pays = (completes-pay y refl).is in
      did-both v b 0 y.waiting (completed_step y).action (completed_step y).writer [] h.linked (omega (arith, pays, at-phase known_in phase.Finished is, at-last known_in phase.Finished is))
  completes-both (office.Stamp r) is fair = absurd fair
  completes-both (office.Reopened r) is fair = absurd fair
  completes-both (office.Begun r) is fair = absurd fair

  grants-both : (p : Phase) (a : OfficeAnswer) → known_in.phase ≡ p → IsAnswer p (Ok a) → IfSome (rest_change v b (granted_in known_in p a) answered) (λ k. LowersBoth v (apply v k) b 0)
  grants-both (phase.Wanted s) a is fair = wants-both s a is fair
  grants-both (phase.Accepted s stamp) a is fair = commits-both s stamp a is fair
  grants-both phase.Finished a is fair = completes-both a is fair
  grants-both phase.Closed a is fair = absurd fair
  grants-both (phase.Stamped s stamp) a is fair = absurd fair
  grants-both (phase.Requested s stamp) a is fair = absurd fair
  grants-both phase.Opened a is fair = absurd fair
  grants-both (phase.Streaming sent) a is fair = absurd fair
  grants-both phase.Closing a is fair = absurd fair
  grants-both phase.Completed a is fair = absurd fair
  grants-both (phase.Failed f) a is fair = absurd fair

  -- who asked has something to lose
  asked : (p : Phase) (e : OfficeFault) (n : ℕ) → IsAnswer p (Err e) → (asks p ≡ true) × (1 ≤ phase_weight p n) × (e ≢ fault.Memory)
  asked (phase.Wanted setup.Create) e n fair = (refl, omega arith, fair)
  asked (phase.Wanted setup.Append) e n fair = (refl, omega arith, fair)
  asked (phase.Wanted setup.AppendRecovery) e n fair = (refl, omega arith, fair)
  asked (phase.Wanted setup.StreamRecovery) e n fair = (refl, omega arith, fair)
  asked (phase.Wanted setup.CloseRecovery) e n fair = (refl, omega arith, fair)
  asked (phase.Accepted setup.Create stamp) e n fair = absurd fair
  asked (phase.Accepted setup.Append stamp) e n fair = (refl, omega arith, fair)
  asked (phase.Accepted setup.AppendRecovery stamp) e n fair = (refl, omega arith, fair)
  asked (phase.Accepted setup.StreamRecovery stamp) e n fair = (refl, omega arith, fair)
  asked (phase.Accepted setup.CloseRecovery stamp) e n fair = (refl, omega arith, fair)
  asked phase.Finished e n fair = (refl, omega arith, fair)
  asked phase.Closed e n fair = absurd fair
  asked (phase.Stamped s stamp) e n fair = absurd fair
  asked (phase.Requested s stamp) e n fair = absurd fair
  asked phase.Opened e n fair = absurd fair
  asked (phase.Streaming sent) e n fair = absurd fair
  asked phase.Closing e n fair = absurd fair
  asked phase.Completed e n fair = absurd fair
  asked (phase.Failed f) e n fair = absurd fair

  pub told-both : (p : Phase) (t : Told) → known_in.phase ≡ p → IsAnswer p t → IfSome (rest_change v b (granted known_in t) answered) (λ k. LowersBoth v (apply v k) b 0)
  unfolding granted
  told-both p (Ok a) is fair = subst (λ (q : Phase). IfSome (rest_change v b (granted_in known_in q a) answered) (λ k. LowersBoth v (apply v k) b 0)) (sym is) (grants-both p a is fair)
  told-both p (Err e) is fair =
      let z = asked p e (length known_in.stream.unacked) fair in
      subst (λ (c : Bool). IfSome (rest_change v b (if c then refused known_in e else known_in) answered) (λ k. LowersBoth v (apply v k) b 0)) (sym (ap asks is ∙ z.0)) (refuses-both v b p answered e is z.1 z.2)
