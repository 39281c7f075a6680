-- What primaries and the office make of sessions at their end.
use Rattle.std.proofs.Common.{◌≡◌, ℕ, ◌<◌, ◌≤◌, ◌+◌, ◌⊎◌, inl, inr, Bool, true, false, List, [], ◌∷◌, slice_get, length, Option, Some, None, IfSome, Ok, Err, refl, sym, ◌∙◌, ap, subst, arith, eqb-true}
use Rattle.std.specs.Prelude.{◌==◌, ◌&&◌, is_none, if◌then◌else◌}
use Rattle.std.proofs.lemmas.Bool.{eqb-false, false≢true}
use Rattle.std.proofs.lemmas.Option.{none-some}
use Rattle.hd_base.specs.declared.numbers.BlockId.{BlockId}
use Rattle.hd_base.specs.declared.numbers.NodeId.{NodeId}
use Rattle.hd_base.specs.declared.numbers.Stamp.{Stamp}
use Rattle.name_core.specs.declared.calls.Begun.{Begun}
use Rattle.name_core.specs.declared.calls.OfficeAnswer.{OfficeAnswer}
use Rattle.name_core.specs.declared.calls.OfficeAnswer.TheVariants as office
use Rattle.name_core.specs.declared.calls.OfficeCall.{OfficeCall}
use Rattle.name_core.specs.declared.calls.OfficeCall.TheVariants as call
use Rattle.name_core.specs.declared.choice.Chosen.{Chosen}
use Rattle.name_core.specs.Offices.{OfficeState, office_after, office_case, answer_to, record_of}
use Rattle.name_core.specs.Steps.{Step, reply}
use Rattle.name_core.proofs.CaseLemmas.{each_case}
use Rattle.op_headers.specs.declared.ops.Op.TheVariants as op
use Rattle.recovery_core.specs.declared.primary.OwnStep.{OwnStep}
use Rattle.recovery_core.specs.declared.primary.OwnStep.TheVariants as own
use Rattle.recovery_core.specs.declared.primary.Recovered.{Recovered}
use Rattle.recovery_core.specs.declared.standings.Standing.{Standing}
use Rattle.recovery_core.specs.Primaries.{PrimaryState, begun_with, heard_at, office_refused, end_with, request_of, sync_call}
use Rattle.recovery_core.specs.Primaries as primary
use Rattle.packet_codec.specs.declared.packets.Packet.{Packet}
use Rattle.packet_stream.specs.Streams.{written_in}
use Rattle.replica_model.specs.Rows.{FullReplica}
use Rattle.writer_core.specs.declared.actions.Action.{Action}
use Rattle.writer_core.specs.declared.actions.Action.TheVariants as action
use Rattle.writer_core.specs.declared.commands.Command.{Command}
use Rattle.writer_core.specs.declared.commands.Command.TheVariants as command
use Rattle.writer_core.specs.declared.phases.DuePacket.{DuePacket}
use Rattle.writer_core.specs.declared.phases.DuePacket.TheVariants as due
use Rattle.writer_core.specs.declared.phases.Failure.{Failure}
use Rattle.writer_core.specs.declared.phases.Phase.{Phase}
use Rattle.writer_core.specs.declared.phases.Phase.TheVariants as phase
use Rattle.writer_core.specs.declared.phases.Setup.{Setup}
use Rattle.writer_core.specs.declared.phases.Setup.TheVariants as setup
use Rattle.writer_core.specs.declared.phases.Waiting.{Waiting}
use Rattle.writer_core.specs.declared.records.WriterRecord.{WriterRecord}
use Rattle.writer_core.specs.Transitions.{take_first, free_step_as, failed_command, failed_first, failed_step_as, stamp_call, dial_step_as, accepted_step, form_step, reached_length, reach_step_as, due_now, due_step, stream_step_as, step_in, own_step, granted}
use Rattle.world.specs.Parts.{Message, request, Place, Told, Writing, Leading, Primary, no_primary, was_told, leads, has_led, Break}
use Rattle.world.specs.Worlds.{World, Dial, Stamped, Change, put, past_after, latest_with, apply}
use Rattle.world.specs.Connections.{Next, is_alive, place_of}
use Rattle.world.specs.Clients.{are_members}
use Rattle.world.specs.Primaries.{primary_change, dials_answered, recovery_message, begins_with, begins_as, begins_at, own_recover, updates_change, ends_change, leads_step, commits_step, leads_told, own_primary_as, own_primary, heard_of, listens, hears_change, primary_up_as, primary_up, stamped_by, asks_writer, asks_primary, writer_asks, writer_asks_office, primary_commits, primary_asks}
use Rattle.world_laws.proofs.FactTables.{if-each, when-each, and-left, some-weaker}
use Rattle.world_laws.proofs.OfficeSteps.{AsksAs, block_in}
use Rattle.world_laws.specs.Stamping.{Givens, given_with, known_heard, heard, HeldOf, Recorded}
use Rattle.world_laws.proofs.StampGivens.{put-here, put-there}
use Rattle.world_laws.proofs.StampRecording.{gives, others-latest, given-each}
use Rattle.world_laws.proofs.StampWalking.{none-is}
use Rattle.world_laws.proofs.ByteFrame.{past-grows}
use Rattle.world_laws.proofs.ByteLeaves.{Facts, before-of}
use Rattle.world_laws.proofs.ByteOffices.{office-extends, Answered, old-written}
use Rattle.world_recoveries.specs.Recovering.{ToldId, HasId, LeadFits, Recovering}
use Rattle.world_recoveries.proofs.Choosing.{own-updates}
use Rattle.world_recoveries.proofs.Leading.{chosen_op, updates-at, dial-of, heard-id}
use Rattle.world_finals.specs.Finishing.{Ids, ids_with, writes_no_more, Sealed, EndsAt, Completes, by_recovery, by_writer, EntryEnds, SessionBegins, AcksFrom, PhaseSent, LeadSent, DownEnds, ReplicaEnds, BreakEnds, SetsNoId, WriterEnds, Finals, Earlier}
use Rattle.world_finals.proofs.Writers.{BeginsSession, StampNoId, AnswerEnds, granted-ends}
use Rattle.world_finals.proofs.Frame.{Stays, Ends, sets-stays, replica-stays, break-stays, entries-stay, begins-more, session-stays, acks-stays, acks-kept, latest-stays, lead-sent, grown, News, stays-so}
use Rattle.world_finals.proofs.Updating.{heard-sent, updates-sent, commits-sent}
use Rattle.world_finals.proofs.Entries.{Closes, finished-completes, entries-by}
use Rattle.world_finals.proofs.Opening.{BegunAs, Wrote, begun-by, acks-by}
use Rattle.world_finals.proofs.Clients.{Brings}
use Rattle.world_recoveries.proofs.Naming.{keeps-by}
use Rattle.name_core.specs.declared.records.BlockRecord.{BlockRecord}

-- PRIMARIES

-- the office, the writers and the nodes are left alone
record LeadsApart (w : World) (k : Change) : Type 0 where
  pub office : k.office ≡ w.office
  pub stamped : k.stamped ≡ None
  pub bytes : k.bytes ≡ []
  pub writer : k.writer ≡ w.writers k.writer_at
  pub replica : k.replica ≡ w.replicas k.node k.block
  pub broke : k.broke ≡ w.breaks k.node k.block

lead-brings : (f : Ids) (g : Givens) (w : World) (k : Change) → Finals f g w → Facts g w → LeadsApart w k → ((c j : ℕ) (m : Message) → slice_get (k.downs c) j ≡ Some m → DownEnds f g (apply w k) c m)
    → ((j : ℕ) (d : Dial) → slice_get k.dials j ≡ Some d → DownEnds f g (apply w k) (w.next_conn + j) d.request) → ((id : Stamp) → HasId k.primary id → f id.0 ≡ true) → LeadSent (past_after w k) k.primary → Brings f g w k
lead-brings f g w k h a x downs dials ids sends =
    let e : Ends w k = record { stamped = x.stamped; shuts = λ z. ap (λ (u : Writing). writes_no_more (heard u).phase) x.writer ∙ z; bytes = inl x.bytes } in
    let s = stays-so f g w k h a e in
    let v = apply w k in
    record {
      ends = e;
      news = λ _. record {
        replica = subst (λ (r : FullReplica). ReplicaEnds f g v k.block r) (sym x.replica) (replica-stays f g w f g v k.block (w.replicas k.node k.block) s (h.replicas k.node k.block));
        broke = subst (λ (o : Option Break). IfSome o (BreakEnds f g v k.block)) (sym x.broke)
            (some-weaker (BreakEnds f g w k.block) (BreakEnds f g v k.block) (w.breaks k.node k.block) (λ y z. break-stays f g w f g v k.block y s z) (h.breaks k.node k.block));
        downs = downs;
        dials = dials;
        writer = subst (λ (u : Writing). WriterEnds (heard u)) (sym x.writer) (h.writers k.writer_at);
        stamp = subst (λ (u : Writing). SetsNoId f (heard u).phase) (sym x.writer) (h.stamps k.writer_at);
        primary = ids;
        below = λ t y. subst (λ (o : OfficeState). t < o.next.0) (sym x.office) (h.below t y);
        earlier = h.earlier;
        sends = sends;
        entries = entries-stay f g w f g v k.office s x.office h.entries;
        sessions = λ d i q. session-stays f g w f g v d i s h q;
        acks = acks-kept f g w f g k h s (latest-stays w k x.stamped) (subst (λ (u : Writing). AcksFrom f g w k.writer_at (w.latest k.writer_at) (heard u)) (sym x.writer) (h.acks k.writer_at));
      };
    }

ended-brings : (f : Ids) (g : Givens) (w : World) (k : Change) (r : Recovered) → Finals f g w → Facts g w → LeadsApart w k → k.primary ≡ has_led r → ((c : ℕ) → k.downs c ≡ []) → k.dials ≡ [] → Brings f g w k
ended-brings f g w k r h a x e d s =
    lead-brings f g w k h a x (λ c j m q. absurd (none-some m (sym (ap (λ (ms : List Message). slice_get ms j) (d c)) ∙ q))) (λ j z q. absurd (none-some z (sym (ap (λ (zs : List Dial). slice_get zs j) s) ∙ q)))
    (λ id y. absurd (subst (λ (z : Primary). HasId z id) e y)) (subst (λ (z : Primary). LeadSent (past_after w k) z) (sym e) tt)

begins-brings : (f : Ids) (g : Givens) (w : World) (i : ℕ) (at : Place) (b : BlockId) (begun : Begun) (ms : List NodeId) (bs : List Bool) → Finals f g w → Facts g w → w.primaries i ≡ was_told b (Ok (office.Begun begun))
    → Brings f g w (begins_with w i at b begun ms (dials_answered w ms bs))
begins-brings f g w i at b begun ms bs h a e =
    lead-brings f g w k h a (record { office = refl; stamped = refl; bytes = refl; writer = refl; replica = refl; broke = refl }) (λ c j m q. absurd (none-some m q))
    (λ j d q. subst (λ (m : Message). DownEnds f g (apply w k) (w.next_conn + j) m) (sym (dial-of w i at first 0 w.next_conn ms (dials_answered w ms bs) j d q).is_first) is)
    (λ id y. subst (λ (t : Stamp). f t.0 ≡ true) y is) tt
  where
    first : Message
    first = recovery_message (begun_with b begun ms (dials_answered w ms bs))

    k : Change
    k = begins_with w i at b begun ms (dials_answered w ms bs)

    is : f begun.id.0 ≡ true
    is = h.primaries i begun.id (subst (λ (z : Primary). HasId z begun.id) (sym e) refl)

begins-as-brings : (f : Ids) (g : Givens) (w : World) (i : ℕ) (at : Place) (b : BlockId) (ms : List NodeId) (bs : List Bool) (told : Told) → Finals f g w → Facts g w → w.primaries i ≡ was_told b told → IfSome (begins_as told w i at b ms bs) (Brings f g w)
begins-as-brings f g w i at b ms bs (Ok (office.Begun begun)) h a e = begins-brings f g w i at b begun ms bs h a e
begins-as-brings f g w i at b ms bs (Ok (office.Stamp s)) h a e = tt
begins-as-brings f g w i at b ms bs (Ok (office.Reopened r)) h a e = tt
begins-as-brings f g w i at b ms bs (Ok office.Nothing) h a e = tt
begins-as-brings f g w i at b ms bs (Err x) h a e = ended-brings f g w (primary_change w i (has_led (office_refused x))) (office_refused x) h a (record { office = refl; stamped = refl; bytes = refl; writer = refl; replica = refl; broke = refl }) refl (λ _. refl) refl

begins-at-brings : (x : Primary) (f : Ids) (g : Givens) (w : World) (i n : ℕ) (b : BlockId) (ms : List NodeId) (bs : List Bool) → Finals f g w → Facts g w → w.primaries i ≡ x → IfSome (begins_at x w i n b ms bs) (Brings f g w)
begins-at-brings no_primary f g w i n b ms bs h a e = tt
begins-at-brings (was_told q told) f g w i n b ms bs h a e =
    when-each (Brings f g w) (q.0 == b.0 && w.running n && are_members ms) _ (λ t.
    let same : q.0 ≡ b.0 = eqb-true q.0 b.0 (and-left (q.0 == b.0) (w.running n) (and-left (q.0 == b.0 && w.running n) (are_members ms) t)) in
    begins-as-brings f g w i (place_of w n) b ms bs told h a (e ∙ ap (λ (m : ℕ). was_told (record { 0 = m }) told) same))
begins-at-brings (leads l) f g w i n b ms bs h a e = tt
begins-at-brings (has_led r) f g w i n b ms bs h a e = tt

pub own-recover-brings : (f : Ids) (g : Givens) (w : World) (i n : ℕ) (b : BlockId) (ms : List NodeId) (bs : List Bool) → Finals f g w → Facts g w → IfSome (own_recover w i n b ms bs) (Brings f g w)
own-recover-brings f g w i n b ms bs h a = begins-at-brings (w.primaries i) f g w i n b ms bs h a refl

-- the id of a primary that leads
leads-id : (f : Ids) (g : Givens) (w : World) (i : ℕ) (l : Leading) → Finals f g w → w.primaries i ≡ leads l → f l.state.begun.id.0 ≡ true
leads-id f g w i l h e = h.primaries i l.state.begun.id (subst (λ (z : Primary). HasId z l.state.begun.id) (sym e) refl)

-- what was sent of a recovery whose primary leads
sent-of : (f : Ids) (g : Givens) (w : World) (i : ℕ) (l : Leading) → Finals f g w → w.primaries i ≡ leads l → PhaseSent w.past l.state.begun.id l.state.phase l.state.standings
sent-of f g w i l h e = subst (λ (x : Primary). LeadSent w.past x) e (h.sends i)

updates-brings : (f : Ids) (g : Givens) (w : World) (i : ℕ) (l : Leading) (c : Chosen) → Finals f g w → Facts g w → Recovering g w → w.primaries i ≡ leads l → (primary.own_step l.state).does ≡ own.Updates c → Brings f g w (updates_change w i l (primary.own_step l.state).primary c)
updates-brings f g w i l c h a r e d =
    lead-brings f g w k h a (record { office = refl; stamped = refl; bytes = refl; writer = refl; replica = refl; broke = refl })
    (λ v j m q. subst (λ (x : Message). DownEnds f g (apply w k) v x) (updates-at (request (op.Recovery (chosen_op l c))) c.members l.state.members l.conns v j m q).is (leads-id f g w i l h e)) (λ j x q. absurd (none-some x q))
    (λ id y. subst (λ (t : Stamp). f t.0 ≡ true) (sym (ap (λ (s : PrimaryState). s.begun.id) (own-updates l.state c d).primary) ∙ y) (leads-id f g w i l h e))
    (updates-sent w i l c (subst (λ (x : Primary). LeadFits w.past x) e (r.primaries i)) d)
  where
    k : Change
    k = updates_change w i l (primary.own_step l.state).primary c

leads-step-brings : (s : OwnStep) (f : Ids) (g : Givens) (w : World) (i : ℕ) (l : Leading) → Finals f g w → Facts g w → Recovering g w → w.primaries i ≡ leads l → (primary.own_step l.state).does ≡ s → IfSome (leads_step s w i l (primary.own_step l.state).primary) (Brings f g w)
leads-step-brings own.Waits f g w i l h a r e d = tt
leads-step-brings (own.Updates c) f g w i l h a r e d = updates-brings f g w i l c h a r e d
leads-step-brings (own.Commits c) f g w i l h a r e d = tt
leads-step-brings (own.Ends r) f g w i l h a y e d = ended-brings f g w (ends_change w i l r) r h a (record { office = refl; stamped = refl; bytes = refl; writer = refl; replica = refl; broke = refl }) refl (λ _. refl) refl

commits-step-brings : (s : OwnStep) (f : Ids) (g : Givens) (w : World) (i : ℕ) (l : Leading) (t : Told) → Finals f g w → Facts g w → IfSome (commits_step s w i l t) (Brings f g w)
commits-step-brings own.Waits f g w i l t h a = tt
commits-step-brings (own.Updates c) f g w i l t h a = tt
commits-step-brings (own.Commits c) f g w i l t h a = ended-brings f g w (ends_change w i l (end_with l.state c t)) (end_with l.state c t) h a (record { office = refl; stamped = refl; bytes = refl; writer = refl; replica = refl; broke = refl }) refl (λ _. refl) refl
commits-step-brings (own.Ends r) f g w i l t h a = tt

leads-told-brings : (o : Option Told) (f : Ids) (g : Givens) (w : World) (i : ℕ) (l : Leading) → Finals f g w → Facts g w → Recovering g w → w.primaries i ≡ leads l → IfSome (leads_told o w i l) (Brings f g w)
leads-told-brings None f g w i l h a r e = leads-step-brings (primary.own_step l.state).does f g w i l h a r e refl
leads-told-brings (Some t) f g w i l h a r e = commits-step-brings (primary.own_step l.state).does f g w i l t h a

own-primary-as : (x : Primary) (f : Ids) (g : Givens) (w : World) (i : ℕ) → Finals f g w → Facts g w → Recovering g w → w.primaries i ≡ x → IfSome (own_primary_as x w i) (Brings f g w)
own-primary-as no_primary f g w i h a y e = tt
own-primary-as (was_told b t) f g w i h a y e = tt
own-primary-as (leads l) f g w i h a y e = when-each (Brings f g w) (is_alive w l.at) _ (λ _. leads-told-brings l.told f g w i l h a y e)
own-primary-as (has_led r) f g w i h a y e = tt

pub own-primary-brings : (f : Ids) (g : Givens) (w : World) (i : ℕ) → Finals f g w → Facts g w → Recovering g w → IfSome (own_primary w i) (Brings f g w)
own-primary-brings f g w i h a y = own-primary-as (w.primaries i) f g w i h a y refl

hears-brings : (f : Ids) (g : Givens) (w : World) (i : ℕ) (l : Leading) (place c : ℕ) (x : Next) (o : Option Standing) → Finals f g w → Facts g w → w.primaries i ≡ leads l → IfSome (hears_change w i l place c x o) (Brings f g w)
hears-brings f g w i l place c x None h a e = tt
hears-brings f g w i l place c x (Some s) h a e =
    when-each (Brings f g w) (listens l.state.phase s) _ (λ _.
    lead-brings f g w _ h a (record { office = refl; stamped = refl; bytes = refl; writer = refl; replica = refl; broke = refl }) (λ v j m q. absurd (none-some m q)) (λ j z q. absurd (none-some z q))
    (λ id y. subst (λ (t : Stamp). f t.0 ≡ true) (sym (ap (λ (b : Begun). b.id) (heard-id l.state place (heard_of x) (slice_get l.state.standings place))) ∙ y) (leads-id f g w i l h e))
    (let m : Leading = record l { state = heard_at l.state place (heard_of x) } in
    let k : Change = primary_change w i (leads m) in
    lead-sent w.past (past_after w k) (leads m) (past-grows w k) (heard-sent w.past l.state place (heard_of x) (slice_get l.state.standings place) refl (sent-of f g w i l h e))))

primary-up-as : (z : Primary) (f : Ids) (g : Givens) (w : World) (i place c : ℕ) (x : Next) → Finals f g w → Facts g w → w.primaries i ≡ z → IfSome (primary_up_as z w i place c x) (Brings f g w)
primary-up-as no_primary f g w i place c x h a e = tt
primary-up-as (was_told b t) f g w i place c x h a e = tt
primary-up-as (leads l) f g w i place c x h a e = when-each (Brings f g w) (is_alive w l.at && is_none l.told) _ (λ _. hears-brings f g w i l place c x (slice_get l.state.standings place) h a e)
primary-up-as (has_led r) f g w i place c x h a e = tt

pub primary-up-brings : (f : Ids) (g : Givens) (w : World) (i place c : ℕ) (x : Next) → Finals f g w → Facts g w → IfSome (primary_up w i place c x) (Brings f g w)
primary-up-brings f g w i place c x h a = primary-up-as (w.primaries i) f g w i place c x h a refl

-- THE OFFICE

-- an answer gives the next stamp
abbrev GivesNext : OfficeState → Told → Type 0
GivesNext o (Ok (office.Stamp s)) = s ≡ o.next
GivesNext o (Ok (office.Reopened r)) = r.new ≡ o.next
GivesNext o _ = Unit {0}

abbrev AnswerNext : OfficeState → OfficeCall → Step OfficeState OfficeAnswer → Type 0
AnswerNext o c s = GivesNext o (reply s)

gives-next : (o : OfficeState) (c : OfficeCall) → GivesNext o (answer_to o c)
gives-next o c = each_case o (AnswerNext o) (record {
  refused = λ d e. tt;
  created = λ b ms e. refl;
  appended = λ b r e s t. refl;
  stamped = λ b r e s. refl;
  committed = λ b s ms r e x y. tt;
  completed = λ b s n r e x y. tt;
  begun = λ b r e s. tt;
  synced = λ b id n ms r e s t. tt;
}) c

-- the latest session of the block of a stamp that is given: as before, or named by the next stamp
abbrev LatestGoes : World → Option Stamped → Type 0
LatestGoes w o = IfSome o (λ s. (s.latest ≡ w.latest s.block) ⊎ (s.latest ≡ w.office.next.0))

latest-goes : (w : World) (c : OfficeCall) (t : Told) → GivesNext w.office t → LatestGoes w (stamped_by w c t)
latest-goes w (call.Create b ms) (Ok (office.Stamp s)) n = inr (ap (λ (x : Stamp). x.0) n)
latest-goes w (call.Create b ms) (Ok (office.Reopened r)) n = tt
latest-goes w (call.Create b ms) (Ok (office.Begun r)) n = tt
latest-goes w (call.Create b ms) (Ok office.Nothing) n = tt
latest-goes w (call.Create b ms) (Err e) n = tt
latest-goes w (call.Append b) (Ok (office.Reopened r)) n = inr (ap (λ (x : Stamp). x.0) n)
latest-goes w (call.Append b) (Ok (office.Stamp s)) n = tt
latest-goes w (call.Append b) (Ok (office.Begun r)) n = tt
latest-goes w (call.Append b) (Ok office.Nothing) n = tt
latest-goes w (call.Append b) (Err e) n = tt
latest-goes w (call.NewStamp b) (Ok (office.Stamp s)) n = inl refl
latest-goes w (call.NewStamp b) (Ok (office.Reopened r)) n = tt
latest-goes w (call.NewStamp b) (Ok (office.Begun r)) n = tt
latest-goes w (call.NewStamp b) (Ok office.Nothing) n = tt
latest-goes w (call.NewStamp b) (Err e) n = tt
latest-goes w (call.BeginRecovery b) (Ok (office.Begun r)) n = inl refl
latest-goes w (call.BeginRecovery b) (Ok (office.Stamp s)) n = tt
latest-goes w (call.BeginRecovery b) (Ok (office.Reopened r)) n = tt
latest-goes w (call.BeginRecovery b) (Ok office.Nothing) n = tt
latest-goes w (call.BeginRecovery b) (Err e) n = tt
latest-goes w (call.Commit b s ms) t n = tt
latest-goes w (call.Complete b s m) t n = tt
latest-goes w (call.CommitSync b id m ms) t n = tt

latest-either : (w : World) (o : Option Stamped) (d : ℕ) → LatestGoes w o → (latest_with w.latest o d ≡ w.latest d) ⊎ (latest_with w.latest o d ≡ w.office.next.0)
latest-either w None d h = inl refl
latest-either w (Some s) d h =
    if-each (λ (n : ℕ). (n ≡ w.latest d) ⊎ (n ≡ w.office.next.0)) (d == s.block) s.latest (w.latest d) (λ e. go e h) (λ _. inl refl)
  where
    go : (d == s.block) ≡ true → (s.latest ≡ w.latest s.block) ⊎ (s.latest ≡ w.office.next.0) → (s.latest ≡ w.latest d) ⊎ (s.latest ≡ w.office.next.0)
    go e (inl q) = inl (q ∙ ap w.latest (sym (eqb-true d s.block e)))
    go e (inr q) = inr q

-- a session lies below the next stamp
session-below : (g : Givens) (w : World) (b t e : ℕ) → Facts g w → g b t ≡ Some e → e < w.office.next.0
session-below g w b t e a q = omega (arith, before-of g w a.recorded b t e q, a.recorded.below b t e q)

pub record OfficeBrings (f : Ids) (g : Givens) (w : World) (e : Ids) (l : Givens) (k : Change) : Type 0 where
  pub stays : Stays f g w e l (apply w k)
  pub news : News e l w k

office-ends : (g : Givens) (w : World) (c : OfficeCall) (k : Change) → Facts g w → Answered w c k
    → ((b s : ℕ) → s < w.office.next.0 → Sealed (w.latest b) (heard (w.writers b)) s → Sealed (latest_with w.latest (stamped_by w c (answer_to w.office c)) b) (heard (put w.writers k.writer_at k.writer b)) s)
    → (b t n : ℕ) → EndsAt g w b t n → EndsAt (given_with g (stamped_by w c (answer_to w.office c))) (apply w k) b t n
unfolding apply
office-ends g w c k a x shut b t n y =
    let lt = session-below g w b t y.session a y.given in
    record {
      session = y.session;
      given = (office-extends g w c a.recorded).given b t y.session y.given;
      shut = subst (λ (o : Option Stamped). Sealed (latest_with w.latest o b) (heard (put w.writers k.writer_at k.writer b)) y.session) (sym x.stamped) (shut b y.session lt y.shut);
      length = y.length ∙ ap (λ (v : List ℕ). length v) (sym (old-written g w c k x y.session lt));
    }

-- what stays over an answer of the office
office-stays : (f e : Ids) (g : Givens) (w : World) (c : OfficeCall) (k : Change) → Finals f g w → Facts g w → Answered w c k → ((t : ℕ) → t < w.office.next.0 → e t ≡ f t)
    → ((b s : ℕ) → s < w.office.next.0 → Sealed (w.latest b) (heard (w.writers b)) s → Sealed (latest_with w.latest (stamped_by w c (answer_to w.office c)) b) (heard (put w.writers k.writer_at k.writer b)) s)
    → Stays f g w e (given_with g (stamped_by w c (answer_to w.office c))) (apply w k)
office-stays f e g w c k h a x ids shut = record { same = (office-extends g w c a.recorded).given; back = λ b t u s d y z le. (office-extends g w c a.recorded).old b b t u s d y z le; ids = ids; below = h.below; given_below = a.recorded.below; past = grown w k; ends = office-ends g w c k a x shut }

-- what is new where the office answers
office-news : (f e : Ids) (g l : Givens) (w : World) (k : Change) → Finals f g w → Stays f g w e l (apply w k) → k.replica ≡ w.replicas k.node k.block → k.broke ≡ w.breaks k.node k.block → ((c : ℕ) → k.downs c ≡ []) → k.dials ≡ []
    → WriterEnds (heard k.writer) → SetsNoId e (heard k.writer).phase → ((id : Stamp) → HasId k.primary id → e id.0 ≡ true) → ((t : ℕ) → e t ≡ true → t < k.office.next.0) → Earlier e l → LeadSent w.past k.primary → ((b : ℕ) → IfSome (record_of k.office (record { 0 = b })) (EntryEnds e l (apply w k) b))
    → ((b i : ℕ) → l b i ≡ Some i → SessionBegins e l (apply w k) b i (length ((apply w k).written i)))
    → ((b : ℕ) → AcksFrom e l (apply w k) b (latest_with w.latest k.stamped b) (heard (put w.writers k.writer_at k.writer b))) → News e l w k
office-news f e g l w k h s r b d ds ends stamp ids below earlier sends entries sessions acks = record {
  earlier = earlier;
  sends = lead-sent w.past (past_after w k) k.primary (past-grows w k) sends;
  entries = entries;
  sessions = sessions;
  acks = acks;
  replica = subst (λ (x : FullReplica). ReplicaEnds e l (apply w k) k.block x) (sym r) (replica-stays f g w e l (apply w k) k.block (w.replicas k.node k.block) s (h.replicas k.node k.block));
  broke = subst (λ (o : Option Break). IfSome o (BreakEnds e l (apply w k) k.block)) (sym b)
      (some-weaker (BreakEnds f g w k.block) (BreakEnds e l (apply w k) k.block) (w.breaks k.node k.block) (λ y z. break-stays f g w e l (apply w k) k.block y s z) (h.breaks k.node k.block));
  downs = λ c j m q. absurd (none-some m (sym (ap (λ (ms : List Message). slice_get ms j) (d c)) ∙ q));
  dials = λ j x q. absurd (none-some x (sym (ap (λ (xs : List Dial). slice_get xs j) ds) ∙ q));
  writer = ends;
  stamp = stamp;
  primary = ids;
  below = below;
}

-- the next stamp is no id yet
next-no-id : (f : Ids) (g : Givens) (w : World) → Finals f g w → f w.office.next.0 ≡ false
next-no-id f g w h = go (f w.office.next.0) refl
  where
    go : (b : Bool) → f w.office.next.0 ≡ b → f w.office.next.0 ≡ false
    go false q = q
    go true q = absurd (omega (arith, h.below w.office.next.0 q))

stamp-no-id : (f : Ids) (g : Givens) (w : World) (t : Told) → Finals f g w → GivesNext w.office t → StampNoId f t
stamp-no-id f g w (Ok (office.Stamp s)) h n = ap (λ (x : Stamp). f x.0) n ∙ next-no-id f g w h
stamp-no-id f g w (Ok (office.Reopened r)) h n = ap (λ (x : Stamp). f x.0) n ∙ next-no-id f g w h
stamp-no-id f g w (Ok (office.Begun b)) h n = tt
stamp-no-id f g w (Ok office.Nothing) h n = tt
stamp-no-id f g w (Err e) h n = tt

-- the session of a stamp that is given to a writer: the latest one of the block, or it begins now
abbrev SessionGoes : World → Option Stamped → Type 0
SessionGoes w o = IfSome o (λ z. (z.session ≡ w.latest z.block) ⊎ (z.session ≡ w.office.next.0))

-- a session that has begun isn't later than the latest one
begun-within : (g : Givens) (w : World) (b e : ℕ) → Recorded g w → g b e ≡ Some e → e ≤ w.latest b
begun-within g w b e r q = go (record_of w.office (record { 0 = b })) (heard (w.writers b)) (r.blocks b)
  where
    go : (o : Option BlockRecord) (x : WriterRecord) → HeldOf (g b) (w.latest b) o x → e ≤ w.latest b
    go None x h = absurd (none-some e (sym (h.1 e) ∙ q))
    go (Some k) x h = h.office.within e e q

-- with a stamp that is given to a writer
earlier-writer : (f : Ids) (g : Givens) (w : World) (o : Option Stamped) (b m : ℕ) → Finals f g w → Recorded g w → IfSome o (λ x. (x.stamp ≡ w.office.next.0) × (x.block ≡ b) × (x.stamp < m)) → SessionGoes w o → Earlier f (given_with g o)
earlier-writer f g w None b m h r fresh goes = h.earlier
earlier-writer f g w (Some z) b m h r fresh goes = λ c t d e x y no lt.
    given-each (λ (c t d : ℕ). (e : ℕ) → given_with g (Some z) c e ≡ Some e → f t ≡ false → d < e → t < e) g (Some z)
    (λ e y _ lt. given-each (λ (c u v : ℕ). c ≡ z.block → u ≡ v → z.session < u → z.stamp < u) g (Some z) (λ _ q k. absurd (omega (arith, q, k))) (λ c u v q i same k. absurd (later c u v q i same k goes)) z.block e e y refl refl lt)
    (λ c t d q e y no lt. given-each (λ (j u v : ℕ). j ≡ c → u ≡ v → d < u → t < u) g (Some z) (λ _ _ _. omega (arith, r.below c t d q, fresh.0))
    (λ j u v k i same lt. h.earlier c t d u q (subst (λ (n : ℕ). g n u ≡ Some u) i (k ∙ ap (λ (n : ℕ). Some n) (sym same))) no lt) c e e y refl refl lt)
    c t d x e y no lt
  where
    later : (c u v : ℕ) → g c u ≡ Some v → c ≡ z.block → u ≡ v → z.session < u → (z.session ≡ w.latest z.block) ⊎ (z.session ≡ w.office.next.0) → ⊥
    later c u v q i same k (inl s) = omega (arith, k, s, begun-within g w c u r (q ∙ ap (λ (n : ℕ). Some n) (sym same)), ap w.latest i)
    later c u v q i same k (inr s) = omega (arith, k, s, r.below c u v q)

-- with the id of a recovery
earlier-primary : (f : Ids) (g : Givens) (w : World) (o : Option Stamped) (b m : ℕ) → Finals f g w → Recorded g w → IfSome o (λ x. (x.stamp ≡ w.office.next.0) × (x.block ≡ b) × (x.stamp < m)) → IfSome o (λ z. z.session < z.stamp) → Earlier (ids_with f o) (given_with g o)
earlier-primary f g w None b m h r fresh low = h.earlier
earlier-primary f g w (Some z) b m h r fresh low = λ c t d e x y no lt.
    given-each (λ (c t d : ℕ). (e : ℕ) → given_with g (Some z) c e ≡ Some e → ids_with f (Some z) t ≡ false → d < e → t < e) g (Some z)
    (λ e y no lt. absurd (false≢true (sym no ∙ put-here f z.stamp true)))
    (λ c t d q e y no lt. given-each (λ (j u v : ℕ). j ≡ c → u ≡ v → d < u → t < u) g (Some z) (λ _ _ _. omega (arith, r.below c t d q, fresh.0))
    (λ j u v k i same lt. h.earlier c t d u q (subst (λ (n : ℕ). g n u ≡ Some u) i (k ∙ ap (λ (n : ℕ). Some n) (sym same))) (sym (put-there f z.stamp true t (λ n. omega (arith, n, r.below c t d q, fresh.0))) ∙ no) lt) c e e y refl refl lt)
    c t d x e y no lt

-- WRITERS THAT ASK

-- what is written after an answer to a writer
wrote-so : (w : World) (b : ℕ) (c : OfficeCall) → Wrote w c (office_case w.office c) (apply w (asks_writer w b c))
unfolding apply
wrote-so w b c n = refl

-- a writer asks the office; where that begins a session, this is the latest one from then on
asks-brings : (f : Ids) (g : Givens) (w : World) (b : ℕ) (c : OfficeCall) → Finals f g w → Facts g w → (w.writers b).told ≡ None → (block_in c).0 ≡ b
    → (BeginsSession (w.writers b).known.phase (answer_to w.office c) → latest_with w.latest (stamped_by w c (answer_to w.office c)) b ≡ w.office.next.0) → SessionGoes w (stamped_by w c (answer_to w.office c)) → Closes f g w c → AsksAs (w.writers b).known c
    → OfficeBrings f g w f (given_with g (stamped_by w c (answer_to w.office c))) (asks_writer w b c)
asks-brings f g w b c h a none block begins sessions closes asks = record {
  stays = s;
  news = office-news f f g (given_with g (stamped_by w c (answer_to w.office c))) w k h s refl refl (λ _. refl) refl (ends.ends (same-writer (λ (x : WriterRecord). WriterEnds x) (h.writers b)))
      (ends.stamps f (stamp-no-id f g w (answer_to w.office c) h (gives-next w.office c)) (same-writer (λ (x : WriterRecord). SetsNoId f x.phase) (h.stamps b))) (h.primaries 0) (λ t q. omega (arith, h.below t q, (gives w c).rises))
      (earlier-writer f g w (stamped_by w c (answer_to w.office c)) (block_in c).0 (office_after w.office c).next.0 h a.recorded (gives w c).fresh sessions) (h.sends 0)
      (λ d. entries-by f g w f (given_with g (stamped_by w c (answer_to w.office c))) (apply w k) s h c closes (record { 0 = d })) new-sessions new-acks;
}
  where
    k : Change
    k = asks_writer w b c

    x : WriterRecord
    x = (w.writers b).known

    ends : AnswerEnds (w.writers b).known (answer_to w.office c) (granted (w.writers b).known (answer_to w.office c))
    ends = granted-ends (w.writers b).known (answer_to w.office c)

    same-writer : (P : WriterRecord → Type 0) → P (heard (w.writers b)) → P (w.writers b).known
    same-writer P p = subst (λ (o : Option Told). P (known_heard (w.writers b).known o)) none p

    own-shut : (n : ℕ) → n < w.office.next.0 → (n < w.latest b) ⊎ (writes_no_more (heard (w.writers b)).phase ≡ true) → (n < latest_with w.latest (stamped_by w c (answer_to w.office c)) b) ⊎ (writes_no_more (heard k.writer).phase ≡ true)
    own-shut n lt (inl q) = either (latest-either w (stamped_by w c (answer_to w.office c)) b (latest-goes w c (answer_to w.office c) (gives-next w.office c)))
      where
        either : (latest_with w.latest (stamped_by w c (answer_to w.office c)) b ≡ w.latest b) ⊎ (latest_with w.latest (stamped_by w c (answer_to w.office c)) b ≡ w.office.next.0)
            → (n < latest_with w.latest (stamped_by w c (answer_to w.office c)) b) ⊎ (writes_no_more (heard k.writer).phase ≡ true)
        either (inl e) = inl (omega (arith, q, e))
        either (inr e) = inl (omega (arith, lt, e))
    own-shut n lt (inr q) = by (ends.shuts (same-writer (λ (y : WriterRecord). writes_no_more y.phase ≡ true) q))
      where
        by : (writes_no_more (granted (w.writers b).known (answer_to w.office c)).phase ≡ true) ⊎ BeginsSession (w.writers b).known.phase (answer_to w.office c)
            → (n < latest_with w.latest (stamped_by w c (answer_to w.office c)) b) ⊎ (writes_no_more (heard k.writer).phase ≡ true)
        by (inl e) = inr e
        by (inr e) = inl (omega (arith, lt, begins e))

    shut : (d n : ℕ) → n < w.office.next.0 → Sealed (w.latest d) (heard (w.writers d)) n → Sealed (latest_with w.latest (stamped_by w c (answer_to w.office c)) d) (heard (put w.writers b k.writer d)) n
    shut d n lt y = at (d == b) refl
      where
        at : (t : Bool) → (d == b) ≡ t → Sealed (latest_with w.latest (stamped_by w c (answer_to w.office c)) d) (heard (if t then k.writer else w.writers d)) n
        at true e = subst (λ (v : ℕ). Sealed (latest_with w.latest (stamped_by w c (answer_to w.office c)) v) (heard k.writer) n) (sym (eqb-true d b e))
            (record { is = own-shut n lt (subst (λ (v : ℕ). (n < w.latest v) ⊎ (writes_no_more (heard (w.writers v)).phase ≡ true)) (eqb-true d b e) y.is) })
        at false e = subst (λ (v : ℕ). Sealed v (heard (w.writers d)) n)
            (sym (others-latest w.latest (stamped_by w c (answer_to w.office c)) (block_in c).0 d w.office.next.0 (office_after w.office c).next.0 (gives w c).fresh (λ q. eqb-false d b e (q ∙ block)))) y

    s : Stays f g w f (given_with g (stamped_by w c (answer_to w.office c))) (apply w k)
    s = office-stays f f g w c k h a (record { office = refl; stamped = refl; session = refl; bytes = refl }) (λ t _. refl) shut

    new : IfSome (stamped_by w c (answer_to w.office c)) (BegunAs f (given_with g (stamped_by w c (answer_to w.office c))) (apply w k) (granted (w.writers b).known (answer_to w.office c)).stream.acked)
    new = begun-by f g w (apply w k) h a c (w.writers b).known asks
        (subst (λ (d : ℕ). HeldOf (g d) (w.latest d) (record_of w.office (record { 0 = d })) (w.writers b).known) (sym block) (same-writer (λ (x : WriterRecord). HeldOf (g b) (w.latest b) (record_of w.office (record { 0 = b })) x) (a.recorded.blocks b)))
        s (wrote-so w b c)

    own-acks : AcksFrom f (given_with g (stamped_by w c (answer_to w.office c))) (apply w k) b (latest_with w.latest (stamped_by w c (answer_to w.office c)) b) (granted (w.writers b).known (answer_to w.office c))
    own-acks = subst (λ (d : ℕ). AcksFrom f (given_with g (stamped_by w c (answer_to w.office c))) (apply w k) d (latest_with w.latest (stamped_by w c (answer_to w.office c)) d) (granted (w.writers b).known (answer_to w.office c))) block
        (acks-by f g w (apply w k) c (w.writers b).known asks s new (subst (λ (d : ℕ). AcksFrom f g w d (w.latest d) (w.writers b).known) (sym block) (same-writer (λ (x : WriterRecord). AcksFrom f g w b (w.latest b) x) (h.acks b))))

    new-acks : (d : ℕ) → AcksFrom f (given_with g (stamped_by w c (answer_to w.office c))) (apply w k) d (latest_with w.latest (stamped_by w c (answer_to w.office c)) d) (heard (put w.writers b k.writer d))
    new-acks d = at (d == b) refl
      where
        at : (t : Bool) → (d == b) ≡ t → AcksFrom f (given_with g (stamped_by w c (answer_to w.office c))) (apply w k) d (latest_with w.latest (stamped_by w c (answer_to w.office c)) d) (heard (if t then k.writer else w.writers d))
        at true e = subst (λ (v : ℕ). AcksFrom f (given_with g (stamped_by w c (answer_to w.office c))) (apply w k) v (latest_with w.latest (stamped_by w c (answer_to w.office c)) v) (heard k.writer)) (sym (eqb-true d b e)) own-acks
        at false e = subst (λ (v : ℕ). AcksFrom f (given_with g (stamped_by w c (answer_to w.office c))) (apply w k) d v (heard (w.writers d)))
            (sym (others-latest w.latest (stamped_by w c (answer_to w.office c)) (block_in c).0 d w.office.next.0 (office_after w.office c).next.0 (gives w c).fresh (λ q. eqb-false d b e (q ∙ block))))
            (acks-stays f g w f (given_with g (stamped_by w c (answer_to w.office c))) (apply w k) d (w.latest d) (heard (w.writers d)) s (h.acks d))

    new-sessions : (d i : ℕ) → given_with g (stamped_by w c (answer_to w.office c)) d i ≡ Some i → SessionBegins f (given_with g (stamped_by w c (answer_to w.office c))) (apply w k) d i (length ((apply w k).written i))
    new-sessions d i q = given-each (λ (d t j : ℕ). t ≡ j → SessionBegins f (given_with g (stamped_by w c (answer_to w.office c))) (apply w k) d t (length ((apply w k).written t))) g (stamped_by w c (answer_to w.office c))
        (some-weaker (BegunAs f (given_with g (stamped_by w c (answer_to w.office c))) (apply w k) (granted (w.writers b).known (answer_to w.office c)).stream.acked)
        (λ z. z.stamp ≡ z.session → SessionBegins f (given_with g (stamped_by w c (answer_to w.office c))) (apply w k) z.block z.stamp (length ((apply w k).written z.stamp))) (stamped_by w c (answer_to w.office c))
        (λ z x e. let y = x (sym e) in begins-more f (given_with g (stamped_by w c (answer_to w.office c))) (apply w k) z.block z.stamp y.least (length ((apply w k).written z.stamp)) y.written y.begins) new)
        (λ d t j r e. session-stays f g w f (given_with g (stamped_by w c (answer_to w.office c))) (apply w k) d t s h (r ∙ ap (λ (n : ℕ). Some n) (sym e))) d i i q refl

again-session : (w : World) (b : BlockId) (t : Told) → SessionGoes w (stamped_by w (call.NewStamp b) t)
again-session w b (Ok (office.Stamp s)) = inl refl
again-session w b (Ok (office.Reopened r)) = tt
again-session w b (Ok (office.Begun r)) = tt
again-session w b (Ok office.Nothing) = tt
again-session w b (Err e) = tt

-- a session that begins is the latest one
begins-latest : (w : World) (x : WriterRecord) (s : Setup) (t : Told) → GivesNext w.office t → BeginsSession (phase.Wanted s) t → latest_with w.latest (stamped_by w (stamp_call x s) t) x.block.0 ≡ w.office.next.0
begins-latest w x setup.Create (Ok (office.Stamp s)) n b = put-here w.latest x.block.0 s.0 ∙ ap (λ (y : Stamp). y.0) n
begins-latest w x setup.Create (Ok (office.Reopened r)) n b = absurd b
begins-latest w x setup.Create (Ok (office.Begun r)) n b = absurd b
begins-latest w x setup.Create (Ok office.Nothing) n b = absurd b
begins-latest w x setup.Create (Err e) n b = absurd b
begins-latest w x setup.Append (Ok (office.Reopened r)) n b = put-here w.latest x.block.0 r.new.0 ∙ ap (λ (y : Stamp). y.0) n
begins-latest w x setup.Append (Ok (office.Stamp s)) n b = absurd b
begins-latest w x setup.Append (Ok (office.Begun r)) n b = absurd b
begins-latest w x setup.Append (Ok office.Nothing) n b = absurd b
begins-latest w x setup.Append (Err e) n b = absurd b
begins-latest w x setup.AppendRecovery t n b = absurd b
begins-latest w x setup.StreamRecovery t n b = absurd b
begins-latest w x setup.CloseRecovery t n b = absurd b

wanted-session : (w : World) (x : WriterRecord) (s : Setup) (t : Told) → GivesNext w.office t → SessionGoes w (stamped_by w (stamp_call x s) t)
wanted-session w x setup.Create (Ok (office.Stamp s)) n = inr (ap (λ (y : Stamp). y.0) n)
wanted-session w x setup.Create (Ok (office.Reopened r)) n = tt
wanted-session w x setup.Create (Ok (office.Begun r)) n = tt
wanted-session w x setup.Create (Ok office.Nothing) n = tt
wanted-session w x setup.Create (Err e) n = tt
wanted-session w x setup.Append (Ok (office.Reopened r)) n = inr (ap (λ (y : Stamp). y.0) n)
wanted-session w x setup.Append (Ok (office.Stamp s)) n = tt
wanted-session w x setup.Append (Ok (office.Begun r)) n = tt
wanted-session w x setup.Append (Ok office.Nothing) n = tt
wanted-session w x setup.Append (Err e) n = tt
wanted-session w x setup.AppendRecovery t n = again-session w x.block t
wanted-session w x setup.StreamRecovery t n = again-session w x.block t
wanted-session w x setup.CloseRecovery t n = again-session w x.block t

stamp-call-block : (x : WriterRecord) (s : Setup) → block_in (stamp_call x s) ≡ x.block
stamp-call-block x setup.Create = refl
stamp-call-block x setup.Append = refl
stamp-call-block x setup.AppendRecovery = refl
stamp-call-block x setup.StreamRecovery = refl
stamp-call-block x setup.CloseRecovery = refl

-- an action that asks nothing
abbrev NotAsks : Action → Type 0
NotAsks (action.Ask c) = ⊥
NotAsks _ = Unit {0}

abbrev AsksBring : Ids → Givens → World → Option Change → Type 0
AsksBring f g w o = IfSome o (λ k. OfficeBrings f g w f (given_with g k.stamped) k)

quiet-asks : (f : Ids) (g : Givens) (w : World) (b : ℕ) (t : Action) → NotAsks t → AsksBring f g w (writer_asks t w b)
quiet-asks f g w b action.Wait n = tt
quiet-asks f g w b action.Took n = tt
quiet-asks f g w b (action.Ask c) n = absurd n
quiet-asks f g w b (action.Dial to r) n = tt
quiet-asks f g w b (action.Send p) n = tt
quiet-asks f g w b (action.Answered m r) n = tt
quiet-asks f g w b action.Memory n = tt

first-quiet : (x : WriterRecord) (o : Option Command) → NotAsks (take_first x o).action
first-quiet x None = tt
first-quiet x (Some c) = tt

free-quiet : (x : WriterRecord) (o : Option Waiting) → NotAsks (free_step_as x o).action
free-quiet x None = first-quiet x (slice_get x.queue 0)
free-quiet x (Some c) = tt

failed-command-quiet : (x : WriterRecord) (d : Failure) (c : Command) → NotAsks (failed_command x d c).action
failed-command-quiet x d (command.Append ms) = tt
failed-command-quiet x d (command.Create ms) = tt
failed-command-quiet x d (command.Write v) = tt
failed-command-quiet x d (command.Fill n) = tt
failed-command-quiet x d command.Hflush = tt
failed-command-quiet x d command.Hsync = tt
failed-command-quiet x d command.Close = tt

failed-first-quiet : (x : WriterRecord) (d : Failure) (o : Option Command) → NotAsks (failed_first x d o).action
failed-first-quiet x d None = tt
failed-first-quiet x d (Some c) = failed-command-quiet x d c

failed-quiet : (x : WriterRecord) (d : Failure) (o : Option Waiting) → NotAsks (failed_step_as x d o).action
failed-quiet x d None = failed-first-quiet x d (slice_get x.queue 0)
failed-quiet x d (Some c) = tt

dial-quiet : (x : WriterRecord) (s : Setup) (t : Stamp) (ms : List NodeId) → NotAsks (dial_step_as x s t ms).action
dial-quiet x s t [] = tt
dial-quiet x s t (m ∷ ms) = tt

form-quiet : (x : WriterRecord) (d : DuePacket) → NotAsks (form_step x d).action
form-quiet x (due.Data end is_sync) = tt
form-quiet x due.Sync = tt
form-quiet x due.Last = tt

reach-quiet : (x : WriterRecord) (o : Option ℕ) → NotAsks (reach_step_as x o).action
reach-quiet x (Some n) = tt
reach-quiet x None = free-quiet x x.waiting

due-quiet : (x : WriterRecord) (o : Option DuePacket) → NotAsks (due_step x o).action
due-quiet x (Some d) = form-quiet x d
due-quiet x None = reach-quiet x (reached_length x.waiting x.stream)

stream-quiet : (x : WriterRecord) (sent : ℕ) (o : Option Packet) → NotAsks (stream_step_as x sent o).action
stream-quiet x sent (Some p) = tt
stream-quiet x sent None = due-quiet x (due_now x)

-- a call of a writer of this block that begins no session
other-asks : (f : Ids) (g : Givens) (w : World) (b : ℕ) (c : OfficeCall) → Finals f g w → Facts g w → (w.writers b).told ≡ None → block_in c ≡ (w.writers b).known.block → ((t : Told) → BeginsSession (w.writers b).known.phase t → ⊥) → SessionGoes w (stamped_by w c (answer_to w.office c)) → Closes f g w c → AsksAs (w.writers b).known c
    → OfficeBrings f g w f (given_with g (stamped_by w c (answer_to w.office c))) (asks_writer w b c)
other-asks f g w b c h a none block never sessions closes asks = asks-brings f g w b c h a none (own-block g w b c a none block) (λ e. absurd (never (answer_to w.office c) e)) sessions closes asks
  where
    own-block : (g : Givens) (w : World) (b : ℕ) (c : OfficeCall) → Facts g w → (w.writers b).told ≡ None → block_in c ≡ (w.writers b).known.block → (block_in c).0 ≡ b
    own-block g w b c a none block = ap (λ (y : BlockId). y.0) (block ∙ ap (λ (o : Option Told). (known_heard (w.writers b).known o).block) (sym none) ∙ a.recorded.writers b)

accepted-asks : (f : Ids) (g : Givens) (w : World) (b : ℕ) (s : Setup) (t : Stamp) → Finals f g w → Facts g w → (w.writers b).told ≡ None → (w.writers b).known.phase ≡ phase.Accepted s t → AsksBring f g w (writer_asks (accepted_step (w.writers b).known s t).action w b)
accepted-asks f g w b setup.Create t h a none e = tt
accepted-asks f g w b setup.Append t h a none e = other-asks f g w b _ h a none refl (λ z q. subst (λ (p : Phase). BeginsSession p z) e q) tt tt (record { way = setup.Append; at = e; later = tt; block = refl })
accepted-asks f g w b setup.AppendRecovery t h a none e = other-asks f g w b _ h a none refl (λ z q. subst (λ (p : Phase). BeginsSession p z) e q) tt tt (record { way = setup.AppendRecovery; at = e; later = tt; block = refl })
accepted-asks f g w b setup.StreamRecovery t h a none e = other-asks f g w b _ h a none refl (λ z q. subst (λ (p : Phase). BeginsSession p z) e q) tt tt (record { way = setup.StreamRecovery; at = e; later = tt; block = refl })
accepted-asks f g w b setup.CloseRecovery t h a none e = other-asks f g w b _ h a none refl (λ z q. subst (λ (p : Phase). BeginsSession p z) e q) tt tt (record { way = setup.CloseRecovery; at = e; later = tt; block = refl })

-- a stamp closes nothing
wanted-closes : (f : Ids) (g : Givens) (w : World) (x : WriterRecord) (s : Setup) → Closes f g w (stamp_call x s)
wanted-closes f g w x setup.Create = tt
wanted-closes f g w x setup.Append = tt
wanted-closes f g w x setup.AppendRecovery = tt
wanted-closes f g w x setup.StreamRecovery = tt
wanted-closes f g w x setup.CloseRecovery = tt

wanted-asks : (x : WriterRecord) (s : Setup) → x.phase ≡ phase.Wanted s → AsksAs x (stamp_call x s)
wanted-asks x setup.Create e = record { at = e; block = refl }
wanted-asks x setup.Append e = record { at = e; block = refl }
wanted-asks x setup.AppendRecovery e = record { way = setup.AppendRecovery; at = e; again = tt; block = refl }
wanted-asks x setup.StreamRecovery e = record { way = setup.StreamRecovery; at = e; again = tt; block = refl }
wanted-asks x setup.CloseRecovery e = record { way = setup.CloseRecovery; at = e; again = tt; block = refl }

-- a writer completes its block with what was written in the latest session
finished-closes : (f : Ids) (g : Givens) (w : World) (b : ℕ) → Facts g w → (w.writers b).told ≡ None → (w.writers b).known.phase ≡ phase.Finished
    → Closes f g w (call.Complete (w.writers b).known.block (w.writers b).known.committed (written_in (w.writers b).known.stream))
finished-closes f g w b a none e =
    subst (λ (q : BlockId). Closes f g w (call.Complete q (w.writers b).known.committed (written_in (w.writers b).known.stream))) (sym block)
    (λ r is. by_writer (subst (λ (x : WriterRecord). Completes g w b r.committed.0 (written_in x.stream)) same (finished-completes g w b r a (ap (λ (x : WriterRecord). x.phase) same ∙ e) is)))
  where
    same : heard (w.writers b) ≡ (w.writers b).known
    same = ap (λ (o : Option Told). known_heard (w.writers b).known o) none

    block : (w.writers b).known.block ≡ record { 0 = b }
    block = ap (λ (x : WriterRecord). x.block) (sym same) ∙ a.recorded.writers b

step-asks : (f : Ids) (g : Givens) (w : World) (b : ℕ) (p : Phase) → Finals f g w → Facts g w → (w.writers b).told ≡ None → (w.writers b).known.phase ≡ p → AsksBring f g w (writer_asks (step_in (w.writers b).known p).action w b)
step-asks f g w b (phase.Wanted s) h a none e =
    let x = (w.writers b).known in
    let own : x.block.0 ≡ b = ap (λ (y : BlockId). y.0) (ap (λ (o : Option Told). (known_heard (w.writers b).known o).block) (sym none) ∙ a.recorded.writers b) in
    let t = answer_to w.office (stamp_call x s) in
    asks-brings f g w b (stamp_call x s) h a none (ap (λ (y : BlockId). y.0) (stamp-call-block x s) ∙ own)
    (λ q. subst (λ (d : ℕ). latest_with w.latest (stamped_by w (stamp_call x s) t) d ≡ w.office.next.0) own (begins-latest w x s t (gives-next w.office (stamp_call x s)) (subst (λ (p : Phase). BeginsSession p t) e q)))
    (wanted-session w x s t (gives-next w.office (stamp_call x s))) (wanted-closes f g w x s) (wanted-asks x s e)
step-asks f g w b (phase.Accepted s t) h a none e = accepted-asks f g w b s t h a none e
step-asks f g w b phase.Finished h a none e = other-asks f g w b _ h a none refl (λ z q. subst (λ (p : Phase). BeginsSession p z) e q) tt (finished-closes f g w b a none e) (record { at = e; block = refl })
step-asks f g w b phase.Closed h a none e = quiet-asks f g w b _ (free-quiet (w.writers b).known (w.writers b).known.waiting)
step-asks f g w b (phase.Stamped s t) h a none e = quiet-asks f g w b _ (dial-quiet (w.writers b).known s t (w.writers b).known.members)
step-asks f g w b (phase.Requested s t) h a none e = quiet-asks f g w b _ (free-quiet (w.writers b).known (w.writers b).known.waiting)
step-asks f g w b phase.Opened h a none e = tt
step-asks f g w b (phase.Streaming sent) h a none e = quiet-asks f g w b _ (stream-quiet (w.writers b).known sent (slice_get (w.writers b).known.stream.unacked sent))
step-asks f g w b phase.Closing h a none e = quiet-asks f g w b _ (free-quiet (w.writers b).known (w.writers b).known.waiting)
step-asks f g w b phase.Completed h a none e = tt
step-asks f g w b (phase.Failed d) h a none e = quiet-asks f g w b _ (failed-quiet (w.writers b).known d (w.writers b).known.waiting)

own-asks : (f : Ids) (g : Givens) (w : World) (b : ℕ) → Finals f g w → Facts g w → (w.writers b).told ≡ None → AsksBring f g w (writer_asks (own_step (w.writers b).known).action w b)
unfolding own_step
own-asks f g w b h a none = step-asks f g w b (w.writers b).known.phase h a none refl

pub writer-asks-brings : (f : Ids) (g : Givens) (w : World) (b : ℕ) → Finals f g w → Facts g w → AsksBring f g w (writer_asks_office w b)
writer-asks-brings f g w b h a =
    when-each (λ k. OfficeBrings f g w f (given_with g k.stamped) k) (is_none (w.writers b).told) _ (λ e. own-asks f g w b h a (none-is (w.writers b).told e))

-- PRIMARIES THAT ASK

abbrev pub LeadsBring : Ids → Givens → World → Option Change → Type 0
LeadsBring f g w o = IfSome o (λ k. OfficeBrings f g w (ids_with f k.stamped) (given_with g k.stamped) k)

-- ids below the next stamp stay
ids-stay : (f : Ids) (o : Option Stamped) (b n m t : ℕ) → IfSome o (λ x. (x.stamp ≡ n) × (x.block ≡ b) × (x.stamp < m)) → t < n → ids_with f o t ≡ f t
ids-stay f None b n m t h lt = refl
ids-stay f (Some s) b n m t h lt = if-each (λ (x : Bool). x ≡ f t) (t == s.stamp) true (f t) (λ e. absurd (omega (arith, lt, h.0, eqb-true t s.stamp e))) (λ _. refl)

ids-below : (f : Ids) (g : Givens) (w : World) (o : Option Stamped) (b m t : ℕ) → Finals f g w → w.office.next.0 ≤ m → IfSome o (λ x. (x.stamp ≡ w.office.next.0) × (x.block ≡ b) × (x.stamp < m)) → ids_with f o t ≡ true → t < m
ids-below f g w None b m t h le i q = omega (arith, le, h.below t q)
ids-below f g w (Some s) b m t h le i q =
    if-each (λ (x : Bool). x ≡ true → t < m) (t == s.stamp) true (f t) (λ e _. omega (arith, i.2, eqb-true t s.stamp e)) (λ _ z. omega (arith, le, h.below t z)) q

-- the latest sessions stay where a primary asks
abbrev Keeps : World → Option Stamped → Type 0
Keeps w o = IfSome o (λ s. s.latest ≡ w.latest s.block)

kept-latest : (w : World) (o : Option Stamped) (d : ℕ) → Keeps w o → latest_with w.latest o d ≡ w.latest d
kept-latest w None d h = refl
kept-latest w (Some s) d h = if-each (λ (n : ℕ). n ≡ w.latest d) (d == s.block) s.latest (w.latest d) (λ e. h ∙ ap w.latest (sym (eqb-true d s.block e))) (λ _. refl)

primary-stays : (f : Ids) (g : Givens) (w : World) (i : ℕ) (c : OfficeCall) (p : Told → Primary) → Finals f g w → Facts g w → Keeps w (stamped_by w c (answer_to w.office c)) → IfSome (stamped_by w c (answer_to w.office c)) (λ z. z.session < z.stamp)
    → ((id : Stamp) → HasId (p (answer_to w.office c)) id → ids_with f (stamped_by w c (answer_to w.office c)) id.0 ≡ true) → LeadSent w.past (p (answer_to w.office c)) → Closes f g w c
    → OfficeBrings f g w (ids_with f (stamped_by w c (answer_to w.office c))) (given_with g (stamped_by w c (answer_to w.office c))) (asks_primary w i c p)
primary-stays f g w i c p h a keep low ids sends closes =
    let k = asks_primary w i c p in
    let o = stamped_by w c (answer_to w.office c) in
    let e = ids_with f o in
    let l = given_with g o in
    let s = office-stays f e g w c k h a (record { office = refl; stamped = refl; session = refl; bytes = refl })
    (λ t lt. ids-stay f o (block_in c).0 w.office.next.0 (office_after w.office c).next.0 t (gives w c).fresh lt) shut in
    record {
      stays = s;
      news = office-news f e g l w k h s refl refl (λ _. refl) refl (h.writers 0) (stamp s) ids
          (λ t q. ids-below f g w o (block_in c).0 (office_after w.office c).next.0 t h (gives w c).rises (gives w c).fresh q)
          (earlier-primary f g w o (block_in c).0 (office_after w.office c).next.0 h a.recorded (gives w c).fresh low) sends
          (λ d. entries-by f g w e l (apply w k) s h c closes (record { 0 = d }))
          (λ d n q. given-each (λ (d t j : ℕ). t ≡ j → SessionBegins e l (apply w k) d t (length ((apply w k).written t))) g o (some-weaker (λ z. z.session < z.stamp) (λ z. z.stamp ≡ z.session → SessionBegins e l (apply w k) z.block z.stamp (length ((apply w k).written z.stamp))) o
          (λ z lt same. absurd (omega (arith, lt, same))) low) (λ d t j r same. session-stays f g w e l (apply w k) d t s h (r ∙ ap (λ (m : ℕ). Some m) (sym same))) d n n q refl)
          (acks-kept f g w e l k h s (λ d. kept-latest w o d keep) (h.acks 0));
    }
  where
    shut : (b n : ℕ) → n < w.office.next.0 → Sealed (w.latest b) (heard (w.writers b)) n → Sealed (latest_with w.latest (stamped_by w c (answer_to w.office c)) b) (heard (put w.writers 0 (w.writers 0) b)) n
    shut b n lt y =
        if-each (λ (x : Writing). Sealed (latest_with w.latest (stamped_by w c (answer_to w.office c)) b) (heard x) n) (b == 0) (w.writers 0) (w.writers b)
        (λ e. subst (λ (d : ℕ). Sealed (latest_with w.latest (stamped_by w c (answer_to w.office c)) b) (heard (w.writers d)) n) (eqb-true b 0 e) kept) (λ _. kept)
      where
        kept : Sealed (latest_with w.latest (stamped_by w c (answer_to w.office c)) b) (heard (w.writers b)) n
        kept = subst (λ (d : ℕ). Sealed d (heard (w.writers b)) n) (sym (kept-latest w (stamped_by w c (answer_to w.office c)) b keep)) y

    stamp : Stays f g w (ids_with f (stamped_by w c (answer_to w.office c))) (given_with g (stamped_by w c (answer_to w.office c))) (apply w (asks_primary w i c p)) → SetsNoId (ids_with f (stamped_by w c (answer_to w.office c))) (heard (w.writers 0)).phase
    stamp s = let x = heard (w.writers 0) in sets-stays f g w _ _ _ 0 (w.latest 0) x.committed x.stream x.phase s (a.carried.writers 0).asks (h.stamps 0)

begin-keeps : (w : World) (b : BlockId) (t : Told) → Keeps w (stamped_by w (call.BeginRecovery b) t)
begin-keeps w b (Ok (office.Begun r)) = refl
begin-keeps w b (Ok (office.Stamp s)) = tt
begin-keeps w b (Ok (office.Reopened r)) = tt
begin-keeps w b (Ok office.Nothing) = tt
begin-keeps w b (Err e) = tt

begun-id : (f : Ids) (w : World) (b : BlockId) (t : Told) (id : Stamp) → ToldId t id → ids_with f (stamped_by w (call.BeginRecovery b) t) id.0 ≡ true
begun-id f w b (Ok (office.Begun r)) id e = subst (λ (s : Stamp). put f r.id.0 true s.0 ≡ true) e (put-here f r.id.0 true)
begun-id f w b (Ok (office.Stamp s)) id e = absurd e
begun-id f w b (Ok (office.Reopened r)) id e = absurd e
begun-id f w b (Ok office.Nothing) id e = absurd e
begun-id f w b (Err x) id e = absurd e

commits-asked : (s : OwnStep) (f : Ids) (g : Givens) (w : World) (i : ℕ) (l : Leading) → Finals f g w → Facts g w → w.primaries i ≡ leads l → (primary.own_step l.state).does ≡ s → LeadsBring f g w (primary_commits s w i l)
commits-asked own.Waits f g w i l h a e d = tt
commits-asked (own.Updates c) f g w i l h a e d = tt
commits-asked (own.Commits c) f g w i l h a e d =
    let sent = commits-sent w.past l.state c (sent-of f g w i l h e) d in
    primary-stays f g w i (sync_call l.state c) (λ told. leads (record l { told = Some told })) h a tt tt (λ id y. subst (λ (t : Stamp). f t.0 ≡ true) y (leads-id f g w i l h e)) (sent-of f g w i l h e)
    (by_recovery (leads-id f g w i l h e) sent.conn sent.block sent.sent)
commits-asked (own.Ends r) f g w i l h a e d = tt

pub primary-asks-brings : (x : Primary) (f : Ids) (g : Givens) (w : World) (i : ℕ) (b : BlockId) → Finals f g w → Facts g w → w.primaries i ≡ x → LeadsBring f g w (primary_asks x w i b)
primary-asks-brings no_primary f g w i b h a e =
    let t = answer_to w.office (call.BeginRecovery b) in primary-stays f g w i (call.BeginRecovery b) (was_told b) h a (begin-keeps w b t) (keeps-by g w (call.BeginRecovery b) a.recorded tt) (λ id y. begun-id f w b t id y) tt tt
primary-asks-brings (was_told c t) f g w i b h a e = tt
primary-asks-brings (leads l) f g w i b h a e =
    when-each (λ k. OfficeBrings f g w (ids_with f k.stamped) (given_with g k.stamped) k) (is_alive w l.at && is_none l.told) _ (λ _. commits-asked (primary.own_step l.state).does f g w i l h a e refl)
primary-asks-brings (has_led r) f g w i b h a e = tt
