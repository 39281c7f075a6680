-- The steps of writers, and what the office answers them, keep the peace.
use Rattle.std.proofs.Common.{◌≡◌, ℕ, Bool, true, false, List, [], ◌∷◌, Option, Some, None, IfSome, refl, sym, ◌∙◌, ap, subst, ◌⊎◌, inl, inr}
use Rattle.std.specs.Prelude.{◌&&◌, not, is_none}
use Rattle.std.specs.BTreeMap.{is_at}
use Rattle.hd_base.specs.declared.numbers.BlockId.{BlockId}
use Rattle.hd_base.specs.declared.numbers.NodeId.{NodeId}
use Rattle.hd_base.specs.declared.numbers.Stamp.{Stamp}
use Rattle.op_headers.specs.declared.ops.Op.{Op}
use Rattle.name_core.specs.declared.calls.OfficeCall.{OfficeCall}
use Rattle.name_core.specs.declared.calls.OfficeCall.TheVariants as call
use Rattle.name_core.specs.declared.records.BlockRecord.{BlockRecord}
use Rattle.name_core.specs.Steps.{state_after}
use Rattle.name_core.specs.Records.{opened}
use Rattle.name_core.specs.Offices.{OfficeState, block_order, record_of, stamp_given, with_record, with_new_record, office_after}
use Rattle.name_core.proofs.BlockLemmas.{same_or_other, record_of-with_record_same, record_of-with_record_other, record_of-with_new_record_same, record_of-with_new_record_other}
use Rattle.name_core.proofs.CaseLemmas.{each_case}
use Rattle.writer_core.specs.declared.actions.Action.{Action}
use Rattle.writer_core.specs.declared.actions.Action.TheVariants as action
use Rattle.writer_core.specs.declared.phases.Phase.{Phase}
use Rattle.writer_core.specs.declared.phases.Phase.TheVariants as phase
use Rattle.writer_core.specs.declared.phases.Setup.{Setup}
use Rattle.writer_core.specs.declared.phases.Waiting.{Waiting}
use Rattle.writer_core.specs.declared.records.WriterRecord.{WriterRecord}
use Rattle.writer_core.specs.Requests.{request_for}
use Rattle.writer_core.specs.Transitions.{given, own_step, open_step, completed_step, dial_step_as, granted}
use Rattle.world.specs.declared.events.TakenCommand.{TakenCommand}
use Rattle.world.specs.Parts.{request, packet, Told}
use Rattle.world.specs.Worlds.{World}
use Rattle.world.specs.Connections.{Next, is_conn}
use Rattle.world.specs.Clients.{writer_change, did, dialled_change, dialling, rest_in, is_formed, ruled, command_bytes, is_empty, takes_command, writer_step, own_writer, writer_hears, writer_up}
use Rattle.world.specs.Primaries.{writer_asks, writer_asks_office}
use Rattle.world_laws.proofs.FactTables.{when-each}
use Rattle.world_laws.proofs.ByteFrame.{each-nil, each-one}
use Rattle.world_laws.proofs.OfficeSteps.{AsksAs, Asking, own-step-asking}
use Rattle.play_completeness.specs.Plain.{IsLeased, Peaceful}
use Rattle.play_completeness.proofs.PeaceFrame.{IsGood, IsGoodDial, Leases, Leaves, each-sent}

-- OWN STEPS

module _ (w : World) (h : Peaceful w) where
  -- a change of a writer alone
  writer-leaves : (b : ℕ) (x : WriterRecord) → Leaves w (writer_change w b x)
  writer-leaves b x = record {
    primary = refl;
    replica = refl;
    broke = refl;
    lower = refl;
    downs = λ c. each-nil IsGood;
    ups = λ c. each-nil IsGood;
    dials = each-nil IsGoodDial;
    leases = h.leases;
  }

  did-leaves : (b : ℕ) (waits : Option Waiting) (a : Action) (x : WriterRecord) (bytes : List ℕ) → IfSome (did w b waits a x bytes) (Leaves w)
  did-leaves b waits action.Took x bytes = record { primary = refl; replica = refl; broke = refl; lower = refl; downs = λ c. each-nil IsGood; ups = λ c. each-nil IsGood; dials = each-nil IsGoodDial; leases = h.leases }
  did-leaves b waits (action.Send p) x bytes = record {
    primary = refl;
    replica = refl;
    broke = refl;
    lower = refl;
    downs = each-sent (w.writers b).conn (packet p ∷ []) (each-one IsGood (packet p) refl);
    ups = λ c. each-nil IsGood;
    dials = each-nil IsGoodDial;
    leases = h.leases;
  }
  did-leaves b waits (action.Answered n a) x bytes = record { primary = refl; replica = refl; broke = refl; lower = refl; downs = λ c. each-nil IsGood; ups = λ c. each-nil IsGood; dials = each-nil IsGoodDial; leases = h.leases }
  did-leaves b waits action.Wait x bytes = tt
  did-leaves b waits (action.Ask c) x bytes = tt
  did-leaves b waits (action.Dial to r) x bytes = tt
  did-leaves b waits action.Memory x bytes = tt

  dialled-leaves : (b : ℕ) (x : WriterRecord) (to : NodeId) (r : Op) (answered : Bool) → IsGood (request r) → Leaves w (dialled_change w b x to r answered)
  dialled-leaves b x to r true good = record {
    primary = refl;
    replica = refl;
    broke = refl;
    lower = refl;
    downs = λ c. each-nil IsGood;
    ups = λ c. each-nil IsGood;
    dials = each-one IsGoodDial _ (refl, good, h.lives to.0);
    leases = h.leases;
  }
  dialled-leaves b x to r false good = record { primary = refl; replica = refl; broke = refl; lower = refl; downs = λ c. each-nil IsGood; ups = λ c. each-nil IsGood; dials = each-nil IsGoodDial; leases = h.leases }

  dialling-leaves : (b : ℕ) (x : WriterRecord) (s : Setup) (stamp : Stamp) (members : List NodeId) (answered : Bool) → Leaves w (dialling w b x (dial_step_as x s stamp members).action answered)
  unfolding request_for
  dialling-leaves b x s stamp [] answered = writer-leaves b x
  dialling-leaves b x s stamp (first ∷ others) answered = dialled-leaves b x first _ (answered && w.running first.0) refl

  rest-leaves : (b : ℕ) (p : Phase) (x : WriterRecord) (answered : Bool) → IfSome (rest_in p w b x answered) (Leaves w)
  rest-leaves b (phase.Stamped s stamp) x answered = dialling-leaves b x s stamp x.members answered
  rest-leaves b phase.Opened x answered = did-leaves b x.waiting (open_step x).action (open_step x).writer []
  rest-leaves b phase.Completed x answered = did-leaves b x.waiting (completed_step x).action (completed_step x).writer []
  rest-leaves b phase.Closed x answered = writer-leaves b x
  rest-leaves b (phase.Wanted s) x answered = writer-leaves b x
  rest-leaves b (phase.Requested s stamp) x answered = writer-leaves b x
  rest-leaves b (phase.Accepted s stamp) x answered = writer-leaves b x
  rest-leaves b (phase.Streaming n) x answered = writer-leaves b x
  rest-leaves b phase.Closing x answered = writer-leaves b x
  rest-leaves b phase.Finished x answered = writer-leaves b x
  rest-leaves b (phase.Failed f) x answered = writer-leaves b x

  takes-leaves : (b : ℕ) (x : WriterRecord) (t : TakenCommand) → IfSome (takes_command w b x t) (Leaves w)
  takes-leaves b x t =
      let y : WriterRecord = ruled x t.command t.rule in
      when-each (Leaves w) (is_formed t.command t.rule && not (is_empty (given x t.command).queue)) _
      (λ _. when-each (Leaves w) (is_empty (own_step (given y t.command)).writer.queue) _
      (λ _. did-leaves b y.waiting (own_step (given y t.command)).action (own_step (given y t.command)).writer (command_bytes y t.command)))

  step-leaves : (b : ℕ) (x : WriterRecord) (told : Option Told) (takes : Option TakenCommand) (answered : Bool) → IfSome (writer_step w b x told takes answered) (Leaves w)
  step-leaves b x (Some told) None answered = rest-leaves b (granted x told).phase (granted x told) answered
  step-leaves b x (Some told) (Some t) answered = tt
  step-leaves b x None None answered = did-leaves b x.waiting (own_step x).action (own_step x).writer []
  step-leaves b x None (Some t) answered = takes-leaves b x t

  pub own-leaves : (b : ℕ) (takes : Option TakenCommand) (answered : Bool) → IfSome (own_writer w b takes answered) (Leaves w)
  own-leaves b takes answered = step-leaves b (w.writers b).known (w.writers b).told takes answered

  pub writer-up-leaves : (b c : ℕ) (x : Next) → IfSome (writer_up w b c x) (Leaves w)
  writer-up-leaves b c x =
      when-each (Leaves w) (is_conn (w.writers b).conn c && is_none (w.writers b).told) _ (λ _. writer-leaves b (writer_hears (w.writers b).known x))

-- THE OFFICE

leased-of : (o : OfficeState) (b : BlockId) (r : BlockRecord) → record_of o b ≡ Some r → Leases o → IsLeased r
leased-of o b r e h = subst (λ (x : Option BlockRecord). IfSome x IsLeased) e (h b.0)

changed-lease : (o : OfficeState) (b : BlockId) (r s : BlockRecord) → record_of o b ≡ Some r → IsLeased s → Leases o → Leases (with_record o b s)
changed-lease o b r s is l h n = go (same_or_other b (record { 0 = n }))
  where
    go : (b ≡ record { 0 = n }) ⊎ (is_at (block_order (record { 0 = n })) b ≡ false) → IfSome (record_of (with_record o b s) (record { 0 = n })) IsLeased
    go (inl same) = subst (λ (x : Option BlockRecord). IfSome x IsLeased) (sym (ap (record_of (with_record o b s)) (sym same) ∙ record_of-with_record_same o b r s is)) l
    go (inr other) = subst (λ (x : Option BlockRecord). IfSome x IsLeased) (sym (record_of-with_record_other o b (record { 0 = n }) s other)) (h n)

new-lease : (o : OfficeState) (b : BlockId) (s : BlockRecord) → IsLeased s → Leases o → Leases (with_new_record o b s)
new-lease o b s l h n = go (same_or_other b (record { 0 = n }))
  where
    go : (b ≡ record { 0 = n }) ⊎ (is_at (block_order (record { 0 = n })) b ≡ false) → IfSome (record_of (with_new_record o b s) (record { 0 = n })) IsLeased
    go (inl same) = subst (λ (x : Option BlockRecord). IfSome x IsLeased) (sym (ap (record_of (with_new_record o b s)) (sym same) ∙ record_of-with_new_record_same o b s)) l
    go (inr other) = subst (λ (x : Option BlockRecord). IfSome x IsLeased) (sym (record_of-with_new_record_other o b (record { 0 = n }) s other)) (h n)

-- a call that begins no recovery
abbrev IsWriters : OfficeCall → Type 0
IsWriters (call.BeginRecovery b) = ⊥
IsWriters other = Unit {0}

after-leases : (o : OfficeState) (c : OfficeCall) → IsWriters c → Leases o → Leases (office_after o c)
after-leases o c k h =
    each_case o (λ q step. IsWriters q → Leases (state_after o step)) (record {
      refused = λ q e _. h;
      created = λ b members is _. new-lease (stamp_given o) b (opened members o.next) (record { free = refl }) h;
      appended = λ b r is shut short _. changed-lease (stamp_given o) b r (record r { is_open = true; recovery = None }) is (record { free = refl }) h;
      stamped = λ b r is writers _. changed-lease (stamp_given o) b r r is (leased-of o b r is h) h;
      committed = λ b stamp members r is writers new _. changed-lease o b r (record r { committed = stamp; members = members }) is (record { free = (leased-of o b r is h).free }) h;
      completed = λ b stamp bytes r is writers new _. changed-lease o b r (record r { is_open = false; length = bytes }) is (record { free = (leased-of o b r is h).free }) h;
      begun = λ b r is is_open never. absurd never;
      synced = λ b s bytes members r is is_open latest _. changed-lease o b r (record r { is_open = false; committed = s; members = members; length = bytes }) is (record { free = (leased-of o b r is h).free }) h;
    }) c k

writers-call : (x : WriterRecord) (c : OfficeCall) → AsksAs x c → IsWriters c
writers-call x (call.Create b members) h = tt
writers-call x (call.Append b) h = tt
writers-call x (call.NewStamp b) h = tt
writers-call x (call.Commit b stamp members) h = tt
writers-call x (call.Complete b stamp bytes) h = tt
writers-call x (call.BeginRecovery b) h = absurd h
writers-call x (call.CommitSync b id bytes members) h = tt

asks-leaves : (w : World) → Peaceful w → (b : ℕ) (a : Action) → Asking (w.writers b).known a → IfSome (writer_asks a w b) (Leaves w)
asks-leaves w h b (action.Ask c) k = record {
  primary = refl;
  replica = refl;
  broke = refl;
  lower = refl;
  downs = λ d. each-nil IsGood;
  ups = λ d. each-nil IsGood;
  dials = each-nil IsGoodDial;
  leases = after-leases w.office c (writers-call (w.writers b).known c k) h.leases;
}
asks-leaves w h b action.Wait k = tt
asks-leaves w h b action.Took k = tt
asks-leaves w h b (action.Dial to r) k = tt
asks-leaves w h b (action.Send p) k = tt
asks-leaves w h b (action.Answered n a) k = tt
asks-leaves w h b action.Memory k = tt

pub office-leaves : (w : World) → Peaceful w → (b : ℕ) → IfSome (writer_asks_office w b) (Leaves w)
office-leaves w h b = when-each (Leaves w) (is_none (w.writers b).told) _ (λ _. asks-leaves w h b (own_step (w.writers b).known).action (own-step-asking (w.writers b).known))
