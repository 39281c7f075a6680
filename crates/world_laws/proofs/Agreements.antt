-- Office and writers agree after every list of events.
use Rattle.std.proofs.Common.{◌≡◌, ℕ, Bool, true, false, List, [], ◌∷◌, Option, Some, None, IfSome, refl, sym, ◌∙◌, ap, subst, eqb-true, ◌⊎◌, inl, inr}
use Rattle.std.specs.Prelude.{◌==◌, ◌&&◌, not, is_none, nat_lt}
use Rattle.std.specs.BTreeMap.{is_at}
use Rattle.std.proofs.lemmas.Bool.{eqb-false}
use Rattle.std.proofs.lemmas.Option.{none-some}
use Rattle.hd_base.specs.declared.numbers.BlockId.{BlockId}
use Rattle.hd_base.specs.declared.numbers.NodeId.{NodeId}
use Rattle.hd_base.specs.declared.numbers.Stamp.{Stamp}
use Rattle.world.specs.OpHeaders.Op.{Op}
use Rattle.name_core.specs.declared.calls.OfficeCall.{OfficeCall}
use Rattle.name_core.specs.declared.calls.OfficeCall.TheVariants as call
use Rattle.name_core.specs.Offices.{OfficeState, block_order, office_after, answer_to}
use Rattle.name_core.proofs.BlockLemmas.{same_or_other}
use Rattle.world.specs.WriterCore.Action.{Action}
use Rattle.world.specs.WriterCore.Action.TheVariants as action
use Rattle.world.specs.WriterCore.Phase.{Phase}
use Rattle.world.specs.WriterCore.Phase.TheVariants as phase
use Rattle.world.specs.WriterCore.Waiting.{Waiting}
use Rattle.world.specs.WriterCore.WriterRecord.{WriterRecord}
use Rattle.world.specs.WriterCore.Transitions.{given, own_step, dial_step, open_step, completed_step, granted, dialled}
use Rattle.world.specs.WriterCore.Transitions as writer
use Rattle.world.specs.RecoveryCore.OwnStep.{OwnStep}
use Rattle.world.specs.RecoveryCore.OwnStep.TheVariants as step
use Rattle.world.specs.RecoveryCore.Primaries.{sync_call}
use Rattle.world.specs.RecoveryCore.Primaries as primary
use Rattle.world.specs.declared.events.Caller.{Caller}
use Rattle.world.specs.declared.events.Caller.TheVariants as caller
use Rattle.world.specs.declared.events.Delivery.{Delivery}
use Rattle.world.specs.declared.events.Delivery.TheVariants as delivery
use Rattle.world.specs.declared.events.Direction.{Direction}
use Rattle.world.specs.declared.events.Direction.TheVariants as direction
use Rattle.world.specs.declared.events.Event.{Event}
use Rattle.world.specs.declared.events.Event.TheVariants as event
use Rattle.world.specs.declared.events.OwnStep.{OwnStep as OwnEvent}
use Rattle.world.specs.declared.events.OwnStep.TheVariants as own
use Rattle.world.specs.declared.events.TakenCommand.{TakenCommand}
use Rattle.world.specs.Parts.{Told, Writing, Upper, by_writer, by_member, by_reader, by_primary, Leading, Primary, no_primary, was_told, leads, has_led}
use Rattle.world.specs.Worlds.{World, Change, apply, start}
use Rattle.world.specs.Connections.{Next, next_down, next_up, down_taken, up_taken, is_conn, is_alive, is_served}
use Rattle.world.specs.Nodes.{lower_down, lower_ready, mirror_up}
use Rattle.world.specs.Clients.{writer_change, did, dialled_change, dialling, rest_in, is_empty, is_formed, ruled, command_bytes, takes_step, takes_command, writer_step, own_writer, writer_hears, writer_up, reader_up}
use Rattle.world.specs.Primaries.{asks_writer, asks_primary, writer_asks, primary_commits, primary_asks, office_event, primary_up}
use Rattle.world.specs.Restarts.{restart}
use Rattle.world.specs.Events.{changed, own_change, down_as, down_event, ready_event, unless_fails, upper_up, up_as, up_event, fault_event, lost, stop, where_so, outcome, after_event, happens, run}
use Rattle.world_laws.specs.Sessions.{told_stamp, stamp_heard, IsCommitted}
use Rattle.world_laws.proofs.FactTables.{if-each, put-each, when-each, and-right}
use Rattle.world_laws.proofs.WriterSteps.{Same, own-step-same, open-same, completed-same, hears-same, dialled-same, given-same, ruled-same}
use Rattle.world_laws.proofs.OfficeSteps.{granted-block, AsksAs, Asking, own-step-asking, answering, block_in, keeps-other, asks-block, IsPrimarys, leaving}
use Rattle.world_laws.proofs.SessionAsides.{Aside, lower-down-aside, lower-ready-aside, mirror-up-aside, own-reader-aside, reader-up-aside, own-recover-aside, own-primary-aside, primary-up-aside}

-- CHANGES THAT LEAVE THE OFFICE

-- a session gets no bytes, or is the latest one of a block
abbrev pub Spent : World → Change → Type 0
Spent w k = (k.bytes ≡ []) ⊎ ((b : ℕ) × (k.session ≡ w.latest b))

-- the office stays, no stamp is given, no writer has another block or another committed stamp, and only the latest session of a block gets bytes
pub record Quiet (w : World) (k : Change) : Type 0 where
  pub office : k.office ≡ w.office
  pub stamped : k.stamped ≡ None
  pub block : k.writer.known.block ≡ (w.writers k.writer_at).known.block
  pub heard : stamp_heard k.writer ≡ stamp_heard (w.writers k.writer_at)
  pub spent : Spent w k

aside-quiet : (w : World) (k : Change) → Aside w k → Quiet w k
aside-quiet w k a = record {
  office = a.office;
  stamped = a.stamped;
  block = ap (λ (x : Writing). x.known.block) a.writer;
  heard = ap stamp_heard a.writer;
  spent = inl a.bytes;
}

pub asides-quiet : (w : World) (k : Option Change) → IfSome k (Aside w) → IfSome k (Quiet w)
asides-quiet w None a = tt
asides-quiet w (Some k) a = aside-quiet w k a

-- a writer after its answer, with a block and a committed stamp that are those of its step
record Steady (w : World) (b : ℕ) (x : WriterRecord) : Type 0 where
  pub block : x.block ≡ (w.writers b).known.block
  pub heard : x.committed ≡ stamp_heard (w.writers b)

steady-then : (w : World) (b : ℕ) (x y : WriterRecord) → Steady w b x → Same x y → Steady w b y
steady-then w b x y s e = record { block = e.block ∙ s.block; heard = e.committed ∙ s.heard }

writer-quiet : (w : World) (b : ℕ) (x : WriterRecord) → Steady w b x → Quiet w (writer_change w b x)
writer-quiet w b x s = record { office = refl; stamped = refl; block = s.block; heard = s.heard; spent = inl refl }

did-quiet : (w : World) (b : ℕ) (waits : Option Waiting) (a : Action) (x : WriterRecord) (bytes : List ℕ) → Steady w b x → IfSome (did w b waits a x bytes) (Quiet w)
did-quiet w b waits action.Wait x bytes s = tt
did-quiet w b waits action.Took x bytes s = record { office = refl; stamped = refl; block = s.block; heard = s.heard; spent = inr (b, refl) }
did-quiet w b waits (action.Ask c) x bytes s = tt
did-quiet w b waits (action.Dial to r) x bytes s = tt
did-quiet w b waits (action.Send p) x bytes s = record { office = refl; stamped = refl; block = s.block; heard = s.heard; spent = inl refl }
did-quiet w b waits (action.Answered n a) x bytes s = record { office = refl; stamped = refl; block = s.block; heard = s.heard; spent = inl refl }
did-quiet w b waits action.Memory x bytes s = tt

dialled-quiet : (w : World) (b : ℕ) (x : WriterRecord) (to : NodeId) (r : Op) (answered : Bool) → Steady w b x → Quiet w (dialled_change w b x to r answered)
dialled-quiet w b x to r true s =
    let t = steady-then w b x (dialled x true) s (dialled-same x true) in
    record { office = refl; stamped = refl; block = t.block; heard = t.heard; spent = inl refl }
dialled-quiet w b x to r false s = writer-quiet w b (dialled x false) (steady-then w b x (dialled x false) s (dialled-same x false))

dialling-quiet : (w : World) (b : ℕ) (x : WriterRecord) (a : Action) (answered : Bool) → Steady w b x → Quiet w (dialling w b x a answered)
dialling-quiet w b x action.Wait answered s = writer-quiet w b x s
dialling-quiet w b x action.Took answered s = writer-quiet w b x s
dialling-quiet w b x (action.Ask c) answered s = writer-quiet w b x s
dialling-quiet w b x (action.Dial to r) answered s = dialled-quiet w b x to r (answered && w.running to.0) s
dialling-quiet w b x (action.Send p) answered s = writer-quiet w b x s
dialling-quiet w b x (action.Answered n a) answered s = writer-quiet w b x s
dialling-quiet w b x action.Memory answered s = writer-quiet w b x s

rest-quiet : (p : Phase) (w : World) (b : ℕ) (x : WriterRecord) (answered : Bool) → Steady w b x → IfSome (rest_in p w b x answered) (Quiet w)
rest-quiet phase.Closed w b x answered s = writer-quiet w b x s
rest-quiet (phase.Wanted way) w b x answered s = writer-quiet w b x s
rest-quiet (phase.Stamped way stamp) w b x answered s = dialling-quiet w b x (dial_step x way stamp).action answered s
rest-quiet (phase.Requested way stamp) w b x answered s = writer-quiet w b x s
rest-quiet (phase.Accepted way stamp) w b x answered s = writer-quiet w b x s
rest-quiet phase.Opened w b x answered s =
    did-quiet w b x.waiting (open_step x).action (open_step x).writer [] (steady-then w b x (open_step x).writer s (open-same x))
rest-quiet (phase.Streaming sent) w b x answered s = writer-quiet w b x s
rest-quiet phase.Closing w b x answered s = writer-quiet w b x s
rest-quiet phase.Finished w b x answered s = writer-quiet w b x s
rest-quiet phase.Completed w b x answered s =
    did-quiet w b x.waiting (completed_step x).action (completed_step x).writer [] (steady-then w b x (completed_step x).writer s (completed-same x))
rest-quiet (phase.Failed f) w b x answered s = writer-quiet w b x s

takes-quiet : (w : World) (b : ℕ) (waits : Option Waiting) (s : writer.Step) (bytes : List ℕ) → Steady w b s.writer → IfSome (takes_step w b waits s bytes) (Quiet w)
takes-quiet w b waits s bytes h = when-each (Quiet w) (is_empty s.writer.queue) _ (λ _. did-quiet w b waits s.action s.writer bytes h)

command-quiet : (w : World) (b : ℕ) (x : WriterRecord) (t : TakenCommand) → Steady w b x → IfSome (takes_command w b x t) (Quiet w)
command-quiet w b x t s =
    let y = ruled x t.command t.rule in
    let z = given y t.command in
    let u = steady-then w b x y s (ruled-same x t.command t.rule) in
    let v = steady-then w b y z u (given-same y t.command) in
    when-each (Quiet w) (is_formed t.command t.rule && not (is_empty (given x t.command).queue)) _
    (λ _. takes-quiet w b y.waiting (own_step z) (command_bytes y t.command) (steady-then w b z (own_step z).writer v (own-step-same z)))

-- a writer for which no answer waits, or that has just taken it
told-steady : (w : World) (b : ℕ) (told : Option Told) → (w.writers b).told ≡ told → told_stamp (w.writers b).known told ≡ stamp_heard (w.writers b)
told-steady w b told e = ap (λ t. told_stamp (w.writers b).known t) (sym e)

step-quiet : (w : World) (b : ℕ) (told : Option Told) (takes : Option TakenCommand) (answered : Bool) → (w.writers b).told ≡ told
    → IfSome (writer_step w b (w.writers b).known told takes answered) (Quiet w)
step-quiet w b (Some told) None answered e =
    rest-quiet (granted (w.writers b).known told).phase w b (granted (w.writers b).known told) answered
    (record { block = granted-block (w.writers b).known told; heard = told-steady w b (Some told) e })
step-quiet w b (Some told) (Some t) answered e = tt
step-quiet w b None None answered e =
    let x = (w.writers b).known in
    did-quiet w b x.waiting (own_step x).action (own_step x).writer []
    (steady-then w b x (own_step x).writer (record { block = refl; heard = told-steady w b None e }) (own-step-same x))
step-quiet w b None (Some t) answered e = command-quiet w b (w.writers b).known t (record { block = refl; heard = told-steady w b None e })

pub own-writer-quiet : (w : World) (b : ℕ) (takes : Option TakenCommand) (answered : Bool) → IfSome (own_writer w b takes answered) (Quiet w)
own-writer-quiet w b takes answered = step-quiet w b (w.writers b).told takes answered refl

none-is : {A : Type 0} (o : Option A) → is_none o ≡ true → o ≡ None
none-is None e = refl
none-is (Some x) e = cc

pub writer-up-quiet : (w : World) (b c : ℕ) (x : Next) → IfSome (writer_up w b c x) (Quiet w)
writer-up-quiet w b c x =
    let y = (w.writers b).known in
    when-each (Quiet w) (is_conn (w.writers b).conn c && is_none (w.writers b).told) _
    (λ e. writer-quiet w b (writer_hears y x)
    (steady-then w b y (writer_hears y x)
    (record { block = refl; heard = told-steady w b None (none-is (w.writers b).told (and-right (is_conn (w.writers b).conn c) (is_none (w.writers b).told) e)) })
    (hears-same y x)))

-- AGREEMENT

-- each writer writes its own block, and knows the committed stamp where no recovery has begun
pub record Agreement (w : World) : Type 0 where
  pub blocks : (b : ℕ) → (w.writers b).known.block ≡ record { 0 = b }
  pub agree : (b : ℕ) → IsCommitted w.office (record { 0 = b }) (stamp_heard (w.writers b))

quiet-agree : (w : World) (k : Change) → Agreement w → Quiet w k → Agreement (apply w k)
unfolding apply
quiet-agree w k h q = record {
  blocks = put-each (λ (b : ℕ) (x : Writing). x.known.block ≡ record { 0 = b }) w.writers k.writer_at k.writer (q.block ∙ h.blocks k.writer_at) h.blocks;
  agree = put-each (λ (b : ℕ) (x : Writing). IsCommitted k.office (record { 0 = b }) (stamp_heard x)) w.writers k.writer_at k.writer
      (moved k.writer_at (stamp_heard k.writer) (sym q.heard)) (λ b. moved b (stamp_heard (w.writers b)) refl);
}
  where
    moved : (b : ℕ) (s : Stamp) → stamp_heard (w.writers b) ≡ s → IsCommitted k.office (record { 0 = b }) s
    moved b s e =
        subst (λ (o : OfficeState). IsCommitted o (record { 0 = b }) s) (sym q.office)
        (subst (λ (t : Stamp). IsCommitted w.office (record { 0 = b }) t) e (h.agree b))

-- two blocks of different numbers
other-block : (p q : BlockId) → (q.0 ≡ p.0 → ⊥) → is_at (block_order q) p ≡ false
other-block p q apart = go (same_or_other p q)
  where
    go : ((p ≡ q) ⊎ (is_at (block_order q) p ≡ false)) → is_at (block_order q) p ≡ false
    go (inl e) = absurd (apart (sym (ap (λ (x : BlockId). x.0) e)))
    go (inr other) = other

-- the office answers a writer that asks
asked-agree : (w : World) (b : ℕ) (c : OfficeCall) → Agreement w → (w.writers b).told ≡ None → AsksAs (w.writers b).known c → Agreement (apply w (asks_writer w b c))
unfolding apply
asked-agree w b c h none a = record {
  blocks = put-each (λ (d : ℕ) (x : Writing). x.known.block ≡ record { 0 = d }) w.writers b _ (h.blocks b) h.blocks;
  agree = λ d. if-each (λ (x : Writing). IsCommitted after (record { 0 = d }) (stamp_heard x)) (d == b) answered (w.writers d) (λ e. here d (eqb-true d b e)) (λ e. there d (eqb-false d b e));
}
  where
    answered : Writing
    answered = record (w.writers b) { told = Some (answer_to w.office c) }

    after : OfficeState
    after = office_after w.office c

    known-heard : (w.writers b).known.committed ≡ stamp_heard (w.writers b)
    known-heard = ap (λ t. told_stamp (w.writers b).known t) (sym none)

    before : IsCommitted w.office (w.writers b).known.block (w.writers b).known.committed
    before =
        subst (λ (q : BlockId). IsCommitted w.office q (w.writers b).known.committed) (sym (h.blocks b))
        (subst (λ (s : Stamp). IsCommitted w.office (record { 0 = b }) s) (sym known-heard) (h.agree b))

    now : IsCommitted after (record { 0 = b }) (stamp_heard answered)
    now =
        subst (λ (q : BlockId). IsCommitted after q (stamp_heard answered)) (h.blocks b)
        (answering w.office c (w.writers b).known a before)

    here : (d : ℕ) → d ≡ b → IsCommitted after (record { 0 = d }) (stamp_heard answered)
    here d e = subst (λ (n : ℕ). IsCommitted after (record { 0 = n }) (stamp_heard answered)) (sym e) now

    there : (d : ℕ) → (d ≡ b → ⊥) → IsCommitted after (record { 0 = d }) (stamp_heard (w.writers d))
    there d apart =
        let q : BlockId = record { 0 = d } in
        let in_call : block_in c ≡ record { 0 = b } = asks-block (w.writers b).known c a ∙ h.blocks b in
        let other = other-block (block_in c) q (λ e. apart (e ∙ ap (λ (x : BlockId). x.0) in_call)) in
        λ r is lease. h.agree d r (sym (keeps-other w.office c q other) ∙ is) lease

-- it answers a primary
primary-agree : (w : World) (i : ℕ) (c : OfficeCall) (p : Told → Primary) → Agreement w → IsPrimarys c → Agreement (apply w (asks_primary w i c p))
unfolding apply
primary-agree w i c p h a = record {
  blocks = put-each (λ (b : ℕ) (x : Writing). x.known.block ≡ record { 0 = b }) w.writers 0 (w.writers 0) (h.blocks 0) h.blocks;
  agree = put-each (λ (b : ℕ) (x : Writing). IsCommitted (office_after w.office c) (record { 0 = b }) (stamp_heard x)) w.writers 0 (w.writers 0) (left 0) left;
}
  where
    left : (b : ℕ) → IsCommitted (office_after w.office c) (record { 0 = b }) (stamp_heard (w.writers b))
    left b = leaving w.office c a (record { 0 = b }) (stamp_heard (w.writers b)) (h.agree b)

-- OFFICE EVENTS

-- what a change makes of a world that agrees
abbrev Agrees : World → Change → Type 0
Agrees w k = Agreement (apply w k)

writer-asks-agree : (w : World) (b : ℕ) (a : Action) → Agreement w → (w.writers b).told ≡ None → Asking (w.writers b).known a → IfSome (writer_asks a w b) (Agrees w)
writer-asks-agree w b action.Wait h none q = tt
writer-asks-agree w b action.Took h none q = tt
writer-asks-agree w b (action.Ask c) h none q = asked-agree w b c h none q
writer-asks-agree w b (action.Dial to r) h none q = tt
writer-asks-agree w b (action.Send p) h none q = tt
writer-asks-agree w b (action.Answered n a) h none q = tt
writer-asks-agree w b action.Memory h none q = tt

commits-agree : (w : World) (i : ℕ) (l : Leading) (s : OwnStep) → Agreement w → IfSome (primary_commits s w i l) (Agrees w)
commits-agree w i l step.Waits h = tt
commits-agree w i l (step.Updates c) h = tt
commits-agree w i l (step.Commits c) h = primary-agree w i (sync_call l.state c) (λ told. leads (record l { told = Some told })) h tt
commits-agree w i l (step.Ends r) h = tt

primary-asks-agree : (p : Primary) (w : World) (i : ℕ) (b : BlockId) → Agreement w → IfSome (primary_asks p w i b) (Agrees w)
primary-asks-agree no_primary w i b h = primary-agree w i (call.BeginRecovery b) (was_told b) h tt
primary-asks-agree (was_told c t) w i b h = tt
primary-asks-agree (leads l) w i b h =
    when-each (Agrees w) (is_alive w l.at && is_none l.told) _ (λ _. commits-agree w i l (primary.own_step l.state).does h)
primary-asks-agree (has_led r) w i b h = tt

office-agree : (w : World) (c : Caller) → Agreement w → IfSome (office_event w c) (Agrees w)
office-agree w (caller.Writer b) h =
    when-each (Agrees w) (is_none (w.writers b.0).told) _
    (λ e. writer-asks-agree w b.0 (own_step (w.writers b.0).known).action h (none-is (w.writers b.0).told e) (own-step-asking (w.writers b.0).known))
office-agree w (caller.Primary i b) h = primary-asks-agree (w.primaries i) w i b h

-- ALL EVENTS

changed-agree : (w : World) (k : Option Change) → IfSome k (Agrees w) → IfSome (changed w k) Agreement
changed-agree w None h = tt
changed-agree w (Some k) h = h

changed-quiet : (w : World) (k : Option Change) → Agreement w → IfSome k (Quiet w) → IfSome (changed w k) Agreement
changed-quiet w None h q = tt
changed-quiet w (Some k) h q = quiet-agree w k h q

-- the same office and writers
same-agree : (w v : World) → v.office ≡ w.office → v.writers ≡ w.writers → Agreement w → Agreement v
same-agree w v o x h = record {
  blocks = λ b. subst (λ (f : ℕ → Writing). (f b).known.block ≡ record { 0 = b }) (sym x) (h.blocks b);
  agree = λ b. subst (λ (p : OfficeState). IsCommitted p (record { 0 = b }) (stamp_heard (v.writers b))) (sym o)
      (subst (λ (f : ℕ → Writing). IsCommitted w.office (record { 0 = b }) (stamp_heard (f b))) (sym x) (h.agree b));
}

down-taken-agree : (w : World) (c : ℕ) (x : Next) → Agreement w → Agreement (down_taken w c x)
unfolding down_taken
down-taken-agree w c x h = same-agree w (down_taken w c x) refl refl h

up-taken-agree : (w : World) (c : ℕ) (x : Next) → Agreement w → Agreement (up_taken w c x)
unfolding up_taken
up-taken-agree w c x h = same-agree w (up_taken w c x) refl refl h

down-as-agree : (w : World) (c : ℕ) (answered fails : Bool) (o : Option Next) → Agreement w → IfSome (down_as w c answered fails o) Agreement
down-as-agree w c answered fails None h = tt
down-as-agree w c answered fails (Some x) h =
    let v = down_taken w c x in
    let k = lower_down (w.lowers c) v c x answered fails in
    changed-quiet v k (down-taken-agree w c x h) (asides-quiet v k (lower-down-aside (w.lowers c) v c x answered fails))

down-agree : (w : World) (c : ℕ) (answered fails : Bool) → Agreement w → IfSome (down_event w c answered fails) Agreement
down-agree w c answered fails h = when-each Agreement (is_served w c) _ (λ _. down-as-agree w c answered fails (next_down w c) h)

ready-agree : (w : World) (c : ℕ) (fails : Bool) → Agreement w → IfSome (ready_event w c fails) Agreement
ready-agree w c fails h =
    let k = lower_ready (w.lowers c) w c fails in
    when-each Agreement (is_served w c) _ (λ _. changed-quiet w k h (asides-quiet w k (lower-ready-aside (w.lowers c) w c fails)))

unless-quiet : (w : World) (fails : Bool) (k : Option Change) → IfSome k (Quiet w) → IfSome (unless_fails fails k) (Quiet w)
unless-quiet w true k q = tt
unless-quiet w false k q = q

pub upper-quiet : (u : Upper) (w : World) (c : ℕ) (x : Next) (fails : Bool) → IfSome (upper_up u w c x fails) (Quiet w)
upper-quiet (by_writer b) w c x fails = unless-quiet w fails (writer_up w b c x) (writer-up-quiet w b c x)
upper-quiet (by_member d) w c x fails = asides-quiet w (mirror_up (w.lowers d) w d x fails) (mirror-up-aside (w.lowers d) w d x fails)
upper-quiet (by_reader i) w c x fails = unless-quiet w fails (reader_up w i c x) (asides-quiet w (reader_up w i c x) (reader-up-aside w i c x))
upper-quiet (by_primary i p) w c x fails = unless-quiet w fails (primary_up w i p c x) (asides-quiet w (primary_up w i p c x) (primary-up-aside w i p c x))

up-as-agree : (w : World) (c : ℕ) (fails : Bool) (o : Option Next) → Agreement w → IfSome (up_as w c fails o) Agreement
up-as-agree w c fails None h = tt
up-as-agree w c fails (Some x) h =
    let v = up_taken w c x in
    changed-quiet v (upper_up (w.dialled c).upper v c x fails) (up-taken-agree w c x h) (upper-quiet (w.dialled c).upper v c x fails)

up-agree : (w : World) (c : ℕ) (fails : Bool) → Agreement w → IfSome (up_event w c fails) Agreement
up-agree w c fails h = when-each Agreement (nat_lt c w.next_conn) _ (λ _. up-as-agree w c fails (next_up w c) h)

fault-agree : (w : World) (d : Delivery) → Agreement w → IfSome (fault_event w d) Agreement
fault-agree w (delivery.Down c) h = down-agree w c.0 false true h
fault-agree w (delivery.Ready c) h = ready-agree w c.0 true h
fault-agree w (delivery.Up c) h = up-agree w c.0 true h

own-agree : (w : World) (s : OwnEvent) → Agreement w → IfSome (changed w (own_change w s)) Agreement
own-agree w (own.Writer b takes answered) h = changed-quiet w (own_change w (own.Writer b takes answered)) h (own-writer-quiet w b.0 takes answered)
own-agree w (own.Reader i n r answered) h =
    let k = own_change w (own.Reader i n r answered) in changed-quiet w k h (asides-quiet w k (own-reader-aside w i n.0 r answered))
own-agree w (own.Recover i n b members answers) h =
    let k = own_change w (own.Recover i n b members answers) in changed-quiet w k h (asides-quiet w k (own-recover-aside w i n.0 b members answers))
own-agree w (own.Primary i) h =
    let k = own_change w (own.Primary i) in changed-quiet w k h (asides-quiet w k (own-primary-aside w i))

where-agree : (test : Bool) (v : World) → Agreement v → IfSome (where_so test v) Agreement
where-agree true v h = h
where-agree false v h = tt

lost-agree : (w : World) (c : ℕ) (way : Direction) (more : ℕ) → Agreement w → Agreement (lost w c way more)
lost-agree w c direction.Down more h = same-agree w (lost w c direction.Down more) refl refl h
lost-agree w c direction.Up more h = same-agree w (lost w c direction.Up more) refl refl h

outcome-agree : (w : World) (e : Event) → Agreement w → IfSome (outcome w e) Agreement
unfolding outcome restart
outcome-agree w (event.Own s) h = own-agree w s h
outcome-agree w (event.Office c) h = changed-agree w (office_event w c) (office-agree w c h)
outcome-agree w (event.Down c answered) h = down-agree w c.0 answered false h
outcome-agree w (event.Ready c) h = ready-agree w c.0 false h
outcome-agree w (event.Up c) h = up-agree w c.0 false h
outcome-agree w (event.Lost c way more) h = where-agree (nat_lt c.0 w.next_conn) (lost w c.0 way more) (lost-agree w c.0 way more h)
outcome-agree w (event.Fault d) h = fault-agree w d h
outcome-agree w (event.Stop n) h = where-agree (w.running n.0) (stop w n.0) (same-agree w (stop w n.0) refl refl h)
outcome-agree w (event.Restart n list) h =
    where-agree (nat_lt n.0 w.nodes && not (w.running n.0)) (restart w n.0 list) (same-agree w (restart w n.0 list) refl refl h)

after-agree : (w : World) (e : Event) (o : Option World) → Agreement w → IfSome o Agreement → Agreement (after_event w e o)
after-agree w e None h k = h
after-agree w e (Some v) h k = same-agree v (record v { last = Some e }) refl refl k

happens-agree : (w : World) (e : Event) → Agreement w → Agreement (happens w e)
unfolding happens
happens-agree w e h = after-agree w e (outcome w e) h (outcome-agree w e h)

run-agree : (w : World) (events : List Event) → Agreement w → Agreement (run w events)
run-agree w [] h = h
run-agree w (e ∷ events) h = run-agree (happens w e) events (happens-agree w e h)

start-agree : (nodes : ℕ) → Agreement (start nodes)
unfolding start
start-agree nodes = record { blocks = λ b. refl; agree = λ b r e lease. absurd (none-some r e) }

pub office-and-writer-agree : (nodes : ℕ) (events : List Event) (b : ℕ)
    → IsCommitted (run (start nodes) events).office (record { 0 = b }) (stamp_heard ((run (start nodes) events).writers b))
office-and-writer-agree nodes events b = (run-agree (start nodes) events (start-agree nodes)).agree b
