-- The tests of enabled events are exact.
use Rattle.std.proofs.Common.{◌≡◌, ℕ, Bool, true, false, List, [], Option, Some, None, refl, ◌∙◌}
use Rattle.std.specs.Prelude.{◌==◌, ◌&&◌, nat_lt, is_some, is_none, slice_get, if◌then◌else◌}
use Rattle.hd_base.specs.declared.numbers.BlockId.{BlockId}
use Rattle.world.specs.OpHeaders.Op.{Op}
use Rattle.world.specs.OpHeaders.Op.TheVariants as op
use Rattle.world.specs.MemberCore.Turn.{Turn}
use Rattle.world.specs.MemberCore.Members.{hears}
use Rattle.world.specs.MemberCore.Steps.{ready_turn_at}
use Rattle.world.specs.ReadCore.Servings.{next_call}
use Rattle.world.specs.WriterCore.Action.{Action}
use Rattle.world.specs.WriterCore.Action.TheVariants as action
use Rattle.world.specs.WriterCore.Phase.{Phase}
use Rattle.world.specs.WriterCore.Phase.TheVariants as phase
use Rattle.world.specs.WriterCore.Waiting.{Waiting}
use Rattle.world.specs.WriterCore.WriterRecord.{WriterRecord}
use Rattle.world.specs.WriterCore.Transitions.{granted, open_step, completed_step}
use Rattle.world.specs.WriterCore.Transitions as writer
use Rattle.world.specs.RecoveryCore.OwnStep.{OwnStep}
use Rattle.world.specs.RecoveryCore.OwnStep.TheVariants as step
use Rattle.world.specs.RecoveryCore.Standing.{Standing}
use Rattle.world.specs.RecoveryCore.Primaries.{own_step}
use Rattle.world.specs.declared.events.Caller.{Caller}
use Rattle.world.specs.declared.events.Caller.TheVariants as caller
use Rattle.world.specs.Parts.{Message, request, packet, ack, response, read_status, recovery_answer, Upper, by_writer, by_member, by_reader, by_primary, Told, Lower, idle, writes, serves, recovers, ended_below, FullMember, Reader, no_reader, reads, has_read, Leading, Primary, no_primary, was_told, leads, has_led}
use Rattle.world.specs.Worlds.{World, Change}
use Rattle.world.specs.Connections.{Next, message, the_end, next_down, next_up, down_taken, up_taken, is_conn, is_alive, is_served}
use Rattle.world.specs.Nodes.{replica_at, block_of, pending_at, takes_next, ready_change, serve_change, first_message, next_recovery, lower_down, lower_ready, mirror_up}
use Rattle.world.specs.Clients.{did, rest_in, writer_step, own_writer, reader_up_as}
use Rattle.world.specs.Primaries.{leads_step, commits_step, leads_told, own_primary_as, own_primary, hears_change, primary_up_as, writer_asks, primary_commits, primary_asks, office_event, listens}
use Rattle.world.specs.Enabled.{takes_below, takes_down, can_down, acts_below, can_ready, hears_mirror, reads_from, listens_at, leads_from, takes_above, can_up, is_deed, is_question, acts_with, can_write, leads_on, leads_step_on, is_commit, primary_has_asked, can_ask}
use Rattle.world.specs.Events.{changed, down_as, down_event, ready_event, upper_up, up_as, up_event, outcome}
use Rattle.world_laws.specs.Testing.{IsTested}

-- TESTS IN STEPS

changed-some : (w : World) (o : Option Change) → is_some (changed w o) ≡ is_some o
changed-some w None = refl
changed-some w (Some k) = refl

some-where : {A : Type 0} (b t : Bool) (o : Option A) → is_some o ≡ t → is_some (if b then o else None) ≡ (b && t)
some-where true t o e = e
some-where false t o e = refl

some-if : {A : Type 0} (b : Bool) (x : A) → is_some (if b then Some x else None) ≡ b
some-if true x = refl
some-if false x = refl

-- LOWER ENDS

request-some : (w : World) (c : ℕ) (o : Op) (answered : Bool) → is_some (first_message w c (request o) answered false) ≡ true
request-some w c (op.Write f) answered = refl
request-some w c (op.Read r) answered = refl
request-some w c (op.Transfer r) answered = refl
request-some w c (op.Checksum r) answered = refl
request-some w c (op.Recovery r) answered = refl

first-some : (w : World) (c : ℕ) (m : Message) (answered : Bool) → is_some (first_message w c m answered false) ≡ true
first-some w c (request o) answered = request-some w c o answered
first-some w c (packet p) answered = refl
first-some w c (ack a) answered = refl
first-some w c (response r) answered = refl
first-some w c (read_status s) answered = refl
first-some w c (recovery_answer a) answered = refl

next-request-some : (w : World) (c : ℕ) (o : Op) → is_some (next_recovery w c (message (request o)) false) ≡ true
next-request-some w c (op.Write f) = refl
next-request-some w c (op.Read r) = refl
next-request-some w c (op.Transfer r) = refl
next-request-some w c (op.Checksum r) = refl
next-request-some w c (op.Recovery r) = refl

next-some : (w : World) (c : ℕ) (x : Next) → is_some (next_recovery w c x false) ≡ true
next-some w c (message (request o)) = next-request-some w c o
next-some w c (message (packet p)) = refl
next-some w c (message (ack a)) = refl
next-some w c (message (response r)) = refl
next-some w c (message (read_status s)) = refl
next-some w c (message (recovery_answer a)) = refl
next-some w c the_end = refl

below-some : (l : Lower) (w : World) (c : ℕ) (x : Next) (answered : Bool) → is_some (lower_down l w c x answered false) ≡ takes_below l w c x
below-some idle w c (message m) answered = first-some w c m answered
below-some idle w c the_end answered = refl
below-some (writes m) w c x answered = some-if (takes_next m.state (pending_at w c m) x) _
below-some (serves b s) w c x answered = refl
below-some recovers w c x answered = next-some w c x
below-some ended_below w c x answered = refl

-- what is tested doesn't change as the message is taken
below-same : (l : Lower) (w : World) (c : ℕ) (x : Next) → takes_below l (down_taken w c x) c x ≡ takes_below l w c x
unfolding down_taken
below-same idle w c x = refl
below-same (writes m) w c x = refl
below-same (serves b s) w c x = refl
below-same recovers w c x = refl
below-same ended_below w c x = refl

down-as-some : (w : World) (c : ℕ) (answered : Bool) (o : Option Next) → is_some (down_as w c answered false o) ≡ takes_down (w.lowers c) w c o
down-as-some w c answered None = refl
down-as-some w c answered (Some x) =
    let v = down_taken w c x in
    changed-some v (lower_down (w.lowers c) v c x answered false) ∙ (below-some (w.lowers c) v c x answered ∙ below-same (w.lowers c) w c x)

down-some : (w : World) (c : ℕ) (answered : Bool) → is_some (down_event w c answered false) ≡ can_down w c
down-some w c answered = some-where (is_served w c) _ (down_as w c answered false (next_down w c)) (down-as-some w c answered (next_down w c))

turn-some : (w : World) (c : ℕ) (m : FullMember) (o : Option Turn) → is_some (ready_change w c m o false) ≡ is_some o
turn-some w c m None = refl
turn-some w c m (Some t) = refl

serve-some : (w : World) (c b : ℕ) (s : _) (o : Option _) → is_some (serve_change w c b s o false) ≡ is_some o
serve-some w c b s None = refl
serve-some w c b s (Some e) = refl

acts-some : (l : Lower) (w : World) (c : ℕ) → is_some (lower_ready l w c false) ≡ acts_below l w c
acts-some idle w c = refl
acts-some (writes m) w c = turn-some w c m (ready_turn_at m.state (replica_at w c (block_of m.fields)))
acts-some (serves b s) w c = serve-some w c b s (next_call s)
acts-some recovers w c = refl
acts-some ended_below w c = refl

ready-some : (w : World) (c : ℕ) → is_some (ready_event w c false) ≡ can_ready w c
ready-some w c =
    some-where (is_served w c) _ (changed w (lower_ready (w.lowers c) w c false)) (changed-some w (lower_ready (w.lowers c) w c false) ∙ acts-some (w.lowers c) w c)

-- UPPER ENDS

mirror-some : (l : Lower) (w : World) (d : ℕ) (x : Next) → is_some (mirror_up l w d x false) ≡ hears_mirror l w d
mirror-some idle w d x = refl
mirror-some (writes m) w d x = some-where (is_alive w (w.dialled d).to) (hears m.state) _ (some-if (hears m.state) _)
mirror-some (serves b s) w d x = refl
mirror-some recovers w d x = refl
mirror-some ended_below w d x = refl

reader-some : (r : Reader) (w : World) (i c : ℕ) (x : Next) → is_some (reader_up_as r w i c x) ≡ reads_from r c
reader-some no_reader w i c x = refl
reader-some (reads d s) w i c x = some-if (d == c) _
reader-some (has_read b) w i c x = refl

hears-some : (w : World) (i : ℕ) (l : Leading) (place c : ℕ) (x : Next) (o : Option Standing) → is_some (hears_change w i l place c x o) ≡ listens_at l.state.phase o
hears-some w i l place c x None = refl
hears-some w i l place c x (Some s) = some-if (listens l.state.phase s) _

primary-some : (p : Primary) (w : World) (i place c : ℕ) (x : Next) → is_some (primary_up_as p w i place c x) ≡ leads_from p w place
primary-some no_primary w i place c x = refl
primary-some (was_told b t) w i place c x = refl
primary-some (leads l) w i place c x =
    some-where (is_alive w l.at && is_none l.told) _ (hears_change w i l place c x (slice_get l.state.standings place))
    (hears-some w i l place c x (slice_get l.state.standings place))
primary-some (has_led r) w i place c x = refl

upper-some : (u : Upper) (w : World) (c : ℕ) (x : Next) → is_some (upper_up u w c x false) ≡ takes_above u w c
upper-some (by_writer b) w c x = some-if (is_conn (w.writers b).conn c && is_none (w.writers b).told) _
upper-some (by_member d) w c x = mirror-some (w.lowers d) w d x
upper-some (by_reader i) w c x = reader-some (w.readers i) w i c x
upper-some (by_primary i p) w c x = primary-some (w.primaries i) w i p c x

upper-same : (u : Upper) (w : World) (c : ℕ) (x : Next) → takes_above u (up_taken w c x) c ≡ takes_above u w c
unfolding up_taken
upper-same (by_writer b) w c x = refl
upper-same (by_member d) w c x = lower-same (w.lowers d) w d c x
  where
    lower-same : (l : Lower) (w : World) (d c : ℕ) (x : Next) → hears_mirror l (up_taken w c x) d ≡ hears_mirror l w d
    lower-same idle w d c x = refl
    lower-same (writes m) w d c x = refl
    lower-same (serves b s) w d c x = refl
    lower-same recovers w d c x = refl
    lower-same ended_below w d c x = refl
upper-same (by_reader i) w c x = refl
upper-same (by_primary i p) w c x = primary-same (w.primaries i) w p c x
  where
    primary-same : (q : Primary) (w : World) (p c : ℕ) (x : Next) → leads_from q (up_taken w c x) p ≡ leads_from q w p
    primary-same no_primary w p c x = refl
    primary-same (was_told b t) w p c x = refl
    primary-same (leads l) w p c x = refl
    primary-same (has_led r) w p c x = refl

up-as-some : (w : World) (c : ℕ) (o : Option Next) → is_some (up_as w c false o) ≡ (is_some o && takes_above (w.dialled c).upper w c)
up-as-some w c None = refl
up-as-some w c (Some x) =
    let v = up_taken w c x in
    changed-some v (upper_up (w.dialled c).upper v c x false) ∙ (upper-some (w.dialled c).upper v c x ∙ upper-same (w.dialled c).upper w c x)

and-assoc : (a b c : Bool) → (a && (b && c)) ≡ ((a && b) && c)
and-assoc true b c = refl
and-assoc false b c = refl

up-some : (w : World) (c : ℕ) → is_some (up_event w c false) ≡ can_up w c
up-some w c =
    some-where (nat_lt c w.next_conn) _ (up_as w c false (next_up w c)) (up-as-some w c (next_up w c))
    ∙ and-assoc (nat_lt c w.next_conn) (is_some (next_up w c)) (takes_above (w.dialled c).upper w c)

-- OWN STEPS

did-some : (w : World) (b : ℕ) (waits : Option Waiting) (a : Action) (x : WriterRecord) (bytes : List ℕ) → is_some (did w b waits a x bytes) ≡ is_deed a
did-some w b waits action.Wait x bytes = refl
did-some w b waits action.Took x bytes = refl
did-some w b waits (action.Ask c) x bytes = refl
did-some w b waits (action.Dial to r) x bytes = refl
did-some w b waits (action.Send p) x bytes = refl
did-some w b waits (action.Answered n a) x bytes = refl
did-some w b waits action.Memory x bytes = refl

rest-some : (p : Phase) (w : World) (b : ℕ) (x : WriterRecord) (answered : Bool) → is_some (rest_in p w b x answered) ≡ true
rest-some phase.Closed w b x answered = refl
rest-some (phase.Wanted s) w b x answered = refl
rest-some (phase.Stamped s stamp) w b x answered = refl
rest-some (phase.Requested s stamp) w b x answered = refl
rest-some (phase.Accepted s stamp) w b x answered = refl
rest-some phase.Opened w b x answered = refl
rest-some (phase.Streaming sent) w b x answered = refl
rest-some phase.Closing w b x answered = refl
rest-some phase.Finished w b x answered = refl
rest-some phase.Completed w b x answered = refl
rest-some (phase.Failed f) w b x answered = refl

step-some : (w : World) (b : ℕ) (x : WriterRecord) (told : Option Told) (answered : Bool)
    → is_some (writer_step w b x told None answered) ≡ acts_with told (writer.own_step x).action
step-some w b x (Some told) answered = rest-some (granted x told).phase w b (granted x told) answered
step-some w b x None answered = did-some w b x.waiting (writer.own_step x).action (writer.own_step x).writer []

write-some : (w : World) (b : ℕ) (answered : Bool) → is_some (changed w (own_writer w b None answered)) ≡ can_write w b
write-some w b answered = changed-some w (own_writer w b None answered) ∙ step-some w b (w.writers b).known (w.writers b).told answered

leads-some : (s : OwnStep) (w : World) (i : ℕ) (l : Leading) (p : _) → is_some (leads_step s w i l p) ≡ leads_on None s
leads-some step.Waits w i l p = refl
leads-some (step.Updates c) w i l p = refl
leads-some (step.Commits c) w i l p = refl
leads-some (step.Ends r) w i l p = refl

commits-some : (s : OwnStep) (w : World) (i : ℕ) (l : Leading) (t : Told) → is_some (commits_step s w i l t) ≡ leads_on (Some t) s
commits-some step.Waits w i l t = refl
commits-some (step.Updates c) w i l t = refl
commits-some (step.Commits c) w i l t = refl
commits-some (step.Ends r) w i l t = refl

told-some : (t : Option Told) (w : World) (i : ℕ) (l : Leading) → is_some (leads_told t w i l) ≡ leads_on t (own_step l.state).does
told-some None w i l = leads-some (own_step l.state).does w i l (own_step l.state).primary
told-some (Some t) w i l = commits-some (own_step l.state).does w i l t

lead-as-some : (p : Primary) (w : World) (i : ℕ) → is_some (own_primary_as p w i) ≡ leads_step_on p w
lead-as-some no_primary w i = refl
lead-as-some (was_told b t) w i = refl
lead-as-some (leads l) w i = some-where (is_alive w l.at) _ (leads_told l.told w i l) (told-some l.told w i l)
lead-as-some (has_led r) w i = refl

-- THE OFFICE

asks-some : (a : Action) (w : World) (b : ℕ) → is_some (writer_asks a w b) ≡ is_question a
asks-some action.Wait w b = refl
asks-some action.Took w b = refl
asks-some (action.Ask c) w b = refl
asks-some (action.Dial to r) w b = refl
asks-some (action.Send p) w b = refl
asks-some (action.Answered n a) w b = refl
asks-some action.Memory w b = refl

commit-some : (s : OwnStep) (w : World) (i : ℕ) (l : Leading) → is_some (primary_commits s w i l) ≡ is_commit s
commit-some step.Waits w i l = refl
commit-some (step.Updates c) w i l = refl
commit-some (step.Commits c) w i l = refl
commit-some (step.Ends r) w i l = refl

primary-asks-some : (p : Primary) (w : World) (i : ℕ) (b : BlockId) → is_some (primary_asks p w i b) ≡ primary_has_asked p w
primary-asks-some no_primary w i b = refl
primary-asks-some (was_told c t) w i b = refl
primary-asks-some (leads l) w i b =
    some-where (is_alive w l.at && is_none l.told) _ (primary_commits (own_step l.state).does w i l) (commit-some (own_step l.state).does w i l)
primary-asks-some (has_led r) w i b = refl

office-some : (w : World) (c : Caller) → is_some (office_event w c) ≡ can_ask w c
office-some w (caller.Writer b) =
    some-where (is_none (w.writers b.0).told) _ (writer_asks (writer.own_step (w.writers b.0).known).action w b.0)
    (asks-some (writer.own_step (w.writers b.0).known).action w b.0)
office-some w (caller.Primary i b) = primary-asks-some (w.primaries i) w i b

pub all-tested : (w : World) → IsTested w
unfolding outcome
all-tested w = record {
  down = λ c answered. down-some w c.0 answered;
  ready = λ c. ready-some w c.0;
  up = λ c. up-some w c.0;
  write = λ b answered. write-some w b.0 answered;
  lead = λ i. changed-some w (own_primary w i) ∙ lead-as-some (w.primaries i) w i;
  ask = λ c. changed-some w (office_event w c) ∙ office-some w c;
}
