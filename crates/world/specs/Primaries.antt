-- Primaries, and what the office answers writers and primaries.
use Rattle.std.specs.Prelude.{ℕ, ◌==◌, ◌+◌, ◌&&◌, not, is_none, if◌then◌else◌, Bool, true, false, List, [], ◌∷◌, take, zip, slice_get, Option, Some, None, Ok, Err}
use Rattle.std.specs.List.{list_any}
use Rattle.member_core.specs.HdBase.BlockId.{BlockId}
use Rattle.member_core.specs.HdBase.NodeId.{NodeId}
use Rattle.member_core.specs.OpHeaders.Op.TheVariants as op
use Rattle.member_core.specs.OpHeaders.RecoveryKind.TheVariants as kind
use Rattle.name_core.specs.declared.calls.Begun.{Begun}
use Rattle.name_core.specs.declared.calls.OfficeAnswer.TheVariants as office
use Rattle.name_core.specs.declared.calls.OfficeCall.{OfficeCall}
use Rattle.name_core.specs.declared.calls.OfficeCall.TheVariants as call
use Rattle.name_core.specs.declared.choice.Chosen.{Chosen}
use Rattle.name_core.specs.Offices.{office_after, answer_to}
use Rattle.writer_core.specs.declared.actions.Action.{Action}
use Rattle.writer_core.specs.declared.actions.Action.TheVariants as action
use Rattle.writer_core.specs.Transitions as writer
use Rattle.recovery_core.specs.declared.primary.OwnStep.{OwnStep}
use Rattle.recovery_core.specs.declared.primary.OwnStep.TheVariants as own
use Rattle.recovery_core.specs.declared.primary.Phase.{Phase}
use Rattle.recovery_core.specs.declared.primary.Phase.TheVariants as phase
use Rattle.recovery_core.specs.declared.primary.Recovered.{Recovered}
use Rattle.recovery_core.specs.declared.standings.Heard.{Heard}
use Rattle.recovery_core.specs.declared.standings.Heard.TheVariants as heard
use Rattle.recovery_core.specs.declared.standings.Standing.{Standing}
use Rattle.recovery_core.specs.Primaries.{PrimaryState, begun_with, end_with, heard_at, is_among, is_awaited, office_refused, own_step, request_of, shuts_at, sync_call}
use Rattle.world.specs.declared.events.Caller.{Caller}
use Rattle.world.specs.declared.events.Caller.TheVariants as caller
use Rattle.world.specs.Parts.{Message, request, recovery_answer, Place, by_primary, Told, Leading, Primary, no_primary, was_told, leads, has_led}
use Rattle.world.specs.Worlds.{World, Dial, Stamped, Change, still}
use Rattle.world.specs.Connections.{Next, message, the_end, is_alive, place_of, is_conn}
use Rattle.world.specs.Clients.{are_members}

abbrev pub primary_change : World → ℕ → Primary → Change
primary_change w i p = record (still w) { primary_at = i; primary = p }

-- some of these connections
abbrev pub is_among_conns : List (Option ℕ) → ℕ → Bool
is_among_conns conns c = list_any (λ d. is_conn d c) conns

-- ITS FIRST STEP

-- which dials are answered: to a node that runs, where the event says so
abbrev pub dials_answered : World → List NodeId → List Bool → List Bool
dials_answered w [] answers = []
dials_answered w (n ∷ ns) [] = false ∷ dials_answered w ns []
dials_answered w (n ∷ ns) (a ∷ answers) = (a && w.running n.0) ∷ dials_answered w ns answers

-- the connections' numbers, of which a dial that isn't answered takes none
abbrev pub numbered : ℕ → List Bool → List (Option ℕ)
numbered next [] = []
numbered next (true ∷ answers) = Some next ∷ numbered (next + 1) answers
numbered next (false ∷ answers) = None ∷ numbered next answers

-- the dials that are answered, from the member at this place on
abbrev pub primary_dials : World → ℕ → Place → Message → ℕ → List NodeId → List Bool → List Dial
primary_dials w i from first place (n ∷ ns) (true ∷ answers) =
    record {
      dialled = record { upper = by_primary i place; from = Some from; to = place_of w n.0 };
      request = first;
    } ∷ primary_dials w i from first (place + 1) ns answers
primary_dials w i from first place (n ∷ ns) (false ∷ answers) = primary_dials w i from first (place + 1) ns answers
primary_dials w i from first place _ answers = []

-- a request of a recovery
abbrev pub recovery_message : PrimaryState → Message
recovery_message p = request (op.Recovery (request_of p kind.Init 0))

abbrev pub leading : Place → PrimaryState → List (Option ℕ) → Leading
leading at p conns = record { at = at; state = p; conns = conns; told = None }

-- the primary that begins with these dials
abbrev pub begins_with : World → ℕ → Place → BlockId → Begun → List NodeId → List Bool → Change
begins_with w i at b begun members answers =
    record (primary_change w i (leads
    (leading at (begun_with b begun members answers) (numbered w.next_conn answers)))) {
      dials = primary_dials w i at (recovery_message (begun_with b begun members answers)) 0 members answers;
    }

-- what the office has answered to the beginning: it begins, or ends by the refusal
abbrev pub begins_as : Told → World → ℕ → Place → BlockId → List NodeId → List Bool → Option Change
begins_as (Ok (office.Begun begun)) w i at b members answers =
    Some (begins_with w i at b begun members (dials_answered w members answers))
begins_as (Ok other) w i at b members answers = None
begins_as (Err fault) w i at b members answers = Some (primary_change w i (has_led (office_refused fault)))

-- Its first step, at a node that runs, of the block for which the office has answered.
abbrev pub begins_at : Primary → World → ℕ → ℕ → BlockId → List NodeId → List Bool → Option Change
begins_at (was_told asked told) w i n b members answers =
    if asked.0 == b.0 && w.running n && are_members members then begins_as told w i (place_of w n) b members answers
    else None
begins_at _ w i n b members answers = None

abbrev pub own_recover : World → ℕ → ℕ → BlockId → List NodeId → List Bool → Option Change
own_recover w i n b members answers = begins_at (w.primaries i) w i n b members answers

-- ITS FURTHER STEPS

-- what is sent on the connection of a chosen member
abbrev pub updates_on : Message → List NodeId → List (NodeId × Option ℕ) → ℕ → List Message
updates_on update chosen [] c = []
updates_on update chosen (x ∷ xs) c =
    if is_among chosen x.0 && is_conn x.1 c then update ∷ [] else updates_on update chosen xs c

-- a connection of which nothing more is awaited
abbrev pub is_done_with : List (Standing × Option ℕ) → ℕ → Bool
is_done_with standings c = list_any (λ x. not (is_awaited x.0) && is_conn x.1 c) standings

-- The chosen members are sent UPDATE; the connections of the others are shut, and those that have ended.
abbrev pub updates_change : World → ℕ → Leading → PrimaryState → Chosen → Change
updates_change w i l p c = record (primary_change w i (leads (record l { state = p }))) {
  downs = updates_on (request (op.Recovery (request_of l.state kind.Update c.length))) c.members
      (zip l.state.members l.conns);
  shuts = is_done_with (zip p.standings l.conns);
}

-- it ends so, and shuts all its connections
abbrev pub ends_change : World → ℕ → Leading → Recovered → Change
ends_change w i l r = record (primary_change w i (has_led r)) { shuts = is_among_conns l.conns }

-- A step by itself: a step that waits, or that first asks the office, is none.
abbrev pub leads_step : OwnStep → World → ℕ → Leading → PrimaryState → Option Change
leads_step own.Waits w i l p = None
leads_step (own.Updates c) w i l p = Some (updates_change w i l p c)
leads_step (own.Commits c) w i l p = None
leads_step (own.Ends r) w i l p = Some (ends_change w i l r)

-- the rest of the step in which it asked the office to commit
abbrev pub commits_step : OwnStep → World → ℕ → Leading → Told → Option Change
commits_step (own.Commits c) w i l told = Some (ends_change w i l (end_with l.state c told))
commits_step _ w i l told = None

abbrev pub leads_told : Option Told → World → ℕ → Leading → Option Change
leads_told None w i l = leads_step (own_step l.state).does w i l (own_step l.state).primary
leads_told (Some told) w i l = commits_step (own_step l.state).does w i l told

abbrev pub own_primary_as : Primary → World → ℕ → Option Change
own_primary_as (leads l) w i = if is_alive w l.at then leads_told l.told w i l else None
own_primary_as _ w i = None

abbrev pub own_primary : World → ℕ → Option Change
own_primary w i = own_primary_as (w.primaries i) w i

-- WHAT IT TAKES

abbrev pub heard_of : Next → Heard
heard_of (message (recovery_answer a)) = heard.Answer a
heard_of (message m) = heard.Unreadable
heard_of the_end = heard.End

-- Before the choice it takes from each connection, and behind it from those of which an answer is awaited.
abbrev pub listens : Phase → Standing → Bool
listens phase.Informing s = true
listens (phase.Updating n) s = is_awaited s
listens phase.Over s = false

-- how it stands with the member at a place after this
abbrev pub hears_change : World → ℕ → Leading → ℕ → ℕ → Next → Option Standing → Option Change
hears_change w i l place c x None = None
hears_change w i l place c x (Some s) =
    if listens l.state.phase s
    then Some (record (primary_change w i (leads (record l { state = heard_at l.state place (heard_of x) })))
    { shuts = if shuts_at l.state place then is_conn (Some c) else (λ _. false) })
    else None

abbrev pub primary_up_as : Primary → World → ℕ → ℕ → ℕ → Next → Option Change
primary_up_as (leads l) w i place c x =
    if is_alive w l.at && is_none l.told then hears_change w i l place c x (slice_get l.state.standings place) else None
primary_up_as _ w i place c x = None

abbrev pub primary_up : World → ℕ → ℕ → ℕ → Next → Option Change
primary_up w i place c x = primary_up_as (w.primaries i) w i place c x

-- THE OFFICE

-- the stamp that was given, its session, and the latest session of the block
abbrev pub stamp_of : ℕ → ℕ → ℕ → ℕ → Option Stamped
stamp_of b stamp session latest = Some (record { block = b; stamp = stamp; session = session; latest = latest })

-- The session of a stamp that the office gives: a create or an append begins one, which has the name of that stamp; a writer's new stamp belongs
-- to the latest session of its block, and a recovery id to the session of the stamp that was committed when the recovery began.
abbrev pub stamped_by : World → OfficeCall → Told → Option Stamped
stamped_by w (call.Create b members) (Ok (office.Stamp s)) = stamp_of b.0 s.0 s.0 s.0
stamped_by w (call.Append b) (Ok (office.Reopened r)) = stamp_of b.0 r.new.0 r.new.0 r.new.0
stamped_by w (call.NewStamp b) (Ok (office.Stamp s)) = stamp_of b.0 s.0 (w.latest b.0) (w.latest b.0)
stamped_by w (call.BeginRecovery b) (Ok (office.Begun g)) =
    stamp_of b.0 g.id.0 (w.session_of g.committed.0) (w.latest b.0)
stamped_by w c told = None

-- the session that an append begins has the bytes up to the block's length, of the session of the committed stamp
abbrev pub base_of : World → Told → List ℕ
base_of w (Ok (office.Reopened r)) = take r.length (w.written (w.session_of r.committed.0))
base_of w told = []

abbrev pub session_begun : Option Stamped → ℕ
session_begun None = 0
session_begun (Some s) = s.session

-- the office takes a call, and what is stamped
abbrev pub office_change : World → OfficeCall → Told → Change
office_change w c told = record (still w) {
  office = office_after w.office c;
  stamped = stamped_by w c told;
  session = session_begun (stamped_by w c told);
  bytes = base_of w told;
}

-- the answer waits for the writer of a block
abbrev pub asks_writer : World → ℕ → OfficeCall → Change
asks_writer w b c = record (office_change w c (answer_to w.office c)) {
  writer_at = b;
  writer = record (w.writers b) { told = Some (answer_to w.office c) };
}

-- the answer waits for a primary
abbrev pub asks_primary : World → ℕ → OfficeCall → (Told → Primary) → Change
asks_primary w i c p = record (office_change w c (answer_to w.office c)) {
  primary_at = i;
  primary = p (answer_to w.office c);
}

-- a writer's own step asks the office
abbrev pub writer_asks : Action → World → ℕ → Option Change
writer_asks (action.Ask c) w b = Some (asks_writer w b c)
writer_asks _ w b = None

abbrev pub writer_asks_office : World → ℕ → Option Change
writer_asks_office w b = if is_none (w.writers b).told
    then writer_asks (writer.own_step (w.writers b).known).action w b else None

-- a primary's own step commits
abbrev pub primary_commits : OwnStep → World → ℕ → Leading → Option Change
primary_commits (own.Commits c) w i l =
    Some (asks_primary w i (sync_call l.state c) (λ told. leads (record l { told = Some told })))
primary_commits _ w i l = None

-- a new primary asks to begin a recovery of a block, and one that has begun to commit
abbrev pub primary_asks : Primary → World → ℕ → BlockId → Option Change
primary_asks no_primary w i b = Some (asks_primary w i (call.BeginRecovery b) (was_told b))
primary_asks (leads l) w i b = if is_alive w l.at && is_none l.told then primary_commits (own_step l.state).does w i l
    else None
primary_asks _ w i b = None

abbrev pub office_event : World → Caller → Option Change
office_event w (caller.Writer b) = writer_asks_office w b.0
office_event w (caller.Primary i b) = primary_asks (w.primaries i) w i b
