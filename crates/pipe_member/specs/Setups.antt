-- The setup of a member that owns its connections.
use Rattle.std.specs.Prelude.{◌≡◌, ℕ, Bool, true, false, if◌then◌else◌, List, length, Option, Some, None, option_map, Result, Ok, Err}
use Rattle.hd_base.specs.declared.ends.Conn.{Conn}
use Rattle.hd_base.specs.declared.numbers.ConnId.{ConnId}
use Rattle.hd_base.specs.declared.numbers.Receipt.{Receipt}
use Rattle.hd_base.specs.declared.files.Files as files
use Rattle.hd_base.specs.declared.links.LinkIn as link_in
use Rattle.hd_base.specs.declared.links.LinkOut as link_out
use Rattle.hd_base.specs.declared.roads.Roads as roads
use Rattle.link_pieces.specs.Pieces.{SendsNothing, SendsPiece, FailsToSend}
use Rattle.op_headers.specs.Values.{WriteFields}
use Rattle.replica_core.specs.declared.events.Event.{Event}
use Rattle.replica_core.specs.declared.refusals.Refusal.{Refusal}
use Rattle.replica_core.specs.Transitions.{Outcome, transition}
use Rattle.replica_core.specs.Views.{rule_in}
use Rattle.pipe_setup.specs.ReplicaFiles.BookState.{BookState}
use Rattle.pipe_setup.specs.RequestRefusals.RequestRefusal.{RequestRefusal}
use Rattle.pipe_setup.specs.RequestRefusals.RequestRefusal.TheVariants as refusal
use Rattle.pipe_setup.specs.MemberCore.Effect.{Effect}
use Rattle.pipe_setup.specs.MemberCore.Shuts.{Shuts}
use Rattle.pipe_setup.specs.MemberCore.Shuts.TheVariants as shuts
use Rattle.pipe_setup.specs.MemberCore.Members.{MemberState, set_up, refused_setup}
use Rattle.pipe_setup.specs.MemberCore.Requests.{request_event}
use Rattle.pipe_setup.specs.declared.refusals.SetupRefusal.{SetupRefusal}
use Rattle.pipe_setup.specs.declared.refusals.SetupRefusal.TheVariants as setup_refusal
use Rattle.pipe_setup.specs.declared.setups.Setup.{Setup}
use Rattle.pipe_setup.specs.declared.setups.Setup.TheVariants as setup
use Rattle.pipe_setup.specs.Setups.{SetsUpBy, GoesOn, booked_in}
use Rattle.pipe_turns.specs.declared.turning.Done.{Done}
use Rattle.pipe_turns.specs.declared.turning.Done.TheVariants as done
use Rattle.pipe_turns.specs.Turning.{SendsAlone}
use Rattle.pipe_turns.specs.Acting.{ShutsEnd, shuts_up, texts_of, with_half}
use Rattle.pipe_member.specs.declared.member.Member.{Member}
use Rattle.pipe_member.specs.declared.setting_up.Opening.{Opening}
use Rattle.pipe_member.specs.declared.stages.Stage.{Stage}
use Rattle.pipe_member.specs.declared.stages.Stage.TheVariants as stage
use Rattle.pipe_member.specs.declared.stages.Took.TheVariants as took
use Rattle.pipe_member.specs.declared.stepped.Stepped.{Stepped}
use Rattle.pipe_member.specs.declared.stepped.Stepped.TheVariants as stepped
use Rattle.pipe_member.specs.Refusing.{refused_in}
use Rattle.pipe_member.specs.Steps.{stage_after}
use Rattle.pipe_member.specs.Turns.{Follows}
use Rattle.pipe_member.specs.Events.{Stays}

-- A request that is to be booked: the member then, where its mirror was asked, and where it has none or one that can't be; what it shuts once it has answered; and its answer as it is written, where it has no mirror or its replica refuses, and where a call on files fails.
pub record Opened : Type 0 where
  pub asked : MemberState
  pub unasked : MemberState
  pub shuts : Shuts
  pub answer : Option (List ℕ)
  pub fault : Option (List ℕ)

-- what a member does at once: this, or it says why its replica refuses
abbrev pub first_by : Option Refusal → Effect → Effect
first_by None effect = effect
first_by (Some why) effect = refused_setup (refusal.Core why)

-- by what becomes of the request's event at the replica
abbrev pub opened : ConnId → WriteFields → Outcome → Opened
opened conn op outcome = record {
  asked = (set_up conn op true).0;
  unasked = (set_up conn op false).0;
  shuts = (set_up conn op false).1.shuts;
  answer = texts_of op (first_by (refused_in outcome) (set_up conn op false).1).sends;
  fault = texts_of op (refused_setup refusal.File).sends;
}

-- the same with its texts in memory
abbrev pub opened_by : Opening → Opened
opened_by x = record {
  asked = x.asked;
  unasked = x.unasked;
  shuts = x.shuts;
  answer = option_map (λ t. t.items) x.answer;
  fault = option_map (λ t. t.items) x.fault;
}

-- how long a text is, if there is one
abbrev pub text_len : Option (List ℕ) → ℕ
text_len None = 0
text_len (Some text) = length text

-- A text goes up after an entry was booked.
abbrev pub SaysText : {O : Type 0} → link_out.Ghosts O → List ℕ → Receipt → O → O → Done → Type 0
SaysText o text receipt old new (done.Taken r) = (r ≡ Some receipt) × SendsPiece o text old new
SaysText o text receipt old new (done.LinkFailed r) = (r ≡ Some receipt) × FailsToSend o old new
SaysText o text receipt old new other = ⊥

-- It does, if there is one.
abbrev pub Says : {O : Type 0} → link_out.Ghosts O → Option (List ℕ) → Receipt → O → O → Done → Type 0
Says o None receipt old new d = (d ≡ done.Taken (Some receipt)) × (new ≡ old)
Says o (Some text) receipt old new d = SaysText o text receipt old new d

-- The member says this, shuts or not, and is here then.
pub record Opens {I O : Type 0} (o : link_out.Ghosts O) (text : Option (List ℕ)) (receipt : Receipt) (st : Stage)
    (s : Shuts) (old new : Member I O) (result : Stepped) : Type 0 where
  pub done : Done
  pub half : O
  pub upper : Conn I O
  pub says : Says o text receipt old.upstream.outward half done
  pub shut : ShutsEnd o (shuts_up s) (with_half old.upstream half) upper
  pub follows : Follows o st took.Nothing done s upper old.mirror old new result

-- The member is open, and has said nothing yet.
abbrev pub Waits : {I O : Type 0} → link_out.Ghosts O → Receipt → MemberState → Member I O → Member I O → Stepped →
    Type 0
Waits o receipt m old new result =
    Follows o (stage.Open m) took.Nothing (done.Taken (Some receipt)) shuts.Nothing old.upstream old.mirror old new
    result

-- with this end to its mirror
abbrev pub with_mirror : {I O : Type 0} → Member I O → Conn I O → Member I O
with_mirror m end = record m { mirror = Some end }

-- with this outward half upstream
abbrev pub with_outward : {I O : Type 0} → Member I O → O → Member I O
with_outward m half = record m { upstream = with_half m.upstream half }

-- A call on files failed: the member says so, and is shut.
pub record FailsFiles {I O : Type 0} (o : link_out.Ghosts O) (text : Option (List ℕ)) (receipt : Receipt)
    (old new : Member I O) (result : Stepped) : Type 0 where
  pub answer : Stepped
  pub says : Opens o text receipt stage.Shut shuts.Both old new answer
  pub is : result ≡ stepped.File receipt

-- The replica refused: the member says why, and is shut.
abbrev pub RefusesAs : {I O : Type 0} → link_out.Ghosts O → Option (List ℕ) → SetupRefusal → Member I O → Member I O →
    Stepped → Type 0
RefusesAs o text (setup_refusal.Core why receipt) old new result =
    Opens o text receipt stage.Shut shuts.Both old new result
RefusesAs o text other old new result = ⊥

abbrev pub asked_if : Opened → Bool → MemberState
asked_if x answered = if answered then x.asked else x.unasked

-- The replica was asked.
abbrev pub IsAsked : {I O : Type 0} → Setup I O → Type 0
IsAsked (setup.Refused (setup_refusal.Core why receipt)) = Unit {0}
IsAsked (setup.Refused why) = ⊥
IsAsked other = Unit {0}

-- What follows a setup. The answer goes up at once of a member without a mirror, of one whose replica refused, and where a call on files failed.
abbrev pub FollowsSetup : {I O : Type 0} → link_out.Ghosts O → Opened → Setup I O → Member I O → Member I O → Stepped →
    Type 0
FollowsSetup o x (setup.Last receipt) old new result =
    Opens o x.answer receipt (stage_after x.unasked x.shuts) x.shuts old new result
FollowsSetup o x (setup.Mirrored receipt end) old new result = Waits o receipt x.asked (with_mirror old end) new result
FollowsSetup o x (setup.MirrorDown receipt answered) old new result =
    Waits o receipt (asked_if x answered) old new result
FollowsSetup o x (setup.Refused why) old new result = RefusesAs o x.answer why old new result
FollowsSetup o x (setup.File receipt) old new result = FailsFiles o x.fault receipt old new result
FollowsSetup o x (setup.Memory None) old new result = (new ≡ old) × (result ≡ stepped.Memory)
FollowsSetup o x (setup.Memory (Some receipt)) old new result =
    (new ≡ record old { stage = stage.Booked receipt x.asked x.unasked }) × (result ≡ stepped.Memory)

-- Room for the answer is taken, the request is this event of the replica, and what follows its setup.
pub record SetsUpWith {F R I O : Type 0} (f : files.Ghosts F) (r : roads.Ghosts R I O) (i : link_in.Ghosts I)
    (o : link_out.Ghosts O) (e : Event) (old new : Member I O) (book book' : BookState F) (roads roads' : R)
    (result : Stepped) : Type 0 where
  pub half : O
  pub quiet : SendsNothing o old.upstream.outward half
  pub ended : Setup I O
  pub sets_up : SetsUpBy f r i o old.node old.op e book book' roads roads' ended
  pub follows : FollowsSetup o (opened old.upstream.id old.op (transition book.replica e)) ended
      (with_outward old half) new result

-- How a refusal ends that goes up, or for which there is no memory.
pub record IsShutBy {I O : Type 0} (o : link_out.Ghosts O) (d : Done) (old new : Member I O) (result : Stepped) : Type
    0 where
  pub upper : Conn I O
  pub shut : ShutsEnd o true old.upstream upper
  pub follows : Follows o stage.Shut took.Nothing d shuts.Both upper old.mirror old new result

-- memory ran out
abbrev pub is_memory : Done → Bool
is_memory done.Memory = true
is_memory other = false

abbrev pub RefusalEnds : {I O : Type 0} → link_out.Ghosts O → Bool → Done → Member I O → Member I O → Stepped → Type 0
RefusalEnds o true d old new result = (new ≡ old) × (result ≡ stepped.Memory)
RefusalEnds o false d old new result = IsShutBy o d old new result

-- The request is refused before the replica is asked.
pub record Refuses {I O : Type 0} (o : link_out.Ghosts O) (text : Option (List ℕ)) (old new : Member I O)
    (result : Stepped) : Type 0 where
  pub done : Done
  pub half : O
  pub says : SendsAlone o text done old.upstream.outward half
  pub ends : RefusalEnds o (is_memory done) done (with_outward old half) new result

-- What follows where a request that was booked goes on with the dial.
abbrev pub FollowsDial : {I O : Type 0} → link_out.Ghosts O → Opened → Setup I O → Member I O → Member I O → Stepped →
    Type 0
FollowsDial o x (setup.Mirrored receipt end) old new result = Waits o receipt x.asked (with_mirror old end) new result
FollowsDial o x (setup.MirrorDown receipt answered) old new result =
    Waits o receipt (asked_if x answered) old new result
FollowsDial o x (setup.Last receipt) old new result = Waits o receipt x.unasked old new result
FollowsDial o x other old new result = (new ≡ old) × (result ≡ stepped.Memory)

pub record GoesOnWith {R I O : Type 0} (r : roads.Ghosts R I O) (i : link_in.Ghosts I) (o : link_out.Ghosts O)
    (receipt : Receipt) (asked unasked : MemberState) (old new : Member I O) (roads roads' : R) (result : Stepped) :
    Type 0 where
  pub ended : Setup I O
  pub booked : booked_in ended ≡ Some (Ok receipt)
  pub goes_on : GoesOn r i o old.node old.op roads roads' ended
  pub follows : FollowsDial o (record {
    asked = asked;
    unasked = unasked;
    shuts = shuts.Nothing;
    answer = None;
    fault = None;
  }) ended old new result

-- The roads are as they were.
abbrev pub Leaves : {R : Type 0} → R → R → Type 0 → Type 0
Leaves old new follows = (new ≡ old) × follows

abbrev pub Begins : {F R I O : Type 0} → files.Ghosts F → roads.Ghosts R I O → link_in.Ghosts I → link_out.Ghosts O →
    Result Event RequestRefusal → Member I O → Member I O → BookState F → BookState F → R → R → Stepped → Type 0
Begins f r i o (Ok e) old new book book' roads roads' result =
    SetsUpWith f r i o e old new book book' roads roads' result
Begins f r i o (Err why) old new book book' roads roads' result =
    Leaves roads roads' (Leaves book book' (Refuses o (texts_of old.op (refused_setup why).sends) old new result))

-- A member is set up once: its request is refused or booked, and one that was booked may go on later with the dial.
abbrev pub SetsUp : {F R I O : Type 0} → files.Ghosts F → roads.Ghosts R I O → link_in.Ghosts I → link_out.Ghosts O →
    Stage → Member I O → Member I O → BookState F → BookState F → R → R → Stepped → Type 0
SetsUp f r i o stage.New old new book book' roads roads' result =
    Begins f r i o (request_event old.upstream.id old.op (rule_in book.replica)) old new book book' roads roads' result
SetsUp f r i o (stage.Booked receipt asked unasked) old new book book' roads roads' result =
    Leaves book book' (GoesOnWith r i o receipt asked unasked old new roads roads' result)
SetsUp f r i o (stage.Open m) old new book book' roads roads' result =
    Leaves roads roads' (Stays old new book book' result stepped.NotReady)
SetsUp f r i o stage.Shut old new book book' roads roads' result =
    Leaves roads roads' (Stays old new book book' result (stepped.Shut None))
