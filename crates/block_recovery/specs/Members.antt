-- What a primary takes from one of the members.
use Rattle.std.specs.Prelude.{◌≡◌, ◌⊎◌, ◌<◌, ℕ, Bool, true, false, List, length, Option, Some, None, Result, Ok, Err}
use Rattle.hd_base.specs.declared.ends.RoadError.{RoadError}
use Rattle.hd_base.specs.declared.links.LinkIn as link_in
use Rattle.hd_base.specs.declared.links.LinkOut as link_out
use Rattle.hd_base.specs.declared.roads.Roads as roads
use Rattle.frame_feed.specs.Kinds.{answers}
use Rattle.link_messages.specs.declared.incoming.Next.{Next}
use Rattle.link_messages.specs.declared.incoming.Next.TheVariants as next
use Rattle.link_messages.specs.Incomings.{NextEnds}
use Rattle.link_pieces.specs.Roads.{ExchangesEnd}
use Rattle.op_headers.specs.declared.answers.RecoveryAnswer.{RecoveryAnswer}
use Rattle.recovery_core.specs.declared.standings.Heard.TheVariants as heard
use Rattle.recovery_core.specs.Primaries.{PrimaryState}
use Rattle.block_recovery.specs.declared.links.Link.{Link}
use Rattle.block_recovery.specs.declared.links.Seat.{Seat}
use Rattle.block_recovery.specs.declared.links.Seat.TheVariants as seat
use Rattle.block_recovery.specs.declared.members.MemberHeard.{MemberHeard}
use Rattle.block_recovery.specs.declared.members.MemberHeard.TheVariants as member
use Rattle.block_recovery.specs.Actions.{IsAt, Settles}
use Rattle.block_recovery.specs.Hearing.{ends_with}
use Rattle.block_recovery.specs.Links.{KeepsOutward}
use Rattle.block_recovery.specs.Steps.{Hears}

-- TAKING

-- The end of the connection is exchanged, and takes what stands next.
pub record TakesEnd {R I O : Type 0} (r : roads.Ghosts R I O) (i : link_in.Ghosts I) (o : link_out.Ghosts O)
    (link link' : Link I O) (old new : R) (result : Result (Unit {0}) RoadError) : Type 0 where
  pub incoming : link'.incoming ≡ link.incoming
  pub asked : link'.asked ≡ link.asked
  pub failed : link'.failed ≡ link.failed
  pub over : link'.over ≡ link.over
  pub end : ExchangesEnd r i o true link.end link'.end old new result

-- The same, if there is one.
abbrev pub TakesLink : {R I O : Type 0} → roads.Ghosts R I O → link_in.Ghosts I → link_out.Ghosts O → Seat I O
    → Seat I O → R → R → Result (Unit {0}) RoadError → Type 0
TakesLink r i o (seat.Open l) (seat.Open l') old new result = TakesEnd r i o l l' old new result
TakesLink r i o seat.Empty seat.Empty old new result = (new ≡ old) × (result ≡ Ok tt)
TakesLink r i o seat.Lost seat.Lost old new result = (new ≡ old) × (result ≡ Ok tt)
TakesLink r i o link link' old new result = ⊥

-- There is no such place, and nothing is done.
pub record IsPast {R I O : Type 0} (place count : ℕ) (links links' : List (Seat I O)) (old new : R) : Type 0 where
  pub past : place < count → ⊥
  pub links_same : links' ≡ links
  pub roads_same : new ≡ old

-- The connection to the member at this place is exchanged, and takes what stands next.
abbrev pub TakesAt : {R I O : Type 0} → roads.Ghosts R I O → link_in.Ghosts I → link_out.Ghosts O → ℕ
    → List (Seat I O) → List (Seat I O) → R → R → Result (Unit {0}) RoadError → Type 0
TakesAt r i o place links links' old new result =
    IsAt (λ before after. TakesLink r i o before after old new result) place links links'
    ⊎ (IsPast place (length links) links links' old new × (result ≡ Ok tt))

-- LISTENING

-- What comes next of the link is received.
pub record Receives {I O : Type 0} (i : link_in.Ghosts I) (old new : Link I O) (found : Next RecoveryAnswer)
    : Type 0 where
  pub comes : NextEnds answers i old.incoming new.incoming old.end.inward new.end.inward found
  pub over : new.over ≡ ends_with found
  pub kept : KeepsOutward old new

-- Behind an end nothing comes, nor where the link failed when something was sent.
abbrev pub ListensAs : {I O : Type 0} → link_in.Ghosts I → Bool → Bool → Link I O → Link I O → Next RecoveryAnswer → Type 0
ListensAs i true failed old new found = (new ≡ old) × (found ≡ next.NotYet)
ListensAs i false true old new found = (new ≡ old) × (found ≡ next.Failed)
ListensAs i false false old new found = Receives i old new found

abbrev pub ListensTo : {I O : Type 0} → link_in.Ghosts I → Link I O → Link I O → Next RecoveryAnswer → Type 0
ListensTo i old new found = ListensAs i old.over old.failed old new found

-- The same on a connection, if there is one.
abbrev pub ListensOn : {I O : Type 0} → link_in.Ghosts I → Seat I O → Seat I O → Next RecoveryAnswer → Type 0
ListensOn i (seat.Open old) (seat.Open new) found = ListensTo i old new found
ListensOn i seat.Empty seat.Empty found = found ≡ next.NotYet
ListensOn i seat.Lost seat.Lost found = found ≡ next.NotYet
ListensOn i old new found = ⊥

-- HEARING

-- Nothing more is done than to listen.
pub record IsUnheard {R I O : Type 0} (core core' : PrimaryState) (links links' : List (Seat I O)) (old new : R)
    : Type 0 where
  pub core_same : core' ≡ core
  pub links_same : links' ≡ links
  pub roads_same : new ≡ old

-- The connection at this place is given up.
pub record GivesUpAt {R I O : Type 0} (r : roads.Ghosts R I O) (i : link_in.Ghosts I) (o : link_out.Ghosts O)
    (core core' : PrimaryState) (place : ℕ) (links links' : List (Seat I O)) (old new : R) : Type 0 where
  pub core_same : core' ≡ core
  pub settles : IsAt (λ before after. Settles r i o false before after old new) place links links'

-- What follows what came.
abbrev pub HearsBy : {R I O : Type 0} → roads.Ghosts R I O → link_in.Ghosts I → link_out.Ghosts O → Next RecoveryAnswer → ℕ
    → PrimaryState → PrimaryState → List (Seat I O) → List (Seat I O) → R → R → MemberHeard → Type 0
HearsBy r i o (next.Message a) place core core' links links' old new result =
    Hears r i o core core' place (heard.Answer a) links links' old new × (result ≡ member.Taken)
HearsBy r i o next.Unreadable place core core' links links' old new result =
    Hears r i o core core' place heard.Unreadable links links' old new × (result ≡ member.Taken)
HearsBy r i o next.End place core core' links links' old new result =
    Hears r i o core core' place heard.End links links' old new × (result ≡ member.Taken)
HearsBy r i o next.NotYet place core core' links links' old new result =
    IsUnheard core core' links links' old new × (result ≡ member.Nothing)
HearsBy r i o next.Failed place core core' links links' old new result =
    GivesUpAt r i o core core' place links links' old new × (result ≡ member.LinkFailed)
HearsBy r i o next.Memory place core core' links links' old new result =
    IsUnheard core core' links links' old new × (result ≡ member.Memory)

-- It listens to the member at this place, and hears what comes.
pub record HearsAt {R I O : Type 0} (r : roads.Ghosts R I O) (i : link_in.Ghosts I) (o : link_out.Ghosts O)
    (place : ℕ) (core core' : PrimaryState) (links links' : List (Seat I O)) (old new : R) (result : MemberHeard)
    : Type 0 where
  pub given : Next RecoveryAnswer
  pub seen : List (Seat I O)
  pub listens : IsAt (λ before after. ListensOn i before after given) place links seen
  pub hears : HearsBy r i o given place core core' seen links' old new result

-- There is no member at this place.
pub record HearsNone {R I O : Type 0} (place : ℕ) (core core' : PrimaryState) (links links' : List (Seat I O))
    (old new : R) (result : MemberHeard) : Type 0 where
  pub past : place < length core.standings → place < length links → ⊥
  pub unheard : IsUnheard core core' links links' old new
  pub is : result ≡ member.Nothing

abbrev pub HearsMember : {R I O : Type 0} → roads.Ghosts R I O → link_in.Ghosts I → link_out.Ghosts O → ℕ
    → PrimaryState → PrimaryState → List (Seat I O) → List (Seat I O) → R → R → MemberHeard → Type 0
HearsMember r i o place core core' links links' old new result =
    HearsAt r i o place core core' links links' old new result ⊎ HearsNone place core core' links links' old new result

-- A primary that has begun hears the member at this place.
abbrev pub HearsSo : {R I O : Type 0} → roads.Ghosts R I O → link_in.Ghosts I → link_out.Ghosts O → ℕ
    → Option PrimaryState → Option PrimaryState → List (Seat I O) → List (Seat I O) → R → R → MemberHeard → Type 0
HearsSo r i o place (Some core) (Some core') links links' old new result =
    HearsMember r i o place core core' links links' old new result
HearsSo r i o place None None links links' old new result =
    (links' ≡ links) × (new ≡ old) × (result ≡ member.Nothing)
HearsSo r i o place core core' links links' old new result = ⊥
