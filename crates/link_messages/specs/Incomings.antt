-- What was received of a connection and not yet taken, and what the next message is.
use Rattle.std.specs.Prelude.{◌≡◌, ◌⊎◌, ℕ, ◌<◌, ◌≤◌, Bool, true, false, List, [], ◌++◌, length, Option, Some, None, option_map, Result, Ok, Err}
use Rattle.hd_base.specs.Faults.{FaultsIncreased}
use Rattle.hd_base.specs.Links.{Inbox, in_front, IsEmptyInbox}
use Rattle.hd_base.specs.declared.links.LinkIn as link_in
use Rattle.frame_feed.specs.declared.faults.FeedFault.{FeedFault}
use Rattle.frame_feed.specs.declared.faults.FeedFault.TheVariants as feed
use Rattle.frame_feed.specs.Framings.{IsCut}
use Rattle.frame_feed.specs.Kinds.{Kind}
use Rattle.link_messages.specs.declared.incoming.Next.{Next}
use Rattle.link_messages.specs.declared.incoming.Next.TheVariants as next
use Rattle.link_messages.specs.declared.incoming.Received.{Received}
use Rattle.link_messages.specs.declared.incoming.Received.TheVariants as received

-- The bytes that reached the feed and were not yet taken, those behind them that were received and haven't reached it, and the fault that is answered for good.
pub record IncomingState : Type 0 where
  pub rest : List ℕ
  pub unpushed : List ℕ
  pub refused : Option FeedFault

-- nothing was received so far
abbrev pub nothing_received : IncomingState
nothing_received = record { rest = []; unpushed = []; refused = None }

-- all of it has reached the feed
abbrev pub pushed : IncomingState → IncomingState
pushed s = record { rest = s.rest ++ s.unpushed; unpushed = []; refused = s.refused }

-- What is still to be taken, where observable: what was received, and what the link holds behind it.
abbrev pub coming : IncomingState → Option Inbox → Option Inbox
coming s held = option_map (in_front (s.rest ++ s.unpushed)) held

-- A message was taken: it is spelled at the front of what was to be taken.
pub record GivesOne {M : Type 0} (kind : Kind M) (m : M) (old new : IncomingState) (held held' : Option Inbox) : Type 0
  where
    pub text : List ℕ
    pub spelled : kind.spells m text
    pub listed : kind.listed m
    pub front : coming old held ≡ option_map (in_front text) (coming new held')
    pub reads_on : new.refused ≡ None

-- The message at the front of these bytes is none of the kind, however they go on.
abbrev pub IsNone : {M : Type 0} → Kind M → List ℕ → Type 0
IsNone {M} kind bytes = (m : M) (text more behind : List ℕ) → kind.spells m text → bytes ++ more ≡ text ++ behind → ⊥

-- Nothing can be read: a fault is kept for good, that of before, or one for which no message is at the front.
pub record IsUnreadable {M : Type 0} (kind : Kind M) (old new : IncomingState) : Type 0 where
  pub fault : FeedFault
  pub kept : new.refused ≡ Some fault
  pub cause : (old.refused ≡ Some fault) ⊎ IsNone kind new.rest

-- Nothing more is held, and the message at the front, if there is one, is cut off: the end of the connection stands next, or not. It can be read on.
pub record IsOver {M : Type 0} (kind : Kind M) (ended : Bool) (new : IncomingState) (held : Option Inbox) : Type 0 where
  pub empty : IsEmptyInbox ended held
  pub all : new.unpushed ≡ []
  pub cut : IsCut kind.framing new.rest
  pub reads_on : new.refused ≡ None

-- What came next: a message off the front, or nothing, and then what is to be taken stays.
abbrev pub Comes : {M I : Type 0} → Kind M → link_in.Ghosts I → IncomingState → IncomingState → I → I → Next M → Type 0
Comes kind i old new half half' (next.Message m) = GivesOne kind m old new (i.held half) (i.held half')
Comes kind i old new half half' next.Unreadable = IsUnreadable kind old new ×
    (coming new (i.held half') ≡ coming old (i.held half))
Comes kind i old new half half' next.End = IsOver kind true new (i.held half') ×
    (coming new (i.held half') ≡ coming old (i.held half))
Comes kind i old new half half' next.NotYet = IsOver kind false new (i.held half') ×
    (coming new (i.held half') ≡ coming old (i.held half))
Comes kind i old new half half' next.Failed = FaultsIncreased (i.faults half) (i.faults half') ×
    (coming new (i.held half') ≡ coming old (i.held half))
Comes kind i old new half half' next.Memory = coming new (i.held half') ≡ coming old (i.held half)

-- It is this message, unless the link failed or memory ran out.
abbrev pub Finds : {M : Type 0} → M → Next M → Type 0
Finds m (next.Message n) = n ≡ m
Finds m next.Failed = Unit {0}
Finds m next.Memory = Unit {0}
Finds m other = ⊥

-- It is the end, or nothing yet, unless the link failed or memory ran out.
abbrev pub FindsNone : {M : Type 0} → Bool → Next M → Type 0
FindsNone true next.End = Unit {0}
FindsNone false next.NotYet = Unit {0}
FindsNone ended next.Failed = Unit {0}
FindsNone ended next.Memory = Unit {0}
FindsNone ended other = ⊥

-- What comes next, and what is left.
pub record NextEnds {M I : Type 0} (kind : Kind M) (i : link_in.Ghosts I) (old new : IncomingState) (half half' : I)
    (r : Next M) : Type 0 where
  pub comes : Comes kind i old new half half' r
  -- A message that stands whole at the front is taken.
  pub finds : old.refused ≡ None → (m : M) (text behind : List ℕ) (ended : Bool) → kind.spells m text
      → coming old (i.held half) ≡ Some (record { bytes = text ++ behind; ended = ended }) → Finds m r
  -- Where nothing is to be taken, the end is, or nothing yet.
  pub none : old.refused ≡ None → (ended : Bool) →
      coming old (i.held half) ≡ Some (record { bytes = []; ended = ended }) → FindsNone ended r
  pub shut : i.shut half' ≡ i.shut half
  pub never_falls : i.faults half ≤ i.faults half'

-- PARTS OF IT

-- A message was taken off the front of what reached the feed.
pub record TakesFront {M : Type 0} (kind : Kind M) (m : M) (old new : IncomingState) : Type 0 where
  pub text : List ℕ
  pub spelled : kind.spells m text
  pub listed : kind.listed m
  pub front : old.rest ≡ text ++ new.rest
  pub unpushed : new.unpushed ≡ old.unpushed
  pub reads_on : new.refused ≡ None

-- The message at the front isn't whole, and could be longer.
pub record Waits {M : Type 0} (kind : Kind M) (old new : IncomingState) : Type 0 where
  pub same : new ≡ old
  pub reads_on : old.refused ≡ None
  pub cut : IsCut kind.framing old.rest
  pub short : length old.rest < 16777218

-- What stands at the front is no message.
pub record Stops {M : Type 0} (kind : Kind M) (old new : IncomingState) : Type 0 where
  pub rest : new.rest ≡ old.rest
  pub unpushed : new.unpushed ≡ old.unpushed
  pub unreadable : IsUnreadable kind old new

-- what came next, by what the feed gave
abbrev pub next_of : {M : Type 0} → Result (Option M) FeedFault → Option (Next M)
next_of (Ok (Some m)) = Some (next.Message m)
next_of (Ok None) = None
next_of (Err feed.Memory) = Some next.Memory
next_of (Err other) = Some next.Unreadable

-- What the feed gives.
abbrev pub Asks : {M : Type 0} → Kind M → IncomingState → IncomingState → Option (Next M) → Type 0
Asks kind old new None = Waits kind old new
Asks kind old new (Some (next.Message m)) = TakesFront kind m old new
Asks kind old new (Some next.Unreadable) = Stops kind old new
Asks kind old new (Some next.Memory) = new ≡ old
Asks kind old new (Some other) = ⊥

-- It is this message, unless memory ran out.
abbrev pub AsksFor : {M : Type 0} → M → Option (Next M) → Type 0
AsksFor m (Some (next.Message n)) = n ≡ m
AsksFor m (Some next.Memory) = Unit {0}
AsksFor m other = ⊥

-- It isn't whole, unless memory ran out.
abbrev pub AsksMore : {M : Type 0} → Option (Next M) → Type 0
AsksMore None = Unit {0}
AsksMore (Some next.Memory) = Unit {0}
AsksMore other = ⊥

pub record AsksEnds {M : Type 0} (kind : Kind M) (old new : IncomingState) (r : Option (Next M)) : Type 0 where
  pub asks : Asks kind old new r
  pub whole : old.refused ≡ None → (m : M) (text behind : List ℕ) → kind.spells m text → old.rest ≡ text ++ behind →
      AsksFor m r
  pub part : old.refused ≡ None → IsCut kind.framing old.rest → AsksMore r

-- What the link gives, where all that was received before has reached the feed.
abbrev pub Receives : {I : Type 0} → link_in.Ghosts I → IncomingState → IncomingState → I → I → Received → Type 0
Receives i old new half half' received.Bytes = (new.unpushed ≡ []) × (length old.rest < length new.rest)
Receives i old new half half' received.End = (new ≡ old) × IsEmptyInbox true (i.held half')
Receives i old new half half' received.NotYet = (new ≡ old) × IsEmptyInbox false (i.held half')
Receives i old new half half' received.Failed = FaultsIncreased (i.faults half) (i.faults half')
Receives i old new half half' received.Memory = Unit {0}

pub record ReceiveEnds {I : Type 0} (i : link_in.Ghosts I) (old new : IncomingState) (half half' : I) (r : Received) :
    Type 0 where
  pub receives : Receives i old new half half' r
  pub stays : coming new (i.held half') ≡ coming old (i.held half)
  pub refused : new.refused ≡ old.refused
  pub shut : i.shut half' ≡ i.shut half
  pub never_falls : i.faults half ≤ i.faults half'
