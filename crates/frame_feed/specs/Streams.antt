-- Streams of messages, and what a feed gives of one, however it is cut into pieces.
use Rattle.std.specs.Prelude.{◌≡◌, ℕ, List, [], ◌∷◌, ◌++◌}
use Rattle.frame_feed.specs.declared.notes.Message.{Message}
use Rattle.frame_feed.specs.declared.notes.Message.TheVariants as message
use Rattle.frame_feed.specs.Kinds.{requests, packets, acks, responses, answers, read_statuses}
use Rattle.frame_feed.specs.Feeds.{FeedState, TakesOne}

-- The bytes spell the message, as its kind is spelled.
abbrev pub Spells : Message → List ℕ → Type 0
Spells (message.Op m) text = requests.spells m text
Spells (message.Packet m) text = packets.spells m text
Spells (message.Ack m) text = acks.spells m text
Spells (message.Response m) text = responses.spells m text
Spells (message.ReadStatus m) text = read_statuses.spells m text
Spells (message.Answer m) text = answers.spells m text

-- the bytes are a spelling of the message, and then bytes of which this holds
pub record BeginsWith (m : Message) (Behind : List ℕ → Type 0) (bytes : List ℕ) : Type 0 where
  pub text : List ℕ
  pub rest : List ℕ
  pub spelled : Spells m text
  pub parts : bytes ≡ text ++ rest
  pub behind : Behind rest

-- The bytes are spellings of the messages, one after the other.
abbrev pub IsStream : List Message → List ℕ → Type 0
IsStream [] bytes = bytes ≡ []
IsStream (m ∷ ms) bytes = BeginsWith m (IsStream ms) bytes

-- both messages are of one kind
abbrev pub IsSameKind : Message → Message → Type 0
IsSameKind (message.Op m) (message.Op n) = Unit {0}
IsSameKind (message.Packet m) (message.Packet n) = Unit {0}
IsSameKind (message.Ack m) (message.Ack n) = Unit {0}
IsSameKind (message.Response m) (message.Response n) = Unit {0}
IsSameKind (message.ReadStatus m) (message.ReadStatus n) = Unit {0}
IsSameKind (message.Answer m) (message.Answer n) = Unit {0}
IsSameKind _ _ = ⊥

-- as many messages, and of the same kinds in turn
abbrev pub AreSameKinds : List Message → List Message → Type 0
AreSameKinds [] [] = Unit {0}
AreSameKinds (m ∷ ms) (n ∷ ns) = IsSameKind m n × AreSameKinds ms ns
AreSameKinds _ _ = ⊥

-- What happens to a feed: a piece is pushed, a call gives a message, or a call gives none.
pub data Turn : Type 0 where
  Push : (piece : List ℕ) → Turn
  Give : (m : Message) → Turn
  Nothing : Turn

-- what a turn makes of a feed
abbrev pub Goes : Turn → FeedState → FeedState → Type 0
Goes (Push piece) old new = new.rest ≡ old.rest ++ piece
Goes (Give (message.Op m)) old new = TakesOne requests m old new
Goes (Give (message.Packet m)) old new = TakesOne packets m old new
Goes (Give (message.Ack m)) old new = TakesOne acks m old new
Goes (Give (message.Response m)) old new = TakesOne responses m old new
Goes (Give (message.ReadStatus m)) old new = TakesOne read_statuses m old new
Goes (Give (message.Answer m)) old new = TakesOne answers m old new
Goes Nothing old new = new.rest ≡ old.rest

-- a turn, and then what this says
pub record Passes (turn : Turn) (old : FeedState) (Behind : FeedState → Type 0) : Type 0 where
  pub next : FeedState
  pub goes : Goes turn old next
  pub behind : Behind next

-- The turns lead from one state of a feed to another.
abbrev pub Runs : List Turn → FeedState → FeedState → Type 0
Runs [] old new = old ≡ new
Runs (turn ∷ turns) old new = Passes turn old (λ next. Runs turns next new)

-- all that was pushed, in order
abbrev pub pushed : List Turn → List ℕ
pushed [] = []
pushed (Push piece ∷ turns) = piece ++ pushed turns
pushed (Give m ∷ turns) = pushed turns
pushed (Nothing ∷ turns) = pushed turns

-- the messages that were given, in order
abbrev pub given : List Turn → List Message
given [] = []
given (Push piece ∷ turns) = given turns
given (Give m ∷ turns) = m ∷ given turns
given (Nothing ∷ turns) = given turns

-- The bytes are these messages one after the other, and then this rest.
pub record SplitsInto (bytes : List ℕ) (ms : List Message) (rest : List ℕ) : Type 0 where
  pub text : List ℕ
  pub stream : IsStream ms text
  pub parts : bytes ≡ text ++ rest
