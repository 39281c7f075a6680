-- What a feed holds, and what its calls answer and leave.
use Rattle.std.specs.Prelude.{◌≡◌, ◌+◌, ◌<◌, ◌≤◌, ◌⊎◌, ℕ, List, ◌++◌, length, drop, Option, Some, None, Result, Ok, Err}
use Rattle.frame_feed.specs.declared.faults.FeedFault.{FeedFault}
use Rattle.frame_feed.specs.declared.faults.FeedFault.TheVariants as feed
use Rattle.frame_feed.specs.declared.faults.NoMessage.{NoMessage}
use Rattle.frame_feed.specs.declared.faults.NoMessage.TheVariants.{Short, Memory, Refused}
use Rattle.frame_feed.specs.declared.framing.Framing.{Framing}
use Rattle.frame_feed.specs.Framings.{missing, size_at, IsCut}
use Rattle.frame_feed.specs.Faults.{IsOfStream}
use Rattle.frame_feed.specs.Kinds.{Kind}

-- The bytes that were pushed and not yet taken, the fault that is answered for good, and how many bytes are wanted.
pub record FeedState : Type 0 where
  pub rest : List ℕ
  pub refused : Option FeedFault
  pub wanted : ℕ

-- with these bytes, and no fault so far
abbrev pub holding : List ℕ → FeedState
holding rest = record { rest = rest; refused = None; wanted = 0 }

-- with a piece behind what was there
abbrev pub with_piece : FeedState → List ℕ → FeedState
with_piece s piece = record { rest = s.rest ++ piece; refused = s.refused; wanted = 0 }

-- waiting for the rest of the message at the front
abbrev pub waiting : Framing → List ℕ → FeedState
waiting f rest = record { rest = rest; refused = None; wanted = missing f rest }

-- with a fault that is answered for good
abbrev pub refusing : FeedFault → List ℕ → FeedState
refusing e rest = record { rest = rest; refused = Some e; wanted = 0 }

-- This is answered and left, or memory ran out and nothing changed.
abbrev pub Answers : {M : Type 0} → FeedState → Result (Option M) FeedFault → FeedState → Result (Option M) FeedFault →
    FeedState → Type 0
Answers old r new answer left = ((r ≡ Err feed.Memory) × (new ≡ old)) ⊎ ((r ≡ answer) × (new ≡ left))

-- What is taken is spelled at the front, and the bytes behind it stay.
pub record TakesOne {M : Type 0} (kind : Kind M) (m : M) (old new : FeedState) : Type 0 where
  pub text : List ℕ
  pub spelled : kind.spells m text
  pub listed : kind.listed m
  pub front : old.rest ≡ text ++ new.rest
  pub left : new ≡ holding new.rest

-- At least one byte is wanted, and never more than the message at the front lacks; where its size shows, all that it lacks. The bytes there and those that are wanted are never more than the longest message has.
pub record Wants {M : Type 0} (kind : Kind M) (s : FeedState) : Type 0 where
  pub some : 0 < s.wanted
  pub within : (m : M) (text more : List ℕ) → kind.spells m text → s.rest ++ more ≡ text → s.wanted ≤ length more
  pub whole : (size : ℕ) (m : M) (text more : List ℕ) → size_at kind.framing s.rest ≡ Some size → kind.spells m text →
      s.rest ++ more ≡ text → s.wanted ≡ length more
  pub bounded : length s.rest + s.wanted ≤ 16777218

-- What a call answers that asks for the next message of a kind, and what it leaves.
pub record TakesNext {M : Type 0} (kind : Kind M) (old : FeedState) (r : Result (Option M) FeedFault) (new : FeedState)
    : Type 0 where
  -- What is taken is spelled at the front, and what is spelled there is taken, whatever follows.
  pub found : (m : M) → r ≡ Ok (Some m) → TakesOne kind m old new
  pub only : old.refused ≡ None → (m : M) (text rest : List ℕ) → kind.spells m text → old.rest ≡ text ++ rest →
      Answers old r new (Ok (Some m)) (holding rest)
  -- None comes exactly where the message is cut off.
  pub none : r ≡ Ok None → IsCut kind.framing old.rest
  pub short : old.refused ≡ None → IsCut kind.framing old.rest →
      Answers old r new (Ok None) (waiting kind.framing old.rest)
  pub wants : r ≡ Ok None → Wants kind new
  -- A fault comes exactly where it stands at the front, and from then on it is answered for good.
  pub fails : (e : FeedFault) → r ≡ Err e → (e ≡ feed.Memory) ⊎
      ((old.refused ≡ Some e) ⊎ kind.stops (Refused e) old.rest)
  pub refuses : (e : FeedFault) → old.refused ≡ None → kind.stops (Refused e) old.rest →
      Answers old r new (Err e) (refusing e old.rest)
  pub again : (e : FeedFault) → old.refused ≡ Some e → (r ≡ Err e) × (new ≡ old)
  -- Where nothing is taken, the bytes stay.
  pub stays : ((m : M) → r ≡ Ok (Some m) → ⊥) → new.rest ≡ old.rest
  -- Want of memory changes nothing.
  pub memory : r ≡ Err feed.Memory → new ≡ old

-- the same by the function that reads
abbrev pub answer_of : {M : Type 0} → Result (M × ℕ) NoMessage → Result (Option M) FeedFault
answer_of (Ok x) = Ok (Some x.0)
answer_of (Err Short) = Ok None
answer_of (Err Memory) = Err feed.Memory
answer_of (Err (Refused e)) = Err e

abbrev pub state_after : {M : Type 0} → Framing → FeedState → Result (M × ℕ) NoMessage → FeedState
state_after f old (Ok x) = holding (drop x.1 old.rest)
state_after f old (Err Short) = waiting f old.rest
state_after f old (Err Memory) = old
state_after f old (Err (Refused e)) = refusing e old.rest

-- An answer by what reading the bytes gives, or memory ran out.
abbrev pub AnswersAsRead : {M : Type 0} → Kind M → FeedState → Result (Option M) FeedFault → FeedState → Type 0
AnswersAsRead kind old r new = Answers old r new (answer_of (kind.reads old.rest))
    (state_after kind.framing old (kind.reads old.rest))

-- ---- what a feed keeps

-- The message at the front has this size, and while some of it is missing the bytes are cut off.
abbrev pub IsKnown : Option (Framing × ℕ) → List ℕ → Type 0
IsKnown None rest = Unit {0}
IsKnown (Some k) rest = (size_at k.0 rest ≡ Some k.1) × (length rest < k.1 → IsCut k.0 rest)

abbrev pub IsRefusal : Option FeedFault → Type 0
IsRefusal None = Unit {0}
IsRefusal (Some e) = IsOfStream e
