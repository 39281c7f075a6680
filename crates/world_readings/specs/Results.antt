-- What a reader comes to: the bytes that it asked for, the node's refusal, or the end.
use Rattle.std.specs.Prelude.{ℕ, ◌≡◌, ◌<◌, ◌-◌, true, List, [], ◌∷◌, ◌++◌, length, take, drop, slice_get, Some, Ok, Err}
use Rattle.op_headers.specs.declared.ops.Op.TheVariants as op
use Rattle.op_headers.specs.declared.ops.ReadOp.{ReadOp}
use Rattle.request_refusals.specs.declared.refusals.RequestRefusal.{RequestRefusal}
use Rattle.request_refusals.specs.Texts.{refusal_text}
use Rattle.read_core.specs.declared.reading.ReadFault.TheVariants as fault
use Rattle.read_core.specs.Servings.{ServingState, chunk_start, accepting, refusing}
use Rattle.world.specs.declared.events.Event.{Event}
use Rattle.world.specs.Parts.{Message, request, packet, response, by_reader, Reader, no_reader, has_read}
use Rattle.world.specs.Worlds.{World, Past, start}
use Rattle.world.specs.Events.{run}

-- The reader with this number dialled the connection, and asks this on it.
pub record Asks (p : Past) (i c : ℕ) (read : ReadOp) : Type 0 where
  pub known : c < p.next_conn
  pub upper : (p.dialled c).upper ≡ by_reader i
  pub asked : slice_get (p.downs c) 0 ≡ Some (request (op.Read read))

-- the bytes that a message brings
abbrev pub body_of : Message → List ℕ
body_of (packet p) = p.body
body_of other = []

-- the bytes of some messages, one after another
abbrev pub bodies : List Message → List ℕ
bodies [] = []
bodies (m ∷ ms) = body_of m ++ bodies ms

-- All bytes that a read asks for: as many, from where it begins, of those that the node sent, from the beginning of that chunk on.
pub record HasBytes (p : Past) (i : ℕ) (bytes : List ℕ) : Type 0 where
  pub conn : ℕ
  pub read : ReadOp
  pub asks : Asks p i conn read
  pub serving : ServingState
  pub answer : slice_get (p.ups conn) 0 ≡ Some (response (accepting serving))
  pub begins : serving.from ≡ chunk_start serving.rule.chunk read.offset
  pub whole : length bytes ≡ read.len
  pub are : take read.len (drop (read.offset - serving.from) (bodies (p.ups conn))) ≡ bytes

-- The node refused the read, with this message.
pub record IsRefused (p : Past) (i : ℕ) (message : List ℕ) : Type 0 where
  pub conn : ℕ
  pub read : ReadOp
  pub asks : Asks p i conn read
  pub refusal : RequestRefusal
  pub answer : slice_get (p.ups conn) 0 ≡ Some (response (refusing refusal))
  pub says : refusal_text refusal ≡ message

-- The read ended: the dial wasn't answered, so that the reader has no connection, or the reader has taken the end.
pub data HasEnded (w : World) (i : ℕ) : Type 0 where
  unanswered : ((c : ℕ) → c < w.next_conn → (w.dialled c).upper ≡ by_reader i → ⊥) → HasEnded w i
  ended : (c : ℕ) (read : ReadOp) → Asks w.past i c read → (w.up_marks c).over ≡ true → HasEnded w i

-- A reader that has a result has all bytes, was refused, or ended; there is no other.
abbrev pub ComesTo : World → ℕ → Reader → Type 0
ComesTo w i (has_read (Ok bytes)) = HasBytes w.past i bytes
ComesTo w i (has_read (Err (fault.Refused message))) = IsRefused w.past i message
ComesTo w i (has_read (Err fault.Ended)) = HasEnded w i
ComesTo w i (has_read (Err other)) = ⊥
ComesTo w i other = Unit {0}

-- So it is of each reader after every list of events.
abbrev pub AllComeTo : Type 0
AllComeTo = (nodes : ℕ) (events : List Event) (i : ℕ) →
    ComesTo (run (start nodes) events) i ((run (start nodes) events).readers i)

-- A reader ended, and has no other result, where it has taken the end, or has begun and has no connection.
pub record Ends (w : World) (i : ℕ) : Type 0 where
  pub taken : (c : ℕ) (read : ReadOp) → Asks w.past i c read → (w.up_marks c).over ≡ true →
      w.readers i ≡ has_read (Err fault.Ended)
  pub unanswered : ((c : ℕ) → c < w.next_conn → (w.dialled c).upper ≡ by_reader i → ⊥) → (w.readers i ≡ no_reader → ⊥) →
      w.readers i ≡ has_read (Err fault.Ended)

-- So it is of each reader after every list of events.
abbrev pub AllEnd : Type 0
AllEnd = (nodes : ℕ) (events : List Event) (i : ℕ) → Ends (run (start nodes) events) i
