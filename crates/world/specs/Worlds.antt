-- The world, what an event may change of it, and the world after such a change.
use Rattle.std.specs.Prelude.{ℕ, ◌==◌, ◌+◌, ◌-◌, ◌&&◌, nat_lt, nat_le, if◌then◌else◌, Bool, false, List, [], ◌∷◌, ◌++◌, length, slice_get, unwrap_or, option_map, Option, Some, None}
use Rattle.member_core.specs.HdBase.SumRules.{default_rule}
use Rattle.name_core.specs.Offices.{OfficeState, new_office}
use Rattle.member_core.specs.ReplicaModel.Rows.{FullReplica, nothing}
use Rattle.writer_core.specs.Transitions.{fresh}
use Rattle.world.specs.declared.events.Event.{Event}
use Rattle.world.specs.Parts.{Message, by_writer, Dialled, Marks, new_marks, Lower, idle, Writing, Reader, no_reader, Primary, no_primary, Break, Answered, Said, Joined, Updated}

-- FUNCTIONS AS TABLES

-- this value there, and the others as before
abbrev pub put : {A : Type 0} → (ℕ → A) → ℕ → A → ℕ → A
put f i x j = if j == i then x else f j

-- the same of a table with two indices
abbrev pub put_at : {A : Type 0} → (ℕ → ℕ → A) → ℕ → ℕ → A → ℕ → ℕ → A
put_at f i k x j l = if j == i && l == k then x else f j l

-- these elements behind those that stand there
abbrev pub add : {A : Type 0} → (ℕ → List A) → ℕ → List A → ℕ → List A
add f i xs j = if j == i then f j ++ xs else f j

-- THE WORLD

-- All that only grows. By session: the bytes that its writer has written, those before it among them; a session is named by its first stamp. By
-- stamp: its session. How many connections were dialled, and what they are. By connection: what was sent down, and up. Which setups were
-- accepted, which replicas were updated, which commands were answered with a length, and by block all answers.
pub record Past : Type 0 where
  pub written : ℕ → List ℕ
  pub session_of : ℕ → ℕ
  pub next_conn : ℕ
  pub dialled : ℕ → Dialled
  pub downs : ℕ → List Message
  pub ups : ℕ → List Message
  pub joined : List Joined
  pub updated : List Updated
  pub answered : List Answered
  pub said : ℕ → List Said

-- The world: its past; how many nodes there are; the office; by block its latest session and its writer; by number the readers and primaries; by
-- node its life and whether it runs; by node and block the replica, and in which event it broke; by connection its lower end and how much was
-- taken; the last event, and the length that it answered, if it did.
pub record World : Type 0 where
  pub past : Past
  pub open past use *
  pub nodes : ℕ
  pub office : OfficeState
  pub latest : ℕ → ℕ
  pub writers : ℕ → Writing
  pub readers : ℕ → Reader
  pub primaries : ℕ → Primary
  pub lives : ℕ → ℕ
  pub running : ℕ → Bool
  pub replicas : ℕ → ℕ → FullReplica
  pub breaks : ℕ → ℕ → Option Break
  pub lowers : ℕ → Lower
  pub down_marks : ℕ → Marks
  pub up_marks : ℕ → Marks
  pub last : Option Event
  pub last_answer : Option Answered

-- a writer that was given nothing
abbrev pub new_writing : ℕ → Writing
new_writing b = record { known = fresh (record { 0 = b }) default_rule; conn = None; told = None }

-- what stands where no connection was dialled
abbrev pub no_dial : Dialled
no_dial = record { upper = by_writer 0; from = None; to = record { node = 0; life = 0 } }

abbrev pub no_past : Past
no_past = record {
  written = λ _. [];
  session_of = λ _. 0;
  next_conn = 0;
  dialled = λ _. no_dial;
  downs = λ _. [];
  ups = λ _. [];
  joined = [];
  updated = [];
  answered = [];
  said = λ _. [];
}

-- so many nodes that run, and nothing else
unfoldable pub start : ℕ → World
start nodes = record {
  past = no_past;
  nodes = nodes;
  office = new_office;
  latest = λ _. 0;
  writers = new_writing;
  readers = λ _. no_reader;
  primaries = λ _. no_primary;
  lives = λ _. 0;
  running = λ n. nat_lt n nodes;
  replicas = λ n b. nothing (record { 0 = b });
  breaks = λ n b. None;
  lowers = λ _. idle;
  down_marks = λ _. new_marks;
  up_marks = λ _. new_marks;
  last = None;
  last_answer = None;
}

-- CHANGES

-- a dial that was answered, and the request that is sent on the new connection
pub record Dial : Type 0 where
  pub dialled : Dialled
  pub request : Message

-- the office gave this stamp: its session, and the latest session of the block from then on
pub record Stamped : Type 0 where
  pub block : ℕ
  pub stamp : ℕ
  pub session : ℕ
  pub latest : ℕ

-- What an event changes: the office, and the stamp that it gave; bytes that a session gets; one writer, one reader, one primary; one replica of
-- one node; the lower end of one connection; new connections, in the order of their numbers; what is sent down and up on each connection that
-- was there, and which connections are shut then; and new entries of the records.
pub record Change : Type 0 where
  pub office : OfficeState
  pub stamped : Option Stamped
  pub session : ℕ
  pub bytes : List ℕ
  pub writer_at : ℕ
  pub writer : Writing
  pub said : List Said
  pub reader_at : ℕ
  pub reader : Reader
  pub primary_at : ℕ
  pub primary : Primary
  pub node : ℕ
  pub block : ℕ
  pub replica : FullReplica
  pub broke : Option Break
  pub lower_at : ℕ
  pub lower : Lower
  pub dials : List Dial
  pub downs : ℕ → List Message
  pub ups : ℕ → List Message
  pub shuts : ℕ → Bool
  pub joined : List Joined
  pub updated : List Updated
  pub answered : Option Answered

-- nothing
abbrev pub still : World → Change
still w = record {
  office = w.office;
  stamped = None;
  session = 0;
  bytes = [];
  writer_at = 0;
  writer = w.writers 0;
  said = [];
  reader_at = 0;
  reader = w.readers 0;
  primary_at = 0;
  primary = w.primaries 0;
  node = 0;
  block = 0;
  replica = w.replicas 0 0;
  broke = w.breaks 0 0;
  lower_at = 0;
  lower = w.lowers 0;
  dials = [];
  downs = λ _. [];
  ups = λ _. [];
  shuts = λ _. false;
  joined = [];
  updated = [];
  answered = None;
}

-- the session of each stamp, with one that was given
abbrev pub sessions_with : (ℕ → ℕ) → Option Stamped → ℕ → ℕ
sessions_with f None = f
sessions_with f (Some s) = put f s.stamp s.session

-- the latest session of each block, with the stamp that was given
abbrev pub latest_with : (ℕ → ℕ) → Option Stamped → ℕ → ℕ
latest_with f None = f
latest_with f (Some s) = put f s.block s.latest

-- the new connection with this number, if there is one
abbrev pub dial_at : ℕ → List Dial → ℕ → Option Dial
dial_at next dials c = if nat_le next c then slice_get dials (c - next) else None

-- what is in an option, as a list
abbrev pub listed : {A : Type 0} → Option A → List A
listed None = []
listed (Some x) = x ∷ []

abbrev pub dialled_with : World → Change → ℕ → Dialled
dialled_with w k c = unwrap_or (option_map (λ d. d.dialled) (dial_at w.next_conn k.dials c)) (w.dialled c)

-- what was sent down: a new connection has its request
abbrev pub downs_with : World → Change → ℕ → List Message
downs_with w k c = (w.downs c ++ k.downs c) ++ listed (option_map (λ d. d.request) (dial_at w.next_conn k.dials c))

abbrev pub ups_with : World → Change → ℕ → List Message
ups_with w k c = w.ups c ++ k.ups c

-- The end stands behind all that was sent before the shut, but no later than where it stands already.
abbrev pub shut_marks : List Message → Marks → Marks
shut_marks sent k = record k { end = Some (unwrap_or k.end (length sent)) }

-- the marks of a connection, which is shut or not
abbrev pub marks_with : (ℕ → Bool) → (ℕ → List Message) → (ℕ → Marks) → ℕ → Marks
marks_with shuts sent marks c = if shuts c then shut_marks (sent c) (marks c) else marks c

abbrev pub past_after : World → Change → Past
past_after w k = record {
  written = add w.written k.session k.bytes;
  session_of = sessions_with w.session_of k.stamped;
  next_conn = w.next_conn + length k.dials;
  dialled = dialled_with w k;
  downs = downs_with w k;
  ups = ups_with w k;
  joined = w.joined ++ k.joined;
  updated = w.updated ++ k.updated;
  answered = w.answered ++ listed k.answered;
  said = add w.said k.writer_at k.said;
}

-- The world after a change: of what was sent on a connection that is shut, no more arrives than was sent before.
unfoldable pub apply : World → Change → World
apply w k = record {
  past = past_after w k;
  nodes = w.nodes;
  office = k.office;
  latest = latest_with w.latest k.stamped;
  writers = put w.writers k.writer_at k.writer;
  readers = put w.readers k.reader_at k.reader;
  primaries = put w.primaries k.primary_at k.primary;
  lives = w.lives;
  running = w.running;
  replicas = put_at w.replicas k.node k.block k.replica;
  breaks = put_at w.breaks k.node k.block k.broke;
  lowers = put w.lowers k.lower_at k.lower;
  down_marks = marks_with k.shuts (downs_with w k) w.down_marks;
  up_marks = marks_with k.shuts (ups_with w k) w.up_marks;
  last = w.last;
  last_answer = k.answered;
}
