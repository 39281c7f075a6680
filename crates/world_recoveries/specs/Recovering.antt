-- Block recoveries: what members told of their replicas, and which lengths they were sent.
use Rattle.std.specs.Prelude.{ℕ, ◌≡◌, ◌<◌, ◌≤◌, Bool, List, slice_get, Option, Some, None, Ok}
use Rattle.hd_base.specs.declared.numbers.NodeId.{NodeId}
use Rattle.hd_base.specs.declared.numbers.Stamp.{Stamp}
use Rattle.hd_base.specs.declared.states.ReplicaState.{ReplicaState}
use Rattle.hd_base.specs.declared.states.ReplicaState.TheVariants as state
use Rattle.op_headers.specs.declared.answers.RecoveryAnswer.{RecoveryAnswer}
use Rattle.op_headers.specs.declared.ops.Op.TheVariants as op
use Rattle.op_headers.specs.declared.ops.RecoveryOp.{RecoveryOp}
use Rattle.op_headers.specs.declared.ops.RecoveryKind.TheVariants as kind
use Rattle.name_core.specs.declared.calls.OfficeAnswer.TheVariants as office
use Rattle.replica_core.specs.declared.info.ReplicaInfo.{ReplicaInfo}
use Rattle.world_laws.specs.RecoveryCore.Phase.{Phase}
use Rattle.world_laws.specs.RecoveryCore.Phase.TheVariants as phase
use Rattle.world_laws.specs.RecoveryCore.Standing.TheVariants as standing
use Rattle.world_laws.specs.RecoveryCore.Primaries.{request_of}
use Rattle.world_laws.specs.World.Event.{Event}
use Rattle.world_laws.specs.World.Parts.{request, recovery_answer, by_primary, Updated, Told, Leading, Primary, no_primary, was_told, leads, has_led}
use Rattle.world_laws.specs.World.Worlds.{Past, World, start}
use Rattle.world_laws.specs.World.Events.{run}
use Rattle.world_laws.specs.World.Safe.{Has}
use Rattle.world_laws.specs.Stamping.{Givens, none_given, given_in}
use Rattle.world_laws.specs.Joining.{joined_as, AtLeast}

-- WHAT WAS TOLD AND SENT

-- what a member tells of its replica: its original state, its stamp, and how many bytes are written
abbrev pub ReplicaTold : Type 0
ReplicaTold = ReplicaState × Stamp × ℕ

-- On a connection of the recovery of a block with this id, a member told this of its replica.
pub record Informs (h : Past) (c b : ℕ) (id : Stamp) (i : ReplicaTold) : Type 0 where
  pub asked : RecoveryOp
  pub first : slice_get (h.downs c) 0 ≡ Some (request (op.Recovery asked))
  pub block : asked.block.block.0 ≡ b
  pub recovery : asked.recovery ≡ id
  pub place : ℕ
  pub answer : RecoveryAnswer
  pub there : slice_get (h.ups c) place ≡ Some (recovery_answer answer)
  pub info : answer.info ≡ Some i

-- On a connection the UPDATE of a block to this length was sent, of the recovery with this id.
pub record Updates (h : Past) (c b : ℕ) (id : Stamp) (n : ℕ) : Type 0 where
  pub asked : RecoveryOp
  pub place : ℕ
  pub there : slice_get (h.downs c) place ≡ Some (request (op.Recovery asked))
  pub is_update : asked.kind ≡ kind.Update
  pub block : asked.block.block.0 ≡ b
  pub recovery : asked.recovery ≡ id
  pub length : asked.new_length ≡ n

-- A request of a recovery names the block, the stamp and the id that the first one on its connection names.
pub record Agrees (h : Past) (c : ℕ) (q : RecoveryOp) : Type 0 where
  pub asked : RecoveryOp
  pub first : slice_get (h.downs c) 0 ≡ Some (request (op.Recovery asked))
  pub block : asked.block.block ≡ q.block.block
  pub stamp : asked.block.stamp ≡ q.block.stamp
  pub recovery : asked.recovery ≡ q.recovery

-- REPLICAS

abbrev pub top_under : Option Stamp → Stamp → ℕ
top_under None stamp = stamp.0
top_under (Some id) stamp = id.0

-- the id of the recovery that holds a replica, or its stamp where none does
abbrev pub top_of : ReplicaInfo → ℕ
top_of i = top_under i.recovery i.stamp

-- A replica of which a member told is there, held by this recovery or a later one, or under its id or a later stamp;
-- while this recovery holds it, it has the state, the stamp and the length that were told.
pub record StillTrue (id : Stamp) (i : ReplicaTold) (o : Option ReplicaInfo) : Type 0 where
  pub info : ReplicaInfo
  pub is : o ≡ Some info
  pub above : id.0 ≤ top_of info
  pub same : info.recovery ≡ Some id → (info.original ≡ i.0) × (info.stamp ≡ i.1) × (info.written ≡ i.2)

-- What was told is of a stamp that was given for the block, from the one that the recovery names to below its id; and
-- what is told as RBW is of a node that accepted the setup of that stamp in that life.
pub record InfoFits (g : Givens) (h : Past) (c b : ℕ) (named id : Stamp) (i : ReplicaTold) : Type 0 where
  pub known : c < h.next_conn
  pub named_below : named.0 ≤ i.1.0
  pub below : i.1.0 < id.0
  pub session : ℕ
  pub given : g b i.1.0 ≡ Some session
  pub joins : i.0 ≡ state.Rbw → Has h.joined (joined_as i.1.0 (h.dialled c).to.node (h.dialled c).to.life)

-- LENGTHS

-- some member told of an RBW replica of this length
pub record ToldOpen (h : Past) (b : ℕ) (id : Stamp) (n : ℕ) : Type 0 where
  pub conn : ℕ
  pub told : ReplicaTold
  pub informs : Informs h conn b id told
  pub is_open : told.0 ≡ state.Rbw
  pub length : told.2 ≡ n

-- An UPDATE goes to a node that told of its replica in that life: a FINALIZED replica keeps its length, no replica
-- gets more bytes than it has, and that of an RBW one is the length of some RBW replica that was told of.
pub record UpdateFits (h : Past) (c b : ℕ) (id : Stamp) (n : ℕ) : Type 0 where
  pub conn : ℕ
  pub told : ReplicaTold
  pub informs : Informs h conn b id told
  pub here : c < h.next_conn
  pub there : conn < h.next_conn
  pub to : (h.dialled conn).to ≡ (h.dialled c).to
  pub least : n ≤ told.2
  pub final : told.0 ≡ state.Finalized → n ≡ told.2
  pub opens : told.0 ≡ state.Rbw → ToldOpen h b id n

-- The UPDATE that gave a replica its length was sent to its node, in that life.
pub record WasSent (h : Past) (u : Updated) : Type 0 where
  pub conn : ℕ
  pub known : conn < h.next_conn
  pub to : (h.dialled conn).to ≡ record { node = u.node; life = u.life }
  pub sent : Updates h conn u.block (record { 0 = u.recovery }) u.length

-- no UPDATE was sent of the recovery with this id
abbrev pub NoUpdates : Past → Stamp → Type 0
NoUpdates h id = (c b n : ℕ) → Updates h c b id n → ⊥

-- PRIMARIES

abbrev pub ToldId : Told → Stamp → Type 0
ToldId (Ok (office.Begun begun)) id = begun.id ≡ id
ToldId _ id = ⊥

-- a primary that was told this id, or leads the recovery with it
abbrev pub HasId : Primary → Stamp → Type 0
HasId no_primary id = ⊥
HasId (was_told block told) id = ToldId told id
HasId (leads l) id = l.state.begun.id ≡ id
HasId (has_led r) id = ⊥

-- the member at a place told this, on the connection at that place
pub record ToldAt (h : Past) (l : Leading) (place : ℕ) (i : ReplicaTold) : Type 0 where
  pub conn : ℕ
  pub there : slice_get l.conns place ≡ Some (Some conn)
  pub informs : Informs h conn l.state.block.0 l.state.begun.id i

-- a primary's connections are those to its members, each in the life that it had when the recovery began, and what
-- stands of a member was told
pub record LeadingFits (h : Past) (l : Leading) : Type 0 where
  pub life_of : ℕ → ℕ
  pub known : (p c : ℕ) → slice_get l.conns p ≡ Some (Some c) → c < h.next_conn
  pub places : (p c : ℕ) (m : NodeId) → slice_get l.conns p ≡ Some (Some c) → slice_get l.state.members p ≡ Some m →
      (h.dialled c).to ≡ record { node = m.0; life = life_of m.0 }
  pub first : (p c : ℕ) → slice_get l.conns p ≡ Some (Some c) →
      slice_get (h.downs c) 0 ≡ Some (request (op.Recovery (request_of l.state kind.Init 0)))
  pub told : (p : ℕ) (at : ReplicaState) (s : Stamp) (n : ℕ) (ended : Bool) →
      slice_get l.state.standings p ≡ Some (standing.Told at s n ended) → ToldAt h l p (at, s, n)

abbrev pub LeadFits : Past → Primary → Type 0
LeadFits h (leads l) = LeadingFits h l
LeadFits h _ = Unit {0}

-- before the choice no UPDATE was sent, and behind it only of the chosen length
abbrev pub PhaseSends : Past → Stamp → Phase → Type 0
PhaseSends h id phase.Informing = NoUpdates h id
PhaseSends h id (phase.Updating length) = (c b n : ℕ) → Updates h c b id n → n ≡ length
PhaseSends h id phase.Over = Unit {0}

abbrev pub ToldSends : Past → Told → Type 0
ToldSends h (Ok (office.Begun begun)) = NoUpdates h begun.id
ToldSends h _ = Unit {0}

abbrev pub SendsFits : Past → Primary → Type 0
SendsFits h no_primary = Unit {0}
SendsFits h (was_told block told) = ToldSends h told
SendsFits h (leads l) = PhaseSends h l.state.begun.id l.state.phase
SendsFits h (has_led r) = Unit {0}

-- the primary, while it leads, has this connection at this place
abbrev pub IsPlacedIn : ℕ → ℕ → Primary → Type 0
IsPlacedIn c place no_primary = ⊥
IsPlacedIn c place (was_told block told) = ⊥
IsPlacedIn c place (leads l) = slice_get l.conns place ≡ Some (Some c)
IsPlacedIn c place (has_led r) = Unit {0}

-- THE WORLD

pub record Recovering (g : Givens) (w : World) : Type 0 where
  -- no connection is of a later life of its lower end's node
  pub lives : (c : ℕ) → c < w.next_conn → (w.dialled c).to.life ≤ w.lives (w.dialled c).to.node
  pub asks : (c i : ℕ) (q : RecoveryOp) → slice_get (w.downs c) i ≡ Some (request (op.Recovery q)) → Agrees w.past c q
  pub told : (c b : ℕ) (id : Stamp) (i : ReplicaTold) (x : Informs w.past c b id i) →
      InfoFits g w.past c b x.asked.block.stamp id i
  -- what a node told in the life that it is in is still true of its replica, in broken ones and stopped nodes too
  pub still : (c b : ℕ) (id : Stamp) (i : ReplicaTold) → Informs w.past c b id i →
      (w.dialled c).to.life ≡ w.lives (w.dialled c).to.node →
      StillTrue id i (w.replicas (w.dialled c).to.node b).known.info
  pub updates : (c b : ℕ) (id : Stamp) (n : ℕ) → Updates w.past c b id n → UpdateFits w.past c b id n
  pub updated : (u : Updated) → Has w.updated u → WasSent w.past u
  -- a replica that was updated in the life that its node is in is under that recovery's id or a later stamp
  pub settled : (u : Updated) → Has w.updated u → u.life ≡ w.lives u.node →
      AtLeast (w.replicas u.node u.block).known.info u.recovery
  -- what was told is of a stamp that no earlier recovery is above that updated the replica in that life
  pub earlier : (c b : ℕ) (id : Stamp) (i : ReplicaTold) → Informs w.past c b id i → (u : Updated) → Has w.updated u →
      (w.dialled c).to ≡ record { node = u.node; life = u.life } →
      u.block ≡ b → u.recovery < id.0 → u.recovery ≤ i.1.0
  -- a recovery has one length
  pub one_length : (c d a b : ℕ) (id : Stamp) (n m : ℕ) → Updates w.past c a id n → Updates w.past d b id m → n ≡ m
  pub primaries : (i : ℕ) → LeadFits w.past (w.primaries i)
  pub sends : (i : ℕ) → SendsFits w.past (w.primaries i)
  -- a recovery has one primary
  pub one_primary : (i j : ℕ) (id : Stamp) → HasId (w.primaries i) id → HasId (w.primaries j) id → i ≡ j
  pub placed : (c i place : ℕ) → c < w.next_conn → (w.dialled c).upper ≡ by_primary i place →
      IsPlacedIn c place (w.primaries i)

-- So it is after every list of events, of the stamps that are given in them.
abbrev pub AllRecovering : Type 0
AllRecovering = (nodes : ℕ) (events : List Event) →
    Recovering (given_in none_given (start nodes) events) (run (start nodes) events)

-- LAWS

-- Of two UPDATEs that were ever sent of one recovery the lengths are equal.
abbrev pub OneLength : World → Type 0
OneLength w = (c d a b : ℕ) (id : Stamp) (n m : ℕ) → Updates w.past c a id n → Updates w.past d b id m → n ≡ m

-- An UPDATE that was sent to a node in the life that it is in, of the recovery that holds its replica, gives it no
-- more bytes than it has, and just those that it has where it was FINALIZED.
abbrev pub Shortens : ReplicaInfo → Stamp → ℕ → Type 0
Shortens i id n = i.recovery ≡ Some id → (n ≤ i.written) × (i.original ≡ state.Finalized → n ≡ i.written)

abbrev pub UpdatesKeepFinalized : World → Type 0
UpdatesKeepFinalized w = (c b : ℕ) (id : Stamp) (n : ℕ) (i : ReplicaInfo) → Updates w.past c b id n →
    (w.dialled c).to.life ≡ w.lives (w.dialled c).to.node → (w.replicas (w.dialled c).to.node b).known.info ≡ Some i →
    Shortens i id n
