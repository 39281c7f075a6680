-- The setups that nodes accepted, and what their replicas have since.
use Rattle.std.specs.Prelude.{ℕ, ◌≡◌, ◌<◌, ◌≤◌, ◌⊎◌, Bool, true, false, List, Option, Some, None, IfSome}
use Rattle.hd_base.specs.declared.numbers.Stamp.{Stamp}
use Rattle.hd_base.specs.declared.states.ReplicaState.TheVariants as state
use Rattle.replica_core.specs.declared.info.ReplicaInfo.{ReplicaInfo}
use Rattle.world.specs.ReplicaModel.Rows.{FullReplica, row}
use Rattle.world.specs.declared.events.Event.{Event}
use Rattle.world.specs.Parts.{Break, Joined, Answered}
use Rattle.world.specs.Worlds.{World, start}
use Rattle.world.specs.Events.{run}
use Rattle.world.specs.Safe.{Has, Steady}
use Rattle.world_laws.specs.Stamping.{Givens, none_given, given_in}

-- a setup of this stamp that a node accepted in a life
abbrev pub joined_as : ℕ → ℕ → ℕ → Joined
joined_as stamp node life = record { stamp = stamp; node = node; life = life }

-- there is a replica, with at least this stamp
pub record AtLeast (o : Option ReplicaInfo) (stamp : ℕ) : Type 0 where
  pub info : ReplicaInfo
  pub is : o ≡ Some info
  pub least : stamp ≤ info.stamp.0

-- A replica that isn't TEMPORARY, and that a recovery holds only under an id above its stamp.
pub record IsPlain (i : ReplicaInfo) : Type 0 where
  pub lasting : i.original ≡ state.Temporary → ⊥
  pub above : (id : Stamp) → i.recovery ≡ Some id → i.stamp.0 < id.0

-- the stamp doesn't fall, and a replica that is there stays
abbrev pub Rises : Option ReplicaInfo → Option ReplicaInfo → Type 0
Rises None p = Unit {0}
Rises (Some i) p = AtLeast p i.stamp.0

-- each setup of the block's that the node accepted is of a stamp that the replica has reached
pub record HasReached (g : Givens) (joined : List Joined) (n b : ℕ) (o : Option ReplicaInfo) : Type 0 where
  pub least : (s l e : ℕ) → Has joined (joined_as s n l) → g b s ≡ Some e → AtLeast o s

-- an RBW replica that isn't broken, of a node that runs, was set up under its stamp in this life
pub record IsSetUp (joined : List Joined) (life : ℕ) (runs : Bool) (n : ℕ) (r : FullReplica) : Type 0 where
  pub joins : runs ≡ true → r.known.is_broken ≡ false →
      IfSome r.known.info (λ i. i.original ≡ state.Rbw → Has joined (joined_as i.stamp.0 n life))

-- the same of the replica that broke, whose event doesn't let its stamp fall
pub record BreakReached (g : Givens) (joined : List Joined) (n b : ℕ) (r : FullReplica) (x : Break) : Type 0 where
  pub reached : HasReached g joined n b x.before.known.info
  pub plain : IfSome x.before.known.info IsPlain
  pub rises : Rises x.before.known.info (row x.before x.event).known.info
  pub broken : r.known.is_broken ≡ true

-- the stamp was given for some block
pub record IsGiven (g : Givens) (stamp : ℕ) : Type 0 where
  pub block : ℕ
  pub session : ℕ
  pub is : g block stamp ≡ Some session

-- the stamp of a length that was answered: of no block (0), or given for the answer's block
abbrev pub IsOfBlock : Givens → Answered → Type 0
IsOfBlock g a = (a.stamp ≡ 0) ⊎ ((s : ℕ) × (g a.block a.stamp ≡ Some s))

pub record SetUps (g : Givens) (w : World) : Type 0 where
  pub answers : (a : Answered) → Has w.answered a → IsOfBlock g a
  pub given : (s n l : ℕ) → Has w.joined (joined_as s n l) → IsGiven g s
  pub reached : (n b : ℕ) → HasReached g w.joined n b (w.replicas n b).known.info
  pub plain : (n b : ℕ) → IfSome (w.replicas n b).known.info IsPlain
  pub writes : (n b : ℕ) → IsSetUp w.joined (w.lives n) (w.running n) n (w.replicas n b)
  pub breaks : (n b : ℕ) → IfSome (w.breaks n b) (BreakReached g w.joined n b (w.replicas n b))

-- So it is after every list of events, of the stamps that are given in them.
abbrev pub AllSetUp : Type 0
AllSetUp = (nodes : ℕ) (events : List Event) →
    SetUps (given_in none_given (start nodes) events) (run (start nodes) events)

-- A node that is steady since the stamp of a length that was answered has a replica of at least that stamp.
abbrev pub AnsweredReach : World → Type 0
AnsweredReach w = (a : Answered) (n : ℕ) → Has w.answered a → Steady w a.block a.stamp n →
    AtLeast (w.replicas n a.block).known.info a.stamp
