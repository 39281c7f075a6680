-- What is claimed of the world after every list of events.
use Rattle.std.specs.Prelude.{ℕ, ◌≡◌, ◌≤◌, ◌<◌, true, false, List, length, take, slice_get, Some, None, IfSome}
use Rattle.member_core.specs.HdBase.NodeId.{NodeId}
use Rattle.member_core.specs.HdBase.ReplicaState.TheVariants as state
use Rattle.member_core.specs.ReplicaCore.ReplicaInfo.{ReplicaInfo}
use Rattle.member_core.specs.ReplicaCore.Info.{state_of, visible_of}
use Rattle.member_core.specs.ReplicaModel.Rows.{FullReplica}
use Rattle.member_core.specs.ReplicaModel.Found.{IsFront}
use Rattle.world.specs.Parts.{by_close, Answered, Updated}
use Rattle.world.specs.Worlds.{World}

-- it stands in the list
pub record Has {A : Type 0} (xs : List A) (x : A) : Type 0 where
  pub place : ℕ
  pub there : slice_get xs place ≡ Some x

-- the bytes that the writer of a stamp's session has written
abbrev pub written_under : World → ℕ → List ℕ
written_under w stamp = w.written (w.session_of stamp)

-- A node is steady since a stamp for a block: it runs, it accepted the setup of that stamp in this life, and its replica isn't broken.
pub record Steady (w : World) (block stamp node : ℕ) : Type 0 where
  pub runs : w.running node ≡ true
  pub joins : Has w.joined (record { stamp = stamp; node = node; life = w.lives node })
  pub sound : (w.replicas node block).known.is_broken ≡ false

-- PREFIX

-- Each replica of a running node holds a front of what the writer of its stamp's session has written.
abbrev pub Prefix : World → Type 0
Prefix w = (node block : ℕ) → w.running node ≡ true →
    IfSome (w.replicas node block).known.info (λ h. IsFront (w.replicas node block).bytes (written_under w h.stamp.0))

-- KEPT

-- The replica has at least this stamp, and at least so many bytes are visible.
pub record IsReached (stamp bytes : ℕ) (h : ReplicaInfo) : Type 0 where
  pub stamp_of : stamp ≤ h.stamp.0
  pub visible : IfSome (visible_of h) (λ n. bytes ≤ n)
  pub is_visible : visible_of h ≡ None → ⊥

-- What an answered length keeps at a node: the replica and its bytes, and the length of each later recovery that updated it in this life.
pub record KeptAt (w : World) (a : Answered) (node : ℕ) : Type 0 where
  pub reached : IfSome (w.replicas node a.block).known.info (IsReached a.stamp a.length)
  pub there : (w.replicas node a.block).known.info ≡ None → ⊥
  pub bytes : take a.length (w.replicas node a.block).bytes ≡ take a.length (written_under w a.stamp)
  pub enough : a.length ≤ length (w.replicas node a.block).bytes
  pub updates : (u : Updated) → Has w.updated u → u.node ≡ node → u.life ≡ w.lives node → u.block ≡ a.block →
      a.stamp < u.recovery →
      a.length ≤ u.length

-- Bytes for which an hflush, hsync or close was answered stay at each member that is steady since the stamp of the answer.
abbrev pub Kept : World → Type 0
Kept w = (a : Answered) (m : NodeId) → Has w.answered a → Has a.members m → Steady w a.block a.stamp m.0 →
    KeptAt w a m.0

-- AGREE

-- FINALIZED under a stamp
abbrev pub IsFinal : FullReplica → ℕ → Type 0
IsFinal r stamp = IfSome r.known.info (λ h. (state_of h ≡ state.Finalized) × (h.stamp.0 ≡ stamp))

-- there is a replica, and it is FINALIZED under a stamp
pub record Final (r : FullReplica) (stamp : ℕ) : Type 0 where
  pub there : r.known.info ≡ None → ⊥
  pub final : IsFinal r stamp

-- FINALIZED replicas of one block and one stamp have equal bytes, those of stopped nodes and broken ones too.
abbrev pub Agree : World → Type 0
Agree w = (node other block stamp : ℕ) → Final (w.replicas node block) stamp → Final (w.replicas other block) stamp →
    (w.replicas node block).bytes ≡ (w.replicas other block).bytes

-- CLOSED

-- the replica is FINALIZED under the stamp of an answer, with all that its writer has written, of the answered length
pub record ClosedAt (w : World) (a : Answered) (node : ℕ) : Type 0 where
  pub final : Final (w.replicas node a.block) a.stamp
  pub bytes : (w.replicas node a.block).bytes ≡ written_under w a.stamp
  pub length_of : length (written_under w a.stamp) ≡ a.length

-- an answer of a close
abbrev pub IsClose : Answered → Type 0
IsClose a = a.command ≡ by_close

-- Where the last event answered a close, each of its members that runs and isn't broken has closed.
abbrev pub Closed : World → Type 0
Closed w = (a : Answered) (m : NodeId) → w.last_answer ≡ Some a → IsClose a → Has a.members m → w.running m.0 ≡ true →
    (w.replicas m.0 a.block).known.is_broken ≡ false → ClosedAt w a m.0

-- SAFE

pub record Safe (w : World) : Type 0 where
  pub prefix : Prefix w
  pub kept : Kept w
  pub agree : Agree w
  pub closed : Closed w
