-- A turn of a running member is the step of its rules over its replica.
use Rattle.std.specs.Prelude.{◌≡◌, ◌≢◌, ◌⊎◌, Bool, true, if◌then◌else◌, List, ℕ, Option, Some, None, IsSome}
use Rattle.hd_base.specs.Faults.{FaultsIncreased}
use Rattle.hd_base.specs.Links.{Sends}
use Rattle.hd_base.specs.declared.ends.Conn.{Conn}
use Rattle.hd_base.specs.declared.files.Files as files
use Rattle.hd_base.specs.declared.links.LinkOut as link_out
use Rattle.packet_codec.specs.Packets.{packet_text}
use Rattle.pipe_setup.specs.ReplicaModel.ReplicaEvent.{ReplicaEvent}
use Rattle.pipe_setup.specs.ReplicaModel.ReplicaEvent.TheVariants as replica_event
use Rattle.pipe_setup.specs.ReplicaModel.Rows.{FullReplica}
use Rattle.pipe_setup.specs.ReplicaFiles.BookState.{BookState}
use Rattle.pipe_setup.specs.ReplicaFiles.Books.{replica_of}
use Rattle.pipe_turns.specs.PacketResponder.Sendings.{IsAnswering}
use Rattle.pipe_setup.specs.MemberCore.Effect.{Effect}
use Rattle.pipe_setup.specs.MemberCore.Turn.{Turn}
use Rattle.pipe_setup.specs.MemberCore.Members.{MemberState}
use Rattle.pipe_setup.specs.MemberCore.Steps.{Step, step, faulted_step}
use Rattle.pipe_turns.specs.Acting.{texts_of}
use Rattle.pipe_member.specs.declared.member.Member.{Member}
use Rattle.pipe_member.specs.declared.stages.Took.{Took}
use Rattle.pipe_member.specs.declared.stepped.Stepped.{Stepped}
use Rattle.pipe_member.specs.declared.stepped.Stepped.TheVariants as stepped
use Rattle.pipe_member.specs.Steps.{stage_after}
use Rattle.pipe_member.specs.Turns.{Turns}

-- Where observable, this stands behind all that were sent, or nothing more does.
abbrev pub HasSent : Option (List (List ℕ)) → Option (List (List ℕ)) → Option (List ℕ) → Type 0
HasSent old new None = new ≡ old
HasSent old new (Some text) = Sends old new text

-- It was sent on the half, or the link failed and its count rose.
abbrev pub Tells : {O : Type 0} → link_out.Ghosts O → Option (List ℕ) → O → O → Type 0
Tells o text old new = HasSent (o.sent old) (o.sent new) text ⊎ FaultsIncreased (o.faults old) (o.faults new)

-- The same on the end to the mirror, where the member holds one.
abbrev pub TellsMirror : {I O : Type 0} → link_out.Ghosts O → Option (List ℕ) → Option (Conn I O) → Option (Conn I O) →
    Type 0
TellsMirror o text None None = Unit {0}
TellsMirror o text (Some old) (Some new) = Tells o text old.outward new.outward
TellsMirror o text old new = ⊥

-- the packet of the call as it is written, where it goes on
abbrev pub passed_text : Option ReplicaEvent → Bool → Option (List ℕ)
passed_text (Some (replica_event.Packet conn p)) forwards = if forwards then Some (packet_text p) else None
passed_text other forwards = None

-- A turn that a member's rules make, of one that holds this end to its mirror, or none: of a packet nothing goes up, and it is sent on where there is an end.
abbrev pub IsOfRules : {I O : Type 0} → Option ReplicaEvent → Effect → Option (Conn I O) → Type 0
IsOfRules None e mirror = Unit {0}
IsOfRules (Some (replica_event.Packet conn p)) e mirror = (e.sends ≡ None) × (IsSome mirror → e.forwards ≡ true)
IsOfRules (Some (replica_event.Other x)) e mirror = IsAnswering x

-- The member is where the step leads, so is the replica, and the step's effect was sent: its message up, and the packet to the mirror.
pub record IsStep {F I O : Type 0} (o : link_out.Ghosts O) (t : Turn) (s : Step) (old new : Member I O)
    (book book' : BookState F) : Type 0 where
  pub member : new.stage ≡ stage_after s.member s.effect.shuts
  pub replica : replica_of book' ≡ s.replica
  pub told : Tells o (texts_of old.op s.effect.sends) old.upstream.outward new.upstream.outward
  pub passed : TellsMirror o (passed_text t.call s.effect.forwards) old.mirror new.mirror

-- the step of a turn over a replica, by how it ended
abbrev pub step_by : Stepped → MemberState → FullReplica → Turn → Step
step_by (stepped.File receipt) m r t = faulted_step m r t
step_by other m r t = step m r t

-- Each turn that found memory is its step.
abbrev pub TurnsAreSteps : (F I O : Type 0) → files.Ghosts F → link_out.Ghosts O → Type 0
TurnsAreSteps F I O f o = (m : MemberState) (t : Turn) (took : Took) (old new : Member I O) (book book' : BookState F)
    (result : Stepped)
    → IsOfRules t.call t.effect old.mirror → result ≢ stepped.Memory
    → Turns f o m t took old new book book' result →
    IsStep o t (step_by result m (replica_of book) t) old new book book'
