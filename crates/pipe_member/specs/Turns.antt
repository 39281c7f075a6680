-- A turn of a member that owns its connections, and what follows it.
use Rattle.std.specs.Prelude.{◌≡◌, Option, None}
use Rattle.hd_base.specs.declared.ends.Conn.{Conn}
use Rattle.hd_base.specs.declared.numbers.NodeId.{NodeId}
use Rattle.hd_base.specs.declared.files.Files as files
use Rattle.hd_base.specs.declared.links.LinkOut as link_out
use Rattle.op_headers.specs.Values.{WriteFields}
use Rattle.pipe_setup.specs.ReplicaFiles.BookState.{BookState}
use Rattle.pipe_setup.specs.MemberCore.Shuts.{Shuts}
use Rattle.pipe_setup.specs.MemberCore.Turn.{Turn}
use Rattle.pipe_setup.specs.MemberCore.Members.{MemberState}
use Rattle.pipe_turns.specs.declared.turning.Done.{Done}
use Rattle.pipe_turns.specs.Acting.{Acts, ShutsEnd, ShutsMirror}
use Rattle.pipe_member.specs.declared.member.Member.{Member}
use Rattle.pipe_member.specs.declared.stages.Stage.{Stage}
use Rattle.pipe_member.specs.declared.stages.Stage.TheVariants as stage
use Rattle.pipe_member.specs.declared.stages.Took.{Took}
use Rattle.pipe_member.specs.declared.stepped.Stepped.{Stepped}
use Rattle.pipe_member.specs.Above.{nothing_above, above_after}
use Rattle.pipe_member.specs.Below.{nothing_below, below_after}
use Rattle.pipe_member.specs.Steps.{stepped_of, stage_after, loses_upstream, loses_mirror}

-- A member that isn't set up, to which nothing came on this connection behind its request.
pub record IsNew {I O : Type 0} (node : NodeId) (conn : Conn I O) (op : WriteFields) (m : Member I O) : Type 0 where
  pub node_is : m.node ≡ node
  pub op_is : m.op ≡ op
  pub upstream : m.upstream ≡ conn
  pub mirror : m.mirror ≡ None
  pub above : m.above ≡ nothing_above
  pub below : m.below ≡ nothing_below
  pub stage : m.stage ≡ stage.New

-- Of one member, at the same node, by the same request.
pub record IsSameMember {I O : Type 0} (old new : Member I O) : Type 0 where
  pub node : new.node ≡ old.node
  pub op : new.op ≡ old.op

-- What follows a turn after which the two ends stand so, and the member is here: what was taken is gone, and a link that failed is shut and its end stands next.
pub record Follows {I O : Type 0} (o : link_out.Ghosts O) (st : Stage) (t : Took) (d : Done) (s : Shuts)
    (upstream : Conn I O) (mirror : Option (Conn I O)) (old new : Member I O) (result : Stepped) : Type 0 where
  pub same : IsSameMember old new
  pub stage : new.stage ≡ st
  pub above : new.above ≡ above_after t d old.above
  pub below : new.below ≡ below_after t d old.below
  pub upper : ShutsEnd o (loses_upstream d) upstream new.upstream
  pub lower : ShutsMirror o (loses_mirror d) mirror new.mirror
  pub answer : result ≡ stepped_of d s

-- A turn of a member with these rules, who takes something in it or not: it is done over the book and the two ends, and what follows it.
pub record Turns {F I O : Type 0} (f : files.Ghosts F) (o : link_out.Ghosts O) (m : MemberState) (t : Turn)
    (took : Took) (old new : Member I O) (book book' : BookState F) (result : Stepped) : Type 0 where
  pub settled : MemberState
  pub upstream : Conn I O
  pub mirror : Option (Conn I O)
  pub done : Done
  pub shuts : Shuts
  pub acts : Acts f o old.op t m settled book book' old.upstream upstream old.mirror mirror (done, shuts)
  pub follows : Follows o (stage_after settled shuts) took done shuts upstream mirror old new result
