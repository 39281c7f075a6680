-- How the first member is reached with the request.
use Rattle.std.specs.Prelude.{◌≡◌, ◌⊎◌, ℕ, ◌+◌, nat_le, if◌then◌else◌, true, false, List, Option, Some, None, IfSome, MatchOption, Result, Ok, Err}
use Rattle.hd_base.specs.Channels.{Plain}
use Rattle.hd_base.specs.Ends.{IsKnown}
use Rattle.hd_base.specs.declared.ends.Conn.{Conn}
use Rattle.hd_base.specs.declared.numbers.NodeId.{NodeId}
use Rattle.hd_base.specs.declared.links.LinkError.{LinkError}
use Rattle.hd_base.specs.declared.links.LinkIn as link_in
use Rattle.hd_base.specs.declared.links.LinkOut as link_out
use Rattle.hd_base.specs.declared.roads.Roads as roads
use Rattle.hd_base.specs.declared.roads.TheConstants.{FIRST_PORT}
use Rattle.link_pieces.specs.Pieces.{SendsNothing, IsSending}
use Rattle.link_pieces.specs.Roads.{KeepsRoads, KeepsInward, IsDialled, IsUnanswered}
use Rattle.op_headers.specs.declared.ops.Op.{Op}
use Rattle.op_headers.specs.Requests.{op_text, IsEncodable}
use Rattle.writer_core.specs.declared.actions.Action.{Action}
use Rattle.writer_core.specs.declared.actions.Action.TheVariants as action
use Rattle.writer_core.specs.declared.records.WriterRecord.{WriterRecord}
use Rattle.writer_core.specs.Transitions.{Step, dialled, ended}
use Rattle.pipe_recovery.specs.declared.acting.Acted.{Acted}
use Rattle.pipe_recovery.specs.declared.acting.Acted.TheVariants as acted
use Rattle.pipe_recovery.specs.declared.dialling.Opened.{Opened}
use Rattle.pipe_recovery.specs.declared.dialling.Opened.TheVariants as opened
use Rattle.pipe_recovery.specs.declared.links.Link.{Link}
use Rattle.pipe_recovery.specs.Hearing.{nothing_heard}

-- a node's port, none where its number is too great for one
abbrev pub dial_port : NodeId → Option ℕ
dial_port node = if nat_le (FIRST_PORT + node.0) 65535 then Some (FIRST_PORT + node.0) else None

-- The roads know the end of the writer's connection, where observable.
abbrev pub LinkIsKnown : {I O : Type 0} → Option Plain → Option (Link I O) → Type 0
LinkIsKnown plain link = IfSome link (λ l. IsKnown plain l.end.id.0)

-- A request as it is written, or it isn't one that may be written.
abbrev pub IsText : Op → Option (List ℕ) → Type 0
IsText op found = MatchOption found (IsEncodable op → ⊥) (λ text. text ≡ op_text op)

-- a writer whose dial was answered, after the request was sent, or the link failed
abbrev pub asked_after : WriterRecord → Result ℕ LinkError → WriterRecord
asked_after w (Ok n) = dialled w true
asked_after w (Err e) = ended (dialled w true)

-- The request is sent on the end of the dial, or the link fails.
pub record IsSent {I O : Type 0} (o : link_out.Ghosts O) (text : List ℕ) (w w' : WriterRecord) (old new : Conn I O)
    (result : Acted) : Type 0 where
  pub half : O
  pub room : SendsNothing o old.outward half
  pub sending : Result ℕ LinkError
  pub kept : KeepsInward old new
  pub sent : IsSending o text half new.outward sending
  pub writer : w' ≡ asked_after w sending
  pub is : result ≡ acted.Moved

-- There was no memory for it.
pub record IsKept {I O : Type 0} (o : link_out.Ghosts O) (w w' : WriterRecord) (old new : Conn I O) (result : Acted)
    : Type 0 where
  pub kept : KeepsInward old new
  pub quiet : SendsNothing o old.outward new.outward
  pub writer : w' ≡ w
  pub is : result ≡ acted.Memory

abbrev pub SendsTo : {I O : Type 0} → link_out.Ghosts O → List ℕ → WriterRecord → WriterRecord → Conn I O → Conn I O
    → Acted → Type 0
SendsTo o text w w' old new result = IsKept o w w' old new result ⊎ IsSent o text w w' old new result

-- It is sent on the end that there is.
pub record SendsOn {I O : Type 0} (o : link_out.Ghosts O) (text : List ℕ) (w w' : WriterRecord) (old new : Link I O)
    (result : Acted) : Type 0 where
  pub heard : new.heard ≡ old.heard
  pub asked : new.asked ≡ old.asked
  pub sends : SendsTo o text w w' old.end new.end result

abbrev pub Sends : {I O : Type 0} → link_out.Ghosts O → List ℕ → WriterRecord → WriterRecord → Option (Link I O)
    → Option (Link I O) → Acted → Type 0
Sends o text w w' None None result = (w' ≡ w) × (result ≡ acted.Idle)
Sends o text w w' (Some old) (Some new) result = SendsOn o text w w' old new result
Sends o text w w' old new result = ⊥

-- The dial was answered, because somebody listens there: its end is fresh, and nothing was heard on it.
pub record OpensNew {R I O : Type 0} (r : roads.Ghosts R I O) (i : link_in.Ghosts I) (o : link_out.Ghosts O)
    (port : ℕ) (link' : Option (Link I O)) (old new : R) : Type 0 where
  pub end : Conn I O
  pub listening : IfSome (r.plain old) (λ p. p.listening port ≡ true)
  pub dialled : IsDialled r i o port old new end
  pub is : link' ≡ Some (record { end = end; heard = nothing_heard; asked = false })

-- How a port is dialled where no end is kept.
abbrev pub OpensAs : {R I O : Type 0} → roads.Ghosts R I O → link_in.Ghosts I → link_out.Ghosts O → ℕ
    → Option (Link I O) → R → R → Opened → Type 0
OpensAs r i o port link' old new opened.Answered = OpensNew r i o port link' old new
OpensAs r i o port link' old new opened.Unanswered = (link' ≡ None) × IsUnanswered r port old new
OpensAs r i o port link' old new opened.Memory = (link' ≡ None) × KeepsRoads r old new

-- An end that is kept needs no dial.
abbrev pub Opens : {R I O : Type 0} → roads.Ghosts R I O → link_in.Ghosts I → link_out.Ghosts O → ℕ
    → Option (Link I O) → Option (Link I O) → R → R → Opened → Type 0
Opens r i o port (Some l) link' old new result = (link' ≡ Some l) × (new ≡ old) × (result ≡ opened.Answered)
Opens r i o port None link' old new result = OpensAs r i o port link' old new result

-- What follows the dial.
abbrev pub FollowsDial : {I O : Type 0} → link_out.Ghosts O → List ℕ → WriterRecord → WriterRecord → Option (Link I O)
    → Option (Link I O) → Opened → Acted → Type 0
FollowsDial o text w w' link link' opened.Answered result = Sends o text w w' link link' result
FollowsDial o text w w' link link' opened.Unanswered result = (w' ≡ dialled w false) × (link' ≡ link)
    × (result ≡ acted.Moved)
FollowsDial o text w w' link link' opened.Memory result = (w' ≡ w) × (link' ≡ link) × (result ≡ acted.Memory)

-- A port is dialled, and reached with the request.
pub record ReachesPort {R I O : Type 0} (r : roads.Ghosts R I O) (i : link_in.Ghosts I) (o : link_out.Ghosts O)
    (port : ℕ) (text : List ℕ) (w w' : WriterRecord) (link link' : Option (Link I O)) (old new : R) (result : Acted)
    : Type 0 where
  pub opened : Opened
  pub held : Option (Link I O)
  pub opens : Opens r i o port link held old new opened
  pub follows : FollowsDial o text w w' held link' opened result

-- Nothing was dialled or sent.
pub record Unreached {R I O : Type 0} (w w' : WriterRecord) (link link' : Option (Link I O)) (old new : R)
    (why result : Acted) : Type 0 where
  pub writer : w' ≡ w
  pub link_same : link' ≡ link
  pub roads_same : new ≡ old
  pub is : result ≡ why

-- The request isn't one that may be written, or the node has no port.
abbrev pub HasNoWay : NodeId → Op → Type 0
HasNoWay to op = (IsEncodable op → ⊥) ⊎ (dial_port to ≡ None)

-- A node that has a port is reached with the request as it is written.
pub record ReachesNode {R I O : Type 0} (r : roads.Ghosts R I O) (i : link_in.Ghosts I) (o : link_out.Ghosts O)
    (to : NodeId) (op : Op) (w w' : WriterRecord) (link link' : Option (Link I O)) (old new : R) (result : Acted)
    : Type 0 where
  pub port : ℕ
  pub is : dial_port to ≡ Some port
  pub reaches : ReachesPort r i o port (op_text op) w w' link link' old new result

-- How a node is reached: there is no memory, or no way to it, and so its dial isn't answered; or it is dialled.
pub data Reaches {R I O : Type 0} (r : roads.Ghosts R I O) (i : link_in.Ghosts I) (o : link_out.Ghosts O)
    (to : NodeId) (op : Op) (w w' : WriterRecord) (link link' : Option (Link I O)) (old new : R) (result : Acted)
    : Type 0 where
  no_memory : Unreached w w' link link' old new acted.Memory result
      → Reaches r i o to op w w' link link' old new result
  no_way : HasNoWay to op → Unreached (dialled w false) w' link link' old new acted.Moved result
      → Reaches r i o to op w w' link link' old new result
  dials : ReachesNode r i o to op w w' link link' old new result → Reaches r i o to op w w' link link' old new result

abbrev pub DialsBy : {R I O : Type 0} → roads.Ghosts R I O → link_in.Ghosts I → link_out.Ghosts O → Action
    → WriterRecord → WriterRecord → Option (Link I O) → Option (Link I O) → R → R → Acted → Type 0
DialsBy r i o (action.Dial to op) w w' link link' old new result = Reaches r i o to op w w' link link' old new result
DialsBy r i o action.Memory w w' link link' old new result = Unreached w w' link link' old new acted.Memory result
DialsBy r i o other w w' link link' old new result = Unreached w w' link link' old new acted.Idle result

-- The writer's own step dials, or memory was wanting for it.
abbrev pub Dials : {R I O : Type 0} → roads.Ghosts R I O → link_in.Ghosts I → link_out.Ghosts O → Step → WriterRecord
    → WriterRecord → Option (Link I O) → Option (Link I O) → R → R → Acted → Type 0
Dials r i o s w w' link link' old new result = Unreached w w' link link' old new acted.Memory result
    ⊎ DialsBy r i o s.action s.writer w' link link' old new result
