-- A read, from its request to its result.
use Rattle.std.specs.Prelude.{◌≡◌, ◌⊎◌, ℕ, List, [], ◌∷◌, ◌++◌, option_map, Err}
use Rattle.hd_base.specs.declared.ends.Conn.{Conn}
use Rattle.hd_base.specs.declared.links.LinkIn as link_in
use Rattle.hd_base.specs.declared.links.LinkOut as link_out
use Rattle.op_headers.specs.declared.ops.Op.TheVariants as op_of
use Rattle.op_headers.specs.declared.ops.ReadOp.{ReadOp}
use Rattle.op_headers.specs.Requests.{op_text}
use Rattle.read_core.specs.declared.reading.FromNode.{FromNode}
use Rattle.read_core.specs.declared.reading.ReadTurn.TheVariants as turn
use Rattle.read_core.specs.Laws.{last_taken}
use Rattle.visible_read.specs.declared.talking.ReadFault.TheVariants as fault
use Rattle.visible_read.specs.declared.talking.ReadStep.{ReadStep}
use Rattle.visible_read.specs.declared.talking.ReadStep.TheVariants as step
use Rattle.visible_read.specs.declared.talking.Talk.{Talk}
use Rattle.visible_read.specs.Talking.{Begins, Steps, checksum_ok}

-- Between two steps: the read and its connection.
pub record Place (I O : Type 0) : Type 0 where
  pub talk : Talk
  pub end : Conn I O

-- A step leads from one place to another, and ends so.
abbrev pub Leads : {I O : Type 0} → link_in.Ghosts I → link_out.Ghosts O → Place I O → Place I O → ReadStep → Type 0
Leads i o a b result = Steps i o a.talk b.talk a.end b.end result

-- It didn't end the read.
abbrev pub LeadsOn : {I O : Type 0} → link_in.Ghosts I → link_out.Ghosts O → Place I O → Place I O → Type 0
LeadsOn i o a b = Leads i o a b step.Moved ⊎ Leads i o a b step.Waiting

-- Steps lead from one place over these to another.
abbrev pub Passes : {I O : Type 0} → link_in.Ghosts I → link_out.Ghosts O → Place I O → List (Place I O) → Place I O →
    Type 0
Passes i o a [] b = b ≡ a
Passes i o a (x ∷ xs) b = LeadsOn i o a x × Passes i o x xs b

-- Steps lead here.
pub record Comes {I O : Type 0} (i : link_in.Ghosts I) (o : link_out.Ghosts O) (a b : Place I O) : Type 0 where
  pub places : List (Place I O)
  pub passes : Passes i o a places b

-- The steps of a read, the last of which ended so.
pub record Reads {I O : Type 0} (i : link_in.Ghosts I) (o : link_out.Ghosts O) (op : ReadOp) (end end' : Conn I O)
    (last : ReadStep) : Type 0 where
  pub first : Talk
  pub begins : Begins op first
  pub before : Place I O
  pub over : Talk
  pub comes : Comes i o (record { talk = first; end = end }) before
  pub ends : Steps i o before.talk over before.end end' last

-- The same, or memory ran out before the first step.
abbrev pub ReadsBack : {I O : Type 0} → link_in.Ghosts I → link_out.Ghosts O → ReadOp → Conn I O → Conn I O → ReadStep →
    Type 0
ReadsBack i o op end end' last = Reads i o op end end' last ⊎ ((end' ≡ end) × (last ≡ step.Ended (Err fault.Memory)))

-- The last thing that was taken from the node completed the read: all bytes are there, each under its sum. Where what is sent is observable, the request was sent before, CHECKSUM_OK behind it, and nothing else.
pub record HasRead {O : Type 0} (o : link_out.Ghosts O) (op : ReadOp) (half half' : O) (bytes : List ℕ) : Type 0 where
  pub taken : List FromNode
  pub last : FromNode
  pub verified : (last_taken op taken last).does ≡ turn.Verified
  pub bytes_are : bytes ≡ (last_taken op taken last).reading.bytes
  pub sent : o.sent half' ≡ option_map (λ pieces. pieces ++ op_text (op_of.Read op) ∷ checksum_ok ∷ []) (o.sent half)
