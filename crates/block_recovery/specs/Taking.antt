-- What comes next at a member on a connection of a block recovery.
use Rattle.std.specs.Prelude.{◌≡◌, ◌≤◌, Bool, true, false}
use Rattle.hd_base.specs.Faults.{KeepsSchedule}
use Rattle.hd_base.specs.declared.ends.Conn.{Conn}
use Rattle.hd_base.specs.declared.links.LinkIn as link_in
use Rattle.hd_base.specs.declared.links.LinkOut as link_out
use Rattle.frame_feed.specs.Kinds.{requests}
use Rattle.link_messages.specs.Incomings.{IncomingState, NextEnds}
use Rattle.link_messages.specs.declared.incoming.Next.{Next}
use Rattle.link_messages.specs.declared.incoming.Next.TheVariants as next
use Rattle.op_headers.specs.declared.ops.Op.{Op}
use Rattle.op_headers.specs.declared.ops.Op.TheVariants as op
use Rattle.block_recovery.specs.declared.taking.RecoveryCame.{RecoveryCame}
use Rattle.block_recovery.specs.declared.taking.RecoveryCame.TheVariants as came

-- A half is shut, and what was sent stays.
pub record ShutsHalf {O : Type 0} (o : link_out.Ghosts O) (old new : O) : Type 0 where
  pub is_shut : o.shut new ≡ true
  pub sent : o.sent new ≡ o.sent old
  pub flushed : o.flushed new ≡ o.flushed old
  pub lost : o.lost new ≡ o.lost old
  pub never_falls : o.faults old ≤ o.faults new
  pub schedule : KeepsSchedule (o.schedule old) (o.schedule new) (o.faults old) (o.faults new)

abbrev pub ShutsIf : {O : Type 0} → link_out.Ghosts O → Bool → O → O → Type 0
ShutsIf o true old new = ShutsHalf o old new
ShutsIf o false old new = new ≡ old

-- what comes next, by what the link gave: what is no request of a recovery ends the connection
abbrev pub came_of : Next Op → RecoveryCame
came_of (next.Message (op.Recovery r)) = came.Asked r
came_of (next.Message other) = came.Over
came_of next.Unreadable = came.Over
came_of next.End = came.Over
came_of next.NotYet = came.NotYet
came_of next.Failed = came.LinkFailed
came_of next.Memory = came.Memory

-- the connection is shut
abbrev pub is_over : RecoveryCame → Bool
is_over came.Over = true
is_over came.LinkFailed = true
is_over other = false

-- What comes next on the connection is taken, and the connection is shut where that ends it.
pub record TakesRequest {I O : Type 0} (i : link_in.Ghosts I) (o : link_out.Ghosts O)
    (incoming incoming' : IncomingState) (end end' : Conn I O) (result : RecoveryCame) : Type 0 where
  pub next : Next Op
  pub comes : NextEnds requests i incoming incoming' end.inward end'.inward next
  pub is : result ≡ came_of next
  pub shuts : ShutsIf o (is_over result) end.outward end'.outward
  pub same : (end'.id ≡ end.id) × (end'.lower ≡ end.lower)
