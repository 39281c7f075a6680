-- What a writer hears on its connection.
use Rattle.std.specs.Prelude.{◌≡◌}
use Rattle.hd_base.specs.declared.links.LinkIn as link_in
use Rattle.ack_codec.specs.declared.acks.Ack.{Ack}
use Rattle.pipe_recovery.specs.FrameFeed.Kinds.{acks}
use Rattle.pipe_recovery.specs.LinkMessages.Next.{Next}
use Rattle.pipe_recovery.specs.LinkMessages.Next.TheVariants as came
use Rattle.pipe_recovery.specs.LinkMessages.Incomings.{IncomingState, NextEnds}
use Rattle.member_events.specs.PipeMember.Looked.{Looked}
use Rattle.member_events.specs.PipeMember.Looks.{looked_of}
use Rattle.writer_core.specs.declared.records.WriterRecord.{WriterRecord}
use Rattle.writer_core.specs.Transitions.{acked, ended}

-- a writer that is told what came: an ack, or an end
abbrev pub told_of : WriterRecord → Next Ack → WriterRecord
told_of x (came.Message ack) = acked x ack
told_of x came.Unreadable = ended x
told_of x came.End = ended x
told_of x other = x

-- The writer is told what comes next on the inward half of its end.
pub record Hears {I : Type 0} (i : link_in.Ghosts I) (x x' : WriterRecord) (old new : IncomingState) (half half' : I)
    (found : Looked) : Type 0 where
  pub came : Next Ack
  pub comes : NextEnds acks i old new half half' came
  pub writer : x' ≡ told_of x came
  pub is : found ≡ looked_of came
