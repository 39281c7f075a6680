-- What comes on the writer's connection while it waits for the answer to its request.
use Rattle.std.specs.Prelude.{◌≡◌, Option, Some, None}
use Rattle.hd_base.specs.declared.links.LinkIn as link_in
use Rattle.member_core.specs.AckCodec.Response.{Response}
use Rattle.frame_feed.specs.Kinds.{responses}
use Rattle.link_messages.specs.declared.incoming.Next.{Next}
use Rattle.link_messages.specs.declared.incoming.Next.TheVariants as came
use Rattle.link_messages.specs.Incomings.{IncomingState, nothing_received, NextEnds}
use Rattle.writer_core.specs.declared.records.WriterRecord.{WriterRecord}
use Rattle.writer_core.specs.Transitions.{setup_answered, ended}
use Rattle.pipe_recovery.specs.declared.hearing.Answer.{Answer}
use Rattle.pipe_recovery.specs.declared.hearing.Answer.TheVariants as answer
use Rattle.pipe_recovery.specs.declared.hearing.Looked.{Looked}
use Rattle.pipe_recovery.specs.declared.hearing.Looked.TheVariants as looked
use Rattle.pipe_recovery.specs.Naming.{named_member}

-- What was received and not yet taken, and what stands next in front of it, once that was looked at.
pub record HeardState : Type 0 where
  pub received : IncomingState
  pub next : Option Answer

abbrev pub nothing_heard : HeardState
nothing_heard = record { received = nothing_received; next = None }

-- what stands next where this came
abbrev pub answer_of : Next Response → Option Answer
answer_of (came.Message r) = Some (answer.Given r)
answer_of came.Unreadable = Some answer.Ended
answer_of came.End = Some answer.Ended
answer_of came.Failed = Some answer.Ended
answer_of came.NotYet = None
answer_of came.Memory = None

-- what was found where this came
abbrev pub looked_of : Next Response → Looked
looked_of came.Memory = looked.Memory
looked_of other = looked.Known

-- What comes next of the link is what stands next then.
pub record Receives {I : Type 0} (i : link_in.Ghosts I) (old new : HeardState) (half half' : I) (found : Looked)
    : Type 0 where
  pub came : Next Response
  pub comes : NextEnds responses i old.received new.received half half' came
  pub stands : new.next ≡ answer_of came
  pub is : found ≡ looked_of came

-- Nothing is received where it is known what stands next.
abbrev pub Looks : {I : Type 0} → link_in.Ghosts I → Option Answer → HeardState → HeardState → I → I → Looked → Type 0
Looks i None old new half half' found = Receives i old new half half' found
Looks i (Some x) old new half half' found = (new ≡ old) × (half' ≡ half) × (found ≡ looked.Known)

-- a writer after it took this
abbrev pub told : WriterRecord → Answer → WriterRecord
told w (answer.Given r) = setup_answered w r (named_member w.members r.first_bad)
told w answer.Ended = ended w
