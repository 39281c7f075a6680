-- A step of the serving of a read.
use Rattle.std.specs.Prelude.{◌≡◌, Bool, true, false, Option, None}
use Rattle.hd_base.specs.declared.files.Files as files
use Rattle.hd_base.specs.declared.links.LinkOut as link_out
use Rattle.hd_base.specs.declared.numbers.Receipt.{Receipt}
use Rattle.op_headers.specs.declared.ops.ReadOp.{ReadOp}
use Rattle.pipe_turns.specs.ReplicaFiles.BookState.{BookState}
use Rattle.visible_read.specs.declared.answering.Course.{Course}
use Rattle.visible_read.specs.declared.answering.Course.TheVariants as course
use Rattle.frame_feed.specs.declared.notes.Message.{Message}
use Rattle.visible_read.specs.declared.answering.Served.{Served}
use Rattle.visible_read.specs.declared.answering.Took.{Took}
use Rattle.visible_read.specs.Answers.{Answers}
use Rattle.visible_read.specs.Packets.{SendsNext}

-- The request, how far the read is, and what the last step booked and sent.
pub record ServingRun : Type 0 where
  pub op : ReadOp
  pub course : Course
  pub receipt : Option Receipt
  pub reply : Option Message

-- a read that is to be answered
abbrev pub unanswered : ReadOp → ServingRun
unanswered op = record { op = op; course = course.Asked; receipt = None; reply = None }

abbrev pub is_over : Course → Bool
is_over course.Over = true
is_over other = false

-- what a step leaves
abbrev pub left : ServingRun → Took → ServingRun
left s took = record { op = s.op; course = took.course; receipt = took.receipt; reply = took.reply }

-- A step does this: it answers the request, or sends the next packet.
abbrev pub Does : {F O : Type 0} → files.Ghosts F → link_out.Ghosts O → Course → ReadOp → BookState F → BookState F →
    O → O → Took → Type 0
Does f o course.Asked op book book' out out' took = Answers f o op book book' out out' took
Does f o (course.Sending s) op book book' out out' took = SendsNext f o s book book' out out' took
Does f o course.Over op book book' out out' took = ⊥

-- A step of the serving of a read, and whether it ended it.
pub record Steps {F O : Type 0} (f : files.Ghosts F) (o : link_out.Ghosts O) (s s' : ServingRun)
    (book book' : BookState F) (out out' : O) (result : Option Served) : Type 0 where
  pub took : Took
  pub does : Does f o s.course s.op book book' out out' took
  pub leaves : s' ≡ left s took
  pub ends : result ≡ took.served
