-- The connection to a member: what is heard and sent on it.
use Rattle.std.specs.Prelude.{◌≡◌, ◌||◌, ℕ, Bool, true, false, List, Result, Ok, Err, is_err}
use Rattle.hd_base.specs.declared.links.LinkError.{LinkError}
use Rattle.hd_base.specs.declared.links.LinkIn as link_in
use Rattle.hd_base.specs.declared.links.LinkOut as link_out
use Rattle.frame_feed.specs.Kinds.{answers}
use Rattle.link_messages.specs.declared.incoming.Next.{Next}
use Rattle.link_messages.specs.Incomings.{NextEnds}
use Rattle.link_pieces.specs.Pieces.{SendsNothing, IsSending}
use Rattle.link_pieces.specs.Roads.{KeepsInward}
use Rattle.op_headers.specs.declared.answers.RecoveryAnswer.{RecoveryAnswer}
use Rattle.recovery_core.specs.declared.standings.Heard.TheVariants as heard
use Rattle.std.specs.declared.alloc.AllocError.{AllocError}
use Rattle.block_recovery.specs.declared.hearing.Looked.{Looked}
use Rattle.block_recovery.specs.declared.hearing.Looked.TheVariants as looked
use Rattle.block_recovery.specs.declared.links.Link.{Link}
use Rattle.block_recovery.specs.Hearing.{ends_with, looked_of}

-- All but the inward half, what came on it, and whether that is over, is as it was.
pub record KeepsOutward {I O : Type 0} (old new : Link I O) : Type 0 where
  pub id : new.end.id ≡ old.end.id
  pub lower : new.end.lower ≡ old.end.lower
  pub outward : new.end.outward ≡ old.end.outward
  pub asked : new.asked ≡ old.asked
  pub failed : new.failed ≡ old.failed

-- What comes next of the link is heard.
pub record Receives {I O : Type 0} (i : link_in.Ghosts I) (old new : Link I O) (found : Looked) : Type 0 where
  pub came : Next RecoveryAnswer
  pub comes : NextEnds answers i old.incoming new.incoming old.end.inward new.end.inward came
  pub over : new.over ≡ ends_with came
  pub is : found ≡ looked_of came
  pub kept : KeepsOutward old new

-- Where the link failed its end is heard once, and behind an end nothing.
abbrev pub LooksAs : {I O : Type 0} → link_in.Ghosts I → Bool → Bool → Link I O → Link I O → Looked → Type 0
LooksAs i true failed old new found = (new ≡ old) × (found ≡ looked.Nothing)
LooksAs i false true old new found = (new ≡ record old { over = true }) × (found ≡ looked.Heard heard.End)
LooksAs i false false old new found = Receives i old new found

abbrev pub LooksAt : {I O : Type 0} → link_in.Ghosts I → Link I O → Link I O → Looked → Type 0
LooksAt i old new found = LooksAs i old.over old.failed old new found

-- All but the outward half, and whether it failed, is as it was.
pub record KeepsHeard {I O : Type 0} (old new : Link I O) : Type 0 where
  pub inward : KeepsInward old.end new.end
  pub incoming : new.incoming ≡ old.incoming
  pub asked : new.asked ≡ old.asked
  pub over : new.over ≡ old.over

-- This text is sent, or the link fails.
pub record IsSent {I O : Type 0} (o : link_out.Ghosts O) (text : List ℕ) (old new : Link I O) : Type 0 where
  pub half : O
  pub sending : Result ℕ LinkError
  pub kept : KeepsHeard old new
  pub room : SendsNothing o old.end.outward half
  pub sent : IsSending o text half new.end.outward sending
  pub failed : new.failed ≡ (is_err sending || old.failed)

-- There was no memory for it.
pub record IsUnsent {I O : Type 0} (o : link_out.Ghosts O) (old new : Link I O) : Type 0 where
  pub kept : KeepsHeard old new
  pub failed : new.failed ≡ old.failed
  pub quiet : SendsNothing o old.end.outward new.end.outward

abbrev pub SendsOn : {I O : Type 0} → link_out.Ghosts O → List ℕ → Link I O → Link I O → Result (Unit {0}) AllocError
    → Type 0
SendsOn o text old new (Ok _) = IsSent o text old new
SendsOn o text old new (Err _) = IsUnsent o old new
