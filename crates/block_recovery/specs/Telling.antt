-- How a step of a block recovery is answered on its connection at a member.
use Rattle.std.specs.Prelude.{◌≡◌, ◌⊎◌, ℕ, List, length, Option, Some, None, IsSome, MatchOption}
use Rattle.hd_base.specs.declared.links.LinkOut as link_out
use Rattle.link_pieces.specs.Pieces.{SendsNothing, SendsPiece, FailsToSend}
use Rattle.op_headers.specs.declared.answers.RecoveryAnswer.{RecoveryAnswer}
use Rattle.op_headers.specs.Answers.{answer_text, IsEncodable}
use Rattle.block_recovery.specs.declared.serving.RecoveryServed.{RecoveryServed}
use Rattle.block_recovery.specs.declared.serving.RecoveryServed.TheVariants as served
use Rattle.block_recovery.specs.declared.telling.RecoveryTold.{RecoveryTold}
use Rattle.block_recovery.specs.declared.telling.RecoveryTold.TheVariants as told
use Rattle.block_recovery.specs.Taking.{ShutsHalf}

-- An answer as it is written, or it isn't one that may be written.
abbrev pub IsAnswerText : RecoveryAnswer → Option (List ℕ) → Type 0
IsAnswerText answer found = MatchOption found (IsEncodable answer → ⊥) (λ text. text ≡ answer_text answer)

-- how long a text is, if there is one
abbrev pub text_len : Option (List ℕ) → ℕ
text_len None = 0
text_len (Some text) = length text

-- how a step was served that is told of so
abbrev pub served_in : RecoveryTold → RecoveryServed
served_in (told.Sent s) = s
served_in (told.LinkFailed s) = s
served_in told.Memory = served.Memory

-- the answer to a step that was served so
abbrev pub answer_in : RecoveryServed → Option RecoveryAnswer
answer_in (served.Answered answer receipt) = Some answer
answer_in (served.File answer receipt) = Some answer
answer_in (served.Unbooked answer) = Some answer
answer_in served.Memory = None

-- The link failed, and is shut.
pub record LosesLink {O : Type 0} (o : link_out.Ghosts O) (old new : O) : Type 0 where
  pub half : O
  pub fails : FailsToSend o old half
  pub shuts : ShutsHalf o half new

-- The answer is sent as it is written; one that may not be written isn't sent.
abbrev pub SendsAnswer : {O : Type 0} → link_out.Ghosts O → Option RecoveryAnswer → O → O → Type 0
SendsAnswer o None old new = ⊥
SendsAnswer o (Some answer) old new = SendsPiece o (answer_text answer) old new
    ⊎ ((IsEncodable answer → ⊥) × SendsNothing o old new)

-- How the answer is told.
abbrev pub Tells : {O : Type 0} → link_out.Ghosts O → RecoveryTold → O → O → Type 0
Tells o (told.Sent s) old new = SendsAnswer o (answer_in s) old new
Tells o (told.LinkFailed s) old new = IsSome (answer_in s) × LosesLink o old new
Tells o told.Memory old new = SendsNothing o old new
