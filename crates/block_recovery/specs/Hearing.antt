-- What comes on the connection to a member.
use Rattle.std.specs.Prelude.{Bool, true, false}
use Rattle.op_headers.specs.declared.answers.RecoveryAnswer.{RecoveryAnswer}
use Rattle.link_messages.specs.declared.incoming.Next.{Next}
use Rattle.link_messages.specs.declared.incoming.Next.TheVariants as came
use Rattle.recovery_core.specs.declared.standings.Heard.TheVariants as heard
use Rattle.block_recovery.specs.declared.hearing.Looked.{Looked}
use Rattle.block_recovery.specs.declared.hearing.Looked.TheVariants as looked

-- nothing more is heard after this
abbrev pub ends_with : Next RecoveryAnswer → Bool
ends_with came.Unreadable = true
ends_with came.End = true
ends_with came.Failed = true
ends_with other = false

-- what was found where this came
abbrev pub looked_of : Next RecoveryAnswer → Looked
looked_of (came.Message a) = looked.Heard (heard.Answer a)
looked_of came.Unreadable = looked.Heard heard.Unreadable
looked_of came.End = looked.Heard heard.End
looked_of came.Failed = looked.Heard heard.End
looked_of came.NotYet = looked.Nothing
looked_of came.Memory = looked.Memory
