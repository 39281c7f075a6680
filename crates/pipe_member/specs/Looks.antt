-- What a member found that looked for what stands next.
use Rattle.link_messages.specs.declared.incoming.Next.{Next}
use Rattle.link_messages.specs.declared.incoming.Next.TheVariants as came
use Rattle.pipe_member.specs.declared.stages.Looked.{Looked}
use Rattle.pipe_member.specs.declared.stages.Looked.TheVariants as looked

-- what was found where this came next
abbrev pub looked_of : {M : Type 0} → Next M → Looked
looked_of came.Failed = looked.Failed
looked_of came.Memory = looked.Memory
looked_of other = looked.Known
