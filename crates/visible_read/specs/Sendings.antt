-- What is sent of a read, for which there is room before it is booked.
use Rattle.std.specs.Prelude.{ℕ, ◌<◌, List, length, Option, Some, None, IfSome}
use Rattle.hd_base.specs.declared.links.LinkOut as link_out
use Rattle.link_pieces.specs.Pieces.{SendsNothing, SendsPiece, FailsToSend}
use Rattle.visible_read.specs.declared.sending.Sending.{Sending}
use Rattle.visible_read.specs.declared.sending.Sending.TheVariants as sending

-- there is room for a message, if there is one
abbrev pub HasRoom : Option (List ℕ) → ℕ → Type 0
HasRoom text room = IfSome text (λ t. length t < room)

-- A message is sent as one piece; one that is too long isn't sent.
abbrev pub SendsText : {O : Type 0} → link_out.Ghosts O → Option (List ℕ) → Sending → O → O → Type 0
SendsText o (Some text) sending.Sent old new = SendsPiece o text old new
SendsText o (Some text) sending.LinkFailed old new = FailsToSend o old new
SendsText o None sending.Sent old new = SendsNothing o old new
SendsText o None sending.LinkFailed old new = ⊥
