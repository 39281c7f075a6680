-- A response that is spelled as it is written isn't too long to be sent.
use Rattle.std.proofs.Common.{◌≡◌, ◌≤◌, ℕ, true, List, [], ◌∷◌, ◌++◌, length, map, slice_get, refl, ap, ◌∙◌, arith}
use Rattle.std.specs.Prelude.{nat_le}
use Rattle.std.proofs.lemmas.Bool.Decides.{nat_tests}
use Rattle.proto_fields.specs.Frames.{limit}
use Rattle.ack_codec.specs.declared.responses.Response.{Response}
use Rattle.ack_codec.specs.Responses.{SaysResponse}
use Rattle.ack_codec.specs.ResponseTexts.{response_message, response_text}
use Rattle.visible_read.specs.PipeTurns.Acting.{sized_response}
use Rattle.member_events.specs.World.Parts.{Message, response}
use Rattle.member_events.specs.World.Worlds.{World, listed}
use Rattle.member_events.specs.WorldNets.Rows.{text_of}
use Rattle.member_events.specs.WorldTexts.Texts.{SpellsText}
use Rattle.member_events.specs.Texts.{SpellUp}
use Rattle.member_events.proofs.StepLaws.{spelled_within, fits_within, last_of}

response_within : (x : Response) → SpellsText (response x) → length (response_message x) ≤ limit
response_within x h = spelled_within (response_message x) (SaysResponse x) h (fits_within (response_message x) (SaysResponse x) h)

sized : (x : Response) → length (response_message x) ≤ limit → listed (sized_response x) ≡ response_text x ∷ []
sized x h = let test : nat_le (length (response_message x)) limit ≡ true = grind (arith, nat_tests) in rw test refl

-- What is answered is its text, where all that was sent up is spelled.
pub answer_text : (v : World) (c : ℕ) (before : List Message) (x : Response) → SpellUp v c → v.ups c ≡ before ++ response x ∷ [] → listed (sized_response x) ≡ map text_of (response x ∷ [])
answer_text v c before x spelled is =
    sized x (response_within x (spelled (length before) (response x) (ap (λ (ms : List Message). slice_get ms (length before)) is ∙ last_of before (response x))))
