-- A member's answer to a request is never too long to be written.
use Rattle.std.specs.Prelude.{◌≡◌, ℕ, ◌≤◌, List, length, Some, Ok}
use Rattle.proto_fields.specs.Frames.{limit}
use Rattle.pipe_setup.specs.AckCodec.Response.{Response}
use Rattle.pipe_setup.specs.AckCodec.Responses.{SaysResponse}
use Rattle.pipe_setup.specs.AckCodec.ResponseTexts.{response_text}
use Rattle.op_headers.specs.Values.{WriteFields}
use Rattle.op_headers.specs.Formats.{write_format}
use Rattle.pipe_setup.specs.MemberCore.SetupAnswer.{SetupAnswer}
use Rattle.pipe_setup.specs.MemberCore.SetupAnswer.TheVariants as answer
use Rattle.pipe_setup.specs.MemberCore.Requests.{response_of}
use Rattle.pipe_turns.specs.Acting.{answer_text}

-- The answer goes up as the response that it is.
abbrev pub IsWritten : WriteFields → SetupAnswer → Type 0
IsWritten op a = answer_text op a ≡ Some (response_text (response_of op a))

-- A message within the limit says the request, as of each request that was read.
pub record IsRead (op : WriteFields) : Type 0 where
  pub message : List ℕ
  pub says : write_format.says message (Ok op)
  pub within : length message ≤ limit

-- A request that was read leaves room for its mirror's address.
abbrev pub UnreachedIsWritten : WriteFields → Type 0
UnreachedIsWritten op = IsRead op → IsWritten op answer.Unreached

-- What a mirror named goes on up: it came in a message within the limit.
abbrev pub BelowIsWritten : WriteFields → Type 0
BelowIsWritten op = (r : Response) (message : List ℕ) → SaysResponse r message → length message ≤ limit
    → IsWritten op (answer.Below r.first_bad)

-- how many bytes a number has at most, with a space and a sign
abbrev pub max_number : ℕ
max_number = 21

-- how many bytes the values of a refusal have at most: four numbers
abbrev pub max_values : ℕ
max_values = 84
