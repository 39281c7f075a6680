-- An answer to a request tells of no sums.
use Rattle.std.proofs.Common.{refl}
use Rattle.block_receiver.specs.OpHeaders.Values.{WriteFields}
use Rattle.block_receiver.specs.MemberCore.SetupAnswer.{SetupAnswer}
use Rattle.block_receiver.specs.MemberCore.SetupAnswer.TheVariants as answer
use Rattle.block_receiver.specs.MemberCore.Requests.{response_of}
use Rattle.pipe_turns.specs.Acting.{IsPlain}

pub plain_response : (op : WriteFields) (a : SetupAnswer) → IsPlain (response_of op a)
unfolding response_of
plain_response op answer.Success = record { listed = tt; no_sums = refl }
plain_response op answer.Unreached = record { listed = tt; no_sums = refl }
plain_response op (answer.Below first_bad) = record { listed = tt; no_sums = refl }
plain_response op (answer.Refused r) = record { listed = tt; no_sums = refl }
