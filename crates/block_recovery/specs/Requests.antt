-- A request of a recovery, sent to members.
use Rattle.std.specs.Prelude.{◌≡◌, ◌⊎◌, ℕ, List, Option, MatchOption, Result, Ok, Err}
use Rattle.std.specs.declared.alloc.AllocError.{AllocError}
use Rattle.hd_base.specs.declared.numbers.NodeId.{NodeId}
use Rattle.hd_base.specs.declared.links.LinkOut as link_out
use Rattle.op_headers.specs.declared.ops.Op.{Op}
use Rattle.op_headers.specs.Requests.{op_text, IsEncodable}
use Rattle.block_recovery.specs.declared.links.Link.{Link}
use Rattle.block_recovery.specs.declared.links.Seat.{Seat}
use Rattle.block_recovery.specs.declared.links.Seat.TheVariants as seat
use Rattle.block_recovery.specs.Actions.{SendsAll}

-- A request as it is written, or it isn't one that may be written.
abbrev pub IsText : Op → Option (List ℕ) → Type 0
IsText op found = MatchOption found (IsEncodable op → ⊥) (λ text. text ≡ op_text op)

-- The request is sent to the chosen members; or it isn't one that may be written, or there was no memory to write it,
-- and nothing is sent.
abbrev pub SendsRequest : {I O : Type 0} → link_out.Ghosts O → Op → List NodeId → List NodeId
    → List (Seat I O) → List (Seat I O) → Result (Unit {0}) AllocError → Type 0
SendsRequest o op members chosen old new (Ok x) = SendsAll o (op_text op) members chosen old new (Ok x)
    ⊎ ((IsEncodable op → ⊥) × (new ≡ old))
SendsRequest o op members chosen old new (Err e) = SendsAll o (op_text op) members chosen old new (Err e) ⊎ (new ≡ old)
