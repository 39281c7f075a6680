-- The request that goes on to the mirror, and its port.
use Rattle.std.specs.Prelude.{ℕ, nat_le, if◌then◌else◌, List, [], ◌∷◌, length, Option, Some, None}
use Rattle.hd_base.specs.declared.numbers.NodeId.{NodeId}
use Rattle.proto_fields.specs.Frames.{limit}
use Rattle.op_headers.specs.declared.nodes.NodeRef.{NodeRef}
use Rattle.op_headers.specs.declared.ops.Op.{Op}
use Rattle.op_headers.specs.declared.ops.Op.TheVariants as op
use Rattle.op_headers.specs.Values.{WriteFields}
use Rattle.op_headers.specs.Requests.{op_message, op_text}
use Rattle.node_refs.specs.NodeRefs.{ref_of}
use Rattle.member_core.specs.Requests.{mirror_request}

abbrev pub IsWrite : Op → Type 0
IsWrite (op.Write w) = Unit {0}
IsWrite other = ⊥

-- a request as it is written, where its message is within the limit
abbrev pub sized_text : Op → Option (List ℕ)
sized_text request = if nat_le (length (op_message request)) limit then Some (op_text request) else None

abbrev pub written : Option WriteFields → Option (List ℕ)
written None = None
written (Some request) = sized_text (op.Write request)

-- The request that goes on to the mirror, as it is written, where its port is one and it isn't too long.
unfoldable pub request_text : NodeId → WriteFields → Option (List ℕ)
request_text node w = written (mirror_request (ref_of node) w)

-- the port of the first target
abbrev pub first_port : List NodeRef → ℕ
first_port [] = 0
first_port (mirror ∷ rest) = mirror.xfer
