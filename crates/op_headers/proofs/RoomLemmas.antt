-- How many bytes the messages of requests have at most, by their texts.
use Rattle.std.proofs.Common.{ℕ, ◌+◌, ◌≤◌, List, [], ◌∷◌, ◌++◌, length, Option, Some, None, arith, length-append}
use Rattle.std.specs.List.{flat_map}
use Rattle.proto_fields.specs.Writing.{varint_field, bytes_field}
use Rattle.proto_fields.specs.Frames.{limit}
use Rattle.proto_fields.proofs.WrittenLemmas.{varint_field_within, bytes_field_within}
use Rattle.op_headers.specs.declared.blocks.BlockRef.{BlockRef}
use Rattle.op_headers.specs.declared.nodes.NodeRef.{NodeRef}
use Rattle.op_headers.specs.declared.ops.Op.{Op}
use Rattle.op_headers.specs.declared.ops.Op.TheVariants as op
use Rattle.op_headers.specs.declared.ops.RecoveryKind.{RecoveryKind}
use Rattle.op_headers.specs.declared.ops.RecoveryKind.TheVariants as kind
use Rattle.op_headers.specs.Values.{ChecksumFields}
use Rattle.op_headers.specs.Recoveries.{kind_number}
use Rattle.op_headers.specs.Tables.{if_there, message_field}
use Rattle.op_headers.specs.Formats.{block_format, identity_format, node_format, base_format, client_format, checksum_format, write_format, read_format, transfer_format, checksum_op_format, recovery_format, length_to_encode}
use Rattle.op_headers.specs.Requests.{op_message}
use Rattle.op_headers.specs.Room.{node_room, nodes_room, source_room, op_room}
use Rattle.op_headers.specs.declared.answers.RecoveryAnswer.{RecoveryAnswer}
use Rattle.op_headers.specs.Answers.{message_to_encode, state_to_encode, stamp_to_encode, answer_length_to_encode, answer_format}
use Rattle.hd_base.specs.Wire.{status_number}

-- the length of texts one behind the other
two : (a b : List ℕ) (n m : ℕ) → length a ≤ n → length b ≤ m → length (a ++ b) ≤ n + m
two a b n m p q = omega (arith, length-append a b, p, q)

none : length (let e : List ℕ = [] in e) ≤ 0
none = omega arith

block_few : (b : BlockRef) → length (block_format.text b) ≤ 20 + length b.pool + (20 + (20 + (20 + 0)))
unfolding block_format
block_few b =
    two _ _ _ _ (bytes_field_within 1 b.pool) (two _ _ _ _ (varint_field_within 2 b.block.0) (two _ _ _ _ (varint_field_within 3 b.stamp.0) (two _ _ _ _ (varint_field_within 4 b.bytes) none)))

identity_few : (n : NodeRef) → length (identity_format.text (record { node = n })) ≤ 20 + length n.ip + (20 + length n.host + (20 + length n.uuid + (20 + (20 + (20 + 0)))))
unfolding identity_format
identity_few n =
    two _ _ _ _ (bytes_field_within 1 n.ip) (two _ _ _ _ (bytes_field_within 2 n.host) (two _ _ _ _ (bytes_field_within 3 n.uuid)
    (two _ _ _ _ (varint_field_within 4 n.xfer) (two _ _ _ _ (varint_field_within 5 n.info) (two _ _ _ _ (varint_field_within 6 n.ipc) none)))))

inner_few : (n : NodeRef) → length (node_format.text n) ≤ 20 + length (identity_format.text (record { node = n })) + 0
unfolding node_format message_field
inner_few n = two _ _ _ _ (bytes_field_within 1 (identity_format.text (record { node = n }))) none

node_few : (number : ℕ) (n : NodeRef) → length (message_field number node_format n) ≤ node_room n
unfolding message_field
node_few number n = omega (arith, identity_few n, inner_few n, bytes_field_within number (node_format.text n))

nodes_few : (number : ℕ) (ns : List NodeRef) → length (flat_map (message_field number node_format) ns) ≤ nodes_room ns
nodes_few number [] = omega arith
nodes_few number (n ∷ ns) = two _ _ _ _ (node_few number n) (nodes_few number ns)

source_few : (o : Option NodeRef) → length (if_there (message_field 3 node_format) o) ≤ source_room o
source_few None = omega arith
source_few (Some n) = node_few 3 n

base_few : (b : BlockRef) → length (base_format.text (record { block = b })) ≤ 20 + length (block_format.text b) + 0
unfolding base_format message_field
base_few b = two _ _ _ _ (bytes_field_within 1 (block_format.text b)) none

client_few : (b : BlockRef) (client : List ℕ) → length (client_format.text (record { block = b; client = client })) ≤ 20 + length (base_format.text (record { block = b })) + (20 + length client + 0)
unfolding client_format message_field
client_few b client = two _ _ _ _ (bytes_field_within 1 (base_format.text (record { block = b }))) (two _ _ _ _ (bytes_field_within 2 client) none)

header_few : (b : BlockRef) (client : List ℕ) → length (message_field 1 client_format (record { block = b; client = client })) ≤ length b.pool + length client + 160
unfolding message_field
header_few b client = omega (arith, block_few b, base_few b, client_few b client, bytes_field_within 1 (client_format.text (record { block = b; client = client })))

sums_few : (c : ChecksumFields) → length (checksum_format.text c) ≤ 20 + (20 + 0)
unfolding checksum_format
sums_few c = two _ _ _ _ (varint_field_within 1 c.kind) (two _ _ _ _ (varint_field_within 2 c.chunk) none)

checksum_few : (c : ChecksumFields) → length (message_field 9 checksum_format c) ≤ 60
unfolding message_field
checksum_few c = omega (arith, sums_few c, bytes_field_within 9 (checksum_format.text c))

base_field_few : (b : BlockRef) → length (message_field 1 base_format (record { block = b })) ≤ length b.pool + 120
unfolding message_field
base_field_few b = omega (arith, block_few b, base_few b, bytes_field_within 1 (base_format.text (record { block = b })))

block_field_few : (b : BlockRef) → length (message_field 2 block_format b) ≤ length b.pool + 100
unfolding message_field
block_field_few b = omega (arith, block_few b, bytes_field_within 2 (block_format.text b))

length_few : (k : RecoveryKind) (n : ℕ) → length (if_there (varint_field 4) (length_to_encode k n)) ≤ 20
length_few kind.Begin n = omega arith
length_few kind.Init n = omega arith
length_few kind.Update n = varint_field_within 4 n

message_few : (request : Op) → length (op_message request) ≤ op_room request
unfolding write_format read_format transfer_format checksum_op_format recovery_format
message_few (op.Write w) =
    two _ _ _ _ (header_few w.block w.client) (two _ _ _ _ (nodes_few 2 w.targets) (two _ _ _ _ (source_few w.source) (two _ _ _ _ (varint_field_within 4 w.stage) (two _ _ _ _ (varint_field_within 5 w.pipeline)
    (two _ _ _ _ (varint_field_within 6 w.min) (two _ _ _ _ (varint_field_within 7 w.max) (two _ _ _ _ (varint_field_within 8 w.latest.0) (two _ _ _ _ (checksum_few (record { kind = w.kind; chunk = w.chunk })) none))))))))
message_few (op.Read r) = two _ _ _ _ (header_few r.block r.client) (two _ _ _ _ (varint_field_within 2 r.offset) (two _ _ _ _ (varint_field_within 3 r.len) none))
message_few (op.Transfer t) = two _ _ _ _ (header_few t.block t.client) (two _ _ _ _ (nodes_few 2 t.targets) none)
message_few (op.Checksum c) = two _ _ _ _ (base_field_few c.block) none
message_few (op.Recovery r) =
    two _ _ _ _ (varint_field_within 1 (kind_number r.kind)) (two _ _ _ _ (block_field_few r.block) (two _ _ _ _ (varint_field_within 3 r.recovery.0) (two _ _ _ _ (length_few r.kind r.new_length) (two _ _ _ _ (nodes_few 5 r.targets) none))))

-- A request whose texts are well within the limit is within it.
pub op_few : (request : Op) → op_room request ≤ limit → length (op_message request) ≤ limit
op_few request few = omega (arith, message_few request, few)

-- ---- answers

text_few : (m : List ℕ) → length (if_there (bytes_field 2) (message_to_encode m)) ≤ 20 + length m
text_few [] = omega arith
text_few (b ∷ bs) = bytes_field_within 2 (b ∷ bs)

number_few : (number : ℕ) (o : Option ℕ) → length (if_there (varint_field number) o) ≤ 20
number_few number None = omega arith
number_few number (Some n) = varint_field_within number n

fields_few : (a : RecoveryAnswer) → length (answer_format.text a) ≤ 20 + (20 + length a.message + (20 + (20 + (20 + 0))))
unfolding answer_format
fields_few a =
    two _ _ _ _ (varint_field_within 1 (status_number a.status)) (two _ _ _ _ (text_few a.message)
    (two _ _ _ _ (number_few 3 (state_to_encode a.info)) (two _ _ _ _ (number_few 4 (stamp_to_encode a.info)) (two _ _ _ _ (number_few 5 (answer_length_to_encode a.info)) none))))

-- An answer whose text is well within the limit is within it.
pub answer_few : (a : RecoveryAnswer) → length a.message ≤ 65000 → length (answer_format.text a) ≤ limit
answer_few a few = omega (arith, fields_few a, few)
