-- What requests say of the product's own nodes.
use Rattle.std.specs.Prelude.{ℕ, ◌+◌, ◌-◌, ◌^◌, min, List, codes}
use Rattle.std.specs.Int.{w128, to_be_bytes}
use Rattle.uuid.specs.Text.{hyphenated_text, lower}
use Rattle.hd_base.specs.declared.numbers.NodeId.{NodeId}
use Rattle.hd_base.specs.declared.roads.TheConstants.{FIRST_PORT}
use Rattle.op_headers.specs.declared.nodes.NodeRef.{NodeRef}
use Rattle.node_refs.specs.declared.TheConstants.{FIRST_UUID}

-- a node's unique name, as text
abbrev pub uuid_of : NodeId → List ℕ
uuid_of node = hyphenated_text lower (to_be_bytes w128 (FIRST_UUID + node.0))

-- a node's port, where it fits
abbrev pub port_of : NodeId → ℕ
port_of node = min (FIRST_PORT + node.0) (2 ^ 32 - 1)

abbrev pub ref_of : NodeId → NodeRef
ref_of node = record {
  ip = codes "127.0.0.1";
  host = codes "localhost";
  uuid = uuid_of node;
  xfer = port_of node;
  info = 0;
  ipc = 0;
}
