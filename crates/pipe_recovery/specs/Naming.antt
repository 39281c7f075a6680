-- Which member an answer to a request names.
use Rattle.std.specs.Prelude.{ℕ, Bool, ◌==◌, List, [], ◌∷◌, find, Option}
use Rattle.std.specs.Cmp.Lexicographic.{pointwise}
use Rattle.hd_base.specs.declared.numbers.NodeId.{NodeId}
use Rattle.member_core.specs.Requests.{first_address}
use Rattle.node_refs.specs.NodeRefs.{ref_of}

-- the address of a node, IP:PORT
abbrev pub address_of : NodeId → List ℕ
address_of node = first_address (ref_of node ∷ [])

-- this text is a node's address
unfoldable pub is_address : List ℕ → NodeId → Bool
is_address text node = pointwise ◌==◌ (address_of node) text

-- the member whose address this text is
abbrev pub named_member : List NodeId → List ℕ → Option NodeId
named_member members text = find (is_address text) members
