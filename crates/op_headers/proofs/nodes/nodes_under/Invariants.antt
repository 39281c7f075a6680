-- The nodes so far and those of the fields from here on are those of the whole message.
use Rattle.std.proofs.Common.{◌≡◌, drop}
use Rattle.hd_base.specs.Results.{with_value}
use Rattle.op_headers.specs.Tables.{each_at, texts_under}
use Rattle.op_headers.specs.Formats.{node_format}
use Rattle.op_headers.proofs.EachLemmas.{decoded_joined}
use Rattle.op_headers.proofs.nodes.nodes_under.Given as goal

abbrev pub invariant-loop-number : goal.invariant-loop-number
invariant-loop-number l = with_value (decoded_joined l.decoded) (each_at node_format.read (texts_under l.field l.bytes (drop l.number-index l.number-items))) ≡ each_at node_format.read (texts_under l.field l.bytes l.number-items)
