-- The nodes that are behind are appended, and have texts.
use Rattle.std.proofs.Common.{◌≡◌, ◌++◌, take}
use Rattle.std.specs.List.{flat_map}
use Rattle.op_headers.specs.Tables.{EachFits, message_field}
use Rattle.op_headers.specs.Formats.{node_format}
use Rattle.op_headers.proofs.op_writing.put_nodes.Given as goal

abbrev pub invariant-loop-node : goal.invariant-loop-node
invariant-loop-node l = (l.out.items ≡ l.fn.out.items ++ flat_map (message_field l.field node_format) (take l.node-index l.nodes)) × EachFits node_format.fits (take l.node-index l.nodes)
