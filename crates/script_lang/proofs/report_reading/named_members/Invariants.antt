-- The items so far are kept as nodes, in order.
use Rattle.std.proofs.Common.{◌≡◌, ◌≤◌, take, length}
use Rattle.script_lang.specs.Words.{parts_of}
use Rattle.script_lang.specs.ReportReading.{nodes_of}
use Rattle.script_lang.proofs.ItemLaws.{left_of, size_of}
use Rattle.script_lang.proofs.MemberLaws.{with_front}
use Rattle.script_lang.proofs.report_reading.named_members.Given as goal

abbrev pub invariant-items : goal.invariant-items
invariant-items l = record { kept : with_front (take l.count l.named) (nodes_of (left_of l.rest)) ≡ nodes_of (parts_of 44 l.fn.text); few : l.count ≤ 16; room : length l.named ≡ 16 }

abbrev pub decreases-items : goal.decreases-items
decreases-items l = size_of l.rest
