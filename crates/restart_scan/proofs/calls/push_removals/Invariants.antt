-- So far, the removal of the first files stands behind the other calls.
use Rattle.std.proofs.Common.{◌≡◌, ◌++◌, take}
use Rattle.file_calls.specs.FileCalls.{plan}
use Rattle.replica_calls.specs.CallLists.{remove_list}
use Rattle.restart_scan.proofs.calls.push_removals.Given as goal

abbrev pub invariant-loop-name : goal.invariant-loop-name
invariant-loop-name l = plan l.calls.items ≡ plan l.initial.calls.items ++ remove_list (take l.name-index l.names)
