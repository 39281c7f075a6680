-- Neither removals nor moves nor cuts need room.
use Rattle.std.proofs.Common.{rules}
use Rattle.file_calls.specs.FileCalls.{plan}
use Rattle.restart_scan.proofs.CallLemmas.{more_calls, room_settling}
use Rattle.restart_scan.proofs.settling.settle_pair.Goals as goal

pub perform-requires-clause-room : goal.perform-requires-clause-room
perform-requires-clause-room g c = room_settling (g.F.Files.room c.args.drawer.now) (plan c.deref.result.now) c.args.temporary.now c.names-names.result c.args.pair.now
    (more_calls c.deref.result.now c.push_settling.new.calls.items c.push_removals.new.calls.items c.new-calls.result.items _ _ c.deref.ensures.value c.in_ok-push_settling.ensures c.in_ok-push_removals.ensures (search rules))
