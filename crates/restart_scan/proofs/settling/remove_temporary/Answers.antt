-- Removals need no room.
use Rattle.std.proofs.Common.{rules}
use Rattle.file_calls.specs.FileCalls.{plan}
use Rattle.restart_scan.proofs.CallLemmas.{new_calls, room_removals}
use Rattle.restart_scan.proofs.settling.remove_temporary.Goals as goal

pub perform-requires-clause-room : goal.perform-requires-clause-room
perform-requires-clause-room g c = room_removals (g.F.Files.room c.args.drawer.now) (plan c.deref.result.now) c.args.temporary.now
    (new_calls c.deref.result.now c.push_removals.new.calls.items c.new-calls.result.items _ c.deref.ensures.value c.in_ok-push_removals.ensures (search rules))
