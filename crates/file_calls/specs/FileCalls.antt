-- What the calls of a program mean.
use Rattle.std.specs.Prelude.{List, map}
use Rattle.hd_base.specs.Calls.{Call, Make, Write, Cut, Sync, Rename, Remove}
use Rattle.file_calls.specs.declared.calls.FileCall.{FileCall}
use Rattle.file_calls.specs.declared.calls.FileCall.TheVariants as file_call

-- the call itself, without references
abbrev pub meant : FileCall → Call
meant (file_call.Make name) = Make name.now
meant (file_call.Write name place bytes) = Write name.now place bytes.now
meant (file_call.Cut name len) = Cut name.now len
meant (file_call.Sync name) = Sync name.now
meant (file_call.Rename from to) = Rename from.now to.now
meant (file_call.Remove name) = Remove name.now

-- the calls of a list
abbrev pub plan : List FileCall → List Call
plan calls = map meant calls
