-- What roads in memory show, part by part.
use Rattle.std.specs.Prelude.{ℕ, ◌+◌, ◌||◌, not, drop, Option, Some}
use Rattle.hd_base.specs.Lists.{joined}
use Rattle.hd_base.specs.Channels.{Carried, Channels, Plain, carry, unflushed, with_given}
use Rattle.hd_base.specs.declared.ends.Conn.{Conn}
use Rattle.mem_ports.specs.Ends.{sent_by, lost_by}
use Rattle.mem_ports.specs.Roads.{plain_of}
use Rattle.mem_ports.specs.Traces.{carried_of}
use Rattle.mem_ports.specs.declared.inward.MemIn.{MemIn}
use Rattle.mem_ports.specs.declared.outward.MemOut.{MemOut}
use Rattle.mem_ports.specs.declared.roads.MemRoads.{MemRoads}

abbrev pub carried_by : MemRoads → Option Carried
carried_by roads = Some (carried_of roads.trace.items)

abbrev pub plain_shown : MemRoads → Option Plain
plain_shown roads = Some (plain_of roads.listening roads.dials.items roads.duplexes.items)

-- their count of faults, with that of the shares that came back
abbrev pub faults_of : MemRoads → ℕ
faults_of roads = roads.schedule.faults + roads.brought

-- the bytes carried once an end's pieces that weren't flushed are
abbrev pub carried_with : Carried → Conn MemIn MemOut → Carried
carried_with carried end =
    carry carried end.id.0 (not end.lower) (joined (drop end.outward.flushed (sent_by end.outward)))

-- the channels once these pieces, and perhaps the end's shut, are flushed
abbrev pub channels_with : Channels → Conn MemIn MemOut → Channels
channels_with channels end =
    with_given channels end.id.0 (not end.lower)
    (unflushed (sent_by end.outward) end.outward.flushed (lost_by end.outward)) (end.inward.shut || end.outward.shut)
