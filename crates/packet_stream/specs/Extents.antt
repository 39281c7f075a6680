-- Where the packets of a stream begin and end.
use Rattle.std.specs.Prelude.{ℕ, ◌==◌, ◌+◌, ◌-◌, ◌*◌, ◌/◌, ◌%◌, max, if◌then◌else◌}
use Rattle.replica_core.specs.Extents.{chunk_start}
use Rattle.packet_stream.specs.declared.extents.TheConstants.{PACKET_SIZE}

-- the most bytes of a packet that begins where a chunk does: as many whole chunks as the usual size has, but at least one
abbrev pub packet_limit : ℕ → ℕ
packet_limit chunk = chunk * max (PACKET_SIZE / chunk) 1

-- Where the packet behind the sent end begins: there, where a chunk begins, and else where its chunk begins, but not before the base.
abbrev pub next_start : ℕ → ℕ → ℕ → ℕ
next_start chunk base sent = if sent % chunk == 0 then sent else max (chunk_start chunk sent) base

-- The greatest end of a packet that begins here: one that begins amid a chunk ends within it.
abbrev pub greatest_end : ℕ → ℕ → ℕ
greatest_end chunk start = if start % chunk == 0 then start + packet_limit chunk else chunk_start chunk start + chunk

-- how many bytes there are from here to the end of the chunk, a whole one where a chunk begins
abbrev pub chunk_rest : ℕ → ℕ → ℕ
chunk_rest chunk start = chunk - start % chunk
