-- What trace entries carried.
use Rattle.std.specs.Prelude.{◌==◌, ◌&&◌, ℕ, Bool, cond, nat_lt, List, [], ◌∷◌, ◌++◌}
use Rattle.std.specs.List.{list_all}
use Rattle.hd_base.specs.Lists.{joined}
use Rattle.hd_base.specs.Channels.{Carried, same_direction}
use Rattle.mem_ports.specs.Pieces.{pieces_of}
use Rattle.mem_ports.specs.declared.trace.TraceEntry.{TraceEntry}

-- the bytes of one trace entry, where it is of this connection's direction
abbrev pub entry_bytes : TraceEntry → ℕ → Bool → List ℕ
entry_bytes entry conn down = cond ((entry.conn.0 == conn) &&
    same_direction entry.down down) (joined (pieces_of entry.pieces.items)) []

-- the bytes carried by connection and direction
abbrev pub carried_of : List TraceEntry → Carried
carried_of [] conn down = []
carried_of (entry ∷ rest) conn down = entry_bytes entry conn down ++ carried_of rest conn down

-- each trace entry has a number below this one
abbrev pub trace_below : ℕ → List TraceEntry → Bool
trace_below count trace = list_all (λ entry. nat_lt entry.conn.0 count) trace
