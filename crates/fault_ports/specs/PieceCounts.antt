-- How many pieces stand on connections, and how many may still be taken.
use Rattle.std.specs.Prelude.{ℕ, ◌+◌, ◌-◌, min, Bool, cond, List, Option, Some, None, option_map, unwrap_or, slice_get}
use Rattle.fault_ports.specs.declared.piece_counts.PieceCount.{PieceCount}
use Rattle.fault_ports.specs.declared.piece_counts.DuplexCount.{DuplexCount}

-- nothing stands, and nothing was cut
abbrev pub none_counted : PieceCount
none_counted = record { standing = 0; left = None }

-- the count of one direction of a connection (true is down)
abbrev pub count_of : Bool → DuplexCount → PieceCount
count_of d duplex = cond d duplex.down duplex.up

-- the count of a listed one, or nothing
abbrev pub count_in : Option DuplexCount → Bool → PieceCount
count_in None d = none_counted
count_in (Some duplex) d = count_of d duplex

-- the count of one direction of the connection with this number
abbrev pub count_at : List DuplexCount → ℕ → Bool → PieceCount
count_at duplexes c d = count_in (slice_get duplexes c) d

-- the count after a cut behind so many pieces
abbrev pub cut_count : ℕ → PieceCount → PieceCount
cut_count pieces count = record count { left = Some (min pieces (unwrap_or count.left count.standing)) }

-- the count after a piece was taken
abbrev pub taken_count : PieceCount → PieceCount
taken_count count = record { standing = count.standing - 1; left = option_map (λ n. n - 1) count.left }

-- the count after so many more pieces were sent
abbrev pub grown_count : PieceCount → ℕ → PieceCount
grown_count count more = record count { standing = count.standing + more }

-- how many connections were dialled, where the newest has this number
abbrev pub dialled_by : Option ℕ → ℕ
dialled_by None = 0
dialled_by (Some newest) = newest + 1
