-- Pieces that several owners share, and what the two halves of an end hold of them.
use Rattle.std.specs.Prelude.{ℕ, ◌+◌, ◌-◌, Bool, cond, List, [], ◌∷◌, ◌++◌, map, drop, Option, Some, None, Vec, vec_capacity}
use Rattle.std.specs.Arc.{arc_value}
use Rattle.std.specs.Global.{Global}
use Rattle.std.specs.declared.sync.Arc.{Arc}
use Rattle.hd_base.specs.Links.{Inbox}

-- a piece with its owners
abbrev pub Piece : Type 0
Piece = Arc (Vec ℕ Global) Global

-- the bytes of a piece
abbrev pub bytes_of : Piece → List ℕ
bytes_of piece = (arc_value piece).items

-- the bytes of each piece
abbrev pub pieces_of : List Piece → List (List ℕ)
pieces_of pieces = map bytes_of pieces

-- what is left of a piece of which so many bytes were taken
abbrev pub rest_of : Option Piece → ℕ → List ℕ
rest_of None taken = []
rest_of (Some piece) taken = drop taken (bytes_of piece)

-- what an inward half holds
abbrev pub inbox_of : Option Piece → ℕ → Bool → Inbox
inbox_of piece taken ended = record { bytes = rest_of piece taken; ended = ended }

-- a piece that nobody shares yet
abbrev pub fresh_of : Option (Vec ℕ Global) → List (List ℕ)
fresh_of None = []
fresh_of (Some piece) = piece.items ∷ []

-- how many these are
abbrev pub fresh_count : Option (Vec ℕ Global) → ℕ
fresh_count None = 0
fresh_count (Some piece) = 1

-- the pieces that an outward half sent: the shared ones, and then perhaps the latest
abbrev pub sent_of : List Piece → Option (Vec ℕ Global) → List (List ℕ)
sent_of sent fresh = pieces_of sent ++ fresh_of fresh

-- how many of so many pieces were sent after a shut
abbrev pub lost_of : Bool → ℕ → ℕ → ℕ
lost_of shut kept count = cond shut (count - kept) 0

-- a bound below which the next piece needs no memory: none is left while the latest piece isn't shared
abbrev pub room_of : Option (Vec ℕ Global) → Vec ℕ Global → ℕ
room_of None spare = vec_capacity spare + 1
room_of (Some piece) spare = 0
