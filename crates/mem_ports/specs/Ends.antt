-- What the halves of an end in memory hold.
use Rattle.std.specs.Prelude.{ℕ, ◌+◌, List, vec_len}
use Rattle.hd_base.specs.Links.{Inbox}
use Rattle.mem_ports.specs.Pieces.{inbox_of, sent_of, fresh_count, lost_of, room_of}
use Rattle.mem_ports.specs.declared.inward.MemIn.{MemIn}
use Rattle.mem_ports.specs.declared.outward.MemOut.{MemOut}

-- what an inward half holds
abbrev pub held_by : MemIn → Inbox
held_by half = inbox_of half.piece half.taken half.ended

-- the pieces that an outward half sent
abbrev pub sent_by : MemOut → List (List ℕ)
sent_by half = sent_of half.sent.items half.fresh

-- how many of them were sent after its shut
abbrev pub lost_by : MemOut → ℕ
lost_by half = lost_of half.shut half.kept (vec_len half.sent + fresh_count half.fresh)

-- its room
abbrev pub room_by : MemOut → ℕ
room_by half = room_of half.fresh half.spare
