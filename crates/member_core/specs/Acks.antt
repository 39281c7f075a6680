-- Acks from below: which are read, and what is passed up.
use Rattle.std.specs.Prelude.{ℕ, ℤ, ◌==◌, ◌&&◌, ◌||◌, not, nat_lt, Bool, true, false, List, ◌∷◌, length, count_by}
use Rattle.std.specs.Ordering.{int_eq}
use Rattle.hd_base.specs.declared.states.Status.{Status}
use Rattle.hd_base.specs.declared.states.Status.TheVariants as status
use Rattle.ack_codec.specs.declared.acks.Ack.{Ack}

abbrev pub is_success : Status → Bool
is_success status.Success = true
is_success _ = false

-- how many of the replies aren't SUCCESS
abbrev pub failures : List Status → ℕ
failures replies = count_by (λ reply. not (is_success reply)) replies

-- the mirror has found a wrong sum
abbrev pub begins_with_bad_sum : List Status → Bool
begins_with_bad_sum (status.ErrorChecksum ∷ replies) = true
begins_with_bad_sum _ = false

-- As many replies as there are members below, or fewer of which one isn't SUCCESS, but at least one.
abbrev pub are_replies : ℕ → List Status → Bool
are_replies below replies =
    nat_lt 0 (length replies) && (length replies == below ||
    (nat_lt (length replies) below && nat_lt 0 (failures replies)))

-- An ack from below that counts as read: it is of the oldest pending packet, and has replies of the members below.
abbrev pub is_read : ℕ → ℤ → Ack → Bool
is_read below seqno a = int_eq a.seqno seqno && are_replies below a.replies

-- the replies that go up: this member's own before those from below
abbrev pub with_own : List Status → List Status
with_own replies = status.Success ∷ replies

-- an ack with these replies
abbrev pub ack_of : ℤ → List Status → Ack
ack_of seqno replies = record { seqno = seqno; replies = replies }
