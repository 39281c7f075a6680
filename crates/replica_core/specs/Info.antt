-- What a replica that is there holds: its state, what a reader may see, and what each event that isn't of a stream makes of it.
use Rattle.std.specs.Prelude.{ℕ, ◌==◌, ◌+◌, ◌-◌, ◌^◌, ◌&&◌, ◌||◌, not, nat_lt, nat_le, max, Bool, true, false, Option, Some, None, Result, Ok, Err}
use Rattle.hd_base.specs.declared.states.ReplicaState.{ReplicaState}
use Rattle.hd_base.specs.declared.states.ReplicaState.TheVariants as state
use Rattle.hd_base.specs.declared.numbers.Stamp.{Stamp}
use Rattle.hd_base.specs.SumRules.{Rule}
use Rattle.replica_core.specs.declared.info.ReplicaInfo.{ReplicaInfo}
use Rattle.replica_core.specs.declared.refusals.Refusal.{Refusal}
use Rattle.replica_core.specs.declared.refusals.Refusal.TheVariants as refusal
use Rattle.replica_core.specs.Refusals.{check}

-- the state, given the recovery that it is under
abbrev pub state_under : Option Stamp → ReplicaState → ReplicaState
state_under None original = original
state_under (Some id) original = state.Rur

-- the state
abbrev pub state_of : ReplicaInfo → ReplicaState
state_of h = state_under h.recovery h.original

-- what a reader may see of a replica in this state, or of one under recovery whose original state this is
abbrev pub visible_under : ReplicaState → ℕ → ℕ → Option ℕ
visible_under state.Finalized written acked = Some written
visible_under state.Rbw written acked = Some acked
visible_under _ written acked = None

-- what a reader may see
abbrev pub visible_of : ReplicaInfo → Option ℕ
visible_of h = visible_under h.original h.written h.acked

abbrev pub is_finalized : ReplicaState → Bool
is_finalized state.Finalized = true
is_finalized _ = false

abbrev pub is_rbw : ReplicaState → Bool
is_rbw state.Rbw = true
is_rbw _ = false

-- a state in which a connection may write
abbrev pub is_writable : ReplicaState → Bool
is_writable state.Rbw = true
is_writable state.Temporary = true
is_writable _ = false

abbrev pub is_temporary : ReplicaState → Bool
is_temporary state.Temporary = true
is_temporary _ = false

-- nothing but these bytes, all acked
abbrev pub settled_at : ReplicaState → Stamp → Rule → ℕ → ReplicaInfo
settled_at original stamp sums bytes =
    record { original = original; recovery = None; stamp = stamp; sums = sums; written = bytes; acked = bytes }

-- the stamp is from one to the other
abbrev pub is_within : Stamp → Stamp → Stamp → Bool
is_within low high info = nat_le low.0 info.0 && nat_le info.0 high.0

-- a stamp from one to the other, or the refusal of it
abbrev pub stamp_check : ReplicaInfo → Stamp → Stamp → Result (Unit {0}) Refusal
stamp_check h low high = check (is_within low high h.stamp) (refusal.Stale h.stamp low high) (Ok tt)

-- Append: the block is FINALIZED under the stamp that is named, with the length that is named
unfoldable pub reopen : ReplicaInfo → Stamp → Stamp → ℕ → Result ReplicaInfo Refusal
reopen h named new bytes =
    check (is_finalized (state_of h)) (refusal.WrongState (state_of h))
    (check (h.stamp.0 == named.0 && nat_lt named.0 new.0) (refusal.Stale h.stamp named new)
    (check (h.written == bytes) (refusal.LengthOut h.acked h.written bytes bytes)
    (Ok (settled_at state.Rbw new h.sums bytes))))

-- The recoveries of an append and of a close: FINALIZED or RBW under a stamp from the one that is named to the new one, with all of the named length acked. It is then in this state under the new stamp.
unfoldable pub recover_setup : ReplicaInfo → Stamp → Stamp → ℕ → ReplicaState → Result ReplicaInfo Refusal
recover_setup h named new bytes into =
    check (is_finalized (state_of h) || is_rbw (state_of h)) (refusal.WrongState (state_of h))
    (check (is_within named new h.stamp) (refusal.Stale h.stamp named new)
    (check (h.written == bytes && h.acked == bytes) (refusal.LengthOut h.acked h.written bytes bytes)
    (Ok (settled_at into new h.sums bytes))))

-- what is left under a new stamp where the bytes past the acked ones are cut off
abbrev pub cut_to_acked : ReplicaInfo → Stamp → ReplicaInfo
cut_to_acked h new = settled_at state.Rbw new h.sums h.acked

-- The recovery of a stream: RBW under such a stamp, with at least the least length acked and at most the greatest one written. The bytes past the acked ones are cut off.
unfoldable pub recover_stream : ReplicaInfo → Stamp → Stamp → ℕ → ℕ → Result ReplicaInfo Refusal
recover_stream h named new low high =
    check (is_rbw (state_of h)) (refusal.WrongState (state_of h))
    (check (is_within named new h.stamp) (refusal.Stale h.stamp named new)
    (check (nat_le low h.acked && nat_le h.written high) (refusal.LengthOut h.acked h.written low high)
    (Ok (cut_to_acked h new))))

-- no recovery with this id or a later one holds it
abbrev pub is_free_for : Option Stamp → Stamp → Bool
is_free_for None recovery = true
is_free_for (Some id) recovery = nat_lt id.0 recovery.0

-- the id of the recovery that holds it, given one where none does
abbrev pub holder : Option Stamp → Stamp → Stamp
holder None id = id
holder (Some id) other = id

-- The beginning of a block recovery: not TEMPORARY, under a stamp from the one that is named to below the recovery id, and under no recovery with this id or a later one. The original state stays known.
unfoldable pub begin_recovery : ReplicaInfo → Stamp → Stamp → Result ReplicaInfo Refusal
begin_recovery h named recovery =
    check (not (is_temporary (state_of h))) (refusal.WrongState (state_of h))
    (check (nat_le named.0 h.stamp.0 &&
    nat_lt h.stamp.0 recovery.0) (refusal.Stale h.stamp named (record { 0 = recovery.0 - 1 }))
    (check (is_free_for h.recovery recovery) (refusal.RecoveryHeld (holder h.recovery recovery))
    (Ok (record h { recovery = Some recovery }))))

-- The end of a block recovery: under the recovery with this id, with at least the chosen length written. It is then FINALIZED with just that length, under the recovery id.
unfoldable pub end_recovery : ReplicaInfo → Option Stamp → Stamp → ℕ → Result ReplicaInfo Refusal
end_recovery h None recovery bytes = Err (refusal.WrongState (state_of h))
end_recovery h (Some id) recovery bytes =
    check (id.0 == recovery.0) (refusal.RecoveryHeld id)
    (check (nat_le bytes h.written) (refusal.LengthOut h.acked h.written bytes bytes)
    (Ok (settled_at state.Finalized recovery h.sums bytes)))

-- this length, where the bytes that are asked for lie below it
abbrev pub within : ℕ → ℕ → ℕ → Result ℕ Refusal
within visible offset bytes = check (nat_le (offset + bytes) visible) (refusal.OutOfRange visible) (Ok visible)

-- A read: something is visible, the stamp isn't below the named one, and all that is asked for is visible. What is answered is the visible length.
unfoldable pub readable : ReplicaInfo → Option ℕ → Stamp → ℕ → ℕ → Result ℕ Refusal
readable h None named offset bytes = Err (refusal.WrongState (state_of h))
readable h (Some visible) named offset bytes =
    check (nat_le named.0 h.stamp.0) (refusal.Stale h.stamp named (record { 0 = 2 ^ 64 - 1 }))
    (within visible offset bytes)

-- What a transfer is given: RBW under just the named stamp, and all that is asked for is acked. What is answered is the acked length.
unfoldable pub given : ReplicaInfo → Stamp → ℕ → ℕ → Result ℕ Refusal
given h named offset bytes =
    check (is_rbw (state_of h)) (refusal.WrongState (state_of h))
    (check (is_within named named h.stamp) (refusal.Stale h.stamp named named)
    (within h.acked offset bytes))

-- what a packet that ends here leaves: as much is acked as before
abbrev pub extend_written : ReplicaInfo → ℕ → ReplicaInfo
extend_written h end = record h { written = max h.written end }

-- what an ack of this end leaves
abbrev pub advance_acked : ReplicaInfo → ℕ → ReplicaInfo
advance_acked h end = record h { acked = max h.acked end }

-- the state that the good ack of the last packet leaves
abbrev pub state_after_last : ReplicaState → ReplicaState
state_after_last state.Temporary = state.Rbw
state_after_last _ = state.Finalized

-- what the good ack of the last packet leaves: RBW of a TEMPORARY replica, and else FINALIZED
abbrev pub close_stream : ReplicaInfo → ReplicaInfo
close_stream h = record h { original = state_after_last h.original; recovery = None }
