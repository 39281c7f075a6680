-- What a restart may find of a replica.
use Rattle.std.specs.Prelude.{ℕ, ◌≡◌, ◌⊎◌, true, false, Bool, List, [], ◌++◌, if◌then◌else◌, Option, Some, None}
use Rattle.hd_base.specs.declared.states.ReplicaState.{ReplicaState}
use Rattle.hd_base.specs.declared.states.ReplicaState.TheVariants as state
use Rattle.hd_base.specs.declared.numbers.Stamp.{Stamp}
use Rattle.hd_base.specs.SumRules.{Rule}
use Rattle.replica_core.specs.declared.info.ReplicaInfo.{ReplicaInfo}
use Rattle.replica_core.specs.Info.{is_finalized, is_temporary}
use Rattle.replica_model.specs.declared.events.ReplicaEvent.{ReplicaEvent}
use Rattle.replica_model.specs.Rows.{FullReplica, row}
use Rattle.replica_model.specs.Plans.{plan, has_changing}

-- what is found of a replica that is there: FINALIZED or RWR, under a stamp and a rule, with its bytes
pub record Found : Type 0 where
  pub state : ReplicaState
  pub stamp : Stamp
  pub sums : Rule
  pub bytes : List ℕ

-- this state, this stamp, the rule of what is held, and these bytes
abbrev pub found_as : ReplicaState → Stamp → Rule → List ℕ → Option Found
found_as state stamp sums bytes = Some (record { state = state; stamp = stamp; sums = sums; bytes = bytes })

-- a front of these bytes
abbrev pub IsFront : List ℕ → List ℕ → Type 0
IsFront front bytes = (rest : List ℕ) × (front ++ rest ≡ bytes)

-- RWR under this stamp, with a front of these bytes
abbrev pub IsWaiting : Option Found → Stamp → Rule → List ℕ → Type 0
IsWaiting found stamp sums bytes = (front : List ℕ) × (found ≡ found_as state.Rwr stamp sums front) ×
    IsFront front bytes

-- FINALIZED stays FINALIZED, and all else that isn't TEMPORARY becomes RWR
abbrev pub settled_state : ReplicaState → ReplicaState
settled_state state.Finalized = state.Finalized
settled_state _ = state.Rwr

-- a replica whose files are whole: a TEMPORARY one becomes absent
abbrev pub found_whole : Option ReplicaInfo → List ℕ → Option Found
found_whole None bytes = None
found_whole (Some h) bytes =
    if is_temporary h.original then None else found_as (settled_state h.original) h.stamp h.sums bytes

-- A replica that broke amid the change from what is held to what the event makes of it.
pub data MayFindBetween (h : ReplicaInfo) (before : List ℕ) (k : ReplicaInfo) (after : List ℕ) (found : Option Found) :
    Type 0 where
  -- RWR under the old stamp or the new, with a front of the bytes before or after
  waits_old_before : IsWaiting found h.stamp h.sums before → MayFindBetween h before k after found
  waits_old_after : IsWaiting found h.stamp h.sums after → MayFindBetween h before k after found
  waits_new_before : IsWaiting found k.stamp h.sums before → MayFindBetween h before k after found
  waits_new_after : IsWaiting found k.stamp h.sums after → MayFindBetween h before k after found
  -- FINALIZED as before, if it was
  stays_final : is_finalized h.original ≡ true → found ≡ found_as state.Finalized h.stamp h.sums before →
      MayFindBetween h before k after found
  -- FINALIZED as the event makes it, if it does
  becomes_final : is_finalized k.original ≡ true → found ≡ found_as state.Finalized k.stamp h.sums after →
      MayFindBetween h before k after found
  -- FINALIZED under the old stamp with the bytes of an Update, if it was FINALIZED
  cut_final : is_finalized h.original ≡ true → is_finalized k.original ≡ true →
      found ≡ found_as state.Finalized h.stamp h.sums after → MayFindBetween h before k after found

-- A replica that broke in an event that makes a new one: it is absent, or RWR under its stamp without bytes; a TEMPORARY one is absent.
abbrev pub MayFindNew : ReplicaInfo → Option Found → Type 0
MayFindNew k found =
    (found ≡ None) ⊎ ((is_temporary k.original ≡ false) × (found ≡ found_as state.Rwr k.stamp k.sums []))

-- A TEMPORARY replica that broke amid the good ack of its last packet: it is absent, or RWR under its stamp with all its bytes.
abbrev pub MayFindReceived : ReplicaInfo → List ℕ → Option Found → Type 0
MayFindReceived h bytes found = (found ≡ None) ⊎ (found ≡ found_as state.Rwr h.stamp h.sums bytes)

-- the same by whether the replica is TEMPORARY before and after the event
abbrev pub MayFindChanged : Bool → Bool → ReplicaInfo → List ℕ → ReplicaInfo → List ℕ → Option Found → Type 0
MayFindChanged true true h before k after found = found ≡ None
MayFindChanged true false h before k after found = MayFindReceived h before found
MayFindChanged false _ h before k after found = MayFindBetween h before k after found

-- A replica that broke in an event with calls that change files.
abbrev pub MayFindAmid : Option ReplicaInfo → List ℕ → Option ReplicaInfo → List ℕ → Option Found → Type 0
MayFindAmid None before None after found = found ≡ None
MayFindAmid None before (Some k) after found = MayFindNew k found
MayFindAmid (Some h) before None after found = found ≡ found_whole (Some h) before
MayFindAmid (Some h) before (Some k) after found =
    MayFindChanged (is_temporary h.original) (is_temporary k.original) h before k after found

-- A replica that broke in an event, by whether the event changes files.
abbrev pub MayFindWithin : Bool → FullReplica → FullReplica → Option Found → Type 0
MayFindWithin true before after found = MayFindAmid before.known.info before.bytes after.known.info after.bytes found
MayFindWithin false before after found = found ≡ found_whole before.known.info before.bytes

-- What a restart may find of a replica that isn't broken, or that broke in this event, where the replica is the one before it.
abbrev pub MayFind : FullReplica → Option ReplicaEvent → Option Found → Type 0
MayFind r None found = found ≡ found_whole r.known.info r.bytes
MayFind r (Some e) found = MayFindWithin (has_changing (plan r e)) r (row r e) found
