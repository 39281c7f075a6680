-- What the two halves of a connection's end hold and have sent.
use Rattle.std.specs.Prelude.{◌≡◌, ℕ, ◌<◌, ◌≤◌, Bool, true, false, List, [], ◌∷◌, ◌++◌, length, take, Option, option_map, IsSome, Result, IsErrOf}
use Rattle.hd_base.specs.Faults.{FaultsIncreased}
use Rattle.hd_base.specs.declared.links.Got.{Got}
use Rattle.hd_base.specs.declared.links.Got.TheVariants as got
use Rattle.hd_base.specs.declared.links.LinkError.{LinkError}
use Rattle.hd_base.specs.declared.links.LinkError.TheVariants as link_error

-- what an inward half over plain memory holds: bytes not yet received, and whether the end stands behind them
pub record Inbox : Type 0 where
  pub bytes : List ℕ
  pub ended : Bool

-- an inbox with these bytes in front
abbrev pub in_front : List ℕ → Inbox → Inbox
in_front bytes inbox = record { bytes = bytes ++ inbox.bytes; ended = inbox.ended }

-- the half holds nothing, and so the next thing is the end, or not
abbrev pub IsEmptyInbox : Bool → Option Inbox → Type 0
IsEmptyInbox ended held = held ≡ option_map (λ _. record { bytes = []; ended = ended }) held

-- What a receipt takes from what is held, where observable: some bytes from the front, or nothing, which comes exactly where nothing is held.
abbrev pub Receives : Got → Option Inbox → Option Inbox → List ℕ → Type 0
Receives (got.Bytes n) old new buffer = (0 < n) × (n ≤ length buffer) ×
    (old ≡ option_map (in_front (take n buffer)) new)
Receives got.End old new buffer = (new ≡ old) × IsEmptyInbox true old
Receives got.NotYet old new buffer = (new ≡ old) × IsEmptyInbox false old

-- Where observable, the piece stands behind all that were sent.
abbrev pub Sends : Option (List (List ℕ)) → Option (List (List ℕ)) → List ℕ → Type 0
Sends old new piece = new ≡ option_map (λ pieces. pieces ++ piece ∷ []) old

-- Where observable, nothing was sent.
abbrev pub SentNothing : Option (List (List ℕ)) → Type 0
SentNothing sent = sent ≡ option_map (λ _. []) sent

-- What both halves of an end hold and have sent is observable.
abbrev pub BothObservable : Option Inbox → Option (List (List ℕ)) → Type 0
BothObservable held sent = IsSome held × IsSome sent

-- A call on a half that takes no memory: Failed, and only where the count rose.
pub record LinkCause {T : Type 0} (before now : ℕ) (result : Result T LinkError) : Type 0 where
  pub never_falls : before ≤ now
  pub failed : IsErrOf result link_error.Failed → FaultsIncreased before now
  pub no_memory : IsErrOf result link_error.Memory → ⊥
