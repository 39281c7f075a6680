-- What becomes of an outward half when a piece is sent on it, or nothing is.
use Rattle.std.specs.Prelude.{◌≡◌, ℕ, ◌+◌, ◌≤◌, if◌then◌else◌, List, length, None, IfSome, IfOk, Result, Ok, Err}
use Rattle.hd_base.specs.Faults.{FaultsIncreased, FollowsSchedule, KeepsSchedule}
use Rattle.hd_base.specs.Links.{LinkCause, Sends}
use Rattle.hd_base.specs.declared.links.LinkError.{LinkError}
use Rattle.hd_base.specs.declared.links.LinkError.TheVariants as link_error
use Rattle.hd_base.specs.declared.links.LinkOut as link_out

-- What a half keeps while something is sent on it.
pub record KeepsHalf {O : Type 0} (o : link_out.Ghosts O) (old new : O) : Type 0 where
  pub flushed : o.flushed new ≡ o.flushed old
  pub shut : o.shut new ≡ o.shut old
  pub never_falls : o.faults old ≤ o.faults new

-- Nothing was sent, and no call failed.
pub record SendsNothing {O : Type 0} (o : link_out.Ghosts O) (old new : O) : Type 0 where
  pub sent : o.sent new ≡ o.sent old
  pub lost : o.lost new ≡ o.lost old
  pub kept : KeepsHalf o old new
  pub schedule : KeepsSchedule (o.schedule old) (o.schedule new) (o.faults old) (o.faults new)

-- The piece stands behind all that were sent, and is lost where the half was shut.
pub record SendsPiece {O : Type 0} (o : link_out.Ghosts O) (piece : List ℕ) (old new : O) : Type 0 where
  pub sent : Sends (o.sent old) (o.sent new) piece
  pub lost : IfSome (o.sent old) (λ _. o.lost new ≡ (if o.shut old then o.lost old + 1 else o.lost old))
  pub kept : KeepsHalf o old new

-- The link failed: where sends are observable, nothing was sent.
pub record FailsToSend {O : Type 0} (o : link_out.Ghosts O) (old new : O) : Type 0 where
  pub sent : o.sent new ≡ o.sent old
  pub lost : IfSome (o.sent old) (λ _. o.lost new ≡ o.lost old)
  pub kept : KeepsHalf o old new
  pub rose : FaultsIncreased (o.faults old) (o.faults new)

-- How the sending of a piece ends: it is sent whole, or the link failed. It is never want of memory.
abbrev pub IsSending : {O : Type 0} → link_out.Ghosts O → List ℕ → O → O → Result ℕ LinkError → Type 0
IsSending o piece old new (Ok _) = SendsPiece o piece old new
IsSending o piece old new (Err link_error.Failed) = FailsToSend o old new
IsSending o piece old new (Err link_error.Memory) = ⊥

-- all bytes of a piece were taken
abbrev pub TakesAll : List ℕ → Result ℕ LinkError → Type 0
TakesAll piece result = IfOk result (λ n. n ≡ length piece)

-- The same, that the link took all of it, and that it is one call of the schedule, where sends are observable.
pub record PieceEnds {O : Type 0} (o : link_out.Ghosts O) (piece : List ℕ) (old new : O) (result : Result ℕ LinkError)
    : Type 0 where
  pub ends : IsSending o piece old new result
  pub whole : TakesAll piece result
  pub schedule : IfSome (o.sent old) (λ _. FollowsSchedule (o.schedule old) (o.schedule new) (o.faults old)
      (o.faults new) result)

-- How the sending of what a link left of a piece ends, of which nothing is observable.
pub record RestEnds {O : Type 0} (o : link_out.Ghosts O) (piece : List ℕ) (old new : O) (result : Result ℕ LinkError) :
    Type 0 where
  pub whole : TakesAll piece result
  pub hidden : o.sent old ≡ None → o.sent new ≡ None
  pub kept : KeepsHalf o old new
  pub cause : LinkCause (o.faults old) (o.faults new) result
