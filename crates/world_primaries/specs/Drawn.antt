-- What the events of primaries make of the world.
use Rattle.std.specs.Prelude.{◌≡◌, ℕ, if◌then◌else◌, Bool, true, false, List, slice_get, Option, Some, None}
use Rattle.hd_base.specs.declared.numbers.BlockId.{BlockId}
use Rattle.hd_base.specs.declared.numbers.ConnId.{ConnId}
use Rattle.hd_base.specs.declared.numbers.NodeId.{NodeId}
use Rattle.name_core.specs.declared.calls.OfficeCall.TheVariants as call
use Rattle.name_core.specs.declared.choice.Chosen.{Chosen}
use Rattle.world_nets.specs.RecoveryCore.OwnStep.TheVariants as step
use Rattle.world_nets.specs.RecoveryCore.Recovered.{Recovered}
use Rattle.world_nets.specs.RecoveryCore.Standing.{Standing}
use Rattle.world_nets.specs.RecoveryCore.Primaries.{own_step, end_with, heard_at, shuts_at, sync_call}
use Rattle.world_nets.specs.World.Caller.TheVariants as caller
use Rattle.world_nets.specs.World.Event.TheVariants as event
use Rattle.world_nets.specs.World.OwnStep.TheVariants as own
use Rattle.world_nets.specs.World.Parts.{by_primary, Told, Leading, no_primary, was_told, leads}
use Rattle.world_nets.specs.World.Worlds.{World, Change, apply}
use Rattle.world_nets.specs.World.Connections.{Next, is_alive, is_conn, place_of, up_taken}
use Rattle.world_nets.specs.World.Clients.{are_members}
use Rattle.world_nets.specs.World.Primaries.{primary_change, begins_as, updates_change, ends_change, heard_of, listens, asks_primary}
use Rattle.world_nets.specs.World.Events.{outcome}
use Rattle.world_nets.specs.Drawn.{ComesUp}

-- PRIMARIES THAT HAVE BEGUN

-- The primary leads so, at a node that runs in that life, and this answer of the office waits for it, or none.
pub record Leads (w : World) (i : ℕ) (l : Leading) (told : Option Told) : Type 0 where
  pub is : w.primaries i ≡ leads l
  pub alive : is_alive w l.at ≡ true
  pub told_is : l.told ≡ told

-- THE OFFICE

-- a new primary is answered, which asks to begin a recovery of this block
abbrev pub begin_asked : World → ℕ → BlockId → Change
begin_asked w i b = asks_primary w i (call.BeginRecovery b) (was_told b)

-- one that has updated members is answered, which asks to commit
abbrev pub commit_asked : World → ℕ → Leading → Chosen → Change
commit_asked w i l c = asks_primary w i (sync_call l.state c) (λ told. leads (record l { told = Some told }))

-- What the office's answer to a primary makes of the world.
pub record AskMakes (w : World) (i : ℕ) (block : BlockId) : Type 0 where
  pub new : w.primaries i ≡ no_primary →
      outcome w (event.Office (caller.Primary i block)) ≡ Some (apply w (begin_asked w i block))
  pub commits : (l : Leading) (c : Chosen) → Leads w i l None → (own_step l.state).does ≡ step.Commits c →
      outcome w (event.Office (caller.Primary i block)) ≡ Some (apply w (commit_asked w i l c))

abbrev pub PrimariesAsk : Type 0
PrimariesAsk = (w : World) (i : ℕ) (block : BlockId) → AskMakes w i block

-- OWN STEPS

-- A primary that was told so may begin at this node, with these members.
pub record MayBegin (w : World) (i : ℕ) (node : NodeId) (block : BlockId) (members : List NodeId) (told : Told) : Type 0
  where
    pub is : w.primaries i ≡ was_told block told
    pub runs : w.running node.0 ≡ true
    pub members_are : are_members members ≡ true

abbrev pub PrimariesBegin : Type 0
PrimariesBegin = (w : World) (i : ℕ) (node : NodeId) (block : BlockId) (members : List NodeId) (answers : List Bool)
    (told : Told) (k : Change) → MayBegin w i node block members told →
    begins_as told w i (place_of w node.0) block members answers ≡ Some k
    → outcome w (event.Own (own.Recover i node block members answers)) ≡ Some (apply w k)

-- What a further step of a primary makes of the world.
pub record StepMakes (w : World) (i : ℕ) (l : Leading) : Type 0 where
  pub updates : (c : Chosen) → Leads w i l None → (own_step l.state).does ≡ step.Updates c →
      outcome w (event.Own (own.Primary i)) ≡ Some (apply w (updates_change w i l (own_step l.state).primary c))
  pub ends : (r : Recovered) → Leads w i l None → (own_step l.state).does ≡ step.Ends r →
      outcome w (event.Own (own.Primary i)) ≡ Some (apply w (ends_change w i l r))
  pub commits : (c : Chosen) (told : Told) → Leads w i l (Some told) → (own_step l.state).does ≡ step.Commits c →
      outcome w (event.Own (own.Primary i)) ≡ Some (apply w (ends_change w i l (end_with l.state c told)))

abbrev pub PrimariesStep : Type 0
PrimariesStep = (w : World) (i : ℕ) (l : Leading) → StepMakes w i l

-- WHAT IT HEARS

-- a primary hears this from the member at a place, over this connection
abbrev pub hears_at : World → ℕ → Leading → ℕ → ℕ → Next → Change
hears_at w i l place c x = record (primary_change w i (leads (record l { state = heard_at l.state place (heard_of x) }))) {
  shuts = if shuts_at l.state place then is_conn (Some c) else (λ _. false);
}

-- The primary listens to the member at a place, which it dialled on this connection.
pub record HearsMember (w : World) (c i place : ℕ) (l : Leading) : Type 0 where
  pub upper : (w.dialled c).upper ≡ by_primary i place
  pub leads_so : Leads w i l None
  pub standing : Standing
  pub stands : slice_get l.state.standings place ≡ Some standing
  pub listens_to : listens l.state.phase standing ≡ true

abbrev pub PrimariesHear : Type 0
PrimariesHear = (w : World) (conn : ConnId) (x : Next) (i place : ℕ) (l : Leading) → ComesUp w conn.0 x →
    HearsMember w conn.0 i place l
    → outcome w (event.Up conn) ≡ Some (apply (up_taken w conn.0 x) (hears_at (up_taken w conn.0 x) i l place conn.0 x))
