-- What the events of primaries make of the world.
use Rattle.std.proofs.Common.{◌≡◌, ℕ, Bool, true, false, List, Option, Some, None, refl, ap, ◌∙◌}
use Rattle.std.specs.Prelude.{◌==◌, ◌&&◌, is_none, if◌then◌else◌}
use Rattle.hd_base.specs.declared.numbers.BlockId.{BlockId}
use Rattle.hd_base.specs.declared.numbers.ConnId.{ConnId}
use Rattle.hd_base.specs.declared.numbers.NodeId.{NodeId}
use Rattle.name_core.specs.declared.choice.Chosen.{Chosen}
use Rattle.world_nets.specs.RecoveryCore.OwnStep.TheVariants as step
use Rattle.world_nets.specs.RecoveryCore.Recovered.{Recovered}
use Rattle.world_nets.specs.RecoveryCore.Primaries.{own_step, end_with}
use Rattle.road_traffic.proofs.TrafficLemmas.{same-itself}
use Rattle.world_nets.specs.World.Caller.TheVariants as caller
use Rattle.world_nets.specs.World.Event.TheVariants as event
use Rattle.world_nets.specs.World.OwnStep.TheVariants as own
use Rattle.world_nets.specs.World.Parts.{Told, Leading, Primary, no_primary, leads}
use Rattle.world_nets.specs.World.Worlds.{World, Change, apply}
use Rattle.world_nets.specs.World.Connections.{Next, place_of, up_taken}
use Rattle.world_nets.specs.World.Primaries.{primary_asks, primary_commits, begins_at, begins_as, own_primary_as, leads_told, leads_step, commits_step, updates_change, ends_change, primary_up_as, hears_change}
use Rattle.world_nets.specs.World.Events.{outcome, changed, up_as, up_event, upper_up}
use Rattle.world_nets.specs.Drawn.{ComesUp}
use Rattle.world_primaries.specs.Drawn.{Leads, begin_asked, commit_asked, AskMakes, MayBegin, StepMakes, hears_at, HearsMember}

-- THE OFFICE

new_asks : (w : World) (i : ℕ) (block : BlockId) → w.primaries i ≡ no_primary → outcome w (event.Office (caller.Primary i block)) ≡ Some (apply w (begin_asked w i block))
unfolding outcome
new_asks w i block e = ap (λ (p : Primary). changed w (primary_asks p w i block)) e

commit_asks : (w : World) (i : ℕ) (block : BlockId) (l : Leading) (c : Chosen) → Leads w i l None → (own_step l.state).does ≡ step.Commits c → outcome w (event.Office (caller.Primary i block)) ≡ Some (apply w (commit_asked w i l c))
unfolding outcome
commit_asks w i block l c k does =
    ap (λ (p : Primary). changed w (primary_asks p w i block)) k.is
    ∙ (λ j. changed w (if k.alive j && is_none (k.told_is j) then primary_commits (does j) w i l else None))

pub ask_makes : (w : World) (i : ℕ) (block : BlockId) → AskMakes w i block
ask_makes w i block = record {
  new = λ e. new_asks w i block e;
  commits = λ l c k does. commit_asks w i block l c k does;
}

-- OWN STEPS

pub begin_makes : (w : World) (i : ℕ) (node : NodeId) (block : BlockId) (members : List NodeId) (answers : List Bool) (told : Told) (k : Change) → MayBegin w i node block members told
    → begins_as told w i (place_of w node.0) block members answers ≡ Some k → outcome w (event.Own (own.Recover i node block members answers)) ≡ Some (apply w k)
unfolding outcome
begin_makes w i node block members answers told k m e =
    ap (λ (p : Primary). changed w (begins_at p w i node.0 block members answers)) m.is
    ∙ ((λ j. changed w (if same-itself block.0 j && m.runs j && m.members_are j then begins_as told w i (place_of w node.0) block members answers else None))
    ∙ ap (λ (c : Option Change). changed w c) e)

led : (w : World) (i : ℕ) (l : Leading) (told : Option Told) → Leads w i l told → outcome w (event.Own (own.Primary i)) ≡ changed w (leads_told told w i l)
unfolding outcome
led w i l told k =
    ap (λ (p : Primary). changed w (own_primary_as p w i)) k.is
    ∙ (λ j. changed w (if k.alive j then leads_told (k.told_is j) w i l else None))

pub step_makes : (w : World) (i : ℕ) (l : Leading) → StepMakes w i l
step_makes w i l = record {
  updates = λ c k does. led w i l None k ∙ (λ j. changed w (leads_step (does j) w i l (own_step l.state).primary));
  ends = λ r k does. led w i l None k ∙ (λ j. changed w (leads_step (does j) w i l (own_step l.state).primary));
  commits = λ c told k does. led w i l (Some told) k ∙ (λ j. changed w (commits_step (does j) w i l told));
}

-- WHAT IS HEARD

up_by : (w : World) (c : ℕ) (x : Next) → ComesUp w c x → up_event w c false ≡ changed (up_taken w c x) (upper_up (w.dialled c).upper (up_taken w c x) c x false)
up_by w c x k = λ j. if k.known j then up_as w c false (k.next j) else None

pub hear_makes : (w : World) (conn : ConnId) (x : Next) (i place : ℕ) (l : Leading) → ComesUp w conn.0 x → HearsMember w conn.0 i place l
    → outcome w (event.Up conn) ≡ Some (apply (up_taken w conn.0 x) (hears_at (up_taken w conn.0 x) i l place conn.0 x))
unfolding outcome up_taken
hear_makes w conn x i place l k h =
    up_by w conn.0 x k
    ∙ ((λ j. changed (up_taken w conn.0 x) (upper_up (h.upper j) (up_taken w conn.0 x) conn.0 x false))
    ∙ ((λ j. changed (up_taken w conn.0 x) (primary_up_as (h.leads_so.is j) (up_taken w conn.0 x) i place conn.0 x))
    ∙ ((λ j. changed (up_taken w conn.0 x) (if h.leads_so.alive j && is_none (h.leads_so.told_is j) then hears_change (up_taken w conn.0 x) i l place conn.0 x (h.stands j) else None))
    ∙ (λ j. changed (up_taken w conn.0 x) (if h.listens_to j then Some (hears_at (up_taken w conn.0 x) i l place conn.0 x) else None)))))
