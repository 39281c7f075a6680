-- What a line asks to recover, and which events the primary's next own step is.
use Rattle.std.specs.Prelude.{ℕ, ◌&&◌, ◌==◌, if◌then◌else◌, is_none, Bool, true, false, List, [], ◌∷◌, map}
use Rattle.hd_base.specs.declared.numbers.BlockId.{BlockId}
use Rattle.hd_base.specs.declared.numbers.NodeId.{NodeId}
use Rattle.world_laws.specs.RecoveryCore.OwnStep.{OwnStep}
use Rattle.world_laws.specs.RecoveryCore.OwnStep.TheVariants as step
use Rattle.world_laws.specs.RecoveryCore.Primaries.{own_step}
use Rattle.world_laws.specs.World.Caller.TheVariants as caller
use Rattle.world_laws.specs.World.Event.{Event}
use Rattle.world_laws.specs.World.Event.TheVariants as event
use Rattle.world_laws.specs.World.OwnStep.TheVariants as own
use Rattle.world_laws.specs.World.Connections.{is_alive}
use Rattle.world_laws.specs.World.Parts.{Leading, Primary, no_primary, leads}
use Rattle.world_laws.specs.World.Worlds.{World}
use Rattle.play_model.specs.declared.recoveries.Recovery.{Recovery}

-- WHAT IS DUE

-- there is something to be done
abbrev pub acts : OwnStep → Bool
acts step.Waits = false
acts other = true

-- A primary that leads has an own step as long as its node lives on, where it waits for no answer.
abbrev pub leads_due : World → Leading → Bool
leads_due w l = is_alive w l.at && (is_none l.told && acts (own_step l.state).does)

-- So has one that hasn't begun, and may.
abbrev pub primary_due : Primary → World → Recovery → Bool
primary_due no_primary w r = r.may_begin && w.running r.node.0
primary_due (leads l) w r = leads_due w l
primary_due other w r = false

abbrev pub recovery_due : World → Recovery → Bool
recovery_due w r = primary_due (w.primaries r.primary) w r

-- WHAT HAPPENS THEN

-- the office answers the primary
abbrev pub primary_asks : Recovery → Event
primary_asks r = event.Office (caller.Primary r.primary r.block)

-- the primary begins, and these dials are answered if their nodes run
abbrev pub begins_so : Recovery → List Bool → Event
begins_so r answers = event.Own (own.Recover r.primary r.node r.block r.members answers)

-- all are
abbrev pub all_answered : List NodeId → List Bool
all_answered members = map (λ n. true) members

-- the primary goes on
abbrev pub goes_on : Recovery → Event
goes_on r = event.Own (own.Primary r.primary)

-- to commit it asks the office first
abbrev pub leads_events : OwnStep → Recovery → List Event
leads_events (step.Commits c) r = primary_asks r ∷ (goes_on r ∷ [])
leads_events other r = goes_on r ∷ []

-- To begin it asks the office, too.
abbrev pub primary_events : Primary → Recovery → List Event
primary_events (leads l) r = leads_events (own_step l.state).does r
primary_events other r = primary_asks r ∷ (begins_so r (all_answered r.members) ∷ [])

abbrev pub recovery_events : World → Recovery → List Event
recovery_events w r = primary_events (w.primaries r.primary) r

-- WHERE A NODE STOPS

-- a primary at the node that hasn't begun never does
abbrev pub stopped_at : NodeId → Recovery → Recovery
stopped_at node r = if r.node.0 == node.0 then record r { may_begin = false } else r

-- the primary of the line of this number is to recover a block with these members, where its node runs
abbrev pub recovery_at : World → ℕ → BlockId → NodeId → List NodeId → Recovery
recovery_at w number b node members = record {
  primary = number;
  node = node;
  block = b;
  members = members;
  may_begin = w.running node.0;
}
