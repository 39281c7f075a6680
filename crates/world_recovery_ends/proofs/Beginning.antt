-- A primary that the office has told begins at each node that runs, after every list of events.
use Rattle.std.proofs.Common.{◌≡◌, ℕ, Bool, true, List, Option, Some, None, Ok, Err, refl, ap, ◌∙◌, subst}
use Rattle.std.specs.Prelude.{is_some}
use Rattle.hd_base.specs.declared.numbers.BlockId.{BlockId}
use Rattle.hd_base.specs.declared.numbers.NodeId.{NodeId}
use Rattle.name_core.specs.declared.calls.OfficeAnswer.TheVariants as office
use Rattle.world.specs.declared.events.Event.{Event}
use Rattle.world.specs.declared.events.Event.TheVariants as event
use Rattle.world.specs.declared.events.OwnStep.TheVariants as own
use Rattle.world.specs.Parts.{Place, Told, Primary, was_told}
use Rattle.world.specs.Worlds.{World, Change, start}
use Rattle.world.specs.Connections.{place_of}
use Rattle.world.specs.Clients.{are_members}
use Rattle.world.specs.Primaries.{begins_as, begins_at}
use Rattle.world.specs.Events.{changed, is_enabled, outcome, run}
use Rattle.world_orders.proofs.Kept.{eqb-itself}
use Rattle.world_recovery_ends.proofs.Leading.{AnswersBeginning, PrimaryFits}
use Rattle.world_recovery_ends.proofs.AllLeading.{all-fit}

changed-some : (w : World) (o : Option Change) → is_some (changed w o) ≡ is_some o
changed-some w None = refl
changed-some w (Some k) = refl

begins-some : (t : Told) (w : World) (i : ℕ) (at : Place) (b : BlockId) (members : List NodeId) (answers : List Bool) → AnswersBeginning t → is_some (begins_as t w i at b members answers) ≡ true
begins-some (Ok (office.Stamp s)) w i at b members answers a = absurd a
begins-some (Ok (office.Reopened r)) w i at b members answers a = absurd a
begins-some (Ok (office.Begun begun)) w i at b members answers a = refl
begins-some (Ok office.Nothing) w i at b members answers a = absurd a
begins-some (Err fault) w i at b members answers a = refl

may-begin : (w : World) (i : ℕ) (b : BlockId) (t : Told) → w.primaries i ≡ was_told b t → AnswersBeginning t → (node : NodeId) (members : List NodeId) (answers : List Bool) → w.running node.0 ≡ true → are_members members ≡ true
    → is_enabled w (event.Own (own.Recover i node b members answers)) ≡ true
unfolding outcome
may-begin w i b t is a node members answers runs formed =
    changed-some w (begins_at (w.primaries i) w i node.0 b members answers)
    ∙ ap (λ (q : Primary). is_some (begins_at q w i node.0 b members answers)) is
    ∙ rw (eqb-itself b.0) (rw runs (rw formed (begins-some t w i (place_of w node.0) b members answers a)))

pub all-may-begin : (nodes : ℕ) (events : List Event) (i : ℕ) (b : BlockId) (t : Told) → (run (start nodes) events).primaries i ≡ was_told b t → (node : NodeId) (members : List NodeId) (answers : List Bool)
    → (run (start nodes) events).running node.0 ≡ true → are_members members ≡ true → is_enabled (run (start nodes) events) (event.Own (own.Recover i node b members answers)) ≡ true
all-may-begin nodes events i b t is node members answers runs formed =
    may-begin (run (start nodes) events) i b t is (subst (PrimaryFits (run (start nodes) events)) is (all-fit nodes events i)) node members answers runs formed
