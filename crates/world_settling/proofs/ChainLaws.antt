-- Members stand in chains after every event of a lower end but a write request.
use Rattle.std.proofs.Common.{◌≡◌, ℕ, Bool, true, false, Option, Some, None, IfSome, ap, ◌∙◌, subst}
use Rattle.hd_base.specs.declared.numbers.ConnId.{ConnId}
use Rattle.replica_model.specs.declared.events.ReplicaEvent.{ReplicaEvent}
use Rattle.member_core.specs.declared.turns.Booked.TheVariants as booked
use Rattle.member_core.specs.declared.turns.Turn.{Turn}
use Rattle.member_core.specs.Members.{hears, down_turn, up_turn}
use Rattle.member_core.specs.Steps.{Step, step, faulted_step, outcome_of, oldest_at, ready_turn_at}
use Rattle.world.specs.Parts.{FullMember, Lower, writes, Break}
use Rattle.world.specs.Worlds.{World, Change, apply}
use Rattle.world.specs.Connections.{Next, the_end}
use Rattle.world.specs.Nodes.{replica_at, block_of, above_of, below_of, pending_at, takes_next, member_change, failing_turn, turn_change, member_down, member_up, ready_change, member_ready}
use Rattle.world_settling.proofs.Outer.{when-each}
use Rattle.world_settling.proofs.Begun.{AllBegun}
use Rattle.world_settling.proofs.Chains.{Linked, LinkedAt, AllLinked, linked-later, apply-linked, settled-conn}

-- the world after a change has chains
pub record Keeps (w : World) (k : Change) : Type 0 where
  pub linked : AllLinked (apply w k)

linked-of : (w : World) (c : ℕ) (m : FullMember) → AllLinked w → w.lowers c ≡ writes m → Linked w c m
linked-of w c m h e = subst (λ (l : Lower). LinkedAt w c l) e (h.lowers c)

member-keeps : (w : World) (c : ℕ) (m : FullMember) (x : Next) (s : Step) (b : Option Break) → AllBegun w → AllLinked w → w.lowers c ≡ writes m → s.member.conn ≡ m.state.conn
    → Keeps w (member_change w c m x s b)
member-keeps w c m x s b begun h e same =
    let k : Change = member_change w c m x s b in
    let old = linked-later w k c m begun (linked-of w c m h e) in
    record { linked = apply-linked w k begun h (record { here = old.here; conn = ap (λ (i : ConnId). i.0) same ∙ old.conn; known = old.known; fewer = old.fewer }) }

failing-keeps : (w : World) (c : ℕ) (m : FullMember) (x : Next) (t : Turn) (o : Option ReplicaEvent) → AllBegun w → AllLinked w → w.lowers c ≡ writes m → IfSome (failing_turn w c m x t o) (Keeps w)
failing-keeps w c m x t None begun h e = tt
failing-keeps w c m x t (Some call) begun h e =
    member-keeps w c m x (faulted_step m.state (replica_at w c (block_of m.fields)) t) _ begun h e (settled-conn m.state t booked.Failed)

turn-keeps : (w : World) (c : ℕ) (m : FullMember) (x : Next) (t : Turn) (fails : Bool) → AllBegun w → AllLinked w → w.lowers c ≡ writes m → IfSome (turn_change w c m x t fails) (Keeps w)
turn-keeps w c m x t true begun h e = failing-keeps w c m x t t.call begun h e
turn-keeps w c m x t false begun h e =
    member-keeps w c m x (step m.state (replica_at w c (block_of m.fields)) t) _ begun h e (settled-conn m.state t (outcome_of (replica_at w c (block_of m.fields)) t.call))

pub down-keeps : (w : World) (c : ℕ) (m : FullMember) (x : Next) (fails : Bool) → AllBegun w → AllLinked w → w.lowers c ≡ writes m → IfSome (member_down w c m x fails) (Keeps w)
down-keeps w c m x fails begun h e = when-each (Keeps w) (takes_next m.state (pending_at w c m) x) _ (λ q. turn-keeps w c m x (down_turn m.state (above_of x)) fails begun h e)

pub up-keeps : (w : World) (c : ℕ) (m : FullMember) (x : Next) (fails : Bool) → AllBegun w → AllLinked w → w.lowers c ≡ writes m → IfSome (member_up w c m x fails) (Keeps w)
up-keeps w c m x fails begun h e =
    when-each (Keeps w) (hears m.state) _ (λ q. turn-keeps w c m x (up_turn m.state (oldest_at (replica_at w c (block_of m.fields))) (below_of x)) fails begun h e)

ready-as : (w : World) (c : ℕ) (m : FullMember) (o : Option Turn) (fails : Bool) → AllBegun w → AllLinked w → w.lowers c ≡ writes m → IfSome (ready_change w c m o fails) (Keeps w)
ready-as w c m None fails begun h e = tt
ready-as w c m (Some t) fails begun h e = turn-keeps w c m the_end t fails begun h e

pub ready-keeps : (w : World) (c : ℕ) (m : FullMember) (fails : Bool) → AllBegun w → AllLinked w → w.lowers c ≡ writes m → IfSome (member_ready w c m fails) (Keeps w)
ready-keeps w c m fails begun h e = ready-as w c m (ready_turn_at m.state (replica_at w c (block_of m.fields))) fails begun h e
