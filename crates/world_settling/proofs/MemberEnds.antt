-- What members do lowers what is to be delivered.
use Rattle.std.proofs.Common.{◌≡◌, ℕ, ◌≤◌, Bool, true, false, Option, Some, None, IfSome, refl, arith}
use Rattle.std.specs.Prelude.{◌&&◌}
use Rattle.replica_core.specs.declared.events.Event.TheVariants as event
use Rattle.replica_model.specs.declared.events.ReplicaEvent.{ReplicaEvent}
use Rattle.replica_model.specs.Rows.{FullReplica}
use Rattle.member_core.specs.declared.turns.Turn.{Turn}
use Rattle.member_core.specs.Members.{hears, is_heard, up_turn}
use Rattle.member_core.specs.Steps.{Step, step, faulted_step, oldest_at, ready_turn_at}
use Rattle.world.specs.Parts.{FullMember, Break}
use Rattle.world.specs.Worlds.{World}
use Rattle.world.specs.Connections.{Next, the_end}
use Rattle.world.specs.Nodes.{replica_at, block_of, below_of, passed, member_change, failing_turn, turn_change, ready_change, member_ready, member_up}
use Rattle.world_settling.specs.Traffic.{entries_by}
use Rattle.world_settling.proofs.Outer.{when-each}
use Rattle.world_settling.proofs.Rows.{other-calm}
use Rattle.world_settling.proofs.Taking.{up_paid}
use Rattle.world_settling.proofs.Clients.{Falls, up-pays}
use Rattle.world_settling.proofs.Members.{onward, Stands, member-frame}
use Rattle.world_settling.proofs.Turns.{Balances, Ready, ready-acts, up-ready, fault-balances}

nothing-on : (w : World) (o : Option ℕ) (b : Bool) (x : Next) → b ≡ false → onward w o (passed b x) ≡ 0
nothing-on w None b x e = refl
nothing-on w (Some d) b x e = rw e refl

step-falls : (w : World) (c : ℕ) (m : FullMember) (x : Next) (s : Step) (b : Option Break) (paid : ℕ) → Stands w c m
    → ((i : ℕ) → entries_by i s.replica.known ≤ entries_by i (replica_at w c (block_of m.fields)).known)
    → Balances c m (replica_at w c (block_of m.fields)) s paid → Falls w paid (member_change w c m x s b)
step-falls w c m x s b paid st calm k =
    let frame = member-frame w c m x s b st (λ i ne. calm i) in
    let on = nothing-on w m.mirror s.effect.forwards x k.forwards in
    record { is = omega (arith, frame, on, k.is) }

failing-falls : (w : World) (c : ℕ) (m : FullMember) (x : Next) (t : Turn) (o : Option ReplicaEvent) (paid : ℕ) → Stands w c m → m.state.responds ≡ true
    → Ready c m (replica_at w c (block_of m.fields)) paid t → IfSome (failing_turn w c m x t o) (Falls w paid)
failing-falls w c m x t None paid st responds h = tt
failing-falls w c m x t (Some e) paid st responds h =
    let r : FullReplica = replica_at w c (block_of m.fields) in
    step-falls w c m x (faulted_step m.state r t) _ paid st (λ i. other-calm i r.known event.FileFault refl) (fault-balances c m r t paid responds h.side)

turn-falls : (w : World) (c : ℕ) (m : FullMember) (x : Next) (t : Turn) (fails : Bool) (paid : ℕ) → Stands w c m → m.state.responds ≡ true
    → Ready c m (replica_at w c (block_of m.fields)) paid t → IfSome (turn_change w c m x t fails) (Falls w paid)
turn-falls w c m x t true paid st responds h = failing-falls w c m x t t.call paid st responds h
turn-falls w c m x t false paid st responds h = step-falls w c m x (step m.state (replica_at w c (block_of m.fields)) t) _ paid st h.calm h.balances

-- WITHOUT A MESSAGE

ready-as : (w : World) (c : ℕ) (m : FullMember) (o : Option Turn) (fails : Bool) → Stands w c m → m.state.conn.0 ≡ c
    → ready_turn_at m.state (replica_at w c (block_of m.fields)) ≡ o → IfSome (ready_change w c m o fails) (Falls w 0)
ready-as w c m None fails st is e = tt
ready-as w c m (Some t) fails st is e =
    let a = ready-acts c m (replica_at w c (block_of m.fields)) t is e in turn-falls w c m the_end t fails 0 st a.responds a.ready

pub ready-falls : (w : World) (c : ℕ) (m : FullMember) (fails : Bool) → Stands w c m → m.state.conn.0 ≡ c → IfSome (member_ready w c m fails) (Falls w 0)
ready-falls w c m fails st is = ready-as w c m (ready_turn_at m.state (replica_at w c (block_of m.fields))) fails st is refl

-- FROM THE MIRROR

pub up-falls : (w : World) (c : ℕ) (m : FullMember) (x : Next) (fails : Bool) → Stands w c m → m.state.conn.0 ≡ c → IfSome (member_up w c m x fails) (Falls w (up_paid x))
up-falls w c m x fails st is =
    let r : FullReplica = replica_at w c (block_of m.fields) in
    when-each (Falls w (up_paid x)) (hears m.state) _
    (λ e. let responds = hears-responds m.state.responds (is_heard m.state.mirror) e in
    turn-falls w c m x (up_turn m.state (oldest_at r) (below_of x)) fails (up_paid x) st responds (up-ready c m r (below_of x) (up_paid x) responds is (up-pays x)))
  where
    hears-responds : (a b : Bool) → (a && b) ≡ true → a ≡ true
    hears-responds true b e = refl
    hears-responds false b e = absurd (never e)
      where
        never : false ≡ true → ⊥
        never q = cc
