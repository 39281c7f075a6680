-- The world after a request of a recovery was answered, or its connection ended.
use Rattle.std.proofs.Common.{◌≡◌, ℕ, ◌-◌, ◌&&◌, Bool, true, false, if◌then◌else◌, List, [], ◌++◌, slice_get, option_map, Option, Some, None, refl, sym, ap, ◌∙◌, subst}
use Rattle.std.specs.Prelude.{◌==◌, nat_le, unwrap_or}
use Rattle.std.proofs.lemmas.Bool.{eqb-true}
use Rattle.op_headers.specs.declared.ops.RecoveryOp.{RecoveryOp}
use Rattle.block_recovery.specs.RecoveryCore.Members.{Served}
use Rattle.world_orders.specs.World.Event.{Event}
use Rattle.world_orders.specs.World.Parts.{Message, Break, Dialled, recovers, ended_below}
use Rattle.world_orders.specs.World.Worlds.{World, Dial, put_at, apply}
use Rattle.world_orders.specs.World.Nodes.{node_of, replica_at, closing, recovery_change}
use Rattle.world_orders.specs.World.Events.{outcome, happens}
use Rattle.member_events.proofs.WorldLaws.{at_put, at_put_at, sent_here, happened}
use Rattle.recovery_events.specs.Drawn.{asked_block}
use Rattle.recovery_events.specs.Sending.{answer_messages}

none_dialled : (q : Bool) (k : ℕ) (d : Dialled) → unwrap_or (option_map (λ (x : Dial). x.dialled) (if q then slice_get [] k else None)) d ≡ d
none_dialled true k d = refl
none_dialled false k d = refl

same_node : (w : World) (c : ℕ) → (unwrap_or (option_map (λ (x : Dial). x.dialled) (if nat_le w.next_conn c then slice_get [] (c - w.next_conn) else None)) (w.dialled c)).to.node ≡ node_of w c
same_node w c = ap (λ (d : Dialled). d.to.node) (none_dialled (nat_le w.next_conn c) (c - w.next_conn) (w.dialled c))

-- AN ANSWER

-- A request was answered at the lower end of the connection, which goes on.
pub record AnsweredWorld (w v : World) (c b : ℕ) (s : Served) : Type 0 where
  pub lower : v.lowers c ≡ recovers
  pub replica : replica_at v c b ≡ s.replica
  pub ups : v.ups c ≡ w.ups c ++ answer_messages s

answered : (w : World) (c : ℕ) (r : RecoveryOp) (s : Served) (b : Option Break) (e : Event) → AnsweredWorld w (record (apply w (recovery_change w c r s b)) { last = Some e }) c (asked_block r) s
unfolding apply
answered w c r s b e = record {
  lower = at_put w.lowers c recovers;
  replica = ap (λ (n : ℕ). put_at w.replicas (node_of w c) (asked_block r) s.replica n (asked_block r)) (same_node w c) ∙ at_put_at w.replicas (node_of w c) (asked_block r) s.replica;
  ups = ap (λ (ms : List Message). w.ups c ++ ms) (sent_here c (answer_messages s));
}

pub answered_world : (w w1 : World) (c : ℕ) (r : RecoveryOp) (s : Served) (b : Option Break) (e : Event) → outcome w e ≡ Some (apply w1 (recovery_change w1 c r s b)) → AnsweredWorld w1 (happens w e) c (asked_block r) s
answered_world w w1 c r s b e out = subst (λ (v : World). AnsweredWorld w1 v c (asked_block r) s) (sym (happened w (apply w1 (recovery_change w1 c r s b)) e out)) (answered w1 c r s b e)

-- AN END

put_same : {A : Type 0} (f : ℕ → ℕ → A) (i k j l : ℕ) → put_at f i k (f i k) j l ≡ f j l
put_same f i k j l = pick (j == i) (l == k) refl refl
  where
    pick : (p q : Bool) → (j == i) ≡ p → (l == k) ≡ q → (if p && q then f i k else f j l) ≡ f j l
    pick true true a b = λ t. f (sym (eqb-true j i a) t) (sym (eqb-true l k b) t)
    pick true false a b = refl
    pick false q a b = refl

-- The connection has ended, and no replica was changed.
pub record EndedWorld (w v : World) (c : ℕ) : Type 0 where
  pub lower : v.lowers c ≡ ended_below
  pub replica : (b : ℕ) → replica_at v c b ≡ replica_at w c b

closed : (w : World) (c : ℕ) (e : Event) → EndedWorld w (record (apply w (closing w c)) { last = Some e }) c
unfolding apply
closed w c e = record {
  lower = at_put w.lowers c ended_below;
  replica = λ b. put_same w.replicas 0 0 _ b ∙ ap (λ (n : ℕ). w.replicas n b) (same_node w c);
}

pub ended_world : (w w1 : World) (c : ℕ) (e : Event) → outcome w e ≡ Some (apply w1 (closing w1 c)) → EndedWorld w1 (happens w e) c
ended_world w w1 c e out = subst (λ (v : World). EndedWorld w1 v c) (sym (happened w (apply w1 (closing w1 c)) e out)) (closed w1 c e)
