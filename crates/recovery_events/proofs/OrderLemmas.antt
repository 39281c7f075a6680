-- What an end that answers a primary takes next, in a world whose messages come in order, and whose recoveries fit.
use Rattle.std.proofs.Common.{◌≡◌, ℕ, true, slice_get, Some, sym, ap, ◌∙◌, subst}
use Rattle.hd_base.specs.declared.numbers.BlockId.{BlockId}
use Rattle.op_headers.specs.declared.ops.Op.TheVariants as op
use Rattle.op_headers.specs.declared.ops.RecoveryOp.{RecoveryOp}
use Rattle.world_orders.specs.World.Parts.{Message, request}
use Rattle.world_orders.specs.World.Worlds.{World}
use Rattle.world_orders.specs.World.Connections.{message, the_end}
use Rattle.world_orders.specs.Orders.{Purpose, recovering, is_recovery, purpose_of, comes_down, is_first, IsBelow, Ordered}
use Rattle.world_orders.proofs.AllOrdered.{next-found}
use Rattle.world_recoveries.specs.Recovering.{Agrees}
use Rattle.recovery_events.specs.Drawn.{asked_block}
use Rattle.recovery_events.specs.Orders.{IsRequestOrEnd, TakeRecoveries, NameOneBlock}

recovery_is : (m : Message) → is_recovery m ≡ true → IsRequestOrEnd (message m)
recovery_is (request (op.Recovery r)) h = tt
recovery_is other h = cc

pub take_recoveries : (w : World) → Ordered w → TakeRecoveries w
take_recoveries w h c (message m) l e =
    let here : purpose_of (w.dialled c).upper ≡ recovering = subst (IsBelow (w.dialled c).upper (w.down_marks c).taken (w.ups c)) l (h.below c) in
    recovery_is m (subst (λ (q : Purpose). comes_down q (is_first (w.down_marks c).taken) m ≡ true) here (h.downs c (w.down_marks c).taken m (next-found (w.downs c) (w.down_marks c) m e)))
take_recoveries w h c the_end l e = tt

same_asked : (a b : RecoveryOp) → Some (request (op.Recovery a)) ≡ Some (request (op.Recovery b)) → a ≡ b
same_asked a b h = cc

pub one_block : (w : World) → ((c i : ℕ) (q : RecoveryOp) → slice_get (w.downs c) i ≡ Some (request (op.Recovery q)) → Agrees w.past c q) → NameOneBlock w
one_block w asks c first asked begins next =
    let k = asks c (w.down_marks c).taken asked (next-found (w.downs c) (w.down_marks c) (request (op.Recovery asked)) next) in
    sym (ap (λ (b : BlockId). b.0) k.block) ∙ ap (λ (q : RecoveryOp). asked_block q) (same_asked k.asked first (sym k.first ∙ begins))
