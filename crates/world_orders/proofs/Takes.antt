-- Which kind of message an end takes next, in a world whose messages come in order.
use Rattle.std.proofs.Common.{◌≡◌, ℕ, ◌<◌, Bool, true, false, Option, IfSome, refl, subst}
use Rattle.world_laws.specs.MemberCore.Mirror.{Mirror}
use Rattle.world_laws.specs.MemberCore.Mirror.TheVariants as mirror
use Rattle.world_laws.specs.MemberCore.Members.{is_heard}
use Rattle.world_laws.specs.World.Parts.{Upper, idle, writes}
use Rattle.world_laws.specs.World.Worlds.{World}
use Rattle.world_orders.specs.Orders.{Purpose, pipeline, comes_down, comes_up, purpose_of, is_first, is_requested, IsBelow, IsMember, HasHeard, IsMirror, MirrorIs, IsWriterConn, Ordered}
use Rattle.world_orders.specs.Takes.{is_asked, TakesInOrder}
use Rattle.world_orders.proofs.Lists.{not-first, first-of}
use Rattle.world_orders.proofs.Turns.{hears-both}
use Rattle.world_orders.proofs.Writing.{asked-none, streams-some}
use Rattle.world_orders.proofs.AllOrdered.{next-found}

-- where a mirror is heard, as much was taken of it as it has answered
mirror-first : (q : Mirror) (n : ℕ) → is_heard q ≡ true → HasHeard q n → is_first n ≡ is_asked q
mirror-first mirror.Asked n e h = first-of n h
mirror-first mirror.Open n e h = not-first n h
mirror-first mirror.Nobody n e h = cc
mirror-first mirror.Unreachable n e h = cc
mirror-first mirror.Ended n e h = cc

writer-first : (b : Bool) (n : ℕ) → (b ≡ true → n ≡ 0) → (b ≡ false → 0 < n) → is_first n ≡ b
writer-first true n h k = first-of n (h refl)
writer-first false n h k = not-first n (k refl)

pub takes-in-order : (w : World) → Ordered w → TakesInOrder w
takes-in-order w h = record {
  first = λ c m l e.
      let here : IsBelow (w.dialled c).upper (w.down_marks c).taken (w.ups c) idle = subst (IsBelow (w.dialled c).upper (w.down_marks c).taken (w.ups c)) l (h.below c) in
      subst (λ (b : Bool). comes_down (purpose_of (w.dialled c).upper) b m ≡ true) (first-of _ here.0) (h.downs c (w.down_marks c).taken m (next-found (w.downs c) (w.down_marks c) m e));
  packets = λ c x m l e.
      let here : IsMember (w.dialled c).upper (w.down_marks c).taken (w.ups c) x.state.mirror = subst (IsBelow (w.dialled c).upper (w.down_marks c).taken (w.ups c)) l (h.below c) in
      subst (λ (q : Purpose). comes_down q false m ≡ true) here.writes
      (subst (λ (b : Bool). comes_down (purpose_of (w.dialled c).upper) b m ≡ true) (not-first _ here.asked) (h.downs c (w.down_marks c).taken m (next-found (w.downs c) (w.down_marks c) m e)));
  mirrors = λ d c x m l is heard e.
      let was : MirrorIs w.dialled w.up_marks d (writes x) = subst (MirrorIs w.dialled w.up_marks d) l (h.mirrors d) in
      let k : IsMirror (w.dialled c) (w.up_marks c).taken d c x.state = subst (λ (z : Option ℕ). IfSome z (λ n. IsMirror (w.dialled n) (w.up_marks n).taken d n x.state)) is was in
      subst (λ (b : Bool). comes_up pipeline b m ≡ true) (mirror-first x.state.mirror _ (hears-both x.state heard).1 (k.heard heard))
      (subst (λ (u : Upper). comes_up (purpose_of u) (is_first (w.up_marks c).taken) m ≡ true) k.upper (h.ups c (w.up_marks c).taken m (next-found (w.ups c) (w.up_marks c) m e)));
  writers_hear = λ b c m is e.
      let k : IsWriterConn (w.dialled c) (w.up_marks c).taken b (w.writers b).known = subst (λ (z : Option ℕ). IfSome z (λ n. IsWriterConn (w.dialled n) (w.up_marks n).taken b (w.writers b).known)) is (h.writers_are b) in
      subst (λ (v : Bool). comes_up pipeline v m ≡ true)
      (writer-first (is_requested (w.writers b).known.phase) _ (λ f. (asked-none _ _ _ k.heard f).0) (λ f. streams-some _ _ _ k.heard f))
      (subst (λ (u : Upper). comes_up (purpose_of u) (is_first (w.up_marks c).taken) m ≡ true) k.upper (h.ups c (w.up_marks c).taken m (next-found (w.ups c) (w.up_marks c) m e)));
}
