-- Members stand in chains: each mirror has fewer members below.
use Rattle.std.proofs.Common.{◌≡◌, ℕ, ◌<◌, ◌≤◌, ◌+◌, Bool, true, false, List, [], ◌∷◌, ◌++◌, slice_get, Option, Some, None, IfSome, refl, sym, ap, ◌∙◌, subst, arith, eqb-true}
use Rattle.std.specs.Prelude.{◌==◌, if◌then◌else◌}
use Rattle.std.proofs.lemmas.Option.{none-some}
use Rattle.replica_core.specs.declared.refusals.Refusal.TheVariants as refusal
use Rattle.replica_model.specs.declared.events.ReplicaEvent.{ReplicaEvent}
use Rattle.replica_model.specs.declared.events.ReplicaEvent.TheVariants as replica_event
use Rattle.member_core.specs.declared.effects.Shuts.{Shuts}
use Rattle.member_core.specs.declared.effects.Shuts.TheVariants as shuts
use Rattle.member_core.specs.declared.turns.Booked.{Booked}
use Rattle.member_core.specs.declared.turns.Booked.TheVariants as booked
use Rattle.member_core.specs.declared.turns.Side.{Side}
use Rattle.member_core.specs.declared.turns.Side.TheVariants as side
use Rattle.member_core.specs.declared.turns.Turn.{Turn}
use Rattle.member_core.specs.Members.{MemberState, closed, closed_by, bad_sum, settled}
use Rattle.world.specs.Parts.{Message, FullMember, Lower, idle, writes, serves, recovers, ended_below}
use Rattle.world.specs.Worlds.{World, Change, apply}
use Rattle.world_settling.specs.Traffic.{hops_of, hops}
use Rattle.world_settling.proofs.Frame.{old-downs}
use Rattle.world_settling.proofs.Begun.{AllBegun}
use Rattle.world_settling.proofs.LowerUntouching.{Untouched}

-- A member has its connection's number; its mirror was dialled, and has fewer members below.
pub record Linked (w : World) (c : ℕ) (m : FullMember) : Type 0 where
  pub here : c < w.next_conn
  pub conn : m.state.conn.0 ≡ c
  pub known : IfSome m.mirror (λ d. d < w.next_conn)
  pub fewer : IfSome m.mirror (λ d. hops w d + 1 ≤ hops w c)

abbrev pub LinkedAt : World → ℕ → Lower → Type 0
LinkedAt w c (writes m) = Linked w c m
LinkedAt w c _ = Unit {0}

pub record AllLinked (w : World) : Type 0 where
  pub lowers : (c : ℕ) → LinkedAt w c (w.lowers c)

-- LATER

first-kept : (xs ys : List Message) (m : Message) → slice_get xs 0 ≡ Some m → slice_get (xs ++ ys) 0 ≡ slice_get xs 0
first-kept [] ys m e = absurd (none-some m e)
first-kept (x ∷ xs) ys m e = refl

pub hops-later : (w : World) (k : Change) (c : ℕ) → AllBegun w → c < w.next_conn → hops (apply w k) c ≡ hops w c
unfolding apply
hops-later w k c b lt =
    let f = b.first c lt in
    ap (λ (xs : List Message). hops_of (slice_get xs 0)) (old-downs w k c lt) ∙ ap hops_of (first-kept (w.downs c) (k.downs c) f.message f.is)

pub conns-later : (w : World) (k : Change) → w.next_conn ≤ (apply w k).next_conn
unfolding apply
conns-later w k = omega arith

pub linked-later : (w : World) (k : Change) (c : ℕ) (m : FullMember) → AllBegun w → Linked w c m → Linked (apply w k) c m
linked-later w k c m b h = record { here = omega (arith, h.here, conns-later w k); conn = h.conn; known = at m.mirror h.known; fewer = less m.mirror h.known h.fewer }
  where
    at : (o : Option ℕ) → IfSome o (λ d. d < w.next_conn) → IfSome o (λ d. d < (apply w k).next_conn)
    at None l = tt
    at (Some d) l = omega (arith, l, conns-later w k)

    less : (o : Option ℕ) → IfSome o (λ d. d < w.next_conn) → IfSome o (λ d. hops w d + 1 ≤ hops w c) → IfSome o (λ d. hops (apply w k) d + 1 ≤ hops (apply w k) c)
    less None l f = tt
    less (Some d) l f = let x = hops-later w k d b l in let y = hops-later w k c b h.here in omega (arith, f, x, y)

lower-later : (w : World) (k : Change) (c : ℕ) (l : Lower) → AllBegun w → LinkedAt w c l → LinkedAt (apply w k) c l
lower-later w k c (writes m) b h = linked-later w k c m b h
lower-later w k c idle b h = tt
lower-later w k c (serves n s) b h = tt
lower-later w k c recovers b h = tt
lower-later w k c ended_below b h = tt

table : (w : World) (k : Change) (c : ℕ) → (apply w k).lowers c ≡ (if c == k.lower_at then k.lower else w.lowers c)
unfolding apply
table w k c = refl

pub apply-linked : (w : World) (k : Change) → AllBegun w → AllLinked w → LinkedAt (apply w k) k.lower_at k.lower → AllLinked (apply w k)
apply-linked w k b h new = record { lowers = λ c. subst (λ (l : Lower). LinkedAt (apply w k) c l) (sym (table w k c)) (at c (c == k.lower_at) refl) }
  where
    at : (c : ℕ) (t : Bool) → (c == k.lower_at) ≡ t → LinkedAt (apply w k) c (if t then k.lower else w.lowers c)
    at c true e = subst (λ (i : ℕ). LinkedAt (apply w k) i k.lower) (sym (eqb-true c k.lower_at e)) new
    at c false e = lower-later w k c (w.lowers c) b (h.lowers c)

pub untouched-linked : (w : World) (k : Change) → AllBegun w → AllLinked w → Untouched w k → AllLinked (apply w k)
untouched-linked w k b h u =
    apply-linked w k b h (subst (λ (l : Lower). LinkedAt (apply w k) k.lower_at l) (sym u.lower) (lower-later w k k.lower_at (w.lowers k.lower_at) b (h.lowers k.lower_at)))

-- A TURN LEAVES A MEMBER ITS CONNECTION

closed-conn : (s : Side) (m : MemberState) → (closed s m).conn ≡ m.conn
closed-conn side.Receiver m = refl
closed-conn side.Responder m = refl

closed-by-conn : (x : Shuts) (s : Side) (m : MemberState) → (closed_by x s m).conn ≡ m.conn
closed-by-conn shuts.Nothing s m = refl
closed-by-conn shuts.Mirror s m = closed-conn s m
closed-by-conn shuts.Both s m = closed-conn s m

bad-conn : (m : MemberState) (o : Option ReplicaEvent) (t : Turn) → (bad_sum m o t).0.conn ≡ m.conn
bad-conn m (Some (replica_event.Packet conn p)) t = refl
bad-conn m (Some (replica_event.Other e)) t = closed-conn t.side m
bad-conn m None t = closed-conn t.side m

pub settled-conn : (m : MemberState) (t : Turn) (b : Booked) → (settled m t b).0.conn ≡ m.conn
settled-conn m t booked.Taken = closed-by-conn t.effect.shuts t.side (record m { mirror = t.mirror })
settled-conn m t booked.Failed = closed-conn t.side m
settled-conn m t (booked.Refused (refusal.BadSum k)) = bad-conn m t.call t
settled-conn m t (booked.Refused refusal.NoReplica) = closed-conn t.side m
settled-conn m t (booked.Refused refusal.Exists) = closed-conn t.side m
settled-conn m t (booked.Refused (refusal.WrongState a)) = closed-conn t.side m
settled-conn m t (booked.Refused (refusal.Stale a b e)) = closed-conn t.side m
settled-conn m t (booked.Refused (refusal.LengthOut a b d e)) = closed-conn t.side m
settled-conn m t (booked.Refused refusal.NotWriter) = closed-conn t.side m
settled-conn m t (booked.Refused (refusal.Gap a b)) = closed-conn t.side m
settled-conn m t (booked.Refused (refusal.Piece a)) = closed-conn t.side m
settled-conn m t (booked.Refused refusal.Broken) = closed-conn t.side m
settled-conn m t (booked.Refused (refusal.RecoveryHeld a)) = closed-conn t.side m
settled-conn m t (booked.Refused (refusal.Seqno a b)) = closed-conn t.side m
settled-conn m t (booked.Refused (refusal.OutOfRange a)) = closed-conn t.side m
