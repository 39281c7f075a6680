-- Where a replica grows, its member called its book: so that call may fail.
use Rattle.std.proofs.Common.{◌≡◌, ℕ, ◌<◌, Bool, true, false, length, Option, Some, None, option_map, refl, ap, ◌∙◌, arith}
use Rattle.std.specs.Prelude.{◌==◌, ◌&&◌, nat_lt, nat_le, is_some, unwrap_or, if◌then◌else◌}
use Rattle.std.proofs.lemmas.Bool.{false≢true}
use Rattle.std.proofs.lemmas.Bool.Decides.{nat_tests}
use Rattle.hd_base.specs.declared.numbers.ConnId.{ConnId}
use Rattle.world.specs.MemberCore.Members.{down_turn}
use Rattle.world.specs.MemberCore.Steps.{step, replica_after}
use Rattle.world.specs.MemberCore.Turn.{Turn}
use Rattle.world.specs.ReplicaModel.ReplicaEvent.{ReplicaEvent}
use Rattle.world.specs.ReplicaModel.Rows.{FullReplica}
use Rattle.world.specs.declared.events.Event.{Event}
use Rattle.world.specs.declared.events.Event.TheVariants as event
use Rattle.world.specs.Parts.{Dialled, FullMember, Lower, idle, writes, serves, recovers, ended_below}
use Rattle.world.specs.Worlds.{World, Dial, apply, put_at}
use Rattle.world.specs.Connections.{Next, next_down, down_taken, is_served}
use Rattle.world.specs.Nodes.{replica_at, node_of, block_of, above_of, member_change, failing_turn, turn_change, pending_at, takes_next, lower_down}
use Rattle.world.specs.Events.{changed, down_as, outcome, after_event, happens}
use Rattle.world_writes.specs.Writes.{written_at, has_grown, grows}
use Rattle.play_settling.specs.Failing.{WritesMayFail}

not-more : (n m : ℕ) → m ≡ n → nat_lt n m ≡ true → ⊥
not-more n m same h = let k : n < m = grind (arith, nat_tests, h) in omega (arith, k, same)

-- WHERE NO BOOK IS CALLED

either : {A : Type 0} (b : Bool) (x : A) → (if b then x else x) ≡ x
either true x = refl
either false x = refl

undialled : (d : Dialled) (later : Bool) → unwrap_or (option_map (λ (x : Dial). x.dialled) (if later then None else None)) d ≡ d
undialled d true = refl
undialled d false = refl

-- the replica is what it was, at the node at which it was
unmoved : (w : World) (c b : ℕ) (r : FullReplica) (d : Dialled) → d ≡ w.dialled c → r ≡ replica_at w c b → length (put_at w.replicas (node_of w c) b r d.to.node b).bytes ≡ written_at w c b
unmoved w c b r d is same =
    ap (λ (z : Dialled). length (put_at w.replicas (node_of w c) b r z.to.node b).bytes) is
    ∙ (ap (λ (z : FullReplica). length (put_at w.replicas (node_of w c) b z (node_of w c) b).bytes) same
    ∙ ap (λ (z : FullReplica). length z.bytes) (either (node_of w c == node_of w c && b == b) (replica_at w c b)))

module _ (w : World) (c : ConnId) where
  abbrev takes : Event
  takes = event.Down c true

  -- the message was taken
  abbrev taken : Next → World
  taken x = down_taken w c.0 x

  -- a turn that calls no book, and one that does
  uncalled : (m : FullMember) (x : Next) (t : Turn) → t.call ≡ None
      → written_at (apply (taken x) (member_change (taken x) c.0 m x (step m.state (replica_at (taken x) c.0 (block_of m.fields)) t) ((taken x).breaks (node_of (taken x) c.0) (block_of m.fields)))) c.0 (block_of m.fields)
      ≡ written_at w c.0 (block_of m.fields)
  unfolding apply down_taken
  uncalled m x t none =
      unmoved w c.0 (block_of m.fields) (replica_after (replica_at w c.0 (block_of m.fields)) t.call) _ (undialled (w.dialled c.0) (nat_le w.next_conn c.0))
      (ap (replica_after (replica_at w c.0 (block_of m.fields))) none)

  -- A MEMBER

  -- the lower end has grown
  abbrev Grew : Option World → Lower → Type 0
  Grew o l = has_grown w (after_event w takes o) c.0 l ≡ true

  turn-fails : (m : FullMember) (x : Next) (t : Turn) (call : Option ReplicaEvent) → t.call ≡ call → Grew (changed (taken x) (turn_change (taken x) c.0 m x t false)) (writes m)
      → is_some (changed (taken x) (failing_turn (taken x) c.0 m x t call)) ≡ true
  turn-fails m x t None none h = absurd (not-more (written_at w c.0 (block_of m.fields)) _ (uncalled m x t none) h)
  turn-fails m x t (Some e) is h = refl

  unchanged : {A : Type 0} (l : Lower) → Grew None l → A
  unchanged (writes m) h = absurd (not-more (written_at w c.0 (block_of m.fields)) (written_at w c.0 (block_of m.fields)) refl h)
  unchanged idle h = absurd (false≢true h)
  unchanged (serves b s) h = absurd (false≢true h)
  unchanged recovers h = absurd (false≢true h)
  unchanged ended_below h = absurd (false≢true h)

  takes-fail : (m : FullMember) (x : Next) (t : Turn) (may : Bool) → Grew (changed (taken x) (if may then turn_change (taken x) c.0 m x t false else None)) (writes m)
      → is_some (changed (taken x) (if may then turn_change (taken x) c.0 m x t true else None)) ≡ true
  takes-fail m x t true h = turn-fails m x t t.call refl h
  takes-fail m x t false h = unchanged (writes m) h

  -- WHATEVER STANDS BELOW

  lower-fails : (l : Lower) (x : Next) → Grew (changed (taken x) (lower_down l (taken x) c.0 x true false)) l → is_some (changed (taken x) (lower_down l (taken x) c.0 x false true)) ≡ true
  lower-fails (writes m) x h = takes-fail m x (down_turn m.state (above_of x)) (takes_next m.state (pending_at (taken x) c.0 m) x) h
  lower-fails idle x h = absurd (false≢true h)
  lower-fails (serves b s) x h = absurd (false≢true h)
  lower-fails recovers x h = absurd (false≢true h)
  lower-fails ended_below x h = absurd (false≢true h)

  next-fails : (o : Option Next) → Grew (down_as w c.0 true false o) (w.lowers c.0) → is_some (down_as w c.0 false true o) ≡ true
  next-fails None h = unchanged (w.lowers c.0) h
  next-fails (Some x) h = lower-fails (w.lowers c.0) x h

  served-fails : (served : Bool) → Grew (if served then down_as w c.0 true false (next_down w c.0) else None) (w.lowers c.0) → is_some (if served then down_as w c.0 false true (next_down w c.0) else None) ≡ true
  served-fails true h = next-fails (next_down w c.0) h
  served-fails false h = unchanged (w.lowers c.0) h

pub writes-may-fail : WritesMayFail
unfolding grows happens outcome
writes-may-fail w c h = served-fails w c (is_served w c.0) h
