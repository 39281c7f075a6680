-- What a step of a member leaves of the world as it is.
use Rattle.std.proofs.Common.{◌≡◌, ◌<◌, ◌≤◌, ℕ, ◌-◌, Bool, true, false, Option, Some, refl, sym, ap, ◌∙◌, subst, arith}
use Rattle.std.specs.Prelude.{nat_le}
use Rattle.member_events.specs.MemberCore.Steps.{Step}
use Rattle.play_model.specs.World.Event.{Event}
use Rattle.play_model.specs.World.Parts.{FullMember, writes, Break}
use Rattle.play_model.specs.World.Worlds.{World, apply}
use Rattle.play_model.specs.World.Connections.{Next, down_taken, up_taken}
use Rattle.play_model.specs.World.Nodes.{node_of, block_of, member_change}
use Rattle.play_model.specs.World.Events.{outcome, happens}
use Rattle.member_events.specs.WorldNets.Changes.{world_taken}
use Rattle.play_model.proofs.WorldLaws.StampGivens.{put-there}
use Rattle.member_events.proofs.WorldLaws.{happened}
use Rattle.play_nodes.proofs.Tables.{put_at_there, none_dialled}

-- All but one lower end and one replica stay as they are, and there may be more connections.
pub record KeepsRest (w v : World) (c node block : ℕ) : Type 0 where
  pub nodes : v.nodes ≡ w.nodes
  pub grows : w.next_conn ≤ v.next_conn
  pub dialled : (d : ℕ) → d < w.next_conn → v.dialled d ≡ w.dialled d
  pub running : (n : ℕ) → v.running n ≡ w.running n
  pub lives : (n : ℕ) → v.lives n ≡ w.lives n
  pub lowers : (d : ℕ) → (d ≡ c → ⊥) → v.lowers d ≡ w.lowers d
  pub replicas : (n b : ℕ) → (n ≡ node → b ≡ block → ⊥) → v.replicas n b ≡ w.replicas n b

applied : (w : World) (c : ℕ) (full : FullMember) (x : Next) (s : Step) (b : Option Break) (e : Event) → KeepsRest w (record (apply w (member_change w c full x s b)) { last = Some e }) c (node_of w c) (block_of full.fields)
unfolding apply
applied w c full x s b e = record {
  nodes = refl;
  grows = omega arith;
  dialled = λ d within. none_dialled (nat_le w.next_conn d) (d - w.next_conn) (w.dialled d);
  running = λ n. refl;
  lives = λ n. refl;
  lowers = λ d apart. put-there w.lowers c (writes (record full { state = s.member })) d apart;
  replicas = λ n q apart. put_at_there w.replicas (node_of w c) (block_of full.fields) s.replica n q apart;
}

-- After a step of a member.
pub rest_after : (w w1 : World) (c : ℕ) (full : FullMember) (x : Next) (s : Step) (b : Option Break) (e : Event) → outcome w e ≡ Some (apply w1 (member_change w1 c full x s b))
    → KeepsRest w1 (happens w e) c (node_of w1 c) (block_of full.fields)
rest_after w w1 c full x s b e out =
    subst (λ (v : World). KeepsRest w1 v c (node_of w1 c) (block_of full.fields)) (sym (happened w (apply w1 (member_change w1 c full x s b)) e out)) (applied w1 c full x s b e)

-- After one before which something was taken.
pub rest_taken : (w : World) (conn : ℕ) (lower : Bool) (x : Next) (v : World) (c block : ℕ) → KeepsRest (world_taken w conn lower x) v c (node_of (world_taken w conn lower x) c) block
    → KeepsRest w v c (node_of w c) block
unfolding down_taken up_taken
rest_taken w conn true x v c block h = record {
  nodes = h.nodes;
  grows = h.grows;
  dialled = h.dialled;
  running = h.running;
  lives = h.lives;
  lowers = h.lowers;
  replicas = h.replicas;
}
rest_taken w conn false x v c block h = record {
  nodes = h.nodes;
  grows = h.grows;
  dialled = h.dialled;
  running = h.running;
  lives = h.lives;
  lowers = h.lowers;
  replicas = h.replicas;
}

-- A step of a member dials nothing.
none_more : (w : World) (c : ℕ) (full : FullMember) (x : Next) (s : Step) (b : Option Break) (e : Event) → (record (apply w (member_change w c full x s b)) { last = Some e }).next_conn ≡ w.next_conn
unfolding apply
none_more w c full x s b e = omega arith

pub conns_after : (w w1 : World) (c : ℕ) (full : FullMember) (x : Next) (s : Step) (b : Option Break) (e : Event) → outcome w e ≡ Some (apply w1 (member_change w1 c full x s b)) → (happens w e).next_conn ≡ w1.next_conn
conns_after w w1 c full x s b e out = ap (λ (v : World). v.next_conn) (happened w (apply w1 (member_change w1 c full x s b)) e out) ∙ none_more w1 c full x s b e

pub conns_taken : (w : World) (conn : ℕ) (lower : Bool) (x : Next) → (world_taken w conn lower x).next_conn ≡ w.next_conn
unfolding down_taken up_taken
conns_taken w conn true x = refl
conns_taken w conn false x = refl
