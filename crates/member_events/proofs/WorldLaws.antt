-- The world after a member's step.
use Rattle.std.proofs.Common.{◌≡◌, ℕ, ◌-◌, ◌&&◌, Bool, true, false, if◌then◌else◌, List, [], ◌++◌, slice_get, option_map, Option, Some, None, refl, sym, ap, ◌∙◌, subst}
use Rattle.std.specs.Prelude.{◌==◌, nat_le, unwrap_or}
use Rattle.road_traffic.proofs.TrafficLemmas.{same-itself}
use Rattle.pipe_member.specs.MemberCore.Steps.{Step}
use Rattle.world_texts.specs.World.Event.{Event}
use Rattle.world_texts.specs.World.Parts.{Message, FullMember, writes, Break, Dialled}
use Rattle.world_texts.specs.World.Worlds.{World, Dial, put, put_at, apply}
use Rattle.world_texts.specs.World.Connections.{Next, down_taken, up_taken, sent_on}
use Rattle.world_texts.specs.World.Nodes.{node_of, block_of, replica_at, member_change, sent_up}
use Rattle.world_texts.specs.World.Events.{outcome, happens, after_event}
use Rattle.world_texts.specs.WorldNets.Changes.{world_taken}

-- TABLES

pub at_put : {A : Type 0} (f : ℕ → A) (n : ℕ) (x : A) → put f n x n ≡ x
at_put f n x = ap (λ (b : Bool). if b then x else f n) (same-itself n)

both_same : (n b : ℕ) → ((n == n) && (b == b)) ≡ true
both_same n b = rw (same-itself n, same-itself b) refl

pub at_put_at : {A : Type 0} (f : ℕ → ℕ → A) (n b : ℕ) (x : A) → put_at f n b x n b ≡ x
at_put_at f n b x = ap (λ (q : Bool). if q then x else f n b) (both_same n b)

pub sent_here : (c : ℕ) (ms : List Message) → sent_on (Some c) ms c ≡ ms
sent_here c ms = ap (λ (q : Bool). if q then ms else []) (same-itself c)

-- WHERE NOTHING IS DIALLED

none_dialled : (q : Bool) (k : ℕ) (d : Dialled) → unwrap_or (option_map (λ (x : Dial). x.dialled) (if q then slice_get [] k else None)) d ≡ d
none_dialled true k d = refl
none_dialled false k d = refl

-- AFTER AN EVENT

pub happened : (w u : World) (e : Event) → outcome w e ≡ Some u → happens w e ≡ record u { last = Some e }
unfolding happens
happened w u e out = ap (after_event w e) out

-- What a member's step makes of the world.
pub record MemberAfter (w v : World) (c : ℕ) (full : FullMember) (s : Step) : Type 0 where
  pub lower : v.lowers c ≡ writes (record full { state = s.member })
  pub node : node_of v c ≡ node_of w c
  pub replica : replica_at v c (block_of full.fields) ≡ s.replica
  pub ups : v.ups c ≡ w.ups c ++ sent_up full.fields s.effect.sends

applied : (w : World) (c : ℕ) (full : FullMember) (x : Next) (s : Step) (b : Option Break) (e : Event) → MemberAfter w (record (apply w (member_change w c full x s b)) { last = Some e }) c full s
unfolding apply
applied w c full x s b e =
    let same : node_of (record (apply w (member_change w c full x s b)) { last = Some e }) c ≡ node_of w c = ap (λ (d : Dialled). d.to.node) (none_dialled (nat_le w.next_conn c) (c - w.next_conn) (w.dialled c)) in
    record {
      lower = at_put w.lowers c (writes (record full { state = s.member }));
      node = same;
      replica = ap (λ (n : ℕ). put_at w.replicas (node_of w c) (block_of full.fields) s.replica n (block_of full.fields)) same ∙ at_put_at w.replicas (node_of w c) (block_of full.fields) s.replica;
      ups = ap (λ (ms : List Message). w.ups c ++ ms) (sent_here c (sent_up full.fields s.effect.sends));
    }

pub member_after : (w w1 : World) (c : ℕ) (full : FullMember) (x : Next) (s : Step) (b : Option Break) (e : Event) → outcome w e ≡ Some (apply w1 (member_change w1 c full x s b)) → MemberAfter w1 (happens w e) c full s
member_after w w1 c full x s b e out =
    subst (λ (v : World). MemberAfter w1 v c full s) (sym (happened w (apply w1 (member_change w1 c full x s b)) e out)) (applied w1 c full x s b e)

-- WHERE SOMETHING WAS TAKEN

-- A world in which something was taken from a connection is else the same.
pub record TakenSame (w v : World) (c : ℕ) (b : ℕ) : Type 0 where
  pub node : node_of v c ≡ node_of w c
  pub replica : replica_at v c b ≡ replica_at w c b

pub taken_same : (w : World) (conn : ℕ) (lower : Bool) (x : Next) (c b : ℕ) → TakenSame w (world_taken w conn lower x) c b
unfolding down_taken up_taken
taken_same w conn true x c b = record { node = refl; replica = refl }
taken_same w conn false x c b = record { node = refl; replica = refl }
