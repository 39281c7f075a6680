-- The world after a change that dials nothing.
use Rattle.std.proofs.Common.{◌≡◌, ℕ, ◌-◌, ◌&&◌, Bool, true, false, if◌then◌else◌, List, [], ◌++◌, slice_get, option_map, Some, None, refl, sym, ap, ◌∙◌, subst}
use Rattle.std.specs.Prelude.{◌==◌, nat_le, unwrap_or}
use Rattle.std.proofs.lemmas.Bool.{eqb-true}
use Rattle.replica_model.specs.Rows.{FullReplica}
use Rattle.member_events.specs.World.Event.{Event}
use Rattle.member_events.specs.World.Parts.{Dialled}
use Rattle.member_events.specs.World.Worlds.{World, Change, Dial, put, put_at, dial_at, apply}
use Rattle.member_events.specs.World.Nodes.{node_of, replica_at}
use Rattle.member_events.specs.World.Events.{outcome, happens}
use Rattle.member_events.proofs.WorldLaws.{at_put, at_put_at, happened}

none_dialled : (q : Bool) (k : ℕ) (d : Dialled) → unwrap_or (option_map (λ (x : Dial). x.dialled) (if q then slice_get [] k else None)) d ≡ d
none_dialled true k d = refl
none_dialled false k d = refl

-- What a change of a lower end that dials nothing makes of the world.
pub record AfterChange (w v : World) (c : ℕ) (k : Change) : Type 0 where
  pub lower : v.lowers c ≡ k.lower
  pub node : node_of v c ≡ node_of w c
  pub ups : v.ups c ≡ w.ups c ++ k.ups c
  pub replicas : (n b : ℕ) → v.replicas n b ≡ put_at w.replicas k.node k.block k.replica n b

changed : (w : World) (c : ℕ) (k : Change) (e : Event) → k.lower_at ≡ c → k.dials ≡ [] → AfterChange w (record (apply w k) { last = Some e }) c k
unfolding apply
changed w c k e at none = record {
  lower = ap (λ (n : ℕ). put w.lowers n k.lower c) at ∙ at_put w.lowers c k.lower;
  node = ap (λ (ds : List Dial). (unwrap_or (option_map (λ (x : Dial). x.dialled) (dial_at w.next_conn ds c)) (w.dialled c)).to.node) none
      ∙ ap (λ (d : Dialled). d.to.node) (none_dialled (nat_le w.next_conn c) (c - w.next_conn) (w.dialled c));
  ups = refl;
  replicas = λ n b. refl;
}

pub after_change : (w w1 : World) (c : ℕ) (k : Change) (e : Event) → outcome w e ≡ Some (apply w1 k) → k.lower_at ≡ c → k.dials ≡ [] → AfterChange w1 (happens w e) c k
after_change w w1 c k e out at none = subst (λ (v : World). AfterChange w1 v c k) (sym (happened w (apply w1 k) e out)) (changed w1 c k e at none)

-- REPLICAS

both_true : (a b : Bool) → (a && b) ≡ true → (a ≡ true) × (b ≡ true)
both_true true true h = (refl, refl)
both_true true false h = cc
both_true false b h = cc

put_same : {A : Type 0} (f : ℕ → ℕ → A) (i k j l : ℕ) → put_at f i k (f i k) j l ≡ f j l
put_same {A} f i k j l =
    elim (j == i && l == k) as (λ (q : Bool). (j == i && l == k) ≡ q → (if q then f i k else f j l) ≡ f j l) [
      | true ↦ λ e. let both = both_true (j == i) (l == k) e in (λ t. f (sym (eqb-true j i both.0) t) (sym (eqb-true l k both.1) t))
      | false ↦ λ e. refl
    ] refl

-- A change that leaves its replica as it is leaves that of the connection's node.
pub still_replica : (w v : World) (c b : ℕ) (k : Change) → AfterChange w v c k → k.replica ≡ w.replicas k.node k.block → replica_at v c b ≡ replica_at w c b
still_replica w v c b k a same =
    a.replicas (node_of v c) b
    ∙ (ap (λ (x : FullReplica). put_at w.replicas k.node k.block x (node_of v c) b) same
    ∙ (put_same w.replicas k.node k.block (node_of v c) b ∙ ap (λ (n : ℕ). w.replicas n b) a.node))

-- One of the connection's node gives it its replica.
pub new_replica : (w v : World) (c b : ℕ) (k : Change) → AfterChange w v c k → k.node ≡ node_of w c → k.block ≡ b → replica_at v c b ≡ k.replica
new_replica w v c b k a here of_block =
    a.replicas (node_of v c) b
    ∙ (ap (λ (n : ℕ). put_at w.replicas k.node k.block k.replica n b) (a.node ∙ sym here)
    ∙ (ap (λ (m : ℕ). put_at w.replicas k.node k.block k.replica k.node m) (sym of_block) ∙ at_put_at w.replicas k.node k.block k.replica))
