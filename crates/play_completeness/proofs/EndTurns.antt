-- What an end of a connection does that isn't a writer's: it leaves alone all but the replicas of its block.
use Rattle.std.proofs.Common.{◌≡◌, ℕ, Bool, true, false, List, [], ◌++◌, Option, Some, None, IfSome, refl, sym, ◌∙◌, ap, subst}
use Rattle.std.specs.Prelude.{◌==◌, ◌&&◌}
use Rattle.std.proofs.lemmas.List.{append-nil}
use Rattle.hd_base.specs.SumRules.{Rule}
use Rattle.op_headers.specs.declared.ops.Op.TheVariants as op
use Rattle.op_headers.specs.Values.{WriteFields}
use Rattle.replica_core.specs.declared.records.ReplicaRecord.{ReplicaRecord}
use Rattle.replica_core.specs.Transitions.{is_written_by}
use Rattle.replica_model.specs.Rows.{FullReplica}
use Rattle.member_core.specs.declared.turns.Turn.{Turn}
use Rattle.member_core.specs.Members.{down_turn, up_turn, hears}
use Rattle.member_core.specs.Steps.{Step, Setup, step, request_step, oldest_at, ready_turn_at}
use Rattle.world.specs.declared.events.Event.{Event}
use Rattle.world.specs.Parts.{Message, request, Upper, by_member, FullMember, Lower, idle, writes, serves, recovers, ended_below, Writing, Said, Break}
use Rattle.world.specs.Worlds.{World, Stamped, Change, put, put_at, add, latest_with, apply}
use Rattle.world.specs.Connections.{Next, message, the_end, next_down, down_taken, up_taken, is_alive}
use Rattle.world.specs.Nodes.{node_of, replica_at, above_of, below_of, block_of, member_change, turn_change, pending_at, takes_next, member_down, member_up, ready_change, member_ready, is_asked, setup_change, lower_down, lower_ready, mirror_up}
use Rattle.world.specs.Events.{changed, down_as, upper_up, up_as}
use Rattle.world_laws.proofs.FactTables.{if-each, some-weaker, when-each}
use Rattle.world_orders.specs.Orders.{Ordered}
use Rattle.play_model.specs.Dues.{is_open}
use Rattle.play_completeness.specs.Formed.{HasRule, AllHave}
use Rattle.play_completeness.specs.Links.{WaitsWell, LowerWell, InPipeline, Links}
use Rattle.play_completeness.specs.Plain.{Peaceful}
use Rattle.play_completeness.proofs.DownTurns.{no-end}
use Rattle.play_completeness.proofs.PeaceNodes.{down-piped, up-piped, ready-piped}
use Rattle.play_completeness.proofs.RequestRow.{Opens, opens, opened-known, request-taken}
use Rattle.play_completeness.proofs.Requests.{first-is}
use Rattle.play_completeness.proofs.RowRules.{IsMemberCall, call-keeps}
use Rattle.play_completeness.proofs.TurnWorld.{named, put-same, at-else}

-- All stays but connections, and replicas of this block; and these have this rule, where all had it.
pub record EndTurned (w v : World) (block : ℕ) (rule : Rule) : Type 0 where
  pub nodes : v.nodes ≡ w.nodes
  pub office : v.office ≡ w.office
  pub latest : (b : ℕ) → v.latest b ≡ w.latest b
  pub written : (s : ℕ) → v.written s ≡ w.written s
  pub writers : (b : ℕ) → v.writers b ≡ w.writers b
  pub said : (b : ℕ) → v.said b ≡ w.said b
  pub replicas : (n b : ℕ) → (b == block) ≡ false → v.replicas n b ≡ w.replicas n b
  pub rules : AllHave w block rule → AllHave v block rule

-- a change that is such
pub record EndMoves (w : World) (block : ℕ) (rule : Rule) (k : Change) : Type 0 where
  pub office : k.office ≡ w.office
  pub stamped : k.stamped ≡ None
  pub bytes : k.bytes ≡ []
  pub writer : k.writer ≡ w.writers k.writer_at
  pub said : k.said ≡ []
  pub replicas : (n b : ℕ) → (b == block) ≡ false → put_at w.replicas k.node k.block k.replica n b ≡ w.replicas n b
  pub rules : AllHave w block rule → HasRule rule k.replica

pub add-none : {A : Type 0} (f : ℕ → List A) (i j : ℕ) → add f i [] j ≡ f j
add-none f i j = if-each (λ xs. xs ≡ f j) (j == i) (f j ++ []) (f j) (λ _. append-nil (f j)) (λ _. refl)

pub end-turned : (w : World) (block : ℕ) (rule : Rule) (k : Change) (e : Event) → EndMoves w block rule k → EndTurned w (named e (apply w k)) block rule
unfolding apply
end-turned w block rule k e x = record {
  nodes = refl;
  office = x.office;
  latest = λ b. ap (λ (o : Option Stamped). latest_with w.latest o b) x.stamped;
  written = λ s. ap (λ (v : List ℕ). add w.written k.session v s) x.bytes ∙ add-none w.written k.session s;
  writers = λ b. ap (λ (y : Writing). put w.writers k.writer_at y b) x.writer ∙ put-same w.writers k.writer_at b;
  said = λ b. ap (λ (xs : List Said). add w.said k.writer_at xs b) x.said ∙ add-none w.said k.writer_at b;
  replicas = x.replicas;
  rules = λ h. record { each = λ n. if-each (λ (r : FullReplica). HasRule rule r) (n == k.node && block == k.block) k.replica (w.replicas n block) (λ _. x.rules h) (λ _. h.each n) };
}

-- CHANGES

other-block : (a b : Bool) → b ≡ false → (a && b) ≡ false
other-block true b e = e
other-block false b e = refl

module _ (w : World) (c : ℕ) (rule : Rule) where
  -- those of a block
  abbrev Moves : ℕ → Change → Type 0
  Moves block k = EndMoves w block rule k

  member-moves : (m : FullMember) (x : Next) (s : Step) (b : Option Break) → (AllHave w (block_of m.fields) rule → HasRule rule s.replica) → Moves (block_of m.fields) (member_change w c m x s b)
  member-moves m x s b ruled = record {
    office = refl;
    stamped = refl;
    bytes = refl;
    writer = refl;
    said = refl;
    replicas = λ n k e. at-else w.replicas (node_of w c) (block_of m.fields) s.replica n k (other-block (n == node_of w c) (k == block_of m.fields) e);
    rules = ruled;
  }

  pub setup-moves : (f : WriteFields) (s : Setup) (b : Option Break) → HasRule rule s.replica → Moves (block_of f) (setup_change w c f s b)
  setup-moves f s b ruled = record {
    office = refl;
    stamped = refl;
    bytes = refl;
    writer = refl;
    said = refl;
    replicas = λ n k e. at-else w.replicas (node_of w c) (block_of f) s.replica n k (other-block (n == node_of w c) (k == block_of f) e);
    rules = λ _. ruled;
  }

  turn-moves : (m : FullMember) (x : Next) (t : Turn) → IfSome t.call IsMemberCall → IfSome (turn_change w c m x t false) (Moves (block_of m.fields))
  turn-moves m x t books =
      member-moves m x (step m.state (replica_at w c (block_of m.fields)) t) (w.breaks (node_of w c) (block_of m.fields))
      (λ h. call-keeps rule (replica_at w c (block_of m.fields)) t.call books (h.each (node_of w c)))

  pub down-moves : (m : FullMember) (x : Next) → IfSome (member_down w c m x false) (Moves (block_of m.fields))
  down-moves m x =
      when-each (Moves (block_of m.fields)) (takes_next m.state (pending_at w c m) x) _ (λ _. turn-moves m x (down_turn m.state (above_of x)) (down-piped m.state (above_of x)))

  up-moves : (m : FullMember) (x : Next) → IfSome (member_up w c m x false) (Moves (block_of m.fields))
  up-moves m x =
      let o = oldest_at (replica_at w c (block_of m.fields)) in
      when-each (Moves (block_of m.fields)) (hears m.state) _ (λ _. turn-moves m x (up_turn m.state o (below_of x)) (up-piped m.state o (below_of x)))

  ready-as-moves : (m : FullMember) (t : Option Turn) → IfSome t (λ k. IfSome k.call IsMemberCall) → IfSome (ready_change w c m t false) (Moves (block_of m.fields))
  ready-as-moves m None books = tt
  ready-as-moves m (Some t) books = turn-moves m the_end t books

  pub ready-moves : (m : FullMember) → IfSome (member_ready w c m false) (Moves (block_of m.fields))
  ready-moves m =
      let r = replica_at w c (block_of m.fields) in
      ready-as-moves m (ready_turn_at m.state r) (ready-piped m.state (oldest_at r) (is_written_by r.known.stream m.state.conn))

  pub mirror-moves : (m : FullMember) (x : Next) → IfSome (mirror_up (writes m) w c x false) (Moves (block_of m.fields))
  mirror-moves m x = when-each (Moves (block_of m.fields)) (is_alive w (w.dialled c).to) _ (λ _. up-moves m x)

-- EVENTS

-- after something was taken
from-down : (w v : World) (c : ℕ) (x : Next) (block : ℕ) (rule : Rule) → EndTurned (down_taken w c x) v block rule → EndTurned w v block rule
unfolding down_taken
from-down w v c x block rule h = record {
  nodes = h.nodes;
  office = h.office;
  latest = h.latest;
  written = h.written;
  writers = h.writers;
  said = h.said;
  replicas = h.replicas;
  rules = λ a. h.rules (record { each = a.each });
}

from-up : (w v : World) (c : ℕ) (x : Next) (block : ℕ) (rule : Rule) → EndTurned (up_taken w c x) v block rule → EndTurned w v block rule
unfolding up_taken
from-up w v c x block rule h = record {
  nodes = h.nodes;
  office = h.office;
  latest = h.latest;
  written = h.written;
  writers = h.writers;
  said = h.said;
  replicas = h.replicas;
  rules = λ a. h.rules (record { each = a.each });
}

changed-turned : (w : World) (block : ℕ) (rule : Rule) (e : Event) (o : Option Change) → IfSome o (EndMoves w block rule) → IfSome (changed w o) (λ v. EndTurned w (named e v) block rule)
changed-turned w block rule e None h = tt
changed-turned w block rule e (Some k) h = end-turned w block rule k e h

module _ (w : World) (o : Ordered w) (h : Peaceful w) (links : Links w) (c : ℕ) (lc : InPipeline w c) (e : Event) where
  abbrev f : WriteFields
  f = (links c lc).fields

  abbrev rule : Rule
  rule = (links c lc).rule

  abbrev Turned : World → Type 0
  Turned v = EndTurned w (named e v) (block_of f) rule

  -- a member's request is that of its connection
  own-fields : (m : FullMember) → w.lowers c ≡ writes m → block_of m.fields ≡ block_of f
  own-fields m is = ap block_of (subst (λ (l : Lower). LowerWell w c f rule l) is (links c lc).lower).fields_are

  -- AN END THAT HAS TAKEN NOTHING

  abbrev R : FullReplica
  R = w.replicas (node_of w c) (block_of f)

  -- the replica that takes the request has its rule
  opened-rule : WaitsWell w c f rule → (asked : Bool) → HasRule rule (request_step (record { 0 = c }) f asked R).replica
  opened-rule well asked =
      let x : Opens (record { 0 = c }) f rule R = opens (record { 0 = c }) f rule R (links c lc).request_is (well.ready 0 (node_of w c) refl) (h.sound (node_of w c) (block_of f)) (h.own (node_of w c) (block_of f)) in
      subst (λ (s : Setup). HasRule rule s.replica) (sym (request-taken (record { 0 = c }) f rule asked R x))
      (subst (λ (k : ReplicaRecord). IfSome k.info (λ i. i.sums ≡ rule)) (sym (opened-known (record { 0 = c }) f rule R x)) x.rule_is)

  -- what stands next is taken
  abbrev Took : Lower → Next → Type 0
  Took l x = IfSome (changed (down_taken w c x) (lower_down l (down_taken w c x) c x true false)) (λ v. EndTurned (down_taken w c x) (named e v) (block_of f) rule)

  request-turned : WaitsWell w c f rule → Took idle (message (request (op.Write f)))
  unfolding down_taken
  request-turned well =
      let z : World = down_taken w c (message (request (op.Write f))) in
      let s : Setup = request_step (record { 0 = c }) f (is_asked z c f true) (replica_at z c (block_of f)) in
      let b : Option Break = z.breaks (node_of z c) (block_of f) in
      end-turned z (block_of f) rule (setup_change z c f s b) e (setup-moves z c rule f s b (opened-rule well (is_asked z c f true)))

  -- MEMBERS

  member-turned : (m : FullMember) (x : Next) → w.lowers c ≡ writes m → Took (writes m) x
  member-turned m x is =
      let z : World = down_taken w c x in
      subst (λ (b : ℕ). IfSome (changed z (member_down z c m x false)) (λ v. EndTurned z (named e v) b rule)) (own-fields m is)
      (changed-turned z (block_of m.fields) rule e (member_down z c m x false) (down-moves z c rule m x))

  by-lower : (l : Lower) → w.lowers c ≡ l → LowerWell w c f rule l → (x : Next) → next_down w c ≡ Some x → Took l x
  by-lower idle is well (message y) next = subst (λ (q : Message). Took idle (message q)) (sym (first-is w o links c lc y is next)) (request-turned well)
  by-lower idle is well the_end next = absurd (no-end (w.downs c) (w.down_marks c) ((links c lc).ends.down (ap is_open is)) next)
  by-lower (writes m) is well x next = member-turned m x is
  by-lower (serves b s) is well x next = absurd well
  by-lower recovers is well x next = absurd well
  by-lower ended_below is well x next = absurd well

  pub down-turned : (n : Option Next) → next_down w c ≡ n → IfSome (down_as w c true false n) Turned
  down-turned None next = tt
  down-turned (Some x) next =
      some-weaker (λ v. EndTurned (down_taken w c x) (named e v) (block_of f) rule) Turned (changed (down_taken w c x) (lower_down (w.lowers c) (down_taken w c x) c x true false))
      (λ v k. from-down w (named e v) c x (block_of f) rule k) (by-lower (w.lowers c) refl (links c lc).lower x next)

  ready-by : (l : Lower) → w.lowers c ≡ l → LowerWell w c f rule l → IfSome (changed w (lower_ready l w c false)) Turned
  ready-by idle is well = tt
  ready-by (writes m) is well =
      subst (λ (b : ℕ). IfSome (changed w (member_ready w c m false)) (λ v. EndTurned w (named e v) b rule)) (own-fields m is)
      (changed-turned w (block_of m.fields) rule e (member_ready w c m false) (ready-moves w c rule m))
  ready-by (serves b s) is well = absurd well
  ready-by recovers is well = tt
  ready-by ended_below is well = tt

  pub ready-turned : IfSome (changed w (lower_ready (w.lowers c) w c false)) Turned
  ready-turned = ready-by (w.lowers c) refl (links c lc).lower

  -- the member takes what stands next on another connection
  member-up-turned : (k : ℕ) (m : FullMember) → w.lowers c ≡ writes m → (x : Next) → IfSome (changed (up_taken w k x) (upper_up (by_member c) (up_taken w k x) k x false)) (λ v. EndTurned (up_taken w k x) (named e v) (block_of f) rule)
  unfolding up_taken
  member-up-turned k m is x =
      let z : World = up_taken w k x in
      subst (λ (l : Lower). IfSome (changed z (mirror_up l z c x false)) (λ v. EndTurned z (named e v) (block_of f) rule)) (sym is)
      (subst (λ (b : ℕ). IfSome (changed z (mirror_up (writes m) z c x false)) (λ v. EndTurned z (named e v) b rule)) (own-fields m is)
      (changed-turned z (block_of m.fields) rule e (mirror_up (writes m) z c x false) (mirror-moves z c rule m x)))

  up-some : (k : ℕ) (m : FullMember) → w.lowers c ≡ writes m → (x : Next) → IfSome (changed (up_taken w k x) (upper_up (by_member c) (up_taken w k x) k x false)) Turned
  up-some k m is x =
      some-weaker (λ v. EndTurned (up_taken w k x) (named e v) (block_of f) rule) Turned (changed (up_taken w k x) (upper_up (by_member c) (up_taken w k x) k x false))
      (λ v q. from-up w (named e v) k x (block_of f) rule q) (member-up-turned k m is x)

  pub up-turned : (k : ℕ) (m : FullMember) → w.lowers c ≡ writes m → (w.dialled k).upper ≡ by_member c → (n : Option Next) → IfSome (up_as w k false n) Turned
  unfolding up_taken
  up-turned k m is upper None = tt
  up-turned k m is upper (Some x) =
      subst (λ (u : Upper). IfSome (changed (up_taken w k x) (upper_up u (up_taken w k x) k x false)) Turned) (sym upper) (up-some k m is x)
