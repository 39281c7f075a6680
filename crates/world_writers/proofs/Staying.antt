-- Answered bytes stay as far as later recoveries left them.
use Rattle.std.proofs.Common.{◌≡◌, ℕ, zero, suc, ◌<◌, ◌≤◌, ◌+◌, List, [], ◌∷◌, length, length-take, take, slice_get, Option, Some, IfSome, sym, ◌∙◌, ap, subst, arith}
use Rattle.std.specs.Prelude.{◌-◌, ◌^◌, map, min}
use Rattle.std.proofs.lemmas.Bool.Decides.{nat_tests}
use Rattle.std.proofs.lemmas.Option.{none-some, same_Some}
use Rattle.hd_base.specs.declared.numbers.NodeId.{NodeId}
use Rattle.hd_base.specs.declared.numbers.Stamp.{Stamp}
use Rattle.hd_base.specs.declared.roads.TheConstants.{FIRST_PORT, MAX_NODES}
use Rattle.node_refs.specs.NodeRefs.{ref_of}
use Rattle.op_headers.specs.declared.nodes.NodeRef.{NodeRef}
use Rattle.replica_core.specs.declared.info.ReplicaInfo.{ReplicaInfo}
use Rattle.world.specs.declared.events.Event.{Event}
use Rattle.world.specs.Parts.{Answered}
use Rattle.world.specs.Worlds.{World, start}
use Rattle.world.specs.Nodes.{node_of, node_on, block_of}
use Rattle.world.specs.Events.{run}
use Rattle.world.specs.Safe.{Has, Steady, KeptAt, IsReached}
use Rattle.world_laws.specs.Placing.{Placed}
use Rattle.world_laws.proofs.PlacedLaws.{all-placed}
use Rattle.world_laws.specs.Stamping.{Givens, none_given, given_in, Recorded}
use Rattle.world_laws.proofs.AllRecorded.{all-recorded}
use Rattle.world_laws.specs.Carrying.{new_stamp}
use Rattle.world_acks.specs.Acking.{Shown, UpdatesLeave, Seat, Seated}
use Rattle.world_writers.specs.Piping.{IsPipeline}
use Rattle.world_writers.specs.Settling.{AnswerSits}
use Rattle.world_writers.specs.Taking.{Joins}
use Rattle.world_writers.specs.Staying.{AnsweredStay}
use Rattle.world_writers.proofs.AllJoin.{all-join}
use Rattle.world_writers.proofs.AllShow.{all-sit}

-- the port of a node of few names it
few-node : (n bound : ℕ) → bound ≤ MAX_NODES → n < bound → node_on (min (FIRST_PORT + n) (2 ^ 32 - 1)) ≡ Some n
few-node n bound le lt =
    let small : min (FIRST_PORT + n) (2 ^ 32 - 1) ≡ FIRST_PORT + n = omega (arith, le, lt) in
    subst (λ (p : ℕ). node_on p ≡ Some n) (sym small) (listens n)
  where
    listens : (n : ℕ) → node_on (FIRST_PORT + n) ≡ Some n
    listens n = grind (arith, nat_tests)

map-at : (ms : List NodeId) (i : ℕ) (m : NodeId) → slice_get ms i ≡ Some m → slice_get (map ref_of ms) i ≡ Some (ref_of m)
map-at [] i m e = absurd (none-some m e)
map-at (x ∷ ms) zero m e = ap (λ (o : Option NodeId). Some (ref_of x)) e ∙ ap (λ (y : NodeId). Some (ref_of y)) (same_Some x m e)
map-at (x ∷ ms) (suc i) m e = map-at ms i m e

-- the seat of a member that an answer names
member-seat : (w : World) (a : Answered) (m : NodeId) (c session bound : ℕ) → bound ≤ MAX_NODES → m.0 < bound → (p : IsPipeline w.past a.block (record { 0 = a.stamp }) a.members c) → Seated w p.fields (node_of w c) session a.length
    → Has a.members m → Seat w a.block a.stamp session m.0 a.length
member-seat w a m c session bound le lt p s h = go h.place (subst (λ (ms : List NodeId). slice_get ms h.place ≡ Some m) p.are h.there)
  where
    named : (n : ℕ) → Seat w (block_of p.fields) (new_stamp p.fields).0 session n a.length → Seat w a.block a.stamp session n a.length
    named n x = subst (λ (b : ℕ). Seat w b a.stamp session n a.length) p.block_is (subst (λ (t : Stamp). Seat w (block_of p.fields) t.0 session n a.length) p.stamp_is x)

    go : (i : ℕ) → slice_get (p.first ∷ p.others) i ≡ Some m → Seat w a.block a.stamp session m.0 a.length
    go zero e = named m.0 (subst (λ (n : ℕ). Seat w (block_of p.fields) (new_stamp p.fields).0 session n a.length) (p.node ∙ ap (λ (x : NodeId). x.0) (same_Some p.first m e)) s.here)
    go (suc i) e =
        let there : slice_get p.fields.targets i ≡ Some (ref_of m) = subst (λ (ts : List NodeRef). slice_get ts i ≡ Some (ref_of m)) (sym p.targets) (map-at p.others i m e) in
        named m.0 (s.below i m.0 (ref_of m) there (few-node m.0 bound le lt))

as-many : (n : ℕ) (xs ys : List ℕ) → take n xs ≡ take n ys → n ≤ length ys → n ≤ length xs
as-many n xs ys e le = omega (arith, ap (λ (zs : List ℕ). length zs) e, length-take n xs, length-take n ys, le)

-- what is shown is kept
shown-kept : (w : World) (a : Answered) (m session : ℕ) → w.session_of a.stamp ≡ session → UpdatesLeave w a.block a.stamp m (w.lives m) a.length → Shown (w.replicas m a.block) a.stamp a.length (w.written session) → KeptAt w a m
shown-kept w a m session at u x = record {
  reached = subst (λ (o : Option ReplicaInfo). IfSome o (IsReached a.stamp a.length)) (sym x.is) (record {
    stamp_of = x.least;
    visible = subst (λ (o : Option ℕ). IfSome o (λ n. a.length ≤ n)) (sym x.sees) x.enough;
    is_visible = λ e. none-some x.visible (sym e ∙ x.sees);
  });
  there = λ e. none-some x.info (sym e ∙ x.is);
  bytes = subst (λ (s : ℕ). take a.length (w.replicas m a.block).bytes ≡ take a.length (w.written s)) (sym at) x.bytes;
  enough = as-many a.length (w.replicas m a.block).bytes (w.written session) x.bytes x.within;
  updates = λ y h n l b s. u.each y h n l b s;
}

answer-stays : (g : Givens) (w : World) (a : Answered) (m : NodeId) → Placed w → Recorded g w → Joins w → AnswerSits g w a → Has a.members m → Steady w a.block a.stamp m.0 → UpdatesLeave w a.block a.stamp m.0 (w.lives m.0) a.length → KeptAt w a m.0
answer-stays g w a m placed recorded joins sits h s u =
    let lt : m.0 < w.nodes = placed.runs m.0 s.runs in
    let p = sits.sit.pipeline in
    let seat = member-seat w a m sits.sit.conn sits.session w.nodes joins.few lt p (sits.sit.seated p.fields (record { first = p.asked })) h in
    let life : seat.life ≡ w.lives m.0 = joins.single a.stamp m.0 seat.life (w.lives m.0) lt seat.joins s.joins in
    let left : UpdatesLeave w a.block a.stamp m.0 seat.life a.length = subst (λ (l : ℕ). UpdatesLeave w a.block a.stamp m.0 l a.length) (sym life) u in
    shown-kept w a m.0 sits.session (recorded.session a.block a.stamp sits.session sits.given) u (seat.shows s.runs (sym life) s.sound a.length (omega arith) left)

pub answered-stay : (nodes : ℕ) (events : List Event) → nodes ≤ MAX_NODES → AnsweredStay (run (start nodes) events)
answered-stay nodes events le a m h member s u =
    answer-stays (given_in none_given (start nodes) events) (run (start nodes) events) a m (all-placed nodes events) (all-recorded nodes events) (all-join nodes events le) (all-sit nodes events a h) member s u
