-- Members stand in chains after a write request.
use Rattle.std.proofs.Common.{◌≡◌, ℕ, ◌<◌, ◌≤◌, ◌+◌, Bool, true, false, [], ◌∷◌, length, slice_get, Option, Some, None, IfSome, Result, Ok, Err, refl, ap, ◌∙◌, arith}
use Rattle.std.specs.Prelude.{◌==◌, ◌&&◌, is_some, if◌then◌else◌}
use Rattle.std.proofs.lemmas.Bool.{false≢true}
use Rattle.op_headers.specs.declared.ops.Op.TheVariants as op
use Rattle.op_headers.specs.Values.{WriteFields}
use Rattle.world.specs.NodeRefs.NodeRefs.{ref_of}
use Rattle.replica_core.specs.declared.events.Event.{Event}
use Rattle.replica_core.specs.Views.{rule_in}
use Rattle.replica_model.specs.declared.events.ReplicaEvent.TheVariants as replica_event
use Rattle.replica_model.specs.Rows.{FullReplica, row, row_answer}
use Rattle.request_refusals.specs.declared.refusals.RequestRefusal.{RequestRefusal}
use Rattle.member_core.specs.declared.member.Mirror.TheVariants as mirror
use Rattle.member_core.specs.Members.{set_up, set_up_at}
use Rattle.member_core.specs.Requests.{request_event, mirror_request}
use Rattle.member_core.specs.Steps.{refused_request, taken_request, booked_request, request_at, refused_by, faulted_request}
use Rattle.world.specs.Parts.{request, by_member, Break}
use Rattle.world.specs.Worlds.{World, Dial, Change, apply}
use Rattle.world.specs.Connections.{place_of}
use Rattle.world.specs.Nodes.{node_of, replica_at, broke_at, block_of, is_asked, runs_there, mirror_node, mirror_dial, setup_change, failing_write, write_request}
use Rattle.world_settling.specs.Traffic.{hops_of, hops}
use Rattle.world_settling.proofs.Begun.{AllBegun}
use Rattle.world_settling.proofs.Requests.{IsNew, here-dial, one-more, goes-fewer}
use Rattle.world_settling.proofs.Chains.{AllLinked, hops-later, conns-later, apply-linked}
use Rattle.world_settling.proofs.ChainLaws.{Keeps}

dialled-hops : (w : World) (k : Change) (d : Dial) → IsNew w → k.dials ≡ d ∷ [] → k.downs w.next_conn ≡ [] → hops (apply w k) w.next_conn ≡ hops_of (Some d.request)
unfolding apply
dialled-hops w k d new e q = rw new.downs (rw q (rw e (rw (here-dial w.next_conn d) refl)))

-- what a write request was taken from
pub record Asks (w : World) (c : ℕ) (f : WriteFields) : Type 0 where
  pub begun : AllBegun w
  pub linked : AllLinked w
  pub new : IsNew w
  pub known : c < w.next_conn
  pub first : slice_get (w.downs c) 0 ≡ Some (request (op.Write f))

refused-keeps : (w : World) (c : ℕ) (f : WriteFields) (r : FullReplica) (x : RequestRefusal) (b : Option Break) → Asks w c f → Keeps w (setup_change w c f (refused_request r x) b)
refused-keeps w c f r x b h = record { linked = apply-linked w (setup_change w c f (refused_request r x) b) h.begun h.linked tt }

nobody-keeps : (w : World) (c : ℕ) (f : WriteFields) (r : FullReplica) (b : Option Break) → Asks w c f → Keeps w (setup_change w c f (taken_request r (set_up_at mirror.Nobody f (record { 0 = c }))) b)
nobody-keeps w c f r b h =
    let k : Change = setup_change w c f (taken_request r (set_up_at mirror.Nobody f (record { 0 = c }))) b in
    record { linked = apply-linked w k h.begun h.linked (record { here = omega (arith, h.known, conns-later w k); conn = refl; known = tt; fewer = tt }) }

unreachable-keeps : (w : World) (c : ℕ) (f : WriteFields) (r : FullReplica) (b : Option Break) → Asks w c f → Keeps w (setup_change w c f (taken_request r (set_up_at mirror.Unreachable f (record { 0 = c }))) b)
unreachable-keeps w c f r b h =
    let k : Change = setup_change w c f (taken_request r (set_up_at mirror.Unreachable f (record { 0 = c }))) b in
    record { linked = apply-linked w k h.begun h.linked (record { here = omega (arith, h.known, conns-later w k); conn = refl; known = tt; fewer = tt }) }

asked-as : (w : World) (c : ℕ) (f : WriteFields) (r : FullReplica) (b : Option Break) (o : Option WriteFields) (p : Option ℕ) → Asks w c f → is_some o ≡ true → runs_there w p ≡ true
    → (setup_change w c f (taken_request r (set_up_at mirror.Asked f (record { 0 = c }))) b).dials ≡ mirror_dial w c o p → IfSome o (λ g. length g.targets + 1 ≤ length f.targets)
    → Keeps w (setup_change w c f (taken_request r (set_up_at mirror.Asked f (record { 0 = c }))) b)
asked-as w c f r b (Some g) (Some n) h s t e fewer =
    let k : Change = setup_change w c f (taken_request r (set_up_at mirror.Asked f (record { 0 = c }))) b in
    let d : Dial = record { dialled = record { upper = by_member c; from = Some (w.dialled c).to; to = place_of w n }; request = request (op.Write g) } in
    let next = one-more w k d e in
    let below = dialled-hops w k d h.new e refl in
    let above = hops-later w k c h.begun h.known ∙ ap hops_of h.first in
    record { linked = apply-linked w k h.begun h.linked (record { here = omega (arith, h.known, next); conn = refl; known = omega (arith, next); fewer = omega (arith, below, above, fewer) }) }
asked-as w c f r b (Some g) None h s t e fewer = absurd (false≢true t)
asked-as w c f r b None p h s t e fewer = absurd (false≢true s)

and-first : (a b : Bool) → (a && b) ≡ true → a ≡ true
and-first true b e = refl
and-first false b e = absurd (false≢true e)

and-second : (a b : Bool) → (a && b) ≡ true → b ≡ true
and-second true b e = e
and-second false b e = absurd (false≢true e)

taken-keeps : (w : World) (c : ℕ) (f : WriteFields) (answered : Bool) (r : FullReplica) (b : Option Break) → Asks w c f
    → Keeps w (setup_change w c f (taken_request r (set_up (record { 0 = c }) f (is_asked w c f answered))) b)
unfolding set_up
taken-keeps w c f answered r b h = at (length f.targets == 0) (is_asked w c f answered) refl
  where
    at : (t a : Bool) → is_asked w c f answered ≡ a
        → Keeps w (setup_change w c f (taken_request r (set_up_at (if t then mirror.Nobody else (if a then mirror.Asked else mirror.Unreachable)) f (record { 0 = c }))) b)
    at true a e = nobody-keeps w c f r b h
    at false true e =
        let goes : Option WriteFields = mirror_request (ref_of (record { 0 = node_of w c })) f in
        asked-as w c f r b goes (mirror_node f.targets) h (and-second answered (is_some goes) (and-first (answered && is_some goes) (runs_there w (mirror_node f.targets)) e))
        (and-second (answered && is_some goes) (runs_there w (mirror_node f.targets)) e) refl (goes-fewer (ref_of (record { 0 = node_of w c })) f)
    at false false e = unreachable-keeps w c f r b h

booked-keeps : (w : World) (c : ℕ) (f : WriteFields) (answered : Bool) (r : FullReplica) (b : Option Break) (o : Option RequestRefusal) → Asks w c f
    → Keeps w (setup_change w c f (booked_request (record { 0 = c }) f (is_asked w c f answered) r o) b)
booked-keeps w c f answered r b None h = taken-keeps w c f answered r b h
booked-keeps w c f answered r b (Some x) h = refused-keeps w c f r x b h

request-keeps : (w : World) (c : ℕ) (f : WriteFields) (answered : Bool) (b : Option Break) (o : Result Event RequestRefusal) → Asks w c f
    → Keeps w (setup_change w c f (request_at (record { 0 = c }) f (is_asked w c f answered) (replica_at w c (block_of f)) o) b)
request-keeps w c f answered b (Err x) h = refused-keeps w c f (replica_at w c (block_of f)) x b h
request-keeps w c f answered b (Ok e) h =
    booked-keeps w c f answered (row (replica_at w c (block_of f)) (replica_event.Other e)) b (refused_by (row_answer (replica_at w c (block_of f)) (replica_event.Other e))) h

failing-keeps : (w : World) (c : ℕ) (f : WriteFields) (o : Result Event RequestRefusal) → Asks w c f → IfSome (failing_write w c f o) (Keeps w)
failing-keeps w c f (Err x) h = tt
failing-keeps w c f (Ok e) h =
    let b = broke_at w c (block_of f) (replica_event.Other e) in
    record { linked = apply-linked w (setup_change w c f (faulted_request (replica_at w c (block_of f))) b) h.begun h.linked tt }

pub write-keeps : (w : World) (c : ℕ) (f : WriteFields) (answered fails : Bool) → Asks w c f → IfSome (write_request w c f answered fails) (Keeps w)
write-keeps w c f answered true h = failing-keeps w c f (request_event (record { 0 = c }) f (rule_in (replica_at w c (block_of f)).known)) h
write-keeps w c f answered false h = request-keeps w c f answered _ (request_event (record { 0 = c }) f (rule_in (replica_at w c (block_of f)).known)) h
