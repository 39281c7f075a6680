-- A write request that is taken makes less than it weighs.
use Rattle.std.proofs.Common.{◌≡◌, ℕ, ◌<◌, ◌≤◌, ◌+◌, ◌*◌, Bool, true, false, List, [], ◌∷◌, length, Option, Some, None, IfSome, Result, Ok, Err, refl, ap, ◌∙◌, arith}
use Rattle.std.specs.Prelude.{sum_by, nat_le, ◌-◌, not, ◌==◌, if◌then◌else◌}
use Rattle.std.proofs.lemmas.Bool.Decides.{nat_tests}
use Rattle.hd_base.specs.Results.{◌>>=◌}
use Rattle.hd_base.specs.SumRules.{Rule}
use Rattle.hd_base.specs.declared.numbers.ConnId.{ConnId}
use Rattle.op_headers.specs.declared.nodes.NodeRef.{NodeRef}
use Rattle.op_headers.specs.declared.ops.Op.TheVariants as op
use Rattle.op_headers.specs.Values.{WriteFields}
use Rattle.world.specs.NodeRefs.NodeRefs.{ref_of}
use Rattle.replica_core.specs.declared.events.Event.{Event}
use Rattle.replica_core.specs.declared.events.Event.TheVariants as event
use Rattle.replica_core.specs.Views.{rule_in}
use Rattle.replica_model.specs.declared.events.ReplicaEvent.TheVariants as replica_event
use Rattle.replica_model.specs.Rows.{FullReplica, row, row_answer, broken}
use Rattle.request_refusals.specs.declared.refusals.RequestRefusal.{RequestRefusal}
use Rattle.request_refusals.specs.declared.refusals.RequestRefusal.TheVariants as refusal
use Rattle.request_refusals.specs.Pools.{is_in_pool}
use Rattle.member_core.specs.declared.requests.SetupKind.{SetupKind}
use Rattle.member_core.specs.declared.requests.SetupKind.TheVariants as kind
use Rattle.member_core.specs.declared.requests.TheConstants.{MAX_BELOW, MAX_PORT}
use Rattle.member_core.specs.declared.effects.SetupAnswer.TheVariants as answer
use Rattle.member_core.specs.declared.effects.Upward.TheVariants as upward
use Rattle.member_core.specs.declared.member.Mirror.{Mirror}
use Rattle.member_core.specs.declared.member.Mirror.TheVariants as mirror
use Rattle.member_core.specs.Members.{set_up, set_up_at}
use Rattle.member_core.specs.Requests.{check, setup_with, named_setup, named_rule, rule_for, setup_event, request_event, closes, request_from, request_to, mirror_request}
use Rattle.member_core.specs.Steps.{refused_request, taken_request, booked_request, request_at, refused_by}
use Rattle.world.specs.Parts.{Message, request, by_member, Marks, Lower, idle, Break}
use Rattle.world.specs.Worlds.{World, Dial, Change, dial_at, apply}
use Rattle.world.specs.Connections.{place_of, sent_on}
use Rattle.world.specs.Nodes.{node_of, replica_at, block_of, sent_up, is_asked, mirror_node, mirror_dial, setup_change, failing_write, write_request}
use Rattle.world_settling.specs.Traffic.{hops, sum_to, down_weight, up_weight, down_way, up_way, open_weight, sides, member_weight, lower_weight, entries, entries_of, entries_by, traffic}
use Rattle.world_settling.proofs.Rows.{IsSetup, other-calm, setup-calm, setup-none}
use Rattle.world_settling.proofs.Clients.{Falls}
use Rattle.world_settling.proofs.Sums.{sum-at, sum-more}
use Rattle.world_settling.proofs.Ways.{whole-way}
use Rattle.world_settling.proofs.Frame.{Eases, entries-each, downs-quiet, ups-sent, sides-same, sent-else}
use Rattle.world_settling.proofs.Members.{here-replica, lower-other, lower-here}
use Rattle.world_settling.proofs.Nodes.{node-frame}

-- WHICH EVENT A REQUEST IS

abbrev IsSetting : Result Event RequestRefusal → Type 0
IsSetting (Ok e) = IsSetup e ≡ true
IsSetting (Err r) = Unit {0}

check-setting : (b : Bool) (x : RequestRefusal) (o : Result Event RequestRefusal) → IsSetting o → IsSetting (check b x o)
check-setting true x o h = h
check-setting false x o h = tt

bind-setting : {A : Type 0} (o : Result A RequestRefusal) (f : A → Result Event RequestRefusal) → ((x : A) → IsSetting (f x)) → IsSetting (o >>= f)
bind-setting (Ok x) f h = h x
bind-setting (Err e) f h = tt

event-setting : (conn : ConnId) (f : WriteFields) (sums : Rule) (k : SetupKind) → IsSetup (setup_event conn f sums k) ≡ true
event-setting conn f sums kind.Create = refl
event-setting conn f sums kind.Append = refl
event-setting conn f sums kind.AppendRecovery = refl
event-setting conn f sums kind.StreamRecovery = refl
event-setting conn f sums kind.CloseRecovery = refl

request-setting : (conn : ConnId) (f : WriteFields) (held : Option Rule) → IsSetting (request_event conn f held)
unfolding request_event
request-setting conn f held =
    check-setting (is_in_pool f.block) refusal.Pool
    (named_setup f.stage (setup_with f.stage) >>= (λ k. named_rule f (rule_for f held) >>= (λ sums. check (nat_le (length f.targets) MAX_BELOW) (refusal.TooMany (length f.targets)) (Ok (setup_event conn f sums k)))))
    (bind-setting (named_setup f.stage (setup_with f.stage)) (λ k. named_rule f (rule_for f held) >>= (λ sums. check (nat_le (length f.targets) MAX_BELOW) (refusal.TooMany (length f.targets)) (Ok (setup_event conn f sums k))))
    (λ k. bind-setting (named_rule f (rule_for f held)) (λ sums. check (nat_le (length f.targets) MAX_BELOW) (refusal.TooMany (length f.targets)) (Ok (setup_event conn f sums k)))
    (λ sums. check-setting (nat_le (length f.targets) MAX_BELOW) (refusal.TooMany (length f.targets)) (Ok (setup_event conn f sums k)) (event-setting conn f sums k))))

-- REFUSED

refused-falls : (w : World) (c : ℕ) (f : WriteFields) (r : FullReplica) (x : RequestRefusal) (b : Option Break) → c < w.next_conn
    → ((i : ℕ) → entries_by i r.known ≤ entries_by i (replica_at w c (block_of f)).known) → Falls w (6 * (length f.targets + 1)) (setup_change w c f (refused_request r x) b)
refused-falls w c f r x b lt calm =
    let frame = node-frame w (setup_change w c f (refused_request r x) b) (sent_up f (Some (upward.Answer (answer.Refused x)))) (record { known = lt; dials = refl; downs = λ d. refl; ups = λ d. refl; eases = calm; free = refl }) in
    record { is = omega (arith, frame) }

-- TAKEN, WITHOUT A DIAL

new-weighs : (f : WriteFields) (conn : ConnId) (x : Mirror) → member_weight (set_up_at x f conn).0 ≤ 3
new-weighs f conn mirror.Nobody = at (closes f)
  where
    at : (b : Bool) → (if not b then 1 + 0 + 0 else 0) ≤ 3
    at true = omega arith
    at false = omega arith
new-weighs f conn mirror.Asked = omega arith
new-weighs f conn mirror.Unreachable = omega arith
new-weighs f conn mirror.Open = omega arith
new-weighs f conn mirror.Ended = omega arith

nobody-falls : (w : World) (c : ℕ) (f : WriteFields) (conn : ConnId) (r : FullReplica) (b : Option Break) → c < w.next_conn
    → ((i : ℕ) → entries_by i r.known ≤ entries_by i (replica_at w c (block_of f)).known) → entries_by c r.known ≡ 0
    → Falls w (6 * (length f.targets + 1)) (setup_change w c f (taken_request r (set_up_at mirror.Nobody f conn)) b)
nobody-falls w c f conn r b lt calm none =
    let k : Change = setup_change w c f (taken_request r (set_up_at mirror.Nobody f conn)) b in
    let free = ap (λ (y : FullReplica). entries_by c y.known) (here-replica w k c (block_of f) lt refl refl) ∙ none in
    let frame = node-frame w k (sent_up f (Some (upward.Answer answer.Success))) (record { known = lt; dials = refl; downs = λ d. refl; ups = λ d. refl; eases = calm; free = free }) in
    record { is = omega (arith, frame, new-weighs f conn mirror.Nobody) }

unreachable-falls : (w : World) (c : ℕ) (f : WriteFields) (conn : ConnId) (r : FullReplica) (b : Option Break) → c < w.next_conn
    → ((i : ℕ) → entries_by i r.known ≤ entries_by i (replica_at w c (block_of f)).known) → entries_by c r.known ≡ 0
    → Falls w (6 * (length f.targets + 1)) (setup_change w c f (taken_request r (set_up_at mirror.Unreachable f conn)) b)
unreachable-falls w c f conn r b lt calm none =
    let k : Change = setup_change w c f (taken_request r (set_up_at mirror.Unreachable f conn)) b in
    let free = ap (λ (y : FullReplica). entries_by c y.known) (here-replica w k c (block_of f) lt refl refl) ∙ none in
    let frame = node-frame w k [] (record { known = lt; dials = refl; downs = λ d. refl; ups = λ d. refl; eases = calm; free = free }) in
    record { is = omega (arith, frame, new-weighs f conn mirror.Unreachable) }

-- A DIAL

-- nothing was sent on the next connection, and no lower end acts there
pub record IsNew (w : World) : Type 0 where
  pub downs : w.downs w.next_conn ≡ []
  pub ups : w.ups w.next_conn ≡ []
  pub lower : w.lowers w.next_conn ≡ idle

-- a change of one lower end that dials one connection
record Dials (w : World) (k : Change) (d : Dial) (us : List Message) : Type 0 where
  known : k.lower_at < w.next_conn
  dials : k.dials ≡ d ∷ []
  downs : (c : ℕ) → k.downs c ≡ []
  ups : (c : ℕ) → k.ups c ≡ sent_on (Some k.lower_at) us c
  eases : (i : ℕ) → Eases w k i
  free : entries_of k.lower (apply w k) k.lower_at ≡ 0
  new : IsNew w

pub one-more : (w : World) (k : Change) (d : Dial) → k.dials ≡ d ∷ [] → (apply w k).next_conn ≡ w.next_conn + 1
unfolding apply
one-more w k d e = rw e refl

pub here-dial : (n : ℕ) (d : Dial) → dial_at n (d ∷ []) n ≡ Some d
here-dial n d = rw (within n) (rw (minus n) refl)
  where
    within : (i : ℕ) → nat_le i i ≡ true
    within i = grind (arith, nat_tests)

    minus : (i : ℕ) → i - i ≡ 0
    minus i = omega arith

new-downs : (w : World) (k : Change) (d : Dial) (us : List Message) → Dials w k d us → (apply w k).downs w.next_conn ≡ d.request ∷ []
unfolding apply
new-downs w k d us h = rw h.new.downs (rw (h.downs w.next_conn) (rw h.dials (rw (here-dial w.next_conn d) refl)))

apart : (a n : ℕ) → a < n → (n ≡ a → ⊥)
apart a n l e = omega (arith, l, e)

new-ups : (w : World) (k : Change) (d : Dial) (us : List Message) → Dials w k d us → (apply w k).ups w.next_conn ≡ []
unfolding apply
new-ups w k d us h = rw h.new.ups (h.ups w.next_conn ∙ sent-else k.lower_at w.next_conn us (apart k.lower_at w.next_conn h.known))

pub open-most : (k : Marks) → open_weight k ≤ 1
open-most k = at k.over
  where
    at : (b : Bool) → (if b then 0 else 1) ≤ 1
    at true = omega arith
    at false = omega arith

dial-frame : (w : World) (k : Change) (d : Dial) (us : List Message) (cost : ℕ) → Dials w k d us → ((h : ℕ) → down_weight h d.request ≡ cost)
    → traffic (apply w k) + lower_weight (w.lowers k.lower_at) ≤ traffic w + sum_by up_weight us + lower_weight k.lower + (2 + cost)
unfolding traffic
dial-frame w k d us cost h weighs =
    let v : World = apply w k in
    let c : ℕ = k.lower_at in
    let m : ℕ = w.next_conn in
    let n = one-more w k d h.dials in
    let f : Message → ℕ = down_weight (hops v m) in
    let here-lower : v.lowers m ≡ idle = lower-other w k m (apart c m h.known) ∙ h.new.lower in
    let downs = sum-more (down_way w) (down_way v) m cost (downs-quiet w k h.downs)
    (omega (arith, whole-way f (v.down_marks m) (v.downs m), ap (sum_by f) (new-downs w k d us h), weighs (hops v m))) in
    let ups = sum-more (up_way v) (up_way v) m 0 (omega arith) (omega (arith, whole-way up_weight (v.up_marks m) (v.ups m), ap (sum_by up_weight) (new-ups w k d us h))) in
    let ends = sum-more (sides w) (sides v) m 2 (sides-same w k) (omega (arith, open-most (v.down_marks m), open-most (v.up_marks m))) in
    let weight = ap lower_weight here-lower in
    let empty = ap (λ (y : Lower). entries_of y v m) here-lower in
    let lowers = sum-more (λ i. lower_weight (v.lowers i)) (λ i. lower_weight (v.lowers i)) m 0 (omega arith) (omega (arith, weight)) in
    let held = sum-more (entries v) (entries v) m 0 (omega arith) (omega (arith, empty)) in
    let old-lowers : sum_to (λ i. lower_weight (v.lowers i)) m + lower_weight (w.lowers c) ≤ sum_to (λ i. lower_weight (w.lowers i)) m + lower_weight (v.lowers c) =
    sum-at (λ i. lower_weight (w.lowers i)) (λ i. lower_weight (v.lowers i)) m c (λ i l ne. let e = ap lower_weight (lower-other w k i ne) in omega (arith, e)) h.known in
    let old-held : sum_to (entries v) m + entries w c ≤ sum_to (entries w) m + entries v c =
    sum-at (entries w) (entries v) m c
    (λ i l ne. let e = ap (λ (y : Lower). entries_of y v i) (lower-other w k i ne) in omega (arith, e, entries-each w k i (w.lowers i) l (h.eases i))) h.known in
    let new-weight = ap lower_weight (lower-here w k) in
    let new-held = ap (λ (y : Lower). entries_of y v c) (lower-here w k) in
    omega (
      arith,
      downs,
      ups,
      ups-sent w k c us h.ups,
      ends,
      lowers,
      held,
      old-lowers,
      old-held,
      new-weight,
      new-held,
      h.free,
      ap (sum_to (down_way v)) n,
      ap (sum_to (up_way v)) n,
      ap (sum_to (sides v)) n,
      ap (sum_to (λ i. lower_weight (v.lowers i))) n,
      ap (sum_to (entries v)) n,
    )

-- TAKEN, WITH A DIAL

-- the request that goes on has fewer targets
pub goes-fewer : (source : NodeRef) (f : WriteFields) → IfSome (mirror_request source f) (λ g. length g.targets + 1 ≤ length f.targets)
unfolding mirror_request
goes-fewer source f = at f.targets
  where
    fits : (b : Bool) (rest : List NodeRef) → IfSome (if b then Some (request_from source f rest) else None) (λ g. length g.targets + 1 ≤ length rest + 1)
    fits true rest = omega arith
    fits false rest = tt

    at : (ts : List NodeRef) → IfSome (request_to source f ts) (λ g. length g.targets + 1 ≤ length ts)
    at [] = tt
    at (t ∷ rest) = some-weaker (if nat_le t.xfer MAX_PORT then Some (request_from source f rest) else None) rest (fits (nat_le t.xfer MAX_PORT) rest)
      where
        some-weaker : (o : Option WriteFields) (xs : List NodeRef) → IfSome o (λ g. length g.targets + 1 ≤ length xs + 1) → IfSome o (λ g. length g.targets + 1 ≤ length (t ∷ xs))
        some-weaker None xs h = tt
        some-weaker (Some g) xs h = omega (arith, h)

asked-as : (w : World) (c : ℕ) (f : WriteFields) (conn : ConnId) (r : FullReplica) (b : Option Break) (o : Option WriteFields) (p : Option ℕ) → IsNew w → c < w.next_conn
    → ((i : ℕ) → entries_by i r.known ≤ entries_by i (replica_at w c (block_of f)).known) → entries_by c r.known ≡ 0
    → (setup_change w c f (taken_request r (set_up_at mirror.Asked f conn)) b).dials ≡ mirror_dial w c o p → IfSome o (λ g. length g.targets + 1 ≤ length f.targets)
    → Falls w (6 * (length f.targets + 1)) (setup_change w c f (taken_request r (set_up_at mirror.Asked f conn)) b)
asked-as w c f conn r b (Some g) (Some n) new lt calm none e fewer =
    let k : Change = setup_change w c f (taken_request r (set_up_at mirror.Asked f conn)) b in
    let d : Dial = record { dialled = record { upper = by_member c; from = Some (w.dialled c).to; to = place_of w n }; request = request (op.Write g) } in
    let free = ap (λ (y : FullReplica). entries_by c y.known) (here-replica w k c (block_of f) lt refl refl) ∙ none in
    let frame = dial-frame w k d [] (6 * (length g.targets + 1)) (record { known = lt; dials = e; downs = λ i. refl; ups = λ i. refl; eases = calm; free = free; new = new }) (λ h. refl) in
    record { is = omega (arith, frame, new-weighs f conn mirror.Asked, fewer) }
asked-as w c f conn r b (Some g) None new lt calm none e fewer =
    let k : Change = setup_change w c f (taken_request r (set_up_at mirror.Asked f conn)) b in
    let free = ap (λ (y : FullReplica). entries_by c y.known) (here-replica w k c (block_of f) lt refl refl) ∙ none in
    let frame = node-frame w k [] (record { known = lt; dials = e; downs = λ d. refl; ups = λ d. refl; eases = calm; free = free }) in
    record { is = omega (arith, frame, new-weighs f conn mirror.Asked) }
asked-as w c f conn r b None p new lt calm none e fewer =
    let k : Change = setup_change w c f (taken_request r (set_up_at mirror.Asked f conn)) b in
    let free = ap (λ (y : FullReplica). entries_by c y.known) (here-replica w k c (block_of f) lt refl refl) ∙ none in
    let frame = node-frame w k [] (record { known = lt; dials = e; downs = λ d. refl; ups = λ d. refl; eases = calm; free = free }) in
    record { is = omega (arith, frame, new-weighs f conn mirror.Asked) }

taken-falls : (w : World) (c : ℕ) (f : WriteFields) (conn : ConnId) (asked : Bool) (r : FullReplica) (b : Option Break) → IsNew w → c < w.next_conn
    → ((i : ℕ) → entries_by i r.known ≤ entries_by i (replica_at w c (block_of f)).known) → entries_by c r.known ≡ 0
    → Falls w (6 * (length f.targets + 1)) (setup_change w c f (taken_request r (set_up conn f asked)) b)
unfolding set_up
taken-falls w c f conn asked r b new lt calm none = at (length f.targets == 0) asked
  where
    at : (t a : Bool) → Falls w (6 * (length f.targets + 1)) (setup_change w c f (taken_request r (set_up_at (if t then mirror.Nobody else (if a then mirror.Asked else mirror.Unreachable)) f conn)) b)
    at true a = nobody-falls w c f conn r b lt calm none
    at false true =
        asked-as w c f conn r b (mirror_request (ref_of (record { 0 = node_of w c })) f) (mirror_node f.targets) new lt calm none refl (goes-fewer (ref_of (record { 0 = node_of w c })) f)
    at false false = unreachable-falls w c f conn r b lt calm none

-- THE REQUEST

booked-falls : (w : World) (c : ℕ) (f : WriteFields) (conn : ConnId) (asked : Bool) (e : Event) (b : Option Break) → IsNew w → c < w.next_conn → IsSetup e ≡ true → (o : Option RequestRefusal)
    → refused_by (row_answer (replica_at w c (block_of f)) (replica_event.Other e)) ≡ o
    → Falls w (6 * (length f.targets + 1)) (setup_change w c f (booked_request conn f asked (row (replica_at w c (block_of f)) (replica_event.Other e)) o) b)
booked-falls w c f conn asked e b new lt s None q =
    let r : FullReplica = replica_at w c (block_of f) in
    taken-falls w c f conn asked (row r (replica_event.Other e)) b new lt (λ i. setup-calm i r.known e s) (setup-none c r.known e s q)
booked-falls w c f conn asked e b new lt s (Some x) q =
    let r : FullReplica = replica_at w c (block_of f) in
    refused-falls w c f (row r (replica_event.Other e)) x b lt (λ i. setup-calm i r.known e s)

request-falls : (w : World) (c : ℕ) (f : WriteFields) (conn : ConnId) (asked : Bool) (b : Option Break) → IsNew w → c < w.next_conn → (o : Result Event RequestRefusal) → IsSetting o
    → Falls w (6 * (length f.targets + 1)) (setup_change w c f (request_at conn f asked (replica_at w c (block_of f)) o) b)
request-falls w c f conn asked b new lt (Err x) s = refused-falls w c f (replica_at w c (block_of f)) x b lt (λ i. omega arith)
request-falls w c f conn asked b new lt (Ok e) s =
    booked-falls w c f conn asked e b new lt s (refused_by (row_answer (replica_at w c (block_of f)) (replica_event.Other e))) refl

failing-falls : (w : World) (c : ℕ) (f : WriteFields) → c < w.next_conn → (o : Result Event RequestRefusal) → IfSome (failing_write w c f o) (Falls w (6 * (length f.targets + 1)))
failing-falls w c f lt (Err x) = tt
failing-falls w c f lt (Ok e) =
    let r : FullReplica = replica_at w c (block_of f) in refused-falls w c f (broken r) refusal.File _ lt (λ i. other-calm i r.known event.FileFault refl)

pub write-falls : (w : World) (c : ℕ) (f : WriteFields) (answered fails : Bool) → IsNew w → c < w.next_conn → IfSome (write_request w c f answered fails) (Falls w (6 * (length f.targets + 1)))
write-falls w c f answered true new lt = failing-falls w c f lt (request_event (record { 0 = c }) f (rule_in (replica_at w c (block_of f)).known))
write-falls w c f answered false new lt =
    request-falls w c f (record { 0 = c }) (is_asked w c f answered) _ new lt (request_event (record { 0 = c }) f (rule_in (replica_at w c (block_of f)).known))
    (request-setting (record { 0 = c }) f (rule_in (replica_at w c (block_of f)).known))
