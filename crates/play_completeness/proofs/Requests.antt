-- An idle end takes its request, and all connections are as they should be then.
use Rattle.std.proofs.Common.{◌≡◌, ℕ, zero, suc, ◌<◌, ◌≤◌, ◌+◌, ◌-◌, Bool, true, false, List, [], ◌∷◌, length, slice_get, Option, Some, None, IfSome, refl, sym, ◌∙◌, ap, subst, arith, eqb-true}
use Rattle.std.specs.Prelude.{◌==◌, nat_lt, nat_le, if◌then◌else◌}
use Rattle.std.proofs.lemmas.Bool.Decides.{nat_tests}
use Rattle.std.proofs.lemmas.Option.{none-some, same_Some}
use Rattle.hd_base.specs.SumRules.{Rule}
use Rattle.hd_base.specs.declared.numbers.ConnId.{ConnId}
use Rattle.hd_base.specs.declared.numbers.NodeId.{NodeId}
use Rattle.hd_base.specs.declared.roads.TheConstants.{FIRST_PORT, MAX_NODES}
use Rattle.op_headers.specs.declared.nodes.NodeRef.{NodeRef}
use Rattle.op_headers.specs.declared.ops.Op.TheVariants as op
use Rattle.op_headers.specs.Values.{WriteFields}
use Rattle.node_refs.specs.NodeRefs.{port_of, ref_of}
use Rattle.replica_core.specs.Transitions.{set_writer}
use Rattle.replica_model.specs.Rows.{FullReplica}
use Rattle.member_core.specs.declared.effects.SetupAnswer.TheVariants as setup_answer
use Rattle.member_core.specs.declared.effects.Upward.{Upward}
use Rattle.member_core.specs.declared.effects.Upward.TheVariants as upward
use Rattle.member_core.specs.declared.member.Mirror.TheVariants as mirror
use Rattle.member_core.specs.declared.requests.TheConstants.{MAX_PORT}
use Rattle.member_core.specs.Members.{MemberState, new_member}
use Rattle.member_core.specs.Requests.{setup_with, response_of, request_from, mirror_request}
use Rattle.member_core.specs.Steps.{Setup, taken_request, request_step}
use Rattle.world.specs.declared.events.Event.{Event}
use Rattle.world.specs.Parts.{Message, request, response, Dialled, Lower, idle, Break}
use Rattle.world.specs.Worlds.{World, Dial, put, apply}
use Rattle.world.specs.Connections.{Next, message, the_end, marks_taken, next_down, down_taken}
use Rattle.world.specs.Nodes.{node_of, node_on, block_of, sent_up, mirror_node, is_asked, setup_change, lower_down}
use Rattle.world.specs.Events.{changed, down_as}
use Rattle.world_laws.specs.Placing.{Placed}
use Rattle.world_orders.specs.Orders.{IsBelow, Ordered}
use Rattle.world_orders.proofs.AllOrdered.{next-found}
use Rattle.world_orders.proofs.Frame.{marked}
use Rattle.world_closings.specs.WorldWriters.Taking.{chain}
use Rattle.play_model.specs.Dues.{is_open}
use Rattle.play_completeness.specs.Plain.{Peaceful}
use Rattle.play_completeness.specs.Links.{MayTake, WaitsWell, LowerWell, IsGoodUp, Link, InPipeline, Links}
use Rattle.play_completeness.proofs.DownTurns.{no-end}
use Rattle.play_completeness.proofs.NewMember.{member_with, own-kept, mirror-kept}
use Rattle.play_completeness.proofs.RequestRow.{Opens, opens, opened_row, opened-known, request-taken, stays-open, alone-set-up, asked-set-up, onward}
use Rattle.play_completeness.proofs.RequestWorld.{after, took-request, one-more, conns-are, new-dialled, new-downs, new-ups, new-idle, new-down, new-up, dial, dial-is, asked-so}
use Rattle.play_completeness.proofs.TookRequest.{WaitsAlone, others-kept}
use Rattle.play_completeness.proofs.TurnWorld.{named}
use Rattle.play_completeness.proofs.Pipelines.{piped-before}

-- TARGETS

-- a target is a node that runs
pub record Reaches (w : World) (t : NodeRef) : Type 0 where
  pub node : ℕ
  pub low : t.xfer ≤ MAX_PORT
  pub on : node_on t.xfer ≡ Some node
  pub runs : w.running node ≡ true

port-is : (n : NodeId) (bound : ℕ) → bound ≤ MAX_NODES → n.0 < bound → port_of n ≡ FIRST_PORT + n.0
port-is n bound le lt = omega (arith, le, lt)

pub port-low : (n : NodeId) (bound : ℕ) → bound ≤ MAX_NODES → n.0 < bound → port_of n ≤ MAX_PORT
port-low n bound le lt = let e : port_of n ≡ FIRST_PORT + n.0 = port-is n bound le lt in omega (arith, e, le, lt)

pub port-node : (n : NodeId) (bound : ℕ) → bound ≤ MAX_NODES → n.0 < bound → node_on (port_of n) ≡ Some n.0
port-node n bound le lt =
    ap node_on (port-is n bound le lt)
    ∙ (ap (λ (b : Bool). if b then Some (FIRST_PORT + n.0 - FIRST_PORT) else None) (past FIRST_PORT n.0) ∙ ap (λ (k : ℕ). Some k) (back FIRST_PORT n.0))
  where
    past : (p k : ℕ) → nat_le p (p + k) ≡ true
    past p k = grind (arith, nat_tests)

    back : (p k : ℕ) → p + k - p ≡ k
    back p k = omega arith

-- THE REQUEST

-- What stands next for an end that has taken nothing is its request.
pub first-is : (w : World) (o : Ordered w) (links : Links w) (c : ℕ) (lc : InPipeline w c) (y : Message) → w.lowers c ≡ idle → next_down w c ≡ Some (message y) → y ≡ request (op.Write (links c lc).fields)
first-is w o links c lc y is next =
    let asked : Message = request (op.Write (links c lc).fields) in
    let none : (w.down_marks c).taken ≡ 0 = (subst (λ (l : Lower). IsBelow (w.dialled c).upper (w.down_marks c).taken (w.ups c) l) is (o.below c)).0 in
    let found : slice_get (w.downs c) (w.down_marks c).taken ≡ Some y = next-found (w.downs c) (w.down_marks c) y next in
    let first : slice_get (w.downs c) (w.down_marks c).taken ≡ Some asked = ap (λ (n : ℕ). slice_get (w.downs c) n) none ∙ (links c lc).asked.first in
    same_Some y asked (sym found ∙ first)

module _ (w : World) (o : Ordered w) (placed : Placed w) (h : Peaceful w) (links : Links w) (c : ℕ) (lc : InPipeline w c) (is : w.lowers c ≡ idle) (alone : WaitsAlone w links c (links c lc).fields)
    (unmet : (i : ℕ) → slice_get (chain w.past c (links c lc).fields) (suc i) ≡ Some (Some (node_of w c)) → ⊥) (reach : (t : NodeRef) (rest : List NodeRef) → (links c lc).fields.targets ≡ t ∷ rest → Reaches w t) (e : Event) where
  abbrev f : WriteFields
  f = (links c lc).fields

  abbrev rule : Rule
  rule = (links c lc).rule

  abbrev R : FullReplica
  R = w.replicas (node_of w c) (block_of f)

  abbrev b : Option Break
  b = w.breaks (node_of w c) (block_of f)

  abbrev conn : ConnId
  conn = record { 0 = c }

  abbrev z : World
  z = marked w (put w.down_marks c (marks_taken (w.down_marks c) (message (request (op.Write f))))) w.up_marks

  abbrev Named : World → Type 0
  Named v = Links (named e v)

  waits : WaitsWell w c f rule
  waits = subst (λ (l : Lower). LowerWell w c f rule l) is (links c lc).lower

  may : MayTake (setup_with f.stage) f rule R
  may = waits.ready 0 (node_of w c) refl

  pub x : Opens conn f rule R
  x = opens conn f rule R (links c lc).request_is may (h.sound (node_of w c) (block_of f)) (h.own (node_of w c) (block_of f))

  abbrev row_now : FullReplica
  row_now = opened_row conn f rule R x

  known-now : row_now.known ≡ set_writer R.known x.info (Some conn)
  known-now = opened-known conn f rule R x

  none-taken : (w.down_marks c).taken ≡ 0
  none-taken = (subst (λ (l : Lower). IsBelow (w.dialled c).upper (w.down_marks c).taken (w.ups c) l) is (o.below c)).0

  -- WHERE NOBODY IS BEHIND IT

  module _ (none : f.targets ≡ []) where
    abbrev says : Option Upward
    says = Some (upward.Answer setup_answer.Success)

    abbrev m : MemberState
    m = new_member conn f mirror.Nobody true

    abbrev v : World
    v = after w c f m row_now says b e

    beyond-none : (k : ℕ) → None ≡ Some k → w.next_conn ≤ k
    beyond-none k q = absurd (none-some k q)

    good-answer : (i : ℕ) (y : Message) → slice_get (sent_up f says) i ≡ Some y → IsGoodUp f y
    unfolding response_of
    good-answer zero y q = subst (IsGoodUp f) (same_Some (response (response_of f setup_answer.Success)) y q) refl
    good-answer (suc i) y q = absurd (none-some y q)

    own-last : Link v c
    own-last = own-kept w v o placed links c lc is alone mirror.Nobody None row_now (sent_up f says) (took-request w c f m row_now says b e) beyond-none x known-now (none, refl) good-answer refl (one-more w c f m row_now says b e none-taken)

    pub last-links : Links v
    last-links k lk = go (k == c) refl
      where
        before : k < w.next_conn
        before =
            let n : v.next_conn ≡ w.next_conn + 0 = conns-are w c f m row_now says b e in
            let l : k < v.next_conn = lk.known in
            omega (arith, n, l)

        known : InPipeline w k
        known = piped-before w v k before ((took-request w c f m row_now says b e).dialled k before) lk

        go : (q : Bool) → (k == c) ≡ q → Link v k
        go true q = subst (λ (j : ℕ). Link v j) (sym (eqb-true k c q)) own-last
        go false q = others-kept w v o placed links c lc is alone (member_with c f mirror.Nobody None) row_now (sent_up f says) (took-request w c f m row_now says b e) beyond-none k known q

  -- WHERE A MIRROR IS ASKED

  module _ (t : NodeRef) (rest : List NodeRef) (targets : f.targets ≡ t ∷ rest) where
    abbrev ask : MemberState
    ask = new_member conn f mirror.Asked true

    abbrev u : World
    u = after w c f ask row_now None b e

    abbrev k : ℕ
    k = w.next_conn

    abbrev source : NodeRef
    source = ref_of (record { 0 = node_of w c })

    abbrev g : WriteFields
    g = request_from source f rest

    target : Reaches w t
    target = reach t rest targets

    asks : mirror_request source f ≡ Some g
    asks = onward source f t rest targets target.low

    at : mirror_node f.targets ≡ Some target.node
    at = ap mirror_node targets ∙ target.on

    is-asked : is_asked z c f true ≡ true
    is-asked = asked-so z c f g target.node asks at target.runs

    beyond-some : (j : ℕ) → Some k ≡ Some j → w.next_conn ≤ j
    beyond-some j q = let s : k ≡ j = same_Some k j q in omega (arith, s)

    no-message : (i : ℕ) (y : Message) → slice_get [] i ≡ Some y → IsGoodUp f y
    no-message i y q = absurd (none-some y q)

    asked-one : (u.down_marks c).taken ≡ 1
    asked-one = one-more w c f ask row_now None b e none-taken

    own-asks : Link u c
    own-asks = own-kept w u o placed links c lc is alone mirror.Asked (Some k) row_now [] (took-request w c f ask row_now None b e) beyond-some x known-now (λ q. none-some k (sym q)) no-message refl asked-one

    dialled-is : u.dialled k ≡ (dial z c f g target.node asks at).dialled
    dialled-is = new-dialled w c f ask row_now None b e placed lc.known (dial z c f g target.node asks at) (dial-is z c f g target.node asks at)

    mirror-asked : Link u k
    mirror-asked =
        let d = dial z c f g target.node asks at in
        let ds = dial-is z c f g target.node asks at in
        mirror-kept w u o placed links c lc is alone mirror.Asked (Some k) row_now [] (took-request w c f ask row_now None b e) beyond-some x known-now (λ q. none-some k (sym q)) no-message refl asked-one
        k refl source t rest targets (ap (λ (y : Dialled). y.upper) dialled-is) (target.on ∙ ap (λ (y : Dialled). Some y.to.node) (sym dialled-is))
        (new-downs w c f ask row_now None b e placed lc.known d ds) (new-ups w c f ask row_now None b e placed lc.known d ds) (new-idle w c f ask row_now None b e placed lc.known d ds)
        (new-down w c f ask row_now None b e placed lc.known d ds) (new-up w c f ask row_now None b e placed lc.known d ds) unmet

    pub asked-links : Links u
    asked-links j lj = go (j == c) (nat_lt j w.next_conn) refl refl
      where
        less : nat_lt j w.next_conn ≡ true → j < w.next_conn
        less q = grind (arith, nat_tests, q)

        low : nat_lt j w.next_conn ≡ true → InPipeline w j
        low q = piped-before w u j (less q) ((took-request w c f ask row_now None b e).dialled j (less q)) lj

        new : nat_lt j w.next_conn ≡ false → j ≡ k
        new q =
            let n : u.next_conn ≡ w.next_conn + 1 = conns-are w c f ask row_now None b e ∙ ap (λ (ds : List Dial). w.next_conn + length ds) (dial-is z c f g target.node asks at) in
            let le : w.next_conn ≤ j = grind (arith, nat_tests, q) in
            let l : j < u.next_conn = lj.known in
            omega (arith, n, le, l)

        go : (p q : Bool) → (j == c) ≡ p → nat_lt j w.next_conn ≡ q → Link u j
        go true q s l = subst (λ (i : ℕ). Link u i) (sym (eqb-true j c s)) own-asks
        go false true s l = others-kept w u o placed links c lc is alone (member_with c f mirror.Asked (Some k)) row_now [] (took-request w c f ask row_now None b e) beyond-some j (low l) s
        go false false s l = subst (λ (i : ℕ). Link u i) (sym (new l)) mirror-asked

  -- DELIVERY

  step-links : (ts : List NodeRef) → f.targets ≡ ts → Named (apply z (setup_change z c f (request_step conn f (is_asked z c f true) R) b))
  step-links [] q =
      subst (λ (s : Setup). Named (apply z (setup_change z c f s b)))
      (sym (request-taken conn f rule (is_asked z c f true) R x ∙ ap (taken_request row_now) (alone-set-up conn f (is_asked z c f true) q (stays-open f (links c lc).request_is.opens)))) (last-links q)
  step-links (t ∷ rest) q =
      subst (λ (s : Setup). Named (apply z (setup_change z c f s b)))
      (sym (ap (λ (a : Bool). request_step conn f a R) (is-asked t rest q) ∙ (request-taken conn f rule true R x ∙ ap (taken_request row_now) (asked-set-up conn f t rest q)))) (asked-links t rest q)

  abbrev Took : Message → Type 0
  Took y = IfSome (changed (down_taken w c (message y)) (lower_down idle (down_taken w c (message y)) c (message y) true false)) Named

  request-links : Took (request (op.Write f))
  unfolding down_taken
  request-links = step-links f.targets refl

  pub next-links : (n : Option Next) → next_down w c ≡ n → IfSome (down_as w c true false n) Named
  next-links None next = tt
  next-links (Some the_end) next = absurd (no-end (w.downs c) (w.down_marks c) ((links c lc).ends.down (ap is_open is)) next)
  next-links (Some (message y)) next =
      subst (λ (l : Lower). IfSome (changed (down_taken w c (message y)) (lower_down l (down_taken w c (message y)) c (message y) true false)) Named) (sym is)
      (subst Took (sym (first-is w o links c lc y is next)) request-links)
