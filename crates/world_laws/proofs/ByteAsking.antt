-- What a write request makes of a node.
use Rattle.std.proofs.Common.{◌≡◌, ℕ, zero, suc, ◌+◌, ◌-◌, Bool, true, false, List, [], ◌∷◌, ◌++◌, length, slice_get, Option, Some, None, IfSome, Result, Ok, Err, IfOk, refl, sym, ◌∙◌, ap, subst, arith}
use Rattle.std.specs.Prelude.{◌==◌, ◌&&◌, nat_le, is_some, if◌then◌else◌, option_map}
use Rattle.std.proofs.lemmas.Bool.{false≢true}
use Rattle.std.proofs.lemmas.Bool.Decides.{nat_tests}
use Rattle.std.proofs.lemmas.Option.{none-some, same_Some}
use Rattle.hd_base.specs.Results.{◌>>=◌}
use Rattle.hd_base.specs.SumRules.{Rule}
use Rattle.hd_base.specs.declared.numbers.ConnId.{ConnId}
use Rattle.world.specs.OpHeaders.NodeRef.{NodeRef}
use Rattle.world.specs.OpHeaders.Op.TheVariants as op
use Rattle.world.specs.OpHeaders.Values.{WriteFields}
use Rattle.world.specs.NodeRefs.NodeRefs.{ref_of}
use Rattle.replica_core.specs.declared.events.Event.{Event}
use Rattle.replica_core.specs.Views.{rule_in}
use Rattle.world.specs.ReplicaModel.ReplicaEvent.TheVariants as replica_event
use Rattle.world.specs.ReplicaModel.Rows.{FullReplica, row, row_answer}
use Rattle.world.specs.RequestRefusals.RequestRefusal.{RequestRefusal}
use Rattle.world.specs.RequestRefusals.RequestRefusal.TheVariants as refusal
use Rattle.world.specs.RequestRefusals.Pools.{is_in_pool}
use Rattle.world.specs.MemberCore.Upward.{Upward}
use Rattle.world.specs.MemberCore.Upward.TheVariants as upward
use Rattle.world.specs.MemberCore.Mirror.{Mirror}
use Rattle.world.specs.MemberCore.Mirror.TheVariants as mirror
use Rattle.world.specs.MemberCore.SetupKind.{SetupKind}
use Rattle.world.specs.MemberCore.SetupKind.TheVariants as kind
use Rattle.world.specs.MemberCore.TheConstants.{MAX_BELOW, MAX_PORT}
use Rattle.world.specs.MemberCore.Members.{MemberState, mirror_for, set_up, set_up_at}
use Rattle.world.specs.MemberCore.Requests.{setup_with, rule_for, named_setup, named_rule, setup_event, request_event, request_from, request_to, mirror_request}
use Rattle.world.specs.MemberCore.Steps.{Setup, request_at, booked_request, refused_by, request_step, faulted_request}
use Rattle.world.specs.Parts.{Message, request, by_primary, by_member, Break}
use Rattle.world.specs.Worlds.{Past, World, Dial, Change, dial_at, listed, past_after, apply}
use Rattle.world.specs.Nodes.{node_of, replica_at, block_of, broke_at, upward_message, sent_up, mirror_node, runs_there, is_asked, mirror_dial, dials_of, member_dials, mirror_conn, lower_of, setup_change, failing_write, write_request}
use Rattle.world_laws.proofs.FactTables.{if-each, and-left, and-right}
use Rattle.world_laws.specs.Stamping.{Givens}
use Rattle.world_laws.specs.Carrying.{stamp_set, new_stamp, Sets, WriteSays, DownSays, UpSays, ReplicaSays, BreakSays, LowerSays, Carried}
use Rattle.world_laws.proofs.ByteLater.{Later, down-later}
use Rattle.world_laws.proofs.ByteRows.{SetUp, Ready, Allows, row-says, broken-says}
use Rattle.world_laws.proofs.ByteFrame.{Each, each-nil, each-one}
use Rattle.world_laws.proofs.ByteLeaves.{Facts, node-keeps, sent-each, ready-at, break-at, broke-says}

-- THE EVENT

-- a request's connection sets up its stamp
pub write-sets : (g : Givens) (p : Past) (c : ℕ) (f : WriteFields) → WriteSays g p c f → Sets p c (new_stamp f)
write-sets g p c f w = record { fields = f; first = w.first; is = refl }

set-up-of : (g : Givens) (p : Past) (c : ℕ) (f : WriteFields) (s : SetupKind) → WriteSays g p c f → setup_with f.stage ≡ Some s → SetUp g p f.block.block.0 (Some s) f.block.stamp (stamp_set (Some s) f.block.stamp f.latest) f.min (record { 0 = c })
set-up-of g p c f s w e =
    subst (λ (o : Option SetupKind). SetUp g p f.block.block.0 o f.block.stamp (stamp_set o f.block.stamp f.latest) f.min (record { 0 = c })) e
    (record { session = w.session; given = w.given; sets = write-sets g p c f w; passes = w.passes })

event-allows : (g : Givens) (p : Past) (c : ℕ) (f : WriteFields) (r : Rule) (s : SetupKind) → WriteSays g p c f → setup_with f.stage ≡ Some s
    → Allows g p f.block.block.0 (replica_event.Other (setup_event (record { 0 = c }) f r s))
event-allows g p c f r kind.Create w e = (f.min, set-up-of g p c f kind.Create w e)
event-allows g p c f r kind.Append w e = set-up-of g p c f kind.Append w e
event-allows g p c f r kind.AppendRecovery w e = set-up-of g p c f kind.AppendRecovery w e
event-allows g p c f r kind.StreamRecovery w e = set-up-of g p c f kind.StreamRecovery w e
event-allows g p c f r kind.CloseRecovery w e = (record { 0 = c }, set-up-of g p c f kind.CloseRecovery w e)

-- a request that isn't refused before is such an event
abbrev pub Allowed : {E : Type 0} → Givens → Past → ℕ → Result Event E → Type 0
Allowed g p b e = IfOk e (λ x. Allows g p b (replica_event.Other x))

checked : (g : Givens) (p : Past) (b : ℕ) (t : Bool) (e : RequestRefusal) (r : Result Event RequestRefusal) → Allowed g p b r → Allowed g p b (if t then r else Err e)
checked g p b true e r h = h
checked g p b false e r h = tt

few-allowed : (g : Givens) (p : Past) (c : ℕ) (f : WriteFields) (s : SetupKind) (o : Option Rule) → WriteSays g p c f → setup_with f.stage ≡ Some s
    → Allowed g p f.block.block.0 (named_rule f o >>= (λ sums. if nat_le (length f.targets) MAX_BELOW then Ok (setup_event (record { 0 = c }) f sums s) else Err (refusal.TooMany (length f.targets))))
few-allowed g p c f s None w e = tt
few-allowed g p c f s (Some r) w e = checked g p f.block.block.0 (nat_le (length f.targets) MAX_BELOW) _ _ (event-allows g p c f r s w e)

named-allowed : (g : Givens) (p : Past) (c : ℕ) (f : WriteFields) (held : Option Rule) (o : Option SetupKind) → WriteSays g p c f → setup_with f.stage ≡ o
    → Allowed g p f.block.block.0 (named_setup f.stage o >>= (λ kind. named_rule f (rule_for f held) >>= (λ sums. if nat_le (length f.targets) MAX_BELOW then Ok (setup_event (record { 0 = c }) f sums kind) else Err (refusal.TooMany (length f.targets)))))
named-allowed g p c f held None w e = tt
named-allowed g p c f held (Some s) w e = few-allowed g p c f s (rule_for f held) w e

request-allowed : (g : Givens) (p : Past) (c : ℕ) (f : WriteFields) (held : Option Rule) → WriteSays g p c f → Allowed g p f.block.block.0 (request_event (record { 0 = c }) f held)
unfolding request_event
request-allowed g p c f held w = checked g p f.block.block.0 (is_in_pool f.block) _ _ (named-allowed g p c f held (setup_with f.stage) w refl)

-- THE REPLICA

booked-says : (g : Givens) (p : Past) (b : ℕ) (conn : ConnId) (f : WriteFields) (asked : Bool) (r : FullReplica) (o : Option RequestRefusal) → ReplicaSays g p b r → ReplicaSays g p b (booked_request conn f asked r o).replica
booked-says g p b conn f asked r None s = s
booked-says g p b conn f asked r (Some refused) s = s

requested-says : (g : Givens) (p : Past) (b : ℕ) (conn : ConnId) (f : WriteFields) (asked : Bool) (r : FullReplica) (e : Result Event RequestRefusal) → Ready g p b r → Allowed g p b e
    → ReplicaSays g p b (request_at conn f asked r e).replica
requested-says g p b conn f asked r (Err refused) s a = s.says
requested-says g p b conn f asked r (Ok e) s a = booked-says g p b conn f asked (row r (replica_event.Other e)) (refused_by (row_answer r (replica_event.Other e))) (row-says g p b r (replica_event.Other e) s a)

-- THE MEMBER

-- a new member has its connection's number, and asks its mirror only where that could be
pub record IsNew (conn : ConnId) (asked : Bool) (m : MemberState) : Type 0 where
  pub conn_is : m.conn ≡ conn
  pub asks : m.mirror ≡ mirror.Asked → asked ≡ true

asked-for : (n : ℕ) (asked : Bool) → mirror_for n asked ≡ mirror.Asked → asked ≡ true
asked-for n true e = refl
asked-for n false e = absurd (never (n == 0) e)
  where
    never : (b : Bool) → (if b then mirror.Nobody else mirror.Unreachable) ≡ mirror.Asked → ⊥
    never true h = cc
    never false h = cc

set-up-new : (m : Mirror) (f : WriteFields) (conn : ConnId) (asked : Bool) → (m ≡ mirror.Asked → asked ≡ true) → IsNew conn asked (set_up_at m f conn).0
set-up-new mirror.Nobody f conn asked h = record { conn_is = refl; asks = h }
set-up-new mirror.Asked f conn asked h = record { conn_is = refl; asks = h }
set-up-new mirror.Unreachable f conn asked h = record { conn_is = refl; asks = h }
set-up-new mirror.Open f conn asked h = record { conn_is = refl; asks = h }
set-up-new mirror.Ended f conn asked h = record { conn_is = refl; asks = h }

new-set-up : (conn : ConnId) (f : WriteFields) (asked : Bool) → IsNew conn asked (set_up conn f asked).0
unfolding set_up
new-set-up conn f asked = set-up-new (mirror_for (length f.targets) asked) f conn asked (asked-for (length f.targets) asked)

booked-new : (conn : ConnId) (f : WriteFields) (asked : Bool) (r : FullReplica) (o : Option RequestRefusal) → IfSome (booked_request conn f asked r o).member (IsNew conn asked)
booked-new conn f asked r None = new-set-up conn f asked
booked-new conn f asked r (Some refused) = tt

requested-new : (conn : ConnId) (f : WriteFields) (asked : Bool) (r : FullReplica) (e : Result Event RequestRefusal) → IfSome (request_at conn f asked r e).member (IsNew conn asked)
requested-new conn f asked r (Err refused) = tt
requested-new conn f asked r (Ok e) = booked-new conn f asked (row r (replica_event.Other e)) (refused_by (row_answer r (replica_event.Other e)))

-- THE MIRROR'S REQUEST

-- what goes on is the same request to fewer
pub record IsOn (f d : WriteFields) : Type 0 where
  pub rest : List NodeRef
  pub source : NodeRef
  pub is : d ≡ request_from source f rest

goes-on : (source : NodeRef) (f : WriteFields) (ts : List NodeRef) (d : WriteFields) → request_to source f ts ≡ Some d → IsOn f d
goes-on source f [] d e = absurd (none-some d e)
goes-on source f (t ∷ ts) d e = go (nat_le t.xfer MAX_PORT) e
  where
    go : (b : Bool) → (if b then Some (request_from source f ts) else None) ≡ Some d → IsOn f d
    go true q = record { rest = ts; source = source; is = sym (same_Some (request_from source f ts) d q) }
    go false q = absurd (none-some d q)

pub mirror-on : (source : NodeRef) (f d : WriteFields) → mirror_request source f ≡ Some d → IsOn f d
unfolding mirror_request
mirror-on source f d e = goes-on source f f.targets d e

-- The request that goes on says what the first one did, where it is the first message of its connection.
on-says : (g : Givens) (p : Past) (c d : ℕ) (f k : WriteFields) → IsOn f k → slice_get (p.downs d) 0 ≡ Some (request (op.Write k)) → WriteSays g p c f → WriteSays g p d k
on-says g p c d f k i e w =
    subst (λ (x : WriteFields). slice_get (p.downs d) 0 ≡ Some (request (op.Write x)) → WriteSays g p d x) (sym i.is)
    (λ q. record { first = q; session = w.session; given = w.given; passes = w.passes }) e

on-sets : (p : Past) (d : ℕ) (f k : WriteFields) → IsOn f k → slice_get (p.downs d) 0 ≡ Some (request (op.Write k)) → Sets p d (new_stamp f)
on-sets p d f k i e = record { fields = k; first = e; is = ap (λ (x : WriteFields). new_stamp x) i.is }

-- the first message of a new connection is the request with which it was dialled
pub first-dial : (g : Givens) (w : World) (k : Change) (i : ℕ) (d : Dial) → Facts g w → ((c : ℕ) → k.downs c ≡ []) → slice_get k.dials i ≡ Some d → slice_get ((past_after w k).downs (w.next_conn + i)) 0 ≡ Some d.request
first-dial g w k i d h none e =
    subst (λ (xs : List Message). slice_get ((xs ++ k.downs (w.next_conn + i)) ++ listed (option_map (λ x. x.request) (dial_at w.next_conn k.dials (w.next_conn + i)))) 0 ≡ Some d.request) (sym (h.fresh (w.next_conn + i) (omega arith)))
    (subst (λ (xs : List Message). slice_get (xs ++ listed (option_map (λ x. x.request) (dial_at w.next_conn k.dials (w.next_conn + i)))) 0 ≡ Some d.request) (sym (none (w.next_conn + i)))
    (subst (λ (o : Option Dial). slice_get (listed (option_map (λ x. x.request) o)) 0 ≡ Some d.request) (sym at) refl))
  where
    at : dial_at w.next_conn k.dials (w.next_conn + i) ≡ Some d
    at = if-each (λ (o : Option Dial). o ≡ Some d) (nat_le w.next_conn (w.next_conn + i)) (slice_get k.dials (w.next_conn + i - w.next_conn)) None
        (λ _. subst (λ (j : ℕ). slice_get k.dials j ≡ Some d) (sub w.next_conn i) e) (λ f. absurd (low f))
      where
        sub : (a b : ℕ) → b ≡ a + b - a
        sub a b = omega arith

        low : nat_le w.next_conn (w.next_conn + i) ≡ false → ⊥
        low f = grind (arith, nat_tests, f)

-- the dial of a mirror
pub record MirrorDial (w : World) (c : ℕ) (f : WriteFields) (ds : List Dial) : Type 0 where
  pub fields : WriteFields
  pub on : IsOn f fields
  pub dial : Dial
  pub is : ds ≡ dial ∷ []
  pub request_is : dial.request ≡ request (op.Write fields)
  pub upper : dial.dialled.upper ≡ by_member c

dial-as : (w : World) (c : ℕ) (f : WriteFields) (o : Option WriteFields) (n : Option ℕ) → ((d : WriteFields) → o ≡ Some d → IsOn f d) → is_some o ≡ true → runs_there w n ≡ true → MirrorDial w c f (mirror_dial w c o n)
dial-as w c f (Some d) (Some n) on a b = record { fields = d; on = on d refl; dial = _; is = refl; request_is = refl; upper = refl }
dial-as w c f (Some d) None on a b = absurd (false≢true b)
dial-as w c f None n on a b = absurd (false≢true a)

mirror-dialled : (w : World) (c : ℕ) (f : WriteFields) (answered : Bool) → is_asked w c f answered ≡ true → MirrorDial w c f (dials_of mirror.Asked w c f)
mirror-dialled w c f answered e =
    let o = mirror_request (ref_of (record { 0 = node_of w c })) f in
    dial-as w c f o (mirror_node f.targets) (λ d q. mirror-on (ref_of (record { 0 = node_of w c })) f d q)
    (and-right answered (is_some o) (and-left (answered && is_some o) (runs_there w (mirror_node f.targets)) e))
    (and-right (answered && is_some o) (runs_there w (mirror_node f.targets)) e)

-- THE CHANGE

-- what the dials of a member say, by how its mirror stands
pub record Dialling (g : Givens) (w : World) (p : Past) (c : ℕ) (f : WriteFields) (ds : List Dial) (m : Option ℕ) : Type 0 where
  pub mirror : IfSome m (λ d. Sets p d (new_stamp f))
  pub says : (i : ℕ) (d : Dial) → slice_get ds i ≡ Some d → DownSays g p (w.next_conn + i) d.request
  pub unled : (i : ℕ) (d : Dial) → slice_get ds i ≡ Some d → (j place : ℕ) → d.dialled.upper ≡ by_primary j place → ⊥

no-dialling : (g : Givens) (w : World) (p : Past) (c : ℕ) (f : WriteFields) → Dialling g w p c f [] None
no-dialling g w p c f = record { mirror = tt; says = λ i d e. absurd (none-some d e); unled = λ i d e. absurd (none-some d e) }

pub only-one : (P : ℕ → Dial → Type 0) (x : Dial) (ds : List Dial) → ds ≡ x ∷ [] → P 0 x → (i : ℕ) (d : Dial) → slice_get ds i ≡ Some d → P i d
only-one P x ds e h i d q = go i d (subst (λ (xs : List Dial). slice_get xs i ≡ Some d) e q)
  where
    go : (i : ℕ) (d : Dial) → slice_get (x ∷ []) i ≡ Some d → P i d
    go zero d q = subst (P 0) (same_Some x d q) h
    go (suc i) d q = absurd (none-some d q)

asked-dialling : (g : Givens) (w : World) (k : Change) (c : ℕ) (f : WriteFields) → Facts g w → ((c : ℕ) → k.downs c ≡ []) → WriteSays g (past_after w k) c f → MirrorDial w c f k.dials
    → Dialling g w (past_after w k) c f k.dials (Some w.next_conn)
asked-dialling g w k c f h none says m = record {
  mirror = subst (λ (n : ℕ). Sets (past_after w k) n (new_stamp f)) plus (on-sets (past_after w k) (w.next_conn + 0) f m.fields m.on first);
  says = only-one (λ i d. DownSays g (past_after w k) (w.next_conn + i) d.request) m.dial k.dials m.is
      (subst (λ (x : Message). DownSays g (past_after w k) (w.next_conn + 0) x) (sym m.request_is) (on-says g (past_after w k) c (w.next_conn + 0) f m.fields m.on first says));
  unled = only-one (λ i d. (j place : ℕ) → d.dialled.upper ≡ by_primary j place → ⊥) m.dial k.dials m.is (λ j place u. apart j place (sym m.upper ∙ u));
}
  where
    plus : w.next_conn + 0 ≡ w.next_conn
    plus = omega arith

    first : slice_get ((past_after w k).downs (w.next_conn + 0)) 0 ≡ Some (request (op.Write m.fields))
    first = first-dial g w k 0 m.dial h none (ap (λ (xs : List Dial). slice_get xs 0) m.is) ∙ ap (λ (x : Message). Some x) m.request_is

    apart : (j place : ℕ) → by_member c ≡ by_primary j place → ⊥
    apart j place e = cc

member-dialling : (g : Givens) (w : World) (k : Change) (c : ℕ) (f : WriteFields) (answered : Bool) (m : Mirror) → Facts g w → ((c : ℕ) → k.downs c ≡ []) → k.dials ≡ dials_of m w c f
    → (m ≡ mirror.Asked → is_asked w c f answered ≡ true) → WriteSays g (past_after w k) c f → Dialling g w (past_after w k) c f k.dials (mirror_conn m w.next_conn)
member-dialling g w k c f answered mirror.Asked h none e a says = asked-dialling g w k c f h none says (subst (λ (ds : List Dial). MirrorDial w c f ds) (sym e) (mirror-dialled w c f answered (a refl)))
member-dialling g w k c f answered mirror.Nobody h none e a says = subst (λ (ds : List Dial). Dialling g w (past_after w k) c f ds None) (sym e) (no-dialling g w (past_after w k) c f)
member-dialling g w k c f answered mirror.Unreachable h none e a says = subst (λ (ds : List Dial). Dialling g w (past_after w k) c f ds None) (sym e) (no-dialling g w (past_after w k) c f)
member-dialling g w k c f answered mirror.Open h none e a says = subst (λ (ds : List Dial). Dialling g w (past_after w k) c f ds None) (sym e) (no-dialling g w (past_after w k) c f)
member-dialling g w k c f answered mirror.Ended h none e a says = subst (λ (ds : List Dial). Dialling g w (past_after w k) c f ds None) (sym e) (no-dialling g w (past_after w k) c f)

-- a new member, if there is one
pub record Joining (g : Givens) (w : World) (p : Past) (c : ℕ) (f : WriteFields) (ds : List Dial) (o : Option MemberState) : Type 0 where
  pub lower : LowerSays p c (lower_of o f w.next_conn)
  pub says : (i : ℕ) (d : Dial) → slice_get ds i ≡ Some d → DownSays g p (w.next_conn + i) d.request
  pub unled : (i : ℕ) (d : Dial) → slice_get ds i ≡ Some d → (j place : ℕ) → d.dialled.upper ≡ by_primary j place → ⊥

joining : (g : Givens) (w : World) (k : Change) (c : ℕ) (f : WriteFields) (answered : Bool) (o : Option MemberState) → Facts g w → ((c : ℕ) → k.downs c ≡ []) → k.dials ≡ member_dials o w c f
    → IfSome o (IsNew (record { 0 = c }) (is_asked w c f answered)) → WriteSays g (past_after w k) c f → Joining g w (past_after w k) c f k.dials o
joining g w k c f answered None h none e n says =
    subst (λ (ds : List Dial). Joining g w (past_after w k) c f ds None) (sym e) (record { lower = tt; says = λ i d e. absurd (none-some d e); unled = λ i d e. absurd (none-some d e) })
joining g w k c f answered (Some m) h none e n says =
    let y = member-dialling g w k c f answered m.mirror h none e n.asks says in
    record { lower = record { conn = ap (λ (q : ConnId). q.0) n.conn_is; sets = write-sets g (past_after w k) c f says; mirror = y.mirror }; says = y.says; unled = y.unled }

-- what is sent up needs nothing
pub sent-up : (g : Givens) (p : Past) (c : ℕ) (f : WriteFields) (o : Option Upward) → Each (UpSays g p c) (sent_up f o)
sent-up g p c f None = each-nil (UpSays g p c)
sent-up g p c f (Some (upward.Answer a)) = each-one (UpSays g p c) (upward_message f (upward.Answer a)) tt
sent-up g p c f (Some (upward.Ack a)) = each-one (UpSays g p c) (upward_message f (upward.Ack a)) tt

setup-keeps : (g : Givens) (w : World) (c : ℕ) (f : WriteFields) (answered : Bool) (s : Setup) (b : Option Break) → Facts g w → WriteSays g w.past c f
    → ((p : Past) → Later g g w.past p → ReplicaSays g p (block_of f) s.replica) → ((p : Past) → Later g g w.past p → IfSome b (BreakSays g p (block_of f)))
    → IfSome s.member (IsNew (record { 0 = c }) (is_asked w c f answered)) → Carried g (apply w (setup_change w c f s b))
setup-keeps g w c f answered s b h says replica broke new =
    let k = setup_change w c f s b in
    let p = past_after w k in
    node-keeps g w k h (record { office = refl; stamped = refl; writer = refl; bytes = refl; primary = refl }) (λ y.
    let j = joining g w k c f answered s.member h (λ _. refl) refl new (down-later g g w.past p c (request (op.Write f)) y says) in
    record {
      replica = replica p y;
      broke = broke p y;
      lower = j.lower;
      downs = λ d. each-nil (DownSays g p d);
      ups = sent-each (UpSays g p) c (sent_up f s.effect.sends) (sent-up g p c f s.effect.sends);
      dials = j.says;
      unled = j.unled;
    })

-- what a change makes of a world where it is carried
abbrev pub Keeps : Givens → World → Change → Type 0
Keeps g w k = Carried g (apply w k)

failing-write-keeps : (g : Givens) (w : World) (c : ℕ) (f : WriteFields) (e : Result Event RequestRefusal) → Facts g w → WriteSays g w.past c f
    → ((p : Past) → Later g g w.past p → Allowed g p (block_of f) e) → IfSome (failing_write w c f e) (Keeps g w)
failing-write-keeps g w c f (Err refused) h says a = tt
failing-write-keeps g w c f (Ok e) h says a =
    setup-keeps g w c f false (faulted_request (replica_at w c (block_of f))) (broke_at w c (block_of f) (replica_event.Other e)) h says
    (λ p y. broken-says g p (block_of f) (replica_at w c (block_of f)) (ready-at g w p (node_of w c) (block_of f) h y))
    (λ p y. broke-says g w p c (block_of f) (replica_event.Other e) h y (a p y)) tt

pub write-keeps : (g : Givens) (w : World) (c : ℕ) (f : WriteFields) (answered fails : Bool) → Facts g w → WriteSays g w.past c f → IfSome (write_request w c f answered fails) (Keeps g w)
write-keeps g w c f answered true h says =
    let held = rule_in (replica_at w c (block_of f)).known in
    failing-write-keeps g w c f (request_event (record { 0 = c }) f held) h says
    (λ p y. request-allowed g p c f held (down-later g g w.past p c (request (op.Write f)) y says))
write-keeps g w c f answered false h says =
    let r = replica_at w c (block_of f) in
    let conn : ConnId = record { 0 = c } in
    let e = request_event conn f (rule_in r.known) in
    setup-keeps g w c f answered (request_step conn f (is_asked w c f answered) r) (w.breaks (node_of w c) (block_of f)) h says
    (λ p y. requested-says g p (block_of f) conn f (is_asked w c f answered) r e (ready-at g w p (node_of w c) (block_of f) h y)
    (request-allowed g p c f (rule_in r.known) (down-later g g w.past p c (request (op.Write f)) y says)))
    (λ p y. break-at g w p (node_of w c) (block_of f) h y)
    (requested-new conn f (is_asked w c f answered) r e)
