-- What a write request leaves in range.
use Rattle.std.proofs.Common.{◌≡◌, ℕ, zero, suc, ◌<◌, ◌≤◌, ◌+◌, Bool, true, false, [], ◌∷◌, length, slice_get, Option, Some, None, IfSome, Result, Ok, Err, refl, sym, ◌∙◌, subst, arith}
use Rattle.std.specs.Prelude.{◌==◌, ◌&&◌, is_some, if◌then◌else◌}
use Rattle.std.proofs.lemmas.Option.{none-some, same_Some}
use Rattle.std.proofs.lemmas.Bool.{false≢true}
use Rattle.hd_base.specs.declared.numbers.ConnId.{ConnId}
use Rattle.world.specs.OpHeaders.Values.{WriteFields}
use Rattle.world.specs.NodeRefs.NodeRefs.{ref_of}
use Rattle.replica_core.specs.declared.events.Event.{Event}
use Rattle.world.specs.ReplicaModel.ReplicaEvent.TheVariants as replica_event
use Rattle.world.specs.ReplicaModel.Rows.{FullReplica, row, row_answer}
use Rattle.world.specs.RequestRefusals.RequestRefusal.{RequestRefusal}
use Rattle.replica_core.specs.Views.{rule_in}
use Rattle.world.specs.MemberCore.Mirror.{Mirror}
use Rattle.world.specs.MemberCore.Mirror.TheVariants as mirror
use Rattle.world.specs.MemberCore.Members.{MemberState, mirror_for, set_up_at, set_up}
use Rattle.world.specs.MemberCore.Requests.{request_event, mirror_request}
use Rattle.world.specs.MemberCore.Steps.{Setup, request_step, request_at, booked_request, refused_by, faulted_request}
use Rattle.world.specs.Parts.{Break}
use Rattle.world.specs.Worlds.{World, Dial}
use Rattle.world.specs.Nodes.{node_of, replica_at, block_of, runs_there, mirror_node, is_asked, mirror_dial, dials_of, member_dials, mirror_conn, lower_of, setup_change, write_request, failing_write}
use Rattle.world_laws.specs.Placing.{IsConn, IsDialled, IsLower, Placed}
use Rattle.world_laws.proofs.FactTables.{and-left, and-right}
use Rattle.world_laws.proofs.PlaceConns.{sent-out, no-conn, one-conn}
use Rattle.world_laws.proofs.PlaceFitting.{Fits}
use Rattle.world_laws.proofs.PlaceLeaves.{rest, shuts-out}

-- A NEW MEMBER HAS ASKED ITS MIRROR ONLY WHERE IT COULD

-- where a member's mirror is asked, it could be
abbrev pub AskedIf : Bool → Option MemberState → Type 0
AskedIf asked m = IfSome m (λ s. s.mirror ≡ mirror.Asked → asked ≡ true)

asked-for : (n : ℕ) (asked : Bool) → mirror_for n asked ≡ mirror.Asked → asked ≡ true
asked-for n true e = refl
asked-for n false e = absurd (never (n == 0) e)
  where
    never : (b : Bool) → (if b then mirror.Nobody else mirror.Unreachable) ≡ mirror.Asked → ⊥
    never true h = cc
    never false h = cc

set-up-mirror : (m : Mirror) (fields : WriteFields) (conn : ConnId) → (set_up_at m fields conn).0.mirror ≡ m
set-up-mirror mirror.Nobody fields conn = refl
set-up-mirror mirror.Asked fields conn = refl
set-up-mirror mirror.Unreachable fields conn = refl
set-up-mirror mirror.Open fields conn = refl
set-up-mirror mirror.Ended fields conn = refl

set-up-asked : (conn : ConnId) (fields : WriteFields) (asked : Bool) → (set_up conn fields asked).0.mirror ≡ mirror.Asked → asked ≡ true
unfolding set_up
set-up-asked conn fields asked e =
    asked-for (length fields.targets) asked (sym (set-up-mirror (mirror_for (length fields.targets) asked) fields conn) ∙ e)

booked-asked : (conn : ConnId) (fields : WriteFields) (asked : Bool) (r : FullReplica) (o : Option RequestRefusal) → AskedIf asked (booked_request conn fields asked r o).member
booked-asked conn fields asked r None = set-up-asked conn fields asked
booked-asked conn fields asked r (Some refused) = tt

request-asked : (conn : ConnId) (fields : WriteFields) (asked : Bool) (r : FullReplica) (e : Result Event RequestRefusal) → AskedIf asked (request_at conn fields asked r e).member
request-asked conn fields asked r (Err refused) = tt
request-asked conn fields asked r (Ok e) =
    booked-asked conn fields asked (row r (replica_event.Other e)) (refused_by (row_answer r (replica_event.Other e)))

-- ITS DIAL

-- what a request that could be sent has: the request that goes on, and a node that runs
record Sendable (w : World) (o : Option WriteFields) (p : Option ℕ) : Type 0 where
  fields : WriteFields
  goes : o ≡ Some fields
  node : ℕ
  at : p ≡ Some node
  runs : w.running node ≡ true

sendable-as : (w : World) (o : Option WriteFields) (p : Option ℕ) → is_some o ≡ true → runs_there w p ≡ true → Sendable w o p
sendable-as w (Some f) (Some n) a b = record { fields = f; goes = refl; node = n; at = refl; runs = b }
sendable-as w (Some f) None a b = absurd (false≢true b)
sendable-as w None p a b = absurd (false≢true a)

abbrev goes_on : World → ℕ → WriteFields → Option WriteFields
goes_on w c fields = mirror_request (ref_of (record { 0 = node_of w c })) fields

sendable : (w : World) (c : ℕ) (fields : WriteFields) (answered : Bool) → is_asked w c fields answered ≡ true
    → Sendable w (goes_on w c fields) (mirror_node fields.targets)
sendable w c fields answered e =
    sendable-as w (goes_on w c fields) (mirror_node fields.targets)
    (and-right answered (is_some (goes_on w c fields)) (and-left (answered && is_some (goes_on w c fields)) (runs_there w (mirror_node fields.targets)) e))
    (and-right (answered && is_some (goes_on w c fields)) (runs_there w (mirror_node fields.targets)) e)

pub one-dial : (P : Dial → Type 0) (x : Dial) (i : ℕ) (d : Dial) → P x → slice_get (x ∷ []) i ≡ Some d → P d
one-dial P x zero d h e = subst P (same_Some x d e) h
one-dial P x (suc i) d h e = absurd (none-some d e)

dial-in : (w : World) (c n : ℕ) (o : Option WriteFields) (p : Option ℕ) → Placed w → c < w.next_conn → w.next_conn ≤ n → Sendable w o p
    → (i : ℕ) (d : Dial) → slice_get (mirror_dial w c o p) i ≡ Some d → IsDialled w.nodes n d.dialled
dial-in w c n (Some f) (Some m) h lt le s i d e =
    one-dial (λ x. IsDialled w.nodes n x.dialled) _ i d
    (record { to = h.runs m (subst (λ k. w.running k ≡ true) (sym (same_Some m s.node s.at)) s.runs); from = (h.dialled c lt).to; upper = omega (arith, lt, le) }) e
dial-in w c n (Some f) None h lt le s i d e = absurd (none-some d e)
dial-in w c n None p h lt le s i d e = absurd (none-some d e)

dial-there : (w : World) (c : ℕ) (o : Option WriteFields) (p : Option ℕ) → Sendable w o p → length (mirror_dial w c o p) ≡ 1
dial-there w c (Some f) (Some m) s = refl
dial-there w c (Some f) None s = absurd (none-some s.node s.at)
dial-there w c None p s = absurd (none-some s.fields s.goes)

-- the dials of a member by how its mirror stands
dials-in : (w : World) (c n : ℕ) (fields : WriteFields) (answered : Bool) (m : Mirror) → Placed w → c < w.next_conn → w.next_conn ≤ n
    → (m ≡ mirror.Asked → is_asked w c fields answered ≡ true)
    → (i : ℕ) (d : Dial) → slice_get (dials_of m w c fields) i ≡ Some d → IsDialled w.nodes n d.dialled
dials-in w c n fields answered mirror.Asked h lt le a i d e =
    dial-in w c n (goes_on w c fields) (mirror_node fields.targets) h lt le (sendable w c fields answered (a refl)) i d e
dials-in w c n fields answered mirror.Nobody h lt le a i d e = absurd (none-some d e)
dials-in w c n fields answered mirror.Unreachable h lt le a i d e = absurd (none-some d e)
dials-in w c n fields answered mirror.Open h lt le a i d e = absurd (none-some d e)
dials-in w c n fields answered mirror.Ended h lt le a i d e = absurd (none-some d e)

mirror-in : (w : World) (c : ℕ) (fields : WriteFields) (answered : Bool) (m : Mirror)
    → (m ≡ mirror.Asked → is_asked w c fields answered ≡ true)
    → IsConn (w.next_conn + length (dials_of m w c fields)) (mirror_conn m w.next_conn)
mirror-in w c fields answered mirror.Asked a =
    let e = dial-there w c (goes_on w c fields) (mirror_node fields.targets) (sendable w c fields answered (a refl)) in
    record { below = omega (arith, e) }
mirror-in w c fields answered mirror.Nobody a = record { below = tt }
mirror-in w c fields answered mirror.Unreachable a = record { below = tt }
mirror-in w c fields answered mirror.Open a = record { below = tt }
mirror-in w c fields answered mirror.Ended a = record { below = tt }

member-dials-in : (w : World) (c n : ℕ) (fields : WriteFields) (answered : Bool) (m : Option MemberState) → Placed w → c < w.next_conn → w.next_conn ≤ n
    → AskedIf (is_asked w c fields answered) m → (i : ℕ) (d : Dial) → slice_get (member_dials m w c fields) i ≡ Some d → IsDialled w.nodes n d.dialled
member-dials-in w c n fields answered None h lt le a i d e = absurd (none-some d e)
member-dials-in w c n fields answered (Some m) h lt le a i d e = dials-in w c n fields answered m.mirror h lt le a i d e

lower-in : (w : World) (c : ℕ) (fields : WriteFields) (answered : Bool) (m : Option MemberState) → AskedIf (is_asked w c fields answered) m
    → IsLower (w.next_conn + length (member_dials m w c fields)) (lower_of m fields w.next_conn)
lower-in w c fields answered None a = tt
lower-in w c fields answered (Some m) a = mirror-in w c fields answered m.mirror a

-- THE CHANGE

pub setup-fits : (w : World) (c : ℕ) (fields : WriteFields) (answered : Bool) (s : Setup) (b : Option Break) → Placed w → c < w.next_conn
    → AskedIf (is_asked w c fields answered) s.member → Fits w (setup_change w c fields s b)
setup-fits w c fields answered s b h lt a =
    let n = w.next_conn + length (member_dials s.member w c fields) in
    let r = rest w n (omega arith) h in
    record {
      dials = member-dials-in w c n fields answered s.member h lt (omega arith) a;
      downs = λ d e. refl;
      ups = λ d e. sent-out w.next_conn d (Some c) _ (one-conn w.next_conn c lt) e;
      shuts = λ d e. shuts-out w s.effect.shuts c None lt (no-conn w.next_conn) d e;
      lower_at = λ e. absurd (omega (arith, e, lt));
      lower = lower-in w c fields answered s.member a;
      writer = r.writer;
      reader = r.reader;
      primary = r.primary;
    }

failing-write-fits : (w : World) (c : ℕ) (fields : WriteFields) (e : Result Event RequestRefusal) → Placed w → c < w.next_conn
    → IfSome (failing_write w c fields e) (Fits w)
failing-write-fits w c fields (Err refused) h lt = tt
failing-write-fits w c fields (Ok e) h lt = setup-fits w c fields false (faulted_request (replica_at w c (block_of fields))) _ h lt tt

pub write-fits : (w : World) (c : ℕ) (fields : WriteFields) (answered fails : Bool) → Placed w → c < w.next_conn
    → IfSome (write_request w c fields answered fails) (Fits w)
write-fits w c fields answered true h lt =
    failing-write-fits w c fields (request_event (record { 0 = c }) fields (rule_in (replica_at w c (block_of fields)).known)) h lt
write-fits w c fields answered false h lt =
    setup-fits w c fields answered
    (request_step (record { 0 = c }) fields (is_asked w c fields answered) (replica_at w c (block_of fields))) _ h lt
    (request-asked (record { 0 = c }) fields (is_asked w c fields answered) (replica_at w c (block_of fields))
    (request_event (record { 0 = c }) fields (rule_in (replica_at w c (block_of fields)).known)))
