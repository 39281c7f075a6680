-- Whom a node dials that takes a request to write.
use Rattle.std.proofs.Common.{◌≡◌, ℕ, Bool, true, false, List, [], ◌∷◌, length, Option, Some, None, Result, Ok, Err, refl, sym, ap, ◌∙◌, arith}
use Rattle.std.specs.Prelude.{◌==◌, ◌&&◌, is_some, if◌then◌else◌}
use Rattle.std.proofs.lemmas.Option.{same_Some}
use Rattle.hd_base.specs.declared.numbers.ConnId.{ConnId}
use Rattle.world.specs.NodeRefs.NodeRefs.{ref_of}
use Rattle.world.specs.OpHeaders.NodeRef.{NodeRef}
use Rattle.world.specs.OpHeaders.Values.{WriteFields}
use Rattle.world.specs.ReplicaCore.Event.{Event}
use Rattle.world.specs.ReplicaCore.Views.{rule_in}
use Rattle.world.specs.ReplicaModel.ReplicaEvent.TheVariants as replica_event
use Rattle.world.specs.ReplicaModel.Rows.{FullReplica, row, row_answer}
use Rattle.world.specs.RequestRefusals.RequestRefusal.{RequestRefusal}
use Rattle.world.specs.MemberCore.Mirror.{Mirror}
use Rattle.world.specs.MemberCore.Mirror.TheVariants as mirror
use Rattle.world.specs.MemberCore.Members.{MemberState, set_up, set_up_at, mirror_for}
use Rattle.world.specs.MemberCore.Requests.{mirror_request, request_event}
use Rattle.world.specs.MemberCore.Steps.{request_step, request_at, booked_request, refused_by}
use Rattle.world.specs.Worlds.{World}
use Rattle.world.specs.Nodes.{node_of, mirror_node, mirror_dial, runs_there, is_asked, dials_of, member_dials}
use Rattle.world_nets.specs.Mirrors.{HasMirror, mirror_dial_of, DialsMirror, setup_at, SetupDials}
use Rattle.world_nets.proofs.FlushingLemmas.{other-number}

-- THE MEMBER

at-mirror : (k : Mirror) (fields : WriteFields) (conn : ConnId) → (set_up_at k fields conn).0.mirror ≡ k
at-mirror mirror.Nobody fields conn = refl
at-mirror mirror.Asked fields conn = refl
at-mirror mirror.Unreachable fields conn = refl
at-mirror mirror.Open fields conn = refl
at-mirror mirror.Ended fields conn = refl

new-mirror : (conn : ConnId) (fields : WriteFields) (asked : Bool) → (set_up conn fields asked).0.mirror ≡ mirror_for (length fields.targets) asked
unfolding set_up
new-mirror conn fields asked = at-mirror (mirror_for (length fields.targets) asked) fields conn

by-refusal : (conn : ConnId) (fields : WriteFields) (asked : Bool) (r : FullReplica) (o : Option RequestRefusal) (m : MemberState) → (booked_request conn fields asked r o).member ≡ Some m
    → m.mirror ≡ mirror_for (length fields.targets) asked
by-refusal conn fields asked r None m e = ap (λ (n : MemberState). n.mirror) (sym (same_Some _ _ e)) ∙ new-mirror conn fields asked
by-refusal conn fields asked r (Some refused) m e = cc

by-result : (conn : ConnId) (fields : WriteFields) (asked : Bool) (r : FullReplica) (x : Result Event RequestRefusal) (m : MemberState) → (request_at conn fields asked r x).member ≡ Some m
    → m.mirror ≡ mirror_for (length fields.targets) asked
by-result conn fields asked r (Err refused) m e = cc
by-result conn fields asked r (Ok event) m e =
    by-refusal conn fields asked (row r (replica_event.Other event)) (refused_by (row_answer r (replica_event.Other event))) m e

-- A new member's mirror, by whether it was asked.
member-mirror : (conn : ConnId) (fields : WriteFields) (asked : Bool) (r : FullReplica) (m : MemberState) → (request_step conn fields asked r).member ≡ Some m
    → m.mirror ≡ mirror_for (length fields.targets) asked
member-mirror conn fields asked r m e = by-result conn fields asked r (request_event conn fields (rule_in r.known)) m e

-- WHO IS ASKED

both : (a b : Bool) → (a && b) ≡ true → (a ≡ true) × (b ≡ true)
both true b e = (refl, e)
both false b e = cc

some-of : {A : Type 0} (o : Option A) → is_some o ≡ true → (x : A) × (o ≡ Some x)
some-of None e = cc
some-of (Some x) e = (x, refl)

runs-of : (w : World) (o : Option ℕ) → runs_there w o ≡ true → (n : ℕ) × (o ≡ Some n) × (w.running n ≡ true)
runs-of w None e = cc
runs-of w (Some n) e = (n, refl, e)

has-mirror : (w : World) (c : ℕ) (fields : WriteFields) (answered : Bool) → is_asked w c fields answered ≡ true → HasMirror w c fields
has-mirror w c fields answered e =
    let x = both (answered && is_some (mirror_request (ref_of (record { 0 = node_of w c })) fields)) (runs_there w (mirror_node fields.targets)) e in
    let y = both answered (is_some (mirror_request (ref_of (record { 0 = node_of w c })) fields)) x.0 in
    let below = some-of (mirror_request (ref_of (record { 0 = node_of w c })) fields) y.1 in
    let node = runs-of w (mirror_node fields.targets) x.1 in record {
      below = below.0;
      node = node.0;
      request_is = below.1;
      node_is = node.1;
      runs = node.2;
    }

is-asked : (targets : List NodeRef) (n : ℕ) → mirror_node targets ≡ Some n → mirror_for (length targets) true ≡ mirror.Asked
is-asked [] n e = cc
is-asked (t ∷ ts) n e = ap (λ (b : Bool). if b then mirror.Nobody else mirror.Asked) (other-number (length (t ∷ ts)) 0 (λ none. absurd (omega (arith, none))))

-- DIALS

mirrored : (w : World) (c : ℕ) (fields : WriteFields) (answered : Bool) (r : FullReplica) (m : MemberState) → (setup_at w c fields answered r).member ≡ Some m → is_asked w c fields answered ≡ true
    → DialsMirror w c fields (member_dials (setup_at w c fields answered r).member w c fields)
mirrored w c fields answered r m e asked =
    let h : HasMirror w c fields = has-mirror w c fields answered asked in
    let is : m.mirror ≡ mirror.Asked =
    member-mirror (record { 0 = c }) fields (is_asked w c fields answered) r m e
    ∙ (ap (mirror_for (length fields.targets)) asked ∙ is-asked fields.targets h.node h.node_is) in
    let dials : member_dials (setup_at w c fields answered r).member w c fields ≡ mirror_dial_of w c h.below h.node ∷ [] =
    ap (λ (o : Option MemberState). member_dials o w c fields) e
    ∙ (ap (λ (k : Mirror). dials_of k w c fields) is ∙ (λ j. mirror_dial w c (h.request_is j) (h.node_is j))) in
    (h, dials)

unasked : (b : Bool) (w : World) (c : ℕ) (fields : WriteFields) → dials_of (if b then mirror.Nobody else mirror.Unreachable) w c fields ≡ []
unasked true w c fields = refl
unasked false w c fields = refl

none-dialled : (w : World) (c : ℕ) (fields : WriteFields) (o : Option MemberState) → ((m : MemberState) → o ≡ Some m → m.mirror ≡ mirror_for (length fields.targets) false) → member_dials o w c fields ≡ []
none-dialled w c fields None h = refl
none-dialled w c fields (Some m) h = ap (λ (k : Mirror). dials_of k w c fields) (h m refl) ∙ unasked (length fields.targets == 0) w c fields

pub setup-dials : (w : World) (c : ℕ) (fields : WriteFields) (answered : Bool) (r : FullReplica) → SetupDials w c fields answered r
setup-dials w c fields answered r = record {
  mirrored = λ m e asked. mirrored w c fields answered r m e asked;
  alone = λ unasked. none-dialled w c fields (setup_at w c fields answered r).member
      (λ m e. member-mirror (record { 0 = c }) fields (is_asked w c fields answered) r m e ∙ ap (mirror_for (length fields.targets)) unasked);
  refused = λ e. ap (λ (o : Option MemberState). member_dials o w c fields) e;
}
