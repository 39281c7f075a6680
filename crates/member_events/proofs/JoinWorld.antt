-- The world after a request to write.
use Rattle.std.proofs.Common.{◌≡◌, ◌≢◌, ◌<◌, ◌≤◌, ◌-◌, ◌+◌, ◌&&◌, ℕ, Bool, true, false, if◌then◌else◌, List, [], ◌∷◌, ◌++◌, slice_get, option_map, Option, Some, None, refl, sym, ap, ◌∙◌, subst, arith, length}
use Rattle.std.specs.Prelude.{nat_le, nat_lt, is_some, unwrap_or}
use Rattle.std.proofs.lemmas.Bool.Decides.{nat_tests}
use Rattle.hd_base.specs.declared.numbers.ConnId.{ConnId}
use Rattle.hd_base.specs.declared.roads.TheConstants.{FIRST_PORT}
use Rattle.op_headers.specs.declared.nodes.NodeRef.{NodeRef}
use Rattle.op_headers.specs.Values.{WriteFields}
use Rattle.pipe_member.specs.NodeRefs.NodeRefs.{ref_of}
use Rattle.pipe_member.specs.MemberCore.Requests.{mirror_request}
use Rattle.pipe_member.specs.MemberCore.Steps.{Setup, request_step}
use Rattle.pipe_member.specs.PipeSetup.Requests.{first_port}
use Rattle.world_texts.specs.World.Event.{Event}
use Rattle.world_texts.specs.World.Event.TheVariants as event
use Rattle.world_texts.specs.World.Parts.{Message, Break, Dialled, idle}
use Rattle.world_texts.specs.World.Worlds.{World, Change, Dial, put_at, listed, apply}
use Rattle.world_texts.specs.World.Connections.{down_taken, is_served}
use Rattle.world_texts.specs.World.Nodes.{node_of, block_of, replica_at, setup_change, sent_up, lower_of, is_asked, runs_there, mirror_node, node_on, mirror_dial}
use Rattle.world_texts.specs.World.Events.{outcome, happens}
use Rattle.world_texts.specs.WorldNets.Drawn.{ComesDown, break_at}
use Rattle.world_texts.proofs.WorldNets.DrawnLemmas.{down-makes}
use Rattle.member_events.specs.Joining.{write_next}
use Rattle.member_events.proofs.WorldLaws.{at_put, at_put_at, sent_here, happened}

-- THE CONNECTION

and_left : (a b : Bool) → (a && b) ≡ true → a ≡ true
and_left true b h = refl
and_left false b h = cc

less_of : (c n : ℕ) → nat_lt c n ≡ true → c < n
less_of c n h = grind (arith, nat_tests)

pub served_before : (w : World) (c : ℕ) → is_served w c ≡ true → c < w.next_conn
served_before w c h = less_of c w.next_conn (and_left (nat_lt c w.next_conn) _ h)

pub not_after : (c n : ℕ) → c < n → nat_le n c ≡ false
not_after c n h = grind (arith, nat_tests)

-- A world in which a request was taken is else the same.
pub record RequestSame (w v : World) (c : ℕ) : Type 0 where
  pub next : v.next_conn ≡ w.next_conn
  pub node : node_of v c ≡ node_of w c
  pub replica : (b : ℕ) → replica_at v c b ≡ replica_at w c b
  pub running : (n : ℕ) → v.running n ≡ w.running n

pub request_same : (w : World) (c : ℕ) (fields : WriteFields) → RequestSame w (down_taken w c (write_next fields)) c
unfolding down_taken
request_same w c fields = record { next = refl; node = refl; replica = λ b. refl; running = λ n. refl }

-- AFTER THE SETUP

-- What a setup makes of the world.
pub record SetupAfter (w v : World) (c : ℕ) (fields : WriteFields) (s : Setup) : Type 0 where
  pub lower : v.lowers c ≡ lower_of s.member fields w.next_conn
  pub node : node_of v c ≡ node_of w c
  pub replica : replica_at v c (block_of fields) ≡ s.replica
  pub ups : v.ups c ≡ w.ups c ++ sent_up fields s.effect.sends

pub old_dialled : (q : Bool) (x : Option Dial) (d : Dialled) → q ≡ false → unwrap_or (option_map (λ (y : Dial). y.dialled) (if q then x else None)) d ≡ d
old_dialled true x d h = cc
old_dialled false x d h = refl

setup_applied : (w : World) (c : ℕ) (fields : WriteFields) (s : Setup) (b : Option Break) (e : Event) → c < w.next_conn → SetupAfter w (record (apply w (setup_change w c fields s b)) { last = Some e }) c fields s
unfolding apply
setup_applied w c fields s b e before =
    let same : node_of (record (apply w (setup_change w c fields s b)) { last = Some e }) c ≡ node_of w c =
    ap (λ (d : Dialled). d.to.node) (old_dialled (nat_le w.next_conn c) _ (w.dialled c) (not_after c w.next_conn before)) in
    record {
      lower = at_put w.lowers c (lower_of s.member fields w.next_conn);
      node = same;
      replica = ap (λ (n : ℕ). put_at w.replicas (node_of w c) (block_of fields) s.replica n (block_of fields)) same ∙ at_put_at w.replicas (node_of w c) (block_of fields) s.replica;
      ups = ap (λ (ms : List Message). w.ups c ++ ms) (sent_here c (sent_up fields s.effect.sends));
    }

pub setup_after : (w w1 : World) (c : ℕ) (fields : WriteFields) (s : Setup) (b : Option Break) (e : Event) → c < w1.next_conn → outcome w e ≡ Some (apply w1 (setup_change w1 c fields s b)) → SetupAfter w1 (happens w e) c fields s
setup_after w w1 c fields s b e before out =
    subst (λ (v : World). SetupAfter w1 v c fields s) (sym (happened w (apply w1 (setup_change w1 c fields s b)) e out)) (setup_applied w1 c fields s b e before)

-- The event sets the request up, with the dial answered or not.
pub setup_out : (w : World) (conn : ConnId) (answered asked : Bool) (fields : WriteFields) (s : Setup) → ComesDown w conn.0 (write_next fields) → w.lowers conn.0 ≡ idle
    → is_asked (down_taken w conn.0 (write_next fields)) conn.0 fields answered ≡ asked
    → request_step conn fields asked (replica_at (down_taken w conn.0 (write_next fields)) conn.0 (block_of fields)) ≡ s
    → outcome w (event.Down conn answered) ≡ Some (apply (down_taken w conn.0 (write_next fields)) (setup_change (down_taken w conn.0 (write_next fields)) conn.0 fields s (break_at (down_taken w conn.0 (write_next fields)) conn.0 fields)))
setup_out w conn answered asked fields s comes lower is leads =
    let w1 : World = down_taken w conn.0 (write_next fields) in
    (down-makes w conn answered (write_next fields) comes).request fields lower refl
    ∙ ap (λ (x : Setup). Some (apply w1 (setup_change w1 conn.0 fields x (break_at w1 conn.0 fields))))
    (ap (λ (b : Bool). request_step conn fields b (replica_at w1 conn.0 (block_of fields))) is ∙ leads)

-- WHETHER THE MIRROR IS ASKED

and_none : (a b : Bool) → b ≡ false → (a && b) ≡ false
and_none true b h = h
and_none false b h = refl

and_three : (a b c : Bool) → a ≡ true → b ≡ true → c ≡ true → (a && b && c) ≡ true
and_three true true true ha hb hc = refl
and_three false b c ha hb hc = cc
and_three true false c ha hb hc = cc
and_three true true false ha hb hc = cc

-- no mirror is asked where no node runs at its port
pub not_running : (w : World) (c : ℕ) (fields : WriteFields) (answered : Bool) → runs_there w (mirror_node fields.targets) ≡ false → is_asked w c fields answered ≡ false
not_running w c fields answered h = and_none (answered && is_some (mirror_request (ref_of (record { 0 = node_of w c })) fields)) (runs_there w (mirror_node fields.targets)) h

nowhere : (w : World) (targets : List NodeRef) → targets ≡ [] → runs_there w (mirror_node targets) ≡ false
nowhere w targets none = ap (λ (l : List NodeRef). runs_there w (mirror_node l)) none

pub last_unasked : (w : World) (c : ℕ) (fields : WriteFields) (answered : Bool) → fields.targets ≡ [] → is_asked w c fields answered ≡ false
last_unasked w c fields answered none = not_running w c fields answered (nowhere w fields.targets none)

-- the node that listens on the mirror's port
port_node : (port : ℕ) → FIRST_PORT ≤ port → node_on port ≡ Some (port - FIRST_PORT)
port_node port h = let test : nat_le FIRST_PORT port ≡ true = grind (arith, nat_tests) in rw test refl

-- What is known of a mirror: a node's number, and its port.
pub record IsMirror (targets : List NodeRef) : Type 0 where
  pub number : ℕ
  pub node_is : mirror_node targets ≡ Some number
  pub port_is : first_port targets ≡ FIRST_PORT + number

port_sum : (port : ℕ) → FIRST_PORT ≤ port → port ≡ FIRST_PORT + (port - FIRST_PORT)
port_sum port h = omega arith

mirror_by : (targets : List NodeRef) → targets ≢ [] → FIRST_PORT ≤ first_port targets → IsMirror targets
mirror_by [] some h = absurd (some refl)
mirror_by (mirror ∷ rest) some h = record { number = mirror.xfer - FIRST_PORT; node_is = port_node mirror.xfer h; port_is = port_sum mirror.xfer h }

pub is_mirror : (fields : WriteFields) → fields.targets ≢ [] → (fields.targets ≢ [] → FIRST_PORT ≤ first_port fields.targets) → IsMirror fields.targets
is_mirror fields some of_node = mirror_by fields.targets some (of_node some)

pub runs_as : (w : World) (targets : List NodeRef) (m : IsMirror targets) (b : Bool) → w.running m.number ≡ b → runs_there w (mirror_node targets) ≡ b
runs_as w targets m b h = ap (runs_there w) m.node_is ∙ h

pub asked_there : (w : World) (c : ℕ) (fields on : WriteFields) → mirror_request (ref_of (record { 0 = node_of w c })) fields ≡ Some on → runs_there w (mirror_node fields.targets) ≡ true → is_asked w c fields true ≡ true
asked_there w c fields on is runs = and_three true _ (runs_there w (mirror_node fields.targets)) refl (ap is_some is) runs

-- nor is one whose dial fails
pub fails_unasked : (w : World) (c : ℕ) (fields : WriteFields) (m : IsMirror fields.targets) (answered : Bool) → (answered && w.running m.number) ≡ false → is_asked w c fields answered ≡ false
fails_unasked w c fields m false h = refl
fails_unasked w c fields m true h = not_running w c fields true (runs_as w fields.targets m false h)

pub unasked_there : (w : World) (c : ℕ) (fields : WriteFields) (answered : Bool) → mirror_request (ref_of (record { 0 = node_of w c })) fields ≡ None → is_asked w c fields answered ≡ false
unasked_there w c fields false is = refl
unasked_there w c fields true is = ap (λ (x : Option WriteFields). true && is_some x && runs_there w (mirror_node fields.targets)) is

-- the dial of the mirror
pub dial_is : (w : World) (c : ℕ) (fields on : WriteFields) (m : IsMirror fields.targets) → mirror_request (ref_of (record { 0 = node_of w c })) fields ≡ Some on
    → mirror_dial w c (mirror_request (ref_of (record { 0 = node_of w c })) fields) (mirror_node fields.targets) ≡ mirror_dial w c (Some on) (Some m.number)
dial_is w c fields on m is = ap (λ (x : Option WriteFields). mirror_dial w c x (mirror_node fields.targets)) is ∙ ap (mirror_dial w c (Some on)) m.node_is

-- WHAT WAS SENT TO A MIRROR

sub_none : (q : Bool) (n : ℕ) (d : Dial) → q ≡ true → listed (option_map (λ (x : Dial). x.request) (if q then slice_get (d ∷ []) (n - n) else None)) ≡ d.request ∷ []
sub_none true n d h = let z : n - n ≡ 0 = omega arith in rw z refl
sub_none false n d h = cc

same_le : (n : ℕ) → nat_le n n ≡ true
same_le n = grind (arith, nat_tests)

-- The request is the last that was sent down on the connection to a mirror that was dialled.
pub record SentDown (v : World) (c : ℕ) (m : Message) : Type 0 where
  pub earlier : List Message
  pub downs : v.downs c ≡ earlier ++ m ∷ []

dialled_applied : (w : World) (k : Change) (d : Dial) (e : Event) → k.dials ≡ d ∷ [] → SentDown (record (apply w k) { last = Some e }) w.next_conn d.request
unfolding apply
dialled_applied w k d e once = record {
  earlier = w.downs w.next_conn ++ k.downs w.next_conn;
  downs = ap (λ (l : List Message). (w.downs w.next_conn ++ k.downs w.next_conn) ++ l)
      (ap (λ (ds : List Dial). listed (option_map (λ (x : Dial). x.request) (if nat_le w.next_conn w.next_conn then slice_get ds (w.next_conn - w.next_conn) else None))) once
      ∙ sub_none (nat_le w.next_conn w.next_conn) w.next_conn d (same_le w.next_conn));
}

pub sent_down : (w w1 : World) (k : Change) (d : Dial) (e : Event) → k.dials ≡ d ∷ [] → outcome w e ≡ Some (apply w1 k) → SentDown (happens w e) w1.next_conn d.request
sent_down w w1 k d e once out = subst (λ (v : World). SentDown v w1.next_conn d.request) (sym (happened w (apply w1 k) e out)) (dialled_applied w1 k d e once)

-- THE CONNECTION TO A MIRROR

sub_dialled : (q : Bool) (n : ℕ) (d : Dial) (x : Dialled) → q ≡ true → unwrap_or (option_map (λ (y : Dial). y.dialled) (if q then slice_get (d ∷ []) (n - n) else None)) x ≡ d.dialled
sub_dialled true n d x h = let z : n - n ≡ 0 = omega arith in rw z refl
sub_dialled false n d x h = cc

-- What a dial makes of the world: the next connection is the one that was dialled.
pub record NewConn (w v : World) (d : Dial) : Type 0 where
  pub dialled : v.dialled w.next_conn ≡ d.dialled
  pub running : (n : ℕ) → v.running n ≡ w.running n
  pub lives : (n : ℕ) → v.lives n ≡ w.lives n
  pub last : v.next_conn ≡ w.next_conn + 1

one_more : (n : ℕ) (ds : List Dial) (d : Dial) → ds ≡ d ∷ [] → n + length ds ≡ n + 1
one_more n ds d h = ap (λ (l : List Dial). n + length l) h

new_applied : (w : World) (k : Change) (d : Dial) (e : Event) → k.dials ≡ d ∷ [] → NewConn w (record (apply w k) { last = Some e }) d
unfolding apply
new_applied w k d e once = record {
  dialled = ap (λ (ds : List Dial). unwrap_or (option_map (λ (x : Dial). x.dialled) (if nat_le w.next_conn w.next_conn then slice_get ds (w.next_conn - w.next_conn) else None)) (w.dialled w.next_conn)) once
      ∙ sub_dialled (nat_le w.next_conn w.next_conn) w.next_conn d (w.dialled w.next_conn) (same_le w.next_conn);
  running = λ n. refl;
  lives = λ n. refl;
  last = one_more w.next_conn k.dials d once;
}

pub new_conn : (w w1 : World) (k : Change) (d : Dial) (e : Event) → k.dials ≡ d ∷ [] → outcome w e ≡ Some (apply w1 k) → NewConn w1 (happens w e) d
new_conn w w1 k d e once out = subst (λ (v : World). NewConn w1 v d) (sym (happened w (apply w1 k) e out)) (new_applied w1 k d e once)
