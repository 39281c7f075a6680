-- The events of a reader keep the others, and what nodes have.
use Rattle.std.proofs.Common.{◌≡◌, ◌<◌, ◌≤◌, ◌+◌, ℕ, Bool, true, false, List, [], ◌∷◌, ◌++◌, length, option_map, Option, Some, None, IfSome, refl, sym, ap, ◌∙◌, subst, arith}
use Rattle.std.specs.Prelude.{◌==◌, ◌&&◌, nat_lt, unwrap_or}
use Rattle.std.proofs.lemmas.Bool.Decides.{nat_tests}
use Rattle.std.proofs.lemmas.List.{append-nil}
use Rattle.hd_base.specs.declared.numbers.ConnId.{ConnId}
use Rattle.hd_base.specs.declared.numbers.NodeId.{NodeId}
use Rattle.op_headers.specs.declared.ops.ReadOp.{ReadOp}
use Rattle.reader_events.specs.ReadCore.ReadTurn.{ReadTurn}
use Rattle.reader_events.specs.ReadCore.ReadTurn.TheVariants as turn
use Rattle.reader_events.specs.ReadCore.Readings.{ReadTaken, take_from}
use Rattle.play_model.specs.World.Event.{Event}
use Rattle.play_model.specs.World.Event.TheVariants as event
use Rattle.play_model.specs.World.Clients.{from_node_of, own_reader, own_reader_as, reader_dials, reader_turn, reader_up_as}
use Rattle.play_model.specs.World.Connections.{Next, next_up, up_taken, is_alive}
use Rattle.play_model.specs.World.Events.{changed, upper_up, up_as, outcome, after_event, happens}
use Rattle.play_model.specs.World.Parts.{Upper, by_reader, Dialled, Reader, no_reader, reads, has_read, Said}
use Rattle.play_model.specs.World.Worlds.{World, Change, Dial, add, put_at, apply, dial_at}
use Rattle.play_model.proofs.WorldLaws.FactTables.{if-each, when-each, and-left, and-right}
use Rattle.play_model.proofs.WorldLaws.GrowthLaws.{apply-grows}
use Rattle.play_model.proofs.WorldLaws.StampGivens.{put-there}
use Rattle.world_standings.specs.WorldNets.Ends.{IsElsewhere}
use Rattle.world_standings.specs.WorldNets.Nets.{is_over}
use Rattle.world_standings.proofs.WorldNets.StepLemmas.{changed-over, taken-over, next-conn}
use Rattle.reader_events.proofs.WorldOrders.Lists.{dial-here}
use Rattle.reader_events.specs.Making.{asks_event}
use Rattle.play_readers.specs.Frames.{KeepsOthers, AskKeepsNodes, AskingKeepsOthers, HearingKeepsOthers, AskingKeepsNodes, HearingKeepsNodes}
use Rattle.play_readers.proofs.OtherSteps.{put_same}

-- TABLES

put_at_same : {A : Type 0} (f : ℕ → ℕ → A) (n b : ℕ) (x : A) (j l : ℕ) → x ≡ f n b → put_at f n b x j l ≡ f j l
put_at_same {A} f n b x j l is =
    if-each (λ (y : A). y ≡ f j l) (j == n && l == b) x (f j l)
    (λ e. is ∙ (ap (λ (q : ℕ). f q b) (sym (same j n (and-left (j == n) (l == b) e))) ∙ ap (f j) (sym (same l b (and-right (j == n) (l == b) e)))))
    (λ _. refl)
  where
    same : (a b : ℕ) → (a == b) ≡ true → a ≡ b
    same a b e = grind (arith, nat_tests, e)

added_none : (f : ℕ → List Said) (n : ℕ) (xs : List Said) (j : ℕ) → xs ≡ [] → add f n xs j ≡ f j
added_none f n xs j none = if-each (λ (ys : List Said). ys ≡ f j) (j == n) (f j ++ xs) (f j) (λ e. ap (λ (ys : List Said). f j ++ ys) none ∙ append-nil (f j)) (λ _. refl)

-- CHANGES

-- at most one connection is dialled, by the reader, at a node that runs
abbrev AreAsked : World → ℕ → List Dial → Type 0
AreAsked w line [] = Unit {0}
AreAsked w line (d ∷ []) = (d.dialled.upper ≡ by_reader line) × (is_alive w d.dialled.to ≡ true)
AreAsked w line (d ∷ e ∷ ds) = ⊥

-- A change is of this reader alone, and of what it sends and dials.
record IsOfReader (w : World) (line : ℕ) (k : Change) : Type 0 where
  at_is : k.reader_at ≡ line
  office : k.office ≡ w.office
  writer : k.writer ≡ w.writers k.writer_at
  said : k.said ≡ []
  primary : k.primary ≡ w.primaries k.primary_at
  lower : k.lower ≡ w.lowers k.lower_at
  replica : k.replica ≡ w.replicas k.node k.block
  dials : AreAsked w line k.dials

-- It dials nothing.
record IsQuiet (w : World) (line : ℕ) (k : Change) : Type 0 where
  is : IsOfReader w line k
  none : k.dials ≡ []

-- STEPS

-- this end isn't the upper one of that connection, if it is one
abbrev IsAway : Option ℕ → ℕ → Bool → Type 0
IsAway c d lower = IfSome c (λ e. IsElsewhere e false d lower)

-- The others and what nodes have stay, and but for the upper end of this connection, if it is one, no end took more.
record StepKeeps (w v : World) (line : ℕ) (c : Option ℕ) : Type 0 where
  others : KeepsOthers w v line
  nodes : AskKeepsNodes w v line
  over : (d : ℕ) (lower : Bool) → IsAway c d lower → is_over v d lower ≡ is_over w d lower

more_than : (n : ℕ) → n < n → ⊥
more_than n h = omega (arith, h)

still_kept : (w : World) (line : ℕ) (c : Option ℕ) → StepKeeps w w line c
still_kept w line c = record {
  others = record { readers = λ other z. refl; writers = λ b. refl; said = λ b. refl; primaries = λ p. refl; office = refl };
  nodes = record {
    keeps = record { nodes = refl; grows = omega arith; dialled = λ d z. refl; running = λ n. refl; lives = λ n. refl; lowers = λ d. refl; replicas = λ n b. refl };
    once = omega arith;
    dials = λ more. absurd (more_than w.next_conn more);
  };
  over = λ d lower z. refl;
}

-- the world names its last event
named : (w v : World) (line : ℕ) (c : Option ℕ) (e : Event) → StepKeeps w v line c → StepKeeps w (record v { last = Some e }) line c
named w v line c e h =
    let o = h.others in
    let n = h.nodes in
    record {
      others = record { readers = o.readers; writers = o.writers; said = o.said; primaries = o.primaries; office = o.office };
      nodes = record {
        keeps = record { nodes = n.keeps.nodes; grows = n.keeps.grows; dialled = n.keeps.dialled; running = n.keeps.running; lives = n.keeps.lives; lowers = n.keeps.lowers; replicas = n.keeps.replicas };
        once = n.once;
        dials = λ more. record { upper = (n.dials more).upper; served = (n.dials more).served };
      };
      over = h.over;
    }

few : (w : World) (line n : ℕ) (ds : List Dial) → AreAsked w line ds → n + length ds ≤ n + 1
few w line n [] h = omega arith
few w line n (d ∷ []) h = omega arith
few w line n (d ∷ e ∷ ds) h = absurd h

-- what stands at the next number
abbrev FirstIs : World → ℕ → Dialled → Type 0
FirstIs w line d = (d.upper ≡ by_reader line) × (is_alive w d.to ≡ true)

first_is : (w : World) (line : ℕ) (ds : List Dial) → AreAsked w line ds → w.next_conn < w.next_conn + length ds
    → FirstIs w line (unwrap_or (option_map (λ (d : Dial). d.dialled) (dial_at w.next_conn ds w.next_conn)) (w.dialled w.next_conn))
first_is w line [] h more = absurd (omega (arith, more))
first_is w line (d ∷ []) h more =
    subst (λ (o : Option Dial). FirstIs w line (unwrap_or (option_map (λ (d : Dial). d.dialled) o) (w.dialled w.next_conn))) (sym (dial-here w.next_conn w.next_conn 0 (d ∷ []) d (omega arith) refl)) h
first_is w line (d ∷ e ∷ ds) h more = absurd h

test_so : (a b : ℕ) → a < b → nat_lt a b ≡ true
test_so a b h = grind (arith, nat_tests, h)

both_so : (a b : Bool) → a ≡ true → b ≡ true → (a && b) ≡ true
both_so a b h k = rw (h, k) refl

change_kept : (w : World) (line : ℕ) (k : Change) → IsOfReader w line k → StepKeeps w (apply w k) line None
unfolding apply
change_kept w line k h = record {
  others = record {
    readers = λ other apart. put-there w.readers k.reader_at k.reader other (λ e. apart (e ∙ h.at_is));
    writers = λ b. put_same w.writers k.writer_at k.writer b h.writer;
    said = λ b. added_none w.said k.writer_at k.said b h.said;
    primaries = λ p. put_same w.primaries k.primary_at k.primary p h.primary;
    office = h.office;
  };
  nodes = record {
    keeps = record {
      nodes = refl;
      grows = omega arith;
      dialled = λ d within. (apply-grows w k).dialled d within;
      running = λ n. refl;
      lives = λ n. refl;
      lowers = λ d. put_same w.lowers k.lower_at k.lower d h.lower;
      replicas = λ n b. put_at_same w.replicas k.node k.block k.replica n b h.replica;
    };
    once = few w line w.next_conn k.dials h.dials;
    dials = λ more.
        let z = first_is w line k.dials h.dials more in
        record { upper = z.0; served = both_so _ _ (test_so w.next_conn (w.next_conn + length k.dials) more) z.1 };
  };
  over = λ d lower z. changed-over w k d lower;
}

-- OWN STEPS

same_life : (n : ℕ) → (n == n) ≡ true
same_life n = grind (arith, nat_tests)

dials_of : (w : World) (line n : ℕ) (read : ReadOp) (answered : Bool) → (answered ≡ true → w.running n ≡ true) → IsOfReader w line (reader_dials w line n read answered)
dials_of w line n read true runs = record {
  at_is = refl;
  office = refl;
  writer = refl;
  said = refl;
  primary = refl;
  lower = refl;
  replica = refl;
  dials = (refl, both_so (w.running n) (w.lives n == w.lives n) (runs refl) (same_life (w.lives n)));
}
dials_of w line n read false runs = record { at_is = refl; office = refl; writer = refl; said = refl; primary = refl; lower = refl; replica = refl; dials = tt }

own_as : (x : Reader) (w : World) (line n : ℕ) (read : ReadOp) (answered : Bool) → IfSome (own_reader_as x w line n read answered) (IsOfReader w line)
own_as no_reader w line n read answered = dials_of w line n read (answered && w.running n) (λ e. and-right answered (w.running n) e)
own_as (reads c s) w line n read answered = tt
own_as (has_read b) w line n read answered = tt

changed_kept : (w : World) (line : ℕ) (o : Option Change) → IfSome o (IsOfReader w line) → IfSome (changed w o) (λ v. StepKeeps w v line None)
changed_kept w line None h = tt
changed_kept w line (Some k) h = change_kept w line k h

after_kept : (w : World) (line : ℕ) (c : Option ℕ) (e : Event) (o : Option World) → IfSome o (λ v. StepKeeps w v line c) → StepKeeps w (after_event w e o) line c
after_kept w line c e None h = still_kept w line c
after_kept w line c e (Some v) h = named w v line c e h

asks_kept : (w : World) (line : ℕ) (node : NodeId) (read : ReadOp) (answered : Bool) → StepKeeps w (happens w (asks_event line node read answered)) line None
unfolding happens outcome
asks_kept w line node read answered =
    after_kept w line None (asks_event line node read answered) (outcome w (asks_event line node read answered))
    (changed_kept w line (own_reader w line node.0 read answered) (own_as (w.readers line) w line node.0 read answered))

pub asking_keeps : AskingKeepsOthers
asking_keeps w line node read answered = let k = asks_kept w line node read answered in (k.others, λ c lower. k.over c lower tt)

pub asking_keeps_nodes : AskingKeepsNodes
asking_keeps_nodes w line node read answered = (asks_kept w line node read answered).nodes

-- HEARING

turn_of : (w : World) (line c : ℕ) (t : ReadTaken) (does : ReadTurn) → IsQuiet w line (reader_turn w line c t does)
turn_of w line c t turn.Goes = record { is = record { at_is = refl; office = refl; writer = refl; said = refl; primary = refl; lower = refl; replica = refl; dials = tt }; none = refl }
turn_of w line c t turn.Verified = record { is = record { at_is = refl; office = refl; writer = refl; said = refl; primary = refl; lower = refl; replica = refl; dials = tt }; none = refl }
turn_of w line c t (turn.Fails why) = record { is = record { at_is = refl; office = refl; writer = refl; said = refl; primary = refl; lower = refl; replica = refl; dials = tt }; none = refl }

up_of_as : (x : Reader) (w : World) (line c : ℕ) (n : Next) → IfSome (reader_up_as x w line c n) (IsQuiet w line)
up_of_as no_reader w line c n = tt
up_of_as (has_read b) w line c n = tt
up_of_as (reads d s) w line c n = when-each (IsQuiet w line) (d == c) _ (λ _. turn_of w line c (take_from s (from_node_of n)) (take_from s (from_node_of n)).does)

-- Such a step that dials nothing.
abbrev Quiet : World → ℕ → Option ℕ → World → Type 0
Quiet w line c v = StepKeeps w v line c × (v.next_conn ≡ w.next_conn)

taken_kept : (w : World) (line c : ℕ) (x : Next) → Quiet w line (Some c) (up_taken w c x)
unfolding up_taken
taken_kept w line c x = (
  record {
    others = record { readers = λ other z. refl; writers = λ b. refl; said = λ b. refl; primaries = λ p. refl; office = refl };
    nodes = record {
      keeps = record { nodes = refl; grows = omega arith; dialled = λ d z. refl; running = λ n. refl; lives = λ n. refl; lowers = λ d. refl; replicas = λ n b. refl };
      once = omega arith;
      dials = λ more. absurd (more_than w.next_conn more);
    };
    over = λ d lower away. taken-over w d lower c false x away;
  },
  refl,
)

plus_none : (n : ℕ) → n + 0 ≡ n
plus_none n = omega arith

-- a step that dials nothing, and a change behind it that dials nothing
then_kept : (w u : World) (line : ℕ) (c : Option ℕ) (k : Change) → Quiet w line c u → IsQuiet u line k → Quiet w line c (apply u k)
then_kept w u line c k h q =
    let a = h.0 in
    let b : StepKeeps u (apply u k) line None = change_kept u line k q.is in
    let conns : (apply u k).next_conn ≡ w.next_conn = next-conn u k 0 (ap (λ (ds : List Dial). length ds) q.none) ∙ (plus_none u.next_conn ∙ h.1) in (
      record {
        others = record {
          readers = λ other z. b.others.readers other z ∙ a.others.readers other z;
          writers = λ n. b.others.writers n ∙ a.others.writers n;
          said = λ n. b.others.said n ∙ a.others.said n;
          primaries = λ n. b.others.primaries n ∙ a.others.primaries n;
          office = b.others.office ∙ a.others.office;
        };
        nodes = record {
          keeps = record {
            nodes = b.nodes.keeps.nodes ∙ a.nodes.keeps.nodes;
            grows = omega (arith, a.nodes.keeps.grows, b.nodes.keeps.grows);
            dialled = λ d within. b.nodes.keeps.dialled d (subst (λ (n : ℕ). d < n) (sym h.1) within) ∙ a.nodes.keeps.dialled d within;
            running = λ n. b.nodes.keeps.running n ∙ a.nodes.keeps.running n;
            lives = λ n. b.nodes.keeps.lives n ∙ a.nodes.keeps.lives n;
            lowers = λ d. b.nodes.keeps.lowers d ∙ a.nodes.keeps.lowers d;
            replicas = λ n l. b.nodes.keeps.replicas n l ∙ a.nodes.keeps.replicas n l;
          };
          once = omega (arith, conns);
          dials = λ more. absurd (more_than w.next_conn (subst (λ (n : ℕ). w.next_conn < n) conns more));
        };
        over = λ d lower away. b.over d lower tt ∙ a.over d lower away;
      },
      conns,
    )

quiet_then : (w u : World) (line : ℕ) (c : Option ℕ) (o : Option Change) → Quiet w line c u → IfSome o (IsQuiet u line) → IfSome (changed u o) (Quiet w line c)
quiet_then w u line c None h q = tt
quiet_then w u line c (Some k) h q = then_kept w u line c k h q

quiet_after : (w : World) (line : ℕ) (c : Option ℕ) (e : Event) (o : Option World) → IfSome o (Quiet w line c) → Quiet w line c (after_event w e o)
quiet_after w line c e None h = (still_kept w line c, refl)
quiet_after w line c e (Some v) h = (named w v line c e h.0, h.1)

up_next : (w : World) (c line : ℕ) (o : Option Next) → (w.dialled c).upper ≡ by_reader line → IfSome (up_as w c false o) (Quiet w line (Some c))
up_next w c line None is = tt
up_next w c line (Some x) is =
    quiet_then w (up_taken w c x) line (Some c) (upper_up (w.dialled c).upper (up_taken w c x) c x false) (taken_kept w line c x)
    (subst (λ (u : Upper). IfSome (upper_up u (up_taken w c x) c x false) (IsQuiet (up_taken w c x) line)) (sym is) (up_of_as ((up_taken w c x).readers line) (up_taken w c x) line c x))

up_kept : (w : World) (conn : ConnId) (line : ℕ) → (w.dialled conn.0).upper ≡ by_reader line → Quiet w line (Some conn.0) (happens w (event.Up conn))
unfolding happens outcome
up_kept w conn line is =
    quiet_after w line (Some conn.0) (event.Up conn) (outcome w (event.Up conn))
    (when-each (Quiet w line (Some conn.0)) (nat_lt conn.0 w.next_conn) (up_as w conn.0 false (next_up w conn.0)) (λ _. up_next w conn.0 line (next_up w conn.0) is))

pub hearing_keeps : HearingKeepsOthers
hearing_keeps w conn line is = let k = up_kept w conn line is in (k.0.others, k.0.over)

pub hearing_keeps_nodes : HearingKeepsNodes
hearing_keeps_nodes w conn line is = let k = up_kept w conn line is in record { keeps = k.0.nodes.keeps; conns = k.1 }
