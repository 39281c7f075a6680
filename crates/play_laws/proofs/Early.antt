-- No message stands next for a writer that has sent no packet yet, after every list of events.
use Rattle.std.proofs.Common.{◌≡◌, ℕ, zero, suc, ◌<◌, ◌≤◌, Bool, true, false, List, [], ◌∷◌, ◌++◌, length, slice_get, Option, Some, None, IfSome, option_map, length-append, refl, sym, ◌∙◌, ap, subst, arith}
use Rattle.std.specs.Prelude.{◌==◌, ◌&&◌, not, nat_lt, is_none, if◌then◌else◌}
use Rattle.std.proofs.lemmas.Bool.Decides.{nat_tests}
use Rattle.std.proofs.lemmas.Option.{none-some, same_Some}
use Rattle.hd_base.specs.declared.numbers.BlockId.{BlockId}
use Rattle.hd_base.specs.declared.numbers.Stamp.{Stamp}
use Rattle.replica_model.specs.Found.{Found}
use Rattle.replica_model.specs.Rows.{FullReplica}
use Rattle.recovery_core.specs.declared.primary.OwnStep.{OwnStep as PrimaryStep}
use Rattle.recovery_core.specs.declared.primary.OwnStep.TheVariants as primary_step
use Rattle.recovery_core.specs.Primaries as primary
use Rattle.writer_core.specs.declared.actions.Action.{Action}
use Rattle.writer_core.specs.declared.actions.Action.TheVariants as action
use Rattle.writer_core.specs.declared.phases.Phase.{Phase}
use Rattle.writer_core.specs.declared.phases.Phase.TheVariants as phase
use Rattle.writer_core.specs.declared.phases.Setup.{Setup}
use Rattle.writer_core.specs.Transitions as writer
use Rattle.world.specs.declared.events.Caller.{Caller}
use Rattle.world.specs.declared.events.Caller.TheVariants as caller
use Rattle.world.specs.declared.events.Delivery.{Delivery}
use Rattle.world.specs.declared.events.Delivery.TheVariants as delivery
use Rattle.world.specs.declared.events.Direction.{Direction}
use Rattle.world.specs.declared.events.Direction.TheVariants as direction
use Rattle.world.specs.declared.events.Event.{Event}
use Rattle.world.specs.declared.events.Event.TheVariants as event
use Rattle.world.specs.declared.events.FoundReplica.{FoundReplica}
use Rattle.world.specs.declared.events.OwnStep.{OwnStep}
use Rattle.world.specs.declared.events.OwnStep.TheVariants as own
use Rattle.world.specs.Parts.{Message, Upper, by_writer, by_member, by_reader, by_primary, Dialled, FullMember, Lower, writes, Writing, Leading, Primary, no_primary, was_told, leads, has_led, Break}
use Rattle.world.specs.Worlds.{World, Dial, Change, apply, put, put_at, dial_at, dialled_with, downs_with, listed, start}
use Rattle.world.specs.Connections.{Next, message, next_down, next_up, down_taken, up_taken, is_served, is_alive}
use Rattle.world.specs.Nodes.{lower_down, lower_ready, mirror_up}
use Rattle.world.specs.Clients.{own_writer, writer_up, own_reader, reader_up}
use Rattle.world.specs.Primaries.{own_recover, own_primary, primary_up, writer_asks, primary_commits, primary_asks, office_event}
use Rattle.world.specs.Restarts.{found_in, replica_found, restarted, restart}
use Rattle.world.specs.Events.{changed, own_change, down_as, down_event, ready_event, unless_fails, upper_up, up_as, up_event, fault_event, lost, stop, where_so, outcome, after_event, happens, run}
use Rattle.play_model.specs.WorldLaws.Placing.{IsUpper}
use Rattle.play_model.proofs.WorldLaws.AllCarried.{next-sent, at-start}
use Rattle.play_model.proofs.WorldLaws.AllRecorded.{Reached, reached-next}
use Rattle.play_model.proofs.WorldLaws.FactTables.{if-each, put-each, when-each, and-left}
use Rattle.play_model.proofs.WorldLaws.PlacedLaws.{all-placed}
use Rattle.play_model.proofs.WorldLaws.SessionAsides.{Aside, lower-down-aside, lower-ready-aside, mirror-up-aside, own-reader-aside, reader-up-aside, own-recover-aside, own-primary-aside, primary-up-aside}
use Rattle.world_orders.specs.Orders.{purpose_of, pipeline, HasTaken, IsBelow, IsMirror, MirrorIs, IsWriterConn, ReaderIs, PrimaryIs, Ordered}
use Rattle.world_orders.proofs.AllOrdered.{all-ordered}
use Rattle.world_orders.proofs.Lists.{dialled-before}
use Rattle.world_settling.specs.Traffic.{entries_by}
use Rattle.world_settling.proofs.Frame.{old-downs}
use Rattle.play_laws.specs.Early.{NothingEarly}
use Rattle.play_laws.proofs.Asides.{own-writer-hush, writer-up-hush, office-mute, own-reader-mute, reader-up-mute, own-recover-mute, own-primary-mute, primary-up-mute}
use Rattle.play_laws.proofs.Hushing.{KeepsNone, IsAt, Silent, Uppers, Hush, Mute}
use Rattle.play_laws.proofs.Lowers.{lower-down-mute, lower-ready-mute, mirror-up-mute}
use Rattle.play_laws.proofs.Resting.{Any, any-events, AllStand, all-stand}
use Rattle.play_laws.proofs.Sending.{Goes, goes_on, begins, Carries, own-writer-carries, writer-up-carries}
use Rattle.play_laws.proofs.Steps.{is_early}

-- WORLDS

-- Where nothing behind the request was sent down a connection, nothing is pending of it, and no more than one message came
-- up; and so it is where a writer's setup isn't done.
pub record Early (w : World) : Type 0 where
  pub conns : (d : ℕ) → IsAt d (w.lowers d)
  pub quiet : (c : ℕ) → length (w.downs c) ≤ 1 → Silent w c
  pub unsent : (b e : ℕ) → (w.writers b).conn ≡ Some e → is_early (w.writers b).known.phase ≡ true → length (w.downs e) ≤ 1

-- what is used of a world besides
record Ctx (w : World) : Type 0 where
  early : Early w
  downs : (c : ℕ) → w.next_conn ≤ c → w.downs c ≡ []
  ups : (c : ℕ) → w.next_conn ≤ c → w.ups c ≡ []
  writers : (b e : ℕ) → (w.writers b).conn ≡ Some e → e < w.next_conn
  members : (c d : ℕ) → c < w.next_conn → (w.dialled c).upper ≡ by_member d → d < w.next_conn
  uppers : Uppers w
  stands : AllStand Any w
  below : (d : ℕ) → (n : ℕ) × IsBelow (w.dialled d).upper n (w.ups d) (w.lowers d)

-- what a change leaves
record Leaves (w : World) (k : Change) : Type 0 where
  hush : (c : ℕ) → length (w.downs c) ≤ 1 → Hush w c k
  others : (b e : ℕ) → (b == k.writer_at) ≡ false → (w.writers b).conn ≡ Some e → is_early (w.writers b).known.phase ≡ true → k.downs e ≡ []
  own : (e : ℕ) → k.writer.conn ≡ Some e → is_early k.writer.known.phase ≡ true → Goes w k.writer_at k e

none-few : (ms : List Message) → ms ≡ [] → length ms ≤ 1
none-few ms e = subst (λ (l : List Message). length l ≤ 1) (sym e) (omega arith)

-- CHANGES

module _ (w : World) (k : Change) (x : Ctx w) (n : Leaves w k) where
  fewer-downs : (c : ℕ) → length (downs_with w k c) ≤ 1 → length (w.downs c) ≤ 1
  fewer-downs c l = omega (arith, l, length-append (w.downs c ++ k.downs c) (listed (option_map (λ (d : Dial). d.request) (dial_at w.next_conn k.dials c))), length-append (w.downs c) (k.downs c))

  held-after : (c i b : ℕ) → length (w.downs c) ≤ 1 → entries_by c (put_at w.replicas k.node k.block k.replica i b).known ≡ 0
  held-after c i b l =
      if-each (λ (r : FullReplica). entries_by c r.known ≡ 0) (i == k.node && b == k.block) k.replica (w.replicas i b)
      (λ _. omega (arith, (n.hush c l).held, (x.early.quiet c l).held k.node k.block)) (λ _. (x.early.quiet c l).held i b)

  bad-after : (c : ℕ) → length (w.downs c) ≤ 1 → KeepsNone (put w.lowers k.lower_at k.lower c)
  bad-after c l = if-each KeepsNone (c == k.lower_at) k.lower (w.lowers c) (λ e. (n.hush c l).lower e) (λ _. (x.early.quiet c l).bad)

  few-after : (c : ℕ) → length (w.downs c) ≤ 1 → purpose_of (dialled_with w k c).upper ≡ pipeline → length (w.ups c ++ k.ups c) ≤ 1
  few-after c l p = go (nat_lt c w.next_conn) refl
    where
      go : (t : Bool) → nat_lt c w.next_conn ≡ t → length (w.ups c ++ k.ups c) ≤ 1
      go true e =
          let lt : c < w.next_conn = grind (arith, nat_tests, e) in
          (n.hush c l).few lt (subst (λ (d : Dialled). purpose_of d.upper ≡ pipeline) (dialled-before w k c lt) p)
      go false e =
          let ge : w.next_conn ≤ c = grind (arith, nat_tests, e) in
          none-few (w.ups c ++ k.ups c) (ap (λ (ms : List Message). ms ++ k.ups c) (x.ups c ge) ∙ (n.hush c l).fresh ge)

  conns-after : (d : ℕ) → IsAt d (put w.lowers k.lower_at k.lower d)
  conns-after d = put-each IsAt w.lowers k.lower_at k.lower (n.hush w.next_conn (none-few (w.downs w.next_conn) (x.downs w.next_conn (omega arith)))).conn x.early.conns d

  old-few : (e : ℕ) → e < w.next_conn → length (w.downs e) ≤ 1 → k.downs e ≡ [] → length (downs_with w k e) ≤ 1
  old-few e lt l d = rw (old-downs w k e lt) (rw d (omega (arith, length-append (w.downs e) [], l)))

  listed-few : (o : Option Message) → length (listed o) ≤ 1
  listed-few None = omega arith
  listed-few (Some m) = omega arith

  new-few : (e : ℕ) → e ≡ w.next_conn → k.downs e ≡ [] → length (downs_with w k e) ≤ 1
  new-few e at d = rw (x.downs e (omega (arith, at))) (rw d (listed-few (option_map (λ (z : Dial). z.request) (dial_at w.next_conn k.dials e))))

  goes-few : (e : ℕ) → Goes w k.writer_at k e → length (downs_with w k e) ≤ 1
  goes-few e (goes_on q i d) = old-few e (x.writers k.writer_at e q) (x.early.unsent k.writer_at e q i) d
  goes-few e (begins at d) = new-few e at d

  unsent-after : (b e : ℕ) → (put w.writers k.writer_at k.writer b).conn ≡ Some e → is_early (put w.writers k.writer_at k.writer b).known.phase ≡ true → length (downs_with w k e) ≤ 1
  unsent-after b e = go (b == k.writer_at) refl
    where
      go : (t : Bool) → (b == k.writer_at) ≡ t → (if t then k.writer else w.writers b).conn ≡ Some e → is_early (if t then k.writer else w.writers b).known.phase ≡ true → length (downs_with w k e) ≤ 1
      go true a q i = goes-few e (n.own e q i)
      go false a q i = old-few e (x.writers b e q) (x.early.unsent b e q i) (n.others b e a q i)

  apply-early : Early (apply w k)
  unfolding apply
  apply-early = record {
    conns = conns-after;
    quiet = λ c l. record {
      held = λ i b. held-after c i b (fewer-downs c l);
      bad = bad-after c (fewer-downs c l);
      few = λ lt p. few-after c (fewer-downs c l) p;
    };
    unsent = unsent-after;
  }

changed-early : (w : World) (o : Option Change) → Ctx w → IfSome o (Leaves w) → IfSome (changed w o) Early
changed-early w None x n = tt
changed-early w (Some k) x n = apply-early w k x n

-- WHO LEAVES WHAT

-- the writer of a change stays, but for an answer of the office
record SameWriter (w : World) (k : Change) : Type 0 where
  conn : k.writer.conn ≡ (w.writers k.writer_at).conn
  phase : k.writer.known.phase ≡ (w.writers k.writer_at).known.phase

module _ (w : World) (x : Ctx w) where
  mute-leaves : (o : Option Change) → ((c : ℕ) → length (w.downs c) ≤ 1 → IfSome o (Mute w c)) → IfSome o (SameWriter w) → IfSome o (Leaves w)
  mute-leaves None m s = tt
  mute-leaves (Some k) m s = record {
    hush = λ c l. (m c l).hush;
    others = λ b e n q i. (m e (x.early.unsent b e q i)).downs b (x.uppers.writers b e q);
    own = λ e q i. on e (sym s.conn ∙ q) (ap is_early (sym s.phase) ∙ i);
  }
    where
      on : (e : ℕ) → (w.writers k.writer_at).conn ≡ Some e → is_early (w.writers k.writer_at).known.phase ≡ true → Goes w k.writer_at k e
      on e q i = goes_on q i ((m e (x.early.unsent k.writer_at e q i)).downs k.writer_at (x.uppers.writers k.writer_at e q))

  aside-same : (o : Option Change) → IfSome o (Aside w) → IfSome o (SameWriter w)
  aside-same None h = tt
  aside-same (Some k) h = record { conn = ap (λ (y : Writing). y.conn) h.writer; phase = ap (λ (y : Writing). y.known.phase) h.writer }

  same-block : (a b : ℕ) → by_writer a ≡ by_writer b → a ≡ b
  same-block a b e = cc

  equal : (a : ℕ) → (a == a) ≡ false → ⊥
  equal a e = grind (arith, nat_tests, e)

  writer-leaves : (b : ℕ) (o : Option Change) → ((c : ℕ) → length (w.downs c) ≤ 1 → IfSome o (Hush w c)) → IfSome o (Carries w b) → IfSome o (Leaves w)
  writer-leaves b None h s = tt
  writer-leaves b (Some k) h s = record {
    hush = h;
    others = λ d e n q i. s.others e (λ r. equal k.writer_at (subst (λ (j : ℕ). (j == k.writer_at) ≡ false) (same-block d b (sym (x.uppers.writers d e q) ∙ x.uppers.writers b e r) ∙ sym s.at) n));
    own = λ e q i. subst (λ (j : ℕ). Goes w j k e) (sym s.at) (s.own e q i);
  }

  own-leaves : (s : OwnStep) → IfSome (own_change w s) (Leaves w)
  own-leaves (own.Writer b takes answered) = writer-leaves b.0 (own_writer w b.0 takes answered) (λ c l. own-writer-hush w c (x.early.quiet c l) x.early.conns b.0 takes answered) (own-writer-carries w b.0 takes answered (x.stands b.0))
  own-leaves (own.Reader i n r answered) =
      mute-leaves (own_reader w i n.0 r answered) (λ c l. own-reader-mute w c (x.early.quiet c l) x.early.conns x.uppers i n.0 r answered) (aside-same (own_reader w i n.0 r answered) (own-reader-aside w i n.0 r answered))
  own-leaves (own.Recover i n b ms bs) =
      mute-leaves (own_recover w i n.0 b ms bs) (λ c l. own-recover-mute w c (x.early.quiet c l) x.early.conns x.uppers i n.0 b ms bs) (aside-same (own_recover w i n.0 b ms bs) (own-recover-aside w i n.0 b ms bs))
  own-leaves (own.Primary i) = mute-leaves (own_primary w i) (λ c l. own-primary-mute w c (x.early.quiet c l) x.early.conns x.uppers i) (aside-same (own_primary w i) (own-primary-aside w i))

  -- THE OFFICE

  asks-same : (a : Action) (b : ℕ) → IfSome (writer_asks a w b) (SameWriter w)
  asks-same (action.Ask c) b = record { conn = refl; phase = refl }
  asks-same action.Wait b = tt
  asks-same action.Took b = tt
  asks-same (action.Dial to r) b = tt
  asks-same (action.Send p) b = tt
  asks-same (action.Answered k said) b = tt
  asks-same action.Memory b = tt

  commits-same : (s : PrimaryStep) (i : ℕ) (l : Leading) → IfSome (primary_commits s w i l) (SameWriter w)
  commits-same (primary_step.Commits c) i l = record { conn = refl; phase = refl }
  commits-same primary_step.Waits i l = tt
  commits-same (primary_step.Updates c) i l = tt
  commits-same (primary_step.Ends r) i l = tt

  primary-same : (p : Primary) (i : ℕ) (b : BlockId) → IfSome (primary_asks p w i b) (SameWriter w)
  primary-same no_primary i b = record { conn = refl; phase = refl }
  primary-same (leads l) i b = when-each (SameWriter w) (is_alive w l.at && is_none l.told) _ (λ _. commits-same (primary.own_step l.state).does i l)
  primary-same (was_told q t) i b = tt
  primary-same (has_led r) i b = tt

  office-same : (c : Caller) → IfSome (office_event w c) (SameWriter w)
  office-same (caller.Writer b) = when-each (SameWriter w) (is_none (w.writers b.0).told) _ (λ _. asks-same (writer.own_step (w.writers b.0).known).action b.0)
  office-same (caller.Primary i b) = primary-same (w.primaries i) i b

  office-leaves : (c : Caller) → IfSome (office_event w c) (Leaves w)
  office-leaves k = mute-leaves (office_event w k) (λ c l. office-mute w c (x.early.quiet c l) x.early.conns k) (office-same k)

  -- LOWER AND UPPER ENDS

  ready-leaves : (d : ℕ) (fails : Bool) → d < w.next_conn → IfSome (lower_ready (w.lowers d) w d fails) (Leaves w)
  ready-leaves d fails lt =
      mute-leaves (lower_ready (w.lowers d) w d fails)
      (λ c l. lower-ready-mute w c (x.early.quiet c l) x.uppers (w.lowers d) d (x.below d).0 fails lt refl (x.early.conns d) (x.below d).1)
      (aside-same (lower_ready (w.lowers d) w d fails) (lower-ready-aside (w.lowers d) w d fails))

  -- a member that takes a message has a connection on which a packet was sent
  abbrev IsLate : ℕ → Next → Type 0
  IsLate d n = (m : FullMember) (y : Message) → w.lowers d ≡ writes m → n ≡ message y → length (w.downs d) ≤ 1 → ⊥

  down-leaves : (d : ℕ) (n : Next) (answered fails : Bool) → d < w.next_conn → IsLate d n → IfSome (lower_down (w.lowers d) w d n answered fails) (Leaves w)
  down-leaves d n answered fails lt late =
      mute-leaves (lower_down (w.lowers d) w d n answered fails)
      (λ c l. lower-down-mute w c (x.early.quiet c l) x.uppers (w.lowers d) d (x.below d).0 n answered fails lt refl (x.early.conns d) (x.below d).1
      (λ m y e q i. late m y e q (subst (λ (j : ℕ). length (w.downs j) ≤ 1) i l)))
      (aside-same (lower_down (w.lowers d) w d n answered fails) (lower-down-aside (w.lowers d) w d n answered fails))

  unless-leaves : (fails : Bool) (o : Option Change) → IfSome o (Leaves w) → IfSome (unless_fails fails o) (Leaves w)
  unless-leaves true o q = tt
  unless-leaves false o q = q

  upper-leaves : (u : Upper) (e : ℕ) (n : Next) (fails : Bool) → e < w.next_conn → (w.dialled e).upper ≡ u → IfSome (upper_up u w e n fails) (Leaves w)
  upper-leaves (by_writer b) e n fails lt q = unless-leaves fails (writer_up w b e n)
      (writer-leaves b (writer_up w b e n) (λ c l. writer-up-hush w c (x.early.quiet c l) x.early.conns b e n) (writer-up-carries w b e n (x.stands b)))
  upper-leaves (by_member d) e n fails lt q =
      mute-leaves (mirror_up (w.lowers d) w d n fails)
      (λ c l. mirror-up-mute w c (x.early.quiet c l) x.uppers (w.lowers d) d (x.below d).0 n fails (x.members e d lt q) refl (x.early.conns d) (x.below d).1)
      (aside-same (mirror_up (w.lowers d) w d n fails) (mirror-up-aside (w.lowers d) w d n fails))
  upper-leaves (by_reader i) e n fails lt q = unless-leaves fails (reader_up w i e n)
      (mute-leaves (reader_up w i e n) (λ c l. reader-up-mute w c (x.early.quiet c l) x.early.conns x.uppers i e n) (aside-same (reader_up w i e n) (reader-up-aside w i e n)))
  upper-leaves (by_primary i place) e n fails lt q = unless-leaves fails (primary_up w i place e n)
      (mute-leaves (primary_up w i place e n) (λ c l. primary-up-mute w c (x.early.quiet c l) x.early.conns x.uppers i place e n) (aside-same (primary_up w i place e n) (primary-up-aside w i place e n)))

-- DELIVERIES

down-taken-ctx : (w : World) (c : ℕ) (n : Next) → Ctx w → Ctx (down_taken w c n)
unfolding down_taken
down-taken-ctx w c n x = record {
  early = record { conns = x.early.conns; quiet = λ d l. let s = x.early.quiet d l in record { held = s.held; bad = s.bad; few = s.few }; unsent = x.early.unsent };
  downs = x.downs;
  ups = x.ups;
  writers = x.writers;
  members = x.members;
  uppers = record { writers = x.uppers.writers; mirrors = x.uppers.mirrors; readers = x.uppers.readers; primaries = x.uppers.primaries };
  stands = x.stands;
  below = x.below;
}

up-taken-ctx : (w : World) (c : ℕ) (n : Next) → Ctx w → Ctx (up_taken w c n)
unfolding up_taken
up-taken-ctx w c n x = record {
  early = record { conns = x.early.conns; quiet = λ d l. let s = x.early.quiet d l in record { held = s.held; bad = s.bad; few = s.few }; unsent = x.early.unsent };
  downs = x.downs;
  ups = x.ups;
  writers = x.writers;
  members = x.members;
  uppers = record { writers = x.uppers.writers; mirrors = x.uppers.mirrors; readers = x.uppers.readers; primaries = x.uppers.primaries };
  stands = x.stands;
  below = x.below;
}

within : (ms : List Message) (i : ℕ) (m : Message) → slice_get ms i ≡ Some m → i < length ms
within [] i m e = absurd (none-some m e)
within (y ∷ ms) zero m e = omega arith
within (y ∷ ms) (suc i) m e = omega (arith, within ms i m e)

below-next : (c n : ℕ) → nat_lt c n ≡ true → c < n
below-next c n e = grind (arith, nat_tests, e)

-- a member has taken its request
late : (w : World) (d : ℕ) (n : Next) → Ordered w → next_down w d ≡ Some n → (m : FullMember) (y : Message) → w.lowers d ≡ writes m → n ≡ message y → length (w.downs d) ≤ 1 → ⊥
late w d n o e m y l q few =
    let asked : 0 < (w.down_marks d).taken = (subst (λ (z : Lower). IsBelow (w.dialled d).upper (w.down_marks d).taken (w.ups d) z) l (o.below d)).asked in
    let there = within (w.downs d) (w.down_marks d).taken y (next-sent (w.downs d) (w.down_marks d) y (e ∙ ap (λ (z : Next). Some z) q)) in
    absurd (omega (arith, asked, there, few))

down-taken-leaves : (w : World) (d : ℕ) (n : Next) (answered fails : Bool) → Ctx w → Ordered w → d < w.next_conn → next_down w d ≡ Some n → IfSome (lower_down (w.lowers d) (down_taken w d n) d n answered fails) (Leaves (down_taken w d n))
unfolding down_taken
down-taken-leaves w d n answered fails x o lt e = down-leaves (down_taken w d n) (down-taken-ctx w d n x) d n answered fails lt (late w d n o e)

up-taken-leaves : (w : World) (d : ℕ) (n : Next) (fails : Bool) → Ctx w → d < w.next_conn → IfSome (upper_up (w.dialled d).upper (up_taken w d n) d n fails) (Leaves (up_taken w d n))
unfolding up_taken
up-taken-leaves w d n fails x lt = upper-leaves (up_taken w d n) (up-taken-ctx w d n x) (w.dialled d).upper d n fails lt refl

down-as-early : (w : World) (d : ℕ) (answered fails : Bool) (o : Option Next) → Ctx w → Ordered w → d < w.next_conn → next_down w d ≡ o → IfSome (down_as w d answered fails o) Early
down-as-early w d answered fails None x q lt e = tt
down-as-early w d answered fails (Some n) x q lt e = changed-early (down_taken w d n) _ (down-taken-ctx w d n x) (down-taken-leaves w d n answered fails x q lt e)

down-early : (w : World) (d : ℕ) (answered fails : Bool) → Ctx w → Ordered w → IfSome (down_event w d answered fails) Early
down-early w d answered fails x o = when-each Early (is_served w d) _
    (λ e. down-as-early w d answered fails (next_down w d) x o (below-next d w.next_conn (and-left (nat_lt d w.next_conn) (is_alive w (w.dialled d).to) e)) refl)

ready-early : (w : World) (d : ℕ) (fails : Bool) → Ctx w → IfSome (ready_event w d fails) Early
ready-early w d fails x = when-each Early (is_served w d) _
    (λ e. changed-early w (lower_ready (w.lowers d) w d fails) x (ready-leaves w x d fails (below-next d w.next_conn (and-left (nat_lt d w.next_conn) (is_alive w (w.dialled d).to) e))))

up-as-early : (w : World) (d : ℕ) (fails : Bool) (o : Option Next) → Ctx w → d < w.next_conn → IfSome (up_as w d fails o) Early
up-as-early w d fails None x lt = tt
up-as-early w d fails (Some n) x lt = changed-early (up_taken w d n) _ (up-taken-ctx w d n x) (up-taken-leaves w d n fails x lt)

up-early : (w : World) (d : ℕ) (fails : Bool) → Ctx w → IfSome (up_event w d fails) Early
up-early w d fails x = when-each Early (nat_lt d w.next_conn) _ (λ e. up-as-early w d fails (next_up w d) x (below-next d w.next_conn e))

fault-early : (w : World) (d : Delivery) → Ctx w → Ordered w → IfSome (fault_event w d) Early
fault-early w (delivery.Down c) x o = down-early w c.0 false true x o
fault-early w (delivery.Ready c) x o = ready-early w c.0 true x
fault-early w (delivery.Up c) x o = up-early w c.0 true x

-- LOSSES, STOPS, RESTARTS

lost-early : (w : World) (c : ℕ) (way : Direction) (more : ℕ) → Early w → Early (lost w c way more)
lost-early w c direction.Down more h = record { conns = h.conns; quiet = λ d l. let s = h.quiet d l in record { held = s.held; bad = s.bad; few = s.few }; unsent = h.unsent }
lost-early w c direction.Up more h = record { conns = h.conns; quiet = λ d l. let s = h.quiet d l in record { held = s.held; bad = s.bad; few = s.few }; unsent = h.unsent }

stop-early : (w : World) (n : ℕ) → Early w → Early (stop w n)
stop-early w n h = record { conns = h.conns; quiet = λ d l. let s = h.quiet d l in record { held = s.held; bad = s.bad; few = s.few }; unsent = h.unsent }

-- nothing is pending at a replica that was found
found-none : (c b : ℕ) (o : Option Found) → entries_by c (replica_found b o).known ≡ 0
found-none c b None = refl
found-none c b (Some f) = refl

restarted-none : (c b : ℕ) (r : FullReplica) (o : Option Break) (f : Option Found) → entries_by c (restarted b r o f).known ≡ 0
unfolding restarted
restarted-none c b r o f = found-none c b _

restart-early : (w : World) (n : ℕ) (list : List FoundReplica) → Early w → Early (restart w n list)
unfolding restart
restart-early w n list h = record {
  conns = h.conns;
  quiet = λ d l. let s = h.quiet d l in record {
    held = λ i b. put-each (λ (j : ℕ) (f : ℕ → FullReplica). entries_by d (f b).known ≡ 0) w.replicas n (λ y. restarted y (w.replicas n y) (w.breaks n y) (found_in list y)) (restarted-none d b (w.replicas n b) (w.breaks n b) (found_in list b)) (λ j. s.held j b) i;
    bad = s.bad;
    few = s.few;
  };
  unsent = h.unsent;
}

where-early : (test : Bool) (v : World) → Early v → IfSome (where_so test v) Early
where-early true v h = h
where-early false v h = tt

-- ALL EVENTS

outcome-early : (w : World) (e : Event) → Ctx w → Ordered w → IfSome (outcome w e) Early
unfolding outcome
outcome-early w (event.Own s) x o = changed-early w (own_change w s) x (own-leaves w x s)
outcome-early w (event.Office c) x o = changed-early w (office_event w c) x (office-leaves w x c)
outcome-early w (event.Down c answered) x o = down-early w c.0 answered false x o
outcome-early w (event.Ready c) x o = ready-early w c.0 false x
outcome-early w (event.Up c) x o = up-early w c.0 false x
outcome-early w (event.Lost c way more) x o = where-early (nat_lt c.0 w.next_conn) (lost w c.0 way more) (lost-early w c.0 way more x.early)
outcome-early w (event.Fault d) x o = fault-early w d x o
outcome-early w (event.Stop n) x o = where-early (w.running n.0) (stop w n.0) (stop-early w n.0 x.early)
outcome-early w (event.Restart n list) x o =
    where-early (nat_lt n.0 w.nodes && not (w.running n.0)) (restart w n.0 list) (restart-early w n.0 list x.early)

after-early : (w : World) (e : Event) (o : Option World) → Early w → IfSome o Early → Early (after_event w e o)
after-early w e None h n = h
after-early w e (Some v) h n = record { conns = n.conns; quiet = λ d l. let s = n.quiet d l in record { held = s.held; bad = s.bad; few = s.few }; unsent = n.unsent }

happens-early : (w : World) (e : Event) → Ctx w → Ordered w → Early (happens w e)
unfolding happens
happens-early w e x o = after-early w e (outcome w e) x.early (outcome-early w e x o)

-- WHO DIALLED

conn-is : (P : ℕ → Type 0) (o : Option ℕ) (e : ℕ) → o ≡ Some e → IfSome o P → P e
conn-is P None e q h = absurd (none-some e q)
conn-is P (Some d) e q h = subst P (same_Some d e q) h

uppers-of : (w : World) → Ordered w → Uppers w
uppers-of w o = record {
  writers = λ b e q. (conn-is (λ c. IsWriterConn (w.dialled c) (w.up_marks c).taken b (w.writers b).known) (w.writers b).conn e q (o.writers_are b)).upper;
  mirrors = λ d e m l q. (conn-is (λ c. IsMirror (w.dialled c) (w.up_marks c).taken d c m.state) m.mirror e q (subst (MirrorIs w.dialled w.up_marks d) l (o.mirrors d))).upper;
  readers = λ i e s r. subst (ReaderIs w.dialled i) r (o.readers_are i);
  primaries = λ i place e l r q. subst (PrimaryIs w.dialled i) r (o.primaries_are i) place e q;
}

run-ctx : (nodes : ℕ) (list : List Event) → Early (run (start nodes) list) → Ctx (run (start nodes) list)
run-ctx nodes list h =
    let w : World = run (start nodes) list in
    let o : Ordered w = all-ordered nodes list in
    record {
      early = h;
      downs = λ c l. ((all-placed nodes list).undialled c l).downs;
      ups = λ c l. ((all-placed nodes list).undialled c l).ups;
      writers = λ b e q. conn-is (λ c. c < w.next_conn) (w.writers b).conn e q ((all-placed nodes list).writers b).below;
      members = λ c d l q. subst (IsUpper w.next_conn) q ((all-placed nodes list).dialled c l).upper;
      uppers = uppers-of w o;
      stands = all-stand Any nodes list (any-events list);
      below = λ d. ((w.down_marks d).taken, o.below d);
    }

reached-ctx : (w : World) → Reached w → Early w → Ctx w
reached-ctx w r = subst (λ (v : World). Early v → Ctx v) r.is (run-ctx r.nodes r.events)

reached-ordered : (w : World) → Reached w → Ordered w
reached-ordered w r = subst Ordered r.is (all-ordered r.nodes r.events)

run-early : (w : World) (list : List Event) → Reached w → Early w → Early (run w list)
run-early w [] r h = h
run-early w (e ∷ list) r h = run-early (happens w e) list (reached-next w e r) (happens-early w e (reached-ctx w r h) (reached-ordered w r))

start-early : (nodes : ℕ) → Early (start nodes)
unfolding start
start-early nodes = record {
  conns = λ d. tt;
  quiet = λ c l. record { held = λ n b. refl; bad = tt; few = λ lt p. omega arith };
  unsent = λ b e q. absurd (none-some e q);
}

all-early : (nodes : ℕ) (list : List Event) → Early (run (start nodes) list)
all-early nodes list = run-early (start nodes) list (at-start nodes) (start-early nodes)

-- THE LAW

accepted-taken : (w : World) (b c : ℕ) (s : Setup) (stamp : Stamp) → Ordered w → (w.writers b).known.phase ≡ phase.Accepted s stamp → (w.writers b).conn ≡ Some c → 0 < (w.up_marks c).taken
accepted-taken w b c s stamp o p q =
    subst (λ (y : Phase). HasTaken y (w.writers b).known.members (w.up_marks c).taken) p
    (conn-is (λ d. IsWriterConn (w.dialled d) (w.up_marks d).taken b (w.writers b).known) (w.writers b).conn c q (o.writers_are b)).heard

none-comes : (w : World) (b c : ℕ) (s : Setup) (stamp : Stamp) (m : Message) → Ctx w → Ordered w → (w.writers b).known.phase ≡ phase.Accepted s stamp → (w.writers b).conn ≡ Some c → next_up w c ≡ Some (message m) → ⊥
none-comes w b c s stamp m x o p q e =
    let silent : Silent w c = x.early.quiet c (x.early.unsent b c q (ap is_early p)) in
    let few : length (w.ups c) ≤ 1 = silent.few (x.writers b c q) (ap purpose_of (x.uppers.writers b c q)) in
    let there = within (w.ups c) (w.up_marks c).taken m (next-sent (w.ups c) (w.up_marks c) m e) in
    absurd (omega (arith, few, there, accepted-taken w b c s stamp o p q))

pub nothing-early : NothingEarly
nothing-early nodes events b c s stamp m p q e = none-comes (run (start nodes) events) b c s stamp m (run-ctx nodes events (all-early nodes events)) (all-ordered nodes events) p q e
