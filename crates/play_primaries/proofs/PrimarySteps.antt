-- The events of a primary keep the others, and what nodes have.
use Rattle.std.proofs.Common.{◌≡◌, ◌<◌, ◌≤◌, ◌+◌, ◌⊎◌, inl, inr, ℕ, zero, suc, Bool, true, false, List, [], ◌∷◌, ◌++◌, length, option_map, Option, Some, None, IfSome, Ok, Err, slice_get, refl, sym, ap, ◌∙◌, subst, arith, eqb-true}
use Rattle.std.specs.Prelude.{◌==◌, ◌&&◌, ◌-◌, is_none, nat_lt, unwrap_or}
use Rattle.std.proofs.lemmas.Bool.Decides.{nat_tests}
use Rattle.std.proofs.lemmas.List.{append-nil}
use Rattle.hd_base.specs.declared.numbers.BlockId.{BlockId}
use Rattle.hd_base.specs.declared.numbers.ConnId.{ConnId}
use Rattle.hd_base.specs.declared.numbers.NodeId.{NodeId}
use Rattle.name_core.specs.declared.calls.OfficeAnswer.TheVariants as office
use Rattle.recovery_core.specs.declared.primary.OwnStep.{OwnStep}
use Rattle.recovery_core.specs.declared.primary.OwnStep.TheVariants as step
use Rattle.recovery_core.specs.declared.standings.Standing.{Standing}
use Rattle.recovery_core.specs.Primaries.{PrimaryState, begun_with, own_step}
use Rattle.primary_events.specs.World.Caller.TheVariants as caller
use Rattle.primary_events.specs.World.Event.{Event}
use Rattle.primary_events.specs.World.Event.TheVariants as event
use Rattle.primary_events.specs.World.OwnStep.TheVariants as own
use Rattle.primary_events.specs.World.Clients.{are_members}
use Rattle.primary_events.specs.World.Connections.{Next, next_up, up_taken, is_alive, place_of}
use Rattle.primary_events.specs.World.Events.{changed, upper_up, up_as, outcome, after_event, happens, run}
use Rattle.primary_events.specs.World.Parts.{Message, Upper, by_primary, Dialled, Place, Told, Leading, Primary, no_primary, was_told, leads, has_led, Said}
use Rattle.primary_events.specs.World.Primaries.{begins_as, begins_at, commits_step, dials_answered, hears_change, leads_step, leads_told, listens, office_event, own_primary, own_primary_as, own_recover, primary_asks, primary_commits, primary_dials, primary_up_as, recovery_message}
use Rattle.primary_events.specs.World.Worlds.{World, Change, Dial, add, put_at, apply, dial_at}
use Rattle.world_recoveries.proofs.WorldLaws.FactTables.{if-each, when-each, and-left, and-right}
use Rattle.world_recoveries.proofs.WorldLaws.GrowthLaws.{apply-grows}
use Rattle.world_recoveries.proofs.WorldLaws.StampGivens.{put-there}
use Rattle.play_readers.specs.WorldNets.Ends.{IsElsewhere}
use Rattle.play_readers.specs.WorldNets.Nets.{is_over}
use Rattle.play_readers.proofs.WorldNets.StepLemmas.{changed-over, taken-over}
use Rattle.play_readers.proofs.WorldOrders.Lists.{dial-here}
use Rattle.play_readers.specs.PlayModel.Recovery.{Recovery}
use Rattle.play_readers.specs.PlayModel.Recoveries as model
use Rattle.play_readers.specs.Frames.{KeepsNodes}
use Rattle.play_readers.proofs.OtherSteps.{put_same}
use Rattle.play_primaries.specs.Frames.{KeepsOthers, OwnStepsKeepOthers, HearingKeepsOthers, IsDialled, OwnKeepsNodes, OwnStepsKeepNodes, HearingKeepsNodes}
use Rattle.play_primaries.specs.Owning.{own_events, step_events}

-- TABLES

put_at_same : {A : Type 0} (f : ℕ → ℕ → A) (n b : ℕ) (x : A) (j l : ℕ) → x ≡ f n b → put_at f n b x j l ≡ f j l
put_at_same {A} f n b x j l is =
    if-each (λ (y : A). y ≡ f j l) (j == n && l == b) x (f j l)
    (λ e. is ∙ (ap (λ (q : ℕ). f q b) (sym (eqb-true j n (and-left (j == n) (l == b) e))) ∙ ap (f j) (sym (eqb-true l b (and-right (j == n) (l == b) e)))))
    (λ _. refl)

added_none : (f : ℕ → List Said) (n : ℕ) (xs : List Said) (j : ℕ) → xs ≡ [] → add f n xs j ≡ f j
added_none f n xs j none = if-each (λ (ys : List Said). ys ≡ f j) (j == n) (f j ++ xs) (f j) (λ e. ap (λ (ys : List Said). f j ++ ys) none ∙ append-nil (f j)) (λ _. refl)

-- CHANGES

-- a dial of this primary, at a node that runs
record IsFor (w : World) (number : ℕ) (d : Dial) : Type 0 where
  place : ℕ
  upper : d.dialled.upper ≡ by_primary number place
  alive : is_alive w d.dialled.to ≡ true

abbrev AreFor : World → ℕ → List Dial → Type 0
AreFor w number ds = (j : ℕ) (d : Dial) → slice_get ds j ≡ Some d → IsFor w number d

-- A change is of this primary alone, of the office, and of what the primary sends and dials.
record IsOfPrimary (w : World) (number : ℕ) (k : Change) : Type 0 where
  at_is : k.primary_at ≡ number
  reader : k.reader ≡ w.readers k.reader_at
  writer : k.writer ≡ w.writers k.writer_at
  said : k.said ≡ []
  lower : k.lower ≡ w.lowers k.lower_at
  replica : k.replica ≡ w.replicas k.node k.block
  dials : AreFor w number k.dials

-- It dials nothing, and leaves the office.
record IsQuiet (w : World) (number : ℕ) (k : Change) : Type 0 where
  is : IsOfPrimary w number k
  none : k.dials ≡ []
  office : k.office ≡ w.office

none_there : (d : Dial) → ◌≡◌ {A = Option Dial} None (Some d) → ⊥
none_there d e = cc

no_dials : (w : World) (number : ℕ) → AreFor w number []
no_dials w number = λ j d at. absurd (none_there d at)

-- STEPS

-- this end isn't the upper one of that connection, if it is one
abbrev IsAway : Option ℕ → ℕ → Bool → Type 0
IsAway c d lower = IfSome c (λ e. IsElsewhere e false d lower)

-- The others and what nodes have stay, and but for the upper end of this connection, if it is one, no end took more.
record StepKeeps (w v : World) (number : ℕ) (c : Option ℕ) : Type 0 where
  others : KeepsOthers w v number
  nodes : OwnKeepsNodes w v number
  over : (d : ℕ) (lower : Bool) → IsAway c d lower → is_over v d lower ≡ is_over w d lower

both_past : (n c : ℕ) → n ≤ c → c < n → ⊥
both_past n c h k = omega (arith, h, k)

no_less : (n : ℕ) → n ≤ n
no_less n = omega arith

same_keeps : (w : World) → KeepsNodes w w
same_keeps w = record { nodes = refl; grows = no_less w.next_conn; dialled = λ d z. refl; running = λ n. refl; lives = λ n. refl; lowers = λ d. refl; replicas = λ n b. refl }

still_kept : (w : World) (number : ℕ) (c : Option ℕ) → StepKeeps w w number c
still_kept w number c = record {
  others = record { primaries = λ other z. refl; readers = λ line. refl; writers = λ b. refl; said = λ b. refl };
  nodes = record { keeps = same_keeps w; dials = λ d from to. absurd (both_past w.next_conn d from to) };
  over = λ d lower z. refl;
}

-- the world names its last event
named : (w v : World) (number : ℕ) (c : Option ℕ) (e : Event) → StepKeeps w v number c → StepKeeps w (record v { last = Some e }) number c
named w v number c e h =
    let o = h.others in
    let n = h.nodes in
    record {
      others = record { primaries = o.primaries; readers = o.readers; writers = o.writers; said = o.said };
      nodes = record {
        keeps = record { nodes = n.keeps.nodes; grows = n.keeps.grows; dialled = n.keeps.dialled; running = n.keeps.running; lives = n.keeps.lives; lowers = n.keeps.lowers; replicas = n.keeps.replicas };
        dials = λ d from to. let z = n.dials d from to in record { place = z.place; upper = z.upper; served = z.served };
      };
      over = h.over;
    }

test_so : (a b : ℕ) → a < b → nat_lt a b ≡ true
test_so a b h = grind (arith, nat_tests, h)

both_so : (a b : Bool) → a ≡ true → b ≡ true → (a && b) ≡ true
both_so a b h k = rw (h, k) refl

-- the dial at a place of the new connections
dial_within : (ds : List Dial) (j : ℕ) → j < length ds → (d : Dial) × (slice_get ds j ≡ Some d)
dial_within [] j h = absurd (omega (arith, h))
dial_within (d ∷ ds) zero h = (d, refl)
dial_within (d ∷ ds) (suc j) h = dial_within ds j (omega (arith, h))

-- what stands at a number
abbrev StandsFor : World → ℕ → Dialled → Type 0
StandsFor w number d = (place : ℕ) × ((d.upper ≡ by_primary number place) × (is_alive w d.to ≡ true))

stands_for : (w : World) (number : ℕ) (ds : List Dial) (c : ℕ) → AreFor w number ds → w.next_conn ≤ c → c < w.next_conn + length ds
    → StandsFor w number (unwrap_or (option_map (λ (d : Dial). d.dialled) (dial_at w.next_conn ds c)) (w.dialled c))
stands_for w number ds c all from to =
    let j : ℕ = c - w.next_conn in
    let x = dial_within ds j (omega (arith, from, to)) in
    let k = all j x.0 x.1 in
    subst (λ (o : Option Dial). StandsFor w number (unwrap_or (option_map (λ (d : Dial). d.dialled) o) (w.dialled c))) (sym (dial-here w.next_conn c j ds x.0 (omega (arith, from)) x.1)) (k.place, (k.upper, k.alive))

more_conns : (n m : ℕ) → n ≤ n + m
more_conns n m = omega arith

change_kept : (w : World) (number : ℕ) (k : Change) → IsOfPrimary w number k → StepKeeps w (apply w k) number None
unfolding apply
change_kept w number k h = record {
  others = record {
    primaries = λ other apart. put-there w.primaries k.primary_at k.primary other (λ e. apart (e ∙ h.at_is));
    readers = λ line. put_same w.readers k.reader_at k.reader line h.reader;
    writers = λ b. put_same w.writers k.writer_at k.writer b h.writer;
    said = λ b. added_none w.said k.writer_at k.said b h.said;
  };
  nodes = record {
    keeps = record {
      nodes = refl;
      grows = more_conns w.next_conn (length k.dials);
      dialled = λ d within. (apply-grows w k).dialled d within;
      running = λ n. refl;
      lives = λ n. refl;
      lowers = λ d. put_same w.lowers k.lower_at k.lower d h.lower;
      replicas = λ n b. put_at_same w.replicas k.node k.block k.replica n b h.replica;
    };
    dials = λ c from to.
        let z = stands_for w number k.dials c h.dials from to in
        record { place = z.0; upper = z.1.0; served = both_so _ _ (test_so c (w.next_conn + length k.dials) to) z.1.1 };
  };
  over = λ d lower z. changed-over w k d lower;
}

changed_kept : (w : World) (number : ℕ) (o : Option Change) → IfSome o (IsOfPrimary w number) → IfSome (changed w o) (λ v. StepKeeps w v number None)
changed_kept w number None h = tt
changed_kept w number (Some k) h = change_kept w number k h

after_kept : (w : World) (number : ℕ) (c : Option ℕ) (e : Event) (o : Option World) → IfSome o (λ v. StepKeeps w v number c) → StepKeeps w (after_event w e o) number c
after_kept w number c e None h = still_kept w number c
after_kept w number c e (Some v) h = named w v number c e h

-- TWO STEPS

le_trans : (a b c : ℕ) → a ≤ b → b ≤ c → a ≤ c
le_trans a b c h k = omega (arith, h, k)

lt_trans : (a b c : ℕ) → a < b → b ≤ c → a < c
lt_trans a b c h k = omega (arith, h, k)

served_on : (u v : World) (c : ℕ) → KeepsNodes u v → c < u.next_conn → is_alive u (u.dialled c).to ≡ true → (nat_lt c v.next_conn && is_alive v (v.dialled c).to) ≡ true
served_on u v c k within alive =
    both_so (nat_lt c v.next_conn) (is_alive v (v.dialled c).to) (test_so c v.next_conn (lt_trans c u.next_conn v.next_conn within k.grows))
    (ap (λ (p : Place). is_alive v p) (ap (λ (d : Dialled). d.to) (k.dialled c within))
    ∙ (ap (λ (b : Bool). b && (v.lives (u.dialled c).to.node == (u.dialled c).to.life)) (k.running (u.dialled c).to.node)
    ∙ (ap (λ (n : ℕ). u.running (u.dialled c).to.node && (n == (u.dialled c).to.life)) (k.lives (u.dialled c).to.node) ∙ alive)))

before_or : (c n : ℕ) → (c < n) ⊎ (n ≤ c)
before_or c n = by (nat_lt c n) refl
  where
    by : (b : Bool) → nat_lt c n ≡ b → (c < n) ⊎ (n ≤ c)
    by true e = inl (grind (arith, nat_tests, e))
    by false e = inr (grind (arith, nat_tests, e))

kept_then : (w u v : World) (number : ℕ) (c : Option ℕ) → StepKeeps w u number c → StepKeeps u v number None → StepKeeps w v number c
kept_then w u v number c a b = record {
  others = record {
    primaries = λ other z. b.others.primaries other z ∙ a.others.primaries other z;
    readers = λ line. b.others.readers line ∙ a.others.readers line;
    writers = λ n. b.others.writers n ∙ a.others.writers n;
    said = λ n. b.others.said n ∙ a.others.said n;
  };
  nodes = record {
    keeps = record {
      nodes = b.nodes.keeps.nodes ∙ a.nodes.keeps.nodes;
      grows = le_trans w.next_conn u.next_conn v.next_conn a.nodes.keeps.grows b.nodes.keeps.grows;
      dialled = λ d within. b.nodes.keeps.dialled d (lt_trans d w.next_conn u.next_conn within a.nodes.keeps.grows) ∙ a.nodes.keeps.dialled d within;
      running = λ n. b.nodes.keeps.running n ∙ a.nodes.keeps.running n;
      lives = λ n. b.nodes.keeps.lives n ∙ a.nodes.keeps.lives n;
      lowers = λ d. b.nodes.keeps.lowers d ∙ a.nodes.keeps.lowers d;
      replicas = λ n l. b.nodes.keeps.replicas n l ∙ a.nodes.keeps.replicas n l;
    };
    dials = λ d from to. by d from to (before_or d u.next_conn);
  };
  over = λ d lower away. b.over d lower tt ∙ a.over d lower away;
}
  where
    by : (d : ℕ) → w.next_conn ≤ d → d < v.next_conn → (d < u.next_conn) ⊎ (u.next_conn ≤ d) → IsDialled v number d
    by d from to (inr past) = b.nodes.dials d past to
    by d from to (inl within) =
        let z = a.nodes.dials d from within in
        record {
          place = z.place;
          upper = ap (λ (x : Dialled). x.upper) (b.nodes.keeps.dialled d within) ∙ z.upper;
          served = served_on u v d b.nodes.keeps within (and-right (nat_lt d u.next_conn) (is_alive u (u.dialled d).to) z.served);
        }

-- ITS FIRST STEP

same_life : (n : ℕ) → (n == n) ≡ true
same_life n = grind (arith, nat_tests)

so_right : (a b : Bool) → (a && b) ≡ true → b ≡ true
so_right true b h = h
so_right false b h = cc

some_dial : (a d : Dial) → ◌≡◌ {A = Option Dial} (Some a) (Some d) → a ≡ d
some_dial a d e = cc

dials_for : (w : World) (i : ℕ) (from : Place) (first : Message) (place : ℕ) (ns : List NodeId) (answers : List Bool) → AreFor w i (primary_dials w i from first place ns (dials_answered w ns answers))
dials_for w i from first place [] answers = no_dials w i
dials_for w i from first place (n ∷ ns) [] = dials_for w i from first (place + 1) ns []
dials_for w i from first place (n ∷ ns) (a ∷ answers) = by (a && w.running n.0) refl (dials_for w i from first (place + 1) ns answers)
  where
    by : (b : Bool) → (a && w.running n.0) ≡ b → AreFor w i (primary_dials w i from first (place + 1) ns (dials_answered w ns answers)) → AreFor w i (primary_dials w i from first place (n ∷ ns) (b ∷ dials_answered w ns answers))
    by false e rest = rest
    by true e rest = λ j d at. at_place j d at
      where
        at_place : (j : ℕ) (d : Dial) → slice_get (primary_dials w i from first place (n ∷ ns) (true ∷ dials_answered w ns answers)) j ≡ Some d → IsFor w i d
        at_place zero d at = subst (λ (x : Dial). IsFor w i x) (some_dial _ d at) (record {
          place = place;
          upper = refl;
          alive = both_so (w.running n.0) (w.lives n.0 == w.lives n.0) (so_right a (w.running n.0) e) (same_life (w.lives n.0));
        })
        at_place (suc j) d at = rest j d at

begins_as_kept : (t : Told) (w : World) (i : ℕ) (at : Place) (b : BlockId) (members : List NodeId) (answers : List Bool) → IfSome (begins_as t w i at b members answers) (IsOfPrimary w i)
begins_as_kept (Ok (office.Stamp s)) w i at b members answers = tt
begins_as_kept (Ok (office.Reopened r)) w i at b members answers = tt
begins_as_kept (Ok (office.Begun begun)) w i at b members answers = record {
  at_is = refl;
  reader = refl;
  writer = refl;
  said = refl;
  lower = refl;
  replica = refl;
  dials = dials_for w i at (recovery_message (begun_with b begun members (dials_answered w members answers))) 0 members answers;
}
begins_as_kept (Ok office.Nothing) w i at b members answers = tt
begins_as_kept (Err fault) w i at b members answers = record { at_is = refl; reader = refl; writer = refl; said = refl; lower = refl; replica = refl; dials = no_dials w i }

begins_at_kept : (p : Primary) (w : World) (i n : ℕ) (b : BlockId) (members : List NodeId) (answers : List Bool) → IfSome (begins_at p w i n b members answers) (IsOfPrimary w i)
begins_at_kept no_primary w i n b members answers = tt
begins_at_kept (was_told asked told) w i n b members answers =
    when-each (IsOfPrimary w i) (asked.0 == b.0 && w.running n && are_members members) (begins_as told w i (place_of w n) b members answers)
    (λ e. begins_as_kept told w i (place_of w n) b members answers)
begins_at_kept (leads l) w i n b members answers = tt
begins_at_kept (has_led r) w i n b members answers = tt

-- THE OFFICE

commits_kept : (s : OwnStep) (w : World) (i : ℕ) (l : Leading) → IfSome (primary_commits s w i l) (IsOfPrimary w i)
commits_kept step.Waits w i l = tt
commits_kept (step.Updates c) w i l = tt
commits_kept (step.Commits c) w i l = record { at_is = refl; reader = refl; writer = refl; said = refl; lower = refl; replica = refl; dials = no_dials w i }
commits_kept (step.Ends r) w i l = tt

asks_kept : (p : Primary) (w : World) (i : ℕ) (b : BlockId) → IfSome (primary_asks p w i b) (IsOfPrimary w i)
asks_kept no_primary w i b = record { at_is = refl; reader = refl; writer = refl; said = refl; lower = refl; replica = refl; dials = no_dials w i }
asks_kept (was_told c t) w i b = tt
asks_kept (leads l) w i b = when-each (IsOfPrimary w i) (is_alive w l.at && is_none l.told) _ (λ _. commits_kept (own_step l.state).does w i l)
asks_kept (has_led r) w i b = tt

-- ITS FURTHER STEPS

steps_kept : (s : OwnStep) (w : World) (i : ℕ) (l : Leading) (p : PrimaryState) → IfSome (leads_step s w i l p) (IsOfPrimary w i)
steps_kept step.Waits w i l p = tt
steps_kept (step.Updates c) w i l p = record { at_is = refl; reader = refl; writer = refl; said = refl; lower = refl; replica = refl; dials = no_dials w i }
steps_kept (step.Commits c) w i l p = tt
steps_kept (step.Ends r) w i l p = record { at_is = refl; reader = refl; writer = refl; said = refl; lower = refl; replica = refl; dials = no_dials w i }

told_kept : (s : OwnStep) (w : World) (i : ℕ) (l : Leading) (t : Told) → IfSome (commits_step s w i l t) (IsOfPrimary w i)
told_kept step.Waits w i l t = tt
told_kept (step.Updates c) w i l t = tt
told_kept (step.Commits c) w i l t = record { at_is = refl; reader = refl; writer = refl; said = refl; lower = refl; replica = refl; dials = no_dials w i }
told_kept (step.Ends r) w i l t = tt

leads_kept : (t : Option Told) (w : World) (i : ℕ) (l : Leading) → IfSome (leads_told t w i l) (IsOfPrimary w i)
leads_kept None w i l = steps_kept (own_step l.state).does w i l (own_step l.state).primary
leads_kept (Some told) w i l = told_kept (own_step l.state).does w i l told

own_as_kept : (p : Primary) (w : World) (i : ℕ) → IfSome (own_primary_as p w i) (IsOfPrimary w i)
own_as_kept no_primary w i = tt
own_as_kept (was_told b t) w i = tt
own_as_kept (leads l) w i = when-each (IsOfPrimary w i) (is_alive w l.at) _ (λ _. leads_kept l.told w i l)
own_as_kept (has_led r) w i = tt

-- ITS EVENTS

office_kept : (w : World) (i : ℕ) (b : BlockId) → StepKeeps w (happens w (event.Office (caller.Primary i b))) i None
unfolding happens outcome
office_kept w i b =
    after_kept w i None (event.Office (caller.Primary i b)) (outcome w (event.Office (caller.Primary i b))) (changed_kept w i (office_event w (caller.Primary i b)) (asks_kept (w.primaries i) w i b))

begins_kept : (w : World) (i : ℕ) (n : NodeId) (b : BlockId) (members : List NodeId) (answers : List Bool) → StepKeeps w (happens w (event.Own (own.Recover i n b members answers))) i None
unfolding happens outcome
begins_kept w i n b members answers =
    after_kept w i None (event.Own (own.Recover i n b members answers)) (outcome w (event.Own (own.Recover i n b members answers)))
    (changed_kept w i (own_recover w i n.0 b members answers) (begins_at_kept (w.primaries i) w i n.0 b members answers))

goes_kept : (w : World) (i : ℕ) → StepKeeps w (happens w (event.Own (own.Primary i))) i None
unfolding happens outcome
goes_kept w i = after_kept w i None (event.Own (own.Primary i)) (outcome w (event.Own (own.Primary i))) (changed_kept w i (own_primary w i) (own_as_kept (w.primaries i) w i))

asks_then : (w : World) (r : Recovery) (answers : List Bool) → StepKeeps w (run w (model.primary_asks r ∷ (model.begins_so r answers ∷ []))) r.primary None
asks_then w r answers =
    let u : World = happens w (event.Office (caller.Primary r.primary r.block)) in
    kept_then w u (happens u (event.Own (own.Recover r.primary r.node r.block r.members answers))) r.primary None (office_kept w r.primary r.block) (begins_kept u r.primary r.node r.block r.members answers)

goes_then : (w : World) (r : Recovery) (s : OwnStep) → StepKeeps w (run w (model.leads_events s r)) r.primary None
goes_then w r step.Waits = goes_kept w r.primary
goes_then w r (step.Updates c) = goes_kept w r.primary
goes_then w r (step.Ends e) = goes_kept w r.primary
goes_then w r (step.Commits c) =
    let u : World = happens w (event.Office (caller.Primary r.primary r.block)) in
    kept_then w u (happens u (event.Own (own.Primary r.primary))) r.primary None (office_kept w r.primary r.block) (goes_kept u r.primary)

step_kept : (p : Primary) (w : World) (r : Recovery) (answers : List Bool) → StepKeeps w (run w (step_events p r answers)) r.primary None
step_kept no_primary w r answers = asks_then w r answers
step_kept (was_told b t) w r answers = asks_then w r answers
step_kept (leads l) w r answers = goes_then w r (own_step l.state).does
step_kept (has_led e) w r answers = asks_then w r answers

own_kept : (w : World) (r : Recovery) (answers : List Bool) → StepKeeps w (run w (own_events w r answers)) r.primary None
own_kept w r answers = step_kept (w.primaries r.primary) w r answers

pub own_steps_keep : OwnStepsKeepOthers
own_steps_keep w r answers = let k = own_kept w r answers in (k.others, λ c lower. k.over c lower tt)

pub own_steps_keep_nodes : OwnStepsKeepNodes
own_steps_keep_nodes w r answers = (own_kept w r answers).nodes

-- HEARING

hears_kept : (w : World) (i : ℕ) (l : Leading) (place c : ℕ) (x : Next) (o : Option Standing) → IfSome (hears_change w i l place c x o) (IsQuiet w i)
hears_kept w i l place c x None = tt
hears_kept w i l place c x (Some s) =
    when-each (IsQuiet w i) (listens l.state.phase s) _
    (λ _. record { is = record { at_is = refl; reader = refl; writer = refl; said = refl; lower = refl; replica = refl; dials = no_dials w i }; none = refl; office = refl })

up_as_kept : (p : Primary) (w : World) (i place c : ℕ) (x : Next) → IfSome (primary_up_as p w i place c x) (IsQuiet w i)
up_as_kept no_primary w i place c x = tt
up_as_kept (was_told b t) w i place c x = tt
up_as_kept (leads l) w i place c x =
    when-each (IsQuiet w i) (is_alive w l.at && is_none l.told) (hears_change w i l place c x (slice_get l.state.standings place))
    (λ _. hears_kept w i l place c x (slice_get l.state.standings place))
up_as_kept (has_led r) w i place c x = tt

-- Such a step that dials nothing, and leaves the office.
record Quiet (w : World) (number : ℕ) (c : Option ℕ) (v : World) : Type 0 where
  keeps : StepKeeps w v number c
  conns : v.next_conn ≡ w.next_conn
  office : v.office ≡ w.office

taken_kept : (w : World) (number c : ℕ) (x : Next) → Quiet w number (Some c) (up_taken w c x)
unfolding up_taken
taken_kept w number c x = record {
  keeps = record {
    others = record { primaries = λ other z. refl; readers = λ line. refl; writers = λ b. refl; said = λ b. refl };
    nodes = record {
      keeps = record { nodes = refl; grows = no_less w.next_conn; dialled = λ d z. refl; running = λ n. refl; lives = λ n. refl; lowers = λ d. refl; replicas = λ n b. refl };
      dials = λ d from to. absurd (both_past w.next_conn d from to);
    };
    over = λ d lower away. taken-over w d lower c false x away;
  };
  conns = refl;
  office = refl;
}

plus_none : (n : ℕ) → n + 0 ≡ n
plus_none n = omega arith

office_in : (w : World) (k : Change) → (apply w k).office ≡ k.office
unfolding apply
office_in w k = refl

next_in : (w : World) (k : Change) → k.dials ≡ [] → (apply w k).next_conn ≡ w.next_conn
unfolding apply
next_in w k none = ap (λ (ds : List Dial). w.next_conn + length ds) none ∙ plus_none w.next_conn

quiet_then : (w u : World) (number : ℕ) (c : Option ℕ) (o : Option Change) → Quiet w number c u → IfSome o (IsQuiet u number) → IfSome (changed u o) (Quiet w number c)
quiet_then w u number c None h q = tt
quiet_then w u number c (Some k) h q = record {
  keeps = kept_then w u (apply u k) number c h.keeps (change_kept u number k q.is);
  conns = next_in u k q.none ∙ h.conns;
  office = office_in u k ∙ (q.office ∙ h.office);
}

quiet_named : (w v : World) (number : ℕ) (c : Option ℕ) (e : Event) → Quiet w number c v → Quiet w number c (record v { last = Some e })
quiet_named w v number c e h = record { keeps = named w v number c e h.keeps; conns = h.conns; office = h.office }

quiet_after : (w : World) (number : ℕ) (c : Option ℕ) (e : Event) (o : Option World) → IfSome o (Quiet w number c) → Quiet w number c (after_event w e o)
quiet_after w number c e None h = record { keeps = still_kept w number c; conns = refl; office = refl }
quiet_after w number c e (Some v) h = quiet_named w v number c e h

up_next : (w : World) (c number place : ℕ) (o : Option Next) → (w.dialled c).upper ≡ by_primary number place → IfSome (up_as w c false o) (Quiet w number (Some c))
up_next w c number place None is = tt
up_next w c number place (Some x) is =
    quiet_then w (up_taken w c x) number (Some c) (upper_up (w.dialled c).upper (up_taken w c x) c x false) (taken_kept w number c x)
    (subst (λ (u : Upper). IfSome (upper_up u (up_taken w c x) c x false) (IsQuiet (up_taken w c x) number)) (sym is) (up_as_kept ((up_taken w c x).primaries number) (up_taken w c x) number place c x))

up_kept : (w : World) (conn : ConnId) (number place : ℕ) → (w.dialled conn.0).upper ≡ by_primary number place → Quiet w number (Some conn.0) (happens w (event.Up conn))
unfolding happens outcome
up_kept w conn number place is =
    quiet_after w number (Some conn.0) (event.Up conn) (outcome w (event.Up conn))
    (when-each (Quiet w number (Some conn.0)) (nat_lt conn.0 w.next_conn) (up_as w conn.0 false (next_up w conn.0)) (λ _. up_next w conn.0 number place (next_up w conn.0) is))

pub hearing_keeps : HearingKeepsOthers
hearing_keeps w conn number place is = let k = up_kept w conn number place is in record { others = k.keeps.others; office = k.office; takes = k.keeps.over }

pub hearing_keeps_nodes : HearingKeepsNodes
hearing_keeps_nodes w conn number place is = let k = up_kept w conn number place is in record { keeps = k.keeps.nodes.keeps; conns = k.conns }
