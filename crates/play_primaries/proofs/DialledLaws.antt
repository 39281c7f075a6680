-- What a primary's own step dials.
use Rattle.std.proofs.Common.{◌≡◌, ◌≤◌, ◌+◌, ℕ, zero, suc, Bool, true, false, List, [], ◌∷◌, length, Option, Some, None, IfSome, Ok, Err, slice_get, refl, sym, ap, ◌∙◌, subst, arith}
use Rattle.std.specs.Prelude.{◌==◌, ◌&&◌, is_none, option_map, unwrap_or}
use Rattle.hd_base.specs.declared.numbers.BlockId.{BlockId}
use Rattle.hd_base.specs.declared.numbers.NodeId.{NodeId}
use Rattle.name_core.specs.declared.calls.OfficeAnswer.TheVariants as office
use Rattle.name_core.specs.declared.calls.OfficeCall.TheVariants as call
use Rattle.name_core.specs.Offices.{answer_to}
use Rattle.recovery_core.specs.declared.primary.OwnStep.{OwnStep}
use Rattle.recovery_core.specs.declared.primary.OwnStep.TheVariants as step
use Rattle.recovery_core.specs.declared.primary.Recovered.{Recovered}
use Rattle.recovery_core.specs.Primaries.{PrimaryState, begun_with, own_step}
use Rattle.primary_events.specs.World.Caller.TheVariants as caller
use Rattle.primary_events.specs.World.Event.{Event}
use Rattle.primary_events.specs.World.Event.TheVariants as event
use Rattle.primary_events.specs.World.OwnStep.TheVariants as own
use Rattle.primary_events.specs.World.Clients.{are_members}
use Rattle.primary_events.specs.World.Connections.{is_alive, place_of}
use Rattle.primary_events.specs.World.Events.{changed, outcome, after_event, happens, run}
use Rattle.primary_events.specs.World.Parts.{Message, by_primary, Dialled, Place, Told, Leading, Primary, no_primary, was_told, leads, has_led}
use Rattle.primary_events.specs.World.Primaries.{begins_as, begins_at, commits_step, dials_answered, leads_step, leads_told, numbered, office_event, own_primary, own_primary_as, own_recover, primary_asks, primary_commits, primary_dials, recovery_message}
use Rattle.primary_events.specs.World.Worlds.{World, Change, Dial, apply, dial_at, put}
use Rattle.world_recoveries.proofs.WorldLaws.FactTables.{when-each}
use Rattle.world_recoveries.proofs.WorldLaws.StampGivens.{put-here}
use Rattle.play_readers.proofs.WorldOrders.Lists.{dial-here}
use Rattle.primary_events.specs.Beginning.{begun_world}
use Rattle.primary_events.proofs.NumberLemmas.{answered_alike}
use Rattle.play_readers.specs.PlayModel.Recovery.{Recovery}
use Rattle.play_readers.specs.PlayModel.Recoveries.{leads_events}
use Rattle.play_primaries.specs.Owning.{AreDialled, IsDialledAt, dials_in}

-- STEPS THAT DIAL NOTHING

abbrev IsStill : Change → Type 0
IsStill k = k.dials ≡ []

-- the count of connections stays
abbrev IsCounted : World → World → Type 0
IsCounted w v = v.next_conn ≡ w.next_conn

counted_in : (w : World) (k : Change) → IsStill k → IsCounted w (apply w k)
unfolding apply
counted_in w k none = ap (λ (ds : List Dial). w.next_conn + length ds) none ∙ plus_none w.next_conn
  where
    plus_none : (n : ℕ) → n + 0 ≡ n
    plus_none n = omega arith

counted_after : (w : World) (e : Event) (o : Option Change) → IfSome o IsStill → IsCounted w (after_event w e (changed w o))
counted_after w e None h = refl
counted_after w e (Some k) h = counted_in w k h

commits_still : (s : OwnStep) (w : World) (i : ℕ) (l : Leading) → IfSome (primary_commits s w i l) IsStill
commits_still step.Waits w i l = tt
commits_still (step.Updates c) w i l = tt
commits_still (step.Commits c) w i l = refl
commits_still (step.Ends r) w i l = tt

asks_still : (p : Primary) (w : World) (i : ℕ) (b : BlockId) → IfSome (primary_asks p w i b) IsStill
asks_still no_primary w i b = refl
asks_still (was_told c t) w i b = tt
asks_still (leads l) w i b = when-each IsStill (is_alive w l.at && is_none l.told) _ (λ _. commits_still (own_step l.state).does w i l)
asks_still (has_led r) w i b = tt

steps_still : (s : OwnStep) (w : World) (i : ℕ) (l : Leading) (p : PrimaryState) → IfSome (leads_step s w i l p) IsStill
steps_still step.Waits w i l p = tt
steps_still (step.Updates c) w i l p = refl
steps_still (step.Commits c) w i l p = tt
steps_still (step.Ends r) w i l p = refl

told_still : (s : OwnStep) (w : World) (i : ℕ) (l : Leading) (t : Told) → IfSome (commits_step s w i l t) IsStill
told_still step.Waits w i l t = tt
told_still (step.Updates c) w i l t = tt
told_still (step.Commits c) w i l t = refl
told_still (step.Ends r) w i l t = tt

leads_still : (t : Option Told) (w : World) (i : ℕ) (l : Leading) → IfSome (leads_told t w i l) IsStill
leads_still None w i l = steps_still (own_step l.state).does w i l (own_step l.state).primary
leads_still (Some told) w i l = told_still (own_step l.state).does w i l told

own_still : (p : Primary) (w : World) (i : ℕ) → IfSome (own_primary_as p w i) IsStill
own_still no_primary w i = tt
own_still (was_told b t) w i = tt
own_still (leads l) w i = when-each IsStill (is_alive w l.at) _ (λ _. leads_still l.told w i l)
own_still (has_led r) w i = tt

asks_counted : (w : World) (i : ℕ) (b : BlockId) → IsCounted w (happens w (event.Office (caller.Primary i b)))
unfolding happens outcome
asks_counted w i b = counted_after w (event.Office (caller.Primary i b)) (office_event w (caller.Primary i b)) (asks_still (w.primaries i) w i b)

goes_counted : (w : World) (i : ℕ) → IsCounted w (happens w (event.Own (own.Primary i)))
unfolding happens outcome
goes_counted w i = counted_after w (event.Own (own.Primary i)) (own_primary w i) (own_still (w.primaries i) w i)

-- A primary that leads dials nothing.
pub led_counted : (w : World) (r : Recovery) (s : OwnStep) → (run w (leads_events s r)).next_conn ≡ w.next_conn
led_counted w r step.Waits = goes_counted w r.primary
led_counted w r (step.Updates c) = goes_counted w r.primary
led_counted w r (step.Ends e) = goes_counted w r.primary
led_counted w r (step.Commits c) =
    goes_counted (happens w (event.Office (caller.Primary r.primary r.block))) r.primary ∙ asks_counted w r.primary r.block

none_numbered : (n place c : ℕ) (answers : List Bool) → answers ≡ [] → slice_get (numbered n answers) place ≡ Some (Some c) → ⊥
none_numbered n place c [] e at = cc
none_numbered n place c (a ∷ answers) e at = cc

-- So nothing is dialled.
pub none_dialled : (w v : World) (r : Recovery) (answers : List Bool) → answers ≡ [] → v.next_conn ≡ w.next_conn → AreDialled w v r answers
none_dialled w v r answers none next = record {
  count = subst (λ (bs : List Bool). length bs ≤ length r.members) (sym none) (least (length r.members));
  next = next ∙ subst (λ (bs : List Bool). w.next_conn ≡ w.next_conn + dials_in bs) (sym none) (same w.next_conn);
  each = λ place c member is at. absurd (none_numbered w.next_conn place c answers none at);
}
  where
    least : (n : ℕ) → 0 ≤ n
    least n = omega arith

    same : (n : ℕ) → n ≡ n + 0
    same n = omega arith

-- THE FIRST STEP

-- the office has told the primary
record IsTold (w u : World) (i : ℕ) (b : BlockId) : Type 0 where
  told : Told
  is : u.primaries i ≡ was_told b told
  next : u.next_conn ≡ w.next_conn
  running : (n : ℕ) → u.running n ≡ w.running n

office_told : (w : World) (i : ℕ) (b : BlockId) → w.primaries i ≡ no_primary → IsTold w (happens w (event.Office (caller.Primary i b))) i b
unfolding happens outcome apply
office_told w i b new =
    subst (λ (p : Primary). IsTold w (after_event w (event.Office (caller.Primary i b)) (changed w (primary_asks p w i b))) i b) (sym new) (record {
      told = answer_to w.office (call.BeginRecovery b);
      is = put-here w.primaries i (was_told b (answer_to w.office (call.BeginRecovery b)));
      next = plus_none w.next_conn;
      running = λ n. refl;
    })
  where
    plus_none : (n : ℕ) → n + 0 ≡ n
    plus_none n = omega arith

-- the dials to the members that answer
abbrev dials_to : World → ℕ → ℕ → List NodeId → List Bool → Message → List Dial
dials_to u i n members answers m = primary_dials u i (place_of u n) m 0 members (dials_answered u members answers)

-- A primary that begins dials its members; one that has ended dials nothing.
record BeginsSo (u : World) (i n : ℕ) (members : List NodeId) (answers : List Bool) (k : Change) : Type 0 where
  at_is : k.primary_at ≡ i
  led : (l : Leading) → k.primary ≡ leads l → (m : Message) × (k.dials ≡ dials_to u i n members answers m)
  ended : (r : Recovered) → k.primary ≡ has_led r → k.dials ≡ []

never_ended : (l : Leading) (r : Recovered) → leads l ≡ has_led r → ⊥
never_ended l r e = cc

begins_as_so : (t : Told) (u : World) (i n : ℕ) (b : BlockId) (members : List NodeId) (answers : List Bool) → IfSome (begins_as t u i (place_of u n) b members answers) (BeginsSo u i n members answers)
begins_as_so (Ok (office.Stamp s)) u i n b members answers = tt
begins_as_so (Ok (office.Reopened r)) u i n b members answers = tt
begins_as_so (Ok (office.Begun begun)) u i n b members answers = record {
  at_is = refl;
  led = λ l is. (recovery_message (begun_with b begun members (dials_answered u members answers)), refl);
  ended = λ r is. absurd (never_ended _ r is);
}
begins_as_so (Ok office.Nothing) u i n b members answers = tt
begins_as_so (Err fault) u i n b members answers = record { at_is = refl; led = λ l is. absurd (never_ended l _ (sym is)); ended = λ r is. refl }

-- the same of the world after it
record DialsSo (u v : World) (i n : ℕ) (members : List NodeId) (answers : List Bool) (m : Message) : Type 0 where
  next : v.next_conn ≡ u.next_conn + length (dials_to u i n members answers m)
  dialled : (c : ℕ) → v.dialled c ≡ unwrap_or (option_map (λ (d : Dial). d.dialled) (dial_at u.next_conn (dials_to u i n members answers m) c)) (u.dialled c)

record HasBegunSo (u v : World) (i n : ℕ) (members : List NodeId) (answers : List Bool) : Type 0 where
  led : (l : Leading) → v.primaries i ≡ leads l → (m : Message) × DialsSo u v i n members answers m
  ended : (r : Recovered) → v.primaries i ≡ has_led r → v.next_conn ≡ u.next_conn

applied : (u : World) (e : Event) (i n : ℕ) (members : List NodeId) (answers : List Bool) (k : Change) → BeginsSo u i n members answers k → HasBegunSo u (after_event u e (Some (apply u k))) i n members answers
unfolding apply
applied u e i n members answers k h = record {
  led = λ l is.
      let z = h.led l (sym there ∙ is) in (
        z.0,
        record {
          next = ap (λ (ds : List Dial). u.next_conn + length ds) z.1;
          dialled = λ c. ap (λ (ds : List Dial). unwrap_or (option_map (λ (d : Dial). d.dialled) (dial_at u.next_conn ds c)) (u.dialled c)) z.1;
        },
      );
  ended = λ r is. counted_in u k (h.ended r (sym there ∙ is));
}
  where
    there : put u.primaries k.primary_at k.primary i ≡ k.primary
    there = subst (λ (j : ℕ). put u.primaries k.primary_at k.primary j ≡ k.primary) h.at_is (put-here u.primaries k.primary_at k.primary)

begun_after : (u : World) (e : Event) (i n : ℕ) (b : BlockId) (t : Told) (members : List NodeId) (answers : List Bool) → u.primaries i ≡ was_told b t → (o : Option Change) → IfSome o (BeginsSo u i n members answers)
    → HasBegunSo u (after_event u e (changed u o)) i n members answers
begun_after u e i n b t members answers told None h = record { led = λ l is. absurd (unlike_leads l (sym told ∙ is)); ended = λ r is. refl }
  where
    unlike_leads : (l : Leading) → was_told b t ≡ leads l → ⊥
    unlike_leads l e = cc
begun_after u e i n b t members answers told (Some k) h = applied u e i n members answers k h

has_begun_so : (u : World) (i : ℕ) (n : NodeId) (b : BlockId) (t : Told) (members : List NodeId) (answers : List Bool) → u.primaries i ≡ was_told b t → HasBegunSo u (happens u (event.Own (own.Recover i n b members answers))) i n.0 members answers
unfolding happens outcome
has_begun_so u i n b t members answers told =
    begun_after u (event.Own (own.Recover i n b members answers)) i n.0 b t members answers told (own_recover u i n.0 b members answers)
    (subst (λ (p : Primary). IfSome (begins_at p u i n.0 b members answers) (BeginsSo u i n.0 members answers)) (sym told)
    (when-each (BeginsSo u i n.0 members answers) (b.0 == b.0 && u.running n.0 && are_members members) (begins_as t u i (place_of u n.0) b members answers)
    (λ _. begins_as_so t u i n.0 b members answers)))

-- WHERE A DIAL STANDS

same_in : {A : Type 0} (x y : A) → ◌≡◌ {A = Option A} (Some x) (Some y) → x ≡ y
same_in x y e = cc

-- the dial to the member at this place has this number
record DialTo (w : World) (i place next c : ℕ) (from : Place) (member : NodeId) (ds : List Dial) : Type 0 where
  at : ℕ
  dial : Dial
  there : slice_get ds at ≡ Some dial
  is : c ≡ next + at
  upper : dial.dialled.upper ≡ by_primary i place
  from_is : dial.dialled.from ≡ Some from
  to : dial.dialled.to ≡ place_of w member.0

module _ (w : World) (i : ℕ) (from : Place) (m : Message) where
  dial_to : (off next : ℕ) (ns : List NodeId) (bs : List Bool) (place c : ℕ) (member : NodeId) → slice_get ns place ≡ Some member → slice_get (numbered next bs) place ≡ Some (Some c)
      → DialTo w i (off + place) next c from member (primary_dials w i from m off ns bs)
  dial_to off next [] bs place c member is at = absurd (none_some member is)
    where
      none_some : (x : NodeId) → ◌≡◌ {A = Option NodeId} None (Some x) → ⊥
      none_some x e = cc
  dial_to off next (n ∷ ns) [] place c member is at = absurd (none_some c at)
    where
      none_some : (x : ℕ) → ◌≡◌ {A = Option (Option ℕ)} None (Some (Some x)) → ⊥
      none_some x e = cc
  dial_to off next (n ∷ ns) (true ∷ bs) zero c member is at =
      let same : next ≡ c = same_in next c (same_in (Some next) (Some c) at) in
      record {
        at = zero;
        dial = _;
        there = refl;
        is = omega (arith, same);
        upper = ap (λ (k : ℕ). by_primary i k) (omega arith);
        from_is = refl;
        to = ap (λ (x : NodeId). place_of w x.0) (same_in n member is);
      }
  dial_to off next (n ∷ ns) (true ∷ bs) (suc place) c member is at =
      let x = dial_to (off + 1) (next + 1) ns bs place c member is at in
      record {
        at = suc x.at;
        dial = x.dial;
        there = x.there;
        is = omega (arith, x.is);
        upper = x.upper ∙ ap (λ (k : ℕ). by_primary i k) (omega arith);
        from_is = x.from_is;
        to = x.to;
      }
  dial_to off next (n ∷ ns) (false ∷ bs) zero c member is at = absurd (none_some c at)
    where
      none_some : (x : ℕ) → ◌≡◌ {A = Option (Option ℕ)} (Some None) (Some (Some x)) → ⊥
      none_some x e = cc
  dial_to off next (n ∷ ns) (false ∷ bs) (suc place) c member is at =
      let x = dial_to (off + 1) next ns bs place c member is at in
      record {
        at = x.at;
        dial = x.dial;
        there = x.there;
        is = x.is;
        upper = x.upper ∙ ap (λ (k : ℕ). by_primary i k) (omega arith);
        from_is = x.from_is;
        to = x.to;
      }

  dials_count : (off : ℕ) (ns : List NodeId) (bs : List Bool) → length bs ≤ length ns → length (primary_dials w i from m off ns bs) ≡ dials_in bs
  dials_count off [] [] h = refl
  dials_count off [] (b ∷ bs) h = absurd (omega (arith, h))
  dials_count off (n ∷ ns) [] h = refl
  dials_count off (n ∷ ns) (true ∷ bs) h = ap suc (dials_count (off + 1) ns bs (omega (arith, h)))
  dials_count off (n ∷ ns) (false ∷ bs) h = dials_count (off + 1) ns bs (omega (arith, h))

answered_count : (w : World) (ns : List NodeId) (answers : List Bool) → length (dials_answered w ns answers) ≡ length ns
answered_count w [] answers = refl
answered_count w (n ∷ ns) [] = ap suc (answered_count w ns [])
answered_count w (n ∷ ns) (a ∷ answers) = ap suc (answered_count w ns answers)

-- WHERE THE PRIMARY HAS BEGUN

module _ (w : World) (t : Recovery) (new : w.primaries t.primary ≡ no_primary) (answers : List Bool) where
  abbrev u : World
  u = happens w (event.Office (caller.Primary t.primary t.block))

  abbrev v : World
  v = begun_world w t.primary t.node t.block t.members answers

  told : IsTold w u t.primary t.block
  told = office_told w t.primary t.block new

  begun : HasBegunSo u v t.primary t.node.0 t.members answers
  begun = has_begun_so u t.primary t.node t.block told.told t.members answers told.is

  module _ (said : List Bool) (same : dials_answered w t.members answers ≡ said) where
    -- In the world that the office has answered the same dials are answered.
    said_there : dials_answered u t.members answers ≡ said
    said_there = answered_alike w u told.running t.members answers ∙ same

    few : length said ≤ length t.members
    few = subst (λ (bs : List Bool). length bs ≤ length t.members) same (no_more (length (dials_answered w t.members answers)) (length t.members) (answered_count w t.members answers))
      where
        no_more : (n m : ℕ) → n ≡ m → n ≤ m
        no_more n m e = omega (arith, e)

    dials_are : (m : Message) → dials_to u t.primary t.node.0 t.members answers m ≡ primary_dials u t.primary (place_of u t.node.0) m 0 t.members said
    dials_are m = ap (primary_dials u t.primary (place_of u t.node.0) m 0 t.members) said_there

    dialled_at : (m : Message) → DialsSo u v t.primary t.node.0 t.members answers m → (place c : ℕ) (member : NodeId) → slice_get t.members place ≡ Some member → slice_get (numbered w.next_conn said) place ≡ Some (Some c) → IsDialledAt v t place member c
    dialled_at m h place c member is at =
        let x = dial_to u t.primary (place_of u t.node.0) m 0 u.next_conn t.members said place c member is (subst (λ (n : ℕ). slice_get (numbered n said) place ≡ Some (Some c)) (sym told.next) at) in
        let there : slice_get (dials_to u t.primary t.node.0 t.members answers m) x.at ≡ Some x.dial = ap (λ (ds : List Dial). slice_get ds x.at) (dials_are m) ∙ x.there in
        let here : v.dialled c ≡ x.dial.dialled = h.dialled c
        ∙ ap (λ (o : Option Dial). unwrap_or (option_map (λ (d : Dial). d.dialled) o) (u.dialled c)) (dial-here u.next_conn c x.at (dials_to u t.primary t.node.0 t.members answers m) x.dial x.is there) in
        record {
          upper = ap (λ (d : Dialled). d.upper) here ∙ (x.upper ∙ ap (λ (k : ℕ). by_primary t.primary k) (omega arith));
          from = ap (λ (d : Dialled). option_map (λ (p : Place). p.node) d.from) here ∙ ap (option_map (λ (p : Place). p.node)) x.from_is;
          to = ap (λ (d : Dialled). d.to.node) here ∙ ap (λ (p : Place). p.node) x.to;
        }

    -- Just the members whose dials were answered were dialled.
    pub begun_dialled : (l : Leading) → v.primaries t.primary ≡ leads l → AreDialled w v t said
    begun_dialled l is =
        let z = begun.led l is in
        record {
          count = few;
          next = z.1.next
              ∙ (ap (λ (n : ℕ). n + length (dials_to u t.primary t.node.0 t.members answers z.0)) told.next
              ∙ ap (λ (k : ℕ). w.next_conn + k) (ap (λ (ds : List Dial). length ds) (dials_are z.0) ∙ dials_count u t.primary (place_of u t.node.0) z.0 0 t.members said few));
          each = dialled_at z.0 z.1;
        }

  -- Where the recovery has ended at once nothing was dialled.
  pub refused_counted : (r : Recovered) → v.primaries t.primary ≡ has_led r → v.next_conn ≡ w.next_conn
  refused_counted r is = begun.ended r is ∙ told.next
