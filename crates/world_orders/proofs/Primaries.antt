-- What primaries and the office leave in order.
use Rattle.std.proofs.Common.{◌≡◌, ℕ, zero, suc, ◌<◌, ◌+◌, Bool, true, false, List, [], ◌∷◌, length, slice_get, Option, Some, None, IfSome, Ok, Err, refl, sym, ap, ◌∙◌, subst, arith, eqb-true}
use Rattle.std.specs.Prelude.{◌==◌, ◌&&◌, is_none, zip, if◌then◌else◌}
use Rattle.std.proofs.lemmas.Option.{none-some, same_Some}
use Rattle.hd_base.specs.declared.numbers.BlockId.{BlockId}
use Rattle.hd_base.specs.declared.numbers.NodeId.{NodeId}
use Rattle.op_headers.specs.declared.ops.Op.TheVariants as op
use Rattle.op_headers.specs.declared.ops.RecoveryKind.TheVariants as kind
use Rattle.name_core.specs.declared.calls.Begun.{Begun}
use Rattle.name_core.specs.declared.calls.OfficeAnswer.TheVariants as office
use Rattle.name_core.specs.declared.calls.OfficeCall.{OfficeCall}
use Rattle.name_core.specs.declared.calls.OfficeCall.TheVariants as call
use Rattle.name_core.specs.declared.choice.Chosen.{Chosen}
use Rattle.name_core.specs.Offices.{answer_to}
use Rattle.world_laws.specs.WriterCore.Action.{Action}
use Rattle.world_laws.specs.WriterCore.Action.TheVariants as action
use Rattle.world_laws.specs.WriterCore.Transitions as writer
use Rattle.world_laws.specs.RecoveryCore.OwnStep.{OwnStep}
use Rattle.world_laws.specs.RecoveryCore.OwnStep.TheVariants as own
use Rattle.world_laws.specs.RecoveryCore.Recovered.{Recovered}
use Rattle.world_laws.specs.RecoveryCore.Standing.{Standing}
use Rattle.world_laws.specs.RecoveryCore.Primaries.{PrimaryState, begun_with, own_step, sync_call, request_of, is_among, office_refused, heard_at}
use Rattle.world_laws.specs.World.Caller.{Caller}
use Rattle.world_laws.specs.World.Caller.TheVariants as caller
use Rattle.world_laws.specs.World.Parts.{Message, request, Place, Told, Upper, by_writer, by_member, by_primary, Dialled, Marks, Leading, Primary, no_primary, was_told, leads, has_led}
use Rattle.world_laws.specs.World.Worlds.{World, Dial, Change, dialled_with}
use Rattle.world_laws.specs.World.Connections.{Next, is_conn, is_alive, place_of}
use Rattle.world_laws.specs.World.Clients.{are_members}
use Rattle.world_laws.specs.World.Primaries.{primary_change, dials_answered, numbered, primary_dials, recovery_message, begins_with, begins_as, begins_at, own_recover, updates_on, updates_change, ends_change, leads_step, commits_step, leads_told, own_primary_as, own_primary, heard_of, listens, hears_change, primary_up_as, primary_up, asks_writer, asks_primary, writer_asks, primary_commits, primary_asks, office_event}
use Rattle.world_laws.specs.Placing.{IsPrimary, Placed}
use Rattle.world_laws.proofs.FactTables.{when-each}
use Rattle.world_orders.specs.Orders.{comes_down, purpose_of, is_recovery, PrimaryIs, Ordered}
use Rattle.world_orders.proofs.Lists.{no-element, dialled-before, dialled-here}
use Rattle.world_orders.proofs.Frame.{marked, Owes}
use Rattle.world_orders.proofs.Kept.{OnlyOf, nobody, nowhere, apart, stays, kept-below, kept-mirror, kept-dialled, kept-writer, kept-reader, kept-primary}

primary-owes : (w : World) (um : ℕ → Marks) (i place : ℕ) (q : Primary) → Ordered w → Placed (marked w w.down_marks um) → OnlyOf w um (by_primary i place)
    → PrimaryIs (dialled_with w (primary_change (marked w w.down_marks um) i q)) i q → Owes w w.down_marks um (primary_change (marked w w.down_marks um) i q)
primary-owes w um i place q h p only is =
    let k = primary_change (marked w w.down_marks um) i q in
    record {
      sends = record { dials = λ j d e. no-element _ j d e; uppers = λ j d e f g. no-element _ j d f; downs = λ c j m e. no-element _ j m e; ups = λ c j m e. no-element _ j m e; quiet = λ c e. refl };
      stay = stays w w.down_marks um (by_primary i place) 0 0 (nowhere w 0) only tt;
      below = kept-below w w.down_marks um h p 0 refl;
      mirror = kept-mirror w w.down_marks um h p k 0 (apart w um (by_primary i place) (by_member 0) only (λ e. cc));
      dialled = kept-dialled w w.down_marks um h p k 0 (λ j d e f. no-element _ j d e);
      writer = kept-writer w w.down_marks um h p k 0 (apart w um (by_primary i place) (by_writer 0) only (λ e. cc));
      reader = kept-reader w w.down_marks um h p k 0;
      primary = is;
    }

-- a leading primary of the world, whose connections were dialled for its places
record Leads (w : World) (i : ℕ) (l : Leading) : Type 0 where
  conns : (place c : ℕ) → slice_get l.conns place ≡ Some (Some c) → (w.dialled c).upper ≡ by_primary i place
  dialled : (place c : ℕ) → slice_get l.conns place ≡ Some (Some c) → c < w.next_conn

leads-of : (w : World) (i : ℕ) (l : Leading) → Ordered w → Placed w → w.primaries i ≡ leads l → Leads w i l
leads-of w i l h p e = record {
  conns = subst (PrimaryIs w.dialled i) e (h.primaries_are i);
  dialled = λ place c f. (subst (IsPrimary w.nodes w.next_conn) e (p.primaries i)).conns_of place c f;
}

leads-still : (w : World) (i : ℕ) (l : Leading) (k : Change) → Leads w i l → (place c : ℕ) → slice_get l.conns place ≡ Some (Some c) → (dialled_with w k c).upper ≡ by_primary i place
leads-still w i l k a place c e = ap (λ (d : Dialled). d.upper) (dialled-before w k c (a.dialled place c e)) ∙ a.conns place c e

-- ITS FIRST STEP

-- the dials of its members
dial-kinds : (w : World) (i : ℕ) (from : Place) (m : Message) (place : ℕ) (ns : List NodeId) (bs : List Bool) → is_recovery m ≡ true → (j : ℕ) (d : Dial) → slice_get (primary_dials w i from m place ns bs) j ≡ Some d
    → (comes_down (purpose_of d.dialled.upper) true d.request ≡ true) × ((e : ℕ) → d.dialled.upper ≡ by_member e → ⊥)
dial-kinds w i from m place [] bs r j d e = no-element _ j d e
dial-kinds w i from m place (n ∷ ns) [] r j d e = no-element _ j d e
dial-kinds w i from m place (n ∷ ns) (true ∷ bs) r zero d e = subst (λ (y : Dial). (comes_down (purpose_of y.dialled.upper) true y.request ≡ true) × ((x : ℕ) → y.dialled.upper ≡ by_member x → ⊥)) (same_Some _ d e) (r, λ x f. leads-not x f)
  where
    leads-not : (x : ℕ) → by_primary i place ≡ by_member x → ⊥
    leads-not x z = cc
dial-kinds w i from m place (n ∷ ns) (true ∷ bs) r (suc j) d e = dial-kinds w i from m (place + 1) ns bs r j d e
dial-kinds w i from m place (n ∷ ns) (false ∷ bs) r j d e = dial-kinds w i from m (place + 1) ns bs r j d e

-- the dial that has a member's connection
record DialFor (w : World) (i : ℕ) (from : Place) (m : Message) (place next : ℕ) (ns : List NodeId) (bs : List Bool) (j c : ℕ) : Type 0 where
  number : ℕ
  is : c ≡ next + number
  dial : Dial
  found : slice_get (primary_dials w i from m place ns bs) number ≡ Some dial
  upper : dial.dialled.upper ≡ by_primary i (place + j)

dial-for : (w : World) (i : ℕ) (from : Place) (m : Message) (place next : ℕ) (ns : List NodeId) (bs : List Bool) → length ns ≡ length bs → (j c : ℕ) → slice_get (numbered next bs) j ≡ Some (Some c)
    → DialFor w i from m place next ns bs j c
dial-for w i from m place next [] [] e j c f = absurd (none-some (Some c) f)
dial-for w i from m place next [] (b ∷ bs) e j c f = absurd (omega (arith, e))
dial-for w i from m place next (n ∷ ns) [] e j c f = absurd (none-some (Some c) f)
dial-for w i from m place next (n ∷ ns) (true ∷ bs) e zero c f = record { number = 0; is = omega (arith, same_Some next c (same_Some (Some next) (Some c) f)); dial = _; found = refl; upper = ap (by_primary i) (omega arith) }
dial-for w i from m place next (n ∷ ns) (true ∷ bs) e (suc j) c f =
    let d = dial-for w i from m (place + 1) (next + 1) ns bs (omega (arith, e)) j c f in
    record { number = suc d.number; is = omega (arith, d.is); dial = d.dial; found = d.found; upper = d.upper ∙ ap (by_primary i) (omega arith) }
dial-for w i from m place next (n ∷ ns) (false ∷ bs) e zero c f = absurd (none-some c (same_Some None (Some c) f))
dial-for w i from m place next (n ∷ ns) (false ∷ bs) e (suc j) c f =
    let d = dial-for w i from m (place + 1) next ns bs (omega (arith, e)) j c f in
    record { number = d.number; is = d.is; dial = d.dial; found = d.found; upper = d.upper ∙ ap (by_primary i) (omega arith) }

answered-length : (w : World) (ns : List NodeId) (answers : List Bool) → length ns ≡ length (dials_answered w ns answers)
answered-length w [] answers = refl
answered-length w (n ∷ ns) [] = omega (arith, answered-length w ns [])
answered-length w (n ∷ ns) (a ∷ answers) = omega (arith, answered-length w ns answers)

begins-owes : (w : World) (i : ℕ) (at : Place) (b : BlockId) (begun : Begun) (members : List NodeId) (answers : List Bool) → Ordered w → Placed w
    → Owes w w.down_marks w.up_marks (begins_with w i at b begun members (dials_answered w members answers))
begins-owes w i at b begun members answers h p =
    let bs : List Bool = dials_answered w members answers in
    let m : Message = recovery_message (begun_with b begun members bs) in
    let k : Change = begins_with w i at b begun members bs in
    record {
      sends = record {
        dials = λ j d e. (dial-kinds w i at m 0 members bs refl j d e).0;
        uppers = λ j d x e g. absurd ((dial-kinds w i at m 0 members bs refl j d e).1 x g);
        downs = λ c j x e. no-element _ j x e;
        ups = λ c j x e. no-element _ j x e;
        quiet = λ c e. refl;
      };
      stay = stays w w.down_marks w.up_marks (by_primary i 0) 0 0 (nowhere w 0) (nobody w (by_primary i 0)) tt;
      below = kept-below w w.down_marks w.up_marks h p 0 refl;
      mirror = kept-mirror w w.down_marks w.up_marks h p k 0 (λ d f. refl);
      dialled = kept-dialled w w.down_marks w.up_marks h p k 0 (λ j d e g. (dial-kinds w i at m 0 members bs refl j d e).1 0 g);
      writer = kept-writer w w.down_marks w.up_marks h p k 0 (λ d f. refl);
      reader = kept-reader w w.down_marks w.up_marks h p k 0;
      primary = λ place c e. (let d = dial-for w i at m 0 w.next_conn members bs (answered-length w members answers) place c e in
          ap (λ (y : Dialled). y.upper) (dialled-here w k c d.number d.dial d.is d.found) ∙ d.upper ∙ ap (by_primary i) (omega arith));
    }

begins-as-owes : (t : Told) (w : World) (i : ℕ) (at : Place) (b : BlockId) (members : List NodeId) (answers : List Bool) → Ordered w → Placed w
    → IfSome (begins_as t w i at b members answers) (Owes w w.down_marks w.up_marks)
begins-as-owes (Ok (office.Stamp s)) w i at b members answers h p = tt
begins-as-owes (Ok (office.Reopened r)) w i at b members answers h p = tt
begins-as-owes (Ok (office.Begun begun)) w i at b members answers h p = begins-owes w i at b begun members answers h p
begins-as-owes (Ok office.Nothing) w i at b members answers h p = tt
begins-as-owes (Err fault) w i at b members answers h p = primary-owes w w.up_marks i 0 (has_led (office_refused fault)) h p (nobody w (by_primary i 0)) tt

begins-at-owes : (q : Primary) (w : World) (i n : ℕ) (b : BlockId) (members : List NodeId) (answers : List Bool) → Ordered w → Placed w
    → IfSome (begins_at q w i n b members answers) (Owes w w.down_marks w.up_marks)
begins-at-owes no_primary w i n b members answers h p = tt
begins-at-owes (was_told asked told) w i n b members answers h p =
    when-each (Owes w w.down_marks w.up_marks) (asked.0 == b.0 && w.running n && are_members members) _ (λ _. begins-as-owes told w i (place_of w n) b members answers h p)
begins-at-owes (leads l) w i n b members answers h p = tt
begins-at-owes (has_led r) w i n b members answers h p = tt

pub own-recover-owes : (w : World) (i n : ℕ) (b : BlockId) (members : List NodeId) (answers : List Bool) → Ordered w → Placed w → IfSome (own_recover w i n b members answers) (Owes w w.down_marks w.up_marks)
own-recover-owes w i n b members answers h p = begins-at-owes (w.primaries i) w i n b members answers h p

-- ITS FURTHER STEPS

record SentTo (m : Message) (cs : List (Option ℕ)) (c j : ℕ) (x : Message) : Type 0 where
  place : ℕ
  conn : slice_get cs place ≡ Some (Some c)
  is : m ≡ x

update-to : (m : Message) (chosen members : List NodeId) (cs : List (Option ℕ)) (c j : ℕ) (x : Message) → slice_get (updates_on m chosen (zip members cs) c) j ≡ Some x → SentTo m cs c j x
update-to m chosen [] cs c j x e = no-element _ j x e
update-to m chosen (n ∷ ns) [] c j x e = no-element _ j x e
update-to m chosen (n ∷ ns) (o ∷ cs) c j x e = go (update-to m chosen ns cs c j x) (is_among chosen n) (is_conn o c) refl e
  where
    here : (v : Option ℕ) → o ≡ v → is_conn v c ≡ true → slice_get (m ∷ []) j ≡ Some x → SentTo m (o ∷ cs) c j x
    here None a b f = cc
    here (Some d) a b f = record { place = 0; conn = ap Some (a ∙ ap Some (sym (eqb-true c d b))); is = lone j f }
      where
        lone : (k : ℕ) → slice_get (m ∷ []) k ≡ Some x → m ≡ x
        lone zero g = same_Some m x g
        lone (suc k) g = no-element _ k x g

    Later : Type 0
    Later = slice_get (updates_on m chosen (zip ns cs) c) j ≡ Some x → SentTo m cs c j x

    later : Later → slice_get (updates_on m chosen (zip ns cs) c) j ≡ Some x → SentTo m (o ∷ cs) c j x
    later to f = let s = to f in record { place = suc s.place; conn = s.conn; is = s.is }

    go : Later → (a b : Bool) → is_conn o c ≡ b → slice_get (if a && b then m ∷ [] else updates_on m chosen (zip ns cs) c) j ≡ Some x → SentTo m (o ∷ cs) c j x
    go to true true g f = here o refl g f
    go to true false g f = later to f
    go to false b g f = later to f

updates-owes : (w : World) (i : ℕ) (l : Leading) (q : PrimaryState) (c : Chosen) → Leads w i l → Ordered w → Placed w → Owes w w.down_marks w.up_marks (updates_change w i l q c)
updates-owes w i l q c a h p =
    let o = primary-owes w w.up_marks i 0 (leads (record l { state = q })) h p (nobody w (by_primary i 0)) (leads-still w i l (primary_change w i (leads (record l { state = q }))) a) in
    record { sends = record { dials = o.sends.dials; uppers = o.sends.uppers; downs = λ d j m e. down d j m (update-to update c.members l.state.members l.conns d j m e); ups = o.sends.ups; quiet = o.sends.quiet }; stay = o.stay; below = o.below; mirror = o.mirror; dialled = o.dialled; writer = o.writer; reader = o.reader; primary = o.primary }
  where
    update : Message
    update = request (op.Recovery (request_of l.state kind.Update c.length))

    down : (d j : ℕ) (m : Message) → SentTo update l.conns d j m → comes_down (purpose_of (w.dialled d).upper) false m ≡ true
    down d j m s = subst (λ (u : Upper). comes_down (purpose_of u) false m ≡ true) (sym (a.conns s.place d s.conn)) (subst (λ (y : Message). is_recovery y ≡ true) s.is refl)

ends-owes : (w : World) (i : ℕ) (l : Leading) (r : Recovered) → Ordered w → Placed w → Owes w w.down_marks w.up_marks (ends_change w i l r)
ends-owes w i l r h p =
    let o = primary-owes w w.up_marks i 0 (has_led r) h p (nobody w (by_primary i 0)) tt in
    record { sends = record { dials = o.sends.dials; uppers = o.sends.uppers; downs = o.sends.downs; ups = o.sends.ups; quiet = o.sends.quiet }; stay = o.stay; below = o.below; mirror = o.mirror; dialled = o.dialled; writer = o.writer; reader = o.reader; primary = o.primary }

leads-step-owes : (s : OwnStep) (w : World) (i : ℕ) (l : Leading) (q : PrimaryState) → Leads w i l → Ordered w → Placed w → IfSome (leads_step s w i l q) (Owes w w.down_marks w.up_marks)
leads-step-owes own.Waits w i l q a h p = tt
leads-step-owes (own.Updates c) w i l q a h p = updates-owes w i l q c a h p
leads-step-owes (own.Commits c) w i l q a h p = tt
leads-step-owes (own.Ends r) w i l q a h p = ends-owes w i l r h p

commits-owes : (s : OwnStep) (w : World) (i : ℕ) (l : Leading) (t : Told) → Ordered w → Placed w → IfSome (commits_step s w i l t) (Owes w w.down_marks w.up_marks)
commits-owes own.Waits w i l t h p = tt
commits-owes (own.Updates c) w i l t h p = tt
commits-owes (own.Commits c) w i l t h p = ends-owes w i l _ h p
commits-owes (own.Ends r) w i l t h p = tt

leads-told-owes : (t : Option Told) (w : World) (i : ℕ) (l : Leading) → Leads w i l → Ordered w → Placed w → IfSome (leads_told t w i l) (Owes w w.down_marks w.up_marks)
leads-told-owes None w i l a h p = leads-step-owes (own_step l.state).does w i l (own_step l.state).primary a h p
leads-told-owes (Some told) w i l a h p = commits-owes (own_step l.state).does w i l told h p

own-primary-as-owes : (q : Primary) (w : World) (i : ℕ) → w.primaries i ≡ q → Ordered w → Placed w → IfSome (own_primary_as q w i) (Owes w w.down_marks w.up_marks)
own-primary-as-owes no_primary w i e h p = tt
own-primary-as-owes (was_told b t) w i e h p = tt
own-primary-as-owes (leads l) w i e h p = when-each (Owes w w.down_marks w.up_marks) (is_alive w l.at) _ (λ _. leads-told-owes l.told w i l (leads-of w i l h p e) h p)
own-primary-as-owes (has_led r) w i e h p = tt

pub own-primary-owes : (w : World) (i : ℕ) → Ordered w → Placed w → IfSome (own_primary w i) (Owes w w.down_marks w.up_marks)
own-primary-owes w i h p = own-primary-as-owes (w.primaries i) w i refl h p

-- WHAT IT TAKES

hears-owes : (w : World) (um : ℕ → Marks) (i : ℕ) (l : Leading) (place c : ℕ) (x : Next) (o : Option Standing) → Leads w i l → Ordered w → Placed (marked w w.down_marks um) → OnlyOf w um (by_primary i place)
    → IfSome (hears_change (marked w w.down_marks um) i l place c x o) (Owes w w.down_marks um)
hears-owes w um i l place c x None a h p only = tt
hears-owes w um i l place c x (Some s) a h p only =
    when-each (Owes w w.down_marks um) (listens l.state.phase s) _ (λ _.
    let q : Primary = leads (record l { state = heard_at l.state place (heard_of x) }) in
    let o = primary-owes w um i place q h p only (leads-still w i l (primary_change (marked w w.down_marks um) i q) a) in
    record { sends = record { dials = o.sends.dials; uppers = o.sends.uppers; downs = o.sends.downs; ups = o.sends.ups; quiet = o.sends.quiet }; stay = o.stay; below = o.below; mirror = o.mirror; dialled = o.dialled; writer = o.writer; reader = o.reader; primary = o.primary })

primary-up-as-owes : (q : Primary) (w : World) (um : ℕ → Marks) (i place c : ℕ) (x : Next) → w.primaries i ≡ q → Ordered w → Placed w → Placed (marked w w.down_marks um) → OnlyOf w um (by_primary i place)
    → IfSome (primary_up_as q (marked w w.down_marks um) i place c x) (Owes w w.down_marks um)
primary-up-as-owes no_primary w um i place c x e h p r only = tt
primary-up-as-owes (was_told b t) w um i place c x e h p r only = tt
primary-up-as-owes (leads l) w um i place c x e h p r only =
    when-each (Owes w w.down_marks um) (is_alive w l.at && is_none l.told) _ (λ _. hears-owes w um i l place c x (slice_get l.state.standings place) (leads-of w i l h p e) h r only)
primary-up-as-owes (has_led b) w um i place c x e h p r only = tt

pub primary-up-owes : (w : World) (um : ℕ → Marks) (i place c : ℕ) (x : Next) → Ordered w → Placed w → Placed (marked w w.down_marks um) → OnlyOf w um (by_primary i place)
    → IfSome (primary_up (marked w w.down_marks um) i place c x) (Owes w w.down_marks um)
primary-up-owes w um i place c x h p r only = primary-up-as-owes (w.primaries i) w um i place c x refl h p r only

-- THE OFFICE

asks-writer-owes : (w : World) (b : ℕ) (c : OfficeCall) → Ordered w → Placed w → Owes w w.down_marks w.up_marks (asks_writer w b c)
asks-writer-owes w b c h p =
    let k = asks_writer w b c in
    record {
      sends = record { dials = λ j d e. no-element _ j d e; uppers = λ j d e f g. no-element _ j d f; downs = λ d j m e. no-element _ j m e; ups = λ d j m e. no-element _ j m e; quiet = λ d e. refl };
      stay = stays w w.down_marks w.up_marks (by_writer b) 0 b (nowhere w 0) (nobody w (by_writer b)) refl;
      below = kept-below w w.down_marks w.up_marks h p 0 refl;
      mirror = kept-mirror w w.down_marks w.up_marks h p k 0 (λ d f. refl);
      dialled = kept-dialled w w.down_marks w.up_marks h p k 0 (λ j d e f. no-element _ j d e);
      writer = kept-writer w w.down_marks w.up_marks h p k b (λ d f. refl);
      reader = kept-reader w w.down_marks w.up_marks h p k 0;
      primary = kept-primary w w.down_marks w.up_marks h p k 0;
    }

asks-primary-owes : (w : World) (i : ℕ) (c : OfficeCall) (q : Told → Primary) → ((t : Told) → PrimaryIs (dialled_with w (asks_primary w i c q)) i (q t)) → Ordered w → Placed w
    → Owes w w.down_marks w.up_marks (asks_primary w i c q)
asks-primary-owes w i c q is h p =
    let k = asks_primary w i c q in
    record {
      sends = record { dials = λ j d e. no-element _ j d e; uppers = λ j d e f g. no-element _ j d f; downs = λ d j m e. no-element _ j m e; ups = λ d j m e. no-element _ j m e; quiet = λ d e. refl };
      stay = stays w w.down_marks w.up_marks (by_primary i 0) 0 0 (nowhere w 0) (nobody w (by_primary i 0)) tt;
      below = kept-below w w.down_marks w.up_marks h p 0 refl;
      mirror = kept-mirror w w.down_marks w.up_marks h p k 0 (λ d f. refl);
      dialled = kept-dialled w w.down_marks w.up_marks h p k 0 (λ j d e f. no-element _ j d e);
      writer = kept-writer w w.down_marks w.up_marks h p k 0 (λ d f. refl);
      reader = kept-reader w w.down_marks w.up_marks h p k 0;
      primary = is (answer_to w.office c);
    }

writer-asks-owes : (a : Action) (w : World) (b : ℕ) → Ordered w → Placed w → IfSome (writer_asks a w b) (Owes w w.down_marks w.up_marks)
writer-asks-owes action.Wait w b h p = tt
writer-asks-owes action.Took w b h p = tt
writer-asks-owes (action.Ask c) w b h p = asks-writer-owes w b c h p
writer-asks-owes (action.Dial to r) w b h p = tt
writer-asks-owes (action.Send q) w b h p = tt
writer-asks-owes (action.Answered n a) w b h p = tt
writer-asks-owes action.Memory w b h p = tt

commits-asked : (s : OwnStep) (w : World) (i : ℕ) (l : Leading) → Leads w i l → Ordered w → Placed w → IfSome (primary_commits s w i l) (Owes w w.down_marks w.up_marks)
commits-asked own.Waits w i l a h p = tt
commits-asked (own.Updates c) w i l a h p = tt
commits-asked (own.Commits c) w i l a h p =
    asks-primary-owes w i (sync_call l.state c) (λ told. leads (record l { told = Some told })) (λ t. leads-still w i l (asks_primary w i (sync_call l.state c) (λ told. leads (record l { told = Some told }))) a) h p
commits-asked (own.Ends r) w i l a h p = tt

primary-asks-owes : (q : Primary) (w : World) (i : ℕ) (b : BlockId) → w.primaries i ≡ q → Ordered w → Placed w → IfSome (primary_asks q w i b) (Owes w w.down_marks w.up_marks)
primary-asks-owes no_primary w i b e h p = asks-primary-owes w i (call.BeginRecovery b) (was_told b) (λ t. tt) h p
primary-asks-owes (was_told c t) w i b e h p = tt
primary-asks-owes (leads l) w i b e h p = when-each (Owes w w.down_marks w.up_marks) (is_alive w l.at && is_none l.told) _ (λ _. commits-asked (own_step l.state).does w i l (leads-of w i l h p e) h p)
primary-asks-owes (has_led r) w i b e h p = tt

pub office-owes : (w : World) (c : Caller) → Ordered w → Placed w → IfSome (office_event w c) (Owes w w.down_marks w.up_marks)
office-owes w (caller.Writer b) h p = when-each (Owes w w.down_marks w.up_marks) (is_none (w.writers b.0).told) _ (λ _. writer-asks-owes (writer.own_step (w.writers b.0).known).action w b.0 h p)
office-owes w (caller.Primary i b) h p = primary-asks-owes (w.primaries i) w i b refl h p
