-- Changes of others than writers and lower ends, by which no packet is sent, and no write request.
use Rattle.hd_base.specs.declared.numbers.BlockId.{BlockId}
use Rattle.hd_base.specs.declared.numbers.NodeId.{NodeId}
use Rattle.world.specs.OpHeaders.ReadOp.{ReadOp}
use Rattle.world.specs.ReadCore.Readings.{ReadTaken, take_from}
use Rattle.world.specs.ReadCore.ReadTurn.{ReadTurn}
use Rattle.world.specs.RecoveryCore.Primaries.{PrimaryState, begun_with, is_among}
use Rattle.world.specs.RecoveryCore.OwnStep.{OwnStep}
use Rattle.world.specs.RecoveryCore.Standing.{Standing}
use Rattle.std.proofs.Common.{zero, suc, subst, ◌+◌, ◌∷◌, Bool, Err, IfSome, List, None, Ok, Option, Some, [], false, refl, slice_get, true, ℕ, ◌≡◌}
use Rattle.std.specs.Prelude.{zip, is_none, slice_get, ◌&&◌, ◌==◌}
use Rattle.world.specs.Clients.{are_members, from_node_of, own_reader, own_reader_as, reader_dials, reader_turn, reader_up, reader_up_as, writer_change, writer_hears, writer_up}
use Rattle.world.specs.Connections.{Next, is_alive, is_conn, place_of}
use Rattle.world.specs.Parts.{Leading, Place, Primary, Reader, Told, has_led, has_read, leads, no_primary, no_reader, reads, was_told}
use Rattle.world.specs.Primaries.{begins_as, begins_at, commits_step, hears_change, leads_step, leads_told, listens, office_event, own_primary, own_primary_as, own_recover, primary_asks, primary_commits, primary_up, primary_up_as, writer_asks}
use Rattle.world.specs.Worlds.{Change, World}
use Rattle.world.specs.declared.events.Caller.{Caller}
use Rattle.world.specs.WriterCore.Transitions.{own_step}
use Rattle.world.specs.WriterCore.Action.{Action}
use Rattle.world.specs.WriterCore.WriterRecord.{WriterRecord}
use Rattle.name_core.specs.declared.calls.OfficeAnswer.TheVariants as office
use Rattle.world.specs.ReadCore.ReadTurn.TheVariants as turn
use Rattle.world.specs.RecoveryCore.Primaries as primary
use Rattle.world.specs.RecoveryCore.OwnStep.TheVariants as own
use Rattle.world.specs.declared.events.Caller.TheVariants as caller
use Rattle.world.specs.WriterCore.Action.TheVariants as action
use Rattle.world_laws.proofs.FactTables.{when-each, if-each}
use Rattle.world_laws.proofs.ByteFrame.{Each, each-nil, each-one}
use Rattle.world_laws.proofs.ByteLeaves.{sent-if}
use Rattle.world_laws.proofs.ByteAsking.{only-one}
use Rattle.std.proofs.lemmas.Option.{none-some, same_Some}
use Rattle.op_headers.specs.declared.ops.Op.TheVariants as op
use Rattle.op_headers.specs.declared.ops.RecoveryKind.TheVariants as kind
use Rattle.op_headers.specs.declared.ops.RecoveryOp.{RecoveryOp}
use Rattle.recovery_core.specs.Primaries.{request_of}
use Rattle.world.specs.Parts.{Message, request, packet}
use Rattle.world.specs.Worlds.{Dial}
use Rattle.world.specs.Primaries.{primary_dials, updates_on, dials_answered}

abbrev pub NoWrite : Message → Type 0
NoWrite (packet p) = ⊥
NoWrite (request (op.Write f)) = ⊥
NoWrite _ = Unit {0}

-- no packet and no write request goes down, and no new connection begins with one
pub record Calm (k : Change) : Type 0 where
  pub downs : (c : ℕ) → Each NoWrite (k.downs c)
  pub dials : (i : ℕ) (d : Dial) → slice_get k.dials i ≡ Some d → NoWrite d.request

-- WRITERS

writer-calm : (w : World) (b : ℕ) (x : WriterRecord) → Calm (writer_change w b x)
writer-calm w b x = record { downs = λ _. each-nil NoWrite; dials = λ i d e. absurd (none-some d e) }

pub writer-up-calm : (w : World) (b c : ℕ) (x : Next) → IfSome (writer_up w b c x) Calm
writer-up-calm w b c x =
    when-each Calm (is_conn (w.writers b).conn c && is_none (w.writers b).told) _ (λ _. writer-calm w b (writer_hears (w.writers b).known x))

-- READERS

dials-calm : (w : World) (i n : ℕ) (r : ReadOp) (answered : Bool) → Calm (reader_dials w i n r answered)
dials-calm w i n r true = record { downs = λ _. each-nil NoWrite; dials = λ j d e. only-one (λ m z. NoWrite z.request) _ (reader_dials w i n r true).dials refl tt j d e }
dials-calm w i n r false = record { downs = λ _. each-nil NoWrite; dials = λ i d e. absurd (none-some d e) }

own-reader-as : (x : Reader) (w : World) (i n : ℕ) (r : ReadOp) (answered : Bool) → IfSome (own_reader_as x w i n r answered) Calm
own-reader-as no_reader w i n r answered = dials-calm w i n r _
own-reader-as (reads c s) w i n r answered = tt
own-reader-as (has_read b) w i n r answered = tt

pub own-reader-calm : (w : World) (i n : ℕ) (r : ReadOp) (answered : Bool) → IfSome (own_reader w i n r answered) Calm
own-reader-calm w i n r answered = own-reader-as (w.readers i) w i n r answered

reader-turn-calm : (w : World) (i c : ℕ) (t : ReadTaken) (d : ReadTurn) → Calm (reader_turn w i c t d)
reader-turn-calm w i c t turn.Goes = record { downs = λ _. each-nil NoWrite; dials = λ i d e. absurd (none-some d e) }
reader-turn-calm w i c t turn.Verified = record { downs = sent-if (λ _ m. NoWrite m) (Some c) _ (each-one NoWrite _ tt); dials = λ i d e. absurd (none-some d e) }
reader-turn-calm w i c t (turn.Fails f) = record { downs = λ _. each-nil NoWrite; dials = λ i d e. absurd (none-some d e) }

reader-up-as : (r : Reader) (w : World) (i c : ℕ) (x : Next) → IfSome (reader_up_as r w i c x) Calm
reader-up-as no_reader w i c x = tt
reader-up-as (reads d s) w i c x =
    when-each Calm (d == c) _ (λ _. reader-turn-calm w i c (take_from s (from_node_of x)) (take_from s (from_node_of x)).does)
reader-up-as (has_read b) w i c x = tt

pub reader-up-calm : (w : World) (i c : ℕ) (x : Next) → IfSome (reader_up w i c x) Calm
reader-up-calm w i c x = reader-up-as (w.readers i) w i c x

-- PRIMARIES

primary-dial : (w : World) (i : ℕ) (at : Place) (q : RecoveryOp) (place : ℕ) (members : List NodeId) (answers : List Bool) (j : ℕ) (d : Dial) → slice_get (primary_dials w i at (request (op.Recovery q)) place members answers) j ≡ Some d → NoWrite d.request
primary-dial w i at q place [] answers j d e = absurd (none-some d e)
primary-dial w i at q place (n ∷ ns) [] j d e = absurd (none-some d e)
primary-dial w i at q place (n ∷ ns) (true ∷ answers) zero d e = subst (λ (x : Dial). NoWrite x.request) (same_Some _ d e) tt
primary-dial w i at q place (n ∷ ns) (true ∷ answers) (suc j) d e = primary-dial w i at q (place + 1) ns answers j d e
primary-dial w i at q place (n ∷ ns) (false ∷ answers) j d e = primary-dial w i at q (place + 1) ns answers j d e

update-calm : (q : RecoveryOp) (chosen : List NodeId) (xs : List (NodeId × Option ℕ)) (c : ℕ) → Each NoWrite (updates_on (request (op.Recovery q)) chosen xs c)
update-calm q chosen [] c = each-nil NoWrite
update-calm q chosen (x ∷ xs) c = if-each (λ (ms : List Message). Each NoWrite ms) (is_among chosen x.0 && is_conn x.1 c) _ _ (λ _. each-one NoWrite (request (op.Recovery q)) tt) (λ _. update-calm q chosen xs c)

begins-as : (t : Told) (w : World) (i : ℕ) (at : Place) (b : BlockId) (members : List NodeId) (answers : List Bool) → IfSome (begins_as t w i at b members answers) Calm
begins-as (Ok (office.Stamp s)) w i at b members answers = tt
begins-as (Ok (office.Reopened r)) w i at b members answers = tt
begins-as (Ok (office.Begun begun)) w i at b members answers = record { downs = λ _. each-nil NoWrite; dials = λ j d e. primary-dial w i at (request_of (begun_with b begun members (dials_answered w members answers)) kind.Init 0) 0 members (dials_answered w members answers) j d e }
begins-as (Ok office.Nothing) w i at b members answers = tt
begins-as (Err fault) w i at b members answers = record { downs = λ _. each-nil NoWrite; dials = λ i d e. absurd (none-some d e) }

begins-at : (p : Primary) (w : World) (i n : ℕ) (b : BlockId) (members : List NodeId) (answers : List Bool) → IfSome (begins_at p w i n b members answers) Calm
begins-at no_primary w i n b members answers = tt
begins-at (was_told asked told) w i n b members answers =
    when-each Calm (asked.0 == b.0 && w.running n && are_members members) (begins_as told w i (place_of w n) b members answers)
    (λ e. begins-as told w i (place_of w n) b members answers)
begins-at (leads l) w i n b members answers = tt
begins-at (has_led r) w i n b members answers = tt

pub own-recover-calm : (w : World) (i n : ℕ) (b : BlockId) (members : List NodeId) (answers : List Bool) → IfSome (own_recover w i n b members answers) Calm
own-recover-calm w i n b members answers = begins-at (w.primaries i) w i n b members answers

leads-step-calm : (s : OwnStep) (w : World) (i : ℕ) (l : Leading) (p : PrimaryState) → IfSome (leads_step s w i l p) Calm
leads-step-calm own.Waits w i l p = tt
leads-step-calm (own.Updates c) w i l p = record { downs = λ d. update-calm (request_of l.state kind.Update c.length) c.members (zip l.state.members l.conns) d; dials = λ i d e. absurd (none-some d e) }
leads-step-calm (own.Commits c) w i l p = tt
leads-step-calm (own.Ends r) w i l p = record { downs = λ _. each-nil NoWrite; dials = λ i d e. absurd (none-some d e) }

commits-calm : (s : OwnStep) (w : World) (i : ℕ) (l : Leading) (t : Told) → IfSome (commits_step s w i l t) Calm
commits-calm own.Waits w i l t = tt
commits-calm (own.Updates c) w i l t = tt
commits-calm (own.Commits c) w i l t = record { downs = λ _. each-nil NoWrite; dials = λ i d e. absurd (none-some d e) }
commits-calm (own.Ends r) w i l t = tt

leads-told-calm : (t : Option Told) (w : World) (i : ℕ) (l : Leading) → IfSome (leads_told t w i l) Calm
leads-told-calm None w i l = leads-step-calm (primary.own_step l.state).does w i l (primary.own_step l.state).primary
leads-told-calm (Some told) w i l = commits-calm (primary.own_step l.state).does w i l told

own-primary-as : (p : Primary) (w : World) (i : ℕ) → IfSome (own_primary_as p w i) Calm
own-primary-as no_primary w i = tt
own-primary-as (was_told b t) w i = tt
own-primary-as (leads l) w i = when-each Calm (is_alive w l.at) _ (λ _. leads-told-calm l.told w i l)
own-primary-as (has_led r) w i = tt

pub own-primary-calm : (w : World) (i : ℕ) → IfSome (own_primary w i) Calm
own-primary-calm w i = own-primary-as (w.primaries i) w i

hears-calm : (w : World) (i : ℕ) (l : Leading) (place c : ℕ) (x : Next) (o : Option Standing) → IfSome (hears_change w i l place c x o) Calm
hears-calm w i l place c x None = tt
hears-calm w i l place c x (Some s) = when-each Calm (listens l.state.phase s) _ (λ _. record { downs = λ _. each-nil NoWrite; dials = λ i d e. absurd (none-some d e) })

primary-up-as : (p : Primary) (w : World) (i place c : ℕ) (x : Next) → IfSome (primary_up_as p w i place c x) Calm
primary-up-as no_primary w i place c x = tt
primary-up-as (was_told b t) w i place c x = tt
primary-up-as (leads l) w i place c x =
    when-each Calm (is_alive w l.at && is_none l.told) (hears_change w i l place c x (slice_get l.state.standings place))
    (λ _. hears-calm w i l place c x (slice_get l.state.standings place))
primary-up-as (has_led r) w i place c x = tt

pub primary-up-calm : (w : World) (i place c : ℕ) (x : Next) → IfSome (primary_up w i place c x) Calm
primary-up-calm w i place c x = primary-up-as (w.primaries i) w i place c x

-- THE OFFICE

writer-asks-calm : (a : Action) (w : World) (b : ℕ) → IfSome (writer_asks a w b) Calm
writer-asks-calm action.Wait w b = tt
writer-asks-calm action.Took w b = tt
writer-asks-calm (action.Ask c) w b = record { downs = λ _. each-nil NoWrite; dials = λ i d e. absurd (none-some d e) }
writer-asks-calm (action.Dial to r) w b = tt
writer-asks-calm (action.Send p) w b = tt
writer-asks-calm (action.Answered n a) w b = tt
writer-asks-calm action.Memory w b = tt

commits-asked : (s : OwnStep) (w : World) (i : ℕ) (l : Leading) → IfSome (primary_commits s w i l) Calm
commits-asked own.Waits w i l = tt
commits-asked (own.Updates c) w i l = tt
commits-asked (own.Commits c) w i l = record { downs = λ _. each-nil NoWrite; dials = λ i d e. absurd (none-some d e) }
commits-asked (own.Ends r) w i l = tt

primary-asks-calm : (p : Primary) (w : World) (i : ℕ) (b : BlockId) → IfSome (primary_asks p w i b) Calm
primary-asks-calm no_primary w i b = record { downs = λ _. each-nil NoWrite; dials = λ i d e. absurd (none-some d e) }
primary-asks-calm (was_told c t) w i b = tt
primary-asks-calm (leads l) w i b = when-each Calm (is_alive w l.at && is_none l.told) _ (λ _. commits-asked (primary.own_step l.state).does w i l)
primary-asks-calm (has_led r) w i b = tt

pub office-calm : (w : World) (c : Caller) → IfSome (office_event w c) Calm
office-calm w (caller.Writer b) =
    when-each Calm (is_none (w.writers b.0).told) _ (λ _. writer-asks-calm (own_step (w.writers b.0).known).action w b.0)
office-calm w (caller.Primary i b) = primary-asks-calm (w.primaries i) w i b
