-- What is listed is due, and its events are enabled.
use Rattle.std.specs.Prelude.{◌≡◌, ℕ, ◌||◌, ◌&&◌, is_none, if◌then◌else◌, Bool, true, false, List, [], ◌∷◌, ◌++◌, slice_get, Option, Some, None}
use Rattle.std.proofs.Common.{refl, ap, ◌∙◌, subst, zero, suc}
use Rattle.hd_base.specs.declared.numbers.BlockId.{BlockId}
use Rattle.hd_base.specs.declared.numbers.ConnId.{ConnId}
use Rattle.world_laws.specs.WriterCore.Action.{Action}
use Rattle.world_laws.specs.WriterCore.Action.TheVariants as action
use Rattle.world_laws.specs.WriterCore.Transitions.{own_step}
use Rattle.world_laws.specs.World.Caller.TheVariants as caller
use Rattle.name_core.specs.declared.calls.OfficeCall.{OfficeCall}
use Rattle.name_core.specs.Offices.{answer_to}
use Rattle.world_laws.specs.World.TakenCommand.{TakenCommand}
use Rattle.world_laws.specs.World.Parts.{Told, Writing}
use Rattle.world_laws.specs.World.Safe.{Has}
use Rattle.world_laws.specs.World.Worlds.{World, apply}
use Rattle.world_laws.specs.World.Primaries.{writer_asks}
use Rattle.world_laws.specs.World.Events.{happens, outcome, changed, after_event}
use Rattle.world_laws.specs.World.Enabled.{acts_with, is_deed, is_question, can_down, can_ready, can_up}
use Rattle.world_laws.proofs.FactTables.{and-right}
use Rattle.world_laws.proofs.StampGivens.{put-here}
use Rattle.world_laws.proofs.TestLaws.{all-tested}
use Rattle.play_model.specs.declared.asks.ReadAsk.{ReadAsk}
use Rattle.play_model.specs.declared.recoveries.Recovery.{Recovery}
use Rattle.play_model.specs.declared.dues.Due.{Due}
use Rattle.play_model.specs.declared.dues.Due.TheVariants as due
use Rattle.play_model.specs.States.{PlayState, world_of}
use Rattle.play_model.specs.Dues.{Queues, is_open, is_open_above, is_due, when, when_due, upto, own_dues, reader_dues, primary_dues, conn_dues, dues, asking, acting, own_events, action_of, due_events}
use Rattle.play_model.specs.Laws.{AreEnabled, IsDeed, IsQuiet, OwnAmong, AskAmong, RecoveryAmong, IsListed}
use Rattle.play_model.proofs.AskLemmas.{asks_enabled}
use Rattle.play_model.proofs.RecoveryLemmas.{recovery_enabled}

-- all of the list are such
abbrev All : (Due → Type 0) → List Due → Type 0
All P [] = Unit {0}
All P (d ∷ ds) = P d × All P ds

abbrev Is : World → Queues → Due → Type 0
Is w queues d = is_due w queues d ≡ true

at : (P : Due → Type 0) (ds : List Due) (i : ℕ) (d : Due) → All P ds → slice_get ds i ≡ Some d → P d
at P [] i d all found = cc
at P (x ∷ ds) zero d all found = let e : x ≡ d = cc in subst P e all.0
at P (x ∷ ds) (suc i) d all found = at P ds i d all.1 found

both : (P : Due → Type 0) (ds es : List Due) → All P ds → All P es → All P (ds ++ es)
both P [] es one other = other
both P (d ∷ ds) es one other = (one.0, both P ds es one.1 other)

when_is : (P : Due → Type 0) (b : Bool) (d : Due) → (b ≡ true → P d) → All P (when b d)
when_is P true d h = (h refl, tt)
when_is P false d h = tt

when_all : (w : World) (queues : Queues) (d : Due) → All (Is w queues) (when_due w queues d)
when_all w queues d = when_is (Is w queues) (is_due w queues d) d (λ e. e)

own_all : (w : World) (queues : Queues) (blocks : List ℕ) → All (Is w queues) (own_dues w queues blocks)
own_all w queues [] = tt
own_all w queues (b ∷ blocks) =
    both (Is w queues) (when_due w queues (due.Own (record { 0 = b }))) (own_dues w queues blocks) (when_all w queues (due.Own (record { 0 = b })))
    (own_all w queues blocks)

readers_all : (w : World) (queues : Queues) (asks : List ReadAsk) → All (Is w queues) (reader_dues w queues asks)
readers_all w queues [] = tt
readers_all w queues (ask ∷ asks) =
    both (Is w queues) (when_due w queues (due.Reader ask)) (reader_dues w queues asks) (when_all w queues (due.Reader ask))
    (readers_all w queues asks)

primaries_all : (w : World) (queues : Queues) (rs : List Recovery) → All (Is w queues) (primary_dues w queues rs)
primaries_all w queues [] = tt
primaries_all w queues (r ∷ rs) =
    both (Is w queues) (when_due w queues (due.Primary r)) (primary_dues w queues rs) (when_all w queues (due.Primary r))
    (primaries_all w queues rs)

conn_all : (w : World) (queues : Queues) (c : ℕ) → All (Is w queues) (conn_dues w queues c)
conn_all w queues c =
    both (Is w queues) (when_due w queues (due.Down (record { 0 = c }))) _ (when_all w queues (due.Down (record { 0 = c })))
    (both (Is w queues) (when_due w queues (due.Ready (record { 0 = c }))) _ (when_all w queues (due.Ready (record { 0 = c })))
    (when_all w queues (due.Up (record { 0 = c }))))

upto_all : (P : Due → Type 0) (f : ℕ → List Due) (n : ℕ) → ((c : ℕ) → All P (f c)) → All P (upto f n)
upto_all P f zero h = tt
upto_all P f (suc n) h = both P (upto f n) (f n) (upto_all P f n h) (h n)

-- of each sort all are such
listed_all : (P : Due → Type 0) (blocks : List ℕ) (p : PlayState) → All P (own_dues (world_of p) p.queues blocks) → All P (reader_dues (world_of p) p.queues p.asks)
    → All P (primary_dues (world_of p) p.queues p.recoveries) → All P (upto (conn_dues (world_of p) p.queues) (world_of p).next_conn) → All P (dues blocks p)
unfolding dues
listed_all P blocks p own readers primaries conns =
    let w = world_of p in
    let conn : List Due = upto (conn_dues w p.queues) w.next_conn in
    both P (own_dues w p.queues blocks) _ own
    (both P (reader_dues w p.queues p.asks) _ readers (both P (primary_dues w p.queues p.recoveries) conn primaries conns))

all_due : (blocks : List ℕ) (p : PlayState) → All (Is (world_of p) p.queues) (dues blocks p)
all_due blocks p =
    let w = world_of p in
    listed_all (Is w p.queues) blocks p (own_all w p.queues blocks) (readers_all w p.queues p.asks) (primaries_all w p.queues p.recoveries)
    (upto_all (Is w p.queues) (conn_dues w p.queues) w.next_conn (conn_all w p.queues))

-- ---- a writer's step

asked_told : (w : World) (b : ℕ) (t : Option Told) (a : Action) (c : OfficeCall) → t ≡ None → a ≡ action.Ask c
    → ((after_event w (asking b) (changed w (if is_none t then writer_asks a w b else None))).writers b).told ≡ Some (answer_to w.office c)
unfolding apply
asked_told w b t a c none ask = rw (none, ask) (ap (λ (x : Writing). x.told) (put-here w.writers b (record (w.writers b) { told = Some (answer_to w.office c) })))

-- Once the office was asked, its answer waits.
told_then : (w : World) (b : ℕ) (c : OfficeCall) → (w.writers b).told ≡ None → (own_step (w.writers b).known).action ≡ action.Ask c
    → ((happens w (asking b)).writers b).told ≡ Some (answer_to w.office c)
unfolding happens outcome
told_then w b c none ask = asked_told w b (w.writers b).told (own_step (w.writers b).known).action c none ask

acts_on : (t : Option Told) (a : Action) (x : Told) → t ≡ Some x → acts_with t a ≡ true
acts_on t a x e = ap (λ o. acts_with o a) e

acts_by : (t : Option Told) (a : Action) → t ≡ None → is_deed a ≡ true → acts_with t a ≡ true
acts_by t a none deed = ap (λ o. acts_with o a) none ∙ deed

asks_by : (t : Option Told) (a : Action) (c : OfficeCall) → t ≡ None → a ≡ action.Ask c → (is_none t && is_question a) ≡ true
asks_by t a c none ask = rw (none, ask) refl

asking_enabled : (w : World) (b : ℕ) (c : OfficeCall) → (w.writers b).told ≡ None → (own_step (w.writers b).known).action ≡ action.Ask c → AreEnabled w (asking b ∷ acting b None ∷ [])
asking_enabled w b c none ask = (
  (all-tested w).ask (caller.Writer (record { 0 = b })) ∙ asks_by (w.writers b).told (own_step (w.writers b).known).action c none ask,
  ((all-tested (happens w (asking b))).write (record { 0 = b }) true ∙ acts_on ((happens w (asking b)).writers b).told _ (answer_to w.office c) (told_then w b c none ask), tt),
)

deed_enabled : (w : World) (b : ℕ) (a : Action) → (w.writers b).told ≡ None → (own_step (w.writers b).known).action ≡ a → is_deed a ≡ true → AreEnabled w (acting b None ∷ [])
deed_enabled w b a none is deed =
    ((all-tested w).write (record { 0 = b }) true ∙ acts_by (w.writers b).told (own_step (w.writers b).known).action none (ap is_deed is ∙ deed), tt)

own_enabled : (w : World) (b : ℕ) (queue : List TakenCommand) (a : Action) → (w.writers b).told ≡ None → (own_step (w.writers b).known).action ≡ a → (is_deed a || is_question a) ≡ true
    → AreEnabled w (own_events a b queue)
own_enabled w b queue action.Wait none is deed = cc
own_enabled w b queue action.Took none is deed = deed_enabled w b action.Took none is refl
own_enabled w b queue (action.Ask c) none is deed = asking_enabled w b c none is
own_enabled w b queue (action.Dial to r) none is deed = cc
own_enabled w b queue (action.Send p) none is deed = deed_enabled w b (action.Send p) none is refl
own_enabled w b queue (action.Answered n x) none is deed = deed_enabled w b (action.Answered n x) none is refl
own_enabled w b queue action.Memory none is deed = cc

-- What is due can happen.
due_enabled : (w : World) (queues : Queues) (d : Due) → IsQuiet w → is_due w queues d ≡ true → IsDeed w d → AreEnabled w (due_events w queues d)
due_enabled w queues (due.Own b) quiet is deed = own_enabled w b.0 (queues b.0) (action_of w b) (quiet b.0) refl deed
due_enabled w queues (due.Reader ask) quiet is deed = (asks_enabled w ask true ∙ is, tt)
due_enabled w queues (due.Primary r) quiet is deed = recovery_enabled w r deed is
due_enabled w queues (due.Down c) quiet is deed = ((all-tested w).down c true ∙ and-right (is_open (w.lowers c.0)) (can_down w c.0) is, tt)
due_enabled w queues (due.Ready c) quiet is deed = ((all-tested w).ready c ∙ and-right (is_open (w.lowers c.0)) (can_ready w c.0) is, tt)
due_enabled w queues (due.Up c) quiet is deed = ((all-tested w).up c ∙ and-right (is_open_above w (w.dialled c.0).upper) (can_up w c.0) is, tt)

pub listed_enabled : (blocks : List ℕ) (p : PlayState) (i : ℕ) (d : Due) → IsQuiet (world_of p) → slice_get (dues blocks p) i ≡ Some d → IsDeed (world_of p) d
    → AreEnabled (world_of p) (due_events (world_of p) p.queues d)
listed_enabled blocks p i d quiet found deed =
    due_enabled (world_of p) p.queues d quiet (at (Is (world_of p) p.queues) (dues blocks p) i d (all_due blocks p) found) deed

-- ---- what holds of each step of a sort

readers_all_such : (P : Due → Type 0) (w : World) (queues : Queues) (asks : List ReadAsk) → ((a : ReadAsk) → P (due.Reader a)) → All P (reader_dues w queues asks)
readers_all_such P w queues [] h = tt
readers_all_such P w queues (a ∷ asks) h =
    both P (when_due w queues (due.Reader a)) (reader_dues w queues asks) (when_is P (is_due w queues (due.Reader a)) (due.Reader a) (λ e. h a)) (readers_all_such P w queues asks h)

primaries_all_such : (P : Due → Type 0) (w : World) (queues : Queues) (rs : List Recovery) → ((r : Recovery) → P (due.Primary r)) → All P (primary_dues w queues rs)
primaries_all_such P w queues [] h = tt
primaries_all_such P w queues (r ∷ rs) h =
    both P (when_due w queues (due.Primary r)) (primary_dues w queues rs) (when_is P (is_due w queues (due.Primary r)) (due.Primary r) (λ e. h r)) (primaries_all_such P w queues rs h)

conns_all_such : (P : Due → Type 0) (w : World) (queues : Queues) → ((c : ConnId) → P (due.Down c)) → ((c : ConnId) → P (due.Ready c)) → ((c : ConnId) → P (due.Up c)) → (c : ℕ)
    → All P (conn_dues w queues c)
conns_all_such P w queues downs readies ups c =
    both P (when_due w queues (due.Down (record { 0 = c }))) _ (when_is P _ (due.Down (record { 0 = c })) (λ e. downs (record { 0 = c })))
    (both P (when_due w queues (due.Ready (record { 0 = c }))) _ (when_is P _ (due.Ready (record { 0 = c })) (λ e. readies (record { 0 = c })))
    (when_is P _ (due.Up (record { 0 = c })) (λ e. ups (record { 0 = c }))))

owns_all_such : (P : Due → Type 0) (w : World) (queues : Queues) (blocks : List ℕ) → ((b : BlockId) → P (due.Own b)) → All P (own_dues w queues blocks)
owns_all_such P w queues [] h = tt
owns_all_such P w queues (b ∷ blocks) h =
    both P (when_due w queues (due.Own (record { 0 = b }))) (own_dues w queues blocks) (when_is P _ (due.Own (record { 0 = b })) (λ e. h (record { 0 = b }))) (owns_all_such P w queues blocks h)

-- ---- whose steps are listed

has_more : (b : ℕ) (blocks : List ℕ) (a : ℕ) → Has blocks a → Has (b ∷ blocks) a
has_more b blocks a h = record { place = suc h.place; there = h.there }

own_among : (w : World) (queues : Queues) (all blocks : List ℕ) → ((b : ℕ) → Has blocks b → Has all b) → All (OwnAmong all) (own_dues w queues blocks)
own_among w queues all [] within = tt
own_among w queues all (b ∷ blocks) within =
    both (OwnAmong all) (when_due w queues (due.Own (record { 0 = b }))) (own_dues w queues blocks)
    (when_is (OwnAmong all) (is_due w queues (due.Own (record { 0 = b }))) (due.Own (record { 0 = b })) (λ e. within b (record { place = 0; there = refl })))
    (own_among w queues all blocks (λ a h. within a (has_more b blocks a h)))

all_among : (blocks : List ℕ) (p : PlayState) → All (OwnAmong blocks) (dues blocks p)
all_among blocks p =
    let w = world_of p in
    listed_all (OwnAmong blocks) blocks p (own_among w p.queues blocks blocks (λ b h. h)) (readers_all_such (OwnAmong blocks) w p.queues p.asks (λ a. tt))
    (primaries_all_such (OwnAmong blocks) w p.queues p.recoveries (λ r. tt)) (upto_all (OwnAmong blocks) (conn_dues w p.queues) w.next_conn (conns_all_such (OwnAmong blocks) w p.queues (λ c. tt) (λ c. tt) (λ c. tt)))

-- ---- whose reads are listed

asked_more : (a : ReadAsk) (asks : List ReadAsk) (b : ReadAsk) → Has asks b → Has (a ∷ asks) b
asked_more a asks b h = record { place = suc h.place; there = h.there }

readers_asked : (w : World) (queues : Queues) (all asks : List ReadAsk) → ((a : ReadAsk) → Has asks a → Has all a) → All (AskAmong all) (reader_dues w queues asks)
readers_asked w queues all [] within = tt
readers_asked w queues all (ask ∷ asks) within =
    both (AskAmong all) (when_due w queues (due.Reader ask)) (reader_dues w queues asks)
    (when_is (AskAmong all) (is_due w queues (due.Reader ask)) (due.Reader ask) (λ e. within ask (record { place = 0; there = refl })))
    (readers_asked w queues all asks (λ a h. within a (asked_more ask asks a h)))

all_asked : (blocks : List ℕ) (p : PlayState) → All (AskAmong p.asks) (dues blocks p)
all_asked blocks p =
    let w = world_of p in
    listed_all (AskAmong p.asks) blocks p (owns_all_such (AskAmong p.asks) w p.queues blocks (λ b. tt)) (readers_asked w p.queues p.asks p.asks (λ a h. h))
    (primaries_all_such (AskAmong p.asks) w p.queues p.recoveries (λ r. tt)) (upto_all (AskAmong p.asks) (conn_dues w p.queues) w.next_conn (conns_all_such (AskAmong p.asks) w p.queues (λ c. tt) (λ c. tt) (λ c. tt)))

-- ---- whose recoveries are listed

recovered_more : (a : Recovery) (rs : List Recovery) (b : Recovery) → Has rs b → Has (a ∷ rs) b
recovered_more a rs b h = record { place = suc h.place; there = h.there }

primaries_recover : (w : World) (queues : Queues) (all rs : List Recovery) → ((r : Recovery) → Has rs r → Has all r) → All (RecoveryAmong all) (primary_dues w queues rs)
primaries_recover w queues all [] within = tt
primaries_recover w queues all (r ∷ rs) within =
    both (RecoveryAmong all) (when_due w queues (due.Primary r)) (primary_dues w queues rs)
    (when_is (RecoveryAmong all) (is_due w queues (due.Primary r)) (due.Primary r) (λ e. within r (record { place = 0; there = refl })))
    (primaries_recover w queues all rs (λ a h. within a (recovered_more r rs a h)))

all_recovering : (blocks : List ℕ) (p : PlayState) → All (RecoveryAmong p.recoveries) (dues blocks p)
all_recovering blocks p =
    let w = world_of p in
    listed_all (RecoveryAmong p.recoveries) blocks p (owns_all_such (RecoveryAmong p.recoveries) w p.queues blocks (λ b. tt))
    (readers_all_such (RecoveryAmong p.recoveries) w p.queues p.asks (λ a. tt)) (primaries_recover w p.queues p.recoveries p.recoveries (λ r h. h))
    (upto_all (RecoveryAmong p.recoveries) (conn_dues w p.queues) w.next_conn (conns_all_such (RecoveryAmong p.recoveries) w p.queues (λ c. tt) (λ c. tt) (λ c. tt)))

pub listed_due : (blocks : List ℕ) (p : PlayState) (i : ℕ) (d : Due) → slice_get (dues blocks p) i ≡ Some d → IsListed blocks p d
listed_due blocks p i d found = record {
  is = at (Is (world_of p) p.queues) (dues blocks p) i d (all_due blocks p) found;
  among = at (OwnAmong blocks) (dues blocks p) i d (all_among blocks p) found;
  asked = at (AskAmong p.asks) (dues blocks p) i d (all_asked blocks p) found;
  recovers = at (RecoveryAmong p.recoveries) (dues blocks p) i d (all_recovering blocks p) found;
}
