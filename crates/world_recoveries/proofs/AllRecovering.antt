-- Recoveries fit after every list of events.
use Rattle.std.proofs.Common.{◌≡◌, ℕ, ◌<◌, ◌≤◌, ◌+◌, inl, Bool, true, false, List, [], ◌∷◌, Option, Some, None, IfSome, refl, sym, ap, subst, arith, eqb-true}
use Rattle.std.specs.Prelude.{◌==◌, ◌&&◌, not, nat_lt, if◌then◌else◌}
use Rattle.std.proofs.lemmas.Bool.Decides.{nat_tests}
use Rattle.std.proofs.lemmas.Option.{none-some}
use Rattle.hd_base.specs.declared.numbers.Stamp.{Stamp}
use Rattle.world_laws.specs.ReplicaModel.Rows.{FullReplica}
use Rattle.world_laws.specs.World.Caller.{Caller}
use Rattle.world_laws.specs.World.Caller.TheVariants as caller
use Rattle.world_laws.specs.World.Delivery.{Delivery}
use Rattle.world_laws.specs.World.Delivery.TheVariants as delivery
use Rattle.world_laws.specs.World.Direction.{Direction}
use Rattle.world_laws.specs.World.Direction.TheVariants as direction
use Rattle.world_laws.specs.World.Event.{Event}
use Rattle.world_laws.specs.World.Event.TheVariants as event
use Rattle.world_laws.specs.World.FoundReplica.{FoundReplica}
use Rattle.world_laws.specs.World.OwnStep.{OwnStep}
use Rattle.world_laws.specs.World.OwnStep.TheVariants as own
use Rattle.world_laws.specs.World.Parts.{Place, Updated, Upper, by_writer, by_member, by_reader, by_primary}
use Rattle.world_laws.specs.World.Worlds.{Past, World, Change, Stamped, apply, start}
use Rattle.world_laws.specs.World.Connections.{Next, message, the_end, next_down, next_up, down_taken, up_taken, is_alive, is_served}
use Rattle.world_laws.specs.World.Nodes.{node_of, lower_down, lower_ready}
use Rattle.world_laws.specs.World.Clients.{own_writer, own_reader, writer_up, reader_up}
use Rattle.world_laws.specs.World.Primaries.{office_event, writer_asks_office, primary_up}
use Rattle.world_laws.specs.World.Restarts.{found_in, restarted, restart}
use Rattle.world_laws.specs.World.Events.{changed, own_change, down_as, down_event, ready_event, unless_fails, upper_up, up_as, up_event, fault_event, lost, stop, where_so, outcome, after_event, happens, run}
use Rattle.world_laws.proofs.FactTables.{when-each, and-left, and-right, some-weaker}
use Rattle.world_laws.specs.Stamping.{Givens, none_given, given_with, stamped_in, given_by, given_in, Recorded}
use Rattle.world_laws.proofs.AllRecorded.{happens-recorded, Reached, reached-next, reached-agreed, start-recorded}
use Rattle.world_laws.proofs.StampRecording.{Agreed}
use Rattle.world_laws.specs.Carrying.{Carried}
use Rattle.world_laws.proofs.ByteLeaves.{Facts}
use Rattle.world_laws.proofs.ByteEnds.{lower-ready-keeps}
use Rattle.world_laws.proofs.ByteOffices.{office-event-keeps}
use Rattle.world_laws.proofs.AllCarried.{next-sent, down-taken-facts, up-taken-facts, changed-carried, down-as-carried, up-as-carried, own-keeps, office-carried, happens-carried, reached-facts, at-start, start-carried}
use Rattle.world_laws.specs.World.Safe.{Has}
use Rattle.world_laws.specs.Joining.{AtLeast, IsSetUp}
use Rattle.world_laws.proofs.AllSetUp.{served-life, given-stays, all-set}
use Rattle.world_recoveries.specs.Recovering.{ReplicaTold, Informs, InfoFits, StillTrue, Recovering}
use Rattle.world_recoveries.specs.Telling.{TellsFrom}
use Rattle.world_recoveries.proofs.Frame.{keeps, keeps-tells}
use Rattle.world_recoveries.proofs.Leading.{SentUp}
use Rattle.world_recoveries.proofs.Quiet.{Quiet, Brings, quiet-news, quiet-brings}
use Rattle.world_recoveries.proofs.Clients.{own-writer-quiet, writer-up-quiet, writer-asks-quiet, own-reader-quiet, reader-up-quiet}
use Rattle.world_recoveries.proofs.Lowers.{SentDown, lower-down-brings, lower-ready-quiet, mirror-up-quiet}
use Rattle.world_recoveries.proofs.Steps.{own-recover-brings, own-primary-brings, primary-up-brings, primary-asks-brings}

-- RBW replicas were set up in the life of their nodes
abbrev pub Writes : World → Type 0
Writes w = (n b : ℕ) → IsSetUp w.joined (w.lives n) (w.running n) n (w.replicas n b)

-- CHANGES

-- what a world is that comes after another
pub record Coming (g : Givens) (w v : World) : Type 0 where
  pub recovering : Recovering g v
  pub tells : TellsFrom w v

-- nothing is told anew
same-tells : (w v : World) → v.past ≡ w.past → TellsFrom w v
same-tells w v e = record { each = λ c b id i x. inl (subst (λ (p : Past). Informs p c b id i) e x) }

changed-fits : (g l : Givens) (w : World) (o : Option Change) → Carried g w → Recovering l w → IfSome (changed w o) (Carried l) → IfSome o (Brings l w) → IfSome (changed w o) (Coming l w)
changed-fits g l w None a h c n = tt
changed-fits g l w (Some k) a h c n = record { recovering = keeps g l w k a h (n.news c); tells = keeps-tells g l w k a (n.news c) }

-- the same of what came before marks moved on
down-coming : (g : Givens) (w : World) (c : ℕ) (x : Next) (o : Option World) → IfSome o (Coming g (down_taken w c x)) → IfSome o (Coming g w)
unfolding down_taken
down-coming g w c x o h = some-weaker (Coming g (down_taken w c x)) (Coming g w) o (λ u k. record { recovering = k.recovering; tells = record { each = k.tells.each } }) h

up-coming : (g : Givens) (w : World) (c : ℕ) (x : Next) (o : Option World) → IfSome o (Coming g (up_taken w c x)) → IfSome o (Coming g w)
unfolding up_taken
up-coming g w c x o h = some-weaker (Coming g (up_taken w c x)) (Coming g w) o (λ u k. record { recovering = k.recovering; tells = record { each = k.tells.each } }) h

unless-brings : (g : Givens) (w : World) (fails : Bool) (o : Option Change) → IfSome o (Brings g w) → IfSome (unless_fails fails o) (Brings g w)
unless-brings g w true o n = tt
unless-brings g w false o n = n

-- DELIVERIES

pub down-taken-fits : (g : Givens) (w : World) (c : ℕ) (x : Next) → Recovering g w → Recovering g (down_taken w c x)
unfolding down_taken
down-taken-fits g w c x h = record { lives = h.lives; asks = h.asks; told = h.told; still = h.still; updates = h.updates; updated = h.updated; settled = h.settled; earlier = h.earlier; one_length = h.one_length; primaries = h.primaries; sends = h.sends; one_primary = h.one_primary; placed = h.placed }

pub up-taken-fits : (g : Givens) (w : World) (c : ℕ) (x : Next) → Recovering g w → Recovering g (up_taken w c x)
unfolding up_taken
up-taken-fits g w c x h = record { lives = h.lives; asks = h.asks; told = h.told; still = h.still; updates = h.updates; updated = h.updated; settled = h.settled; earlier = h.earlier; one_length = h.one_length; primaries = h.primaries; sends = h.sends; one_primary = h.one_primary; placed = h.placed }

below-of : (w : World) (c : ℕ) → is_served w c ≡ true → c < w.next_conn
below-of w c e = lt-true c w.next_conn (and-left (nat_lt c w.next_conn) (is_alive w (w.dialled c).to) e)
  where
    lt-true : (a b : ℕ) → nat_lt a b ≡ true → a < b
    lt-true a b e = grind (arith, nat_tests, e)

runs-of : (w : World) (c : ℕ) → is_served w c ≡ true → w.running (node_of w c) ≡ true
runs-of w c e = and-left (w.running (node_of w c)) (w.lives (node_of w c) == (w.dialled c).to.life) (and-right (nat_lt c w.next_conn) (is_alive w (w.dialled c).to) e)

pub sent-down : (w : World) (c : ℕ) (x : Next) → next_down w c ≡ Some x → SentDown w.past c x
sent-down w c (message m) e = ((w.down_marks c).taken, next-sent (w.downs c) (w.down_marks c) m e)
sent-down w c the_end e = tt

sent-up : (w : World) (c : ℕ) (x : Next) → next_up w c ≡ Some x → SentUp w.past c x
sent-up w c (message m) e = ((w.up_marks c).taken, next-sent (w.ups c) (w.up_marks c) m e)
sent-up w c the_end e = tt

down-as-fits : (g : Givens) (w : World) (c : ℕ) (answered fails : Bool) (o : Option Next) → Facts g w → Recovering g w → Writes w → is_served w c ≡ true → next_down w c ≡ o → IfSome (down_as w c answered fails o) (Coming g w)
unfolding down_taken
down-as-fits g w c answered fails None f h s alive e = tt
down-as-fits g w c answered fails (Some x) f h s alive e =
    let v = down_taken w c x in
    let d = down-taken-facts g w c x f in
    let i = down-taken-fits g w c x h in
    down-coming g w c x _ (changed-fits g g v (lower_down (w.lowers c) v c x answered fails) d.carried i (down-as-carried g w c answered fails (Some x) f e)
    (lower-down-brings (w.lowers c) g v c x answered fails (record { facts = d; recovering = i; writes = s; known = below-of w c alive; runs = runs-of w c alive; life = served-life w c alive }) (f.carried.lowers c) (sent-down w c x e)))

down-fits : (g : Givens) (w : World) (c : ℕ) (answered fails : Bool) → Facts g w → Recovering g w → Writes w → IfSome (down_event w c answered fails) (Coming g w)
down-fits g w c answered fails f h s = when-each (Coming g w) (is_served w c) _ (λ e. down-as-fits g w c answered fails (next_down w c) f h s e refl)

ready-fits : (g : Givens) (w : World) (c : ℕ) (fails : Bool) → Facts g w → Recovering g w → IfSome (ready_event w c fails) (Coming g w)
ready-fits g w c fails f h =
    when-each (Coming g w) (is_served w c) _ (λ _.
    let k = lower_ready (w.lowers c) w c fails in
    changed-fits g g w k f.carried h (changed-carried g w k (lower-ready-keeps (w.lowers c) g w c fails f (f.carried.lowers c))) (quiet-brings g w k f h (lower-ready-quiet (w.lowers c) w c fails (f.carried.lowers c))))

upper-brings : (u : Upper) (g : Givens) (w : World) (c : ℕ) (x : Next) (fails : Bool) → Facts g w → Recovering g w → c < w.next_conn → (w.dialled c).upper ≡ u → SentUp w.past c x → IfSome (upper_up u w c x fails) (Brings g w)
upper-brings (by_writer b) g w c x fails f h lt e s = unless-brings g w fails (writer_up w b c x) (quiet-brings g w (writer_up w b c x) f h (writer-up-quiet w b c x))
upper-brings (by_member d) g w c x fails f h lt e s = quiet-brings g w (upper_up (by_member d) w c x fails) f h (mirror-up-quiet (w.lowers d) w d x fails (f.carried.lowers d))
upper-brings (by_reader i) g w c x fails f h lt e s = unless-brings g w fails (reader_up w i c x) (quiet-brings g w (reader_up w i c x) f h (reader-up-quiet w i c x))
upper-brings (by_primary i p) g w c x fails f h lt e s = unless-brings g w fails (primary_up w i p c x) (primary-up-brings g w i p c x h lt e s)

up-as-fits : (g : Givens) (w : World) (c : ℕ) (fails : Bool) (o : Option Next) → Facts g w → Recovering g w → c < w.next_conn → next_up w c ≡ o → IfSome (up_as w c fails o) (Coming g w)
unfolding up_taken
up-as-fits g w c fails None f h lt e = tt
up-as-fits g w c fails (Some x) f h lt e =
    let v = up_taken w c x in
    let d = up-taken-facts g w c x f in
    let i = up-taken-fits g w c x h in
    up-coming g w c x _ (changed-fits g g v (upper_up (w.dialled c).upper v c x fails) d.carried i (up-as-carried g w c fails (Some x) f lt e) (upper-brings (w.dialled c).upper g v c x fails d i lt refl (sent-up w c x e)))

up-fits : (g : Givens) (w : World) (c : ℕ) (fails : Bool) → Facts g w → Recovering g w → IfSome (up_event w c fails) (Coming g w)
up-fits g w c fails f h = when-each (Coming g w) (nat_lt c w.next_conn) _ (λ e. up-as-fits g w c fails (next_up w c) f h (lt-true c w.next_conn e) refl)
  where
    lt-true : (a b : ℕ) → nat_lt a b ≡ true → a < b
    lt-true a b e = grind (arith, nat_tests, e)

fault-fits : (g : Givens) (w : World) (d : Delivery) → Facts g w → Recovering g w → Writes w → IfSome (fault_event w d) (Coming g w)
fault-fits g w (delivery.Down c) f h s = down-fits g w c.0 false true f h s
fault-fits g w (delivery.Ready c) f h s = ready-fits g w c.0 true f h
fault-fits g w (delivery.Up c) f h s = up-fits g w c.0 true f h

-- OWN STEPS AND THE OFFICE

own-brings : (g : Givens) (w : World) (s : OwnStep) → Facts g w → Recovering g w → IfSome (own_change w s) (Brings g w)
own-brings g w (own.Writer b takes answered) f h = quiet-brings g w (own_writer w b.0 takes answered) f h (own-writer-quiet w b.0 takes answered)
own-brings g w (own.Reader i n r answered) f h = quiet-brings g w (own_reader w i n.0 r answered) f h (own-reader-quiet w i n.0 r answered)
own-brings g w (own.Recover i n b members answers) f h = own-recover-brings g w i n.0 b members answers f h
own-brings g w (own.Primary i) f h = own-primary-brings g w i h

-- what was told is of stamps that stay given
later-info : (g : Givens) (s : Option Stamped) (w : World) (c b : ℕ) (named id : Stamp) (i : ReplicaTold) → InfoFits g w.past c b named id i → InfoFits (given_with g s) w.past c b named id i
later-info g s w c b named id i x =
    let y = given-stays g s b i.1.0 x.session x.given in
    record { known = x.known; named_below = x.named_below; below = x.below; session = y.0; given = y.1; joins = x.joins }

later-fits : (g : Givens) (s : Option Stamped) (w : World) → Recovering g w → Recovering (given_with g s) w
later-fits g s w h = record {
  lives = h.lives;
  asks = h.asks;
  told = λ c b id i x. later-info g s w c b x.asked.block.stamp id i (h.told c b id i x);
  still = h.still;
  updates = h.updates;
  updated = h.updated;
  settled = h.settled;
  earlier = h.earlier;
  one_length = h.one_length;
  primaries = h.primaries;
  sends = h.sends;
  one_primary = h.one_primary;
  placed = h.placed;
}

asks-brings : (g l : Givens) (w : World) (o : Option Change) → Facts g w → Recovering l w → IfSome o (Quiet w) → IfSome o (Brings l w)
asks-brings g l w o f h q = some-weaker (Quiet w) (Brings l w) o (λ k x. record { news = λ a. quiet-news g l w k f h a x }) q

office-brings : (g l : Givens) (w : World) (c : Caller) → Facts g w → Recovering l w → IfSome (office_event w c) (Brings l w)
office-brings g l w (caller.Writer b) f h = asks-brings g l w (writer_asks_office w b.0) f h (writer-asks-quiet w b.0)
office-brings g l w (caller.Primary i b) f h = primary-asks-brings (w.primaries i) g l w i b f h refl

office-fits : (g : Givens) (w : World) (c : Caller) → Facts g w → Recovering g w → IfSome (changed w (office_event w c)) (Carried (given_with g (stamped_in (office_event w c))))
    → IfSome (changed w (office_event w c)) (Coming (given_with g (stamped_in (office_event w c))) w)
office-fits g w c f h a =
    let l = given_with g (stamped_in (office_event w c)) in
    let i = later-fits g (stamped_in (office_event w c)) w h in
    changed-fits g l w (office_event w c) f.carried i a (office-brings g l w c f i)

-- RESTARTS

restart-fits : (g : Givens) (w : World) (n : ℕ) (list : List FoundReplica) → Recovering g w → Recovering g (restart w n list)
unfolding restart
restart-fits g w n list h = record {
  lives = λ c lt. at-lives (w.dialled c).to.node (w.dialled c).to.life (h.lives c lt) ((w.dialled c).to.node == n) refl;
  asks = h.asks;
  told = h.told;
  still = λ c b id i x. at-still c b id i x ((w.dialled c).to.node == n) refl;
  updates = h.updates;
  updated = h.updated;
  settled = λ u x life. at-settled u x (u.node == n) refl life;
  earlier = h.earlier;
  one_length = h.one_length;
  primaries = h.primaries;
  sends = h.sends;
  one_primary = h.one_primary;
  placed = h.placed;
}
  where
    at-lives : (m l : ℕ) → l ≤ w.lives m → (t : Bool) → (m == n) ≡ t → l ≤ (if t then w.lives n + 1 else w.lives m)
    at-lives m l le true e = omega (arith, le, ap w.lives (eqb-true m n e))
    at-lives m l le false e = le

    New : ℕ → FullReplica
    New b = restarted b (w.replicas n b) (w.breaks n b) (found_in list b)

    -- no update was of a later life
    born : (u : Updated) → Has w.updated u → u.life ≤ w.lives u.node
    born u x = let s = h.updated u x in subst (λ (p : Place). p.life ≤ w.lives p.node) s.to (h.lives s.conn s.known)

    at-settled : (u : Updated) → Has w.updated u → (t : Bool) → (u.node == n) ≡ t → u.life ≡ (if t then w.lives n + 1 else w.lives u.node) → AtLeast ((if t then New else w.replicas u.node) u.block).known.info u.recovery
    at-settled u x true e life = absurd (omega (arith, life, born u x, ap w.lives (eqb-true u.node n e)))
    at-settled u x false e life = h.settled u x life

    at-still : (c b : ℕ) (id : Stamp) (i : ReplicaTold) → Informs w.past c b id i → (t : Bool) → ((w.dialled c).to.node == n) ≡ t → (w.dialled c).to.life ≡ (if t then w.lives n + 1 else w.lives (w.dialled c).to.node)
        → StillTrue id i ((if t then New else w.replicas (w.dialled c).to.node) b).known.info
    at-still c b id i x true e life = absurd (omega (arith, life, h.lives c (h.told c b id i x).known, ap w.lives (eqb-true (w.dialled c).to.node n e)))
    at-still c b id i x false e life = h.still c b id i x life

-- ALL EVENTS

where-fits : (g : Givens) (w : World) (test : Bool) (v : World) → v.past ≡ w.past → Recovering g v → IfSome (where_so test v) (Coming g w)
where-fits g w true v e h = record { recovering = h; tells = same-tells w v e }
where-fits g w false v e h = tt

stop-fits : (g : Givens) (w : World) (n : ℕ) → Recovering g w → Recovering g (stop w n)
stop-fits g w n h = record { lives = h.lives; asks = h.asks; told = h.told; still = h.still; updates = h.updates; updated = h.updated; settled = h.settled; earlier = h.earlier; one_length = h.one_length; primaries = h.primaries; sends = h.sends; one_primary = h.one_primary; placed = h.placed }

lost-fits : (g : Givens) (w : World) (c : ℕ) (way : Direction) (more : ℕ) → Recovering g w → Recovering g (lost w c way more)
lost-fits g w c direction.Down more h = record { lives = h.lives; asks = h.asks; told = h.told; still = h.still; updates = h.updates; updated = h.updated; settled = h.settled; earlier = h.earlier; one_length = h.one_length; primaries = h.primaries; sends = h.sends; one_primary = h.one_primary; placed = h.placed }
lost-fits g w c direction.Up more h = record { lives = h.lives; asks = h.asks; told = h.told; still = h.still; updates = h.updates; updated = h.updated; settled = h.settled; earlier = h.earlier; one_length = h.one_length; primaries = h.primaries; sends = h.sends; one_primary = h.one_primary; placed = h.placed }

lost-past : (w : World) (c : ℕ) (way : Direction) (more : ℕ) → (lost w c way more).past ≡ w.past
lost-past w c direction.Down more = refl
lost-past w c direction.Up more = refl

restart-past : (w : World) (n : ℕ) (list : List FoundReplica) → (restart w n list).past ≡ w.past
unfolding restart
restart-past w n list = refl

outcome-fits : (g : Givens) (w : World) (e : Event) → Facts g w → Agreed w → Recovering g w → Writes w → IfSome (outcome w e) (Coming (given_by g w e) w)
unfolding outcome
outcome-fits g w (event.Own s) f a h j = changed-fits g g w (own_change w s) f.carried h (changed-carried g w (own_change w s) (own-keeps g w s f)) (own-brings g w s f h)
outcome-fits g w (event.Office c) f a h j = office-fits g w c f h (office-carried g w (office_event w c) (office-event-keeps g w c f a))
outcome-fits g w (event.Down c answered) f a h j = down-fits g w c.0 answered false f h j
outcome-fits g w (event.Ready c) f a h j = ready-fits g w c.0 false f h
outcome-fits g w (event.Up c) f a h j = up-fits g w c.0 false f h
outcome-fits g w (event.Lost c way more) f a h j = where-fits g w (nat_lt c.0 w.next_conn) (lost w c.0 way more) (lost-past w c.0 way more) (lost-fits g w c.0 way more h)
outcome-fits g w (event.Fault d) f a h j = fault-fits g w d f h j
outcome-fits g w (event.Stop n) f a h j = where-fits g w (w.running n.0) (stop w n.0) refl (stop-fits g w n.0 h)
outcome-fits g w (event.Restart n list) f a h j =
    where-fits g w (nat_lt n.0 w.nodes && not (w.running n.0)) (restart w n.0 list) (restart-past w n.0 list) (restart-fits g w n.0 list h)

-- an event that isn't enabled gives no stamp
idle-office : (g : Givens) (w : World) (o : Option Change) → changed w o ≡ None → Recovering g w → Recovering (given_with g (stamped_in o)) w
idle-office g w None e h = h
idle-office g w (Some k) e h = absurd (none-some (apply w k) (sym e))

idle-fits : (g : Givens) (w : World) (e : Event) → outcome w e ≡ None → Recovering g w → Recovering (given_by g w e) w
unfolding outcome
idle-fits g w (event.Own s) i h = h
idle-fits g w (event.Office c) i h = idle-office g w (office_event w c) i h
idle-fits g w (event.Down c answered) i h = h
idle-fits g w (event.Ready c) i h = h
idle-fits g w (event.Up c) i h = h
idle-fits g w (event.Lost c way more) i h = h
idle-fits g w (event.Fault d) i h = h
idle-fits g w (event.Stop n) i h = h
idle-fits g w (event.Restart n list) i h = h

last-fits : (g : Givens) (v : World) (e : Event) → Recovering g v → Recovering g (record v { last = Some e })
last-fits g v e k = record { lives = k.lives; asks = k.asks; told = k.told; still = k.still; updates = k.updates; updated = k.updated; settled = k.settled; earlier = k.earlier; one_length = k.one_length; primaries = k.primaries; sends = k.sends; one_primary = k.one_primary; placed = k.placed }

back-fits : (g : Givens) (w v : World) (e : Event) → Coming g w (record v { last = Some e }) → Coming g w v
back-fits g w v e c = let k = c.recovering in record {
  recovering = record { lives = k.lives; asks = k.asks; told = k.told; still = k.still; updates = k.updates; updated = k.updated; settled = k.settled; earlier = k.earlier; one_length = k.one_length; primaries = k.primaries; sends = k.sends; one_primary = k.one_primary; placed = k.placed };
  tells = record { each = c.tells.each };
}

-- what is known of the world after an event is known of its outcome
pub outcome-coming : (g : Givens) (w : World) (e : Event) (o : Option World) → Coming g w (after_event w e o) → IfSome o (Coming g w)
outcome-coming g w e None c = tt
outcome-coming g w e (Some v) c = back-fits g w v e c

after-fits : (g : Givens) (w : World) (e : Event) (o : Option World) → outcome w e ≡ o → Recovering g w → IfSome o (Coming (given_by g w e) w) → Coming (given_by g w e) w (after_event w e o)
after-fits g w e None i h k = record { recovering = idle-fits g w e i h; tells = same-tells w w refl }
after-fits g w e (Some v) i h k = record { recovering = last-fits (given_by g w e) v e k.recovering; tells = record { each = k.tells.each } }

pub happens-fits : (g : Givens) (w : World) (e : Event) → Facts g w → Agreed w → Recovering g w → Writes w → Coming (given_by g w e) w (happens w e)
unfolding happens
happens-fits g w e f a h j = after-fits g w e (outcome w e) refl h (outcome-fits g w e f a h j)

pub reached-writes : (w : World) → Reached w → (n b : ℕ) → IsSetUp w.joined (w.lives n) (w.running n) n (w.replicas n b)
reached-writes w r = subst (λ (v : World). (n b : ℕ) → IsSetUp v.joined (v.lives n) (v.running n) n (v.replicas n b)) r.is (all-set r.nodes r.events).writes

run-fits : (g : Givens) (w : World) (events : List Event) → Reached w → Recorded g w → Carried g w → Recovering g w → Recovering (given_in g w events) (run w events)
run-fits g w [] r i c h = h
run-fits g w (e ∷ events) r i c h =
    let a = reached-agreed w r in
    let f = reached-facts g w r i c in
    run-fits (given_by g w e) (happens w e) events (reached-next w e r) (happens-recorded g w e i a) (happens-carried g w e f a) (happens-fits g w e f a h (reached-writes w r)).recovering

pub start-fits : (nodes : ℕ) → Recovering none_given (start nodes)
unfolding start
start-fits nodes = record {
  lives = λ c lt. absurd (omega (arith, lt));
  asks = λ c i q e. absurd (none-some _ e);
  told = λ c b id i x. absurd (none-some _ x.there);
  still = λ c b id i x life. absurd (none-some _ x.there);
  updates = λ c b id n x. absurd (none-some _ x.there);
  one_length = λ c d a b id n m x y. absurd (none-some _ x.there);
  primaries = λ i. tt;
  sends = λ i. tt;
  one_primary = λ i j id a b. absurd a;
  updated = λ u x. absurd (none-some u x.there);
  settled = λ u x life. absurd (none-some u x.there);
  earlier = λ c b id i x. absurd (none-some _ x.there);
  placed = λ c i place lt u. absurd (omega (arith, lt));
}

pub all-recovering : (nodes : ℕ) (events : List Event) → Recovering (given_in none_given (start nodes) events) (run (start nodes) events)
all-recovering nodes events = run-fits none_given (start nodes) events (at-start nodes) (start-recorded nodes) (start-carried nodes) (start-fits nodes)
