-- What acks and answers say holds after every list of events.
use Rattle.std.proofs.Common.{◌≡◌, ℕ, ◌<◌, ◌≤◌, Bool, true, false, List, [], ◌∷◌, slice_get, Option, Some, None, IfSome, refl, sym, ◌∙◌, ap, subst, arith, eqb-true, inl, inr, length}
use Rattle.std.specs.Prelude.{◌==◌, ◌&&◌, ◌+◌, not, nat_lt, if◌then◌else◌}
use Rattle.std.proofs.lemmas.Bool.Decides.{nat_tests}
use Rattle.std.proofs.lemmas.Bool.{false≢true}
use Rattle.std.proofs.lemmas.Option.{none-some}
use Rattle.replica_model.specs.Rows.{FullReplica, IsFull}
use Rattle.replica_model.specs.Found.{Found}
use Rattle.world_recoveries.specs.World.Delivery.{Delivery}
use Rattle.world_recoveries.specs.World.Delivery.TheVariants as delivery
use Rattle.world_recoveries.specs.World.Direction.{Direction}
use Rattle.world_recoveries.specs.World.Direction.TheVariants as direction
use Rattle.world_recoveries.specs.World.Event.{Event}
use Rattle.world_recoveries.specs.World.Event.TheVariants as event
use Rattle.world_recoveries.specs.World.FoundReplica.{FoundReplica}
use Rattle.world_recoveries.specs.World.OwnStep.{OwnStep}
use Rattle.world_recoveries.specs.World.OwnStep.TheVariants as own
use Rattle.world_recoveries.specs.World.Parts.{Upper, by_writer, by_member, by_reader, by_primary, Break}
use Rattle.world_recoveries.specs.World.Worlds.{World, Change, apply, start}
use Rattle.world_recoveries.specs.World.Connections.{Next, message, the_end, next_down, next_up, down_taken, up_taken, is_alive, is_served}
use Rattle.world_recoveries.specs.World.Nodes.{node_of, lower_down, lower_ready}
use Rattle.world_recoveries.specs.World.Clients.{writer_up, reader_up}
use Rattle.world_recoveries.specs.World.Primaries.{primary_up, office_event}
use Rattle.world_recoveries.specs.World.Restarts.{may_find, whole_found, found_in, replica_found, restarted, restart}
use Rattle.world_recoveries.specs.World.Events.{changed, own_change, down_as, down_event, ready_event, unless_fails, upper_up, up_as, up_event, fault_event, lost, stop, where_so, outcome, after_event, happens, run}
use Rattle.world_recoveries.specs.World.Safe.{Has}
use Rattle.world_recoveries.proofs.WorldLaws.FactTables.{if-each, and-right, and-left, some-weaker}
use Rattle.world_recoveries.specs.WorldLaws.Stamping.{Givens, none_given, given_with, stamped_in, given_by, given_in}
use Rattle.world_recoveries.proofs.WorldLaws.AllRecorded.{happens-recorded, Reached, reached-next, reached-agreed, start-recorded}
use Rattle.world_recoveries.proofs.WorldLaws.ByteLeaves.{Facts}
use Rattle.world_recoveries.proofs.WorldLaws.AllCarried.{down-taken-facts, up-taken-facts, happens-carried, reached-facts, at-start, start-carried}
use Rattle.world_recoveries.specs.WorldLaws.Joining.{joined_as, SetUps}
use Rattle.world_recoveries.proofs.WorldLaws.AllSetUp.{happens-set, start-set}
use Rattle.world_recoveries.proofs.AllRecovering.{Coming, down-taken-fits, up-taken-fits, outcome-coming, happens-fits, start-fits}
use Rattle.world_acks.specs.Acking.{Shown, ToldBytes, Seat, UpdatesLeave, Ends, Pends, UpperTells, Acked, AllAcked}
use Rattle.world_acks.specs.Closing.{FinalUnder, BrokeFinal, HasClosed, StandsClosed}
use Rattle.world_acks.specs.Waiting.{Requests, IsQuiet, AllWaiting}
use Rattle.world_acks.proofs.Requests.{Requesting, quiet-apply, requests-apply, same-quiet, same-requests}
use Rattle.world_acks.proofs.ClosedLaws.{GoesOn, stands-on}
use Rattle.world_acks.proofs.Seats.{Onward, Lasting, join-on, up-on, down-on, upper-on, lower-on}
use Rattle.world_acks.proofs.ClosedMoves.{Moved, moves-on, untouched-moved, lower-ready-moved, down-moves, upper-moved, own-moved, restart-on, next-sent}
use Rattle.world_acks.specs.Passing.{PassesTo}
use Rattle.world_acks.proofs.Passing.{passes-like}
use Rattle.world_acks.proofs.Frame.{apply-onward, keeps}
use Rattle.world_acks.proofs.Turning.{Known, HeardTells}
use Rattle.world_acks.proofs.Lowers.{Leaf, after-at}
use Rattle.world_acks.proofs.Ends.{NextTells, lower-down-leaf, lower-ready-leaf, mirror-up-leaf}
use Rattle.world_acks.proofs.Clients.{Leads, leaf-leads}
use Rattle.world_acks.proofs.Offices.{own-writer-leads, writer-up-leads, own-reader-leads, reader-up-leads, own-recover-leads, own-primary-leads, primary-up-leads}
use Rattle.world_acks.proofs.Granting.{OfficeLeads, fresh-given, office-event-leads}
use Rattle.world_recoveries.proofs.WorldLaws.ReplicaUntouching.{office-untouched}

-- nothing is known of the ends of packets
pub no_ends : Ends
no_ends e q = None

-- WORLDS WITH THE SAME PAST

-- a world with the same past, lower ends, replicas, writers and office, whose nodes run only where they ran before
pub record IsLike (w v : World) : Type 0 where
  pub past : v.past ≡ w.past
  pub runs : (n : ℕ) → v.running n ≡ true → w.running n ≡ true
  pub lives : (n : ℕ) → v.lives n ≡ w.lives n
  pub replicas : (n b : ℕ) → v.replicas n b ≡ w.replicas n b

pub like-onward : (g : Givens) (t : Ends) (w v : World) → IsLike w v → Onward g g t t w v
like-onward g t w v l = record {
  seats = λ b s e n j h. record {
    life = h.life;
    joins = subst (λ p. Has p.joined (joined_as s n h.life)) (sym l.past) h.joins;
    born = omega (arith, h.born, l.lives n);
    shows = λ r a q i le u.
        subst (λ (x : FullReplica). Shown x s i (v.written e)) (sym (l.replicas n b)) (subst (λ p. Shown (w.replicas n b) s i (p.written e)) (sym l.past)
        (h.shows (l.runs n r) (sym (l.lives n) ∙ a) (ap (λ (x : FullReplica). x.known.is_broken) (sym (l.replicas n b)) ∙ q) i le (record { each = λ x y. u.each x (subst (λ p. Has p.updated x) (sym l.past) y) })));
    told = subst (λ p. ToldBytes p b s n h.life j) (sym l.past) h.told;
    passes = passes-like w v b s n h.life l.past (l.lives n) (l.replicas n b) h.passes;
  };
  given = λ b s e q. q;
  named = λ e x q n. n;
  first = λ c m e. subst (λ p. slice_get (p.downs c) 0 ≡ Some m) (sym l.past) e;
  conns = omega (arith, ap (λ p. p.next_conn) l.past);
  dialled = λ c lt. ap (λ p. p.dialled c) l.past;
  joined = λ x h. subst (λ p. Has p.joined x) (sym l.past) h;
  written = λ e. omega (arith, ap (λ p. length (p.written e)) l.past);
}

-- where breaks and lower ends are the same too, nodes that stand closed do so still
like-lasting : (g : Givens) (t : Ends) (w v : World) → IsLike w v → ((n b : ℕ) → v.breaks n b ≡ w.breaks n b) → ((c : ℕ) → v.lowers c ≡ w.lowers c) → Lasting g g t t w v
like-lasting g t w v l k d = record {
  on = like-onward g t w v l;
  closed = λ b s n h. record { has = go b s n h.has; quiet = same-quiet w v s l.past d h.quiet };
  quiet = λ s q. same-quiet w v s l.past d q;
}
  where
    go : (b s n : ℕ) → HasClosed g w b s n → HasClosed g v b s n
    go b s n (inl x) = inl (record {
      replica = subst (λ (r : FullReplica). FinalUnder s r.known.info) (sym (l.replicas n b)) x.replica;
      broke = subst (λ (o : Option Break). IfSome o (BrokeFinal s)) (sym (k n b)) x.broke;
    })
    go b s n (inr x) = inr x

down-taken-acked : (g : Givens) (t : Ends) (w : World) (c : ℕ) (x : Next) → Acked g t w → Acked g t (down_taken w c x)
unfolding down_taken
down-taken-acked g t w c x h =
    let v = down_taken w c x in
    let on = like-lasting g t w v (record { past = refl; runs = λ n e. e; lives = λ n. refl; replicas = λ n b. refl }) (λ m b. refl) (λ d. refl) in
    record {
      lives = h.lives;
      joins = λ a n l x. join-on g g t t w v a n l on.on (h.joins a n l x);
      begun = h.begun;
      ups = λ d i m e. up-on g g t t w v d m on (h.ups d i m e);
      downs = λ d i m e. down-on g g t t w v d m on.on (h.downs d i m e);
      uppers = λ d lt. upper-on g g t t w v d (w.dialled d).upper on.on lt (h.uppers d lt);
      lowers = λ d. lower-on g g t t w v d (w.lowers d) on (h.lowers d);
      replicas = h.replicas;
      writers = h.writers;
    }

up-taken-acked : (g : Givens) (t : Ends) (w : World) (c : ℕ) (x : Next) → Acked g t w → Acked g t (up_taken w c x)
unfolding up_taken
up-taken-acked g t w c x h =
    let v = up_taken w c x in
    let on = like-lasting g t w v (record { past = refl; runs = λ n e. e; lives = λ n. refl; replicas = λ n b. refl }) (λ m b. refl) (λ d. refl) in
    record {
      lives = h.lives;
      joins = λ a n l x. join-on g g t t w v a n l on.on (h.joins a n l x);
      begun = h.begun;
      ups = λ d i m e. up-on g g t t w v d m on (h.ups d i m e);
      downs = λ d i m e. down-on g g t t w v d m on.on (h.downs d i m e);
      uppers = λ d lt. upper-on g g t t w v d (w.dialled d).upper on.on lt (h.uppers d lt);
      lowers = λ d. lower-on g g t t w v d (w.lowers d) on (h.lowers d);
      replicas = h.replicas;
      writers = h.writers;
    }

down-taken-set : (g : Givens) (w : World) (c : ℕ) (x : Next) → SetUps g w → SetUps g (down_taken w c x)
unfolding down_taken
down-taken-set g w c x h = record { answers = h.answers; given = h.given; reached = h.reached; plain = h.plain; writes = h.writes; breaks = h.breaks }

up-taken-set : (g : Givens) (w : World) (c : ℕ) (x : Next) → SetUps g w → SetUps g (up_taken w c x)
unfolding up_taken
up-taken-set g w c x h = record { answers = h.answers; given = h.given; reached = h.reached; plain = h.plain; writes = h.writes; breaks = h.breaks }

down-taken-requests : (w : World) (c : ℕ) (x : Next) → Requests w → Requests (down_taken w c x)
unfolding down_taken
down-taken-requests w c x h = same-requests w (down_taken w c x) refl (λ d. refl) (λ b. refl) h

up-taken-requests : (w : World) (c : ℕ) (x : Next) → Requests w → Requests (up_taken w c x)
unfolding up_taken
up-taken-requests w c x h = same-requests w (up_taken w c x) refl (λ d. refl) (λ b. refl) h

pub down-known : (g : Givens) (t : Ends) (w : World) (c : ℕ) (x : Next) → Known g t w → Known g t (down_taken w c x)
down-known g t w c x h = record { facts = down-taken-facts g w c x h.facts; sets = down-taken-set g w c x h.sets; requests = down-taken-requests w c x h.requests; acked = down-taken-acked g t w c x h.acked; recovering = down-taken-fits g w c x h.recovering }

pub up-known : (g : Givens) (t : Ends) (w : World) (c : ℕ) (x : Next) → Known g t w → Known g t (up_taken w c x)
up-known g t w c x h = record { facts = up-taken-facts g w c x h.facts; sets = up-taken-set g w c x h.sets; requests = up-taken-requests w c x h.requests; acked = up-taken-acked g t w c x h.acked; recovering = up-taken-fits g w c x h.recovering }

-- CHANGES

-- what holds of a world that comes after another
pub record Follows (g : Givens) (w v : World) : Type 0 where
  pub facts : Facts g v
  pub coming : Coming g w v

-- the same where marks moved on before
pub down-follows : (g : Givens) (w : World) (c : ℕ) (x : Next) (o : Option World) → IfSome o (Follows g w) → IfSome o (Follows g (down_taken w c x))
unfolding down_taken
down-follows g w c x o h =
    some-weaker (Follows g w) (Follows g (down_taken w c x)) o (λ u k. record { facts = k.facts; coming = record { recovering = k.coming.recovering; tells = record { each = k.coming.tells.each } } }) h

pub up-follows : (g : Givens) (w : World) (c : ℕ) (x : Next) (o : Option World) → IfSome o (Follows g w) → IfSome o (Follows g (up_taken w c x))
unfolding up_taken
up-follows g w c x o h =
    some-weaker (Follows g w) (Follows g (up_taken w c x)) o (λ u k. record { facts = k.facts; coming = record { recovering = k.coming.recovering; tells = record { each = k.coming.tells.each } } }) h

-- of a world after another: it has some ends of packets, and nodes that stood closed stand so
pub record Told (f : Givens) (u : World) (g : Givens) (w : World) : Type 0 where
  pub ends : Ends
  pub acked : Acked g ends w
  pub requests : Requests w
  pub closed : (b s n : ℕ) → StandsClosed f u b s n → StandsClosed g w b s n

-- what a change leads to lasts
apply-lasting : (g l : Givens) (t u : Ends) (w : World) (k : Change) → Known g t w → Moved w k → Requesting w k → Facts l (apply w k) → Onward g l t u w (apply w k) → Lasting g l t u w (apply w k)
apply-lasting g l t u w k h m r f on =
    let quiet : (s : ℕ) → IsQuiet w s → IsQuiet (apply w k) s = λ s q. quiet-apply g l w k s h.requests r h.facts f q in
    let goes : GoesOn g l w (apply w k) = record { given = on.given; went = moves-on w k m; carried = f.carried; full = h.facts.full; plain = h.sets.plain; quiet = quiet } in
    record { on = on; closed = λ b s n x. stands-on g l w (apply w k) b s n goes x; quiet = quiet }

changed-told : (g : Givens) (t : Ends) (w : World) (o : Option Change) → Known g t w → IfSome o (Moved w) → IfSome o (Leads g g t w) → IfSome (changed w o) (Follows g w) → IfSome (changed w o) (Told g w g)
changed-told g t w None h m l f = tt
changed-told g t w (Some k) h m l f =
    let new = subst (λ (r : FullReplica). IsFull r) (after-at w k) (f.facts.full k.node k.block) in
    let on = apply-onward g g t l.ends w k l.steps h.recovering f.coming.tells f.coming.recovering h.facts.full new (λ b s e q. q) l.named in
    let lasts = apply-lasting g g t l.ends w k h m l.requests f.facts on in
    record { ends = l.ends; acked = keeps g g t l.ends w k h.acked lasts (l.news lasts f.facts f.coming.recovering); requests = requests-apply g g w k h.requests l.requests h.facts f.facts; closed = lasts.closed }

office-told : (g : Givens) (t : Ends) (w : World) (o : Option Change) → Known g t w → IfSome o (Moved w) → IfSome o (OfficeLeads g t w) → IfSome (changed w o) (Follows (given_with g (stamped_in o)) w) → IfSome (changed w o) (Told g w (given_with g (stamped_in o)))
office-told g t w None h m l f = tt
office-told g t w (Some k) h m x f =
    let l = x.leads in
    let new = subst (λ (r : FullReplica). IsFull r) (after-at w k) (f.facts.full k.node k.block) in
    let on = apply-onward g (given_with g k.stamped) t l.ends w k l.steps h.recovering f.coming.tells f.coming.recovering h.facts.full new (fresh-given g t w k.stamped h x.fresh) l.named in
    let lasts = apply-lasting g (given_with g k.stamped) t l.ends w k h m l.requests f.facts on in
    record { ends = l.ends; acked = keeps g (given_with g k.stamped) t l.ends w k h.acked lasts (l.news lasts f.facts f.coming.recovering); requests = requests-apply g (given_with g k.stamped) w k h.requests l.requests h.facts f.facts; closed = lasts.closed }

-- the same of what came before marks moved on
told-before : (g : Givens) (w v : World) (o : Option World) → ((b s n : ℕ) → StandsClosed g w b s n → StandsClosed g v b s n) → IfSome o (Told g v g) → IfSome o (Told g w g)
told-before g w v o c h = some-weaker (Told g v g) (Told g w g) o (λ u k. record { ends = k.ends; acked = k.acked; requests = k.requests; closed = λ b s n x. k.closed b s n (c b s n x) }) h

down-closed : (g : Givens) (w : World) (c : ℕ) (x : Next) (b s n : ℕ) → StandsClosed g w b s n → StandsClosed g (down_taken w c x) b s n
unfolding down_taken
down-closed g w c x b s n h = (like-lasting g no_ends w (down_taken w c x) (record { past = refl; runs = λ m e. e; lives = λ m. refl; replicas = λ m d. refl }) (λ m d. refl) (λ d. refl)).closed b s n h

up-closed : (g : Givens) (w : World) (c : ℕ) (x : Next) (b s n : ℕ) → StandsClosed g w b s n → StandsClosed g (up_taken w c x) b s n
unfolding up_taken
up-closed g w c x b s n h = (like-lasting g no_ends w (up_taken w c x) (record { past = refl; runs = λ m e. e; lives = λ m. refl; replicas = λ m d. refl }) (λ m d. refl) (λ d. refl)).closed b s n h

pub leads-of : (g : Givens) (t : Ends) (w : World) (o : Option Change) → IfSome o (Leaf g t w) → IfSome o (Leads g g t w)
leads-of g t w o h = some-weaker (Leaf g t w) (Leads g g t w) o (λ k l. leaf-leads g t w k l) h

-- both of a test
pub when-two : {A : Type 0} (Q P : A → Type 0) (b : Bool) (o : Option A) → IfSome (if b then o else None) Q → (b ≡ true → IfSome o Q → IfSome o P) → IfSome (if b then o else None) P
when-two Q P true o q h = h refl q
when-two Q P false o q h = tt

-- DELIVERIES

alive-life : (w : World) (c : ℕ) → is_alive w (w.dialled c).to ≡ true → w.lives (node_of w c) ≡ (w.dialled c).to.life
alive-life w c e = let p = (w.dialled c).to in eqb-true (w.lives p.node) p.life (and-right (w.running p.node) (w.lives p.node == p.life) e)

pub lt-true : (a b : ℕ) → nat_lt a b ≡ true → a < b
lt-true a b e = grind (arith, nat_tests, e)

pub served-known : (w : World) (c : ℕ) → is_served w c ≡ true → c < w.next_conn
served-known w c e = lt-true c w.next_conn (and-left (nat_lt c w.next_conn) (is_alive w (w.dialled c).to) e)

pub served-life : (w : World) (c : ℕ) → is_served w c ≡ true → w.lives (node_of w c) ≡ (w.dialled c).to.life
served-life w c e = alive-life w c (and-right (nat_lt c w.next_conn) (is_alive w (w.dialled c).to) e)

pub next-tells : (g : Givens) (t : Ends) (w : World) (c : ℕ) (x : Next) → Known g t w → next_down w c ≡ Some x → NextTells g t w c x
next-tells g t w c (message m) h e = (h.facts.carried.downs c (w.down_marks c).taken m (next-sent (w.downs c) (w.down_marks c) m e), h.acked.downs c (w.down_marks c).taken m (next-sent (w.downs c) (w.down_marks c) m e))
next-tells g t w c the_end h e = tt

pub taken-tells : (g : Givens) (t : Ends) (w : World) (c : ℕ) (x y : Next) → NextTells g t w c y → NextTells g t (down_taken w c x) c y
unfolding down_taken
taken-tells g t w c x (message m) h =
    (h.0, down-on g g t t w (down_taken w c x) c m (like-onward g t w (down_taken w c x) (record { past = refl; runs = λ n e. e; lives = λ n. refl; replicas = λ n b. refl })) h.1)
taken-tells g t w c x the_end h = tt

pub heard-tells : (g : Givens) (t : Ends) (w : World) (c : ℕ) (x : Next) → Known g t w → next_up w c ≡ Some x → HeardTells g t (up_taken w c x) c x
unfolding up_taken
heard-tells g t w c (message m) h e =
    up-on g g t t w (up_taken w c (message m)) c m (like-lasting g t w (up_taken w c (message m)) (record { past = refl; runs = λ n q. q; lives = λ n. refl; replicas = λ n b. refl }) (λ n b. refl) (λ d. refl)) (h.acked.ups c (w.up_marks c).taken m (next-sent (w.ups c) (w.up_marks c) m e))
heard-tells g t w c the_end h e = tt

pub lower-taken : (g : Givens) (t : Ends) (w : World) (c : ℕ) (x : Next) (answered fails : Bool) → Known g t (down_taken w c x) → c < w.next_conn → w.lives (node_of w c) ≡ (w.dialled c).to.life → NextTells g t (down_taken w c x) c x
    → IfSome (lower_down (w.lowers c) (down_taken w c x) c x answered fails) (Leaf g t (down_taken w c x))
unfolding down_taken
lower-taken g t w c x answered fails h lt alive n = lower-down-leaf (w.lowers c) g t (down_taken w c x) c x answered fails h refl lt alive n

down-as-told : (g : Givens) (t : Ends) (w : World) (c : ℕ) (answered fails : Bool) (o : Option Next) → Known g t w → c < w.next_conn → w.lives (node_of w c) ≡ (w.dialled c).to.life → next_down w c ≡ o → IfSome (down_as w c answered fails o) (Follows g w)
    → IfSome (down_as w c answered fails o) (Told g w g)
down-as-told g t w c answered fails None h lt alive e f = tt
down-as-told g t w c answered fails (Some x) h lt alive e f =
    let v = down_taken w c x in
    told-before g w v _ (down-closed g w c x)
    (changed-told g t v (lower_down (w.lowers c) v c x answered fails) (down-known g t w c x h) (down-moves g w c x answered fails h.facts.carried e)
    (leads-of g t v (lower_down (w.lowers c) v c x answered fails) (lower-taken g t w c x answered fails (down-known g t w c x h) lt alive (taken-tells g t w c x x (next-tells g t w c x h e)))) (down-follows g w c x _ f))

down-told : (g : Givens) (t : Ends) (w : World) (c : ℕ) (answered fails : Bool) → Known g t w → IfSome (down_event w c answered fails) (Follows g w) → IfSome (down_event w c answered fails) (Told g w g)
down-told g t w c answered fails h f = when-two (Follows g w) (Told g w g) (is_served w c) _ f (λ e q. down-as-told g t w c answered fails (next_down w c) h (served-known w c e) (served-life w c e) refl q)

ready-told : (g : Givens) (t : Ends) (w : World) (c : ℕ) (fails : Bool) → Known g t w → IfSome (ready_event w c fails) (Follows g w) → IfSome (ready_event w c fails) (Told g w g)
ready-told g t w c fails h f =
    when-two (Follows g w) (Told g w g) (is_served w c) _ f (λ e q. changed-told g t w (lower_ready (w.lowers c) w c fails) h (lower-ready-moved (w.lowers c) w c fails) (leads-of g t w (lower_ready (w.lowers c) w c fails) (lower-ready-leaf (w.lowers c) g t w c fails h refl (served-life w c e))) q)

unless-leads : (g : Givens) (t : Ends) (w : World) (fails : Bool) (o : Option Change) → IfSome o (Leads g g t w) → IfSome (unless_fails fails o) (Leads g g t w)
unless-leads g t w true o l = tt
unless-leads g t w false o l = l

upper-leads : (u : Upper) (g : Givens) (t : Ends) (w : World) (c : ℕ) (x : Next) (fails : Bool) → Known g t w → (w.dialled c).upper ≡ u → c < w.next_conn → HeardTells g t w c x → IfSome (upper_up u w c x fails) (Leads g g t w)
upper-leads (by_writer b) g t w c x fails h e lt n = unless-leads g t w fails (writer_up w b c x) (writer-up-leads g t w b c x h)
upper-leads (by_member d) g t w c x fails h e lt n =
    leads-of g t w _ (mirror-up-leaf (w.lowers d) g t w d c x fails h refl (λ a. alive-life w d a) (subst (λ (u : Upper). UpperTells w.past c u) e (h.acked.uppers c lt)) n)
upper-leads (by_reader i) g t w c x fails h e lt n = unless-leads g t w fails (reader_up w i c x) (reader-up-leads g t w i c x h)
upper-leads (by_primary i p) g t w c x fails h e lt n = unless-leads g t w fails (primary_up w i p c x) (primary-up-leads g t w i p c x h)

pub upper-taken : (g : Givens) (t : Ends) (w : World) (c : ℕ) (x : Next) (fails : Bool) → Known g t (up_taken w c x) → c < w.next_conn → HeardTells g t (up_taken w c x) c x → IfSome (upper_up (w.dialled c).upper (up_taken w c x) c x fails) (Leads g g t (up_taken w c x))
unfolding up_taken
upper-taken g t w c x fails h lt n = upper-leads (w.dialled c).upper g t (up_taken w c x) c x fails h refl lt n

up-as-told : (g : Givens) (t : Ends) (w : World) (c : ℕ) (fails : Bool) (o : Option Next) → Known g t w → c < w.next_conn → next_up w c ≡ o → IfSome (up_as w c fails o) (Follows g w) → IfSome (up_as w c fails o) (Told g w g)
up-as-told g t w c fails None h lt e f = tt
up-as-told g t w c fails (Some x) h lt e f =
    let v = up_taken w c x in
    told-before g w v _ (up-closed g w c x)
    (changed-told g t v (upper_up (w.dialled c).upper v c x fails) (up-known g t w c x h) (upper-moved (w.dialled c).upper v c x fails) (upper-taken g t w c x fails (up-known g t w c x h) lt (heard-tells g t w c x h e)) (up-follows g w c x _ f))

up-told : (g : Givens) (t : Ends) (w : World) (c : ℕ) (fails : Bool) → Known g t w → IfSome (up_event w c fails) (Follows g w) → IfSome (up_event w c fails) (Told g w g)
up-told g t w c fails h f = when-two (Follows g w) (Told g w g) (nat_lt c w.next_conn) _ f (λ e q. up-as-told g t w c fails (next_up w c) h (lt-true c w.next_conn e) refl q)

fault-told : (g : Givens) (t : Ends) (w : World) (d : Delivery) → Known g t w → IfSome (fault_event w d) (Follows g w) → IfSome (fault_event w d) (Told g w g)
fault-told g t w (delivery.Down c) h f = down-told g t w c.0 false true h f
fault-told g t w (delivery.Ready c) h f = ready-told g t w c.0 true h f
fault-told g t w (delivery.Up c) h f = up-told g t w c.0 true h f

pub own-leads : (g : Givens) (t : Ends) (w : World) (s : OwnStep) → Known g t w → IfSome (own_change w s) (Leads g g t w)
own-leads g t w (own.Writer b takes answered) h = own-writer-leads g t w b.0 takes answered h
own-leads g t w (own.Reader i n r answered) h = own-reader-leads g t w i n.0 r answered h
own-leads g t w (own.Recover i n b members answers) h = own-recover-leads g t w i n.0 b members answers h
own-leads g t w (own.Primary i) h = own-primary-leads g t w i h

-- STOPS, LOSSES, RESTARTS

stop-lasting : (g : Givens) (t : Ends) (w : World) (n : ℕ) → Lasting g g t t w (stop w n)
stop-lasting g t w n =
    like-lasting g t w (stop w n)
    (record { past = refl; runs = λ m e. if-each (λ (b : Bool). b ≡ true → w.running m ≡ true) (m == n) false (w.running m) (λ _ q. absurd (false≢true q)) (λ _ q. q) e; lives = λ m. refl; replicas = λ m b. refl })
    (λ m b. refl) (λ d. refl)

lost-lasting : (g : Givens) (t : Ends) (w : World) (c : ℕ) (way : Direction) (more : ℕ) → Lasting g g t t w (lost w c way more)
lost-lasting g t w c direction.Down more =
    like-lasting g t w (lost w c direction.Down more) (record { past = refl; runs = λ m e. e; lives = λ m. refl; replicas = λ m b. refl }) (λ m b. refl) (λ d. refl)
lost-lasting g t w c direction.Up more =
    like-lasting g t w (lost w c direction.Up more) (record { past = refl; runs = λ m e. e; lives = λ m. refl; replicas = λ m b. refl }) (λ m b. refl) (λ d. refl)

stop-acked : (g : Givens) (t : Ends) (w : World) (n : ℕ) → Acked g t w → Acked g t (stop w n)
stop-acked g t w n h =
    let v = stop w n in
    let on = stop-lasting g t w n in
    record {
      lives = h.lives;
      joins = λ a n l x. join-on g g t t w v a n l on.on (h.joins a n l x);
      begun = h.begun;
      ups = λ d i m e. up-on g g t t w v d m on (h.ups d i m e);
      downs = λ d i m e. down-on g g t t w v d m on.on (h.downs d i m e);
      uppers = λ d lt. upper-on g g t t w v d (w.dialled d).upper on.on lt (h.uppers d lt);
      lowers = λ d. lower-on g g t t w v d (w.lowers d) on (h.lowers d);
      replicas = h.replicas;
      writers = h.writers;
    }

lost-acked : (g : Givens) (t : Ends) (w : World) (c : ℕ) (way : Direction) (more : ℕ) → Acked g t w → Acked g t (lost w c way more)
lost-acked g t w c direction.Down more h =
    let v = lost w c direction.Down more in
    let on = lost-lasting g t w c direction.Down more in
    record {
      lives = h.lives;
      joins = λ a n l x. join-on g g t t w v a n l on.on (h.joins a n l x);
      begun = h.begun;
      ups = λ d i m e. up-on g g t t w v d m on (h.ups d i m e);
      downs = λ d i m e. down-on g g t t w v d m on.on (h.downs d i m e);
      uppers = λ d lt. upper-on g g t t w v d (w.dialled d).upper on.on lt (h.uppers d lt);
      lowers = λ d. lower-on g g t t w v d (w.lowers d) on (h.lowers d);
      replicas = h.replicas;
      writers = h.writers;
    }
lost-acked g t w c direction.Up more h =
    let v = lost w c direction.Up more in
    let on = lost-lasting g t w c direction.Up more in
    record {
      lives = h.lives;
      joins = λ a n l x. join-on g g t t w v a n l on.on (h.joins a n l x);
      begun = h.begun;
      ups = λ d i m e. up-on g g t t w v d m on (h.ups d i m e);
      downs = λ d i m e. down-on g g t t w v d m on.on (h.downs d i m e);
      uppers = λ d lt. upper-on g g t t w v d (w.dialled d).upper on.on lt (h.uppers d lt);
      lowers = λ d. lower-on g g t t w v d (w.lowers d) on (h.lowers d);
      replicas = h.replicas;
      writers = h.writers;
    }

-- the seats of a node that restarts are of earlier lives
pub restart-onward : (g : Givens) (t : Ends) (w : World) (n : ℕ) (list : List FoundReplica) → Onward g g t t w (restart w n list)
unfolding restart
restart-onward g t w n list = record {
  seats = λ b s e m j h. seat b s e m j h (m == n) refl;
  given = λ b s e q. q;
  named = λ e x q z. z;
  first = λ c m e. e;
  conns = omega arith;
  dialled = λ c lt. refl;
  joined = λ x h. h;
  written = λ e. omega arith;
}
  where
    more : (m l : ℕ) (b : Bool) → (m == n) ≡ b → l ≤ w.lives m → l ≤ (if b then w.lives n + 1 else w.lives m)
    more m l true q le = omega (arith, le, ap (λ (i : ℕ). w.lives i) (eqb-true m n q))
    more m l false q le = le

    seat : (b s e m j : ℕ) → Seat w b s e m j → (c : Bool) → (m == n) ≡ c → Seat (restart w n list) b s e m j
    seat b s e m j h c q = record {
      life = h.life;
      joins = h.joins;
      born = more m h.life (m == n) refl h.born;
      shows = λ r a z i le u. at (m == n) refl r a z i le u;
      told = h.told;
      passes = record { now = λ a. now (m == n) refl a; told = h.passes.told };
    }
      where
        now : (c : Bool) → (m == n) ≡ c → (if c then w.lives n + 1 else w.lives m) ≡ h.life
            → PassesTo w.past b s (record { node = m; life = h.life }) ((if c then (λ d. restarted d (w.replicas n d) (w.breaks n d) (found_in list d)) else w.replicas m) b).known.info
        now true z a = absurd (omega (arith, a, h.born, ap (λ (i : ℕ). w.lives i) (eqb-true m n z)))
        now false z a = h.passes.now a

        at : (c : Bool) → (m == n) ≡ c → (if c then true else w.running m) ≡ true → (if c then w.lives n + 1 else w.lives m) ≡ h.life
            → ((if c then (λ d. restarted d (w.replicas n d) (w.breaks n d) (found_in list d)) else w.replicas m) b).known.is_broken ≡ false → (i : ℕ) → i ≤ j → UpdatesLeave (restart w n list) b s m h.life i
            → Shown ((if c then (λ d. restarted d (w.replicas n d) (w.breaks n d) (found_in list d)) else w.replicas m) b) s i (w.written e)
        at true z r a y i le u = absurd (omega (arith, a, h.born, ap (λ (i : ℕ). w.lives i) (eqb-true m n z)))
        at false z r a y i le u = h.shows r a y i le (record { each = u.each })

-- nothing is pending at a replica that was found
found-pends : (g : Givens) (t : Ends) (b : ℕ) (f : Option Found) → IfSome (replica_found b f).known.info (Pends g t b (replica_found b f).known)
found-pends g t b None = tt
found-pends g t b (Some f) = record { each = λ j e q. absurd (none-some e q) }

restarted-pends : (g : Givens) (t : Ends) (b : ℕ) (w : World) (n : ℕ) (f : Option Found) → IfSome (restarted b (w.replicas n b) (w.breaks n b) f).known.info (Pends g t b (restarted b (w.replicas n b) (w.breaks n b) f).known)
unfolding restarted
restarted-pends g t b w n f = found-pends g t b (if may_find (w.replicas n b) (w.breaks n b) f then f else whole_found (w.replicas n b) (w.breaks n b))

-- what stood closed is found so
restart-lasting : (g : Givens) (t : Ends) (w : World) (n : ℕ) (list : List FoundReplica) → Known g t w → Facts g (restart w n list) → Lasting g g t t w (restart w n list)
unfolding restart
restart-lasting g t w n list k f =
    let v = restart w n list in
    let quiet : (s : ℕ) → IsQuiet w s → IsQuiet v s = λ s q. same-quiet w v s refl (λ d. refl) q in
    let goes : GoesOn g g w v = record { given = λ b s e q. q; went = restart-on w n list; carried = f.carried; full = k.facts.full; plain = k.sets.plain; quiet = quiet } in
    record { on = restart-onward g t w n list; closed = λ b s m x. stands-on g g w v b s m goes x; quiet = quiet }

restart-acked : (g : Givens) (t : Ends) (w : World) (n : ℕ) (list : List FoundReplica) → Known g t w → Facts g (restart w n list) → Acked g t (restart w n list)
unfolding restart
restart-acked g t w n list k f =
    let v = restart w n list in
    let h = k.acked in
    let on = restart-lasting g t w n list k f in
    record {
      lives = λ s m l j. more m l (m == n) refl (h.lives s m l j);
      joins = λ s m l j. join-on g g t t w v s m l on.on (h.joins s m l j);
      begun = h.begun;
      ups = λ d i m e. up-on g g t t w v d m on (h.ups d i m e);
      downs = λ d i m e. down-on g g t t w v d m on.on (h.downs d i m e);
      uppers = λ d lt. upper-on g g t t w v d (w.dialled d).upper on.on lt (h.uppers d lt);
      lowers = λ d. lower-on g g t t w v d (w.lowers d) on (h.lowers d);
      replicas = λ m b. at m b (m == n);
      writers = h.writers;
    }
  where
    more : (m l : ℕ) (b : Bool) → (m == n) ≡ b → l ≤ w.lives m → l ≤ (if b then w.lives n + 1 else w.lives m)
    more m l true q le = omega (arith, le, ap (λ (i : ℕ). w.lives i) (eqb-true m n q))
    more m l false q le = le

    at : (m b : ℕ) (c : Bool) → IfSome ((if c then (λ d. restarted d (w.replicas n d) (w.breaks n d) (found_in list d)) else w.replicas m) b).known.info
        (Pends g t b ((if c then (λ d. restarted d (w.replicas n d) (w.breaks n d) (found_in list d)) else w.replicas m) b).known)
    at m b true = restarted-pends g t b w n (found_in list b)
    at m b false = k.acked.replicas m b

-- ALL EVENTS

where-told : (g : Givens) (t : Ends) (w : World) (test : Bool) (v : World) → (Facts g v → Acked g t v) → (Facts g v → Lasting g g t t w v) → Requests v → IfSome (where_so test v) (Follows g w) → IfSome (where_so test v) (Told g w g)
where-told g t w true v h l r f = record { ends = t; acked = h f.facts; requests = r; closed = (l f.facts).closed }
where-told g t w false v h l r f = tt

lost-requests : (w : World) (c : ℕ) (way : Direction) (more : ℕ) → Requests w → Requests (lost w c way more)
lost-requests w c direction.Down more h = same-requests w (lost w c direction.Down more) refl (λ d. refl) (λ b. refl) h
lost-requests w c direction.Up more h = same-requests w (lost w c direction.Up more) refl (λ d. refl) (λ b. refl) h

restart-requests : (w : World) (n : ℕ) (list : List FoundReplica) → Requests w → Requests (restart w n list)
unfolding restart
restart-requests w n list h = same-requests w (restart w n list) refl (λ d. refl) (λ b. refl) h

outcome-told : (g : Givens) (t : Ends) (w : World) (e : Event) → Known g t w → IfSome (outcome w e) (Follows (given_by g w e) w) → IfSome (outcome w e) (Told g w (given_by g w e))
unfolding outcome
outcome-told g t w (event.Own s) h f = changed-told g t w (own_change w s) h (own-moved w s) (own-leads g t w s h) f
outcome-told g t w (event.Office c) h f = office-told g t w (office_event w c) h (untouched-moved w (office_event w c) (office-untouched w c)) (office-event-leads g t w c h) f
outcome-told g t w (event.Down c answered) h f = down-told g t w c.0 answered false h f
outcome-told g t w (event.Ready c) h f = ready-told g t w c.0 false h f
outcome-told g t w (event.Up c) h f = up-told g t w c.0 false h f
outcome-told g t w (event.Lost c way more) h f = where-told g t w (nat_lt c.0 w.next_conn) (lost w c.0 way more) (λ _. lost-acked g t w c.0 way more h.acked) (λ _. lost-lasting g t w c.0 way more) (lost-requests w c.0 way more h.requests) f
outcome-told g t w (event.Fault d) h f = fault-told g t w d h f
outcome-told g t w (event.Stop n) h f = where-told g t w (w.running n.0) (stop w n.0) (λ _. stop-acked g t w n.0 h.acked) (λ _. stop-lasting g t w n.0) (same-requests w (stop w n.0) refl (λ d. refl) (λ b. refl) h.requests) f
outcome-told g t w (event.Restart n list) h f = where-told g t w (nat_lt n.0 w.nodes && not (w.running n.0)) (restart w n.0 list) (λ y. restart-acked g t w n.0 list h y) (λ y. restart-lasting g t w n.0 list h y) (restart-requests w n.0 list h.requests) f

-- an event that isn't enabled gives no stamp
idle-office : (g : Givens) (t : Ends) (w : World) (o : Option Change) → changed w o ≡ None → Acked g t w → Acked (given_with g (stamped_in o)) t w
idle-office g t w None e h = h
idle-office g t w (Some k) e h = absurd (none-some (apply w k) (sym e))

idle-acked : (g : Givens) (t : Ends) (w : World) (e : Event) → outcome w e ≡ None → Acked g t w → Acked (given_by g w e) t w
unfolding outcome
idle-acked g t w (event.Own s) i h = h
idle-acked g t w (event.Office c) i h = idle-office g t w (office_event w c) i h
idle-acked g t w (event.Down c answered) i h = h
idle-acked g t w (event.Ready c) i h = h
idle-acked g t w (event.Up c) i h = h
idle-acked g t w (event.Lost c way more) i h = h
idle-acked g t w (event.Fault d) i h = h
idle-acked g t w (event.Stop n) i h = h
idle-acked g t w (event.Restart n list) i h = h

last-acked : (g : Givens) (t : Ends) (w : World) (e : Event) → Acked g t w → Acked g t (record w { last = Some e })
last-acked g t w e h =
    let v : World = record w { last = Some e } in
    let on = like-lasting g t w v (record { past = refl; runs = λ m q. q; lives = λ m. refl; replicas = λ m b. refl }) (λ m b. refl) (λ d. refl) in
    record {
      lives = h.lives;
      joins = λ a n l x. join-on g g t t w v a n l on.on (h.joins a n l x);
      begun = h.begun;
      ups = λ d i m q. up-on g g t t w v d m on (h.ups d i m q);
      downs = λ d i m q. down-on g g t t w v d m on.on (h.downs d i m q);
      uppers = λ d lt. upper-on g g t t w v d (w.dialled d).upper on.on lt (h.uppers d lt);
      lowers = λ d. lower-on g g t t w v d (w.lowers d) on (h.lowers d);
      replicas = h.replicas;
      writers = h.writers;
    }

-- what is known of the world after an event is known of its outcome
back-facts : (g : Givens) (v : World) (e : Event) → Facts g (record v { last = Some e }) → Facts g v
back-facts g v e f =
    let k = f.carried in
    let r = f.recorded in
    record {
      carried = record { downs = k.downs; ups = k.ups; replicas = k.replicas; breaks = k.breaks; lowers = k.lowers; writers = k.writers; entries = k.entries; primaries = k.primaries; led = k.led };
      fresh = f.fresh;
      full = f.full;
      unused = f.unused;
      recorded = record { below = r.below; above = r.above; session = r.session; one = r.one; first = r.first; writers = r.writers; blocks = r.blocks };
    }

pub outcome-facts : (g : Givens) (w : World) (e : Event) (o : Option World) → Facts g (after_event w e o) → IfSome o (Facts g)
outcome-facts g w e None f = tt
outcome-facts g w e (Some v) f = back-facts g v e f

idle-with : (g : Givens) (w : World) (o : Option Change) → changed w o ≡ None → (b s n : ℕ) → StandsClosed g w b s n → StandsClosed (given_with g (stamped_in o)) w b s n
idle-with g w None e b s n h = h
idle-with g w (Some k) e b s n h = absurd (none-some (apply w k) (sym e))

idle-closed : (g : Givens) (w : World) (e : Event) → outcome w e ≡ None → (b s n : ℕ) → StandsClosed g w b s n → StandsClosed (given_by g w e) w b s n
unfolding outcome
idle-closed g w (event.Own s) i b t n h = h
idle-closed g w (event.Office c) i b t n h = idle-with g w (office_event w c) i b t n h
idle-closed g w (event.Down c answered) i b t n h = h
idle-closed g w (event.Ready c) i b t n h = h
idle-closed g w (event.Up c) i b t n h = h
idle-closed g w (event.Lost c way more) i b t n h = h
idle-closed g w (event.Fault d) i b t n h = h
idle-closed g w (event.Stop d) i b t n h = h
idle-closed g w (event.Restart d list) i b t n h = h

pub last-closed : (g : Givens) (w : World) (e : Event) (b s n : ℕ) → StandsClosed g w b s n → StandsClosed g (record w { last = Some e }) b s n
last-closed g w e b s n h =
    (like-lasting g no_ends w (record w { last = Some e }) (record { past = refl; runs = λ m q. q; lives = λ m. refl; replicas = λ m d. refl }) (λ m d. refl) (λ d. refl)).closed b s n h

last-requests : (w : World) (e : Event) → Requests w → Requests (record w { last = Some e })
last-requests w e h = same-requests w (record w { last = Some e }) refl (λ d. refl) (λ b. refl) h

after-told : (g : Givens) (t : Ends) (w : World) (e : Event) (o : Option World) → outcome w e ≡ o → Known g t w → IfSome o (Told g w (given_by g w e)) → Told g w (given_by g w e) (after_event w e o)
after-told g t w e None i h k = record { ends = t; acked = idle-acked g t w e i h.acked; requests = h.requests; closed = λ b s n x. idle-closed g w e i b s n x }
after-told g t w e (Some v) i h k = record { ends = k.ends; acked = last-acked (given_by g w e) k.ends v e k.acked; requests = last-requests v e k.requests; closed = λ b s n x. last-closed (given_by g w e) v e b s n (k.closed b s n x) }

pub outcome-follows : (g : Givens) (w : World) (e : Event) (o : Option World) → Follows g w (after_event w e o) → IfSome o (Follows g w)
outcome-follows g w e None f = tt
outcome-follows g w e (Some v) f = record { facts = outcome-facts g w e (Some v) f.facts; coming = outcome-coming g w e (Some v) f.coming }

pub happens-told : (g : Givens) (t : Ends) (w : World) (e : Event) → Known g t w → Follows (given_by g w e) w (happens w e) → Told g w (given_by g w e) (happens w e)
unfolding happens
happens-told g t w e h f = after-told g t w e (outcome w e) refl h (outcome-told g t w e h (outcome-follows (given_by g w e) w e (outcome w e) f))

run-told : (g : Givens) (t : Ends) (w : World) (events : List Event) → Reached w → Known g t w → (x : Ends) × Known (given_in g w events) x (run w events)
run-told g t w [] r h = (t, h)
run-told g t w (e ∷ events) r h =
    let a = reached-agreed w r in
    let j = happens-recorded g w e h.facts.recorded a in
    let c = happens-carried g w e h.facts a in
    let s = happens-set g w e h.facts a j.one h.sets in
    let n = reached-next w e r in
    let f = reached-facts (given_by g w e) (happens w e) n j c in
    let m = happens-fits g w e h.facts a h.recovering h.sets.writes in
    let k = happens-told g t w e h (record { facts = f; coming = m }) in
    run-told (given_by g w e) k.ends (happens w e) events n (record { facts = f; sets = s; requests = k.requests; acked = k.acked; recovering = m.recovering })

pub start-acked : (nodes : ℕ) → Acked none_given no_ends (start nodes)
unfolding start no_ends
start-acked nodes = record {
  lives = λ s n l j. absurd (none-some _ j.there);
  joins = λ s n l j. absurd (none-some _ j.there);
  begun = λ e k q z. absurd (none-some k z);
  ups = λ c i m e. absurd (none-some m e);
  downs = λ c i m e. absurd (none-some m e);
  uppers = λ c lt. absurd (omega (arith, lt));
  lowers = λ c. tt;
  replicas = λ n b. tt;
  writers = λ b. record { known = λ r. absurd (omega (arith, r)); packets = λ r i p q. absurd (none-some p q); below = λ r q k z. absurd (none-some k z) };
}

pub start-requests : (nodes : ℕ) → Requests (start nodes)
unfolding start
start-requests nodes = record {
  begun = λ c lt. absurd (omega (arith, lt));
  once = λ c d f k x y e. absurd (none-some _ x.first);
  unasked = λ b. tt;
}

pub all-known : (nodes : ℕ) (events : List Event) → (t : Ends) × Known (given_in none_given (start nodes) events) t (run (start nodes) events)
all-known nodes events =
    let c = start-carried nodes in
    let r = start-recorded nodes in
    run-told none_given no_ends (start nodes) events (at-start nodes)
    (record { facts = reached-facts none_given (start nodes) (at-start nodes) r c; sets = start-set nodes; requests = start-requests nodes; acked = start-acked nodes; recovering = start-fits nodes })

pub all-acked : AllAcked
all-acked nodes events = let k = all-known nodes events in (k.0, k.1.acked)

pub all-waiting : AllWaiting
all-waiting nodes events = (all-known nodes events).1.requests
