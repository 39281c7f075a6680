-- What a change leaves alone, and what is needed of what is new in it.
use Rattle.std.proofs.Common.{◌≡◌, ℕ, zero, suc, ◌<◌, ◌≤◌, ◌+◌, ◌-◌, ◌⊎◌, inl, inr, Bool, true, false, List, [], ◌∷◌, ◌++◌, length, slice_get, Option, Some, None, IfSome, refl, sym, ◌∙◌, ap, subst, arith, append-nil, eqb-true}
use Rattle.std.specs.Prelude.{◌==◌, ◌&&◌, nat_le, if◌then◌else◌, option_map, unwrap_or}
use Rattle.std.proofs.lemmas.Bool.Decides.{nat_tests}
use Rattle.std.proofs.lemmas.Option.{none-some, same_Some}
use Rattle.hd_base.specs.declared.numbers.Stamp.{Stamp}
use Rattle.name_core.specs.declared.records.BlockRecord.{BlockRecord}
use Rattle.name_core.specs.Offices.{record_of}
use Rattle.world.specs.PacketStream.Streams.{StreamState}
use Rattle.world.specs.ReplicaModel.Rows.{FullReplica}
use Rattle.world.specs.ReplicaModel.Found.{IsFront}
use Rattle.world.specs.WriterCore.Phase.{Phase}
use Rattle.world.specs.WriterCore.Phase.TheVariants as phase
use Rattle.world.specs.WriterCore.Requests.{min_length}
use Rattle.world.specs.Parts.{Message, by_primary, Lower, Writing, Primary, Break}
use Rattle.world.specs.Worlds.{Past, World, Dial, Change, put, put_at, add, listed, dial_at, latest_with, past_after, apply}
use Rattle.world_laws.specs.Growing.{Begins, Grows}
use Rattle.world_laws.proofs.GrowthLaws.{apply-grows}
use Rattle.world_laws.proofs.FactTables.{if-each, put-each, and-left, and-right, some-weaker}
use Rattle.world_laws.specs.Stamping.{Givens, heard}
use Rattle.world_laws.specs.Carrying.{kind_of, DownSays, UpSays, ReplicaSays, BreakSays, LowerSays, ConnSays, Asks, WriterSays, EntrySays, PrimarySays, LedBy, Carried}
use Rattle.world_laws.proofs.Fronts.{front-trans, front-length}
use Rattle.world_laws.proofs.ByteLater.{Later, sets-later, passing-later, down-later, up-later, replica-later, break-later, lower-later, primary-later, led-later}

-- LISTS

-- what is said of each element of a list
pub record Each {A : Type 0} (P : A → Type 0) (xs : List A) : Type 0 where
  pub at : (i : ℕ) (x : A) → slice_get xs i ≡ Some x → P x

pub each-nil : {A : Type 0} (P : A → Type 0) → Each P []
each-nil P = record { at = λ i x e. absurd (none-some x e) }

pub each-cons : {A : Type 0} (P : A → Type 0) (x : A) (xs : List A) → P x → Each P xs → Each P (x ∷ xs)
each-cons {A} P x xs h k = record { at = go }
  where
    go : (i : ℕ) (y : A) → slice_get (x ∷ xs) i ≡ Some y → P y
    go zero y e = subst P (same_Some x y e) h
    go (suc i) y e = k.at i y e

pub each-one : {A : Type 0} (P : A → Type 0) (x : A) → P x → Each P (x ∷ [])
each-one P x h = each-cons P x [] h (each-nil P)

pub each-tail : {A : Type 0} (P : A → Type 0) (x : A) (xs : List A) → Each P (x ∷ xs) → Each P xs
each-tail P x xs h = record { at = λ i y e. h.at (suc i) y e }

pub each-append : {A : Type 0} (P : A → Type 0) (xs ys : List A) → Each P xs → Each P ys → Each P (xs ++ ys)
each-append P [] ys h k = k
each-append P (x ∷ xs) ys h k = each-cons P x (xs ++ ys) (h.at zero x refl) (each-append P xs ys (each-tail P x xs h) k)

-- LATER PASTS

first-more : (xs ys : List Message) (m : Message) → slice_get xs 0 ≡ Some m → slice_get (xs ++ ys) 0 ≡ Some m
first-more [] ys m e = absurd (none-some m e)
first-more (x ∷ xs) ys m e = e

begins-first : (xs ys : List Message) (m : Message) → Begins xs ys → slice_get xs 0 ≡ Some m → slice_get ys 0 ≡ Some m
begins-first xs ys m b e = subst (λ (zs : List Message). slice_get zs 0 ≡ Some m) b.joins (first-more xs b.rest m e)

-- the tables of stamps before and after a change
pub record Extends (g k : Givens) : Type 0 where
  pub before : (b t e : ℕ) → g b t ≡ Some e → e ≤ t
  pub given : (b t e : ℕ) → g b t ≡ Some e → k b t ≡ Some e
  pub old : (b c t u s e : ℕ) → k b t ≡ Some s → g c u ≡ Some e → t ≤ u → g b t ≡ Some s

pub grown-later : (g k : Givens) (h p : Past) → Extends g k → Grows h p
    → ((b t s : ℕ) → g b t ≡ Some s → (p.written s ≡ h.written s) ⊎ ((u e : ℕ) → g b u ≡ Some e → s ≤ u → e ≡ s)) → Later g k h p
grown-later g k h p x d w = record {
  before = x.before;
  given = x.given;
  old = x.old;
  first = λ c m e. begins-first (h.downs c) (p.downs c) m (d.downs c) e;
  written = λ e. let b = d.written e in (b.rest, b.joins);
  whole = w;
}

-- a session that gets no bytes
pub added-other : (f : ℕ → List ℕ) (i : ℕ) (xs : List ℕ) (s : ℕ) → (s ≡ i → xs ≡ []) → add f i xs s ≡ f s
added-other f i xs s h = if-each (λ (v : List ℕ). v ≡ f s) (s == i) (f s ++ xs) (f s) (λ e. ap (λ (ys : List ℕ). f s ++ ys) (h (eqb-true s i e)) ∙ append-nil (f s)) (λ _. refl)

pub unwritten : (w : World) (k : Change) (s : ℕ) → (s ≡ k.session → k.bytes ≡ []) → (past_after w k).written s ≡ w.written s
unwritten w k s h = added-other w.written k.session k.bytes s h

pub past-grows : (w : World) (k : Change) → Grows w.past (past_after w k)
unfolding apply
past-grows w k = apply-grows w k

pub change-later : (g k : Givens) (w : World) (c : Change) → Extends g k
    → ((b t s : ℕ) → g b t ≡ Some s → ((past_after w c).written s ≡ w.written s) ⊎ ((u e : ℕ) → g b u ≡ Some e → s ≤ u → e ≡ s)) → Later g k w.past (past_after w c)
change-later g k w c x h = grown-later g k w.past (past_after w c) x (past-grows w c) h

-- WRITERS THAT STAY

pub asks-later : (g k : Givens) (h p : Past) (b l : ℕ) (c : Stamp) (s : StreamState) (x : Phase) → Later g k h p → Asks (g b) h l c s x → Asks (k b) p l c s x
asks-later g k h p b l c s (phase.Stamped way t) y a = record {
  given = y.given b t.0 l a.given;
  created = a.created;
  passes = λ u e q low high. passing-later g k h p (Some (kind_of way)) e l (min_length way s) y (a.passes u e (y.old b b u t.0 e l q a.given high) low high);
}
asks-later g k h p b l c s phase.Closed y a = tt
asks-later g k h p b l c s (phase.Wanted way) y a = tt
asks-later g k h p b l c s (phase.Requested way t) y a = tt
asks-later g k h p b l c s (phase.Accepted way t) y a = tt
asks-later g k h p b l c s phase.Opened y a = tt
asks-later g k h p b l c s (phase.Streaming sent) y a = tt
asks-later g k h p b l c s phase.Closing y a = tt
asks-later g k h p b l c s phase.Finished y a = tt
asks-later g k h p b l c s phase.Completed y a = tt
asks-later g k h p b l c s (phase.Failed e) y a = tt

pub conn-later : (g k : Givens) (h p : Past) (b l c : ℕ) → Later g k h p → ConnSays g h b l c → ConnSays k p b l c
conn-later g k h p b l c y x = record { stamp = x.stamp; sets = sets-later g k h p c x.stamp y x.sets; given = y.given b x.stamp.0 l x.given }

pub writer-later : (g k : Givens) (h p : Past) (b l : ℕ) (x : Writing) → Later g k h p → (k b l ≡ Some l → g b l ≡ Some l) → (g b l ≡ Some l → p.written l ≡ h.written l)
    → WriterSays g h b l x → WriterSays k p b l x
writer-later g k h p b l x y back same n = record {
  conn = some-weaker (ConnSays g h b l) (ConnSays k p b l) x.conn (λ c z. conn-later g k h p b l c y z) n.conn;
  linked = n.linked;
  sound = n.sound;
  queue = n.queue;
  own = n.own;
  are = λ q. n.are (back q) ∙ sym (same (back q));
  streams = n.streams;
  asks = asks-later g k h p b l (heard x).committed (heard x).stream (heard x).phase y n.asks;
}

-- ENTRIES THAT STAY

pub entry-later : (g k : Givens) (h p : Past) (b l : ℕ) (r : BlockRecord) → Later g k h p → ((e : ℕ) → k b r.committed.0 ≡ Some e → g b r.committed.0 ≡ Some e)
    → ((e : ℕ) → g b r.committed.0 ≡ Some e → (e ≡ l) ⊎ (p.written l ≡ h.written l)) → EntrySays (g b) h l r → EntrySays (k b) p l r
entry-later g k h p b l r y back same n = record {
  front = λ e q. go e (same e (back e q)) (n.front e (back e q));
  length = λ c e q. omega (arith, n.length c e (back e q), front-length (h.written e) (p.written e) (y.written e));
}
  where
    go : (e : ℕ) → ((e ≡ l) ⊎ (p.written l ≡ h.written l)) → IsFront (h.written l) (h.written e) → IsFront (p.written l) (p.written e)
    go e (inl q) f = subst (λ (s : ℕ). IsFront (p.written l) (p.written s)) (sym q) ([], append-nil (p.written l))
    go e (inr q) f = subst (λ (v : List ℕ). IsFront v (p.written e)) (sym q) (front-trans (h.written l) (h.written e) (p.written e) f (y.written e))

-- WHAT IS NEW

pub record News (g : Givens) (w : World) (k : Change) : Type 0 where
  pub replica : ReplicaSays g (past_after w k) k.block k.replica
  pub broke : IfSome k.broke (BreakSays g (past_after w k) k.block)
  pub lower : LowerSays (past_after w k) k.lower_at k.lower
  pub downs : (c : ℕ) → Each (DownSays g (past_after w k) c) (k.downs c)
  pub ups : (c : ℕ) → Each (UpSays g (past_after w k) c) (k.ups c)
  pub dials : (i : ℕ) (d : Dial) → slice_get k.dials i ≡ Some d → DownSays g (past_after w k) (w.next_conn + i) d.request
  pub led : (i place j : ℕ) (d : Dial) → slice_get k.dials i ≡ Some d → d.dialled.upper ≡ by_primary j place → LedBy (past_after w k) (w.next_conn + i) (put w.primaries k.primary_at k.primary j)
  pub primary : PrimarySays g (past_after w k) k.primary
  pub leads : (c place : ℕ) → c < w.next_conn → (w.dialled c).upper ≡ by_primary k.primary_at place → LedBy (past_after w k) c k.primary
  pub writers : (b : ℕ) → WriterSays g (past_after w k) b (latest_with w.latest k.stamped b) (put w.writers k.writer_at k.writer b)
  pub entries : (b : ℕ) → IfSome (record_of k.office (record { 0 = b })) (EntrySays (g b) (past_after w k) (latest_with w.latest k.stamped b))

put-at-each : {A : Type 0} (P : ℕ → ℕ → A → Type 0) (f : ℕ → ℕ → A) (i k : ℕ) (x : A) → P i k x → ((j l : ℕ) → P j l (f j l)) → (j l : ℕ) → P j l (put_at f i k x j l)
put-at-each {A} P f i k x h q j l =
    if-each (λ (y : A). P j l y) (j == i && l == k) x (f j l)
    (λ e. subst (λ (n : ℕ). P n l x) (sym (eqb-true j i (and-left (j == i) (l == k) e)))
    (subst (λ (n : ℕ). P i n x) (sym (eqb-true l k (and-right (j == i) (l == k) e))) h))
    (λ e. q j l)

-- a new connection stands at its place in the list of dials
pub dial-place : (next : ℕ) (dials : List Dial) (c : ℕ) (d : Dial) → dial_at next dials c ≡ Some d → (slice_get dials (c - next) ≡ Some d) × (next + (c - next) ≡ c)
dial-place next dials c d e = go (nat_le next c) refl
  where
    go : (b : Bool) → nat_le next c ≡ b → (slice_get dials (c - next) ≡ Some d) × (next + (c - next) ≡ c)
    go true q = (subst (λ (t : Bool). (if t then slice_get dials (c - next) else None) ≡ Some d) q e, grind (arith, nat_tests, q))
    go false q = absurd (none-some d (subst (λ (t : Bool). (if t then slice_get dials (c - next) else None) ≡ Some d) q e))

new-downs : (g : Givens) (w : World) (k : Change) (c : ℕ) → News g w k → (o : Option Dial) → dial_at w.next_conn k.dials c ≡ o → Each (DownSays g (past_after w k) c) (listed (option_map (λ d. d.request) o))
new-downs g w k c n None e = each-nil (DownSays g (past_after w k) c)
new-downs g w k c n (Some d) e =
    let at = dial-place w.next_conn k.dials c d e in
    each-one (DownSays g (past_after w k) c) d.request (subst (λ (j : ℕ). DownSays g (past_after w k) j d.request) at.1 (n.dials (c - w.next_conn) d at.0))

none-past : {A : Type 0} (xs : List A) (i : ℕ) → slice_get xs i ≡ None → length xs ≤ i
none-past [] i e = omega arith
none-past (x ∷ xs) zero e = absurd (none-some x (sym e))
none-past (x ∷ xs) (suc i) e = omega (arith, none-past xs i e)

-- no new connection has this number
pub dial-none : (next : ℕ) (dials : List Dial) (c : ℕ) → dial_at next dials c ≡ None → c < next + length dials → c < next
dial-none next dials c e lt = go (nat_le next c) refl
  where
    go : (b : Bool) → nat_le next c ≡ b → c < next
    go true q = absurd (omega (arith, none-past dials (c - next) (subst (λ (t : Bool). (if t then slice_get dials (c - next) else None) ≡ None) q e), lt, le))
      where
        le : next ≤ c
        le = grind (arith, nat_tests, q)
    go false q = grind (arith, nat_tests, q)

-- who dialled a connection, old or new
led-by : (g : Givens) (w : World) (k : Change) (l : Givens) → Later l g w.past (past_after w k) → Carried l w → News g w k → (c i place : ℕ) → c < w.next_conn + length k.dials → (o : Option Dial) → dial_at w.next_conn k.dials c ≡ o
    → (unwrap_or (option_map (λ d. d.dialled) o) (w.dialled c)).upper ≡ by_primary i place → LedBy (past_after w k) c (put w.primaries k.primary_at k.primary i)
led-by g w k l y h n c i place lt None e u =
    let low = dial-none w.next_conn k.dials c e lt in
    if-each (λ (x : Primary). LedBy (past_after w k) c x) (i == k.primary_at) k.primary (w.primaries i)
    (λ q. n.leads c place low (subst (λ (j : ℕ). (w.dialled c).upper ≡ by_primary j place) (eqb-true i k.primary_at q) u))
    (λ _. led-later l g w.past (past_after w k) c (w.primaries i) y (h.led c i place low u))
led-by g w k l y h n c i place lt (Some d) e u =
    let at = dial-place w.next_conn k.dials c d e in
    subst (λ (j : ℕ). LedBy (past_after w k) j (put w.primaries k.primary_at k.primary i)) at.1 (n.led (c - w.next_conn) place i d at.0 u)

pub keeps : (l g : Givens) (w : World) (k : Change) → Carried l w → Later l g w.past (past_after w k) → News g w k → Carried g (apply w k)
unfolding apply
keeps l g w k h y n =
    let p = past_after w k in
    record {
      downs = λ c. (each-append (DownSays g p c) (w.downs c ++ k.downs c) _
          (each-append (DownSays g p c) (w.downs c) (k.downs c) (record { at = λ i m e. down-later l g w.past p c m y (h.downs c i m e) }) (n.downs c))
          (new-downs g w k c n (dial_at w.next_conn k.dials c) refl)).at;
      ups = λ c. (each-append (UpSays g p c) (w.ups c) (k.ups c) (record { at = λ i m e. up-later l g w.past p c m y (h.ups c i m e) }) (n.ups c)).at;
      replicas = put-at-each (λ (m b : ℕ) (r : FullReplica). ReplicaSays g p b r) w.replicas k.node k.block k.replica n.replica (λ m b. replica-later l g w.past p b (w.replicas m b) y (h.replicas m b));
      breaks = put-at-each (λ (m b : ℕ) (o : Option Break). IfSome o (BreakSays g p b)) w.breaks k.node k.block k.broke n.broke
          (λ m b. some-weaker (BreakSays l w.past b) (BreakSays g p b) (w.breaks m b) (λ x z. break-later l g w.past p b x y z) (h.breaks m b));
      lowers = put-each (λ (c : ℕ) (x : Lower). LowerSays p c x) w.lowers k.lower_at k.lower n.lower (λ c. lower-later l g w.past p c (w.lowers c) y (h.lowers c));
      writers = n.writers;
      entries = n.entries;
      primaries = put-each (λ (i : ℕ) (x : Primary). PrimarySays g p x) w.primaries k.primary_at k.primary n.primary (λ i. primary-later l g w.past p (w.primaries i) y (h.primaries i));
      led = λ c i place lt u. led-by g w k l y h n c i place lt (dial_at w.next_conn k.dials c) refl u;
    }
