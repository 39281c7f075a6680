-- What a change leaves alone, and what is needed of what is new in it.
use Rattle.std.proofs.Common.{◌≡◌, ℕ, ℤ, zero, suc, ◌<◌, ◌≤◌, ◌+◌, ◌-◌, ◌⊎◌, inl, inr, Bool, true, false, List, [], ◌∷◌, ◌++◌, length, slice_get, Option, Some, None, IfSome, refl, sym, subst, arith, eqb-true}
use Rattle.std.specs.Prelude.{◌==◌, ◌&&◌, nat_le, if◌then◌else◌, option_map, unwrap_or}
use Rattle.std.proofs.lemmas.Bool.Decides.{nat_tests}
use Rattle.std.proofs.lemmas.Option.{none-some}
use Rattle.replica_model.specs.Rows.{FullReplica, IsFull}
use Rattle.world_recoveries.specs.World.Parts.{Message, Lower}
use Rattle.world_recoveries.specs.World.Worlds.{World, Dial, Change, put, put_at, listed, dial_at, latest_with, past_after, apply}
use Rattle.world_recoveries.specs.World.Safe.{Has}
use Rattle.world_recoveries.specs.WorldLaws.Growing.{Begins}
use Rattle.world_recoveries.proofs.WorldLaws.Fronts.{front-length}
use Rattle.world_recoveries.proofs.WorldLaws.GrowthLaws.{apply-grows}
use Rattle.world_recoveries.proofs.WorldLaws.FactTables.{if-each, put-each, and-left, and-right}
use Rattle.world_recoveries.specs.WorldLaws.Stamping.{Givens, heard}
use Rattle.world_recoveries.proofs.WorldLaws.ByteFrame.{Each, each-nil, each-one, each-append}
use Rattle.world_recoveries.specs.WorldLaws.Joining.{joined_as}
use Rattle.world_recoveries.specs.Recovering.{Recovering}
use Rattle.world_recoveries.specs.Telling.{TellsFrom}
use Rattle.world_acks.specs.Acking.{PacketEnd, Ends, UpTells, DownTells, UpperTells, LowerTells, Pends, Numbers, JoinSeat, Acked}
use Rattle.world_acks.proofs.Seats.{apply-written, has-left, Steps, seat-apply, Onward, Lasting, join-on, up-on, down-on, upper-on, lower-on, pends-on}

-- ONWARD

first-more : (xs ys : List Message) (m : Message) → slice_get xs 0 ≡ Some m → slice_get (xs ++ ys) 0 ≡ Some m
first-more [] ys m e = absurd (none-some m e)
first-more (x ∷ xs) ys m e = e

pub begins-first : (xs ys : List Message) (m : Message) → Begins xs ys → slice_get xs 0 ≡ Some m → slice_get ys 0 ≡ Some m
begins-first xs ys m b e = subst (λ (zs : List Message). slice_get zs 0 ≡ Some m) b.joins (first-more xs b.rest m e)

pub apply-onward : (g k : Givens) (t u : Ends) (w : World) (c : Change) → Steps w c → Recovering g w → TellsFrom w (apply w c) → Recovering k (apply w c) → ((n b : ℕ) → IsFull (w.replicas n b)) → IsFull c.replica
    → ((b s e : ℕ) → g b s ≡ Some e → k b s ≡ Some e) → ((e : ℕ) (x : PacketEnd) (q : ℤ) → t e q ≡ Some x → u e q ≡ Some x) → Onward g k t u w (apply w c)
unfolding apply
apply-onward g k t u w c st rec tells next full new given named =
    let y = apply-grows w c in
    record {
      seats = λ b s e n j h. seat-apply g k w c b s e n j st rec tells next full new h;
      given = given;
      named = named;
      first = λ d m e. begins-first (w.downs d) ((past_after w c).downs d) m (y.downs d) e;
      conns = y.conns;
      dialled = λ d lt. y.dialled d lt;
      joined = λ x h. has-left w.joined c.joined x h;
      written = λ e. front-length (w.written e) ((past_after w c).written e) (apply-written w c e);
    }

-- WHAT IS NEW

pub record News (g : Givens) (t : Ends) (w : World) (k : Change) : Type 0 where
  pub ups : (c : ℕ) → Each (UpTells g t (apply w k) c) (k.ups c)
  pub downs : (c : ℕ) → Each (DownTells g t (apply w k) c) (k.downs c)
  pub dials : (i : ℕ) (d : Dial) → slice_get k.dials i ≡ Some d → DownTells g t (apply w k) (w.next_conn + i) d.request
  pub uppers : (i : ℕ) (d : Dial) → slice_get k.dials i ≡ Some d → UpperTells (past_after w k) (w.next_conn + i) d.dialled.upper
  pub lower : LowerTells g (apply w k) k.lower_at k.lower
  pub replica : IfSome k.replica.known.info (Pends g t k.block k.replica.known)
  pub joined : (s n l : ℕ) → Has k.joined (joined_as s n l) → (l ≤ w.lives n) × JoinSeat g (apply w k) s n l
  pub writers : (b : ℕ) → Numbers (g b) t (latest_with w.latest k.stamped b) (heard (put w.writers k.writer_at k.writer b))
  pub begun : (e : ℕ) (x : PacketEnd) (q : ℤ) → t e q ≡ Some x → e < k.office.next.0

put-at-each : {A : Type 0} (P : ℕ → ℕ → A → Type 0) (f : ℕ → ℕ → A) (i k : ℕ) (x : A) → P i k x → ((j l : ℕ) → P j l (f j l)) → (j l : ℕ) → P j l (put_at f i k x j l)
put-at-each {A} P f i k x h q j l =
    if-each (λ (y : A). P j l y) (j == i && l == k) x (f j l)
    (λ e. subst (λ (n : ℕ). P n l x) (sym (eqb-true j i (and-left (j == i) (l == k) e)))
    (subst (λ (n : ℕ). P i n x) (sym (eqb-true l k (and-right (j == i) (l == k) e))) h))
    (λ e. q j l)

pub dial-place : (next : ℕ) (dials : List Dial) (c : ℕ) (d : Dial) → dial_at next dials c ≡ Some d → (slice_get dials (c - next) ≡ Some d) × (next + (c - next) ≡ c)
dial-place next dials c d e = go (nat_le next c) refl
  where
    go : (b : Bool) → nat_le next c ≡ b → (slice_get dials (c - next) ≡ Some d) × (next + (c - next) ≡ c)
    go true q = (subst (λ (t : Bool). (if t then slice_get dials (c - next) else None) ≡ Some d) q e, grind (arith, nat_tests, q))
    go false q = absurd (none-some d (subst (λ (t : Bool). (if t then slice_get dials (c - next) else None) ≡ Some d) q e))

new-downs : (g : Givens) (t : Ends) (w : World) (k : Change) (c : ℕ) → News g t w k → (o : Option Dial) → dial_at w.next_conn k.dials c ≡ o
    → Each (DownTells g t (apply w k) c) (listed (option_map (λ d. d.request) o))
new-downs g t w k c n None e = each-nil (DownTells g t (apply w k) c)
new-downs g t w k c n (Some d) e =
    let at = dial-place w.next_conn k.dials c d e in
    each-one (DownTells g t (apply w k) c) d.request (subst (λ (j : ℕ). DownTells g t (apply w k) j d.request) at.1 (n.dials (c - w.next_conn) d at.0))

pub none-past : {A : Type 0} (xs : List A) (i : ℕ) → slice_get xs i ≡ None → length xs ≤ i
none-past [] i e = omega arith
none-past (x ∷ xs) zero e = absurd (none-some x (sym e))
none-past (x ∷ xs) (suc i) e = omega (arith, none-past xs i e)

pub dial-none : (next : ℕ) (dials : List Dial) (c : ℕ) → dial_at next dials c ≡ None → c < next + length dials → c < next
dial-none next dials c e lt = go (nat_le next c) refl
  where
    go : (b : Bool) → nat_le next c ≡ b → c < next
    go true q = absurd (omega (arith, none-past dials (c - next) (subst (λ (t : Bool). (if t then slice_get dials (c - next) else None) ≡ None) q e), lt, le))
      where
        le : next ≤ c
        le = grind (arith, nat_tests, q)
    go false q = grind (arith, nat_tests, q)

upper-of : (l g : Givens) (s t : Ends) (w : World) (k : Change) → Acked l s w → Lasting l g s t w (apply w k) → News g t w k → (c : ℕ) → c < w.next_conn + length k.dials → (o : Option Dial) → dial_at w.next_conn k.dials c ≡ o
    → UpperTells (past_after w k) c (unwrap_or (option_map (λ d. d.dialled) o) (w.dialled c)).upper
unfolding apply
upper-of l g s t w k h y n c lt None e =
    let low = dial-none w.next_conn k.dials c e lt in upper-on l g s t w (apply w k) c (w.dialled c).upper y.on low (h.uppers c low)
upper-of l g s t w k h y n c lt (Some d) e =
    let at = dial-place w.next_conn k.dials c d e in subst (λ (j : ℕ). UpperTells (past_after w k) j d.dialled.upper) at.1 (n.uppers (c - w.next_conn) d at.0)

-- setups that are accepted are of lives that have begun
pub has-either : {A : Type 0} (xs ys : List A) (x : A) → Has (xs ++ ys) x → Has xs x ⊎ Has ys x
has-either [] ys x h = inr h
has-either {A} (z ∷ xs) ys x h = at (λ q. has-either xs ys x q) h.place h.there
  where
    up : Has xs x ⊎ Has ys x → Has (z ∷ xs) x ⊎ Has ys x
    up (inl k) = inl (record { place = suc k.place; there = k.there })
    up (inr k) = inr k

    at : (Has (xs ++ ys) x → Has xs x ⊎ Has ys x) → (i : ℕ) → slice_get (z ∷ (xs ++ ys)) i ≡ Some x → Has (z ∷ xs) x ⊎ Has ys x
    at f zero e = inl (record { place = zero; there = e })
    at f (suc i) e = up (f (record { place = i; there = e }))

lives-of : (g : Givens) (t : Ends) (w : World) (k : Change) → ((s n l : ℕ) → Has w.joined (joined_as s n l) → l ≤ w.lives n) → News g t w k → (s n l : ℕ) → Has (w.joined ++ k.joined) (joined_as s n l) → l ≤ w.lives n
lives-of g t w k h n s m l q = go (has-either w.joined k.joined (joined_as s m l) q)
  where
    go : Has w.joined (joined_as s m l) ⊎ Has k.joined (joined_as s m l) → l ≤ w.lives m
    go (inl x) = h s m l x
    go (inr x) = (n.joined s m l x).0

joins-of : (l g : Givens) (s t : Ends) (w : World) (k : Change) → Acked l s w → Onward l g s t w (apply w k) → News g t w k → (a n b : ℕ) → Has (w.joined ++ k.joined) (joined_as a n b) → JoinSeat g (apply w k) a n b
joins-of l g s t w k h on news a n b q = go (has-either w.joined k.joined (joined_as a n b) q)
  where
    go : Has w.joined (joined_as a n b) ⊎ Has k.joined (joined_as a n b) → JoinSeat g (apply w k) a n b
    go (inl x) = join-on l g s t w (apply w k) a n b on (h.joins a n b x)
    go (inr x) = (news.joined a n b x).1

pub keeps : (l g : Givens) (s t : Ends) (w : World) (k : Change) → Acked l s w → Lasting l g s t w (apply w k) → News g t w k → Acked g t (apply w k)
unfolding apply
keeps l g s t w k h y n =
    let v = apply w k in
    record {
      lives = lives-of g t w k h.lives n;
      joins = joins-of l g s t w k h y.on n;
      begun = n.begun;
      ups = λ c. (each-append (UpTells g t v c) (w.ups c) (k.ups c) (record { at = λ i m e. up-on l g s t w v c m y (h.ups c i m e) }) (n.ups c)).at;
      downs = λ c. (each-append (DownTells g t v c) (w.downs c ++ k.downs c) _
          (each-append (DownTells g t v c) (w.downs c) (k.downs c) (record { at = λ i m e. down-on l g s t w v c m y.on (h.downs c i m e) }) (n.downs c))
          (new-downs g t w k c n (dial_at w.next_conn k.dials c) refl)).at;
      uppers = λ c lt. upper-of l g s t w k h y n c lt (dial_at w.next_conn k.dials c) refl;
      lowers = put-each (λ (c : ℕ) (x : Lower). LowerTells g v c x) w.lowers k.lower_at k.lower n.lower (λ c. lower-on l g s t w v c (w.lowers c) y (h.lowers c));
      replicas = put-at-each (λ (m b : ℕ) (r : FullReplica). IfSome r.known.info (Pends g t b r.known)) w.replicas k.node k.block k.replica n.replica
          (λ m b. pends-on l g s t w v b (w.replicas m b).known y.on (h.replicas m b));
      writers = n.writers;
    }
