-- What a change of a node makes of the setups that it accepted.
use Rattle.std.proofs.Common.{◌≡◌, ℕ, zero, suc, ◌⊎◌, inl, inr, Bool, true, false, List, [], ◌∷◌, ◌++◌, slice_get, Option, Some, None, IfSome, refl, sym, ◌∙◌, ap, subst, arith, eqb-true, append-nil}
use Rattle.std.specs.Prelude.{◌==◌, ◌&&◌, if◌then◌else◌}
use Rattle.std.proofs.lemmas.Bool.{eqb-false, false≢true}
use Rattle.std.proofs.lemmas.Option.{none-some, same_Some}
use Rattle.hd_base.specs.declared.numbers.Stamp.{Stamp}
use Rattle.hd_base.specs.declared.states.ReplicaState.TheVariants as state
use Rattle.replica_core.specs.declared.info.ReplicaInfo.{ReplicaInfo}
use Rattle.world.specs.ReplicaModel.ReplicaEvent.{ReplicaEvent}
use Rattle.world.specs.ReplicaModel.Rows.{FullReplica, row}
use Rattle.world_laws.proofs.SetupTelling.{Tells, TellsIn}
use Rattle.world.specs.Parts.{Break, Joined, Answered}
use Rattle.world.specs.Worlds.{World, Change, listed, put_at, apply}
use Rattle.world.specs.Nodes.{first_break}
use Rattle.world.specs.Safe.{Has}
use Rattle.world_laws.proofs.FactTables.{if-each, and-left, and-right, some-weaker}
use Rattle.world_laws.specs.Stamping.{Givens}
use Rattle.world_laws.specs.Carrying.{Holds, ReplicaSays, Carried}
use Rattle.world_laws.specs.Joining.{joined_as, AtLeast, IsPlain, Rises, HasReached, IsSetUp, BreakReached, IsGiven, IsOfBlock, SetUps}
use Rattle.world_laws.proofs.SetupRising.{Goes, OpenFrom}

-- LISTS

pub get-more : {A : Type 0} (xs ys : List A) (i : ℕ) (x : A) → slice_get xs i ≡ Some x → slice_get (xs ++ ys) i ≡ Some x
get-more [] ys i x e = absurd (none-some x e)
get-more (z ∷ xs) ys zero x e = e
get-more (z ∷ xs) ys (suc i) x e = get-more xs ys i x e

has-left : {A : Type 0} (xs ys : List A) (x : A) → Has xs x → Has (xs ++ ys) x
has-left xs ys x h = record { place = h.place; there = get-more xs ys h.place x h.there }

pub has-cons : {A : Type 0} (z : A) (xs : List A) (x : A) → Has xs x → Has (z ∷ xs) x
has-cons z xs x h = record { place = suc h.place; there = h.there }

has-end : {A : Type 0} (xs : List A) (x : A) → Has (xs ++ x ∷ []) x
has-end [] x = record { place = zero; there = refl }
has-end (z ∷ xs) x = has-cons z (xs ++ x ∷ []) x (has-end xs x)

either-of : {A : Type 0} (z : A) (xs : List A) (x y : A) → (z ≡ y) ⊎ Has (xs ++ x ∷ []) y → (Has xs y ⊎ (x ≡ y) → Has (z ∷ xs) y ⊎ (x ≡ y)) → (Has (xs ++ x ∷ []) y → Has xs y ⊎ (x ≡ y)) → Has (z ∷ xs) y ⊎ (x ≡ y)
either-of z xs x y (inl e) up down = inl (record { place = zero; there = ap (λ a. Some a) e })
either-of z xs x y (inr h) up down = up (down h)

-- what stands in a list with one more
pub has-split : {A : Type 0} (xs : List A) (x y : A) → Has (xs ++ x ∷ []) y → Has xs y ⊎ (x ≡ y)
has-split {A} [] x y h = at h.place h.there
  where
    at : (i : ℕ) → slice_get (x ∷ []) i ≡ Some y → Has {A = A} [] y ⊎ (x ≡ y)
    at zero e = inr (same_Some x y e)
    at (suc i) e = absurd (none-some y e)
has-split {A} (z ∷ xs) x y h = either-of z xs x y (first h.place h.there) up (has-split xs x y)
  where
    first : (i : ℕ) → slice_get (z ∷ (xs ++ x ∷ [])) i ≡ Some y → (z ≡ y) ⊎ Has (xs ++ x ∷ []) y
    first zero e = inl (same_Some z y e)
    first (suc i) e = inr (record { place = i; there = e })

    up : Has xs y ⊎ (x ≡ y) → Has (z ∷ xs) y ⊎ (x ≡ y)
    up (inl k) = inl (has-cons z xs y k)
    up (inr e) = inr e

-- WHAT IS NEW AT A NODE

-- nothing is joined, and what is RBW was so; or the setup of the stamp that the replica then has is
pub data Joining (w : World) (k : Change) : Type 0 where
  quiet : k.joined ≡ [] → OpenFrom (w.replicas k.node k.block).known.info k.replica.known.info → (k.replica.known.is_broken ≡ false → (w.replicas k.node k.block).known.is_broken ≡ false) → Joining w k
  taken : (i : ReplicaInfo) → k.replica.known.info ≡ Some i → (w.replicas k.node k.block).known.is_broken ≡ false → k.joined ≡ joined_as i.stamp.0 k.node (w.lives k.node) ∷ [] → k.broke ≡ w.breaks k.node k.block → Joining w k

-- the break is as before, or the first one of the replica in an event
pub data Breaking (w : World) (k : Change) : Type 0 where
  same_break : k.broke ≡ w.breaks k.node k.block → Breaking w k
  first_one : (e : ReplicaEvent) → k.broke ≡ first_break (w.breaks k.node k.block) (w.replicas k.node k.block) e → k.joined ≡ [] → k.replica.known.is_broken ≡ true
      → Goes (w.replicas k.node k.block).known.info (row (w.replicas k.node k.block) e).known.info → Breaking w k

pub record NodeJoins (w : World) (k : Change) : Type 0 where
  pub tells : Tells w k
  pub goes : Goes (w.replicas k.node k.block).known.info k.replica.known.info
  pub broken : (w.replicas k.node k.block).known.is_broken ≡ true → k.replica.known.is_broken ≡ true
  pub joins : Joining w k
  pub breaks : Breaking w k

-- THE FRAME

pub rises-then : (o p : Option ReplicaInfo) (s : ℕ) → Rises o p → AtLeast o s → AtLeast p s
rises-then None p s r a = absurd (none-some a.info a.is)
rises-then (Some i) p s r a = record { info = r.info; is = r.is; least = omega (arith, a.least, r.least, ap (λ (x : ReplicaInfo). x.stamp.0) (same_Some i a.info a.is)) }

-- the stamp of a replica is given for its block
stamp-given : (g : Givens) (w : World) (k : Change) → Carried g (apply w k) → IfSome k.replica.known.info (λ i. (s : ℕ) × (g k.block i.stamp.0 ≡ Some s))
unfolding apply
stamp-given g w k c =
    let p = (apply w k).past in
    let says : ReplicaSays g p k.block k.replica =
    subst (λ (r : FullReplica). ReplicaSays g p k.block r) (at w.replicas k.replica) (c.replicas k.node k.block) in
    some-weaker (Holds g p k.block k.replica.bytes) (λ i. (s : ℕ) × (g k.block i.stamp.0 ≡ Some s)) k.replica.known.info (λ i h. (h.under.session, h.under.given)) says.info
  where
    eq : (n : ℕ) → (n == n) ≡ true
    eq n = go (n == n) refl
      where
        go : (b : Bool) → (n == n) ≡ b → (n == n) ≡ true
        go true e = e
        go false e = absurd (eqb-false n n e refl)

    at : (f : ℕ → ℕ → FullReplica) (r : FullReplica) → put_at f k.node k.block r k.node k.block ≡ r
    at f r = ap (λ (b : Bool). if b && k.block == k.block then r else f k.node k.block) (eq k.node) ∙ ap (λ (b : Bool). if b then r else f k.node k.block) (eq k.block)

-- a stamp is given for one block
abbrev pub IsOfOne : Givens → Type 0
IsOfOne g = (b c t e f : ℕ) → g b t ≡ Some e → g c t ≡ Some f → b ≡ c

-- where nothing is joined
back-joined : (w : World) (k : Change) (x : Joined) → k.joined ≡ [] → Has (w.joined ++ k.joined) x → Has w.joined x
back-joined w k x e q = subst (λ (xs : List Joined). Has xs x) (ap (λ (ys : List Joined). w.joined ++ ys) e ∙ append-nil w.joined) q

-- what is joined in a setup
split-joined : (w : World) (k : Change) (i : ReplicaInfo) (x : Joined) → k.joined ≡ joined_as i.stamp.0 k.node (w.lives k.node) ∷ [] → Has (w.joined ++ k.joined) x → Has w.joined x ⊎ (joined_as i.stamp.0 k.node (w.lives k.node) ≡ x)
split-joined w k i x e q = has-split w.joined (joined_as i.stamp.0 k.node (w.lives k.node)) x (subst (λ (ys : List Joined). Has (w.joined ++ ys) x) e q)

more-given : (g : Givens) (w : World) (k : Change) → Carried g (apply w k) → Joining w k → ((s n l : ℕ) → Has w.joined (joined_as s n l) → IsGiven g s) → (s n l : ℕ) → Has (w.joined ++ k.joined) (joined_as s n l) → IsGiven g s
more-given g w k c (quiet e opens whole) h s n l q = h s n l (back-joined w k (joined_as s n l) e q)
more-given g w k c (taken x is whole e broke) h s n l q = go (split-joined w k x (joined_as s n l) e q)
  where
    own : (s : ℕ) × (g k.block x.stamp.0 ≡ Some s)
    own = subst (λ (o : Option ReplicaInfo). IfSome o (λ i. (s : ℕ) × (g k.block i.stamp.0 ≡ Some s))) is (stamp-given g w k c)

    go : Has w.joined (joined_as s n l) ⊎ (joined_as x.stamp.0 k.node (w.lives k.node) ≡ joined_as s n l) → IsGiven g s
    go (inl j) = h s n l j
    go (inr j) = record { block = k.block; session = own.0; is = ap (λ (t : ℕ). g k.block t) (sym (ap (λ (z : Joined). z.stamp) j)) ∙ own.1 }

-- what the other replicas have reached stays so
others-reached : (g : Givens) (w : World) (k : Change) → IsOfOne g → Carried g (apply w k) → Joining w k → (n b : ℕ) → (n ≡ k.node → b ≡ k.block → ⊥) → (o : Option ReplicaInfo) → HasReached g w.joined n b o → HasReached g (w.joined ++ k.joined) n b o
others-reached g w k i c (quiet e opens whole) n b apart o h = record { least = λ s l d q j. h.least s l d (back-joined w k (joined_as s n l) e q) j }
others-reached g w k i c (taken x is whole e broke) n b apart o h = record { least = λ s l d q j. go s l d j (split-joined w k x (joined_as s n l) e q) }
  where
    own : (s : ℕ) × (g k.block x.stamp.0 ≡ Some s)
    own = subst (λ (o : Option ReplicaInfo). IfSome o (λ i. (s : ℕ) × (g k.block i.stamp.0 ≡ Some s))) is (stamp-given g w k c)

    go : (s l d : ℕ) → g b s ≡ Some d → Has w.joined (joined_as s n l) ⊎ (joined_as x.stamp.0 k.node (w.lives k.node) ≡ joined_as s n l) → AtLeast o s
    go s l d j (inl q) = h.least s l d q j
    go s l d j (inr q) =
        let stamp : x.stamp.0 ≡ s = ap (λ (z : Joined). z.stamp) q in
        let node : k.node ≡ n = ap (λ (z : Joined). z.node) q in
        absurd (apart (sym node) (i b k.block s d own.0 j (ap (λ (t : ℕ). g k.block t) (sym stamp) ∙ own.1)))

own-reached : (g : Givens) (w : World) (k : Change) → HasReached g w.joined k.node k.block (w.replicas k.node k.block).known.info → Goes (w.replicas k.node k.block).known.info k.replica.known.info → Joining w k
    → HasReached g (w.joined ++ k.joined) k.node k.block k.replica.known.info
own-reached g w k h r (quiet e opens whole) = record {
  least = λ s l d q j. rises-then (w.replicas k.node k.block).known.info k.replica.known.info s r.rises
      (h.least s l d (back-joined w k (joined_as s k.node l) e q) j);
}
own-reached g w k h r (taken x is whole e broke) = record {
  least = λ s l d q j. go s l d j (split-joined w k x (joined_as s k.node l) e q);
}
  where
    go : (s l d : ℕ) → g k.block s ≡ Some d → Has w.joined (joined_as s k.node l) ⊎ (joined_as x.stamp.0 k.node (w.lives k.node) ≡ joined_as s k.node l) → AtLeast k.replica.known.info s
    go s l d j (inl q) = rises-then (w.replicas k.node k.block).known.info k.replica.known.info s r.rises (h.least s l d q j)
    go s l d j (inr q) = record { info = x; is = is; least = omega (arith, ap (λ (z : Joined). z.stamp) q) }

-- an RBW replica at the node
own-open : (w : World) (k : Change) → IsSetUp w.joined (w.lives k.node) (w.running k.node) k.node (w.replicas k.node k.block) → Joining w k
    → IsSetUp (w.joined ++ k.joined) (w.lives k.node) (w.running k.node) k.node k.replica
own-open w k h (quiet e opens whole) = record { joins = λ runs sound. go (w.replicas k.node k.block).known.info k.replica.known.info opens (h.joins runs (whole sound)) }
  where
    Old : Option ReplicaInfo → Type 0
    Old o = IfSome o (λ i. i.original ≡ state.Rbw → Has w.joined (joined_as i.stamp.0 k.node (w.lives k.node)))

    go : (o p : Option ReplicaInfo) → OpenFrom o p → IfSome o (λ i. i.original ≡ state.Rbw → Has w.joined (joined_as i.stamp.0 k.node (w.lives k.node)))
        → IfSome p (λ i. i.original ≡ state.Rbw → Has (w.joined ++ k.joined) (joined_as i.stamp.0 k.node (w.lives k.node)))
    go o None f x = tt
    go None (Some j) f x = λ r. absurd (f r)
    go (Some i) (Some j) f x = λ r.
        let y = f r in
        subst (λ (t : Stamp). Has (w.joined ++ k.joined) (joined_as t.0 k.node (w.lives k.node))) (sym y.1) (has-left w.joined k.joined (joined_as i.stamp.0 k.node (w.lives k.node)) (x y.0))
own-open w k h (taken x is whole e broke) = record {
  joins = λ runs sound.
      subst (λ (o : Option ReplicaInfo). IfSome o (λ i. i.original ≡ state.Rbw → Has (w.joined ++ k.joined) (joined_as i.stamp.0 k.node (w.lives k.node)))) (sym is)
      (λ _. subst (λ (ys : List Joined). Has (w.joined ++ ys) (joined_as x.stamp.0 k.node (w.lives k.node))) (sym e) (has-end w.joined (joined_as x.stamp.0 k.node (w.lives k.node))));
}

other-open : (joined more : List Joined) (life : ℕ) (runs : Bool) (n : ℕ) (r : FullReplica) → IsSetUp joined life runs n r → IsSetUp (joined ++ more) life runs n r
other-open joined more life runs n r h = record {
  joins = λ a b. some-weaker (λ i. i.original ≡ state.Rbw → Has joined (joined_as i.stamp.0 n life)) (λ i. i.original ≡ state.Rbw → Has (joined ++ more) (joined_as i.stamp.0 n life)) r.known.info
      (λ i f e. has-left joined more (joined_as i.stamp.0 n life) (f e)) (h.joins a b);
}

-- where nothing is joined
same-joined : (g : Givens) (w : World) (k : Change) (n b : ℕ) (o : Option ReplicaInfo) → k.joined ≡ [] → HasReached g w.joined n b o → HasReached g (w.joined ++ k.joined) n b o
same-joined g w k n b o e h = subst (λ (xs : List Joined). HasReached g xs n b o) (sym (ap (λ (ys : List Joined). w.joined ++ ys) e ∙ append-nil w.joined)) h

kept-break : (g : Givens) (w : World) (k : Change) → NodeJoins w k → Joining w k → (x : Break) → BreakReached g w.joined k.node k.block (w.replicas k.node k.block) x → BreakReached g (w.joined ++ k.joined) k.node k.block k.replica x
kept-break g w k n (quiet e opens whole) x b = record { reached = same-joined g w k k.node k.block x.before.known.info e b.reached; plain = b.plain; rises = b.rises; broken = n.broken b.broken }
kept-break g w k n (taken i is whole e broke) x b = absurd (false≢true (sym whole ∙ b.broken))

-- breaks at the node
own-break : (g : Givens) (w : World) (k : Change) → SetUps g w → NodeJoins w k → (o : Option Break) → w.breaks k.node k.block ≡ o → Breaking w k → IfSome k.broke (BreakReached g (w.joined ++ k.joined) k.node k.block k.replica)
own-break g w k h n None e (same_break s) = subst (λ (o : Option Break). IfSome o (BreakReached g (w.joined ++ k.joined) k.node k.block k.replica)) (sym (s ∙ e)) tt
own-break g w k h n (Some x) e (same_break s) = subst (λ (o : Option Break). IfSome o (BreakReached g (w.joined ++ k.joined) k.node k.block k.replica)) (sym (s ∙ e)) (kept-break g w k n n.joins x (old e))
  where
    old : w.breaks k.node k.block ≡ Some x → BreakReached g w.joined k.node k.block (w.replicas k.node k.block) x
    old q = subst (λ (o : Option Break). IfSome o (BreakReached g w.joined k.node k.block (w.replicas k.node k.block))) q (h.breaks k.node k.block)
own-break g w k h n None e (first_one d s none now r) =
    subst (λ (o : Option Break). IfSome o (BreakReached g (w.joined ++ k.joined) k.node k.block k.replica)) (sym (s ∙ ap (λ (o : Option Break). first_break o (w.replicas k.node k.block) d) e)) (record {
      reached = same-joined g w k k.node k.block (w.replicas k.node k.block).known.info none (h.reached k.node k.block);
      plain = h.plain k.node k.block;
      rises = r.rises;
      broken = now;
    })
own-break g w k h n (Some x) e (first_one d s none now r) =
    let b = subst (λ (o : Option Break). IfSome o (BreakReached g w.joined k.node k.block (w.replicas k.node k.block))) e (h.breaks k.node k.block) in
    subst (λ (o : Option Break). IfSome o (BreakReached g (w.joined ++ k.joined) k.node k.block k.replica)) (sym (s ∙ ap (λ (o : Option Break). first_break o (w.replicas k.node k.block) d) e)) (record {
      reached = same-joined g w k k.node k.block x.before.known.info none b.reached;
      plain = b.plain;
      rises = b.rises;
      broken = now;
    })

-- what was answered
more-answers : (g : Givens) (xs : List Answered) (o : Option Answered) → IfSome o (IsOfBlock g) → ((a : Answered) → Has xs a → IsOfBlock g a) → (a : Answered) → Has (xs ++ listed o) a → IsOfBlock g a
more-answers g xs None n h a q = h a (subst (λ (ys : List Answered). Has ys a) (append-nil xs) q)
more-answers g xs (Some x) n h a q = go (has-split xs x a q)
  where
    go : Has xs a ⊎ (x ≡ a) → IsOfBlock g a
    go (inl j) = h a j
    go (inr e) = subst (λ (y : Answered). IsOfBlock g y) e n

-- the frame of a change
both-false : (a c n b : ℕ) → (n == a && b == c) ≡ false → n ≡ a → b ≡ c → ⊥
both-false a c n b e i j = go (n == a) (b == c) refl refl e
  where
    go : (s t : Bool) → (n == a) ≡ s → (b == c) ≡ t → (s && t) ≡ false → ⊥
    go true true x y z = false≢true (sym z)
    go true false x y z = eqb-false b c y j
    go false t x y z = eqb-false n a x i

pub put-at-split : {A : Type 0} (P : ℕ → ℕ → A → Type 0) (f : ℕ → ℕ → A) (a c : ℕ) (x : A) → P a c x → ((n b : ℕ) → (n ≡ a → b ≡ c → ⊥) → P n b (f n b)) → (n b : ℕ) → P n b (put_at f a c x n b)
put-at-split {A} P f a c x h q n b =
    if-each (λ (y : A). P n b y) (n == a && b == c) x (f n b)
    (λ e. subst (λ (m : ℕ). P m b x) (sym (eqb-true n a (and-left (n == a) (b == c) e))) (subst (λ (m : ℕ). P a m x) (sym (eqb-true b c (and-right (n == a) (b == c) e))) h))
    (λ e. q n b (both-false a c n b e))

pub node-joins : (g : Givens) (w : World) (k : Change) → SetUps g w → IsOfOne g → Carried g (apply w k) → TellsIn g k → NodeJoins w k → SetUps g (apply w k)
unfolding apply
node-joins g w k h i c a n = record {
  answers = more-answers g w.answered k.answered a h.answers;
  given = more-given g w k c n.joins h.given;
  reached = put-at-split (λ (m b : ℕ) (r : FullReplica). HasReached g (w.joined ++ k.joined) m b r.known.info) w.replicas k.node k.block k.replica
      (own-reached g w k (h.reached k.node k.block) n.goes n.joins) (λ m b apart. others-reached g w k i c n.joins m b apart (w.replicas m b).known.info (h.reached m b));
  plain = put-at-split (λ (m b : ℕ) (r : FullReplica). IfSome r.known.info IsPlain) w.replicas k.node k.block k.replica n.goes.plain (λ m b apart. h.plain m b);
  writes = put-at-split (λ (m b : ℕ) (r : FullReplica). IsSetUp (w.joined ++ k.joined) (w.lives m) (w.running m) m r) w.replicas k.node k.block k.replica
      (own-open w k (h.writes k.node k.block) n.joins) (λ m b apart. other-open w.joined k.joined (w.lives m) (w.running m) m (w.replicas m b) (h.writes m b));
  breaks = λ m b. break-at m b (m == k.node && b == k.block) refl;
}
  where
    break-at : (m b : ℕ) (t : Bool) → (m == k.node && b == k.block) ≡ t
        → IfSome (if t then k.broke else w.breaks m b) (BreakReached g (w.joined ++ k.joined) m b (if t then k.replica else w.replicas m b))
    break-at m b true e =
        subst (λ (x : ℕ). IfSome k.broke (BreakReached g (w.joined ++ k.joined) x b k.replica)) (sym (eqb-true m k.node (and-left (m == k.node) (b == k.block) e)))
        (subst (λ (x : ℕ). IfSome k.broke (BreakReached g (w.joined ++ k.joined) k.node x k.replica)) (sym (eqb-true b k.block (and-right (m == k.node) (b == k.block) e)))
        (own-break g w k h n (w.breaks k.node k.block) refl n.breaks))
    break-at m b false e =
        some-weaker (BreakReached g w.joined m b (w.replicas m b)) (BreakReached g (w.joined ++ k.joined) m b (w.replicas m b)) (w.breaks m b) (λ x r. record {
          reached = others-reached g w k i c n.joins m b (both-false k.node k.block m b e) x.before.known.info r.reached;
          plain = r.plain;
          rises = r.rises;
          broken = r.broken;
        }) (h.breaks m b)
