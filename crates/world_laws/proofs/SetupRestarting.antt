-- What a restart finds has no lower stamp, and isn't RBW.
use Rattle.std.proofs.Common.{◌≡◌, ℕ, ◌≤◌, inl, inr, Bool, true, false, List, Option, Some, None, IfSome, refl, sym, ap, subst, arith, eqb-true}
use Rattle.std.specs.Prelude.{◌==◌, ◌+◌, if◌then◌else◌}
use Rattle.std.proofs.lemmas.Bool.{false≢true}
use Rattle.std.proofs.lemmas.Option.{none-some}
use Rattle.hd_base.specs.declared.numbers.Stamp.{Stamp}
use Rattle.hd_base.specs.declared.states.ReplicaState.{ReplicaState}
use Rattle.hd_base.specs.declared.states.ReplicaState.TheVariants as state
use Rattle.hd_base.specs.SumRules.{Rule}
use Rattle.replica_core.specs.declared.info.ReplicaInfo.{ReplicaInfo}
use Rattle.replica_core.specs.Info.{is_temporary}
use Rattle.world.specs.ReplicaModel.Rows.{FullReplica, row}
use Rattle.world.specs.ReplicaModel.Plans.{plan, has_changing}
use Rattle.world.specs.ReplicaModel.Found.{Found, found_as, found_whole, settled_state, MayFindBetween, waits_old_before, waits_old_after, waits_new_before, waits_new_after, stays_final, becomes_final, cut_final, MayFindNew, MayFindChanged, MayFindAmid, MayFindWithin}
use Rattle.world.specs.declared.events.FoundReplica.{FoundReplica}
use Rattle.world.specs.Parts.{Break}
use Rattle.world.specs.Worlds.{World}
use Rattle.world.specs.Restarts.{found_in, replica_found, restarted, restart}
use Rattle.world.specs.Safe.{Has}
use Rattle.world_laws.proofs.FactTables.{if-each, some-weaker}
use Rattle.world_laws.specs.Finding.{MayFindAt}
use Rattle.world_laws.proofs.FoundLaws.{restarts-find}
use Rattle.world_laws.specs.Stamping.{Givens}
use Rattle.world_laws.specs.Joining.{joined_as, AtLeast, IsPlain, Rises, HasReached, IsSetUp, BreakReached, SetUps}
use Rattle.world_laws.proofs.SetupNodes.{rises-then}

-- WHAT IS FOUND

-- the state of what is found
abbrev IsSettled : ReplicaState → Type 0
IsSettled at = (at ≡ state.Rbw → ⊥) × (at ≡ state.Temporary → ⊥)

-- what was there is found, with no lower stamp
abbrev Stays : Option ReplicaInfo → Option Found → Type 0
Stays None f = Unit {0}
Stays (Some i) f = (y : Found) × (f ≡ Some y) × (i.stamp.0 ≤ y.stamp.0)

record Finds (o : Option ReplicaInfo) (f : Option Found) : Type 0 where
  pub settled : IfSome f (λ y. IsSettled y.state)
  pub stays : Stays o f

final-settled : IsSettled state.Finalized
final-settled = (λ e. cc, λ e. cc)

waiting-settled : IsSettled state.Rwr
waiting-settled = (λ e. cc, λ e. cc)

settled-of : (s : ReplicaState) → IsSettled (settled_state s)
settled-of state.Finalized = final-settled
settled-of state.Rbw = waiting-settled
settled-of state.Rwr = waiting-settled
settled-of state.Rur = waiting-settled
settled-of state.Temporary = waiting-settled

temporary-is : (s : ReplicaState) → is_temporary s ≡ true → s ≡ state.Temporary
temporary-is state.Temporary e = refl
temporary-is state.Finalized e = absurd (false≢true e)
temporary-is state.Rbw e = absurd (false≢true e)
temporary-is state.Rwr e = absurd (false≢true e)
temporary-is state.Rur e = absurd (false≢true e)

finds-as : (i : ReplicaInfo) (f : Option Found) (at : ReplicaState) (t : Stamp) (sums : Rule) (v : List ℕ) → f ≡ found_as at t sums v → IsSettled at → i.stamp.0 ≤ t.0 → Finds (Some i) f
finds-as i f at t sums v e s le = subst (λ (o : Option Found). Finds (Some i) o) (sym e) (record { settled = s; stays = (record { state = at; stamp = t; sums = sums; bytes = v }, refl, le) })

whole-finds : (o : Option ReplicaInfo) (v : List ℕ) → IfSome o IsPlain → Finds o (found_whole o v)
whole-finds None v h = record { settled = tt; stays = tt }
whole-finds (Some i) v h =
    if-each (Finds (Some i)) (is_temporary i.original) None (found_as (settled_state i.original) i.stamp i.sums v)
    (λ e. absurd (h.lasting (temporary-is i.original e))) (λ _. finds-as i _ _ i.stamp i.sums v refl (settled-of i.original) (omega arith))

is-whole : (o : Option ReplicaInfo) (v : List ℕ) (f : Option Found) → f ≡ found_whole o v → IfSome o IsPlain → Finds o f
is-whole o v f e h = subst (λ (x : Option Found). Finds o x) (sym e) (whole-finds o v h)

between-finds : (i k : ReplicaInfo) (v w : List ℕ) (f : Option Found) → MayFindBetween i v k w f → i.stamp.0 ≤ k.stamp.0 → Finds (Some i) f
between-finds i k v w f (waits_old_before x) le = finds-as i f _ i.stamp i.sums x.0 x.1 waiting-settled (omega arith)
between-finds i k v w f (waits_old_after x) le = finds-as i f _ i.stamp i.sums x.0 x.1 waiting-settled (omega arith)
between-finds i k v w f (waits_new_before x) le = finds-as i f _ k.stamp i.sums x.0 x.1 waiting-settled le
between-finds i k v w f (waits_new_after x) le = finds-as i f _ k.stamp i.sums x.0 x.1 waiting-settled le
between-finds i k v w f (stays_final a e) le = finds-as i f _ i.stamp i.sums v e final-settled (omega arith)
between-finds i k v w f (becomes_final a e) le = finds-as i f _ k.stamp i.sums w e final-settled le
between-finds i k v w f (cut_final a c e) le = finds-as i f _ i.stamp i.sums w e final-settled (omega arith)

new-finds : (k : ReplicaInfo) (f : Option Found) → MayFindNew k f → Finds None f
new-finds k f (inl e) = subst (λ (x : Option Found). Finds None x) (sym e) (record { settled = tt; stays = tt })
new-finds k f (inr p) = subst (λ (x : Option Found). Finds None x) (sym p.1) (record { settled = waiting-settled; stays = tt })

changed-finds : (s t : Bool) (i k : ReplicaInfo) (v w : List ℕ) (f : Option Found) → is_temporary i.original ≡ s → MayFindChanged s t i v k w f → IsPlain i → i.stamp.0 ≤ k.stamp.0 → Finds (Some i) f
changed-finds true t i k v w f e m h le = absurd (h.lasting (temporary-is i.original e))
changed-finds false true i k v w f e m h le = between-finds i k v w f m le
changed-finds false false i k v w f e m h le = between-finds i k v w f m le

least-of : (i k : ReplicaInfo) → AtLeast (Some k) i.stamp.0 → i.stamp.0 ≤ k.stamp.0
least-of i k a = omega (arith, a.least, stamps a.info a.is)
  where
    stamps : (j : ReplicaInfo) → Some k ≡ Some j → k.stamp.0 ≡ j.stamp.0
    stamps j e = cc

amid-finds : (o p : Option ReplicaInfo) (v w : List ℕ) (f : Option Found) → MayFindAmid o v p w f → IfSome o IsPlain → Rises o p → Finds o f
amid-finds None None v w f m h r = subst (λ (x : Option Found). Finds None x) (sym m) (record { settled = tt; stays = tt })
amid-finds None (Some k) v w f m h r = new-finds k f m
amid-finds (Some i) None v w f m h r = is-whole (Some i) v f m h
amid-finds (Some i) (Some k) v w f m h r = changed-finds (is_temporary i.original) (is_temporary k.original) i k v w f refl m h (least-of i k r)

within-finds : (changing : Bool) (r q : FullReplica) (f : Option Found) → MayFindWithin changing r q f → IfSome r.known.info IsPlain → Rises r.known.info q.known.info → Finds r.known.info f
within-finds true r q f m h x = amid-finds r.known.info q.known.info r.bytes q.bytes f m h x
within-finds false r q f m h x = is-whole r.known.info r.bytes f m h

-- RESTARTED REPLICAS

-- what comes back: no lower stamp, and a plain replica that isn't RBW
record Returns (o p : Option ReplicaInfo) : Type 0 where
  pub rises : Rises o p
  pub plain : IfSome p IsPlain
  pub shut : IfSome p (λ i. i.original ≡ state.Rbw → ⊥)

found-returns : (b : ℕ) (o : Option ReplicaInfo) (f : Option Found) → Finds o f → Returns o (replica_found b f).known.info
found-returns b None None h = record { rises = tt; plain = tt; shut = tt }
found-returns b (Some i) None h = absurd (none-some h.stays.0 h.stays.1)
found-returns b o (Some y) h = record { rises = rises o h.stays; plain = record { lasting = h.settled.1; above = λ id e. absurd (none-some id e) }; shut = h.settled.0 }
  where
    same : (x : Found) → Some y ≡ Some x → y.stamp ≡ x.stamp
    same x e = cc

    rises : (o : Option ReplicaInfo) → Stays o (Some y) → Rises o (replica_found b (Some y)).known.info
    rises None s = tt
    rises (Some i) s = record { info = _; is = refl; least = omega (arith, s.2, ap (λ (t : Stamp). t.0) (same s.0 s.1)) }

-- what was there
abbrev held : FullReplica → Option Break → Option ReplicaInfo
held r None = r.known.info
held r (Some x) = x.before.known.info

at-finds : (g : Givens) (w : World) (n b : ℕ) (r : FullReplica) (x : Option Break) (f : Option Found) → MayFindAt r x f → IfSome r.known.info IsPlain → IfSome x (BreakReached g w.joined n b r) → Finds (held r x) f
at-finds g w n b r None f m h k = is-whole r.known.info r.bytes f m h
at-finds g w n b r (Some x) f m h k = within-finds (has_changing (plan x.before x.event)) x.before (row x.before x.event) f m k.plain k.rises

held-reached : (g : Givens) (w : World) (n b : ℕ) (r : FullReplica) (x : Option Break) → HasReached g w.joined n b r.known.info → IfSome x (BreakReached g w.joined n b r) → HasReached g w.joined n b (held r x)
held-reached g w n b r None h k = h
held-reached g w n b r (Some x) h k = k.reached

restarted-returns : (g : Givens) (w : World) (n b : ℕ) (f : Option Found) → SetUps g w → Returns (held (w.replicas n b) (w.breaks n b)) (restarted b (w.replicas n b) (w.breaks n b) f).known.info
restarted-returns g w n b f h =
    let r = w.replicas n b in
    let x = w.breaks n b in
    let a = restarts-find b r x f in
    subst (λ (y : FullReplica). Returns (held r x) y.known.info) (sym a.is) (found-returns b (held r x) a.found (at-finds g w n b r x a.found a.allowed (h.plain n b) (h.breaks n b)))

restarted-reached : (g : Givens) (w : World) (n b : ℕ) (f : Option Found) → SetUps g w → HasReached g w.joined n b (restarted b (w.replicas n b) (w.breaks n b) f).known.info
restarted-reached g w n b f h =
    let r = w.replicas n b in
    let x = w.breaks n b in
    let y = restarted-returns g w n b f h in
    record { least = λ s l e j q. rises-then (held r x) (restarted b r x f).known.info s y.rises ((held-reached g w n b r x (h.reached n b) (h.breaks n b)).least s l e j q) }

shut-open : (w : World) (l n : ℕ) (r : FullReplica) → IfSome r.known.info (λ i. i.original ≡ state.Rbw → ⊥) → IsSetUp w.joined l true n r
shut-open w l n r h = record {
  joins = λ _ _. some-weaker (λ i. i.original ≡ state.Rbw → ⊥) (λ i. i.original ≡ state.Rbw → Has w.joined (joined_as i.stamp.0 n l)) r.known.info (λ i x e. absurd (x e)) h;
}

pub restart-set : (g : Givens) (w : World) (n : ℕ) (list : List FoundReplica) → SetUps g w → SetUps g (restart w n list)
unfolding restart
restart-set g w n list h = record {
  answers = h.answers;
  given = h.given;
  reached = λ m b. at-reached m b (m == n) refl;
  plain = λ m b. at-plain m b (m == n) refl;
  writes = λ m b. at-open m b (m == n) refl;
  breaks = λ m b. at-break m b (m == n) refl;
}
  where
    New : ℕ → FullReplica
    New b = restarted b (w.replicas n b) (w.breaks n b) (found_in list b)

    at-reached : (m b : ℕ) (t : Bool) → (m == n) ≡ t → HasReached g w.joined m b ((if t then New else w.replicas m) b).known.info
    at-reached m b true e = subst (λ (x : ℕ). HasReached g w.joined x b (New b).known.info) (sym (eqb-true m n e)) (restarted-reached g w n b (found_in list b) h)
    at-reached m b false e = h.reached m b

    at-plain : (m b : ℕ) (t : Bool) → (m == n) ≡ t → IfSome ((if t then New else w.replicas m) b).known.info IsPlain
    at-plain m b true e = (restarted-returns g w n b (found_in list b) h).plain
    at-plain m b false e = h.plain m b

    at-open : (m b : ℕ) (t : Bool) → (m == n) ≡ t → IsSetUp w.joined (if t then w.lives n + 1 else w.lives m) (if t then true else w.running m) m ((if t then New else w.replicas m) b)
    at-open m b true e = shut-open w (w.lives n + 1) m (New b) (restarted-returns g w n b (found_in list b) h).shut
    at-open m b false e = h.writes m b

    at-break : (m b : ℕ) (t : Bool) → (m == n) ≡ t → IfSome ((if t then (λ (c : ℕ). None) else w.breaks m) b) (BreakReached g w.joined m b ((if t then New else w.replicas m) b))
    at-break m b true e = tt
    at-break m b false e = h.breaks m b
