-- What a restart finds is a front of what was written in the session of its stamp.
use Rattle.std.proofs.Common.{◌≡◌, ℕ, inl, inr, Bool, true, false, List, [], Option, Some, None, IfSome, sym, subst}
use Rattle.std.specs.Prelude.{◌==◌}
use Rattle.std.proofs.lemmas.Option.{none-some}
use Rattle.hd_base.specs.declared.numbers.Stamp.{Stamp}
use Rattle.hd_base.specs.declared.states.ReplicaState.{ReplicaState}
use Rattle.hd_base.specs.SumRules.{Rule}
use Rattle.replica_core.specs.declared.info.ReplicaInfo.{ReplicaInfo}
use Rattle.replica_core.specs.Info.{is_temporary}
use Rattle.world.specs.ReplicaModel.Rows.{FullReplica, row}
use Rattle.world.specs.ReplicaModel.Plans.{plan, has_changing}
use Rattle.world.specs.ReplicaModel.Found.{Found, IsFront, found_as, found_whole, settled_state, IsWaiting, MayFindBetween, waits_old_before, waits_old_after, waits_new_before, waits_new_after, stays_final, becomes_final, cut_final, MayFindNew, MayFindReceived, MayFindChanged, MayFindAmid, MayFindWithin}
use Rattle.world.specs.declared.events.FoundReplica.{FoundReplica}
use Rattle.world.specs.Parts.{Break}
use Rattle.world.specs.Worlds.{Past, World}
use Rattle.world.specs.Restarts.{found_in, replica_found, restarted, restart}
use Rattle.world_laws.proofs.FactTables.{if-each}
use Rattle.world_laws.specs.Finding.{MayFindAt}
use Rattle.world_laws.proofs.FoundLaws.{restarts-find}
use Rattle.world_laws.specs.Stamping.{Givens}
use Rattle.world_laws.specs.Carrying.{Under, Holds, ReplicaSays, Both, BreakSays, Carried}
use Rattle.world_laws.proofs.Fronts.{front-nil, front-trans}

-- what is found has bytes under its stamp
abbrev FoundSays : Givens → Past → ℕ → Option Found → Type 0
FoundSays g h b o = IfSome o (λ f. Under g h b f.stamp f.bytes)

found-says : (g : Givens) (h : Past) (b : ℕ) (o : Option Found) (at : ReplicaState) (stamp : Stamp) (sums : Rule) (v : List ℕ) → o ≡ found_as at stamp sums v → Under g h b stamp v → FoundSays g h b o
found-says g h b o at stamp sums v e u = subst (λ (f : Option Found). FoundSays g h b f) (sym e) u

none-says : (g : Givens) (h : Past) (b : ℕ) (o : Option Found) → o ≡ None → FoundSays g h b o
none-says g h b o e = subst (λ (f : Option Found). FoundSays g h b f) (sym e) tt

under-front : (g : Givens) (h : Past) (b : ℕ) (t : Stamp) (v w : List ℕ) → IsFront v w → Under g h b t w → Under g h b t v
under-front g h b t v w f u = record { session = u.session; given = u.given; front = front-trans v w (h.written u.session) f u.front }

waiting-says : (g : Givens) (h : Past) (b : ℕ) (o : Option Found) (t : Stamp) (sums : Rule) (v : List ℕ) → IsWaiting o t sums v → Under g h b t v → FoundSays g h b o
waiting-says g h b o t sums v w u = found-says g h b o _ t sums w.0 w.1 (under-front g h b t w.0 v w.2 u)

whole-says : (g : Givens) (h : Past) (b : ℕ) (i : Option ReplicaInfo) (v : List ℕ) → IfSome i (λ x. Under g h b x.stamp v) → FoundSays g h b (found_whole i v)
whole-says g h b None v u = tt
whole-says g h b (Some i) v u =
    if-each (FoundSays g h b) (is_temporary i.original) None (found_as (settled_state i.original) i.stamp i.sums v) (λ _. tt) (λ _. u)

is-whole-says : (g : Givens) (h : Past) (b : ℕ) (i : Option ReplicaInfo) (v : List ℕ) (o : Option Found) → o ≡ found_whole i v → IfSome i (λ x. Under g h b x.stamp v) → FoundSays g h b o
is-whole-says g h b i v o e u = subst (λ (f : Option Found). FoundSays g h b f) (sym e) (whole-says g h b i v u)

between-says : (g : Givens) (h : Past) (b : ℕ) (i k : ReplicaInfo) (v w : List ℕ) (o : Option Found) → MayFindBetween i v k w o → Both g h b v w i → Both g h b v w k → FoundSays g h b o
between-says g h b i k v w o (waits_old_before x) m n = waiting-says g h b o i.stamp i.sums v x m.before
between-says g h b i k v w o (waits_old_after x) m n = waiting-says g h b o i.stamp i.sums w x m.after
between-says g h b i k v w o (waits_new_before x) m n = waiting-says g h b o k.stamp i.sums v x n.before
between-says g h b i k v w o (waits_new_after x) m n = waiting-says g h b o k.stamp i.sums w x n.after
between-says g h b i k v w o (stays_final a e) m n = found-says g h b o _ i.stamp i.sums v e m.before
between-says g h b i k v w o (becomes_final a e) m n = found-says g h b o _ k.stamp i.sums w e n.after
between-says g h b i k v w o (cut_final a c e) m n = found-says g h b o _ i.stamp i.sums w e m.after

new-says : (g : Givens) (h : Past) (b : ℕ) (k : ReplicaInfo) (v w : List ℕ) (o : Option Found) → MayFindNew k o → Both g h b v w k → FoundSays g h b o
new-says g h b k v w o (inl e) n = none-says g h b o e
new-says g h b k v w o (inr p) n = found-says g h b o _ k.stamp k.sums [] p.1 (under-front g h b k.stamp [] v (front-nil v) n.before)

received-says : (g : Givens) (h : Past) (b : ℕ) (i : ReplicaInfo) (v w : List ℕ) (o : Option Found) → MayFindReceived i v o → Both g h b v w i → FoundSays g h b o
received-says g h b i v w o (inl e) m = none-says g h b o e
received-says g h b i v w o (inr e) m = found-says g h b o _ i.stamp i.sums v e m.before

changed-says : (g : Givens) (h : Past) (b : ℕ) (s t : Bool) (i k : ReplicaInfo) (v w : List ℕ) (o : Option Found) → MayFindChanged s t i v k w o → Both g h b v w i → Both g h b v w k → FoundSays g h b o
changed-says g h b true true i k v w o x m n = none-says g h b o x
changed-says g h b true false i k v w o x m n = received-says g h b i v w o x m
changed-says g h b false true i k v w o x m n = between-says g h b i k v w o x m n
changed-says g h b false false i k v w o x m n = between-says g h b i k v w o x m n

amid-says : (g : Givens) (h : Past) (b : ℕ) (i k : Option ReplicaInfo) (v w : List ℕ) (o : Option Found) → MayFindAmid i v k w o → IfSome i (Both g h b v w) → IfSome k (Both g h b v w) → FoundSays g h b o
amid-says g h b None None v w o x m n = none-says g h b o x
amid-says g h b None (Some k) v w o x m n = new-says g h b k v w o x n
amid-says g h b (Some i) None v w o x m n = is-whole-says g h b (Some i) v o x m.before
amid-says g h b (Some i) (Some k) v w o x m n = changed-says g h b (is_temporary i.original) (is_temporary k.original) i k v w o x m n

before-under : (g : Givens) (h : Past) (b : ℕ) (v w : List ℕ) (i : Option ReplicaInfo) → IfSome i (Both g h b v w) → IfSome i (λ x. Under g h b x.stamp v)
before-under g h b v w None m = tt
before-under g h b v w (Some i) m = m.before

within-says : (g : Givens) (h : Past) (b : ℕ) (changing : Bool) (before after : FullReplica) (o : Option Found) → MayFindWithin changing before after o → IfSome before.known.info (Both g h b before.bytes after.bytes)
    → IfSome after.known.info (Both g h b before.bytes after.bytes) → FoundSays g h b o
within-says g h b true before after o x m n = amid-says g h b before.known.info after.known.info before.bytes after.bytes o x m n
within-says g h b false before after o x m n = is-whole-says g h b before.known.info before.bytes o x (before-under g h b before.bytes after.bytes before.known.info m)

holds-under : (g : Givens) (h : Past) (b : ℕ) (v : List ℕ) (i : Option ReplicaInfo) → IfSome i (Holds g h b v) → IfSome i (λ x. Under g h b x.stamp v)
holds-under g h b v None m = tt
holds-under g h b v (Some i) m = m.under

at-says : (g : Givens) (h : Past) (b : ℕ) (r : FullReplica) (x : Option Break) (o : Option Found) → MayFindAt r x o → ReplicaSays g h b r → IfSome x (BreakSays g h b) → FoundSays g h b o
at-says g h b r None o m s k = is-whole-says g h b r.known.info r.bytes o m (holds-under g h b r.bytes r.known.info s.info)
at-says g h b r (Some x) o m s k = within-says g h b (has_changing (plan x.before x.event)) x.before (row x.before x.event) o m k.old k.new

replica-says : (g : Givens) (h : Past) (b : ℕ) (o : Option Found) → FoundSays g h b o → ReplicaSays g h b (replica_found b o)
replica-says g h b None u = record { info = tt; stream = tt }
replica-says g h b (Some f) u = record { info = record { under = u; held = λ id e. absurd (none-some id e) }; stream = tt }

restarted-says : (g : Givens) (h : Past) (b : ℕ) (r : FullReplica) (x : Option Break) (o : Option Found) → ReplicaSays g h b r → IfSome x (BreakSays g h b) → ReplicaSays g h b (restarted b r x o)
restarted-says g h b r x o s k =
    let f = restarts-find b r x o in
    subst (λ (y : FullReplica). ReplicaSays g h b y) (sym f.is) (replica-says g h b f.found (at-says g h b r x f.found f.allowed s k))

pub restart-carried : (g : Givens) (w : World) (n : ℕ) (list : List FoundReplica) → Carried g w → Carried g (restart w n list)
unfolding restart
restart-carried g w n list h = record {
  downs = h.downs;
  ups = h.ups;
  replicas = λ m b. if-each (λ (f : ℕ → FullReplica). ReplicaSays g w.past b (f b)) (m == n) (λ c. restarted c (w.replicas n c) (w.breaks n c) (found_in list c)) (w.replicas m)
      (λ _. restarted-says g w.past b (w.replicas n b) (w.breaks n b) (found_in list b) (h.replicas n b) (h.breaks n b)) (λ _. h.replicas m b);
  breaks = λ m b. if-each (λ (f : ℕ → Option Break). IfSome (f b) (BreakSays g w.past b)) (m == n) (λ _. None) (w.breaks m) (λ _. tt) (λ _. h.breaks m b);
  lowers = h.lowers;
  writers = h.writers;
  entries = h.entries;
  primaries = h.primaries;
  led = h.led;
}
