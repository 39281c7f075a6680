-- What a restart finds FINALIZED has the length of its stamp.
use Rattle.std.proofs.Common.{◌≡◌, ℕ, inl, inr, Bool, true, false, List, [], length, Option, Some, None, IfSome, refl, sym, ◌∙◌, subst}
use Rattle.std.proofs.lemmas.Bool.{false≢true}
use Rattle.std.proofs.lemmas.Option.{none-some}
use Rattle.hd_base.specs.declared.numbers.Stamp.{Stamp}
use Rattle.hd_base.specs.declared.states.ReplicaState.{ReplicaState}
use Rattle.hd_base.specs.declared.states.ReplicaState.TheVariants as state
use Rattle.hd_base.specs.SumRules.{Rule}
use Rattle.replica_core.specs.declared.info.ReplicaInfo.{ReplicaInfo}
use Rattle.replica_core.specs.Info.{is_temporary, is_finalized}
use Rattle.replica_core.specs.Views.{written_at}
use Rattle.replica_model.specs.Rows.{FullReplica, IsFull, row}
use Rattle.replica_model.proofs.RowLemmas.{rows_keep_bytes}
use Rattle.replica_model.specs.Plans.{plan, has_changing}
use Rattle.replica_model.specs.Found.{Found, found_as, found_whole, settled_state, MayFindBetween, waits_old_before, waits_old_after, waits_new_before, waits_new_after, stays_final, becomes_final, cut_final, MayFindNew, MayFindReceived, MayFindChanged, MayFindAmid, MayFindWithin}
use Rattle.world.specs.Parts.{Break}
use Rattle.world.specs.Worlds.{World}
use Rattle.world.specs.Restarts.{replica_found, restarted}
use Rattle.world_laws.proofs.FactTables.{if-each}
use Rattle.world_laws.specs.Filling.{IsBreak}
use Rattle.world_laws.specs.Finding.{MayFindAt}
use Rattle.world_laws.proofs.FoundLaws.{restarts-find}
use Rattle.world_laws.specs.Stamping.{Givens}
use Rattle.world_finals.specs.Finishing.{Ids, FinalLength, IsFinalOf, ReplicaEnds, KeepsFinal, BreakEnds, Finals}

-- WHAT IS FOUND

-- what is found FINALIZED has its stamp's length
abbrev FindsFinal : Ids → Givens → World → ℕ → Option Found → Type 0
FindsFinal f g w b o = IfSome o (λ y. y.state ≡ state.Finalized → FinalLength f g w b y.stamp.0 (length y.bytes))

rwr-isnt-final : state.Rwr ≡ state.Finalized → ⊥
rwr-isnt-final e = cc

finds-waiting : (f : Ids) (g : Givens) (w : World) (b : ℕ) (o : Option Found) (t : Stamp) (sums : Rule) (v : List ℕ) → o ≡ found_as state.Rwr t sums v → FindsFinal f g w b o
finds-waiting f g w b o t sums v e = subst (λ (x : Option Found). FindsFinal f g w b x) (sym e) (λ q. absurd (rwr-isnt-final q))

finds-final : (f : Ids) (g : Givens) (w : World) (b : ℕ) (o : Option Found) (t : Stamp) (sums : Rule) (v : List ℕ) → o ≡ found_as state.Finalized t sums v → FinalLength f g w b t.0 (length v) → FindsFinal f g w b o
finds-final f g w b o t sums v e h = subst (λ (x : Option Found). FindsFinal f g w b x) (sym e) (λ _. h)

settled-final : (s : ReplicaState) → settled_state s ≡ state.Finalized → s ≡ state.Finalized
settled-final state.Finalized e = refl
settled-final state.Rbw e = absurd (rwr-isnt-final e)
settled-final state.Rwr e = absurd (rwr-isnt-final e)
settled-final state.Rur e = absurd (rwr-isnt-final e)
settled-final state.Temporary e = absurd (rwr-isnt-final e)

finalized-is : (s : ReplicaState) → is_finalized s ≡ true → s ≡ state.Finalized
finalized-is state.Finalized e = refl
finalized-is state.Rbw e = absurd (false≢true e)
finalized-is state.Rwr e = absurd (false≢true e)
finalized-is state.Rur e = absurd (false≢true e)
finalized-is state.Temporary e = absurd (false≢true e)

-- a replica with just so many bytes as are written
abbrev Sized : Option ReplicaInfo → List ℕ → Type 0
Sized o v = IfSome o (λ i. length v ≡ i.written)

sized-of : (o : Option ReplicaInfo) (v : List ℕ) → length v ≡ written_at o → Sized o v
sized-of None v e = tt
sized-of (Some i) v e = e

full-sized : (r : FullReplica) → IsFull r → Sized r.known.info r.bytes
full-sized r h = sized-of r.known.info r.bytes h.all

whole-final : (f : Ids) (g : Givens) (w : World) (b : ℕ) (o : Option ReplicaInfo) (v : List ℕ) → Sized o v → IfSome o (IsFinalOf f g w b) → FindsFinal f g w b (found_whole o v)
whole-final f g w b None v s h = tt
whole-final f g w b (Some i) v s h =
    if-each (FindsFinal f g w b) (is_temporary i.original) None (found_as (settled_state i.original) i.stamp i.sums v) (λ _. tt)
    (λ _ q. subst (λ (n : ℕ). FinalLength f g w b i.stamp.0 n) (sym s) (h (settled-final i.original q)))

is-whole : (f : Ids) (g : Givens) (w : World) (b : ℕ) (o : Option ReplicaInfo) (v : List ℕ) (x : Option Found) → x ≡ found_whole o v → Sized o v → IfSome o (IsFinalOf f g w b) → FindsFinal f g w b x
is-whole f g w b o v x e s h = subst (λ (y : Option Found). FindsFinal f g w b y) (sym e) (whole-final f g w b o v s h)

between-final : (f : Ids) (g : Givens) (w : World) (b : ℕ) (i k : ReplicaInfo) (v u : List ℕ) (x : Option Found) → MayFindBetween i v k u x → length v ≡ i.written → length u ≡ k.written → IsFinalOf f g w b i → IsFinalOf f g w b k
    → (i.original ≡ state.Finalized → k.original ≡ state.Finalized → k.written ≡ i.written) → FindsFinal f g w b x
between-final f g w b i k v u x (waits_old_before y) s t h n same = finds-waiting f g w b x i.stamp i.sums y.0 y.1
between-final f g w b i k v u x (waits_old_after y) s t h n same = finds-waiting f g w b x i.stamp i.sums y.0 y.1
between-final f g w b i k v u x (waits_new_before y) s t h n same = finds-waiting f g w b x k.stamp i.sums y.0 y.1
between-final f g w b i k v u x (waits_new_after y) s t h n same = finds-waiting f g w b x k.stamp i.sums y.0 y.1
between-final f g w b i k v u x (stays_final a e) s t h n same = finds-final f g w b x i.stamp i.sums v e (subst (λ (m : ℕ). FinalLength f g w b i.stamp.0 m) (sym s) (h (finalized-is i.original a)))
between-final f g w b i k v u x (becomes_final a e) s t h n same = finds-final f g w b x k.stamp i.sums u e (subst (λ (m : ℕ). FinalLength f g w b k.stamp.0 m) (sym t) (n (finalized-is k.original a)))
between-final f g w b i k v u x (cut_final a c e) s t h n same =
    let p = finalized-is i.original a in
    let q = finalized-is k.original c in
    finds-final f g w b x i.stamp i.sums u e (subst (λ (m : ℕ). FinalLength f g w b i.stamp.0 m) (sym (t ∙ same p q)) (h p))

new-final : (f : Ids) (g : Givens) (w : World) (b : ℕ) (k : ReplicaInfo) (x : Option Found) → MayFindNew k x → FindsFinal f g w b x
new-final f g w b k x (inl e) = subst (λ (y : Option Found). FindsFinal f g w b y) (sym e) tt
new-final f g w b k x (inr p) = finds-waiting f g w b x k.stamp k.sums [] p.1

received-final : (f : Ids) (g : Givens) (w : World) (b : ℕ) (i : ReplicaInfo) (v : List ℕ) (x : Option Found) → MayFindReceived i v x → FindsFinal f g w b x
received-final f g w b i v x (inl e) = subst (λ (y : Option Found). FindsFinal f g w b y) (sym e) tt
received-final f g w b i v x (inr e) = finds-waiting f g w b x i.stamp i.sums v e

changed-final : (f : Ids) (g : Givens) (w : World) (b : ℕ) (s t : Bool) (i k : ReplicaInfo) (v u : List ℕ) (x : Option Found) → MayFindChanged s t i v k u x → length v ≡ i.written → length u ≡ k.written → IsFinalOf f g w b i → IsFinalOf f g w b k
    → (i.original ≡ state.Finalized → k.original ≡ state.Finalized → k.written ≡ i.written) → FindsFinal f g w b x
changed-final f g w b true true i k v u x m p q h n same = subst (λ (y : Option Found). FindsFinal f g w b y) (sym m) tt
changed-final f g w b true false i k v u x m p q h n same = received-final f g w b i v x m
changed-final f g w b false true i k v u x m p q h n same = between-final f g w b i k v u x m p q h n same
changed-final f g w b false false i k v u x m p q h n same = between-final f g w b i k v u x m p q h n same

amid-final : (f : Ids) (g : Givens) (w : World) (b : ℕ) (o p : Option ReplicaInfo) (v u : List ℕ) (x : Option Found) → MayFindAmid o v p u x → Sized o v → Sized p u → IfSome o (IsFinalOf f g w b) → IfSome p (IsFinalOf f g w b) → KeepsFinal o p → FindsFinal f g w b x
amid-final f g w b None None v u x m s t h n k = subst (λ (y : Option Found). FindsFinal f g w b y) (sym m) tt
amid-final f g w b None (Some j) v u x m s t h n k = new-final f g w b j x m
amid-final f g w b (Some i) None v u x m s t h n k = is-whole f g w b (Some i) v x m s h
amid-final f g w b (Some i) (Some j) v u x m s t h n k = changed-final f g w b (is_temporary i.original) (is_temporary j.original) i j v u x m s t h n (λ a c. k.same i j refl refl a c)

within-final : (f : Ids) (g : Givens) (w : World) (b : ℕ) (changing : Bool) (r q : FullReplica) (x : Option Found) → MayFindWithin changing r q x → Sized r.known.info r.bytes → Sized q.known.info q.bytes → IfSome r.known.info (IsFinalOf f g w b)
    → IfSome q.known.info (IsFinalOf f g w b) → KeepsFinal r.known.info q.known.info → FindsFinal f g w b x
within-final f g w b true r q x m s t h n k = amid-final f g w b r.known.info q.known.info r.bytes q.bytes x m s t h n k
within-final f g w b false r q x m s t h n k = is-whole f g w b r.known.info r.bytes x m s h

-- RESTARTED REPLICAS

at-final : (f : Ids) (g : Givens) (w : World) (b : ℕ) (r : FullReplica) (o : Option Break) (x : Option Found) → MayFindAt r o x → IsFull r → IfSome o IsBreak → ReplicaEnds f g w b r → IfSome o (BreakEnds f g w b) → FindsFinal f g w b x
at-final f g w b r None x m s i h k = is-whole f g w b r.known.info r.bytes x m (full-sized r s) h.final
at-final f g w b r (Some y) x m s i h k =
    within-final f g w b (has_changing (plan y.before y.event)) y.before (row y.before y.event) x m (full-sized y.before i.before) (full-sized (row y.before y.event) (rows_keep_bytes y.before y.event i.before i.event)) k.before k.after k.keeps

found-ends : (f : Ids) (g : Givens) (w : World) (b d : ℕ) (o : Option Found) → FindsFinal f g w b o → ReplicaEnds f g w b (replica_found d o)
found-ends f g w b d None h = record { final = tt; last = tt }
found-ends f g w b d (Some y) h = record { final = h; last = record { ends = λ j e q _. absurd (none-some e q) } }

pub restarted-ends : (f : Ids) (g : Givens) (w : World) (n b : ℕ) (x : Option Found) → Finals f g w → IsFull (w.replicas n b) → IfSome (w.breaks n b) IsBreak → ReplicaEnds f g w b (restarted b (w.replicas n b) (w.breaks n b) x)
restarted-ends f g w n b x h s i =
    let a = restarts-find b (w.replicas n b) (w.breaks n b) x in
    subst (λ (r : FullReplica). ReplicaEnds f g w b r) (sym a.is) (found-ends f g w b b a.found (at-final f g w b (w.replicas n b) (w.breaks n b) a.found a.allowed s i (h.replicas n b) (h.breaks n b)))
