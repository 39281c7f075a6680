-- Where a member stands as one that was sent the UPDATE, one was sent.
use Rattle.std.proofs.Common.{◌≡◌, ℕ, zero, suc, ◌⊎◌, inl, inr, Bool, true, false, List, [], ◌∷◌, ◌++◌, slice_get, Option, Some, None, Result, Ok, Err, refl, sym, ◌∙◌, ap, subst}
use Rattle.std.specs.Prelude.{◌&&◌, zip, slice_set, option_map}
use Rattle.std.proofs.lemmas.Bool.{false≢true, eq-eqb}
use Rattle.std.proofs.lemmas.Option.{none-some, same_Some}
use Rattle.hd_base.specs.declared.numbers.NodeId.{NodeId}
use Rattle.hd_base.specs.declared.numbers.Stamp.{Stamp}
use Rattle.hd_base.specs.declared.states.ReplicaState.{ReplicaState}
use Rattle.name_core.specs.declared.choice.ChooseFault.{ChooseFault}
use Rattle.name_core.specs.declared.choice.Chosen.{Chosen}
use Rattle.name_core.specs.Choice.{choice}
use Rattle.op_headers.specs.declared.ops.Op.TheVariants as op
use Rattle.recovery_core.specs.declared.primary.OwnStep.TheVariants as own
use Rattle.recovery_core.specs.declared.primary.Phase.{Phase}
use Rattle.recovery_core.specs.declared.primary.Phase.TheVariants as phase
use Rattle.recovery_core.specs.declared.standings.Heard.{Heard}
use Rattle.recovery_core.specs.declared.standings.Heard.TheVariants as heard
use Rattle.recovery_core.specs.declared.standings.Standing.{Standing}
use Rattle.recovery_core.specs.declared.standings.Standing.TheVariants as standing
use Rattle.recovery_core.specs.Primaries.{PrimaryState, told, is_success, after_heard, heard_as, waits, infos, updated_members, is_among, when_chosen, after_choice, all_after_choice, OwnTaken, taken, choosing, committing, own_at, own_step}
use Rattle.world.specs.Parts.{Message, request, Leading}
use Rattle.world.specs.Worlds.{Past, World, Dial, Change, dial_at, listed, past_after}
use Rattle.world.specs.Connections.{is_conn}
use Rattle.world.specs.Primaries.{updates_on, updates_change}
use Rattle.world_laws.proofs.FactTables.{if-each}
use Rattle.world_laws.proofs.SetupNodes.{get-more}
use Rattle.world_recoveries.specs.Recovering.{LeadingFits}
use Rattle.world_recoveries.proofs.Choosing.{own-updates}
use Rattle.world_recoveries.proofs.Leading.{chosen_op}
use Rattle.world_finals.specs.Finishing.{IsUpdating, SentLength, PhaseSent}

-- WHAT A PRIMARY HEARS

-- what stands in a list where one element is another
set-get : {A : Type 0} (xs : List A) (i : ℕ) (x : A) (j : ℕ) (y : A) → slice_get (slice_set xs i x) j ≡ Some y → (slice_get xs j ≡ Some y) ⊎ ((j ≡ i) × (x ≡ y))
set-get [] i x j y e = inl e
set-get (z ∷ zs) zero x zero y e = inr (refl, same_Some x y e)
set-get (z ∷ zs) zero x (suc j) y e = inl e
set-get (z ∷ zs) (suc i) x zero y e = inl e
set-get {A} (z ∷ zs) (suc i) x (suc j) y e = go (set-get zs i x j y e)
  where
    go : (slice_get zs j ≡ Some y) ⊎ ((j ≡ i) × (x ≡ y)) → (slice_get zs j ≡ Some y) ⊎ ((suc j ≡ suc i) × (x ≡ y))
    go (inl q) = inl q
    go (inr q) = inr (ap (λ (m : ℕ). suc m) q.0, q.1)

told-isnt : (o : Option (ReplicaState × Stamp × ℕ)) → IsUpdating (told o) → ⊥
told-isnt None u = u
told-isnt (Some i) u = u

-- what stands so after it was heard stood so before
stood-so : (s : Standing) (y : Heard) → IsUpdating (after_heard s y) → IsUpdating s
stood-so standing.Asked (heard.Answer a) u = if-each (λ (z : Standing). IsUpdating z → ⊥) (is_success a.status) (told a.info) standing.Out (λ _ q. told-isnt a.info q) (λ _ q. q) u
stood-so standing.Asked heard.Unreadable u = u
stood-so standing.Asked heard.End u = u
stood-so (standing.Told a t n z) y u = u
stood-so standing.Updating y u = tt
stood-so standing.Updated y u = tt
stood-so standing.Unreached y u = u
stood-so standing.Out y u = u

pub heard-sent : (h : Past) (p : PrimaryState) (place : ℕ) (y : Heard) (o : Option Standing) → slice_get p.standings place ≡ o → PhaseSent h p.begun.id p.phase p.standings → PhaseSent h (heard_as p place y o).begun.id (heard_as p place y o).phase (heard_as p place y o).standings
heard-sent h p place y None e x = x
heard-sent h p place y (Some s) e x = go p.phase x
  where
    go : (q : Phase) → PhaseSent h p.begun.id q p.standings → PhaseSent h p.begun.id q (slice_set p.standings place (after_heard s y))
    go phase.Informing x = tt
    go phase.Over x = tt
    go (phase.Updating n) x = λ i z q u. either i z u (set-get p.standings place (after_heard s y) i z q)
      where
        either : (i : ℕ) (z : Standing) → IsUpdating z → (slice_get p.standings i ≡ Some z) ⊎ ((i ≡ place) × (after_heard s y ≡ z)) → SentLength h p.begun.id n
        either i z u (inl q) = x i z q u
        either i z u (inr q) = x place s e (stood-so s y (subst (λ (v : Standing). IsUpdating v) (sym q.1) u))

-- THE CHOICE

-- a member that is sent the UPDATE told of its replica
record Picked (picks ns : List NodeId) (ss : List Standing) (p : ℕ) : Type 0 where
  pub node : NodeId
  pub member : slice_get ns p ≡ Some node
  pub among : is_among picks node ≡ true
  pub state : ReplicaState
  pub stamp : Stamp
  pub bytes : ℕ
  pub told_so : slice_get ss p ≡ Some (standing.Told state stamp bytes false)

first-picked : (picks ns : List NodeId) (n : NodeId) (x : Standing) (ss : List Standing) → is_among picks n ≡ true → IsUpdating (when_chosen x) → Picked picks (n ∷ ns) (x ∷ ss) zero
first-picked picks ns n (standing.Told a t m false) ss e u = record { node = n; member = refl; among = e; state = a; stamp = t; bytes = m; told_so = refl }
first-picked picks ns n (standing.Told a t m true) ss e u = absurd u
first-picked picks ns n standing.Unreached ss e u = absurd u
first-picked picks ns n standing.Asked ss e u = absurd u
first-picked picks ns n standing.Updating ss e u = absurd u
first-picked picks ns n standing.Updated ss e u = absurd u
first-picked picks ns n standing.Out ss e u = absurd u

picked : (picks ns : List NodeId) (ss : List Standing) (p : ℕ) (s : Standing) → slice_get (all_after_choice picks ns ss) p ≡ Some s → IsUpdating s → Picked picks ns ss p
picked picks [] ss p s e u = absurd (none-some s e)
picked picks (n ∷ ns) [] p s e u = absurd (none-some s e)
picked picks (n ∷ ns) (x ∷ ss) zero s e u =
    if-each (λ (z : Standing). IsUpdating z → Picked picks (n ∷ ns) (x ∷ ss) zero) (is_among picks n) (when_chosen x) standing.Out (λ q v. first-picked picks ns n x ss q v) (λ _ v. absurd v)
    (subst (λ (z : Standing). IsUpdating z) (sym (same_Some (after_choice picks n x) s e)) u)
picked picks (n ∷ ns) (x ∷ ss) (suc p) s e u =
    let y = picked picks ns ss p s e u in
    record { node = y.node; member = y.member; among = y.among; state = y.state; stamp = y.stamp; bytes = y.bytes; told_so = y.told_so }

both-true : (a b : Bool) → a ≡ true → b ≡ true → (a && b) ≡ false → ⊥
both-true true true p q e = false≢true (sym e)
both-true true false p q e = false≢true q
both-true false b p q e = false≢true p

own-conn : (o : Option ℕ) (c : ℕ) → o ≡ Some c → is_conn o c ≡ true
own-conn o c e = subst (λ (z : Option ℕ). is_conn z c ≡ true) (sym e) (eq-eqb c c refl)

-- what is sent on the connection of a chosen member
sent-one : (u : Message) (picks ns : List NodeId) (cs : List (Option ℕ)) (c p : ℕ) (n : NodeId) → slice_get ns p ≡ Some n → slice_get cs p ≡ Some (Some c) → is_among picks n ≡ true → updates_on u picks (zip ns cs) c ≡ u ∷ []
sent-one u picks [] cs c p n e q t = absurd (none-some n e)
sent-one u picks (m ∷ ns) [] c p n e q t = absurd (none-some (Some c) q)
sent-one u picks (m ∷ ns) (o ∷ cs) c zero n e q t =
    if-each (λ (ms : List Message). ms ≡ u ∷ []) (is_among picks m && is_conn o c) (u ∷ []) (updates_on u picks (zip ns cs) c) (λ _. refl)
    (λ f. absurd (both-true (is_among picks m) (is_conn o c) (ap (λ (x : NodeId). is_among picks x) (same_Some m n e) ∙ t) (own-conn o c (same_Some o (Some c) q)) f))
sent-one u picks (m ∷ ns) (o ∷ cs) c (suc p) n e q t =
    if-each (λ (ms : List Message). ms ≡ u ∷ []) (is_among picks m && is_conn o c) (u ∷ []) (updates_on u picks (zip ns cs) c) (λ _. refl) (λ _. sent-one u picks ns cs c p n e q t)

more-get : {A : Type 0} (xs ys : List A) (j : ℕ) (x : A) → slice_get ys j ≡ Some x → (i : ℕ) × (slice_get (xs ++ ys) i ≡ Some x)
more-get [] ys j x e = (j, e)
more-get (z ∷ xs) ys j x e = let r = more-get xs ys j x e in (suc r.0, r.1)

-- the UPDATEs that a choice sends
pub updates-sent : (w : World) (i : ℕ) (l : Leading) (c : Chosen) → LeadingFits w.past l → (own_step l.state).does ≡ own.Updates c
    → let q = (own_step l.state).primary in PhaseSent (past_after w (updates_change w i l q c)) q.begun.id q.phase q.standings
updates-sent w i l c f d = subst (λ (q : PrimaryState). PhaseSent (past_after w k) q.begun.id q.phase q.standings) (sym (own-updates l.state c d).primary) after
  where
    k : Change
    k = updates_change w i l (own_step l.state).primary c

    u : Message
    u = request (op.Recovery (chosen_op l c))

    sent : (conn p : ℕ) (n : NodeId) → slice_get l.state.members p ≡ Some n → slice_get l.conns p ≡ Some (Some conn) → is_among c.members n ≡ true → SentLength (past_after w k) l.state.begun.id c.length
    sent conn p n e q t =
        let one : slice_get (k.downs conn) 0 ≡ Some u = ap (λ (ms : List Message). slice_get ms 0) (sent-one u c.members l.state.members l.conns conn p n e q t) in
        let there = more-get (w.downs conn) (k.downs conn) 0 u one in
        record {
          conn = conn;
          block = l.state.block.0;
          sent = record {
            asked = chosen_op l c;
            place = there.0;
            there = get-more (w.downs conn ++ k.downs conn) (listed (option_map (λ (z : Dial). z.request) (dial_at w.next_conn k.dials conn))) there.0 u there.1;
            is_update = refl;
            block = refl;
            recovery = refl;
            length = refl;
          };
        }

    after : PhaseSent (past_after w k) l.state.begun.id (phase.Updating c.length) (all_after_choice c.members l.state.members l.state.standings)
    after = λ p s e v.
        let x = picked c.members l.state.members l.state.standings p s e v in
        let a = f.told p x.state x.stamp x.bytes false x.told_so in
        sent a.conn p x.node x.member a.there x.among

-- THE COMMIT

-- some member stands as updated
some-updated : (ns : List NodeId) (ss : List Standing) (n : NodeId) (ms : List NodeId) → updated_members ns ss ≡ n ∷ ms → (p : ℕ) × (slice_get ss p ≡ Some standing.Updated)
some-updated [] ss n ms e = absurd (cc)
some-updated (m ∷ ns) [] n ms e = absurd (cc)
some-updated (m ∷ ns) (standing.Updated ∷ ss) n ms e = (zero, refl)
some-updated (m ∷ ns) (standing.Told a t b z ∷ ss) n ms e = let r = some-updated ns ss n ms e in (suc r.0, r.1)
some-updated (m ∷ ns) (standing.Unreached ∷ ss) n ms e = let r = some-updated ns ss n ms e in (suc r.0, r.1)
some-updated (m ∷ ns) (standing.Asked ∷ ss) n ms e = let r = some-updated ns ss n ms e in (suc r.0, r.1)
some-updated (m ∷ ns) (standing.Updating ∷ ss) n ms e = let r = some-updated ns ss n ms e in (suc r.0, r.1)
some-updated (m ∷ ns) (standing.Out ∷ ss) n ms e = let r = some-updated ns ss n ms e in (suc r.0, r.1)

-- what is committed was sent
pub commits-sent : (h : Past) (p : PrimaryState) (c : Chosen) → PhaseSent h p.begun.id p.phase p.standings → (own_step p).does ≡ own.Commits c → SentLength h p.begun.id c.length
commits-sent h p c x =
    if-each (λ (t : OwnTaken). t.does ≡ own.Commits c → SentLength h p.begun.id c.length) (waits p.standings) (taken p own.Waits) (own_at p.phase p) (λ _ e. absurd (cc)) (λ _ e. at p.phase x e)
  where
    chose : (o : Result Chosen ChooseFault) → (choosing p o).does ≡ own.Commits c → ⊥
    chose (Ok d) e = cc
    chose (Err f) e = cc

    same : (n : ℕ) (ns : List NodeId) → own.Commits (record { length = n; members = ns }) ≡ own.Commits c → n ≡ c.length
    same n ns e = cc

    commits : (n : ℕ) (ns : List NodeId) → updated_members p.members p.standings ≡ ns → PhaseSent h p.begun.id (phase.Updating n) p.standings → (committing p n ns).does ≡ own.Commits c → SentLength h p.begun.id c.length
    commits n [] q x e = absurd (cc)
    commits n (m ∷ ms) q x e = let r = some-updated p.members p.standings m ms q in subst (λ (b : ℕ). SentLength h p.begun.id b) (same n (m ∷ ms) e) (x r.0 standing.Updated r.1 tt)

    at : (q : Phase) → PhaseSent h p.begun.id q p.standings → (own_at q p).does ≡ own.Commits c → SentLength h p.begun.id c.length
    at phase.Informing x e = absurd (chose (choice p.begun.committed (infos p.members p.standings)) e)
    at (phase.Updating n) x e = commits n (updated_members p.members p.standings) refl x e
    at phase.Over x e = absurd (cc)
