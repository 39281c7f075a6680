-- What primaries do and take, in the world.
use Rattle.std.proofs.Common.{◌≡◌, ℕ, zero, suc, ◌<◌, ◌≤◌, ◌+◌, min, Bool, true, false, cond, List, [], ◌∷◌, map, slice_get, Option, Some, None, IfSome, Result, Ok, Err, IfOk, refl, sym, ◌∙◌, ap, subst, arith, eqb-true}
use Rattle.std.specs.Prelude.{◌==◌, ◌&&◌, is_none, zip, filter, find, slice_set, option_map}
use Rattle.std.specs.List.{cons_option}
use Rattle.std.proofs.lemmas.Bool.{false≢true}
use Rattle.std.proofs.lemmas.Option.{none-some, same_Some}
use Rattle.hd_base.specs.Results.{◌>>=◌}
use Rattle.hd_base.specs.declared.numbers.BlockId.{BlockId}
use Rattle.hd_base.specs.declared.numbers.NodeId.{NodeId}
use Rattle.hd_base.specs.declared.numbers.Stamp.{Stamp}
use Rattle.hd_base.specs.declared.states.ReplicaState.{ReplicaState}
use Rattle.name_core.specs.declared.calls.Begun.{Begun}
use Rattle.name_core.specs.declared.calls.OfficeAnswer.TheVariants as office
use Rattle.name_core.specs.declared.choice.Chosen.{Chosen}
use Rattle.name_core.specs.declared.choice.ChooseFault.{ChooseFault}
use Rattle.name_core.specs.declared.choice.Kept.{Kept}
use Rattle.name_core.specs.declared.choice.Kept.TheVariants as kept
use Rattle.name_core.specs.declared.infos.Info.{Info}
use Rattle.name_core.specs.Choice.{is_finalized_candidate, is_chosen, kept_infos, lesser, least, kept_lengths, chosen, shortest, unless_other, other_length, finalized_by, first_of, choice}
use Rattle.world.specs.OpHeaders.Op.TheVariants as op
use Rattle.world.specs.OpHeaders.RecoveryOp.{RecoveryOp}
use Rattle.world.specs.OpHeaders.RecoveryKind.TheVariants as recovery_kind
use Rattle.world.specs.RecoveryCore.OwnStep.{OwnStep}
use Rattle.world.specs.RecoveryCore.OwnStep.TheVariants as own
use Rattle.world.specs.RecoveryCore.Phase.{Phase}
use Rattle.world.specs.RecoveryCore.Phase.TheVariants as phase
use Rattle.world.specs.RecoveryCore.Recovered.{Recovered}
use Rattle.world.specs.RecoveryCore.Heard.{Heard}
use Rattle.world.specs.RecoveryCore.Heard.TheVariants as heard
use Rattle.world.specs.RecoveryCore.Standing.{Standing}
use Rattle.world.specs.RecoveryCore.Standing.TheVariants as standing
use Rattle.world.specs.RecoveryCore.Primaries.{PrimaryState, told, is_success, informed, updated, after_heard, waits, heard_as, heard_at, asked, begun_with, info_of, infos, updated_members, is_among, when_chosen, after_choice, all_after_choice, OwnTaken, taken, over, choosing, committing, own_at, own_step, request_of, office_refused, end_with}
use Rattle.world.specs.ReplicaModel.Rows.{FullReplica}
use Rattle.world.specs.Parts.{Message, request, packet, ack, response, read_status, recovery_answer, Place, by_primary, Lower, Break, Told, Leading, Primary, no_primary, was_told, leads, has_led}
use Rattle.world.specs.Worlds.{Past, World, Dial, Change, put, past_after, apply}
use Rattle.world.specs.Connections.{Next, message, the_end, is_alive, place_of, is_conn}
use Rattle.world.specs.Clients.{are_members}
use Rattle.world.specs.Primaries.{primary_change, dials_answered, numbered, primary_dials, recovery_message, begins_with, begins_as, begins_at, own_recover, updates_on, updates_change, ends_change, leads_step, commits_step, leads_told, own_primary_as, own_primary, heard_of, listens, hears_change, primary_up_as, primary_up}
use Rattle.world_laws.proofs.FactTables.{if-each, when-each, and-left, and-right}
use Rattle.world_laws.specs.Stamping.{Givens}
use Rattle.world_laws.proofs.StampGivens.{low-high, put-here}
use Rattle.world_laws.specs.Carrying.{Recovers, IsRecovery, LiesIn, DownSays, InfoSays, UpSays, StandingSays, PhaseSays, LeadingSays, PrimarySays, LedBy, LowerSays, ReplicaSays, BreakSays, Carried}
use Rattle.world_laws.proofs.ByteLater.{Later, recovers-later, recovery-later, up-later, primary-later}
use Rattle.world_laws.proofs.ByteFrame.{Each, each-nil, each-cons, each-one, each-tail, keeps}
use Rattle.world_laws.proofs.ByteLeaves.{Facts, beside-later, still-writers, still-entries, ready-at, break-at}
use Rattle.world_laws.proofs.ByteLater.{lower-later}
use Rattle.world_laws.proofs.ByteAsking.{Keeps, first-dial}

-- THE CHOICE

find-each : {A : Type 0} (P : A → Type 0) (t : A → Bool) (xs : List A) (x : A) → Each P xs → find t xs ≡ Some x → P x
find-each P t [] x h e = absurd (none-some x e)
find-each {A} P t (y ∷ ys) x h e = go (t y) (find-each P t ys x (each-tail P y ys h)) e
  where
    go : (b : Bool) → (find t ys ≡ Some x → P x) → cond b (Some y) (find t ys) ≡ Some x → P x
    go true k q = subst P (same_Some y x q) (h.at zero y refl)
    go false k q = k q

filter-each : {A : Type 0} (P : A → Type 0) (t : A → Bool) (xs : List A) → Each P xs → Each P (filter t xs)
filter-each P t [] h = each-nil P
filter-each {A} P t (y ∷ ys) h = go (t y) (filter-each P t ys (each-tail P y ys h))
  where
    go : (b : Bool) → Each P (filter t ys) → Each P (cond b (y ∷ filter t ys) (filter t ys))
    go true k = each-cons P y (filter t ys) (h.at zero y refl) k
    go false k = k

-- what is so of each length is so of the least
lesser-is : (Q : ℕ → Type 0) (n : ℕ) (o : Option ℕ) → Q n → IfSome o Q → Q (lesser n o)
lesser-is Q n None h k = h
lesser-is Q n (Some m) h k = low-high (Q (min n m)) n m (λ le. subst Q (first le) h) (λ lt. subst Q (second lt) k)
  where
    first : n ≤ m → n ≡ min n m
    first le = omega (arith, le)

    second : m < n → m ≡ min n m
    second lt = omega (arith, lt)

pub least-is : (Q : ℕ → Type 0) (xs : List Info) → Each (λ i. Q i.length) xs → IfSome (least (map (λ (i : Info). i.length) xs)) Q
least-is Q [] h = tt
least-is Q (x ∷ xs) h = lesser-is Q x.length (least (map (λ (i : Info). i.length) xs)) (h.at zero x refl) (least-is Q xs (each-tail (λ i. Q i.length) x xs h))

mapped : (Q : ℕ → Type 0) (s : Stamp) (k : Kept) (xs : List Info) (o : Option ℕ) → IfSome o Q → IfSome (option_map (λ n. chosen n s k xs) o) (λ c. Q c.length)
mapped Q s k xs None h = tt
mapped Q s k xs (Some n) h = h

shortest-is : (Q : ℕ → Type 0) (s : Stamp) (k : Kept) (xs : List Info) → Each (λ i. Q i.length) xs → IfSome (shortest s k xs) (λ c. Q c.length)
shortest-is Q s k xs h = mapped Q s k xs (least (kept_lengths s k xs)) (least-is Q (kept_infos s k xs) (filter-each (λ i. Q i.length) (is_chosen s k) xs h))

first-is : (Q : ℕ → Type 0) (a b c : Option Chosen) → IfSome a (λ x. Q x.length) → IfSome b (λ x. Q x.length) → IfSome c (λ x. Q x.length) → IfOk (first_of a b c) (λ x. Q x.length)
first-is Q (Some x) b c h k l = h
first-is Q None (Some x) c h k l = k
first-is Q None None (Some x) h k l = l
first-is Q None None None h k l = tt

other-is : (Q : ℕ → Type 0) (n : ℕ) (s : Stamp) (xs : List Info) (o : Option Info) (b c : Option Chosen) → Q n → IfSome b (λ x. Q x.length) → IfSome c (λ x. Q x.length)
    → IfOk (unless_other o n s xs >>= (λ found. first_of found b c)) (λ x. Q x.length)
other-is Q n s xs (Some i) b c h k l = tt
other-is Q n s xs None b c h k l = h

finalized-is : (Q : ℕ → Type 0) (s : Stamp) (xs : List Info) (o : Option Info) (b c : Option Chosen) → IfSome o (λ i. Q i.length) → IfSome b (λ x. Q x.length) → IfSome c (λ x. Q x.length)
    → IfOk (finalized_by o s xs >>= (λ found. first_of found b c)) (λ x. Q x.length)
finalized-is Q s xs None b c h k l = first-is Q None b c tt k l
finalized-is Q s xs (Some i) b c h k l = other-is Q i.length s xs (other_length i.length s xs) b c h k l

found-is : (Q : ℕ → Type 0) (t : Info → Bool) (xs : List Info) (o : Option Info) → find t xs ≡ o → Each (λ i. Q i.length) xs → IfSome o (λ i. Q i.length)
found-is Q t xs None e h = tt
found-is Q t xs (Some i) e h = find-each (λ j. Q j.length) t xs i h e

choice-is : (Q : ℕ → Type 0) (s : Stamp) (xs : List Info) → Each (λ i. Q i.length) xs → IfOk (choice s xs) (λ c. Q c.length)
unfolding choice
choice-is Q s xs h =
    finalized-is Q s xs (find (is_finalized_candidate s) xs) (shortest s kept.Rbw xs) (shortest s kept.Rwr xs) (found-is Q (is_finalized_candidate s) xs (find (is_finalized_candidate s) xs) refl h)
    (shortest-is Q s kept.Rbw xs h) (shortest-is Q s kept.Rwr xs h)

-- STANDINGS

info-is : (g : Givens) (p : Past) (id : Stamp) (n : NodeId) (s : Standing) → StandingSays g p id s → IfSome (info_of n s) (λ i. LiesIn g p id i.length)
info-is g p id n (standing.Told state stamp bytes ended) h = h
info-is g p id n standing.Unreached h = tt
info-is g p id n standing.Asked h = tt
info-is g p id n standing.Updating h = tt
info-is g p id n standing.Updated h = tt
info-is g p id n standing.Out h = tt

infos-are : (g : Givens) (p : Past) (id : Stamp) (ns : List NodeId) (ss : List Standing) → Each (StandingSays g p id) ss → Each (λ i. LiesIn g p id i.length) (infos ns ss)
infos-are g p id [] ss h = each-nil (λ i. LiesIn g p id i.length)
infos-are g p id (n ∷ ns) [] h = each-nil (λ i. LiesIn g p id i.length)
infos-are g p id (n ∷ ns) (s ∷ ss) h = go (info_of n s) (info-is g p id n s (h.at zero s refl)) (infos-are g p id ns ss (each-tail (StandingSays g p id) s ss h))
  where
    P : Info → Type 0
    P i = LiesIn g p id i.length

    go : (o : Option Info) → IfSome o (λ i. LiesIn g p id i.length) → Each (λ i. LiesIn g p id i.length) (infos ns ss) → Each (λ i. LiesIn g p id i.length) (cons_option o (infos ns ss))
    go None k l = l
    go (Some i) k l = each-cons (λ i. LiesIn g p id i.length) i (infos ns ss) k l

chosen-standing : (g : Givens) (p : Past) (id : Stamp) (s : Standing) → StandingSays g p id (when_chosen s)
chosen-standing g p id (standing.Told state stamp bytes false) = tt
chosen-standing g p id (standing.Told state stamp bytes true) = tt
chosen-standing g p id standing.Unreached = tt
chosen-standing g p id standing.Asked = tt
chosen-standing g p id standing.Updating = tt
chosen-standing g p id standing.Updated = tt
chosen-standing g p id standing.Out = tt

after-choice-says : (g : Givens) (p : Past) (id : Stamp) (ns ms : List NodeId) (ss : List Standing) → Each (StandingSays g p id) (all_after_choice ns ms ss)
after-choice-says g p id ns [] ss = each-nil (StandingSays g p id)
after-choice-says g p id ns (m ∷ ms) [] = each-nil (StandingSays g p id)
after-choice-says g p id ns (m ∷ ms) (s ∷ ss) =
    each-cons (StandingSays g p id) (after_choice ns m s) (all_after_choice ns ms ss)
    (if-each (StandingSays g p id) (is_among ns m) (when_chosen s) standing.Out (λ _. chosen-standing g p id s) (λ _. tt)) (after-choice-says g p id ns ms ss)

asked-says : (g : Givens) (p : Past) (id : Stamp) (bs : List Bool) → Each (StandingSays g p id) (map asked bs)
asked-says g p id [] = each-nil (StandingSays g p id)
asked-says g p id (true ∷ bs) = each-cons (StandingSays g p id) standing.Asked (map asked bs) tt (asked-says g p id bs)
asked-says g p id (false ∷ bs) = each-cons (StandingSays g p id) standing.Unreached (map asked bs) tt (asked-says g p id bs)

set-each : {A : Type 0} (P : A → Type 0) (xs : List A) (i : ℕ) (x : A) → Each P xs → P x → Each P (slice_set xs i x)
set-each P [] i x h k = h
set-each P (y ∷ ys) zero x h k = each-cons P x ys k (each-tail P y ys h)
set-each P (y ∷ ys) (suc i) x h k = each-cons P y (slice_set ys i x) (h.at zero y refl) (set-each P ys i x (each-tail P y ys h) k)

-- OWN STEPS

-- what a step makes of a primary: the same recovery, with standings and lengths that lie in its session
record TakenSays (g : Givens) (p : Past) (x : PrimaryState) (t : OwnTaken) : Type 0 where
  pub block : t.primary.block ≡ x.block
  pub begun : t.primary.begun ≡ x.begun
  pub standings : Each (StandingSays g p x.begun.id) t.primary.standings
  pub phase : PhaseSays g p x.begun.id t.primary.phase

-- what it commits lies there
abbrev pub CommitSays : Givens → Past → Stamp → OwnStep → Type 0
CommitSays g p id (own.Commits c) = LiesIn g p id c.length
CommitSays g p id _ = Unit {0}

record StepSays (g : Givens) (p : Past) (x : PrimaryState) (t : OwnTaken) : Type 0 where
  pub taken_says : TakenSays g p x t
  pub commits : CommitSays g p x.begun.id t.does

-- a primary as it stands
record Stands (g : Givens) (p : Past) (x : PrimaryState) : Type 0 where
  pub standings : Each (StandingSays g p x.begun.id) x.standings
  pub phase : PhaseSays g p x.begun.id x.phase

same-step : (g : Givens) (p : Past) (x : PrimaryState) → Stands g p x → StepSays g p x (taken x own.Waits)
same-step g p x h = record { taken_says = record { block = refl; begun = refl; standings = h.standings; phase = h.phase }; commits = tt }

over-step : (g : Givens) (p : Past) (x : PrimaryState) (r : Recovered) → Stands g p x → StepSays g p x (over x r)
over-step g p x r h = record { taken_says = record { block = refl; begun = refl; standings = h.standings; phase = tt }; commits = tt }

choosing-step : (g : Givens) (p : Past) (x : PrimaryState) (r : Result Chosen ChooseFault) → Stands g p x → IfOk r (λ c. LiesIn g p x.begun.id c.length) → StepSays g p x (choosing x r)
choosing-step g p x (Ok c) h k = record { taken_says = record { block = refl; begun = refl; standings = after-choice-says g p x.begun.id c.members x.members x.standings; phase = k }; commits = tt }
choosing-step g p x (Err e) h k = over-step g p x _ h

committing-step : (g : Givens) (p : Past) (x : PrimaryState) (n : ℕ) (ns : List NodeId) → Stands g p x → LiesIn g p x.begun.id n → StepSays g p x (committing x n ns)
committing-step g p x n [] h k = over-step g p x _ h
committing-step g p x n (m ∷ ns) h k = record { taken_says = record { block = refl; begun = refl; standings = h.standings; phase = tt }; commits = k }

own-at-step : (g : Givens) (p : Past) (x : PrimaryState) (q : Phase) → Stands g p x → PhaseSays g p x.begun.id q → StepSays g p x (own_at q x)
own-at-step g p x phase.Informing h k =
    choosing-step g p x (choice x.begun.committed (infos x.members x.standings)) h (choice-is (LiesIn g p x.begun.id) x.begun.committed (infos x.members x.standings) (infos-are g p x.begun.id x.members x.standings h.standings))
own-at-step g p x (phase.Updating n) h k = committing-step g p x n (updated_members x.members x.standings) h k
own-at-step g p x phase.Over h k = same-step g p x h

own-step-says : (g : Givens) (p : Past) (x : PrimaryState) → Stands g p x → StepSays g p x (own_step x)
own-step-says g p x h = if-each (StepSays g p x) (waits x.standings) (taken x own.Waits) (own_at x.phase x) (λ _. same-step g p x h) (λ _. own-at-step g p x x.phase h h.phase)

leading-stands : (g : Givens) (p : Past) (l : Leading) → LeadingSays g p l → Stands g p l.state
leading-stands g p l h = record { standings = record { at = h.standings }; phase = h.phase }

-- what a primary's commit says
pub commit-says : (g : Givens) (p : Past) (l : Leading) → LeadingSays g p l → CommitSays g p l.state.begun.id (own_step l.state).does
commit-says g p l h = (own-step-says g p l.state (leading-stands g p l h)).commits

-- CHANGES OF PRIMARIES

-- the office, the writers and the nodes stay
record LeadBeside (w : World) (k : Change) : Type 0 where
  pub office : k.office ≡ w.office
  pub stamped : k.stamped ≡ None
  pub writer : k.writer ≡ w.writers k.writer_at
  pub bytes : k.bytes ≡ []
  pub replica : k.replica ≡ w.replicas k.node k.block
  pub broke : k.broke ≡ w.breaks k.node k.block
  pub lower : k.lower ≡ w.lowers k.lower_at
  pub ups : (c : ℕ) → k.ups c ≡ []

record LeadNews (g : Givens) (w : World) (k : Change) : Type 0 where
  pub downs : (c : ℕ) → Each (DownSays g (past_after w k) c) (k.downs c)
  pub dials : (i : ℕ) (d : Dial) → slice_get k.dials i ≡ Some d → DownSays g (past_after w k) (w.next_conn + i) d.request
  pub led : (i place j : ℕ) (d : Dial) → slice_get k.dials i ≡ Some d → d.dialled.upper ≡ by_primary j place → LedBy (past_after w k) (w.next_conn + i) (put w.primaries k.primary_at k.primary j)
  pub primary : PrimarySays g (past_after w k) k.primary
  pub leads : (c place : ℕ) → c < w.next_conn → (w.dialled c).upper ≡ by_primary k.primary_at place → LedBy (past_after w k) c k.primary

lead-keeps : (g : Givens) (w : World) (k : Change) → Facts g w → LeadBeside w k → (Later g g w.past (past_after w k) → LeadNews g w k) → Carried g (apply w k)
lead-keeps g w k h a news =
    let y = beside-later g w k h.recorded a.bytes in
    let n = news y in
    let p = past_after w k in
    keeps g g w k h.carried y (record {
      replica = subst (λ (x : FullReplica). ReplicaSays g p k.block x) (sym a.replica) (ready-at g w p k.node k.block h y).says;
      broke = subst (λ (o : Option Break). IfSome o (BreakSays g p k.block)) (sym a.broke) (break-at g w p k.node k.block h y);
      lower = subst (λ (x : Lower). LowerSays p k.lower_at x) (sym a.lower) (lower-later g g w.past p k.lower_at (w.lowers k.lower_at) y (h.carried.lowers k.lower_at));
      downs = n.downs;
      ups = λ c. subst (λ (ms : List Message). Each (UpSays g p c) ms) (sym (a.ups c)) (each-nil (UpSays g p c));
      dials = n.dials;
      led = n.led;
      primary = n.primary;
      leads = n.leads;
      writers = still-writers g w k h a.stamped a.writer a.bytes y;
      entries = still-entries g w k h a.office a.stamped a.bytes y;
    })

-- a primary that ends, or that the office refused
ended-keeps : (g : Givens) (w : World) (i : ℕ) (r : Recovered) (k : Change) → Facts g w → LeadBeside w k → ((c : ℕ) → k.downs c ≡ []) → k.dials ≡ [] → k.primary ≡ has_led r → Keeps g w k
ended-keeps g w i r k h a d s e =
    let p = past_after w k in
    lead-keeps g w k h a (λ y. record {
      downs = λ c. subst (λ (ms : List Message). Each (DownSays g p c) ms) (sym (d c)) (each-nil (DownSays g p c));
      dials = λ j x q. absurd (none-some x (sym (ap (λ xs. slice_get xs j) s) ∙ q));
      led = λ j place m x q. absurd (none-some x (sym (ap (λ xs. slice_get xs j) s) ∙ q));
      primary = subst (λ (x : Primary). PrimarySays g p x) (sym e) tt;
      leads = λ c place lt u. subst (λ (x : Primary). LedBy p c x) (sym e) tt;
    })

-- ITS FIRST STEP

-- each dial is of this primary, with its first request
record IsFirst (i : ℕ) (first : Message) (d : Dial) : Type 0 where
  pub request_is : d.request ≡ first
  pub place : ℕ
  pub upper : d.dialled.upper ≡ by_primary i place

dials-first : (w : World) (i : ℕ) (at : Place) (first : Message) (place : ℕ) (ns : List NodeId) (bs : List Bool) → Each (IsFirst i first) (primary_dials w i at first place ns bs)
dials-first w i at first place [] bs = each-nil (IsFirst i first)
dials-first w i at first place (n ∷ ns) [] = each-nil (IsFirst i first)
dials-first w i at first place (n ∷ ns) (true ∷ bs) =
    each-cons (IsFirst i first) _ (primary_dials w i at first (place + 1) ns bs) (record { request_is = refl; place = place; upper = refl }) (dials-first w i at first (place + 1) ns bs)
dials-first w i at first place (n ∷ ns) (false ∷ bs) = dials-first w i at first (place + 1) ns bs

-- a connection that is numbered is one that is dialled
record IsNumbered (next c : ℕ) (ds : List Dial) : Type 0 where
  pub at : ℕ
  pub dial : Dial
  pub there : slice_get ds at ≡ Some dial
  pub is : next + at ≡ c

numbered-step : (w : World) (i : ℕ) (at : Place) (first : Message) (place next : ℕ) (n : NodeId) (ns : List NodeId) (bs : List Bool) (c : ℕ) (b : Bool) (j : ℕ)
    → ((j : ℕ) → slice_get (numbered (next + 1) bs) j ≡ Some (Some c) → IsNumbered (next + 1) c (primary_dials w i at first (place + 1) ns bs))
    → ((j : ℕ) → slice_get (numbered next bs) j ≡ Some (Some c) → IsNumbered next c (primary_dials w i at first (place + 1) ns bs))
    → slice_get (numbered next (b ∷ bs)) j ≡ Some (Some c) → IsNumbered next c (primary_dials w i at first place (n ∷ ns) (b ∷ bs))
numbered-step w i at first place next n ns bs c true zero k l q = record { at = zero; dial = _; there = refl; is = omega (arith, same_Some next c (same_Some (Some next) (Some c) q)) }
numbered-step w i at first place next n ns bs c true (suc j) k l q = let x = k j q in record { at = suc x.at; dial = x.dial; there = x.there; is = omega (arith, x.is) }
numbered-step w i at first place next n ns bs c false zero k l q = absurd (none-some c (same_Some None (Some c) q))
numbered-step w i at first place next n ns bs c false (suc j) k l q = l j q

numbered-dials : (w : World) (i : ℕ) (at : Place) (first : Message) (place next : ℕ) (ns : List NodeId) (bs : List Bool) (j c : ℕ) → slice_get (numbered next (dials_answered w ns bs)) j ≡ Some (Some c)
    → IsNumbered next c (primary_dials w i at first place ns (dials_answered w ns bs))
numbered-dials w i at first place next [] bs j c e = absurd (none-some (Some c) e)
numbered-dials w i at first place next (n ∷ ns) [] j c e =
    numbered-step w i at first place next n ns (dials_answered w ns []) c false j (λ k q. numbered-dials w i at first (place + 1) (next + 1) ns [] k c q) (λ k q. numbered-dials w i at first (place + 1) next ns [] k c q) e
numbered-dials w i at first place next (n ∷ ns) (b ∷ bs) j c e =
    numbered-step w i at first place next n ns (dials_answered w ns bs) c (b && w.running n.0) j (λ k q. numbered-dials w i at first (place + 1) (next + 1) ns bs k c q) (λ k q. numbered-dials w i at first (place + 1) next ns bs k c q) e

begins-keeps : (g : Givens) (w : World) (i : ℕ) (at : Place) (b : BlockId) (begun : Begun) (ms : List NodeId) (bs : List Bool) (told : Told) → Facts g w → w.primaries i ≡ was_told b told → IsRecovery g w.past b.0 begun.committed begun.id
    → Keeps g w (begins_with w i at b begun ms (dials_answered w ms bs))
begins-keeps g w i at b begun ms bs told h was says =
    let answers = dials_answered w ms bs in
    let k = begins_with w i at b begun ms answers in
    let p = past_after w k in
    let first = recovery_message (begun_with b begun ms answers) in
    lead-keeps g w k h (record { office = refl; stamped = refl; writer = refl; bytes = refl; replica = refl; broke = refl; lower = refl; ups = λ _. refl }) (λ y.
    let rec : IsRecovery g p b.0 begun.committed begun.id = recovery-later g g w.past p b.0 begun.committed begun.id y says in
    let each = dials-first w i at first 0 ms answers in
    let opens : (j : ℕ) (d : Dial) → slice_get k.dials j ≡ Some d → Recovers p (w.next_conn + j) begun.id =
    λ j d q. record { asked = request_of (begun_with b begun ms answers) recovery_kind.Init 0; first = first-dial g w k j d h (λ _. refl) q ∙ ap (λ (m : Message). Some m) (each.at j d q).request_is; is = refl } in
    record {
      downs = λ c. each-nil (DownSays g p c);
      dials = λ j d q. subst (λ (m : Message). DownSays g p (w.next_conn + j) m) (sym (each.at j d q).request_is) (record { first = opens j d q; recovery = rec });
      led = λ j place m d q u. subst (λ (n : ℕ). LedBy p (w.next_conn + j) (put w.primaries i k.primary n)) (same-primary i (each.at j d q).place m place (sym (each.at j d q).upper ∙ u))
          (subst (λ (x : Primary). LedBy p (w.next_conn + j) x) (sym (put-here w.primaries i k.primary)) (opens j d q));
      primary = record {
        recovery = rec;
        conns = λ j c q. let x = numbered-dials w i at first 0 w.next_conn ms bs j c q in subst (λ (n : ℕ). Recovers p n begun.id) x.is (opens x.at x.dial x.there);
        standings = (asked-says g p begun.id answers).at;
        phase = tt;
      };
      leads = λ c place lt u. absurd (subst (λ (x : Primary). LedBy w.past c x) was (h.carried.led c i place lt u));
    })
  where
    same-primary : (i a m c : ℕ) → by_primary i a ≡ by_primary m c → i ≡ m
    same-primary i a m c e = cc

begins-as-keeps : (g : Givens) (w : World) (i : ℕ) (at : Place) (b : BlockId) (ms : List NodeId) (bs : List Bool) (told : Told) → Facts g w → w.primaries i ≡ was_told b told → IfSome (begins_as told w i at b ms bs) (Keeps g w)
begins-as-keeps g w i at b ms bs (Ok (office.Begun begun)) h was = begins-keeps g w i at b begun ms bs (Ok (office.Begun begun)) h was (subst (λ (x : Primary). PrimarySays g w.past x) was (h.carried.primaries i))
begins-as-keeps g w i at b ms bs (Ok (office.Stamp s)) h was = tt
begins-as-keeps g w i at b ms bs (Ok (office.Reopened r)) h was = tt
begins-as-keeps g w i at b ms bs (Ok office.Nothing) h was = tt
begins-as-keeps g w i at b ms bs (Err e) h was =
    ended-keeps g w i (office_refused e) (primary_change w i (has_led (office_refused e))) h (record { office = refl; stamped = refl; writer = refl; bytes = refl; replica = refl; broke = refl; lower = refl; ups = λ _. refl }) (λ _. refl) refl refl

begins-at-keeps : (x : Primary) (g : Givens) (w : World) (i n : ℕ) (b : BlockId) (ms : List NodeId) (bs : List Bool) → Facts g w → w.primaries i ≡ x → IfSome (begins_at x w i n b ms bs) (Keeps g w)
begins-at-keeps no_primary g w i n b ms bs h e = tt
begins-at-keeps (was_told q told) g w i n b ms bs h e =
    when-each (Keeps g w) (q.0 == b.0 && w.running n && are_members ms) _ (λ t.
    let same : q.0 ≡ b.0 = eqb-true q.0 b.0 (and-left (q.0 == b.0) (w.running n) (and-left (q.0 == b.0 && w.running n) (are_members ms) t)) in
    begins-as-keeps g w i (place_of w n) b ms bs told h (e ∙ ap (λ (m : ℕ). was_told (record { 0 = m }) told) same))
begins-at-keeps (leads l) g w i n b ms bs h e = tt
begins-at-keeps (has_led r) g w i n b ms bs h e = tt

pub own-recover-keeps : (g : Givens) (w : World) (i n : ℕ) (b : BlockId) (ms : List NodeId) (bs : List Bool) → Facts g w → IfSome (own_recover w i n b ms bs) (Keeps g w)
own-recover-keeps g w i n b ms bs h = begins-at-keeps (w.primaries i) g w i n b ms bs h refl

-- ITS FURTHER STEPS

zip-each : {A B : Type 0} (P : B → Type 0) (xs : List A) (ys : List B) → Each P ys → Each (λ (x : A × B). P x.1) (zip xs ys)
zip-each {A} {B} P [] ys h = each-nil (λ (x : A × B). P x.1)
zip-each {A} {B} P (x ∷ xs) [] h = each-nil (λ (z : A × B). P z.1)
zip-each {A} {B} P (x ∷ xs) (y ∷ ys) h = each-cons (λ (z : A × B). P z.1) (x, y) (zip xs ys) (h.at zero y refl) (zip-each P xs ys (each-tail P y ys h))

pub conn-is : (o : Option ℕ) (c : ℕ) → is_conn o c ≡ true → o ≡ Some c
conn-is None c e = absurd (false≢true e)
conn-is (Some d) c e = ap (λ (n : ℕ). Some n) (sym (eqb-true c d e))

updates-each : (P : ℕ → Message → Type 0) (m : Message) (chosen : List NodeId) (xs : List (NodeId × Option ℕ)) (c : ℕ) → Each (λ (x : NodeId × Option ℕ). (d : ℕ) → x.1 ≡ Some d → P d m) xs → Each (P c) (updates_on m chosen xs c)
updates-each P m chosen [] c h = each-nil (P c)
updates-each P m chosen (x ∷ xs) c h =
    if-each (λ (ms : List Message). Each (P c) ms) (is_among chosen x.0 && is_conn x.1 c) (m ∷ []) (updates_on m chosen xs c)
    (λ e. each-one (P c) m (h.at zero x refl c (conn-is x.1 c (and-right (is_among chosen x.0) (is_conn x.1 c) e))))
    (λ _. updates-each P m chosen xs c (each-tail (λ (x : NodeId × Option ℕ). (d : ℕ) → x.1 ≡ Some d → P d m) x xs h))

-- a primary that stands as it did, or further, with the same recovery and connections
goes-on : (g : Givens) (p : Past) (l : Leading) (t : OwnTaken) → LeadingSays g p l → TakenSays g p l.state t → LeadingSays g p (record l { state = t.primary })
goes-on g p l t h s = record {
  recovery = subst (λ (b : BlockId). IsRecovery g p b.0 t.primary.begun.committed t.primary.begun.id) (sym s.block) (subst (λ (x : Begun). IsRecovery g p l.state.block.0 x.committed x.id) (sym s.begun) h.recovery);
  conns = λ i c q. subst (λ (x : Begun). Recovers p c x.id) (sym s.begun) (h.conns i c q);
  standings = λ i x q. subst (λ (y : Begun). StandingSays g p y.id x) (sym s.begun) (s.standings.at i x q);
  phase = subst (λ (y : Begun). PhaseSays g p y.id t.primary.phase) (sym s.begun) s.phase;
}

old-leading : (g : Givens) (w : World) (p : Past) (i : ℕ) (l : Leading) → Facts g w → Later g g w.past p → w.primaries i ≡ leads l → LeadingSays g p l
old-leading g w p i l h y e = primary-later g g w.past p (leads l) y (subst (λ (x : Primary). PrimarySays g w.past x) e (h.carried.primaries i))

old-led : (g : Givens) (w : World) (p : Past) (i : ℕ) (l : Leading) → Facts g w → Later g g w.past p → w.primaries i ≡ leads l → (c place : ℕ) → c < w.next_conn → (w.dialled c).upper ≡ by_primary i place → Recovers p c l.state.begun.id
old-led g w p i l h y e c place lt u = recovers-later g g w.past p c l.state.begun.id y (subst (λ (x : Primary). LedBy w.past c x) e (h.carried.led c i place lt u))

updates-keeps : (g : Givens) (w : World) (i : ℕ) (l : Leading) (c : Chosen) → Facts g w → w.primaries i ≡ leads l → Keeps g w (updates_change w i l (own_step l.state).primary c)
updates-keeps g w i l c h e =
    let t = own_step l.state in
    let k = updates_change w i l t.primary c in
    let p = past_after w k in
    let m = request (op.Recovery (request_of l.state recovery_kind.Update c.length)) in
    lead-keeps g w k h (record { office = refl; stamped = refl; writer = refl; bytes = refl; replica = refl; broke = refl; lower = refl; ups = λ _. refl }) (λ y.
    let x = old-leading g w p i l h y e in
    let s = (own-step-says g p l.state (leading-stands g p l x)).taken_says in
    record {
      downs = λ d. updates-each (λ c m. DownSays g p c m) m c.members (zip l.state.members l.conns) d
          (zip-each (λ (o : Option ℕ). (d : ℕ) → o ≡ Some d → DownSays g p d m) l.state.members l.conns
          (record { at = λ j o q d r. record { first = x.conns j d (q ∙ ap (λ (z : Option ℕ). Some z) r); recovery = x.recovery } }));
      dials = λ j d q. absurd (none-some d q);
      led = λ j place n d q u. absurd (none-some d q);
      primary = goes-on g p l t x s;
      leads = λ d place lt u. subst (λ (z : Begun). Recovers p d z.id) (sym s.begun) (old-led g w p i l h y e d place lt u);
    })

ends-keeps : (g : Givens) (w : World) (i : ℕ) (l : Leading) (r : Recovered) → Facts g w → Keeps g w (ends_change w i l r)
ends-keeps g w i l r h =
    ended-keeps g w i r (ends_change w i l r) h (record { office = refl; stamped = refl; writer = refl; bytes = refl; replica = refl; broke = refl; lower = refl; ups = λ _. refl }) (λ _. refl) refl refl

leads-step-keeps : (s : OwnStep) (g : Givens) (w : World) (i : ℕ) (l : Leading) → Facts g w → w.primaries i ≡ leads l → IfSome (leads_step s w i l (own_step l.state).primary) (Keeps g w)
leads-step-keeps own.Waits g w i l h e = tt
leads-step-keeps (own.Updates c) g w i l h e = updates-keeps g w i l c h e
leads-step-keeps (own.Commits c) g w i l h e = tt
leads-step-keeps (own.Ends r) g w i l h e = ends-keeps g w i l r h

commits-step-keeps : (s : OwnStep) (g : Givens) (w : World) (i : ℕ) (l : Leading) (t : Told) → Facts g w → IfSome (commits_step s w i l t) (Keeps g w)
commits-step-keeps own.Waits g w i l t h = tt
commits-step-keeps (own.Updates c) g w i l t h = tt
commits-step-keeps (own.Commits c) g w i l t h = ends-keeps g w i l (end_with l.state c t) h
commits-step-keeps (own.Ends r) g w i l t h = tt

leads-told-keeps : (o : Option Told) (g : Givens) (w : World) (i : ℕ) (l : Leading) → Facts g w → w.primaries i ≡ leads l → IfSome (leads_told o w i l) (Keeps g w)
leads-told-keeps None g w i l h e = leads-step-keeps (own_step l.state).does g w i l h e
leads-told-keeps (Some t) g w i l h e = commits-step-keeps (own_step l.state).does g w i l t h

own-primary-as-keeps : (x : Primary) (g : Givens) (w : World) (i : ℕ) → Facts g w → w.primaries i ≡ x → IfSome (own_primary_as x w i) (Keeps g w)
own-primary-as-keeps no_primary g w i h e = tt
own-primary-as-keeps (was_told b t) g w i h e = tt
own-primary-as-keeps (leads l) g w i h e = when-each (Keeps g w) (is_alive w l.at) _ (λ _. leads-told-keeps l.told g w i l h e)
own-primary-as-keeps (has_led r) g w i h e = tt

pub own-primary-keeps : (g : Givens) (w : World) (i : ℕ) → Facts g w → IfSome (own_primary w i) (Keeps g w)
own-primary-keeps g w i h = own-primary-as-keeps (w.primaries i) g w i h refl

-- WHAT IT TAKES

recovers-once : (h : Past) (c : ℕ) (a b : Stamp) → Recovers h c a → Recovers h c b → a ≡ b
recovers-once h c a b x y = sym x.is ∙ ap (λ (q : RecoveryOp). q.recovery) (same-op x.asked y.asked (same_Some _ _ (sym x.first ∙ y.first))) ∙ y.is
  where
    same-op : (a b : RecoveryOp) → request (op.Recovery a) ≡ request (op.Recovery b) → a ≡ b
    same-op a b e = cc

-- what stands next from below
abbrev pub HeardSays : Givens → Past → ℕ → Next → Type 0
HeardSays g h c (message m) = UpSays g h c m
HeardSays g h c the_end = Unit {0}

-- an answer with a length in the session of this recovery
abbrev AnswerIn : Givens → Past → Stamp → Heard → Type 0
AnswerIn g p id (heard.Answer a) = IfSome a.info (λ i. LiesIn g p id i.2)
AnswerIn g p id _ = Unit {0}

info-in : (g : Givens) (p : Past) (c : ℕ) (id : Stamp) (o : Option (ReplicaState × Stamp × ℕ)) → Recovers p c id → IfSome o (λ i. InfoSays g p c i.2) → IfSome o (λ i. LiesIn g p id i.2)
info-in g p c id None r x = tt
info-in g p c id (Some i) r x = subst (λ (s : Stamp). LiesIn g p s i.2) (recovers-once p c x.id id x.first r) x.lies

answer-in : (g : Givens) (p : Past) (c : ℕ) (id : Stamp) (x : Next) → Recovers p c id → HeardSays g p c x → AnswerIn g p id (heard_of x)
answer-in g p c id (message (recovery_answer a)) r s = info-in g p c id a.info r s
answer-in g p c id (message (request o)) r s = tt
answer-in g p c id (message (packet q)) r s = tt
answer-in g p c id (message (ack a)) r s = tt
answer-in g p c id (message (response a)) r s = tt
answer-in g p c id (message (read_status a)) r s = tt
answer-in g p c id the_end r s = tt

told-says : (g : Givens) (p : Past) (id : Stamp) (o : Option (ReplicaState × Stamp × ℕ)) → IfSome o (λ i. LiesIn g p id i.2) → StandingSays g p id (told o)
told-says g p id None h = tt
told-says g p id (Some i) h = h

informed-says : (g : Givens) (p : Past) (id : Stamp) (x : Heard) → AnswerIn g p id x → StandingSays g p id (informed x)
informed-says g p id (heard.Answer a) h = if-each (StandingSays g p id) (is_success a.status) (told a.info) standing.Out (λ _. told-says g p id a.info h) (λ _. tt)
informed-says g p id heard.Unreadable h = tt
informed-says g p id heard.End h = tt

updated-says : (g : Givens) (p : Past) (id : Stamp) (x : Heard) → StandingSays g p id (updated x)
updated-says g p id (heard.Answer a) = if-each (StandingSays g p id) (is_success a.status) standing.Updated standing.Out (λ _. tt) (λ _. tt)
updated-says g p id heard.Unreadable = tt
updated-says g p id heard.End = tt

after-heard-says : (g : Givens) (p : Past) (id : Stamp) (s : Standing) (x : Heard) → StandingSays g p id s → AnswerIn g p id x → StandingSays g p id (after_heard s x)
after-heard-says g p id standing.Asked x h a = informed-says g p id x a
after-heard-says g p id (standing.Told state stamp bytes ended) x h a = h
after-heard-says g p id standing.Updating x h a = updated-says g p id x
after-heard-says g p id standing.Unreached x h a = tt
after-heard-says g p id standing.Updated x h a = tt
after-heard-says g p id standing.Out x h a = tt

heard-says : (g : Givens) (p : Past) (l : Leading) (at : ℕ) (x : Heard) (o : Option Standing) → slice_get l.state.standings at ≡ o → LeadingSays g p l → AnswerIn g p l.state.begun.id x → LeadingSays g p (record l { state = heard_as l.state at x o })
heard-says g p l at x None e h a = record { recovery = h.recovery; conns = h.conns; standings = h.standings; phase = h.phase }
heard-says g p l at x (Some s) e h a = record {
  recovery = h.recovery;
  conns = h.conns;
  standings = (set-each (StandingSays g p l.state.begun.id) l.state.standings at (after_heard s x) (record { at = h.standings }) (after-heard-says g p l.state.begun.id s x (h.standings at s e) a)).at;
  phase = h.phase;
}

same-id : (x : PrimaryState) (at : ℕ) (q : Heard) (o : Option Standing) → (heard_as x at q o).begun ≡ x.begun
same-id x at q None = refl
same-id x at q (Some s) = refl

hears-keeps : (g : Givens) (w : World) (i : ℕ) (l : Leading) (place c : ℕ) (x : Next) (k : Change) → Facts g w → w.primaries i ≡ leads l → c < w.next_conn → (w.dialled c).upper ≡ by_primary i place → HeardSays g w.past c x
    → k.primary_at ≡ i → k.primary ≡ leads (record l { state = heard_at l.state place (heard_of x) }) → LeadBeside w k → ((d : ℕ) → k.downs d ≡ []) → k.dials ≡ [] → Keeps g w k
hears-keeps g w i l place c x k h e lt u s pa pi a d ds =
    let p = past_after w k in
    lead-keeps g w k h a (λ y.
    let z = old-leading g w p i l h y e in
    let r = old-led g w p i l h y e c place lt u in
    record {
      downs = λ j. subst (λ (ms : List Message). Each (DownSays g p j) ms) (sym (d j)) (each-nil (DownSays g p j));
      dials = λ j b q. absurd (none-some b (sym (ap (λ xs. slice_get xs j) ds) ∙ q));
      led = λ j m n b q v. absurd (none-some b (sym (ap (λ xs. slice_get xs j) ds) ∙ q));
      primary = subst (λ (q : Primary). PrimarySays g p q) (sym pi) (heard-says g p l place (heard_of x) (slice_get l.state.standings place) refl z (answer-in g p c l.state.begun.id x r (next-later p y x s)));
      leads = λ j m low v. subst (λ (q : Primary). LedBy p j q) (sym pi)
          (subst (λ (b : Begun). Recovers p j b.id) (sym (same-id l.state place (heard_of x) (slice_get l.state.standings place))) (old-led g w p i l h y e j m low (v ∙ ap (λ (n : ℕ). by_primary n m) pa)));
    })
  where
    next-later : (p : Past) → Later g g w.past p → (x : Next) → HeardSays g w.past c x → HeardSays g p c x
    next-later p y (message m) t = up-later g g w.past p c m y t
    next-later p y the_end t = tt

hears-change-keeps : (g : Givens) (w : World) (i : ℕ) (l : Leading) (place c : ℕ) (x : Next) (o : Option Standing) → Facts g w → w.primaries i ≡ leads l → c < w.next_conn → (w.dialled c).upper ≡ by_primary i place
    → HeardSays g w.past c x → IfSome (hears_change w i l place c x o) (Keeps g w)
hears-change-keeps g w i l place c x None h e lt u s = tt
hears-change-keeps g w i l place c x (Some q) h e lt u s =
    when-each (Keeps g w) (listens l.state.phase q) _ (λ _.
    hears-keeps g w i l place c x _ h e lt u s refl refl (record { office = refl; stamped = refl; writer = refl; bytes = refl; replica = refl; broke = refl; lower = refl; ups = λ _. refl }) (λ _. refl) refl)

primary-up-as-keeps : (z : Primary) (g : Givens) (w : World) (i place c : ℕ) (x : Next) → Facts g w → w.primaries i ≡ z → c < w.next_conn → (w.dialled c).upper ≡ by_primary i place → HeardSays g w.past c x
    → IfSome (primary_up_as z w i place c x) (Keeps g w)
primary-up-as-keeps no_primary g w i place c x h e lt u s = tt
primary-up-as-keeps (was_told b t) g w i place c x h e lt u s = tt
primary-up-as-keeps (leads l) g w i place c x h e lt u s =
    when-each (Keeps g w) (is_alive w l.at && is_none l.told) _ (λ _. hears-change-keeps g w i l place c x (slice_get l.state.standings place) h e lt u s)
primary-up-as-keeps (has_led r) g w i place c x h e lt u s = tt

pub primary-up-keeps : (g : Givens) (w : World) (i place c : ℕ) (x : Next) → Facts g w → c < w.next_conn → (w.dialled c).upper ≡ by_primary i place → HeardSays g w.past c x → IfSome (primary_up w i place c x) (Keeps g w)
primary-up-keeps g w i place c x h lt u s = primary-up-as-keeps (w.primaries i) g w i place c x h refl lt u s
