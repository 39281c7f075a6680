-- What a primary chooses, and from what it was told.
use Rattle.std.proofs.Common.{◌≡◌, ℕ, zero, suc, ◌≤◌, Bool, true, false, cond, List, [], ◌∷◌, map, slice_get, Option, Some, None, IfSome, Result, Ok, Err, refl, sym, ◌∙◌, ap, subst, arith, eqb-true, min}
use Rattle.std.specs.Prelude.{◌==◌, ◌&&◌, ◌||◌, not, find, filter, option_map}
use Rattle.std.proofs.lemmas.Bool.{false≢true}
use Rattle.std.proofs.lemmas.Option.{none-some, same_Some}
use Rattle.hd_base.specs.Results.{◌>>=◌}
use Rattle.hd_base.specs.declared.numbers.NodeId.{NodeId}
use Rattle.hd_base.specs.declared.numbers.Stamp.{Stamp}
use Rattle.hd_base.specs.declared.states.ReplicaState.{ReplicaState}
use Rattle.hd_base.specs.declared.states.ReplicaState.TheVariants as state
use Rattle.name_core.specs.declared.choice.Chosen.{Chosen}
use Rattle.name_core.specs.declared.choice.ChooseFault.{ChooseFault}
use Rattle.name_core.specs.declared.choice.Kept.{Kept}
use Rattle.name_core.specs.declared.choice.Kept.TheVariants as kept
use Rattle.name_core.specs.declared.infos.Info.{Info}
use Rattle.name_core.specs.Choice.{is_candidate, is_finalized, is_rbw, is_rwr, is_finalized_candidate, is_kept, is_chosen, kept_infos, lesser, least, kept_lengths, chosen, shortest, unless_other, other_length, finalized_by, first_of, choice}
use Rattle.world_laws.specs.RecoveryCore.OwnStep.TheVariants as own
use Rattle.world_laws.specs.RecoveryCore.Phase.{Phase}
use Rattle.world_laws.specs.RecoveryCore.Phase.TheVariants as phase
use Rattle.world_laws.specs.RecoveryCore.Standing.{Standing}
use Rattle.world_laws.specs.RecoveryCore.Standing.TheVariants as standing
use Rattle.world_laws.specs.RecoveryCore.Primaries.{PrimaryState, waits, infos, updated_members, is_among, all_after_choice, OwnTaken, taken, choosing, committing, own_at, own_step}
use Rattle.world_laws.specs.World.Safe.{Has}
use Rattle.world_laws.proofs.FactTables.{if-each, and-left, and-right}
use Rattle.world_laws.proofs.ByteLeading.{least-is}
use Rattle.world_laws.proofs.SetupNodes.{has-cons}

-- LISTS

-- what a filter keeps
filtered : {A : Type 0} (t : A → Bool) (xs : List A) (x : A) → Has (filter t xs) x → Has xs x × (t x ≡ true)
filtered t [] x h = absurd (none-some x h.there)
filtered {A} t (y ∷ ys) x h = go (t y) refl (filtered t ys x) h
  where
    first : (i : ℕ) → t y ≡ true → slice_get (y ∷ filter t ys) i ≡ Some x → (Has (filter t ys) x → Has ys x × (t x ≡ true)) → Has (y ∷ ys) x × (t x ≡ true)
    first zero q e k = (record { place = zero; there = e }, subst (λ (z : A). t z ≡ true) (same_Some y x e) q)
    first (suc i) q e k = let r = k (record { place = i; there = e }) in (has-cons y ys x r.0, r.1)

    go : (b : Bool) → t y ≡ b → (Has (filter t ys) x → Has ys x × (t x ≡ true)) → Has (cond b (y ∷ filter t ys) (filter t ys)) x → Has (y ∷ ys) x × (t x ≡ true)
    go true q k e = first e.place q e.there k
    go false q k e = let r = k e in (has-cons y ys x r.0, r.1)

-- where nothing passes a test, none does
found-none : {A : Type 0} (t : A → Bool) (xs : List A) (x : A) → find t xs ≡ None → Has xs x → t x ≡ false
found-none {A} t [] x e h = absurd (none-some x h.there)
found-none {A} t (y ∷ ys) x e h = go (t y) refl (found-none t ys x) e h.place h.there
  where
    go : (b : Bool) → t y ≡ b → (find t ys ≡ None → Has ys x → t x ≡ false) → cond b (Some y) (find t ys) ≡ None → (i : ℕ) → slice_get (y ∷ ys) i ≡ Some x → t x ≡ false
    go true q k r i s = absurd (none-some y (sym r))
    go false q k r zero s = subst (λ (z : A). t z ≡ false) (same_Some y x s) q
    go false q k r (suc i) s = k r (record { place = i; there = s })

among-has : (xs : List Info) (m : NodeId) → is_among (map (λ (i : Info). i.node) xs) m ≡ true → (i : Info) × Has xs i × (i.node.0 ≡ m.0)
among-has [] m e = absurd (false≢true e)
among-has (x ∷ xs) m e = go (x.node.0 == m.0) refl (among-has xs m) e
  where
    go : (b : Bool) → (x.node.0 == m.0) ≡ b → (is_among (map (λ (i : Info). i.node) xs) m ≡ true → (i : Info) × Has xs i × (i.node.0 ≡ m.0))
        → (b || is_among (map (λ (i : Info). i.node) xs) m) ≡ true → (i : Info) × Has (x ∷ xs) i × (i.node.0 ≡ m.0)
    go true q k r = (x, record { place = zero; there = refl }, eqb-true x.node.0 m.0 q)
    go false q k r = let y = k r in (y.0, has-cons x xs y.0 y.1, y.2)

-- THE LEAST LENGTH

lesser-low : (n : ℕ) (o : Option ℕ) → lesser n o ≤ n
lesser-low n None = omega arith
lesser-low n (Some m) = omega arith

least-low : (xs : List Info) (i : ℕ) (y : Info) (n : ℕ) → slice_get xs i ≡ Some y → least (map (λ (x : Info). x.length) xs) ≡ Some n → n ≤ y.length
least-low [] i y n e q = absurd (none-some y e)
least-low (x ∷ xs) zero y n e q =
    let o = least (map (λ (z : Info). z.length) xs) in
    omega (arith, lesser-low x.length o, same_Some (lesser x.length o) n q, ap (λ (z : Info). z.length) (same_Some x y e))
least-low (x ∷ []) (suc i) y n e q = absurd (none-some y e)
least-low (x ∷ z ∷ zs) (suc i) y n e q =
    let m = lesser z.length (least (map (λ (v : Info). v.length) zs)) in
    omega (arith, least-low (z ∷ zs) i y m e refl, under x.length m, same_Some (min x.length m) n q)
  where
    under : (a b : ℕ) → min a b ≤ b
    under a b = omega arith

-- THE CHOICE

-- of this length an RBW replica was told
pub record OpenInfo (xs : List Info) (n : ℕ) : Type 0 where
  pub info : Info
  pub has : Has xs info
  pub is_open : info.state ≡ state.Rbw
  pub length : info.length ≡ n

-- what was told of a node that is chosen, and of the length
pub record ChosenFrom (xs : List Info) (n : ℕ) (m : NodeId) : Type 0 where
  pub info : Info
  pub has : Has xs info
  pub node : info.node.0 ≡ m.0
  pub least : n ≤ info.length
  pub final : info.state ≡ state.Finalized → n ≡ info.length
  pub opens : info.state ≡ state.Rbw → OpenInfo xs n

abbrev is_ok : Chosen → Result Chosen ChooseFault
is_ok c = Ok c

abbrev Chooses : List Info → Chosen → Type 0
Chooses xs c = (m : NodeId) → is_among c.members m ≡ true → ChosenFrom xs c.length m

rbw-state : (s : ReplicaState) → is_rbw s ≡ true → s ≡ state.Rbw
rbw-state state.Rbw e = refl
rbw-state state.Finalized e = absurd (false≢true e)
rbw-state state.Rwr e = absurd (false≢true e)
rbw-state state.Rur e = absurd (false≢true e)
rbw-state state.Temporary e = absurd (false≢true e)

rbw-isnt-final : state.Rbw ≡ state.Finalized → ⊥
rbw-isnt-final e = cc

not-rwr : (s : ReplicaState) → is_rwr s ≡ true → (s ≡ state.Finalized → ⊥) × (s ≡ state.Rbw → ⊥)
not-rwr state.Rwr e = (λ q. cc, λ q. cc)
not-rwr state.Finalized e = absurd (false≢true e)
not-rwr state.Rbw e = absurd (false≢true e)
not-rwr state.Rur e = absurd (false≢true e)
not-rwr state.Temporary e = absurd (false≢true e)

-- a candidate that is kept beside finalized ones has their length
same-length : (s : Stamp) (n : ℕ) (xs : List Info) (i : Info) → other_length n s xs ≡ None → Has xs i → is_chosen s (kept.Finalized n) i ≡ true → i.length ≡ n
same-length s n xs i none h e = at i.state refl
  where
    t : Info → Bool
    t x = is_finalized_candidate s x && not (x.length == n)

    candidate : is_candidate s i ≡ true
    candidate = and-left (is_candidate s i) (is_kept (kept.Finalized n) i) e

    kept_is : is_kept (kept.Finalized n) i ≡ true
    kept_is = and-right (is_candidate s i) (is_kept (kept.Finalized n) i) e

    equal : (a b c : Bool) → a ≡ true → b ≡ true → ((a && b) && not c) ≡ false → c ≡ true
    equal a b true p q r = refl
    equal a b false p q r = absurd (false≢true (sym r ∙ ap (λ (x : Bool). (x && b) && true) p ∙ ap (λ (x : Bool). x && true) q))

    other : is_finalized i.state ≡ true → i.length ≡ n
    other f = eqb-true i.length n (equal (is_candidate s i) (is_finalized i.state) (i.length == n) candidate f (found-none t xs i none h))

    beside : is_finalized i.state ≡ false → i.length ≡ n
    beside f = eqb-true i.length n (and-right (is_rbw i.state) (i.length == n) (subst (λ (x : Bool). (x || (is_rbw i.state && i.length == n)) ≡ true) f kept_is))

    at : (b : ReplicaState) → i.state ≡ b → i.length ≡ n
    at b q = split (is_finalized i.state) refl
      where
        split : (x : Bool) → is_finalized i.state ≡ x → i.length ≡ n
        split true r = other r
        split false r = beside r

finalized-from : (s : Stamp) (n : ℕ) (xs : List Info) → other_length n s xs ≡ None → Chooses xs (chosen n s (kept.Finalized n) xs)
finalized-from s n xs none m e =
    let x = among-has (kept_infos s (kept.Finalized n) xs) m e in
    let f = filtered (is_chosen s (kept.Finalized n)) xs x.0 x.1 in
    let same = same-length s n xs x.0 none f.0 f.1 in
    record {
      info = x.0;
      has = f.0;
      node = x.2;
      least = omega (arith, same);
      final = λ _. sym same;
      opens = λ q. record { info = x.0; has = f.0; is_open = q; length = same };
    }

-- the least length of those that are kept
rbw-from : (s : Stamp) (n : ℕ) (xs : List Info) → least (kept_lengths s kept.Rbw xs) ≡ Some n → Chooses xs (chosen n s kept.Rbw xs)
rbw-from s n xs l m e =
    let ys = kept_infos s kept.Rbw xs in
    let x = among-has ys m e in
    let f = filtered (is_chosen s kept.Rbw) xs x.0 x.1 in
    record {
      info = x.0;
      has = f.0;
      node = x.2;
      least = least-low ys x.1.place x.0 n x.1.there l;
      final = λ q. absurd (rbw-isnt-final (sym (rbw-state x.0.state (and-right (is_candidate s x.0) (is_rbw x.0.state) f.1)) ∙ q));
      opens = λ _. subst (λ (o : Option ℕ). IfSome o (OpenInfo xs)) l (least-is (OpenInfo xs) ys (record { at = λ j y r. of_kept y (record { place = j; there = r }) }));
    }
  where
    of_kept : (y : Info) → Has (kept_infos s kept.Rbw xs) y → OpenInfo xs y.length
    of_kept y h =
        let f = filtered (is_chosen s kept.Rbw) xs y h in
        record { info = y; has = f.0; is_open = rbw-state y.state (and-right (is_candidate s y) (is_rbw y.state) f.1); length = refl }

rwr-from : (s : Stamp) (n : ℕ) (xs : List Info) → least (kept_lengths s kept.Rwr xs) ≡ Some n → Chooses xs (chosen n s kept.Rwr xs)
rwr-from s n xs l m e =
    let ys = kept_infos s kept.Rwr xs in
    let x = among-has ys m e in
    let f = filtered (is_chosen s kept.Rwr) xs x.0 x.1 in
    let k = not-rwr x.0.state (and-right (is_candidate s x.0) (is_rwr x.0.state) f.1) in
    record {
      info = x.0;
      has = f.0;
      node = x.2;
      least = least-low ys x.1.place x.0 n x.1.there l;
      final = λ q. absurd (k.0 q);
      opens = λ q. absurd (k.1 q);
    }

shortest-from : (s : Stamp) (k : Kept) (xs : List Info) → ((n : ℕ) → least (kept_lengths s k xs) ≡ Some n → Chooses xs (chosen n s k xs)) → IfSome (shortest s k xs) (Chooses xs)
shortest-from s k xs h = go (least (kept_lengths s k xs)) refl
  where
    go : (o : Option ℕ) → least (kept_lengths s k xs) ≡ o → IfSome (option_map (λ n. chosen n s k xs) o) (Chooses xs)
    go None e = tt
    go (Some n) e = h n e

first-from : (xs : List Info) (a b c : Option Chosen) (d : Chosen) → IfSome a (Chooses xs) → IfSome b (Chooses xs) → IfSome c (Chooses xs) → first_of a b c ≡ Ok d → Chooses xs d
first-from xs (Some x) b c d h k l e = subst (Chooses xs) (same x d e) h
  where
    same : (x d : Chosen) → is_ok x ≡ is_ok d → x ≡ d
    same x d q = cc
first-from xs None (Some x) c d h k l e = subst (Chooses xs) (same x d e) k
  where
    same : (x d : Chosen) → is_ok x ≡ is_ok d → x ≡ d
    same x d q = cc
first-from xs None None (Some x) d h k l e = subst (Chooses xs) (same x d e) l
  where
    same : (x d : Chosen) → is_ok x ≡ is_ok d → x ≡ d
    same x d q = cc
first-from xs None None None d h k l e = absurd (cc)

pub choice-from : (s : Stamp) (xs : List Info) (c : Chosen) → choice s xs ≡ Ok c → Chooses xs c
unfolding choice
choice-from s xs c e = by (find (is_finalized_candidate s) xs) e
  where
    R : Option Chosen
    R = shortest s kept.Rbw xs

    W : Option Chosen
    W = shortest s kept.Rwr xs

    r : IfSome (shortest s kept.Rbw xs) (Chooses xs)
    r = shortest-from s kept.Rbw xs (λ n q. rbw-from s n xs q)

    w : IfSome (shortest s kept.Rwr xs) (Chooses xs)
    w = shortest-from s kept.Rwr xs (λ n q. rwr-from s n xs q)

    unless : (n : ℕ) (o : Option Info) → other_length n s xs ≡ o → (unless_other o n s xs >>= (λ found. first_of found (shortest s kept.Rbw xs) (shortest s kept.Rwr xs))) ≡ Ok c → Chooses xs c
    unless n (Some i) q p = absurd (cc)
    unless n None q p = first-from xs (Some (chosen n s (kept.Finalized n) xs)) (shortest s kept.Rbw xs) (shortest s kept.Rwr xs) c (finalized-from s n xs q) r w p

    by : (o : Option Info) → (finalized_by o s xs >>= (λ found. first_of found (shortest s kept.Rbw xs) (shortest s kept.Rwr xs))) ≡ Ok c → Chooses xs c
    by None p = first-from xs None (shortest s kept.Rbw xs) (shortest s kept.Rwr xs) c tt r w p
    by (Some i) p = unless i.length (other_length i.length s xs) refl p

-- WHAT A PRIMARY WAS TOLD

-- the member at a place, and what it told
pub record ToldBy (ns : List NodeId) (ss : List Standing) (i : Info) : Type 0 where
  pub place : ℕ
  pub node : slice_get ns place ≡ Some i.node
  pub ended : Bool
  pub told : slice_get ss place ≡ Some (standing.Told i.state i.stamp i.length ended)

later-told : (n : NodeId) (ns : List NodeId) (s : Standing) (ss : List Standing) (i : Info) → ToldBy ns ss i → ToldBy (n ∷ ns) (s ∷ ss) i
later-told n ns s ss i t = record { place = suc t.place; node = t.node; ended = t.ended; told = t.told }

pub infos-told : (ns : List NodeId) (ss : List Standing) (j : ℕ) (i : Info) → slice_get (infos ns ss) j ≡ Some i → ToldBy ns ss i
infos-told [] ss j i e = absurd (none-some i e)
infos-told (n ∷ ns) [] j i e = absurd (none-some i e)
infos-told (n ∷ ns) (standing.Told at t b ended ∷ ss) zero i e =
    subst (λ (x : Info). ToldBy (n ∷ ns) (standing.Told at t b ended ∷ ss) x) (same_Some _ i e) (record { place = zero; node = refl; ended = ended; told = refl })
infos-told (n ∷ ns) (standing.Told at t b ended ∷ ss) (suc j) i e = later-told n ns (standing.Told at t b ended) ss i (infos-told ns ss j i e)
infos-told (n ∷ ns) (standing.Unreached ∷ ss) j i e = later-told n ns standing.Unreached ss i (infos-told ns ss j i e)
infos-told (n ∷ ns) (standing.Asked ∷ ss) j i e = later-told n ns standing.Asked ss i (infos-told ns ss j i e)
infos-told (n ∷ ns) (standing.Updating ∷ ss) j i e = later-told n ns standing.Updating ss i (infos-told ns ss j i e)
infos-told (n ∷ ns) (standing.Updated ∷ ss) j i e = later-told n ns standing.Updated ss i (infos-told ns ss j i e)
infos-told (n ∷ ns) (standing.Out ∷ ss) j i e = later-told n ns standing.Out ss i (infos-told ns ss j i e)

-- THE STEP OF THE CHOICE

abbrev pub after_chosen : PrimaryState → Chosen → PrimaryState
after_chosen p c = record p { phase = phase.Updating c.length; standings = all_after_choice c.members p.members p.standings }

-- a step in which a primary sends UPDATE
pub record Choosing (p : PrimaryState) (c : Chosen) (t : OwnTaken) : Type 0 where
  pub informing : p.phase ≡ phase.Informing
  pub choice_is : choice p.begun.committed (infos p.members p.standings) ≡ Ok c
  pub primary : t.primary ≡ after_chosen p c

pub own-updates : (p : PrimaryState) (c : Chosen) → (own_step p).does ≡ own.Updates c → Choosing p c (own_step p)
own-updates p c =
    if-each (λ (t : OwnTaken). t.does ≡ own.Updates c → Choosing p c t) (waits p.standings) (taken p own.Waits) (own_at p.phase p)
    (λ _ e. absurd (cc)) (λ _ e. at p.phase refl e)
  where
    commits : (n : ℕ) (ns : List NodeId) → (committing p n ns).does ≡ own.Updates c → ⊥
    commits n [] e = cc
    commits n (m ∷ ms) e = cc

    same : (d : Chosen) → own.Updates d ≡ own.Updates c → d ≡ c
    same d e = cc

    ends : (f : ChooseFault) → (choosing p (Err f)).does ≡ own.Updates c → ⊥
    ends f e = cc

    chose : (o : Result Chosen ChooseFault) → p.phase ≡ phase.Informing → choice p.begun.committed (infos p.members p.standings) ≡ o → (choosing p o).does ≡ own.Updates c → Choosing p c (choosing p o)
    chose (Ok d) r q e =
        record { informing = r; choice_is = q ∙ ap (λ (x : Chosen). is_ok x) (same d e); primary = ap (λ (x : Chosen). after_chosen p x) (same d e) }
    chose (Err f) r q e = absurd (ends f e)

    at : (q : Phase) → p.phase ≡ q → (own_at q p).does ≡ own.Updates c → Choosing p c (own_at q p)
    at phase.Informing r e = chose (choice p.begun.committed (infos p.members p.standings)) r refl e
    at (phase.Updating n) r e = absurd (commits n (updated_members p.members p.standings) e)
    at phase.Over r e = absurd (cc)
