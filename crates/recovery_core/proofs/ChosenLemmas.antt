-- What is committed is of the choice.
use Rattle.std.proofs.Common.{◌≡◌, ℕ, zero, suc, ◌⊎◌, inl, inr, Bool, true, false, if◌then◌else◌, List, [], ◌∷◌, Option, Some, None, Result, Ok, Err, refl, sym, subst, arith}
use Rattle.std.specs.Prelude.{All, slice_get, slice_set}
use Rattle.std.specs.List.{cons_option}
use Rattle.std.proofs.lemmas.List.Elements.{All-cons}
use Rattle.hd_base.specs.declared.numbers.NodeId.{NodeId}
use Rattle.hd_base.specs.declared.states.ReplicaState.{ReplicaState}
use Rattle.hd_base.specs.declared.numbers.Stamp.{Stamp}
use Rattle.name_core.specs.declared.choice.ChooseFault.{ChooseFault}
use Rattle.name_core.specs.declared.choice.Chosen.{Chosen}
use Rattle.name_core.specs.Choice.{choice}
use Rattle.recovery_core.specs.declared.standings.Heard.{Heard}
use Rattle.recovery_core.specs.declared.standings.Heard.TheVariants as heard
use Rattle.recovery_core.specs.declared.standings.Standing.{Standing}
use Rattle.recovery_core.specs.declared.standings.Standing.TheVariants as standing
use Rattle.recovery_core.specs.declared.primary.OwnStep.TheVariants as own
use Rattle.recovery_core.specs.declared.primary.Phase.{Phase}
use Rattle.recovery_core.specs.declared.primary.Phase.TheVariants as phase
use Rattle.recovery_core.specs.Primaries.{PrimaryState, told, is_success, informed, after_heard, waits, heard_as, infos, updated_node, updated_members, is_among, when_chosen, all_after_choice, taken, choosing, committing, own_at, own_step}
use Rattle.recovery_core.specs.Laws.{Move, Hears, Steps, after_move, after_moves, IsOfChoice, CommitsTheChosen}

-- the member is being updated, or was
abbrev takes_part : Standing → Bool
takes_part standing.Updating = true
takes_part standing.Updated = true
takes_part _ = false

-- each member that takes part was chosen
abbrev AllChosen : List NodeId → List NodeId → List Standing → Type 0
AllChosen chosen [] ss = Unit {0}
AllChosen chosen (n ∷ ns) [] = Unit {0}
AllChosen chosen (n ∷ ns) (s ∷ ss) = (takes_part s ≡ true → is_among chosen n ≡ true) × AllChosen chosen ns ss

-- ---- what is heard

told_apart : (info : Option (ReplicaState × Stamp × ℕ)) → takes_part (told info) ≡ true → ⊥
told_apart None e = cc
told_apart (Some (state, stamp, bytes)) e = cc

answer_apart : (b : Bool) (info : Option (ReplicaState × Stamp × ℕ)) → takes_part (if b then told info else standing.Out) ≡ true → ⊥
answer_apart true info e = told_apart info e
answer_apart false info e = cc

asked_apart : (h : Heard) → takes_part (informed h) ≡ true → ⊥
asked_apart (heard.Answer a) e = answer_apart (is_success a.status) a.info e
asked_apart heard.Unreadable e = cc
asked_apart heard.End e = cc

-- nobody begins to take part by what is heard
heard_no_more : (s : Standing) (h : Heard) → takes_part (after_heard s h) ≡ true → takes_part s ≡ true
heard_no_more standing.Asked h e = absurd (asked_apart h e)
heard_no_more (standing.Told state stamp bytes ended) h e = cc
heard_no_more standing.Updating h e = refl
heard_no_more standing.Unreached h e = cc
heard_no_more standing.Out h e = cc
heard_no_more standing.Updated h e = refl

heard_chosen : (chosen ns : List NodeId) (ss : List Standing) (at : ℕ) (h : Heard) (s : Standing) → slice_get ss at ≡ Some s
    → AllChosen chosen ns ss → AllChosen chosen ns (slice_set ss at (after_heard s h))
heard_chosen chosen [] ss at h s e k = tt
heard_chosen chosen (n ∷ ns) [] at h s e k = tt
heard_chosen chosen (n ∷ ns) (first ∷ ss) zero h s e k =
    let same : first ≡ s = cc in
    (λ part. k.0 (heard_no_more first h (subst (λ (x : Standing). takes_part (after_heard x h) ≡ true) (sym same) part)), k.1)
heard_chosen chosen (n ∷ ns) (first ∷ ss) (suc at) h s e k = (k.0, heard_chosen chosen ns ss at h s e k.1)

-- ---- the choice

part_among : (b : Bool) (s : Standing) → takes_part (if b then when_chosen s else standing.Out) ≡ true → b ≡ true
part_among true s e = refl
part_among false s e = cc

choice_chosen : (chosen ns : List NodeId) (ss : List Standing) → AllChosen chosen ns (all_after_choice chosen ns ss)
choice_chosen chosen [] ss = tt
choice_chosen chosen (n ∷ ns) [] = tt
choice_chosen chosen (n ∷ ns) (s ∷ ss) = (part_among (is_among chosen n) s, choice_chosen chosen ns ss)

-- a primary behind the choice
record Follows (c : Chosen) (p : PrimaryState) : Type 0 where
  phase : (p.phase ≡ phase.Updating c.length) ⊎ (p.phase ≡ phase.Over)
  chosen : AllChosen c.members p.members p.standings

choosing_follows : (c : Chosen) (p : PrimaryState) (r : Result Chosen ChooseFault) → (choosing p r).does ≡ own.Updates c → Follows c (choosing p r).primary
choosing_follows c p (Ok d) e =
    let same : d ≡ c = cc in
    subst (λ (x : Chosen). Follows x (choosing p (Ok d)).primary) same
    (record { phase = inl refl; chosen = choice_chosen d.members p.members p.standings })
choosing_follows c p (Err fault) e = absurd (cc)

committing_no_update : (c : Chosen) (p : PrimaryState) (bytes : ℕ) (nodes : List NodeId) → (committing p bytes nodes).does ≡ own.Updates c → ⊥
committing_no_update c p bytes [] e = cc
committing_no_update c p bytes (n ∷ ns) e = cc

begins : (c : Chosen) (p : PrimaryState) (b : Bool) (at : Phase) → (if b then taken p own.Waits else own_at at p).does ≡ own.Updates c
    → Follows c (if b then taken p own.Waits else own_at at p).primary
begins c p true at e = absurd (cc)
begins c p false phase.Informing e = choosing_follows c p (choice p.begun.committed (infos p.members p.standings)) e
begins c p false (phase.Updating bytes) e = absurd (committing_no_update c p bytes (updated_members p.members p.standings) e)
begins c p false phase.Over e = absurd (cc)

-- ---- behind it

heard_follows : (c : Chosen) (p : PrimaryState) (at : ℕ) (h : Heard) (o : Option Standing) → slice_get p.standings at ≡ o
    → Follows c p → Follows c (heard_as p at h o)
heard_follows c p at h None e k = k
heard_follows c p at h (Some s) e k = record { phase = k.phase; chosen = heard_chosen c.members p.members p.standings at h s e k.chosen }

committing_follows : (c : Chosen) (p : PrimaryState) (bytes : ℕ) (nodes : List NodeId) → Follows c p → Follows c (committing p bytes nodes).primary
committing_follows c p bytes [] k = record { phase = inr refl; chosen = k.chosen }
committing_follows c p bytes (n ∷ ns) k = record { phase = inr refl; chosen = k.chosen }

not_informing : (n : ℕ) → (phase.Informing ≡ phase.Updating n) ⊎ (phase.Informing ≡ phase.Over) → ⊥
not_informing n (inl e) = cc
not_informing n (inr e) = cc

step_follows : (c : Chosen) (p : PrimaryState) (b : Bool) (at : Phase) → (at ≡ phase.Updating c.length) ⊎ (at ≡ phase.Over)
    → Follows c p → Follows c (if b then taken p own.Waits else own_at at p).primary
step_follows c p true at e k = k
step_follows c p false phase.Informing e k = absurd (not_informing c.length e)
step_follows c p false (phase.Updating bytes) e k = committing_follows c p bytes (updated_members p.members p.standings) k
step_follows c p false phase.Over e k = k

move_follows : (c : Chosen) (p : PrimaryState) (m : Move) → Follows c p → Follows c (after_move p m)
move_follows c p (Hears at h) k = heard_follows c p at h (slice_get p.standings at) refl k
move_follows c p Steps k = step_follows c p (waits p.standings) p.phase k.phase k

moves_follow : (c : Chosen) (p : PrimaryState) (ms : List Move) → Follows c p → Follows c (after_moves p ms)
moves_follow c p [] k = k
moves_follow c p (m ∷ ms) k = moves_follow c (after_move p m) ms (move_follows c p m k)

-- ---- the commit

updated_one : (chosen : List NodeId) (n : NodeId) (s : Standing) (rest : List NodeId) → (takes_part s ≡ true → is_among chosen n ≡ true)
    → All (λ node. is_among chosen node ≡ true) rest → All (λ node. is_among chosen node ≡ true) (cons_option (updated_node n s) rest)
updated_one chosen n standing.Updated rest h others = All-cons (λ node. is_among chosen node ≡ true) n rest (h refl) others
updated_one chosen n standing.Updating rest h others = others
updated_one chosen n (standing.Told state stamp bytes ended) rest h others = others
updated_one chosen n standing.Unreached rest h others = others
updated_one chosen n standing.Asked rest h others = others
updated_one chosen n standing.Out rest h others = others

updated_chosen : (chosen ns : List NodeId) (ss : List Standing) → AllChosen chosen ns ss
    → All (λ node. is_among chosen node ≡ true) (updated_members ns ss)
updated_chosen chosen [] ss k = λ i d below. absurd (omega arith)
updated_chosen chosen (n ∷ ns) [] k = λ i d below. absurd (omega arith)
updated_chosen chosen (n ∷ ns) (s ∷ ss) k = updated_one chosen n s (updated_members ns ss) k.0 (updated_chosen chosen ns ss k.1)

committing_is : (c u : Chosen) (p : PrimaryState) (bytes : ℕ) (nodes : List NodeId) → bytes ≡ c.length
    → All (λ node. is_among c.members node ≡ true) nodes → (committing p bytes nodes).does ≡ own.Commits u → IsOfChoice c u
committing_is c u p bytes [] e all does = absurd (cc)
committing_is c u p bytes (n ∷ ns) e all does =
    let v : Chosen = record { length = bytes; members = n ∷ ns } in
    let same : v ≡ u = cc in
    subst (λ (x : Chosen). IsOfChoice c x) same (record { length = e; members = all })

updating_is : (m n : ℕ) → (phase.Updating m ≡ phase.Updating n) ⊎ (phase.Updating m ≡ phase.Over) → m ≡ n
updating_is m n (inl e) = cc
updating_is m n (inr e) = absurd (cc)

ends : (c u : Chosen) (p : PrimaryState) (b : Bool) (at : Phase) → (at ≡ phase.Updating c.length) ⊎ (at ≡ phase.Over) → Follows c p
    → (if b then taken p own.Waits else own_at at p).does ≡ own.Commits u → IsOfChoice c u
ends c u p true at e k does = absurd (cc)
ends c u p false phase.Informing e k does = absurd (not_informing c.length e)
ends c u p false (phase.Updating bytes) e k does =
    committing_is c u p bytes (updated_members p.members p.standings) (updating_is bytes c.length e)
    (updated_chosen c.members p.members p.standings k.chosen) does
ends c u p false phase.Over e k does = absurd (cc)

pub commits_the_chosen : CommitsTheChosen
commits_the_chosen p between c u updates commits =
    let k = moves_follow c (own_step p).primary between (begins c p (waits p.standings) p.phase updates) in
    let q = after_moves (own_step p).primary between in
    ends c u q (waits q.standings) q.phase k.phase k commits
