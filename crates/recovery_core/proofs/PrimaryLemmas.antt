-- What is told by different members, and who is updated.
use Rattle.std.proofs.Common.{◌≡◌, ◌≢◌, ℕ, zero, suc, ◌≤◌, Bool, true, false, if◌then◌else◌, List, [], ◌∷◌, length, Option, Some, None, refl, sym, subst, arith}
use Rattle.std.specs.Prelude.{zip, filter_map, All, AllPairs}
use Rattle.std.specs.List.{cons_option}
use Rattle.std.proofs.lemmas.List.Elements.{All-cons, All-head, All-tail}
use Rattle.std.proofs.lemmas.List.Kept.{AllPairs-cons}
use Rattle.hd_base.specs.declared.numbers.NodeId.{NodeId}
use Rattle.hd_base.specs.Lists.{AllDistinct}
use Rattle.name_core.specs.declared.infos.Info.{Info}
use Rattle.name_core.specs.Infos.{NodesDiffer}
use Rattle.recovery_core.specs.declared.standings.Standing.{Standing}
use Rattle.recovery_core.specs.declared.standings.Standing.TheVariants as standing
use Rattle.recovery_core.specs.Primaries.{info_of, infos, updated_node, updated_members, is_among, when_chosen}
use Rattle.recovery_core.specs.Laws.{OnlyChosenAreUpdated}

-- what is kept of a member names it
abbrev Names : {B : Type 0} → (NodeId × Standing → Option B) → (B → NodeId) → Type 0
Names {B} f g = (n : NodeId) (s : Standing) (b : B) → f (n, s) ≡ Some b → g b ≡ n

all_head : {B : Type 0} (f : NodeId × Standing → Option B) (g : B → NodeId) → Names f g → (P : NodeId → Type 0) (n : NodeId) (s : Standing) (rest : List B) (o : Option B)
    → f (n, s) ≡ o → P n → All (λ b. P (g b)) rest → All (λ b. P (g b)) (cons_option o rest)
all_head f g named P n s rest None e p h = h
all_head f g named P n s rest (Some b) e p h = All-cons (λ x. P (g x)) b rest (subst P (sym (named n s b e)) p) h

all_kept : {B : Type 0} (f : NodeId × Standing → Option B) (g : B → NodeId) → Names f g → (P : NodeId → Type 0) (members : List NodeId) (standings : List Standing)
    → All P members → All (λ b. P (g b)) (filter_map f (zip members standings))
all_kept f g named P [] ss h = λ k d below. absurd (omega arith)
all_kept f g named P (n ∷ ns) [] h = λ k d below. absurd (omega arith)
all_kept f g named P (n ∷ ns) (s ∷ ss) h =
    all_head f g named P n s (filter_map f (zip ns ss)) (f (n, s)) refl (All-head P n ns h) (all_kept f g named P ns ss (All-tail P n ns h))

pairs_head : {B : Type 0} (f : NodeId × Standing → Option B) (g : B → NodeId) → Names f g → (n : NodeId) (s : Standing) (rest : List B) (o : Option B)
    → f (n, s) ≡ o → All (λ b. n ≢ g b) rest → AllPairs (λ a b. g a ≢ g b) rest → AllPairs (λ a b. g a ≢ g b) (cons_option o rest)
pairs_head f g named n s rest None e p h = h
pairs_head f g named n s rest (Some b) e p h =
    AllPairs-cons (λ x y. g x ≢ g y) b rest (subst (λ m. All (λ y. m ≢ g y) rest) (sym (named n s b e)) p) h

-- different members have told different things
pairs_kept : {B : Type 0} (f : NodeId × Standing → Option B) (g : B → NodeId) → Names f g → (members : List NodeId) (standings : List Standing)
    → AllDistinct members → AllPairs (λ a b. g a ≢ g b) (filter_map f (zip members standings))
pairs_kept f g named [] ss h = λ i j d before below. absurd (omega arith)
pairs_kept f g named (n ∷ ns) [] h = λ i j d before below. absurd (omega arith)
pairs_kept f g named (n ∷ ns) (s ∷ ss) h =
    let first : All (λ m. n ≢ m) ns = λ k d below. h zero (suc k) d (omega arith) (omega arith) in
    let others : AllDistinct ns = λ i j d before below. h (suc i) (suc j) d (omega arith) (omega arith) in
    pairs_head f g named n s (filter_map f (zip ns ss)) (f (n, s)) refl (all_kept f g named (λ m. n ≢ m) ns ss first) (pairs_kept f g named ns ss others)

few_head : {B : Type 0} (rest : List B) (o : Option B) (n : ℕ) → length rest ≤ n → length (cons_option o rest) ≤ suc n
few_head rest None n h = omega arith
few_head rest (Some b) n h = omega arith

-- no more is kept than there are members
few_kept : {B : Type 0} (f : NodeId × Standing → Option B) (members : List NodeId) (standings : List Standing) → length (filter_map f (zip members standings)) ≤ length members
few_kept f [] ss = omega arith
few_kept f (n ∷ ns) [] = omega arith
few_kept f (n ∷ ns) (s ∷ ss) = few_head (filter_map f (zip ns ss)) (f (n, s)) (length ns) (few_kept f ns ss)

told_named : (n : NodeId) (s : Standing) (i : Info) → info_of n s ≡ Some i → i.node ≡ n
told_named n (standing.Told state stamp bytes ended) i e = cc
told_named n standing.Unreached i e = cc
told_named n standing.Asked i e = cc
told_named n standing.Out i e = cc
told_named n standing.Updating i e = cc
told_named n standing.Updated i e = cc

updated_named : (n : NodeId) (s : Standing) (m : NodeId) → updated_node n s ≡ Some m → m ≡ n
updated_named n (standing.Told state stamp bytes ended) m e = cc
updated_named n standing.Unreached m e = cc
updated_named n standing.Asked m e = cc
updated_named n standing.Out m e = cc
updated_named n standing.Updating m e = cc
updated_named n standing.Updated m e = cc

pub infos_differ : (members : List NodeId) (standings : List Standing) → AllDistinct members → NodesDiffer (infos members standings)
infos_differ members standings h = pairs_kept (λ x. info_of x.0 x.1) (λ i. i.node) told_named members standings h

pub infos_few : (members : List NodeId) (standings : List Standing) → length (infos members standings) ≤ length members
infos_few members standings = few_kept (λ x. info_of x.0 x.1) members standings

pub updated_distinct : (members : List NodeId) (standings : List Standing) → AllDistinct members → AllDistinct (updated_members members standings)
updated_distinct members standings h = pairs_kept (λ x. updated_node x.0 x.1) (λ n. n) updated_named members standings h

pub updated_few : (members : List NodeId) (standings : List Standing) → length (updated_members members standings) ≤ length members
updated_few members standings = few_kept (λ x. updated_node x.0 x.1) members standings

-- who is chosen is updated, or out
chosen_not_updated : (s : Standing) → when_chosen s ≡ standing.Updated → ⊥
chosen_not_updated (standing.Told state stamp bytes false) e = cc
chosen_not_updated (standing.Told state stamp bytes true) e = cc
chosen_not_updated standing.Unreached e = cc
chosen_not_updated standing.Asked e = cc
chosen_not_updated standing.Out e = cc
chosen_not_updated standing.Updating e = cc
chosen_not_updated standing.Updated e = cc

updating_among : (b : Bool) (s : Standing) → (if b then when_chosen s else standing.Out) ≡ standing.Updating → b ≡ true
updating_among true s e = refl
updating_among false s e = cc

none_updated : (b : Bool) (s : Standing) → (if b then when_chosen s else standing.Out) ≡ standing.Updated → ⊥
none_updated true s e = chosen_not_updated s e
none_updated false s e = cc

pub only_chosen : OnlyChosenAreUpdated
only_chosen chosen node s = (updating_among (is_among chosen node) s, none_updated (is_among chosen node) s)
