-- Least lengths, and the nodes of the infos that are kept.
use Rattle.std.proofs.Common.{◌≡◌, ◌≢◌, ℕ, ◌+◌, ◌<◌, ◌≤◌, true, false, cond, List, [], ◌∷◌, ◌++◌, length, map, take, get_or, Option, Some, None, refl, sym, ap, ◌∙◌, subst, arith}
use Rattle.std.specs.List.{slice_set}
use Rattle.std.proofs.lemmas.List.{get_or-map, length-map, take_all, take_more_set, map_push, length-set, length-take-le}
use Rattle.std.proofs.lemmas.List.Elements.{filter_more}
use Rattle.std.proofs.lemmas.List.Kept.{AllPairs-filter}
use Rattle.hd_base.specs.declared.numbers.NodeId.{NodeId}
use Rattle.hd_base.specs.declared.pipeline.TheConstants.{MAX_MEMBERS}
use Rattle.hd_base.specs.declared.numbers.Stamp.{Stamp}
use Rattle.hd_base.specs.Lists.{AllDistinct}
use Rattle.name_core.specs.declared.choice.Kept.{Kept}
use Rattle.name_core.specs.declared.infos.Info.{Info}
use Rattle.name_core.specs.Infos.{NodesDiffer}
use Rattle.name_core.proofs.InfoLemmas.{past_end}
use Rattle.name_core.specs.Choice.{lesser, least, is_chosen, kept_infos, kept_lengths}

lesser_swap : (m n : ℕ) (other : Option ℕ) → lesser m (Some (lesser n other)) ≡ lesser n (Some (lesser m other))
lesser_swap m n None = omega arith
lesser_swap m n (Some k) = omega arith

pub least-append : (ns : List ℕ) (n : ℕ) → least (ns ++ n ∷ []) ≡ Some (lesser n (least ns))
least-append [] n = refl
least-append (m ∷ ns) n = ap (λ l. Some (lesser m l)) (least-append ns n) ∙ ap Some (lesser_swap m n (least ns))

append_none : {A : Type 0} (xs : List A) → xs ++ [] ≡ xs
append_none [] = refl
append_none (x ∷ xs) = ap (λ ys. x ∷ ys) (append_none xs)

-- one info more, which is kept
pub kept_more : (s : Stamp) (k : Kept) (infos : List Info) (i : ℕ) (d : Info) → i < length infos → is_chosen s k (get_or infos i d) ≡ true → kept_infos s k (take (i + 1) infos) ≡ kept_infos s k (take i infos) ++ get_or infos i d ∷ []
kept_more s k infos i d below is = filter_more (is_chosen s k) infos i d below ∙ ap (λ b. kept_infos s k (take i infos) ++ cond b (get_or infos i d ∷ []) []) is

-- one info more, which isn't
pub kept_same : (s : Stamp) (k : Kept) (infos : List Info) (i : ℕ) (d : Info) → i < length infos → is_chosen s k (get_or infos i d) ≡ false → kept_infos s k (take (i + 1) infos) ≡ kept_infos s k (take i infos)
kept_same s k infos i d below is = filter_more (is_chosen s k) infos i d below ∙ ap (λ b. kept_infos s k (take i infos) ++ cond b (get_or infos i d ∷ []) []) is ∙ append_none (kept_infos s k (take i infos))

pub least_more : (s : Stamp) (k : Kept) (infos : List Info) (i : ℕ) (d : Info) → i < length infos → is_chosen s k (get_or infos i d) ≡ true → least (kept_lengths s k (take (i + 1) infos)) ≡ Some (lesser (get_or infos i d).length (least (kept_lengths s k (take i infos))))
least_more s k infos i d below is =
    ap (λ xs. least (map (λ i. i.length) xs)) (kept_more s k infos i d below is)
    ∙ ap least (map_push (λ i. i.length) (kept_infos s k (take i infos)) (get_or infos i d))
    ∙ least-append (kept_lengths s k (take i infos)) (get_or infos i d).length

pub least_same : (s : Stamp) (k : Kept) (infos : List Info) (i : ℕ) (d : Info) → i < length infos → is_chosen s k (get_or infos i d) ≡ false → least (kept_lengths s k (take (i + 1) infos)) ≡ least (kept_lengths s k (take i infos))
least_same s k infos i d below is = ap (λ xs. least (map (λ i. i.length) xs)) (kept_same s k infos i d below is)

-- the first nodes are those of the infos that are kept
pub record KeptSoFar (s : Stamp) (k : Kept) (infos : List Info) (seen : ℕ) (nodes : List NodeId) (count : ℕ) : Type 0 where
  pub long : length nodes ≡ MAX_MEMBERS
  pub within : count ≤ seen
  pub front : take count nodes ≡ map (λ i. i.node) (kept_infos s k infos)

pub kept_so_far-more : (s : Stamp) (k : Kept) (infos : List Info) (i : ℕ) (d : Info) (nodes : List NodeId) (count : ℕ) → i < length infos → is_chosen s k (get_or infos i d) ≡ true → count < length nodes → KeptSoFar s k (take i infos) i nodes count → KeptSoFar s k (take (i + 1) infos) (i + 1) (slice_set nodes count (get_or infos i d).node) (count + 1)
kept_so_far-more s k infos i d nodes count below is room h = record {
  long = length-set nodes count (get_or infos i d).node ∙ h.long;
  within = let w = h.within in omega arith;
  front =
      take_more_set nodes count (get_or infos i d).node room
      ∙ ap (λ ns. ns ++ (get_or infos i d).node ∷ []) h.front
      ∙ sym (map_push (λ j. j.node) (kept_infos s k (take i infos)) (get_or infos i d))
      ∙ sym (ap (map (λ j. j.node)) (kept_more s k infos i d below is));
}

pub kept_so_far-same : (s : Stamp) (k : Kept) (infos : List Info) (i : ℕ) (d : Info) (nodes : List NodeId) (count : ℕ) → i < length infos → is_chosen s k (get_or infos i d) ≡ false → KeptSoFar s k (take i infos) i nodes count → KeptSoFar s k (take (i + 1) infos) (i + 1) nodes count
kept_so_far-same s k infos i d nodes count below is h = record {
  long = h.long;
  within = let w = h.within in omega arith;
  front = h.front ∙ sym (ap (map (λ j. j.node)) (kept_same s k infos i d below is));
}

nodes_distinct : (infos : List Info) → NodesDiffer infos → AllDistinct (map (λ i. i.node) infos)
nodes_distinct infos differ i j d before below =
    let at : j < length infos = subst (λ n. j < n) (length-map infos (λ i. i.node)) below in
    λ same. differ i j past_end before at (sym (get_or-map (λ i. i.node) infos i past_end d (omega arith)) ∙ same ∙ get_or-map (λ i. i.node) infos j past_end d at)

-- the nodes of the infos that are kept differ
pub kept_nodes_distinct : (s : Stamp) (k : Kept) (infos : List Info) → NodesDiffer infos → AllDistinct (map (λ i. i.node) (kept_infos s k infos))
kept_nodes_distinct s k infos differ = nodes_distinct (kept_infos s k infos) (AllPairs-filter (λ a b. a.node ≢ b.node) (is_chosen s k) infos differ)

-- at the end, the members
pub kept_members_fit : (s : Stamp) (k : Kept) (infos : List Info) (i : ℕ) (nodes : List NodeId) (count : ℕ) → NodesDiffer infos → length infos ≤ i → i ≤ length infos → length infos ≤ MAX_MEMBERS → KeptSoFar s k (take i infos) i nodes count → (length (take count nodes) ≤ MAX_MEMBERS) × AllDistinct (take count nodes)
kept_members_fit s k infos i nodes count differ past within short h =
    let long = h.long in
    let seen = h.within in
    (rw (length-take-le count nodes (omega arith)) (omega arith), rw (h.front, take_all i infos past) (kept_nodes_distinct s k infos differ))
