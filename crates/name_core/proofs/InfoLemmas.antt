-- Nodes that differ.
use Rattle.std.proofs.Common.{◌≡◌, ◌≢◌, ℕ, ◌+◌, ◌<◌, ◌≤◌, List, length, take, get_or, sym, ap, ◌∙◌, subst, arith}
use Rattle.std.specs.List.{Any}
use Rattle.std.proofs.lemmas.List.{take_more, take_all, get_or-take, get_or_default, length-take-le}
use Rattle.std.proofs.lemmas.List.Quantifiers.{all_pairs_push}
use Rattle.hd_base.specs.declared.numbers.NodeId.{NodeId}
use Rattle.hd_base.specs.declared.states.ReplicaState.TheVariants as state
use Rattle.name_core.specs.declared.infos.Info.{Info}
use Rattle.name_core.specs.Infos.{NodesDiffer}

-- the info that stands for one past the end
abbrev pub past_end : Info
past_end = record { node = record { 0 = 0 }; state = state.Finalized; stamp = record { 0 = 0 }; length = 0 }

-- one of the infos is of this node
abbrev pub HasNode : NodeId → List Info → Type 0
HasNode node infos = Any (λ i. i.node ≡ node) infos

any_at : (infos : List Info) (k : ℕ) (d : Info) (node : NodeId) → k < length infos → (get_or infos k d).node ≡ node → HasNode node infos
any_at infos k d node below is = (k, get_or infos k d, below, get_or_default infos k (get_or infos k d) d below, is)

pub differ_more : (infos : List Info) (i : ℕ) (d : Info) → i < length infos → NodesDiffer (take i infos) → (HasNode (get_or infos i d).node (take i infos) → ⊥) → NodesDiffer (take (i + 1) infos)
differ_more infos i d below differ none =
    subst NodesDiffer (sym (take_more infos i d below)) (all_pairs_push (λ a b. a.node ≢ b.node) (take i infos) (get_or infos i d) differ (λ k e at is. none (any_at (take i infos) k e (get_or infos i d).node at is)))

pub differ_all : (infos : List Info) (i : ℕ) → length infos ≤ i → NodesDiffer (take i infos) → NodesDiffer infos
differ_all infos i above differ = subst NodesDiffer (take_all i infos above) differ

pub same_node : (infos : List Info) (i : ℕ) (d : Info) → i < length infos → HasNode (get_or infos i d).node (take i infos) → NodesDiffer infos → ⊥
same_node infos i d below (k, x, at, is, same) differ =
    let shorter : k < i = subst (λ n. k < n) (length-take-le i infos (omega arith)) at in
    differ k i d shorter below (ap (λ y. y.node) (get_or_default infos k d x (omega arith) ∙ sym (get_or-take i infos k x shorter) ∙ is) ∙ same)
