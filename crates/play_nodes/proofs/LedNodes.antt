-- The connections that a primary dialled.
use Rattle.std.proofs.Common.{◌≡◌, ◌<◌, ◌≤◌, ◌+◌, ◌++◌, ℕ, zero, suc, Bool, true, false, List, [], ◌∷◌, length, get_or, slice_get, drop, Option, Some, Result, Ok, Err, refl, sym, ap, ◌∙◌, subst, arith}
use Rattle.std.proofs.lemmas.List.{append-nil, append_assoc}
use Rattle.std.proofs.lemmas.Option.{get_or_from_slice_get}
use Rattle.hd_base.specs.declared.links.LinkIn as link_in
use Rattle.hd_base.specs.declared.links.LinkOut as link_out
use Rattle.hd_base.specs.declared.numbers.NodeId.{NodeId}
use Rattle.road_traffic.specs.Showing.{Net}
use Rattle.play_model.specs.World.Parts as parts
use Rattle.play_model.specs.World.Primaries.{numbered}
use Rattle.play_model.specs.World.Worlds.{World}
use Rattle.play_model.specs.Lines.{mirror_of}
use Rattle.play_nodes.specs.declared.connections.Connection.{Connection}
use Rattle.play_nodes.specs.declared.connections.Lower.TheVariants as lower
use Rattle.play_nodes.specs.declared.connections.Upper.TheVariants as upper
use Rattle.play_nodes.specs.declared.faults.NodesFault.{NodesFault}
use Rattle.play_nodes.specs.declared.nodes.Nodes.{Nodes}
use Rattle.play_nodes.specs.Elsewhere.{made_elsewhere, StandsBehind, is_answered, answered_of, led_conns, StandBehind, AreBehind, IsLeads, AreLed, LedShows}
use Rattle.play_nodes.specs.Frames.{IsKept}
use Rattle.play_nodes.specs.Places.{KeepsSizes}
use Rattle.play_nodes.specs.Showing.{UpperShows, is_pipeline, ConnectionShows, NodesShow}
use Rattle.play_nodes.proofs.KeptNodes.{all_kept}
use Rattle.play_nodes.proofs.NodeFrames.{away_shows}
use Rattle.play_nodes.proofs.SizeLaws.{sizes_by}
use Rattle.play_nodes.proofs.Tables.{element}

-- LISTS

one_more : (k : ℕ) → suc k + 1 ≡ suc (k + 1)
one_more k = omega arith

drop_here : {A : Type 0} (xs : List A) (k : ℕ) (x : A) → x ≡ get_or xs k x → k < length xs → drop k xs ≡ x ∷ drop (k + 1) xs
drop_here [] k x e within = absurd (never within)
  where
    never : k < 0 → ⊥
    never h = omega (arith, h)
drop_here {A} (y ∷ ys) zero x e within = ap (λ (z : A). z ∷ ys) (sym e)
drop_here (y ∷ ys) (suc k) x e within = drop_here ys k x e (less within) ∙ ap (λ (n : ℕ). x ∷ drop n (y ∷ ys)) (sym (one_more k))
  where
    less : suc k < suc (length ys) → k < length ys
    less h = omega (arith, h)

drop_none : {A : Type 0} (k : ℕ) → drop {A = A} k [] ≡ []
drop_none zero = refl
drop_none (suc k) = refl

drop_end : {A : Type 0} (xs : List A) (k : ℕ) → length xs ≤ k → drop k xs ≡ []
drop_end [] k h = drop_none k
drop_end (y ∷ ys) zero h = absurd (never h)
  where
    never : suc (length ys) ≤ 0 → ⊥
    never h = omega (arith, h)
drop_end (y ∷ ys) (suc k) h = drop_end ys k (less h)
  where
    less : suc (length ys) ≤ suc k → length ys ≤ k
    less h = omega (arith, h)

-- ANSWERS

drop_answered : (answers : List Bool) (k : ℕ) → is_answered answers k ≡ true → drop k answers ≡ true ∷ drop (k + 1) answers
drop_answered [] k e = cc
drop_answered (a ∷ answers) zero e = ap (λ (b : Bool). b ∷ answers) e
drop_answered (a ∷ answers) (suc k) e = drop_answered answers k e ∙ ap (λ (n : ℕ). true ∷ drop n (a ∷ answers)) (sym (one_more k))

module _ {I O : Type 0} (primary : ℕ) (at_node : NodeId) where
  abbrev led_from : ℕ → List NodeId → List Bool → List (Connection I O)
  led_from place members answers = led_conns primary at_node place members answers

  none_answered : (place : ℕ) (members : List NodeId) → led_from place members [] ≡ []
  none_answered place [] = refl
  none_answered place (n ∷ ns) = refl

  unanswered : (place : ℕ) (n : NodeId) (ns : List NodeId) (answers : List Bool) (k : ℕ) → is_answered answers k ≡ false → led_from place (n ∷ ns) (drop k answers) ≡ led_from (place + 1) ns (drop (k + 1) answers)
  unanswered place n ns [] k e =
      ap (λ (left : List Bool). led_from place (n ∷ ns) left) (drop_none k) ∙ sym (ap (λ (left : List Bool). led_from (place + 1) ns left) (drop_none (k + 1)) ∙ none_answered (place + 1) ns)
  unanswered place n ns (true ∷ answers) zero e = cc
  unanswered place n ns (false ∷ answers) zero e = refl
  unanswered place n ns (a ∷ answers) (suc k) e = unanswered place n ns answers k e ∙ ap (λ (m : ℕ). led_from (place + 1) ns (drop m (a ∷ answers))) (sym (one_more k))

  -- those that are left from a place on
  abbrev led_left : List NodeId → List Bool → ℕ → List (Connection I O)
  led_left members answers place = led_from place (drop place members) (drop place answers)

  left_answered : (members : List NodeId) (answers : List Bool) (place : ℕ) (n : NodeId) → n ≡ get_or members place n → place < length members → is_answered answers place ≡ true
      → led_left members answers place ≡ made_elsewhere (upper.Primary primary place at_node) n ∷ led_left members answers (place + 1)
  left_answered members answers place n is within met =
      ap (λ (ns : List NodeId). led_from place ns (drop place answers)) (drop_here members place n is within) ∙
      ap (λ (left : List Bool). led_from place (n ∷ drop (place + 1) members) left) (drop_answered answers place met)

  left_unanswered : (members : List NodeId) (answers : List Bool) (place : ℕ) → place < length members → is_answered answers place ≡ false → led_left members answers place ≡ led_left members answers (place + 1)
  left_unanswered members answers place within lost =
      let n = element members place within in
      ap (λ (ns : List NodeId). led_from place ns (drop place answers)) (drop_here members place n.0 (sym (get_or_from_slice_get members place n.0 n.0 n.1)) within) ∙
      unanswered place n.0 (drop (place + 1) members) answers place lost

  none_left : (members : List NodeId) (answers : List Bool) (place : ℕ) → length members ≤ place → led_left members answers place ≡ []
  none_left members answers place end = ap (λ (ns : List NodeId). led_from place ns (drop place answers)) (drop_end members place end)

-- THE LOOP

-- So many members were gone through.
pub record LeadsSoFar {F I O : Type 0} (primary : ℕ) (at_node : NodeId) (members : List NodeId) (answers : List Bool) (old now : Nodes F I O) (place : ℕ) : Type 0 where
  pub connections : now.connections.items ++ led_left primary at_node members answers place ≡ old.connections.items ++ led_conns primary at_node 0 members answers
  pub same : now ≡ record old { connections = now.connections }

module _ {F I O : Type 0} (primary : ℕ) (at_node : NodeId) (members : List NodeId) (answers : List Bool) (old : Nodes F I O) where
  pub led_none : LeadsSoFar primary at_node members answers old old 0
  led_none = record { connections = refl; same = refl }

  pub led_next : (now next : Nodes F I O) (place : ℕ) (n : NodeId) → n ≡ get_or members place n → place < length members → is_answered answers place ≡ true → StandsBehind (upper.Primary primary place at_node) n now next
      → LeadsSoFar primary at_node members answers old now place → LeadsSoFar primary at_node members answers old next (place + 1)
  led_next now next place n is within met b h =
      let made : List (Connection I O) = made_elsewhere (upper.Primary primary place at_node) n ∷ [] in
      let left : List (Connection I O) = led_left primary at_node members answers (place + 1) in
      record {
        connections = ap (λ (xs : List (Connection I O)). xs ++ left) b.connections ∙ (append_assoc now.connections.items made left ∙
            (ap (λ (more : List (Connection I O)). now.connections.items ++ more) (sym (left_answered primary at_node members answers place n is within met)) ∙ h.connections));
        same = b.same ∙ ap (λ (x : Nodes F I O). record x { connections = next.connections }) h.same;
      }

  pub led_skipped : (now : Nodes F I O) (place : ℕ) → place < length members → is_answered answers place ≡ false → LeadsSoFar primary at_node members answers old now place → LeadsSoFar primary at_node members answers old now (place + 1)
  led_skipped now place within lost h = record {
    connections = ap (λ (more : List (Connection I O)). now.connections.items ++ more) (sym (left_unanswered primary at_node members answers place within lost)) ∙ h.connections;
    same = h.same;
  }

  pub led_all : (now : Nodes F I O) (place : ℕ) → length members ≤ place → LeadsSoFar primary at_node members answers old now place → StandBehind (led_conns primary at_node 0 members answers) old now
  led_all now place end h = record {
    connections = sym (ap (λ (more : List (Connection I O)). now.connections.items ++ more) (none_left primary at_node members answers place end) ∙ append-nil now.connections.items) ∙ h.connections;
    same = h.same;
  }

  pub led_sizes : (now : Nodes F I O) (place : ℕ) → LeadsSoFar primary at_node members answers old now place → KeepsSizes old now
  led_sizes now place h = sizes_by old now (ap (λ (x : Nodes F I O). x.blocks.items) h.same) (ap (λ (x : Nodes F I O). x.nodes.items) h.same)

-- WHERE THEY STAND

-- It is the connection with this number, to the member at a place behind this one.
record LedAt {I O : Type 0} (primary : ℕ) (at_node : NodeId) (place : ℕ) (members : List NodeId) (conns : List (Option ℕ)) (c : ℕ) (x : Connection I O) : Type 0 where
  behind : ℕ
  node : NodeId
  member : slice_get members behind ≡ Some node
  number : slice_get conns behind ≡ Some (Some c)
  is : x ≡ made_elsewhere (upper.Primary primary (place + behind) at_node) node

same_some : {A : Type 0} (a b : A) → Some a ≡ Some b → a ≡ b
same_some a b e = cc

led_at : {I O : Type 0} (primary : ℕ) (at_node : NodeId) (place : ℕ) (members : List NodeId) (answers : List Bool) (next j : ℕ) (x : Connection I O) → slice_get (led_conns primary at_node place members answers) j ≡ Some x
    → LedAt primary at_node place members (numbered next answers) (next + j) x
led_at primary at_node place [] answers next j x e = cc
led_at primary at_node place (n ∷ ns) [] next j x e = cc
led_at primary at_node place (n ∷ ns) (true ∷ answers) next zero x e = record {
  behind = 0;
  node = n;
  member = refl;
  number = ap (λ (c : ℕ). Some (Some c)) (omega arith);
  is = sym (same_some (made_elsewhere (upper.Primary primary place at_node) n) x e) ∙ ap (λ (m : ℕ). made_elsewhere (upper.Primary primary m at_node) n) (omega arith);
}
led_at primary at_node place (n ∷ ns) (true ∷ answers) next (suc j) x e =
    let h = led_at primary at_node (place + 1) ns answers (next + 1) j x e in
    record {
      behind = suc h.behind;
      node = h.node;
      member = h.member;
      number = h.number ∙ ap (λ (c : ℕ). Some (Some c)) (omega arith);
      is = h.is ∙ ap (λ (m : ℕ). made_elsewhere (upper.Primary primary m at_node) h.node) (omega arith);
    }
led_at primary at_node place (n ∷ ns) (false ∷ answers) next j x e =
    let h = led_at primary at_node (place + 1) ns answers next j x e in
    record {
      behind = suc h.behind;
      node = h.node;
      member = h.member;
      number = h.number;
      is = h.is ∙ ap (λ (m : ℕ). made_elsewhere (upper.Primary primary m at_node) h.node) (omega arith);
    }

led_count : (I O : Type 0) (primary : ℕ) (at_node : NodeId) (place : ℕ) (members : List NodeId) (answers : List Bool) → length (led_conns {I = I} {O = O} primary at_node place members answers) ≡ answered_of members answers
led_count I O primary at_node place [] answers = refl
led_count I O primary at_node place (n ∷ ns) [] = refl
led_count I O primary at_node place (n ∷ ns) (true ∷ answers) = ap suc (led_count I O primary at_node (place + 1) ns answers)
led_count I O primary at_node place (n ∷ ns) (false ∷ answers) = led_count I O primary at_node (place + 1) ns answers

-- THE NODES

module _ {F I O : Type 0} (i : link_in.Ghosts I) (o : link_out.Ghosts O) (primary : ℕ) (at_node : NodeId) (members : List NodeId) (answers : List Bool) (old new : Nodes F I O) where
  led_shown : (v : World) (made : Net) (place : ℕ) (node : NodeId) (c : ℕ) → IsLeads v primary at_node place node c → ConnectionShows i o v made c new (made_elsewhere (upper.Primary primary place at_node) node)
  led_shown v made place node c d = record {
    upper_is = subst (λ (u : parts.Upper). UpperShows u (upper.Primary primary place at_node)) (sym d.upper) (refl, refl);
    origin = d.origin;
    node = sym d.node_is;
    mirror = sym (ap mirror_of d.idle_is);
    here = sym (ap is_pipeline d.upper);
    lower_is = away_shows i o v made c new (v.lowers c) lower.Elsewhere refl;
  }

  led_added : (w v : World) (made : Net) → AreLed w v primary at_node members answers → (j : ℕ) (x : Connection I O) → slice_get (led_conns primary at_node 0 members answers) j ≡ Some x → ConnectionShows i o v made (w.next_conn + j) new x
  led_added w v made d j x found =
      let h = led_at primary at_node 0 members answers w.next_conn j x found in
      subst (λ (y : Connection I O). ConnectionShows i o v made (w.next_conn + j) new y)
      (sym (h.is ∙ ap (λ (m : ℕ). made_elsewhere (upper.Primary primary m at_node) h.node) (from_none h.behind)))
      (led_shown v made h.behind h.node (w.next_conn + j) (d.each h.behind (w.next_conn + j) h.node h.member h.number))
    where
      from_none : (k : ℕ) → 0 + k ≡ k
      from_none k = omega arith

  led_kept : (w : World) (net : Net) (v : World) (made : Net) → IsKept i o w net v made old → AreLed w v primary at_node members answers → StandBehind (led_conns primary at_node 0 members answers) old new → NodesShow i o v made new
  led_kept w net v made k d b = all_kept i o w net v made old k new (led_conns primary at_node 0 members answers) (record {
    set = b.connections;
    count = d.next ∙ ap (λ (n : ℕ). w.next_conn + n) (sym (led_count I O primary at_node 0 members answers));
    blocks = ap (λ (x : Nodes F I O). x.blocks.items) b.same;
    nodes = ap (λ (x : Nodes F I O). x.nodes.items) b.same;
    added = led_added w v made d;
  })

  pub led_shows : (result : Result (Unit {0}) NodesFault) → AreBehind (led_conns primary at_node 0 members answers) old new result → LedShows i o primary at_node members answers old new result
  led_shows (Ok u) b = λ w net v made k d. led_kept w net v made k d b
  led_shows (Err why) b = b
