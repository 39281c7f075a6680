-- What a primary sends: an UPDATE on each connection of a chosen member.
use Rattle.std.proofs.Common.{◌≡◌, ℕ, ◌<◌, ◌≤◌, ◌+◌, ◌*◌, Bool, true, false, List, [], ◌∷◌, length, Option, Some, None, refl, ap, arith}
use Rattle.std.specs.Prelude.{sum_by, zip, ◌&&◌, if◌then◌else◌}
use Rattle.std.proofs.lemmas.Bool.{ne_eqb}
use Rattle.std.proofs.lemmas.List.Sums.{sum_by-cons}
use Rattle.hd_base.specs.declared.numbers.NodeId.{NodeId}
use Rattle.world.specs.RecoveryCore.Primaries.{is_among}
use Rattle.world.specs.Parts.{Message}
use Rattle.world.specs.Worlds.{World, Change, apply}
use Rattle.world.specs.Connections.{is_conn}
use Rattle.world.specs.Primaries.{updates_on}
use Rattle.world_settling.specs.Traffic.{sum_to, hops, down_weight, down_way, up_way, sides, lower_weight, entries, traffic}
use Rattle.world_settling.proofs.Sums.{sum-le, sum-rise}
use Rattle.world_settling.proofs.Frame.{Eases, was, entries-each, down-each, ups-quiet, sides-same}
use Rattle.world_settling.proofs.Outer.{lower-stays, conns-stay}
use Rattle.world_settling.proofs.Begun.{AllBegun}

module _ (w : World) (update : Message) (light : (h : ℕ) → down_weight h update ≤ 3) (chosen : List NodeId) where
  -- a connection, with what is sent on it
  abbrev with_updates : List (NodeId × Option ℕ) → ℕ → ℕ
  with_updates xs c = down_way w c + sum_by (down_weight (hops w c)) (updates_on update chosen xs c)

  -- with this one more, where its connection is this
  abbrev one_more : Bool → List (NodeId × Option ℕ) → ℕ → ℕ
  one_more t xs c = down_way w c + sum_by (down_weight (hops w c)) (if t then update ∷ [] else updates_on update chosen xs c)

  no-more : (a b : Bool) (xs : List (NodeId × Option ℕ)) (c : ℕ) → b ≡ false → one_more (a && b) xs c ≤ with_updates xs c
  no-more true b xs c e = rw e (omega arith)
  no-more false b xs c e = omega arith

  three-more : (t : Bool) (xs : List (NodeId × Option ℕ)) (c : ℕ) → one_more t xs c ≤ with_updates xs c + 3
  three-more true xs c = omega (arith, sum_by-cons (down_weight (hops w c)) update [], light (hops w c))
  three-more false xs c = omega arith

  update-weighs : (n : ℕ) (a : Bool) (o : Option ℕ) (xs : List (NodeId × Option ℕ)) → sum_to (λ c. one_more (a && is_conn o c) xs c) n ≤ sum_to (with_updates xs) n + 3
  update-weighs n a None xs = omega (arith, sum-le (with_updates xs) (λ c. one_more (a && is_conn None c) xs c) n (λ c lt. no-more a false xs c refl))
  update-weighs n a (Some d) xs =
      sum-rise (with_updates xs) (λ c. one_more (a && is_conn (Some d) c) xs c) n d 3 (λ c lt ne. no-more a (is_conn (Some d) c) xs c (ne_eqb c d ne))
      (λ lt. three-more (a && is_conn (Some d) d) xs d)

  updates-weigh : (n : ℕ) (xs : List (NodeId × Option ℕ)) → sum_to (with_updates xs) n ≤ sum_to (down_way w) n + 3 * length xs
  updates-weigh n [] = omega (arith, sum-le (down_way w) (with_updates []) n (λ c lt. omega arith))
  updates-weigh n (x ∷ xs) = omega (arith, update-weighs n (is_among chosen x.0) x.1 xs, updates-weigh n xs)

  -- A change by which these are sent, and nothing else.
  pub record SendsUpdates (k : Change) (xs : List (NodeId × Option ℕ)) : Type 0 where
    pub dials : k.dials ≡ []
    pub downs : (c : ℕ) → k.downs c ≡ updates_on update chosen xs c
    pub ups : (c : ℕ) → k.ups c ≡ []
    pub lower : k.lower ≡ w.lowers k.lower_at
    pub replica : k.replica ≡ w.replicas k.node k.block

  pub sends-updates : (k : Change) (xs : List (NodeId × Option ℕ)) → AllBegun w → SendsUpdates k xs → traffic (apply w k) ≤ traffic w + 3 * length xs
  unfolding traffic
  sends-updates k xs begun s =
      let v : World = apply w k in
      let n = conns-stay w k s.dials in
      let eases : (c : ℕ) → Eases w k c = λ c. rw s.replica (omega arith) in
      let each : (c : ℕ) → c < w.next_conn → down_way v c ≤ with_updates xs c =
      λ c lt. omega (arith, down-each w k c lt (was (begun.first c lt).message (begun.first c lt).is), ap (sum_by (down_weight (hops w c))) (s.downs c)) in
      let lowers = sum-le (λ c. lower_weight (w.lowers c)) (λ c. lower_weight (v.lowers c)) w.next_conn (λ c lt. rw (lower-stays w k c s.lower) (omega arith)) in
      let held = sum-le (entries w) (entries v) w.next_conn (λ c lt. rw (lower-stays w k c s.lower) (entries-each w k c (w.lowers c) lt (eases c))) in
      omega (
        arith,
        sum-le (with_updates xs) (down_way v) w.next_conn each,
        updates-weigh w.next_conn xs,
        ups-quiet w k s.ups,
        sides-same w k,
        lowers,
        held,
        ap (sum_to (down_way v)) n,
        ap (sum_to (up_way v)) n,
        ap (sum_to (sides v)) n,
        ap (sum_to (λ c. lower_weight (v.lowers c))) n,
        ap (sum_to (entries v)) n,
      )

pub zip-fewer : {A B : Type 0} (xs : List A) (ys : List B) → length (zip xs ys) ≤ length xs
zip-fewer [] ys = omega arith
zip-fewer (x ∷ xs) [] = omega arith
zip-fewer (x ∷ xs) (y ∷ ys) = omega (arith, zip-fewer xs ys)
