-- A sort moves the names, and what stood twice then stands side by side.
use Rattle.std.proofs.lemmas.List.Filters.{dedup_is}
use Rattle.std.proofs.lemmas.List.Kept.{Contains-dedup, Contains-from_dedup, IsStrictlySortedBy-dedup}
use Rattle.std.proofs.lemmas.List.Sorted.{Contains-permutation, IsPermutation-sym}
use Rattle.mem_ports.proofs.NameLaws.{total, equivalence, ties, same, AllPairs-from_sorted}
use Rattle.fault_ports.proofs.listings.in_order.Goals as goal

pub returns : goal.returns
returns c =
    let is = dedup_is _ _ _ c.dedup.ensures.filtered in
    let moved = c.in_ok-sort.ensures.permutation in
    record {
      each = λ name. (
        λ there. Contains-permutation _ _ name (IsPermutation-sym _ _ moved) (Contains-from_dedup _ _ name (rw is at there)),
        λ there. rw is (Contains-dedup equivalence same _ name (Contains-permutation _ _ name moved there)),
      );
      ascending = rw is (AllPairs-from_sorted _ (IsStrictlySortedBy-dedup total ties _ c.in_ok-sort.ensures.sorted));
    }
