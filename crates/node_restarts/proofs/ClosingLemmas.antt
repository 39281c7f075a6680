-- Books that are closed one by one, the last of them first.
use Rattle.std.proofs.Common.{◌≡◌, ◌<◌, ◌^◌, zero, suc, List, [], ◌∷◌, ◌++◌, Option, Some, None, IfSome, option_map, sym, ap, subst, ◌∙◌}
use Rattle.hd_base.specs.declared.files.Files as files
use Rattle.hd_base.specs.declared.numbers.BlockId.{BlockId}
use Rattle.hd_base.specs.declared.numbers.Stamp.{Stamp}
use Rattle.node_opening.proofs.PlayNodes.PlaceLaws.{same_some}
use Rattle.replica_core.specs.declared.info.ReplicaInfo.{ReplicaInfo}
use Rattle.replica_core.specs.Views.{stamp_in}
use Rattle.replica_files.specs.declared.book_state.BookState.{BookState}
use Rattle.replica_files.specs.Books.{replica_of, IsBookOf}
use Rattle.restart_scan.specs.Laws.{HasNumbers}
use Rattle.node_restarts.specs.Closing.{HaveNumbers}

stamp_fits_in : (o : Option ReplicaInfo) → IfSome (option_map (λ (h : ReplicaInfo). h.stamp) o) (λ (q : Stamp). q.0 < 2 ^ 64) → IfSome o (λ (h : ReplicaInfo). h.stamp.0 < 2 ^ 64)
stamp_fits_in None f = tt
stamp_fits_in (Some h) f = f

-- The numbers of a book whose stamp was read.
pub numbers_of : {D : Type 0} (d : files.Ghosts D) (x : BookState D) (stamp : Option Stamp) → IsBookOf d x → stamp ≡ stamp_in x.replica → IfSome stamp (λ (q : Stamp). q.0 < 2 ^ 64) → HasNumbers (replica_of x)
numbers_of d x stamp book is fits = record {
  block_fits = subst (λ (b : BlockId). b.0 < 2 ^ 64) (sym book.held.of_block) book.held.fits;
  stamp_fits = stamp_fits_in (replica_of x).known.info
      (subst (λ (o : Option Stamp). IfSome o (λ (q : Stamp). q.0 < 2 ^ 64)) (is ∙ ap stamp_in book.known) fits);
}

pub no_numbers : {D : Type 0} → HaveNumbers {D = D} []
no_numbers k x at = cc

pub numbers_more : {D : Type 0} (xs : List (BookState D)) (x : BookState D) → HaveNumbers xs → HasNumbers (replica_of x) → HaveNumbers (xs ++ x ∷ [])
numbers_more {D} [] x h n zero y at = subst (λ (z : BookState D). HasNumbers (replica_of z)) (same_some x y at) n
numbers_more [] x h n (suc k) y at = cc
numbers_more (z ∷ zs) x h n zero y at = h 0 y at
numbers_more (z ∷ zs) x h n (suc k) y at = numbers_more zs x (λ j w there. h (suc j) w there) n k y at
