-- One connection among the others.
use Rattle.std.proofs.Common.{◌≡◌, ℕ, suc, ◌+◌, ◌<◌, List, length, get_or, slice_set, Option, Some, All, refl, subst, arith}
use Rattle.std.proofs.lemmas.List.Elements.{All-set, All-get_or}
use Rattle.std.proofs.lemmas.Option.{slice_get-get_or}
use Rattle.hd_base.specs.Channels.{Plain}
use Rattle.hd_base.specs.Ends.{IsKnown}
use Rattle.hd_base.specs.declared.numbers.ConnId.{ConnId}
use Rattle.block_recovery.specs.declared.links.Seat.{Seat}
use Rattle.block_recovery.specs.declared.links.Seat.TheVariants as seat
use Rattle.block_recovery.specs.Actions.{IsAt, Passes}
use Rattle.block_recovery.specs.Dialling.{LinkIsKnown, KeepsKnown, SameEnd, KeepsEnds}

-- The connection at one place was changed.
pub at_place : {L : Type 0} (rel : L → L → Type 0) (k : ℕ) (xs : List L) (d after : L) → k < length xs → rel (get_or xs k d) after → IsAt rel k xs (slice_set xs k after)
at_place rel k xs d after within is = record {
  before = get_or xs k d;
  after = after;
  stood = slice_get-get_or xs k d within;
  stands = refl;
  is = is;
}

same_known : {I O : Type 0} (plain : Option Plain) (a b : Seat I O) → SameEnd a b → LinkIsKnown plain a → LinkIsKnown plain b
same_known plain a seat.Empty s h = tt
same_known plain a seat.Lost s h = tt
same_known plain seat.Empty (seat.Open y) s h = cc
same_known plain seat.Lost (seat.Open y) s h = cc
same_known plain (seat.Open x) (seat.Open y) s h = let q : x.end.id ≡ y.end.id = cc in subst (λ (c : ConnId). IsKnown plain c.0) q h

-- Its end is known as before.
pub ends_stay : {I O : Type 0} (k : ℕ) (start xs : List (Seat I O)) (d after : Seat I O) → k < length xs → SameEnd (get_or xs k d) after → KeepsEnds start xs → KeepsEnds start (slice_set xs k after)
ends_stay k start xs d after within same keeps = λ plain h.
    All-set (LinkIsKnown plain) xs k after (same_known plain (get_or xs k d) after same (All-get_or (LinkIsKnown plain) xs k d within (keeps plain h))) (keeps plain h)

-- The roads know the others as before, and this one too.
pub known_stay : {I O : Type 0} (old new : Option Plain) (k : ℕ) (xs : List (Seat I O)) (after : Seat I O) → KeepsKnown old new → LinkIsKnown new after → All (LinkIsKnown old) xs → All (LinkIsKnown new) (slice_set xs k after)
known_stay {I} {O} old new k xs after keeps here all = All-set (LinkIsKnown new) xs k after here (λ j d below. still (get_or xs j d) (all j d below))
  where
    still : (x : Seat I O) → LinkIsKnown old x → LinkIsKnown new x
    still seat.Empty h = tt
    still seat.Lost h = tt
    still (seat.Open l) h = keeps l.end.id.0 h

-- The action was done at one place more.
pub passes_more : {S : Type 0} (rel : ℕ → S → S → Type 0) (k : ℕ) (a m b : S) → Passes rel k a m → rel k m b → Passes rel (k + 1) a b
passes_more rel k a m b p s = let e : suc k ≡ k + 1 = omega arith in subst (λ n. Passes rel n a b) e (m, (p, s))
