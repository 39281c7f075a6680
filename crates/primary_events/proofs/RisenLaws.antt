-- A link that failed is found, and its end was brought back with a count that had risen.
use Rattle.std.proofs.Common.{◌≡◌, ℕ, zero, suc, ◌<◌, ◌≤◌, Bool, true, false, List, [], ◌∷◌, length, slice_get, Option, Some, Result, Ok, Err, ◌⊎◌, inl, inr, refl, sym, ap, ◌∙◌, subst, arith}
use Rattle.std.specs.Prelude.{◌||◌, map}
use Rattle.std.specs.List.{list_any}
use Rattle.hd_base.specs.Ends.{has_failed}
use Rattle.hd_base.specs.declared.ends.RoadError.{RoadError}
use Rattle.hd_base.specs.declared.links.LinkIn as link_in
use Rattle.hd_base.specs.declared.links.LinkOut as link_out
use Rattle.hd_base.specs.declared.numbers.ConnId.{ConnId}
use Rattle.hd_base.specs.declared.roads.Roads as roads
use Rattle.block_recovery.specs.declared.links.Link.{Link}
use Rattle.block_recovery.specs.declared.links.Seat.{Seat}
use Rattle.block_recovery.specs.declared.links.Seat.TheVariants as seat
use Rattle.block_recovery.specs.Actions.{Held, IsAt, Passes, BringsBack, place_after}
use Rattle.block_recovery.specs.Dialling.{conn_of}
use Rattle.block_recovery.specs.Exchanging.{BringsLink, BringsAt, BringsAll}
use Rattle.block_recovery.specs.Failing.{link_failed}
use Rattle.link_pieces.specs.Roads.{BringsEnd}
use Rattle.client_events.proofs.MemberEvents.CauseLaws.{one_risen}
use Rattle.primary_events.specs.Updating.{is_risen}
use Rattle.primary_events.proofs.FlushLaws.{brings_risen}
use Rattle.primary_events.proofs.GivingUpLaws.{or_true}
use Rattle.primary_events.proofs.PlaceLemmas.{set_here, set_there, within, same_or, some_same}

-- LISTS

-- An element at some place passes a test.
pub record PassesAt {A : Type 0} (test : A → Bool) (xs : List A) : Type 0 where
  pub place : ℕ
  pub item : A
  pub stands : slice_get xs place ≡ Some item
  pub passes : test item ≡ true

pub any_at : {A : Type 0} (test : A → Bool) (xs : List A) → list_any test xs ≡ true → PassesAt test xs
any_at test [] h = cc
any_at test (x ∷ xs) h = by (test x) refl h (λ t. any_at test xs t) where
  by : (b : Bool) → test x ≡ b → (b || list_any test xs) ≡ true → (list_any test xs ≡ true → PassesAt test xs) → PassesAt test (x ∷ xs)
  by true is h later = record { place = 0; item = x; stands = refl; passes = is }
  by false is h later = let p = later h in record { place = suc p.place; item = p.item; stands = p.stands; passes = p.passes }

pub any_there : {A : Type 0} (test : A → Bool) (xs : List A) (j : ℕ) (x : A) → slice_get xs j ≡ Some x → test x ≡ true → list_any test xs ≡ true
any_there test [] j x at h = cc
any_there test (y ∷ xs) zero x at h = ap (λ b. b || list_any test xs) (ap test (some_same y x at) ∙ h)
any_there test (y ∷ xs) (suc j) x at h = ap (λ b. test y || b) (any_there test xs j x at h) ∙ or_true (test y)

pub mapped_at : {A B : Type 0} (f : A → B) (xs : List A) (j : ℕ) (x : A) → slice_get xs j ≡ Some x → slice_get (map f xs) j ≡ Some (f x)
mapped_at f [] j x at = cc
mapped_at f (y ∷ xs) zero x at = ap Some (ap f (some_same y x at))
mapped_at f (y ∷ xs) (suc j) x at = mapped_at f xs j x at

-- the element from which one of these comes
pub record ComesFrom {A B : Type 0} (f : A → B) (xs : List A) (j : ℕ) (y : B) : Type 0 where
  pub item : A
  pub stands : slice_get xs j ≡ Some item
  pub is : f item ≡ y

pub mapped_from : {A B : Type 0} (f : A → B) (xs : List A) (j : ℕ) (y : B) → slice_get (map f xs) j ≡ Some y → ComesFrom f xs j y
mapped_from f [] j y at = cc
mapped_from f (x ∷ xs) zero y at = record { item = x; stands = refl; is = some_same (f x) y at }
mapped_from f (x ∷ xs) (suc j) y at = let c = mapped_from f xs j y at in record { item = c.item; stands = c.stands; is = c.is }

-- the connection of a link whose end was brought back
pub record RisenLink {I O : Type 0} (risen : ℕ → Bool) (links : List (Seat I O)) : Type 0 where
  pub place : ℕ
  pub link : Link I O
  pub stands : slice_get links place ≡ Some (seat.Open link)
  pub rose : risen link.end.id.0 ≡ true

by_seat : {I O : Type 0} (risen : ℕ → Bool) (links : List (Seat I O)) (j : ℕ) (x : Seat I O) (conn : Option ConnId) → slice_get links j ≡ Some x → conn_of x ≡ conn → is_risen risen conn ≡ true → RisenLink risen links
by_seat risen links j (seat.Open l) conn at e h = record { place = j; link = l; stands = at; rose = ap (is_risen risen) e ∙ h }
by_seat risen links j seat.Empty conn at e h = absurd (false_true (ap (is_risen risen) e ∙ h)) where
  false_true : false ≡ true → ⊥
  false_true q = cc
by_seat risen links j seat.Lost conn at e h = absurd (false_true (ap (is_risen risen) e ∙ h)) where
  false_true : false ≡ true → ⊥
  false_true q = cc

pub risen_link : {I O : Type 0} (risen : ℕ → Bool) (links : List (Seat I O)) → list_any (is_risen risen) (map conn_of links) ≡ true → RisenLink risen links
risen_link risen links h =
    let a = any_at (is_risen risen) (map conn_of links) h in
    let c = mapped_from conn_of links a.place a.item a.stands in
    by_seat risen links a.place c.item a.item c.stands c.is a.passes

-- the same the other way round
pub risen_among : {I O : Type 0} (risen : ℕ → Bool) (links : List (Seat I O)) (j : ℕ) (l : Link I O) → slice_get links j ≡ Some (seat.Open l) → risen l.end.id.0 ≡ true → list_any (is_risen risen) (map conn_of links) ≡ true
risen_among risen links j l at h = any_there (is_risen risen) (map conn_of links) j (Some l.end.id) (mapped_at conn_of links j (seat.Open l) at) h

-- A link that failed stands at a place.
pub record FailedLink {I O : Type 0} (links : List (Seat I O)) : Type 0 where
  pub place : ℕ
  pub link : Link I O
  pub stands : slice_get links place ≡ Some (seat.Open link)
  pub fails : link.failed ≡ true

failed_seat : {I O : Type 0} (links : List (Seat I O)) (j : ℕ) (x : Seat I O) → slice_get links j ≡ Some x → link_failed x ≡ true → FailedLink links
failed_seat links j (seat.Open l) at h = record { place = j; link = l; stands = at; fails = h }
failed_seat links j seat.Empty at h = cc
failed_seat links j seat.Lost at h = cc

pub failed_link : {I O : Type 0} (links : List (Seat I O)) → list_any link_failed links ≡ true → FailedLink links
failed_link links h = let a = any_at link_failed links h in failed_seat links a.place a.item a.stands a.passes

pub works_at : {I O : Type 0} (links : List (Seat I O)) (j : ℕ) (l : Link I O) → list_any link_failed links ≡ false → slice_get links j ≡ Some (seat.Open l) → l.failed ≡ false
works_at links j l none at = by l.failed refl where
  by : (b : Bool) → l.failed ≡ b → l.failed ≡ false
  by true e = absurd (both (list_any link_failed links) (any_there link_failed links j (seat.Open l) at e) none) where
    both : (b : Bool) → b ≡ true → b ≡ false → ⊥
    both b p q = cc
  by false e = e

-- ENDS THAT ARE BROUGHT BACK

module _ {R I O : Type 0} (r : roads.Ghosts R I O) (i : link_in.Ghosts I) (o : link_out.Ghosts O) where
  link_risen : (x y : Seat I O) (road road' : R) (c : ℕ) → BringsLink r i o x y road road' → r.risen road c ≡ true → r.risen road' c ≡ true
  link_risen seat.Empty y road road' c s h = subst (λ (z : R). r.risen z c ≡ true) (sym s.1) h
  link_risen seat.Lost y road road' c s h = subst (λ (z : R). r.risen z c ≡ true) (sym s.1) h
  link_risen (seat.Open l) y road road' c s h = brings_risen r i o l.end road road' s.result c s.brings h

  -- What was brought back stays so.
  risen_through : (k : ℕ) (a b : Held R I O) (c : ℕ) → Passes (BringsAt r i o) k a b → r.risen a.road c ≡ true → r.risen b.road c ≡ true
  risen_through zero a b c e h = subst (λ (z : Held R I O). r.risen z.road c ≡ true) (sym e) h
  risen_through (suc k) a b c q h = link_risen q.1.1.before q.1.1.after q.0.road b.road c q.1.1.is (risen_through k a q.0 c q.1.0 h)

  pub all_risen : (links links' : List (Seat I O)) (road road' : R) (c : ℕ) → BringsAll r i o links links' road road' → r.risen road c ≡ true → r.risen road' c ≡ true
  all_risen links links' road road' c b h = risen_through (length links) (record { links = links; road = road }) (record { links = links'; road = road' }) c b h

  module _ (j : ℕ) (l : Link I O) (failed : has_failed i o l.end ≡ true) where
    -- The end of a link that failed was brought back, or is lost, once the places so far were.
    record Brought (k : ℕ) (held : Held R I O) : Type 0 where
      done : j < k → (r.risen held.road l.end.id.0 ≡ true) ⊎ (slice_get held.links j ≡ Some seat.Lost)
      still : k ≤ j → slice_get held.links j ≡ Some (seat.Open l)

    module _ (k : ℕ) (a b : Held R I O) (at : IsAt (λ x y. BringsLink r i o x y a.road b.road) k a.links b.links) (g : Brought k a) where
      back : (z : BringsBack r i o l.end at.after a.road b.road) → (q : Result (Unit {0}) RoadError) → z.result ≡ q → (r.risen b.road l.end.id.0 ≡ true) ⊎ (slice_get b.links k ≡ Some seat.Lost)
      back z (Ok u) e = inl (one_risen r i o l.end a.road b.road (subst (λ q. BringsEnd r i o l.end a.road b.road q) e z.brings) failed)
      back z (Err why) e =
          inr (ap (λ (xs : List (Seat I O)). slice_get xs k) at.stands ∙ (set_here a.links k at.before at.after at.stood ∙ ap Some (z.place_is ∙ ap place_after e)))

      here : j ≡ k → (r.risen b.road l.end.id.0 ≡ true) ⊎ (slice_get b.links j ≡ Some seat.Lost)
      here e =
          let was : at.before ≡ seat.Open l = some_same at.before (seat.Open l) (sym at.stood ∙ (sym (ap (slice_get a.links) e) ∙ g.still (omega (arith, e)))) in
          let z : BringsBack r i o l.end at.after a.road b.road = subst (λ (x : Seat I O). BringsLink r i o x at.after a.road b.road) was at.is in
          subst (λ (n : ℕ). (r.risen b.road l.end.id.0 ≡ true) ⊎ (slice_get b.links n ≡ Some seat.Lost)) (sym e) (back z z.result refl)

      there : (j ≡ k → ⊥) → (r.risen a.road l.end.id.0 ≡ true) ⊎ (slice_get a.links j ≡ Some seat.Lost) → (r.risen b.road l.end.id.0 ≡ true) ⊎ (slice_get b.links j ≡ Some seat.Lost)
      there apart (inl h) = inl (link_risen at.before at.after a.road b.road l.end.id.0 at.is h)
      there apart (inr h) = inr (ap (λ (xs : List (Seat I O)). slice_get xs j) at.stands ∙ (set_there a.links k at.after j apart ∙ h))

      less_apart : (m n : ℕ) → (m ≡ n → ⊥) → m < suc n → m < n
      less_apart zero zero q h = absurd (q refl)
      less_apart zero (suc n) q h = omega arith
      less_apart (suc m) zero q h = absurd (omega (arith, h))
      less_apart (suc m) (suc n) q h = let t = less_apart m n (λ e. q (ap suc e)) (omega (arith, h)) in omega (arith, t)

      brought_on : (j ≡ k) ⊎ (j ≡ k → ⊥) → Brought (suc k) b
      brought_on (inl e) = record { done = λ h. here e; still = λ h. absurd (omega (arith, h, e)) }
      brought_on (inr apart) = record {
        done = λ h. there apart (g.done (less_apart j k apart h));
        still = λ h. ap (λ (xs : List (Seat I O)). slice_get xs j) at.stands ∙ (set_there a.links k at.after j apart ∙ g.still (omega (arith, h)));
      }

    all_brought : (k : ℕ) (a b : Held R I O) → Passes (BringsAt r i o) k a b → slice_get a.links j ≡ Some (seat.Open l) → Brought k b
    all_brought zero a b e at = record { done = λ h. absurd (omega (arith, h)); still = λ h. ap (λ (z : Held R I O). slice_get z.links j) e ∙ at }
    all_brought (suc k) a b q at = brought_on k q.0 b q.1.1 (all_brought k a q.0 q.1.0 at) (same_or j k)

    -- Where all ends were brought back, the end of a link that failed was too, or is lost.
    pub brought_failed : (links links' : List (Seat I O)) (road road' : R) → BringsAll r i o links links' road road' → slice_get links j ≡ Some (seat.Open l) → (r.risen road' l.end.id.0 ≡ true) ⊎ (slice_get links' j ≡ Some seat.Lost)
    brought_failed links links' road road' b at =
        (all_brought (length links) (record { links = links; road = road }) (record { links = links'; road = road' }) b at).done (within links j (seat.Open l) at)
