-- Draws one after the other.
use Rattle.std.proofs.Common.{◌≡◌, inl, inr, ℕ, zero, suc, ◌≤◌, ◌+◌, ◌-◌, Bool, true, false, List, [], ◌∷◌, slice_get, Result, Ok, Err, refl, sym, ap, ◌∙◌, subst, arith}
use Rattle.std.specs.Prelude.{is_some}
use Rattle.hd_base.specs.declared.files.Files as files
use Rattle.hd_base.specs.declared.links.LinkIn as link_in
use Rattle.hd_base.specs.declared.links.LinkOut as link_out
use Rattle.hd_base.specs.declared.roads.Roads as roads
use Rattle.play_model.specs.declared.dues.Due.{Due}
use Rattle.play_model.specs.Draws.{drawn_from, draw, draws}
use Rattle.play_model.specs.Dues.{dues}
use Rattle.play_model.specs.States.{PlayState}
use Rattle.play_scripts.specs.MemberEvents.Roads.{RoadsPass}
use Rattle.play_opening.specs.Play.PlayFault.{PlayFault}
use Rattle.play_opening.specs.Play.PlayFault.TheVariants as fault
use Rattle.play_lines.specs.declared.playing.Playing.{Playing}
use Rattle.play_lines.specs.Drawing.{IsCaused, blocks_in, IsDrawn, DrawShows, RunEnds, RunShows, SettleEnds, SettleShows}
use Rattle.play_lines.specs.Showing.{PlayIs, IsPlaying, given_in}
use Rattle.play_lines.proofs.Places.{moved}
use Rattle.play_lines.proofs.Drawn.{more_faults}

-- LISTS OF DRAWS

pub one_more : (blocks : List ℕ) (n : ℕ) (p : PlayState) → draws blocks (suc n) p ≡ draw blocks (draws blocks n p)
one_more blocks zero p = refl
one_more blocks (suc n) p = one_more blocks n (draw blocks p)

-- where nothing is due a draw changes nothing
draw_none : (blocks : List ℕ) (p : PlayState) → dues blocks p ≡ [] → draw blocks p ≡ p
draw_none blocks p e = ap (λ (ds : List Due). drawn_from ds p) e

draws_none : (blocks : List ℕ) (n : ℕ) (p : PlayState) → dues blocks p ≡ [] → draws blocks n p ≡ p
draws_none blocks zero p e = refl
draws_none blocks (suc n) p e = ap (draws blocks n) (draw_none blocks p e) ∙ draws_none blocks n p e

draws_join : (blocks : List ℕ) (m k n : ℕ) (p : PlayState) → n ≡ m + k → draws blocks n p ≡ draws blocks k (draws blocks m p)
draws_join blocks zero k n p e = ap (λ (j : ℕ). draws blocks j p) (same e)
  where
    same : n ≡ 0 + k → n ≡ k
    same e = omega (arith, e)
draws_join blocks (suc m) k zero p e = absurd (none e)
  where
    none : 0 ≡ suc m + k → ⊥
    none e = omega (arith, e)
draws_join blocks (suc m) k (suc n) p e = draws_join blocks m k n (draw blocks p) (less e)
  where
    less : suc n ≡ suc m + k → n ≡ m + k
    less e = omega (arith, e)

none_so : (ds : List Due) → false ≡ is_some (slice_get ds 0) → ds ≡ []
none_so [] e = refl
none_so (d ∷ ds) e = cc

split : (m n : ℕ) → m ≤ n → n ≡ m + (n - m)
split m n h = omega (arith, h)

pub draws_ended : (blocks : List ℕ) (m n : ℕ) (p : PlayState) → m ≤ n → dues blocks (draws blocks m p) ≡ [] → draws blocks n p ≡ draws blocks m p
draws_ended blocks m n p h e = draws_join blocks m (n - m) n p (split m n h) ∙ draws_none blocks (n - m) (draws blocks m p) e

module _ {F R I O : Type 0} (f : files.Ghosts F) (r : roads.Ghosts R I O) (i : link_in.Ghosts I) (o : link_out.Ghosts O) where
  -- What is left is the play after some draws.
  pub record AfterDraws (p : PlayState) (old new : Playing F I O) (road : R) : Type 0 where
    pub count : ℕ
    pub left : IsDrawn f r i o p (draws (blocks_in old) count p) old new road

  pub passes : (first road road' : R) → RoadsPass r first road → RoadsPass r road road' → RoadsPass r first road'
  passes first road road' h k = record { knows = λ c e. k.knows c (h.knows c e); never_falls = few (r.faults first) (r.faults road) (r.faults road') h.never_falls k.never_falls }
    where
      few : (a b c : ℕ) → a ≤ b → b ≤ c → a ≤ c
      few a b c h k = omega (arith, h, k)

  pub caused_from : (new : Playing F I O) (first road road' : R) (why : PlayFault) → r.faults first ≤ r.faults road → IsCaused f r new road road' why → IsCaused f r new first road' why
  caused_from new first road road' fault.RoadFault h (inl risen) = inl risen
  caused_from new first road road' fault.RoadFault h (inr rose) = inr (more_faults f r i o (r.faults first) (r.faults road) (r.faults road') h rose)
  caused_from new first road road' (fault.ShelfFault node) h c = c
  caused_from new first road road' fault.Memory h c = tt

  -- what is left of a play by draws is one
  pub still_playing : (old mid : Playing F I O) (first road : R) → IsPlaying f r i o first old → ((p : PlayState) → PlayIs f r i o p first old → AfterDraws p old mid road) → IsPlaying f r i o road mid
  still_playing old mid first road playing left =
      let k = left playing.p playing.is in
      record { p = draws (blocks_in old) k.count playing.p; is = k.left.is }

  -- one draw more
  record More (p : PlayState) (n : ℕ) (more : Bool) (old new : Playing F I O) (road : R) : Type 0 where
    left : IsDrawn f r i o p (draws (blocks_in old) (suc n) p) old new road
    told : more ≡ is_some (slice_get (dues (blocks_in old) (draws (blocks_in old) n p)) 0)

  more_left : (p : PlayState) (n : ℕ) (more : Bool) (old mid new : Playing F I O) (first road road' : R) → IsDrawn f r i o p (draws (blocks_in old) n p) old mid road → DrawShows f r i o mid new road road' (Ok more) → More p n more old new road'
  more_left p n more old mid new first road road' left shows =
      let k = shows (draws (blocks_in old) n p) left.is in
      record {
        left = record {
          is = subst (λ (q : PlayState). PlayIs f r i o q road' new) (ap (λ (bs : List ℕ). draw bs (draws (blocks_in old) n p)) left.blocks ∙ sym (one_more (blocks_in old) n p)) k.0.is;
          blocks = k.0.blocks ∙ left.blocks;
          given = λ b h. ap (λ (q : PlayState). given_in q b) (one_more (blocks_in old) n p ∙ ap (λ (bs : List ℕ). draw bs (draws (blocks_in old) n p)) (sym left.blocks)) ∙ (k.0.given b (moved mid.player.clients.items old.player.clients.items b left.blocks h) ∙ left.given b h);
        };
        told = k.1 ∙ ap (λ (bs : List ℕ). is_some (slice_get (dues bs (draws (blocks_in old) n p)) 0)) left.blocks;
      }

  one_suc : (n : ℕ) → suc n ≡ n + 1
  one_suc n = omega arith

  pub left_more : (p : PlayState) (n : ℕ) (old mid new : Playing F I O) (first road road' : R) → IsDrawn f r i o p (draws (blocks_in old) n p) old mid road → DrawShows f r i o mid new road road' (Ok true) → IsDrawn f r i o p (draws (blocks_in old) (n + 1) p) old new road'
  left_more p n old mid new first road road' left shows = subst (λ (k : ℕ). IsDrawn f r i o p (draws (blocks_in old) k p) old new road') (one_suc n) (more_left p n true old mid new first road road' left shows).left

  -- the last draw, in which nothing was due
  record Ended (p : PlayState) (n : ℕ) (old new : Playing F I O) (road : R) : Type 0 where
    left : IsDrawn f r i o p (draws (blocks_in old) n p) old new road
    none : dues (blocks_in old) (draws (blocks_in old) n p) ≡ []

  ended : (p : PlayState) (n : ℕ) (old mid new : Playing F I O) (first road road' : R) → IsDrawn f r i o p (draws (blocks_in old) n p) old mid road → DrawShows f r i o mid new road road' (Ok false) → Ended p n old new road'
  ended p n old mid new first road road' left shows =
      let k = more_left p n false old mid new first road road' left shows in
      let none : dues (blocks_in old) (draws (blocks_in old) n p) ≡ [] = none_so (dues (blocks_in old) (draws (blocks_in old) n p)) k.told in
      record {
        left = subst (λ (q : PlayState). IsDrawn f r i o p q old new road') (one_more (blocks_in old) n p ∙ draw_none (blocks_in old) (draws (blocks_in old) n p) none) k.left;
        none = none;
      }

  pub run_ended : (count n : ℕ) (old mid new : Playing F I O) (first road road' : R) → n ≤ count → ((p : PlayState) → PlayIs f r i o p first old → IsDrawn f r i o p (draws (blocks_in old) n p) old mid road) → DrawShows f r i o mid new road road' (Ok false) → RunShows f r i o count old new first road' (Ok tt)
  run_ended count n old mid new first road road' within left shows = λ p h.
      let k = ended p n old mid new first road road' (left p h) shows in
      subst (λ (q : PlayState). IsDrawn f r i o p q old new road') (sym (draws_ended (blocks_in old) n count p within k.none)) k.left

  pub run_whole : (count n : ℕ) (old new : Playing F I O) (first road : R) → n ≤ count → count ≤ n → ((p : PlayState) → PlayIs f r i o p first old → IsDrawn f r i o p (draws (blocks_in old) n p) old new road) → RunShows f r i o count old new first road (Ok tt)
  run_whole count n old new first road under over left = λ p h. subst (λ (k : ℕ). IsDrawn f r i o p (draws (blocks_in old) k p) old new road) (same under over) (left p h)
    where
      same : n ≤ count → count ≤ n → n ≡ count
      same a b = omega (arith, a, b)

  pub run_failed : (count n : ℕ) (old mid new : Playing F I O) (first road road' : R) (why : PlayFault) (result : Result (Unit {0}) PlayFault) → result ≡ Err why → r.faults first ≤ r.faults road → ((p : PlayState) → PlayIs f r i o p first old → IsDrawn f r i o p (draws (blocks_in old) n p) old mid road)
      → DrawShows f r i o mid new road road' (Err why) → RunShows f r i o count old new first road' result
  run_failed count n old mid new first road road' why result failed faults left shows = λ p h.
      subst (λ (x : Result (Unit {0}) PlayFault). RunEnds f r i o count p old new first road' x) (sym failed) (caused_from new first road road' why faults (shows (draws (blocks_in old) n p) (left p h).is))

  pub settle_ended : (old mid new : Playing F I O) (first road road' : R) → ((p : PlayState) → PlayIs f r i o p first old → AfterDraws p old mid road) → DrawShows f r i o mid new road road' (Ok false) → SettleShows f r i o old new first road' (Ok tt)
  settle_ended old mid new first road road' left shows = λ p h.
      let z = left p h in
      let k = ended p z.count old mid new first road road' z.left shows in
      record { after = draws (blocks_in old) z.count p; settles = record { count = z.count; drawn_so = refl; settled = k.none }; left = k.left }

  pub settle_failed : (old mid new : Playing F I O) (first road road' : R) (why : PlayFault) (result : Result (Unit {0}) PlayFault) → result ≡ Err why → r.faults first ≤ r.faults road → ((p : PlayState) → PlayIs f r i o p first old → AfterDraws p old mid road)
      → DrawShows f r i o mid new road road' (Err why) → SettleShows f r i o old new first road' result
  settle_failed old mid new first road road' why result failed faults left shows = λ p h.
      let z = left p h in
      subst (λ (x : Result (Unit {0}) PlayFault). SettleEnds f r i o p old new first road' x) (sym failed) (caused_from new first road road' why faults (shows (draws (blocks_in old) z.count p) z.left.is))

  pub after_more : (old mid new : Playing F I O) (first road road' : R) → ((p : PlayState) → PlayIs f r i o p first old → AfterDraws p old mid road) → DrawShows f r i o mid new road road' (Ok true) → (p : PlayState) → PlayIs f r i o p first old → AfterDraws p old new road'
  after_more old mid new first road road' left shows p h =
      let z = left p h in
      record { count = z.count + 1; left = left_more p z.count old mid new first road road' z.left shows }
