-- A primary that takes nothing from a place takes nothing from it later.
use Rattle.std.proofs.Common.{◌≡◌, ◌∷◌, ℕ, zero, suc, Bool, true, false, List, [], slice_get, slice_set, Option, Some, None, ◌⊎◌, inl, inr, Result, Ok, Err, refl, sym, ap, ◌∙◌, subst}
use Rattle.std.specs.Prelude.{◌&&◌, is_none, map, zip}
use Rattle.hd_base.specs.declared.numbers.NodeId.{NodeId}
use Rattle.name_core.specs.declared.choice.ChooseFault.{ChooseFault}
use Rattle.name_core.specs.declared.choice.Chosen.{Chosen}
use Rattle.name_core.specs.Choice.{choice}
use Rattle.recovery_core.specs.declared.primary.OwnStep.TheVariants as own
use Rattle.recovery_core.specs.declared.primary.Phase.{Phase}
use Rattle.recovery_core.specs.declared.primary.Phase.TheVariants as phase
use Rattle.recovery_core.specs.declared.standings.Heard.{Heard}
use Rattle.recovery_core.specs.declared.standings.Standing.{Standing}
use Rattle.recovery_core.specs.Primaries.{PrimaryState, OwnTaken, waits, taken, choosing, committing, own_at, own_step, updated_members, infos, after_choice, after_heard, heard_as, heard_at}
use Rattle.world.specs.Connections.{is_alive}
use Rattle.world.specs.Enabled.{leads_from, listens_at}
use Rattle.world.specs.Parts.{Place, Leading, Primary, no_primary, was_told, leads, has_led}
use Rattle.world.specs.Primaries.{listens}
use Rattle.world.specs.Worlds.{World}
use Rattle.play_model.proofs.WorldLaws.FactTables.{if-each}
use Rattle.play_reads.specs.WorldRecoveries.Recovering.{IsPlacedIn}
use Rattle.play_reads.proofs.PlayNodes.Tables.{set_there, same_or}

-- WHERE NOTHING IS LISTENED TO

-- at this place a primary listens to nobody
abbrev pub IsDeaf : PrimaryState → ℕ → Type 0
IsDeaf p place = listens_at p.phase (slice_get p.standings place) ≡ false

over_deaf : (o : Option Standing) → listens_at phase.Over o ≡ false
over_deaf None = refl
over_deaf (Some s) = refl

-- before the choice it listens to all members
none_informing : (o : Option Standing) → listens_at phase.Informing o ≡ false → o ≡ None
none_informing None e = refl
none_informing (Some s) e = cc

zip_none : (f : NodeId × Standing → Standing) (ms : List NodeId) (ss : List Standing) (k : ℕ) → slice_get ss k ≡ None → slice_get (map f (zip ms ss)) k ≡ None
zip_none f [] ss k h = refl
zip_none f (m ∷ ms) [] k h = refl
zip_none f (m ∷ ms) (s ∷ ss) zero h = cc
zip_none f (m ∷ ms) (s ∷ ss) (suc k) h = zip_none f ms ss k h

-- AFTER AN OWN STEP

module _ (p : PrimaryState) (place : ℕ) where
  choosing_deaf : (o : Result Chosen ChooseFault) → slice_get p.standings place ≡ None → IsDeaf (choosing p o).primary place
  choosing_deaf (Ok c) none =
      subst (λ (o : Option Standing). listens_at (phase.Updating c.length) o ≡ false) (sym (zip_none (λ (x : NodeId × Standing). after_choice c.members x.0 x.1) p.members p.standings place none)) refl
  choosing_deaf (Err fault) none = over_deaf (slice_get p.standings place)

  committing_deaf : (bytes : ℕ) (nodes : List NodeId) → IsDeaf (committing p bytes nodes).primary place
  committing_deaf bytes [] = over_deaf (slice_get p.standings place)
  committing_deaf bytes (n ∷ ns) = over_deaf (slice_get p.standings place)

  at_deaf : (x : Phase) → p.phase ≡ x → IsDeaf p place → IsDeaf (own_at x p).primary place
  at_deaf phase.Informing is h =
      choosing_deaf (choice p.begun.committed (infos p.members p.standings)) (none_informing (slice_get p.standings place) (subst (λ (y : Phase). listens_at y (slice_get p.standings place) ≡ false) is h))
  at_deaf (phase.Updating bytes) is h = committing_deaf bytes (updated_members p.members p.standings)
  at_deaf phase.Over is h = h

  pub own_deaf : IsDeaf p place → IsDeaf (own_step p).primary place
  own_deaf h = if-each (λ (t : OwnTaken). IsDeaf t.primary place) (waits p.standings) (taken p own.Waits) (own_at p.phase p) (λ _. h) (λ _. at_deaf p.phase refl h)

-- AFTER SOMETHING WAS HEARD

pub true_false : (b : Bool) → b ≡ true → b ≡ false → ⊥
true_false b x y = cc

-- from a member to which it listens
pub heard_deaf : (p : PrimaryState) (at place : ℕ) (h : Heard) (s : Standing) → slice_get p.standings at ≡ Some s → listens p.phase s ≡ true → IsDeaf p place → IsDeaf (heard_at p at h) place
heard_deaf p at place h s is listening deaf =
    subst (λ (o : Option Standing). IsDeaf (heard_as p at h o) place) (sym is) (by (same_or place at))
  where
    by : ((place ≡ at) ⊎ (place ≡ at → ⊥)) → listens_at p.phase (slice_get (slice_set p.standings at (after_heard s h)) place) ≡ false
    by (inl same) = absurd (true_false (listens p.phase s) listening (ap (λ (o : Option Standing). listens_at p.phase o) (sym (ap (λ (n : ℕ). slice_get p.standings n) same ∙ is)) ∙ deaf))
    by (inr apart) = ap (λ (o : Option Standing). listens_at p.phase o) (set_there p.standings at (after_heard s h) place apart) ∙ deaf

-- A PRIMARY

-- It leads or has led, and takes nothing from this place.
abbrev pub Gone : Primary → World → ℕ → Type 0
Gone no_primary w place = ⊥
Gone (was_told b told) w place = ⊥
Gone (leads l) w place = leads_from (leads l) w place ≡ false
Gone (has_led r) w place = Unit {0}

pub gone_from : (p : Primary) (w : World) (c place : ℕ) → IsPlacedIn c place p → leads_from p w place ≡ false → Gone p w place
gone_from no_primary w c place placed e = placed
gone_from (was_told b told) w c place placed e = placed
gone_from (leads l) w c place placed e = e
gone_from (has_led r) w c place placed e = tt

pub gone_false : (p : Primary) (w : World) (place : ℕ) → Gone p w place → leads_from p w place ≡ false
gone_false no_primary w place h = absurd h
gone_false (was_told b told) w place h = absurd h
gone_false (leads l) w place h = h
gone_false (has_led r) w place h = refl

-- in a world in which the same nodes live
pub gone_in : (p : Primary) (w v : World) (place : ℕ) → ((at : Place) → is_alive v at ≡ is_alive w at) → Gone p w place → Gone p v place
gone_in no_primary w v place same h = h
gone_in (was_told b told) w v place same h = h
gone_in (leads l) w v place same h = ap (λ (b : Bool). (b && is_none l.told) && listens_at l.state.phase (slice_get l.state.standings place)) (same l.at) ∙ h
gone_in (has_led r) w v place same h = tt

-- an answer of the office waits
pub never_told : (a b : Bool) → ((a && false) && b) ≡ false
never_told true b = refl
never_told false b = refl

pub never_right : (a b : Bool) → b ≡ false → (a && b) ≡ false
never_right true b e = e
never_right false b e = refl

only_right : (a b : Bool) → a ≡ true → (a && b) ≡ false → b ≡ false
only_right true b h e = e
only_right false b h e = cc

module _ (w : World) (l : Leading) (place : ℕ) where
  pub deaf_gone : (p : PrimaryState) → IsDeaf p place → Gone (leads (record l { state = p })) w place
  deaf_gone p h = never_right (is_alive w l.at && is_none l.told) (listens_at p.phase (slice_get p.standings place)) h

  pub deaf_from : (is_alive w l.at && is_none l.told) ≡ true → Gone (leads l) w place → IsDeaf l.state place
  deaf_from takes h = only_right (is_alive w l.at && is_none l.told) (listens_at l.state.phase (slice_get l.state.standings place)) takes h
