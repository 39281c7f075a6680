-- A write is to fail.
use Rattle.std.proofs.Common.{◌≡◌, ℕ, zero, suc, ◌<◌, Bool, true, false, List, [], ◌∷◌, length, refl, sym, ap, ◌∙◌, subst, eqb-true, arith}
use Rattle.std.specs.Prelude.{◌==◌, slice_set}
use Rattle.std.proofs.lemmas.Bool.{eqb-false}
use Rattle.hd_base.specs.declared.files.Files as files
use Rattle.hd_base.specs.declared.links.LinkIn as link_in
use Rattle.hd_base.specs.declared.links.LinkOut as link_out
use Rattle.hd_base.specs.declared.numbers.NodeId.{NodeId}
use Rattle.hd_base.specs.declared.roads.Roads as roads
use Rattle.world.specs.Worlds.{put}
use Rattle.play_model.proofs.WorldLaws.StampGivens.{put-here, put-there}
use Rattle.play_model.specs.Faults.{Faults}
use Rattle.play_model.specs.States.{PlayState, armed}
use Rattle.play.specs.Befalling.{number_in, TellsFaults}
use Rattle.play_opening.specs.Play.Events.{FilesTell}
use Rattle.play_scripts.specs.PlayLaws.Members.{IsNode}
use Rattle.play_lines.specs.declared.playing.Playing.{Playing}
use Rattle.play_lines.specs.Drawing.{IsLeft, blocks_in}
use Rattle.play_lines.specs.Faulting.{Arms, ArmsArePlays}
use Rattle.play_lines.specs.Showing.{FaultsShow, PlayIs}

-- NUMBERS

none_below : {A : Type 0} (k : ℕ) → k < 0 → A
none_below k h = absurd (omega (arith, h))

one_less : (k n : ℕ) → suc k < suc n → k < n
one_less k n h = omega (arith, h)

as_many : (xs : List ℕ) (k v : ℕ) → length (slice_set xs k v) ≡ length xs
as_many [] k v = refl
as_many (x ∷ xs) zero v = refl
as_many (x ∷ xs) (suc k) v = ap suc (as_many xs k v)

number_here : (xs : List ℕ) (k v : ℕ) → k < length xs → number_in (slice_set xs k v) k ≡ v
number_here [] k v h = none_below k h
number_here (x ∷ xs) zero v h = refl
number_here (x ∷ xs) (suc k) v h = number_here xs k v (one_less k (length xs) h)

number_there : (xs : List ℕ) (k v n : ℕ) → (n ≡ k → ⊥) → number_in (slice_set xs k v) n ≡ number_in xs n
number_there [] k v n apart = refl
number_there (x ∷ xs) zero v zero apart = absurd (apart refl)
number_there (x ∷ xs) zero v (suc n) apart = refl
number_there (x ∷ xs) (suc k) v zero apart = refl
number_there (x ∷ xs) (suc k) v (suc n) apart = number_there xs k v n (λ e. apart (ap suc e))

numbers_set : (xs : List ℕ) (k v : ℕ) (faults : Faults) → k < length xs → TellsFaults faults xs → TellsFaults (put faults k v) (slice_set xs k v)
numbers_set xs k v faults within tells n = by (n == k) refl
  where
    by : (same : Bool) → (n == k) ≡ same → number_in (slice_set xs k v) n ≡ put faults k v n
    by true e =
        let is : n ≡ k = eqb-true n k e in
        ap (number_in (slice_set xs k v)) is ∙ (number_here xs k v within ∙ (sym (put-here faults k v) ∙ ap (put faults k v) (sym is)))
    by false e =
        let apart : n ≡ k → ⊥ = eqb-false n k e in
        number_there xs k v n apart ∙ (tells n ∙ sym (put-there faults k v n apart))

-- THE PLAY

module _ {F R I O : Type 0} (f : files.Ghosts F) (r : roads.Ghosts R I O) (i : link_in.Ghosts I) (o : link_out.Ghosts O) where
  pub arms_plays : ArmsArePlays f r i o
  arms_plays old new node nth p road h is tell node_is =
      let faults : FaultsShow f p.nodes (put p.faults node.0 nth) new.faults.items = record {
        count = ap length h.set ∙ (as_many old.faults.items node.0 nth ∙ is.faults.count);
        tells = subst (λ (xs : List ℕ). TellsFaults (put p.faults node.0 nth) xs) (sym h.set)
            (numbers_set old.faults.items node.0 nth p.faults (subst (λ (n : ℕ). node.0 < n) (sym is.faults.count) node_is) is.faults.tells);
        told = λ n some. tell;
      } in
      record {
        is = subst (λ (x : Playing F I O). PlayIs f r i o (armed p node.0 nth) road x) (sym h.same) (record {
          stands = is.stands;
          nodes_are = is.nodes_are;
          events = is.events;
          generator = is.generator;
          faults = faults;
          asks = is.asks;
          told = is.told;
          recovers = is.recovers;
          formed = is.formed;
          rules = is.rules;
          live = is.live;
        });
        blocks = ap (λ (x : Playing F I O). blocks_in x) h.same;
      }
