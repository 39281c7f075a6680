-- Steps that follow one another.
use Rattle.std.proofs.Common.{◌≡◌, Bool, true, false, List, [], ◌∷◌, ◌++◌, inl, inr, refl, subst}
use Rattle.hd_base.specs.declared.links.LinkIn as link_in
use Rattle.hd_base.specs.declared.links.LinkOut as link_out
use Rattle.hd_base.specs.declared.roads.Roads as roads
use Rattle.name_core.specs.declared.desks.Desk as desk
use Rattle.writer_core.specs.declared.phases.Phase.{Phase}
use Rattle.writer_core.specs.declared.phases.Phase.TheVariants as phase
use Rattle.writer_core.specs.Transitions.{wants_pipeline}
use Rattle.pipe_recovery.specs.declared.rebuilding.RebuildStep.{RebuildStep}
use Rattle.pipe_recovery.specs.declared.rebuilding.RebuildStep.TheVariants as step
use Rattle.pipe_recovery.specs.declared.rebuilding.Rebuilt.{Rebuilt}
use Rattle.pipe_recovery.specs.Driving.{Place, Leads, LeadsOn, Passes, Comes}
use Rattle.pipe_recovery.specs.Steps.{fits_in, StillFits}

-- A setup may begin where a pipeline is wanted.
pub wanted-fits : (p : Phase) → wants_pipeline p ≡ true → fits_in p false ≡ true
wanted-fits phase.Closed h = cc
wanted-fits (phase.Wanted s) h = refl
wanted-fits (phase.Stamped s stamp) h = refl
wanted-fits (phase.Requested s stamp) h = cc
wanted-fits (phase.Accepted s stamp) h = cc
wanted-fits phase.Opened h = cc
wanted-fits (phase.Streaming sent) h = cc
wanted-fits phase.Closing h = cc
wanted-fits phase.Finished h = cc
wanted-fits phase.Completed h = cc
wanted-fits (phase.Failed f) h = cc

-- the setup hasn't ended
abbrev pub GoesOn : {I O : Type 0} → RebuildStep I O → Type 0
GoesOn {I = I} {O = O} result = (x : Rebuilt I O) → result ≡ step.Ended x → ⊥

-- A step that didn't end it is followed by another.
pub goes-on-fits : {I O : Type 0} → (result : RebuildStep I O) (p : Phase) (linked : Bool) → GoesOn result → StillFits p linked result → fits_in p linked ≡ true
goes-on-fits step.Moved p linked n h = h
goes-on-fits step.Waiting p linked n h = h
goes-on-fits (step.Ended x) p linked n h = absurd (n x refl)

module _ {D R I O : Type 0} (d : desk.Ghosts D) (r : roads.Ghosts R I O) (i : link_in.Ghosts I) (o : link_out.Ghosts O) where
  passes-on : (a b c : Place D R I O) (places : List (Place D R I O)) → Passes d r i o a places b → LeadsOn d r i o b c → Passes d r i o a (places ++ c ∷ []) c
  passes-on a b c [] p s = (subst (λ x. LeadsOn d r i o x c) p s, refl)
  passes-on a b c (x ∷ places) p s = (p.0, passes-on x b c places p.1 s)

  -- nothing was done
  pub comes-nowhere : (a : Place D R I O) → Comes d r i o a a
  comes-nowhere a = record { places = []; passes = refl }

  -- one step more
  pub comes-on : (a b c : Place D R I O) → Comes d r i o a b → LeadsOn d r i o b c → Comes d r i o a c
  comes-on a b c p s = record { places = p.places ++ c ∷ []; passes = passes-on a b c p.places p.passes s }

  pub goes-on-leads : (a b : Place D R I O) (result : RebuildStep I O) → GoesOn result → Leads d r i o a b result → LeadsOn d r i o a b
  goes-on-leads a b step.Moved n s = inl s
  goes-on-leads a b step.Waiting n s = inr s
  goes-on-leads a b (step.Ended x) n s = absurd (n x refl)
