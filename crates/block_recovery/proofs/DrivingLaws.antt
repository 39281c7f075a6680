-- Steps that follow one another.
use Rattle.std.proofs.Common.{◌≡◌, ℕ, suc, ◌+◌, List, [], ◌∷◌, length, Option, All, inl, inr, refl, ap}
use Rattle.std.proofs.lemmas.List.Elements.{All-nil, All-cons}
use Rattle.hd_base.specs.Channels.{Plain}
use Rattle.hd_base.specs.declared.links.LinkIn as link_in
use Rattle.hd_base.specs.declared.links.LinkOut as link_out
use Rattle.hd_base.specs.declared.numbers.NodeId.{NodeId}
use Rattle.hd_base.specs.declared.roads.Roads as roads
use Rattle.name_core.specs.declared.desks.Desk as desk
use Rattle.recovery_core.specs.declared.primary.Recovered.{Recovered}
use Rattle.block_recovery.specs.declared.primary.PrimaryStep.{PrimaryStep}
use Rattle.block_recovery.specs.declared.primary.PrimaryStep.TheVariants as step
use Rattle.block_recovery.specs.declared.links.Seat.TheVariants as seat
use Rattle.block_recovery.specs.Dialling.{LinkIsKnown}
use Rattle.block_recovery.specs.Driving.{Place, StepLeads, LeadsOn, Comes}
use Rattle.block_recovery.specs.Steps.{no_links}
use Rattle.block_recovery.proofs.ActionLaws.{passes_more}

-- where there is no connection, none is unknown
pub none_known : {I O : Type 0} (plain : Option Plain) (nodes : List NodeId) → All (LinkIsKnown {I = I} {O = O} plain) (no_links nodes)
none_known {I} {O} plain [] = All-nil (LinkIsKnown {I = I} {O = O} plain)
none_known {I} {O} plain (n ∷ ns) = All-cons (LinkIsKnown {I = I} {O = O} plain) seat.Empty (no_links ns) tt (none_known plain ns)

pub none_count : (I O : Type 0) (nodes : List NodeId) → length (no_links {I = I} {O = O} nodes) ≡ length nodes
none_count I O [] = refl
none_count I O (n ∷ ns) = ap suc (none_count I O ns)

-- the recovery hasn't ended
abbrev pub GoesOn : PrimaryStep → Type 0
GoesOn result = (x : Recovered) → result ≡ step.Ended x → ⊥

module _ {D R I O : Type 0} (d : desk.Ghosts D) (r : roads.Ghosts R I O) (i : link_in.Ghosts I) (o : link_out.Ghosts O) where
  -- nothing was done
  pub comes_nowhere : (a : Place D R I O) → Comes d r i o a a
  comes_nowhere a = record { count = 0; passes = refl }

  goes_on : (k : ℕ) (a b : Place D R I O) (result : PrimaryStep) → GoesOn result → StepLeads d r i o a b result → LeadsOn d r i o k a b
  goes_on k a b step.Moved n s = inl s
  goes_on k a b step.Waiting n s = inr s
  goes_on k a b (step.Ended x) n s = absurd (n x refl)

  -- one step more
  pub comes_on : (a b c : Place D R I O) (result : PrimaryStep) → Comes d r i o a b → GoesOn result → StepLeads d r i o b c result → Comes d r i o a c
  comes_on a b c result p n s = record {
    count = p.count + 1;
    passes = passes_more (LeadsOn d r i o) p.count a b c p.passes (goes_on p.count b c result n s);
  }
