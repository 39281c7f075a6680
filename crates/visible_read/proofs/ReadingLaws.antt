-- Steps of a read that follow one another.
use Rattle.std.proofs.Common.{◌≡◌, true, List, [], ◌∷◌, ◌++◌, Option, is_some, inl, inr, refl, ap, subst}
use Rattle.hd_base.specs.declared.links.LinkIn as link_in
use Rattle.hd_base.specs.declared.links.LinkOut as link_out
use Rattle.op_headers.specs.declared.ops.ReadOp.{ReadOp}
use Rattle.read_core.specs.Readings.{ReadingState}
use Rattle.visible_read.specs.declared.talking.ReadStep.{ReadStep}
use Rattle.visible_read.specs.declared.talking.ReadStep.TheVariants as step
use Rattle.visible_read.specs.declared.talking.Talk.{Talk}
use Rattle.visible_read.specs.Talking.{Begins, StaysOpen}
use Rattle.visible_read.specs.ReadingBack.{Place, Leads, LeadsOn, Passes, Comes}

-- a read of which nothing was done goes on
pub begun-open : (op : ReadOp) (t : Talk) → Begins op t → is_some t.core ≡ true
begun-open op t b = ap is_some b.core

-- the read hasn't ended
abbrev pub GoesOn : ReadStep → Type 0
GoesOn result = (x : _) → result ≡ step.Ended x → ⊥

pub goes-on-open : (result : ReadStep) (core : Option ReadingState) → GoesOn result → StaysOpen result core → is_some core ≡ true
goes-on-open step.Moved core n h = h
goes-on-open step.Waiting core n h = h
goes-on-open (step.Ended x) core n h = absurd (n x refl)

module _ {I O : Type 0} (i : link_in.Ghosts I) (o : link_out.Ghosts O) where
  passes-on : (a b c : Place I O) (places : List (Place I O)) → Passes i o a places b → LeadsOn i o b c → Passes i o a (places ++ c ∷ []) c
  passes-on a b c [] p s = (subst (λ x. LeadsOn i o x c) p s, refl)
  passes-on a b c (x ∷ places) p s = (p.0, passes-on x b c places p.1 s)

  -- nothing was done
  pub comes-nowhere : (a : Place I O) → Comes i o a a
  comes-nowhere a = record { places = []; passes = refl }

  -- one step more
  pub comes-on : (a b c : Place I O) → Comes i o a b → LeadsOn i o b c → Comes i o a c
  comes-on a b c p s = record { places = p.places ++ c ∷ []; passes = passes-on a b c p.places p.passes s }

  pub goes-on-leads : (a b : Place I O) (result : ReadStep) → GoesOn result → Leads i o a b result → LeadsOn i o a b
  goes-on-leads a b step.Moved n s = inl s
  goes-on-leads a b step.Waiting n s = inr s
  goes-on-leads a b (step.Ended x) n s = absurd (n x refl)
