-- The setup of a pipeline, from its first step to its last.
use Rattle.std.specs.Prelude.{◌≡◌, ◌⊎◌, false, List, [], ◌∷◌, Option, None, Bool}
use Rattle.hd_base.specs.declared.links.LinkIn as link_in
use Rattle.hd_base.specs.declared.links.LinkOut as link_out
use Rattle.hd_base.specs.declared.roads.Roads as roads
use Rattle.name_core.specs.declared.desks.Desk as desk
use Rattle.writer_core.specs.declared.records.WriterRecord.{WriterRecord}
use Rattle.pipe_recovery.specs.declared.links.Link.{Link}
use Rattle.pipe_recovery.specs.declared.rebuilding.RebuildStep.{RebuildStep}
use Rattle.pipe_recovery.specs.declared.rebuilding.RebuildStep.TheVariants as step
use Rattle.pipe_recovery.specs.declared.rebuilding.Rebuilt.{Rebuilt}
use Rattle.pipe_recovery.specs.Steps.{Steps, Settles}

-- Between two steps: the writer, its connection, the office and the roads.
pub record Place (D R I O : Type 0) : Type 0 where
  pub writer : WriterRecord
  pub link : Option (Link I O)
  pub office : D
  pub road : R

-- A step leads from one place to another, and ends so; it may lose an end.
abbrev pub Leads : {D R I O : Type 0} → desk.Ghosts D → roads.Ghosts R I O → link_in.Ghosts I → link_out.Ghosts O
    → Place D R I O → Place D R I O → RebuildStep I O → Type 0
Leads d r i o a b result = (lost : Bool) ×
    Steps d r i o a.writer b.writer a.link b.link a.office b.office a.road b.road lost result

-- It didn't end the setup.
abbrev pub LeadsOn : {D R I O : Type 0} → desk.Ghosts D → roads.Ghosts R I O → link_in.Ghosts I → link_out.Ghosts O
    → Place D R I O → Place D R I O → Type 0
LeadsOn d r i o a b = Leads d r i o a b step.Moved ⊎ Leads d r i o a b step.Waiting

-- Steps lead from one place over these to another, and none of them ended the setup.
abbrev pub Passes : {D R I O : Type 0} → desk.Ghosts D → roads.Ghosts R I O → link_in.Ghosts I → link_out.Ghosts O
    → Place D R I O → List (Place D R I O) → Place D R I O → Type 0
Passes d r i o a [] b = b ≡ a
Passes d r i o a (x ∷ xs) b = LeadsOn d r i o a x × Passes d r i o x xs b

-- Steps lead here.
pub record Comes {D R I O : Type 0} (d : desk.Ghosts D) (r : roads.Ghosts R I O) (i : link_in.Ghosts I)
    (o : link_out.Ghosts O) (a b : Place D R I O) : Type 0 where
  pub places : List (Place D R I O)
  pub passes : Passes d r i o a places b

-- The setup of a pipeline: its steps, the last of which ended it so, and a connection that is still there is given
-- up.
pub record Rebuilds {D R I O : Type 0} (d : desk.Ghosts D) (r : roads.Ghosts R I O) (i : link_in.Ghosts I)
    (o : link_out.Ghosts O) (w w' : WriterRecord) (office office' : D) (old new : R) (result : Rebuilt I O)
    : Type 0 where
  pub before : Place D R I O
  pub link : Option (Link I O)
  pub rest : Option (Link I O)
  pub road : R
  pub comes : Comes d r i o (record { writer = w; link = None; office = office; road = old }) before
  pub ends : Leads d r i o before
      (record { writer = w'; link = link; office = office'; road = road }) (step.Ended result)
  pub given_up : Settles r i o false link rest road new
