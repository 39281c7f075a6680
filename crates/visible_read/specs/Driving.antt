-- The serving of a read, from its answer to its last packet.
use Rattle.std.specs.Prelude.{◌≡◌, ◌⊎◌, List, [], ◌∷◌, Some, None}
use Rattle.hd_base.specs.declared.files.Files as files
use Rattle.hd_base.specs.declared.links.LinkOut as link_out
use Rattle.op_headers.specs.declared.ops.ReadOp.{ReadOp}
use Rattle.pipe_turns.specs.ReplicaFiles.BookState.{BookState}
use Rattle.visible_read.specs.declared.answering.Served.{Served}
use Rattle.visible_read.specs.declared.answering.Served.TheVariants as served
use Rattle.visible_read.specs.Servings.{ServingRun, unanswered, Steps}

-- Between two steps: the read, the book and the outward half.
pub record Place (F O : Type 0) : Type 0 where
  pub run : ServingRun
  pub book : BookState F
  pub out : O

-- A step leads from one place to another, and doesn't end the read.
abbrev pub GoesOn : {F O : Type 0} → files.Ghosts F → link_out.Ghosts O → Place F O → Place F O → Type 0
GoesOn f o a b = Steps f o a.run b.run a.book b.book a.out b.out None

-- Steps lead from one place over these to another.
abbrev pub Passes : {F O : Type 0} → files.Ghosts F → link_out.Ghosts O → Place F O → List (Place F O) → Place F O →
    Type 0
Passes f o a [] b = b ≡ a
Passes f o a (x ∷ xs) b = GoesOn f o a x × Passes f o x xs b

-- Steps lead here.
pub record Comes {F O : Type 0} (f : files.Ghosts F) (o : link_out.Ghosts O) (a b : Place F O) : Type 0 where
  pub places : List (Place F O)
  pub passes : Passes f o a places b

-- The steps of the serving, the last of which ended it so.
pub record ServesAll {F O : Type 0} (f : files.Ghosts F) (o : link_out.Ghosts O) (op : ReadOp) (book book' : BookState F)
    (out out' : O) (result : Served) : Type 0 where
  pub before : Place F O
  pub run : ServingRun
  pub comes : Comes f o (record { run = unanswered op; book = book; out = out }) before
  pub ends : Steps f o before.run run before.book book' before.out out' (Some result)

-- Memory ran out before the first step.
pub record ServesNothing {F O : Type 0} (book book' : BookState F) (out out' : O) (result : Served) : Type 0 where
  pub same_book : book' ≡ book
  pub same_out : out' ≡ out
  pub want : result ≡ served.Memory

abbrev pub Serves : {F O : Type 0} → files.Ghosts F → link_out.Ghosts O → ReadOp → BookState F → BookState F → O → O →
    Served → Type 0
Serves f o op book book' out out' result =
    ServesAll f o op book book' out out' result ⊎ ServesNothing book book' out out' result
