-- What writers do and take, in the world, fits the stamps that were given.
use Rattle.std.proofs.Common.{◌≡◌, ℕ, Bool, true, false, List, [], Option, Some, None, IfSome, refl, sym, ◌∙◌, subst}
use Rattle.std.specs.Prelude.{◌&&◌, not, is_none}
use Rattle.hd_base.specs.declared.numbers.NodeId.{NodeId}
use Rattle.hd_base.specs.declared.numbers.Stamp.{Stamp}
use Rattle.world.specs.OpHeaders.Op.{Op}
use Rattle.world.specs.WriterCore.Action.{Action}
use Rattle.world.specs.WriterCore.Action.TheVariants as action
use Rattle.world.specs.WriterCore.Phase.{Phase}
use Rattle.world.specs.WriterCore.Phase.TheVariants as phase
use Rattle.world.specs.WriterCore.Waiting.{Waiting}
use Rattle.world.specs.WriterCore.WriterRecord.{WriterRecord}
use Rattle.world.specs.WriterCore.Transitions.{given, own_step, dial_step, open_step, completed_step, granted, dialled}
use Rattle.world.specs.declared.events.TakenCommand.{TakenCommand}
use Rattle.world.specs.Parts.{Told, Writing}
use Rattle.world.specs.Worlds.{World, Change}
use Rattle.world.specs.Connections.{Next, is_conn}
use Rattle.world.specs.Clients.{writer_change, did, dialled_change, dialling, rest_in, is_empty, is_formed, ruled, command_bytes, takes_command, writer_step, own_writer, writer_hears, writer_up}
use Rattle.world_laws.proofs.FactTables.{when-each, and-right}
use Rattle.world_laws.proofs.WriterSteps.{Same, own-step-same, open-same, completed-same, hears-same, dialled-same, given-same, ruled-same}
use Rattle.world_laws.proofs.SessionAsides.{Aside}
use Rattle.world_laws.specs.Stamping.{InPhase, Fits, known_heard, heard}
use Rattle.world_laws.proofs.StampMoves.{own-step-fits, open-fits, completed-fits, hears-fits, dialled-fits, given-fits, ruled-fits}

-- one writer after another: the same block and committed stamp, and what fits the one fits the other
pub record Goes (x y : WriterRecord) : Type 0 where
  pub block : y.block ≡ x.block
  pub committed : y.committed ≡ x.committed
  pub fits : (f : ℕ → Option ℕ) (l : ℕ) (r : Option Stamp) → Fits f l r x → Fits f l r y

goes-same : (x y : WriterRecord) → Same x y → ((f : ℕ → Option ℕ) (l : ℕ) (r : Option Stamp) → Fits f l r x → Fits f l r y) → Goes x y
goes-same x y s k = record { block = s.block; committed = s.committed; fits = k }

pub goes-then : (x y z : WriterRecord) → Goes x y → Goes y z → Goes x z
goes-then x y z a b = record { block = b.block ∙ a.block; committed = b.committed ∙ a.committed; fits = λ f l r k. b.fits f l r (a.fits f l r k) }

pub stays : (x : WriterRecord) → Goes x x
stays x = record { block = refl; committed = refl; fits = λ f l r k. k }

-- what a change makes of its writer
pub record Moved (w : World) (k : Change) : Type 0 where
  pub goes : Goes (heard (w.writers k.writer_at)) (heard k.writer)

-- the writer of a block that goes on so
abbrev pub On : World → ℕ → WriterRecord → Type 0
On w b x = Goes (heard (w.writers b)) x

writer-moved : (w : World) (b : ℕ) (x : WriterRecord) → On w b x → Moved w (writer_change w b x)
writer-moved w b x h = record { goes = h }

did-moved : (w : World) (b : ℕ) (waits : Option Waiting) (a : Action) (x : WriterRecord) (bytes : List ℕ) → On w b x → IfSome (did w b waits a x bytes) (Moved w)
did-moved w b waits action.Wait x bytes h = tt
did-moved w b waits action.Took x bytes h = record { goes = h }
did-moved w b waits (action.Ask c) x bytes h = tt
did-moved w b waits (action.Dial to r) x bytes h = tt
did-moved w b waits (action.Send p) x bytes h = record { goes = h }
did-moved w b waits (action.Answered n a) x bytes h = record { goes = h }
did-moved w b waits action.Memory x bytes h = tt

dialled-moved : (w : World) (b : ℕ) (x : WriterRecord) (to : NodeId) (r : Op) (answered : Bool) → On w b x → Moved w (dialled_change w b x to r answered)
dialled-moved w b x to r true h =
    record { goes = goes-then (heard (w.writers b)) x (dialled x true) h (goes-same x (dialled x true) (dialled-same x true) (λ f l q k. dialled-fits f l q x true k)) }
dialled-moved w b x to r false h =
    record { goes = goes-then (heard (w.writers b)) x (dialled x false) h (goes-same x (dialled x false) (dialled-same x false) (λ f l q k. dialled-fits f l q x false k)) }

dialling-moved : (w : World) (b : ℕ) (x : WriterRecord) (a : Action) (answered : Bool) → On w b x → Moved w (dialling w b x a answered)
dialling-moved w b x action.Wait answered h = record { goes = h }
dialling-moved w b x action.Took answered h = record { goes = h }
dialling-moved w b x (action.Ask c) answered h = record { goes = h }
dialling-moved w b x (action.Dial to r) answered h = dialled-moved w b x to r _ h
dialling-moved w b x (action.Send p) answered h = record { goes = h }
dialling-moved w b x (action.Answered n a) answered h = record { goes = h }
dialling-moved w b x action.Memory answered h = record { goes = h }

open-goes : (x : WriterRecord) → x.phase ≡ phase.Opened → Goes x (open_step x).writer
open-goes x e =
    goes-same x (open_step x).writer (open-same x) (λ f l r k. open-fits f l r x (subst (λ (p : Phase). InPhase f l r x.committed x.waiting x.stream.unacked p) e k))

completed-goes : (x : WriterRecord) → x.phase ≡ phase.Completed → Goes x (completed_step x).writer
completed-goes x e =
    goes-same x (completed_step x).writer (completed-same x) (λ f l r k. completed-fits f l r x (subst (λ (p : Phase). InPhase f l r x.committed x.waiting x.stream.unacked p) e k))

rest-moved : (p : Phase) (w : World) (b : ℕ) (x : WriterRecord) (answered : Bool) → x.phase ≡ p → On w b x → IfSome (rest_in p w b x answered) (Moved w)
rest-moved phase.Closed w b x answered e h = record { goes = h }
rest-moved (phase.Wanted way) w b x answered e h = record { goes = h }
rest-moved (phase.Stamped way stamp) w b x answered e h = dialling-moved w b x (dial_step x way stamp).action answered h
rest-moved (phase.Requested way stamp) w b x answered e h = record { goes = h }
rest-moved (phase.Accepted way stamp) w b x answered e h = record { goes = h }
rest-moved phase.Opened w b x answered e h =
    did-moved w b x.waiting (open_step x).action (open_step x).writer [] (goes-then (heard (w.writers b)) x (open_step x).writer h (open-goes x e))
rest-moved (phase.Streaming sent) w b x answered e h = record { goes = h }
rest-moved phase.Closing w b x answered e h = record { goes = h }
rest-moved phase.Finished w b x answered e h = record { goes = h }
rest-moved phase.Completed w b x answered e h =
    did-moved w b x.waiting (completed_step x).action (completed_step x).writer [] (goes-then (heard (w.writers b)) x (completed_step x).writer h (completed-goes x e))
rest-moved (phase.Failed f) w b x answered e h = record { goes = h }

own-goes : (x : WriterRecord) → Goes x (own_step x).writer
own-goes x = goes-same x (own_step x).writer (own-step-same x) (λ f l r k. own-step-fits f l r x k)

pub given-goes : (x : WriterRecord) (t : TakenCommand) → Goes x (given (ruled x t.command t.rule) t.command)
given-goes x t =
    let y = ruled x t.command t.rule in
    goes-then x y (given y t.command) (goes-same x y (ruled-same x t.command t.rule) (λ f l r k. ruled-fits f l r x t.command t.rule k))
    (goes-same y (given y t.command) (given-same y t.command) (λ f l r k. given-fits f l r y t.command k))

command-moved : (w : World) (b : ℕ) (x : WriterRecord) (t : TakenCommand) → On w b x → IfSome (takes_command w b x t) (Moved w)
command-moved w b x t h =
    let y = ruled x t.command t.rule in
    let z = given y t.command in
    let s = own_step z in
    when-each (Moved w) (is_formed t.command t.rule && not (is_empty (given x t.command).queue)) _
    (λ _. when-each (Moved w) (is_empty s.writer.queue) _
    (λ _. did-moved w b y.waiting s.action s.writer (command_bytes y t.command)
    (goes-then (heard (w.writers b)) x s.writer h (goes-then x z s.writer (given-goes x t) (own-goes z)))))

-- the writer that has heard this
pub on-told : (w : World) (b : ℕ) (o : Option Told) → (w.writers b).told ≡ o → On w b (known_heard (w.writers b).known o)
on-told w b o e = subst (λ (t : Option Told). Goes (heard (w.writers b)) (known_heard (w.writers b).known t)) e (stays (heard (w.writers b)))

step-moved : (w : World) (b : ℕ) (told : Option Told) (takes : Option TakenCommand) (answered : Bool) → (w.writers b).told ≡ told
    → IfSome (writer_step w b (w.writers b).known told takes answered) (Moved w)
step-moved w b (Some told) None answered e =
    let x = granted (w.writers b).known told in rest-moved x.phase w b x answered refl (on-told w b (Some told) e)
step-moved w b (Some told) (Some t) answered e = tt
step-moved w b None None answered e =
    let x = (w.writers b).known in
    did-moved w b x.waiting (own_step x).action (own_step x).writer [] (goes-then (heard (w.writers b)) x (own_step x).writer (on-told w b None e) (own-goes x))
step-moved w b None (Some t) answered e = command-moved w b (w.writers b).known t (on-told w b None e)

pub own-writer-moved : (w : World) (b : ℕ) (takes : Option TakenCommand) (answered : Bool) → IfSome (own_writer w b takes answered) (Moved w)
own-writer-moved w b takes answered = step-moved w b (w.writers b).told takes answered refl

pub none-is : {A : Type 0} (o : Option A) → is_none o ≡ true → o ≡ None
none-is None e = refl
none-is (Some x) e = cc

pub writer-up-moved : (w : World) (b c : ℕ) (x : Next) → IfSome (writer_up w b c x) (Moved w)
writer-up-moved w b c x =
    let y = (w.writers b).known in
    when-each (Moved w) (is_conn (w.writers b).conn c && is_none (w.writers b).told) _
    (λ e. writer-moved w b (writer_hears y x)
    (goes-then (heard (w.writers b)) y (writer_hears y x)
    (on-told w b None (none-is (w.writers b).told (and-right (is_conn (w.writers b).conn c) (is_none (w.writers b).told) e)))
    (goes-same y (writer_hears y x) (hears-same y x) (λ f l r k. hears-fits f l r y x k))))

aside-moved : (w : World) (k : Change) → Aside w k → Moved w k
aside-moved w k a = record { goes = subst (λ (z : Writing). Goes (heard (w.writers k.writer_at)) (heard z)) (sym a.writer) (stays (heard (w.writers k.writer_at))) }

pub asides-moved : (w : World) (k : Option Change) → IfSome k (Aside w) → IfSome k (Moved w)
asides-moved w None a = tt
asides-moved w (Some k) a = aside-moved w k a
