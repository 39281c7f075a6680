-- What each line keeps and all that is due keeps, a play keeps; and the events of plays are plain.
use Rattle.std.proofs.Common.{false, ◌≡◌, ℕ, Bool, zero, suc, true, List, [], ◌∷◌, ◌++◌, slice_get, Option, Some, None, IfSome, option_map, refl, sym, ◌∙◌, ap, subst}
use Rattle.std.proofs.lemmas.Option.{none-some}
use Rattle.std.specs.Prelude.{◌%◌, length}
use Rattle.hd_base.specs.SumRules.{Rule}
use Rattle.rand_pcg.specs.Pcg.{pcg32}
use Rattle.hd_base.specs.declared.numbers.NodeId.{NodeId}
use Rattle.script_lang.specs.declared.instructions.Instruction.{Instruction}
use Rattle.script_lang.specs.declared.instructions.Instruction.TheVariants as line
use Rattle.script_lang.specs.declared.instructions.ScriptLine.{ScriptLine}
use Rattle.script_lang.specs.declared.instructions.StepEvent.{StepEvent}
use Rattle.script_lang.specs.declared.instructions.StepEvent.TheVariants as step
use Rattle.writer_core.specs.declared.actions.Action.{Action}
use Rattle.writer_core.specs.declared.actions.Action.TheVariants as action
use Rattle.writer_core.specs.declared.commands.Command.{Command}
use Rattle.writer_core.specs.declared.commands.Command.TheVariants as command
use Rattle.world.specs.declared.events.Event.{Event}
use Rattle.world.specs.declared.events.TakenCommand.{TakenCommand}
use Rattle.world.specs.Safe.{Has}
use Rattle.world.specs.Worlds.{World}
use Rattle.world_laws.proofs.FactTables.{if-each}
use Rattle.play_model.specs.declared.asks.ReadAsk.{ReadAsk}
use Rattle.play_model.specs.declared.dues.Due.{Due}
use Rattle.play_model.specs.declared.dues.Due.TheVariants as due
use Rattle.play_model.specs.declared.recoveries.Recovery.{Recovery}
use Rattle.play_model.specs.States.{PlayState, world_of, opened, ordered, ruled, armed, asked, recovering}
use Rattle.play_model.specs.Asks.{ask_at}
use Rattle.play_model.specs.Recoveries.{recovery_at}
use Rattle.play_model.specs.Dues.{Queues, is_due, dues, own_events, action_of, due_events, after_due}
use Rattle.play_model.specs.Faults.{befalls}
use Rattle.play_model.specs.Draws.{drawn, happened, advanced, drawn_from, draw, draws}
use Rattle.play_scripts.specs.Failures.{is_failure, HaveNoFailures}
use Rattle.play_scripts.specs.Reads.{is_read}
use Rattle.play_model.specs.Lines.{stepped, step_due, pipeline_conn, cut_at, stop_at, start_at, PlaysLine, PlaysLines, PlaysFrom, Plays}
use Rattle.play_model.specs.Laws.{AskAmong, RecoveryAmong, IsListed}
use Rattle.play_model.proofs.ListedLemmas.{listed_due}
use Rattle.play_completeness.specs.Plain.{ArePlain, PlaysArePlain}
use Rattle.play_completeness.proofs.Unarmed.{befalls-due}

-- READERS AND PRIMARIES

-- where no line has asked to recover, no primary does
pub none-recovered : {A : Type 0} (rs : List Recovery) (r : Recovery) → rs ≡ [] → Has rs r → A
none-recovered rs r none has = absurd (none-some r (subst (λ (xs : List Recovery). slice_get xs has.place ≡ Some r) none has.there))

-- a reader's step is of one that a line has asked, and so is a primary's
abbrev pub Among : PlayState → Due → Type 0
Among p d = AskAmong p.asks d × RecoveryAmong p.recoveries d

mapped-asked : (p : PlayState) (f : ℕ → Due) (o : Option ℕ) → ((c : ℕ) → Among p (f c)) → IfSome (option_map f o) (Among p)
mapped-asked p f None h = tt
mapped-asked p f (Some c) h = h c

-- an event of a pipeline is no reader's and no primary's
pub step-asked : (p : PlayState) (w : World) (b : ℕ) (e : StepEvent) → IfSome (step_due w b e) (Among p)
step-asked p w b step.Writer = (tt, tt)
step-asked p w b (step.Down place) = mapped-asked p (λ c. due.Down (record { 0 = c })) (pipeline_conn w b place) (λ c. (tt, tt))
step-asked p w b (step.Ready place) = mapped-asked p (λ c. due.Ready (record { 0 = c })) (pipeline_conn w b place) (λ c. (tt, tt))
step-asked p w b (step.Up place) = mapped-asked p (λ c. due.Up (record { 0 = c })) (pipeline_conn w b place) (λ c. (tt, tt))

-- WHAT A PLAY KEEPS

module _ (Q : PlayState → Type 0) where
  pub record Keeps : Type 0 where
    pub advances : (p : PlayState) → Q p → Q (advanced p)
    pub orders : (p : PlayState) (b : ℕ) (c : Command) → Q p → Q (ordered p b c)
    pub rules : (p : PlayState) (b : ℕ) (r : Rule) → Q p → Q (ruled p b r)
    pub goes : (p : PlayState) (d : Due) → is_due (world_of p) p.queues d ≡ true → Among p d → Q p → Q (befalls p d)

  happened-keeps : Keeps → (blocks : List ℕ) (p : PlayState) (o : Option Due) → ((d : Due) → o ≡ Some d → IsListed blocks p d) → Q p → Q (happened p o)
  happened-keeps k blocks p None due q = q
  happened-keeps k blocks p (Some d) due q = k.goes p d (due d refl).is ((due d refl).asked, (due d refl).recovers) q

  draw-keeps : Keeps → (blocks : List ℕ) (p : PlayState) → Q p → Q (draw blocks p)
  draw-keeps k blocks p q = go (dues blocks p) refl
    where
      go : (ds : List Due) → dues blocks p ≡ ds → Q (drawn_from ds p)
      go [] e = q
      go (d ∷ ds) e =
          happened-keeps k blocks (advanced p) (drawn (d ∷ ds) (pcg32 p.generator).0)
          (λ x found.
          let z = listed_due blocks p ((pcg32 p.generator).0 % length (d ∷ ds)) x (ap (λ (xs : List Due). slice_get xs ((pcg32 p.generator).0 % length (d ∷ ds))) e ∙ found) in
          record { is = z.is; among = z.among; asked = z.asked; recovers = z.recovers })
          (k.advances p q)

  draws-keep : Keeps → (blocks : List ℕ) (n : ℕ) (p : PlayState) → Q p → Q (draws blocks n p)
  draws-keep k blocks zero p q = q
  draws-keep k blocks (suc n) p q = draws-keep k blocks n (draw blocks p) (draw-keeps k blocks p q)

  stepped-keeps : Keeps → (p : PlayState) (o : Option Due) → IfSome o (Among p) → Q p → Q (stepped p o)
  stepped-keeps k p None asked q = q
  stepped-keeps k p (Some d) asked q = if-each Q (is_due (world_of p) p.queues d) (befalls p d) p (λ e. k.goes p d e asked q) (λ _. q)

  -- What is kept by a cut, by a stop, by a start, and where a line asks to recover, or says that a write is to fail.
  pub record FailuresKeep : Type 0 where
    pub cuts : (p : PlayState) (c : Option ℕ) (down up : ℕ) → Q p → Q (cut_at p c down up)
    pub stops : (p : PlayState) (n : NodeId) → Q p → Q (stop_at p n)
    pub starts : (p : PlayState) (n : NodeId) → Q p → Q (start_at p n)
    pub recoveries : (p : PlayState) (r : Recovery) → Q p → Q (recovering p r)
    pub arms : (p : PlayState) (node nth : ℕ) → Q p → Q (armed p node nth)

  -- What is kept where a line asks to read.
  abbrev pub ReadsKeep : Type 0
  ReadsKeep = (p : PlayState) (ask : ReadAsk) → Q p → Q (asked p ask)

  -- What a line keeps, if it makes something fail or asks to read.
  pub record LineKeeps (i : Instruction) : Type 0 where
    pub fails : is_failure i ≡ true → FailuresKeep
    pub reads : is_read i ≡ true → ReadsKeep

  -- so does each line
  abbrev pub AllKeep : List ScriptLine → Type 0
  AllKeep [] = Unit {0}
  AllKeep (l ∷ lines) = LineKeeps l.instruction × AllKeep lines

  false-true : {A : Type 0} (x : Bool) → x ≡ false → x ≡ true → A
  false-true true e f = cc
  false-true false e f = cc

  -- no line makes anything fail
  pub sound-keep : ReadsKeep → (lines : List ScriptLine) → HaveNoFailures lines → AllKeep lines
  sound-keep r [] sound = tt
  sound-keep r (l ∷ lines) sound = (record { fails = λ e. false-true (is_failure l.instruction) sound.0 e; reads = λ _. r }, sound-keep r lines sound.1)

  pub any-keep : FailuresKeep → ReadsKeep → (lines : List ScriptLine) → AllKeep lines
  any-keep f r [] = tt
  any-keep f r (l ∷ lines) = (record { fails = λ _. f; reads = λ _. r }, any-keep f r lines)

  line-keeps : Keeps → (blocks : List ℕ) (number : ℕ) (i : Instruction) (p new : PlayState) → LineKeeps i → PlaysLine blocks number i p new → Q p → Q new
  line-keeps k blocks number (line.Settle) p new kept s q = subst Q s.drawn_so (draws-keep k blocks s.count p q)
  line-keeps k blocks number (line.Nodes count) p new kept s q = subst Q (sym s) q
  line-keeps k blocks number (line.Seed seed) p new kept s q = subst Q (sym s) q
  line-keeps k blocks number (line.Sums b r) p new kept s q = subst Q (sym s) (k.rules p b.0 r q)
  line-keeps k blocks number (line.Create b members) p new kept s q = subst Q (sym s) (k.orders p b.0 (command.Create members) q)
  line-keeps k blocks number (line.Append b members) p new kept s q = subst Q (sym s) (k.orders p b.0 (command.Append members) q)
  line-keeps k blocks number (line.Write b bytes) p new kept s q = subst Q (sym s) (k.orders p b.0 (command.Write bytes) q)
  line-keeps k blocks number (line.Fill b count) p new kept s q = subst Q (sym s) (k.orders p b.0 (command.Fill count) q)
  line-keeps k blocks number (line.Hflush b) p new kept s q = subst Q (sym s) (k.orders p b.0 command.Hflush q)
  line-keeps k blocks number (line.Hsync b) p new kept s q = subst Q (sym s) (k.orders p b.0 command.Hsync q)
  line-keeps k blocks number (line.Close b) p new kept s q = subst Q (sym s) (k.orders p b.0 command.Close q)
  line-keeps k blocks number (line.Read b n from count) p new kept s q = subst Q (sym s) (kept.reads refl p (ask_at (world_of p) number b n from count) q)
  line-keeps k blocks number (line.Recover b n members) p new kept s q = subst Q (sym s) ((kept.fails refl).recoveries p (recovery_at (world_of p) number b n members) q)
  line-keeps k blocks number (line.Cut b place down up) p new kept s q = subst Q (sym s) ((kept.fails refl).cuts p (pipeline_conn (world_of p) b.0 place) down up q)
  line-keeps k blocks number (line.Fault n nth) p new kept s q = subst Q (sym s) ((kept.fails refl).arms p n.0 nth q)
  line-keeps k blocks number (line.Stop n) p new kept s q = subst Q (sym s) ((kept.fails refl).stops p n q)
  line-keeps k blocks number (line.Start n) p new kept s q = subst Q (sym s) ((kept.fails refl).starts p n q)
  line-keeps k blocks number (line.Run count) p new kept s q = subst Q (sym s) (draws-keep k blocks count p q)
  line-keeps k blocks number (line.Step b e) p new kept s q = subst Q (sym s) (stepped-keeps k p (step_due (world_of p) b.0 e) (step-asked p (world_of p) b.0 e) q)
  line-keeps k blocks number (line.Expect n b state stamp written) p new kept s q = subst Q (sym s) q

  pub lines-keep : Keeps → (blocks : List ℕ) (lines : List ScriptLine) (p new : PlayState) → AllKeep lines → PlaysLines blocks lines p new → Q p → Q new
  lines-keep k blocks [] p new kept s q = subst Q s.drawn_so (draws-keep k blocks s.count p q)
  lines-keep k blocks (l ∷ lines) p new kept s q = lines-keep k blocks lines s.0 new kept.1 s.1.1 (line-keeps k blocks l.number l.instruction p s.0 kept.0 s.1.0 q)

  from-keeps : Keeps → ((nodes seed : ℕ) → Q (opened nodes seed)) → (first second : Instruction) (lines : List ScriptLine) (new : PlayState) → AllKeep lines → PlaysFrom first second lines new → Q new
  from-keeps k begins (line.Nodes count) (line.Seed seed) lines new kept s = lines-keep k _ lines _ new kept s (begins _ _)
  from-keeps k begins first second lines new kept s = absurd s

  -- What holds of an opened play, and is kept, holds at the end of each.
  pub play-keeps : Keeps → ((nodes seed : ℕ) → Q (opened nodes seed)) → (script : List ScriptLine) (new : PlayState) → AllKeep script → Plays script new → Q new
  play-keeps k begins (first ∷ (second ∷ lines)) new kept s = from-keeps k begins first.instruction second.instruction lines new kept.1.1 s
  play-keeps k begins [] new kept s = absurd s
  play-keeps k begins (first ∷ []) new kept s = absurd s

-- PLAIN EVENTS

pub plain-join : (events others : List Event) → ArePlain events → ArePlain others → ArePlain (events ++ others)
plain-join [] others p q = q
plain-join (e ∷ events) others p q = (p.0, plain-join events others p.1 q)

own-plain : (a : Action) (b : ℕ) (queue : List TakenCommand) → ArePlain (own_events a b queue)
own-plain action.Wait b queue = (refl, tt)
own-plain (action.Ask c) b queue = (refl, (refl, tt))
own-plain action.Took b queue = (refl, tt)
own-plain (action.Dial to r) b queue = (refl, tt)
own-plain (action.Send p) b queue = (refl, tt)
own-plain (action.Answered n a) b queue = (refl, tt)
own-plain action.Memory b queue = (refl, tt)

pub due-plain : (w : World) (queues : Queues) (d : Due) → RecoveryAmong [] d → ArePlain (due_events w queues d)
due-plain w queues (due.Own b) recovers = own-plain (action_of w b) b.0 (queues b.0)
due-plain w queues (due.Reader ask) recovers = (refl, tt)
due-plain w queues (due.Primary r) recovers = none-recovered [] r refl recovers
due-plain w queues (due.Down c) recovers = (refl, tt)
due-plain w queues (due.Ready c) recovers = (refl, tt)
due-plain w queues (due.Up c) recovers = (refl, tt)

-- the events are, no line has asked to recover, and no write is to fail
record Plain (p : PlayState) : Type 0 where
  recoveries : p.recoveries ≡ []
  unarmed : (n : ℕ) → p.faults n ≡ 0
  plain : ArePlain p.events

after-plain : (p : PlayState) (d : Due) → Among p d → Plain p → Plain (after_due p d)
unfolding after_due
after-plain p d asked h = record {
  recoveries = h.recoveries;
  unarmed = h.unarmed;
  plain = plain-join p.events (due_events (world_of p) p.queues d) h.plain
      (due-plain (world_of p) p.queues d (subst (λ (xs : List Recovery). RecoveryAmong xs d) h.recoveries asked.1));
}

befalls-plain : (p : PlayState) (d : Due) → Among p d → Plain p → Plain (befalls p d)
befalls-plain p d asked h = subst Plain (sym (befalls-due p d h.unarmed)) (after-plain p d asked h)

pub plays-plain : PlaysArePlain
plays-plain script end sound s =
    let h : Plain end = play-keeps Plain (record {
      advances = λ p h. record { recoveries = h.recoveries; unarmed = h.unarmed; plain = h.plain };
      orders = λ p b c h. record { recoveries = h.recoveries; unarmed = h.unarmed; plain = h.plain };
      rules = λ p b r h. record { recoveries = h.recoveries; unarmed = h.unarmed; plain = h.plain };
      goes = λ p d _ asked h. befalls-plain p d asked h;
    }) (λ nodes seed. record { recoveries = refl; unarmed = λ n. refl; plain = tt }) script end (sound-keep Plain (λ p ask h. record { recoveries = h.recoveries; unarmed = h.unarmed; plain = h.plain }) script sound) s in
    h.plain
