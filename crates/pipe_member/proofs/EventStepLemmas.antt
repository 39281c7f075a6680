-- The events of a member as steps of its rules.
use Rattle.std.proofs.Common.{◌≡◌, ◌≢◌, Bool, true, false, ℕ, List, length, slice_get, Option, Some, None, IsSome, option_map, refl, sym, ap, ◌∙◌, subst}
use Rattle.hd_base.specs.declared.ends.Conn.{Conn}
use Rattle.hd_base.specs.declared.files.Files as files
use Rattle.hd_base.specs.declared.links.LinkIn as link_in
use Rattle.hd_base.specs.declared.links.LinkOut as link_out
use Rattle.replica_core.specs.declared.records.ReplicaRecord.{ReplicaRecord}
use Rattle.pipe_setup.specs.ReplicaModel.Rows.{FullReplica}
use Rattle.pipe_setup.specs.ReplicaFiles.BookState.{BookState}
use Rattle.pipe_setup.specs.ReplicaFiles.Books.{replica_of}
use Rattle.pipe_setup.specs.MemberCore.Shuts.{Shuts}
use Rattle.pipe_setup.specs.MemberCore.Shuts.TheVariants as shuts
use Rattle.pipe_setup.specs.MemberCore.FromBelow.{FromBelow}
use Rattle.pipe_setup.specs.MemberCore.Booked.TheVariants as booked
use Rattle.pipe_setup.specs.MemberCore.Turn.{Turn}
use Rattle.pipe_setup.specs.MemberCore.Members.{MemberState, hears, down_turn, up_turn, ready_turn_by}
use Rattle.pipe_setup.specs.MemberCore.Steps.{outcome_of, oldest_at}
use Rattle.pipe_turns.specs.Acting.{ShutsMirror}
use Rattle.pipe_member.specs.declared.member.Member.{Member}
use Rattle.pipe_member.specs.declared.stages.Looked.{Looked}
use Rattle.pipe_member.specs.declared.stages.Looked.TheVariants as looked
use Rattle.pipe_member.specs.declared.stages.Stage.{Stage}
use Rattle.pipe_member.specs.declared.stages.Stage.TheVariants as stage
use Rattle.pipe_member.specs.declared.stages.Took.{Took}
use Rattle.pipe_member.specs.declared.stages.Took.TheVariants as took
use Rattle.pipe_member.specs.declared.stepped.Stepped.{Stepped}
use Rattle.pipe_member.specs.declared.stepped.Stepped.TheVariants as stepped
use Rattle.pipe_member.specs.Above.{due_above}
use Rattle.pipe_member.specs.Below.{BelowState, LooksBelow}
use Rattle.pipe_member.specs.Steps.{stage_after, after_failure, finds_no_memory}
use Rattle.pipe_member.specs.Events.{TurnsIf, LooksUp, TakesFound, TakesDown, GoesDown, GoesDownBy, LooksDown, TakesBelow, TakesUp, GoesUp, GoesUpIf, IsReady}
use Rattle.pipe_member.specs.Stepping.{TellsMirror, IsStep, step_by}
use Rattle.pipe_member.specs.EventSteps.{HoldsMirror, StepsIf, DownIsStep, UpIsStep, UpIsStepIf, IsOpenEvent, DownsAreSteps, ReadiesAreSteps, UpsAreSteps}
use Rattle.pipe_member.proofs.SteppingLemmas.{turns_step}
use Rattle.pipe_member.proofs.RuledTurns.{Has, IsRuled, down_ruled, up_ruled, ready_ruled, settled_has}

-- ---- the end to the mirror

module _ {I O : Type 0} where
  held : (m : MemberState) (end : Option (Conn I O)) → HoldsMirror (stage.Open m) end → IsSome end → Has m.mirror
  held m None h there = cc
  held m (Some end) h there = h

  pub holds_open : (m : MemberState) (end : Option (Conn I O)) → (IsSome end → Has m.mirror) → HoldsMirror (stage.Open m) end
  holds_open m None h = tt
  holds_open m (Some end) h = h refl

  pub holds_after : (m : MemberState) (s : Shuts) (end : Option (Conn I O)) → (IsSome end → Has m.mirror) → HoldsMirror (stage_after m s) end
  holds_after m shuts.Nothing end h = holds_open m end h
  holds_after m shuts.Mirror end h = tt
  holds_after m shuts.Both end h = tt

module _ {I O : Type 0} (o : link_out.Ghosts O) where
  told_there : (text : Option (List ℕ)) (old new : Option (Conn I O)) → TellsMirror o text old new → IsSome new → IsSome old
  told_there text None None h there = there
  told_there text None (Some new) h there = absurd h
  told_there text (Some old) new h there = refl

  pub shut_there : (closes : Bool) (old new : Option (Conn I O)) → ShutsMirror o closes old new → IsSome new → IsSome old
  shut_there closes None None h there = there
  shut_there closes None (Some new) h there = absurd h
  shut_there closes (Some old) new h there = refl

looked_there : {I O : Type 0} (i : link_in.Ghosts I) (awaits : Bool) (next : Option FromBelow) (before after : BelowState) (old new : Option (Conn I O)) (found : Looked)
    → LooksBelow i awaits next before after old new found → IsSome new → IsSome old
looked_there i awaits None before after None None found h there = there
looked_there i awaits None before after None (Some new) found h there = absurd h
looked_there i awaits None before after (Some old) new found h there = refl
looked_there i awaits (Some x) before after old new found h there = subst IsSome h.1 there

-- ---- a step

member_has : (result : Stepped) (m : MemberState) (r : FullReplica) (t : Turn) → (Has m.mirror → Has t.mirror) → Has m.mirror → Has (step_by result m r t).member.mirror
member_has (stepped.File receipt) m r t keeps h = settled_has m t booked.Failed keeps h
member_has (stepped.Moved receipt) m r t keeps h = settled_has m t (outcome_of r t.call) keeps h
member_has stepped.NotReady m r t keeps h = settled_has m t (outcome_of r t.call) keeps h
member_has (stepped.Shut receipt) m r t keeps h = settled_has m t (outcome_of r t.call) keeps h
member_has (stepped.LinkFailed receipt) m r t keeps h = settled_has m t (outcome_of r t.call) keeps h
member_has stepped.Memory m r t keeps h = settled_has m t (outcome_of r t.call) keeps h

module _ {F I O : Type 0} (f : files.Ghosts F) (o : link_out.Ghosts O) (m : MemberState) (took : Took) (old new : Member I O) (book book' : BookState F) (result : Stepped) where
  step_holds : (t : Turn) → IsRuled m old.mirror t → (IsSome old.mirror → Has m.mirror) → IsStep o t (step_by result m (replica_of book) t) old new book book' → HoldsMirror new.stage new.mirror
  step_holds t is h x =
      let there : IsSome new.mirror → Has (step_by result m (replica_of book) t).member.mirror = (λ (k : IsSome new.mirror). member_has result m (replica_of book) t is.keeps (h (told_there o _ old.mirror new.mirror x.passed k))) in
      subst (λ (st : Stage). HoldsMirror st new.mirror) (sym x.member) (holds_after _ _ new.mirror there)

  -- what is due leads to its step
  leads : (due : Option Turn) → ((t : Turn) → due ≡ Some t → IsRuled m old.mirror t) → old.stage ≡ stage.Open m → (IsSome old.mirror → Has m.mirror) → result ≢ stepped.Memory
      → TurnsIf f o m due took old new book book' result → StepsIf o m due old new book book' result × HoldsMirror new.stage new.mirror
  leads None each is h never x = (x, subst (λ (y : Member I O). HoldsMirror y.stage y.mirror) (sym x.member_same) (subst (λ (st : Stage). HoldsMirror st old.mirror) (sym is) (holds_open m old.mirror h)))
  leads (Some t) each is h never x =
      let k = each t refl in
      let s : IsStep o t (step_by result m (replica_of book) t) old new book book' = turns_step f o m t took old new book book' result k.rules never x in
      (s, step_holds t k h s)

-- what is said of each turn is so of one that is due
mapped : {X : Type 0} (P : Turn → Type 0) (turn : X → Turn) (due : Option X) → ((x : X) → P (turn x)) → (t : Turn) → option_map turn due ≡ Some t → P t
mapped P turn None each t is = cc
mapped P turn (Some x) each t is = let e : turn x ≡ t = cc in subst P e (each x)

failed_memory : (found : Looked) (answer : Stepped) → answer ≡ stepped.Memory → after_failure found answer ≡ stepped.Memory
failed_memory looked.Known answer is = is
failed_memory looked.Failed answer is = rw is refl
failed_memory looked.Memory answer is = is

open_held : {F I O : Type 0} (m : MemberState) (old : Member I O) (book : BookState F) (result : Stepped) → IsOpenEvent m old book result → IsSome old.mirror → Has m.mirror
open_held m old book result asked = held m old.mirror (subst (λ (st : Stage). HoldsMirror st old.mirror) asked.open_by asked.holds)

module _ {F I O : Type 0} (f : files.Ghosts F) (i : link_in.Ghosts I) (o : link_out.Ghosts O) where
  -- DOWN

  down_found : (m : MemberState) (old seen new : Member I O) (book book' : BookState F) (result : Stepped) (found : Looked) → IsOpenEvent m old book result
      → LooksUp i o old seen found → TakesFound f o m found seen new book book' result → DownIsStep i o m old new book book' result × HoldsMirror new.stage new.mirror
  down_found m old seen new book book' result found asked looks takes =
      let h = open_held m old book result asked in
      let there : IsSome seen.mirror → Has m.mirror = (λ (k : IsSome seen.mirror). h (subst IsSome looks.mirror k)) in
      let pending = ap (λ (r : ReplicaRecord). length r.pending) asked.of_history in
      let due : Option Turn = option_map (down_turn m) (due_above m (length (replica_of book).known.pending) seen.above.next) in
      let turns : TurnsIf f o m due took.Above seen new book book' takes.answer =
      subst (λ (n : ℕ). TurnsIf f o m (option_map (down_turn m) (due_above m n seen.above.next)) took.Above seen new book book' takes.answer) pending takes.takes in
      let x = leads f o m took.Above seen new book book' takes.answer due (mapped (IsRuled m seen.mirror) (down_turn m) _ (λ x. down_ruled m seen.mirror x there))
      (looks.stage ∙ asked.open_by) there (λ e. asked.found_memory (takes.is ∙ failed_memory found takes.answer e)) turns in
      (record { seen = seen; found = found; answer = takes.answer; looks = looks; steps = x.0; is = takes.is }, x.1)

  down_seen : (m : MemberState) (old seen new : Member I O) (book book' : BookState F) (result : Stepped) (found : Looked) → IsOpenEvent m old book result
      → LooksUp i o old seen found → TakesDown f o m (finds_no_memory found) found seen new book book' result → DownIsStep i o m old new book book' result × HoldsMirror new.stage new.mirror
  down_seen m old seen new book book' result looked.Known asked looks takes = down_found m old seen new book book' result looked.Known asked looks takes
  down_seen m old seen new book book' result looked.Failed asked looks takes = down_found m old seen new book book' result looked.Failed asked looks takes
  down_seen m old seen new book book' result looked.Memory asked looks takes = absurd (asked.found_memory takes.answer)

  pub downs_step : DownsAreSteps F I O f i o
  downs_step m old new book book' result asked goes =
      let g : GoesDownBy f i o m old new book book' result = subst (λ (st : Stage). GoesDown f i o st old new book book' result) asked.open_by goes in
      down_seen m old g.seen new book book' result g.found asked g.looks g.takes

  -- UP

  up_found : (m : MemberState) (old seen new : Member I O) (book book' : BookState F) (result : Stepped) (found : Looked) → IsOpenEvent m old book result
      → LooksDown i o m old seen found → TakesBelow f o m seen new book book' result → UpIsStep i o m old new book book' result × HoldsMirror new.stage new.mirror
  up_found m old seen new book book' result found asked looks takes =
      let h = open_held m old book result asked in
      let there : IsSome seen.mirror → Has m.mirror = (λ (k : IsSome seen.mirror). h (looked_there i _ _ _ _ old.mirror looks.mirror found looks.looks (shut_there o _ looks.mirror seen.mirror looks.shuts k))) in
      let due : Option Turn = option_map (up_turn m (oldest_at (replica_of book))) seen.below.next in
      let turns : TurnsIf f o m due took.Below seen new book book' result =
      subst (λ (r : ReplicaRecord). TurnsIf f o m (option_map (up_turn m (slice_get r.pending 0)) seen.below.next) took.Below seen new book book' result) asked.of_history takes in
      let x = leads f o m took.Below seen new book book' result due (mapped (IsRuled m seen.mirror) (up_turn m (oldest_at (replica_of book))) _ (λ x. up_ruled m seen.mirror _ x))
      (looks.stage ∙ asked.open_by) there asked.found_memory turns in
      (record { seen = seen; found = found; looks = looks; steps = x.0 }, x.1)

  up_seen : (m : MemberState) (old seen new : Member I O) (book book' : BookState F) (result : Stepped) (found : Looked) → IsOpenEvent m old book result
      → LooksDown i o m old seen found → TakesUp f o m (finds_no_memory found) seen new book book' result → UpIsStep i o m old new book book' result × HoldsMirror new.stage new.mirror
  up_seen m old seen new book book' result looked.Known asked looks takes = up_found m old seen new book book' result looked.Known asked looks takes
  up_seen m old seen new book book' result looked.Failed asked looks takes = up_found m old seen new book book' result looked.Failed asked looks takes
  up_seen m old seen new book book' result looked.Memory asked looks takes = absurd (asked.found_memory takes.answer)

  up_if : (heard : Bool) (m : MemberState) (old new : Member I O) (book book' : BookState F) (result : Stepped) → IsOpenEvent m old book result
      → GoesUpIf f i o m heard old new book book' result → UpIsStepIf i o heard m old new book book' result × HoldsMirror new.stage new.mirror
  up_if true m old new book book' result asked g = up_seen m old g.seen new book book' result g.found asked g.looks g.takes
  up_if false m old new book book' result asked g = (g, subst (λ (y : Member I O). HoldsMirror y.stage y.mirror) (sym g.member_same) asked.holds)

  pub ups_step : UpsAreSteps F I O f i o
  ups_step m old new book book' result asked goes =
      up_if (hears m) m old new book book' result asked (subst (λ (st : Stage). GoesUp f i o st old new book book' result) asked.open_by goes)

module _ {F I O : Type 0} (f : files.Ghosts F) (o : link_out.Ghosts O) where
  -- READY

  pub readies_step : ReadiesAreSteps F I O f o
  readies_step m old new book book' result asked goes =
      let g : TurnsIf f o m (ready_turn_by m book.replica) took.Nothing old new book book' result = subst (λ (st : Stage). IsReady f o st old new book book' result) asked.open_by goes in
      leads f o m took.Nothing old new book book' result (ready_turn_by m (replica_of book).known) (ready_ruled m old.mirror (replica_of book).known) asked.open_by (open_held m old book result asked) asked.found_memory
      (subst (λ (r : ReplicaRecord). TurnsIf f o m (ready_turn_by m r) took.Nothing old new book book' result) asked.of_history g)
