-- Where nothing is due in a play, each writer is at rest: it has taken all its commands, and answered them.
use Rattle.std.proofs.Common.{◌≡◌, ℕ, zero, suc, ◌<◌, ◌≤◌, Bool, true, false, List, [], ◌∷◌, ◌++◌, slice_get, Option, Some, None, refl, sym, ◌∙◌, ap, subst, arith, ◌⊎◌, inl, inr}
use Rattle.std.specs.Prelude.{◌&&◌, ◌||◌, is_some, is_none}
use Rattle.std.proofs.lemmas.Bool.{false≢true}
use Rattle.std.proofs.lemmas.Option.{none-some, same_Some}
use Rattle.hd_base.specs.declared.numbers.Stamp.{Stamp}
use Rattle.packet_codec.specs.declared.packets.Packet.{Packet}
use Rattle.packet_stream.specs.Streams.{written_in}
use Rattle.writer_core.specs.declared.commands.Command.{Command}
use Rattle.writer_core.specs.Commands.{is_open}
use Rattle.writer_core.specs.declared.phases.Phase.{Phase}
use Rattle.writer_core.specs.declared.phases.Phase.TheVariants as phase
use Rattle.writer_core.specs.declared.phases.Setup.{Setup}
use Rattle.writer_core.specs.declared.phases.Setup.TheVariants as setup
use Rattle.writer_core.specs.declared.phases.Waiting.{Waiting}
use Rattle.writer_core.specs.declared.phases.Waiting.TheVariants as waiting
use Rattle.writer_core.specs.declared.records.WriterRecord.{WriterRecord}
use Rattle.writer_core.specs.Transitions.{own_step, step_in, has_step, is_action, is_connected, accepted_step}
use Rattle.world.specs.declared.events.TakenCommand.{TakenCommand}
use Rattle.world.specs.Parts.{Upper, by_writer}
use Rattle.world.specs.Worlds.{World}
use Rattle.world.specs.Safe.{Has}
use Rattle.world_laws.specs.Stamping.{known_heard, heard}
use Rattle.world_laws.proofs.AllCarried.{all-carried}
use Rattle.world_orders.specs.Orders.{is_requested}
use Rattle.world_closings.specs.WorldWriters.Piping.{Piped}
use Rattle.world_closings.proofs.WorldWriters.AllPiped.{all-piped}
use Rattle.play_model.specs.declared.dues.Due.{Due}
use Rattle.play_model.specs.declared.dues.Due.TheVariants as due
use Rattle.play_model.specs.States.{PlayState, world_of}
use Rattle.play_model.specs.Dues.{Queues, takes_due, own_due, is_due, when, when_due, upto, own_dues, reader_dues, primary_dues, conn_dues, dues}
use Rattle.play_completeness.specs.Streams.{as_pending}
use Rattle.play_completeness.specs.Links.{Awaits}
use Rattle.play_completeness.specs.Waiting.{IsWaiting, HasDue}
use Rattle.play_completeness.specs.Writers.{StreamWaits, RestsWell, StreamsWell, WellIn}
use Rattle.play_completeness.specs.Played.{Played}
use Rattle.play_completeness.proofs.Flowing.{no-map}
use Rattle.play_completeness.proofs.Awaiting.{awaited-due}
use Rattle.play_completeness.proofs.Resting.{streams-on}

-- LISTS OF WHAT IS DUE

left-none : {A : Type 0} (xs ys : List A) → xs ++ ys ≡ [] → xs ≡ []
left-none [] ys e = refl
left-none (x ∷ xs) ys e = absurd (cc)

right-none : {A : Type 0} (xs ys : List A) → xs ++ ys ≡ [] → ys ≡ []
right-none [] ys e = e
right-none (x ∷ xs) ys e = absurd (cc)

upto-one : (f : ℕ → List Due) (n c : ℕ) → (c < n) ⊎ (c ≡ n) → f n ≡ [] → (c < n → f c ≡ []) → f c ≡ []
upto-one f n c (inl less) last others = others less
upto-one f n c (inr same) last others = ap f same ∙ last

upto-none : (f : ℕ → List Due) (n c : ℕ) → c < n → upto f n ≡ [] → f c ≡ []
upto-none f zero c lt e = absurd (omega (arith, lt))
upto-none f (suc n) c lt e = upto-one f n c (at c n lt) (right-none (upto f n) (f n) e) (λ less. upto-none f n c less (left-none (upto f n) (f n) e))
  where
    at : (c n : ℕ) → c < suc n → (c < n) ⊎ (c ≡ n)
    at c n l = grind (arith, l)

when-none : (b : Bool) (d : Due) → when b d ≡ [] → b ≡ false
when-none true d e = absurd (cc)
when-none false d e = refl

own-none : (w : World) (queues : Queues) (blocks : List ℕ) (i b : ℕ) → slice_get blocks i ≡ Some b → own_dues w queues blocks ≡ [] → own_due (w.writers b) (queues b) ≡ false
own-none w queues [] i b found e = absurd (none-some b found)
own-none w queues (c ∷ blocks) zero b found e =
    subst (λ (n : ℕ). own_due (w.writers n) (queues n) ≡ false) (same_Some c b found)
    (when-none (is_due w queues (due.Own (record { 0 = c }))) (due.Own (record { 0 = c })) (left-none (when_due w queues (due.Own (record { 0 = c }))) (own_dues w queues blocks) e))
own-none w queues (c ∷ blocks) (suc i) b found e = own-none w queues blocks i b found (right-none (when_due w queues (due.Own (record { 0 = c }))) (own_dues w queues blocks) e)

neither : (a b : Bool) → (a || b) ≡ false → (a ≡ false) × (b ≡ false)
neither true b e = absurd (false≢true (sym e))
neither false b e = (refl, e)

no-queue : (queue : List TakenCommand) → is_some (slice_get queue 0) ≡ false → queue ≡ []
no-queue [] e = refl
no-queue (t ∷ queue) e = absurd (false≢true (sym e))

-- a writer's own step in its phase
steps-in : (x : WriterRecord) (p : Phase) → x.phase ≡ p → is_action (step_in x p).action ≡ true → has_step x ≡ true
unfolding own_step
steps-in x p e t = ap (λ (q : Phase). is_action (step_in x q).action) e ∙ t

accepted-steps : (x : WriterRecord) (s : Setup) (stamp : Stamp) → (s ≡ setup.Create) ⊎ (s ≡ setup.Append) → is_action (accepted_step x s stamp).action ≡ true
accepted-steps x s stamp (inl e) = subst (λ (t : Setup). is_action (accepted_step x t stamp).action ≡ true) (sym e) refl
accepted-steps x s stamp (inr e) = subst (λ (t : Setup). is_action (accepted_step x t stamp).action ≡ true) (sym e) refl

-- what a writer is at the end: its block is closed, or open with nothing that waits
pub data AtRest (w : World) (b : ℕ) (x : WriterRecord) : Type 0 where
  rests : x.phase ≡ phase.Closed → RestsWell w b x x.intake.stand → AtRest w b x
  streams : is_open x.intake.stand ≡ true → AtRest w b x

module _ (p : PlayState) (commands : ℕ → List Command) (h : Played p commands) (blocks : List ℕ) (none : dues blocks p ≡ []) where
  no-conn : (c : ℕ) → c < (world_of p).next_conn → conn_dues (world_of p) p.queues c ≡ []
  unfolding dues
  no-conn c lt =
      let w : World = world_of p in
      upto-none (conn_dues w p.queues) w.next_conn c lt
      (right-none (primary_dues w p.queues p.recoveries) (upto (conn_dues w p.queues) w.next_conn)
      (right-none (reader_dues w p.queues p.asks) (primary_dues w p.queues p.recoveries ++ upto (conn_dues w p.queues) w.next_conn)
      (right-none (own_dues w p.queues blocks) (reader_dues w p.queues p.asks ++ (primary_dues w p.queues p.recoveries ++ upto (conn_dues w p.queues) w.next_conn)) none)))

  no-own : (b : ℕ) → Has blocks b → own_due ((world_of p).writers b) (p.queues b) ≡ false
  unfolding dues
  no-own b has =
      let w : World = world_of p in
      own-none w p.queues blocks has.place b has.there (left-none (own_dues w p.queues blocks) (reader_dues w p.queues p.asks ++ (primary_dues w p.queues p.recoveries ++ upto (conn_dues w p.queues) w.next_conn)) none)

  no-due : HasDue (world_of p) p.queues → ⊥
  no-due d = d.some (no-conn d.conn d.known)

  -- a writer with a connection awaits nothing on it
  nothing-waits : (b : ℕ) → is_connected ((world_of p).writers b).known.phase ≡ true → IsWaiting (world_of p) (by_writer b) → ⊥
  nothing-waits b connected waits =
      let w : World = world_of p in
      let same : heard (w.writers b) ≡ (w.writers b).known = ap (known_heard (w.writers b).known) (h.quiet b) in
      let piped : Piped w.past b (heard (w.writers b)) (w.writers b).conn = all-piped p.nodes p.events b (ap (λ (x : WriterRecord). is_connected x.phase) same ∙ connected) in
      let c : ℕ = piped.at in
      no-due (awaited-due p.nodes p.events p.queues c h.plain h.quiet h.links piped.pipeline.known
      (subst (λ (u : Upper). Awaits w c u) (sym piped.pipeline.upper) piped.is)
      (subst (λ (u : Upper). IsWaiting w u) (sym piped.pipeline.upper) waits))

  no-packets : (b : ℕ) → is_connected ((world_of p).writers b).known.phase ≡ true → ((world_of p).writers b).known.stream.unacked ≡ []
  no-packets b connected = go ((world_of p).writers b).known.stream.unacked refl
    where
      go : (xs : List Packet) → ((world_of p).writers b).known.stream.unacked ≡ xs → ((world_of p).writers b).known.stream.unacked ≡ []
      go [] e = e
      go (q ∷ xs) e = absurd (nothing-waits b connected (inr (λ empty. no-cons (sym e ∙ no-map as_pending ((world_of p).writers b).known.stream.unacked empty))))
        where
          no-cons : q ∷ xs ≡ [] → ⊥
          no-cons z = cc

  sent-within : (b : ℕ) → ((world_of p).writers b).known.stream.sent ≤ written_in ((world_of p).writers b).known.stream
  sent-within b =
      let w : World = world_of p in
      let same : heard (w.writers b) ≡ (w.writers b).known = ap (known_heard (w.writers b).known) (h.quiet b) in
      subst (λ (x : WriterRecord). x.stream.sent ≤ written_in x.stream) same ((all-carried p.nodes p.events).writers b).sound.stream.sent

  -- what a writer without a step is
  pub record Ends (b : ℕ) : Type 0 where
    pub waits : ((world_of p).writers b).known.waiting ≡ None
    pub rest : AtRest (world_of p) b ((world_of p).writers b).known

  no-step : (b : ℕ) (q : Phase) → ((world_of p).writers b).known.phase ≡ q → has_step ((world_of p).writers b).known ≡ false → is_action (step_in ((world_of p).writers b).known q).action ≡ true → Ends b
  no-step b q e idle acts = absurd (false≢true (sym idle ∙ steps-in ((world_of p).writers b).known q e acts))

  connects : (b : ℕ) (q : Phase) → ((world_of p).writers b).known.phase ≡ q → is_connected q ≡ true → is_connected ((world_of p).writers b).known.phase ≡ true
  connects b q e c = ap is_connected e ∙ c

  streaming : (b sent : ℕ) → ((world_of p).writers b).known.phase ≡ phase.Streaming sent → has_step ((world_of p).writers b).known ≡ false → StreamsWell (world_of p) b ((world_of p).writers b).known sent → (o : Option Waiting)
      → ((world_of p).writers b).known.waiting ≡ o → Ends b
  streaming b sent e idle well None at = record { waits = at; rest = streams (well.stand (λ q. none-some waiting.Close (sym at ∙ q))) }
  streaming b sent e idle well (Some y) at =
      let x : WriterRecord = ((world_of p).writers b).known in
      no-step b (phase.Streaming sent) e idle
      (streams-on x sent (no-packets b (connects b (phase.Streaming sent) e refl)) (h.writers b).stream (sent-within b) y at (subst (λ (z : Option Waiting). StreamWaits z (written_in x.stream)) at well.waits))

  requested-none : (b : ℕ) (s : Setup) (stamp : Stamp) → ((world_of p).writers b).known.phase ≡ phase.Requested s stamp → Ends b
  requested-none b s stamp e = absurd (nothing-waits b (connects b (phase.Requested s stamp) e refl) (inl (ap is_requested e)))

  by-phase : (b : ℕ) (q : Phase) → ((world_of p).writers b).known.phase ≡ q → WellIn (world_of p) b ((world_of p).writers b).known q → has_step ((world_of p).writers b).known ≡ false → Ends b
  by-phase b phase.Closed e well idle = record { waits = well.0; rest = rests e well.1 }
  by-phase b (phase.Wanted s) e well idle = no-step b (phase.Wanted s) e idle refl
  by-phase b (phase.Stamped s stamp) e well idle = absurd well
  by-phase b (phase.Requested s stamp) e well idle = requested-none b s stamp e
  by-phase b (phase.Accepted s stamp) e well idle = no-step b (phase.Accepted s stamp) e idle (accepted-steps ((world_of p).writers b).known s stamp well.opens)
  by-phase b phase.Opened e well idle = absurd well
  by-phase b (phase.Streaming sent) e well idle = streaming b sent e idle well ((world_of p).writers b).known.waiting refl
  by-phase b phase.Closing e well idle = absurd (well.some (no-packets b (connects b phase.Closing e refl)))
  by-phase b phase.Finished e well idle = no-step b phase.Finished e idle refl
  by-phase b phase.Completed e well idle = absurd well
  by-phase b (phase.Failed f) e well idle = absurd well

  pub settles : (b : ℕ) → Has blocks b → Ends b × (p.queues b ≡ [])
  settles b has =
      let w : World = world_of p in
      let x : WriterRecord = (w.writers b).known in
      let n = neither (has_step x) (takes_due (w.writers b) (p.queues b)) (no-own b has) in
      let ends : Ends b = by-phase b x.phase refl (h.writers b).phase_is n.0 in
      (ends, no-queue (p.queues b) (sym (ap (λ (o : Option Waiting). is_none o && is_some (slice_get (p.queues b) 0)) ends.waits) ∙ n.1))
