-- What a writer's moves make of it, from one that was given nothing.
use Rattle.std.proofs.Common.{◌≡◌, ℕ, Bool, true, false, ◌≤◌, List, [], ◌∷◌, ◌++◌, length, Option, Result, Ok, Err, refl, sym, ◌∙◌, ap, arith}
use Rattle.std.specs.Prelude.{◌==◌, ◌&&◌, not, nat_le, if◌then◌else◌}
use Rattle.std.proofs.lemmas.Bool.{false≢true}
use Rattle.std.proofs.lemmas.Bool.Decides.{nat_tests}
use Rattle.hd_base.specs.SumRules.{Rule, IsChunkSize}
use Rattle.hd_base.specs.declared.numbers.NodeId.{NodeId}
use Rattle.hd_base.specs.declared.sum_rule.TheConstants.{MIN_CHUNK_SIZE, MAX_CHUNK_SIZE}
use Rattle.ack_codec.specs.declared.acks.Ack.{Ack}
use Rattle.ack_codec.specs.declared.responses.Response.{Response}
use Rattle.name_core.specs.declared.calls.OfficeAnswer.{OfficeAnswer}
use Rattle.name_core.specs.declared.faults.OfficeFault.{OfficeFault}
use Rattle.writer_core.specs.declared.commands.Command.{Command}
use Rattle.writer_core.specs.declared.commands.Command.TheVariants as command
use Rattle.writer_core.specs.declared.commands.CommandFault.{CommandFault}
use Rattle.writer_core.specs.declared.commands.CommandFault.TheVariants as fault
use Rattle.writer_core.specs.declared.intake.Intake.{Intake}
use Rattle.writer_core.specs.declared.intake.Stand.{Stand}
use Rattle.writer_core.specs.declared.intake.Stand.TheVariants as stand
use Rattle.writer_core.specs.declared.records.WriterRecord.{WriterRecord}
use Rattle.writer_core.specs.Commands.{is_unmade, is_open, fits, stand_after, is_too_much, intake_after, admitted}
use Rattle.writer_core.specs.Laws.{Move, Gives, Steps, Grants, Dials, Answers, Acks, Ends, after_move, after_moves}
use Rattle.writer_core.specs.Transitions.{fresh, given, given_as, own_step, granted, dialled, setup_answered, acked, ended}
use Rattle.world.specs.Connections.{Next, message, the_end}
use Rattle.world.specs.Parts.{request, packet, ack, response, read_status, recovery_answer}
use Rattle.world.specs.Clients.{are_members, is_empty, is_formed, ruled, named_member, writer_hears}
use Rattle.world_laws.proofs.FactTables.{and-left, and-right}
use Rattle.world_writers.specs.Moving.{IsFresh, IsMoved, Makes}
use Rattle.world_writers.proofs.Intakes.{own-step-keeps, granted-keeps, dialled-keeps, setup-keeps, acked-keeps, ended-keeps}

abbrev New : ℕ → Rule → WriterRecord
New b r = fresh (record { 0 = b }) r

after-more : (x : WriterRecord) (ms : List Move) (m : Move) → after_moves x (ms ++ m ∷ []) ≡ after_move (after_moves x ms) m
after-more x [] m = refl
after-more x (n ∷ ms) m = after-more (after_move x n) ms m

moved-more : (b : ℕ) (x : WriterRecord) (m : Move) → IsMoved b x → IsMoved b (after_move x m)
moved-more b x m h = record {
  rule = h.rule;
  chunk = h.chunk;
  moves = h.moves ++ m ∷ [];
  is = ap (λ (y : WriterRecord). after_move y m) h.is ∙ sym (after-more (New b h.rule) h.moves m);
}

-- a move by which no command is given
makes-more : (b : ℕ) (x : WriterRecord) (m : Move) → (after_move x m).intake ≡ x.intake → ((r : Rule) → after_move (New b r) m ≡ New b r) → Makes b x → Makes b (after_move x m)
makes-more b x m keeps same h = record { moved = moved-more b x m h.moved; unmade = λ u. new (h.unmade (sym (ap (λ (i : Intake). i.stand) keeps) ∙ u)) }
  where
    new : IsFresh b x → IsFresh b (after_move x m)
    new f = record { rule = f.rule; is = ap (λ (y : WriterRecord). after_move y m) f.is ∙ same f.rule }

new-steps : (b : ℕ) (r : Rule) → (own_step (New b r)).writer ≡ New b r
unfolding own_step
new-steps b r = refl

pub makes-steps : (b : ℕ) (x : WriterRecord) → Makes b x → Makes b (own_step x).writer
makes-steps b x h = makes-more b x Steps (own-step-keeps x) (new-steps b) h

new-granted : (b : ℕ) (a : Result OfficeAnswer OfficeFault) (r : Rule) → granted (New b r) a ≡ New b r
unfolding granted
new-granted b (Ok a) r = refl
new-granted b (Err e) r = refl

pub makes-granted : (b : ℕ) (x : WriterRecord) (a : Result OfficeAnswer OfficeFault) → Makes b x → Makes b (granted x a)
makes-granted b x a h = makes-more b x (Grants a) (granted-keeps x a) (new-granted b a) h

new-dialled : (b : ℕ) (answered : Bool) (r : Rule) → dialled (New b r) answered ≡ New b r
unfolding dialled
new-dialled b answered r = refl

pub makes-dialled : (b : ℕ) (x : WriterRecord) (answered : Bool) → Makes b x → Makes b (dialled x answered)
makes-dialled b x answered h = makes-more b x (Dials answered) (dialled-keeps x answered) (new-dialled b answered) h

new-answered : (b : ℕ) (a : Response) (bad : Option NodeId) (r : Rule) → setup_answered (New b r) a bad ≡ New b r
unfolding setup_answered
new-answered b a bad r = refl

new-acked : (b : ℕ) (a : Ack) (r : Rule) → acked (New b r) a ≡ New b r
unfolding acked
new-acked b a r = refl

new-ended : (b : ℕ) (r : Rule) → ended (New b r) ≡ New b r
unfolding ended
new-ended b r = refl

makes-ended : (b : ℕ) (x : WriterRecord) → Makes b x → Makes b (ended x)
makes-ended b x h = makes-more b x Ends (ended-keeps x) (new-ended b) h

pub makes-hears : (b : ℕ) (x : WriterRecord) (n : Next) → Makes b x → Makes b (writer_hears x n)
makes-hears b x (message (response a)) h =
    let bad = named_member x.members a.first_bad in makes-more b x (Answers a bad) (setup-keeps x a bad) (new-answered b a bad) h
makes-hears b x (message (ack a)) h = makes-more b x (Acks a) (acked-keeps x a) (new-acked b a) h
makes-hears b x (message (request o)) h = makes-ended b x h
makes-hears b x (message (packet p)) h = makes-ended b x h
makes-hears b x (message (read_status s)) h = makes-ended b x h
makes-hears b x (message (recovery_answer a)) h = makes-ended b x h
makes-hears b x the_end h = makes-ended b x h

-- COMMANDS

-- what is admitted, and how
record Admits (x : WriterRecord) (c : Command) : Type 0 where
  pub intake : Intake
  pub is : admitted x.intake c ≡ Ok intake
  pub stand_is : intake.stand ≡ stand_after x.intake.stand c
  pub fits_so : fits x.intake.stand c ≡ true

admitted-is : (i j : Intake) (c : Command) → admitted i c ≡ Ok j → (j ≡ intake_after i c) × (fits i.stand c ≡ true)
unfolding admitted
admitted-is i j c = go (is_too_much i c) (fits i.stand c) refl
  where
    go : (a b : Bool) → fits i.stand c ≡ b → (if a then Err fault.TooMuch else if b then Ok (intake_after i c) else Err fault.Unfit) ≡ Ok j → (j ≡ intake_after i c) × (fits i.stand c ≡ true)
    go true b q e = absurd (cc)
    go false true q e = (cc, q)
    go false false q e = absurd (cc)

admits-as : (x : WriterRecord) (c : Command) (r : Result Intake CommandFault) → admitted x.intake c ≡ r → x.queue ≡ [] → not (is_empty (given_as x c r).queue) ≡ true → Admits x c
admits-as x c (Ok i) q e t = let a = admitted-is x.intake i c q in record { intake = i; is = q; stand_is = ap (λ (y : Intake). y.stand) a.0; fits_so = a.1 }
admits-as x c (Err d) q e t = absurd (false≢true (sym (ap (λ (y : List Command). not (is_empty y)) e) ∙ t))

open-apart : (s : Stand) → is_open s ≡ true → s ≡ stand.Unmade → ⊥
open-apart s o e = false≢true (sym (ap is_open e) ∙ o)

-- once a command was given the block isn't unmade
never-unmade : (s : Stand) (c : Command) → fits s c ≡ true → stand_after s c ≡ stand.Unmade → ⊥
never-unmade s (command.Create members) f e = cc
never-unmade s (command.Append members) f e = cc
never-unmade s (command.Write bytes) f e = open-apart s f e
never-unmade s (command.Fill count) f e = open-apart s f e
never-unmade s command.Hflush f e = open-apart s f e
never-unmade s command.Hsync f e = open-apart s f e
never-unmade s command.Close f e = cc

unmade-is : (s : Stand) → is_unmade s ≡ true → s ≡ stand.Unmade
unmade-is stand.Unmade e = refl
unmade-is stand.Open e = absurd (false≢true e)
unmade-is stand.Closed e = absurd (false≢true e)

given-made : (y : WriterRecord) (c : Command) → Admits y c → (given y c).intake.stand ≡ stand.Unmade → ⊥
given-made y c a u = never-unmade y.intake.stand c a.fits_so (sym (ap (λ (r : Result Intake CommandFault). (given_as y c r).intake.stand) a.is ∙ a.stand_is) ∙ u)

-- a command that brings no rule
given-makes : (b : ℕ) (x : WriterRecord) (c : Command) → Admits x c → Makes b x → Makes b (given x c)
given-makes b x c a h = record { moved = moved-more b x (Gives c) h.moved; unmade = λ u. absurd (given-made x c a u) }

chunk-fits : (ms : List NodeId) (r : Rule) → (are_members ms && nat_le MIN_CHUNK_SIZE r.chunk && nat_le r.chunk MAX_CHUNK_SIZE) ≡ true → IsChunkSize r.chunk
chunk-fits ms r e = record { least = low (and-right (are_members ms) (nat_le MIN_CHUNK_SIZE r.chunk) (and-left (are_members ms && nat_le MIN_CHUNK_SIZE r.chunk) (nat_le r.chunk MAX_CHUNK_SIZE) e)); greatest = high (and-right (are_members ms && nat_le MIN_CHUNK_SIZE r.chunk) (nat_le r.chunk MAX_CHUNK_SIZE) e) }
  where
    low : nat_le MIN_CHUNK_SIZE r.chunk ≡ true → MIN_CHUNK_SIZE ≤ r.chunk
    low q = grind (arith, nat_tests, q)

    high : nat_le r.chunk MAX_CHUNK_SIZE ≡ true → r.chunk ≤ MAX_CHUNK_SIZE
    high q = grind (arith, nat_tests, q)

-- a create, which brings a rule to a block that isn't made yet
created-makes : (b : ℕ) (x : WriterRecord) (ms : List NodeId) (r : Rule) → IsChunkSize r.chunk → Admits x (command.Create ms) → Makes b x → Makes b (given (ruled x (command.Create ms) r) (command.Create ms))
created-makes b x ms r size a h = record { moved = moved; unmade = λ u. absurd (given-made (ruled x c r) c (record { intake = a.intake; is = a.is; stand_is = a.stand_is; fits_so = a.fits_so }) u) }
  where
    c : Command
    c = command.Create ms

    new : IsFresh b x
    new = h.unmade (unmade-is x.intake.stand (and-left (is_unmade x.intake.stand) (not (length ms == 0)) a.fits_so))

    moved : IsMoved b (given (ruled x c r) c)
    moved = record { rule = r; chunk = size; moves = Gives c ∷ []; is = ap (λ (y : WriterRecord). given (ruled y c r) c) new.is }

-- a block that isn't made yet has nothing acked
pub created-acks : (b : ℕ) (x : WriterRecord) (ms : List NodeId) → x.queue ≡ [] → not (is_empty (given x (command.Create ms)).queue) ≡ true → Makes b x → x.stream.acked ≡ 0
created-acks b x ms q t h =
    let c = command.Create ms in
    let a : Admits x c = admits-as x c (admitted x.intake c) refl q t in
    let new : IsFresh b x = h.unmade (unmade-is x.intake.stand (and-left (is_unmade x.intake.stand) (not (length ms == 0)) a.fits_so)) in
    ap (λ (y : WriterRecord). y.stream.acked) new.is

-- a command that a writer takes
pub taken-makes : (b : ℕ) (x : WriterRecord) (c : Command) (r : Rule) → x.queue ≡ [] → is_formed c r ≡ true → not (is_empty (given x c).queue) ≡ true → Makes b x → Makes b (own_step (given (ruled x c r) c)).writer
taken-makes b x (command.Create ms) r q f t h =
    let c = command.Create ms in
    makes-steps b (given (ruled x c r) c) (created-makes b x ms r (chunk-fits ms r f) (admits-as x c (admitted x.intake c) refl q t) h)
taken-makes b x (command.Append ms) r q f t h = let c = command.Append ms in makes-steps b (given x c) (given-makes b x c (admits-as x c (admitted x.intake c) refl q t) h)
taken-makes b x (command.Write bytes) r q f t h = let c = command.Write bytes in makes-steps b (given x c) (given-makes b x c (admits-as x c (admitted x.intake c) refl q t) h)
taken-makes b x (command.Fill count) r q f t h = let c = command.Fill count in makes-steps b (given x c) (given-makes b x c (admits-as x c (admitted x.intake c) refl q t) h)
taken-makes b x command.Hflush r q f t h = makes-steps b (given x command.Hflush) (given-makes b x command.Hflush (admits-as x command.Hflush (admitted x.intake command.Hflush) refl q t) h)
taken-makes b x command.Hsync r q f t h = makes-steps b (given x command.Hsync) (given-makes b x command.Hsync (admits-as x command.Hsync (admitted x.intake command.Hsync) refl q t) h)
taken-makes b x command.Close r q f t h = makes-steps b (given x command.Close) (given-makes b x command.Close (admits-as x command.Close (admitted x.intake command.Close) refl q t) h)
