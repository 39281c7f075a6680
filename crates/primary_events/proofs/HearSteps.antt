-- What a primary finds on the connection to a member.
use Rattle.std.proofs.Common.{◌≡◌, true, false, Some, refl, ap}
use Rattle.hd_base.specs.Faults.{FaultsIncreased}
use Rattle.hd_base.specs.declared.links.LinkIn as link_in
use Rattle.block_recovery.specs.Hearing.{ends_with}
use Rattle.block_recovery.specs.FrameFeed.Kinds.{answers}
use Rattle.block_recovery.specs.FrameFeed.KindLaws.{answers_sound}
use Rattle.block_recovery.specs.LinkMessages.Next as nexts
use Rattle.block_recovery.specs.LinkMessages.Next.TheVariants as next
use Rattle.block_recovery.specs.LinkMessages.Incomings.{IncomingState, nothing_received, NextEnds}
use Rattle.op_headers.specs.Answers.{answer_text}
use Rattle.op_headers.specs.declared.answers.RecoveryAnswer.{RecoveryAnswer}
use Rattle.client_events.specs.PipeMember.Looked.TheVariants as looked
use Rattle.client_events.specs.PipeMember.Looks.{looked_of}
use Rattle.world.specs.Parts.{request, packet, ack, response, read_status, recovery_answer}
use Rattle.world.specs.Connections.{Next, message, the_end}
use Rattle.world_primaries.specs.WorldNets.Nets.{held_by, inbox_for}
use Rattle.world_primaries.specs.WorldNets.Steps.{is_end}
use Rattle.client_events.proofs.MemberEvents.TakeLaws.{message_came, end_came}
use Rattle.primary_events.specs.Hearing.{IsNextToPrimary}

-- what the link gives of what stands next
abbrev pub given_of : Next → nexts.Next RecoveryAnswer
given_of (message (recovery_answer a)) = next.Message a
given_of (message m) = next.Unreadable
given_of the_end = next.End

-- What stood next was heard, and this is left on the end.
pub record FindsIt {I : Type 0} (i : link_in.Ghosts I) (x : Next) (received : IncomingState) (half half' : I) (q : nexts.Next RecoveryAnswer) : Type 0 where
  pub is : q ≡ given_of x
  pub over : ends_with q ≡ is_end x
  pub shut : i.shut half' ≡ i.shut half
  pub holds : i.held half' ≡ Some (held_by (is_end x))
  pub none : is_end x ≡ false → received ≡ nothing_received

-- It was; or the link failed, and its count has risen; or memory ran out.
pub data Finds {I : Type 0} (i : link_in.Ghosts I) (x : Next) (received : IncomingState) (half half' : I) (q : nexts.Next RecoveryAnswer) : Type 0 where
  finds : FindsIt i x received half half' q → Finds i x received half half' q
  fails : FaultsIncreased (i.faults half) (i.faults half') → q ≡ next.Failed → Finds i x received half half' q
  wants : q ≡ next.Memory → Finds i x received half half' q

true_false : true ≡ false → ⊥
true_false h = cc

module _ {I : Type 0} (i : link_in.Ghosts I) where
  known_finds : (x : Next) (received : IncomingState) (half half' : I) (q : nexts.Next RecoveryAnswer) → IsNextToPrimary x → i.held half ≡ Some (inbox_for x) → NextEnds answers i nothing_received received half half' q → looked_of q ≡ looked.Known → FindsIt i x received half half' q
  known_finds (message (recovery_answer a)) received half half' q fits held ends known =
      let k = message_came answers i answers_sound a (answer_text a) received half half' q fits held ends known in
      record { is = k.is; over = ap ends_with k.is; shut = ends.shut; holds = k.holds; none = λ z. k.received }
  known_finds (message (request r)) received half half' q fits held ends known = absurd fits
  known_finds (message (packet r)) received half half' q fits held ends known = absurd fits
  known_finds (message (ack r)) received half half' q fits held ends known = absurd fits
  known_finds (message (response r)) received half half' q fits held ends known = absurd fits
  known_finds (message (read_status r)) received half half' q fits held ends known = absurd fits
  known_finds the_end received half half' q fits held ends known =
      let k = end_came answers i received half half' q held ends known in
      record { is = k.is; over = ap ends_with k.is; shut = ends.shut; holds = k.holds; none = λ z. absurd (true_false z) }

  -- What a primary finds that had received nothing.
  pub it_finds : (x : Next) (received : IncomingState) (half half' : I) (q : nexts.Next RecoveryAnswer) → IsNextToPrimary x → i.held half ≡ Some (inbox_for x) → NextEnds answers i nothing_received received half half' q → Finds i x received half half' q
  it_finds x received half half' next.Failed fits held ends = fails ends.comes.0 refl
  it_finds x received half half' next.Memory fits held ends = wants refl
  it_finds x received half half' (next.Message a) fits held ends = finds (known_finds x received half half' (next.Message a) fits held ends refl)
  it_finds x received half half' next.Unreadable fits held ends = finds (known_finds x received half half' next.Unreadable fits held ends refl)
  it_finds x received half half' next.End fits held ends = finds (known_finds x received half half' next.End fits held ends refl)
  it_finds x received half half' next.NotYet fits held ends = finds (known_finds x received half half' next.NotYet fits held ends refl)
