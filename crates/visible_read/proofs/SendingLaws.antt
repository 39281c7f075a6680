-- A message is sent after room was taken for it.
use Rattle.std.proofs.Common.{◌≡◌, ℕ, List, Option, Some, None, IfSome, Result, ◌∙◌, arith}
use Rattle.hd_base.specs.declared.links.LinkOut as link_out
use Rattle.hd_base.specs.declared.numbers.Receipt.{Receipt}
use Rattle.link_pieces.specs.Pieces.{SendsNothing, SendsPiece, FailsToSend}
use Rattle.request_refusals.specs.declared.refusals.RequestRefusal.{RequestRefusal}
use Rattle.read_core.specs.Servings.{ServingState}
use Rattle.pipe_turns.specs.Acting.{sized_response}
use Rattle.visible_read.specs.declared.answering.Took.{Took}
use Rattle.visible_read.specs.declared.sending.Sending.{Sending}
use Rattle.visible_read.specs.declared.sending.Sending.TheVariants as sending
use Rattle.visible_read.specs.Sendings.{SendsText}
use Rattle.visible_read.specs.Answers.{answering, Tells, TellsIf}

-- a count that stood still twice
still_twice : {A : Type 0} (x : Option A) (m n k : ℕ) → IfSome x (λ _. n ≡ m) → IfSome x (λ _. k ≡ n) → IfSome x (λ _. k ≡ m)
still_twice None m n k a b = tt
still_twice (Some x) m n k a b = b ∙ a

module _ {O : Type 0} (o : link_out.Ghosts O) where
  quiet_then_sends : (piece : List ℕ) (a b c : O) → SendsNothing o a b → SendsPiece o piece b c → SendsPiece o piece a c
  quiet_then_sends piece a b c q s = record {
    sent = rw (← q.sent) s.sent;
    lost = rw (← q.sent, ← q.lost, ← q.kept.shut) s.lost;
    kept = record { flushed = s.kept.flushed ∙ q.kept.flushed; shut = s.kept.shut ∙ q.kept.shut; never_falls = omega (arith, q.kept.never_falls, s.kept.never_falls) };
  }

  quiet_then_fails : (a b c : O) → SendsNothing o a b → FailsToSend o b c → FailsToSend o a c
  quiet_then_fails a b c q f = record {
    sent = f.sent ∙ q.sent;
    lost = rw (← q.sent, ← q.lost) f.lost;
    kept = record { flushed = f.kept.flushed ∙ q.kept.flushed; shut = f.kept.shut ∙ q.kept.shut; never_falls = omega (arith, q.kept.never_falls, f.kept.never_falls) };
    rose = omega (arith, q.kept.never_falls, f.rose);
  }

  quiet_twice : (a b c : O) → SendsNothing o a b → SendsNothing o b c → SendsNothing o a c
  quiet_twice a b c q s = record {
    sent = s.sent ∙ q.sent;
    lost = s.lost ∙ q.lost;
    kept = record { flushed = s.kept.flushed ∙ q.kept.flushed; shut = s.kept.shut ∙ q.kept.shut; never_falls = omega (arith, q.kept.never_falls, s.kept.never_falls) };
    schedule = record {
      same = s.schedule.same ∙ q.schedule.same;
      still = still_twice (o.schedule a) (o.faults a) (o.faults b) (o.faults c) q.schedule.still (rw q.schedule.same at s.schedule.still);
    };
  }

  text_after : (text : Option (List ℕ)) (how : Sending) (a b c : O) → SendsNothing o a b → SendsText o text how b c → SendsText o text how a c
  text_after (Some text) sending.Sent a b c q s = quiet_then_sends text a b c q s
  text_after (Some text) sending.LinkFailed a b c q s = quiet_then_fails a b c q s
  text_after None sending.Sent a b c q s = quiet_twice a b c q s
  text_after None sending.LinkFailed a b c q s = absurd s

  tells_after : (x : Result ServingState RequestRefusal) (receipt : Option Receipt) (a b c : O) (took : Took) → SendsNothing o a b → Tells o x receipt b c took → Tells o x receipt a c took
  tells_after x receipt a b c took q t = record { sending = t.sending; sent = text_after (sized_response (answering x)) t.sending a b c q t.sent; follows = t.follows }

  pub tells_if_after : (x : Option (Result ServingState RequestRefusal)) (receipt : Option Receipt) (a b c : O) (took : Took) → SendsNothing o a b → TellsIf o x receipt b c took → TellsIf o x receipt a c took
  tells_if_after None receipt a b c took q t = (t.0, quiet_twice a b c q t.1)
  tells_if_after (Some x) receipt a b c took q t = tells_after x receipt a b c took q t
