-- An answer is told after room was taken for it.
use Rattle.std.proofs.Common.{◌≡◌, ℕ, List, Option, Some, None, IfSome, inl, inr, ◌∙◌, arith}
use Rattle.hd_base.specs.declared.links.LinkOut as link_out
use Rattle.link_pieces.specs.Pieces.{SendsNothing, SendsPiece, FailsToSend}
use Rattle.op_headers.specs.declared.answers.RecoveryAnswer.{RecoveryAnswer}
use Rattle.op_headers.specs.Answers.{answer_text}
use Rattle.block_recovery.specs.Telling.{Tells, SendsAnswer, answer_in}
use Rattle.block_recovery.specs.declared.telling.RecoveryTold.{RecoveryTold}
use Rattle.block_recovery.specs.declared.telling.RecoveryTold.TheVariants as told

-- a count that stood still twice
still_twice : {A : Type 0} (x : Option A) (m n k : ℕ) → IfSome x (λ _. n ≡ m) → IfSome x (λ _. k ≡ n) → IfSome x (λ _. k ≡ m)
still_twice None m n k a b = tt
still_twice (Some x) m n k a b = b ∙ a

module _ {O : Type 0} (o : link_out.Ghosts O) where
  quiet_then_sends : (piece : List ℕ) (a b c : O) → SendsNothing o a b → SendsPiece o piece b c → SendsPiece o piece a c
  quiet_then_sends piece a b c q s = record {
    sent = rw (← q.sent) s.sent;
    lost = rw (← q.sent, ← q.lost, ← q.kept.shut) s.lost;
    kept = record { flushed = s.kept.flushed ∙ q.kept.flushed; shut = s.kept.shut ∙ q.kept.shut; never_falls = omega (arith, q.kept.never_falls, s.kept.never_falls) };
  }

  quiet_then_fails : (a b c : O) → SendsNothing o a b → FailsToSend o b c → FailsToSend o a c
  quiet_then_fails a b c q f = record {
    sent = f.sent ∙ q.sent;
    lost = rw (← q.sent, ← q.lost) f.lost;
    kept = record { flushed = f.kept.flushed ∙ q.kept.flushed; shut = f.kept.shut ∙ q.kept.shut; never_falls = omega (arith, q.kept.never_falls, f.kept.never_falls) };
    rose = omega (arith, q.kept.never_falls, f.rose);
  }

  quiet_twice : (a b c : O) → SendsNothing o a b → SendsNothing o b c → SendsNothing o a c
  quiet_twice a b c q s = record {
    sent = s.sent ∙ q.sent;
    lost = s.lost ∙ q.lost;
    kept = record { flushed = s.kept.flushed ∙ q.kept.flushed; shut = s.kept.shut ∙ q.kept.shut; never_falls = omega (arith, q.kept.never_falls, s.kept.never_falls) };
    schedule = record {
      same = s.schedule.same ∙ q.schedule.same;
      still = still_twice (o.schedule a) (o.faults a) (o.faults b) (o.faults c) q.schedule.still (rw q.schedule.same at s.schedule.still);
    };
  }

  answers_after : (answer : Option RecoveryAnswer) (a b c : O) → SendsNothing o a b → SendsAnswer o answer b c → SendsAnswer o answer a c
  answers_after None a b c q t = t
  answers_after (Some x) a b c q (inl t) = inl (quiet_then_sends (answer_text x) a b c q t)
  answers_after (Some x) a b c q (inr t) = inr (t.0, quiet_twice a b c q t.1)

  pub tells_after : (result : RecoveryTold) (a b c : O) → SendsNothing o a b → Tells o result b c → Tells o result a c
  tells_after (told.Sent s) a b c q t = answers_after (answer_in s) a b c q t
  tells_after (told.LinkFailed s) a b c q t = (t.0, record { half = t.1.half; fails = quiet_then_fails a b t.1.half q t.1.fails; shuts = t.1.shuts })
  tells_after told.Memory a b c q t = quiet_twice a b c q t
