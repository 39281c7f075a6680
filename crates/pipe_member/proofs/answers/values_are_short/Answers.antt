-- By the numbers that each refusal keeps.
use Rattle.std.proofs.Common.{◌≡◌, ◌≤◌, ◌⊎◌, inl, inr, length, subst, sym, arith}
use Rattle.pipe_setup.specs.RequestRefusals.Texts.{spaced, values_text}
use Rattle.pipe_setup.specs.RequestRefusals.RequestRefusal.{RequestRefusal}
use Rattle.pipe_setup.specs.RequestRefusals.RequestRefusal.TheVariants as request
use Rattle.pipe_member.specs.Answering.{max_values}
use Rattle.pipe_member.proofs.AnswerSizes.{two_short}
use Rattle.pipe_member.proofs.answers.values_are_short.Goals as goal

-- a refusal that is known
known : (a b : RequestRefusal) → a ≡ b → length (values_text b) ≤ max_values → length (values_text a) ≤ max_values
known a b is h = subst (λ (r : RequestRefusal). length (values_text r) ≤ max_values) (sym is) h

pub returns-in-Core : goal.returns-in-Core
unfolding values_text
returns-in-Core c = known _ _ c.in-Core.is c.kept_are_short.ensures

pub returns-in-Stage : goal.returns-in-Stage
unfolding values_text
returns-in-Stage c = known _ _ c.in-Stage.is (omega (arith, c.number_is_short.ensures))

pub returns-in-Checksum : goal.returns-in-Checksum
unfolding values_text
returns-in-Checksum c = known _ _ c.in-Checksum.is (omega (arith, two_short (spaced c.in-Checksum.kind) (spaced c.in-Checksum.chunk) c.number_is_short-in-Checksum.ensures c.number_is_short-in-Checksum-2.ensures))

pub returns-in-TooMany : goal.returns-in-TooMany
unfolding values_text
returns-in-TooMany c = known _ _ c.in-TooMany.is (omega (arith, c.number_is_short-in-TooMany.ensures))

-- the refusals that keep no number
by_case : (r : RequestRefusal) → (r ≡ request.Pool) ⊎ ((r ≡ request.File) ⊎ (r ≡ request.Memory)) → length (values_text r) ≤ max_values
unfolding values_text
by_case r (inl is) = known _ _ is (omega arith)
by_case r (inr (inl is)) = known _ _ is (omega arith)
by_case r (inr (inr is)) = known _ _ is (omega arith)

pub returns-in-Pool : goal.returns-in-Pool
returns-in-Pool c = by_case c.args.refusal c.in-Pool.is
