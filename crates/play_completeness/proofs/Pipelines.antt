-- Which connections are of pipelines.
use Rattle.std.proofs.Common.{◌≡◌, ℕ, ◌<◌, true, sym, ◌∙◌, ap, subst, refl}
use Rattle.world.specs.Parts.{Upper, by_writer, by_member, by_reader, by_primary, Dialled, FullMember, Lower, writes}
use Rattle.world.specs.Worlds.{World}
use Rattle.world_orders.specs.Orders.{pipeline, reading, recovering, purpose_of, IsBelow, IsMember, Ordered}
use Rattle.play_completeness.specs.Plain.{is_of_pipeline}
use Rattle.play_completeness.specs.Links.{Awaits, InPipeline}

-- one that was dialled before, and is of a pipeline since
pub piped-before : (w v : World) (c : ℕ) → c < w.next_conn → v.dialled c ≡ w.dialled c → InPipeline v c → InPipeline w c
piped-before w v c lc same p = record { known = lc; of = ap (λ (d : Dialled). is_of_pipeline d.upper) (sym same) ∙ p.of }

of-purpose : (u : Upper) → purpose_of u ≡ pipeline → is_of_pipeline u ≡ true
of-purpose (by_writer b) e = refl
of-purpose (by_member d) e = refl
of-purpose (by_reader i) e = absurd (clash e)
  where
    clash : reading ≡ pipeline → ⊥
    clash q = cc
of-purpose (by_primary i place) e = absurd (clash e)
  where
    clash : recovering ≡ pipeline → ⊥
    clash q = cc

-- one that a member writes
pub writing-in : (w : World) → Ordered w → (c : ℕ) (m : FullMember) → w.lowers c ≡ writes m → c < w.next_conn → InPipeline w c
writing-in w o c m is lc =
    let u : Upper = (w.dialled c).upper in
    let member : IsMember u (w.down_marks c).taken (w.ups c) m.state.mirror = subst (λ (l : Lower). IsBelow u (w.down_marks c).taken (w.ups c) l) is (o.below c) in
    record { known = lc; of = of-purpose u member.writes }

-- one that whoever dialled it awaits
pub awaiting-in : (w : World) (c : ℕ) → c < w.next_conn → Awaits w c (w.dialled c).upper → InPipeline w c
awaiting-in w c lc a = record { known = lc; of = go (w.dialled c).upper a }
  where
    go : (u : Upper) → Awaits w c u → is_of_pipeline u ≡ true
    go (by_writer b) x = refl
    go (by_member d) x = refl
    go (by_reader i) x = absurd x
    go (by_primary i place) x = absurd x

-- one that a writer or a member dialled
pub dialled-in : (w : World) (c : ℕ) (u : Upper) → (w.dialled c).upper ≡ u → is_of_pipeline u ≡ true → c < w.next_conn → InPipeline w c
dialled-in w c u upper piped lc = record { known = lc; of = ap is_of_pipeline upper ∙ piped }
