-- A read's fault that was told is the world's again.
use Rattle.std.proofs.Common.{◌≡◌, ℕ, ℤ, false, List, Option, None, Ok, Err, refl, ap, ◌∙◌}
use Rattle.frame_feed.specs.declared.faults.FeedFault.{FeedFault}
use Rattle.read_core.specs.declared.reading.FromNode.TheVariants as from_node
use Rattle.read_core.specs.declared.reading.ReadFault.{ReadFault}
use Rattle.read_core.specs.declared.reading.ReadFault.TheVariants as core
use Rattle.read_core.specs.declared.reading.ReadPhase.{ReadPhase}
use Rattle.read_core.specs.declared.reading.ReadPhase.TheVariants as phase
use Rattle.read_core.specs.declared.reading.ReadTurn.TheVariants as turn
use Rattle.read_core.specs.Readings.{ReadingState, taken_at, take_from}
use Rattle.visible_read.specs.declared.talking.ReadFault as reading_fault
use Rattle.visible_read.specs.declared.talking.ReadFault.TheVariants as ended
use Rattle.visible_read.specs.Talking.{TellsFault, unreadable_as}
use Rattle.world_settling.specs.World.Connections.{Next, message, the_end}
use Rattle.world_settling.specs.World.Clients.{from_node_of}
use Rattle.world_settling.specs.WorldNets.Steps.{is_end}
use Rattle.reader_events.specs.Hearing.{failed_as, read_of}

-- the end of the connection is no message that can't be read
end-readable : (p : ReadPhase) (s : ReadingState) → (taken_at p s from_node.End).does ≡ turn.Fails core.Unreadable → ⊥
end-readable phase.Asked s h = cc
end-readable (phase.Receiving rule at seqno) s h = cc
end-readable phase.Over s h = cc

unreadable-back : (x : Next) (s : ReadingState) (refused : Option FeedFault) → (is_end x ≡ false → refused ≡ None) → (take_from s (from_node_of x)).does ≡ turn.Fails core.Unreadable
    → read_of (Err (ended.Malformed (unreadable_as refused))) ≡ Ok (Err core.Unreadable)
unreadable-back (message m) s refused none does = ap (λ (r : Option FeedFault). read_of (Err (ended.Malformed (unreadable_as r)))) (none refl)
unreadable-back the_end s refused none does = absurd (end-readable s.phase s does)

pub told-back : (x : Next) (s : ReadingState) (refused : Option FeedFault) (sums : ℤ) (why : ReadFault) (told : reading_fault.ReadFault) → (is_end x ≡ false → refused ≡ None)
    → (take_from s (from_node_of x)).does ≡ turn.Fails why → TellsFault refused sums why told → read_of (Err told) ≡ Ok (Err why)
told-back x s refused sums (core.Refused m) (ended.Refused text) none does t = ap (λ (l : List ℕ). failed_as (Ok (core.Refused l))) t
told-back x s refused sums (core.Refused m) (ended.BadSum chunk) none does t = absurd t
told-back x s refused sums (core.Refused m) (ended.Malformed e) none does t = absurd t
told-back x s refused sums (core.Refused m) (ended.OutOfPlace want got) none does t = absurd t
told-back x s refused sums (core.Refused m) (ended.Rule kind chunk) none does t = absurd t
told-back x s refused sums (core.Refused m) ended.Ended none does t = absurd t
told-back x s refused sums (core.Refused m) ended.LinkFailed none does t = absurd t
told-back x s refused sums (core.Refused m) ended.Memory none does t = absurd t
told-back x s refused sums (core.BadSum chunk) told none does t = ap (λ (z : reading_fault.ReadFault). read_of (Err z)) t
told-back x s refused sums core.SumCount told none does t = ap (λ (z : reading_fault.ReadFault). read_of (Err z)) t
told-back x s refused sums core.Unreadable told none does t = ap (λ (z : reading_fault.ReadFault). read_of (Err z)) t ∙ unreadable-back x s refused none does
told-back x s refused sums (core.OutOfPlace want got) told none does t = ap (λ (z : reading_fault.ReadFault). read_of (Err z)) t
told-back x s refused sums (core.Rule kind chunk) told none does t = ap (λ (z : reading_fault.ReadFault). read_of (Err z)) t
told-back x s refused sums core.Ended told none does t = ap (λ (z : reading_fault.ReadFault). read_of (Err z)) t
