-- A reader's own step.
use Rattle.std.proofs.Common.{◌≡◌, ℕ, zero, suc, ◌<◌, ◌≤◌, ◌+◌, Bool, true, false, [], ◌∷◌, slice_get, Option, Some, None, IfSome, refl, ap, arith}
use Rattle.std.specs.Prelude.{is_some, ◌&&◌}
use Rattle.std.proofs.lemmas.Bool.{false≢true}
use Rattle.std.proofs.lemmas.Option.{none-some, same_Some}
use Rattle.op_headers.specs.declared.ops.ReadOp.{ReadOp}
use Rattle.op_headers.specs.declared.ops.Op.TheVariants as op
use Rattle.world_texts.specs.WorldLaws.Placing.{IsUndialled}
use Rattle.world_texts.proofs.WorldLaws.PlacedLaws.{all-placed}
use Rattle.world.specs.declared.events.Event.{Event}
use Rattle.world.specs.declared.events.Event.TheVariants as event
use Rattle.world.specs.declared.events.OwnStep.TheVariants as own
use Rattle.world.specs.Parts.{Reader, no_reader, reads, has_read}
use Rattle.world.specs.Worlds.{World, Dial, apply, start}
use Rattle.world.specs.Clients.{reader_dials, own_reader_as, own_reader}
use Rattle.world.specs.Events.{changed, after_event, outcome, happens, run}
use Rattle.world_settling.specs.Traffic.{traffic, down_weight, request_weight}
use Rattle.world_settling.specs.Leading.{read_weight, ReadersLower}
use Rattle.world_settling.proofs.ManyDials.{dials-weigh}
use Rattle.world_settling.proofs.Outer.{quiet-keeps, named-keeps}
use Rattle.world_settling.proofs.WriterHears.{changed-each}

-- less than this is to be delivered
abbrev pub IsBelow : ℕ → World → Type 0
IsBelow n v = traffic v < n

pub after-below : (e : Event) (n : ℕ) (w : World) (o : Option World) → IfSome o (IsBelow n) → is_some o ≡ true → IsBelow n (after_event w e o)
after-below e n w None h s = absurd (false≢true s)
after-below e n w (Some v) h s = omega (arith, named-keeps v e, h)

-- the one dial of a list
only-dial : (d e : Dial) (i : ℕ) → slice_get (d ∷ []) i ≡ Some e → d ≡ e
only-dial d e zero is = same_Some d e is
only-dial d e (suc i) is = absurd (none-some e is)

dials-below : (w : World) (i n : ℕ) (r : ReadOp) (answered : Bool) → ((c : ℕ) → w.next_conn ≤ c → IsUndialled w c) → IsBelow (traffic w + read_weight r) (apply w (reader_dials w i n r answered))
dials-below w i n r true new =
    let weighs : (j : ℕ) (d : Dial) → slice_get (reader_dials w i n r true).dials j ≡ Some d → (h : ℕ) → down_weight h d.request ≤ request_weight (op.Read r) =
    λ j d e h. let same = ap (λ (x : Dial). down_weight h x.request) (only-dial _ d j e) in omega (arith, same) in
    omega (arith, dials-weigh w (reader_dials w i n r true) (request_weight (op.Read r)) (record { downs = λ d. refl; ups = λ d. refl; lower = refl; replica = refl; new = new; weighs = weighs }))
dials-below w i n r false new =
    omega (arith, quiet-keeps w (reader_dials w i n r false) (record { dials = refl; downs = λ d. refl; ups = λ d. refl; lower = refl; replica = refl }))

own-below : (x : Reader) (w : World) (i n : ℕ) (r : ReadOp) (answered : Bool) → ((c : ℕ) → w.next_conn ≤ c → IsUndialled w c)
    → IfSome (own_reader_as x w i n r answered) (λ k. IsBelow (traffic w + read_weight r) (apply w k))
own-below no_reader w i n r answered new = dials-below w i n r (answered && w.running n) new
own-below (reads c s) w i n r answered new = tt
own-below (has_read b) w i n r answered new = tt

pub readers-lower : ReadersLower
unfolding happens outcome
readers-lower nodes events i n r answered enabled =
    let w : World = run (start nodes) events in
    after-below (event.Own (own.Reader i n r answered)) (traffic w + read_weight r) w (changed w (own_reader w i n.0 r answered))
    (changed-each (IsBelow (traffic w + read_weight r)) w (own_reader w i n.0 r answered) (own-below (w.readers i) w i n.0 r answered (all-placed nodes events).undialled)) enabled
