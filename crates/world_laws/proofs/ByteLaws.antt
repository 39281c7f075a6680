-- What follows for replicas, packets and lengths.
use Rattle.std.proofs.Common.{ℕ, ◌≤◌, List, length, Option, IfSome, refl, sym, subst}
use Rattle.hd_base.specs.declared.numbers.Stamp.{Stamp}
use Rattle.name_core.specs.declared.records.BlockRecord.{BlockRecord}
use Rattle.name_core.specs.Offices.{record_of}
use Rattle.world.specs.PacketStream.Carried.{IsPiece}
use Rattle.world.specs.ReplicaModel.Found.{IsFront}
use Rattle.world.specs.declared.events.Event.{Event}
use Rattle.world.specs.Parts.{packet}
use Rattle.world.specs.Worlds.{World, start}
use Rattle.world.specs.Safe.{written_under, Prefix}
use Rattle.world.specs.Events.{run}
use Rattle.world_laws.proofs.FactTables.{some-weaker}
use Rattle.world_laws.specs.Stamping.{Givens, none_given, given_in, heard, Entries, Recorded}
use Rattle.world_laws.proofs.StampRecording.{known-of}
use Rattle.world_laws.proofs.AllRecorded.{all-recorded}
use Rattle.world_laws.specs.Carrying.{new_stamp, Under, Holds, PacketSays, EntrySays}
use Rattle.world_laws.specs.Fronts.{AllHoldFronts, PacketsArePieces, LengthsAreWritten}
use Rattle.world_laws.proofs.ByteRows.{sets-once}
use Rattle.world_laws.proofs.AllCarried.{all-carried}

-- bytes under a stamp are a front of what was written under it
under-written : (g : Givens) (w : World) (b : ℕ) (t : Stamp) (v : List ℕ) → Recorded g w → Under g w.past b t v → IsFront v (written_under w t.0)
under-written g w b t v r u = subst (λ (s : ℕ). IsFront v (w.written s)) (sym (r.session b t.0 u.session u.given)) u.front

pub holds-fronts : AllHoldFronts
holds-fronts nodes events n b =
    let w = run (start nodes) events in
    let g = given_in none_given (start nodes) events in
    let r = all-recorded nodes events in
    let v = (w.replicas n b).bytes in
    some-weaker (Holds g w.past b v) (λ h. IsFront v (written_under w h.stamp.0)) (w.replicas n b).known.info (λ h x. under-written g w b h.stamp v r x.under) ((all-carried nodes events).replicas n b).info

pub prefix : (nodes : ℕ) (events : List Event) → Prefix (run (start nodes) events)
prefix nodes events = λ n b _. holds-fronts nodes events n b

pub packets-are-pieces : PacketsArePieces
packets-are-pieces nodes events c i f p first at =
    let w = run (start nodes) events in
    let g = given_in none_given (start nodes) events in
    let s : PacketSays g w.past c p = (all-carried nodes events).downs c i (packet p) at in
    let e = sets-once w.past c s.stamp (new_stamp f) s.sets (record { fields = f; first = first; is = refl }) in
    subst (λ (t : Stamp). IsPiece (written_under w t.0) p) e
    (subst (λ (n : ℕ). IsPiece (w.written n) p) (sym ((all-recorded nodes events).session s.block s.stamp.0 s.session s.given)) s.piece)

pub lengths-are-written : LengthsAreWritten
lengths-are-written nodes events b r is shut =
    let w = run (start nodes) events in
    let g = given_in none_given (start nodes) events in
    let i = all-recorded nodes events in
    let v : Entries (g b) (w.latest b) r (heard (w.writers b)) = known-of (g b) (w.latest b) (record_of w.office (record { 0 = b })) r (heard (w.writers b)) is (i.blocks b) in
    let e : EntrySays (g b) w.past (w.latest b) r = subst (λ (o : Option BlockRecord). IfSome o (EntrySays (g b) w.past (w.latest b))) is ((all-carried nodes events).entries b) in
    subst (λ (s : ℕ). r.length ≤ length (w.written s)) (sym (i.session b r.committed.0 v.base v.office.committed)) (e.length shut v.base v.office.committed)
