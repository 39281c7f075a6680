-- The session of a closed block's committed stamp, and how many bytes commands write.
use Rattle.std.proofs.Common.{◌≡◌, ℕ, zero, suc, ◌<◌, ◌≤◌, ◌+◌, true, false, List, [], ◌∷◌, ◌++◌, length, map, slice_get, Option, Some, IfSome, refl, sym, ◌∙◌, ap, subst, arith, length-append}
use Rattle.std.proofs.lemmas.Bool.{false≢true}
use Rattle.std.proofs.lemmas.Bool.Decides.{nat_tests}
use Rattle.std.proofs.lemmas.Option.{none-some, same_Some}
use Rattle.hd_base.specs.declared.numbers.BlockId.{BlockId}
use Rattle.hd_base.specs.declared.numbers.NodeId.{NodeId}
use Rattle.hd_base.specs.declared.roads.TheConstants.{MAX_NODES}
use Rattle.node_refs.specs.NodeRefs.{port_of, ref_of}
use Rattle.op_headers.specs.declared.nodes.NodeRef.{NodeRef}
use Rattle.name_core.specs.declared.records.BlockRecord.{BlockRecord}
use Rattle.name_core.specs.Offices.{record_of}
use Rattle.packet_stream.specs.Streams.{fill_bytes}
use Rattle.packet_stream.proofs.StreamLemmas.{fill_length}
use Rattle.writer_core.specs.declared.commands.Command.{Command}
use Rattle.writer_core.specs.declared.commands.Command.TheVariants as command
use Rattle.writer_core.specs.Commands.{command_length, queued_bytes}
use Rattle.world.specs.declared.events.Caller.TheVariants as caller
use Rattle.world.specs.declared.events.Event.{Event}
use Rattle.world.specs.declared.events.Event.TheVariants as event
use Rattle.world.specs.Nodes.{node_on}
use Rattle.world.specs.Worlds.{World, start}
use Rattle.world.specs.Events.{happens, run}
use Rattle.world_laws.specs.Stamping.{Givens, none_given, given_in, Recorded}
use Rattle.world_laws.proofs.AllRecorded.{all-recorded}
use Rattle.play_completeness.specs.WorldFinals.Finishing.{Ids, no_ids, ids_by, ids_in, ClosedLength, by_recovery, by_writer, EntryEnds}
use Rattle.play_completeness.proofs.WorldFinals.AllFinal.{all-final}
use Rattle.play_model.specs.Laws.{IsQuiet}
use Rattle.play_completeness.specs.Complete.{bytes_with, bytes_after}
use Rattle.play_completeness.specs.Plain.{is_plain, ArePlain}
use Rattle.completing_writers.proofs.Known.{entries}

-- NO RECOVERY

-- in plain events no recovery is given an id
no-id : (f : Ids) (w : World) (e : Event) → is_plain e ≡ true → ids_by f w e ≡ f
no-id f w (event.Own s) h = refl
no-id f w (event.Office (caller.Writer b)) h = refl
no-id f w (event.Office (caller.Primary i b)) h = absurd (false≢true h)
no-id f w (event.Down c answered) h = refl
no-id f w (event.Ready c) h = refl
no-id f w (event.Up c) h = refl
no-id f w (event.Lost c way more) h = refl
no-id f w (event.Fault d) h = refl
no-id f w (event.Stop n) h = refl
no-id f w (event.Restart n list) h = refl

no-ids : (f : Ids) (w : World) (events : List Event) → ArePlain events → ids_in f w events ≡ f
no-ids f w [] h = refl
no-ids f w (e ∷ events) h = ap (λ (g : Ids). ids_in g (happens w e) events) (no-id f w e h.0) ∙ no-ids f (happens w e) events h.1

module _ (nodes : ℕ) (events : List Event) (plain : ArePlain events) (quiet : IsQuiet (run (start nodes) events)) (b : ℕ) where
  abbrev w : World
  w = run (start nodes) events

  abbrev g : Givens
  g = given_in none_given (start nodes) events

  -- The committed stamp of a closed block is of its latest session.
  pub closed-session : (r : BlockRecord) → record_of w.office (record { 0 = b }) ≡ Some r → r.is_open ≡ false → w.session_of r.committed.0 ≡ w.latest b
  closed-session r is shut = go (subst (λ (o : Option BlockRecord). IfSome o (EntryEnds (ids_in no_ids (start nodes) events) g w b)) is ((all-final nodes events).entries b)).closed
    where
      recorded : Recorded g w
      recorded = all-recorded nodes events

      go : (r.is_open ≡ false → ClosedLength (ids_in no_ids (start nodes) events) g w b r.committed.0 r.length) → w.session_of r.committed.0 ≡ w.latest b
      go f = by (f shut)
        where
          by : ClosedLength (ids_in no_ids (start nodes) events) g w b r.committed.0 r.length → w.session_of r.committed.0 ≡ w.latest b
          by (by_recovery id c d u) = absurd (false≢true (ap (λ (z : Ids). z r.committed.0) (sym (no-ids no_ids (start nodes) events plain)) ∙ id))
          by (by_writer k) =
              let o = (entries nodes events quiet b r is).office in
              let low : w.latest b ≤ r.committed.0 = o.closed shut (w.latest b) (w.latest b) o.begins in
              let least : w.latest b ≤ k.ends.session = k.last (w.latest b) (w.latest b) o.begins low in
              let most : k.ends.session ≤ w.latest b = o.within r.committed.0 k.ends.session k.ends.given in
              recorded.session b r.committed.0 k.ends.session k.ends.given ∙ omega (arith, least, most)

-- BYTES

with-length : (block : BlockId) (v : List ℕ) (c : Command) → length (bytes_with block v c) ≡ length v + command_length c
with-length block v (command.Write bytes) = length-append v bytes
with-length block v (command.Fill n) =
    let long : length (v ++ fill_bytes block (length v) n) ≡ length v + length (fill_bytes block (length v) n) = length-append v (fill_bytes block (length v) n) in
    omega (arith, long, fill_length block (length v) n)
with-length block v (command.Create ms) = omega arith
with-length block v (command.Append ms) = omega arith
with-length block v command.Hflush = omega arith
with-length block v command.Hsync = omega arith
with-length block v command.Close = omega arith

pub after-length : (block : BlockId) (v : List ℕ) (cs : List Command) → length (bytes_after block v cs) ≡ length v + queued_bytes cs
after-length block v [] = omega arith
after-length block v (c ∷ cs) =
    let here : length (bytes_with block v c) ≡ length v + command_length c = with-length block v c in
    let rest : length (bytes_after block (bytes_with block v c) cs) ≡ length (bytes_with block v c) + queued_bytes cs = after-length block (bytes_with block v c) cs in
    omega (arith, here, rest)

-- those taken write no more than all do
pub queued-front : (xs ys : List Command) → queued_bytes xs ≤ queued_bytes (xs ++ ys)
queued-front [] ys = omega arith
queued-front (c ∷ xs) ys = let rest : queued_bytes xs ≤ queued_bytes (xs ++ ys) = queued-front xs ys in omega (arith, rest)

-- NODES

-- the node on the port of a member
member-node : (m : NodeId) (k bound : ℕ) → bound ≤ MAX_NODES → m.0 < bound → node_on (port_of m) ≡ Some k → m.0 ≡ k
member-node m k bound le lt e = grind (arith, nat_tests, e, le, lt)

-- Each node that a request of these members reaches is one of them.
pub chain-member : (ms : List NodeId) (i k bound : ℕ) → bound ≤ MAX_NODES → ((j : ℕ) (m : NodeId) → slice_get ms j ≡ Some m → m.0 < bound) → slice_get (map (λ (t : NodeRef). node_on t.xfer) (map ref_of ms)) i ≡ Some (Some k)
    → (m : NodeId) × (slice_get ms i ≡ Some m) × (m.0 ≡ k)
chain-member [] i k bound le all e = absurd (none-some (Some k) e)
chain-member (m ∷ ms) zero k bound le all e = (m, refl, member-node m k bound le (all 0 m refl) (same_Some (node_on (port_of m)) (Some k) e))
chain-member (m ∷ ms) (suc i) k bound le all e = chain-member ms i k bound le (λ j x at. all (suc j) x at) e
