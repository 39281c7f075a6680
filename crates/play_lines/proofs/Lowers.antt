-- A draw leaves less to be done.
use Rattle.std.proofs.Common.{◌≡◌, ℕ, zero, suc, ◌<◌, ◌≤◌, ◌+◌, ◌^◌, ◌%◌, true, List, [], ◌∷◌, ◌++◌, append-nil, length, slice_get, Option, Some, None, Ok, refl, sym, ap, ◌∙◌, subst, arith}
use Rattle.std.specs.Prelude.{is_some, sum_by}
use Rattle.std.specs.List.{fold}
use Rattle.std.proofs.lemmas.Nat.{mod_below}
use Rattle.std.proofs.lemmas.Option.{none-some, same_Some}
use Rattle.hd_base.specs.declared.files.Files as files
use Rattle.hd_base.specs.declared.links.LinkIn as link_in
use Rattle.hd_base.specs.declared.links.LinkOut as link_out
use Rattle.hd_base.specs.declared.roads.Roads as roads
use Rattle.rand_pcg.specs.Pcg.{pcg32}
use Rattle.world.specs.declared.events.Event.{Event}
use Rattle.world.specs.Parts as parts
use Rattle.world.specs.Parts.{by_writer, by_member, by_reader, by_primary}
use Rattle.world.specs.Safe.{Has}
use Rattle.world.specs.Worlds.{World, start}
use Rattle.world.specs.Events.{run}
use Rattle.play_scripts.specs.WorldSettling.Measure.{writer_weight}
use Rattle.play_scripts.specs.WorldSettling.Traffic.{traffic}
use Rattle.play_model.specs.declared.asks.ReadAsk.{ReadAsk}
use Rattle.play_model.specs.declared.recoveries.Recovery.{Recovery}
use Rattle.play_model.specs.declared.dues.Due.{Due}
use Rattle.play_model.specs.declared.dues.Due.TheVariants as due
use Rattle.play_scripts.proofs.PlayNodes.Numbers.{same_place}
use Rattle.play_scripts.proofs.PlayNodes.Tables.{element}
use Rattle.play_opening.specs.PlayPrimaries.PrimaryClient.{PrimaryClient}
use Rattle.play_opening.specs.PlayRecoveries.Places.{recoveries_of, PrimariesAscend}
use Rattle.play_scripts.specs.WorldTexts.Texts.{AllFit}
use Rattle.play_model.specs.Draws.{drawn_from, happened, advanced, draw}
use Rattle.play_model.specs.Dues.{Queues, is_due, dues}
use Rattle.play_model.specs.Faults.{befalls}
use Rattle.play_model.specs.Laws.{OwnAmong, RecoveryAmong, IsListed, ListedAreDue}
use Rattle.play_model.specs.States as states
use Rattle.play_model.specs.States.{PlayState}
use Rattle.play_opening.specs.PlaySettling.Settling.{queue_weight, block_weight, ask_weight, recovers_weight, writers_weight, reads_weight, weight_of, AreApart, AreNumbered, UpperAmong, ActorAmong, IsUntold, IsFormed, CanHappen, PlaysLower}
use Rattle.play_opening.specs.PlayClients.Client.{Client}
use Rattle.play_opening.specs.PlayClients.Blocks.{blocks_of}
use Rattle.play_opening.specs.PlayDues.Showing.{HasClient}
use Rattle.play_opening.proofs.PlayDues.UpperLaws.{heard_conn}
use Rattle.play_opening.specs.Play.Laws.{Laws}
use Rattle.play_opening.specs.Play.Standing.{world_of}
use Rattle.play_opening.proofs.PlayProofs.Lawful.{room}
use Rattle.play_lines.specs.declared.playing.Playing.{Playing}
use Rattle.play_lines.specs.Drawing.{blocks_in, DrawShows}
use Rattle.play_opening.specs.PlayReaders.Asks.{asks_of}
use Rattle.play_lines.specs.Showing.{PlayIs, IsPlaying}

-- HOW MUCH IS TO BE DONE

-- the block of a client
abbrev client_weight : {I O : Type 0} → World → Client I O → ℕ
client_weight w c = writer_weight (w.writers c.block.0).known + queue_weight c.queue.items

-- a play, as its player has it
abbrev pub weight_in : {F I O : Type 0} → Playing F I O → ℕ
weight_in x = traffic (world_of x.nodes x.player) + sum_by (client_weight (world_of x.nodes x.player)) x.player.clients.items +
    sum_by (ask_weight (world_of x.nodes x.player)) (asks_of x.player.reads.clients.items) +
    sum_by (recovers_weight (world_of x.nodes x.player)) (recoveries_of x.player.recoveries.clients.items)

sums : {I O : Type 0} (w : World) (queues : Queues) (cs : List (Client I O)) (n m : ℕ) → n ≡ m → ((k : ℕ) (c : Client I O) → slice_get cs k ≡ Some c → c.queue.items ≡ queues c.block.0)
    → fold (λ a c. a + client_weight w c) n cs ≡ fold (λ a b. a + block_weight w queues b) m (blocks_of cs)
sums w queues [] n m e h = e
sums {I} {O} w queues (c ∷ cs) n m e h =
    sums w queues cs (n + client_weight w c) (m + block_weight w queues c.block.0)
    (ap (λ (k : ℕ). k + client_weight w c) e ∙ ap (λ (q : _). m + (writer_weight (w.writers c.block.0).known + queue_weight q)) (h 0 c refl)) (λ k a at. h (suc k) a at)

-- CLIENTS AND BLOCKS

module _ {I O : Type 0} where
  has_block : (cs : List (Client I O)) (b : ℕ) → HasClient cs b → Has (blocks_of cs) b
  has_block cs b h = record { place = h.place; there = at cs h.place h.client h.found ∙ ap (λ (n : ℕ). Some n) h.block }
    where
      at : (xs : List (Client I O)) (k : ℕ) (c : Client I O) → slice_get xs k ≡ Some c → slice_get (blocks_of xs) k ≡ Some c.block.0
      at [] k c e = absurd (none-some c e)
      at (x ∷ xs) zero c e = ap (λ (y : Client I O). Some y.block.0) (same_Some x c e)
      at (x ∷ xs) (suc k) c e = at xs k c e

  client_there : (cs : List (Client I O)) (b k : ℕ) → slice_get (blocks_of cs) k ≡ Some b → (c : Client I O) × ((slice_get cs k ≡ Some c) × (c.block.0 ≡ b))
  client_there [] b k e = absurd (none-some b e)
  client_there (c ∷ cs) b zero e = (c, (refl, same_Some c.block.0 b e))
  client_there (c ∷ cs) b (suc k) e = client_there cs b k e

-- PRIMARIES

module _ {I O : Type 0} where
  primary_there : (cs : List (PrimaryClient I O)) (k : ℕ) (rec : Recovery) → slice_get (recoveries_of cs) k ≡ Some rec → (c : PrimaryClient I O) × ((slice_get cs k ≡ Some c) × (c.recovery ≡ rec))
  primary_there [] k rec e = absurd (none-some rec e)
  primary_there (c ∷ cs) zero rec e = (c, (refl, same_Some c.recovery rec e))
  primary_there (c ∷ cs) (suc k) rec e = primary_there cs k rec e

  apart_numbers : (cs : List (PrimaryClient I O)) → PrimariesAscend cs → AreNumbered (recoveries_of cs)
  apart_numbers cs ascend j k a b at_j at_k same =
      let one = primary_there cs j a at_j in
      let other = primary_there cs k b at_k in
      same_place (λ (c : PrimaryClient I O). c.recovery.primary) cs ascend j k one.0 other.0 one.1.0 other.1.0
      (ap (λ (x : Recovery). x.primary) one.1.1 ∙ (same ∙ sym (ap (λ (x : Recovery). x.primary) other.1.1)))

module _ {F R I O : Type 0} (f : files.Ghosts F) (r : roads.Ghosts R I O) (i : link_in.Ghosts I) (o : link_out.Ghosts O) (L : Laws) (listed : ListedAreDue) (lower : PlaysLower) where
  weight_same : (p : PlayState) (road : R) (x : Playing F I O) → PlayIs f r i o p road x → weight_in x ≡ weight_of (blocks_in x) p
  weight_same p road x h =
      let same : states.world_of p ≡ world_of p.nodes x.player = ap (λ (es : List Event). run (start p.nodes) es) h.events in
      let reads : List ReadAsk = asks_of x.player.reads.clients.items in
      let recoveries : List Recovery = recoveries_of x.player.recoveries.clients.items in
      ap (λ (n : ℕ). traffic (world_of n x.player) + sum_by (client_weight (world_of n x.player)) x.player.clients.items + sum_by (ask_weight (world_of n x.player)) reads + sum_by (recovers_weight (world_of n x.player)) recoveries) (sym h.nodes_are) ∙
      (ap (λ (w : World). traffic w + sum_by (client_weight w) x.player.clients.items + sum_by (ask_weight w) reads + sum_by (recovers_weight w) recoveries) (sym same) ∙
      (ap (λ (n : ℕ). traffic (states.world_of p) + n + sum_by (ask_weight (states.world_of p)) reads + sum_by (recovers_weight (states.world_of p)) recoveries) (sums (states.world_of p) p.queues x.player.clients.items 0 0 refl (λ k c at. (h.stands.shows.clients k c at).queue)) ∙
      (ap (λ (asks : List ReadAsk). writers_weight (states.world_of p) p.queues (blocks_in x) + sum_by (ask_weight (states.world_of p)) asks + sum_by (recovers_weight (states.world_of p)) recoveries) h.asks ∙
      ap (λ (rs : List Recovery). reads_weight (states.world_of p) p.queues (blocks_in x) p.asks + sum_by (recovers_weight (states.world_of p)) rs) h.recovers)))

  apart : (p : PlayState) (road : R) (x : Playing F I O) → PlayIs f r i o p road x → AreApart (blocks_in x)
  apart p road x h j k b at_j at_k =
      let one = client_there x.player.clients.items b j at_j in
      let other = client_there x.player.clients.items b k at_k in
      h.stands.shows.apart j k one.0 other.0 one.1.0 other.1.0 (one.1.1 ∙ sym other.1.1)

  -- no two primaries have one number
  numbered : (p : PlayState) (road : R) (x : Playing F I O) → PlayIs f r i o p road x → AreNumbered p.recoveries
  numbered p road x h = subst (λ (rs : List Recovery). AreNumbered rs) h.recovers (apart_numbers x.player.recoveries.clients.items h.stands.shows.recoveries.clients.ascend)

  -- WHAT IS DUE CAN HAPPEN

  module _ (p : PlayState) (road : R) (x : Playing F I O) (h : PlayIs f r i o p road x) where
    same_world : states.world_of p ≡ world_of p.nodes x.player
    same_world = ap (λ (es : List Event). run (start p.nodes) es) h.events

    upper_among : (c : _) (u : parts.Upper) → ((states.world_of p).dialled c).upper ≡ u → is_due (states.world_of p) p.queues (due.Up (record { 0 = c })) ≡ true → UpperAmong (blocks_in x) u
    upper_among c (by_writer b) e is =
        let conn = heard_conn (states.world_of p) p.queues (record { 0 = c }) b is e in
        has_block x.player.clients.items b (h.stands.connected b c (sym (ap (λ (w : World). (w.writers b).conn) same_world) ∙ conn))
    upper_among c (by_member d) e is = tt
    upper_among c (by_reader n) e is = tt
    upper_among c (by_primary n place) e is = tt

    actor_among : (d : Due) → IsListed (blocks_in x) p d → ActorAmong (states.world_of p) (blocks_in x) p.asks p.recoveries d
    actor_among (due.Own b) z = z.among
    actor_among (due.Reader ask) z = z.asked
    actor_among (due.Primary rec) z = z.recovers
    actor_among (due.Up c) z = upper_among c.0 ((states.world_of p).dialled c.0).upper refl z.is
    actor_among (due.Down c) z = tt
    actor_among (due.Ready c) z = tt

    untold : (d : Due) → OwnAmong (blocks_in x) d → IsUntold (states.world_of p) d
    untold (due.Own b) among =
        let k = client_there x.player.clients.items b.0 among.place among.there in
        ap (λ (w : World). (w.writers b.0).told) same_world ∙ subst (λ (n : ℕ). ((world_of p.nodes x.player).writers n).told ≡ None) k.1.1 (h.stands.shows.clients among.place k.0 k.1.0).shows.told
    untold (due.Reader ask) among = tt
    untold (due.Primary rec) among = tt
    untold (due.Up c) among = tt
    untold (due.Down c) among = tt
    untold (due.Ready c) among = tt

    formed : (d : Due) → RecoveryAmong p.recoveries d → IsFormed d
    formed (due.Primary rec) among = h.formed among.place rec among.there
    formed (due.Own b) among = tt
    formed (due.Reader ask) among = tt
    formed (due.Up c) among = tt
    formed (due.Down c) among = tt
    formed (due.Ready c) among = tt

    can_happen : (d : Due) → IsListed (blocks_in x) p d → CanHappen (states.world_of p) p.queues (blocks_in x) p.asks p.recoveries d
    can_happen d z = record { due_now = z.is; apart = apart p road x h; numbered = numbered p road x h; among = actor_among d z; untold = untold d z.among; formed = formed d z.recovers }

    few : (states.world_of p).office.next.0 ≤ 2 ^ 64
    few =
        let stamps = L.few p.nodes p.events in
        let within = room x.player [] (omega arith) in
        let len : length p.events ≡ length (x.player.events.items ++ []) = ap length h.events ∙ ap length (sym (append-nil x.player.events.items)) in
        omega (arith, stamps, within, len)

    befalls_lower : (d : Due) → IsListed (blocks_in x) p d → weight_of (blocks_in x) (befalls p d) < weight_of (blocks_in x) p
    befalls_lower d z = lower (blocks_in x) p d (subst (λ (es : List Event). AllFit es) (sym h.events) h.stands.events.widths) few (can_happen d z)

    -- the generator weighs nothing
    lower_so : (d : Due) → weight_of (blocks_in x) (befalls p d) < weight_of (blocks_in x) p → weight_of (blocks_in x) (befalls (advanced p) d) < weight_of (blocks_in x) p
    unfolding befalls
    lower_so d h = h

    drawn_lower : (ds : List Due) → ds ≡ dues (blocks_in x) p → true ≡ is_some (slice_get ds 0) → weight_of (blocks_in x) (drawn_from ds p) < weight_of (blocks_in x) p
    drawn_lower [] e some = cc
    drawn_lower (d ∷ ds) e some = by (element (d ∷ ds) ((pcg32 p.generator).0 % length (d ∷ ds)) (within ((pcg32 p.generator).0) (length ds)))
      where
        within : (a n : ℕ) → a % suc n < suc n
        within a n = mod_below a (suc n) (omega arith)

        by : (y : Due) × (slice_get (d ∷ ds) ((pcg32 p.generator).0 % length (d ∷ ds)) ≡ Some y) → weight_of (blocks_in x) (happened (advanced p) (slice_get (d ∷ ds) ((pcg32 p.generator).0 % length (d ∷ ds)))) < weight_of (blocks_in x) p
        by y = subst (λ (q : Option Due). weight_of (blocks_in x) (happened (advanced p) q) < weight_of (blocks_in x) p) (sym y.1)
            (lower_so y.0 (befalls_lower y.0 (listed (blocks_in x) p ((pcg32 p.generator).0 % length (d ∷ ds)) y.0 (subst (λ (xs : List Due). slice_get xs ((pcg32 p.generator).0 % length (d ∷ ds)) ≡ Some y.0) e y.1))))

    pub draw_lower : true ≡ is_some (slice_get (dues (blocks_in x) p) 0) → weight_of (blocks_in x) (draw (blocks_in x) p) < weight_of (blocks_in x) p
    draw_lower some = drawn_lower (dues (blocks_in x) p) refl some

  -- so the player has less to do after it
  pub smaller : (old new : Playing F I O) (road road' : R) → IsPlaying f r i o road old → DrawShows f r i o old new road road' (Ok true) → weight_in new < weight_in old
  smaller old new road road' playing shows =
      let k = shows playing.p playing.is in
      let less : weight_of (blocks_in old) (draw (blocks_in old) playing.p) < weight_of (blocks_in old) playing.p = draw_lower playing.p road old playing.is k.1 in
      let before : weight_in old ≡ weight_of (blocks_in old) playing.p = weight_same playing.p road old playing.is in
      let after : weight_in new ≡ weight_of (blocks_in new) (draw (blocks_in old) playing.p) = weight_same (draw (blocks_in old) playing.p) road' new k.0.is in
      let same : weight_of (blocks_in new) (draw (blocks_in old) playing.p) ≡ weight_of (blocks_in old) (draw (blocks_in old) playing.p) = ap (λ (bs : List ℕ). weight_of bs (draw (blocks_in old) playing.p)) k.0.blocks in
      subst (λ (n : ℕ). weight_in new < n) (sym before) (subst (λ (n : ℕ). n < weight_of (blocks_in old) playing.p) (sym (after ∙ same)) less)
