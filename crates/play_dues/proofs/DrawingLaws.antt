-- A word draws of what is due, if anything is.
use Rattle.std.proofs.Common.{◌≡◌, ◌<◌, ◌%◌, ℕ, suc, List, [], ◌∷◌, length, slice_get, Option, Some, None, refl, sym, ap, ◌∙◌, arith}
use Rattle.std.proofs.Math.Nat.{mod-lt}
use Rattle.hd_base.specs.declared.links.LinkIn as link_in
use Rattle.hd_base.specs.declared.links.LinkOut as link_out
use Rattle.hd_base.specs.declared.numbers.ConnId.{ConnId}
use Rattle.hd_base.specs.declared.roads.Roads as roads
use Rattle.rand_pcg.specs.Lcg.{Lcg}
use Rattle.rand_pcg.specs.Pcg.{pcg32}
use Rattle.world.specs.Worlds.{World}
use Rattle.play_model.specs.WorldLaws.Placing.{Placed}
use Rattle.play_model.specs.declared.dues.Due.{Due}
use Rattle.play_model.specs.Draws.{drawn_from, happened}
use Rattle.play_model.specs.Dues.{Queues}
use Rattle.play_model.specs.States.{PlayState}
use Rattle.play_clients.specs.declared.clients.Client.{Client}
use Rattle.play_reads.specs.PlayNodes.Nodes.{Nodes}
use Rattle.play_reads.proofs.PlayNodes.Tables.{element}
use Rattle.play_reads.specs.declared.reads.Reads.{Reads}
use Rattle.play_recoveries.specs.declared.recoveries.Recoveries.{Recoveries}
use Rattle.play_reads.specs.PlayReaders.Asks.{asks_of}
use Rattle.play_recoveries.specs.Places.{recoveries_of}
use Rattle.play_dues.specs.declared.live.LiveConns.{LiveConns}
use Rattle.play_dues.specs.Drawing.{DrawsFrom, DrawsDue}
use Rattle.play_dues.specs.Listing.{shown_dues, all_dues, CountsDues, PicksDue}
use Rattle.play_dues.specs.Live.{IsCurrent}
use Rattle.play_clients.specs.Blocks.{blocks_of}
use Rattle.play_dues.proofs.LiveLaws.{live_dues}

none_drawn : (xs : List Due) (g : Lcg) → length xs ≡ 0 → DrawsFrom xs g g None
none_drawn [] g h = (refl, refl)
none_drawn (d ∷ due) g h = absurd (none h)
  where
    none : suc (length due) ≡ 0 → ⊥
    none h = omega arith

some_drawn : (xs : List Due) (g after : Lcg) (word count : ℕ) (result : Option Due) → count ≡ length xs → (count ≡ 0 → ⊥) → (word, after) ≡ pcg32 g → result ≡ slice_get xs (word % count) → DrawsFrom xs g after result
some_drawn [] g after word count result is some step told = absurd (some is)
some_drawn (d ∷ due) g after word count result is some step told =
    (ap (λ (x : ℕ × Lcg). x.1) step, told ∙ (λ j. slice_get (d ∷ due) ((step j).0 % is j)))

module _ {F R I O : Type 0} (r : roads.Ghosts R I O) (i : link_in.Ghosts I) (o : link_out.Ghosts O) (live : LiveConns) (conns : List ConnId) (same : conns ≡ live.conns.items) (n : Nodes F I O) (clients : List (Client I O)) (reads : Reads I O) (recoveries : Recoveries I O) where
  -- all that is due, and of those that are listed
  abbrev due_in : World → Queues → List Due
  due_in w queues = all_dues w queues (blocks_of clients) (asks_of reads.clients.items) (recoveries_of recoveries.clients.items)

  all_due : (w : World) (queues : Queues) → Placed w → IsCurrent w live → shown_dues w queues clients reads recoveries conns ≡ due_in w queues
  all_due w queues placed current = live_dues w queues (blocks_of clients) (asks_of reads.clients.items) (recoveries_of recoveries.clients.items) conns live placed same current

  pub draws_none : (road road' : R) (g : Lcg) (count : ℕ) → CountsDues r i o conns n clients reads recoveries road road' count → count ≡ 0 → DrawsDue r i o live n clients reads recoveries road road' g g None
  draws_none road road' g count counts is = λ w net queues h.
      let a = counts w net queues h in
      (a.0, λ current. none_drawn (due_in w queues) g (ap length (sym (all_due w queues h.orderly.placed current)) ∙ (sym a.1 ∙ is)))

  pub draws_some : (road mid road' : R) (g after : Lcg) (word count : ℕ) (result : Option Due) → CountsDues r i o conns n clients reads recoveries road mid count → (count ≡ 0 → ⊥) → (word, after) ≡ pcg32 g → PicksDue r i o (word % count) conns n clients reads recoveries mid road' result
      → DrawsDue r i o live n clients reads recoveries road road' g after result
  draws_some road mid road' g after word count result counts some step picks = λ w net queues h.
      let a = counts w net queues h in
      let b = picks w net queues a.0 in (
        b.0,
        λ current.
            let all : shown_dues w queues clients reads recoveries conns ≡ due_in w queues = all_due w queues h.orderly.placed current in
            some_drawn (due_in w queues) g after word count result (a.1 ∙ ap length all) some step (b.1 ∙ ap (λ (xs : List Due). slice_get xs (word % count)) all),
      )

-- PLAYS

pub draw_happens : (xs : List Due) (p : PlayState) (after : Lcg) (result : Option Due) → DrawsFrom xs p.generator after result → drawn_from xs p ≡ happened (record p { generator = after }) result
draw_happens [] p after result h = sym (λ j. happened (record p { generator = h.0 j }) (h.1 j))
draw_happens (d ∷ due) p after result h = sym (λ j. happened (record p { generator = h.0 j }) (h.1 j))

none_is_some : {A : Type 0} (x : Option A) (a : A) → None ≡ x → x ≡ Some a → ⊥
none_is_some x a none some = cc

pub none_left : (xs : List Due) (g after : Lcg) → DrawsFrom xs g after None → xs ≡ []
none_left [] g after h = refl
none_left (d ∷ due) g after h =
    let at = element (d ∷ due) ((pcg32 g).0 % length (d ∷ due)) (mod-lt (pcg32 g).0 (some (length due))) in
    absurd (none_is_some (slice_get (d ∷ due) ((pcg32 g).0 % length (d ∷ due))) at.0 h.1 at.1)
  where
    some : (m : ℕ) → 0 < suc m
    some m = omega arith
