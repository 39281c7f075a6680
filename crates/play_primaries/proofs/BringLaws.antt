-- The ends of a primary's connections are brought back, one after the other.
use Rattle.std.proofs.Common.{◌≡◌, ◌≤◌, ◌<◌, ℕ, zero, suc, Bool, true, false, List, [], ◌∷◌, length, slice_get, Option, Some, Result, Ok, Err, ◌⊎◌, inl, inr, refl, sym, ap, ◌∙◌, subst, arith}
use Rattle.std.specs.List.{list_any}
use Rattle.hd_base.specs.declared.ends.Conn.{Conn}
use Rattle.hd_base.specs.declared.ends.RoadError.{RoadError}
use Rattle.hd_base.specs.declared.links.LinkIn as link_in
use Rattle.hd_base.specs.declared.links.LinkOut as link_out
use Rattle.hd_base.specs.declared.roads.Roads as roads
use Rattle.link_pieces.specs.Roads.{BringsEnd}
use Rattle.primary_events.specs.BlockRecovery.Link.{Link}
use Rattle.primary_events.specs.BlockRecovery.Seat.{Seat}
use Rattle.primary_events.specs.BlockRecovery.Seat.TheVariants as seat
use Rattle.primary_events.specs.BlockRecovery.Actions.{Held, Passes, place_after}
use Rattle.primary_events.specs.BlockRecovery.Dialling.{is_lost}
use Rattle.primary_events.specs.BlockRecovery.Exchanging.{BringsLink, BringsAt, BringsAll}
use Rattle.road_traffic.specs.Laws.{BringsShow}
use Rattle.road_traffic.specs.Showing.{Net, RoadsShow, flushed_net}
use Rattle.primary_events.specs.World.Worlds.{World}
use Rattle.play_readers.specs.WorldNets.Dials.{NetsStaySane}
use Rattle.play_readers.specs.WorldNets.Ends.{IsElsewhere, EndsElsewhereStay}
use Rattle.play_readers.specs.WorldNets.Nets.{IsEndOf, held_by, is_over}
use Rattle.play_readers.specs.WorldNets.Steps.{IdleFlushesAreNets}
use Rattle.primary_events.specs.WorldPrimaries.Links.{AreDistinct}
use Rattle.primary_events.specs.MemberEvents.Showing.{ShowsWorld}
use Rattle.primary_events.specs.Leading.{AllOthersStay}
use Rattle.primary_events.proofs.GivingUpLaws.{any_lost}
use Rattle.primary_events.proofs.PlaceLemmas.{set_here, set_there, within}

not_upper : (d : Bool) → (d ≡ false → ⊥) → d ≡ true
not_upper true never = refl
not_upper false never = absurd (never refl)

past_apart : (j k : ℕ) → suc k ≤ j → j ≡ k → ⊥
past_apart j k h e = omega (arith, h, e)

less_apart : (j k : ℕ) → j < k → j ≡ k → ⊥
less_apart j k h e = omega (arith, h, e)

less_more : (j k : ℕ) → j < k → j < suc k
less_more j k h = omega (arith, h)

less_next : (k : ℕ) → k < suc k
less_next k = omega arith

no_more : (k : ℕ) → k ≤ k
no_more k = omega arith

next_past : (j k : ℕ) → suc k ≤ j → k ≤ j
next_past j k h = omega (arith, h)

none_less : (j : ℕ) → j < 0 → ⊥
none_less j h = omega (arith, h)

true_false : true ≡ false → ⊥
true_false e = cc

module _ {R I O : Type 0} (r : roads.Ghosts R I O) (i : link_in.Ghosts I) (o : link_out.Ghosts O) (brings : BringsShow R I O r i o) (idle : IdleFlushesAreNets) (sane_stay : NetsStaySane) (elsewhere : EndsElsewhereStay i o)
    (v : World) (net : Net) (conns : List (Option ℕ)) (distinct : AreDistinct conns) (links : List (Seat I O)) where
  -- The connection of a link, whose upper end the link has.
  pub record IsConnOf (place : ℕ) (y : Link I O) : Type 0 where
    pub conn : ℕ
    pub at : slice_get conns place ≡ Some (Some conn)
    pub end_is : IsEndOf i o v net conn false y.end

  module _ (shown : (place : ℕ) (y : Link I O) → slice_get links place ≡ Some (seat.Open y) → IsConnOf place y) where
    -- the upper end of a connection of one of the first places
    record IsBrought (k c : ℕ) (lower : Bool) : Type 0 where
      is_upper : lower ≡ false
      place : ℕ
      before : place < k
      at : slice_get conns place ≡ Some (Some c)

    -- All ends so far were brought back, and the others stay.
    record Bringing (k : ℕ) (held : Held R I O) : Type 0 where
      made : Net
      roads_are : ShowsWorld r v made held.road
      rest : (j : ℕ) → k ≤ j → slice_get held.links j ≡ slice_get links j
      stays : (c : ℕ) (d : Bool) (e : Conn I O) → (IsBrought k c d → ⊥) → IsEndOf i o v net c d e → IsEndOf i o v made c d e

    -- An end is lost.
    record Loses (k : ℕ) (held : Held R I O) : Type 0 where
      place : ℕ
      before : place < k
      is : slice_get held.links place ≡ Some seat.Lost

    -- ONE END

    module _ (k : ℕ) (a b : Held R I O) (at : BringsAt r i o k a b) where
      there : (j : ℕ) → (j ≡ k → ⊥) → slice_get b.links j ≡ slice_get a.links j
      there j apart = ap (λ (xs : List (Seat I O)). slice_get xs j) at.stands ∙ set_there a.links k at.after j apart

      here : slice_get b.links k ≡ Some at.after
      here = ap (λ (xs : List (Seat I O)). slice_get xs k) at.stands ∙ set_here a.links k at.before at.after at.stood

      lost_on : Loses k a → Loses (suc k) b
      lost_on z = record { place = z.place; before = less_more z.place k z.before; is = there z.place (less_apart z.place k z.before) ∙ z.is }

      lost_here : at.after ≡ seat.Lost → Loses (suc k) b
      lost_here e = record { place = k; before = less_next k; is = here ∙ ap Some e }

      brought_more : (c : ℕ) (d : Bool) → IsBrought k c d → IsBrought (suc k) c d
      brought_more c d x = record { is_upper = x.is_upper; place = x.place; before = less_more x.place k x.before; at = x.at }

      module _ (g : Bringing k a) where
        rest_on : (j : ℕ) → suc k ≤ j → slice_get b.links j ≡ slice_get links j
        rest_on j h = there j (past_apart j k h) ∙ g.rest j (next_past j k h)

        still : b.road ≡ a.road → Bringing (suc k) b
        still e = record {
          made = g.made;
          roads_are = subst (λ (x : R). ShowsWorld r v g.made x) (sym e) g.roads_are;
          rest = rest_on;
          stays = λ c d x never h. g.stays c d x (λ gone. never (brought_more c d gone)) h;
        }

        -- the end is that of this connection
        module _ (y : Link I O) (before : at.before ≡ seat.Open y) (done : BringsEnd r i o y.end a.road b.road (Ok tt)) where
          mine : IsConnOf k y
          mine = shown k y (sym (g.rest k (no_more k)) ∙ (at.stood ∙ ap Some before))

          abbrev c : ℕ
          c = mine.conn

          not_yet : IsBrought k c false → ⊥
          not_yet x = less_apart x.place k x.before (distinct x.place k c x.at mine.at)

          end_is : IsEndOf i o v g.made c false y.end
          end_is = g.stays c false y.end not_yet mine.end_is

          abbrev flushed : Net
          flushed = flushed_net g.made c false false []

          away : (n : ℕ) (d : Bool) → (IsBrought (suc k) n d → ⊥) → IsElsewhere c false n d
          away n d never = λ same. not_upper d (λ is. never (record { is_upper = is; place = k; before = less_next k; at = mine.at ∙ ap (λ (m : ℕ). Some (Some m)) same }))

          shows_next : RoadsShow r flushed b.road
          shows_next =
              let both = brings y.end a.road b.road (Ok tt) done g.made false [] (held_by (is_over v c false)) g.roads_are.sane (record { road_shows = g.roads_are.shows; end_is = end_is.is }) in
              subst (λ (l : Bool). RoadsShow r (flushed_net g.made c l false []) b.road) end_is.side
              (subst (λ (n : ℕ). RoadsShow r (flushed_net g.made n y.end.lower false []) b.road) end_is.id both)

          brought : Bringing (suc k) b
          brought = record {
            made = flushed;
            roads_are = record {
              is_net = idle v g.made c false g.roads_are.is_net;
              sane = (sane_stay g.made (record { conn = c; lower = false; shut = false; messages = [] } ∷ []) g.roads_are.sane).flushed (end_is.within, tt);
              shows = shows_next;
            };
            rest = rest_on;
            stays = λ n d e never h. (elsewhere v v g.made c false n d e (away n d never) refl (g.stays n d e (λ gone. never (brought_more n d gone)) h)).exchanged false false [];
          }

        by_result : (y : Link I O) → at.before ≡ seat.Open y → (z : Result (Unit {0}) RoadError) → BringsEnd r i o y.end a.road b.road z → at.after ≡ place_after z → Bringing (suc k) b ⊎ Loses (suc k) b
        by_result y before (Ok u) done after = inl (brought y before done)
        by_result y before (Err why) done after = inr (lost_here after)

        by_seat : (x : Seat I O) → at.before ≡ x → BringsLink r i o x at.after a.road b.road → Bringing (suc k) b ⊎ Loses (suc k) b
        by_seat seat.Empty before h = inl (still h.1)
        by_seat seat.Lost before h = inr (lost_here h.0)
        by_seat (seat.Open y) before h = by_result y before h.result h.brings h.place_is

      one_end : Bringing k a ⊎ Loses k a → Bringing (suc k) b ⊎ Loses (suc k) b
      one_end (inl g) = by_seat g at.before refl at.is
      one_end (inr z) = inr (lost_on z)

    -- ALL ENDS

    all_ends : (k : ℕ) (a b : Held R I O) → Passes (BringsAt r i o) k a b → Bringing 0 a ⊎ Loses 0 a → Bringing k b ⊎ Loses k b
    all_ends zero a b e g = subst (λ (h : Held R I O). Bringing 0 h ⊎ Loses 0 h) (sym e) g
    all_ends (suc k) a b q g = one_end k q.0 b q.1.1 (all_ends k a q.0 q.1.0 g)

    -- The roads show the world, and the ends that are none of these stay.
    pub record AllBrought (road' : R) : Type 0 where
      pub made : Net
      pub roads_are : ShowsWorld r v made road'
      pub others : AllOthersStay i o v net v made conns

    brought_last : (links' : List (Seat I O)) (road' : R) → list_any (λ x. is_lost (Some x)) links' ≡ false → Bringing (length links) (record { links = links'; road = road' }) ⊎ Loses (length links) (record { links = links'; road = road' }) → AllBrought road'
    brought_last links' road' none (inl g) = record {
      made = g.made;
      roads_are = g.roads_are;
      others = λ d lower e apart h. g.stays d lower e (λ x. true_false (sym (apart x.place d x.at refl) ∙ x.is_upper)) h;
    }
    brought_last links' road' none (inr z) = absurd (true_false (sym (any_lost links' z.place z.is) ∙ none))

    pub all_brought : (links' : List (Seat I O)) (road road' : R) → ShowsWorld r v net road → list_any (λ x. is_lost (Some x)) links' ≡ false → BringsAll r i o links links' road road' → AllBrought road'
    all_brought links' road road' shows none done =
        brought_last links' road' none (all_ends (length links) (record { links = links; road = road }) (record { links = links'; road = road' }) done (inl (record {
          made = net;
          roads_are = shows;
          rest = λ j h. refl;
          stays = λ c d e never h. h;
        })))
