-- Which connections are of a pipeline, which a reader dialled, and which a primary did.
use Rattle.std.proofs.Common.{◌≡◌, ◌<◌, ℕ, Bool, true, false, length, slice_get, option_map, Option, Some, None, refl, sym, ap, ◌∙◌, subst}
use Rattle.std.specs.Prelude.{is_some, not, unwrap_or}
use Rattle.hd_base.specs.declared.links.LinkIn as link_in
use Rattle.hd_base.specs.declared.links.LinkOut as link_out
use Rattle.hd_base.specs.declared.numbers.ConnId.{ConnId}
use Rattle.road_traffic.specs.Showing.{Net}
use Rattle.world.specs.Parts as parts
use Rattle.world.specs.Parts.{by_writer, by_member, by_reader, by_primary}
use Rattle.world.specs.Worlds.{World}
use Rattle.play_clients.specs.WorldOrders.Orders.{purpose_of, reading, recovering}
use Rattle.play_reads.specs.PlayNodes.Connection.{Connection}
use Rattle.play_reads.specs.PlayNodes.Nodes.{Nodes}
use Rattle.play_reads.specs.PlayNodes.Dues.{is_elsewhere, TellsElsewhere}
use Rattle.play_reads.specs.PlayNodes.Showing.{is_pipeline, IsOfPipeline, stands_here, NodesShow}
use Rattle.play_reads.proofs.PlayNodes.PlaceLaws.{element_within}
use Rattle.play_recoveries.specs.declared.dues.Dialler.{Dialler}
use Rattle.play_recoveries.specs.Dues.{TellsDialler, pair_of, primary_in}

not_false : (b : Bool) → not b ≡ false → b ≡ true
not_false true e = refl
not_false false e = cc

not_true : (b : Bool) → not b ≡ true → b ≡ false
not_true true e = cc
not_true false e = refl

-- a primary dialled where one is told
pub recovering_so : (u : parts.Upper) (x : Option Dialler) → option_map pair_of x ≡ primary_in u → is_some x ≡ true → purpose_of u ≡ recovering
recovering_so (by_writer b) None e some = cc
recovering_so (by_writer b) (Some d) e some = cc
recovering_so (by_member b) None e some = cc
recovering_so (by_member b) (Some d) e some = cc
recovering_so (by_reader b) None e some = cc
recovering_so (by_reader b) (Some d) e some = cc
recovering_so (by_primary n place) x e some = refl

-- and a reader where none is, and it is none of a pipeline
pub reading_so : (u : parts.Upper) (x : Option Dialler) → option_map pair_of x ≡ primary_in u → is_some x ≡ false → is_pipeline u ≡ false → purpose_of u ≡ reading
reading_so (by_writer b) x e some away = cc
reading_so (by_member d) x e some away = cc
reading_so (by_reader line) x e some away = refl
reading_so (by_primary n place) None e some away = cc
reading_so (by_primary n place) (Some d) e some away = cc

-- what is kept elsewhere is a connection
elsewhere_within : {F I O : Type 0} (n : Nodes F I O) (c : ℕ) → is_elsewhere n c ≡ true → c < length n.connections.items
elsewhere_within {F} {I} {O} n c is = by (slice_get n.connections.items c) refl
  where
    clash : false ≡ true → ⊥
    clash e = cc

    by : (x : Option (Connection I O)) → slice_get n.connections.items c ≡ x → c < length n.connections.items
    by None none = absurd (clash (sym (ap (λ (x : Option (Connection I O)). unwrap_or (option_map (λ y. not (stands_here y.lower)) x) false) none) ∙ is))
    by (Some at) found = element_within n.connections.items c at found

-- A reader dialled the connection.
pub record IsRead (w : World) (c : ℕ) : Type 0 where
  pub within : c < w.next_conn
  pub reading_is : purpose_of (w.dialled c).upper ≡ reading

-- A primary did.
pub record IsLed (w : World) (c : ℕ) : Type 0 where
  pub within : c < w.next_conn
  pub leading_is : purpose_of (w.dialled c).upper ≡ recovering

module _ {F I O : Type 0} (i : link_in.Ghosts I) (o : link_out.Ghosts O) (w : World) (net : Net) (n : Nodes F I O) (conn : ConnId) (found : Bool) (shows : NodesShow i o w net n) (told : TellsElsewhere i o conn n found) where
  pub away_within : found ≡ is_elsewhere n conn.0 → found ≡ true → conn.0 < w.next_conn
  away_within is so = subst (λ (k : ℕ). conn.0 < k) shows.count (elsewhere_within n conn.0 (sym is ∙ so))

  pub away_so : found ≡ is_elsewhere n conn.0 → found ≡ true → is_pipeline (w.dialled conn.0).upper ≡ false
  away_so is so = not_true (is_pipeline (w.dialled conn.0).upper) (sym (told w net shows (away_within is so)) ∙ so)

  pub read_so : (x : Option Dialler) → TellsDialler i o conn n (option_map pair_of x) → is_some x ≡ false → found ≡ is_elsewhere n conn.0 → found ≡ true → IsRead w conn.0
  read_so x tells none is so =
      let within : conn.0 < w.next_conn = away_within is so in
      record { within = within; reading_is = reading_so (w.dialled conn.0).upper x (tells w net shows within) none (away_so is so) }

  pub led_so : (x : Option Dialler) → TellsDialler i o conn n (option_map pair_of x) → is_some x ≡ true → found ≡ is_elsewhere n conn.0 → found ≡ true → IsLed w conn.0
  led_so x tells some is so =
      let within : conn.0 < w.next_conn = away_within is so in
      record { within = within; leading_is = recovering_so (w.dialled conn.0).upper x (tells w net shows within) some }

  pub piped_so : found ≡ false → IsOfPipeline w conn.0
  piped_so isnt = λ within. not_false (is_pipeline (w.dialled conn.0).upper) (sym (told w net shows within) ∙ isnt)
