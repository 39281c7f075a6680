-- Whether the lower end of a connection takes what stands next, or acts without a message.
use Rattle.std.proofs.Common.{◌≡◌, Bool, true, false, option_map, Option, sym, ◌∙◌}
use Rattle.std.specs.Prelude.{is_some}
use Rattle.hd_base.specs.declared.links.LinkIn as link_in
use Rattle.hd_base.specs.declared.links.LinkOut as link_out
use Rattle.hd_base.specs.declared.numbers.ConnId.{ConnId}
use Rattle.hd_base.specs.declared.roads.Roads as roads
use Rattle.play_reads.specs.PlayNodes.Nodes.{Nodes}
use Rattle.play_reads.specs.PlayNodes.Dues as nodes
use Rattle.play_reads.specs.PlayNodes.Dues.{is_elsewhere, TellsElsewhere}
use Rattle.play_reads.specs.declared.reads.Reads.{Reads}
use Rattle.play_reads.specs.Dues as of_reads
use Rattle.play_dues.specs.Lowers.{TellsLower, TellsActs}
use Rattle.play_recoveries.specs.declared.dues.Dialler.{Dialler}
use Rattle.play_recoveries.specs.declared.recoveries.Recoveries.{Recoveries}
use Rattle.play_recoveries.specs.Dues as of_recoveries
use Rattle.play_recoveries.specs.Dues.{NoneReady, TellsDialler, pair_of}
use Rattle.play_dues.proofs.ElsewhereLaws.{read_so, led_so, piped_so}
use Rattle.play_dues.proofs.UpperLaws.{dues_with}

module _ {F R I O : Type 0} (r : roads.Ghosts R I O) (i : link_in.Ghosts I) (o : link_out.Ghosts O) (n : Nodes F I O) (reads : Reads I O) (recoveries : Recoveries I O) (conn : ConnId) (found : Bool) (told : TellsElsewhere i o conn n found) (road road' : R) (result : Bool) where
  pub lower_read : (x : Option Dialler) → TellsDialler i o conn n (option_map pair_of x) → is_some x ≡ false → found ≡ is_elsewhere n conn.0 → found ≡ true → of_reads.TellsDown r i o conn reads road road' result → TellsLower r i o conn n reads recoveries road road' result
  lower_read x asked none is so tells = λ clients w net queues h.
      let k = read_so i o w net n conn found h.stands.nodes_are told x asked none is so in
      let t = tells w net queues n.blocks.items (record { roads_are = h.stands.roads_are; reads_are = h.reads_are }) h.orderly.open_ends k.within k.reading_is in
      (dues_with r i o w net queues road road' n clients reads recoveries h (record { roads_are = t.0; nodes_are = h.stands.nodes_are }), t.1)

  pub lower_led : (x : Option Dialler) → TellsDialler i o conn n (option_map pair_of x) → is_some x ≡ true → found ≡ is_elsewhere n conn.0 → found ≡ true → of_recoveries.TellsDown r i o conn recoveries road road' result → TellsLower r i o conn n reads recoveries road road' result
  lower_led x asked some is so tells = λ clients w net queues h.
      let k = led_so i o w net n conn found h.stands.nodes_are told x asked some is so in
      let t = tells w net queues n.blocks.items (record { roads_are = h.stands.roads_are; recoveries_are = h.recoveries_are }) h.orderly.open_ends k.within k.leading_is in
      (dues_with r i o w net queues road road' n clients reads recoveries h (record { roads_are = t.0; nodes_are = h.stands.nodes_are }), t.1)

  pub lower_here : found ≡ false → nodes.TellsDown r i o conn n road road' result → TellsLower r i o conn n reads recoveries road road' result
  lower_here isnt tells = λ clients w net queues h.
      let t = tells w net queues h.stands h.orderly (piped_so i o w net n conn found h.stands.nodes_are told isnt) in
      (dues_with r i o w net queues road road' n clients reads recoveries h t.0, t.1)

module _ {F I O : Type 0} (i : link_in.Ghosts I) (o : link_out.Ghosts O) (n : Nodes F I O) (reads : Reads I O) (recoveries : Recoveries I O) (conn : ConnId) (found : Bool) (told : TellsElsewhere i o conn n found) (result : Bool) where
  pub acts_read : (x : Option Dialler) → TellsDialler i o conn n (option_map pair_of x) → is_some x ≡ false → found ≡ is_elsewhere n conn.0 → found ≡ true → of_reads.TellsReady i o conn reads result → TellsActs i o conn n reads recoveries result
  acts_read x asked none is so tells = λ w net queues shows orderly reads_are recoveries_are.
      let k = read_so i o w net n conn found shows told x asked none is so in
      tells w net queues n.blocks.items reads_are k.within k.reading_is

  pub acts_led : NoneReady i o → (x : Option Dialler) → TellsDialler i o conn n (option_map pair_of x) → is_some x ≡ true → found ≡ is_elsewhere n conn.0 → found ≡ true → result ≡ false → TellsActs i o conn n reads recoveries result
  acts_led never x asked some is so isnt = λ w net queues shows orderly reads_are recoveries_are.
      let k = led_so i o w net n conn found shows told x asked some is so in
      isnt ∙ sym (never w net queues n.blocks.items conn recoveries recoveries_are k.within k.leading_is)

  pub acts_here : found ≡ false → nodes.TellsReady i o conn n result → TellsActs i o conn n reads recoveries result
  acts_here isnt tells = λ w net queues shows orderly reads_are recoveries_are. tells w net queues shows orderly (piped_so i o w net n conn found shows told isnt)
