-- The draw of what happens next, of all that is due.
use Rattle.std.specs.Prelude.{◌≡◌, ℕ, List, [], ◌∷◌, Option, None}
use Rattle.hd_base.specs.declared.links.LinkIn as link_in
use Rattle.hd_base.specs.declared.links.LinkOut as link_out
use Rattle.hd_base.specs.declared.roads.Roads as roads
use Rattle.rand_pcg.specs.Lcg.{Lcg}
use Rattle.rand_pcg.specs.Pcg.{pcg32}
use Rattle.play_model.specs.declared.dues.Due.{Due}
use Rattle.play_model.specs.Draws.{drawn, draw, happened}
use Rattle.play_model.specs.Dues.{dues}
use Rattle.play_model.specs.States.{PlayState}
use Rattle.play_clients.specs.declared.clients.Client.{Client}
use Rattle.play_reads.specs.PlayNodes.Nodes.{Nodes}
use Rattle.play_reads.specs.declared.reads.Reads.{Reads}
use Rattle.play_recoveries.specs.declared.recoveries.Recoveries.{Recoveries}
use Rattle.play_recoveries.specs.Places.{recoveries_of}
use Rattle.play_reads.specs.PlayReaders.Asks.{asks_of}
use Rattle.play_dues.specs.declared.live.LiveConns.{LiveConns}
use Rattle.play_dues.specs.Listing.{all_dues}
use Rattle.play_dues.specs.Live.{IsCurrent}
use Rattle.play_clients.specs.Blocks.{blocks_of}
use Rattle.play_dues.specs.Showing.{Tells}

-- The generator's next word draws this of what is due; where nothing is due, nothing is drawn, and no word is taken.
abbrev pub DrawsFrom : List Due → Lcg → Lcg → Option Due → Type 0
DrawsFrom [] old new result = (new ≡ old) × (result ≡ None)
DrawsFrom (d ∷ due) old new result = (new ≡ (pcg32 old).1) × (result ≡ drawn (d ∷ due) (pcg32 old).0)

-- The generator draws this of all that is due, where the list of live connections is up to date.
abbrev pub DrawsDue : {F R I O : Type 0} → roads.Ghosts R I O → link_in.Ghosts I → link_out.Ghosts O → LiveConns →
    Nodes F I O → List (Client I O) → Reads I O → Recoveries I O → R → R → Lcg → Lcg → Option Due → Type 0
DrawsDue r i o live n clients reads recoveries road road' old new result =
    Tells r i o n clients reads recoveries road road' (λ w queues. IsCurrent w live
    → DrawsFrom (all_dues w queues (blocks_of clients) (asks_of reads.clients.items)
    (recoveries_of recoveries.clients.items)) old new result)

-- What a play's generator draws of what is due in the play is what happens in its next draw.
abbrev pub PlaysAreDrawn : Type 0
PlaysAreDrawn = (blocks : List ℕ) (p : PlayState) (after : Lcg) (result : Option Due) →
    DrawsFrom (dues blocks p) p.generator after result
    → draw blocks p ≡ happened (record p { generator = after }) result

-- Nothing is drawn only where nothing is due.
abbrev pub PlaysEnd : Type 0
PlaysEnd = (blocks : List ℕ) (p : PlayState) (after : Lcg) → DrawsFrom (dues blocks p) p.generator after None
    → dues blocks p ≡ []
