-- What a client hears on its writer's connection.
use Rattle.std.specs.Prelude.{◌≡◌, ◌&&◌, is_some, Bool, true, false, Result, Ok}
use Rattle.hd_base.specs.declared.links.LinkIn as link_in
use Rattle.hd_base.specs.declared.links.LinkOut as link_out
use Rattle.hd_base.specs.declared.roads.Roads as roads
use Rattle.client_events.specs.PipeRecovery.Rebuild.{Rebuild}
use Rattle.writer_core.specs.declared.records.WriterRecord.{WriterRecord}
use Rattle.client_events.specs.declared.faults.ClientFault.{ClientFault}
use Rattle.client_events.specs.declared.pipes.Pipe.{Pipe}
use Rattle.client_events.specs.declared.pipes.Pipe.TheVariants as pipe
use Rattle.client_events.specs.Events as events
use Rattle.client_events.specs.Showing.{FitsAfter, awaits}

-- What follows where the writer waits on the connection of the setup, or doesn't: nothing is done then.
abbrev pub SetupHearsIf : {D R I O : Type 0} → roads.Ghosts R I O → link_in.Ghosts I → link_out.Ghosts O → Bool →
    WriterRecord → WriterRecord → Rebuild I O → D → D → R → R → Result (Pipe I O) ClientFault → Type 0
SetupHearsIf r i o true known known' setup desk desk' road road' result =
    events.AnswerShows r i o known known' setup road road' result ×
    FitsAfter known known' (pipe.SettingUp setup) result ×
    events.AnswerKeepsOffice r i o known setup road desk desk'
SetupHearsIf r i o false known known' setup desk desk' road road' result =
    (known' ≡ known) × (road' ≡ road) × (result ≡ Ok (pipe.SettingUp setup)) × (desk' ≡ desk)

abbrev pub SetupHears : {D R I O : Type 0} → roads.Ghosts R I O → link_in.Ghosts I → link_out.Ghosts O → WriterRecord →
    WriterRecord → Rebuild I O → D → D → R → R → Result (Pipe I O) ClientFault → Type 0
SetupHears r i o known known' setup desk desk' road road' result =
    SetupHearsIf r i o (awaits known.phase && is_some setup.link) known known' setup desk desk' road road' result

-- What a writer hears on its connection.
abbrev pub PipeHears : {D R I O : Type 0} → roads.Ghosts R I O → link_in.Ghosts I → link_out.Ghosts O → WriterRecord →
    WriterRecord → Pipe I O → D → D → R → R → Result (Pipe I O) ClientFault → Type 0
PipeHears r i o known known' pipe.Closed desk desk' road road' result =
    (known' ≡ known) × (road' ≡ road) × (result ≡ Ok pipe.Closed) × (desk' ≡ desk)
PipeHears r i o known known' (pipe.Streaming end incoming) desk desk' road road' result =
    events.HearShows r i o known known' end incoming road road' result ×
    FitsAfter known known' (pipe.Streaming end incoming) result ×
    (desk' ≡ desk)
PipeHears r i o known known' (pipe.SettingUp setup) desk desk' road road' result =
    SetupHears r i o known known' setup desk desk' road road' result
