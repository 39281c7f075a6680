-- A packet has as many bytes as its front says.
use Rattle.std.proofs.Common.{◌∙◌}
use Rattle.hd_base.proofs.ResultLaws.{err_ok}
use Rattle.packet_codec.proofs.RefusalLemmas.{spelled_length}
use Rattle.packet_codec.proofs.frames.packet_length.Goals as goal

pub returns-in_err-header_len-clause-spelled : goal.returns-in_err-header_len-clause-spelled
returns-in_err-header_len-clause-spelled c m text rest more spelled parts six =
    absurd (err_ok _ _ (c.in_err-header_len.ensures.size ∙ spelled_length m c.args.front.now text rest more spelled parts six))
