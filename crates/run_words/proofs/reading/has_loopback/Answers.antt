use Rattle.std.proofs.Common.{◌∙◌, ap, codes}
use Rattle.clap.specs.Matches.{found_of}
use Rattle.run_words.specs.Commands.{is_said}
use Rattle.run_words.proofs.CommandLaws.{source_at}
use Rattle.run_words.proofs.reading.has_loopback.Goals as goal

pub returns : goal.returns
returns c = c.is_said.ensures ∙ ap is_said (c.value_source.ensures ∙ source_at (found_of c.args.matches.now) (codes "loopback"))
