-- What a name is printed from is what it says.
use Rattle.std.proofs.Common.{◌∙◌, ap, sym}
use Rattle.meta_file.specs.Names.{candidate_of}
use Rattle.meta_file.proofs.NameLemmas.{candidate_of-printed}
use Rattle.meta_file.proofs.names.candidate.Goals as goal

pub returns : goal.returns
returns c named fits e = c.named_by_parts.ensures ∙ ap candidate_of (sym e) ∙ candidate_of-printed named fits
