-- The law is proved of all writers.
use Rattle.writer_core.proofs.StampLemmas.{only_the_office_commits}
use Rattle.writer_core.proofs.laws.only_the_office_commits.Goals as goal

pub returns : goal.returns
returns c = only_the_office_commits
