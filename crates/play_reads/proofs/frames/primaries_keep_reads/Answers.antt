-- The laws.
use Rattle.play_reads.proofs.PrimaryLaws.{leading_kept, answers_kept, answering_kept}
use Rattle.play_reads.proofs.frames.primaries_keep_reads.Goals as goal

pub returns-clause-leads : goal.returns-clause-leads
returns-clause-leads g c = leading_kept g.I.LinkIn g.O.LinkOut c.primaries_keep_others.ensures.owns c.primaries_keep_nodes.ensures.owns

pub returns-clause-hears : goal.returns-clause-hears
returns-clause-hears g c = answers_kept g.I.LinkIn g.O.LinkOut c.primaries_keep_others.ensures.hears c.primaries_keep_nodes.ensures.hears

pub returns-clause-answers : goal.returns-clause-answers
returns-clause-answers g c = answering_kept g.I.LinkIn g.O.LinkOut c.members_keep_readers.ensures.downs
