-- A block's pair is read, where there is one.
use Rattle.std.proofs.Common.{rules}
use Rattle.restart_scan.proofs.ReadLemmas.{pair_there, block_is_read, no_pair}
use Rattle.restart_scan.proofs.reading.read_pair.Goals as goal

pub returns-in_default-clause-value : goal.returns-in_default-clause-value
returns-in_default-clause-value g c = no_pair (g.F.Files.files c.args.drawer.now) c.args.block c.args.names.now (search rules) c.requires c.in_default.ensures

pub read_files-requires : goal.read_files-requires
read_files-requires g c = pair_there (g.F.Files.files c.args.drawer.now) c.args.block c.args.names.now c.in-Some.places c.requires c.in-Some.ensures

pub returns-clause-value : goal.returns-clause-value
returns-clause-value g c = block_is_read (g.F.Files.files c.args.drawer.now) c.args.block c.args.names.now c.in-Some.places c.read_files.result (search rules) c.requires c.in-Some.ensures c.read_files.ensures.value
