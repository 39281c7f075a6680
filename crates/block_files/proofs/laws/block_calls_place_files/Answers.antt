-- The laws are proved of where the files lie.
use Rattle.block_files.proofs.PlacementLaws.{calls_place_files, stopped_calls_place_files, calls_find_files}
use Rattle.block_files.proofs.laws.block_calls_place_files.Goals as goal

pub returns-clause-all : goal.returns-clause-all
returns-clause-all c = calls_place_files

pub returns-clause-stopped : goal.returns-clause-stopped
returns-clause-stopped c = stopped_calls_place_files

pub returns-clause-found : goal.returns-clause-found
returns-clause-found c = calls_find_files
