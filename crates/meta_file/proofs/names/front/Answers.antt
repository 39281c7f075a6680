-- The fronts are ASCII.
use Rattle.std.proofs.Common.{refl}
use Rattle.meta_file.specs.declared.names.Folder.TheVariants.{Rbw, Finalized, Tmp}
use Rattle.meta_file.specs.Names.{front_of}
use Rattle.meta_file.proofs.NameLemmas.{plain_from_test}
use Rattle.meta_file.proofs.names.front.Goals as goal

pub returns-in-Rbw-clause-text : goal.returns-in-Rbw-clause-text
returns-in-Rbw-clause-text c = plain_from_test (front_of Rbw) refl

pub returns-in-Finalized-clause-text : goal.returns-in-Finalized-clause-text
returns-in-Finalized-clause-text c = plain_from_test (front_of Finalized) refl

pub returns-in-Tmp-clause-text : goal.returns-in-Tmp-clause-text
returns-in-Tmp-clause-text c = plain_from_test (front_of Tmp) refl
