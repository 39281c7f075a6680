-- Each line is formed, fits those before it, and names nodes of the script.
use Rattle.play_scripts.proofs.Scripted.{script_fits}
use Rattle.play_scripts.proofs.laws.scripts_fit.Goals as goal

pub returns : goal.returns
returns c = script_fits c.script_names_its_nodes.ensures
