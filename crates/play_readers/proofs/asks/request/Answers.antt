-- What a line asks can be asked for.
use Rattle.std.proofs.Common.{arith}
use Rattle.play_readers.proofs.AskLaws.{request_fits}
use Rattle.play_readers.proofs.asks.request.Goals as goal

pub returns-clause-fits : goal.returns-clause-fits
returns-clause-fits c = request_fits c.args.ask (omega arith) (omega arith) (omega arith) (omega arith)
