-- What a line asks can be asked for.
use Rattle.std.proofs.Common.{◌^◌, ◌<◌, ◌≤◌, length, arith, length-append}
use Rattle.std.specs.Prelude.{codes, decimal}
use Rattle.std.proofs.lemmas.Fmt.{length-decimal-le}
use Rattle.hd_base.specs.declared.numbers.BlockId.{BlockId}
use Rattle.op_headers.specs.declared.ops.Op.TheVariants as op
use Rattle.op_headers.proofs.FormatLemmas.{block_fits, read_fits}
use Rattle.op_headers.proofs.RoomLemmas.{op_few}
use Rattle.reader_events.specs.WriterCore.Requests.{client_name}
use Rattle.reader_events.specs.WorldTexts.Texts.{CanBeAsked}
use Rattle.play_model.specs.declared.asks.ReadAsk.{ReadAsk}
use Rattle.play_model.specs.Asks.{request_of}

name_few : (block : BlockId) → block.0 < 2 ^ 64 → length (client_name block) ≤ 30
name_few block b = omega (arith, length-append (codes "DFSClient_") (decimal block.0), length-decimal-le 20 block.0 (omega arith) (omega (arith, b)) b)

-- Its request has numbers of 64 bits, and a short message.
pub request_fits : (ask : ReadAsk) → ask.block.0 < 2 ^ 64 → ask.stamp.0 < 2 ^ 64 → ask.offset < 2 ^ 64 → ask.len < 2 ^ 64 → CanBeAsked (request_of ask)
unfolding request_of
request_fits ask block stamp offset len = record {
  fits = read_fits (request_of ask) (block_fits (request_of ask).block block stamp (omega arith)) offset len;
  encodable = record { within_limit = op_few (op.Read (request_of ask)) (omega (arith, name_few ask.block block)); step = tt };
}
