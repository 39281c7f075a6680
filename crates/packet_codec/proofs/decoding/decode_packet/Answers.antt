-- What is read is spelled, what is spelled is read, and each refusal is the one that stands there.
use Rattle.std.proofs.Common.{arith}
use Rattle.packet_codec.proofs.PacketLemmas.{packet_prefix}
use Rattle.packet_codec.proofs.RefusalLemmas.{read_found, read_within, read_only, read_refused, read_refuses}
use Rattle.packet_codec.proofs.decoding.decode_packet.Goals as goal

pub returns-clause-found : goal.returns-clause-found
returns-clause-found c = read_found c.args.bytes.now c.packet.result (λ i. omega (arith, c.type_inv.bytes i)) c.packet.ensures

pub returns-clause-within : goal.returns-clause-within
returns-clause-within c = read_within c.args.bytes.now c.packet.result (λ i. omega (arith, c.type_inv.bytes i)) c.packet.ensures

pub returns-clause-only : goal.returns-clause-only
returns-clause-only c m text rest spelled parts = read_only c.args.bytes.now c.packet.result m text rest c.packet.ensures spelled parts

pub returns-clause-refused : goal.returns-clause-refused
returns-clause-refused c = read_refused c.args.bytes.now c.packet.result (λ i. omega (arith, c.type_inv.bytes i)) c.packet.ensures

pub returns-clause-refuses : goal.returns-clause-refuses
returns-clause-refuses c e stands = read_refuses c.args.bytes.now c.packet.result e c.packet.ensures stands

pub returns-clause-prefix : goal.returns-clause-prefix
returns-clause-prefix c = packet_prefix
