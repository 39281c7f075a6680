-- The request with which a writer sets up the pipeline of a create or an append.
use Rattle.std.proofs.Common.{◌≡◌, ℕ, true, List, map, Some, refl, arith}
use Rattle.std.specs.Prelude.{nat_le}
use Rattle.std.proofs.lemmas.Bool.Decides.{nat_tests}
use Rattle.hd_base.specs.declared.numbers.Stamp.{Stamp}
use Rattle.hd_base.specs.declared.numbers.NodeId.{NodeId}
use Rattle.hd_base.specs.declared.sum_rule.SumKind.{SumKind}
use Rattle.hd_base.specs.declared.sum_rule.SumKind.TheVariants as sums
use Rattle.hd_base.specs.declared.sum_rule.TheConstants.{MIN_CHUNK_SIZE, MAX_CHUNK_SIZE}
use Rattle.hd_base.specs.SumRules.{IsChunkSize, kind_number}
use Rattle.op_headers.specs.declared.ops.Op.{Op}
use Rattle.op_headers.specs.declared.ops.Op.TheVariants as op
use Rattle.op_headers.specs.Values.{WriteFields}
use Rattle.node_refs.specs.NodeRefs.{ref_of}
use Rattle.request_refusals.specs.Pools.{is_in_pool}
use Rattle.request_refusals.specs.Rules.{rule_with}
use Rattle.packet_stream.specs.Streams.{written_in}
use Rattle.member_core.specs.declared.requests.SetupKind.TheVariants as kind
use Rattle.member_core.specs.Requests.{setup_with}
use Rattle.writer_core.specs.declared.phases.Setup.{Setup}
use Rattle.writer_core.specs.declared.phases.Setup.TheVariants as setup
use Rattle.writer_core.specs.declared.records.WriterRecord.{WriterRecord}
use Rattle.writer_core.specs.Requests.{request_for}

-- a chunk size is one of a rule
rule-of : (k : SumKind) (chunk : ℕ) → IsChunkSize chunk → rule_with (kind_number k) chunk ≡ Some (record { kind = k; chunk = chunk })
unfolding rule_with
rule-of k chunk h = go k
  where
    least : nat_le MIN_CHUNK_SIZE chunk ≡ true
    least = grind (arith, nat_tests, h.least)

    greatest : nat_le chunk MAX_CHUNK_SIZE ≡ true
    greatest = grind (arith, nat_tests, h.greatest)

    go : (j : SumKind) → rule_with (kind_number j) chunk ≡ Some (record { kind = j; chunk = chunk })
    go sums.Null = rw (least, greatest) refl
    go sums.Crc32 = rw (least, greatest) refl
    go sums.Crc32c = rw (least, greatest) refl

-- What the request says, of a create or an append.
pub record AsksFor (x : WriterRecord) (s : Setup) (stamp : Stamp) (ms : List NodeId) (o : Op) : Type 0 where
  pub fields : WriteFields
  pub is : o ≡ op.Write fields
  pub block : fields.block.block ≡ x.block
  pub pool : is_in_pool fields.block ≡ true
  pub targets : fields.targets ≡ map ref_of ms
  pub rule : rule_with fields.kind fields.chunk ≡ Some x.stream.rule

pub record AsksCreate (x : WriterRecord) (stamp : Stamp) (ms : List NodeId) (o : Op) : Type 0 where
  pub asks : AsksFor x setup.Create stamp ms o
  pub stage : setup_with asks.fields.stage ≡ Some kind.Create

pub record AsksAppend (x : WriterRecord) (stamp : Stamp) (ms : List NodeId) (o : Op) : Type 0 where
  pub asks : AsksFor x setup.Append stamp ms o
  pub stage : setup_with asks.fields.stage ≡ Some kind.Append
  pub named : asks.fields.block.stamp ≡ x.committed
  pub latest : asks.fields.latest ≡ stamp
  pub least : asks.fields.min ≡ written_in x.stream

pub asks-create : (x : WriterRecord) (stamp : Stamp) (n : ℕ) (ms : List NodeId) → IsChunkSize x.stream.rule.chunk → AsksCreate x stamp ms (request_for x.block x.committed x.stream setup.Create stamp n ms)
unfolding request_for is_in_pool
asks-create x stamp n ms h = record {
  asks = record { fields = _; is = refl; block = refl; pool = refl; targets = refl; rule = rule-of x.stream.rule.kind x.stream.rule.chunk h };
  stage = refl;
}

pub asks-append : (x : WriterRecord) (stamp : Stamp) (n : ℕ) (ms : List NodeId) → IsChunkSize x.stream.rule.chunk → AsksAppend x stamp ms (request_for x.block x.committed x.stream setup.Append stamp n ms)
unfolding request_for is_in_pool
asks-append x stamp n ms h = record {
  asks = record { fields = _; is = refl; block = refl; pool = refl; targets = refl; rule = rule-of x.stream.rule.kind x.stream.rule.chunk h };
  stage = refl;
  named = refl;
  latest = refl;
  least = refl;
}
