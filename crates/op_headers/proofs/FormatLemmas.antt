-- The messages of requests: each is read and written exactly, and which values have a text.
use Rattle.std.proofs.Common.{◌≡◌, ℕ, ◌%◌, ◌^◌, ◌<◌, ◌≤◌, unwrap_or, refl, sym, arith, List}
use Rattle.std.specs.Prelude.{IfSome}
use Rattle.std.proofs.lemmas.Bool.{lt-ltb}
use Rattle.op_headers.specs.declared.blocks.BlockRef.{BlockRef}
use Rattle.op_headers.specs.declared.nodes.NodeRef.{NodeRef}
use Rattle.op_headers.specs.declared.ops.ReadOp.{ReadOp}
use Rattle.op_headers.specs.declared.ops.TransferOp.{TransferOp}
use Rattle.op_headers.specs.declared.ops.ChecksumOp.{ChecksumOp}
use Rattle.op_headers.specs.declared.ops.RecoveryOp.{RecoveryOp}
use Rattle.op_headers.specs.declared.ops.RecoveryKind.{RecoveryKind}
use Rattle.op_headers.specs.declared.ops.RecoveryKind.TheVariants as kind
use Rattle.op_headers.specs.Values.{ChecksumFields, WriteFields}
use Rattle.op_headers.specs.Recoveries.{kind_number, kind_with, HasItsLength}
use Rattle.op_headers.specs.Tables.{Uint64, Below, FitsKind, EachFits}
use Rattle.op_headers.specs.Formats.{block_table, block_from, block_to_encode, block_format, identity_table, identity_from, identity_to_encode, identity_format, node_table, node_from, node_to_encode, node_format, base_table, base_from, base_to_encode, base_format, client_table, client_from, client_to_encode, client_format, checksum_table, checksum_from, checksum_to_encode, checksum_format, write_table, write_from, write_to_encode, write_format, read_table, read_from, read_to_encode, read_format, transfer_table, transfer_from, transfer_to_encode, transfer_format, checksum_op_table, checksum_op_from, checksum_op_to_encode, checksum_op_format, recovery_table, recovery_from, recovery_to_encode, recovery_format, length_to_encode}
use Rattle.op_headers.proofs.TableLemmas.{IsExact, exact_by_table}
use Rattle.op_headers.proofs.TextLemmas.{IsWritten, written_by_table}

-- ---- reading

pub exact_block : IsExact block_format
unfolding block_format
exact_block = exact_by_table block_table block_from block_to_encode tt

exact_identity : IsExact identity_format
unfolding identity_format
exact_identity = exact_by_table identity_table identity_from identity_to_encode tt

exact_node : IsExact node_format
unfolding node_format
exact_node = exact_by_table node_table node_from node_to_encode (exact_identity, tt)

exact_base : IsExact base_format
unfolding base_format
exact_base = exact_by_table base_table base_from base_to_encode (exact_block, tt)

exact_client : IsExact client_format
unfolding client_format
exact_client = exact_by_table client_table client_from client_to_encode (exact_base, tt)

exact_checksum : IsExact checksum_format
unfolding checksum_format
exact_checksum = exact_by_table checksum_table checksum_from checksum_to_encode tt

pub exact_write : IsExact write_format
unfolding write_format
exact_write = exact_by_table write_table write_from write_to_encode (exact_client, (exact_node, (exact_node, (exact_checksum, tt))))

pub exact_read : IsExact read_format
unfolding read_format
exact_read = exact_by_table read_table read_from read_to_encode (exact_client, tt)

pub exact_transfer : IsExact transfer_format
unfolding transfer_format
exact_transfer = exact_by_table transfer_table transfer_from transfer_to_encode (exact_client, (exact_node, tt))

pub exact_checksum_op : IsExact checksum_op_format
unfolding checksum_op_format
exact_checksum_op = exact_by_table checksum_op_table checksum_op_from checksum_op_to_encode (exact_base, tt)

pub exact_recovery : IsExact recovery_format
unfolding recovery_format
exact_recovery = exact_by_table recovery_table recovery_from recovery_to_encode (exact_block, (exact_node, tt))

-- ---- writing

written_block : IsWritten block_format
unfolding block_format
written_block = written_by_table block_table block_from block_to_encode (omega arith, omega arith, (omega arith, omega arith, (omega arith, omega arith, (omega arith, omega arith, tt)))) tt

written_identity : IsWritten identity_format
unfolding identity_format
written_identity =
    written_by_table identity_table identity_from identity_to_encode
    (omega arith, omega arith, (omega arith, omega arith, (omega arith, omega arith, (omega arith, omega arith, (omega arith, omega arith, (omega arith, omega arith, tt)))))) tt

written_node : IsWritten node_format
unfolding node_format
written_node = written_by_table node_table node_from node_to_encode (omega arith, omega arith, tt) (written_identity, tt)

written_base : IsWritten base_format
unfolding base_format
written_base = written_by_table base_table base_from base_to_encode (omega arith, omega arith, tt) (written_block, tt)

written_client : IsWritten client_format
unfolding client_format
written_client = written_by_table client_table client_from client_to_encode (omega arith, omega arith, (omega arith, omega arith, tt)) (written_base, tt)

written_checksum : IsWritten checksum_format
unfolding checksum_format
written_checksum = written_by_table checksum_table checksum_from checksum_to_encode (omega arith, omega arith, (omega arith, omega arith, tt)) tt

pub written_write : IsWritten write_format
unfolding write_format
written_write =
    written_by_table write_table write_from write_to_encode
    (omega arith, omega arith, (omega arith, omega arith, (omega arith, omega arith, (omega arith, omega arith, (omega arith, omega arith, (omega arith, omega arith, (omega arith, omega arith, (omega arith, omega arith, (omega arith, omega arith, tt)))))))))
    (written_client, (written_node, (written_node, (written_checksum, tt))))

pub written_read : IsWritten read_format
unfolding read_format
written_read = written_by_table read_table read_from read_to_encode (omega arith, omega arith, (omega arith, omega arith, (omega arith, omega arith, (omega arith, omega arith, tt)))) (written_client, tt)

pub written_transfer : IsWritten transfer_format
unfolding transfer_format
written_transfer = written_by_table transfer_table transfer_from transfer_to_encode (omega arith, omega arith, (omega arith, omega arith, tt)) (written_client, (written_node, tt))

pub written_checksum_op : IsWritten checksum_op_format
unfolding checksum_op_format
written_checksum_op = written_by_table checksum_op_table checksum_op_from checksum_op_to_encode (omega arith, omega arith, tt) (written_base, tt)

pub written_recovery : IsWritten recovery_format
unfolding recovery_format
written_recovery =
    written_by_table recovery_table recovery_from recovery_to_encode
    (omega arith, omega arith, (omega arith, omega arith, (omega arith, omega arith, (omega arith, omega arith, (omega arith, omega arith, tt))))) (written_block, (written_node, tt))

-- ---- which values have a text

pub uint64_fits : (n : ℕ) → n < 2 ^ 64 → FitsKind Uint64 n
uint64_fits n small = record { small = small; decoded = refl }

pub below_fits : (bound n : ℕ) → n < bound → bound ≤ 2 ^ 32 → FitsKind (Below bound) n
below_fits bound n low most =
    let same : n % 2 ^ 32 ≡ n = omega arith in
    record { small = omega arith; decoded = rw (same, lt-ltb n bound low) refl }

pub block_fits : (b : BlockRef) → b.block.0 < 2 ^ 64 → b.stamp.0 < 2 ^ 64 → b.bytes < 2 ^ 64 → block_format.fits b
unfolding block_format
block_fits b block stamp bytes = record { rows = (uint64_fits _ block, (uint64_fits _ stamp, (uint64_fits _ bytes, tt))); same = refl }

pub node_fits : (n : NodeRef) → n.xfer < 2 ^ 32 → n.info < 2 ^ 32 → n.ipc < 2 ^ 32 → node_format.fits n
unfolding node_format identity_format
node_fits n xfer info ipc = record {
  rows = (record { rows = (below_fits _ _ xfer (omega arith), (below_fits _ _ info (omega arith), (below_fits _ _ ipc (omega arith), tt))); same = refl }, tt);
  same = refl;
}

base_fits : (b : BlockRef) → block_format.fits b → base_format.fits (record { block = b })
unfolding base_format
base_fits b fits = record { rows = (fits, tt); same = refl }

client_fits : (b : BlockRef) (client : List ℕ) → block_format.fits b → client_format.fits (record { block = b; client = client })
unfolding client_format
client_fits b client fits = record { rows = (base_fits b fits, tt); same = refl }

checksum_fits : (c : ChecksumFields) → c.kind < 3 → c.chunk < 2 ^ 32 → checksum_format.fits c
unfolding checksum_format
checksum_fits c kind chunk = record { rows = (below_fits 3 _ kind (omega arith), (below_fits _ _ chunk (omega arith), tt)); same = refl }

-- The numbers of a write request have their widths.
pub record WriteNumbersFit (w : WriteFields) : Type 0 where
  pub stage : w.stage ≤ 8
  pub pipeline : w.pipeline < 2 ^ 32
  pub min : w.min < 2 ^ 64
  pub max : w.max < 2 ^ 64
  pub latest : w.latest.0 < 2 ^ 64
  pub kind : w.kind ≤ 2
  pub chunk : w.chunk < 2 ^ 32

pub write_fits : (w : WriteFields) → block_format.fits w.block → EachFits node_format.fits w.targets → IfSome w.source node_format.fits → WriteNumbersFit w → write_format.fits w
unfolding write_format
write_fits w block targets source n = record {
  rows = (
    client_fits w.block w.client block,
    (
      targets,
      (
        source,
        (
          below_fits 9 _ (omega (arith, n.stage)) (omega arith),
          (
            below_fits _ _ n.pipeline (omega arith),
            (uint64_fits _ n.min, (uint64_fits _ n.max, (uint64_fits _ n.latest, (checksum_fits _ (omega (arith, n.kind)) n.chunk, tt)))),
          ),
        ),
      ),
    ),
  );
  same = refl;
}

pub read_fits : (r : ReadOp) → block_format.fits r.block → r.offset < 2 ^ 64 → r.len < 2 ^ 64 → read_format.fits r
unfolding read_format
read_fits r block offset len = record { rows = (client_fits r.block r.client block, (uint64_fits _ offset, (uint64_fits _ len, (tt, tt)))); same = refl }

pub transfer_fits : (t : TransferOp) → block_format.fits t.block → EachFits node_format.fits t.targets → transfer_format.fits t
unfolding transfer_format
transfer_fits t block targets = record { rows = (client_fits t.block t.client block, (targets, tt)); same = refl }

pub checksum_op_fits : (c : ChecksumOp) → block_format.fits c.block → checksum_op_format.fits c
unfolding checksum_op_format
checksum_op_fits c block = record { rows = (base_fits c.block block, tt); same = refl }

-- the kind and the length of a written step are decoded again
kind_with-number : (k : RecoveryKind) → kind_with (kind_number k) ≡ k
kind_with-number kind.Begin = refl
kind_with-number kind.Init = refl
kind_with-number kind.Update = refl

answer_length_to_encode : (k : RecoveryKind) (n : ℕ) → HasItsLength k n → unwrap_or (length_to_encode k n) 0 ≡ n
answer_length_to_encode kind.Begin n none = sym none
answer_length_to_encode kind.Init n none = sym none
answer_length_to_encode kind.Update n none = refl

kind_low : (k : RecoveryKind) → kind_number k < 3
kind_low kind.Begin = omega arith
kind_low kind.Init = omega arith
kind_low kind.Update = omega arith

length_fits : (k : RecoveryKind) (n : ℕ) → n < 2 ^ 64 → IfSome (length_to_encode k n) (FitsKind Uint64)
length_fits kind.Begin n fits = tt
length_fits kind.Init n fits = tt
length_fits kind.Update n fits = uint64_fits n fits

pub recovery_fits : (r : RecoveryOp) → block_format.fits r.block → r.recovery.0 < 2 ^ 64 → r.new_length < 2 ^ 64 → EachFits node_format.fits r.targets → HasItsLength r.kind r.new_length → recovery_format.fits r
unfolding recovery_format
recovery_fits r block recovery length targets its = record {
  rows = (below_fits 3 _ (kind_low r.kind) (omega arith), (block, (uint64_fits _ recovery, (length_fits r.kind r.new_length length, (targets, tt)))));
  same = same (kind_with (kind_number r.kind)) (unwrap_or (length_to_encode r.kind r.new_length) 0) (kind_with-number r.kind) (answer_length_to_encode r.kind r.new_length its);
} where
  same : (k : RecoveryKind) (n : ℕ) → k ≡ r.kind → n ≡ r.new_length → record { kind = k; block = r.block; recovery = r.recovery; new_length = n; targets = r.targets } ≡ r
  same k n e f = rw (e, f) refl
