-- The messages of requests, each by its table.
use Rattle.std.specs.Prelude.{ℕ, Option, Some, None}
use Rattle.op_headers.specs.declared.blocks.BlockRef.{BlockRef}
use Rattle.op_headers.specs.declared.nodes.NodeRef.{NodeRef}
use Rattle.op_headers.specs.declared.nodes.Identity.{Identity}
use Rattle.op_headers.specs.declared.headers.BaseHeader.{BaseHeader}
use Rattle.op_headers.specs.declared.headers.ClientHeader.{ClientHeader}
use Rattle.op_headers.specs.declared.ops.ReadOp.{ReadOp}
use Rattle.op_headers.specs.declared.ops.TransferOp.{TransferOp}
use Rattle.op_headers.specs.declared.ops.ChecksumOp.{ChecksumOp}
use Rattle.op_headers.specs.declared.ops.RecoveryOp.{RecoveryOp}
use Rattle.op_headers.specs.declared.ops.RecoveryKind.{RecoveryKind}
use Rattle.op_headers.specs.declared.ops.RecoveryKind.TheVariants as kind
use Rattle.op_headers.specs.Values.{ChecksumFields, WriteFields}
use Rattle.op_headers.specs.Recoveries.{kind_number, kind_with}
use Rattle.op_headers.specs.Tables.{Uint64, Bool32, Below, uint32, Required, Default, Optional, Format, Table, End, Number, Text, Message, Messages, DecodedFields, FieldsToEncode, by_table}

-- ExtendedBlockProto: poolId, blockId, generationStamp, numBytes, which is always written
abbrev pub block_table : Table
block_table = Text 1 Required (Number 2 Uint64 Required (Number 3 Uint64 Required (Number 4 Uint64 (Default 0) End)))

abbrev pub block_from : DecodedFields block_table → BlockRef
block_from v = record { pool = v.0; block = record { 0 = v.1.0 }; stamp = record { 0 = v.1.1.0 }; bytes = v.1.1.1.0 }

abbrev pub block_to_encode : BlockRef → FieldsToEncode block_table
block_to_encode b = (b.pool, (b.block.0, (b.stamp.0, (Some b.bytes, tt))))

unfoldable pub block_format : Format BlockRef
block_format = by_table block_table block_from block_to_encode

-- DatanodeIDProto: ipAddr, hostName, datanodeUuid, xferPort, infoPort, ipcPort
abbrev pub identity_table : Table
identity_table = Text 1 Required
    (Text 2 Required (Text 3 Required
    (Number 4 uint32 Required (Number 5 uint32 Required (Number 6 uint32 Required End)))))

abbrev pub identity_from : DecodedFields identity_table → Identity
identity_from v = record {
  node = record {
    ip = v.0;
    host = v.1.0;
    uuid = v.1.1.0;
    xfer = v.1.1.1.0;
    info = v.1.1.1.1.0;
    ipc = v.1.1.1.1.1.0;
  };
}

abbrev pub identity_to_encode : Identity → FieldsToEncode identity_table
identity_to_encode i = (i.node.ip, (i.node.host, (i.node.uuid, (i.node.xfer, (i.node.info, (i.node.ipc, tt))))))

unfoldable pub identity_format : Format Identity
identity_format = by_table identity_table identity_from identity_to_encode

-- DatanodeInfoProto: id
abbrev pub node_table : Table
node_table = Message 1 identity_format Required End

abbrev pub node_from : DecodedFields node_table → NodeRef
node_from v = v.0.node

abbrev pub node_to_encode : NodeRef → FieldsToEncode node_table
node_to_encode n = (record { node = n }, tt)

unfoldable pub node_format : Format NodeRef
node_format = by_table node_table node_from node_to_encode

-- BaseHeaderProto: block; its token, field 2, is no row, and so skipped
abbrev pub base_table : Table
base_table = Message 1 block_format Required End

abbrev pub base_from : DecodedFields base_table → BaseHeader
base_from v = record { block = v.0 }

abbrev pub base_to_encode : BaseHeader → FieldsToEncode base_table
base_to_encode h = (h.block, tt)

unfoldable pub base_format : Format BaseHeader
base_format = by_table base_table base_from base_to_encode

-- ClientOperationHeaderProto: baseHeader, clientName
abbrev pub client_table : Table
client_table = Message 1 base_format Required (Text 2 Required End)

abbrev pub client_from : DecodedFields client_table → ClientHeader
client_from v = record { block = v.0.block; client = v.1.0 }

abbrev pub client_to_encode : ClientHeader → FieldsToEncode client_table
client_to_encode h = (record { block = h.block }, (h.client, tt))

unfoldable pub client_format : Format ClientHeader
client_format = by_table client_table client_from client_to_encode

-- ChecksumProto: type (NULL 0, CRC32 1, CRC32C 2), bytesPerChecksum
abbrev pub checksum_table : Table
checksum_table = Number 1 (Below 3) Required (Number 2 uint32 Required End)

abbrev pub checksum_from : DecodedFields checksum_table → ChecksumFields
checksum_from v = record { kind = v.0; chunk = v.1.0 }

abbrev pub checksum_to_encode : ChecksumFields → FieldsToEncode checksum_table
checksum_to_encode c = (c.kind, (c.chunk, tt))

unfoldable pub checksum_format : Format ChecksumFields
checksum_format = by_table checksum_table checksum_from checksum_to_encode

-- OpWriteBlockProto: header, targets, source, stage (0 to 8), pipelineSize, minBytesRcvd, maxBytesRcvd, latestGenerationStamp, requestedChecksum
abbrev pub write_table : Table
write_table =
    Message 1 client_format Required
    (Messages 2 node_format (Message 3 node_format Optional (Number 4 (Below 9) Required (Number 5 uint32 Required
    (Number 6 Uint64 Required (Number 7 Uint64 Required
    (Number 8 Uint64 Required (Message 9 checksum_format Required End))))))))

abbrev pub write_from : DecodedFields write_table → WriteFields
write_from v = record {
  block = v.0.block;
  client = v.0.client;
  targets = v.1.0;
  source = v.1.1.0;
  stage = v.1.1.1.0;
  pipeline = v.1.1.1.1.0;
  min = v.1.1.1.1.1.0;
  max = v.1.1.1.1.1.1.0;
  latest = record { 0 = v.1.1.1.1.1.1.1.0 };
  kind = v.1.1.1.1.1.1.1.1.0.kind;
  chunk = v.1.1.1.1.1.1.1.1.0.chunk;
}

abbrev pub write_to_encode : WriteFields → FieldsToEncode write_table
write_to_encode w = (
  record { block = w.block; client = w.client },
  (
    w.targets,
    (
      w.source,
      (
        w.stage,
        (w.pipeline, (w.min, (w.max, (w.latest.0, (record { kind = w.kind; chunk = w.chunk }, tt))))),
      ),
    ),
  ),
)

unfoldable pub write_format : Format WriteFields
write_format = by_table write_table write_from write_to_encode

-- OpReadBlockProto: header, offset, len, and sendChecksums, which is read and not decoded_field, and never written
abbrev pub read_table : Table
read_table = Message 1 client_format Required
    (Number 2 Uint64 Required (Number 3 Uint64 Required (Number 4 Bool32 (Default 1) End)))

abbrev pub read_from : DecodedFields read_table → ReadOp
read_from v = record { block = v.0.block; client = v.0.client; offset = v.1.0; len = v.1.1.0 }

abbrev pub read_to_encode : ReadOp → FieldsToEncode read_table
read_to_encode r = (record { block = r.block; client = r.client }, (r.offset, (r.len, (None, tt))))

unfoldable pub read_format : Format ReadOp
read_format = by_table read_table read_from read_to_encode

-- OpTransferBlockProto: header, targets
abbrev pub transfer_table : Table
transfer_table = Message 1 client_format Required (Messages 2 node_format End)

abbrev pub transfer_from : DecodedFields transfer_table → TransferOp
transfer_from v = record { block = v.0.block; client = v.0.client; targets = v.1.0 }

abbrev pub transfer_to_encode : TransferOp → FieldsToEncode transfer_table
transfer_to_encode t = (record { block = t.block; client = t.client }, (t.targets, tt))

unfoldable pub transfer_format : Format TransferOp
transfer_format = by_table transfer_table transfer_from transfer_to_encode

-- OpBlockChecksumProto: header
abbrev pub checksum_op_table : Table
checksum_op_table = Message 1 base_format Required End

abbrev pub checksum_op_from : DecodedFields checksum_op_table → ChecksumOp
checksum_op_from v = record { block = v.0.block }

abbrev pub checksum_op_to_encode : ChecksumOp → FieldsToEncode checksum_op_table
checksum_op_to_encode c = (record { block = c.block }, tt)

unfoldable pub checksum_op_format : Format ChecksumOp
checksum_op_format = by_table checksum_op_table checksum_op_from checksum_op_to_encode

-- RecoveryOpProto: kind (BEGIN 0, INIT 1, UPDATE 2), block, recoveryId, newLength, which is written in UPDATE, and targets
abbrev pub recovery_table : Table
recovery_table = Number 1 (Below 3) Required
    (Message 2 block_format Required
    (Number 3 Uint64 Required (Number 4 Uint64 (Default 0) (Messages 5 node_format End))))

abbrev pub recovery_from : DecodedFields recovery_table → RecoveryOp
recovery_from v = record {
  kind = kind_with v.0;
  block = v.1.0;
  recovery = record { 0 = v.1.1.0 };
  new_length = v.1.1.1.0;
  targets = v.1.1.1.1.0;
}

abbrev pub length_to_encode : RecoveryKind → ℕ → Option ℕ
length_to_encode kind.Update n = Some n
length_to_encode _ n = None

abbrev pub recovery_to_encode : RecoveryOp → FieldsToEncode recovery_table
recovery_to_encode r = (
  kind_number r.kind,
  (r.block, (r.recovery.0, (length_to_encode r.kind r.new_length, (r.targets, tt)))),
)

unfoldable pub recovery_format : Format RecoveryOp
recovery_format = by_table recovery_table recovery_from recovery_to_encode
