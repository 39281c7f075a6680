-- What a message says once its fields are known.
use Rattle.std.proofs.Common.{◌≡◌, ℕ, List, Option, Result, Ok, Err, refl, sym, ap, ◌∙◌}
use Rattle.proto_fields.specs.declared.reading.Wire.{Wire}
use Rattle.proto_fields.specs.declared.reading.WireFault.{WireFault}
use Rattle.hd_base.specs.Results.{with_cause, with_value}
use Rattle.proto_fields.specs.Fields.{fields_at}
use Rattle.proto_fields.specs.Values.{last_of, last_varint}
use Rattle.proto_fields.specs.Inner.{joined, inner}
use Rattle.hd_base.proofs.ResultLaws.{bind-Ok}
use Rattle.op_headers.specs.declared.nodes.Identity.{Identity}
use Rattle.op_headers.specs.declared.nodes.NodeRef.{NodeRef}
use Rattle.op_headers.specs.declared.headers.ClientHeader.{ClientHeader}
use Rattle.op_headers.specs.declared.ops.ReadOp.{ReadOp}
use Rattle.op_headers.specs.declared.ops.RecoveryOp.{RecoveryOp}
use Rattle.op_headers.specs.declared.blocks.BlockRef.{BlockRef}
use Rattle.op_headers.specs.Values.{ChecksumFields, WriteFields}
use Rattle.op_headers.specs.Paths.{Path, below, both}
use Rattle.op_headers.specs.Tables.{uint32, Below, number_of, Required, Default, Optional, decoded_field, decoded_message, text_under, texts_under, each_at, rows_at}
use Rattle.op_headers.specs.Formats.{identity_table, identity_from, identity_format, node_format, client_format, checksum_format, read_table, read_from, read_format, write_table, write_from, write_format, block_format, recovery_table, recovery_from, recovery_format}

pub identity_read : (bytes : List ℕ) (fs : List (ℕ × Wire)) (r : Result Identity Path) (ip host uuid : Option (List ℕ)) (xfer info ipc : Option ℕ) → fields_at bytes ≡ Ok fs
    → text_under 1 bytes fs ≡ ip → text_under 2 bytes fs ≡ host → text_under 3 bytes fs ≡ uuid
    → xfer ≡ last_of (number_of uint32) 4 fs → info ≡ last_of (number_of uint32) 5 fs → ipc ≡ last_of (number_of uint32) 6 fs
    → r ≡ with_value identity_from (both (decoded_field Required 1 ip) (both (decoded_field Required 2 host) (both (decoded_field Required 3 uuid) (both (decoded_field Required 4 xfer) (both (decoded_field Required 5 info) (both (decoded_field Required 6 ipc) (Ok tt)))))))
    → identity_format.read bytes ≡ Ok r
unfolding identity_format
identity_read bytes fs r ip host uuid xfer info ipc f a b c x y z e =
    ap (with_value (with_value identity_from)) (bind-Ok (fields_at bytes) (rows_at identity_table bytes) fs f)
    ∙ (rw (a, b, c, ← x, ← y, ← z) (ap Ok (sym e)))

pub read_read : (bytes : List ℕ) (fs : List (ℕ × Wire)) (r : Result ReadOp Path) (header : Option (Result ClientHeader Path)) (offset len : Option ℕ) → fields_at bytes ≡ Ok fs
    → inner client_format.read (joined 1 bytes fs) ≡ Ok header → offset ≡ last_varint 2 fs → len ≡ last_varint 3 fs
    → ((sums : ℕ) → r ≡ with_value read_from (both (decoded_message Required 1 header) (both (decoded_field Required 2 offset) (both (decoded_field Required 3 len) (Ok (sums, tt))))))
    → read_format.read bytes ≡ Ok r
unfolding read_format
read_read bytes fs r header offset len f a x y e =
    ap (with_value (with_value read_from)) (bind-Ok (fields_at bytes) (rows_at read_table bytes) fs f ∙ bind-Ok (inner client_format.read (joined 1 bytes fs)) _ header a)
    ∙ (rw (← x, ← y) (ap Ok (sym (e _))))

pub write_read : (bytes : List ℕ) (fs : List (ℕ × Wire)) (r : Result WriteFields Path) (header : Option (Result ClientHeader Path)) (targets : Result (List NodeRef) Path) (source : Option (Result NodeRef Path)) (stage pipeline min max latest : Option ℕ) (checksum : Option (Result ChecksumFields Path)) → fields_at bytes ≡ Ok fs
    → inner client_format.read (joined 1 bytes fs) ≡ Ok header → each_at node_format.read (texts_under 2 bytes fs) ≡ Ok targets → inner node_format.read (joined 3 bytes fs) ≡ Ok source
    → stage ≡ last_of (number_of (Below 9)) 4 fs → pipeline ≡ last_of (number_of uint32) 5 fs → min ≡ last_varint 6 fs → max ≡ last_varint 7 fs → latest ≡ last_varint 8 fs
    → inner checksum_format.read (joined 9 bytes fs) ≡ Ok checksum
    → r ≡ with_value write_from (both (decoded_message Required 1 header) (both (with_cause (below 2) targets) (both (decoded_message Optional 3 source) (both (decoded_field Required 4 stage) (both (decoded_field Required 5 pipeline) (both (decoded_field Required 6 min) (both (decoded_field Required 7 max) (both (decoded_field Required 8 latest) (both (decoded_message Required 9 checksum) (Ok tt))))))))))
    → write_format.read bytes ≡ Ok r
unfolding write_format
write_read bytes fs r header targets source stage pipeline min max latest checksum f a b c v w x y z k e =
    ap (with_value (with_value write_from)) (bind-Ok (fields_at bytes) (rows_at write_table bytes) fs f)
    ∙ (rw (a, b, c, k, ← v, ← w, ← x, ← y, ← z) (ap Ok (sym e)))

-- The fault of a kind of sums, where all in front of it is whole.
pub write_fault : (bytes : List ℕ) (fs : List (ℕ × Wire)) (header : Option (Result ClientHeader Path)) (targets : Result (List NodeRef) Path) (source : Option (Result NodeRef Path)) (d : WireFault) → fields_at bytes ≡ Ok fs
    → inner client_format.read (joined 1 bytes fs) ≡ Ok header → each_at node_format.read (texts_under 2 bytes fs) ≡ Ok targets → inner node_format.read (joined 3 bytes fs) ≡ Ok source
    → inner checksum_format.read (joined 9 bytes fs) ≡ Err d → write_format.read bytes ≡ Err d
unfolding write_format
write_fault bytes fs header targets source d f a b c k =
    ap (with_value (with_value write_from)) (bind-Ok (fields_at bytes) (rows_at write_table bytes) fs f) ∙ rw (a, b, c, k) refl

pub recovery_read : (bytes : List ℕ) (fs : List (ℕ × Wire)) (r : Result RecoveryOp Path) (step : Option ℕ) (block : Option (Result BlockRef Path)) (recovery new_length : Option ℕ) (targets : Result (List NodeRef) Path) → fields_at bytes ≡ Ok fs
    → step ≡ last_of (number_of (Below 3)) 1 fs → inner block_format.read (joined 2 bytes fs) ≡ Ok block → recovery ≡ last_varint 3 fs → new_length ≡ last_varint 4 fs
    → each_at node_format.read (texts_under 5 bytes fs) ≡ Ok targets
    → r ≡ with_value recovery_from (both (decoded_field Required 1 step) (both (decoded_message Required 2 block) (both (decoded_field Required 3 recovery) (both (decoded_field (Default 0) 4 new_length) (both (with_cause (below 5) targets) (Ok tt))))))
    → recovery_format.read bytes ≡ Ok r
unfolding recovery_format
recovery_read bytes fs r step block recovery new_length targets f x a y z b e =
    ap (with_value (with_value recovery_from)) (bind-Ok (fields_at bytes) (rows_at recovery_table bytes) fs f)
    ∙ (rw (a, b, ← x, ← y, ← z) (ap Ok (sym e)))
