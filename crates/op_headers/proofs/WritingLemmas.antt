-- Fields that are appended one behind the other.
use Rattle.std.proofs.Common.{◌≡◌, ℕ, List, [], ◌++◌, append_assoc, append-nil}
use Rattle.std.specs.List.{flat_map}
use Rattle.proto_fields.specs.Writing.{varint_field}
use Rattle.op_headers.specs.declared.nodes.NodeRef.{NodeRef}
use Rattle.op_headers.specs.Values.{WriteFields}
use Rattle.op_headers.specs.Tables.{if_there, message_field}
use Rattle.op_headers.specs.Formats.{node_format, client_format, checksum_format, write_format}

nine : (o o1 o2 o3 o4 o5 o6 o7 o8 o9 a b c d e f g h i : List ℕ) → o1 ≡ o ++ a → o2 ≡ o1 ++ b → o3 ≡ o2 ++ c → o4 ≡ o3 ++ d → o5 ≡ o4 ++ e → o6 ≡ o5 ++ f → o7 ≡ o6 ++ g → o8 ≡ o7 ++ h → o9 ≡ o8 ++ i → o9 ≡ o ++ (a ++ (b ++ (c ++ (d ++ (e ++ (f ++ (g ++ (h ++ (i ++ [])))))))))
nine o o1 o2 o3 o4 o5 o6 o7 o8 o9 a b c d e f g h i p1 p2 p3 p4 p5 p6 p7 p8 p9 = rw (p9, p8, p7, p6, p5, p4, p3, p2, p1) (simp (append_assoc, append-nil))

pub write_appended : (w : WriteFields) (o o1 o2 o3 o4 o5 o6 o7 o8 o9 : List ℕ) {client : List ℕ} {targets : List NodeRef} {stage pipeline : ℕ} → client ≡ w.client → targets ≡ w.targets → stage ≡ w.stage → pipeline ≡ w.pipeline
    → o1 ≡ o ++ message_field 1 client_format (record { block = w.block; client = client }) → o2 ≡ o1 ++ flat_map (message_field 2 node_format) targets → o3 ≡ o2 ++ if_there (message_field 3 node_format) w.source
    → o4 ≡ o3 ++ varint_field 4 stage → o5 ≡ o4 ++ varint_field 5 pipeline → o6 ≡ o5 ++ varint_field 6 w.min → o7 ≡ o6 ++ varint_field 7 w.max → o8 ≡ o7 ++ varint_field 8 w.latest.0
    → o9 ≡ o8 ++ message_field 9 checksum_format (record { kind = w.kind; chunk = w.chunk }) → o9 ≡ o ++ (write_format).text w
unfolding write_format
write_appended w o o1 o2 o3 o4 o5 o6 o7 o8 o9 c t s p p1 p2 p3 p4 p5 p6 p7 p8 p9 =
    nine o o1 o2 o3 o4 o5 o6 o7 o8 o9 _ _ _ _ _ _ _ _ _ (rw c at p1) (rw t at p2) p3 (rw s at p4) (rw p at p5) p6 p7 p8 p9
