-- A walk over a message that keeps the last values of the header's fields.
use Rattle.std.proofs.Common.{◌≡◌, ℕ, List, [], ◌∷◌, refl, ◌∙◌}
use Rattle.std.specs.List.{fold}
use Rattle.proto_fields.specs.declared.reading.Wire.{Wire}
use Rattle.hd_base.specs.Results.{with_value}
use Rattle.proto_fields.specs.Fields.{fields_at, walked}
use Rattle.proto_fields.specs.Values.{newer, varint_of, fixed64_of, fixed32_of}
use Rattle.hd_base.proofs.ResultLaws.{with_value-same}
use Rattle.proto_fields.proofs.ValueLemmas.{fold_newer_last}
use Rattle.packet_codec.specs.declared.headers.Found.{Found}
use Rattle.packet_codec.specs.Headers.{found_in, none_found, newer_found}

-- the five values side by side
fold-newer_found : (found : Found) (fs : List (ℕ × Wire)) → fold newer_found found fs ≡ record {
  offset = fold (newer fixed64_of 1) found.offset fs;
  seqno = fold (newer fixed64_of 2) found.seqno fs;
  last = fold (newer varint_of 3) found.last fs;
  data_len = fold (newer fixed32_of 4) found.data_len fs;
  sync = fold (newer varint_of 5) found.sync fs;
}
fold-newer_found found [] = refl
fold-newer_found found (f ∷ fs) = fold-newer_found (newer_found found f) fs

fold_found : (fs : List (ℕ × Wire)) → fold newer_found none_found fs ≡ found_in fs
fold_found fs =
    fold-newer_found none_found fs
    ∙ rw (fold_newer_last fixed64_of 1 fs, fold_newer_last fixed64_of 2 fs, fold_newer_last varint_of 3 fs, fold_newer_last fixed32_of 4 fs, fold_newer_last varint_of 5 fs) refl

-- what the walk over a whole message keeps
pub walked_found : (bytes : List ℕ) → walked newer_found none_found bytes 0 ≡ with_value found_in (fields_at bytes)
walked_found bytes = with_value-same _ _ fold_found (fields_at bytes)
