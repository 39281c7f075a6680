-- The written spelling of a response: fields in ascending number, and least varints.
use Rattle.std.specs.Prelude.{◌≡◌, ℕ, ◌^◌, ◌<◌, ◌≤◌, List, [], ◌∷◌, ◌++◌, length, drop, Option, Some, None, IsSome, Ok}
use Rattle.hd_base.specs.Wire.{status_number, IsStatus}
use Rattle.proto_fields.specs.Frames.{limit}
use Rattle.proto_fields.specs.Varint.{least_varint}
use Rattle.proto_fields.specs.Writing.{varint_field, bytes_field}
use Rattle.ack_codec.specs.declared.responses.Response.{Response}
use Rattle.ack_codec.specs.Responses.{response_at}

-- a kind of sums, and how many bytes a chunk has
unfoldable pub checksum_text : ℕ → ℕ → List ℕ
checksum_text kind chunk = varint_field 1 kind ++ varint_field 2 chunk

-- kind, chunk and offset of the sums of a read's answer
unfoldable pub info_text : ℕ × ℕ × ℕ → List ℕ
info_text sums = bytes_field 1 (checksum_text sums.0 sums.1) ++ varint_field 2 sums.2

-- firstBadLink, also where it is empty, where no sums begin; and readOpChecksumInfo where they do
unfoldable pub body_text : Option (ℕ × ℕ × ℕ) → List ℕ → List ℕ
body_text None first_bad = bytes_field 2 first_bad
body_text (Some sums) first_bad = bytes_field 4 (info_text sums)

-- message, where it isn't empty
unfoldable pub reason_text : List ℕ → List ℕ
reason_text [] = []
reason_text (b ∷ bs) = bytes_field 5 (b ∷ bs)

unfoldable pub response_message : Response → List ℕ
response_message r = varint_field 1 (status_number r.status) ++
    (body_text r.sums_from r.first_bad ++ reason_text r.message)

-- The kind of sums is one of the three.
abbrev pub HasListedKind : Option (ℕ × ℕ × ℕ) → Type 0
HasListedKind None = Unit {0}
HasListedKind (Some sums) = sums.0 ≤ 2

-- A chunk's length has 32 bits, and an offset 64.
abbrev pub HasWidths : Option (ℕ × ℕ × ℕ) → Type 0
HasWidths None = Unit {0}
HasWidths (Some sums) = (sums.1 < 2 ^ 32) × (sums.2 < 2 ^ 64)

-- The response has a written spelling: its status is no Other in place of one that is listed, where sums begin there is no
-- firstBadLink and their kind is listed, and the message is within the limit.
pub record IsEncodable (r : Response) : Type 0 where
  pub listed : IsStatus r.status
  pub no_link : IsSome r.sums_from → r.first_bad ≡ []
  pub listed_kind : HasListedKind r.sums_from
  pub within_limit : length (response_message r) ≤ limit

abbrev pub response_text : Response → List ℕ
response_text r = least_varint (length (response_message r)) ++ response_message r

-- Where the old bytes end the response is read, whatever follows the new bytes.
abbrev pub ReadsResponse : List ℕ → List ℕ → Response → Type 0
ReadsResponse old new r = (rest : List ℕ) →
    response_at (drop (length old) (new ++ rest)) ≡ Ok (r, length (response_text r))
