-- No bytes are a front of a message, of any kind.
use Rattle.std.specs.Prelude.{◌≡◌, ℕ, ◌≤◌, List, [], ◌∷◌, ◌++◌, refl}
use Rattle.std.proofs.Common.{arith}
use Rattle.proto_fields.specs.Varint.{SpellsVarint}
use Rattle.proto_fields.specs.Frames.{limit, IsCutFrame}
use Rattle.frame_feed.specs.Framings.{IsCut}
use Rattle.frame_feed.specs.Kinds.{requests, packets, acks, responses}

pub packets_empty : IsCut packets.framing []
packets_empty = record {
  missing = 0 ∷ 0 ∷ 0 ∷ 4 ∷ 0 ∷ 0 ∷ [];
  some = omega arith;
  whole = record { lengths = omega arith; size = refl };
  lawful = λ h. omega arith;
}

no_varint : (text rest : List ℕ) (n : ℕ) → [] ≡ text ++ rest → SpellsVarint text n → n ≤ limit
no_varint [] rest n parts spelled = absurd spelled.shape
no_varint (x ∷ text) rest n parts spelled = cc

prefixed_empty : IsCutFrame []
prefixed_empty = record {
  missing = 0 ∷ [];
  some = omega arith;
  whole = record {
    prefix = 0 ∷ [];
    message = [];
    parts = refl;
    spelled = record { shape = omega arith; short = omega arith; value = refl };
  };
  lawful = λ n rest b. no_varint b.text rest n b.parts b.spelled;
}

pub acks_empty : IsCut acks.framing []
acks_empty = prefixed_empty

pub responses_empty : IsCut responses.framing []
responses_empty = prefixed_empty

pub requests_empty : IsCut requests.framing []
unfolding prefixed_empty
requests_empty = record {
  missing = 0 ∷ 28 ∷ 80 ∷ 0 ∷ [];
  some = omega arith;
  whole = record { head = 0 ∷ 28 ∷ 80 ∷ []; rest = 0 ∷ []; parts = refl; three = refl; framed = prefixed_empty.whole };
  version = λ high low rest parts. cc;
  code = λ high low number rest parts. cc;
  lawful = λ high low number rest parts. cc;
}
