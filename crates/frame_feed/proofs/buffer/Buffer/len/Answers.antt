-- The bytes are those of both pieces.
use Rattle.std.proofs.Common.{subst}
use Rattle.hd_base.specs.Bytes.{IsBytes}
use Rattle.frame_feed.proofs.BufferLemmas.{IsBytes-append}
use Rattle.frame_feed.proofs.buffer.Buffer.len.Goals as goal

pub returns-clause-bytes : goal.returns-clause-bytes
returns-clause-bytes c =
    IsBytes-append _ _ (subst IsBytes c.as_slice.ensures c.len_of.ensures.bytes) (subst IsBytes c.as_slice-2.ensures c.len_of-2.ensures.bytes)
