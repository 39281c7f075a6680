-- Each turn counts the next number of the list.
use Rattle.std.proofs.Common.{◌≡◌, ◌<◌, Ok, Err, length, ap, sym, ◌∙◌, arith}
use Rattle.std.specs.Prelude.{fold}
use Rattle.std.proofs.lemmas.Bool.Decides.{nat_tests}
use Rattle.hd_base.specs.Results.{read_of, with_value}
use Rattle.proto_fields.specs.Varint.{varint_at}
use Rattle.ack_codec.specs.Packed.{numbers_from}
use Rattle.ack_codec.specs.Tallies.{counted}
use Rattle.ack_codec.proofs.PackedLemmas.{numbers_from-number, numbers_from-fault, numbers_from-none}
use Rattle.ack_codec.proofs.TallyLemmas.{counted-cons}
use Rattle.ack_codec.proofs.tallies.Tally.with_list.Goals as goal

pub returns-in-Err : goal.returns-in-Err
returns-in-Err c =
    let rest = c.loop-rest.rest.now in
    let some : 0 < length rest = grind (arith, nat_tests) in
    let h : varint_at rest ≡ Err c.in-Err.fault = sym c.read_varint.ensures.exact ∙ ap read_of c.in-Err.is in
    ap Err c.fault_at.ensures
    ∙ (sym (ap (with_value (fold counted c.loop-rest.self)) (numbers_from-fault (length c.args.list.now) rest c.in-Err.fault h some))
    ∙ c.loop-rest.invariant.1)

pub loop-rest-preserved : goal.loop-rest-preserved
loop-rest-preserved c =
    let rest = c.loop-rest.rest.now in
    let some : 0 < length rest = grind (arith, nat_tests) in
    let h : varint_at rest ≡ Ok (c.in-Ok.read.0, c.in-Ok.read.1.now) = sym c.read_varint.ensures.exact ∙ ap read_of c.in-Ok.is in
    let shorter : length c.in-Ok.read.1.now < length rest = c.in-Ok.ensures.rest in (
      omega arith,
      ap (λ t. with_value (fold counted t) (numbers_from (length c.args.list.now) c.in-Ok.read.1.now)) c.add.ensures
          ∙ (counted-cons c.loop-rest.self c.in-Ok.read.0 (numbers_from (length c.args.list.now) c.in-Ok.read.1.now)
          ∙ (sym (ap (with_value (fold counted c.loop-rest.self)) (numbers_from-number (length c.args.list.now) rest c.in-Ok.read.0 c.in-Ok.read.1.now h some))
          ∙ c.loop-rest.invariant.1)),
    )

pub returns : goal.returns
returns c =
    let done : length c.loop-rest.rest.now ≡ 0 = grind (arith, nat_tests) in
    sym (ap (with_value (fold counted c.loop-rest.self)) (numbers_from-none (length c.args.list.now) c.loop-rest.rest.now done)) ∙ c.loop-rest.invariant.1
