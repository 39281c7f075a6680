-- What a writer is once it took an ack of its oldest packet, or the answer to its request.
use Rattle.std.proofs.Common.{◌≡◌, ℕ, suc, ◌≤◌, ◌-◌, Bool, true, false, List, ◌∷◌, drop, length, slice_get, Some, refl, sym, ◌∙◌, ap, subst, arith}
use Rattle.std.specs.Prelude.{max}
use Rattle.std.proofs.lemmas.Bool.{false≢true}
use Rattle.std.proofs.lemmas.Option.{none-some}
use Rattle.hd_base.specs.declared.numbers.Stamp.{Stamp}
use Rattle.packet_codec.specs.declared.packets.Packet.{Packet}
use Rattle.packet_stream.specs.Streams.{StreamState, packet_end, acked_packet, oldest_acked}
use Rattle.writer_core.specs.declared.phases.Phase.{Phase}
use Rattle.writer_core.specs.declared.phases.Phase.TheVariants as phase
use Rattle.writer_core.specs.declared.phases.Setup.{Setup}
use Rattle.writer_core.specs.declared.records.WriterRecord.{WriterRecord}
use Rattle.writer_core.specs.Transitions.{phase_acked}
use Rattle.world.specs.Worlds.{World}
use Rattle.play_completeness.specs.Formed.{LastFormed, FormedWell}
use Rattle.play_completeness.specs.Writers.{AreWhole, StreamWell, OpensWell, StreamsWell, ClosesWell, WellIn, WriterWell}
use Rattle.play_completeness.proofs.MovesKeep.{last-behind}
use Rattle.play_completeness.proofs.WriterUps.{is_acked_in, acked_so}

-- what stays of a writer that takes something
pub record SameWriter (x y : WriterRecord) : Type 0 where
  pub taken : y.taken ≡ x.taken
  pub intake : y.intake ≡ x.intake
  pub members : y.members ≡ x.members
  pub waiting : y.waiting ≡ x.waiting
  pub rule : y.stream.rule ≡ x.stream.rule

pub record HeardWell (w : World) (b : ℕ) (x y : WriterRecord) : Type 0 where
  pub well : WriterWell w b y
  pub same : SameWriter x y

-- THE ANSWER TO THE REQUEST

pub answer-heard : (w : World) (b : ℕ) (x : WriterRecord) (s : Setup) (stamp : Stamp) → StreamWell x.stream → FormedWell x → OpensWell w b x s → HeardWell w b x (record x { phase = phase.Accepted s stamp })
answer-heard w b x s stamp stream formed h = record {
  well = record { stream = stream; phase_is = record { office = h.office; opens = h.opens; waits = h.waits; stand = h.stand; none = h.none } };
  same = record { taken = refl; intake = refl; members = refl; waiting = refl; rule = refl };
}

-- ACKS

module _ (w : World) (b : ℕ) (x : WriterRecord) (p : Packet) (ps : List Packet) (oldest : x.stream.unacked ≡ p ∷ ps) (stream : StreamWell x.stream) (formed : FormedWell x) where
  -- the stream without its oldest packet
  abbrev left : StreamState
  left = record x.stream { acked = max x.stream.acked (packet_end p); unacked = ps }

  left-is : oldest_acked x.stream ≡ left
  left-is =
      ap (λ (qs : List Packet). acked_packet x.stream (slice_get qs 0)) oldest
      ∙ ap (λ (qs : List Packet). record x.stream { acked = max x.stream.acked (packet_end p); unacked = drop 1 qs }) oldest

  abbrev after : Bool → WriterRecord
  after last = record x { stream = left; phase = phase_acked last x.phase }

  after-is : (last : Bool) → after last ≡ acked_so x last
  after-is last = ap (λ (s : StreamState). record x { stream = s; phase = phase_acked last x.phase }) (sym left-is)

  later : (i : ℕ) (q : Packet) → slice_get ps i ≡ Some q → slice_get x.stream.unacked (suc i) ≡ Some q
  later i q at = ap (λ (qs : List Packet). slice_get qs (suc i)) oldest ∙ at

  first : slice_get x.stream.unacked 0 ≡ Some p
  first = ap (λ (qs : List Packet). slice_get qs 0) oldest

  long : length x.stream.unacked ≡ suc (length ps)
  long = ap (λ (qs : List Packet). length qs) oldest

  left-well : StreamWell left
  left-well =
      let in-first : packet_end p ≤ x.stream.sent = formed.inside 0 p first in
      let below : x.stream.acked ≤ x.stream.sent = stream.within in
      record {
        all = λ none.
            let n : length ps ≡ 0 = ap (λ (qs : List Packet). length qs) none in
            let end : packet_end p ≡ x.stream.sent = stream.ends 0 p first (omega (arith, n, long)) in
            both x.stream.acked (packet_end p) x.stream.sent below end;
        ends = λ i q at l. stream.ends (suc i) q (later i q at) (ap suc l ∙ sym long);
        within = most x.stream.acked (packet_end p) x.stream.sent below in-first;
      }
    where
      both : (a e s : ℕ) → a ≤ s → e ≡ s → max a e ≡ s
      both a e s le is = omega (arith, le, is)

      most : (a e s : ℕ) → a ≤ s → e ≤ s → max a e ≤ s
      most a e s le l = omega (arith, le, l)

  same-after : (last : Bool) → SameWriter x (after last)
  same-after last = record { taken = refl; intake = refl; members = refl; waiting = refl; rule = refl }

  -- in a stream
  streams-heard : (n : ℕ) → x.phase ≡ phase.Streaming n → StreamsWell w b x n → HeardWell w b x (after false)
  streams-heard n at h =
      let count : n ≡ length x.stream.unacked = h.sent_all in
      let now : phase_acked false x.phase ≡ phase.Streaming (n - 1) = ap (phase_acked false) at in
      record {
        well = record {
          stream = left-well;
          phase_is = subst (λ (q : Phase). WellIn w b (after false) q) (sym now) (record { office = h.office; sent_all = omega (arith, count, long); waits = h.waits; stand = h.stand });
        };
        same = same-after false;
      }

  -- while a close waits for more
  closes-heard : x.phase ≡ phase.Closing → p.last ≡ false → ClosesWell w b x → HeardWell w b x (after false)
  closes-heard at isnt h =
      let now : phase_acked false x.phase ≡ phase.Closing = ap (phase_acked false) at in
      let rest : LastFormed ps = last-behind p ps isnt (subst LastFormed oldest (formed.closing at)) in
      record {
        well = record {
          stream = left-well;
          phase_is = subst (λ (q : Phase). WellIn w b (after false) q) (sym now) (record {
            office = h.office;
            waits = h.waits;
            some = λ none. none-some rest.packet (sym (ap (λ (qs : List Packet). slice_get qs rest.place) none) ∙ rest.there);
          });
        };
        same = same-after false;
      }

  -- the last one is acked
  ends-heard : x.phase ≡ phase.Closing → ClosesWell w b x → AreWhole w b (after true) → HeardWell w b x (after true)
  ends-heard at h whole = record {
    well = record { stream = left-well; phase_is = record { office = h.office; waits = h.waits; members = whole } };
    same = same-after true;
  }

  -- So it is, by the phase.
  pub ack-heard : (q : Phase) → x.phase ≡ q → is_acked_in q ≡ true → WellIn w b x q → ((n : ℕ) → q ≡ phase.Streaming n → p.last ≡ false) → (p.last ≡ true → AreWhole w b (acked_so x true)) → HeardWell w b x (acked_so x p.last)
  ack-heard (phase.Streaming n) at takes h none whole =
      let isnt : p.last ≡ false = none n refl in
      subst (λ (y : WriterRecord). HeardWell w b x y) (after-is false ∙ ap (acked_so x) (sym isnt)) (streams-heard n at h)
  ack-heard phase.Closing at takes h none whole = go p.last refl
    where
      go : (last : Bool) → p.last ≡ last → HeardWell w b x (acked_so x p.last)
      go false isnt = subst (λ (y : WriterRecord). HeardWell w b x y) (after-is false ∙ ap (acked_so x) (sym isnt)) (closes-heard at isnt h)
      go true ends =
          subst (λ (y : WriterRecord). HeardWell w b x y) (after-is true ∙ ap (acked_so x) (sym ends))
          (ends-heard at h (subst (λ (y : WriterRecord). AreWhole w b y) (sym (after-is true)) (whole ends)))
  ack-heard phase.Closed at takes h none whole = absurd (false≢true takes)
  ack-heard (phase.Wanted s) at takes h none whole = absurd (false≢true takes)
  ack-heard (phase.Stamped s stamp) at takes h none whole = absurd (false≢true takes)
  ack-heard (phase.Requested s stamp) at takes h none whole = absurd (false≢true takes)
  ack-heard (phase.Accepted s stamp) at takes h none whole = absurd (false≢true takes)
  ack-heard phase.Opened at takes h none whole = absurd (false≢true takes)
  ack-heard phase.Finished at takes h none whole = absurd (false≢true takes)
  ack-heard phase.Completed at takes h none whole = absurd (false≢true takes)
  ack-heard (phase.Failed e) at takes h none whole = absurd (false≢true takes)
