-- How the mirror is reached, by what the parts of it say.
use Rattle.std.proofs.Common.{◌≡◌, ◌==◌, ◌≤◌, ℕ, nat_le, List, [], ◌∷◌, length, Bool, true, false, if◌then◌else◌, Option, Some, None, IfSome, IsErrOf, Ok, Err, inr, refl, ◌∙◌, arith}
use Rattle.std.proofs.lemmas.Bool.Decides.{nat_tests}
use Rattle.hd_base.specs.declared.ends.RoadError.TheVariants.{NotListening}
use Rattle.hd_base.specs.declared.links.LinkError.{LinkError}
use Rattle.hd_base.specs.declared.links.LinkError.TheVariants as link_error
use Rattle.hd_base.specs.Channels.{Plain}
use Rattle.link_pieces.specs.Pieces.{SendsNothing, SendsPiece, FailsToSend, IsSending}
use Rattle.member_core.specs.declared.requests.TheConstants.{MAX_PORT}
use Rattle.member_core.specs.Requests.{request_to, mirror_request}
use Rattle.node_refs.specs.NodeRefs.{ref_of}
use Rattle.op_headers.specs.declared.nodes.NodeRef.{NodeRef}
use Rattle.hd_base.specs.declared.numbers.NodeId.{NodeId}
use Rattle.hd_base.specs.declared.links.LinkIn as link_in
use Rattle.hd_base.specs.declared.links.LinkOut as link_out
use Rattle.hd_base.specs.declared.roads.Roads as roads
use Rattle.op_headers.specs.Values.{WriteFields}
use Rattle.pipe_setup.specs.Requests.{request_text, first_port, written}
use Rattle.pipe_setup.specs.declared.reaching.Reached.{Reached}
use Rattle.pipe_setup.specs.declared.reaching.Reached.TheVariants as reached
use Rattle.pipe_setup.specs.Reaching.{Reaches, ReachesPort}

module _ {R I O : Type 0} (r : roads.Ghosts R I O) (i : link_in.Ghosts I) (o : link_out.Ghosts O) where
  -- A port was reached with the request to the mirror.
  pub reaches_with : (node : NodeId) (w : WriteFields) (text : List ℕ) (old new : R) (result : Reached I O) → request_text node w ≡ Some text
      → ReachesPort r i o text (first_port w.targets) old new result → Reaches r i o node w old new result
  reaches_with node w text old new (reached.Asked end) is p = record { text = text; is = is; asked = p }
  reaches_with node w text old new (reached.Unsent end) is p = p
  reaches_with node w text old new reached.NotDialled is p = inr p
  reaches_with node w text old new reached.Memory is p = p

-- A dial that was answered is of a port on which somebody listens.
no_error : {T : Type 0} (x : T) → IsErrOf (Ok x) NotListening → ⊥
no_error x h = let e : Ok x ≡ Err NotListening = h in cc

heard_by : {T : Type 0} (x : T) (p : Plain) (port : ℕ) (listens : Bool) → p.listening port ≡ listens → (p.listening port ≡ false → IsErrOf (Ok x) NotListening) → p.listening port ≡ true
heard_by x p port true is h = is
heard_by x p port false is h = absurd (no_error x (h is))

pub listened : {T : Type 0} (x : T) (plain : Option Plain) (port : ℕ) → IfSome plain (λ p. p.listening port ≡ false → IsErrOf (Ok x) NotListening) → IfSome plain (λ p. p.listening port ≡ true)
listened x None port h = tt
listened x (Some p) port h = heard_by x p port (p.listening port) refl h

-- THE PORT

tested : (b : Bool) (x : WriteFields) (text : List ℕ) → written (if b then Some x else None) ≡ Some text → b ≡ true
tested true x text is = refl
tested false x text is = cc

fits : (n m : ℕ) → nat_le n m ≡ true → n ≤ m
fits n m is = grind (arith, nat_tests)

port_of : (source : NodeRef) (w : WriteFields) (targets : List NodeRef) (text : List ℕ) → written (request_to source w targets) ≡ Some text → first_port targets ≤ MAX_PORT
port_of source w [] text is = omega arith
port_of source w (mirror ∷ rest) text is = fits mirror.xfer MAX_PORT (tested (nat_le mirror.xfer MAX_PORT) _ text is)

-- A request that goes on names a port.
pub port_is_one : (node : NodeId) (w : WriteFields) (text : List ℕ) → request_text node w ≡ Some text → first_port w.targets ≤ MAX_PORT
unfolding request_text mirror_request
port_is_one node w text is = port_of (ref_of node) w w.targets text is

pub some_targets : (targets : List NodeRef) → (length targets == 0) ≡ false → targets ≡ [] → ⊥
some_targets [] is none = cc
some_targets (mirror ∷ rest) is none = cc

-- SENDING AFTER TAKING ROOM

module _ {O : Type 0} (o : link_out.Ghosts O) where
  pub quiet_then_sends : (piece : List ℕ) (a b c : O) → SendsNothing o a b → SendsPiece o piece b c → SendsPiece o piece a c
  quiet_then_sends piece a b c q s = record {
    sent = rw (← q.sent) s.sent;
    lost = rw (← q.sent, ← q.lost, ← q.kept.shut) s.lost;
    kept = record { flushed = s.kept.flushed ∙ q.kept.flushed; shut = s.kept.shut ∙ q.kept.shut; never_falls = omega (arith, q.kept.never_falls, s.kept.never_falls) };
  }

  pub quiet_then_fails : (a b c : O) → SendsNothing o a b → FailsToSend o b c → FailsToSend o a c
  quiet_then_fails a b c q f = record {
    sent = f.sent ∙ q.sent;
    lost = rw (← q.sent, ← q.lost) f.lost;
    kept = record { flushed = f.kept.flushed ∙ q.kept.flushed; shut = f.kept.shut ∙ q.kept.shut; never_falls = omega (arith, q.kept.never_falls, f.kept.never_falls) };
    rose = omega (arith, q.kept.never_falls, f.rose);
  }

  -- an error of a sending is a failure of the link
  pub failed_to_send : (piece : List ℕ) (a b : O) (e : LinkError) → IsSending o piece a b (Err e) → FailsToSend o a b
  failed_to_send piece a b link_error.Failed s = s
  failed_to_send piece a b link_error.Memory s = absurd s
