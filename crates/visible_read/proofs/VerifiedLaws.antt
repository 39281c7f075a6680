-- A read that has all bytes has taken what completes it, and has sent its request and CHECKSUM_OK.
use Rattle.std.proofs.Common.{◌≡◌, ℕ, ℤ, List, [], ◌∷◌, ◌++◌, Option, Some, None, option_map, Result, Ok, Err, Vec, Global, inl, inr, refl, sym, ap, subst, ◌∙◌}
use Rattle.std.specs.Result.{IfOk}
use Rattle.hd_base.specs.declared.ends.Conn.{Conn}
use Rattle.hd_base.specs.declared.links.LinkIn as link_in
use Rattle.hd_base.specs.declared.links.LinkOut as link_out
use Rattle.op_headers.specs.declared.ops.Op.TheVariants as op_of
use Rattle.op_headers.specs.declared.ops.ReadOp.{ReadOp}
use Rattle.op_headers.specs.Requests.{op_text}
use Rattle.pipe_turns.specs.Turning.{SendsAlone}
use Rattle.pipe_turns.specs.Acting.{with_half}
use Rattle.pipe_turns.specs.declared.turning.Done.{Done}
use Rattle.pipe_turns.specs.declared.turning.Done.TheVariants as done
use Rattle.read_core.specs.declared.reading.FromNode.{FromNode}
use Rattle.read_core.specs.declared.reading.ReadTurn.{ReadTurn}
use Rattle.read_core.specs.declared.reading.ReadTurn.TheVariants as turn
use Rattle.read_core.specs.Readings.{ReadingState, asked, take_from, after_all}
use Rattle.visible_read.specs.declared.hearing.Came.{Came}
use Rattle.visible_read.specs.declared.hearing.Came.TheVariants as came
use Rattle.visible_read.specs.declared.talking.ReadFault.{ReadFault}
use Rattle.visible_read.specs.declared.talking.ReadStep.{ReadStep}
use Rattle.visible_read.specs.declared.talking.ReadStep.TheVariants as step
use Rattle.visible_read.specs.declared.talking.Talk.{Talk}
use Rattle.visible_read.specs.Talking.{Begins, StepsAs, AsksAs, Listens, Follows, Takes, TakesAs, sums_len, VerifiesAs, Fails, GivesBytes, request_of, checksum_ok, without_request, with_received, with_inward, out_of}
use Rattle.visible_read.specs.ReadingBack.{Place, LeadsOn, Passes, Reads, HasRead}
use Rattle.visible_read.proofs.ReadingLaws.{GoesOn}

-- what was taken one thing later
after-more : (s : ReadingState) (ts : List FromNode) (t : FromNode) → after_all s (ts ++ t ∷ []) ≡ (take_from (after_all s ts) t).reading
after-more s [] t = refl
after-more s (x ∷ ts) t = after-more (take_from s x).reading ts t

piece-more : (ps : Option (List (List ℕ))) (a b : List ℕ) → option_map (λ x. x ++ b ∷ []) (option_map (λ x. x ++ a ∷ []) ps) ≡ option_map (λ x. x ++ a ∷ b ∷ []) ps
piece-more None a b = refl
piece-more (Some ps) a b = ap Some (joins ps)
  where
    joins : (ps : List (List ℕ)) → (ps ++ a ∷ []) ++ b ∷ [] ≡ ps ++ a ∷ b ∷ []
    joins [] = refl
    joins (p ∷ ps) = ap (λ x. p ∷ x) (joins ps)

not-ended : (P : Type 0) (e : ReadFault) (v : Vec ℕ Global) (r : ReadStep) → r ≡ step.Ended (Err e) → r ≡ step.Ended (Ok v) → P
not-ended P e v r a b = cc

module _ {I O : Type 0} (i : link_in.Ghosts I) (o : link_out.Ghosts O) where
  -- what was sent, by whether the request is still to be sent
  abbrev SentSo : ReadOp → O → O → Option (List ℕ) → Type 0
  SentSo op half half' (Some text) = (text ≡ op_text (op_of.Read op)) × (o.sent half' ≡ o.sent half)
  SentSo op half half' None = o.sent half' ≡ option_map (λ ps. ps ++ op_text (op_of.Read op) ∷ []) (o.sent half)

  record Knows (op : ReadOp) (half : O) (p : Place I O) : Type 0 where
    taken : List FromNode
    core : p.talk.core ≡ Some (after_all (asked op) taken)
    sent : SentSo op half p.end.outward (request_of p.talk)

  -- ---- steps that go on

  fails-on : (P : Type 0) (why : ReadFault) (old new : Talk) (end end' : Conn I O) (result : ReadStep) → Fails o why old new end end' result → GoesOn result → P
  fails-on P why old new end end' result x n = absurd (n (Err why) x.ends)

  gives-on : (P : Type 0) (s : ReadingState) (result : ReadStep) → GivesBytes s result → GoesOn result → P
  gives-on P s step.Moved g n = absurd g
  gives-on P s step.Waiting g n = absurd g
  gives-on P s (step.Ended r) g n = absurd (n r refl)

  verifies-on : (P : Type 0) (d : Done) (s : ReadingState) (old new : Talk) (end end' : Conn I O) (result : ReadStep) → VerifiesAs o d s old new end end' result → GoesOn result → P
  verifies-on P (done.Taken b) s old new end end' result x n = gives-on P s result x.gives n
  verifies-on P (done.Refused e b) s old new end end' result x n = gives-on P s result x.gives n
  verifies-on P (done.File b) s old new end end' result x n = gives-on P s result x.gives n
  verifies-on P (done.MirrorFailed b) s old new end end' result x n = gives-on P s result x.gives n
  verifies-on P (done.LinkFailed b) s old new end end' result x n = fails-on P _ old new end end' result x n
  verifies-on P done.Memory s old new end end' result x n = fails-on P _ old new end end' result x n

  asks-on : (op : ReadOp) (half : O) (text : List ℕ) (d : Done) (old new : Talk) (end end' : Conn I O) (sent : O) (result : ReadStep)
      → SendsAlone o (Some text) d end.outward sent → AsksAs o d (without_request old) new (with_half end sent) end' result
      → text ≡ op_text (op_of.Read op) → o.sent end.outward ≡ o.sent half → (taken : List FromNode) → old.core ≡ Some (after_all (asked op) taken)
      → GoesOn result → Knows op half (record { talk = new; end = end' })
  asks-on op half text (done.Taken None) old new end end' sent result s a is same taken core n = record {
    taken = taken;
    core = ap (λ (t : Talk). t.core) a.0 ∙ core;
    sent = subst (λ (r : Talk). SentSo op half end'.outward (request_of r)) (sym a.0)
        (ap (λ (e : Conn I O). o.sent e.outward) a.1 ∙ s.sent ∙ ap (option_map (λ ps. ps ++ text ∷ [])) same
        ∙ ap (λ x. option_map (λ ps. ps ++ x ∷ []) (o.sent half)) is);
  }
  asks-on op half text (done.Taken (Some b)) old new end end' sent result s a is same taken core n = absurd s
  asks-on op half text (done.Refused e b) old new end end' sent result s a is same taken core n = absurd s
  asks-on op half text (done.File b) old new end end' sent result s a is same taken core n = absurd s
  asks-on op half text (done.MirrorFailed b) old new end end' sent result s a is same taken core n = absurd s
  asks-on op half text (done.LinkFailed b) old new end end' sent result s a is same taken core n = fails-on _ _ _ new _ end' result a n
  asks-on op half text done.Memory old new end end' sent result s a is same taken core n = fails-on _ _ _ new _ end' result a n

  turns-on : (op : ReadOp) (half : O) (k : ℤ) (t : ReadTurn) (s : ReadingState) (old new : Talk) (end end' : Conn I O) (result : ReadStep)
      → TakesAs o k t s old new end end' result → GoesOn result → SentSo op half end.outward (request_of old)
      → (taken : List FromNode) → s ≡ after_all (asked op) taken → Knows op half (record { talk = new; end = end' })
  turns-on op half k turn.Goes s old new end end' result x n sent taken is = record {
    taken = taken;
    core = ap (λ (t : Talk). t.core) x.0 ∙ ap Some is;
    sent = subst (λ (r : Talk). SentSo op half end'.outward (request_of r)) (sym x.0)
        (subst (λ (e : Conn I O). SentSo op half e.outward (request_of old)) (sym x.1) sent);
  }
  turns-on op half k turn.Verified s old new end end' result x n sent taken is = verifies-on _ x.done s old new (with_half end x.sent) end' result x.follows n
  turns-on op half k (turn.Fails why) s old new end end' result x n sent taken is = fails-on _ x.told old new end end' result x.fails n

  takes-on : (op : ReadOp) (half : O) (x : FromNode) (c : Option ReadingState) (old new : Talk) (end end' : Conn I O) (result : ReadStep)
      → Takes o x c old new end end' result → GoesOn result → SentSo op half end.outward (request_of old)
      → (taken : List FromNode) → c ≡ Some (after_all (asked op) taken) → Knows op half (record { talk = new; end = end' })
  takes-on op half x None old new end end' result t n sent taken is = absurd t
  takes-on op half x (Some s) old new end end' result (inl t) n sent taken is =
      turns-on op half (sums_len x) (take_from s x).does (take_from s x).reading (out_of old) new end end' result t n sent (taken ++ x ∷ [])
      (ap (λ (y : ReadingState). (take_from y x).reading) (some-same s _ is) ∙ sym (after-more (asked op) taken x))
    where
      some-same : (a b : ReadingState) → Some a ≡ Some b → a ≡ b
      some-same a b e = cc
  takes-on op half x (Some s) old new end end' result (inr t) n sent taken is = fails-on _ _ (out_of old) new end end' result t n

  follows-on : (op : ReadOp) (half : O) (x : Came) (old new : Talk) (end end' : Conn I O) (result : ReadStep)
      → Follows o x old new end end' result → GoesOn result → Knows op half (record { talk = old; end = end }) → Knows op half (record { talk = new; end = end' })
  follows-on op half (came.Taken x) old new end end' result f n k = takes-on op half x old.core old new end end' result f n k.sent k.taken k.core
  follows-on op half came.NotYet old new end end' result f n k =
      subst (λ (t : Talk). Knows op half (record { talk = t; end = end' })) (sym f.0) (subst (λ (e : Conn I O). Knows op half (record { talk = old; end = e })) (sym f.1) k)
  follows-on op half came.LinkFailed old new end end' result f n k = fails-on _ _ old new end end' result f n
  follows-on op half came.Memory old new end end' result f n k = fails-on _ _ old new end end' result f n

  listens-on : (op : ReadOp) (half : O) (old new : Talk) (end end' : Conn I O) (result : ReadStep)
      → Listens i o old new end end' result → GoesOn result → Knows op half (record { talk = old; end = end }) → Knows op half (record { talk = new; end = end' })
  listens-on op half old new end end' result l n k =
      follows-on op half l.found (with_received old l.received) new (with_inward end l.half) end' result l.follows n
      (record { taken = k.taken; core = k.core; sent = k.sent })

  step-on : (op : ReadOp) (half : O) (old new : Talk) (end end' : Conn I O) (result : ReadStep) (r : Option (List ℕ)) → request_of old ≡ r
      → StepsAs i o r old new end end' result → GoesOn result → Knows op half (record { talk = old; end = end }) → Knows op half (record { talk = new; end = end' })
  step-on op half old new end end' result None is s n k = listens-on op half old new end end' result s n k
  step-on op half old new end end' result (Some text) is s n k =
      let known : SentSo op half end.outward (Some text) = subst (SentSo op half end.outward) is k.sent in
      asks-on op half text s.done old new end end' s.sent result (subst (λ t. SendsAlone o t s.done end.outward s.sent) is s.sends) s.follows known.0 known.1 k.taken k.core n

  goes-moved : GoesOn step.Moved
  goes-moved x e = cc

  goes-waiting : GoesOn step.Waiting
  goes-waiting x e = cc

  leads-on : (op : ReadOp) (half : O) (a b : Place I O) → LeadsOn i o a b → Knows op half a → Knows op half b
  leads-on op half a b (inl s) k = step-on op half a.talk b.talk a.end b.end step.Moved _ refl s goes-moved k
  leads-on op half a b (inr s) k = step-on op half a.talk b.talk a.end b.end step.Waiting _ refl s goes-waiting k

  passes-knows : (op : ReadOp) (half : O) (a b : Place I O) (places : List (Place I O)) → Passes i o a places b → Knows op half a → Knows op half b
  passes-knows op half a b [] p k = subst (Knows op half) (sym p) k
  passes-knows op half a b (x ∷ xs) p k = passes-knows op half x b xs p.1 (leads-on op half a x p.0 k)

  -- ---- the last step

  last-verifies : (op : ReadOp) (half : O) (s : ReadingState) (x : FromNode) (taken : List FromNode) (d : Done) (old new : Talk) (end end' : Conn I O) (sent : O) (v : Vec ℕ Global)
      → SendsAlone o (Some checksum_ok) d end.outward sent → VerifiesAs o d (take_from s x).reading old new (with_half end sent) end' (step.Ended (Ok v))
      → o.sent end.outward ≡ option_map (λ ps. ps ++ op_text (op_of.Read op) ∷ []) (o.sent half)
      → s ≡ after_all (asked op) taken → (take_from s x).does ≡ turn.Verified → HasRead o op half end'.outward v.items
  last-verifies op half s x taken (done.Taken None) old new end end' sent v p f was is verified = record {
    taken = taken;
    last = x;
    verified = ap (λ (y : ReadingState). (take_from y x).does) (sym is) ∙ verified;
    bytes_are = f.gives ∙ ap (λ (y : ReadingState). (take_from y x).reading.bytes) is;
    sent = f.shuts.half.sent ∙ p.sent ∙ ap (option_map (λ ps. ps ++ checksum_ok ∷ [])) was ∙ piece-more (o.sent half) (op_text (op_of.Read op)) checksum_ok;
  }
  last-verifies op half s x taken (done.Taken (Some b)) old new end end' sent v p f was is verified = absurd p
  last-verifies op half s x taken (done.Refused e b) old new end end' sent v p f was is verified = absurd p
  last-verifies op half s x taken (done.File b) old new end end' sent v p f was is verified = absurd p
  last-verifies op half s x taken (done.MirrorFailed b) old new end end' sent v p f was is verified = absurd p
  last-verifies op half s x taken (done.LinkFailed b) old new end end' sent v p f was is verified = not-ended _ _ v _ f.ends refl
  last-verifies op half s x taken done.Memory old new end end' sent v p f was is verified = not-ended _ _ v _ f.ends refl

  last-turns : (op : ReadOp) (half : O) (s : ReadingState) (x : FromNode) (taken : List FromNode) (n : ℤ) (t : ReadTurn) (old new : Talk) (end end' : Conn I O) (v : Vec ℕ Global)
      → TakesAs o n t (take_from s x).reading old new end end' (step.Ended (Ok v))
      → o.sent end.outward ≡ option_map (λ ps. ps ++ op_text (op_of.Read op) ∷ []) (o.sent half)
      → s ≡ after_all (asked op) taken → (take_from s x).does ≡ t → HasRead o op half end'.outward v.items
  last-turns op half s x taken n turn.Goes old new end end' v f was is does = let e : step.Ended (Ok v) ≡ step.Moved = f.2 in cc
  last-turns op half s x taken n turn.Verified old new end end' v f was is does = last-verifies op half s x taken f.done old new end end' f.sent v f.sends f.follows was is does
  last-turns op half s x taken n (turn.Fails why) old new end end' v f was is does = not-ended _ _ v _ f.fails.ends refl

  last-takes : (op : ReadOp) (half : O) (x : FromNode) (taken : List FromNode) (c : Option ReadingState) (old new : Talk) (end end' : Conn I O) (v : Vec ℕ Global)
      → Takes o x c old new end end' (step.Ended (Ok v))
      → o.sent end.outward ≡ option_map (λ ps. ps ++ op_text (op_of.Read op) ∷ []) (o.sent half)
      → c ≡ Some (after_all (asked op) taken) → HasRead o op half end'.outward v.items
  last-takes op half x taken None old new end end' v t was is = absurd t
  last-takes op half x taken (Some s) old new end end' v (inl t) was is = last-turns op half s x taken (sums_len x) (take_from s x).does (out_of old) new end end' v t was (some-is s _ is) refl
    where
      some-is : (a b : ReadingState) → Some a ≡ Some b → a ≡ b
      some-is a b e = cc
  last-takes op half x taken (Some s) old new end end' v (inr t) was is = not-ended _ _ v _ t.ends refl

  last-follows : (op : ReadOp) (half : O) (x : Came) (taken : List FromNode) (old new : Talk) (end end' : Conn I O) (v : Vec ℕ Global)
      → Follows o x old new end end' (step.Ended (Ok v))
      → o.sent end.outward ≡ option_map (λ ps. ps ++ op_text (op_of.Read op) ∷ []) (o.sent half)
      → old.core ≡ Some (after_all (asked op) taken) → HasRead o op half end'.outward v.items
  last-follows op half (came.Taken x) taken old new end end' v f was is = last-takes op half x taken old.core old new end end' v f was is
  last-follows op half came.NotYet taken old new end end' v f was is = let e : step.Ended (Ok v) ≡ step.Waiting = f.2 in cc
  last-follows op half came.LinkFailed taken old new end end' v f was is = not-ended _ _ v _ f.ends refl
  last-follows op half came.Memory taken old new end end' v f was is = not-ended _ _ v _ f.ends refl

  last-asks : (P : Type 0) (d : Done) (old new : Talk) (end end' : Conn I O) (v : Vec ℕ Global) → AsksAs o d old new end end' (step.Ended (Ok v)) → P
  last-asks P (done.Taken b) old new end end' v f = let e : step.Ended (Ok v) ≡ step.Moved = f.2 in cc
  last-asks P (done.Refused x b) old new end end' v f = let e : step.Ended (Ok v) ≡ step.Moved = f.2 in cc
  last-asks P (done.File b) old new end end' v f = let e : step.Ended (Ok v) ≡ step.Moved = f.2 in cc
  last-asks P (done.MirrorFailed b) old new end end' v f = let e : step.Ended (Ok v) ≡ step.Moved = f.2 in cc
  last-asks P (done.LinkFailed b) old new end end' v f = not-ended _ _ v _ f.ends refl
  last-asks P done.Memory old new end end' v f = not-ended _ _ v _ f.ends refl

  last-step : (op : ReadOp) (half : O) (old new : Talk) (end end' : Conn I O) (v : Vec ℕ Global) (r : Option (List ℕ)) → request_of old ≡ r
      → StepsAs i o r old new end end' (step.Ended (Ok v)) → Knows op half (record { talk = old; end = end }) → HasRead o op half end'.outward v.items
  last-step op half old new end end' v None is s k =
      last-follows op half s.found k.taken (with_received old s.received) new (with_inward end s.half) end' v s.follows
      (subst (SentSo op half end.outward) is k.sent) k.core
  last-step op half old new end end' v (Some text) is s k = last-asks _ s.done (without_request old) new (with_half end s.sent) end' v s.follows

  begins-known : (op : ReadOp) (t : Talk) (end : Conn I O) → Begins op t → Knows op end.outward (record { talk = t; end = end })
  begins-known op t end b = record {
    taken = [];
    core = b.core;
    sent = subst (SentSo op end.outward end.outward) (sym b.request) (refl, refl);
  }

  pub has-read : (op : ReadOp) (end end' : Conn I O) (result : Result (Vec ℕ Global) ReadFault) → Reads i o op end end' (step.Ended result)
      → IfOk result (λ v. HasRead o op end.outward end'.outward v.items)
  has-read op end end' (Ok v) r =
      last-step op end.outward r.before.talk r.over r.before.end end' v _ refl r.ends
      (passes-knows op end.outward (record { talk = r.first; end = end }) r.before r.comes.places r.comes.passes (begins-known op r.first end r.begins))
  has-read op end end' (Err e) r = tt
