-- The messages that a feed gives are those of the stream.
use Rattle.std.proofs.Common.{◌≡◌, ℕ, List, [], ◌∷◌, ◌++◌, length, drop, refl, sym, ap, ◌∙◌, append_assoc, append-nil}
use Rattle.std.proofs.Math.Seq.{drop-append_seam}
use Rattle.hd_base.proofs.ResultLaws.{ok_pair}
use Rattle.frame_feed.specs.declared.notes.Message.{Message}
use Rattle.frame_feed.specs.declared.notes.Message.TheVariants as message
use Rattle.frame_feed.specs.Kinds.{Kind, IsSound, requests, packets, acks, responses, answers, read_statuses}
use Rattle.frame_feed.specs.KindLaws.{requests_sound, packets_sound, acks_sound, responses_sound, answers_sound, read_statuses_sound}
use Rattle.frame_feed.specs.Feeds.{FeedState, holding}
use Rattle.frame_feed.specs.Streams.{Spells, IsStream, IsSameKind, AreSameKinds, Turn, Push, Give, Nothing, Goes, Runs, pushed, given, SplitsInto}

-- ---- one message at the front

-- At the front of bytes stands at most one message of a kind.
unique : {M : Type 0} (kind : Kind M) (m n : M) (a b rest more : List ℕ) → IsSound kind → kind.spells m a → kind.spells n b → a ++ rest ≡ b ++ more → (m ≡ n) × (rest ≡ more)
unique kind m n a b rest more sound s t e =
    let same = ok_pair m n (length a) (length b) (sym (sound.only m a rest s) ∙ (ap kind.reads e ∙ sound.only n b more t)) in (
      same.0,
      sym (drop-append_seam a rest) ∙ (ap (λ k. drop k (a ++ rest)) same.1 ∙ (ap (drop (length b)) e ∙ drop-append_seam b more)),
    )

unique_message : (m n : Message) (a b rest more : List ℕ) → IsSameKind m n → Spells m a → Spells n b → a ++ rest ≡ b ++ more → (m ≡ n) × (rest ≡ more)
unique_message (message.Op m) (message.Op n) a b rest more k s t e = let u = unique requests m n a b rest more requests_sound s t e in (ap message.Op u.0, u.1)
unique_message (message.Packet m) (message.Packet n) a b rest more k s t e = let u = unique packets m n a b rest more packets_sound s t e in (ap message.Packet u.0, u.1)
unique_message (message.Ack m) (message.Ack n) a b rest more k s t e = let u = unique acks m n a b rest more acks_sound s t e in (ap message.Ack u.0, u.1)
unique_message (message.Response m) (message.Response n) a b rest more k s t e = let u = unique responses m n a b rest more responses_sound s t e in (ap message.Response u.0, u.1)
unique_message (message.ReadStatus m) (message.ReadStatus n) a b rest more k s t e = let u = unique read_statuses m n a b rest more read_statuses_sound s t e in (ap message.ReadStatus u.0, u.1)
unique_message (message.Answer m) (message.Answer n) a b rest more k s t e = let u = unique answers m n a b rest more answers_sound s t e in (ap message.Answer u.0, u.1)
unique_message m n a b rest more k s t e = absurd k

-- a message that a turn gives is spelled at the front
record Gives (m : Message) (old new : List ℕ) : Type 0 where
  text : List ℕ
  spelled : Spells m text
  front : old ≡ text ++ new

gives : (m : Message) (old new : FeedState) → Goes (Give m) old new → Gives m old.rest new.rest
gives (message.Op m) old new t = record { text = t.text; spelled = t.spelled; front = t.front }
gives (message.Packet m) old new t = record { text = t.text; spelled = t.spelled; front = t.front }
gives (message.Ack m) old new t = record { text = t.text; spelled = t.spelled; front = t.front }
gives (message.Response m) old new t = record { text = t.text; spelled = t.spelled; front = t.front }
gives (message.ReadStatus m) old new t = record { text = t.text; spelled = t.spelled; front = t.front }
gives (message.Answer m) old new t = record { text = t.text; spelled = t.spelled; front = t.front }

-- ---- runs

-- what was held and what is pushed is what is given, and then what is held
run_splits : (turns : List Turn) (old end : FeedState) → Runs turns old end → SplitsInto (old.rest ++ pushed turns) (given turns) end.rest
run_splits [] old end same = record { text = []; stream = refl; parts = append-nil old.rest ∙ ap FeedState.rest same }
run_splits (Push piece ∷ turns) old end p =
    let later = run_splits turns p.next end p.behind in
    let parts : old.rest ++ (piece ++ pushed turns) ≡ p.next.rest ++ pushed turns = sym (append_assoc old.rest piece (pushed turns)) ∙ ap (λ l. l ++ pushed turns) (sym p.goes) in
    record { text = later.text; stream = later.stream; parts = parts ∙ later.parts }
run_splits (Give m ∷ turns) old end p =
    let g = gives m old p.next p.goes in
    let later = run_splits turns p.next end p.behind in
    record {
      text = g.text ++ later.text;
      stream = record { text = g.text; rest = later.text; spelled = g.spelled; parts = refl; behind = later.stream };
      parts = ap (λ l. l ++ pushed turns) g.front
          ∙ (append_assoc g.text p.next.rest (pushed turns)
          ∙ (ap (λ l. g.text ++ l) later.parts ∙ sym (append_assoc g.text later.text end.rest)));
    }
run_splits (Nothing ∷ turns) old end p =
    let later = run_splits turns p.next end p.behind in
    record { text = later.text; stream = later.stream; parts = ap (λ l. l ++ pushed turns) (sym p.goes) ∙ later.parts }

-- no other messages of these kinds are
run_only : (turns : List Turn) (old end : FeedState) (ms : List Message) (text rest : List ℕ) → Runs turns old end → IsStream ms text → old.rest ++ pushed turns ≡ text ++ rest → AreSameKinds ms (given turns) → (ms ≡ given turns) × (rest ≡ end.rest)
run_only [] old end [] text rest same s e k = (refl, sym (sym (append-nil old.rest) ∙ (e ∙ ap (λ l. l ++ rest) s)) ∙ ap FeedState.rest same)
run_only [] old end (m ∷ ms) text rest same s e k = absurd k
run_only (Push piece ∷ turns) old end ms text rest p s e k =
    let parts : p.next.rest ++ pushed turns ≡ old.rest ++ (piece ++ pushed turns) = ap (λ l. l ++ pushed turns) p.goes ∙ append_assoc old.rest piece (pushed turns) in
    run_only turns p.next end ms text rest p.behind s (parts ∙ e) k
run_only (Nothing ∷ turns) old end ms text rest p s e k = run_only turns p.next end ms text rest p.behind s (ap (λ l. l ++ pushed turns) p.goes ∙ e) k
run_only (Give m ∷ turns) old end [] text rest p s e k = absurd k
run_only (Give m ∷ turns) old end (n ∷ ns) text rest p s e k =
    let g = gives m old p.next p.goes in
    let here : s.text ++ (s.rest ++ rest) ≡ g.text ++ (p.next.rest ++ pushed turns) =
    sym (append_assoc s.text s.rest rest)
    ∙ (ap (λ l. l ++ rest) (sym s.parts) ∙ (sym e ∙ (ap (λ l. l ++ pushed turns) g.front ∙ append_assoc g.text p.next.rest (pushed turns)))) in
    let u = unique_message n m s.text g.text (s.rest ++ rest) (p.next.rest ++ pushed turns) k.0 s.spelled g.spelled here in
    let later = run_only turns p.next end ns s.rest rest p.behind s.behind (sym u.1) k.1 in
    (ap (λ x. x ∷ ns) u.0 ∙ ap (λ l. m ∷ l) later.0, later.1)

pub given_is_stream : (turns : List Turn) (end : FeedState) → Runs turns (holding []) end → SplitsInto (pushed turns) (given turns) end.rest
given_is_stream turns end r = run_splits turns (holding []) end r

pub given_only : (turns : List Turn) (end : FeedState) (ms : List Message) (rest : List ℕ) → Runs turns (holding []) end → SplitsInto (pushed turns) ms rest → AreSameKinds ms (given turns) → (ms ≡ given turns) × (rest ≡ end.rest)
given_only turns end ms rest r s k = run_only turns (holding []) end ms s.text rest r s.stream s.parts k
