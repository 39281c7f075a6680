-- Roads that know the connections of a member know its ends.
use Rattle.std.proofs.Common.{◌≡◌, Option, Some, None, option_map, IfSome, subst}
use Rattle.hd_base.specs.Channels.{Plain}
use Rattle.hd_base.specs.Ends.{IsKnown}
use Rattle.hd_base.specs.declared.ends.Conn.{Conn}
use Rattle.hd_base.specs.declared.numbers.ConnId.{ConnId}
use Rattle.pipe_member.specs.declared.member.Member.{Member}
use Rattle.pipe_member.specs.Exchanges.{AreKnown}

known_mirror : {I O : Type 0} (plain : Option Plain) (mirror : Option (Conn I O)) (conn : Option ConnId) → conn ≡ option_map (λ end. end.id) mirror → IfSome conn (λ c. IsKnown plain c.0) → IfSome mirror (λ end. IsKnown plain end.id.0)
known_mirror plain None conn e k = tt
known_mirror plain (Some end) conn e k = subst (λ (c : Option ConnId). IfSome c (λ d. IsKnown plain d.0)) e k

pub known_ends : {I O : Type 0} (plain : Option Plain) (m : Member I O) (conn : ConnId) (mirror : Option ConnId) → conn ≡ m.upstream.id → mirror ≡ option_map (λ end. end.id) m.mirror → IsKnown plain conn.0 → IfSome mirror (λ c. IsKnown plain c.0) → AreKnown plain m
known_ends plain m conn mirror e f k l = (subst (λ (c : ConnId). IsKnown plain c.0) e k, known_mirror plain m.mirror mirror f l)
