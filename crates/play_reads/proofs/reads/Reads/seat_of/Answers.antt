-- Where a lower end stands.
use Rattle.std.proofs.Common.{◌<◌, ◌≤◌, ℕ, length, Some, None, refl, ap, ◌∙◌, sym, subst, arith}
use Rattle.play_nodes.proofs.PlaceLaws.{none_so, element_some, element_within, same_some}
use Rattle.play_reads.proofs.DueLaws.{server_at, server_within, no_server}
use Rattle.play_reads.proofs.reads.Reads.seat_of.Goals as goal

never_within : (n c : ℕ) → n ≤ c → c < n → ⊥
never_within n c le lt = omega (arith, le, lt)

pub returns-in_default : goal.returns-in_default
returns-in_default g c = λ at found up h.
    absurd (no_server c.args.self.now.servers.items c.args.conn.0 (server_at c.as_slice.result.now c.args.self.now.servers.items c.args.conn.0 c.server_of.result None c.as_slice.ensures.value (none_so c.server_of.result c.in_default.not-Some) c.server_of.ensures) up h)

pub returns-then-conn-len : goal.returns-then-conn-len
returns-then-conn-len g c = λ at found up h.
    absurd (never_within (length c.args.nodes.now.connections.items) c.args.conn.0 (omega (arith, c.if-conn-len.true, c.len.ensures)) (element_within c.args.nodes.now.connections.items c.args.conn.0 at found))

pub returns-then-number-len : goal.returns-then-number-len
returns-then-number-len g c = λ at found up h.
    subst (λ n. length c.args.nodes.now.nodes.items ≤ n) (ap (λ x. x.node.0) (same_some c.index.result.now at (sym (element_some c.args.nodes.now.connections.items c.args.conn.0 c.index.result.now (omega (arith, c.if-conn-len.false)) c.index.ensures) ∙ found))) (omega (arith, c.if-number-len.true))

pub returns : goal.returns
returns g c =
    let xs = c.args.self.now.servers.items in
    let place = server_at c.as_slice.result.now xs c.args.conn.0 c.server_of.result (Some c.in-Some.place) c.as_slice.ensures.value c.in-Some.is c.server_of.ensures in
    record {
      place = place;
      within = server_within xs c.args.conn.0 (Some c.in-Some.place) place;
      at = c.index.result.now;
      found = element_some c.args.nodes.now.connections.items c.args.conn.0 c.index.result.now (omega (arith, c.if-conn-len.false)) c.index.ensures;
      node = refl;
      has_books = omega (arith, c.if-number-len.false);
    }
