-- A writer takes what stands next on the connection that it has.
use Rattle.std.proofs.Common.{◌≡◌, ◌<◌, ◌⊎◌, inl, inr, ℕ, Bool, true, false, Option, Some, None, is_some, option_map, refl, sym, ap, ◌∙◌, subst, eqb-true, lt-ltb}
use Rattle.std.specs.Prelude.{◌&&◌, ◌==◌, nat_lt, is_none}
use Rattle.hd_base.specs.declared.ends.Conn.{Conn}
use Rattle.hd_base.specs.declared.ends.Standing.{Standing}
use Rattle.hd_base.specs.declared.ends.Standing.TheVariants as standing
use Rattle.hd_base.specs.declared.links.LinkIn as link_in
use Rattle.hd_base.specs.declared.links.LinkOut as link_out
use Rattle.hd_base.specs.declared.numbers.ConnId.{ConnId}
use Rattle.hd_base.specs.declared.roads.Roads as roads
use Rattle.play_clients.specs.PipeRecovery.Link.{Link}
use Rattle.road_traffic.specs.Showing.{Net, RoadsShow, ShowsStanding}
use Rattle.world.specs.Parts as parts
use Rattle.world.specs.Worlds.{World}
use Rattle.world.specs.Connections.{next_up, is_conn}
use Rattle.world.specs.Enabled.{takes_above}
use Rattle.play_reads.specs.WorldNets.Nets.{IsEndOf}
use Rattle.play_reads.specs.WorldNets.Rows.{rows_of}
use Rattle.play_model.specs.Dues.{is_open_above}
use Rattle.play_clients.specs.ClientEvents.Pipe.{Pipe}
use Rattle.play_clients.specs.ClientEvents.Pipe.TheVariants as pipe
use Rattle.play_clients.specs.ClientEvents.Showing.{LinkShows, PipeShows}
use Rattle.play_clients.specs.declared.clients.Client.{Client}
use Rattle.play_reads.specs.PlayNodes.Dues.{stands}
use Rattle.play_reads.proofs.PlayNodes.DueNodes.{row_standing, stands_as, hears_next}
use Rattle.play_dues.specs.Writers.{conn_of, TellsWriter}

-- what is due of a writer of which no answer waits
due_so : (within x has told : Bool) → (has ≡ true → within ≡ true) → told ≡ true → (has && x) ≡ (true && ((within && x) && (has && told)))
due_so true true true true p q = refl
due_so true true false true p q = refl
due_so true false true true p q = refl
due_so true false false true p q = refl
due_so false x true told p q = absurd (cc_of (p refl))
  where
    cc_of : false ≡ true → ⊥
    cc_of e = cc
due_so false x false told p q = refl
due_so true x has false p q = cc

-- where nothing stands next
pub nothing_so : (b : Bool) (s : Standing) → s ≡ standing.Nothing → false ≡ (b && stands s)
nothing_so true s h = sym (ap stands h)
nothing_so false s h = refl

-- where something does
pub something_so : (b x : Bool) (s : Standing) → stands s ≡ true → x ≡ b → x ≡ (b && stands s)
something_so true x s h is = is ∙ sym h
something_so false x s h is = is

-- where a piece stands next, or the end
pub stands_so : (s : Standing) → (s ≡ standing.Piece) ⊎ (s ≡ standing.End) → stands s ≡ true
stands_so s (inl h) = ap stands h
stands_so s (inr h) = ap stands h

-- A connection from which may be taken.
record IsTaking (net : Net) (c : ℕ) : Type 0 where
  pub within : c < net.conns
  pub taking : (net.traffic c false).over ≡ false

module _ {I O : Type 0} (i : link_in.Ghosts I) (o : link_out.Ghosts O) where
  taking_end : (w : World) (net : Net) (c : ℕ) (e : Conn I O) → IsEndOf i o w net e.id.0 false e → (c == e.id.0) ≡ true → IsTaking net c
  taking_end w net c e h is = subst (λ (q : ℕ). IsTaking net q) (sym (eqb-true c e.id.0 is)) (record { within = h.within; taking = h.taking })

  taking_link : (w : World) (net : Net) (conn : Option ℕ) (c : ℕ) (x : Option (Link I O)) → LinkShows i o w net conn x → is_conn (option_map (λ l. l.end.id.0) x) c ≡ true → IsTaking net c
  taking_link w net conn c None h is = cc
  taking_link w net conn c (Some l) h is = taking_end w net c l.end h.end_is is

  taking_pipe : (w : World) (net : Net) (conn : Option ℕ) (c : ℕ) (x : Pipe I O) → PipeShows i o w net conn x → is_conn (conn_of x) c ≡ true → IsTaking net c
  taking_pipe w net conn c pipe.Closed h is = cc
  taking_pipe w net conn c (pipe.SettingUp setup) h is = taking_link w net conn c setup.link h is
  taking_pipe w net conn c (pipe.Streaming end incoming) h is = taking_end w net c end h.end_is is

  link_conn : (w : World) (net : Net) (conn : Option ℕ) (x : Option (Link I O)) → LinkShows i o w net conn x → conn ≡ option_map (λ l. l.end.id.0) x
  link_conn w net conn None h = h
  link_conn w net conn (Some l) h = h.conn_is

  pub pipe_conn : (w : World) (net : Net) (conn : Option ℕ) (x : Pipe I O) → PipeShows i o w net conn x → conn ≡ conn_of x
  pipe_conn w net conn pipe.Closed h = h
  pipe_conn w net conn (pipe.SettingUp setup) h = link_conn w net conn setup.link h
  pipe_conn w net conn (pipe.Streaming end incoming) h = h.conn_is

  -- the connection that a writer has is this one
  conn_so : (x : Option ℕ) (c : ℕ) → is_conn x c ≡ true → x ≡ Some c
  conn_so None c is = cc
  conn_so (Some d) c is = ap (λ (q : ℕ). Some q) (sym (eqb-true c d is))

module _ {R I O : Type 0} (r : roads.Ghosts R I O) (i : link_in.Ghosts I) (o : link_out.Ghosts O) where
  pub writer_tells : (client : Client I O) (conn : ConnId) (road road' : R) (s : Standing) (result : Bool) → ((net : Net) → RoadsShow r net road → ShowsStanding r net conn.0 false road' s)
      → result ≡ (is_conn (conn_of client.pipe) conn.0 && stands s) → TellsWriter r i o conn client road road' result
  writer_tells client conn road road' s result tells told = λ w net queues h shows open_ends upper.
      let c : ℕ = conn.0 in
      let b : ℕ = client.block.0 in
      let has : Bool = is_conn (conn_of client.pipe) c in
      let conn_is : (w.writers b).conn ≡ conn_of client.pipe = pipe_conn i o w net (w.writers b).conn client.pipe shows.pipe_is in
      let taking : has ≡ true → IsTaking net c = taking_pipe i o w net (w.writers b).conn c client.pipe shows.pipe_is in
      let next : (has && stands s) ≡ (has && is_some (next_up w c)) = hears_next has (stands s) (is_some (next_up w c))
      (λ is. ap stands ((tells net h.shows).is (taking is).taking
      ∙ row_standing (rows_of w c false) (net.traffic c false) (h.is_net.rows_are c false) (h.sane.fits c false) (taking is).taking (open_ends.writers b c (conn_is ∙ conn_so i o (conn_of client.pipe) c is)))
      ∙ stands_as (next_up w c)) in
      let within : has ≡ true → nat_lt c w.next_conn ≡ true = λ is. lt-ltb c w.next_conn (subst (λ (k : ℕ). c < k) h.is_net.conns (taking is).within) in (
        record { is_net = h.is_net; sane = h.sane; shows = (tells net h.shows).road_shows },
        told ∙ (next ∙ (due_so (nat_lt c w.next_conn) (is_some (next_up w c)) has (is_none (w.writers b).told) within (ap (λ x. is_none x) shows.told)
            ∙ (ap (λ (x : Option ℕ). true && ((nat_lt c w.next_conn && is_some (next_up w c)) && (is_conn x c && is_none (w.writers b).told))) (sym conn_is)
            ∙ ap (λ (x : parts.Upper). is_open_above w x && ((nat_lt c w.next_conn && is_some (next_up w c)) && takes_above x w c)) (sym upper)))),
      )
