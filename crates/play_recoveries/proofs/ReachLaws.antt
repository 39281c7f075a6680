-- The connections that a primary dialled stand among those of the nodes, and their lower ends among the servers.
use Rattle.std.proofs.Common.{◌≡◌, ◌++◌, ℕ, Bool, true, false, List, [], ◌∷◌, map, is_some, slice_get, Option, Some, None, Result, Ok, Err, refl, sym, ap, ◌∙◌, subst}
use Rattle.std.proofs.lemmas.List.{append_assoc}
use Rattle.hd_base.specs.declared.ends.Conn.{Conn}
use Rattle.hd_base.specs.declared.links.LinkIn as link_in
use Rattle.hd_base.specs.declared.links.LinkOut as link_out
use Rattle.play_nodes.specs.declared.nodes.Nodes.{Nodes}
use Rattle.play_nodes.specs.Elsewhere.{AreBehind, LedShows, led_conns}
use Rattle.play_nodes.proofs.PlaceLaws.{same_some}
use Rattle.play_primaries.specs.declared.clients.PrimaryClient.{PrimaryClient}
use Rattle.play_servers.specs.declared.recoveries.RecoveryServer.{RecoveryServer}
use Rattle.play_recoveries.specs.declared.faults.RecoveriesFault.{RecoveriesFault}
use Rattle.play_recoveries.specs.declared.faults.RecoveriesFault.TheVariants as fault
use Rattle.play_recoveries.specs.declared.recoveries.Recoveries.{Recoveries}
use Rattle.play_recoveries.specs.Owning.{made_server, made_servers, misses_any, AreReached, Reaches, Serve}

-- SERVERS

pub made_more : {I O : Type 0} (xs ys : List (Option (Conn I O))) → made_servers (xs ++ ys) ≡ made_servers xs ++ made_servers ys
made_more [] ys = refl
made_more {I} {O} (Some e ∷ xs) ys = ap (λ (zs : List (RecoveryServer I O)). made_server e ∷ zs) (made_more xs ys)
made_more (None ∷ xs) ys = made_more xs ys

-- One more is.
pub serve_more : {I O : Type 0} (old now new : Recoveries I O) (ys : List (Option (Conn I O))) (lower : Option (Conn I O)) → Serve ys old now (Ok tt) → Serve (lower ∷ []) now new (Ok tt) → Serve (ys ++ lower ∷ []) old new (Ok tt)
serve_more {I} {O} old now new ys lower h more = (
  more.0 ∙ h.0,
  more.1 ∙ (ap (λ (zs : List (RecoveryServer I O)). zs ++ made_servers (lower ∷ [])) h.1 ∙
      (append_assoc old.servers.items (made_servers ys) (made_servers (lower ∷ [])) ∙ ap (λ (zs : List (RecoveryServer I O)). old.servers.items ++ zs) (sym (made_more ys (lower ∷ []))))),
)

-- REACHES

module _ {F I O : Type 0} (i : link_in.Ghosts I) (o : link_out.Ghosts O) (running : List Bool) (place : ℕ) (lowers : List (Option (Conn I O))) (n n' : Nodes F I O) (old new : Recoveries I O) (x : PrimaryClient I O) (at : slice_get old.clients.items place ≡ Some x) where
  pub reach_missed : misses_any running x.recovery.members lowers ≡ true → Reaches i o running place lowers n n' old new (Err fault.RoadsFailed)
  reach_missed missed c at_c = subst (λ (y : PrimaryClient I O). misses_any running y.recovery.members lowers ≡ true) (same_some x c (sym at ∙ at_c)) missed

  pub reach_served : misses_any running x.recovery.members lowers ≡ false → AreBehind (led_conns x.recovery.primary x.recovery.node 0 x.recovery.members (map is_some lowers)) n n' (Ok tt) → LedShows i o x.recovery.primary x.recovery.node x.recovery.members (map is_some lowers) n n' (Ok tt)
      → (result : Result (Unit {0}) RecoveriesFault) → Serve lowers old new result → Reaches i o running place lowers n n' old new result
  reach_served all behind shows (Ok u) serve = λ c at_c.
      subst (λ (y : PrimaryClient I O). AreReached i o running y.recovery lowers n n' old new) (same_some x c (sym at ∙ at_c))
      (record { all = all; behind = behind; shows = shows; serve = serve })
  reach_served all behind shows (Err fault.Memory) serve = refl
  reach_served all behind shows (Err fault.RoadsFailed) serve = absurd (clash serve)
    where
      clash : fault.RoadsFailed ≡ fault.Memory → ⊥
      clash e = cc
  reach_served all behind shows (Err fault.LinkFailed) serve = serve
  reach_served all behind shows (Err (fault.FilesFailed node)) serve = serve
