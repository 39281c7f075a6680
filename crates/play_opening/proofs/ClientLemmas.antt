-- New clients, one for each block.
use Rattle.std.proofs.Common.{◌≡◌, ◌≤◌, ◌+◌, ℕ, zero, suc, List, [], ◌∷◌, ◌++◌, length, take, slice_get, Some, refl, sym, ap, subst, ◌∙◌, add-one}
use Rattle.std.proofs.lemmas.List.{take_all, map-append}
use Rattle.hd_base.specs.declared.numbers.BlockId.{BlockId}
use Rattle.play.proofs.PlayNodes.PlaceLaws.{same_some}
use Rattle.play.proofs.NodeOpening.ListLemmas.{take_next}
use Rattle.play.specs.PlayClients.Client.{Client}
use Rattle.play.specs.Events.{blocks_of}
use Rattle.play_opening.specs.Opening.{IsNewClient, AreNewClients}

-- What is so of each, and of one more, is so of each once this stands behind them.
each_more : {A : Type 0} (P : A → Type 0) (xs : List A) (x : A) → ((k : ℕ) (a : A) → slice_get xs k ≡ Some a → P a) → P x → (k : ℕ) (a : A) → slice_get (xs ++ x ∷ []) k ≡ Some a → P a
each_more P [] x f p zero a h = subst P (same_some x a h) p
each_more P [] x f p (suc k) a h = cc
each_more P (y ∷ ys) x f p zero a h = f 0 a h
each_more P (y ∷ ys) x f p (suc k) a h = each_more P ys x (λ j b at. f (suc j) b at) p k a h

module _ {I O : Type 0} where
  pub clients_none : (clients : List (Client I O)) → clients ≡ [] → AreNewClients [] clients
  clients_none clients e = subst (λ (xs : List (Client I O)). AreNewClients [] xs) (sym e) (record { order = refl; each = λ k c at. cc })

  own_block : (block : BlockId) (c : Client I O) → IsNewClient block c → IsNewClient c.block c
  own_block block c h = subst (λ (b : BlockId). IsNewClient b c) (sym h.is_new.block_is) h

  clients_more : (blocks : List BlockId) (block : BlockId) (clients : List (Client I O)) (c : Client I O) → AreNewClients blocks clients → IsNewClient block c → AreNewClients (blocks ++ block ∷ []) (clients ++ c ∷ [])
  clients_more blocks block clients c h n = record {
    order = map-append (λ (x : Client I O). x.block) clients (c ∷ []) ∙ (ap (λ (bs : List BlockId). bs ++ c.block ∷ []) h.order ∙ ap (λ (b : BlockId). blocks ++ b ∷ []) n.is_new.block_is);
    each = each_more (λ (x : Client I O). IsNewClient x.block x) clients c h.each (own_block block c n);
  }

  pub clients_next : (blocks : List BlockId) (k : ℕ) (block : BlockId) (clients clients' : List (Client I O)) (c : Client I O) → slice_get blocks k ≡ Some block → AreNewClients (take k blocks) clients → IsNewClient block c → clients' ≡ clients ++ c ∷ []
      → AreNewClients (take (k + 1) blocks) clients'
  clients_next blocks k block clients clients' c at h n e =
      subst (λ (xs : List (Client I O)). AreNewClients (take (k + 1) blocks) xs) (sym e)
      (subst (λ (bs : List BlockId). AreNewClients bs (clients ++ c ∷ [])) (sym (ap (λ (m : ℕ). take m blocks) (add-one k) ∙ take_next blocks k block at)) (clients_more (take k blocks) block clients c h n))

  pub clients_end : (blocks : List BlockId) (k : ℕ) (clients : List (Client I O)) → length blocks ≤ k → AreNewClients (take k blocks) clients → AreNewClients blocks clients
  clients_end blocks k clients e h = subst (λ (bs : List BlockId). AreNewClients bs clients) (take_all k blocks e) h

  -- The client at a place is of the block there.
  pub block_there : (clients : List (Client I O)) (k : ℕ) (c : Client I O) → slice_get clients k ≡ Some c → slice_get (blocks_of clients) k ≡ Some c.block
  block_there [] k c h = cc
  block_there (x ∷ xs) zero c h = ap (λ (y : Client I O). Some y.block) (same_some x c h)
  block_there (x ∷ xs) (suc k) c h = block_there xs k c h

  pub block_here : (blocks : List BlockId) (clients : List (Client I O)) → AreNewClients blocks clients → (k : ℕ) (c : Client I O) → slice_get clients k ≡ Some c → slice_get blocks k ≡ Some c.block
  block_here blocks clients h k c at = sym (ap (λ (bs : List BlockId). slice_get bs k) h.order) ∙ block_there clients k c at
