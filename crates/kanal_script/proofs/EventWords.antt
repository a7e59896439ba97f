-- An event's words: its name, and what stands behind it.
use Rattle.kanal_script.proofs.Common.{◌≡◌, ◌≢◌, ℕ, List, [], ◌∷◌, ◌++◌, refl, inl, codes, decimal, Event, Send, TrySend, Recv, RecvLate, TryRecv, Drain, Withdraw, CloneTx, CloneRx, DropTx, DropRx, Seal, Close, Asks, Terminated, event_words, side_word, ask_word, IsWord, EndsWord}
use Rattle.kanal_script.proofs.Words.{letters}

-- the event's name,
abbrev pub name : Event ℕ → List ℕ
name (Send n) = codes "send"
name (TrySend n) = codes "try_send"
name Recv = codes "recv"
name RecvLate = codes "recv_late"
name TryRecv = codes "try_recv"
name Drain = codes "drain"
name (Withdraw n) = codes "withdraw"
name CloneTx = codes "clone_tx"
name CloneRx = codes "clone_rx"
name DropTx = codes "drop_tx"
name DropRx = codes "drop_rx"
name Seal = codes "seal"
name Close = codes "close"
name (Asks side ask) = codes "ask"
name Terminated = codes "terminated"

-- and what stands behind it
abbrev pub behind : Event ℕ → List ℕ
behind (Send n) = 32 ∷ decimal n
behind (TrySend n) = 32 ∷ decimal n
behind (Withdraw n) = 32 ∷ decimal n
behind (Asks side ask) = 32 ∷ (side_word side ++ (32 ∷ ask_word ask))
behind event = []

pub words_cut : (event : Event ℕ) (s : List ℕ) → event_words event ++ s ≡ name event ++ (behind event ++ s)
words_cut (Send n) s = refl
words_cut event s = refl

pub name_word : (event : Event ℕ) → IsWord (name event)
name_word (Send n) = letters (codes "send") refl
name_word event = letters (name event) refl

pub behind_end : (event : Event ℕ) (s : List ℕ) → EndsWord s → EndsWord (behind event ++ s)
behind_end (Send n) s end = inl refl
behind_end (TrySend n) s end = inl refl
behind_end (Withdraw n) s end = inl refl
behind_end (Asks side ask) s end = inl refl
behind_end event s end = end

-- a word that is no event's name
pub record IsNoName (w : List ℕ) : Type 0 where
  pub not_send : w ≢ codes "send"
  pub not_try_send : w ≢ codes "try_send"
  pub not_recv : w ≢ codes "recv"
  pub not_recv_late : w ≢ codes "recv_late"
  pub not_try_recv : w ≢ codes "try_recv"
  pub not_drain : w ≢ codes "drain"
  pub not_withdraw : w ≢ codes "withdraw"
  pub not_clone_tx : w ≢ codes "clone_tx"
  pub not_clone_rx : w ≢ codes "clone_rx"
  pub not_drop_tx : w ≢ codes "drop_tx"
  pub not_drop_rx : w ≢ codes "drop_rx"
  pub not_seal : w ≢ codes "seal"
  pub not_close : w ≢ codes "close"
  pub not_ask : w ≢ codes "ask"
  pub not_terminated : w ≢ codes "terminated"

pub no_name : (w : List ℕ) (event : Event ℕ) → IsNoName w → w ≡ name event → ⊥
no_name w (Send n) none is = none.not_send is
no_name w (TrySend n) none is = none.not_try_send is
no_name w Recv none is = none.not_recv is
no_name w RecvLate none is = none.not_recv_late is
no_name w TryRecv none is = none.not_try_recv is
no_name w Drain none is = none.not_drain is
no_name w (Withdraw n) none is = none.not_withdraw is
no_name w CloneTx none is = none.not_clone_tx is
no_name w CloneRx none is = none.not_clone_rx is
no_name w DropTx none is = none.not_drop_tx is
no_name w DropRx none is = none.not_drop_rx is
no_name w Seal none is = none.not_seal is
no_name w Close none is = none.not_close is
no_name w (Asks side ask) none is = none.not_ask is
no_name w Terminated none is = none.not_terminated is
