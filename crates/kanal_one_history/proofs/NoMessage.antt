-- Calls that put nothing, ask for nothing and clear nothing.
use Rattle.kanal_one_history.proofs.Common.{◌≡◌, [], refl, ap, ◌∙◌, Line, Event, Send, TrySend, Recv, RecvLate, TryRecv, Drain, Reply, StepSpec, StepCase, Replies, Enters, Closes, step_case, reply-plain, send-read, asked, cleared_by, sent, Call, MovesNoMessage, IsTold, ExchangesNothing}

module _ {T : Type 0} where
  puts-nothing : (e : Event T) (r : Reply T) → MovesNoMessage e → (sent e r ≡ []) × (asked e r ≡ [])
  puts-nothing (Send m) r h = absurd h
  puts-nothing (TrySend m) r h = absurd h
  puts-nothing Recv r h = absurd h
  puts-nothing RecvLate r h = absurd h
  puts-nothing TryRecv r h = absurd h
  puts-nothing Drain r h = absurd h
  puts-nothing e r h = (refl, refl)

  clears-nothing : {l : Line T} {e : Event T} {told : StepSpec T} → StepCase l e told → MovesNoMessage e → cleared_by told.reply ≡ 0
  clears-nothing (Replies e r c) h = (reply-plain c).3
  clears-nothing (Enters e m r s some_receiver some_sender place) h = (send-read s).3
  clears-nothing (Closes left) h = absurd h
  clears-nothing c h = refl

  -- a call of a silent event put no message, asked for none and cleared none, whoever made it
  pub exchanges_nothing : (c : Call T) → IsTold c → MovesNoMessage c.event → ExchangesNothing c
  exchanges_nothing c told h =
      let p = puts-nothing c.event c.reply h in
      record { sends = p.0; asks = p.1; clears = ap (λ (x : Call T). cleared_by x.reply) told.1 ∙ clears-nothing (step_case told.0 c.event) h }
