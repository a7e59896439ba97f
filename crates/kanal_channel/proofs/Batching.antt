-- Calls that are made one after the other, and a call that is made by itself.
use Rattle.std.proofs.Common.{Ok}
use Rattle.std.specs.List.{FoldsTo}
use Rattle.kanal_channel.proofs.Common.{List, [], ◌++◌, subst, refl, sym, inl, HistoryRelations, Recv, Send}
use Rattle.std.proofs.Common.{◌∷◌}
use Rattle.kanal_events.specs.declared.event.Reply.TheVariants.{Got, Sent}
use Rattle.kanal_state.specs.Calls.{IsTold}
use Rattle.kanal_state.specs.Entries.{replied}
use Rattle.kanal_state.specs.Handles.{Receives, Sends}

module _ {T P : Type 0} (step : P → T → P → Type 0) where
  pub folds_on : (old mid new : P) (earlier later : List T) → FoldsTo step old earlier mid → FoldsTo step mid later new → FoldsTo step old (earlier ++ later) new
  folds_on old mid new [] later before after = subst (λ p. FoldsTo step p later new) (sym before) after
  folds_on old mid new (message ∷ earlier) later before after = (before.0, before.1, folds_on before.0 mid new earlier later before.2 after)

  pub folds_more : (old mid new : P) (earlier : List T) (message : T) → FoldsTo step old earlier mid → step mid message new → FoldsTo step old (earlier ++ message ∷ []) new
  folds_more old mid new earlier message before here = folds_on old mid new earlier (message ∷ []) before (new, here, refl)

module _ {T P : Type 0} (w : HistoryRelations T P) (old new : P) (message : T) where
  pub sends_at_once : w.appends old new (replied (Send message) Sent) → IsTold (replied (Send message) Sent) → Sends w old new message (Ok tt)
  sends_at_once made told = inl (record { replied = record { call = replied (Send message) Sent; made = made; asked = refl; reads = refl; told = told }; clear = λ wait. absurd wait })

  pub receives_at_once : w.appends old new (replied Recv (Got message)) → IsTold (replied Recv (Got message)) → Receives w old new (Ok message)
  receives_at_once made told = inl (record { replied = record { call = replied Recv (Got message); made = made; asked = refl; reads = refl; told = told }; clear = λ wait. absurd wait })
