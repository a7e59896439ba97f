-- The definitions, at scripts whose answers are known.
use Rattle.kanal_journal.proofs.Common.{◌≡◌, ℕ, true, false, List, [], ◌∷◌, Option, Some, None, refl, Closed as ByClose, SendClosed as BySenders, ReceiveClosed as ByReceivers, Taken, Given, Ended, Tx, Rx, Event, Send, TrySend, Recv, RecvLate, TryRecv, Drain, Withdraw, CloneTx, DropTx, DropRx, Close, Asks as Ask, Terminated, Timeout, CloseError, NoHandle, NotWaiting, Reply, Sent, Waits, Yes, No, Got, Nothing, Drained, Withdrawn, Done, Cleared, Number, Flag, Refused, Settlement, Account, added, made, opening_account, PairedHistory, until, kept, receipts}
use Rattle.kanal_events.specs.declared.event.Ask.TheVariants.{IsBounded, Len, IsEmpty, IsFull, Capacity, SenderCount}
use Rattle.kanal_events.specs.declared.event.Refusal.TheVariants.{Closed, ReceiveClosed, SendClosed}

-- all that is told along these events, with no step refused for memory
abbrev along : Account ℕ → List (Event ℕ) → Account ℕ
along a [] = a
along a (e ∷ es) = along (added a e (made a.handles a.line e)) es

-- what a script is told
record ToldScript : Type 0 where
  replies : List (Reply ℕ)
  settled : List (Settlement ℕ)
  drained : List ℕ
  cleared : List ℕ

abbrev told : Option ℕ → List (Event ℕ) → ToldScript
told c es = let a = along (opening_account c) es in record { replies = a.replies; settled = a.settled; drained = a.drained; cleared = a.cleared }

-- the history of a script
abbrev told_history : Option ℕ → List (Event ℕ) → PairedHistory ℕ
told_history c es = let a = along (opening_account c) es in record { events = es; replies = a.replies; settled = a.settled; drained = a.drained }

one_place : told (Some 1) (TrySend 1 ∷ TrySend 2 ∷ TryRecv ∷ Close ∷ []) ≡ record { replies = Yes ∷ No 2 ∷ Got 1 ∷ Cleared 0 ∷ []; settled = []; drained = []; cleared = [] }
one_place = refl

abbrev two_places : List (Event ℕ)
two_places = TrySend 1 ∷ TrySend 2 ∷ TrySend 3 ∷ TryRecv ∷ TrySend 3 ∷ TryRecv ∷ TryRecv ∷ TryRecv ∷ []

two_places-told : told (Some 2) two_places ≡ record { replies = Yes ∷ Yes ∷ No 3 ∷ Got 1 ∷ Yes ∷ Got 2 ∷ Got 3 ∷ Nothing ∷ []; settled = []; drained = []; cleared = [] }
two_places-told = refl

two_places-kept : kept (told_history (Some 2) two_places) ≡ 1 ∷ 2 ∷ 3 ∷ []
two_places-kept = refl

two_places-receipts : receipts (told_history (Some 2) two_places) ≡ Some 1 ∷ Some 2 ∷ Some 3 ∷ []
two_places-receipts = refl

-- before the last sending, two messages are kept
two_places-cut : kept (until 4 (told_history (Some 2) two_places)) ≡ 1 ∷ 2 ∷ []
two_places-cut = refl

no_place : told (Some 0) (TrySend 5 ∷ TryRecv ∷ Ask Tx Len ∷ []) ≡ record { replies = No 5 ∷ Nothing ∷ Number 0 ∷ []; settled = []; drained = []; cleared = [] }
no_place = refl

abbrev closed_twice : List (Event ℕ)
closed_twice = TrySend 1 ∷ Close ∷ Close ∷ TryRecv ∷ TrySend 2 ∷ Ask Tx Len ∷ []

closed_twice-told : told (Some 1) closed_twice ≡ record { replies = Yes ∷ Cleared 1 ∷ Refused CloseError None ∷ Refused Closed None ∷ Refused Closed (Some 2) ∷ Number 0 ∷ []; settled = []; drained = []; cleared = 1 ∷ [] }
closed_twice-told = refl

closed_twice-kept : kept (told_history (Some 1) closed_twice) ≡ []
closed_twice-kept = refl

no_limit : told None (Send 1 ∷ Send 2 ∷ Ask Tx Len ∷ Recv ∷ Recv ∷ Recv ∷ Withdraw 0 ∷ []) ≡ record { replies = Sent ∷ Sent ∷ Number 2 ∷ Got 1 ∷ Got 2 ∷ Waits 0 ∷ Withdrawn None ∷ []; settled = []; drained = []; cleared = [] }
no_limit = refl

late_receives : told (Some 0) (Send 5 ∷ RecvLate ∷ RecvLate ∷ []) ≡ record { replies = Waits 0 ∷ Got 5 ∷ Refused Timeout None ∷ []; settled = record { step = 1; ticket = 0; outcome = Taken } ∷ []; drained = []; cleared = [] }
late_receives = refl

closed_waits : told (Some 0) (Send 1 ∷ Send 2 ∷ Close ∷ []) ≡ record { replies = Waits 0 ∷ Waits 1 ∷ Cleared 0 ∷ []; settled = record { step = 2; ticket = 0; outcome = Ended ByClose (Some 1) } ∷ record { step = 2; ticket = 1; outcome = Ended ByClose (Some 2) } ∷ []; drained = []; cleared = [] }
closed_waits = refl

let_in : told (Some 1) (Send 1 ∷ Send 2 ∷ TryRecv ∷ Ask Rx Len ∷ []) ≡ record { replies = Sent ∷ Waits 0 ∷ Got 1 ∷ Number 1 ∷ []; settled = record { step = 2; ticket = 0; outcome = Taken } ∷ []; drained = []; cleared = [] }
let_in = refl

abbrev withdrawn_send : List (Event ℕ)
withdrawn_send = Send 1 ∷ Send 2 ∷ Withdraw 0 ∷ TryRecv ∷ TryRecv ∷ []

withdrawn_send-told : told (Some 0) withdrawn_send ≡ record { replies = Waits 0 ∷ Waits 1 ∷ Withdrawn (Some 1) ∷ Got 2 ∷ Nothing ∷ []; settled = record { step = 3; ticket = 1; outcome = Taken } ∷ []; drained = []; cleared = [] }
withdrawn_send-told = refl

withdrawn_send-kept : kept (told_history (Some 0) withdrawn_send) ≡ 2 ∷ []
withdrawn_send-kept = refl

withdrawn_send-receipts : receipts (told_history (Some 0) withdrawn_send) ≡ Some 2 ∷ []
withdrawn_send-receipts = refl

-- before the withdrawal both messages are kept
withdrawn_send-cut : kept (until 2 (told_history (Some 0) withdrawn_send)) ≡ 1 ∷ 2 ∷ []
withdrawn_send-cut = refl

abbrev waiting_receives : List (Event ℕ)
waiting_receives = Recv ∷ Recv ∷ TrySend 7 ∷ Withdraw 0 ∷ Withdraw 1 ∷ TrySend 8 ∷ []

waiting_receives-told : told (Some 0) waiting_receives ≡ record { replies = Waits 0 ∷ Waits 1 ∷ Yes ∷ Refused NotWaiting None ∷ Withdrawn None ∷ No 8 ∷ []; settled = record { step = 2; ticket = 0; outcome = Given 7 } ∷ []; drained = []; cleared = [] }
waiting_receives-told = refl

waiting_receives-receipts : receipts (told_history (Some 0) waiting_receives) ≡ Some 7 ∷ []
waiting_receives-receipts = refl

two_drains : told (Some 0) (Send 1 ∷ Send 2 ∷ Drain ∷ Drain ∷ []) ≡ record { replies = Waits 0 ∷ Waits 1 ∷ Drained 2 ∷ Drained 0 ∷ []; settled = record { step = 2; ticket = 0; outcome = Taken } ∷ record { step = 2; ticket = 1; outcome = Taken } ∷ []; drained = 1 ∷ 2 ∷ []; cleared = [] }
two_drains = refl

last_handles : told (Some 1) (CloneTx ∷ DropTx ∷ Ask Rx SenderCount ∷ DropTx ∷ DropTx ∷ Close ∷ DropRx ∷ Close ∷ []) ≡ record { replies = Done ∷ Done ∷ Number 1 ∷ Done ∷ Refused NoHandle None ∷ Cleared 0 ∷ Done ∷ Refused NoHandle None ∷ []; settled = []; drained = []; cleared = [] }
last_handles = refl

abbrev drained_wait : List (Event ℕ)
drained_wait = Send 1 ∷ Send 2 ∷ Send 3 ∷ Send 4 ∷ Withdraw 0 ∷ Drain ∷ Ask Rx Len ∷ []

drained_wait-told : told (Some 2) drained_wait ≡ record { replies = Sent ∷ Sent ∷ Waits 0 ∷ Waits 1 ∷ Withdrawn (Some 3) ∷ Drained 3 ∷ Number 0 ∷ []; settled = record { step = 5; ticket = 1; outcome = Taken } ∷ []; drained = 1 ∷ 2 ∷ 4 ∷ []; cleared = [] }
drained_wait-told = refl

drained_wait-kept : kept (told_history (Some 2) drained_wait) ≡ 1 ∷ 2 ∷ 4 ∷ []
drained_wait-kept = refl

drained_wait-receipts : receipts (told_history (Some 2) drained_wait) ≡ Some 1 ∷ Some 2 ∷ Some 4 ∷ []
drained_wait-receipts = refl

-- before the drain all three are kept, and no demand is there
drained_wait-cut : receipts (until 5 (told_history (Some 2) drained_wait)) ≡ []
drained_wait-cut = refl

no_sender : told (Some 1) (Send 1 ∷ DropTx ∷ Recv ∷ Recv ∷ Drain ∷ RecvLate ∷ Terminated ∷ []) ≡ record { replies = Sent ∷ Done ∷ Got 1 ∷ Refused SendClosed None ∷ Drained 0 ∷ Refused Timeout None ∷ Flag true ∷ []; settled = []; drained = []; cleared = [] }
no_sender = refl

after_a_close : told (Some 1) (TrySend 1 ∷ Close ∷ Close ∷ Recv ∷ Drain ∷ Send 2 ∷ CloneTx ∷ Ask Tx SenderCount ∷ []) ≡ record { replies = Yes ∷ Cleared 1 ∷ Refused CloseError None ∷ Refused Closed None ∷ Refused Closed None ∷ Refused Closed (Some 2) ∷ Done ∷ Number 0 ∷ []; settled = []; drained = []; cleared = 1 ∷ [] }
after_a_close = refl

ended_receive : told (Some 1) (Recv ∷ DropTx ∷ []) ≡ record { replies = Waits 0 ∷ Done ∷ []; settled = record { step = 1; ticket = 0; outcome = Ended BySenders None } ∷ []; drained = []; cleared = [] }
ended_receive = refl

ended_send : told (Some 0) (Send 1 ∷ DropRx ∷ Send 2 ∷ Recv ∷ []) ≡ record { replies = Waits 0 ∷ Done ∷ Refused ReceiveClosed (Some 2) ∷ Refused NoHandle None ∷ []; settled = record { step = 1; ticket = 0; outcome = Ended ByReceivers (Some 1) } ∷ []; drained = []; cleared = [] }
ended_send = refl

no_place_is_full : told (Some 0) (Ask Rx IsFull ∷ Ask Rx IsEmpty ∷ []) ≡ record { replies = Flag true ∷ Flag true ∷ []; settled = []; drained = []; cleared = [] }
no_place_is_full = refl

no_limit_asked : told None (Ask Tx IsFull ∷ Ask Tx IsBounded ∷ Ask Tx Capacity ∷ []) ≡ record { replies = Flag false ∷ Flag false ∷ Number 18446744073709551615 ∷ []; settled = []; drained = []; cleared = [] }
no_limit_asked = refl

buffer_stays : told (Some 1) (TrySend 1 ∷ DropRx ∷ Ask Tx Len ∷ Close ∷ Ask Tx Len ∷ []) ≡ record { replies = Yes ∷ Done ∷ Number 1 ∷ Cleared 1 ∷ Number 0 ∷ []; settled = []; drained = []; cleared = 1 ∷ [] }
buffer_stays = refl

ended_by_senders : told (Some 0) (Send 1 ∷ DropTx ∷ TryRecv ∷ []) ≡ record { replies = Waits 0 ∷ Done ∷ Refused SendClosed None ∷ []; settled = record { step = 1; ticket = 0; outcome = Ended BySenders (Some 1) } ∷ []; drained = []; cleared = [] }
ended_by_senders = refl
