-- The handle for tasks that a handle for threads is, the one that a view is over, and what a clone does.
use Rattle.std.specs.Prelude.{◌≡◌, ◌⊎◌, ℕ, Result, Ok, Err, MatchResult}
use Rattle.std.specs.Sync.Forever.{forever_left}
use Rattle.kanal_core.specs.declared.error.TooMany.{TooMany as NoMore}
use Rattle.kanal_events.specs.declared.event.Side.{Side}
use Rattle.kanal_futures.specs.declared.stream.ReceiveStream.{ReceiveStream}
use Rattle.kanal_state.specs.Handles.{Counts}
use Rattle.kanal_state.specs.HistoryRelations.{HistoryRelations}
use Rattle.kanal_state.specs.declared.side.ReceiveSide.{ReceiveSide}
use Rattle.kanal_state.specs.declared.side.SendSide.{SendSide}
use Rattle.kanal.specs.declared.async_receiver.AsyncReceiver.{AsyncReceiver}
use Rattle.kanal.specs.declared.async_sender.AsyncSender.{AsyncSender}
use Rattle.kanal.specs.declared.each.ForEach.{ForEach}
use Rattle.kanal.specs.declared.each.TryForEach.{TryForEach}
use Rattle.kanal.specs.declared.handle.Handle.{Handle}
use Rattle.kanal.specs.declared.messages.Messages.{Messages}
use Rattle.kanal.specs.declared.receiver.Receiver.{Receiver}
use Rattle.kanal.specs.declared.receiver_view.ReceiverView.{ReceiverView}
use Rattle.kanal.specs.declared.sender.Sender.{Sender}
use Rattle.kanal.specs.declared.sender_view.SenderView.{SenderView}

module _ {T Hist Pass Log Prefix Internal : Type 0} where
  -- a sender for threads, as one for tasks
  abbrev pub sender_for_tasks : Sender T Hist Pass Log Prefix Internal → AsyncSender T Hist Pass Log Prefix Internal
  sender_for_tasks s = s.inner

  -- the sender that a view is over
  abbrev pub viewed_sender : SenderView T Hist Pass Log Prefix Internal → AsyncSender T Hist Pass Log Prefix Internal
  viewed_sender v = v.sender.now

  -- what a sender shares with a receiver
  abbrev pub handle_of_sender : AsyncSender T Hist Pass Log Prefix Internal → Handle T Hist SendSide Pass Log Prefix Internal
  handle_of_sender s = s.handle

  -- a receiver for threads, as one for tasks
  abbrev pub receiver_for_tasks : Receiver T Hist Pass Log Prefix Internal → AsyncReceiver T Hist Pass Log Prefix Internal
  receiver_for_tasks r = r.inner

  -- what a receiver shares with a sender
  abbrev pub handle_of_receiver : AsyncReceiver T Hist Pass Log Prefix Internal → Handle T Hist ReceiveSide Pass Log Prefix Internal
  handle_of_receiver r = r.handle

  -- the receiver that a view is over
  abbrev pub viewed_receiver : ReceiverView T Hist Pass Log Prefix Internal → AsyncReceiver T Hist Pass Log Prefix Internal
  viewed_receiver v = v.receiver.now

  -- the pass by which a receiver's messages come
  abbrev pub pass_of : {R : Type 0} → Messages T R Hist Pass Log Prefix Internal → Pass
  pass_of m = m.pass

  -- how many turns a loop over a receiver's messages has at most
  abbrev pub turns_left : {R : Type 0} → Messages T R Hist Pass Log Prefix Internal → ℕ
  turns_left m = forever_left m.turns

module _ {T F Hist Pass Log Prefix Internal : Type 0} where
  -- the stream of a task's loop
  abbrev pub each_stream : ForEach T F Hist Pass Log Prefix Internal → ReceiveStream T Hist Pass Log Prefix Internal
  each_stream m = m.stream

  -- what a task's loop calls
  abbrev pub each_call : ForEach T F Hist Pass Log Prefix Internal → F
  each_call m = m.call

  -- the stream of a task's loop whose call may fail
  abbrev pub try_each_stream : TryForEach T F Hist Pass Log Prefix Internal → ReceiveStream T Hist Pass Log Prefix Internal
  try_each_stream m = m.stream

  -- what such a loop calls
  abbrev pub try_each_call : TryForEach T F Hist Pass Log Prefix Internal → F
  try_each_call m = m.call

module _ {T P A : Type 0} (w : HistoryRelations T P) (old new : P) where
  -- one more of the side is counted; where the answer is an error, none is: no call was made, or it was refused
  abbrev pub Clones : Side → Result A NoMore → Type 0
  Clones side answer =
      MatchResult answer (λ _. Counts w old new side (Ok tt)) (λ error. (new ≡ old) ⊎ Counts w old new side (Err error))
