-- Where a call is that carries a pass.
use Rattle.std.specs.Prelude.{◌≡◌, ℕ, Bool, Option, Some, None}
use Rattle.futures.specs.Poll.{IfReady, OnPending}
use Rattle.futures.specs.Task.{Covers, Keeps}
use Rattle.futures.specs.declared.task.context.Context.{Context}
use Rattle.futures.specs.declared.task.Poll.{Poll}
use Rattle.kanal_futures.specs.declared.call.SuspendedCall.{SuspendedCall}
use Rattle.kanal_futures.specs.declared.call.TaskCall.{TaskCall}
use Rattle.kanal_futures.specs.Tasks.{answered_by, begun_by, is_waiting, source_of}

module _ {T Hist Asked Op Pass Log Prefix Internal Answer : Type 0} where
  -- what the pass was at first, and what is asked, of a call that has not answered
  abbrev pub call_begun : TaskCall T Hist Asked Op Pass Log Prefix Internal Answer → Option (Pass × Asked)
  call_begun f = begun_by f.state

  -- the pass of a call that has answered, where it is kept
  abbrev pub call_kept : TaskCall T Hist Asked Op Pass Log Prefix Internal Answer → Option Pass
  call_kept f = answered_by f.state

  -- a call whose wait was started, and not polled to its end
  abbrev pub call_waits : TaskCall T Hist Asked Op Pass Log Prefix Internal Answer → Bool
  call_waits f = is_waiting f.state

  -- the name of what a call waits for
  abbrev pub call_source : TaskCall T Hist Asked Op Pass Log Prefix Internal Answer → ℕ
  call_source f = source_of f.wakers

  -- what the pass was at first, and what is asked, of a call between its polls
  abbrev pub suspended_begun : SuspendedCall T Hist Asked Op Pass Log Prefix Internal Answer → Option (Pass × Asked)
  suspended_begun f = begun_by f.state

  -- the name of what such a call waits for
  abbrev pub suspended_source : SuspendedCall T Hist Asked Op Pass Log Prefix Internal Answer → ℕ
  suspended_source f = source_of f.wakers

  -- the frame of each poll: where it is pending the task is woken for the name that the call waits for, and the rest of the task and that name stay
  abbrev pub IsPoll : {R : Type 0} → Context → Context → TaskCall T Hist Asked Op Pass Log Prefix Internal Answer → TaskCall T Hist Asked Op Pass Log Prefix Internal Answer → Poll R → Type 0
  IsPoll before after old new result = OnPending result (Covers after (λ s. s ≡ call_source new)) × Keeps before after × (call_source new ≡ call_source old)

  -- a poll of this call: it is over and answers what it began with, or it goes on
  abbrev pub IsPolled : Pass × Asked → Context → Context → TaskCall T Hist Asked Op Pass Log Prefix Internal Answer → TaskCall T Hist Asked Op Pass Log Prefix Internal Answer → Poll (Pass × Asked × Pass × Answer) → Type 0
  IsPolled call before after old new result =
      IfReady result (λ x. ((x.0 ≡ call.0) × (x.1 ≡ call.1)) × (call_begun new ≡ None))
      × OnPending result (call_begun new ≡ Some call)
      × IsPoll before after old new result
