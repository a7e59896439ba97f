-- That a handle is counted, and that a call waits.
use Rattle.std.specs.Prelude.{Bool, true, false, ℕ, List, [], ◌∷◌, Result, Ok, Err}
use Rattle.kanal_core.specs.declared.internal.outcome.Ticket.{Ticket}
use Rattle.kanal_core.specs.Line.{Line}
use Rattle.kanal_events.specs.declared.event.Event.{Event}
use Rattle.kanal_events.specs.declared.event.Event.TheVariants.{CloneTx, CloneRx, DropTx, DropRx}
use Rattle.kanal_events.specs.declared.event.Side.{Side}
use Rattle.kanal_events.specs.declared.event.Side.TheVariants.{Tx, Rx}
use Rattle.kanal_state.specs.declared.counted.CountedHandle.{CountedHandle}
use Rattle.kanal_state.specs.declared.counted.CountedWait.{CountedWait}
use Rattle.kanal_state.specs.declared.counted.notices.GoneHandles.{GoneHandles}
use Rattle.kanal_state.specs.declared.counted.notices.GoneWaits.{GoneWaits}
use Rattle.kanal_state.specs.declared.counted.notices.MustDrain.{MustDrain}
use Rattle.kanal_state.specs.declared.counted.notices.Notices.{Notices}

-- the tag of which a token is made says that it has to be counted out
abbrev pub stands : List ℕ → Bool
stands [] = false
stands (number ∷ numbers) = true

module _ {S : Type 0} where
  -- whether the handle still has to be counted out
  abbrev pub is_counted : CountedHandle S → Bool
  is_counted counted = stands counted.stands.numbers

  -- how many handles still have to be counted out
  abbrev pub gone_handles : GoneHandles S → ℕ
  gone_handles gone = gone.count

-- whether the wait still has to be counted out
abbrev pub waits : CountedWait → Bool
waits counted = stands counted.stands.numbers

-- the ticket of the wait
abbrev pub ticket_of : CountedWait → Ticket
ticket_of counted = counted.ticket

-- whether waits were left
abbrev pub were_left : GoneWaits → Bool
were_left gone = gone.are_some

-- whether the waits that were left are sought
abbrev pub are_sought : GoneWaits → Bool
are_sought gone = gone.are_sought

-- whether notices still have to be looked for
abbrev pub is_due : MustDrain → Bool
is_due must = stands must.stands.numbers

-- whether the channel of the notices is there
abbrev pub has_channel : Notices → Bool
has_channel notices = stands notices.stands.numbers

-- whether one more was counted, and why not
abbrev pub whether_counted : {A E : Type 0} → Result A E → Result (Unit {0}) E
whether_counted (Ok counted) = Ok tt
whether_counted (Err error) = Err error

module _ {T : Type 0} where
  -- the call that counts one handle more of a side
  abbrev pub one_more : Side → Event T
  one_more Tx = CloneTx
  one_more Rx = CloneRx

  -- the call that counts one handle less of a side
  abbrev pub one_less : Side → Event T
  one_less Tx = DropTx
  one_less Rx = DropRx

  -- how many handles a side has
  abbrev pub count_of : Side → Line T → ℕ
  count_of Tx line = line.senders
  count_of Rx line = line.receivers

  -- a call that counts one handle more or less
  abbrev pub counts_handle : Event T → Bool
  counts_handle CloneTx = true
  counts_handle CloneRx = true
  counts_handle DropTx = true
  counts_handle DropRx = true
  counts_handle event = false
