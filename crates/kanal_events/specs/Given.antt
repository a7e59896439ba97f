-- Which tickets a step gives, and who waits with them.
use Rattle.std.specs.Prelude.{◌≡◌, ◌+◌, List, [], ◌∷◌, ◌++◌, length, slice_get, Some}
use Rattle.kanal_core.specs.declared.internal.outcome.Ticket.{Ticket}
use Rattle.kanal_core.specs.declared.internal.outcome.Waiter.{Waiter}
use Rattle.kanal_core.specs.Channel.{ChannelView}
use Rattle.kanal_core.specs.Tickets.{number_of}
use Rattle.kanal_events.specs.declared.step_result.Placement.{Placement}
use Rattle.kanal_events.specs.declared.step_result.Placement.TheVariants.{Ticket as Waiting, Back}

module _ {T W : Type 0} where
  -- the ticket of each who waits stands at its number among the tickets that were given
  abbrev pub AreKept : List Ticket → List (Waiter T W) → Type 0
  AreKept given [] = Unit {0}
  AreKept given (w ∷ ws) = (slice_get given (number_of w.ticket) ≡ Some w.ticket) × AreKept given ws

  -- no ticket was given, and whoever waits waited before
  pub record GivesNone (old new : ChannelView T W) : Type 0 where
    pub next : new.next ≡ old.next
    pub kept : (given : List Ticket) → AreKept given old.waiters → AreKept given new.waiters

  -- this ticket was given, with the next number: behind those that were given before, it stands at its number
  pub record GivesOne (ticket : Ticket) (old new : ChannelView T W) : Type 0 where
    pub number : number_of ticket ≡ old.next
    pub next : new.next ≡ old.next + 1
    pub kept : (given : List Ticket) → length given ≡ old.next → AreKept given old.waiters → AreKept (given ++ ticket ∷ []) new.waiters

  -- the ticket that the caller has in hand was given; or none was
  abbrev pub Gives : Placement W → ChannelView T W → ChannelView T W → Type 0
  Gives (Waiting ticket) old new = GivesOne ticket old new
  Gives (Back w) old new = GivesNone old new
