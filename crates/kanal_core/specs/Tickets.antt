-- What a ticket is known by.
use Rattle.std.specs.Prelude.{ℕ}
use Rattle.kanal_core.specs.declared.internal.outcome.Ticket.{Ticket}

-- the number of a ticket: 0 for the first wait of a channel
abbrev pub number_of : Ticket → ℕ
number_of ticket = ticket.number
