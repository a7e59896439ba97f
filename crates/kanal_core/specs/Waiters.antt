-- The list of those that wait, oldest first, as callers see it.
use Rattle.std.specs.Prelude.{◌≡◌, Bool, true, false, ◌&&◌, ◌==◌, List, [], ◌∷◌, Option, Some, None, ◌⊎◌, if◌then◌else◌}
use Rattle.std.specs.List.{filter_map}
use Rattle.kanal_core.specs.declared.internal.outcome.Ticket.{Ticket}
use Rattle.kanal_core.specs.declared.internal.outcome.Waiter.{Waiter}

-- the tickets are equal: the number and the place are
abbrev pub same_ticket : Ticket → Ticket → Bool
same_ticket a b = (a.number == b.number) && (a.place == b.place)

-- a message was brought, or none
abbrev pub is_sending : {T : Type 0} → Option T → Bool
is_sending None = false
is_sending (Some m) = true

module _ {T W : Type 0} where
  -- the waiter with the ticket
  abbrev pub waiter_of : Ticket → List (Waiter T W) → Option (Waiter T W)
  waiter_of t [] = None
  waiter_of t (x ∷ xs) = if same_ticket x.ticket t then Some x else waiter_of t xs

  -- the list without the waiter with the ticket
  abbrev pub without : Ticket → List (Waiter T W) → List (Waiter T W)
  without t [] = []
  without t (x ∷ xs) = if same_ticket x.ticket t then xs else x ∷ without t xs

  -- those behind the waiter with the ticket
  abbrev pub behind : Ticket → List (Waiter T W) → List (Waiter T W)
  behind t [] = []
  behind t (x ∷ xs) = if same_ticket x.ticket t then xs else behind t xs

  -- the list with this W for the waiter with the ticket
  abbrev pub with_w : Ticket → W → List (Waiter T W) → List (Waiter T W)
  with_w t w [] = []
  with_w t w (x ∷ xs) = if same_ticket x.ticket t then record x { w = w } ∷ xs else x ∷ with_w t w xs

  -- who waits under the ticket's number, if anybody does, waits at the ticket's place
  abbrev pub IsPlaced : Ticket → List (Waiter T W) → Type 0
  IsPlaced t [] = Unit {0}
  IsPlaced t (x ∷ xs) = (x.ticket.number ≡ t.number → x.ticket.place ≡ t.place) × IsPlaced t xs

  -- the ticket of the oldest waiter whose W passes, where `says w b` is that the test may answer b of w
  abbrev pub IsFirstWhere : (W → Bool → Type 0) → List (Waiter T W) → Option Ticket → Type 0
  IsFirstWhere says [] r = r ≡ None
  IsFirstWhere says (x ∷ xs) r = (says x.w true × (r ≡ Some x.ticket)) ⊎ (says x.w false × IsFirstWhere says xs r)

  -- the messages that waiters brought, in order
  abbrev pub brought : List (Waiter T W) → List T
  brought ws = filter_map (λ w. w.message) ws

  -- a waiter whose message was moved out
  abbrev pub emptied : Waiter T W → Waiter T W
  emptied w = record w { message = None }

  -- whether a receiver waits, where senders and receivers never wait together
  abbrev pub receiver_first : List (Waiter T W) → Bool
  receiver_first [] = false
  receiver_first (x ∷ xs) = if is_sending x.message then false else true

  -- whether a sender waits, where senders and receivers never wait together
  abbrev pub sender_first : List (Waiter T W) → Bool
  sender_first [] = false
  sender_first (x ∷ xs) = is_sending x.message
